use Rattle.std.proofs.Common.{◌≡◌, ◌+◌, ◌<◌, ℕ, Some, None, Ok, refl, sym, ◌∙◌, ap, arith, subst}
use Rattle.std.specs.Prelude.{is_some}
use Rattle.ordered_index.specs.Standing.{content_at}
use Rattle.record_store.specs.Goes.{WalksByCalls}
use Rattle.record_store.specs.Into.{value_if}
use Rattle.record_store.proofs.Refusals.{torn_moved, IfTorn-map}
use Rattle.record_store.proofs.Agreement.{OnlyReads-refl, extends-refl, size_same, OnlyReads-trans}
use Rattle.record_store.proofs.Known.{known-reads, known-behind, known-then-found}
use Rattle.ordered_index.specs.Keys.{first_key}
use Rattle.record_store.specs.States.{EachState}
use Rattle.ordered_index.specs.Walk.{IsTreeNode}
use Rattle.ordered_index.specs.Tree.{IsAt}
use Rattle.ordered_index.specs.Asks.{asks_at}
use Rattle.ordered_index.proofs.Asking.{asks_leaf, asks_reads, below_err, below_there, below_done, put_due, takes_err, takes_none, takes_more, due_behind, one_at}
use Rattle.ordered_index.proofs.Reaching.{each_reaches}
use Rattle.ordered_index.proofs.Parting.{length-with}
use Rattle.ordered_index.proofs.Entries.{entry_at-place}
use Rattle.ordered_index.proofs.Passed.{at_some}
use Rattle.ordered_index.proofs.Tearing.{tears_deep, tears_unfit, tears_absent, tears_below, rank_some, child_is, child_at, from_reads}
use Rattle.ordered_index.specs.declared.enter.Entering.{Entering}
use Rattle.ordered_index.specs.declared.enter.Entering.TheVariants.{There, Done, Takes}
use Rattle.ordered_index.proofs.ReadBelow.{Met, met, met_first, Entered, entered}
use Rattle.ordered_index.proofs.Entering.{IsChild, child_low, enter_there, enter_done, enter_takes}
use Rattle.ordered_index.proofs.Rows.{leaf_inner}
use Rattle.record_store.proofs.Going.{reads_moved, reads_none, reads_quiet, calls_reads, calls_moved, calls_quiet, calls_behind, calls_then}
use Rattle.ordered_index.proofs.enter.+enter.Goals as goal
use Rattle.ordered_index.proofs.enter.+enter.Goals.{After-enter, In_ok-enter}

-- the node that was read below the entry for the key
met_here : (g : _) (t : _) (c : After-enter g t) → Met c.args.size c.args.key (content_at c.args.here.now).entries c.args.rank c.entry-at.result c.read_node.new.here (g.S.RecordRead.meaning c.args.store.now) (g.S.RecordRead.meaning c.read_node.new.store)
met_here g t c =
    let kind = c.is_inner.ensures.inner c.if-not-is_inner.false in
    met c.args.size c.args.key (content_at c.args.here.now).entries c.args.rank c.entry-at.result c.read_node.new.here (g.S.RecordRead.meaning c.args.store.now) (g.S.RecordRead.meaning c.read_node.new.store) c.in_ok-read_node.field-0 c.requires.rank
    (rank_some c.args.size (content_at c.args.here.now) c.args.key c.args.rank c.requires.node.sound kind c.requires.low c.requires.rank) c.entry-at.ensures c.if-not-branch.false c.in_ok-read_node.ensures.node c.in_ok-read_node.ensures.read

met_at_first : (g : _) (t : _) (c : After-enter g t) → Met (g.S.RecordRead.meaning c.args.store.now).size c.args.key (content_at c.args.here.now).entries c.args.rank c.entry-at.result c.read_node.new.here (g.S.RecordRead.meaning c.args.store.now) (g.S.RecordRead.meaning c.read_node.new.store)
met_at_first g t c = met_first c.args.size c.args.key (content_at c.args.here.now).entries c.args.rank c.entry-at.result c.read_node.new.here (g.S.RecordRead.meaning c.args.store.now) (g.S.RecordRead.meaning c.read_node.new.store) c.requires.size (met_here g t c)

went_below : (g : _) (t : _) (c : After-enter g t) → WalksByCalls g.S.RecordRead.read_gives g.S.RecordStore.write_gives g.S.RecordStore.fresh_gives g.S.RecordRead.meaning g.S.RecordRead.rest
    (λ _. Unit {0}) c.enter.ensures.walk.asked c.args.store.now c.enter.new.store c.enter.result
went_below g t c = calls_behind (λ _. Unit {0}) c.enter.ensures.walk.asked c.args.store.now c.read_node.new.store c.enter.new.store c.read_node.result c.enter.result c.read_node.ensures.walk c.enter.ensures.walk.walk (λ asks later. tt)

entered_as : (g : _) (t : _) (c : In_ok-enter g t) (entering : Entering) → c.in_ok-enter.field-0 ≡ entering
    → Entered c.args.key c.args.rid (content_at c.read_node.new.here.words) c.rank_of-child_rank.result (g.S.RecordRead.meaning c.args.store.now) (g.S.RecordRead.meaning c.read_node.new.store) (g.S.RecordRead.meaning c.enter.new.store) entering
entered_as g t c entering is = entered c.args.key c.args.rid (content_at c.read_node.new.here.words) c.rank_of-child_rank.result (g.S.RecordRead.meaning c.args.store.now) (g.S.RecordRead.meaning c.read_node.new.store) (g.S.RecordRead.meaning c.enter.new.store) c.in_ok-enter.field-0 entering
    c.in_ok-read_node.ensures.walk.by.only is c.in_ok-enter.ensures.leaf c.in_ok-enter.ensures.inner

pub returns-in-Some-clause-leaf : goal.returns-in-Some-clause-leaf
returns-in-Some-clause-leaf g t c = λ kind.
    let place = rw c.in-Some.is at c.place.ensures.place in
    (ap is_some (entry_at-place (content_at c.args.here.now).entries c.in-Some.field-0 (first_key, 0) c.args.key c.requires.node.sound.rising place.within (place.here (first_key, 0))), refl)

pub returns-in-Some-clause-walk : goal.returns-in-Some-clause-walk
returns-in-Some-clause-walk g t c =
    record {
      asked = 0;
      walk = calls_reads _ c.args.store.now c.args.store.now _ (reads_none c.args.store.now _ (tt, tt));
      asks = asks_leaf c.args.key (content_at c.args.here.now).kind (content_at c.args.here.now).entries c.args.depth (g.S.RecordRead.meaning c.args.store.now) _ (c.is_inner.ensures.leaf c.if-not-is_inner.true) c.requires.depth;
    }

pub returns-in-None-clause-walk : goal.returns-in-None-clause-walk
returns-in-None-clause-walk g t c =
    record {
      asked = 0;
      walk = calls_reads _ c.args.store.now c.args.store.now _ (reads_none c.args.store.now _ (tt, tt));
      asks = asks_leaf c.args.key (content_at c.args.here.now).kind (content_at c.args.here.now).entries c.args.depth (g.S.RecordRead.meaning c.args.store.now) _ (c.is_inner.ensures.leaf c.if-not-is_inner.true) c.requires.depth;
    }

pub returns-then-depth-eq-MOST_DEPTH-clause-torn : goal.returns-then-depth-eq-MOST_DEPTH-clause-torn
returns-then-depth-eq-MOST_DEPTH-clause-torn g t c =
    let kind = c.is_inner.ensures.inner c.if-not-is_inner.false in
    let some = rank_some c.args.size (content_at c.args.here.now) c.args.key c.args.rank c.requires.node.sound kind c.requires.low c.requires.rank in
    (kind, rw c.entry-at.ensures (tears_deep c.args.size c.args.depth c.args.key (content_at c.args.here.now).entries c.args.rank (g.S.RecordRead.meaning c.args.store.now) c.requires.rank some c.if-depth-eq-MOST_DEPTH.true))

pub returns-then-depth-eq-MOST_DEPTH-clause-walk : goal.returns-then-depth-eq-MOST_DEPTH-clause-walk
returns-then-depth-eq-MOST_DEPTH-clause-walk g t c =
    record {
      asked = 0;
      walk = calls_reads _ c.args.store.now c.args.store.now _ (reads_none c.args.store.now _ (tt, tt));
      asks = asks_reads c.args.key (content_at c.args.here.now).kind (content_at c.args.here.now).entries c.args.depth (g.S.RecordRead.meaning c.args.store.now) (g.S.RecordRead.meaning c.args.store.now) _ refl c.requires.depth (OnlyReads-refl (g.S.RecordRead.meaning c.args.store.now));
    }

pub returns-in_err-read_node-clause-torn : goal.returns-in_err-read_node-clause-torn
returns-in_err-read_node-clause-torn g t c =
    let kind = c.is_inner.ensures.inner c.if-not-is_inner.false in
    let some = rank_some c.args.size (content_at c.args.here.now) c.args.key c.args.rank c.requires.node.sound kind c.requires.low c.requires.rank in
    torn_moved c.from_residual.result c.read_node.result c.in_err-read_node.field-0.0 _ c.in_err-read_node.was c.from_residual.ensures.1
    (IfTorn-map c.read_node.result
    (λ rid torn. (kind, tears_unfit c.args.size c.args.depth rid c.args.key (content_at c.args.here.now).entries c.args.rank (g.S.RecordRead.meaning c.args.store.now) (g.S.RecordRead.meaning c.read_node.new.store) c.requires.rank some (rw c.entry-at.ensures at torn.0) (rw c.entry-at.ensures at torn.1)))
    c.read_node.ensures.torn)

pub returns-in_err-read_node-clause-walk : goal.returns-in_err-read_node-clause-walk
returns-in_err-read_node-clause-walk g t c =
    record {
      asked = 0;
      walk = calls_reads _ c.args.store.now c.read_node.new.store c.from_residual.result (reads_moved c.args.store.now c.read_node.new.store c.from_residual.result c.read_node.result c.in_err-read_node.field-0.0 c.in_err-read_node.was c.from_residual.ensures.1 c.read_node.ensures.walk);
      asks = asks_reads c.args.key (content_at c.args.here.now).kind (content_at c.args.here.now).entries c.args.depth (g.S.RecordRead.meaning c.args.store.now) (g.S.RecordRead.meaning c.read_node.new.store) _ c.from_residual.ensures.0 c.requires.depth c.read_node.ensures.walk.by.only;
    }

pub returns-then-not-branch-clause-torn : goal.returns-then-not-branch-clause-torn
returns-then-not-branch-clause-torn g t c =
    let kind = c.is_inner.ensures.inner c.if-not-is_inner.false in
    let some = rank_some c.args.size (content_at c.args.here.now) c.args.key c.args.rank c.requires.node.sound kind c.requires.low c.requires.rank in
    (kind, rw c.entry-at.ensures (tears_absent c.args.size c.args.depth c.args.key (content_at c.args.here.now).entries c.args.rank (g.S.RecordRead.meaning c.args.store.now) (g.S.RecordRead.meaning c.read_node.new.store) (value_if c.in_ok-read_node.field-0 c.read_node.new.here) c.requires.rank some (ap (λ present. value_if present c.read_node.new.here) c.if-not-branch.true) (rw c.entry-at.ensures at c.in_ok-read_node.ensures.read)))

pub returns-then-not-branch-clause-walk : goal.returns-then-not-branch-clause-walk
returns-then-not-branch-clause-walk g t c =
    record {
      asked = 0;
      walk = calls_reads _ c.args.store.now c.read_node.new.store _ (reads_quiet c.args.store.now c.read_node.new.store _ c.read_node.result (tt, tt) c.read_node.ensures.walk);
      asks = asks_reads c.args.key (content_at c.args.here.now).kind (content_at c.args.here.now).entries c.args.depth (g.S.RecordRead.meaning c.args.store.now) (g.S.RecordRead.meaning c.read_node.new.store) _ refl c.requires.depth c.read_node.ensures.walk.by.only;
    }

pub enter-requires : goal.enter-requires
enter-requires g t c κs within =
    let kind = c.is_inner.ensures.inner c.if-not-is_inner.false in
    let some = rank_some c.args.size (content_at c.args.here.now) c.args.key c.args.rank c.requires.node.sound kind c.requires.low c.requires.rank in
    let read = rw c.entry-at.ensures at c.in_ok-read_node.ensures.node in
    let link = at_some (IsTreeNode c.args.size _ _) c.read_node.new.here (ap (λ present. value_if present c.read_node.new.here) c.if-not-branch.false) read in
    let low = child_low c.args.size c.args.key (content_at c.args.here.now).entries c.args.rank ((content_at c.read_node.new.here.words).low, c.read_node.new.here.at) (content_at c.read_node.new.here.words) (child_is c.args.size c.args.key (content_at c.args.here.now).entries c.args.rank c.read_node.new.here c.requires.rank some link) in
    let size = c.requires.size ∙ sym (size_same (g.S.RecordRead.meaning c.args.store.now) (g.S.RecordRead.meaning c.read_node.new.store) c.in_ok-read_node.ensures.walk.by.only) in
    (omega (arith, c.decreases, c.requires.depth, c.if-depth-eq-MOST_DEPTH.false), (within.0, (within.1, (size, (c.requires.at_most, (c.requires.rid, (link.node, (c.rank_of-child_rank.ensures.rank, (low, omega (arith, c.requires.depth, c.if-depth-eq-MOST_DEPTH.false))))))))))

pub returns-in_err-enter-clause-torn : goal.returns-in_err-enter-clause-torn
returns-in_err-enter-clause-torn g t c =
    let m = met_here g t (goal.at.returns-in_err-enter-clause-torn g t c).After-enter in
    let kind = c.is_inner.ensures.inner c.if-not-is_inner.false in
    torn_moved c.from_residual-in_err-enter.result c.enter.result c.in_err-enter.field-0.0 _ c.in_err-enter.was c.from_residual-in_err-enter.ensures.1
    (IfTorn-map c.enter.result
    (λ rid torn. (kind, tears_below c.args.size c.args.depth rid c.args.key (content_at c.args.here.now).entries c.args.rank ((content_at c.read_node.new.here.words).low, c.read_node.new.here.at) (content_at c.read_node.new.here.words) (g.S.RecordRead.meaning c.args.store.now) (g.S.RecordRead.meaning c.read_node.new.store) (g.S.RecordRead.meaning c.enter.new.store) c.in_ok-read_node.ensures.walk.by.only c.enter.ensures.walk.walk.by.grow m.is m.at torn.0 torn.1))
    c.enter.ensures.torn)

pub returns-in_err-enter-clause-walk : goal.returns-in_err-enter-clause-walk
returns-in_err-enter-clause-walk g t c =
    let m = met_at_first g t (goal.at.returns-in_err-enter-clause-walk g t c).After-enter in
    let kind = c.is_inner.ensures.inner c.if-not-is_inner.false in
    record {
      asked = c.enter.ensures.walk.asked;
      walk = calls_moved c.args.store.now c.enter.new.store c.from_residual-in_err-enter.result c.enter.result c.in_err-enter.field-0.0 c.in_err-enter.was c.from_residual-in_err-enter.ensures.1 (calls_behind _ c.enter.ensures.walk.asked c.args.store.now c.read_node.new.store c.enter.new.store c.read_node.result c.enter.result c.read_node.ensures.walk c.enter.ensures.walk.walk (λ asks later. (kind, due_behind (g.S.RecordRead.meaning c.args.store.now) (g.S.RecordRead.meaning c.read_node.new.store) (g.S.RecordRead.meaning c.enter.new.store) c.args.key (content_at c.args.here.now).entries c.args.rank ((content_at c.read_node.new.here.words).low, c.read_node.new.here.at) (content_at c.read_node.new.here.words) asks c.in_ok-read_node.ensures.walk.by.only c.enter.ensures.walk.walk.by.grow.reads m.is m.at later)));
      asks = below_err (g.S.RecordRead.meaning c.args.store.now) (g.S.RecordRead.meaning c.read_node.new.store) (g.S.RecordRead.meaning c.enter.new.store) (g.S.RecordRead.meaning c.enter.new.store) c.args.key (content_at c.args.here.now).entries c.args.rank ((content_at c.read_node.new.here.words).low, c.read_node.new.here.at) (content_at c.read_node.new.here.words) c.enter.ensures.walk.asked c.args.depth (content_at c.args.here.now).kind kind c.in_ok-read_node.ensures.walk.by.only c.enter.ensures.walk.walk.by.grow.reads (extends-refl (g.S.RecordRead.meaning c.enter.new.store).reads) m.is m.at c.enter.result c.enter.ensures.walk.asks c.from_residual-in_err-enter.result c.from_residual-in_err-enter.ensures.0 refl;
    }

pub returns-in_err-new-in-Takes-clause-walk : goal.returns-in_err-new-in-Takes-clause-walk
returns-in_err-new-in-Takes-clause-walk g t c =
    let a = (goal.at.returns-in_err-new-in-Takes-clause-walk g t c).After-enter in
    let m = met_at_first g t a in
    let e = entered_as g t (goal.at.returns-in_err-new-in-Takes-clause-walk g t c).In_ok-enter (Takes c.in-Takes.entry) c.in-Takes.is in
    let kind = c.is_inner.ensures.inner c.if-not-is_inner.false in
    record {
      asked = c.enter.ensures.walk.asked + asks_at (content_at c.read_node.new.here.words).entries;
      walk = calls_moved c.args.store.now c.put_entry.new.store c.from_residual-in_err-new-in-Takes.result c.put_entry.result c.in_err-new-in-Takes.field-0.0 c.in_err-new-in-Takes.was c.from_residual-in_err-new-in-Takes.ensures.1 (calls_then _ c.enter.ensures.walk.asked (asks_at (content_at c.read_node.new.here.words).entries) c.args.store.now c.enter.new.store c.put_entry.new.store c.enter.result c.put_entry.result (went_below g t a) c.put_entry.ensures.walk (λ asks one. (kind, put_due (g.S.RecordRead.meaning c.args.store.now) (g.S.RecordRead.meaning c.read_node.new.store) (g.S.RecordRead.meaning c.enter.new.store) (g.S.RecordRead.meaning c.put_entry.new.store) c.args.key (content_at c.args.here.now).entries c.args.rank ((content_at c.read_node.new.here.words).low, c.read_node.new.here.at) (content_at c.read_node.new.here.words) c.enter.ensures.walk.asked c.args.depth (content_at c.args.here.now).kind kind c.in_ok-read_node.ensures.walk.by.only c.enter.ensures.walk.walk.by.grow.reads c.put_entry.ensures.walk.by.grow.reads m.is m.at c.enter.result c.enter.ensures.walk.asks c.args.rid c.rank_of-child_rank.result c.in-Takes.entry (c.in_ok-enter.was ∙ ap (λ e. Ok e) c.in-Takes.is) (λ leaf. (e.leaf leaf).0.1) e.inner asks (one_at (content_at c.read_node.new.here.words).entries asks one))));
      asks = takes_err (g.S.RecordRead.meaning c.args.store.now) (g.S.RecordRead.meaning c.read_node.new.store) (g.S.RecordRead.meaning c.enter.new.store) (g.S.RecordRead.meaning c.put_entry.new.store) c.args.key (content_at c.args.here.now).entries c.args.rank ((content_at c.read_node.new.here.words).low, c.read_node.new.here.at) (content_at c.read_node.new.here.words) c.enter.ensures.walk.asked c.args.depth (content_at c.args.here.now).kind kind c.in_ok-read_node.ensures.walk.by.only c.enter.ensures.walk.walk.by.grow.reads c.put_entry.ensures.walk.by.grow.reads m.is m.at c.enter.result c.enter.ensures.walk.asks c.args.rid c.rank_of-child_rank.result c.in-Takes.entry (c.in_ok-enter.was ∙ ap (λ e. Ok e) c.in-Takes.is) (λ leaf. (e.leaf leaf).0.1) e.inner c.from_residual-in_err-new-in-Takes.result c.from_residual-in_err-new-in-Takes.ensures.0 c.put_entry.ensures.few;
    }

pub returns-in-There-clause-inner : goal.returns-in-There-clause-inner
returns-in-There-clause-inner g t c = λ kind.
    let m = met_at_first g t (goal.at.returns-in-There-clause-inner g t c).After-enter in
    let e = entered_as g t (goal.at.returns-in-There-clause-inner g t c).In_ok-enter There c.in-There.is in
    enter_there (g.S.RecordRead.meaning c.args.store.now) (g.S.RecordRead.meaning c.read_node.new.store) (g.S.RecordRead.meaning c.enter.new.store) c.args.key c.args.rid (content_at c.args.here.now).entries c.args.rank ((content_at c.read_node.new.here.words).low, c.read_node.new.here.at) (content_at c.read_node.new.here.words) c.rank_of-child_rank.result
    c.enter.ensures.walk.walk.by.grow.reads m.is m.at
    (λ leaf. (e.leaf leaf).0)
    e.inner

pub returns-in-There-clause-walk : goal.returns-in-There-clause-walk
returns-in-There-clause-walk g t c =
    let a = (goal.at.returns-in-There-clause-walk g t c).After-enter in
    let m = met_at_first g t a in
    let kind = c.is_inner.ensures.inner c.if-not-is_inner.false in
    record {
      asked = c.enter.ensures.walk.asked;
      walk = calls_quiet _ c.args.store.now c.enter.new.store _ c.enter.result (tt, tt) (went_below g t a);
      asks = below_there (g.S.RecordRead.meaning c.args.store.now) (g.S.RecordRead.meaning c.read_node.new.store) (g.S.RecordRead.meaning c.enter.new.store) (g.S.RecordRead.meaning c.enter.new.store) c.args.key (content_at c.args.here.now).entries c.args.rank ((content_at c.read_node.new.here.words).low, c.read_node.new.here.at) (content_at c.read_node.new.here.words) c.enter.ensures.walk.asked c.args.depth (content_at c.args.here.now).kind kind c.in_ok-read_node.ensures.walk.by.only c.enter.ensures.walk.walk.by.grow.reads (extends-refl (g.S.RecordRead.meaning c.enter.new.store).reads) m.is m.at c.enter.result c.enter.ensures.walk.asks (c.in_ok-enter.was ∙ ap (λ e. Ok e) c.in-There.is) refl;
    }

pub returns-in-Done-clause-inner : goal.returns-in-Done-clause-inner
returns-in-Done-clause-inner g t c = λ kind.
    let m = met_at_first g t (goal.at.returns-in-Done-clause-inner g t c).After-enter in
    let e = entered_as g t (goal.at.returns-in-Done-clause-inner g t c).In_ok-enter Done c.in-Done.is in
    enter_done (g.S.RecordRead.meaning c.args.store.now) (g.S.RecordRead.meaning c.read_node.new.store) (g.S.RecordRead.meaning c.enter.new.store) c.args.key c.args.rid (content_at c.args.here.now).entries c.args.rank ((content_at c.read_node.new.here.words).low, c.read_node.new.here.at) (content_at c.read_node.new.here.words) c.rank_of-child_rank.result
    c.enter.ensures.walk.walk.by.grow.reads m.is m.at
    (λ leaf. (e.leaf leaf).0)
    e.inner

pub returns-in-Done-clause-walk : goal.returns-in-Done-clause-walk
returns-in-Done-clause-walk g t c =
    let a = (goal.at.returns-in-Done-clause-walk g t c).After-enter in
    let m = met_at_first g t a in
    let kind = c.is_inner.ensures.inner c.if-not-is_inner.false in
    record {
      asked = c.enter.ensures.walk.asked;
      walk = calls_quiet _ c.args.store.now c.enter.new.store _ c.enter.result (tt, tt) (went_below g t a);
      asks = below_done (g.S.RecordRead.meaning c.args.store.now) (g.S.RecordRead.meaning c.read_node.new.store) (g.S.RecordRead.meaning c.enter.new.store) (g.S.RecordRead.meaning c.enter.new.store) c.args.key (content_at c.args.here.now).entries c.args.rank ((content_at c.read_node.new.here.words).low, c.read_node.new.here.at) (content_at c.read_node.new.here.words) c.enter.ensures.walk.asked c.args.depth (content_at c.args.here.now).kind kind c.in_ok-read_node.ensures.walk.by.only c.enter.ensures.walk.walk.by.grow.reads (extends-refl (g.S.RecordRead.meaning c.enter.new.store).reads) m.is m.at c.enter.result c.enter.ensures.walk.asks (c.in_ok-enter.was ∙ ap (λ e. Ok e) c.in-Done.is) (λ leaf. (let l = c.in_ok-enter.ensures.leaf leaf in (rw c.in-Done.is at l).0)) refl;
    }

pub returns-in-Some-2-clause-inner : goal.returns-in-Some-2-clause-inner
returns-in-Some-2-clause-inner g t c = λ kind.
    let a = (goal.at.returns-in-Some-2-clause-inner g t c).After-enter in
    let m = met_at_first g t a in
    let e = entered_as g t (goal.at.returns-in-Some-2-clause-inner g t c).In_ok-enter (Takes c.in-Takes.entry) c.in-Takes.is in
    let L : ℕ → Type 0 = λ n. c.args.rid < n in
    let N : ℕ → Type 0 = λ n. c.in-Takes.entry.1 < n in
    let within = rw c.in-Takes.is at c.in_ok-enter.ensures.within in
    let puts = rw c.in-Some-2.is at c.in_ok-new-in-Takes.ensures.ok in
    enter_takes (Some c.in-Some-2.new) (g.S.RecordRead.meaning c.args.store.now) (g.S.RecordRead.meaning c.read_node.new.store) (g.S.RecordRead.meaning c.enter.new.store) (g.S.RecordRead.meaning c.put_entry.new.store) c.args.key c.args.rid (content_at c.args.here.now).entries c.args.rank ((content_at c.read_node.new.here.words).low, c.read_node.new.here.at) (content_at c.read_node.new.here.words) c.rank_of-child_rank.result c.in-Takes.entry
    c.in_ok-read_node.ensures.walk.by.only c.enter.ensures.walk.walk.by.grow c.put_entry.ensures.walk.by.grow (subst L c.requires.size c.requires.rid) (subst N c.requires.size within) m.is c.rank_of-child_rank.ensures.rank
    (λ inner. rank_some c.args.size (content_at c.read_node.new.here.words) c.args.key c.rank_of-child_rank.result (met_here g t a).node.sound inner (child_low c.args.size c.args.key (content_at c.args.here.now).entries c.args.rank _ _ (met_here g t a).is) c.rank_of-child_rank.ensures.rank) m.at
    (λ leaf. (let l = e.leaf leaf in (l.0.0, l.0.1, l.1)))
    e.inner puts

pub returns-in-Some-2-clause-walk : goal.returns-in-Some-2-clause-walk
returns-in-Some-2-clause-walk g t c =
    let a = (goal.at.returns-in-Some-2-clause-walk g t c).After-enter in
    let m = met_at_first g t a in
    let e = entered_as g t (goal.at.returns-in-Some-2-clause-walk g t c).In_ok-enter (Takes c.in-Takes.entry) c.in-Takes.is in
    let kind = c.is_inner.ensures.inner c.if-not-is_inner.false in
    let puts = rw c.in-Some-2.is at c.in_ok-new-in-Takes.ensures.ok in
    let two = rw c.in-Some-2.is at c.in_ok-new-in-Takes.ensures.parted in
    record {
      asked = c.enter.ensures.walk.asked + asks_at (content_at c.read_node.new.here.words).entries;
      walk = calls_quiet _ c.args.store.now c.put_entry.new.store _ c.put_entry.result (tt, tt) (calls_then (λ _. Unit {0}) c.enter.ensures.walk.asked (asks_at (content_at c.read_node.new.here.words).entries) c.args.store.now c.enter.new.store c.put_entry.new.store c.enter.result c.put_entry.result (went_below g t a) c.put_entry.ensures.walk (λ asks later. tt));
      asks = takes_more (g.S.RecordRead.meaning c.args.store.now) (g.S.RecordRead.meaning c.read_node.new.store) (g.S.RecordRead.meaning c.enter.new.store) (g.S.RecordRead.meaning c.put_entry.new.store) c.args.key (content_at c.args.here.now).entries c.args.rank ((content_at c.read_node.new.here.words).low, c.read_node.new.here.at) (content_at c.read_node.new.here.words) c.enter.ensures.walk.asked c.args.depth (content_at c.args.here.now).kind kind c.in_ok-read_node.ensures.walk.by.only c.enter.ensures.walk.walk.by.grow.reads c.put_entry.ensures.walk.by.grow.reads m.is m.at c.enter.result c.enter.ensures.walk.asks c.args.rid c.rank_of-child_rank.result c.in-Takes.entry (c.in_ok-enter.was ∙ ap (λ e. Ok e) c.in-Takes.is) (λ leaf. (e.leaf leaf).0.1) e.inner c.in-Some-2.new (omega (arith, puts.0, length-with (content_at c.read_node.new.here.words).entries c.rank_of-child_rank.result c.in-Takes.entry)) c.put_entry.ensures.few two;
    }

pub returns-in-None-2-clause-inner : goal.returns-in-None-2-clause-inner
returns-in-None-2-clause-inner g t c = λ kind.
    let a = (goal.at.returns-in-None-2-clause-inner g t c).After-enter in
    let m = met_at_first g t a in
    let e = entered_as g t (goal.at.returns-in-None-2-clause-inner g t c).In_ok-enter (Takes c.in-Takes.entry) c.in-Takes.is in
    let L : ℕ → Type 0 = λ n. c.args.rid < n in
    let N : ℕ → Type 0 = λ n. c.in-Takes.entry.1 < n in
    let within = rw c.in-Takes.is at c.in_ok-enter.ensures.within in
    let puts = rw c.in-None-2.is at c.in_ok-new-in-Takes.ensures.ok in
    enter_takes None (g.S.RecordRead.meaning c.args.store.now) (g.S.RecordRead.meaning c.read_node.new.store) (g.S.RecordRead.meaning c.enter.new.store) (g.S.RecordRead.meaning c.put_entry.new.store) c.args.key c.args.rid (content_at c.args.here.now).entries c.args.rank ((content_at c.read_node.new.here.words).low, c.read_node.new.here.at) (content_at c.read_node.new.here.words) c.rank_of-child_rank.result c.in-Takes.entry
    c.in_ok-read_node.ensures.walk.by.only c.enter.ensures.walk.walk.by.grow c.put_entry.ensures.walk.by.grow (subst L c.requires.size c.requires.rid) (subst N c.requires.size within) m.is c.rank_of-child_rank.ensures.rank
    (λ inner. rank_some c.args.size (content_at c.read_node.new.here.words) c.args.key c.rank_of-child_rank.result (met_here g t a).node.sound inner (child_low c.args.size c.args.key (content_at c.args.here.now).entries c.args.rank _ _ (met_here g t a).is) c.rank_of-child_rank.ensures.rank) m.at
    (λ leaf. (let l = e.leaf leaf in (l.0.0, l.0.1, l.1)))
    e.inner puts

pub returns-in-None-2-clause-walk : goal.returns-in-None-2-clause-walk
returns-in-None-2-clause-walk g t c =
    let a = (goal.at.returns-in-None-2-clause-walk g t c).After-enter in
    let m = met_at_first g t a in
    let e = entered_as g t (goal.at.returns-in-None-2-clause-walk g t c).In_ok-enter (Takes c.in-Takes.entry) c.in-Takes.is in
    let kind = c.is_inner.ensures.inner c.if-not-is_inner.false in
    let puts = rw c.in-None-2.is at c.in_ok-new-in-Takes.ensures.ok in
    record {
      asked = c.enter.ensures.walk.asked + asks_at (content_at c.read_node.new.here.words).entries;
      walk = calls_quiet _ c.args.store.now c.put_entry.new.store _ c.put_entry.result (tt, tt) (calls_then (λ _. Unit {0}) c.enter.ensures.walk.asked (asks_at (content_at c.read_node.new.here.words).entries) c.args.store.now c.enter.new.store c.put_entry.new.store c.enter.result c.put_entry.result (went_below g t a) c.put_entry.ensures.walk (λ asks later. tt));
      asks = takes_none (g.S.RecordRead.meaning c.args.store.now) (g.S.RecordRead.meaning c.read_node.new.store) (g.S.RecordRead.meaning c.enter.new.store) (g.S.RecordRead.meaning c.put_entry.new.store) c.args.key (content_at c.args.here.now).entries c.args.rank ((content_at c.read_node.new.here.words).low, c.read_node.new.here.at) (content_at c.read_node.new.here.words) c.enter.ensures.walk.asked c.args.depth (content_at c.args.here.now).kind kind c.in_ok-read_node.ensures.walk.by.only c.enter.ensures.walk.walk.by.grow.reads c.put_entry.ensures.walk.by.grow.reads m.is m.at c.enter.result c.enter.ensures.walk.asks c.args.rid c.rank_of-child_rank.result c.in-Takes.entry (c.in_ok-enter.was ∙ ap (λ e. Ok e) c.in-Takes.is) (λ leaf. (e.leaf leaf).0.1) e.inner (λ nine. omega (arith, nine, puts.0, length-with (content_at c.read_node.new.here.words).entries c.rank_of-child_rank.result c.in-Takes.entry)) c.put_entry.ensures.few;
    }

pub returns-in-There-clause-walked : goal.returns-in-There-clause-walked
returns-in-There-clause-walked g t c =
    λ here.
    let m = met_here g t (goal.at.returns-in-There-clause-walked g t c).After-enter in
    let kind = c.is_inner.ensures.inner c.if-not-is_inner.false in
    each_reaches c.args.size c.args.depth c.args.key (content_at c.args.here.now).entries c.args.rank ((content_at c.read_node.new.here.words).low, c.read_node.new.here.at) (content_at c.read_node.new.here.words) (g.S.RecordRead.meaning c.args.store.now) (g.S.RecordRead.meaning c.read_node.new.store) (g.S.RecordRead.meaning c.enter.new.store) (g.S.RecordRead.meaning c.enter.new.store) c.in_ok-read_node.ensures.walk.by.only c.enter.ensures.walk.walk.by.grow.reads (extends-refl (g.S.RecordRead.meaning c.enter.new.store).reads) m.is m.at (omega (arith, c.requires.depth, c.if-depth-eq-MOST_DEPTH.false)) c.in_ok-enter.ensures.walked

pub returns-in-Done-clause-walked : goal.returns-in-Done-clause-walked
returns-in-Done-clause-walked g t c =
    λ here.
    let m = met_here g t (goal.at.returns-in-Done-clause-walked g t c).After-enter in
    let kind = c.is_inner.ensures.inner c.if-not-is_inner.false in
    each_reaches c.args.size c.args.depth c.args.key (content_at c.args.here.now).entries c.args.rank ((content_at c.read_node.new.here.words).low, c.read_node.new.here.at) (content_at c.read_node.new.here.words) (g.S.RecordRead.meaning c.args.store.now) (g.S.RecordRead.meaning c.read_node.new.store) (g.S.RecordRead.meaning c.enter.new.store) (g.S.RecordRead.meaning c.enter.new.store) c.in_ok-read_node.ensures.walk.by.only c.enter.ensures.walk.walk.by.grow.reads (extends-refl (g.S.RecordRead.meaning c.enter.new.store).reads) m.is m.at (omega (arith, c.requires.depth, c.if-depth-eq-MOST_DEPTH.false)) c.in_ok-enter.ensures.walked

pub returns-in-Some-2-clause-walked : goal.returns-in-Some-2-clause-walked
returns-in-Some-2-clause-walked g t c =
    λ here.
    let m = met_here g t (goal.at.returns-in-Some-2-clause-walked g t c).After-enter in
    let kind = c.is_inner.ensures.inner c.if-not-is_inner.false in
    each_reaches c.args.size c.args.depth c.args.key (content_at c.args.here.now).entries c.args.rank ((content_at c.read_node.new.here.words).low, c.read_node.new.here.at) (content_at c.read_node.new.here.words) (g.S.RecordRead.meaning c.args.store.now) (g.S.RecordRead.meaning c.read_node.new.store) (g.S.RecordRead.meaning c.enter.new.store) (g.S.RecordRead.meaning c.put_entry.new.store) c.in_ok-read_node.ensures.walk.by.only c.enter.ensures.walk.walk.by.grow.reads c.put_entry.ensures.walk.by.grow.reads m.is m.at (omega (arith, c.requires.depth, c.if-depth-eq-MOST_DEPTH.false)) c.in_ok-enter.ensures.walked

pub returns-in-None-2-clause-walked : goal.returns-in-None-2-clause-walked
returns-in-None-2-clause-walked g t c =
    λ here.
    let m = met_here g t (goal.at.returns-in-None-2-clause-walked g t c).After-enter in
    let kind = c.is_inner.ensures.inner c.if-not-is_inner.false in
    each_reaches c.args.size c.args.depth c.args.key (content_at c.args.here.now).entries c.args.rank ((content_at c.read_node.new.here.words).low, c.read_node.new.here.at) (content_at c.read_node.new.here.words) (g.S.RecordRead.meaning c.args.store.now) (g.S.RecordRead.meaning c.read_node.new.store) (g.S.RecordRead.meaning c.enter.new.store) (g.S.RecordRead.meaning c.put_entry.new.store) c.in_ok-read_node.ensures.walk.by.only c.enter.ensures.walk.walk.by.grow.reads c.put_entry.ensures.walk.by.grow.reads m.is m.at (omega (arith, c.requires.depth, c.if-depth-eq-MOST_DEPTH.false)) c.in_ok-enter.ensures.walked

-- what is written
pub returns-in-Some-clause-writes : goal.returns-in-Some-clause-writes
returns-in-Some-clause-writes g t c =
    known-reads (g.S.RecordRead.meaning c.args.store.now) (g.S.RecordRead.meaning c.args.store.now) (OnlyReads-refl (g.S.RecordRead.meaning c.args.store.now))

pub returns-in-None-clause-writes : goal.returns-in-None-clause-writes
returns-in-None-clause-writes g t c =
    known-reads (g.S.RecordRead.meaning c.args.store.now) (g.S.RecordRead.meaning c.args.store.now) (OnlyReads-refl (g.S.RecordRead.meaning c.args.store.now))

pub returns-then-depth-eq-MOST_DEPTH-clause-writes : goal.returns-then-depth-eq-MOST_DEPTH-clause-writes
returns-then-depth-eq-MOST_DEPTH-clause-writes g t c =
    known-reads (g.S.RecordRead.meaning c.args.store.now) (g.S.RecordRead.meaning c.args.store.now) (OnlyReads-refl (g.S.RecordRead.meaning c.args.store.now))

pub returns-in_err-read_node-clause-writes : goal.returns-in_err-read_node-clause-writes
returns-in_err-read_node-clause-writes g t c =
    known-reads (g.S.RecordRead.meaning c.args.store.now) (g.S.RecordRead.meaning c.read_node.new.store) c.read_node.ensures.walk.by.only

pub returns-then-not-branch-clause-writes : goal.returns-then-not-branch-clause-writes
returns-then-not-branch-clause-writes g t c =
    known-reads (g.S.RecordRead.meaning c.args.store.now) (g.S.RecordRead.meaning c.read_node.new.store) c.read_node.ensures.walk.by.only

pub returns-in_err-enter-clause-writes : goal.returns-in_err-enter-clause-writes
returns-in_err-enter-clause-writes g t c =
    known-behind (g.S.RecordRead.meaning c.args.store.now) (g.S.RecordRead.meaning c.read_node.new.store) (g.S.RecordRead.meaning c.enter.new.store) c.in_ok-read_node.ensures.walk.by.only c.enter.ensures.writes

pub returns-in-There-clause-writes : goal.returns-in-There-clause-writes
returns-in-There-clause-writes g t c =
    known-behind (g.S.RecordRead.meaning c.args.store.now) (g.S.RecordRead.meaning c.read_node.new.store) (g.S.RecordRead.meaning c.enter.new.store) c.in_ok-read_node.ensures.walk.by.only c.enter.ensures.writes

pub returns-in-Done-clause-writes : goal.returns-in-Done-clause-writes
returns-in-Done-clause-writes g t c =
    known-behind (g.S.RecordRead.meaning c.args.store.now) (g.S.RecordRead.meaning c.read_node.new.store) (g.S.RecordRead.meaning c.enter.new.store) c.in_ok-read_node.ensures.walk.by.only c.enter.ensures.writes

pub returns-in_err-new-in-Takes-clause-writes : goal.returns-in_err-new-in-Takes-clause-writes
returns-in_err-new-in-Takes-clause-writes g t c =
    let m = met_here g t (goal.at.returns-in_err-new-in-Takes-clause-writes g t c).After-enter in
    known-then-found (asks_at (content_at c.read_node.new.here.words).entries) (g.S.RecordRead.meaning c.args.store.now) (g.S.RecordRead.meaning c.read_node.new.store) (g.S.RecordRead.meaning c.enter.new.store) (g.S.RecordRead.meaning c.put_entry.new.store) c.read_node.new.here.at (known-behind (g.S.RecordRead.meaning c.args.store.now) (g.S.RecordRead.meaning c.read_node.new.store) (g.S.RecordRead.meaning c.enter.new.store) c.in_ok-read_node.ensures.walk.by.only c.enter.ensures.writes) c.enter.ensures.walk.walk.by.grow.reads c.put_entry.ensures.walk.by.grow.reads c.put_entry.ensures.walk.by.given c.put_entry.ensures.writes (λ state agrees. (let is = m.at state agrees in (is.words, is.here)))

pub returns-in-Some-2-clause-writes : goal.returns-in-Some-2-clause-writes
returns-in-Some-2-clause-writes g t c =
    let m = met_here g t (goal.at.returns-in-Some-2-clause-writes g t c).After-enter in
    known-then-found (asks_at (content_at c.read_node.new.here.words).entries) (g.S.RecordRead.meaning c.args.store.now) (g.S.RecordRead.meaning c.read_node.new.store) (g.S.RecordRead.meaning c.enter.new.store) (g.S.RecordRead.meaning c.put_entry.new.store) c.read_node.new.here.at (known-behind (g.S.RecordRead.meaning c.args.store.now) (g.S.RecordRead.meaning c.read_node.new.store) (g.S.RecordRead.meaning c.enter.new.store) c.in_ok-read_node.ensures.walk.by.only c.enter.ensures.writes) c.enter.ensures.walk.walk.by.grow.reads c.put_entry.ensures.walk.by.grow.reads c.put_entry.ensures.walk.by.given c.put_entry.ensures.writes (λ state agrees. (let is = m.at state agrees in (is.words, is.here)))

pub returns-in-None-2-clause-writes : goal.returns-in-None-2-clause-writes
returns-in-None-2-clause-writes g t c =
    let m = met_here g t (goal.at.returns-in-None-2-clause-writes g t c).After-enter in
    known-then-found (asks_at (content_at c.read_node.new.here.words).entries) (g.S.RecordRead.meaning c.args.store.now) (g.S.RecordRead.meaning c.read_node.new.store) (g.S.RecordRead.meaning c.enter.new.store) (g.S.RecordRead.meaning c.put_entry.new.store) c.read_node.new.here.at (known-behind (g.S.RecordRead.meaning c.args.store.now) (g.S.RecordRead.meaning c.read_node.new.store) (g.S.RecordRead.meaning c.enter.new.store) c.in_ok-read_node.ensures.walk.by.only c.enter.ensures.writes) c.enter.ensures.walk.walk.by.grow.reads c.put_entry.ensures.walk.by.grow.reads c.put_entry.ensures.walk.by.given c.put_entry.ensures.writes (λ state agrees. (let is = m.at state agrees in (is.words, is.here)))

pub returns-in-There-clause-there : goal.returns-in-There-clause-there
returns-in-There-clause-there g t c = OnlyReads-trans _ _ _ c.in_ok-read_node.ensures.walk.by.only (rw c.in-There.is at c.in_ok-enter.ensures.there)

pub returns-in-Some-clause-there : goal.returns-in-Some-clause-there
returns-in-Some-clause-there g t c = OnlyReads-refl (g.S.RecordRead.meaning c.args.store.now)

-- no node is both a leaf and an inner one
pub returns-in-Some-clause-inner : goal.returns-in-Some-clause-inner
returns-in-Some-clause-inner g t c = λ inner. absurd (leaf_inner (content_at c.args.here.now).kind (c.is_inner.ensures.leaf c.if-not-is_inner.true) inner)

pub returns-in-None-clause-inner : goal.returns-in-None-clause-inner
returns-in-None-clause-inner g t c = λ inner. absurd (leaf_inner (content_at c.args.here.now).kind (c.is_inner.ensures.leaf c.if-not-is_inner.true) inner)

pub returns-in-Some-clause-walked : goal.returns-in-Some-clause-walked
returns-in-Some-clause-walked g t c = λ inner. absurd (leaf_inner (content_at c.args.here.now).kind (c.is_inner.ensures.leaf c.if-not-is_inner.true) inner)

pub returns-in-None-clause-walked : goal.returns-in-None-clause-walked
returns-in-None-clause-walked g t c = λ inner. absurd (leaf_inner (content_at c.args.here.now).kind (c.is_inner.ensures.leaf c.if-not-is_inner.true) inner)

pub returns-in-There-clause-leaf : goal.returns-in-There-clause-leaf
returns-in-There-clause-leaf g t c = λ leaf. absurd (leaf_inner (content_at c.args.here.now).kind leaf (c.is_inner.ensures.inner c.if-not-is_inner.false))

pub returns-in-Done-clause-leaf : goal.returns-in-Done-clause-leaf
returns-in-Done-clause-leaf g t c = λ leaf. absurd (leaf_inner (content_at c.args.here.now).kind leaf (c.is_inner.ensures.inner c.if-not-is_inner.false))

pub returns-in-Some-2-clause-leaf : goal.returns-in-Some-2-clause-leaf
returns-in-Some-2-clause-leaf g t c = λ leaf. absurd (leaf_inner (content_at c.args.here.now).kind leaf (c.is_inner.ensures.inner c.if-not-is_inner.false))

pub returns-in-None-2-clause-leaf : goal.returns-in-None-2-clause-leaf
returns-in-None-2-clause-leaf g t c = λ leaf. absurd (leaf_inner (content_at c.args.here.now).kind leaf (c.is_inner.ensures.inner c.if-not-is_inner.false))
