use Rattle.std.proofs.Common.{◌≡◌, ◌+◌, ◌<◌, ◌≤◌, ℕ, Some, Ok, Err, refl, ◌∙◌, ap, arith, subst}
use Rattle.record_store.specs.Goes.{WalksByCalls}
use Rattle.record_store.specs.Into.{value_if}
use Rattle.record_store.proofs.Refusals.{torn_moved, IfTorn-map}
use Rattle.record_store.proofs.Known.{tries, known-reads, known-behind, known-fixed, known-then-fixed}
use Rattle.ordered_index.proofs.Asks.{asks_first_err, asks_first, top_err, top_there, top_done, top_may, root_err, root_ok, top_behind, few_of}
use Rattle.ordered_index.proofs.Reaching.{each_ends_well, empty_ends}
use Rattle.plain_data.specs.State.{overlay}
use Rattle.ordered_index.proofs.Trees.{is_torn}
use Rattle.std.proofs.Common.{[], ◌∷◌}
use Rattle.record_store.specs.Meaning.{after_write}
use Rattle.record_store.proofs.Agreement.{OnlyReads-trans, extends-refl, written_as}
use Rattle.ordered_index.specs.Keys.{first_key}
use Rattle.ordered_index.specs.Node.{IsSound, tree_node_words}
use Rattle.ordered_index.specs.Standing.{content_at}
use Rattle.ordered_index.specs.Tree.{IsAt}
use Rattle.record_store.specs.States.{EachState}
use Rattle.ordered_index.specs.Walk.{IsTreeNode}
use Rattle.ordered_index.proofs.Order.{first_not_after}
use Rattle.ordered_index.proofs.Passed.{at_some}
use Rattle.ordered_index.proofs.Tearing.{rank_some, child_at, from_reads, top_torn}
use Rattle.ordered_index.specs.declared.enter.Entering.{Entering}
use Rattle.ordered_index.specs.declared.enter.Entering.TheVariants.{There, Done, Takes}
use Rattle.ordered_index.proofs.ReadBelow.{Met, met, met_first, Entered, entered}
use Rattle.ordered_index.proofs.Entering.{enter_there, enter_done}
use Rattle.ordered_index.proofs.Inserted.{inserts_first, inserts_nothing, inserts_done, inserts_takes, present_by, root_child, root_rank}
use Rattle.ordered_index.proofs.Paths.{root_tears}
use Rattle.record_store.proofs.Going.{reads_moved, calls_reads, calls_moved, calls_quiet, calls_behind, calls_then}
use Rattle.ordered_index.proofs.index.insert.Goals as goal
use Rattle.ordered_index.proofs.index.insert.Goals.{After-enter, In_ok-enter}

-- the root that was read, as the child of an entry above it
met_here : (g : _) (c : After-enter g) → Met c.size-size.result c.args.key ((first_key, c.args.root) ∷ []) 1 (first_key, c.args.root) c.read_node.new.here (g.S.RecordRead.meaning c.args.store.now) (g.S.RecordRead.meaning c.read_node.new.store)
met_here g c =
    met c.size-size.result c.args.key ((first_key, c.args.root) ∷ []) 1 (first_key, c.args.root) c.read_node.new.here (g.S.RecordRead.meaning c.args.store.now) (g.S.RecordRead.meaning c.read_node.new.store) c.in_ok-read_node.field-0
    (root_rank c.args.root c.args.key) (omega arith) refl c.if-not-branch.false c.in_ok-read_node.ensures.node c.in_ok-read_node.ensures.read

met_at_first : (g : _) (c : After-enter g) → Met (g.S.RecordRead.meaning c.args.store.now).size c.args.key ((first_key, c.args.root) ∷ []) 1 (first_key, c.args.root) c.read_node.new.here (g.S.RecordRead.meaning c.args.store.now) (g.S.RecordRead.meaning c.read_node.new.store)
met_at_first g c = met_first c.size-size.result c.args.key ((first_key, c.args.root) ∷ []) 1 (first_key, c.args.root) c.read_node.new.here (g.S.RecordRead.meaning c.args.store.now) (g.S.RecordRead.meaning c.read_node.new.store) c.size-size.ensures.size (met_here g c)

root_here : (g : _) (c : After-enter g) → EachState (g.S.RecordRead.meaning c.args.store.now) (g.S.RecordRead.meaning c.read_node.new.store) (λ state. IsAt c.size-size.result state (c.args.root, content_at c.read_node.new.here.words))
root_here g c =
    let m = met_here g c in
    let A : ℕ → Type 0 = λ r. EachState (g.S.RecordRead.meaning c.args.store.now) (g.S.RecordRead.meaning c.read_node.new.store) (λ state. IsAt c.size-size.result state (r, content_at c.read_node.new.here.words)) in subst A m.rid m.at

root_at_first : (g : _) (c : After-enter g) → EachState (g.S.RecordRead.meaning c.args.store.now) (g.S.RecordRead.meaning c.read_node.new.store) (λ state. IsAt (g.S.RecordRead.meaning c.args.store.now).size state (c.args.root, content_at c.read_node.new.here.words))
root_at_first g c =
    let m = met_at_first g c in
    let A : ℕ → Type 0 = λ r. EachState (g.S.RecordRead.meaning c.args.store.now) (g.S.RecordRead.meaning c.read_node.new.store) (λ state. IsAt (g.S.RecordRead.meaning c.args.store.now).size state (r, content_at c.read_node.new.here.words)) in subst A m.rid m.at

went_below : (g : _) (c : After-enter g) → WalksByCalls g.S.RecordRead.read_gives g.S.RecordStore.write_gives g.S.RecordStore.fresh_gives g.S.RecordRead.meaning g.S.RecordRead.rest
    (λ _. Unit {0}) c.enter.ensures.walk.asked c.args.store.now c.enter.new.store c.enter.result
went_below g c = calls_behind (λ _. Unit {0}) c.enter.ensures.walk.asked c.args.store.now c.read_node.new.store c.enter.new.store c.read_node.result c.enter.result c.read_node.ensures.walk c.enter.ensures.walk.walk (λ asks later. tt)

entered_as : (g : _) (c : In_ok-enter g) (entering : Entering) → c.in_ok-enter.field-0 ≡ entering
    → Entered c.args.key c.args.rid (content_at c.read_node.new.here.words) c.rank_of-rank.result (g.S.RecordRead.meaning c.args.store.now) (g.S.RecordRead.meaning c.read_node.new.store) (g.S.RecordRead.meaning c.enter.new.store) entering
entered_as g c entering is = entered c.args.key c.args.rid (content_at c.read_node.new.here.words) c.rank_of-rank.result (g.S.RecordRead.meaning c.args.store.now) (g.S.RecordRead.meaning c.read_node.new.store) (g.S.RecordRead.meaning c.enter.new.store) c.in_ok-enter.field-0 entering
    c.in_ok-read_node.ensures.walk.by.only is c.in_ok-enter.ensures.leaf c.in_ok-enter.ensures.inner

pub returns-in_err-read_node-clause-torn : goal.returns-in_err-read_node-clause-torn
returns-in_err-read_node-clause-torn g c =
    torn_moved c.from_residual.result c.read_node.result c.in_err-read_node.field-0.0 _ c.in_err-read_node.was c.from_residual.ensures.1
    (IfTorn-map c.read_node.result (λ rid torn. is_torn c.args.root c.size-size.result rid c.args.key (g.S.RecordRead.meaning c.args.store.now) (g.S.RecordRead.meaning c.read_node.new.store) c.size-size.ensures.size (λ state agrees. rw torn.0 (root_tears c.size-size.result c.args.root c.args.key (overlay (g.S.RecordRead.meaning c.args.store.now).writes state) (torn.1 state agrees)))) c.read_node.ensures.torn)

pub returns-in_err-read_node-clause-walk : goal.returns-in_err-read_node-clause-walk
returns-in_err-read_node-clause-walk g c =
    record {
      asked = 0;
      walk = calls_reads _ c.args.store.now c.read_node.new.store c.from_residual.result (reads_moved c.args.store.now c.read_node.new.store c.from_residual.result c.read_node.result c.in_err-read_node.field-0.0 c.in_err-read_node.was c.from_residual.ensures.1 c.read_node.ensures.walk);
      asks = asks_first_err c.args.root c.args.key (g.S.RecordRead.meaning c.args.store.now) (g.S.RecordRead.meaning c.read_node.new.store) (g.S.RecordRead.meaning c.read_node.new.store) c.from_residual.result c.from_residual.ensures.0 c.read_node.ensures.walk.by.only refl;
    }

pub returns-in_err-write_node-clause-walk : goal.returns-in_err-write_node-clause-walk
returns-in_err-write_node-clause-walk g c =
    record {
      asked = 0;
      walk = calls_moved c.args.store.now c.write_node.new.store c.from_residual-in_err-write_node.result c.write_node.result c.in_err-write_node.field-0.0 c.in_err-write_node.was c.from_residual-in_err-write_node.ensures.1 (calls_behind _ 0 c.args.store.now c.read_node.new.store c.write_node.new.store c.read_node.result c.write_node.result c.read_node.ensures.walk c.write_node.ensures.walk (λ asks never. absurd never));
      asks = asks_first_err c.args.root c.args.key (g.S.RecordRead.meaning c.args.store.now) (g.S.RecordRead.meaning c.read_node.new.store) (g.S.RecordRead.meaning c.write_node.new.store) c.from_residual-in_err-write_node.result c.from_residual-in_err-write_node.ensures.0 c.read_node.ensures.walk.by.only c.in_err-write_node.ensures.err;
    }

pub returns-then-not-branch-clause-ok : goal.returns-then-not-branch-clause-ok
returns-then-not-branch-clause-ok g c =
    inserts_first c.size-size.result c.args.root c.args.key c.args.rid (g.S.RecordRead.meaning c.args.store.now) (g.S.RecordRead.meaning c.read_node.new.store) (g.S.RecordRead.meaning c.write_node.new.store) c.size-size.ensures.size c.requires.rid c.in_ok-read_node.ensures.walk.by.only (λ state agrees. rw (ap (λ present. value_if present c.read_node.new.here) c.if-not-branch.true) at (c.in_ok-read_node.ensures.read state agrees))
    ((written_as (g.S.RecordRead.meaning c.read_node.new.store) c.args.root c.cells.ensures c.in_ok-write_node.ensures.ok) ∙ ap (λ n. after_write (g.S.RecordRead.meaning c.read_node.new.store) c.args.root (Some (tree_node_words n))) c.leaf.ensures)

pub returns-then-not-branch-clause-walk : goal.returns-then-not-branch-clause-walk
returns-then-not-branch-clause-walk g c =
    record {
      asked = 0;
      walk = calls_quiet _ c.args.store.now c.write_node.new.store _ c.write_node.result (tt, tt) (calls_behind (λ _. ⊥) 0 c.args.store.now c.read_node.new.store c.write_node.new.store c.read_node.result c.write_node.result c.read_node.ensures.walk c.write_node.ensures.walk (λ asks never. never));
      asks = asks_first c.size-size.result c.args.root c.args.key (g.S.RecordRead.meaning c.args.store.now) (g.S.RecordRead.meaning c.read_node.new.store) (g.S.RecordRead.meaning c.write_node.new.store) c.args.root _ c.size-size.ensures.size c.in_ok-read_node.ensures.walk.by.only (λ state agrees. rw (ap (λ present. value_if present c.read_node.new.here) c.if-not-branch.true) at (c.in_ok-read_node.ensures.read state agrees)) (written_as (g.S.RecordRead.meaning c.read_node.new.store) c.args.root c.cells.ensures c.in_ok-write_node.ensures.ok);
    }

pub enter-requires-clause-node : goal.enter-requires-clause-node
enter-requires-clause-node g c =
    let link = at_some (IsTreeNode c.size-size.result c.args.root first_key) c.read_node.new.here (ap (λ present. value_if present c.read_node.new.here) c.if-not-branch.false) c.in_ok-read_node.ensures.node in
    link.node

pub enter-requires-clause-low : goal.enter-requires-clause-low
enter-requires-clause-low g c =
    let link = at_some (IsTreeNode c.size-size.result c.args.root first_key) c.read_node.new.here (ap (λ present. value_if present c.read_node.new.here) c.if-not-branch.false) c.in_ok-read_node.ensures.node in
    rw link.low (first_not_after c.args.key)

pub returns-in_err-enter-clause-torn : goal.returns-in_err-enter-clause-torn
returns-in_err-enter-clause-torn g c =
    let a = (goal.at.returns-in_err-enter-clause-torn g c).After-enter in
    let m = met_here g a in
    let at = root_here g a in
    torn_moved c.from_residual-in_err-enter.result c.enter.result c.in_err-enter.field-0.0 _ c.in_err-enter.was c.from_residual-in_err-enter.ensures.1
    (IfTorn-map c.enter.result
    (λ rid torn. is_torn c.args.root c.size-size.result rid c.args.key (g.S.RecordRead.meaning c.args.store.now) (g.S.RecordRead.meaning c.enter.new.store) c.size-size.ensures.size (top_torn c.size-size.result c.args.root rid c.args.key (content_at c.read_node.new.here.words) (g.S.RecordRead.meaning c.args.store.now) (g.S.RecordRead.meaning c.read_node.new.store) (g.S.RecordRead.meaning c.enter.new.store) c.in_ok-read_node.ensures.walk.by.only c.enter.ensures.walk.walk.by.grow m.low at torn.0 torn.1))
    c.enter.ensures.torn)

pub returns-in_err-enter-clause-walk : goal.returns-in_err-enter-clause-walk
returns-in_err-enter-clause-walk g c =
    let a = (goal.at.returns-in_err-enter-clause-walk g c).After-enter in
    let m = met_at_first g a in
    let at = root_at_first g a in
    record {
      asked = c.enter.ensures.walk.asked;
      walk = calls_moved c.args.store.now c.enter.new.store c.from_residual-in_err-enter.result c.enter.result c.in_err-enter.field-0.0 c.in_err-enter.was c.from_residual-in_err-enter.ensures.1 (calls_behind _ c.enter.ensures.walk.asked c.args.store.now c.read_node.new.store c.enter.new.store c.read_node.result c.enter.result c.read_node.ensures.walk c.enter.ensures.walk.walk (λ asks later. top_behind c.args.root c.args.key (content_at c.read_node.new.here.words) (g.S.RecordRead.meaning c.args.store.now) (g.S.RecordRead.meaning c.read_node.new.store) (g.S.RecordRead.meaning c.enter.new.store) asks c.in_ok-read_node.ensures.walk.by.only c.enter.ensures.walk.walk.by.grow.reads m.low at later));
      asks = top_err c.args.root c.args.key (content_at c.read_node.new.here.words) (g.S.RecordRead.meaning c.args.store.now) (g.S.RecordRead.meaning c.read_node.new.store) (g.S.RecordRead.meaning c.enter.new.store) (g.S.RecordRead.meaning c.enter.new.store) c.enter.ensures.walk.asked c.in_ok-read_node.ensures.walk.by.only c.enter.ensures.walk.walk.by.grow.reads (extends-refl (g.S.RecordRead.meaning c.enter.new.store).reads) m.low at c.enter.result c.enter.ensures.walk.asks c.from_residual-in_err-enter.result (Err c.in_err-enter.field-0.0) c.from_residual-in_err-enter.ensures.0 refl refl;
    }

pub returns-in-There-clause-ok : goal.returns-in-There-clause-ok
returns-in-There-clause-ok g c =
    let a = (goal.at.returns-in-There-clause-ok g c).After-enter in
    let m = met_at_first g a in
    let at = root_at_first g a in
    let e = entered_as g (goal.at.returns-in-There-clause-ok g c).In_ok-enter There c.in-There.is in
    let child = root_child (g.S.RecordRead.meaning c.args.store.now).size c.args.root c.args.key (content_at c.read_node.new.here.words) m.low in
    inserts_nothing c.args.root c.args.key c.args.rid (g.S.RecordRead.meaning c.args.store.now) (g.S.RecordRead.meaning c.enter.new.store) (present_by (g.S.RecordRead.meaning c.args.store.now).size c.args.root (content_at c.read_node.new.here.words) (g.S.RecordRead.meaning c.args.store.now) (g.S.RecordRead.meaning c.read_node.new.store) (g.S.RecordRead.meaning c.enter.new.store) c.enter.ensures.walk.walk.by.grow.reads at) (OnlyReads-trans (g.S.RecordRead.meaning c.args.store.now) (g.S.RecordRead.meaning c.read_node.new.store) (g.S.RecordRead.meaning c.enter.new.store) c.in_ok-read_node.ensures.walk.by.only (rw c.in-There.is at c.in_ok-enter.ensures.there))
    (enter_there (g.S.RecordRead.meaning c.args.store.now) (g.S.RecordRead.meaning c.read_node.new.store) (g.S.RecordRead.meaning c.enter.new.store) c.args.key c.args.rid ((first_key, c.args.root) ∷ []) 1 (first_key, c.args.root) (content_at c.read_node.new.here.words) c.rank_of-rank.result c.enter.ensures.walk.walk.by.grow.reads child at
    (λ leaf. (e.leaf leaf).0)
    e.inner)

pub returns-in-There-clause-walk : goal.returns-in-There-clause-walk
returns-in-There-clause-walk g c =
    let a = (goal.at.returns-in-There-clause-walk g c).After-enter in
    let m = met_at_first g a in
    let at = root_at_first g a in
    record {
      asked = c.enter.ensures.walk.asked;
      walk = calls_quiet _ c.args.store.now c.enter.new.store _ c.enter.result (tt, tt) (went_below g a);
      asks = top_there c.args.root c.args.key (content_at c.read_node.new.here.words) (g.S.RecordRead.meaning c.args.store.now) (g.S.RecordRead.meaning c.read_node.new.store) (g.S.RecordRead.meaning c.enter.new.store) (g.S.RecordRead.meaning c.enter.new.store) c.enter.ensures.walk.asked c.in_ok-read_node.ensures.walk.by.only c.enter.ensures.walk.walk.by.grow.reads (extends-refl (g.S.RecordRead.meaning c.enter.new.store).reads) m.low at c.enter.result c.enter.ensures.walk.asks (c.in_ok-enter.was ∙ ap (λ e. Ok e) c.in-There.is) refl;
    }

pub returns-in-Done-clause-ok : goal.returns-in-Done-clause-ok
returns-in-Done-clause-ok g c =
    let a = (goal.at.returns-in-Done-clause-ok g c).After-enter in
    let m = met_at_first g a in
    let at = root_at_first g a in
    let e = entered_as g (goal.at.returns-in-Done-clause-ok g c).In_ok-enter Done c.in-Done.is in
    let child = root_child (g.S.RecordRead.meaning c.args.store.now).size c.args.root c.args.key (content_at c.read_node.new.here.words) m.low in
    inserts_done c.args.root c.args.key c.args.rid (g.S.RecordRead.meaning c.args.store.now) (g.S.RecordRead.meaning c.enter.new.store) (present_by (g.S.RecordRead.meaning c.args.store.now).size c.args.root (content_at c.read_node.new.here.words) (g.S.RecordRead.meaning c.args.store.now) (g.S.RecordRead.meaning c.read_node.new.store) (g.S.RecordRead.meaning c.enter.new.store) c.enter.ensures.walk.walk.by.grow.reads at)
    (enter_done (g.S.RecordRead.meaning c.args.store.now) (g.S.RecordRead.meaning c.read_node.new.store) (g.S.RecordRead.meaning c.enter.new.store) c.args.key c.args.rid ((first_key, c.args.root) ∷ []) 1 (first_key, c.args.root) (content_at c.read_node.new.here.words) c.rank_of-rank.result c.enter.ensures.walk.walk.by.grow.reads child at
    (λ leaf. (e.leaf leaf).0)
    e.inner)

pub returns-in-Done-clause-walk : goal.returns-in-Done-clause-walk
returns-in-Done-clause-walk g c =
    let a = (goal.at.returns-in-Done-clause-walk g c).After-enter in
    let m = met_at_first g a in
    let at = root_at_first g a in
    record {
      asked = c.enter.ensures.walk.asked;
      walk = calls_quiet _ c.args.store.now c.enter.new.store _ c.enter.result (tt, tt) (went_below g a);
      asks = top_done c.args.root c.args.key (content_at c.read_node.new.here.words) (g.S.RecordRead.meaning c.args.store.now) (g.S.RecordRead.meaning c.read_node.new.store) (g.S.RecordRead.meaning c.enter.new.store) (g.S.RecordRead.meaning c.enter.new.store) c.enter.ensures.walk.asked c.in_ok-read_node.ensures.walk.by.only c.enter.ensures.walk.walk.by.grow.reads (extends-refl (g.S.RecordRead.meaning c.enter.new.store).reads) m.low at c.enter.result c.enter.ensures.walk.asks (c.in_ok-enter.was ∙ ap (λ e. Ok e) c.in-Done.is) (λ leaf. (let l = c.in_ok-enter.ensures.leaf leaf in (rw c.in-Done.is at l).0)) refl;
    }

pub returns-in_err-put_root-in-Takes-clause-walk : goal.returns-in_err-put_root-in-Takes-clause-walk
returns-in_err-put_root-in-Takes-clause-walk g c =
    let a = (goal.at.returns-in_err-put_root-in-Takes-clause-walk g c).After-enter in
    let m = met_at_first g a in
    let at = root_at_first g a in
    let e = entered_as g (goal.at.returns-in_err-put_root-in-Takes-clause-walk g c).In_ok-enter (Takes c.in-Takes.entry) c.in-Takes.is in
    record {
      asked = c.enter.ensures.walk.asked + c.put_root.ensures.walk.asked;
      walk = calls_moved c.args.store.now c.put_root.new.store c.from_residual-in_err-put_root-in-Takes.result c.put_root.result c.in_err-put_root-in-Takes.field-0.0 c.in_err-put_root-in-Takes.was c.from_residual-in_err-put_root-in-Takes.ensures.1 (calls_then _ c.enter.ensures.walk.asked c.put_root.ensures.walk.asked c.args.store.now c.enter.new.store c.put_root.new.store c.enter.result c.put_root.result (went_below g a) c.put_root.ensures.walk.walk (λ asks few. top_may c.args.root c.args.key (content_at c.read_node.new.here.words) (g.S.RecordRead.meaning c.args.store.now) (g.S.RecordRead.meaning c.read_node.new.store) (g.S.RecordRead.meaning c.enter.new.store) (g.S.RecordRead.meaning c.put_root.new.store) c.enter.ensures.walk.asked c.in_ok-read_node.ensures.walk.by.only c.enter.ensures.walk.walk.by.grow.reads c.put_root.ensures.walk.walk.by.grow.reads m.low at c.enter.result c.enter.ensures.walk.asks c.args.rid c.rank_of-rank.result c.in-Takes.entry (c.in_ok-enter.was ∙ ap (λ e. Ok e) c.in-Takes.is) (λ leaf. (e.leaf leaf).0.1) e.inner asks few));
      asks = root_err c.args.root c.args.key (content_at c.read_node.new.here.words) (g.S.RecordRead.meaning c.args.store.now) (g.S.RecordRead.meaning c.read_node.new.store) (g.S.RecordRead.meaning c.enter.new.store) (g.S.RecordRead.meaning c.put_root.new.store) c.enter.ensures.walk.asked c.in_ok-read_node.ensures.walk.by.only c.enter.ensures.walk.walk.by.grow.reads c.put_root.ensures.walk.walk.by.grow.reads m.low at c.enter.result c.enter.ensures.walk.asks c.args.rid c.rank_of-rank.result c.in-Takes.entry (c.in_ok-enter.was ∙ ap (λ e. Ok e) c.in-Takes.is) (λ leaf. (e.leaf leaf).0.1) e.inner c.put_root.result c.from_residual-in_err-put_root-in-Takes.result c.put_root.ensures.walk.asked c.from_residual-in_err-put_root-in-Takes.ensures.0 c.put_root.ensures.walk.asks;
    }

pub returns-in_ok-put_root-in-Takes-clause-ok : goal.returns-in_ok-put_root-in-Takes-clause-ok
returns-in_ok-put_root-in-Takes-clause-ok g c =
    let a = (goal.at.returns-in_ok-put_root-in-Takes-clause-ok g c).After-enter in
    let m = met_at_first g a in
    let e = entered_as g (goal.at.returns-in_ok-put_root-in-Takes-clause-ok g c).In_ok-enter (Takes c.in-Takes.entry) c.in-Takes.is in
    let at = root_at_first g a in
    let within = rw c.in-Takes.is at c.in_ok-enter.ensures.within in
    let N : ℕ → Type 0 = λ n. c.in-Takes.entry.1 < n in
    inserts_takes (g.S.RecordRead.meaning c.args.store.now) (g.S.RecordRead.meaning c.read_node.new.store) (g.S.RecordRead.meaning c.enter.new.store) (g.S.RecordRead.meaning c.put_root.new.store) c.args.root c.args.key c.args.rid (content_at c.read_node.new.here.words) c.rank_of-rank.result c.in-Takes.entry (subst (λ n. n ≤ 200000) c.size-size.ensures.size c.size-size.ensures.at_most) (omega (arith, c.size-size.ensures.size, c.size-size.ensures.fixed)) c.requires.root c.in_ok-read_node.ensures.walk.by.only c.enter.ensures.walk.walk.by.grow c.put_root.ensures.walk.walk.by.grow c.requires.rid (subst N c.size-size.ensures.size within) m.low m.node.sound c.rank_of-rank.ensures.rank
    (λ inner. rank_some (g.S.RecordRead.meaning c.args.store.now).size (content_at c.read_node.new.here.words) c.args.key c.rank_of-rank.result m.node.sound inner (rw m.low (first_not_after c.args.key)) c.rank_of-rank.ensures.rank) at
    (λ leaf. (let l = e.leaf leaf in (l.0.0, l.0.1, l.1)))
    e.inner
    (rw m.rid at c.in_ok-put_root-in-Takes.ensures.ok)

pub returns-in_ok-put_root-in-Takes-clause-walk : goal.returns-in_ok-put_root-in-Takes-clause-walk
returns-in_ok-put_root-in-Takes-clause-walk g c =
    let a = (goal.at.returns-in_ok-put_root-in-Takes-clause-walk g c).After-enter in
    let m = met_at_first g a in
    let at = root_at_first g a in
    let e = entered_as g (goal.at.returns-in_ok-put_root-in-Takes-clause-walk g c).In_ok-enter (Takes c.in-Takes.entry) c.in-Takes.is in
    record {
      asked = c.enter.ensures.walk.asked + c.put_root.ensures.walk.asked;
      walk = calls_quiet _ c.args.store.now c.put_root.new.store _ c.put_root.result (tt, tt) (calls_then (λ _. Unit {0}) c.enter.ensures.walk.asked c.put_root.ensures.walk.asked c.args.store.now c.enter.new.store c.put_root.new.store c.enter.result c.put_root.result (went_below g a) c.put_root.ensures.walk.walk (λ asks later. tt));
      asks = root_ok c.args.root c.args.key (content_at c.read_node.new.here.words) (g.S.RecordRead.meaning c.args.store.now) (g.S.RecordRead.meaning c.read_node.new.store) (g.S.RecordRead.meaning c.enter.new.store) (g.S.RecordRead.meaning c.put_root.new.store) c.enter.ensures.walk.asked c.in_ok-read_node.ensures.walk.by.only c.enter.ensures.walk.walk.by.grow.reads c.put_root.ensures.walk.walk.by.grow.reads m.low at c.enter.result c.enter.ensures.walk.asks c.args.rid c.rank_of-rank.result c.in-Takes.entry (c.in_ok-enter.was ∙ ap (λ e. Ok e) c.in-Takes.is) (λ leaf. (e.leaf leaf).0.1) e.inner c.put_root.result c.put_root.ensures.walk.asked (rw c.in_ok-put_root-in-Takes.was at c.put_root.ensures.walk.asks.exact) c.put_root.ensures.walk.asks;
    }

pub returns-in_err-read_node-clause-few : goal.returns-in_err-read_node-clause-few
returns-in_err-read_node-clause-few g c =
    let r = returns-in_err-read_node-clause-walk g c in few_of c.args.root c.args.key (g.S.RecordRead.meaning c.args.store.now) (g.S.RecordRead.meaning c.read_node.new.store) _ r.asked r.asks

pub returns-in_err-write_node-clause-few : goal.returns-in_err-write_node-clause-few
returns-in_err-write_node-clause-few g c =
    let r = returns-in_err-write_node-clause-walk g c in few_of c.args.root c.args.key (g.S.RecordRead.meaning c.args.store.now) (g.S.RecordRead.meaning c.write_node.new.store) _ r.asked r.asks

pub returns-then-not-branch-clause-few : goal.returns-then-not-branch-clause-few
returns-then-not-branch-clause-few g c =
    let r = returns-then-not-branch-clause-walk g c in few_of c.args.root c.args.key (g.S.RecordRead.meaning c.args.store.now) (g.S.RecordRead.meaning c.write_node.new.store) _ r.asked r.asks

pub returns-then-not-branch-clause-walked : goal.returns-then-not-branch-clause-walked
returns-then-not-branch-clause-walked g c =
    empty_ends (g.S.RecordRead.meaning c.args.store.now).size c.args.root c.args.key (g.S.RecordRead.meaning c.args.store.now) (g.S.RecordRead.meaning c.read_node.new.store) (g.S.RecordRead.meaning c.write_node.new.store) c.args.root _ (λ state agrees. rw (ap (λ present. value_if present c.read_node.new.here) c.if-not-branch.true) at (c.in_ok-read_node.ensures.read state agrees)) c.in_ok-write_node.ensures.ok

pub returns-in_err-enter-clause-few : goal.returns-in_err-enter-clause-few
returns-in_err-enter-clause-few g c =
    let r = returns-in_err-enter-clause-walk g c in few_of c.args.root c.args.key (g.S.RecordRead.meaning c.args.store.now) (g.S.RecordRead.meaning c.enter.new.store) _ r.asked r.asks

pub returns-in-There-clause-few : goal.returns-in-There-clause-few
returns-in-There-clause-few g c =
    let r = returns-in-There-clause-walk g c in few_of c.args.root c.args.key (g.S.RecordRead.meaning c.args.store.now) (g.S.RecordRead.meaning c.enter.new.store) _ r.asked r.asks

pub returns-in-Done-clause-few : goal.returns-in-Done-clause-few
returns-in-Done-clause-few g c =
    let r = returns-in-Done-clause-walk g c in few_of c.args.root c.args.key (g.S.RecordRead.meaning c.args.store.now) (g.S.RecordRead.meaning c.enter.new.store) _ r.asked r.asks

pub returns-in_err-put_root-in-Takes-clause-few : goal.returns-in_err-put_root-in-Takes-clause-few
returns-in_err-put_root-in-Takes-clause-few g c =
    let r = returns-in_err-put_root-in-Takes-clause-walk g c in few_of c.args.root c.args.key (g.S.RecordRead.meaning c.args.store.now) (g.S.RecordRead.meaning c.put_root.new.store) _ r.asked r.asks

pub returns-in_ok-put_root-in-Takes-clause-few : goal.returns-in_ok-put_root-in-Takes-clause-few
returns-in_ok-put_root-in-Takes-clause-few g c =
    let r = returns-in_ok-put_root-in-Takes-clause-walk g c in few_of c.args.root c.args.key (g.S.RecordRead.meaning c.args.store.now) (g.S.RecordRead.meaning c.put_root.new.store) _ r.asked r.asks

pub returns-in-There-clause-walked : goal.returns-in-There-clause-walked
returns-in-There-clause-walked g c =
    let a = (goal.at.returns-in-There-clause-walked g c).After-enter in
    let m = met_at_first g a in
    let at = root_at_first g a in
    each_ends_well (g.S.RecordRead.meaning c.args.store.now).size c.args.root c.args.key (content_at c.read_node.new.here.words) (g.S.RecordRead.meaning c.args.store.now) (g.S.RecordRead.meaning c.read_node.new.store) (g.S.RecordRead.meaning c.enter.new.store) (g.S.RecordRead.meaning c.enter.new.store) c.in_ok-read_node.ensures.walk.by.only c.enter.ensures.walk.walk.by.grow.reads (extends-refl (g.S.RecordRead.meaning c.enter.new.store).reads) m.low at (λ inner. rw c.size-size.ensures.size at (c.in_ok-enter.ensures.walked inner))

pub returns-in-Done-clause-walked : goal.returns-in-Done-clause-walked
returns-in-Done-clause-walked g c =
    let a = (goal.at.returns-in-Done-clause-walked g c).After-enter in
    let m = met_at_first g a in
    let at = root_at_first g a in
    each_ends_well (g.S.RecordRead.meaning c.args.store.now).size c.args.root c.args.key (content_at c.read_node.new.here.words) (g.S.RecordRead.meaning c.args.store.now) (g.S.RecordRead.meaning c.read_node.new.store) (g.S.RecordRead.meaning c.enter.new.store) (g.S.RecordRead.meaning c.enter.new.store) c.in_ok-read_node.ensures.walk.by.only c.enter.ensures.walk.walk.by.grow.reads (extends-refl (g.S.RecordRead.meaning c.enter.new.store).reads) m.low at (λ inner. rw c.size-size.ensures.size at (c.in_ok-enter.ensures.walked inner))

pub returns-in_ok-put_root-in-Takes-clause-walked : goal.returns-in_ok-put_root-in-Takes-clause-walked
returns-in_ok-put_root-in-Takes-clause-walked g c =
    let a = (goal.at.returns-in_ok-put_root-in-Takes-clause-walked g c).After-enter in
    let m = met_at_first g a in
    let at = root_at_first g a in
    each_ends_well (g.S.RecordRead.meaning c.args.store.now).size c.args.root c.args.key (content_at c.read_node.new.here.words) (g.S.RecordRead.meaning c.args.store.now) (g.S.RecordRead.meaning c.read_node.new.store) (g.S.RecordRead.meaning c.enter.new.store) (g.S.RecordRead.meaning c.put_root.new.store) c.in_ok-read_node.ensures.walk.by.only c.enter.ensures.walk.walk.by.grow.reads c.put_root.ensures.walk.walk.by.grow.reads m.low at (λ inner. rw c.size-size.ensures.size at (c.in_ok-enter.ensures.walked inner))

-- what is written
pub returns-in_err-read_node-clause-writes : goal.returns-in_err-read_node-clause-writes
returns-in_err-read_node-clause-writes g c =
    known-reads (g.S.RecordRead.meaning c.args.store.now) (g.S.RecordRead.meaning c.read_node.new.store) c.read_node.ensures.walk.by.only

pub returns-in_err-write_node-clause-writes : goal.returns-in_err-write_node-clause-writes
returns-in_err-write_node-clause-writes g c =
    let tried = (tries c.write_node.result (g.S.RecordRead.meaning c.read_node.new.store) (g.S.RecordRead.meaning c.write_node.new.store) c.args.root _ c.write_node.ensures.ok c.write_node.ensures.err) in
    known-fixed 0 (g.S.RecordRead.meaning c.args.store.now) (g.S.RecordRead.meaning c.read_node.new.store) (g.S.RecordRead.meaning c.write_node.new.store) c.args.root c.in_ok-read_node.ensures.walk.by.only tried.reads tried.given tried.only c.requires.root

pub returns-then-not-branch-clause-writes : goal.returns-then-not-branch-clause-writes
returns-then-not-branch-clause-writes g c =
    let tried = (tries c.write_node.result (g.S.RecordRead.meaning c.read_node.new.store) (g.S.RecordRead.meaning c.write_node.new.store) c.args.root _ c.write_node.ensures.ok c.write_node.ensures.err) in
    known-fixed 0 (g.S.RecordRead.meaning c.args.store.now) (g.S.RecordRead.meaning c.read_node.new.store) (g.S.RecordRead.meaning c.write_node.new.store) c.args.root c.in_ok-read_node.ensures.walk.by.only tried.reads tried.given tried.only c.requires.root

pub returns-in_err-enter-clause-writes : goal.returns-in_err-enter-clause-writes
returns-in_err-enter-clause-writes g c =
    known-behind (g.S.RecordRead.meaning c.args.store.now) (g.S.RecordRead.meaning c.read_node.new.store) (g.S.RecordRead.meaning c.enter.new.store) c.in_ok-read_node.ensures.walk.by.only c.enter.ensures.writes

pub returns-in-There-clause-writes : goal.returns-in-There-clause-writes
returns-in-There-clause-writes g c =
    known-behind (g.S.RecordRead.meaning c.args.store.now) (g.S.RecordRead.meaning c.read_node.new.store) (g.S.RecordRead.meaning c.enter.new.store) c.in_ok-read_node.ensures.walk.by.only c.enter.ensures.writes

pub returns-in-Done-clause-writes : goal.returns-in-Done-clause-writes
returns-in-Done-clause-writes g c =
    known-behind (g.S.RecordRead.meaning c.args.store.now) (g.S.RecordRead.meaning c.read_node.new.store) (g.S.RecordRead.meaning c.enter.new.store) c.in_ok-read_node.ensures.walk.by.only c.enter.ensures.writes

pub returns-in_err-put_root-in-Takes-clause-writes : goal.returns-in_err-put_root-in-Takes-clause-writes
returns-in_err-put_root-in-Takes-clause-writes g c =
    let m = met_here g (goal.at.returns-in_err-put_root-in-Takes-clause-writes g c).After-enter in
    known-then-fixed c.put_root.ensures.walk.asked (g.S.RecordRead.meaning c.args.store.now) (g.S.RecordRead.meaning c.enter.new.store) (g.S.RecordRead.meaning c.put_root.new.store) c.read_node.new.here.at (known-behind (g.S.RecordRead.meaning c.args.store.now) (g.S.RecordRead.meaning c.read_node.new.store) (g.S.RecordRead.meaning c.enter.new.store) c.in_ok-read_node.ensures.walk.by.only c.enter.ensures.writes) c.put_root.ensures.walk.walk.by.grow.reads c.put_root.ensures.walk.walk.by.given c.put_root.ensures.writes (rw m.rid c.requires.root)

pub returns-in_ok-put_root-in-Takes-clause-writes : goal.returns-in_ok-put_root-in-Takes-clause-writes
returns-in_ok-put_root-in-Takes-clause-writes g c =
    let m = met_here g (goal.at.returns-in_ok-put_root-in-Takes-clause-writes g c).After-enter in
    known-then-fixed c.put_root.ensures.walk.asked (g.S.RecordRead.meaning c.args.store.now) (g.S.RecordRead.meaning c.enter.new.store) (g.S.RecordRead.meaning c.put_root.new.store) c.read_node.new.here.at (known-behind (g.S.RecordRead.meaning c.args.store.now) (g.S.RecordRead.meaning c.read_node.new.store) (g.S.RecordRead.meaning c.enter.new.store) c.in_ok-read_node.ensures.walk.by.only c.enter.ensures.writes) c.put_root.ensures.walk.walk.by.grow.reads c.put_root.ensures.walk.walk.by.given c.put_root.ensures.writes (rw m.rid c.requires.root)
