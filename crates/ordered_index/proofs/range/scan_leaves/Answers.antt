use Rattle.std.proofs.Common.{◌≡◌, ◌⊎◌, ◌+◌, ◌<◌, length, true, Ok, sym, ap, ◌∙◌, arith, subst, inl, inr}
use Rattle.ordered_index.specs.Standing.{content_at}
use Rattle.record_store.proofs.Refusals.{torn_moved, IfTorn-map}
use Rattle.record_store.proofs.States.{each_grown}
use Rattle.plain_data.specs.State.{overlay}
use Rattle.ordered_index.specs.Walk.{node_of}
use Rattle.record_store.specs.States.{EachState}
use Rattle.ordered_index.specs.Keys.{is_before}
use Rattle.ordered_index.specs.Scan.{HasBehind, IsLeafBehind, IsNoLeaf}
use Rattle.ordered_index.specs.Scan.NeedsNoMore.{no_leaf, leaf_behind}
use Rattle.ordered_index.proofs.Listing.{Listed, scans_by, listed_first, listed_more, appends_none, appends_more, each_next, each_torn, each_ends}
use Rattle.record_store.proofs.Going.{reads_moved, reads_quiet, reads_then}
use Rattle.ordered_index.proofs.range.scan_leaves.Goals as goal

pub loop-goes_on-init : goal.loop-goes_on-init
loop-goes_on-init g c =
    let old = c.args.out.now.items in
    let now = c.take_between-goes_on.new.out.items in
    let most = c.len.result + c.args.limit in
    let room : most ≡ length old + c.args.limit = omega (arith, c.len.ensures, c.args.out.now.ok.0) in
    let within = rw c.in-Some.is at c.in_ok-here.ensures.within in
    record {
      walk = reads_quiet c.args.store.now c.leaf_for.new.store (Ok (tt {0})) c.leaf_for.result (tt, tt) c.leaf_for.ensures.walk;
      node = within.1;
      room = c.take_between-goes_on.ensures.room;
      some = c.take_between-goes_on.ensures.goes_on;
      appends = appends_more c.size-size.result c.args.limit most c.args.lo c.args.hi (content_at c.in-Some.here.words).entries old old now room within.1.sound.records (appends_none c.size-size.result c.args.limit c.args.lo c.args.hi old) c.take_between-goes_on.ensures.items;
      listed = λ state agrees.
          listed_first c.size-size.result c.args.root c.args.lo c.args.hi c.args.limit most (overlay (g.S.RecordRead.meaning c.args.store.now).writes state) (node_of c.in-Some.here) old now c.take_between-goes_on.result room (rw c.in-Some.is at (c.in_ok-here.ensures.leaf state agrees)) c.take_between-goes_on.ensures.items
          (λ no. elim (c.take_between-goes_on.ensures.ends no) as (λ _. HasBehind c.args.hi (content_at c.in-Some.here.words).entries ⊎ (length now ≡ most)) [ inl behind ↦ inl behind | inr full ↦ inr (omega (arith, full, c.take_between-goes_on.new.out.ok.0)) ]);
    }

pub returns-in_default-next-clause-ok : goal.returns-in_default-next-clause-ok
returns-in_default-next-clause-ok g c =
    rw (← c.size-size.ensures.size) (λ state agrees. scans_by c.size-size.result c.args.root c.args.lo c.args.hi c.args.limit (overlay (g.S.RecordRead.meaning c.args.store.now).writes state) (node_of c.loop-goes_on.here) c.args.out.now.items c.loop-goes_on.out.items c.loop-goes_on.goes_on (c.loop-goes_on.invariant.listed state agrees) (no_leaf (sym c.next.ensures ∙ c.in_default-next.is)))

pub returns-in_err-read_next_leaf-clause-torn : goal.returns-in_err-read_next_leaf-clause-torn
returns-in_err-read_next_leaf-clause-torn g c =
    torn_moved c.from_residual-in_err-read_next_leaf.result c.read_next_leaf.result c.in_err-read_next_leaf.field-0.0 _ c.in_err-read_next_leaf.was c.from_residual-in_err-read_next_leaf.ensures.1
    (IfTorn-map c.read_next_leaf.result
    (λ rid torn. rw (← c.size-size.ensures.size) (each_torn (g.S.RecordRead.meaning c.args.store.now) (g.S.RecordRead.meaning c.loop-goes_on.store) (g.S.RecordRead.meaning c.read_next_leaf.new.store) c.size-size.result c.args.root rid c.in-Some-next.next c.args.lo c.args.hi c.args.limit c.loop-goes_on.here c.args.out.now.items c.loop-goes_on.out.items c.loop-goes_on.goes_on c.loop-goes_on.invariant.walk.by.only c.read_next_leaf.ensures.walk.by.only c.loop-goes_on.invariant.listed (sym c.next.ensures ∙ c.in-Some-next.is) torn.0 (subst (λ k. EachState (g.S.RecordRead.meaning c.loop-goes_on.store) (g.S.RecordRead.meaning c.read_next_leaf.new.store) (λ state. IsNoLeaf c.size-size.result k state c.in-Some-next.next)) c.fence-before.ensures torn.1)))
    c.read_next_leaf.ensures.torn)

pub returns-then-is_before-clause-ok : goal.returns-then-is_before-clause-ok
returns-then-is_before-clause-ok g c =
    let leaf = subst (λ k. IsLeafBehind c.size-size.result c.in-Some-next.next k c.read_next_leaf.new.here) c.fence-before.ensures c.in_ok-read_next_leaf.ensures.leaf in
    let next = each_next (g.S.RecordRead.meaning c.args.store.now) (g.S.RecordRead.meaning c.loop-goes_on.store) (g.S.RecordRead.meaning c.read_next_leaf.new.store) c.size-size.result c.in-Some-next.next c.loop-goes_on.here c.read_next_leaf.new.here c.loop-goes_on.invariant.walk.by.only (sym c.next.ensures ∙ c.in-Some-next.is) leaf c.in_ok-read_next_leaf.ensures.read in
    rw (← c.size-size.ensures.size)
    (each_ends (g.S.RecordRead.meaning c.args.store.now) (g.S.RecordRead.meaning c.loop-goes_on.store) (g.S.RecordRead.meaning c.read_next_leaf.new.store) c.size-size.result c.args.root c.args.lo c.args.hi c.args.limit c.loop-goes_on.here c.args.out.now.items c.loop-goes_on.out.items c.loop-goes_on.goes_on c.read_next_leaf.ensures.walk.by.only c.loop-goes_on.invariant.listed
    (λ state passed agrees. leaf_behind (node_of c.read_next_leaf.new.here) (next state agrees) (ap (is_before c.args.hi) (sym c.fence.ensures) ∙ sym c.is_before.ensures ∙ c.if-is_before.true)))

pub loop-goes_on-smaller : goal.loop-goes_on-smaller
loop-goes_on-smaller g c = (subst (λ k. IsLeafBehind c.size-size.result c.in-Some-next.next k c.read_next_leaf.new.here) c.fence-before.ensures c.in_ok-read_next_leaf.ensures.leaf).nearer

pub loop-goes_on-preserved : goal.loop-goes_on-preserved
loop-goes_on-preserved g c =
    let old = c.args.out.now.items in
    let mid = c.loop-goes_on.out.items in
    let now = c.take_between-goes_on-in-loop-goes_on.new.out.items in
    let most = c.len.result + c.args.limit in
    let room : most ≡ length old + c.args.limit = omega (arith, c.len.ensures, c.args.out.now.ok.0) in
    let few : length mid < most = omega (arith, c.loop-goes_on.invariant.some c.loop-goes_on-test.true, c.loop-goes_on.out.ok.0) in
    let leaf = subst (λ k. IsLeafBehind c.size-size.result c.in-Some-next.next k c.read_next_leaf.new.here) c.fence-before.ensures c.in_ok-read_next_leaf.ensures.leaf in
    let next = each_next (g.S.RecordRead.meaning c.args.store.now) (g.S.RecordRead.meaning c.loop-goes_on.store) (g.S.RecordRead.meaning c.read_next_leaf.new.store) c.size-size.result c.in-Some-next.next c.loop-goes_on.here c.read_next_leaf.new.here c.loop-goes_on.invariant.walk.by.only (sym c.next.ensures ∙ c.in-Some-next.is) leaf c.in_ok-read_next_leaf.ensures.read in
    let so_far = each_grown (g.S.RecordRead.meaning c.args.store.now) (g.S.RecordRead.meaning c.loop-goes_on.store) (g.S.RecordRead.meaning c.read_next_leaf.new.store) (λ s. Listed c.size-size.result c.args.root c.args.lo c.args.hi c.args.limit s (node_of c.loop-goes_on.here) old mid true) c.read_next_leaf.ensures.walk.by.only (rw c.loop-goes_on-test.true at c.loop-goes_on.invariant.listed) in
    record {
      walk = reads_quiet c.args.store.now c.read_next_leaf.new.store (Ok (tt {0})) c.read_next_leaf.result (tt, tt) (reads_then c.args.store.now c.loop-goes_on.store c.read_next_leaf.new.store (Ok (tt {0})) c.read_next_leaf.result c.loop-goes_on.invariant.walk c.read_next_leaf.ensures.walk);
      node = leaf.node;
      room = c.take_between-goes_on-in-loop-goes_on.ensures.room;
      some = c.take_between-goes_on-in-loop-goes_on.ensures.goes_on;
      appends = appends_more c.size-size.result c.args.limit most c.args.lo c.args.hi (content_at c.read_next_leaf.new.here.words).entries old mid now room leaf.node.sound.records c.loop-goes_on.invariant.appends c.take_between-goes_on-in-loop-goes_on.ensures.items;
      listed = λ state agrees.
          listed_more c.size-size.result c.args.root c.args.lo c.args.hi c.args.limit most (overlay (g.S.RecordRead.meaning c.args.store.now).writes state) (node_of c.loop-goes_on.here) (node_of c.read_next_leaf.new.here) old mid now c.take_between-goes_on-in-loop-goes_on.result room (so_far state agrees) (next state agrees) few c.take_between-goes_on-in-loop-goes_on.ensures.items
          (λ no. elim (c.take_between-goes_on-in-loop-goes_on.ensures.ends no) as (λ _. HasBehind c.args.hi (content_at c.read_next_leaf.new.here.words).entries ⊎ (length now ≡ most)) [ inl behind ↦ inl behind | inr full ↦ inr (omega (arith, full, c.take_between-goes_on-in-loop-goes_on.new.out.ok.0)) ]);
    }

pub returns-clause-ok : goal.returns-clause-ok
returns-clause-ok g c =
    rw (← c.size-size.ensures.size) (λ state agrees. let listed = c.loop-goes_on.invariant.listed state agrees in scans_by c.size-size.result c.args.root c.args.lo c.args.hi c.args.limit (overlay (g.S.RecordRead.meaning c.args.store.now).writes state) (node_of c.loop-goes_on.here) c.args.out.now.items c.loop-goes_on.out.items c.loop-goes_on.goes_on listed (listed.ends c.loop-goes_on-test.false))

pub returns-in_default-next-clause-appends : goal.returns-in_default-next-clause-appends
returns-in_default-next-clause-appends g c = rw (← c.size-size.ensures.size) c.loop-goes_on.invariant.appends

pub returns-then-is_before-clause-appends : goal.returns-then-is_before-clause-appends
returns-then-is_before-clause-appends g c = rw (← c.size-size.ensures.size) c.loop-goes_on.invariant.appends

pub returns-clause-appends : goal.returns-clause-appends
returns-clause-appends g c = rw (← c.size-size.ensures.size) c.loop-goes_on.invariant.appends

-- how the walk went
pub returns-in_err-here-clause-walk : goal.returns-in_err-here-clause-walk
returns-in_err-here-clause-walk g c = reads_moved c.args.store.now c.leaf_for.new.store c.from_residual.result c.leaf_for.result c.in_err-here.field-0.0 c.in_err-here.was c.from_residual.ensures.1 c.leaf_for.ensures.walk

pub returns-in_default-clause-walk : goal.returns-in_default-clause-walk
returns-in_default-clause-walk g c = reads_quiet c.args.store.now c.leaf_for.new.store _ c.leaf_for.result (tt, tt) c.leaf_for.ensures.walk

pub returns-in_default-next-clause-walk : goal.returns-in_default-next-clause-walk
returns-in_default-next-clause-walk g c = reads_quiet c.args.store.now c.loop-goes_on.store _ (Ok (tt {0})) (tt, tt) c.loop-goes_on.invariant.walk

pub returns-in_err-read_next_leaf-clause-walk : goal.returns-in_err-read_next_leaf-clause-walk
returns-in_err-read_next_leaf-clause-walk g c = reads_moved c.args.store.now c.read_next_leaf.new.store c.from_residual-in_err-read_next_leaf.result c.read_next_leaf.result c.in_err-read_next_leaf.field-0.0 c.in_err-read_next_leaf.was c.from_residual-in_err-read_next_leaf.ensures.1 (reads_then c.args.store.now c.loop-goes_on.store c.read_next_leaf.new.store (Ok (tt {0})) c.read_next_leaf.result c.loop-goes_on.invariant.walk c.read_next_leaf.ensures.walk)

pub returns-then-is_before-clause-walk : goal.returns-then-is_before-clause-walk
returns-then-is_before-clause-walk g c = reads_quiet c.args.store.now c.read_next_leaf.new.store _ c.read_next_leaf.result (tt, tt) (reads_then c.args.store.now c.loop-goes_on.store c.read_next_leaf.new.store (Ok (tt {0})) c.read_next_leaf.result c.loop-goes_on.invariant.walk c.read_next_leaf.ensures.walk)

pub returns-clause-walk : goal.returns-clause-walk
returns-clause-walk g c = reads_quiet c.args.store.now c.loop-goes_on.store _ (Ok (tt {0})) (tt, tt) c.loop-goes_on.invariant.walk
