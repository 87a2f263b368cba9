use Rattle.std.proofs.Common.{◌<◌, Ok, ap, arith}
use Rattle.ordered_index.specs.Standing.{content_at}
use Rattle.record_store.specs.Into.{value_if}
use Rattle.record_store.proofs.Refusals.{torn_moved, IfTorn-map}
use Rattle.plain_data.specs.State.{overlay}
use Rattle.ordered_index.specs.Keys.{first_key}
use Rattle.ordered_index.specs.Walk.{IsTreeNode}
use Rattle.ordered_index.proofs.Entries.{last_at-low, last_at-in}
use Rattle.ordered_index.proofs.Order.{first_not_after}
use Rattle.ordered_index.proofs.Passed.{each_tears, each_absent, each_deep, each_steps, at_some}
use Rattle.ordered_index.proofs.Paths.{walk_begins, root_tears}
use Rattle.ordered_index.proofs.Rows.{leaf_inner}
use Rattle.ordered_index.proofs.Parents.{each_came, above_step, is_under, reaches_by, more_than_one}
use Rattle.record_store.proofs.Going.{reads_moved, reads_quiet, reads_then}
use Rattle.ordered_index.proofs.under.leaf_under.Goals as goal

pub returns-in_err-read_node-clause-torn : goal.returns-in_err-read_node-clause-torn
returns-in_err-read_node-clause-torn g c =
    torn_moved c.from_residual.result c.read_node.result c.in_err-read_node.field-0.0 _ c.in_err-read_node.was c.from_residual.ensures.1
    (IfTorn-map c.read_node.result
    (λ rid torn. λ state agrees. rw torn.0 (root_tears c.args.size c.args.root c.args.key (overlay (g.S.RecordRead.meaning c.args.store.now).writes state) (torn.1 state agrees)))
    c.read_node.ensures.torn)

pub loop-key-init : goal.loop-key-init
loop-key-init g c =
    let link = at_some (IsTreeNode c.args.size c.args.root first_key) c.read_node.new.here (ap (λ present. value_if present c.read_node.new.here) c.if-not-branch.false) c.in_ok-read_node.ensures.node in
    record {
      walk = reads_quiet c.args.store.now c.read_node.new.store (Ok (tt {0})) c.read_node.result (tt, tt) c.read_node.ensures.walk;
      at = rw link.at c.requires.root;
      node = link.node;
      low = rw link.low (first_not_after c.args.key);
      some = omega arith;
      deep = omega arith;
      walked = λ state agrees. walk_begins c.args.size c.args.root c.args.key _ c.read_node.new.here link.at link.low (rw (ap (λ present. value_if present c.read_node.new.here) c.if-not-branch.false) at (c.in_ok-read_node.ensures.read state agrees));
      first = λ one. c.is_inner.ensures.inner c.if-not-is_inner.false;
      above = λ more. absurd (omega arith);
      came = λ more. absurd (omega arith);
    }

pub returns-then-depth-eq-MOST_DEPTH-clause-torn : goal.returns-then-depth-eq-MOST_DEPTH-clause-torn
returns-then-depth-eq-MOST_DEPTH-clause-torn g c =
    each_deep (g.S.RecordRead.meaning c.args.store.now) (g.S.RecordRead.meaning c.loop-key.store) c.args.size c.args.root c.loop-key.depth c.args.key c.loop-key.here c.child-rid.result c.loop-key.invariant.walked (c.is_inner-in-loop-key.ensures.inner c.loop-key-test.true) c.child-rid.ensures (omega arith)

pub read_node-requires-in-loop-key-clause-rid : goal.read_node-requires-in-loop-key-clause-rid
read_node-requires-in-loop-key-clause-rid g c = last_at-in c.args.size (content_at c.loop-key.here.words).entries c.args.key c.child-rid.result c.loop-key.invariant.node.sound.records c.child-rid.ensures

pub returns-in_err-read_node-2-clause-torn : goal.returns-in_err-read_node-2-clause-torn
returns-in_err-read_node-2-clause-torn g c =
    torn_moved c.from_residual-in_err-read_node-2.result c.read_node-in-loop-key.result c.in_err-read_node-2.field-0.0 _ c.in_err-read_node-2.was c.from_residual-in_err-read_node-2.ensures.1
    (IfTorn-map c.read_node-in-loop-key.result
    (λ rid torn. each_tears _ _ _ c.args.size c.args.root c.loop-key.depth rid c.args.key c.loop-key.here c.child-rid.result c.loop-key.invariant.walk.by.only c.read_node-in-loop-key.ensures.walk.by.only c.loop-key.invariant.walked (c.is_inner-in-loop-key.ensures.inner c.loop-key-test.true) c.child-rid.ensures torn.0 torn.1)
    c.read_node-in-loop-key.ensures.torn)

pub returns-then-not-branch-2-clause-torn : goal.returns-then-not-branch-2-clause-torn
returns-then-not-branch-2-clause-torn g c =
    each_absent _ _ _ c.args.size c.args.root c.loop-key.depth c.args.key c.loop-key.here c.child-rid.result (value_if c.in_ok-read_node-2.field-0 c.read_node-in-loop-key.new.here) c.loop-key.invariant.walk.by.only c.in_ok-read_node-2.ensures.walk.by.only c.loop-key.invariant.walked (c.is_inner-in-loop-key.ensures.inner c.loop-key-test.true) c.child-rid.ensures (ap (λ present. value_if present c.read_node-in-loop-key.new.here) c.if-not-branch-2.true) c.in_ok-read_node-2.ensures.read

pub loop-key-preserved : goal.loop-key-preserved
loop-key-preserved g c =
    let inner = c.is_inner-in-loop-key.ensures.inner c.loop-key-test.true in
    let link = at_some (IsTreeNode c.args.size c.child-rid.result.1 c.child-rid.result.0) c.read_node-in-loop-key.new.here (ap (λ present. value_if present c.read_node-in-loop-key.new.here) c.if-not-branch-2.false) c.in_ok-read_node-2.ensures.node in
    record {
      walk = reads_quiet c.args.store.now c.read_node-in-loop-key.new.store (Ok (tt {0})) c.read_node-in-loop-key.result (tt, tt) (reads_then c.args.store.now c.loop-key.store c.read_node-in-loop-key.new.store (Ok (tt {0})) c.read_node-in-loop-key.result c.loop-key.invariant.walk c.read_node-in-loop-key.ensures.walk);
      at = rw link.at (last_at-in c.args.size (content_at c.loop-key.here.words).entries c.args.key c.child-rid.result c.loop-key.invariant.node.sound.records c.child-rid.ensures);
      node = link.node;
      low = rw link.low (last_at-low (content_at c.loop-key.here.words).entries c.args.key c.child-rid.result c.child-rid.ensures);
      some = omega arith;
      deep = omega (arith, c.loop-key.invariant.deep, c.if-depth-eq-MOST_DEPTH.false);
      walked = each_steps _ _ _ c.args.size c.args.root c.loop-key.depth c.args.key c.loop-key.here c.read_node-in-loop-key.new.here c.child-rid.result (value_if c.in_ok-read_node-2.field-0 c.read_node-in-loop-key.new.here) c.loop-key.invariant.walk.by.only c.in_ok-read_node-2.ensures.walk.by.only c.loop-key.invariant.walked inner c.child-rid.ensures link.at link.low (ap (λ present. value_if present c.read_node-in-loop-key.new.here) c.if-not-branch-2.false) c.in_ok-read_node-2.ensures.read;
      first = λ one. absurd (omega (arith, c.loop-key.invariant.some, one));
      above = λ more. above_step c.args.size c.args.key c.loop-key.here c.read_node-in-loop-key.new.here c.child-rid.result c.loop-key.invariant.at c.loop-key.invariant.node inner c.child-rid.ensures link.at link.low;
      came = λ more. each_came (g.S.RecordRead.meaning c.args.store.now) (g.S.RecordRead.meaning c.loop-key.store) (g.S.RecordRead.meaning c.read_node-in-loop-key.new.store) c.args.size c.args.root c.loop-key.depth c.args.key c.loop-key.here c.read_node-in-loop-key.ensures.walk.by.only c.loop-key.invariant.walked;
    }

pub returns-clause-under : goal.returns-clause-under
returns-clause-under g c =
    let leaf = c.is_inner-in-loop-key.ensures.leaf c.loop-key-test.false in
    let more : 1 < c.loop-key.depth = more_than_one c.loop-key.depth c.loop-key.invariant.some (λ one. leaf_inner (content_at c.loop-key.here.words).kind leaf (c.loop-key.invariant.first one)) in
    λ state agrees. reaches_by c.args.size c.args.root c.loop-key.depth c.args.key _ c.loop-key.parent c.loop-key.here (c.loop-key.invariant.above more) (c.loop-key.invariant.came more state agrees) (c.loop-key.invariant.walked state agrees) c.loop-key.invariant.deep leaf

pub returns-clause-within : goal.returns-clause-within
returns-clause-within g c =
    let leaf = c.is_inner-in-loop-key.ensures.leaf c.loop-key-test.false in
    let more : 1 < c.loop-key.depth = more_than_one c.loop-key.depth c.loop-key.invariant.some (λ one. leaf_inner (content_at c.loop-key.here.words).kind leaf (c.loop-key.invariant.first one)) in
    is_under c.args.size c.args.key c.loop-key.parent c.loop-key.here (c.loop-key.invariant.above more) c.loop-key.invariant.at c.loop-key.invariant.node leaf

-- how the walk went
pub returns-in_err-read_node-clause-walk : goal.returns-in_err-read_node-clause-walk
returns-in_err-read_node-clause-walk g c = reads_moved c.args.store.now c.read_node.new.store c.from_residual.result c.read_node.result c.in_err-read_node.field-0.0 c.in_err-read_node.was c.from_residual.ensures.1 c.read_node.ensures.walk

pub returns-then-not-branch-clause-walk : goal.returns-then-not-branch-clause-walk
returns-then-not-branch-clause-walk g c = reads_quiet c.args.store.now c.read_node.new.store _ c.read_node.result (tt, tt) c.read_node.ensures.walk

pub returns-then-depth-eq-MOST_DEPTH-clause-walk : goal.returns-then-depth-eq-MOST_DEPTH-clause-walk
returns-then-depth-eq-MOST_DEPTH-clause-walk g c = reads_quiet c.args.store.now c.loop-key.store _ (Ok (tt {0})) (tt, tt) c.loop-key.invariant.walk

pub returns-in_err-read_node-2-clause-walk : goal.returns-in_err-read_node-2-clause-walk
returns-in_err-read_node-2-clause-walk g c = reads_moved c.args.store.now c.read_node-in-loop-key.new.store c.from_residual-in_err-read_node-2.result c.read_node-in-loop-key.result c.in_err-read_node-2.field-0.0 c.in_err-read_node-2.was c.from_residual-in_err-read_node-2.ensures.1 (reads_then c.args.store.now c.loop-key.store c.read_node-in-loop-key.new.store (Ok (tt {0})) c.read_node-in-loop-key.result c.loop-key.invariant.walk c.read_node-in-loop-key.ensures.walk)

pub returns-then-not-branch-2-clause-walk : goal.returns-then-not-branch-2-clause-walk
returns-then-not-branch-2-clause-walk g c = reads_quiet c.args.store.now c.read_node-in-loop-key.new.store _ c.read_node-in-loop-key.result (tt, tt) (reads_then c.args.store.now c.loop-key.store c.read_node-in-loop-key.new.store (Ok (tt {0})) c.read_node-in-loop-key.result c.loop-key.invariant.walk c.read_node-in-loop-key.ensures.walk)

pub returns-clause-walk : goal.returns-clause-walk
returns-clause-walk g c = reads_quiet c.args.store.now c.loop-key.store _ (Ok (tt {0})) (tt, tt) c.loop-key.invariant.walk
