use Rattle.std.proofs.Common.{◌≡◌, Some, ap, ◌∙◌, subst}
use Rattle.record_store.proofs.Refusals.{torn_moved, IfTorn-map}
use Rattle.std.specs.Prelude.{remove}
use Rattle.record_store.specs.Meaning.{after_write}
use Rattle.record_store.proofs.Agreement.{writes_same, extends-refl, ReadsGrow-refl, ReadsGrow-write, written_as}
use Rattle.record_store.proofs.Known.{tries, known-reads, known-found}
use Rattle.ordered_index.proofs.Wrote.{nodes-none, read_few, wrote_none, wrote_one}
use Rattle.ordered_index.specs.Node.{tree_node_words, Content}
use Rattle.ordered_index.specs.Standing.{content_at}
use Rattle.ordered_index.proofs.Trees.{is_torn}
use Rattle.ordered_index.proofs.Removed.{removes_entry, removes_nothing, each_absent}
use Rattle.ordered_index.proofs.Reaching.{leaf_ends}
use Rattle.record_store.proofs.Going.{reads_moved, reads_quiet, calls_reads, calls_moved, calls_quiet, calls_behind}
use Rattle.ordered_index.proofs.index.remove.Goals as goal

pub returns-in_err-leaf-clause-torn : goal.returns-in_err-leaf-clause-torn
returns-in_err-leaf-clause-torn g c =
    torn_moved c.from_residual.result c.leaf_for.result c.in_err-leaf.field-0.0 _ c.in_err-leaf.was c.from_residual.ensures.1
    (IfTorn-map c.leaf_for.result (λ rid. is_torn c.args.root c.size-size.result rid c.args.key _ _ c.size-size.ensures.size) c.leaf_for.ensures.torn)

pub returns-in_default-place-clause-ok : goal.returns-in_default-place-clause-ok
returns-in_default-place-clause-ok g c =
    removes_nothing c.args.root c.args.key _ _ c.in_ok-leaf.ensures.walk.by.only
    (each_absent c.size-size.result c.args.root c.in-Some.leaf.at c.args.key (g.S.RecordRead.meaning c.args.store.now) (g.S.RecordRead.meaning c.leaf_for.new.store) (content_at c.in-Some.leaf.words) c.size-size.ensures.size (λ state agrees. rw c.in-Some.is at (c.in_ok-leaf.ensures.leaf state agrees)) (rw c.in_default-place.is at c.place.ensures.absent))

pub returns-clause-ok : goal.returns-clause-ok
returns-clause-ok g c =
    let within = rw c.in-Some.is at c.in_ok-leaf.ensures.within in
    let place = rw c.in-Some-place.is at c.place.ensures.place in
    let m1 = g.S.RecordRead.meaning c.leaf_for.new.store in
    let m2 = g.S.RecordRead.meaning c.write_node.new.store in
    let node = c.to_node-node.result in
    let W : Content → Type 0 = λ n. m2 ≡ after_write m1 c.in-Some.leaf.at (Some (tree_node_words (record n { entries = remove n.entries c.in-Some-place.index }))) in
    removes_entry c.size-size.result c.args.root c.in-Some.leaf.at c.in-Some-place.index c.args.key (g.S.RecordRead.meaning c.args.store.now) m1 m2 (content_at c.in-Some.leaf.words)
    c.size-size.ensures.size c.in_ok-leaf.ensures.walk.by.only (λ state agrees. rw c.in-Some.is at (c.in_ok-leaf.ensures.leaf state agrees)) within.1.sound.rising place
    (subst W c.to_node-node.ensures
    (written_as m1 c.in-Some.leaf.at c.cells.ensures c.in_ok-write_node.ensures.ok ∙ ap (λ es. after_write m1 c.in-Some.leaf.at (Some (tree_node_words (let n : Content = record { kind = node.kind; low = node.low; entries = es; next = node.next } in n)))) c.remove.ensures.items))

pub returns-in_err-leaf-clause-few : goal.returns-in_err-leaf-clause-few
returns-in_err-leaf-clause-few g c = read_few (g.S.RecordRead.meaning c.args.store.now) (g.S.RecordRead.meaning c.leaf_for.new.store) c.leaf_for.ensures.walk.by.only

pub returns-in_default-clause-few : goal.returns-in_default-clause-few
returns-in_default-clause-few g c = read_few (g.S.RecordRead.meaning c.args.store.now) (g.S.RecordRead.meaning c.leaf_for.new.store) c.leaf_for.ensures.walk.by.only

pub returns-in_default-place-clause-few : goal.returns-in_default-place-clause-few
returns-in_default-place-clause-few g c = read_few (g.S.RecordRead.meaning c.args.store.now) (g.S.RecordRead.meaning c.leaf_for.new.store) c.leaf_for.ensures.walk.by.only

pub returns-in_err-write_node-clause-few : goal.returns-in_err-write_node-clause-few
returns-in_err-write_node-clause-few g c = wrote_none 1 (g.S.RecordRead.meaning c.args.store.now) (g.S.RecordRead.meaning c.leaf_for.new.store) (g.S.RecordRead.meaning c.write_node.new.store) (read_few (g.S.RecordRead.meaning c.args.store.now) (g.S.RecordRead.meaning c.leaf_for.new.store) c.leaf_for.ensures.walk.by.only) c.in_err-write_node.ensures.err

pub returns-clause-few : goal.returns-clause-few
returns-clause-few g c = wrote_one 0 (g.S.RecordRead.meaning c.args.store.now) (g.S.RecordRead.meaning c.leaf_for.new.store) (g.S.RecordRead.meaning c.write_node.new.store) _ _ (nodes-none (g.S.RecordRead.meaning c.args.store.now) (g.S.RecordRead.meaning c.leaf_for.new.store) (writes_same (g.S.RecordRead.meaning c.args.store.now) (g.S.RecordRead.meaning c.leaf_for.new.store) c.leaf_for.ensures.walk.by.only)) (written_as (g.S.RecordRead.meaning c.leaf_for.new.store) c.in-Some.leaf.at c.cells.ensures c.in_ok-write_node.ensures.ok)

-- what is written and given
pub returns-in_err-leaf-clause-writes : goal.returns-in_err-leaf-clause-writes
returns-in_err-leaf-clause-writes g c =
    known-reads (g.S.RecordRead.meaning c.args.store.now) (g.S.RecordRead.meaning c.leaf_for.new.store) c.leaf_for.ensures.walk.by.only

pub returns-in_default-clause-writes : goal.returns-in_default-clause-writes
returns-in_default-clause-writes g c =
    known-reads (g.S.RecordRead.meaning c.args.store.now) (g.S.RecordRead.meaning c.leaf_for.new.store) c.leaf_for.ensures.walk.by.only

pub returns-in_default-place-clause-writes : goal.returns-in_default-place-clause-writes
returns-in_default-place-clause-writes g c =
    known-reads (g.S.RecordRead.meaning c.args.store.now) (g.S.RecordRead.meaning c.leaf_for.new.store) c.leaf_for.ensures.walk.by.only

pub returns-in_err-write_node-clause-writes : goal.returns-in_err-write_node-clause-writes
returns-in_err-write_node-clause-writes g c =
    let tried = (tries c.write_node.result (g.S.RecordRead.meaning c.leaf_for.new.store) (g.S.RecordRead.meaning c.write_node.new.store) c.in-Some.leaf.at _ c.write_node.ensures.ok c.write_node.ensures.err) in
    known-found 0 (g.S.RecordRead.meaning c.args.store.now) (g.S.RecordRead.meaning c.leaf_for.new.store) (g.S.RecordRead.meaning c.write_node.new.store) c.in-Some.leaf.at c.in_ok-leaf.ensures.walk.by.only tried.reads tried.given tried.only (λ state agrees. (let is = rw c.in-Some.is at (c.in_ok-leaf.ensures.leaf state agrees) in (is.at.words, is.at.here)))

pub returns-clause-writes : goal.returns-clause-writes
returns-clause-writes g c =
    let tried = (tries c.write_node.result (g.S.RecordRead.meaning c.leaf_for.new.store) (g.S.RecordRead.meaning c.write_node.new.store) c.in-Some.leaf.at _ c.write_node.ensures.ok c.write_node.ensures.err) in
    known-found 0 (g.S.RecordRead.meaning c.args.store.now) (g.S.RecordRead.meaning c.leaf_for.new.store) (g.S.RecordRead.meaning c.write_node.new.store) c.in-Some.leaf.at c.in_ok-leaf.ensures.walk.by.only tried.reads tried.given tried.only (λ state agrees. (let is = rw c.in-Some.is at (c.in_ok-leaf.ensures.leaf state agrees) in (is.at.words, is.at.here)))

-- the walk ended well
pub returns-in_default-clause-walked : goal.returns-in_default-clause-walked
returns-in_default-clause-walked g c =
    leaf_ends (g.S.RecordRead.meaning c.args.store.now).size c.args.root c.args.key c.size-size.result (g.S.RecordRead.meaning c.args.store.now) (g.S.RecordRead.meaning c.leaf_for.new.store) (g.S.RecordRead.meaning c.leaf_for.new.store) c.in_ok-leaf.field-0 c.size-size.ensures.size (extends-refl (g.S.RecordRead.meaning c.leaf_for.new.store).reads) c.in_ok-leaf.ensures.leaf

pub returns-in_default-place-clause-walked : goal.returns-in_default-place-clause-walked
returns-in_default-place-clause-walked g c =
    leaf_ends (g.S.RecordRead.meaning c.args.store.now).size c.args.root c.args.key c.size-size.result (g.S.RecordRead.meaning c.args.store.now) (g.S.RecordRead.meaning c.leaf_for.new.store) (g.S.RecordRead.meaning c.leaf_for.new.store) c.in_ok-leaf.field-0 c.size-size.ensures.size (extends-refl (g.S.RecordRead.meaning c.leaf_for.new.store).reads) c.in_ok-leaf.ensures.leaf

pub returns-clause-walked : goal.returns-clause-walked
returns-clause-walked g c =
    leaf_ends (g.S.RecordRead.meaning c.args.store.now).size c.args.root c.args.key c.size-size.result (g.S.RecordRead.meaning c.args.store.now) (g.S.RecordRead.meaning c.leaf_for.new.store) (g.S.RecordRead.meaning c.write_node.new.store) c.in_ok-leaf.field-0 c.size-size.ensures.size (ReadsGrow-write (g.S.RecordRead.meaning c.leaf_for.new.store) (g.S.RecordRead.meaning c.leaf_for.new.store) (g.S.RecordRead.meaning c.write_node.new.store) _ _ (ReadsGrow-refl (g.S.RecordRead.meaning c.leaf_for.new.store)) c.in_ok-write_node.ensures.ok).reads c.in_ok-leaf.ensures.leaf

-- how the walk went
pub returns-in_err-leaf-clause-walk : goal.returns-in_err-leaf-clause-walk
returns-in_err-leaf-clause-walk g c = calls_reads _ c.args.store.now c.leaf_for.new.store c.from_residual.result (reads_moved c.args.store.now c.leaf_for.new.store c.from_residual.result c.leaf_for.result c.in_err-leaf.field-0.0 c.in_err-leaf.was c.from_residual.ensures.1 c.leaf_for.ensures.walk)

pub returns-in_default-clause-walk : goal.returns-in_default-clause-walk
returns-in_default-clause-walk g c = calls_reads _ c.args.store.now c.leaf_for.new.store _ (reads_quiet c.args.store.now c.leaf_for.new.store _ c.leaf_for.result (tt, tt) c.leaf_for.ensures.walk)

pub returns-in_default-place-clause-walk : goal.returns-in_default-place-clause-walk
returns-in_default-place-clause-walk g c = calls_reads _ c.args.store.now c.leaf_for.new.store _ (reads_quiet c.args.store.now c.leaf_for.new.store _ c.leaf_for.result (tt, tt) c.leaf_for.ensures.walk)

pub returns-in_err-write_node-clause-walk : goal.returns-in_err-write_node-clause-walk
returns-in_err-write_node-clause-walk g c = calls_moved c.args.store.now c.write_node.new.store c.from_residual-in_err-write_node.result c.write_node.result c.in_err-write_node.field-0.0 c.in_err-write_node.was c.from_residual-in_err-write_node.ensures.1 (calls_behind (λ _. ⊥) 0 c.args.store.now c.leaf_for.new.store c.write_node.new.store c.leaf_for.result c.write_node.result c.leaf_for.ensures.walk c.write_node.ensures.walk (λ asks never. never))

pub returns-clause-walk : goal.returns-clause-walk
returns-clause-walk g c = calls_quiet _ c.args.store.now c.write_node.new.store _ c.write_node.result (tt, tt) (calls_behind (λ _. ⊥) 0 c.args.store.now c.leaf_for.new.store c.write_node.new.store c.leaf_for.result c.write_node.result c.leaf_for.ensures.walk c.write_node.ensures.walk (λ asks never. never))
