use Rattle.std.proofs.Common.{length}
use Rattle.record_store.proofs.Agreement.{extends-refl}
use Rattle.record_store.proofs.Going.{reads_moved, reads_quiet, calls_reads, calls_behind}
use Rattle.record_store.proofs.Refusals.{torn_moved, IfTorn-map}
use Rattle.ordered_index.specs.Standing.{content_at}
use Rattle.ordered_index.specs.Walk.{node_of}
use Rattle.ordered_index.proofs.Beside.{none_stored, ok_map, on_ok}
use Rattle.ordered_index.proofs.Reclaiming.{reclaims_low, reclaims_full, reclaims_leaf, has_entries, has_two, no_entries, names_three, torn_early, torn_beside, each_ends, writes_found}
use Rattle.ordered_index.proofs.giving.reclaim.Goals as goal

pub returns-in_err-under-clause-torn : goal.returns-in_err-under-clause-torn
returns-in_err-under-clause-torn g c = torn_moved c.from_residual.result c.leaf_under.result c.in_err-under.field-0.0 _ c.in_err-under.was c.from_residual.ensures.1 (IfTorn-map c.leaf_under.result (λ rid. torn_early c.args.root c.size-size.result rid c.args.key (g.S.RecordRead.meaning c.args.store.now) (g.S.RecordRead.meaning c.leaf_under.new.store) c.size-size.ensures.size) c.leaf_under.ensures.torn)

pub returns-in_default-clause-ok : goal.returns-in_default-clause-ok
returns-in_default-clause-ok g c = reclaims_low c.args.root c.size-size.result c.args.key c.new.result.items (g.S.RecordRead.meaning c.args.store.now) (g.S.RecordRead.meaning c.leaf_under.new.store) c.in_ok-under.field-0 c.size-size.ensures.size c.new.ensures c.leaf_under.ensures.walk.by.only c.in_default.is c.in_ok-under.ensures.under

pub returns-then-count-gt0-clause-ok : goal.returns-then-count-gt0-clause-ok
returns-then-count-gt0-clause-ok g c = reclaims_full c.args.root c.size-size.result c.args.key c.new-then-count-gt0.result.items (g.S.RecordRead.meaning c.args.store.now) (g.S.RecordRead.meaning c.leaf_under.new.store) (node_of c.in-Some.under.parent) (node_of c.in-Some.under.leaf) c.size-size.ensures.size c.new-then-count-gt0.ensures c.leaf_under.ensures.walk.by.only (λ state agrees. rw c.in-Some.is at (c.in_ok-under.ensures.under state agrees)) (has_entries (length (content_at c.in-Some.under.leaf.words).entries) (length (content_at c.in-Some.under.parent.words).entries) (rw c.count.ensures at c.if-count-gt0.true))

pub returns-then-count-gt0-clause-walked : goal.returns-then-count-gt0-clause-walked
returns-then-count-gt0-clause-walked g c = each_ends c.args.root c.size-size.result c.args.key (g.S.RecordRead.meaning c.args.store.now) (g.S.RecordRead.meaning c.leaf_under.new.store) (g.S.RecordRead.meaning c.leaf_under.new.store) c.in_ok-under.field-0 c.size-size.ensures.size (extends-refl (g.S.RecordRead.meaning c.leaf_under.new.store).reads) c.in_ok-under.ensures.under

pub returns-then-count-eq2-clause-ok : goal.returns-then-count-eq2-clause-ok
returns-then-count-eq2-clause-ok g c = reclaims_full c.args.root c.size-size.result c.args.key c.new-then-count-eq2.result.items (g.S.RecordRead.meaning c.args.store.now) (g.S.RecordRead.meaning c.leaf_under.new.store) (node_of c.in-Some.under.parent) (node_of c.in-Some.under.leaf) c.size-size.ensures.size c.new-then-count-eq2.ensures c.leaf_under.ensures.walk.by.only (λ state agrees. rw c.in-Some.is at (c.in_ok-under.ensures.under state agrees)) (has_two (length (content_at c.in-Some.under.leaf.words).entries) (length (content_at c.in-Some.under.parent.words).entries) (rw c.count-2.ensures at c.if-count-eq2.true))

pub returns-then-count-eq2-clause-walked : goal.returns-then-count-eq2-clause-walked
returns-then-count-eq2-clause-walked g c = each_ends c.args.root c.size-size.result c.args.key (g.S.RecordRead.meaning c.args.store.now) (g.S.RecordRead.meaning c.leaf_under.new.store) (g.S.RecordRead.meaning c.leaf_under.new.store) c.in_ok-under.field-0 c.size-size.ensures.size (extends-refl (g.S.RecordRead.meaning c.leaf_under.new.store).reads) c.in_ok-under.ensures.under

pub returns-clause-ok : goal.returns-clause-ok
returns-clause-ok g c =
    let within = (rw c.in-Some.is at c.in_ok-under.ensures.within) in
    let none = no_entries (content_at c.in-Some.under.leaf.words).entries (rw c.count.ensures at c.if-count-gt0.false) in
    let three = names_three c.size-size.result (content_at c.in-Some.under.parent.words) within.parent_node.sound within.parent_kind (rw c.count-2.ensures at c.if-count-eq2.false) in
    ok_map c.give_back.result (λ freed joins. reclaims_leaf c.args.root c.size-size.result c.args.key freed.items (g.S.RecordRead.meaning c.args.store.now) (g.S.RecordRead.meaning c.leaf_under.new.store) (g.S.RecordRead.meaning c.give_back.new.store) (node_of c.in-Some.under.parent) (node_of c.in-Some.under.leaf) c.size-size.ensures.size c.leaf_under.ensures.walk.by.only (λ state agrees. rw c.in-Some.is at (c.in_ok-under.ensures.under state agrees)) none three joins) c.give_back.ensures.ok

pub returns-clause-walked : goal.returns-clause-walked
returns-clause-walked g c = on_ok c.give_back.result (each_ends c.args.root c.size-size.result c.args.key (g.S.RecordRead.meaning c.args.store.now) (g.S.RecordRead.meaning c.leaf_under.new.store) (g.S.RecordRead.meaning c.give_back.new.store) c.in_ok-under.field-0 c.size-size.ensures.size c.give_back.ensures.walk.by.grow.reads c.in_ok-under.ensures.under)

pub returns-clause-torn : goal.returns-clause-torn
returns-clause-torn g c = IfTorn-map c.give_back.result (λ rid. torn_beside c.args.root c.size-size.result rid c.args.key (g.S.RecordRead.meaning c.args.store.now) (g.S.RecordRead.meaning c.leaf_under.new.store) (g.S.RecordRead.meaning c.give_back.new.store) (node_of c.in-Some.under.parent) (node_of c.in-Some.under.leaf) c.size-size.ensures.size c.leaf_under.ensures.walk.by.only c.give_back.ensures.walk.by.grow.reads (λ state agrees. rw c.in-Some.is at (c.in_ok-under.ensures.under state agrees))) c.give_back.ensures.torn

-- which records are written
pub returns-clause-writes : goal.returns-clause-writes
returns-clause-writes g c = writes_found c.args.root c.size-size.result c.args.key (g.S.RecordRead.meaning c.args.store.now) (g.S.RecordRead.meaning c.leaf_under.new.store) (g.S.RecordRead.meaning c.give_back.new.store) (node_of c.in-Some.under.parent) (node_of c.in-Some.under.leaf) c.leaf_under.ensures.walk.by.only c.give_back.ensures.walk.by.grow.reads (λ state agrees. rw c.in-Some.is at (c.in_ok-under.ensures.under state agrees)) c.give_back.ensures.writes

-- how the walk went
pub returns-in_err-under-clause-walk : goal.returns-in_err-under-clause-walk
returns-in_err-under-clause-walk g c = calls_reads _ c.args.store.now c.leaf_under.new.store c.from_residual.result (reads_moved c.args.store.now c.leaf_under.new.store c.from_residual.result c.leaf_under.result c.in_err-under.field-0.0 c.in_err-under.was c.from_residual.ensures.1 c.leaf_under.ensures.walk)

pub returns-in_default-clause-walk : goal.returns-in_default-clause-walk
returns-in_default-clause-walk g c = calls_reads _ c.args.store.now c.leaf_under.new.store _ (reads_quiet c.args.store.now c.leaf_under.new.store _ c.leaf_under.result (tt, tt) c.leaf_under.ensures.walk)

pub returns-then-count-gt0-clause-walk : goal.returns-then-count-gt0-clause-walk
returns-then-count-gt0-clause-walk g c = calls_reads _ c.args.store.now c.leaf_under.new.store _ (reads_quiet c.args.store.now c.leaf_under.new.store _ c.leaf_under.result (tt, tt) c.leaf_under.ensures.walk)

pub returns-then-count-eq2-clause-walk : goal.returns-then-count-eq2-clause-walk
returns-then-count-eq2-clause-walk g c = calls_reads _ c.args.store.now c.leaf_under.new.store _ (reads_quiet c.args.store.now c.leaf_under.new.store _ c.leaf_under.result (tt, tt) c.leaf_under.ensures.walk)

pub returns-clause-walk : goal.returns-clause-walk
returns-clause-walk g c = calls_behind (λ _. ⊥) 0 c.args.store.now c.leaf_under.new.store c.give_back.new.store c.leaf_under.result c.give_back.result c.leaf_under.ensures.walk c.give_back.ensures.walk (λ asks never. never)

pub returns-in_default-clause-stored : goal.returns-in_default-clause-stored
returns-in_default-clause-stored g c = none_stored (g.S.RecordRead.meaning c.args.store.now).size c.new.result.items c.new.ensures

pub returns-then-count-gt0-clause-stored : goal.returns-then-count-gt0-clause-stored
returns-then-count-gt0-clause-stored g c = none_stored (g.S.RecordRead.meaning c.args.store.now).size c.new-then-count-gt0.result.items c.new-then-count-gt0.ensures

pub returns-then-count-eq2-clause-stored : goal.returns-then-count-eq2-clause-stored
returns-then-count-eq2-clause-stored g c = none_stored (g.S.RecordRead.meaning c.args.store.now).size c.new-then-count-eq2.result.items c.new-then-count-eq2.ensures

pub returns-clause-stored : goal.returns-clause-stored
returns-clause-stored g c = rw (← c.size-size.ensures.size) c.give_back.ensures.stored
