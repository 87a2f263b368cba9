use Rattle.std.proofs.Common.{get_or, ap, ◌∙◌}
use Rattle.std.specs.Prelude.{swap_remove}
use Rattle.record_store.proofs.Refusals.{torn_moved, IfTorn-map}
use Rattle.record_store.proofs.Agreement.{written_as}
use Rattle.record_store.proofs.Known.{few-reads, few-tried, tries, known-reads, known-found}
use Rattle.hash_index.proofs.Chains.{each_absent, is_torn}
use Rattle.hash_index.proofs.Removed.{removes_pair, removes_nothing}
use Rattle.hash_index.proofs.Ends.{walked_written}
use Rattle.record_store.proofs.Going.{reads_moved, reads_quiet, calls_reads, calls_behind, calls_moved, calls_quiet}
use Rattle.hash_index.proofs.index.remove.Goals as goal

pub returns-in_ok-write_node-in-Found-clause-ok : goal.returns-in_ok-write_node-in-Found-clause-ok
returns-in_ok-write_node-in-Found-clause-ok g c =
    let within = rw c.in-Found.is at c.in_ok-link.ensures.within in
    removes_pair c.size-size.result c.args.base c.args.key c.in-Found.index (g.S.RecordRead.meaning c.args.store.now) (g.S.RecordRead.meaning c.search.new.store) (g.S.RecordRead.meaning c.write_node.new.store) c.in-Found.link c.swap_remove.result c.swap_remove.new.self.items
    c.size-size.ensures.size c.in_ok-link.ensures.walk.by.only (λ state agrees. rw c.in-Found.is at (c.in_ok-link.ensures.place state agrees)) within.1 (c.swap_remove.ensures.value ∙ ap (λ ps. get_or ps c.in-Found.index c.swap_remove.result) c.all_pairs-pairs.ensures)
    (c.swap_remove.ensures.items ∙ ap (λ ps. swap_remove ps c.in-Found.index c.swap_remove.result) c.all_pairs-pairs.ensures) (written_as (g.S.RecordRead.meaning c.search.new.store) c.in-Found.link.at c.node_cells-cells.ensures c.in_ok-write_node-in-Found.ensures.ok)

pub returns-in-Room-clause-ok : goal.returns-in-Room-clause-ok
returns-in-Room-clause-ok g c = removes_nothing c.args.base c.args.key _ _ c.in_ok-link.ensures.walk.by.only (each_absent c.in_ok-link.field-0 c.size-size.result c.args.base c.args.key (g.S.RecordRead.meaning c.args.store.now) (g.S.RecordRead.meaning c.search.new.store) c.size-size.ensures.size c.in-Room.is c.in_ok-link.ensures.place)

pub returns-in_err-link-clause-torn : goal.returns-in_err-link-clause-torn
returns-in_err-link-clause-torn g c =
    torn_moved c.from_residual.result c.search.result c.in_err-link.field-0.0 _ c.in_err-link.was c.from_residual.ensures.1
    (IfTorn-map c.search.result (λ rid. is_torn c.args.base c.args.key c.size-size.result rid _ _ c.size-size.ensures.size) c.search.ensures.torn)

pub returns-in_ok-write_node-in-Found-clause-walked : goal.returns-in_ok-write_node-in-Found-clause-walked
returns-in_ok-write_node-in-Found-clause-walked g c =
    walked_written c.size-size.result _ c.args.key _ _ (g.S.RecordRead.meaning c.args.store.now) (g.S.RecordRead.meaning c.search.new.store) (g.S.RecordRead.meaning c.write_node.new.store) c.size-size.ensures.size c.in_ok-link.ensures.walked c.in_ok-write_node-in-Found.ensures.ok

-- what is written and given
pub returns-in_err-link-clause-writes : goal.returns-in_err-link-clause-writes
returns-in_err-link-clause-writes g c = known-reads (g.S.RecordRead.meaning c.args.store.now) (g.S.RecordRead.meaning c.search.new.store) c.search.ensures.walk.by.only

pub returns-in_err-write_node-in-Found-clause-writes : goal.returns-in_err-write_node-in-Found-clause-writes
returns-in_err-write_node-in-Found-clause-writes g c =
    let tried = (tries c.write_node.result (g.S.RecordRead.meaning c.search.new.store) (g.S.RecordRead.meaning c.write_node.new.store) c.in-Found.link.at _ c.write_node.ensures.ok c.write_node.ensures.err) in
    known-found 0 (g.S.RecordRead.meaning c.args.store.now) (g.S.RecordRead.meaning c.search.new.store) (g.S.RecordRead.meaning c.write_node.new.store) c.in-Found.link.at c.in_ok-link.ensures.walk.by.only tried.reads tried.given tried.only (λ state agrees. (let here = rw c.in-Found.is at (c.in_ok-link.ensures.place state agrees) in (here.words, here.stands.here)))

pub returns-in_ok-write_node-in-Found-clause-writes : goal.returns-in_ok-write_node-in-Found-clause-writes
returns-in_ok-write_node-in-Found-clause-writes g c =
    let tried = (tries c.write_node.result (g.S.RecordRead.meaning c.search.new.store) (g.S.RecordRead.meaning c.write_node.new.store) c.in-Found.link.at _ c.write_node.ensures.ok c.write_node.ensures.err) in
    known-found 0 (g.S.RecordRead.meaning c.args.store.now) (g.S.RecordRead.meaning c.search.new.store) (g.S.RecordRead.meaning c.write_node.new.store) c.in-Found.link.at c.in_ok-link.ensures.walk.by.only tried.reads tried.given tried.only (λ state agrees. (let here = rw c.in-Found.is at (c.in_ok-link.ensures.place state agrees) in (here.words, here.stands.here)))

pub returns-in-Room-clause-writes : goal.returns-in-Room-clause-writes
returns-in-Room-clause-writes g c = known-reads (g.S.RecordRead.meaning c.args.store.now) (g.S.RecordRead.meaning c.search.new.store) c.in_ok-link.ensures.walk.by.only

-- how many records are written
pub returns-in_err-link-clause-few : goal.returns-in_err-link-clause-few
returns-in_err-link-clause-few g c = few-reads 1 (g.S.RecordRead.meaning c.args.store.now) (g.S.RecordRead.meaning c.search.new.store) c.search.ensures.walk.by.only

pub returns-in_err-write_node-in-Found-clause-few : goal.returns-in_err-write_node-in-Found-clause-few
returns-in_err-write_node-in-Found-clause-few g c = few-tried (g.S.RecordRead.meaning c.args.store.now) (g.S.RecordRead.meaning c.search.new.store) (g.S.RecordRead.meaning c.write_node.new.store) c.in-Found.link.at c.in_ok-link.ensures.walk.by.only (tries c.write_node.result (g.S.RecordRead.meaning c.search.new.store) (g.S.RecordRead.meaning c.write_node.new.store) c.in-Found.link.at _ c.write_node.ensures.ok c.write_node.ensures.err)

pub returns-in_ok-write_node-in-Found-clause-few : goal.returns-in_ok-write_node-in-Found-clause-few
returns-in_ok-write_node-in-Found-clause-few g c = few-tried (g.S.RecordRead.meaning c.args.store.now) (g.S.RecordRead.meaning c.search.new.store) (g.S.RecordRead.meaning c.write_node.new.store) c.in-Found.link.at c.in_ok-link.ensures.walk.by.only (tries c.write_node.result (g.S.RecordRead.meaning c.search.new.store) (g.S.RecordRead.meaning c.write_node.new.store) c.in-Found.link.at _ c.write_node.ensures.ok c.write_node.ensures.err)

pub returns-in-Room-clause-few : goal.returns-in-Room-clause-few
returns-in-Room-clause-few g c = few-reads 1 (g.S.RecordRead.meaning c.args.store.now) (g.S.RecordRead.meaning c.search.new.store) c.in_ok-link.ensures.walk.by.only

-- how the walk went
pub returns-in_err-link-clause-walk : goal.returns-in_err-link-clause-walk
returns-in_err-link-clause-walk g c = calls_reads _ c.args.store.now c.search.new.store c.from_residual.result (reads_moved c.args.store.now c.search.new.store c.from_residual.result c.search.result c.in_err-link.field-0.0 c.in_err-link.was c.from_residual.ensures.1 c.search.ensures.walk)

pub returns-in_err-write_node-in-Found-clause-walk : goal.returns-in_err-write_node-in-Found-clause-walk
returns-in_err-write_node-in-Found-clause-walk g c = calls_moved c.args.store.now c.write_node.new.store c.from_residual-in_err-write_node-in-Found.result c.write_node.result c.in_err-write_node-in-Found.field-0.0 c.in_err-write_node-in-Found.was c.from_residual-in_err-write_node-in-Found.ensures.1 (calls_behind _ 0 c.args.store.now c.search.new.store c.write_node.new.store c.search.result c.write_node.result c.search.ensures.walk c.write_node.ensures.walk (λ asks never. never))

pub returns-in_ok-write_node-in-Found-clause-walk : goal.returns-in_ok-write_node-in-Found-clause-walk
returns-in_ok-write_node-in-Found-clause-walk g c = calls_quiet _ c.args.store.now c.write_node.new.store _ c.write_node.result (tt, tt) (calls_behind (λ _. ⊥) 0 c.args.store.now c.search.new.store c.write_node.new.store c.search.result c.write_node.result c.search.ensures.walk c.write_node.ensures.walk (λ asks never. never))

pub returns-in-Room-clause-walk : goal.returns-in-Room-clause-walk
returns-in-Room-clause-walk g c = calls_reads _ c.args.store.now c.search.new.store _ (reads_quiet c.args.store.now c.search.new.store _ c.search.result (tt, tt) c.search.ensures.walk)
