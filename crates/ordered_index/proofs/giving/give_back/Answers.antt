use Rattle.std.proofs.Common.{arith}
use Rattle.record_store.proofs.Agreement.{writes_same}
use Rattle.record_store.proofs.Going.{reads_moved, calls_reads, calls_behind}
use Rattle.record_store.proofs.Refusals.{torn_moved, IfTorn-map}
use Rattle.ordered_index.specs.Standing.{content_at}
use Rattle.ordered_index.proofs.Beside.{ok_map, one_stored, none_beside_right, none_beside_left, writes_found_right, writes_found_left, joins_right, joins_left, joins_each}
use Rattle.ordered_index.proofs.Freeing.{frees-none, frees-weaken}
use Rattle.ordered_index.proofs.giving.give_back.Goals as goal

pub returns-in_err-beside-clause-torn : goal.returns-in_err-beside-clause-torn
returns-in_err-beside-clause-torn g c = torn_moved c.from_residual.result c.read_leaf.result c.in_err-beside.field-0.0 _ c.in_err-beside.was c.from_residual.ensures.1 (IfTorn-map c.read_leaf.result (λ rid torn. none_beside_right c.args.size c.args.key (content_at c.args.under.now.parent.words).entries c.rank_of-rank.result c.entry.result (g.S.RecordRead.meaning c.args.store.now) (g.S.RecordRead.meaning c.read_leaf.new.store) rid c.entry.ensures (rw c.count.ensures at c.if-rank-count.true) c.requires.some c.rank_of-rank.ensures.within torn.0 torn.1) c.read_leaf.ensures.torn)

pub returns-in_err-beside-clause-few : goal.returns-in_err-beside-clause-few
returns-in_err-beside-clause-few g c = frees-weaken 0 3 (g.S.RecordRead.meaning c.args.store.now) (g.S.RecordRead.meaning c.read_leaf.new.store) (omega arith) (frees-none (g.S.RecordRead.meaning c.args.store.now) (g.S.RecordRead.meaning c.read_leaf.new.store) (writes_same (g.S.RecordRead.meaning c.args.store.now) (g.S.RecordRead.meaning c.read_leaf.new.store) c.read_leaf.ensures.walk.by.only))

pub returns-in_err-beside-clause-walk : goal.returns-in_err-beside-clause-walk
returns-in_err-beside-clause-walk g c = calls_reads _ c.args.store.now c.read_leaf.new.store c.from_residual.result (reads_moved c.args.store.now c.read_leaf.new.store c.from_residual.result c.read_leaf.result c.in_err-beside.field-0.0 c.in_err-beside.was c.from_residual.ensures.1 c.read_leaf.ensures.walk)

pub returns-then-rank-count-clause-walk : goal.returns-then-rank-count-clause-walk
returns-then-rank-count-clause-walk g c = calls_behind (λ _. ⊥) 0 c.args.store.now c.read_leaf.new.store c.join_leaves.new.store c.read_leaf.result c.join_leaves.result c.read_leaf.ensures.walk c.join_leaves.ensures.walk (λ asks never. never)

pub returns-then-rank-count-clause-writes : goal.returns-then-rank-count-clause-writes
returns-then-rank-count-clause-writes g c = writes_found_right (g.S.RecordRead.meaning c.args.store.now) (g.S.RecordRead.meaning c.read_leaf.new.store) (g.S.RecordRead.meaning c.join_leaves.new.store) c.args.size c.args.under.now.parent.at c.args.under.now.leaf.at c.in_ok-beside.beside c.read_leaf.ensures.walk.by.only c.join_leaves.ensures.walk.by.grow.reads c.join_leaves.ensures.writes c.in_ok-beside.ensures.read

pub returns-then-rank-count-clause-ok : goal.returns-then-rank-count-clause-ok
returns-then-rank-count-clause-ok g c = joins_each c.join_leaves.result (λ wrote freed gave. joins_right c.args.size c.args.key c.args.under.now c.entry.result c.rank_of-rank.result c.in_ok-beside.beside (g.S.RecordRead.meaning c.args.store.now) (g.S.RecordRead.meaning c.read_leaf.new.store) (g.S.RecordRead.meaning c.join_leaves.new.store) freed.items c.requires.under c.entry.ensures (rw c.count.ensures at c.if-rank-count.true) c.rank_of-rank.ensures.rank c.read_leaf.ensures.walk.by.only c.in_ok-beside.ensures.leaf c.in_ok-beside.ensures.read wrote gave) c.join_leaves.ensures.ok c.join_leaves.ensures.freed

pub returns-in_err-beside-2-clause-torn : goal.returns-in_err-beside-2-clause-torn
returns-in_err-beside-2-clause-torn g c = torn_moved c.from_residual-in_err-beside-2.result c.read_leaf-2.result c.in_err-beside-2.field-0.0 _ c.in_err-beside-2.was c.from_residual-in_err-beside-2.ensures.1 (IfTorn-map c.read_leaf-2.result (λ rid torn. none_beside_left c.args.size c.args.key (content_at c.args.under.now.parent.words).entries c.rank_of-rank.result c.entry-2.result (g.S.RecordRead.meaning c.args.store.now) (g.S.RecordRead.meaning c.read_leaf-2.new.store) rid c.entry-2.ensures (rw c.count.ensures at c.if-rank-count.false) c.requires.some c.rank_of-rank.ensures.within torn.0 torn.1) c.read_leaf-2.ensures.torn)

pub returns-in_err-beside-2-clause-few : goal.returns-in_err-beside-2-clause-few
returns-in_err-beside-2-clause-few g c = frees-weaken 0 3 (g.S.RecordRead.meaning c.args.store.now) (g.S.RecordRead.meaning c.read_leaf-2.new.store) (omega arith) (frees-none (g.S.RecordRead.meaning c.args.store.now) (g.S.RecordRead.meaning c.read_leaf-2.new.store) (writes_same (g.S.RecordRead.meaning c.args.store.now) (g.S.RecordRead.meaning c.read_leaf-2.new.store) c.read_leaf-2.ensures.walk.by.only))

pub returns-in_err-beside-2-clause-walk : goal.returns-in_err-beside-2-clause-walk
returns-in_err-beside-2-clause-walk g c = calls_reads _ c.args.store.now c.read_leaf-2.new.store c.from_residual-in_err-beside-2.result (reads_moved c.args.store.now c.read_leaf-2.new.store c.from_residual-in_err-beside-2.result c.read_leaf-2.result c.in_err-beside-2.field-0.0 c.in_err-beside-2.was c.from_residual-in_err-beside-2.ensures.1 c.read_leaf-2.ensures.walk)

pub returns-clause-walk : goal.returns-clause-walk
returns-clause-walk g c = calls_behind (λ _. ⊥) 0 c.args.store.now c.read_leaf-2.new.store c.join_leaves-2.new.store c.read_leaf-2.result c.join_leaves-2.result c.read_leaf-2.ensures.walk c.join_leaves-2.ensures.walk (λ asks never. never)

pub returns-clause-writes : goal.returns-clause-writes
returns-clause-writes g c = writes_found_left (g.S.RecordRead.meaning c.args.store.now) (g.S.RecordRead.meaning c.read_leaf-2.new.store) (g.S.RecordRead.meaning c.join_leaves-2.new.store) c.args.size c.args.under.now.parent.at c.args.under.now.leaf.at c.in_ok-beside-2.beside c.read_leaf-2.ensures.walk.by.only c.join_leaves-2.ensures.walk.by.grow.reads c.join_leaves-2.ensures.writes c.in_ok-beside-2.ensures.read

pub returns-clause-ok : goal.returns-clause-ok
returns-clause-ok g c = joins_each c.join_leaves-2.result (λ wrote freed gave. joins_left c.args.size c.args.key c.args.under.now c.entry-2.result c.rank_of-rank.result c.in_ok-beside-2.beside (g.S.RecordRead.meaning c.args.store.now) (g.S.RecordRead.meaning c.read_leaf-2.new.store) (g.S.RecordRead.meaning c.join_leaves-2.new.store) freed.items c.requires.under c.entry-2.ensures (rw c.count.ensures at c.if-rank-count.false) c.requires.some c.rank_of-rank.ensures.rank c.read_leaf-2.ensures.walk.by.only c.in_ok-beside-2.ensures.leaf c.in_ok-beside-2.ensures.read wrote gave) c.join_leaves-2.ensures.ok c.join_leaves-2.ensures.freed

-- the record that is freed lies in the store
pub returns-then-rank-count-clause-stored : goal.returns-then-rank-count-clause-stored
returns-then-rank-count-clause-stored g c = ok_map c.join_leaves.result (λ freed is. one_stored c.args.size c.in_ok-beside.beside.at freed.items is c.in_ok-beside.ensures.leaf.within) c.join_leaves.ensures.freed

pub returns-clause-stored : goal.returns-clause-stored
returns-clause-stored g c = ok_map c.join_leaves-2.result (λ freed is. one_stored c.args.size c.args.under.now.leaf.at freed.items is c.requires.under.leaf_at) c.join_leaves-2.ensures.freed
