use Rattle.std.proofs.Common.{◌≡◌, ◌⊎◌, ◌+◌, None, Some, refl, ap, arith, inl, inr}
use Rattle.record_store.proofs.Going.{calls_moved, calls_quiet, calls_never}
use Rattle.record_store.proofs.Known.{tries, goes-tried, goes-trans}
use Rattle.ordered_index.proofs.Freeing.{frees-tried, frees-trans, frees-weaken}
use Rattle.ordered_index.proofs.giving.join_leaves.Goals as goal

-- how many records are written, each as a node or as an absent record
pub returns-in_err-free_node-clause-few : goal.returns-in_err-free_node-clause-few
returns-in_err-free_node-clause-few g c = frees-weaken (1 + 1) 3 (g.S.RecordRead.meaning c.args.store.now) (g.S.RecordRead.meaning c.free_node.new.store) (omega arith) (frees-trans 1 1 (g.S.RecordRead.meaning c.args.store.now) (g.S.RecordRead.meaning c.write_node.new.store) (g.S.RecordRead.meaning c.free_node.new.store) (frees-tried c.write_node.result (g.S.RecordRead.meaning c.args.store.now) (g.S.RecordRead.meaning c.write_node.new.store) c.args.left.now.at _ (inr (_, ap (λ words. Some words) c.cells.ensures)) c.write_node.ensures.ok c.write_node.ensures.err) (frees-tried c.free_node.result (g.S.RecordRead.meaning c.write_node.new.store) (g.S.RecordRead.meaning c.free_node.new.store) c.args.right.now.at None (inl refl) c.free_node.ensures.ok c.free_node.ensures.err))

pub returns-in_err-write_node-2-clause-few : goal.returns-in_err-write_node-2-clause-few
returns-in_err-write_node-2-clause-few g c = frees-trans (1 + 1) 1 (g.S.RecordRead.meaning c.args.store.now) (g.S.RecordRead.meaning c.free_node.new.store) (g.S.RecordRead.meaning c.write_node-2.new.store) (frees-trans 1 1 (g.S.RecordRead.meaning c.args.store.now) (g.S.RecordRead.meaning c.write_node.new.store) (g.S.RecordRead.meaning c.free_node.new.store) (frees-tried c.write_node.result (g.S.RecordRead.meaning c.args.store.now) (g.S.RecordRead.meaning c.write_node.new.store) c.args.left.now.at _ (inr (_, ap (λ words. Some words) c.cells.ensures)) c.write_node.ensures.ok c.write_node.ensures.err) (frees-tried c.free_node.result (g.S.RecordRead.meaning c.write_node.new.store) (g.S.RecordRead.meaning c.free_node.new.store) c.args.right.now.at None (inl refl) c.free_node.ensures.ok c.free_node.ensures.err)) (frees-tried c.write_node-2.result (g.S.RecordRead.meaning c.free_node.new.store) (g.S.RecordRead.meaning c.write_node-2.new.store) c.args.parent.now.at _ (inr (_, ap (λ words. Some words) c.cells-2.ensures)) c.write_node-2.ensures.ok c.write_node-2.ensures.err)

pub returns-clause-few : goal.returns-clause-few
returns-clause-few g c = frees-trans (1 + 1) 1 (g.S.RecordRead.meaning c.args.store.now) (g.S.RecordRead.meaning c.free_node.new.store) (g.S.RecordRead.meaning c.write_node-2.new.store) (frees-trans 1 1 (g.S.RecordRead.meaning c.args.store.now) (g.S.RecordRead.meaning c.write_node.new.store) (g.S.RecordRead.meaning c.free_node.new.store) (frees-tried c.write_node.result (g.S.RecordRead.meaning c.args.store.now) (g.S.RecordRead.meaning c.write_node.new.store) c.args.left.now.at _ (inr (_, ap (λ words. Some words) c.cells.ensures)) c.write_node.ensures.ok c.write_node.ensures.err) (frees-tried c.free_node.result (g.S.RecordRead.meaning c.write_node.new.store) (g.S.RecordRead.meaning c.free_node.new.store) c.args.right.now.at None (inl refl) c.free_node.ensures.ok c.free_node.ensures.err)) (frees-tried c.write_node-2.result (g.S.RecordRead.meaning c.free_node.new.store) (g.S.RecordRead.meaning c.write_node-2.new.store) c.args.parent.now.at _ (inr (_, ap (λ words. Some words) c.cells-2.ensures)) c.write_node-2.ensures.ok c.write_node-2.ensures.err)

-- which
pub returns-in_err-free_node-clause-writes : goal.returns-in_err-free_node-clause-writes
returns-in_err-free_node-clause-writes g c = (goes-trans 0 0 (λ rid. (rid ≡ c.args.left.now.at) ⊎ (rid ≡ c.args.right.now.at) ⊎ (rid ≡ c.args.parent.now.at)) (g.S.RecordRead.meaning c.args.store.now) (g.S.RecordRead.meaning c.write_node.new.store) (g.S.RecordRead.meaning c.free_node.new.store) (goes-tried (λ rid. (rid ≡ c.args.left.now.at) ⊎ (rid ≡ c.args.right.now.at) ⊎ (rid ≡ c.args.parent.now.at)) (g.S.RecordRead.meaning c.args.store.now) (g.S.RecordRead.meaning c.write_node.new.store) c.args.left.now.at (tries c.write_node.result (g.S.RecordRead.meaning c.args.store.now) (g.S.RecordRead.meaning c.write_node.new.store) c.args.left.now.at _ c.write_node.ensures.ok c.write_node.ensures.err) (inl refl)) (goes-tried (λ rid. (rid ≡ c.args.left.now.at) ⊎ (rid ≡ c.args.right.now.at) ⊎ (rid ≡ c.args.parent.now.at)) (g.S.RecordRead.meaning c.write_node.new.store) (g.S.RecordRead.meaning c.free_node.new.store) c.args.right.now.at (tries c.free_node.result (g.S.RecordRead.meaning c.write_node.new.store) (g.S.RecordRead.meaning c.free_node.new.store) c.args.right.now.at None c.free_node.ensures.ok c.free_node.ensures.err) (inr (inl refl)))).only

pub returns-in_err-write_node-2-clause-writes : goal.returns-in_err-write_node-2-clause-writes
returns-in_err-write_node-2-clause-writes g c = (goes-trans 0 0 (λ rid. (rid ≡ c.args.left.now.at) ⊎ (rid ≡ c.args.right.now.at) ⊎ (rid ≡ c.args.parent.now.at)) (g.S.RecordRead.meaning c.args.store.now) (g.S.RecordRead.meaning c.free_node.new.store) (g.S.RecordRead.meaning c.write_node-2.new.store) (goes-trans 0 0 (λ rid. (rid ≡ c.args.left.now.at) ⊎ (rid ≡ c.args.right.now.at) ⊎ (rid ≡ c.args.parent.now.at)) (g.S.RecordRead.meaning c.args.store.now) (g.S.RecordRead.meaning c.write_node.new.store) (g.S.RecordRead.meaning c.free_node.new.store) (goes-tried (λ rid. (rid ≡ c.args.left.now.at) ⊎ (rid ≡ c.args.right.now.at) ⊎ (rid ≡ c.args.parent.now.at)) (g.S.RecordRead.meaning c.args.store.now) (g.S.RecordRead.meaning c.write_node.new.store) c.args.left.now.at (tries c.write_node.result (g.S.RecordRead.meaning c.args.store.now) (g.S.RecordRead.meaning c.write_node.new.store) c.args.left.now.at _ c.write_node.ensures.ok c.write_node.ensures.err) (inl refl)) (goes-tried (λ rid. (rid ≡ c.args.left.now.at) ⊎ (rid ≡ c.args.right.now.at) ⊎ (rid ≡ c.args.parent.now.at)) (g.S.RecordRead.meaning c.write_node.new.store) (g.S.RecordRead.meaning c.free_node.new.store) c.args.right.now.at (tries c.free_node.result (g.S.RecordRead.meaning c.write_node.new.store) (g.S.RecordRead.meaning c.free_node.new.store) c.args.right.now.at None c.free_node.ensures.ok c.free_node.ensures.err) (inr (inl refl)))) (goes-tried (λ rid. (rid ≡ c.args.left.now.at) ⊎ (rid ≡ c.args.right.now.at) ⊎ (rid ≡ c.args.parent.now.at)) (g.S.RecordRead.meaning c.free_node.new.store) (g.S.RecordRead.meaning c.write_node-2.new.store) c.args.parent.now.at (tries c.write_node-2.result (g.S.RecordRead.meaning c.free_node.new.store) (g.S.RecordRead.meaning c.write_node-2.new.store) c.args.parent.now.at _ c.write_node-2.ensures.ok c.write_node-2.ensures.err) (inr (inr refl)))).only

pub returns-clause-writes : goal.returns-clause-writes
returns-clause-writes g c = (goes-trans 0 0 (λ rid. (rid ≡ c.args.left.now.at) ⊎ (rid ≡ c.args.right.now.at) ⊎ (rid ≡ c.args.parent.now.at)) (g.S.RecordRead.meaning c.args.store.now) (g.S.RecordRead.meaning c.free_node.new.store) (g.S.RecordRead.meaning c.write_node-2.new.store) (goes-trans 0 0 (λ rid. (rid ≡ c.args.left.now.at) ⊎ (rid ≡ c.args.right.now.at) ⊎ (rid ≡ c.args.parent.now.at)) (g.S.RecordRead.meaning c.args.store.now) (g.S.RecordRead.meaning c.write_node.new.store) (g.S.RecordRead.meaning c.free_node.new.store) (goes-tried (λ rid. (rid ≡ c.args.left.now.at) ⊎ (rid ≡ c.args.right.now.at) ⊎ (rid ≡ c.args.parent.now.at)) (g.S.RecordRead.meaning c.args.store.now) (g.S.RecordRead.meaning c.write_node.new.store) c.args.left.now.at (tries c.write_node.result (g.S.RecordRead.meaning c.args.store.now) (g.S.RecordRead.meaning c.write_node.new.store) c.args.left.now.at _ c.write_node.ensures.ok c.write_node.ensures.err) (inl refl)) (goes-tried (λ rid. (rid ≡ c.args.left.now.at) ⊎ (rid ≡ c.args.right.now.at) ⊎ (rid ≡ c.args.parent.now.at)) (g.S.RecordRead.meaning c.write_node.new.store) (g.S.RecordRead.meaning c.free_node.new.store) c.args.right.now.at (tries c.free_node.result (g.S.RecordRead.meaning c.write_node.new.store) (g.S.RecordRead.meaning c.free_node.new.store) c.args.right.now.at None c.free_node.ensures.ok c.free_node.ensures.err) (inr (inl refl)))) (goes-tried (λ rid. (rid ≡ c.args.left.now.at) ⊎ (rid ≡ c.args.right.now.at) ⊎ (rid ≡ c.args.parent.now.at)) (g.S.RecordRead.meaning c.free_node.new.store) (g.S.RecordRead.meaning c.write_node-2.new.store) c.args.parent.now.at (tries c.write_node-2.result (g.S.RecordRead.meaning c.free_node.new.store) (g.S.RecordRead.meaning c.write_node-2.new.store) c.args.parent.now.at _ c.write_node-2.ensures.ok c.write_node-2.ensures.err) (inr (inr refl)))).only

-- how the walk went
pub returns-in_err-free_node-clause-walk : goal.returns-in_err-free_node-clause-walk
returns-in_err-free_node-clause-walk g c = calls_moved c.args.store.now c.free_node.new.store c.from_residual-in_err-free_node.result c.free_node.result c.in_err-free_node.field-0.0 c.in_err-free_node.was c.from_residual-in_err-free_node.ensures.1 (calls_never (λ _. ⊥) 0 c.args.store.now c.write_node.new.store c.free_node.new.store c.write_node.result c.free_node.result c.write_node.ensures.walk c.free_node.ensures.walk)

pub returns-in_err-write_node-2-clause-walk : goal.returns-in_err-write_node-2-clause-walk
returns-in_err-write_node-2-clause-walk g c = calls_moved c.args.store.now c.write_node-2.new.store c.from_residual-in_err-write_node-2.result c.write_node-2.result c.in_err-write_node-2.field-0.0 c.in_err-write_node-2.was c.from_residual-in_err-write_node-2.ensures.1 (calls_never (λ _. ⊥) 0 c.args.store.now c.free_node.new.store c.write_node-2.new.store c.free_node.result c.write_node-2.result (calls_never (λ _. ⊥) 0 c.args.store.now c.write_node.new.store c.free_node.new.store c.write_node.result c.free_node.result c.write_node.ensures.walk c.free_node.ensures.walk) c.write_node-2.ensures.walk)

pub returns-clause-walk : goal.returns-clause-walk
returns-clause-walk g c = calls_quiet _ c.args.store.now c.write_node-2.new.store _ c.write_node-2.result (tt, tt) (calls_never (λ _. ⊥) 0 c.args.store.now c.free_node.new.store c.write_node-2.new.store c.free_node.result c.write_node-2.result (calls_never (λ _. ⊥) 0 c.args.store.now c.write_node.new.store c.free_node.new.store c.write_node.result c.free_node.result c.write_node.ensures.walk c.free_node.ensures.walk) c.write_node-2.ensures.walk)
