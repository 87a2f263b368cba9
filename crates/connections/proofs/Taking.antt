-- How numbers are taken out of the queue, one after another.
use Rattle.std.proofs.Common.{◌≡◌, ◌⊎◌, ℕ, zero, suc, ◌<◌, ◌≤◌, ◌-◌, None, Some, length, inl, inr, refl, subst, arith}
use Rattle.number_queue.specs.Passes.{NumberPassView, TakesFor}
use Rattle.txn_engine.specs.Pass.{PassView}
use Rattle.connections.specs.Handing.{TakesIn, with_number}

-- no more are wanted, or enough are spare
pub takes_enough : (stamp most : ℕ) (p : PassView) (v : NumberPassView) → (most ≡ 0) ⊎ (12 ≤ length p.spare) → TakesIn stamp most p p v v
takes_enough stamp zero p v why = (refl, refl)
takes_enough stamp (suc most) p v (inl none) = absurd (let no : ⊥ = cc in no)
takes_enough stamp (suc most) p v (inr enough) = inl (enough, refl, refl)

-- none comes
pub takes_none : (stamp most : ℕ) (p : PassView) (v w : NumberPassView) → 0 < most → length p.spare < 12 → TakesFor stamp v w None → TakesIn stamp most p p v w
takes_none stamp zero p v w some few none = absurd (let no : ⊥ = omega arith in no)
takes_none stamp (suc most) p v w some few none = inr (few, inl (none, refl))

-- one comes, and then so many
pub takes_more : (stamp most : ℕ) (p r q : PassView) (v u w : NumberPassView) (rid : ℕ) → 0 < most → length p.spare < 12 → TakesFor stamp v u (Some rid) → r ≡ with_number p rid → TakesIn stamp (most - 1) r q u w → TakesIn stamp most p q v w
takes_more stamp zero p r q v u w rid some few one is rest = absurd (let no : ⊥ = omega arith in no)
takes_more stamp (suc most) p r q v u w rid some few one is rest =
    let less : suc most - 1 ≡ most = omega arith in
    inr (few, inr (rid, u, one, subst (λ (x : PassView). TakesIn stamp most x q u w) is (subst (λ (n : ℕ). TakesIn stamp n r q u w) less rest)))

-- for the transaction that is open at the pass
pub takes_at : (stamp most : ℕ) (p p' q : PassView) (v w : NumberPassView) → p' ≡ p → stamp ≡ p'.stamp → TakesIn stamp most p' q v w → TakesIn p.stamp most p q v w
takes_at stamp most p p' q v w here is takes = subst (λ (x : PassView). TakesIn x.stamp most x q v w) here (subst (λ (s : ℕ). TakesIn s most p' q v w) is takes)
