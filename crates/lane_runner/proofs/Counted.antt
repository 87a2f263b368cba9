-- How often a try counts among the refusals: once at most.
use Rattle.std.proofs.Common.{◌≡◌, ℕ, ◌+◌, ◌≤◌, Bool, true, false, ap, ◌∙◌, lit≤, arith}
use Rattle.seat_post.specs.Seats.{Bounds}
use Rattle.txn_engine.specs.Pass.{PassView, frame, begun, committed, with_bounds, one_if, observing, placing}
use Rattle.lane_runner.specs.Blocks.{IsRefused, CountsOnce}

one_at_most : (counted : Bool) → one_if counted ≤ 1
one_at_most true = lit≤ tt
one_at_most false = lit≤ tt

-- a transaction that was begun at p and has committed
pub counted_once : (p q r r' : PassView) (clock : ℕ) (known : Bounds) → frame q ≡ frame (begun p clock) → r ≡ observing (placing (committed (with_bounds q known)) r.placed) r.observed → r' ≡ r → CountsOnce p r'
counted_once p q r r' clock known kept ends same = record {
  once =
      let is : r'.refusals ≡ q.refusals + one_if q.counted = ap (λ (x : PassView). x.refusals) same ∙ ap (λ (x : PassView). x.refusals) ends in
      let before : q.refusals ≡ p.refusals = ap (λ (f : PassView). f.refusals) kept in
      let most : one_if q.counted ≤ 1 = one_at_most q.counted in
      omega arith;
}

-- and calls that are refused nothing, behind it or before it
pub once_then : (p q r : PassView) → CountsOnce p q → IsRefused 0 q r → CountsOnce p r
once_then p q r once none = record { once = omega (arith, once.once, none.refusals) }

pub once_after : (p q r : PassView) → IsRefused 0 p q → CountsOnce q r → CountsOnce p r
once_after p q r none once = record { once = omega (arith, none.refusals, once.once) }
