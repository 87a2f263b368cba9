use Rattle.std.proofs.Common.{◌≡◌, ℕ, All, vec_len, length, map}
use Rattle.std.specs.List.{range_with_len}
use Rattle.txn_engine.specs.Retired.{RetiredView}
use Rattle.txn_engine.specs.Joining.{AreOfEngine}
use Rattle.txn_engine.specs.Pass.{IsIdleOf}
use Rattle.pass_rows.proofs.coming.retire_all.Given as goal

abbrev pub invariant-loop-pass : goal.invariant-loop-pass
invariant-loop-pass g l = record {
  passes : All (IsIdleOf l.engine) l.passes.items;
  of_engine : AreOfEngine l.engine l.retired.items;
  numbers : map (λ (r : RetiredView). r.seat) l.retired.items ≡ map (λ (n : ℕ). n) (range_with_len 1 (length l.retired.items));
}

abbrev pub decreases-loop-pass : goal.decreases-loop-pass
decreases-loop-pass g l = vec_len l.passes
