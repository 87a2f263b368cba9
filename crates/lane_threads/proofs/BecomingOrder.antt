-- Results that follow one another keep the order of their lanes, in whatever order they are told.
use Rattle.std.proofs.Common.{◌≡◌, ℕ, ◌<◌, ◌≤◌, Bool, true, false, List, All, AllPairs, IsPermutation, refl, sym, arith}
use Rattle.std.specs.Prelude.{MatchBool}
use Rattle.replay_model.specs.declared.outcome.Outcome.{Outcome}
use Rattle.replay_model.specs.declared.outcome.Placed.{Placed}
use Rattle.history_replay.specs.Results.{KeepsLane}
use Rattle.histories.proofs.Lists.{AllPairs-IsPermutation}
use Rattle.lane_runner.proofs.Elements.{all_among}
use Rattle.lane_threads.proofs.BecomingLists.{pairs_weaker, pairs_any}
use Rattle.lane_threads.proofs.BecomingRan.{Follows}

-- two results of one lane keep its order, whichever of them comes first
abbrev KeepBoth : Placed × Outcome → Placed × Outcome → Type 0
KeepBoth a b = KeepsLane a.0 b.0 × KeepsLane b.0 a.0

stamps_kept : (snap snap' : Bool) (m n : ℕ) → snap ≡ snap' → (snap ≡ false → snap' ≡ false → m < n) → (snap ≡ true → snap' ≡ true → m ≤ n) → MatchBool snap (m ≤ n) (m < n)
stamps_kept true snap' m n same commits snapshots = snapshots refl (sym same)
stamps_kept false snap' m n same commits snapshots = commits refl (sym same)

keep_both : (a b : Placed × Outcome) → Follows a b → KeepBoth a b
keep_both a b follows = (
  λ lane snap number. stamps_kept a.0.snap b.0.snap a.0.stamp b.0.stamp snap (follows lane).1.commits (follows lane).1.snapshots,
  λ lane snap number. absurd (omega (arith, number, (follows (sym lane)).0)),
)

keep_self : (a : Placed × Outcome) → KeepBoth a a
keep_self a = (λ lane snap number. absurd (omega (arith, number)), λ lane snap number. absurd (omega (arith, number)))

pub lanes_kept : (ordered results : List (Placed × Outcome)) → IsPermutation ordered results → AllPairs Follows ordered → All (λ (a : Placed × Outcome). All (λ (b : Placed × Outcome). KeepsLane a.0 b.0) results) results
lanes_kept ordered results same follow =
    all_among (λ (a : Placed × Outcome). All (λ (b : Placed × Outcome). KeepsLane a.0 b.0) results) results
    (λ a first. all_among (λ (b : Placed × Outcome). KeepsLane a.0 b.0) results (λ b second. (pairs_any KeepBoth keep_self turned results both a b first second).0))
  where
    turned : (a b : Placed × Outcome) → KeepBoth a b → KeepBoth b a
    turned a b both = (both.1, both.0)

    both : AllPairs KeepBoth results
    both = AllPairs-IsPermutation KeepBoth turned ordered results same (pairs_weaker Follows KeepBoth keep_both ordered follow)
