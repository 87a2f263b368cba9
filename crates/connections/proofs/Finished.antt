-- A pass is idle again when its snapshot has ended.
use Rattle.std.proofs.Common.{◌≡◌, true, Option, None, Some, ap, ◌∙◌, ℕ}
use Rattle.std.specs.Prelude.{IfSome}
use Rattle.seat_post.specs.Snapshot.{SnapshotView}
use Rattle.seat_post.specs.declared.phase.Phase.{Phase}
use Rattle.seat_post.specs.declared.phase.Phase.TheVariants.{Idle, Open, Installed, Decided}
use Rattle.txn_engine.specs.Pass.{EngineView, PassView, IsIdleOf, engine_of, desk_of, observing}
use Rattle.txn_engine.specs.Snapshot.{Finishes, HasSnapshot, has_snapshot_in, finished}
use Rattle.connections.specs.Connection.{StandsForRows}
use Rattle.connections.proofs.Laws.{at_passes}

-- where there is one, it is not none
pub no_snapshot : (phase : Phase) (met : ℕ) → has_snapshot_in phase None met ≡ true → ⊥
no_snapshot Idle met has = cc
no_snapshot Open met has = cc
no_snapshot Installed met has = cc
no_snapshot Decided met has = cc

module _ (e : EngineView) (before after' : PassView) where
  at_snapshot : (s : Option SnapshotView) → has_snapshot_in before.phase s before.met ≡ true → IsIdleOf e before
      → IfSome s (λ g. after' ≡ observing (finished before g) after'.observed) → IsIdleOf e after'
  at_snapshot None has idle after = absurd (no_snapshot before.phase before.met has)
  at_snapshot (Some g) has idle after = (ap engine_of after ∙ idle.0, ap desk_of after ∙ idle.1)

  pub finished_idle : HasSnapshot before → IsIdleOf e before
      → IfSome before.snapshot (λ g. after' ≡ observing (finished before g) after'.observed) → IsIdleOf e after'
  finished_idle = at_snapshot before.snapshot

-- what is said of its end by other names of the pass
pub finishes_at : (p p' q q' : PassView) (stamp : ℕ) → p' ≡ p → q' ≡ q → Finishes StandsForRows p' q stamp → Finishes StandsForRows p q' stamp
finishes_at p p' q q' stamp here there finishes = at_passes (λ x y. Finishes StandsForRows x y stamp) p p' q q' here there finishes
