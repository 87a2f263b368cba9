-- What a share of an engine gives.
use Rattle.std.specs.Prelude.{◌≡◌, ◌≤◌, List, map}
use Rattle.std.specs.List.{AllByRecursion}
use Rattle.txn_engine.specs.Pass.{PassView, IsIdle, bare, engine_of}
use Rattle.txn_engine.specs.Sharing.{shares}
use Rattle.lane_threads.specs.All.{AreAllPasses}

-- the passes that a share gives are all passes of the engine, each at the clock of the one that was shared
abbrev pub SharesAreAll : Type 0
SharesAreAll =
    (p : PassView) (passes : List PassView) → 1 ≤ p.shared.size.seats → IsIdle p → p.seat ≡ 0 → map bare passes ≡ shares p
    → AreAllPasses (engine_of p) passes × AllByRecursion (λ q. q.clock ≡ p.clock) passes
