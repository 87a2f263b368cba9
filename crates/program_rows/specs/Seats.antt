-- Passes of an engine between their transactions.
use Rattle.std.specs.Prelude.{◌≡◌}
use Rattle.txn_engine.specs.Pass.{EngineView, PassView, IsIdle, engine_of}

-- a pass of this engine that has drawn no stamp, with nothing in flight
pub record IsSeat (engine : EngineView) (pass : PassView) : Type 0 where
  pub engine_is : engine_of pass ≡ engine
  pub idle : IsIdle pass
  pub clock : pass.clock ≡ 0
