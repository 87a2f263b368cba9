-- Whether a call may use an engine with a pass.
use Rattle.std.specs.Prelude.{◌≡◌, ◌≤◌}
use Rattle.stored_tables.specs.Places.{fixed_records}
use Rattle.txn_engine.specs.Pass.{EngineView, PassView, IsIdle, engine_of}

-- It is a pass of this engine, with nothing in flight; and the heads of all tables stand in records that are never given out.
pub record MayUse (engine : EngineView) (p : PassView) : Type 0 where
  pub same : engine_of p ≡ engine
  pub idle : IsIdle p
  pub fixed : fixed_records ≤ engine.fixed
