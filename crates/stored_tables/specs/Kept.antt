-- Which states of a store are kept where those are that stand for some tables.
use Rattle.std.specs.Prelude.{ℕ, ◌≤◌}
use Rattle.plain_data.specs.State.{State, IsState}
use Rattle.record_store.specs.Limits.{record_limit}
use Rattle.replay_model.specs.TableMap.{TableMap}
use Rattle.stored_tables.specs.Tables.{StandsForSome}

-- the state stands for some tables in a store of so many records
abbrev pub StandsForTables : ℕ → State → Type 0
StandsForTables size state = (tables : TableMap) × StandsForSome size state tables

-- a kept state of so many records stands for some tables at that size, and each that stands for some at a size that a store may have is
-- kept
pub record KeepsTables (kept : State → Type 0) : Type 0 where
  pub stands : (records : ℕ) (state : State) → IsState records state → kept state → StandsForTables records state
  pub keeps : (records : ℕ) (state : State) → records ≤ record_limit → StandsForTables records state → kept state
