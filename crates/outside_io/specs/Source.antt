-- When a read may fail.
use Rattle.std.specs.Prelude.{ℕ, Result, OnErr}
use Rattle.outside_io.specs.Faults.{HasRisen, GoesOn}
use Rattle.outside_io.specs.declared.source.Failed.{Failed}

-- a read fails only where the source's count of faults rose in the call
pub record ReadCause (before now : ℕ) (result : Result ℕ Failed) : Type 0 where
  pub count : GoesOn before now
  pub failed : OnErr result (HasRisen before now)
