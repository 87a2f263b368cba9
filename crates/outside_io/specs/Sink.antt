-- When a write may fail.
use Rattle.std.specs.Prelude.{◌≡◌, ℕ, ◌<◌, List, length, Result, Ok, IsErrOf}
use Rattle.outside_io.specs.Faults.{HasRisen, GoesOn}
use Rattle.outside_io.specs.declared.sink.SinkFault.{SinkFault}
use Rattle.outside_io.specs.declared.sink.SinkFault.TheVariants.{Failed}

-- a write fails, or takes nothing of a piece that is not empty, only where the sink's count of faults rose in the
-- call; want of memory has no cause
pub record WriteCause (before now : ℕ) (piece : List ℕ) (result : Result ℕ SinkFault) : Type 0 where
  pub count : GoesOn before now
  pub failed : IsErrOf result Failed → HasRisen before now
  pub took_nothing : result ≡ Ok 0 → 0 < length piece → HasRisen before now
