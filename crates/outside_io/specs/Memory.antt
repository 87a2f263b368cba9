-- Sources and sinks in memory: what they hold, and what a call leaves.
use Rattle.std.specs.Prelude.{ℕ, List, Contains}
use Rattle.outside_io.specs.Faults.{one_more}

-- how many bytes a call moves at most, the numbers of the calls that fail, how many calls there were, and how many failed
pub record CallState : Type 0 where
  pub per_call : ℕ
  pub fails : List ℕ
  pub made : ℕ
  pub faults : ℕ

-- the next call is one of those that fail; calls are numbered from 1
abbrev pub NextFails : CallState → Type 0
NextFails calls = Contains calls.fails (one_more calls.made)

-- after a call that didn't fail
abbrev pub after_call : CallState → CallState
after_call calls = record calls { made = one_more calls.made }

-- after a call that failed
abbrev pub after_fault : CallState → CallState
after_fault calls = record calls { made = one_more calls.made; faults = one_more calls.faults }

-- the bytes left to give, and the calls
pub record SourceState : Type 0 where
  pub left : List ℕ
  pub calls : CallState

-- the bytes taken, and the calls
pub record SinkState : Type 0 where
  pub taken : List ℕ
  pub calls : CallState
