-- The outputs of a poll.
use Rattle.futures.specs.declared.task.Poll.{Poll}

-- this holds of each output that the poll may give
abbrev pub EachOutput : {A : Type 0} → Poll A → (A → Type 0) → Type 0
EachOutput {A} poll P = (output : A) → P output
