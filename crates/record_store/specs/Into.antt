-- What a read into cells answers: whether a record is present, and its value in the cells.
use Rattle.std.specs.Prelude.{ℕ, Bool, true, false, List, Option, None, Some, Result, Ok, Err}

-- the value, where there is one
abbrev pub value_if : {A : Type 0} → Bool → A → Option A
value_if true value = Some value
value_if false value = None

-- the same answer with the value itself
abbrev pub told_into : {F : Type 0} → Result Bool F → List ℕ → Result (Option (List ℕ)) F
told_into (Ok present) cells = Ok (value_if present cells)
told_into (Err fault) cells = Err fault
