-- Versions as a transaction keeps them: with a value, or none where they are deletions.
use Rattle.std.specs.Prelude.{ℕ, List, [], Option, Some, None}
use Rattle.core_rule.specs.Status.{status_word}
use Rattle.core_rule.specs.declared.status.Status.TheVariants.{Committed, Deleted}
use Rattle.core_rule.specs.View.{Read, Write}

-- the cells of a value: none of a deletion
abbrev pub cells_of : Option (List ℕ) → List ℕ
cells_of None = []
cells_of (Some cells) = cells

-- the status that shows the value: committed, or deleted
abbrev pub state_of : Option (List ℕ) → ℕ
state_of None = status_word Deleted
state_of (Some cells) = status_word Committed

abbrev pub read_version : (rid place wts : ℕ) → Option (List ℕ) → Read
read_version rid place wts value = record { record_number = rid; place = place; version = wts; status = state_of value; cells = cells_of value }

abbrev pub written_version : (rid place stamp : ℕ) → Option (List ℕ) → Write
written_version rid place stamp value = record { record_number = rid; place = place; stamp = stamp; cells = cells_of value }
