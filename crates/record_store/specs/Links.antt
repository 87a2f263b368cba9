-- How a word of a record names another record, and the records of nodes.
use Rattle.std.specs.Prelude.{ℕ, ◌+◌, ◌-◌, ◌==◌, if◌then◌else◌, List, map, Option, None, Some}

-- a word names a record by its number plus 1, and 0 names none
abbrev pub named_by : ℕ → Option ℕ
named_by word = if word == 0 then None else Some (word - 1)

-- the word that names this record, or none
abbrev pub link_word : Option ℕ → ℕ
link_word None = 0
link_word (Some rid) = rid + 1

-- the records of nodes that stand each beside its record
abbrev pub records_of : {X : Type 0} → List (ℕ × X) → List ℕ
records_of {X} nodes = map (λ (node : ℕ × X). node.0) nodes
