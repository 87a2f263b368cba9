-- Entries of a tree as rows: the part of an entry's key that is the key of its row, and the records of the rows.
use Rattle.std.specs.Prelude.{ℕ, List, map}
use Rattle.ordered_index.specs.declared.key.Key.{Key}
use Rattle.stored_tables.specs.declared.reading.KeyPart.{KeyPart}
use Rattle.stored_tables.specs.declared.reading.KeyPart.TheVariants.{High, Low}

abbrev pub part_in : KeyPart → Key → ℕ
part_in High key = key.high
part_in Low key = key.low

abbrev pub entry_records : List (Key × ℕ) → List ℕ
entry_records entries = map (λ entry. entry.1) entries
