-- When entries of a tree stand for keys and rows.
use Rattle.std.specs.Prelude.{◌≡◌, ℕ, ◌≤◌, List, [], ◌∷◌, length, Some, ⊤}
use Rattle.plain_data.specs.State.{State}
use Rattle.ordered_index.specs.declared.key.Key.{Key}
use Rattle.replay_model.specs.TableMap.{TableMap, Row, value_at}
use Rattle.stored_tables.specs.Tables.{row_words}

-- the record beside an entry has the row, and `key_of` the entry is the row's key: the high part in a tree by keys, the low part in that
-- of an index
pub record IsListed (state : State) (key_of : Key → ℕ) (entry : Key × ℕ) (pair : ℕ × Row) : Type 0 where
  pub key : key_of entry.0 ≡ pair.0
  pub six : length pair.1 ≡ 6
  pub words : state entry.1 ≡ Some (row_words pair.1)

-- so many entries as pairs, each for the pair at its place
abbrev pub Lists : State → (Key → ℕ) → List (Key × ℕ) → List (ℕ × Row) → Type 0
Lists state key_of [] [] = ⊤
Lists state key_of [] (pair ∷ pairs) = ⊥
Lists state key_of (entry ∷ entries) [] = ⊥
Lists state key_of (entry ∷ entries) (pair ∷ pairs) = IsListed state key_of entry pair × Lists state key_of entries pairs

-- no row of a table has a key above this one
abbrev pub KeysUpTo : ℕ → ℕ → TableMap → Type 0
KeysUpTo top table tables = (key : ℕ) (row : Row) → value_at tables table key ≡ Some row → key ≤ top
