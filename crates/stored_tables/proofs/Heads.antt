-- The head of a table's index says which column it is on.
use Rattle.std.proofs.Common.{◌≡◌, ℕ, ◌<◌, List, Option, None, Some, refl, sym, ap, subst, ◌∙◌, get_or}
use Rattle.std.specs.Prelude.{IfSome, MatchOption}
use Rattle.std.proofs.lemmas.Option.{same_Some, none-some}
use Rattle.plain_data.specs.State.{State, overlay}
use Rattle.record_store.specs.Meaning.{Meaning}
use Rattle.replay_model.specs.Input.{IsColumn}
use Rattle.replay_model.specs.TableMap.{index_of}
use Rattle.stored_tables.specs.Answers.{Held, Stands}
use Rattle.stored_tables.specs.Places.{head_of, root_of, index_tree, table_limit}
use Rattle.stored_tables.specs.Shape.{head_words}

first_word : (a b : ℕ) → head_words a ≡ head_words b → a ≡ b
first_word a b same = ap (λ words. get_or words 0 0) same

head_none : (state : State) (column : Option ℕ) (head root : ℕ) → state head ≡ None
    → MatchOption column ((state head ≡ None) × (state root ≡ None)) (λ c. state head ≡ Some (head_words c)) → column ≡ None
head_none state None head root absent is = refl
head_none state (Some c) head root absent is = absurd (none-some (head_words c) (sym absent ∙ is))

head_some : (state : State) (column : Option ℕ) (head root at : ℕ) → state head ≡ Some (head_words at)
    → MatchOption column ((state head ≡ None) × (state root ≡ None)) (λ c. state head ≡ Some (head_words c)) → column ≡ Some at
head_some state None head root at here is = absurd (none-some (head_words at) (sym is.0 ∙ here))
head_some state (Some c) head root at here is = ap Some (first_word c at (same_Some _ _ (sym is ∙ here)))

head_word : (state : State) (column : Option ℕ) (head root : ℕ) (words : List ℕ) → state head ≡ Some words → IfSome column IsColumn
    → MatchOption column ((state head ≡ None) × (state root ≡ None)) (λ c. state head ≡ Some (head_words c)) → (c : ℕ) × IsColumn c
    × (words ≡ head_words c)
head_word state None head root words here range is = absurd (none-some words (sym is.0 ∙ here))
head_word state (Some c) head root words here range is = (c, range, same_Some _ _ (sym here ∙ is))

-- no index where there is no head
pub no_index : (table head : ℕ) (now : Meaning) (state : State) (held : Held) → table < table_limit → head ≡ head_of table
    → overlay now.writes state head ≡ None → Stands now state held → index_of table held.1 ≡ None
no_index table head now state held low at absent stands =
    stands.tied.columns table low ∙ head_none (overlay now.writes state) (held.0.column_at table) (head_of table)
    (root_of (index_tree table)) (ap (overlay now.writes state) (sym at) ∙ absent) (stands.shape.heads table low)

-- the column of the head
pub index_at : (table head column : ℕ) (now : Meaning) (state : State) (held : Held) → table < table_limit → head ≡ head_of table
    → overlay now.writes state head ≡ Some (head_words column) → Stands now state held → index_of table held.1 ≡ Some column
index_at table head column now state held low at here stands =
    stands.tied.columns table low ∙ head_some (overlay now.writes state) (held.0.column_at table) (head_of table)
    (root_of (index_tree table)) column (ap (overlay now.writes state) (sym at) ∙ here) (stands.shape.heads table low)

-- other words are no head
pub no_other_head : (table head : ℕ) (words : List ℕ) (now : Meaning) (state : State) (held : Held) → table < table_limit
    → head ≡ head_of table → overlay now.writes state head ≡ Some words → Stands now state held → (c : ℕ) × IsColumn c
    × (words ≡ head_words c)
no_other_head table head words now state held low at here stands =
    head_word (overlay now.writes state) (held.0.column_at table) (head_of table) (root_of (index_tree table)) words
    (ap (overlay now.writes state) (sym at) ∙ here) (let P : Option ℕ → Type 0 = λ c. IfSome c IsColumn in subst P
    (stands.tied.columns table low) (stands.tied.in_range table)) (stands.shape.heads table low)
