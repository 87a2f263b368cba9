-- Rows read for the entries of a list, one after another.
use Rattle.std.proofs.Common.{◌≡◌, ℕ, ◌+◌, ◌<◌, List, [], ◌∷◌, ◌++◌, length, take, get_or, Option, Some, Result, Ok, refl, sym, ap, ◌∙◌, zero, suc, arith, Bool, false, cond, not}
use Rattle.plain_data.specs.State.{State, overlay}
use Rattle.record_store.specs.Meaning.{Meaning}
use Rattle.record_store.specs.declared.walk.Walk.{Walk}
use Rattle.record_store.proofs.Agreement.{writes_same}
use Rattle.ordered_index.specs.declared.key.Key.{Key}
use Rattle.replay_model.specs.TableMap.{Row}
use Rattle.stored_tables.specs.Lists.{IsListed, Lists}
use Rattle.stored_tables.specs.Runs.{Looks}
use Rattle.stored_tables.specs.Tables.{row_words}
use Rattle.stored_tables.proofs.Runs.{looks_then}

-- a list that was pushed to
pub pushed : {T : Type 0} (old now : List T) (x : T) (ok failed : Bool) → now ≡ cond ok (old ++ x ∷ []) old → ok ≡ not failed
    → failed ≡ false → now ≡ old ++ x ∷ []
pushed old now x ok failed is negated went = is ∙ ap (λ b. cond b (old ++ x ∷ []) old) (negated ∙ ap not went)

-- the row of an entry, and the rows up to it
pub record RowAt (state : State) (key_of : Key → ℕ) (entry : Key × ℕ) (rows : List (ℕ × Row)) (i : ℕ) : Type 0 where
  pub row : ℕ × Row
  pub listed : IsListed state key_of entry row
  pub more : take (i + 1) rows ≡ take i rows ++ row ∷ []

one_more : (row : ℕ × Row) (rows : List (ℕ × Row)) (i : ℕ) (last : ℕ × Row) → take (i + 1) rows ≡ take i rows ++ last ∷ []
    → take (suc i + 1) (row ∷ rows) ≡ take (suc i) (row ∷ rows) ++ last ∷ []
one_more row rows i last is = let same : suc i + 1 ≡ suc (i + 1) = omega arith in ap (λ n. take n (row ∷ rows)) same
    ∙ ap (λ more. row ∷ more) is

pub row_listed : (state : State) (key_of : Key → ℕ) (entries : List (Key × ℕ)) (rows : List (ℕ × Row)) (i : ℕ) (d : Key × ℕ)
    → Lists state key_of entries rows → i < length entries → RowAt state key_of (get_or entries i d) rows i
row_listed state key_of [] [] i d lists within = absurd (omega arith)
row_listed state key_of [] (row ∷ rows) i d lists within = absurd lists
row_listed state key_of (entry ∷ entries) [] i d lists within = absurd lists
row_listed state key_of (entry ∷ entries) (row ∷ rows) zero d lists within = record { row = row; listed = lists.0; more = refl }
row_listed state key_of (entry ∷ entries) (row ∷ rows) (suc i) d lists within =
    let later = row_listed state key_of entries rows i d lists.1 (omega arith) in
    record { row = later.row; listed = later.listed; more = one_more row rows i later.row later.more }

pub all_listed : (state : State) (key_of : Key → ℕ) (entries : List (Key × ℕ)) (rows : List (ℕ × Row)) → Lists state key_of entries rows
    → take (length entries) rows ≡ rows
all_listed state key_of [] [] lists = refl
all_listed state key_of [] (row ∷ rows) lists = absurd lists
all_listed state key_of (entry ∷ entries) [] lists = absurd lists
all_listed state key_of (entry ∷ entries) (row ∷ rows) lists = ap (λ more. row ∷ more) (all_listed state key_of entries rows lists.1)

module _ {S F : Type 0} {read_gives : S → ℕ → Result (Option (List ℕ)) F → S → Type 0} {meaning : S → Meaning} where
  -- one row more is read
  pub row_read : (key_of : Key → ℕ) (entries : List (Key × ℕ)) (pairs : List (ℕ × Row)) (i key rid : ℕ) (d : Key × ℕ)
      (first middle last : S) (result : Result (List ℕ) (Walk F)) → i < length entries → key ≡ key_of (get_or entries i d).0
      → rid ≡ (get_or entries i d).1
      → Looks read_gives meaning (λ state (rows : List (ℕ × Row)). Lists (overlay (meaning first).writes state) key_of entries rows)
      (λ _ state rows. pairs ≡ take i rows) first middle (Ok (tt {0}))
      → Looks read_gives meaning (λ state (words : List ℕ). overlay (meaning middle).writes state rid ≡ Some (row_words words))
      (λ row state words. row ≡ words) middle last result
      → Looks read_gives meaning (λ state (rows : List (ℕ × Row)). Lists (overlay (meaning first).writes state) key_of entries rows)
      (λ row state rows. pairs ++ (key, row) ∷ [] ≡ take (i + 1) rows) first last result
  row_read key_of entries pairs i key rid d first middle last result within is_key is_rid acc read =
      looks_then (λ row state rows. pairs ++ (key, row) ∷ [] ≡ take (i + 1) rows) first middle last (Ok (tt {0})) tt result acc refl read
      (λ state rows agrees lists so_far. (
      let at = row_listed (overlay (meaning first).writes state) key_of entries rows i d lists within in
      let there : overlay (meaning middle).writes state rid ≡ Some (row_words at.row.1) =
      ap (λ ws. overlay ws state rid) (writes_same (meaning first) (meaning middle) acc.by.only)
      ∙ ap (overlay (meaning first).writes state) is_rid ∙ at.listed.words in (
        at.row.1,
        there,
        λ row is. (λ j. so_far j ++ ((is_key ∙ at.listed.key) j, is j) ∷ []) ∙ sym at.more,
      )
      ))
