-- What pages and tables found, told of each state that stands for tables.
use Rattle.std.proofs.Common.{◌≡◌, ℕ, ◌+◌, ◌<◌, ◌≤◌, Bool, false, cond, not, List, [], ◌∷◌, ◌++◌, length, map, Option, Some, Result, Ok, refl, sym, ap, ◌∙◌, arith}
use Rattle.std.specs.List.{range_with_len}
use Rattle.std.proofs.lemmas.List.{append_assoc, length-append}
use Rattle.std.proofs.lemmas.List.FromFn.{map-range_with_len_more}
use Rattle.plain_data.specs.State.{State}
use Rattle.record_store.specs.Meaning.{Meaning}
use Rattle.record_store.specs.declared.walk.Walk.{Walk}
use Rattle.replay_model.specs.TableMap.{TableMap, Row, pairs_of}
use Rattle.stored_tables.specs.Answers.{Held, Stands}
use Rattle.stored_tables.specs.RowLists.{IsPage, rows_behind}
use Rattle.stored_tables.specs.Runs.{Looks}
use Rattle.stored_tables.proofs.Finding.{stands_on}
use Rattle.stored_tables.proofs.Runs.{looks_then}
use Rattle.typed_tables.specs.Listing.{AreListed, ComeBefore, IsListed, last_key}
use Rattle.typed_tables.proofs.Pages.{full_page, last_page}

-- ---- pages

-- what stands before a page, and what it has
abbrev pub PageBehind : ℕ → Option ℕ → List (ℕ × Row) → List (ℕ × Row) → State → Held → Type 0
PageBehind table behind pairs page state held = ComeBefore table behind pairs state held × IsPage table behind 256 page state held

-- where no page comes behind the last one, the pages are all rows of the table
pub all_pages : (table : ℕ) (behind : Option ℕ) (pairs page whole : List (ℕ × Row)) (state : State) (held : Held)
    → PageBehind table behind pairs page state held → length page < 256 → whole ≡ pairs ++ page → IsListed table whole state held
all_pages table behind pairs page whole state held is short grown = grown ∙ ap (λ ps. pairs ++ ps) (sym (last_page table behind held.1 page is.1 short)) ∙ sym is.0

-- a page more
pub next_page : (table : ℕ) (behind : Option ℕ) (last : ℕ) (pairs page whole : List (ℕ × Row)) (state : State) (held : Held)
    → PageBehind table behind pairs page state held → (256 ≤ length page) × (last ≡ last_key page) → whole ≡ pairs ++ page
    → ComeBefore table (Some last) whole state held
next_page table behind last pairs page whole state held is full grown =
    is.0 ∙ ap (λ ps. pairs ++ ps) (full_page table behind last held.1 page is.1 full.0 full.1).1
    ∙ sym (append_assoc pairs page (rows_behind table (Some last) held.1)) ∙ ap (λ ps. ps ++ rows_behind table (Some last) held.1) (sym grown)

-- a list that has grown
pub grown : {T : Type 0} (old now more : List T) (ok failed : Bool) → now ≡ cond ok (old ++ more) old → ok ≡ not failed → failed ≡ false → now ≡ old ++ more
grown old now more ok failed is negated went = is ∙ ap (λ b. cond b (old ++ more) old) (negated ∙ ap not went)

-- one list more
pub counted : {T : Type 0} (count : ℕ) (old now : List T) (one : T) → length old ≡ count → now ≡ old ++ one ∷ [] → length now ≡ count + 1
counted count old now one is grown =
    let longer = ap length grown in
    let sum = length-append old (one ∷ []) in
    omega (arith, is, longer, sum)

-- ---- tables

one_more : (table : ℕ) (rows : List (List (ℕ × Row))) (pairs : List (ℕ × Row)) (tables : TableMap) → rows ≡ map (λ (n : ℕ). pairs_of n tables) (range_with_len 0 table) → pairs ≡ pairs_of table tables → rows ++ pairs ∷ [] ≡ map (λ (n : ℕ). pairs_of n tables) (range_with_len 0 (table + 1))
one_more table rows pairs tables before is = (λ j. before j ++ is j ∷ []) ∙ sym (map-range_with_len_more (λ (n : ℕ). pairs_of n tables) 0 table table (omega arith))

module _ {S F : Type 0} {read_gives : S → ℕ → Result (Option (List ℕ)) F → S → Type 0} {meaning : S → Meaning} where
  -- a page more
  pub page_looks : (table : ℕ) (behind : Option ℕ) (pairs : List (ℕ × Row)) (first middle last : S) (result : Result (List (ℕ × Row)) (Walk F))
      → Looks {F = F} read_gives meaning (Stands (meaning first)) (λ (_ : Unit {0}). ComeBefore table behind pairs) first middle (Ok (tt {0}))
      → Looks read_gives meaning (Stands (meaning middle)) (IsPage table behind 256) middle last result
      → Looks read_gives meaning (Stands (meaning first)) (PageBehind table behind pairs) first last result
  page_looks table behind pairs first middle last result acc page =
      looks_then (PageBehind table behind pairs) first middle last (Ok (tt {0})) tt result acc refl page
      (λ state held agrees stands before. (held, stands_on (meaning first) (meaning middle) state held acc.by.only stands, λ found is. (before, is)))

  -- a table more
  pub table_looks : (table : ℕ) (rows : List (List (ℕ × Row))) (first middle last : S) (result : Result (List (ℕ × Row)) (Walk F)) → Looks {F = F} read_gives meaning (Stands (meaning first)) (λ (_ : Unit {0}). AreListed table rows) first middle (Ok (tt {0})) → Looks read_gives meaning (Stands (meaning middle)) (IsListed table) middle last result → Looks read_gives meaning (Stands (meaning first)) (λ pairs. AreListed (table + 1) (rows ++ pairs ∷ [])) first last result
  table_looks table rows first middle last result acc listed =
      looks_then (λ pairs. AreListed (table + 1) (rows ++ pairs ∷ [])) first middle last (Ok (tt {0})) tt result acc refl listed
      (λ state held agrees stands before. (held, stands_on (meaning first) (meaning middle) state held acc.by.only stands, λ pairs is. one_more table rows pairs held.1 before is))
