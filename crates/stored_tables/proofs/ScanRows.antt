-- What a scan of a tree finds, as rows of a table.
use Rattle.std.proofs.Common.{◌≡◌, ℕ, ◌<◌, ◌≤◌, List, [], ◌∷◌, ◌++◌, take, All, Option, Some, Result, Ok, Err, refl, sym, ap, subst, ◌∙◌, arith, ◌⊎◌, Bool, true, false, not, ◌&&◌, length, inl, inr}
use Rattle.std.specs.Prelude.{OnOk, IfOk}
use Rattle.std.proofs.lemmas.Bool.Decides.{nat_tests}
use Rattle.std.proofs.lemmas.List.Elements.{All-head}
use Rattle.plain_data.specs.State.{State, overlay}
use Rattle.record_store.specs.Goes.{GoesByReads}
use Rattle.record_store.specs.Meaning.{Meaning}
use Rattle.record_store.specs.Walks.{IfTorn}
use Rattle.record_store.specs.declared.walk.Walk.{Walk}
use Rattle.record_store.proofs.Agreement.{writes_same}
use Rattle.record_store.proofs.Refusals.{IfTorn-map}
use Rattle.ordered_index.specs.declared.key.Key.{Key}
use Rattle.ordered_index.specs.Keys.{is_before, Before, NotAfter}
use Rattle.ordered_index.proofs.Order.{not_after_trans}
use Rattle.ordered_index.specs.Scan.{between, is_between, Appends, ListsNothing, IsTornScan}
use Rattle.ordered_index.specs.Tree.{EachTree, row_entries}
use Rattle.replay_model.specs.Effect.{scanned, found}
use Rattle.replay_model.specs.TableMap.{Row, index_of}
use Rattle.stored_tables.specs.Answers.{Held, Stands, IsIndexed, IsScanned, IsSearched}
use Rattle.stored_tables.specs.Lists.{Lists, KeysUpTo}
use Rattle.stored_tables.specs.Places.{root_of, index_tree, table_limit, tree_limit}
use Rattle.stored_tables.specs.RowLists.{IsFoundBy}
use Rattle.stored_tables.specs.Runs.{Looks}
use Rattle.stored_tables.proofs.Finding.{stands_on}
use Rattle.stored_tables.proofs.Lists.{scan_lists, find_lists}
use Rattle.stored_tables.proofs.Runs.{looks_map, looks_then, unlike}

on_ok : {T E : Type 0} (result : Result T E) (P : Type 0) (Q : T → Type 0) → ((value : T) → P → Q value) → OnOk result P → IfOk result Q
on_ok (Ok v) P Q more holds = more v holds
on_ok (Err e) P Q more holds = tt

pub in_store : (size limit : ℕ) (lo hi : Key) (old now : List (Key × ℕ)) → old ≡ [] → Appends size limit lo hi old now
    → All (λ (entry : Key × ℕ). entry.1 < size) now
in_store size limit lo hi old now empty appends =
    let P : List (Key × ℕ) → Type 0 = λ es. All (λ (entry : Key × ℕ). entry.1 < size) es in
    let is : appends.pairs ≡ now = sym (appends.joined ∙ ap (λ es. es ++ appends.pairs) empty) in
    subst P is appends.records

-- ---- what the arguments alone say

before_high : (a b c d : ℕ) → a < b → is_before (record { high = a; low = c }) (record { high = b; low = d }) ≡ true
unfolding is_before
before_high a b c d below = grind (arith, nat_tests)

pub lists_nothing : (lo hi top limit : ℕ) → (limit ≡ 0) ⊎ (hi < lo) → ListsNothing (record { high = lo; low = 0 })
    (record { high = hi; low = top }) limit
lists_nothing lo hi top limit says = elim says as (λ _. ListsNothing (record { high = lo; low = 0 }) (record { high = hi; low = top })
    limit) [
      | inl none ↦ inl none
      | inr below ↦ inr (before_high hi lo top 0 below)
    ]

both_not : (a b : Bool) → (not a && not b) ≡ true → (a ≡ false) × (b ≡ false)
both_not false false is = (refl, refl)
both_not false true is = cc
both_not true b is = cc

nothing_between : (lo hi key : Key) → Before hi lo → is_between lo hi key ≡ true → ⊥
nothing_between lo hi key before is =
    let apart = both_not (is_before key lo) (is_before hi key) is in
    let after : NotAfter lo hi = not_after_trans lo key hi apart.0 apart.1 in
    unlike (is_before hi lo) before after

no_pairs : (lo hi : Key) (limit : ℕ) (pairs : List (Key × ℕ)) → ListsNothing lo hi limit → length pairs ≤ limit
    → All (λ (pair : Key × ℕ). is_between lo hi pair.0 ≡ true) pairs → pairs ≡ []
no_pairs lo hi limit [] says few all = refl
no_pairs lo hi limit (pair ∷ pairs) says few all = elim says as (λ _. pair ∷ pairs ≡ []) [
  | inl none ↦ absurd (omega (arith, none, few))
  | inr before ↦ absurd (nothing_between lo hi pair.0 before (All-head (λ (p : Key × ℕ). is_between lo hi p.0 ≡ true) pair pairs all))
]

pub none_listed : (size limit : ℕ) (lo hi : Key) (old now : List (Key × ℕ)) → old ≡ [] → ListsNothing lo hi limit
    → Appends size limit lo hi old now → now ≡ []
none_listed size limit lo hi old now empty says appends = appends.joined
    ∙ (λ i. empty i ++ no_pairs lo hi limit appends.pairs says appends.few appends.keys i)

module _ {S F : Type 0} {read_gives : S → ℕ → Result (Option (List ℕ)) F → S → Type 0} {meaning : S → Meaning} where
  -- the entries of a tree
  pub entries_found : (number root limit : ℕ) (lo hi : Key) (old now : List (Key × ℕ)) (first last : S)
      (result : Result (Unit {0}) (Walk F)) → number < tree_limit → root ≡ root_of number → old ≡ []
      → OnOk result
      (EachTree root (meaning first) (meaning last) (λ _ _ leaves. now ≡ old ++ take limit (between lo hi (row_entries leaves))))
      → IfTorn result (IsTornScan root lo (meaning first) (meaning last)) → GoesByReads read_gives meaning first last result
      → Looks read_gives meaning (Stands (meaning first))
      (λ _ state held. now ≡ take limit (between lo hi (row_entries (held.0.leaves number)))) first last result
  entries_found number root limit lo hi old now first last result low is empty ok torn by = record {
    by = by;
    found = on_ok result _ _ (λ v each state held agrees stands. each state (held.0.levels number) (held.0.leaves number) agrees
        (rw is (stands.shape.trees number low)) ∙ ap (λ es. es ++ take limit (between lo hi (row_entries (held.0.leaves number)))) empty)
        ok;
    torn = IfTorn-map result (λ rid t state held agrees stands. t.none state (held.0.levels number, held.0.leaves number) agrees
        (rw is (stands.shape.trees number low))) torn;
  }

  -- the rows of a scan by keys
  pub rows_scanned : (table lo hi top limit : ℕ) (entries : List (Key × ℕ)) (first middle last : S) (early : Result (Unit {0}) (Walk F))
      (result : Result (List (ℕ × Row)) (Walk F)) → table < table_limit
      → Looks read_gives meaning (Stands (meaning first))
      (λ _ state held. entries ≡ take limit (between (record { high = lo; low = 0 }) (record { high = hi; low = top })
      (row_entries (held.0.leaves table)))) first middle early → early ≡ Ok tt
      → Looks read_gives meaning (λ state (rows : List (ℕ × Row)). Lists (overlay (meaning middle).writes state) (λ key. key.high)
      entries rows) (λ pairs _ rows. pairs ≡ rows) middle last result
      → Looks read_gives meaning (Stands (meaning first)) (IsScanned table lo hi limit) first last result
  rows_scanned table lo hi top limit entries first middle last early result low acc was read =
      looks_then (IsScanned table lo hi limit) first middle last early tt result acc was read
      (λ state held agrees stands is. (
      let rows = scanned table lo hi limit held.1 in
      let lists = scan_lists (meaning first).size (overlay (meaning first).writes state) held.0 held.1 table low stands lo hi top limit in
      let E : List (Key × ℕ) → Type 0 = λ es. Lists (overlay (meaning first).writes state) (λ key. key.high) es rows in
      let W : List (ℕ × Option (List ℕ)) → Type 0 = λ ws. Lists (overlay ws state) (λ key. key.high) entries rows in
      (rows, subst W (sym (writes_same (meaning first) (meaning middle) acc.by.only)) (subst E (sym is) lists), λ pairs same. same)
      ))

  -- the same where more stands
  pub where_indexed : {T : Type 0} {Found : T → State → Held → Type 0} (table column : ℕ) (first last : S) (result : Result T (Walk F))
      → Looks read_gives meaning (Stands (meaning first)) Found first last result
      → Looks read_gives meaning (λ state held. Stands (meaning first) state held × IsIndexed table (Some column) state held) Found first
      last result
  where_indexed {T} {Found} table column first last result l = looks_map (λ state held. Stands (meaning first) state held
      × IsIndexed table (Some column) state held) Found first last result l (λ state held agrees both. (held, both.0, λ value is. is))

  -- those of a search of the index
  pub rows_searched : (table column lo hi limit : ℕ) (entries : List (Key × ℕ)) (first middle last : S)
      (early : Result (Unit {0}) (Walk F)) (result : Result (List (ℕ × Row)) (Walk F)) → table < table_limit
      → Looks read_gives meaning (Stands (meaning first))
      (λ _ state held. entries ≡ take limit
      (between (record { high = lo; low = 0 }) (record { high = hi; low = 18446744073709551615 })
      (row_entries (held.0.leaves (index_tree table))))) first middle early → early ≡ Ok tt
      → Looks read_gives meaning (λ state (rows : List (ℕ × Row)). Lists (overlay (meaning middle).writes state) (λ key. key.low) entries
      rows) (λ pairs _ rows. pairs ≡ rows) middle last result
      → Looks read_gives meaning (λ state held. Stands (meaning first) state held × IsIndexed table (Some column) state held)
      (IsSearched table column lo hi limit) first last result
  rows_searched table column lo hi limit entries first middle last early result low acc was read =
      looks_then (IsSearched table column lo hi limit) first middle last early tt result
      (looks_map (λ state held. Stands (meaning first) state held × IsIndexed table (Some column) state held)
      (λ _ state held. entries ≡ take limit
      (between (record { high = lo; low = 0 }) (record { high = hi; low = 18446744073709551615 })
      (row_entries (held.0.leaves (index_tree table))))) first middle early acc
      (λ state held agrees both. (held, both.0, λ value is. is)))
      was read
      (λ state held agrees both is. (
      let stands = both.0 in
      let rows = found table column lo hi limit held.1 in
      let indexed = sym (stands.tied.columns table low) ∙ both.1 in
      let few : KeysUpTo 18446744073709551615 table held.1 = λ key row there. (let below = stands.fit table key row there in omega
      (arith, below)) in
      let lists = find_lists (meaning first).size (overlay (meaning first).writes state) held.0 held.1 table low stands column lo
      hi 18446744073709551615 indexed few limit in
      let E : List (Key × ℕ) → Type 0 = λ es. Lists (overlay (meaning first).writes state) (λ key. key.low) es rows in
      let W : List (ℕ × Option (List ℕ)) → Type 0 = λ ws. Lists (overlay ws state) (λ key. key.low) entries rows in
      (rows, subst W (sym (writes_same (meaning first) (meaning middle) acc.by.only)) (subst E (sym is) lists), λ pairs same. same)
      ))

  -- a search of an index that is on the column
  pub searched : (table column indexed lo hi limit : ℕ) (first middle last : S) (early : Result (Option ℕ) (Walk F))
      (result : Result (List (ℕ × Row)) (Walk F)) → Looks read_gives meaning (Stands (meaning first)) (IsIndexed table) first middle
      early → early ≡ Ok (Some indexed) → indexed ≡ column
      → Looks read_gives meaning (λ state held. Stands (meaning middle) state held × IsIndexed table (Some column) state held)
      (IsSearched table column lo hi limit) middle last result
      → Looks read_gives meaning (Stands (meaning first)) (λ pairs. IsFoundBy table column lo hi limit (Some pairs)) first last result
  searched table column indexed lo hi limit first middle last early result a was same b =
      looks_then (λ pairs. IsFoundBy table column lo hi limit (Some pairs)) first middle last early (Some indexed) result a was b
      (λ state held agrees stands is. (
      let on : index_of table held.1 ≡ Some column = is ∙ ap Some same in
      (held, (stands_on (meaning first) (meaning middle) state held a.by.only stands, on), λ pairs found. (on, found))
      ))
