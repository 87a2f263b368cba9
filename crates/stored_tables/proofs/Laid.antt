-- One spot changed: all else of the shape stays, and all is laid again.
use Rattle.std.proofs.Common.{◌≡◌, ◌≢◌, ◌⊎◌, ℕ, ◌+◌, ◌*◌, ◌<◌, ◌≤◌, Option, None, Some, refl, sym, ◌∙◌, arith, subst, inl, inr}
use Rattle.std.specs.Prelude.{MatchOption, IsSome}
use Rattle.std.proofs.lemmas.Bool.{lt-ltb, le-ltb, cases_lt}
use Rattle.std.proofs.lemmas.Option.{none-some}
use Rattle.plain_data.specs.State.{State}
use Rattle.record_store.specs.Spots.{IsLaid, IsMoved}
use Rattle.record_store.proofs.Laid.{other_spot, still_absent, laid_now}
use Rattle.hash_index.specs.Chain.{IsChain}
use Rattle.ordered_index.specs.Tree.{IsTree}
use Rattle.stored_tables.specs.Places.{Spot, Places, holds, base_of, root_of, head_of, index_tree, table_limit, tree_limit, fixed_records}
use Rattle.stored_tables.specs.Places.Spot.{bucket, tree, head}
use Rattle.stored_tables.specs.Shape.{IsShape, IsHead, head_words}
use Rattle.stored_tables.proofs.Spots.{told_apart}
use Rattle.stored_tables.proofs.Frames.{chain_framed, tree_framed}

-- ---- where roots are

root_low : (number : ℕ) → number < 8 → root_of number ≡ 512 * number + 511
root_low number low = rw (lt-ltb number 8 low) refl

root_high : (number : ℕ) → 8 ≤ number → root_of number ≡ 4096 + number
root_high number high = rw (le-ltb number 8 high) refl

pub root_cases : (number : ℕ) → ((number < 8) × (root_of number ≡ 512 * number + 511)) ⊎ ((8 ≤ number) × (root_of number ≡ 4096 + number))
root_cases number =
    elim (cases_lt number 8) as (λ _. ((number < 8) × (root_of number ≡ 512 * number + 511)) ⊎ ((8 ≤ number) × (root_of number ≡ 4096 + number))) [
      | inl low ↦ inl (low, root_low number low)
      | inr high ↦ inr (high, root_high number high)
    ]

pub root_fixed : (number : ℕ) → number < tree_limit → root_of number < fixed_records
root_fixed number within = elim (root_cases number) as (λ _. root_of number < 4112) [
  | inl low ↦ omega (arith, low.0, low.1)
  | inr high ↦ omega (arith, high.0, high.1, within)
]

pub root_apart : (a b : ℕ) → a ≢ b → root_of a ≢ root_of b
root_apart a b differs same = elim (root_cases a) as (λ _. ⊥) [
  | inl low ↦ elim (root_cases b) as (λ _. ⊥) [
    | inl low' ↦ differs (omega (arith, low.1, low'.1, same))
    | inr high' ↦ omega (arith, low.0, low.1, high'.0, high'.1, same)
  ]
  | inr high ↦ elim (root_cases b) as (λ _. ⊥) [
    | inl low' ↦ omega (arith, high.0, high.1, low'.0, low'.1, same)
    | inr high' ↦ differs (omega (arith, high.1, high'.1, same))
  ]
]

pub bucket_root : (table number other : ℕ) → table < table_limit → number < 511 → base_of table + number ≢ root_of other
bucket_root table number other within low same = elim (root_cases other) as (λ _. ⊥) [
  | inl is ↦ omega (arith, within, low, is.0, is.1, same)
  | inr is ↦ omega (arith, within, low, is.0, is.1, same)
]

pub head_root : (table other : ℕ) → table < table_limit → head_of table ≢ root_of other
head_root table other within same = elim (root_cases other) as (λ _. ⊥) [
  | inl is ↦ omega (arith, within, is.0, is.1, same)
  | inr is ↦ omega (arith, within, is.0, is.1, same)
]

-- ---- what a head says

-- of a column, if any
abbrev pub HeadSays : State → ℕ → Option ℕ → Type 0
HeadSays state table column =
    MatchOption column ((state (head_of table) ≡ None) × (state (root_of (index_tree table)) ≡ None)) (λ c. state (head_of table) ≡ Some (head_words c))

-- ---- one spot changed, which begins at the record `first`

pub record SpotMoved (fixed first : ℕ) (own : Spot) (state state' : State) (places places' : Places) : Type 0 where
  pub enough : fixed_records ≤ fixed
  pub moved : IsMoved fixed first (holds places own) (holds places' own) state state'
  pub on : (a : Spot) → a ≢ own → (rid : ℕ) → holds places a rid → holds places' a rid
  pub back : (a : Spot) → a ≢ own → (rid : ℕ) → holds places' a rid → holds places a rid

module _ (size fixed first : ℕ) (own : Spot) (state state' : State) (places places' : Places) (shape : IsShape size state places) (by : SpotMoved fixed first own state state' places places') where
  -- a record of another spot does not change
  pub frame : (a : Spot) (rid : ℕ) → a ≢ own → holds places a rid → state' rid ≡ state rid
  frame = other_spot (holds places) (holds places') fixed first state state' own told_apart shape.laid by.moved by.on by.back

  -- nor does an absent record with a place of its own, unless the spot begins there
  pub absent : (rid : ℕ) → rid < fixed_records → rid ≢ first → state rid ≡ None → state' rid ≡ None
  absent rid low differs none =
      let enough = by.enough in
      still_absent (holds places) (holds places') fixed first state state' own told_apart shape.laid by.moved by.on by.back
      rid none differs (λ spare. absurd (omega arith))

  pub all_laid : IsLaid (holds places') state'
  all_laid = laid_now (holds places) (holds places') fixed first state state' own told_apart shape.laid by.moved by.on by.back

  pub chain_stays : (table : ℕ) → table < table_limit → ((number : ℕ) → bucket table number ≢ own) → ((number : ℕ) → number < 511 → base_of table + number ≢ first) → IsChain size (base_of table) state' (places.rows table)
  chain_stays table within other differs = chain_framed size (base_of table) state state' (places.rows table)
      (λ number rid low there. frame (bucket table number) rid (other number) (within, low, there))
      (λ number low none. absent (base_of table + number) (omega (arith, within, low)) (differs number low) none)
      (shape.chains table within)

  pub tree_stays : (number : ℕ) → number < tree_limit → tree number ≢ own → root_of number ≢ first → IsTree size (root_of number) state' (places.levels number) (places.leaves number)
  tree_stays number within other differs = tree_framed size (root_of number) state state' (places.levels number) (places.leaves number)
      (λ rid there. frame (tree number) rid other (within, there))
      (λ none. absent (root_of number) (root_fixed number within) differs none)
      (shape.trees number within)

  head_at : (column : Option ℕ) (table : ℕ) → table < table_limit → places.column_at table ≡ column → head table ≢ own → head_of table ≢ first → (places.column_at table ≡ None → root_of (index_tree table) ≢ first) → IsHead state' places table
  head_at None table within is other differs root =
      let was : HeadSays state table None = subst (HeadSays state table) is (shape.heads table within) in
      let no_head = absent (head_of table) (omega (arith, within)) differs was.0 in
      let no_root = absent (root_of (index_tree table)) (root_fixed (index_tree table) (omega (arith, within))) (root is) was.1 in
      let now : HeadSays state' table None = (no_head, no_root) in
      subst (HeadSays state' table) (sym is) now
  head_at (Some column) table within is other differs root =
      let was : HeadSays state table (Some column) = subst (HeadSays state table) is (shape.heads table within) in
      let now : HeadSays state' table (Some column) = frame (head table) (head_of table) other (within, rw is refl, refl) ∙ was in
      subst (HeadSays state' table) (sym is) now

  pub head_stays : (table : ℕ) → table < table_limit → head table ≢ own → head_of table ≢ first → (places.column_at table ≡ None → root_of (index_tree table) ≢ first) → IsHead state' places table
  head_stays table within other differs root = head_at (places.column_at table) table within refl other differs root

-- a change of a spot, said of the same records in other words
pub moved_along : (fixed first : ℕ) (was was' now now' : ℕ → Type 0) (state state' : State) → ((rid : ℕ) → was rid → was' rid) → ((rid : ℕ) → was' rid → was rid) → ((rid : ℕ) → now rid → now' rid) → ((rid : ℕ) → now' rid → now rid) → IsMoved fixed first was now state state' → IsMoved fixed first was' now' state state'
moved_along fixed first was was' now now' state state' was_to was_from to from moved = record {
  kept = λ rid here. elim (moved.kept rid (was_from rid here)) as (λ _. now' rid ⊎ (state' rid ≡ None)) [
    | inl stays ↦ inl (to rid stays)
    | inr gone ↦ inr gone
  ];
  anew = λ rid here. elim (moved.anew rid (from rid here)) as (λ _. was' rid ⊎ ((state rid ≡ None) × ((rid ≡ first) ⊎ (fixed ≤ rid)))) [
    | inl old ↦ inl (was_to rid old)
    | inr new ↦ inr new
  ];
  present = λ rid here. moved.present rid (from rid here);
  outside = λ rid gone never. moved.outside rid (λ here. gone (to rid here)) (λ here. never (was_to rid here));
  known = λ rid. elim (moved.known rid) as (λ _. now' rid ⊎ (now' rid → ⊥)) [
    | inl here ↦ inl (to rid here)
    | inr gone ↦ inr (λ here. gone (from rid here))
  ];
  known_before = λ rid. elim (moved.known_before rid) as (λ _. was' rid ⊎ (was' rid → ⊥)) [
    | inl here ↦ inl (was_to rid here)
    | inr gone ↦ inr (λ here. gone (was_from rid here))
  ];
}

pub not_some : (at : Option ℕ) → at ≡ None → IsSome at → ⊥
not_some None is some = cc
not_some (Some found) is some = none-some found (sym is)
