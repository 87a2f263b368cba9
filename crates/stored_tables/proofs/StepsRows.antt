-- The shape once a row was added, rewritten or dropped.
use Rattle.std.proofs.Common.{◌≡◌, ◌≢◌, ◌⊎◌, ℕ, ◌<◌, ◌≤◌, List, Option, None, Some, refl, sym, ap, ◌∙◌, arith, subst, inl, inr, eq-eqb, ne_eqb}
use Rattle.std.proofs.lemmas.Bool.{cases_eq}
use Rattle.std.proofs.lemmas.Option.{same_Some, none-some}
use Rattle.plain_data.specs.State.{State, overlay}
use Rattle.record_store.specs.Meaning.{Meaning, with_value}
use Rattle.record_store.specs.Spots.{IsMoved}
use Rattle.stored_tables.specs.Places.{Spot, Places, holds, index_tree, with_row, table_limit, fixed_records}
use Rattle.stored_tables.specs.Places.Spot.{bucket, tree, row, head}
use Rattle.stored_tables.specs.Shape.{IsShape}
use Rattle.stored_tables.specs.Steps.{RowAdded, RowRewritten, RowDropped}
use Rattle.stored_tables.proofs.Spots.{bucket_row, tree_row, row_head}
use Rattle.stored_tables.proofs.Laid.{SpotMoved, chain_stays, tree_stays, head_stays, all_laid, moved_along, root_fixed}
use Rattle.stored_tables.proofs.Written.{written_here, written_others}

-- ---- any change at one row, which begins at a new record

abbrev with_rows : Places → (ℕ → ℕ → Option ℕ) → Places
with_rows places row_at' = record places { row_at = row_at' }

row_shape : (size first table key : ℕ) (row_at' : ℕ → ℕ → Option ℕ) (state state' : State) (places : Places) → fixed_records ≤ first → IsShape size state places → SpotMoved first first (row table key) state state' places (with_rows places row_at') → IsShape size state' (with_rows places row_at')
row_shape size first table key row_at' state state' places new shape by = record {
  chains = λ other within. chain_stays size first first (row table key) state state' places (with_rows places row_at') shape by other within
      (λ number. bucket_row other number table key)
      (λ number low same. omega (arith, within, low, same, new));
  trees = λ number within. tree_stays size first first (row table key) state state' places (with_rows places row_at') shape by number within
      (tree_row number table key)
      (λ same. let low = root_fixed number within in omega (arith, low, same, new));
  heads = λ other within. head_stays size first first (row table key) state state' places (with_rows places row_at') shape by other within
      (λ same. row_head table key other (sym same))
      (λ same. omega (arith, within, same, new))
      (λ _ same. let low = root_fixed (index_tree other) (omega (arith, within)) in omega (arith, low, same, new));
  laid = all_laid size first first (row table key) state state' places (with_rows places row_at') shape by;
}

-- ---- what the row holds

module _ (table key : ℕ) (at : Option ℕ) (places : Places) where
  own_row : (with_row places table key at).row_at table key ≡ at
  own_row = rw (eq-eqb table table refl, eq-eqb key key refl) refl

  other_row : (other number : ℕ) → row other number ≢ row table key → (with_row places table key at).row_at other number ≡ places.row_at other number
  other_row other number differs =
      elim (cases_eq other table) as (λ _. (with_row places table key at).row_at other number ≡ places.row_at other number) [
        | inl same ↦ rw (eq-eqb other table same, ne_eqb number key (λ is. differs (ap (λ t. row t number) same ∙ ap (λ n. row table n) is))) refl
        | inr apart ↦ rw (ne_eqb other table apart) refl
      ]

  on : (a : Spot) → a ≢ row table key → (rid : ℕ) → holds places a rid → holds (with_row places table key at) a rid
  on (bucket other number) differs rid here = here
  on (tree number) differs rid here = here
  on (row other number) differs rid here = (here.0, other_row other number differs ∙ here.1)
  on (head other) differs rid here = here

  back : (a : Spot) → a ≢ row table key → (rid : ℕ) → holds (with_row places table key at) a rid → holds places a rid
  back (bucket other number) differs rid here = here
  back (tree number) differs rid here = here
  back (row other number) differs rid here = (here.0, sym (other_row other number differs) ∙ here.1)
  back (head other) differs rid here = here

same_or_not : (at : Option ℕ) (rid : ℕ) → (at ≡ Some rid) ⊎ (at ≢ Some rid)
same_or_not None rid = inr (λ same. none-some rid same)
same_or_not (Some found) rid = elim (cases_eq found rid) as (λ _. (Some found ≡ Some rid) ⊎ (Some found ≢ Some rid)) [
  | inl same ↦ inl (ap (λ r. Some r) same)
  | inr differs ↦ inr (λ same. differs (same_Some found rid same))
]

-- ---- one record written

module _ (rid : ℕ) (before : Meaning) (state : State) where
  abbrev was : State
  was = overlay before.writes state

  abbrev now : Option (List ℕ) → State
  now value = overlay (with_value before.writes rid value) state

  moved_added : (words : List ℕ) → was rid ≡ None → IsMoved rid rid (λ r. None ≡ Some r) (λ r. Some rid ≡ Some r) was (now (Some words))
  moved_added words absent = record {
    kept = λ r here. absurd (none-some r here);
    anew = λ r here. inr (ap was (sym (same_Some rid r here)) ∙ absent, inl (sym (same_Some rid r here)));
    present = λ r here. (words, ap (now (Some words)) (sym (same_Some rid r here)) ∙ written_here before.writes state rid (Some words));
    outside = λ r gone _. written_others before.writes state rid (Some words) r (λ same. gone (ap (λ x. Some x) (sym same)));
    known = same_or_not (Some rid);
    known_before = same_or_not None;
  }

  moved_rewritten : (words : List ℕ) → IsMoved fixed_records fixed_records (λ r. Some rid ≡ Some r) (λ r. Some rid ≡ Some r) was (now (Some words))
  moved_rewritten words = record {
    kept = λ r here. inl here;
    anew = λ r here. inl here;
    present = λ r here. (words, ap (now (Some words)) (sym (same_Some rid r here)) ∙ written_here before.writes state rid (Some words));
    outside = λ r gone _. written_others before.writes state rid (Some words) r (λ same. gone (ap (λ x. Some x) (sym same)));
    known = same_or_not (Some rid);
    known_before = same_or_not (Some rid);
  }

  moved_dropped : IsMoved fixed_records fixed_records (λ r. Some rid ≡ Some r) (λ r. None ≡ Some r) was (now None)
  moved_dropped = record {
    kept = λ r here. inr (ap (now None) (sym (same_Some rid r here)) ∙ written_here before.writes state rid None);
    anew = λ r here. absurd (none-some r here);
    present = λ r here. absurd (none-some r here);
    outside = λ r _ gone. written_others before.writes state rid None r (λ same. gone (ap (λ x. Some x) (sym same)));
    known = same_or_not None;
    known_before = same_or_not (Some rid);
  }

row_moved : (fixed first table key : ℕ) (old at : Option ℕ) (state state' : State) (places : Places) → fixed_records ≤ fixed → table < table_limit → places.row_at table key ≡ old → IsMoved fixed first (λ r. old ≡ Some r) (λ r. at ≡ Some r) state state' → SpotMoved fixed first (row table key) state state' places (with_row places table key at)
row_moved fixed first table key old at state state' places enough within is moved =
    let M : Option ℕ → Type 0 = λ o. IsMoved fixed first (λ r. o ≡ Some r) (λ r. at ≡ Some r) state state' in
    record {
      enough = enough;
      moved = moved_along fixed first _ _ _ _ state state' (λ r here. (within, here)) (λ r here. here.1)
          (λ r here. (within, own_row table key at places ∙ here)) (λ r here. sym (own_row table key at places) ∙ here.1)
          (subst M (sym is) moved);
      on = on table key at places;
      back = back table key at places;
    }

pub row_added : RowAdded
row_added table key rid words before state places within new absent free shape =
    row_shape before.size rid table key ((with_row places table key (Some rid)).row_at) (overlay before.writes state) _ places new shape
    (row_moved rid rid table key None (Some rid) (overlay before.writes state) _ places new within free
    (moved_added rid before state words absent))

pub row_rewritten : RowRewritten
row_rewritten table key rid words before state places within is shape =
    let M : Option ℕ → Type 0 = λ o. IsMoved fixed_records fixed_records (λ r. o ≡ Some r) (λ r. o ≡ Some r)
    (overlay before.writes state) (overlay (with_value before.writes rid (Some words)) state) in
    row_shape before.size fixed_records table key places.row_at (overlay before.writes state) _ places (omega arith) shape
    (record {
      enough = omega arith;
      moved = moved_along fixed_records fixed_records _ _ _ _ (overlay before.writes state) _ (λ r here. (within, here))
          (λ r here. here.1) (λ r here. (within, here)) (λ r here. here.1) (subst M (sym is) (moved_rewritten rid before state words));
      on = λ a _ r here. here;
      back = λ a _ r here. here;
    })

pub row_dropped : RowDropped
row_dropped table key rid before state places within is shape =
    row_shape before.size fixed_records table key ((with_row places table key None).row_at) (overlay before.writes state) _ places
    (omega arith) shape
    (row_moved fixed_records fixed_records table key (Some rid) None (overlay before.writes state) _ places (omega arith) within is
    (moved_dropped rid before state))
