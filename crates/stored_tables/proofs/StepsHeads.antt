-- The shape once an index was declared by its head.
use Rattle.std.proofs.Common.{◌≡◌, ◌≢◌, ◌⊎◌, ℕ, ◌<◌, None, Some, refl, sym, ap, ◌∙◌, arith, subst, inl, inr, eq-eqb, ne_eqb}
use Rattle.std.proofs.lemmas.Bool.{cases_eq}
use Rattle.plain_data.specs.State.{State, overlay}
use Rattle.record_store.specs.Meaning.{Meaning, with_value}
use Rattle.record_store.specs.Spots.{IsMoved}
use Rattle.stored_tables.specs.Places.{Spot, Places, holds, head_of, index_tree, with_head, table_limit, fixed_records}
use Rattle.stored_tables.specs.Places.Spot.{bucket, tree, row, head}
use Rattle.stored_tables.specs.Shape.{IsShape, IsHead, head_words}
use Rattle.stored_tables.specs.Steps.{HeadWritten}
use Rattle.stored_tables.proofs.Spots.{bucket_head, tree_head, head_table}
use Rattle.stored_tables.proofs.Laid.{HeadSays, SpotMoved, chain_stays, tree_stays, head_stays, all_laid, head_root, not_some}
use Rattle.stored_tables.proofs.Written.{written_here, written_others}

module _ (table column : ℕ) (before : Meaning) (state : State) (places : Places) (within : table < table_limit) (free : places.column_at table ≡ None) (shape : IsShape before.size (overlay before.writes state) places) where
  abbrev was : State
  was = overlay before.writes state

  abbrev now : State
  now = overlay (with_value before.writes (head_of table) (Some (head_words column))) state

  abbrev after : Places
  after = with_head places table column

  own_column : after.column_at table ≡ Some column
  own_column = rw (eq-eqb table table refl) refl

  other_column : (other : ℕ) → other ≢ table → after.column_at other ≡ places.column_at other
  other_column other differs = rw (ne_eqb other table differs) refl

  -- the head was absent
  nothing_there : was (head_of table) ≡ None
  nothing_there =
      let none : HeadSays was table None = subst (HeadSays was table) free (shape.heads table within) in
      none.0

  never : (rid : ℕ) → holds places (head table) rid → ⊥
  never rid here = not_some (places.column_at table) free here.1

  at_head : (rid : ℕ) → rid ≡ head_of table → holds after (head table) rid
  at_head rid same = (within, rw own_column refl, same)

  moved : IsMoved fixed_records (head_of table) (holds places (head table)) (holds after (head table)) was now
  moved = record {
    kept = λ rid here. absurd (never rid here);
    anew = λ rid here. inr (ap was here.2 ∙ nothing_there, inl here.2);
    present = λ rid here. (head_words column, ap now here.2 ∙ written_here before.writes state (head_of table) (Some (head_words column)));
    outside = λ rid gone _. written_others before.writes state (head_of table) (Some (head_words column)) rid (λ same. gone (at_head rid same));
    known = λ rid. elim (cases_eq rid (head_of table)) as (λ _. holds after (head table) rid ⊎ (holds after (head table) rid → ⊥)) [
      | inl same ↦ inl (at_head rid same)
      | inr differs ↦ inr (λ here. differs here.2)
    ];
    known_before = λ rid. inr (never rid);
  }

  on : (a : Spot) → a ≢ head table → (rid : ℕ) → holds places a rid → holds after a rid
  on (bucket other place) differs rid here = here
  on (tree other) differs rid here = here
  on (row other key) differs rid here = here
  on (head other) differs rid here = (here.0, rw (other_column other (λ same. differs (ap (λ t. head t) same))) here.1, here.2)

  back : (a : Spot) → a ≢ head table → (rid : ℕ) → holds after a rid → holds places a rid
  back (bucket other place) differs rid here = here
  back (tree other) differs rid here = here
  back (row other key) differs rid here = here
  back (head other) differs rid here = (here.0, rw (other_column other (λ same. differs (ap (λ t. head t) same))) at here.1, here.2)

  spot : SpotMoved fixed_records (head_of table) (head table) was now places after
  spot = record { enough = omega arith; moved = moved; on = on; back = back }

  -- a head says the same where its column does
  head_like : (other : ℕ) → after.column_at other ≡ places.column_at other → IsHead now places other → IsHead now after other
  head_like other same there = subst (HeadSays now other) (sym same) there

  own_head : IsHead now after table
  own_head =
      let here : HeadSays now table (Some column) = written_here before.writes state (head_of table) (Some (head_words column)) in
      subst (HeadSays now table) (sym own_column) here

  heads_now : (other : ℕ) → other < table_limit → IsHead now after other
  heads_now other inside = elim (cases_eq other table) as (λ _. IsHead now after other) [
    | inl same ↦ (let P : ℕ → Type 0 = λ t. IsHead now after t in subst P (sym same) own_head)
    | inr differs ↦ head_like other (other_column other differs)
        (head_stays before.size fixed_records (head_of table) (head table) was now places after shape spot other inside
        (λ same. differs (head_table other table same))
        (λ same. differs (omega (arith, same)))
        (λ _ same. head_root table (index_tree other) within (sym same)))
  ]

  pub head_shape : IsShape before.size now after
  head_shape = record {
    chains = λ other inside. chain_stays before.size fixed_records (head_of table) (head table) was now places after shape spot other inside
        (λ place. bucket_head other place table)
        (λ place below same. omega (arith, inside, below, within, same));
    trees = λ other inside. tree_stays before.size fixed_records (head_of table) (head table) was now places after shape spot other inside
        (tree_head other table)
        (λ same. head_root table other within (sym same));
    heads = heads_now;
    laid = all_laid before.size fixed_records (head_of table) (head table) was now places after shape spot;
  }

pub head_written : HeadWritten
head_written table column before state places within free shape = head_shape table column before state places within free shape
