-- A row added, rewritten or dropped: its record changes, and those of other rows stay.
use Rattle.std.proofs.Common.{◌≡◌, ◌≢◌, ℕ, ◌≤◌, List, Option, None, Some, refl, sym, ap, subst, ◌∙◌}
use Rattle.std.proofs.lemmas.Option.{none-some}
use Rattle.plain_data.specs.State.{State, overlay}
use Rattle.record_store.specs.Meaning.{Meaning, with_value}
use Rattle.stored_tables.specs.Answers.{LacksRow, AddsRow, HasRow, Rewrites, DropsRow}
use Rattle.stored_tables.specs.Moved.{Shaped}
use Rattle.stored_tables.specs.Places.{Places, fixed_records}
use Rattle.stored_tables.specs.Places.Spot.{row}
use Rattle.stored_tables.specs.Shape.{IsShape}
use Rattle.stored_tables.proofs.StepsRows.{row_added, row_rewritten, row_dropped}
use Rattle.stored_tables.proofs.Written.{written_here, written_others}

-- the writes after one more
pub record WroteOne (before now : Meaning) (rid : ℕ) (value : Option (List ℕ)) : Type 0 where
  pub writes : now.writes ≡ with_value before.writes rid value
  pub size : now.size ≡ before.size

pub shaped_at : (before now : Meaning) (rid : ℕ) (value : Option (List ℕ)) (state : State) (places : Places)
    → WroteOne before now rid value → IsShape before.size (overlay (with_value before.writes rid value) state) places
    → Shaped now state places
shaped_at before now rid value state places wrote shape =
    let W : List (ℕ × Option (List ℕ)) → Type 0 = λ ws. IsShape before.size (overlay ws state) places in
    let Z : ℕ → Type 0 = λ n. IsShape n (overlay now.writes state) places in
    subst Z (sym wrote.size) (subst W (sym wrote.writes) shape)

here_at : (before now : Meaning) (rid : ℕ) (value : Option (List ℕ)) (state : State) → WroteOne before now rid value
    → overlay now.writes state rid ≡ value
here_at before now rid value state wrote = ap (λ ws. overlay ws state rid) wrote.writes ∙ written_here before.writes state rid value

pub other_at : (before now : Meaning) (rid : ℕ) (value : Option (List ℕ)) (state : State) (other : ℕ) → WroteOne before now rid value
    → other ≢ rid → overlay now.writes state other ≡ overlay before.writes state other
other_at before now rid value state other wrote differs = ap (λ ws. overlay ws state other) wrote.writes
    ∙ written_others before.writes state rid value other differs

-- two rows have two records
row_spots : (a b c d : ℕ) → row a b ≡ row c d → (c ≡ a) × (d ≡ b)
row_spots a b c d same = (cc, cc)

pub adds_row : (table key rid : ℕ) (words : List ℕ) (before now : Meaning) (state : State) (places : Places)
    → WroteOne before now rid (Some words) → fixed_records ≤ rid → overlay before.writes state rid ≡ None
    → LacksRow before table key state places → AddsRow table key rid words before now 1 state places
adds_row table key rid words before now state places wrote new absent lacks = record {
  once = refl;
  shape = shaped_at before now rid (Some words) state _ wrote (row_added table key rid words before state places lacks.0 new absent
      lacks.2 lacks.1);
  here = here_at before now rid (Some words) state wrote;
  stay = λ other number at low is. other_at before now rid (Some words) state at wrote
      (λ same. (let present = lacks.1.laid.present at (row other number) (low, is) in none-some present.0
      (sym (ap (overlay before.writes state) same ∙ absent) ∙ present.1)));
}

pub rewrites : (table key rid : ℕ) (words : List ℕ) (before now : Meaning) (state : State) (places : Places)
    → WroteOne before now rid (Some words) → HasRow before table key rid state places
    → Rewrites table key rid words before now state places
rewrites table key rid words before now state places wrote has = record {
  shape = shaped_at before now rid (Some words) state places wrote (row_rewritten table key rid words before state places has.0 has.2
      has.1);
  here = here_at before now rid (Some words) state wrote;
  others = λ other number at low differs is. other_at before now rid (Some words) state at wrote
      (λ same. differs (row_spots table key other number (has.1.laid.once rid (row table key) (row other number) (has.0, has.2)
      (low, is ∙ ap Some same))));
}

pub drops_row : (table key rid : ℕ) (before now : Meaning) (state : State) (places : Places) → WroteOne before now rid None
    → HasRow before table key rid state places → DropsRow table key before now state places
drops_row table key rid before now state places wrote has = record {
  shape = shaped_at before now rid None state _ wrote (row_dropped table key rid before state places has.0 has.2 has.1);
  others = λ other number at low differs is. other_at before now rid None state at wrote
      (λ same. differs (row_spots table key other number (has.1.laid.once rid (row table key) (row other number) (has.0, has.2)
      (low, is ∙ ap Some same))));
}
