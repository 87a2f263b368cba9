-- A row in which one node is written over, or parted in two.
use Rattle.std.proofs.Common.{◌≡◌, ◌≢◌, ◌⊎◌, ℕ, ◌≤◌, List, ◌∷◌, ◌++◌, None, Some, refl, sym, ap, ◌∙◌, subst, inl, inr}
use Rattle.std.proofs.lemmas.Option.{none-some}
use Rattle.plain_data.specs.State.{State}
use Rattle.ordered_index.specs.declared.node.Kind.{Kind}
use Rattle.ordered_index.specs.Node.{Content}
use Rattle.ordered_index.specs.Tree.{Stand, In, Apart}
use Rattle.record_store.specs.Links.{records_of}
use Rattle.ordered_index.specs.Enter.{Grown}
use Rattle.ordered_index.proofs.Rows.{stand_left, stand_right, stand_append}
use Rattle.ordered_index.proofs.Grown.{in_left, in_right, in_cases, apart_left, apart_right, apart_both, apart_append, apart_middle, records_of-append, stand_frame, stand_present, stays_out}

pub record RowGrown (size fixed : ℕ) (state between state' : State) (kind : Kind) (row row' : List (ℕ × Content)) (was now : List ℕ) : Type 0 where
  pub stand : Stand size state' kind row'
  pub keeps : (rid : ℕ) → In rid now → state' rid ≡ between rid
  pub once : Apart (records_of row' ++ now)
  pub grown : Grown fixed state state' (records_of row ++ was) (records_of row' ++ now)

-- what is written in a row: a node of it, and new records
pub record Writes (size fixed : ℕ) (between state' : State) (kind : Kind) (rid : ℕ) (mid : List (ℕ × Content)) (news : List ℕ) : Type 0 where
  pub records : records_of mid ≡ rid ∷ news
  pub apart : Apart news
  pub absent : (new : ℕ) → In new news → (between new ≡ None) × (fixed ≤ new)
  pub stand : Stand size state' kind mid
  pub others : (other : ℕ) → other ≢ rid → (In other news → ⊥) → state' other ≡ between other

module _ (size fixed : ℕ) (state between state' : State) (kind : Kind) (before : List (ℕ × Content)) (rid : ℕ) (node : Content) (mid after : List (ℕ × Content)) (news was now : List ℕ) (stand : Stand size state kind (before ++ (rid, node) ∷ after)) (apart : Apart (records_of (before ++ (rid, node) ∷ after) ++ was)) (grown : Grown fixed state between was now) (once : Apart now) (present : (other : ℕ) → In other now → (words : List ℕ) × (between other ≡ Some words)) (writes : Writes size fixed between state' kind rid mid news) where
  row : List ℕ
  row = records_of (before ++ (rid, node) ∷ after)

  parts : row ≡ records_of before ++ rid ∷ records_of after
  unfolding row
  parts = records_of-append before ((rid, node) ∷ after)

  row_apart : Apart row
  unfolding row
  row_apart = apart_left (records_of (before ++ (rid, node) ∷ after)) was apart

  parts_apart : Apart (records_of before ++ rid ∷ records_of after)
  parts_apart = rw parts at row_apart

  row_present : (other : ℕ) → In other row → (words : List ℕ) × (state other ≡ Some words)
  unfolding row
  row_present other there = stand_present size state kind (before ++ (rid, node) ∷ after) other stand there

  in_before : (other : ℕ) → In other (records_of before) → In other row
  in_before other there = rw parts (in_left other (records_of before) (rid ∷ records_of after) there)

  in_after : (other : ℕ) → In other (records_of after) → In other row
  in_after other there = rw parts (in_right other (records_of before) (rid ∷ records_of after) (inr there))

  in_here : In rid row
  in_here = rw parts (in_right rid (records_of before) (rid ∷ records_of after) (inl refl))

  out : (other : ℕ) → In other row → In other now → ⊥
  unfolding row
  out other here = let is = row_present other here in stays_out fixed state between was now other is.0 grown (apart_both other (records_of (before ++ (rid, node) ∷ after)) was apart here) is.1

  same : (other : ℕ) → In other row → between other ≡ state other
  same other here = grown.outside other (out other here)

  new_out : (other : ℕ) → In other news → In other row → ⊥
  new_out other new here = let is = row_present other here in none-some is.0 (sym (writes.absent other new).0 ∙ same other here ∙ is.1)

  new_not_now : (other : ℕ) → In other news → In other now → ⊥
  new_not_now other new there = let is = present other there in none-some is.0 (sym (writes.absent other new).0 ∙ is.1)

  not_rid : (other : ℕ) → In other now → other ≢ rid
  not_rid other there equal = out rid in_here (let P : ℕ → Type 0 = λ r. In r now in subst P equal there)

  keeps_now : (other : ℕ) → In other now → state' other ≡ between other
  keeps_now other there = writes.others other (not_rid other there) (λ new. new_not_now other new there)

  side : (other : ℕ) → In other (records_of before) ⊎ In other (records_of after) → In other row
  side other there = elim there as (λ _. In other row) [ inl left ↦ in_before other left | inr right ↦ in_after other right ]

  side_same : (other : ℕ) → In other (records_of before) ⊎ In other (records_of after) → state' other ≡ state other
  side_same other there =
      writes.others other (apart_middle (records_of before) rid (records_of after) parts_apart other there) (λ new. new_out other new (side other there))
      ∙ same other (side other there)

  row_now : List ℕ
  row_now = records_of (before ++ (mid ++ after))

  parts_now : row_now ≡ records_of before ++ (rid ∷ (news ++ records_of after))
  unfolding row_now
  parts_now = records_of-append before (mid ++ after) ∙ ap (λ rs. records_of before ++ rs) (records_of-append mid after ∙ ap (λ rs. rs ++ records_of after) writes.records)

  later_apart : Apart (rid ∷ (news ++ records_of after))
  later_apart = (
    λ there. elim (in_cases rid news (records_of after) there) as (λ _. ⊥) [ inl new ↦ new_out rid new in_here | inr right ↦ (apart_right (records_of before) (rid ∷ records_of after) parts_apart).0 right ],
    apart_append news (records_of after) writes.apart (apart_right (records_of before) (rid ∷ records_of after) parts_apart).1 (λ other new right. new_out other new (in_after other right)),
  )

  now_apart : Apart (records_of before ++ (rid ∷ (news ++ records_of after)))
  now_apart = apart_append (records_of before) (rid ∷ (news ++ records_of after)) (apart_left (records_of before) (rid ∷ records_of after) parts_apart) later_apart (λ other left there.
      elim there as (λ _. ⊥) [
        | inl equal ↦ apart_middle (records_of before) rid (records_of after) parts_apart other (inl left) (sym equal)
        | inr more ↦ elim (in_cases other news (records_of after) more) as (λ _. ⊥) [
          | inl new ↦ new_out other new (in_before other left)
          | inr right ↦ apart_both other (records_of before) (rid ∷ records_of after) parts_apart left (inr right)
        ]
      ])

  -- a record of the row now is one of the row before, or a new one
  now_cases : (other : ℕ) → In other row_now → In other row ⊎ In other news
  now_cases other there = elim (in_cases other (records_of before) (rid ∷ (news ++ records_of after)) (rw parts_now at there)) as (λ _. In other row ⊎ In other news) [
    | inl left ↦ inl (in_before other left)
    | inr later ↦ elim later as (λ _. In other row ⊎ In other news) [
      | inl equal ↦ inl (let P : ℕ → Type 0 = λ r. In r row in subst P equal in_here)
      | inr more ↦ elim (in_cases other news (records_of after) more) as (λ _. In other row ⊎ In other news) [ inl new ↦ inr new | inr right ↦ inl (in_after other right) ]
    ]
  ]

  now_keeps : (other : ℕ) → In other row → In other row_now
  now_keeps other there = rw parts_now (elim (in_cases other (records_of before) (rid ∷ records_of after) (rw parts at there)) as (λ _. In other (records_of before ++ (rid ∷ (news ++ records_of after)))) [
    | inl left ↦ in_left other (records_of before) (rid ∷ (news ++ records_of after)) left
    | inr later ↦ in_right other (records_of before) (rid ∷ (news ++ records_of after)) (elim later as (λ _. In other (rid ∷ (news ++ records_of after))) [ inl equal ↦ inl equal | inr right ↦ inr (in_right other news (records_of after) right) ])
  ])

  new_in : (other : ℕ) → In other news → In other row_now
  new_in other new = rw parts_now (in_right other (records_of before) (rid ∷ (news ++ records_of after)) (inr (in_left other news (records_of after) new)))

  new_before : (other : ℕ) → In other news → state other ≡ None
  new_before other new = sym (grown.outside other (new_not_now other new)) ∙ (writes.absent other new).0

  pub row_grows : RowGrown size fixed state between state' kind (before ++ (rid, node) ∷ after) (before ++ (mid ++ after)) was now
  unfolding row row_now
  row_grows = record {
    stand =
        stand_append size state' kind before (mid ++ after)
        (stand_frame size state state' kind before (λ other there. side_same other (inl there)) (stand_left size state kind before ((rid, node) ∷ after) stand))
        (stand_append size state' kind mid after writes.stand (stand_frame size state state' kind after (λ other there. side_same other (inr there)) (stand_right size state kind before ((rid, node) ∷ after) stand).2));
    keeps = keeps_now;
    once = apart_append (records_of (before ++ (mid ++ after))) now (rw parts_now now_apart) once (λ other there later. elim (now_cases other there) as (λ _. ⊥) [ inl here ↦ out other here later | inr new ↦ new_not_now other new later ]);
    grown = record {
      kept = λ other there. elim (in_cases other (records_of (before ++ (rid, node) ∷ after)) was there) as (λ _. In other (records_of (before ++ (mid ++ after)) ++ now)) [
        | inl here ↦ in_left other (records_of (before ++ (mid ++ after))) now (now_keeps other here)
        | inr below ↦ in_right other (records_of (before ++ (mid ++ after))) now (grown.kept other below)
      ];
      anew = λ other there. elim (in_cases other (records_of (before ++ (mid ++ after))) now there) as (λ _. In other (records_of (before ++ (rid, node) ∷ after) ++ was) ⊎ ((state other ≡ None) × (fixed ≤ other))) [
        | inl here ↦ elim (now_cases other here) as (λ _. In other (records_of (before ++ (rid, node) ∷ after) ++ was) ⊎ ((state other ≡ None) × (fixed ≤ other))) [
          | inl old ↦ inl (in_left other (records_of (before ++ (rid, node) ∷ after)) was old)
          | inr new ↦ inr (new_before other new, (writes.absent other new).1)
        ]
        | inr below ↦ elim (grown.anew other below) as (λ _. In other (records_of (before ++ (rid, node) ∷ after) ++ was) ⊎ ((state other ≡ None) × (fixed ≤ other))) [
          | inl old ↦ inl (in_right other (records_of (before ++ (rid, node) ∷ after)) was old)
          | inr new ↦ inr new
        ]
      ];
      outside = λ other gone.
          writes.others other (λ equal. gone (in_left other (records_of (before ++ (mid ++ after))) now (let P : ℕ → Type 0 = λ r. In r row_now in subst P (sym equal) (now_keeps rid in_here)))) (λ new. gone (in_left other (records_of (before ++ (mid ++ after))) now (new_in other new)))
          ∙ grown.outside other (λ there. gone (in_right other (records_of (before ++ (mid ++ after))) now there));
    };
  }
