-- One spot changed: the others keep their records, and all are reached once.
use Rattle.std.proofs.Common.{◌≡◌, ◌≢◌, ◌⊎◌, ℕ, ◌≤◌, List, None, Some, sym, ◌∙◌, subst, inl, inr}
use Rattle.std.proofs.lemmas.Option.{none-some}
use Rattle.plain_data.specs.State.{State}
use Rattle.record_store.specs.Spots.{IsLaid, IsMoved}

module _ {Spot : Type 0} (holds holds' : Spot → ℕ → Type 0) (fixed first : ℕ) (state state' : State) (own : Spot) (decided : (a b : Spot) → (a ≡ b) ⊎ (a ≢ b)) (laid : IsLaid holds state) (moved : IsMoved fixed first (holds own) (holds' own) state state') (on : (a : Spot) → a ≢ own → (rid : ℕ) → holds a rid → holds' a rid) (back : (a : Spot) → a ≢ own → (rid : ℕ) → holds' a rid → holds a rid) where
  apart : (a : Spot) (rid : ℕ) → a ≢ own → holds a rid → holds' own rid → ⊥
  apart a rid differs here there = elim (moved.anew rid there) as (λ _. ⊥) [
    | inl was ↦ differs (laid.once rid a own here was)
    | inr new ↦ let stands = laid.present rid a here in none-some stands.0 (sym new.0 ∙ stands.1)
  ]

  -- a record of another spot does not change
  pub other_spot : (a : Spot) (rid : ℕ) → a ≢ own → holds a rid → state' rid ≡ state rid
  other_spot a rid differs here = moved.outside rid (apart a rid differs here) (λ was. differs (laid.once rid a own here was))

  -- nor does an absent record, unless it is the first one of this spot or a spare one
  pub still_absent : (rid : ℕ) → state rid ≡ None → (rid ≡ first → ⊥) → (fixed ≤ rid → ⊥) → state' rid ≡ None
  still_absent rid absent not_first not_spare = elim (moved.known_before rid) as (λ _. state' rid ≡ None) [
    | inl was ↦ let stands = laid.present rid own was in absurd (none-some stands.0 (sym absent ∙ stands.1))
    | inr never ↦ elim (moved.known rid) as (λ _. state' rid ≡ None) [
      | inl now ↦ elim (moved.anew rid now) as (λ _. state' rid ≡ None) [
        | inl was ↦ absurd (never was)
        | inr new ↦ elim new.1 as (λ _. state' rid ≡ None) [ inl is ↦ absurd (not_first is) | inr is ↦ absurd (not_spare is) ]
      ]
      | inr gone ↦ moved.outside rid gone never ∙ absent
    ]
  ]

  once_now : (rid : ℕ) (a b : Spot) → holds' a rid → holds' b rid → a ≡ b
  once_now rid a b in_a in_b = elim (decided a own) as (λ _. a ≡ b) [
    | inl a_own ↦ elim (decided b own) as (λ _. a ≡ b) [
      | inl b_own ↦ a_own ∙ sym b_own
      | inr b_not ↦ absurd (apart b rid b_not (back b b_not rid in_b) (subst (λ s. holds' s rid) a_own in_a))
    ]
    | inr a_not ↦ elim (decided b own) as (λ _. a ≡ b) [
      | inl b_own ↦ absurd (apart a rid a_not (back a a_not rid in_a) (subst (λ s. holds' s rid) b_own in_b))
      | inr b_not ↦ laid.once rid a b (back a a_not rid in_a) (back b b_not rid in_b)
    ]
  ]

  present_now : (rid : ℕ) (a : Spot) → holds' a rid → (words : List ℕ) × (state' rid ≡ Some words)
  present_now rid a here = elim (decided a own) as (λ _. (words : List ℕ) × (state' rid ≡ Some words)) [
    | inl is ↦ moved.present rid (subst (λ s. holds' s rid) is here)
    | inr differs ↦ let was = back a differs rid here in let stands = laid.present rid a was in (stands.0, other_spot a rid differs was ∙ stands.1)
  ]

  all_now : (rid : ℕ) (words : List ℕ) → state' rid ≡ Some words → (a : Spot) × holds' a rid
  all_now rid words here = elim (moved.known rid) as (λ _. (a : Spot) × holds' a rid) [
    | inl now ↦ (own, now)
    | inr gone ↦ elim (moved.known_before rid) as (λ _. (a : Spot) × holds' a rid) [
      | inl was ↦ elim (moved.kept rid was) as (λ _. (a : Spot) × holds' a rid) [
        | inl now ↦ (own, now)
        | inr absent ↦ absurd (none-some words (sym absent ∙ here))
      ]
      | inr never ↦
          let spot = laid.all rid words (sym (moved.outside rid gone never) ∙ here) in
          elim (decided spot.0 own) as (λ _. (a : Spot) × holds' a rid) [
            | inl is ↦ absurd (never (subst (λ s. holds s rid) is spot.1))
            | inr differs ↦ (spot.0, on spot.0 differs rid spot.1)
          ]
    ]
  ]

  pub laid_now : IsLaid holds' state'
  laid_now = record { once = once_now; present = present_now; all = all_now }
