-- What parts of a run write, in a state.
use Rattle.std.proofs.Common.{◌≡◌, ◌⊎◌, ℕ, List, Option, Ok, IsSome, Contains, sym, subst, inl, inr}
use Rattle.plain_data.specs.State.{State}
use Rattle.record_store.specs.Meaning.{Meaning, value_at, after_write}
use Rattle.record_store.specs.Writes.{WritesOnly, WritesKnown, IsKnown, GivesAtMost}
use Rattle.record_store.proofs.Known.{Tries, tries, only-trans, present-overlay, goes-given, goes-tried}
use Rattle.stored_tables.specs.Answers.{HasRow}
use Rattle.stored_tables.specs.Places.{Places}
use Rattle.stored_tables.specs.Places.Spot.{row}

-- one part behind another
pub known_trans : (n : ℕ) (first before after : Meaning) (state : State) → before.fixed ≡ first.fixed → WritesKnown first before state
    → GivesAtMost n before after → WritesKnown before after state → WritesKnown first after state
known_trans n first before after state fixed a gives b = only-trans (IsKnown first.fixed state) n first before after a gives
    (let P : ℕ → Type 0 = λ f. WritesOnly (IsKnown f state) before after in subst P fixed b)

-- a record that may be written
abbrev pub MayWrite : Meaning → State → ℕ → Type 0
MayWrite now state rid = IsSome (value_at now.writes rid) ⊎ Contains now.given rid ⊎ IsKnown now.fixed state rid

-- it was written before
known_again : (before after : Meaning) (rid : ℕ) (state : State) → IsSome (value_at before.writes rid)
    → WritesOnly (λ other. other ≡ rid) before after → WritesKnown before after state
known_again before after rid state old only other written =
    let Goal : ℕ → Type 0 = λ r. IsSome (value_at before.writes r) ⊎ Contains after.given r ⊎ IsKnown before.fixed state r in
    elim (only other written) as (λ _. Goal other) [
      | inl older ↦ inl older
      | inr new ↦ elim new as (λ _. Goal other) [ inl given ↦ inr (inl given) | inr same ↦ subst Goal (sym same) (inl old) ]
    ]

pub known_write : (before after : Meaning) (rid : ℕ) (value : Option (List ℕ)) (state : State) → after ≡ after_write before rid value
    → MayWrite before state rid → WritesKnown before after state
known_write before after rid value state is may =
    let tried : Tries rid before after = tries {E = Unit {0}} (Ok (tt {0})) before after rid value is tt in
    let Known : ℕ → Type 0 = IsKnown before.fixed state in
    elim may as (λ _. WritesKnown before after state) [
      | inl old ↦ known_again before after rid state old tried.only
      | inr new ↦ elim new as (λ _. WritesKnown before after state) [
        | inl given ↦ (goes-given Known before after rid given tried).only
        | inr known ↦ (goes-tried Known before after rid tried known).only
      ]
    ]

-- a row's record is present
pub row_may : (now : Meaning) (table key rid : ℕ) (state : State) (places : Places) → HasRow now table key rid state places
    → MayWrite now state rid
row_may now table key rid state places has =
    let stands = has.1.laid.present rid (row table key) (has.0, has.2) in
    elim (present-overlay now state rid stands.0 stands.1) as (λ _. MayWrite now state rid) [
      | inl old ↦ inl old
      | inr here ↦ inr (inr (inr (stands.0, here)))
    ]
