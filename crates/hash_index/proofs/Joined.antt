-- A chain in which one row changed.
use Rattle.std.proofs.Common.{◌≡◌, ◌≢◌, ◌⊎◌, ℕ, ◌+◌, ◌<◌, cond, eqb, List, length, Option, None, Some, All, Contains, refl, sym, ap, ◌∙◌, arith, subst, inl, inr, eq-eqb, ne_eqb, get_or}
use Rattle.std.proofs.lemmas.List.{length-map, get_or-map}
use Rattle.std.specs.Prelude.{option_map}
use Rattle.std.proofs.lemmas.Bool.{cases_eq}
use Rattle.std.proofs.lemmas.Option.{none-some}
use Rattle.plain_data.specs.State.{State}
use Rattle.hash_index.specs.Chain.{Leads, IsChain, start_of, row_pairs, bucket_of, record_at, record_of}
use Rattle.record_store.specs.Links.{records_of}
use Rattle.hash_index.proofs.Rows.{start_present}
use Rattle.hash_index.proofs.Chains.{begins}
use Rattle.hash_index.proofs.Frames.{Leads-frame, row_present}
use Rattle.hash_index.proofs.Distinct.{Keyed, Changes, distinct_from, distinct_to}

-- the rows with another one for a bucket
abbrev pub with_row : (ℕ → List (ℕ × List ℕ)) → ℕ → List (ℕ × List ℕ) → ℕ → List (ℕ × List ℕ)
with_row rows bucket row other = cond (eqb other bucket) row (rows other)

pub with_row-same : (rows : ℕ → List (ℕ × List ℕ)) (bucket : ℕ) (row : List (ℕ × List ℕ)) → with_row rows bucket row bucket ≡ row
with_row-same rows bucket row = rw (eq-eqb bucket bucket refl) refl

pub with_row-other : (rows : ℕ → List (ℕ × List ℕ)) (bucket other : ℕ) (row : List (ℕ × List ℕ)) → other ≢ bucket → with_row rows bucket row other ≡ rows other
with_row-other rows bucket other row differs = rw (ne_eqb other bucket differs) refl

-- an absent record, and no bucket of another row
pub record IsNew (base bucket : ℕ) (state : State) (rid : ℕ) : Type 0 where
  pub absent : state rid ≡ None
  pub no_bucket : (other : ℕ) → other < 511 → other ≢ bucket → rid ≢ base + other

pub record RowChanges (size base bucket : ℕ) (state state' : State) (row row' : List (ℕ × List ℕ)) : Type 0 where
  pub leads : Leads size state' 0 (start_of state' (base + bucket)) row' None
  pub keyed : Keyed bucket (row_pairs row')
  pub records : (rid : ℕ) → Contains (records_of row') rid → Contains (records_of row) rid ⊎ IsNew base bucket state rid
  pub outside : (rid : ℕ) → (Contains (records_of row') rid → ⊥) → state' rid ≡ state rid

-- a bucket that is present is the first record of its row
bucket_in_row : (size base bucket : ℕ) (state : State) (row : List (ℕ × List ℕ)) (words : List ℕ) → Leads size state 0 (start_of state (base + bucket)) row None → state (base + bucket) ≡ Some words → Contains (records_of row) (base + bucket)
bucket_in_row size base bucket state row words leads here =
    let P : Option ℕ → Type 0 = λ o. Leads size state 0 o row None in
    let first = begins size 0 (base + bucket) state row (subst P (start_present state (base + bucket) words here) leads) in
    rw first.joined (0, omega arith, refl)

record_in : (row : List (ℕ × List ℕ)) (k : ℕ) (d : ℕ × List ℕ) → k < length row → Contains (records_of row) (get_or row k d).0
record_in row k d low = (k, omega (arith, length-map row (λ (node : ℕ × List ℕ). node.0)), get_or-map (λ (node : ℕ × List ℕ). node.0) row k d (get_or row k d).0 low)

-- a record of another row, or its bucket, does not change
module _ (size base bucket : ℕ) (state state' : State) (rows : ℕ → List (ℕ × List ℕ)) (row' : List (ℕ × List ℕ)) (chain : IsChain size base state rows) (below : bucket < 511) (changes : RowChanges size base bucket state state' (rows bucket) row') where
  not_in_changed : (other rid : ℕ) → other < 511 → other ≢ bucket → Contains (records_of (rows other)) rid → Contains (records_of row') rid → ⊥
  not_in_changed other rid within differs there here =
      let present = row_present size state 0 (start_of state (base + other)) None (rows other) (chain.walks other within) rid there in
      elim (changes.records rid here) as (λ _. ⊥) [
        | inl old ↦ differs (chain.apart other bucket rid within below there old)
        | inr new ↦ none-some present.0 (sym new.absent ∙ present.1)
      ]

  bucket_not_in_changed : (other : ℕ) → other < 511 → other ≢ bucket → Contains (records_of row') (base + other) → ⊥
  bucket_not_in_changed other within differs here =
      elim (changes.records (base + other) here) as (λ _. ⊥) [
        | inl old ↦ (let present = row_present size state 0 (start_of state (base + bucket)) None (rows bucket) (chain.walks bucket below) (base + other) old in
            differs (chain.apart other bucket (base + other) within below (bucket_in_row size base other state (rows other) present.0 (chain.walks other within) present.1) old))
        | inr new ↦ new.no_bucket other within differs refl
      ]

  start_same : (other : ℕ) → other < 511 → other ≢ bucket → start_of state' (base + other) ≡ start_of state (base + other)
  start_same other within differs = ap (option_map (λ _. base + other)) (changes.outside (base + other) (bucket_not_in_changed other within differs))

  walks_on : (other : ℕ) → other < 511 → other ≢ bucket → Leads size state' 0 (start_of state' (base + other)) (rows other) None
  walks_on other within differs =
      let P : Option ℕ → Type 0 = λ o. Leads size state' 0 o (rows other) None in
      let same : All (λ node. state' node.0 ≡ state node.0) (rows other) = λ k d low. changes.outside (get_or (rows other) k d).0 (not_in_changed other (get_or (rows other) k d).0 within differs (record_in (rows other) k d low)) in
      subst P (sym (start_same other within differs)) (Leads-frame size state state' 0 (start_of state (base + other)) None (rows other) same (chain.walks other within))

  walks_now : (other : ℕ) → other < 511 → Leads size state' 0 (start_of state' (base + other)) (with_row rows bucket row' other) None
  walks_now other within =
      let P : ℕ → Type 0 = λ b. Leads size state' 0 (start_of state' (base + b)) (with_row rows bucket row' b) None in
      elim (cases_eq other bucket) as (λ _. P other) [
        | inl same ↦ subst P (sym same) (rw (with_row-same rows bucket row') changes.leads)
        | inr differs ↦ rw (with_row-other rows bucket other row' differs) (walks_on other within differs)
      ]

  keyed_now : (other : ℕ) → other < 511 → Keyed other (row_pairs (with_row rows bucket row' other))
  keyed_now other within =
      let P : ℕ → Type 0 = λ b. Keyed b (row_pairs (with_row rows bucket row' b)) in
      elim (cases_eq other bucket) as (λ _. P other) [
        | inl same ↦ subst P (sym same) (rw (with_row-same rows bucket row') changes.keyed)
        | inr differs ↦ rw (with_row-other rows bucket other row' differs) (record { distinct = distinct_from (row_pairs (rows other)) (chain.once other within); own = chain.own other within })
      ]

  -- the row of a record, now
  in_row_now : (other rid : ℕ) → Contains (records_of (with_row rows bucket row' other)) rid → ((other ≡ bucket) × Contains (records_of row') rid) ⊎ ((other ≢ bucket) × Contains (records_of (rows other)) rid)
  in_row_now other rid there = elim (cases_eq other bucket) as (λ _. ((other ≡ bucket) × Contains (records_of row') rid) ⊎ ((other ≢ bucket) × Contains (records_of (rows other)) rid)) [
    | inl same ↦ inl (same, rw (ap (with_row rows bucket row') same ∙ with_row-same rows bucket row') at there)
    | inr differs ↦ inr (differs, rw (with_row-other rows bucket other row' differs) at there)
  ]

  apart_now : (a b rid : ℕ) → a < 511 → b < 511 → Contains (records_of (with_row rows bucket row' a)) rid → Contains (records_of (with_row rows bucket row' b)) rid → a ≡ b
  apart_now a b rid a_within b_within in_a in_b =
      elim (in_row_now a rid in_a) as (λ _. a ≡ b) [
        | inl one ↦ elim (in_row_now b rid in_b) as (λ _. a ≡ b) [
          | inl two ↦ one.0 ∙ sym two.0
          | inr two ↦ absurd (not_in_changed b rid b_within two.0 two.1 one.1)
        ]
        | inr one ↦ elim (in_row_now b rid in_b) as (λ _. a ≡ b) [
          | inl two ↦ absurd (not_in_changed a rid a_within one.0 one.1 two.1)
          | inr two ↦ chain.apart a b rid a_within b_within one.1 two.1
        ]
      ]

  pub chain_with : IsChain size base state' (with_row rows bucket row')
  chain_with = record {
    walks = walks_now;
    own = λ other within. (keyed_now other within).own;
    once = λ other within. distinct_to (row_pairs (with_row rows bucket row' other)) (keyed_now other within).distinct;
    apart = apart_now;
  }

-- the map of the chain, from that of the row
pub record_of-with_row : (rows : ℕ → List (ℕ × List ℕ)) (key : ℕ) (value : Option ℕ) (row' : List (ℕ × List ℕ)) → Changes (bucket_of key) key value (row_pairs (rows (bucket_of key))) (row_pairs row') → (other : ℕ) → record_of (with_row rows (bucket_of key) row') other ≡ cond (eqb other key) value (record_of rows other)
record_of-with_row rows key value row' changes other =
    elim (cases_eq (bucket_of other) (bucket_of key)) as (λ _. record_of (with_row rows (bucket_of key) row') other ≡ cond (eqb other key) value (record_of rows other)) [
      | inl same ↦ ap (λ b. record_at (row_pairs (with_row rows (bucket_of key) row' b)) other) same
          ∙ ap (λ row. record_at (row_pairs row) other) (with_row-same rows (bucket_of key) row')
          ∙ changes.at_key other
          ∙ ap (λ b. cond (eqb other key) value (record_at (row_pairs (rows b)) other)) (sym same)
      | inr differs ↦ ap (λ row. record_at (row_pairs row) other) (with_row-other rows (bucket_of key) (bucket_of other) row' differs)
          ∙ rw (ne_eqb other key (λ same. differs (ap bucket_of same))) refl
    ]
