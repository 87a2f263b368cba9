-- The records that a row reaches, once it changed.
use Rattle.std.proofs.Common.{◌≡◌, ◌⊎◌, ℕ, ◌+◌, ◌≤◌, List, [], ◌∷◌, ◌++◌, Option, None, Some, Contains, refl, sym, ap, ◌∙◌, arith, subst, inl, inr}
use Rattle.std.specs.Prelude.{IfSome}
use Rattle.std.proofs.lemmas.Bool.{cases_eq}
use Rattle.std.proofs.lemmas.Option.{none-some}
use Rattle.std.proofs.lemmas.List.{map-append, append-nil, append_assoc}
use Rattle.std.proofs.lemmas.List.Elements.{Contains-append_left, Contains-append_right, Contains-append_cases, Contains-push_cases}
use Rattle.plain_data.specs.State.{State}
use Rattle.record_store.specs.Spots.{IsMoved}
use Rattle.hash_index.specs.Chain.{Leads, IsChain, start_of, bucket_of}
use Rattle.record_store.specs.Links.{records_of}
use Rattle.hash_index.specs.Changes.{Puts, Removes}
use Rattle.hash_index.specs.Changes.Puts.{replaced, added, began, linked}
use Rattle.hash_index.specs.Changes.Removes.{removed}
use Rattle.hash_index.proofs.Frames.{row_present}
use Rattle.hash_index.proofs.Chains.{bucket_below}
use Rattle.hash_index.proofs.Rows.{start_present}

-- a list has a number or has it not
pub has_or_not : (xs : List ℕ) (x : ℕ) → Contains xs x ⊎ (Contains xs x → ⊥)
has_or_not [] x = inr (λ h. let low = h.1 in absurd (omega arith))
has_or_not (y ∷ xs) x = elim (cases_eq y x) as (λ _. Contains (y ∷ xs) x ⊎ (Contains (y ∷ xs) x → ⊥)) [
  | inl same ↦ inl (0, omega arith, same)
  | inr differs ↦ elim (has_or_not xs x) as (λ _. Contains (y ∷ xs) x ⊎ (Contains (y ∷ xs) x → ⊥)) [
    | inl there ↦ inl (Contains-append_right (y ∷ []) xs x there)
    | inr absent ↦ inr (λ h. elim (Contains-append_cases (y ∷ []) xs x h) as (λ _. ⊥) [
      | inl one ↦ elim (Contains-push_cases [] y x one) as (λ _. ⊥) [ inl none ↦ let low = none.1 in absurd (omega arith) | inr same ↦ differs same ]
      | inr more ↦ absent more
    ])
  ]
]

-- the records of a row, and behind them a new one at most: the fresh one, or the bucket where the row was empty
pub record Grown (bucket : ℕ) (fresh : Option ℕ) (row row' : List (ℕ × List ℕ)) : Type 0 where
  pub more : List ℕ
  pub joined : records_of row' ≡ records_of row ++ more
  pub whence : (rid : ℕ) → Contains more rid → (fresh ≡ Some rid) ⊎ ((rid ≡ bucket) × (row ≡ []))

nothing : (bucket : ℕ) (fresh : Option ℕ) (row : List (ℕ × List ℕ)) (rid : ℕ) → Contains [] rid → (fresh ≡ Some rid) ⊎ ((rid ≡ bucket) × (row ≡ []))
nothing bucket fresh row rid h = let low = h.1 in absurd (omega arith)

at_bucket : (bucket rid : ℕ) → Contains (bucket ∷ []) rid → let row : List (ℕ × List ℕ) = [] in let fresh : Option ℕ = None in (fresh ≡ Some rid) ⊎ ((rid ≡ bucket) × (row ≡ []))
at_bucket bucket rid there = elim (Contains-push_cases [] bucket rid there) as (λ _. let row : List (ℕ × List ℕ) = [] in let fresh : Option ℕ = None in (fresh ≡ Some rid) ⊎ ((rid ≡ bucket) × (row ≡ []))) [
  | inl none ↦ let low = none.1 in absurd (omega arith)
  | inr same ↦ inr (sym same, refl)
]

at_fresh : (bucket new : ℕ) (row : List (ℕ × List ℕ)) (rid : ℕ) → Contains (new ∷ []) rid → (Some new ≡ Some rid) ⊎ ((rid ≡ bucket) × (row ≡ []))
at_fresh bucket new row rid there = elim (Contains-push_cases [] new rid there) as (λ _. (Some new ≡ Some rid) ⊎ ((rid ≡ bucket) × (row ≡ []))) [
  | inl none ↦ let low = none.1 in absurd (omega arith)
  | inr same ↦ inl (ap (λ r. Some r) same)
]

around : (before after : List (ℕ × List ℕ)) (node : ℕ × List ℕ) → records_of (before ++ node ∷ after) ≡ records_of before ++ node.0 ∷ records_of after
around before after node = map-append (λ (n : ℕ × List ℕ). n.0) before (node ∷ after)

pub put_records : (bucket key rid : ℕ) (fresh : Option ℕ) (row row' : List (ℕ × List ℕ)) → Puts bucket key rid fresh row row' → Grown bucket fresh row row'
put_records bucket key rid fresh row row' (replaced before after node index old is) = record {
  more = [];
  joined = around before after (node.0, _) ∙ sym (around before after node) ∙ sym (append-nil (records_of (before ++ node ∷ after)));
  whence = nothing bucket None (before ++ node ∷ after);
}
put_records bucket key rid fresh row row' (added before after node absent full room) = record {
  more = [];
  joined = around before after (node.0, _) ∙ sym (around before after node) ∙ sym (append-nil (records_of (before ++ node ∷ after)));
  whence = nothing bucket None (before ++ node ∷ after);
}
put_records bucket key rid fresh row row' began = record {
  more = bucket ∷ [];
  joined = refl;
  whence = at_bucket bucket;
}
put_records bucket key rid fresh row row' (linked before last new absent full) = record {
  more = new ∷ [];
  joined =
      around before ((new, _) ∷ []) (last.0, _)
      ∙ sym (append_assoc (records_of before) (last.0 ∷ []) (new ∷ []))
      ∙ ap (λ rs. rs ++ new ∷ []) (sym (around before [] last));
  whence = at_fresh bucket new (before ++ last ∷ []);
}

-- an empty row is that of an absent bucket
absent_by : (value : Option (List ℕ)) (state : State) (bucket : ℕ) → state bucket ≡ value → start_of state bucket ≡ None → state bucket ≡ None
absent_by None state bucket is none = is
absent_by (Some words) state bucket is none = absurd (none-some bucket (sym none ∙ start_present state bucket words is))

pub removed_records : (bucket key : ℕ) (row row' : List (ℕ × List ℕ)) → Removes key row row' → Grown bucket None row row'
removed_records bucket key row row' (removed before after node index old is) = record {
  more = [];
  joined = around before after (node.0, _) ∙ sym (around before after node) ∙ sym (append-nil (records_of (before ++ node ∷ after)));
  whence = nothing bucket None (before ++ node ∷ after);
}

-- a new record was absent, and is a spare one
spare_of : (fixed rid : ℕ) (fresh : Option ℕ) (state : State) → fresh ≡ Some rid → IfSome fresh (λ new. (state new ≡ None) × (fixed ≤ new)) → (state rid ≡ None) × (fixed ≤ rid)
spare_of fixed rid fresh state is spare = rw is at spare

-- so the chain changed at the one spot of the key
pub spot_moved : (size base fixed key : ℕ) (fresh : Option ℕ) (state state' : State) (rows rows' : ℕ → List (ℕ × List ℕ)) → IsChain size base state rows → IsChain size base state' rows' → Grown (base + bucket_of key) fresh (rows (bucket_of key)) (rows' (bucket_of key)) → IfSome fresh (λ new. (state new ≡ None) × (fixed ≤ new)) → ((other : ℕ) → (Contains (records_of (rows' (bucket_of key))) other → ⊥) → state' other ≡ state other) → IsMoved fixed (base + bucket_of key) (Contains (records_of (rows (bucket_of key)))) (Contains (records_of (rows' (bucket_of key)))) state state'
spot_moved size base fixed key fresh state state' rows rows' chain chain' grown spare outside =
    let b = bucket_of key in
    record {
      kept = λ other was. inl (rw grown.joined (Contains-append_left (records_of (rows b)) grown.more other was));
      anew = λ other now. elim (Contains-append_cases (records_of (rows b)) grown.more other (rw grown.joined at now)) as (λ _. Contains (records_of (rows b)) other ⊎ ((state other ≡ None) × ((other ≡ base + b) ⊎ (fixed ≤ other)))) [
        | inl was ↦ inl was
        | inr more ↦ elim (grown.whence other more) as (λ _. Contains (records_of (rows b)) other ⊎ ((state other ≡ None) × ((other ≡ base + b) ⊎ (fixed ≤ other)))) [
          | inl is ↦ (let new = spare_of fixed other fresh state is spare in inr (new.0, inr new.1))
          | inr is ↦
              let P : List (ℕ × List ℕ) → Type 0 = λ row. Leads size state 0 (start_of state (base + b)) row None in
              inr (ap state is.0 ∙ absent_by (state (base + b)) state (base + b) refl (subst P is.1 (chain.walks b (bucket_below key))), inl is.0)
        ]
      ];
      present = λ other now. row_present size state' 0 (start_of state' (base + b)) None (rows' b) (chain'.walks b (bucket_below key)) other now;
      outside = λ other gone never. outside other gone;
      known = λ other. has_or_not (records_of (rows' b)) other;
      known_before = λ other. has_or_not (records_of (rows b)) other;
    }
