-- Calls that write nodes and make records absent, one behind another.
use Rattle.std.proofs.Common.{◌≡◌, ◌⊎◌, ℕ, ◌+◌, ◌≤◌, Bool, true, false, cond, eqb, List, Option, None, Some, Result, Ok, Err, sym, ap, ◌∙◌, arith, subst, inl, inr, Contains}
use Rattle.std.specs.Prelude.{OnOk, OnErr, IsSome}
use Rattle.record_store.specs.Meaning.{Meaning, value_at, with_value, after_write}
use Rattle.record_store.specs.States.{EachState}
use Rattle.record_store.specs.Writes.{WritesOnly, EachWritesKnown, IsKnown}
use Rattle.record_store.proofs.Known.{present-overlay}
use Rattle.record_store.proofs.Values.{value_at-with_value}
use Rattle.record_store.proofs.Writes.{writes-none, writes-one, writes-trans, writes-weaken}
use Rattle.ordered_index.specs.Node.{Content, tree_node_words}
use Rattle.ordered_index.specs.Reclaim.{WritesOrFrees}

-- a node, or nothing
abbrev pub IsNodeOrNone : Option (List ℕ) → Type 0
IsNodeOrNone value = (value ≡ None) ⊎ ((node : Content) × (value ≡ Some (tree_node_words node)))

pub frees-none : (before after : Meaning) → after.writes ≡ before.writes → WritesOrFrees 0 before after
frees-none before after same = record {
  few = writes-none before after same;
  nodes = λ rid value is. inl (ap (λ writes. value_at writes rid) (sym same) ∙ is);
}

frees-step : (here : Bool) (wrote : Option (List ℕ)) (found : Option (Option (List ℕ))) (value : Option (List ℕ)) → IsNodeOrNone wrote → cond here (Some wrote) found ≡ Some value → (found ≡ Some value) ⊎ IsNodeOrNone value
frees-step true wrote found value is written = let same : wrote ≡ value = cc in inr (let P : Option (List ℕ) → Type 0 = IsNodeOrNone in subst P same is)
frees-step false wrote found value is written = inl written

pub frees-one : (before after : Meaning) (rid : ℕ) (value : Option (List ℕ)) → IsNodeOrNone value → after.writes ≡ with_value before.writes rid value → WritesOrFrees 1 before after
frees-one before after rid value is wrote = record {
  few = writes-one before after rid value wrote;
  nodes = λ other now written. frees-step (eqb other rid) value (value_at before.writes other) now is (sym (ap (λ writes. value_at writes other) wrote ∙ value_at-with_value before.writes rid value other) ∙ written);
}

pub frees-trans : (n m : ℕ) (first before after : Meaning) → WritesOrFrees n first before → WritesOrFrees m before after → WritesOrFrees (n + m) first after
frees-trans n m first before after a b = record {
  few = writes-trans n m first before after a.few b.few;
  nodes = λ rid value is. elim (b.nodes rid value is) as (λ _. (value_at first.writes rid ≡ Some value) ⊎ IsNodeOrNone value) [ inl old ↦ a.nodes rid value old | inr new ↦ inr new ];
}

pub frees-weaken : (n m : ℕ) (before after : Meaning) → n ≤ m → WritesOrFrees n before after → WritesOrFrees m before after
frees-weaken n m before after more a = record { few = writes-weaken n m before after more a.few; nodes = a.nodes }

-- one write, which may be refused
pub frees-tried : {T E : Type 0} (result : Result T E) (before after : Meaning) (rid : ℕ) (value : Option (List ℕ)) → IsNodeOrNone value → OnOk result (after ≡ after_write before rid value) → OnErr result (after ≡ before) → WritesOrFrees 1 before after
frees-tried (Ok v) before after rid value is wrote same = frees-one before after rid value is (ap (λ (m : Meaning). m.writes) wrote)
frees-tried (Err e) before after rid value is wrote same = frees-weaken 0 1 before after (omega arith) (frees-none before after (ap (λ (m : Meaning). m.writes) same))

-- the records that are written were found to be present
pub known_by : (May : ℕ → Type 0) (before after : Meaning) → WritesOnly May before after → ((rid : ℕ) → May rid → EachState before after (λ state. (words : List ℕ) × (state rid ≡ Some words))) → EachWritesKnown before after
known_by May before after only found = λ state agrees rid written.
    elim (only rid written) as (λ _. IsSome (value_at before.writes rid) ⊎ Contains after.given rid ⊎ IsKnown before.fixed state rid) [
      | inl old ↦ inl old
      | inr new ↦ elim new as (λ _. IsSome (value_at before.writes rid) ⊎ Contains after.given rid ⊎ IsKnown before.fixed state rid) [
        | inl given ↦ inr (inl given)
        | inr may ↦ (
            let here = found rid may state agrees in
            elim (present-overlay before state rid here.0 here.1) as (λ _. IsSome (value_at before.writes rid) ⊎ Contains after.given rid ⊎ IsKnown before.fixed state rid) [ inl old ↦ inl old | inr is ↦ inr (inr (inr (here.0, is))) ])
      ]
    ]
