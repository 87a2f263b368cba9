-- How many nodes are written, by calls one behind another.
use Rattle.std.proofs.Common.{◌≡◌, ◌⊎◌, ℕ, ◌+◌, ◌≤◌, Bool, true, false, cond, eqb, List, Option, Some, sym, ap, ◌∙◌, arith, subst, inl, inr}
use Rattle.record_store.specs.Meaning.{Meaning, value_at, with_value, after_write, after_fresh}
use Rattle.record_store.specs.Walks.{OnlyReads}
use Rattle.record_store.proofs.Agreement.{writes_same}
use Rattle.record_store.proofs.Values.{value_at-with_value}
use Rattle.record_store.proofs.Writes.{writes-none, writes-one, writes-trans, writes-weaken}
use Rattle.ordered_index.specs.Node.{Content, tree_node_words}
use Rattle.ordered_index.specs.Written.{WritesNodes}

pub nodes-none : (before after : Meaning) → after.writes ≡ before.writes → WritesNodes 0 before after
nodes-none before after same = record {
  few = writes-none before after same;
  nodes = λ rid value is. inl (ap (λ writes. value_at writes rid) (sym same) ∙ is);
}

one-step : (here : Bool) (words : Option (List ℕ)) (found : Option (Option (List ℕ))) (value : Option (List ℕ)) → cond here (Some words) found ≡ Some value → (found ≡ Some value) ⊎ (value ≡ words)
one-step true words found value is = inr cc
one-step false words found value is = inl is

nodes-one : (before after : Meaning) (rid : ℕ) (node : Content) → after.writes ≡ with_value before.writes rid (Some (tree_node_words node)) → WritesNodes 1 before after
nodes-one before after rid node wrote = record {
  few = writes-one before after rid (Some (tree_node_words node)) wrote;
  nodes = λ other value is.
      elim (one-step (eqb other rid) (Some (tree_node_words node)) (value_at before.writes other) value (sym (ap (λ writes. value_at writes other) wrote ∙ value_at-with_value before.writes rid (Some (tree_node_words node)) other) ∙ is)) as
      (λ _. (value_at before.writes other ≡ Some value) ⊎ ((n : Content) × (value ≡ Some (tree_node_words n)))) [ inl old ↦ inl old | inr new ↦ inr (node, new) ];
}

pub nodes-trans : (n m : ℕ) (first before after : Meaning) → WritesNodes n first before → WritesNodes m before after → WritesNodes (n + m) first after
nodes-trans n m first before after a b = record {
  few = writes-trans n m first before after a.few b.few;
  nodes = λ rid value is. elim (b.nodes rid value is) as (λ _. (value_at first.writes rid ≡ Some value) ⊎ ((n : Content) × (value ≡ Some (tree_node_words n)))) [ inl old ↦ a.nodes rid value old | inr new ↦ inr new ];
}

pub nodes-weaken : (n m : ℕ) (before after : Meaning) → n ≤ m → WritesNodes n before after → WritesNodes m before after
nodes-weaken n m before after more a = record { few = writes-weaken n m before after more a.few; nodes = a.nodes }

-- writes so far, and one more
pub wrote_none : (n : ℕ) (first before after : Meaning) → WritesNodes n first before → after ≡ before → WritesNodes n first after
wrote_none n first before after a same = let P : Meaning → Type 0 = WritesNodes n first in subst P (sym same) a

pub wrote_fresh : (first after : Meaning) (rid : ℕ) → after ≡ after_fresh first rid → WritesNodes 0 first after
wrote_fresh first after rid is = nodes-none first after (ap (λ (m : Meaning). m.writes) is)

pub wrote_one : (n : ℕ) (first before after : Meaning) (rid : ℕ) (node : Content) → WritesNodes n first before → after ≡ after_write before rid (Some (tree_node_words node)) → WritesNodes (n + 1) first after
wrote_one n first before after rid node a is = nodes-trans n 1 first before after a (nodes-one before after rid node (ap (λ (m : Meaning). m.writes) is))

pub wrote_reads : (n : ℕ) (first before after : Meaning) → OnlyReads first before → WritesNodes n before after → WritesNodes n first after
wrote_reads n first before after only a = let P : ℕ → Type 0 = λ k. WritesNodes k first after in subst P (omega arith) (nodes-trans 0 n first before after (nodes-none first before (writes_same first before only)) a)

pub read_few : (before after : Meaning) → OnlyReads before after → WritesNodes 1 before after
read_few before after only = nodes-weaken 0 1 before after (omega arith) (nodes-none before after (writes_same before after only))
