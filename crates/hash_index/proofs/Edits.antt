-- A row in which one node changes its pairs.
use Rattle.std.proofs.Common.{◌≡◌, ◌≢◌, ℕ, ◌+◌, ◌<◌, ◌≤◌, cond, eqb, List, [], ◌∷◌, ◌++◌, length, Option, None, Some, All, Contains, refl, sym, ap, ◌∙◌, arith, subst, inl, inr}
use Rattle.std.specs.Prelude.{IfSome}
use Rattle.std.proofs.lemmas.Bool.{cases_eq}
use Rattle.std.proofs.lemmas.List.{map-append}
use Rattle.std.proofs.lemmas.List.Elements.{Contains-append_right}
use Rattle.plain_data.specs.State.{State}
use Rattle.hash_index.specs.Node.{IsNode, pairs_of, next_node, position_of, chain_node_words}
use Rattle.hash_index.specs.Chain.{Leads, IsChain, start_of, row_pairs, bucket_of, record_of}
use Rattle.record_store.specs.Links.{records_of}
use Rattle.hash_index.proofs.Words.{pairs_of-chain_node_words, next_node-chain_node_words, position_of-chain_node_words}
use Rattle.hash_index.proofs.Rows.{start_present, start_absent}
use Rattle.hash_index.proofs.Chains.{nothing_behind, row_pairs-around, bucket_below}
use Rattle.hash_index.proofs.Frames.{Leads-part, Leads-change}
use Rattle.hash_index.proofs.Distinct.{Keyed, Changes, distinct_from}
use Rattle.hash_index.proofs.Moved.{along}
use Rattle.hash_index.proofs.Joined.{RowChanges, with_row, with_row-same, chain_with, record_of-with_row}

-- the words of a node are one
pub node_words : (size position : ℕ) (pairs : List (ℕ × ℕ)) (next : Option ℕ) → length pairs ≤ 14 → position < size → IfSome next (λ rid. rid < size) → All (λ pair. pair.1 < size) pairs → IsNode size position (chain_node_words pairs next position)
node_words size position pairs next few within named records = record {
  few = few;
  placed = position_of-chain_node_words pairs next position few;
  in_store = within;
  next = rw (next_node-chain_node_words pairs next position) named;
  records = rw (pairs_of-chain_node_words pairs next position) records;
}

-- the pairs of a row are keyed
pub row_keyed : (size base bucket : ℕ) (state : State) (rows : ℕ → List (ℕ × List ℕ)) → IsChain size base state rows → bucket < 511 → Keyed bucket (row_pairs (rows bucket))
row_keyed size base bucket state rows chain below = record { distinct = distinct_from (row_pairs (rows bucket)) (chain.once bucket below); own = chain.own bucket below }

-- the bucket of a row with a node is present
pub not_nil : {X : Type 0} (xs ys : List X) (x : X) → xs ++ x ∷ ys ≡ [] → ⊥
not_nil [] ys x same = cc
not_nil (z ∷ xs) ys x same = cc

present_by : (value : Option (List ℕ)) (size bucket : ℕ) (state : State) (before after : List (ℕ × List ℕ)) (node : ℕ × List ℕ) → state bucket ≡ value → Leads size state 0 (start_of state bucket) (before ++ node ∷ after) None → (words : List ℕ) × (state bucket ≡ Some words)
present_by None size bucket state before after node is leads =
    let P : Option ℕ → Type 0 = λ o. Leads size state 0 o (before ++ node ∷ after) None in
    absurd (not_nil before after node (nothing_behind size state 0 (before ++ node ∷ after) (subst P (start_absent state bucket is) leads)))
present_by (Some words) size bucket state before after node is leads = (words, is)

pub bucket_present : (size bucket : ℕ) (state : State) (before after : List (ℕ × List ℕ)) (node : ℕ × List ℕ) → Leads size state 0 (start_of state bucket) (before ++ node ∷ after) None → (words : List ℕ) × (state bucket ≡ Some words)
bucket_present size bucket state before after node leads = present_by (state bucket) size bucket state before after node refl leads

-- it stays present where another record changes, or this one
pub start_kept : (bucket at : ℕ) (words now : List ℕ) (state state' : State) → state bucket ≡ Some words → state' at ≡ Some now → ((other : ℕ) → other ≢ at → state' other ≡ state other) → start_of state' bucket ≡ start_of state bucket
start_kept bucket at words now state state' here changed others =
    elim (cases_eq bucket at) as (λ _. start_of state' bucket ≡ start_of state bucket) [
      | inl same ↦ start_present state' bucket now (ap state' same ∙ changed) ∙ sym (start_present state bucket words here)
      | inr differs ↦ start_present state' bucket words (others bucket differs ∙ here) ∙ sym (start_present state bucket words here)
    ]

-- the records of a row around a node
pub records-around : (before after : List (ℕ × List ℕ)) (at : ℕ) (words : List ℕ) → records_of (before ++ (at, words) ∷ after) ≡ records_of before ++ at ∷ records_of after
records-around before after at words = map-append (λ (node : ℕ × List ℕ). node.0) before ((at, words) ∷ after)

pub at_in : (before after : List (ℕ × List ℕ)) (at : ℕ) (words : List ℕ) → Contains (records_of (before ++ (at, words) ∷ after)) at
at_in before after at words = rw (records-around before after at words) (Contains-append_right (records_of before) (at ∷ records_of after) at (0, omega arith, refl))

-- one node has other pairs
pub row_edited : (size base bucket at : ℕ) (state state' : State) (row before after : List (ℕ × List ℕ)) (words : List ℕ) (pairs : List (ℕ × ℕ)) → Leads size state 0 (start_of state (base + bucket)) row None → row ≡ before ++ (at, words) ∷ after → length pairs ≤ 14 → All (λ pair. pair.1 < size) pairs → state' at ≡ Some (chain_node_words pairs (next_node words) (position_of words)) → ((other : ℕ) → other ≢ at → state' other ≡ state other) → Keyed bucket (row_pairs before ++ (pairs ++ row_pairs after)) → RowChanges size base bucket state state' row (before ++ (at, chain_node_words pairs (next_node words) (position_of words)) ∷ after)
row_edited size base bucket at state state' row before after words pairs walks joined few records changed others keyed =
    let P : List (ℕ × List ℕ) → Type 0 = λ r. Leads size state 0 (start_of state (base + bucket)) r None in
    let leads = subst P joined walks in
    let words' : List ℕ = chain_node_words pairs (next_node words) (position_of words) in
    let parts = Leads-part size state 0 (start_of state (base + bucket)) None before ((at, words) ∷ after) leads in
    let was = parts.second.2 in
    let Q : ℕ → Type 0 = λ p. IsNode size p words' in
    let node = subst Q was.placed (node_words size (position_of words) pairs (next_node words) few (rw was.placed was.in_store) was.next records) in
    let present = bucket_present size (base + bucket) state before after (at, words) leads in
    let start = start_kept (base + bucket) at present.0 words' state state' present.1 changed others in
    let S : Option ℕ → Type 0 = λ o. Leads size state' 0 o (before ++ (at, words') ∷ after) None in
    let K : List (ℕ × ℕ) → Type 0 = Keyed bucket in
    record {
      leads = subst S (sym start) (Leads-change size state state' 0 at (start_of state (base + bucket)) None words words' before after leads others changed node (next_node-chain_node_words pairs (next_node words) (position_of words)));
      keyed = subst K (sym (row_pairs-around before after at words' ∙ ap (λ ps. row_pairs before ++ (ps ++ row_pairs after)) (pairs_of-chain_node_words pairs (next_node words) (position_of words)))) keyed;
      records = λ rid there. inl (rw (ap records_of joined ∙ records-around before after at words) (rw (records-around before after at words') at there));
      outside = λ rid absent. others rid (λ same. absent (rw same (at_in before after at words')));
    }

-- the pairs of the row, before and after
pub row_pairs_change : (bucket key at : ℕ) (value : Option ℕ) (row before after : List (ℕ × List ℕ)) (words : List ℕ) (pairs : List (ℕ × ℕ)) → row ≡ before ++ (at, words) ∷ after → Changes bucket key value (row_pairs before ++ (pairs_of words ++ row_pairs after)) (row_pairs before ++ (pairs ++ row_pairs after)) → Changes bucket key value (row_pairs row) (row_pairs (before ++ (at, chain_node_words pairs (next_node words) (position_of words)) ∷ after))
row_pairs_change bucket key at value row before after words pairs joined changes =
    along bucket key value _ _ _ _ (ap row_pairs joined ∙ row_pairs-around before after at words)
    (row_pairs-around before after at (chain_node_words pairs (next_node words) (position_of words)) ∙ ap (λ ps. row_pairs before ++ (ps ++ row_pairs after)) (pairs_of-chain_node_words pairs (next_node words) (position_of words))) changes

-- the chain once a row changed
pub record Edited (size base key : ℕ) (value : Option ℕ) (state state' : State) (rows : ℕ → List (ℕ × List ℕ)) (row' : List (ℕ × List ℕ)) : Type 0 where
  pub lawful : IsChain size base state' (with_row rows (bucket_of key) row')
  pub at_key : (other : ℕ) → record_of (with_row rows (bucket_of key) row') other ≡ cond (eqb other key) value (record_of rows other)
  pub outside : (other : ℕ) → (Contains (records_of (with_row rows (bucket_of key) row' (bucket_of key))) other → ⊥) → state' other ≡ state other

pub edited_row : (size base key : ℕ) (value : Option ℕ) (state state' : State) (rows : ℕ → List (ℕ × List ℕ)) (row' : List (ℕ × List ℕ)) → IsChain size base state rows → RowChanges size base (bucket_of key) state state' (rows (bucket_of key)) row' → Changes (bucket_of key) key value (row_pairs (rows (bucket_of key))) (row_pairs row') → Edited size base key value state state' rows row'
edited_row size base key value state state' rows row' chain row changes = record {
  lawful = chain_with size base (bucket_of key) state state' rows row' chain (bucket_below key) row;
  at_key = record_of-with_row rows key value row' changes;
  outside = λ other absent. row.outside other (λ there. absent (rw (with_row-same rows (bucket_of key) row') there));
}

pub edited : (size base key at : ℕ) (value : Option ℕ) (state state' : State) (rows : ℕ → List (ℕ × List ℕ)) (before after : List (ℕ × List ℕ)) (words : List ℕ) (pairs : List (ℕ × ℕ)) → IsChain size base state rows → rows (bucket_of key) ≡ before ++ (at, words) ∷ after → length pairs ≤ 14 → All (λ pair. pair.1 < size) pairs → state' at ≡ Some (chain_node_words pairs (next_node words) (position_of words)) → ((other : ℕ) → other ≢ at → state' other ≡ state other) → Changes (bucket_of key) key value (row_pairs before ++ (pairs_of words ++ row_pairs after)) (row_pairs before ++ (pairs ++ row_pairs after)) → Edited size base key value state state' rows (before ++ (at, chain_node_words pairs (next_node words) (position_of words)) ∷ after)
edited size base key at value state state' rows before after words pairs chain joined few records changed others changes =
    edited_row size base key value state state' rows _ chain
    (row_edited size base (bucket_of key) at state state' (rows (bucket_of key)) before after words pairs (chain.walks (bucket_of key) (bucket_below key)) joined few records changed others changes.keyed)
    (row_pairs_change (bucket_of key) key at value (rows (bucket_of key)) before after words pairs joined changes)
