-- What a search tells of a lawful chain.
use Rattle.std.proofs.Common.{◌≡◌, ℕ, ◌+◌, ◌<◌, List, [], ◌∷◌, ◌++◌, length, get_or, None, Some, refl, sym, ap, ◌∙◌, arith, subst, ◌⊎◌, inl, inr}
use Rattle.std.specs.Prelude.{position, ◌==◌}
use Rattle.std.proofs.lemmas.List.{append-nil}
use Rattle.std.proofs.lemmas.Option.{same_Some, none-some}
use Rattle.plain_data.specs.State.{State, overlay}
use Rattle.record_store.specs.Meaning.{Meaning}
use Rattle.hash_index.specs.declared.search.Link.{Link}
use Rattle.hash_index.specs.declared.search.Place.{Place}
use Rattle.hash_index.specs.declared.search.Place.TheVariants.{Found, Room, Full, Empty}
use Rattle.hash_index.specs.Node.{IsNode, pairs_of}
use Rattle.hash_index.specs.Chain.{Leads, IsChain, EachChain, RowTears, start_of, record_at, record_of, row_pairs, bucket_of}
use Rattle.hash_index.specs.Answers.{IsTornChain}
use Rattle.record_store.specs.States.{EachState}
use Rattle.hash_index.specs.Search.{RowReaches, InRow, IsPlace}
use Rattle.hash_index.proofs.Pairs.{position-found, record_at-behind, record_at-before}
use Rattle.hash_index.proofs.Rows.{Leads-follow, row_pairs-append, start_absent}

pub bucket_below : (key : ℕ) → bucket_of key < 511
bucket_below key = omega arith

-- a row that ends leaves nothing
pub nothing_behind : (size : ℕ) (state : State) (position : ℕ) (rest : List (ℕ × List ℕ)) → Leads size state position None rest None → rest ≡ []
nothing_behind size state position [] leads = refl
nothing_behind size state position (node ∷ rest) leads = absurd (none-some node.0 leads.0)

-- the first node of what is left
pub record Begins (size position rid : ℕ) (state : State) (rest : List (ℕ × List ℕ)) : Type 0 where
  pub words : List ℕ
  pub after : List (ℕ × List ℕ)
  pub joined : rest ≡ (rid, words) ∷ after
  pub here : state rid ≡ Some words
  pub node : IsNode size position words

pub begins : (size position rid : ℕ) (state : State) (rest : List (ℕ × List ℕ)) → Leads size state position (Some rid) rest None → Begins size position rid state rest
begins size position rid state [] leads = absurd (none-some rid (sym leads))
begins size position rid state (node ∷ rest) leads =
    let same : node.0 ≡ rid = same_Some node.0 rid (sym leads.0) in
    record {
      words = node.1;
      after = rest;
      joined = ap (λ r. (r, node.1) ∷ rest) same;
      here = ap state (sym same) ∙ leads.1;
      node = leads.2;
    }

-- the row of a bucket is the one that was walked
pub whole_row : (size bucket : ℕ) (state : State) (row whole : List (ℕ × List ℕ)) → Leads size state 0 (start_of state bucket) row None → Leads size state 0 (start_of state bucket) whole None → whole ≡ row
whole_row size bucket state row whole walked leads =
    let follows = Leads-follow size state 0 (start_of state bucket) None row whole walked leads in
    follows.joined ∙ ap (λ rest. row ++ rest) (nothing_behind size state (0 + length row) follows.rest follows.leads) ∙ append-nil row

pub record RowAt (before whole : List (ℕ × List ℕ)) (rid : ℕ) (words : List ℕ) : Type 0 where
  pub after : List (ℕ × List ℕ)
  pub joined : whole ≡ before ++ (rid, words) ∷ after

pub row_at : (size bucket key : ℕ) (state : State) (link : Link) (whole : List (ℕ × List ℕ)) → (r : RowReaches size bucket key state link) → Leads size state 0 (start_of state bucket) whole None → RowAt r.before whole link.at r.words
row_at size bucket key state link whole r leads =
    let follows = Leads-follow size state 0 (start_of state bucket) (Some link.at) r.before whole r.reached leads in
    let first = begins size (0 + length r.before) link.at state follows.rest follows.leads in
    let same : first.words ≡ r.words = same_Some first.words r.words (sym first.here ∙ r.stands.here) in
    record {
      after = first.after;
      joined = follows.joined ∙ ap (λ rest. r.before ++ rest) first.joined ∙ ap (λ words. r.before ++ (link.at, words) ∷ first.after) same;
    }

-- the pairs of a row around one of its nodes
pub row_pairs-around : (before after : List (ℕ × List ℕ)) (rid : ℕ) (words : List ℕ) → row_pairs (before ++ (rid, words) ∷ after) ≡ row_pairs before ++ (pairs_of words ++ row_pairs after)
row_pairs-around before after rid words = row_pairs-append before ((rid, words) ∷ after)

-- the key was found
pub found_in : (size base key index : ℕ) (state : State) (rows : ℕ → List (ℕ × List ℕ)) (link : Link) → IsChain size base state rows → RowReaches size (base + bucket_of key) key state link → position (λ pair. pair.0 == key) (pairs_of link.words) ≡ Some index → record_of rows key ≡ Some (get_or (pairs_of link.words) index (0, 0)).1
found_in size base key index state rows link chain r is =
    let at = row_at size (base + bucket_of key) key state link (rows (bucket_of key)) r (chain.walks (bucket_of key) (bucket_below key)) in
    let found = position-found (pairs_of link.words) key index is in
    let here : record_at (pairs_of r.words) key ≡ Some found.rid = ap (λ ps. record_at ps key) (sym (ap pairs_of r.stands.held.words)) ∙ found.found in
    ap (λ row. record_at (row_pairs row) key) at.joined
    ∙ ap (λ ps. record_at ps key) (row_pairs-around r.before at.after link.at r.words)
    ∙ record_at-behind (row_pairs r.before) (pairs_of r.words ++ row_pairs at.after) key r.not_before
    ∙ record_at-before (pairs_of r.words) (row_pairs at.after) key found.rid here
    ∙ ap (λ (p : ℕ × ℕ). Some p.1) (sym found.at_index)

-- the key was not found
pub not_in_row : (size base key : ℕ) (state : State) (rows : ℕ → List (ℕ × List ℕ)) (link : Link) → IsChain size base state rows → (r : InRow size (base + bucket_of key) key state link) → rows (bucket_of key) ≡ r.before ++ (link.at, r.words) ∷ r.after
not_in_row size base key state rows link chain r = whole_row size (base + bucket_of key) state _ (rows (bucket_of key)) r.row (chain.walks (bucket_of key) (bucket_below key))

pub not_in : (size base key : ℕ) (state : State) (rows : ℕ → List (ℕ × List ℕ)) (link : Link) → IsChain size base state rows → InRow size (base + bucket_of key) key state link → record_of rows key ≡ None
not_in size base key state rows link chain r = ap (λ row. record_at (row_pairs row) key) (not_in_row size base key state rows link chain r) ∙ r.not_there

pub empty_row : (size base key : ℕ) (state : State) (rows : ℕ → List (ℕ × List ℕ)) → IsChain size base state rows → state (base + bucket_of key) ≡ None → rows (bucket_of key) ≡ []
empty_row size base key state rows chain absent =
    whole_row size (base + bucket_of key) state [] (rows (bucket_of key)) (start_absent state (base + bucket_of key) absent) (chain.walks (bucket_of key) (bucket_below key))

pub not_in_empty : (size base key : ℕ) (state : State) (rows : ℕ → List (ℕ × List ℕ)) → IsChain size base state rows → state (base + bucket_of key) ≡ None → record_of rows key ≡ None
not_in_empty size base key state rows chain absent = ap (λ row. record_at (row_pairs row) key) (empty_row size base key state rows chain absent)

-- no chain is lawful where a walk meets what is no node
pub torn_no_chain : (size base key rid : ℕ) (state : State) (rows : ℕ → List (ℕ × List ℕ)) → RowTears size (base + bucket_of key) key state rid → IsChain size base state rows → ⊥
torn_no_chain size base key rid state rows tears chain =
    let follows = Leads-follow size state 0 (start_of state (base + bucket_of key)) (Some rid) tears.nodes (rows (bucket_of key)) tears.reached (chain.walks (bucket_of key) (bucket_below key)) in
    let first = begins size (0 + length tears.nodes) rid state follows.rest follows.leads in
    let P : ℕ → Type 0 = λ p. IsNode size p first.words in
    let place : 0 + length tears.nodes ≡ length tears.nodes = omega arith in
    tears.no_node first.words first.here (subst P place first.node)

pub is_torn : (base key size rid : ℕ) (before after : Meaning) → size ≡ before.size → EachState before after (λ state. RowTears size (base + bucket_of key) key state rid) → IsTornChain base key before after rid
is_torn base key size rid before after same tears = record {
  tears = rw (← same) tears;
  none = λ state rows agrees chain. torn_no_chain before.size base key rid (overlay before.writes state) rows (rw (← same) (tears state agrees)) chain;
}

-- a search that ends without the key tells that the chain has it not
abbrev pub IsElsewhere : Place → Type 0
IsElsewhere place = ((link : Link) × (place ≡ Room link)) ⊎ (((link : Link) × (place ≡ Full link)) ⊎ ((rid : ℕ) × (place ≡ Empty rid)))

found_room : (a b : Link) (index : ℕ) → Found a index ≡ Room b → ⊥
found_room a b index same = cc

found_full : (a b : Link) (index : ℕ) → Found a index ≡ Full b → ⊥
found_full a b index same = cc

found_empty : (a : Link) (rid index : ℕ) → Found a index ≡ Empty rid → ⊥
found_empty a rid index same = cc

absent_by : (place : Place) (size base key : ℕ) (state : State) (rows : ℕ → List (ℕ × List ℕ)) → IsElsewhere place → IsPlace size (base + bucket_of key) key state place → IsChain size base state rows → record_of rows key ≡ None
absent_by (Found link index) size base key state rows elsewhere is chain = elim elsewhere as (λ _. record_of rows key ≡ None) [ inl h ↦ absurd (found_room link h.0 index h.1) | inr h ↦ elim h as (λ _. record_of rows key ≡ None) [ inl h ↦ absurd (found_full link h.0 index h.1) | inr h ↦ absurd (found_empty link h.0 index h.1) ] ]
absent_by (Room link) size base key state rows elsewhere is chain = not_in size base key state rows link chain is
absent_by (Full link) size base key state rows elsewhere is chain = not_in size base key state rows link chain is.0
absent_by (Empty rid) size base key state rows elsewhere is chain = not_in_empty size base key state rows chain is

pub each_absent : (place : Place) (size base key : ℕ) (before after : Meaning) → size ≡ before.size → IsElsewhere place → EachState before after (λ state. IsPlace size (base + bucket_of key) key state place) → EachChain base before after (λ _ rows. record_of rows key ≡ None)
each_absent place size base key before after same elsewhere is = λ state rows agrees chain. absent_by place size base key (overlay before.writes state) rows elsewhere (is state agrees) (rw same chain)
