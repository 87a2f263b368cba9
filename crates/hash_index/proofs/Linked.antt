-- A row to which a new node is linked.
use Rattle.std.proofs.Common.{◌≡◌, ◌≢◌, ◌⊎◌, ℕ, ◌+◌, ◌<◌, ◌≤◌, zero, suc, true, eqb, List, [], ◌∷◌, ◌++◌, length, get_or, Option, None, Some, All, Contains, refl, sym, ap, ◌∙◌, arith, subst, inl, inr, eqb-true, ne_eqb}
use Rattle.std.specs.Prelude.{IfSome}
use Rattle.std.specs.List.{list_any}
use Rattle.std.proofs.lemmas.Bool.{cases_eq, or_cases}
use Rattle.std.proofs.lemmas.Option.{same_Some, none-some}
use Rattle.std.proofs.lemmas.List.{append_assoc, append-nil, length-map, length_push, get_or-map}
use Rattle.std.proofs.lemmas.List.Elements.{All-head, All-tail, All-cons, All-nil, All-weaker, All-map, Contains-push, Contains-push_cases}
use Rattle.std.proofs.lemmas.Map.Keys.{IsDistinct-from_apart}
use Rattle.std.proofs.lemmas.Map.Steps.{length-le_from_distinct_below}
use Rattle.plain_data.specs.State.{State}
use Rattle.hash_index.specs.Node.{IsNode, pairs_of, next_node, position_of, chain_node_words}
use Rattle.hash_index.specs.Chain.{Leads, IsChain, start_of, row_pairs, bucket_of, record_at}
use Rattle.record_store.specs.Links.{records_of}
use Rattle.hash_index.proofs.Words.{pairs_of-chain_node_words, next_node-chain_node_words}
use Rattle.hash_index.proofs.Rows.{Leads-append, start_present, row_pairs-append}
use Rattle.hash_index.proofs.Chains.{bucket_below}
use Rattle.hash_index.proofs.Walked.{few_pairs}
use Rattle.hash_index.proofs.Frames.{Leads-part, Leads-frame, IsPlaced, places}
use Rattle.hash_index.proofs.Distinct.{changes_insert}
use Rattle.hash_index.proofs.Moved.{along, keyed_along}
use Rattle.hash_index.proofs.Joined.{IsNew}
use Rattle.hash_index.proofs.Edits.{Edited, edited_row, node_words, bucket_present, row_keyed, records-around, at_in}

-- the records of a row lie in the store
rows_below : (size : ℕ) (state : State) (position : ℕ) (from to : Option ℕ) (row : List (ℕ × List ℕ)) → IfSome from (λ rid. rid < size) → Leads size state position from row to → All (λ node. node.0 < size) row
rows_below size state position from to [] first leads = All-nil (λ node. node.0 < size)
rows_below size state position from to (node ∷ row) first leads =
    All-cons (λ node. node.0 < size) node row (rw leads.0 at first) (rows_below size state (position + 1) (next_node node.1) to row leads.2.next leads.3)

-- each node stands where its number in the row says
place_at : (size : ℕ) (state : State) (position : ℕ) (from to : Option ℕ) (row : List (ℕ × List ℕ)) (i : ℕ) (d : ℕ × List ℕ) → Leads size state position from row to → i < length row → (state (get_or row i d).0 ≡ Some (get_or row i d).1) × (position_of (get_or row i d).1 ≡ position + i)
place_at size state position from to [] i d leads low = absurd (omega arith)
place_at size state position from to (node ∷ row) zero d leads low = (leads.1, omega (arith, leads.2.placed))
place_at size state position from to (node ∷ row) (suc i) d leads low =
    let more = place_at size state (position + 1) (next_node node.1) to row i d leads.3 (omega arith) in
    (more.0, omega (arith, more.1))

any_below : (xs : List ℕ) (n q : ℕ) → All (λ x. x < n) xs → list_any (eqb q) xs ≡ true → q < n
any_below [] n q all there = cc
any_below (x ∷ xs) n q all there =
    elim (or_cases (eqb q x) (list_any (eqb q) xs) there) as (λ _. q < n) [
      | inl here ↦ (let same : q ≡ x = eqb-true q x here in rw same (All-head (λ y. y < n) x xs all))
      | inr later ↦ any_below xs n q (All-tail (λ y. y < n) x xs all) later
    ]

-- the records of a row differ, and none is an absent one
apart_records : (size : ℕ) (state : State) (position fresh : ℕ) (from to : Option ℕ) (row : List (ℕ × List ℕ)) → Leads size state position from row to → state fresh ≡ None → (i j d : ℕ) → i < j → j < length (fresh ∷ records_of row) → get_or (fresh ∷ records_of row) i d ≢ get_or (fresh ∷ records_of row) j d
apart_records size state position fresh from to row leads absent i zero d less low = absurd (omega arith)
apart_records size state position fresh from to row leads absent zero (suc j) d less low = λ same.
    let in_row : j < length row = omega (arith, length-map row (λ (node : ℕ × List ℕ). node.0)) in
    let at = place_at size state position from to row j (0, []) leads in_row in
    none-some (get_or row j (0, [])).1 (sym absent ∙ ap state (same ∙ get_or-map (λ (node : ℕ × List ℕ). node.0) row j (0, []) d in_row) ∙ at.0)
apart_records size state position fresh from to row leads absent (suc i) (suc j) d less low = λ same.
    let in_row : j < length row = omega (arith, length-map row (λ (node : ℕ × List ℕ). node.0)) in
    let first : i < length row = omega arith in
    let at_i = place_at size state position from to row i (0, []) leads first in
    let at_j = place_at size state position from to row j (0, []) leads in_row in
    let records : (get_or row i (0, [])).0 ≡ (get_or row j (0, [])).0 = sym (get_or-map (λ (node : ℕ × List ℕ). node.0) row i (0, []) d first) ∙ same ∙ get_or-map (λ (node : ℕ × List ℕ). node.0) row j (0, []) d in_row in
    let words : (get_or row i (0, [])).1 ≡ (get_or row j (0, [])).1 = same_Some _ _ (sym at_i.0 ∙ ap state records ∙ at_j.0) in
    let positions : position_of (get_or row i (0, [])).1 ≡ position_of (get_or row j (0, [])).1 = ap position_of words in
    omega (arith, at_i.1, at_j.1)

-- so a row leaves room for one node more, where a record is absent
pub room_behind : (size fresh : ℕ) (state : State) (from : Option ℕ) (row : List (ℕ × List ℕ)) → Leads size state 0 from row None → IfSome from (λ rid. rid < size) → state fresh ≡ None → fresh < size → length row < size
room_behind size fresh state from row leads first absent within =
    let below : All (λ x. x < size) (fresh ∷ records_of row) = All-cons (λ x. x < size) fresh (records_of row) within (All-map (λ x. x < size) (λ (node : ℕ × List ℕ). node.0) row (rows_below size state 0 from None row first leads)) in
    let few = length-le_from_distinct_below (fresh ∷ records_of row) size
    (IsDistinct-from_apart eqb (fresh ∷ records_of row) (λ i j d less low. ne_eqb _ _ (apart_records size state 0 fresh from None row leads absent i j d less low)))
    (λ q there. any_below (fresh ∷ records_of row) size q below there) in
    omega (arith, few, length-map row (λ (node : ℕ × List ℕ). node.0))

start_kept_by_two : (bucket at fresh : ℕ) (words now : List ℕ) (state state' : State) → state bucket ≡ Some words → state fresh ≡ None → state' at ≡ Some now → ((other : ℕ) → other ≢ at → other ≢ fresh → state' other ≡ state other) → start_of state' bucket ≡ start_of state bucket
start_kept_by_two bucket at fresh words now state state' here absent changed others =
    elim (cases_eq bucket at) as (λ _. start_of state' bucket ≡ start_of state bucket) [
      | inl same ↦ start_present state' bucket now (ap state' same ∙ changed) ∙ sym (start_present state bucket words here)
      | inr differs ↦ start_present state' bucket words (others bucket differs (λ same. none-some words (sym absent ∙ ap state (sym same) ∙ here)) ∙ here) ∙ sym (start_present state bucket words here)
    ]

-- the pairs and the records of a row with one node more
pairs_behind : (row before : List (ℕ × List ℕ)) (at fresh key rid : ℕ) (words : List ℕ) → row ≡ before ++ (at, words) ∷ [] → row_pairs (before ++ (at, chain_node_words (pairs_of words) (Some fresh) (position_of words)) ∷ (fresh, chain_node_words ((key, rid) ∷ []) None (position_of words + 1)) ∷ []) ≡ row_pairs row ++ (key, rid) ∷ []
pairs_behind row before at fresh key rid words joined =
    let last_words : List ℕ = chain_node_words (pairs_of words) (Some fresh) (position_of words) in
    let new_words : List ℕ = chain_node_words ((key, rid) ∷ []) None (position_of words + 1) in
    let was : row_pairs row ≡ row_pairs before ++ (pairs_of words ++ []) = ap row_pairs joined ∙ row_pairs-append before ((at, words) ∷ []) in
    row_pairs-append before ((at, last_words) ∷ (fresh, new_words) ∷ [])
    ∙ ap (λ ps. row_pairs before ++ (ps ++ (pairs_of new_words ++ []))) (pairs_of-chain_node_words (pairs_of words) (Some fresh) (position_of words))
    ∙ ap (λ ps. row_pairs before ++ (pairs_of words ++ (ps ++ []))) (pairs_of-chain_node_words ((key, rid) ∷ []) None (position_of words + 1))
    ∙ ap (λ ps. row_pairs before ++ ps) (sym (append_assoc (pairs_of words) [] ((key, rid) ∷ [])))
    ∙ sym (append_assoc (row_pairs before) (pairs_of words ++ []) ((key, rid) ∷ []))
    ∙ ap (λ ps. ps ++ (key, rid) ∷ []) (sym was)

records_behind : (row before : List (ℕ × List ℕ)) (at fresh : ℕ) (words last_words new_words : List ℕ) → row ≡ before ++ (at, words) ∷ [] → records_of (before ++ (at, last_words) ∷ (fresh, new_words) ∷ []) ≡ records_of row ++ fresh ∷ []
records_behind row before at fresh words last_words new_words joined =
    records-around before ((fresh, new_words) ∷ []) at last_words
    ∙ sym (append_assoc (records_of before) (at ∷ []) (fresh ∷ []))
    ∙ ap (λ rs. rs ++ fresh ∷ []) (sym (ap records_of joined ∙ records-around before [] at words))

pub linked : (size base key rid at fresh : ℕ) (state state' : State) (rows : ℕ → List (ℕ × List ℕ)) (before : List (ℕ × List ℕ)) (words : List ℕ) → IsChain size base state rows → rows (bucket_of key) ≡ before ++ (at, words) ∷ [] → record_at (row_pairs (rows (bucket_of key))) key ≡ None → state fresh ≡ None → base + 511 ≤ fresh → fresh < size → rid < size → state' fresh ≡ Some (chain_node_words ((key, rid) ∷ []) None (position_of words + 1)) → state' at ≡ Some (chain_node_words (pairs_of words) (Some fresh) (position_of words)) → ((other : ℕ) → other ≢ at → other ≢ fresh → state' other ≡ state other) → Edited size base key (Some rid) state state' rows (before ++ (at, chain_node_words (pairs_of words) (Some fresh) (position_of words)) ∷ (fresh, chain_node_words ((key, rid) ∷ []) None (position_of words + 1)) ∷ [])
linked size base key rid at fresh state state' rows before words chain joined not_there absent outside within stored new_here last_here others =
    let b = bucket_of key in
    let bucket = base + b in
    let new_words : List ℕ = chain_node_words ((key, rid) ∷ []) None (position_of words + 1) in
    let last_words : List ℕ = chain_node_words (pairs_of words) (Some fresh) (position_of words) in
    let row' : List (ℕ × List ℕ) = before ++ (at, last_words) ∷ (fresh, new_words) ∷ [] in
    let P : List (ℕ × List ℕ) → Type 0 = λ r. Leads size state 0 (start_of state bucket) r None in
    let leads = subst P joined (chain.walks b (bucket_below key)) in
    let parts = Leads-part size state 0 (start_of state bucket) None before ((at, words) ∷ []) leads in
    let node = parts.second.2 in
    let placed = node.placed in
    let present = bucket_present size bucket state before [] (at, words) leads in
    let in_store : IfSome (start_of state bucket) (λ r. r < size) = rw (start_present state bucket present.0 present.1) (omega (arith, bucket_below key)) in
    let room = room_behind size fresh state (start_of state bucket) (before ++ (at, words) ∷ []) leads in_store absent within in
    let next_place : position_of words + 1 < size = omega (arith, length_push before (at, words)) in
    let Q : ℕ → Type 0 = λ p. IsNode size p last_words in
    let last_node = subst Q placed (node_words size (position_of words) (pairs_of words) (Some fresh) (few_pairs size (0 + length before) words node) (rw placed node.in_store) within node.records) in
    let R : ℕ → Type 0 = λ p. IsNode size p new_words in
    let new_place : position_of words + 1 ≡ 0 + length before + 1 = omega arith in
    let new_node = subst R new_place (node_words size (position_of words + 1) ((key, rid) ∷ []) None (omega arith) next_place tt (All-cons (λ pair. pair.1 < size) (key, rid) [] stored (All-nil (λ pair. pair.1 < size)))) in
    let front : All (λ x. state' x.0 ≡ state x.0) before = All-weaker (IsPlaced state 0 (0 + length before)) (λ x. state' x.0 ≡ state x.0) (λ x p. others x.0
    (λ same. (let words_same : x.1 ≡ words = same_Some x.1 words (sym p.here ∙ ap state same ∙ parts.second.1) in let places_same : position_of x.1 ≡ position_of words = ap position_of words_same in omega (arith, p.below)))
    (λ same. none-some x.1 (sym absent ∙ ap state (sym same) ∙ p.here))) before (places size state 0 (start_of state bucket) parts.mid before parts.first) in
    let start = start_kept_by_two bucket at fresh present.0 last_words state state' present.1 absent last_here others in
    let walk = Leads-append size state' 0 (start_of state bucket) parts.mid None before ((at, last_words) ∷ (fresh, new_words) ∷ []) (Leads-frame size state state' 0 (start_of state bucket) parts.mid before front parts.first)
    (parts.second.0, last_here, last_node, (next_node-chain_node_words (pairs_of words) (Some fresh) (position_of words), new_here, new_node, next_node-chain_node_words ((key, rid) ∷ []) None (position_of words + 1))) in
    let S : Option ℕ → Type 0 = λ o. Leads size state' 0 o row' None in
    let was : row_pairs (rows b) ≡ row_pairs before ++ (pairs_of words ++ []) = ap row_pairs joined ∙ row_pairs-append before ((at, words) ∷ []) in
    let now : row_pairs row' ≡ row_pairs (rows b) ++ (key, rid) ∷ [] = pairs_behind (rows b) before at fresh key rid words joined in
    let keyed = row_keyed size base b state rows chain (bucket_below key) in
    let empty : row_pairs (rows b) ≡ row_pairs (rows b) ++ [] = sym (append-nil (row_pairs (rows b))) in
    let changes = along b key (Some rid) _ _ _ _ empty now (changes_insert b key rid (row_pairs (rows b)) [] refl (keyed_along b _ _ empty keyed) (ap (λ ps. record_at ps key) (sym empty) ∙ not_there)) in
    let records : records_of row' ≡ records_of (rows b) ++ fresh ∷ [] = records_behind (rows b) before at fresh words last_words new_words joined in
    edited_row size base key (Some rid) state state' rows row' chain (record {
      leads = subst S (sym start) walk;
      keyed = changes.keyed;
      records = λ r there. elim (Contains-push_cases (records_of (rows b)) fresh r (rw records at there)) as (λ _. Contains (records_of (rows b)) r ⊎ IsNew base b state r) [
        | inl old ↦ inl old
        | inr same ↦ inr (record { absent = ap state (sym same) ∙ absent; no_bucket = λ other low differs is. omega arith })
      ];
      outside = λ r gone. others r (λ same. gone (rw same (at_in before ((fresh, new_words) ∷ []) at last_words))) (λ same. gone (rw (same, records) (Contains-push (records_of (rows b)) fresh)));
    }) changes
