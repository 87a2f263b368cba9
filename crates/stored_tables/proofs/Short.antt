-- A row of nodes is no longer than the number of the records.
use Rattle.std.proofs.Common.{◌≡◌, ◌≢◌, ℕ, ◌+◌, ◌<◌, ◌≤◌, zero, suc, true, eqb, List, [], ◌∷◌, length, get_or, Option, Some, All, sym, ap, ◌∙◌, arith, inl, inr, eqb-true, ne_eqb}
use Rattle.std.specs.List.{list_any}
use Rattle.std.proofs.lemmas.Bool.{or_cases}
use Rattle.std.proofs.lemmas.Option.{same_Some}
use Rattle.std.proofs.lemmas.List.{length-map, get_or-map}
use Rattle.std.proofs.lemmas.List.Elements.{All-head, All-tail, All-cons, All-nil}
use Rattle.std.proofs.lemmas.Map.Keys.{IsDistinct-from_apart}
use Rattle.std.proofs.lemmas.Map.Steps.{length-le_from_distinct_below}
use Rattle.plain_data.specs.State.{State}
use Rattle.hash_index.specs.Node.{next_node, position_of}
use Rattle.hash_index.specs.Chain.{Leads}
use Rattle.record_store.specs.Links.{records_of}

-- each record that is present is below the number of the records
abbrev pub AllBelow : ℕ → State → Type 0
AllBelow records state = (rid : ℕ) (words : List ℕ) → state rid ≡ Some words → rid < records

-- each node stands where its number in the row says
place_at : (size : ℕ) (state : State) (position : ℕ) (from to : Option ℕ) (row : List (ℕ × List ℕ)) (i : ℕ) (d : ℕ × List ℕ) → Leads size state position from row to → i < length row → (state (get_or row i d).0 ≡ Some (get_or row i d).1) × (position_of (get_or row i d).1 ≡ position + i)
place_at size state position from to [] i d leads low = absurd (omega arith)
place_at size state position from to (node ∷ row) zero d leads low = (leads.1, omega (arith, leads.2.placed))
place_at size state position from to (node ∷ row) (suc i) d leads low =
    let more = place_at size state (position + 1) (next_node node.1) to row i d leads.3 (omega arith) in
    (more.0, omega (arith, more.1))

-- so the records of a row differ
records_differ : (size : ℕ) (state : State) (position : ℕ) (from to : Option ℕ) (row : List (ℕ × List ℕ)) → Leads size state position from row to → (i j d : ℕ) → i < j → j < length (records_of row) → get_or (records_of row) i d ≢ get_or (records_of row) j d
records_differ size state position from to row leads i j d less low = λ same.
    let count = length-map row (λ (node : ℕ × List ℕ). node.0) in
    let second : j < length row = omega (arith, count, low) in
    let first : i < length row = omega (arith, second, less) in
    let at_i = place_at size state position from to row i (0, []) leads first in
    let at_j = place_at size state position from to row j (0, []) leads second in
    let records : (get_or row i (0, [])).0 ≡ (get_or row j (0, [])).0 =
    sym (get_or-map (λ (node : ℕ × List ℕ). node.0) row i (0, []) d first) ∙ same
    ∙ get_or-map (λ (node : ℕ × List ℕ). node.0) row j (0, []) d second in
    let words : (get_or row i (0, [])).1 ≡ (get_or row j (0, [])).1 = same_Some _ _ (sym at_i.0 ∙ ap state records ∙ at_j.0) in
    let positions : position_of (get_or row i (0, [])).1 ≡ position_of (get_or row j (0, [])).1 = ap position_of words in
    omega (arith, at_i.1, at_j.1, positions, less)

records_below : (size records : ℕ) (state : State) (position : ℕ) (from to : Option ℕ) (row : List (ℕ × List ℕ)) → AllBelow records state → Leads size state position from row to → All (λ rid. rid < records) (records_of row)
records_below size records state position from to [] below leads = All-nil (λ rid. rid < records)
records_below size records state position from to (node ∷ row) below leads =
    All-cons (λ rid. rid < records) node.0 (records_of row) (below node.0 node.1 leads.1)
    (records_below size records state (position + 1) (next_node node.1) to row below leads.3)

any_below : (xs : List ℕ) (n q : ℕ) → All (λ x. x < n) xs → list_any (eqb q) xs ≡ true → q < n
any_below [] n q all there = cc
any_below (x ∷ xs) n q all there =
    elim (or_cases (eqb q x) (list_any (eqb q) xs) there) as (λ _. q < n) [
      | inl here ↦ (let same : q ≡ x = eqb-true q x here in rw same (All-head (λ y. y < n) x xs all))
      | inr later ↦ any_below xs n q (All-tail (λ y. y < n) x xs all) later
    ]

pub short_row : (size records : ℕ) (state : State) (position : ℕ) (from to : Option ℕ) (row : List (ℕ × List ℕ)) → AllBelow records state → Leads size state position from row to → length row ≤ records
short_row size records state position from to row below leads =
    let all = records_below size records state position from to row below leads in
    let few = length-le_from_distinct_below (records_of row) records
    (IsDistinct-from_apart eqb (records_of row)
    (λ i j d less low. ne_eqb _ _ (records_differ size state position from to row leads i j d less low)))
    (λ q there. any_below (records_of row) records q all there) in
    omega (arith, few, length-map row (λ (node : ℕ × List ℕ). node.0))
