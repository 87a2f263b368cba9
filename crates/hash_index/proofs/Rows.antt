-- Rows of nodes: how they are joined, parted and followed.
use Rattle.std.proofs.Common.{◌≡◌, ℕ, ◌+◌, suc, List, [], ◌∷◌, ◌++◌, length, Option, None, Some, refl, sym, ap, ◌∙◌, arith, subst}
use Rattle.std.specs.Prelude.{option_map}
use Rattle.std.proofs.lemmas.Option.{same_Some, none-some}
use Rattle.std.proofs.lemmas.Grind.{flat_map-append}
use Rattle.plain_data.specs.State.{State}
use Rattle.hash_index.specs.Node.{IsNode, pairs_of, next_node}
use Rattle.hash_index.specs.Chain.{Leads, start_of, row_pairs}

-- the same row, from another name of its place or its first record
pub Leads-at : (size : ℕ) (state : State) (position position' : ℕ) (from from' to : Option ℕ) (row : List (ℕ × List ℕ)) → position ≡ position' → from ≡ from' → Leads size state position from row to → Leads size state position' from' row to
Leads-at size state position position' from from' to row place first leads =
    let P : ℕ → Option ℕ → Type 0 = λ p o. Leads size state p o row to in
    subst (λ p. P p from') place (subst (λ o. P position o) first leads)

-- two rows, one behind the other
pub Leads-append : (size : ℕ) (state : State) (position : ℕ) (from mid to : Option ℕ) (xs ys : List (ℕ × List ℕ)) → Leads size state position from xs mid → Leads size state (position + length xs) mid ys to → Leads size state position from (xs ++ ys) to
Leads-append size state position from mid to [] ys first second = Leads-at size state (position + 0) position mid from to ys (omega arith) (sym first) second
Leads-append size state position from mid to (x ∷ xs) ys first second =
    (first.0, first.1, first.2, Leads-append size state (position + 1) (next_node x.1) mid to xs ys first.3 (Leads-at size state (position + suc (length xs)) (position + 1 + length xs) mid mid to ys (omega arith) refl second))

pub Leads-push : (size : ℕ) (state : State) (position : ℕ) (from : Option ℕ) (rid : ℕ) (words : List ℕ) (xs : List (ℕ × List ℕ)) → Leads size state position from xs (Some rid) → state rid ≡ Some words → IsNode size (position + length xs) words → Leads size state position from (xs ++ (rid, words) ∷ []) (next_node words)
Leads-push size state position from rid words xs row here node = Leads-append size state position from (Some rid) (next_node words) xs ((rid, words) ∷ []) row (refl, here, node, refl)

-- one state has one row from a record on: a row to its end begins with each row to a record
pub record Follows (size : ℕ) (state : State) (position : ℕ) (mid : Option ℕ) (xs ys : List (ℕ × List ℕ)) : Type 0 where
  pub rest : List (ℕ × List ℕ)
  pub joined : ys ≡ xs ++ rest
  pub leads : Leads size state (position + length xs) mid rest None

pub same_node : (state : State) (from : Option ℕ) (x y : ℕ × List ℕ) → from ≡ Some x.0 → from ≡ Some y.0 → state x.0 ≡ Some x.1 → state y.0 ≡ Some y.1 → y ≡ x
same_node state from x y from_x from_y at_x at_y =
    let first : y.0 ≡ x.0 = same_Some y.0 x.0 (sym from_y ∙ from_x) in
    let second : y.1 ≡ x.1 = same_Some y.1 x.1 (sym at_y ∙ ap state first ∙ at_x) in
    ap (λ r. (r, y.1)) first ∙ ap (λ w. (x.0, w)) second

pub Leads-follow : (size : ℕ) (state : State) (position : ℕ) (from mid : Option ℕ) (xs ys : List (ℕ × List ℕ)) → Leads size state position from xs mid → Leads size state position from ys None → Follows size state position mid xs ys
Leads-follow size state position from mid [] ys first whole = record {
  rest = ys;
  joined = refl;
  leads = Leads-at size state position (position + 0) from mid None ys (omega arith) first whole;
}
Leads-follow size state position from mid (x ∷ xs) [] first whole = absurd (none-some x.0 (sym whole ∙ first.0))
Leads-follow size state position from mid (x ∷ xs) (y ∷ ys) first whole =
    let same : y ≡ x = same_node state from x y first.0 whole.0 first.1 whole.1 in
    let more = Leads-follow size state (position + 1) (next_node x.1) mid xs ys first.3 (Leads-at size state (position + 1) (position + 1) (next_node y.1) (next_node x.1) None ys refl (ap (λ (n : ℕ × List ℕ). next_node n.1) same) whole.3) in
    record {
      rest = more.rest;
      joined = ap (λ n. n ∷ ys) same ∙ ap (λ ns. x ∷ ns) more.joined;
      leads = Leads-at size state (position + 1 + length xs) (position + suc (length xs)) mid mid None more.rest (omega arith) refl more.leads;
    }

pub row_pairs-append : (xs ys : List (ℕ × List ℕ)) → row_pairs (xs ++ ys) ≡ row_pairs xs ++ row_pairs ys
row_pairs-append xs ys = flat_map-append (λ (node : ℕ × List ℕ). pairs_of node.1) xs ys

-- a present bucket begins its row
pub start_present : (state : State) (bucket : ℕ) (words : List ℕ) → state bucket ≡ Some words → start_of state bucket ≡ Some bucket
start_present state bucket words here = ap (option_map (λ _. bucket)) here

pub start_absent : (state : State) (bucket : ℕ) → state bucket ≡ None → start_of state bucket ≡ None
start_absent state bucket here = ap (option_map (λ _. bucket)) here
