-- A walk that is torn does not end well: the two sides exclude each other.
use Rattle.std.proofs.Common.{◌≡◌, ℕ, ◌+◌, suc, List, [], ◌∷◌, ◌++◌, length, Option, None, Some, refl, sym, ap, ◌∙◌, arith, subst, inl, inr, true}
use Rattle.std.specs.Prelude.{is_some}
use Rattle.std.proofs.lemmas.Option.{same_Some, none-some}
use Rattle.plain_data.specs.State.{State}
use Rattle.hash_index.specs.Node.{IsNode, next_node}
use Rattle.hash_index.specs.Chain.{Leads, RowEndsWell, RowTears, record_at, row_pairs}
use Rattle.hash_index.proofs.Pairs.{record_at-before}
use Rattle.hash_index.proofs.Rows.{Leads-at, row_pairs-append, same_node}

-- a walk to a record that is no node passes all nodes that another walk passes
record Passes (size : ℕ) (state : State) (position rid : ℕ) (to : Option ℕ) (xs ys : List (ℕ × List ℕ)) : Type 0 where
  pub more : List (ℕ × List ℕ)
  pub joined : ys ≡ xs ++ more
  pub leads : Leads size state (position + length xs) to more (Some rid)

passes : (size : ℕ) (state : State) (position rid : ℕ) (from to : Option ℕ) (xs ys : List (ℕ × List ℕ)) → ((words : List ℕ) → state rid ≡ Some words → IsNode size (position + length ys) words → ⊥) → Leads size state position from xs to → Leads size state position from ys (Some rid) → Passes size state position rid to xs ys
passes size state position rid from to [] ys no_node first second = record {
  more = ys;
  joined = refl;
  leads = Leads-at size state position (position + 0) from to (Some rid) ys (omega arith) first second;
}
passes size state position rid from to (x ∷ xs) [] no_node first second =
    let same : rid ≡ x.0 = same_Some rid x.0 (sym second ∙ first.0) in
    let P : ℕ → Type 0 = λ p. IsNode size p x.1 in
    let place : position ≡ position + 0 = omega arith in
    absurd (no_node x.1 (ap state same ∙ first.1) (subst P place first.2))
passes size state position rid from to (x ∷ xs) (y ∷ ys) no_node first second =
    let same : y ≡ x = same_node state from x y first.0 second.0 first.1 second.1 in
    let place : position + 1 + length ys ≡ position + suc (length ys) = omega arith in
    let rest = passes size state (position + 1) rid (next_node x.1) to xs ys (λ words is node. no_node words is (let P : ℕ → Type 0 = λ p. IsNode size p words in subst P place node)) first.3 (Leads-at size state (position + 1) (position + 1) (next_node y.1) (next_node x.1) (Some rid) ys refl (ap (λ (n : ℕ × List ℕ). next_node n.1) same) second.3) in
    record {
      more = rest.more;
      joined = ap (λ n. n ∷ ys) same ∙ ap (λ ns. x ∷ ns) rest.joined;
      leads = Leads-at size state (position + 1 + length xs) (position + suc (length xs)) to to (Some rid) rest.more (omega arith) refl rest.leads;
    }

none_leads : (size : ℕ) (state : State) (position rid : ℕ) (more : List (ℕ × List ℕ)) → Leads size state position None more (Some rid) → ⊥
none_leads size state position rid [] leads = none-some rid leads
none_leads size state position rid (node ∷ more) leads = none-some node.0 leads.0

found_first : (found : Option ℕ) (xs ys : List (ℕ × ℕ)) (key : ℕ) → record_at xs key ≡ found → is_some found ≡ true → record_at (xs ++ ys) key ≡ None → ⊥
found_first None xs ys key is some absent = cc
found_first (Some rid) xs ys key is some absent = none-some rid (sym absent ∙ record_at-before xs ys key rid is)

pub ends_not_torn : (size bucket key rid : ℕ) (state : State) → RowEndsWell size bucket key state → RowTears size bucket key state rid → ⊥
ends_not_torn size bucket key rid state well tears =
    let place : 0 + length tears.nodes ≡ length tears.nodes = omega arith in
    let past = passes size state 0 rid _ well.to well.nodes tears.nodes (λ words is node. tears.no_node words is (let P : ℕ → Type 0 = λ p. IsNode size p words in subst P place node)) well.reached tears.reached in
    elim well.ends as (λ _. ⊥) [
      | inl ends ↦ none_leads size state (0 + length well.nodes) rid past.more (Leads-at size state (0 + length well.nodes) (0 + length well.nodes) well.to None (Some rid) past.more refl ends past.leads)
      | inr has ↦ found_first (record_at (row_pairs well.nodes) key) (row_pairs well.nodes) (row_pairs past.more) key refl has (ap (λ ps. record_at ps key) (sym (ap row_pairs past.joined ∙ row_pairs-append well.nodes past.more)) ∙ tears.not_before)
    ]
