-- A row of one root and the part below it, once two new nodes stand between them.
use Rattle.std.proofs.Common.{◌≡◌, ◌≢◌, ◌⊎◌, ℕ, ◌≤◌, List, ◌∷◌, None, Some, sym, ap, ◌∙◌, subst, inl, inr}
use Rattle.std.proofs.lemmas.Option.{none-some}
use Rattle.plain_data.specs.State.{State}
use Rattle.ordered_index.specs.Tree.{In, Apart}
use Rattle.ordered_index.specs.Enter.{Grown}
use Rattle.ordered_index.proofs.Grown.{stays_out}

pub record RootGrown (fixed root a b : ℕ) (state between state' : State) (was now : List ℕ) : Type 0 where
  pub keeps : (rid : ℕ) → In rid now → state' rid ≡ between rid
  pub once : Apart (root ∷ a ∷ b ∷ now)
  pub grown : Grown fixed state state' (root ∷ was) (root ∷ a ∷ b ∷ now)

pub root_grows : (fixed root a b : ℕ) (state between state' : State) (was now words : List ℕ) → state root ≡ Some words → Apart (root ∷ was) → Grown fixed state between was now → Apart now → ((rid : ℕ) → In rid now → (words : List ℕ) × (between rid ≡ Some words)) → between a ≡ None → between b ≡ None → fixed ≤ a → fixed ≤ b → b ≢ a → ((other : ℕ) → other ≢ root → other ≢ a → other ≢ b → state' other ≡ between other) → RootGrown fixed root a b state between state' was now
root_grows fixed root a b state between state' was now words here apart grown once present no_a no_b new_a new_b differ others =
    let out : In root now → ⊥ = stays_out fixed state between was now root words grown apart.0 here in
    let stays : between root ≡ Some words = grown.outside root out ∙ here in
    let a_root : a ≢ root = λ same. none-some words (sym no_a ∙ ap between same ∙ stays) in
    let b_root : b ≢ root = λ same. none-some words (sym no_b ∙ ap between same ∙ stays) in
    let a_now : In a now → ⊥ = λ there. (let p = present a there in none-some p.0 (sym no_a ∙ p.1)) in
    let b_now : In b now → ⊥ = λ there. (let p = present b there in none-some p.0 (sym no_b ∙ p.1)) in
    let I : ℕ → Type 0 = λ r. In r now in
    record {
      keeps = λ rid there. others rid (λ same. out (subst I same there)) (λ same. a_now (subst I same there)) (λ same. b_now (subst I same there));
      once = (
        λ there. elim there as (λ _. ⊥) [ inl same ↦ a_root same | inr more ↦ elim more as (λ _. ⊥) [ inl same ↦ b_root same | inr below ↦ out below ] ],
        (λ there. elim there as (λ _. ⊥) [ inl same ↦ differ same | inr below ↦ a_now below ], (b_now, once)),
      );
      grown = record {
        kept = λ rid there. elim there as (λ _. In rid (root ∷ a ∷ b ∷ now)) [ inl same ↦ inl same | inr below ↦ inr (inr (inr (grown.kept rid below))) ];
        anew = λ rid there. elim there as (λ _. In rid (root ∷ was) ⊎ ((state rid ≡ None) × (fixed ≤ rid))) [
          | inl same ↦ inl (inl same)
          | inr more ↦ elim more as (λ _. In rid (root ∷ was) ⊎ ((state rid ≡ None) × (fixed ≤ rid))) [
            | inl same ↦ inr (rw (← same) (sym (grown.outside a a_now) ∙ no_a, new_a))
            | inr last ↦ elim last as (λ _. In rid (root ∷ was) ⊎ ((state rid ≡ None) × (fixed ≤ rid))) [
              | inl same ↦ inr (rw (← same) (sym (grown.outside b b_now) ∙ no_b, new_b))
              | inr below ↦ elim (grown.anew rid below) as (λ _. In rid (root ∷ was) ⊎ ((state rid ≡ None) × (fixed ≤ rid))) [ inl old ↦ inl (inr old) | inr new ↦ inr new ]
            ]
          ]
        ];
        outside = λ rid gone. others rid (λ same. gone (inl (sym same))) (λ same. gone (inr (inl (sym same)))) (λ same. gone (inr (inr (inl (sym same))))) ∙ grown.outside rid (λ there. gone (inr (inr (inr there))));
      };
    }
