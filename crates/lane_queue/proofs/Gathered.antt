-- What all passes took, after one of them took more or took in another.
use Rattle.std.proofs.Common.{◌≡◌, ◌≢◌, ℕ, zero, suc, List, [], ◌∷◌, ◌++◌, set, refl, sym, ap, ◌∙◌, subst, arith, append_assoc}
use Rattle.std.specs.List.Sorted.{IsPermutation}
use Rattle.std.proofs.lemmas.List.{append-nil}
use Rattle.std.proofs.lemmas.List.Sorted.{IsPermutation-refl, IsPermutation-trans, IsPermutation-append_left, IsPermutation-append_right, IsPermutation-append_comm}
use mathlib.Core.Option.{some-injective, some-ne-none}
use Rattle.lane_queue.specs.declared.lane.Lane.{Lane}
use Rattle.lane_queue.specs.View.{View, spent_view}
use Rattle.lane_queue.specs.Rule.{gathered, At}

pub alone_gathered : (vs : List View) (i : ℕ) (v : View) → At vs i v → ((j : ℕ) (u : View) → j ≢ i → At vs j u → u ≡ spent_view) → gathered vs ≡ v.took
alone_gathered [] i v at spent = absurd (some-ne-none v (sym at))
alone_gathered (x ∷ vs) zero v at spent =
    let e : x.took ≡ v.took = ap (λ (y : View). y.took) (some-injective x v at) in
    let rest = none_gathered vs (λ j u a. spent (suc j) u (λ n. absurd (omega (arith, n))) a) in
    ap (λ l. x.took ++ l) rest ∙ append-nil x.took ∙ e
  where
    none_gathered : (vs : List View) → ((j : ℕ) (u : View) → At vs j u → u ≡ spent_view) → gathered vs ≡ []
    none_gathered [] spent = refl
    none_gathered (x ∷ vs) spent =
        ap (λ l. x.took ++ l) (none_gathered vs (λ j u a. spent (suc j) u a)) ∙ append-nil x.took ∙ ap (λ (y : View). y.took) (spent 0 x refl)
alone_gathered (x ∷ vs) (suc i) v at spent =
    let e : x.took ≡ [] = ap (λ (y : View). y.took) (spent 0 x (λ n. absurd (omega (arith, n))) refl) in
    ap (λ l. l ++ gathered vs) e ∙ alone_gathered vs i v at (λ j u ne a. spent (suc j) u (λ n. ne (omega (arith, n))) a)

pub gathered_same : (vs : List View) (i : ℕ) (v w : View) → At vs i v → w.took ≡ v.took → gathered (set vs i w) ≡ gathered vs
gathered_same [] i v w at e = refl
gathered_same (x ∷ vs) zero v w at e = ap (λ l. l ++ gathered vs) (e ∙ ap (λ (y : View). y.took) (sym (some-injective x v at)))
gathered_same (x ∷ vs) (suc i) v w at e = ap (λ l. x.took ++ l) (gathered_same vs i v w at e)

pub gathered_append : (vs ws : List View) → gathered (vs ++ ws) ≡ gathered vs ++ gathered ws
gathered_append [] ws = refl
gathered_append (x ∷ vs) ws = ap (λ l. x.took ++ l) (gathered_append vs ws) ∙ sym (append_assoc x.took (gathered vs) (gathered ws))

exchange : {X : Type 0} → (a b c : List X) → IsPermutation (a ++ (b ++ c)) (b ++ (a ++ c))
exchange {X} a b c =
    subst (λ (y : List X × List X). IsPermutation y.0 y.1) (λ i. (append_assoc a b c i, append_assoc b a c i)) (IsPermutation-append_left c (a ++ b) (b ++ a) (IsPermutation-append_comm a b))

-- one view took t more
pub put_in : (vs : List View) (i : ℕ) (v w : View) (t : List Lane) → At vs i v → w.took ≡ v.took ++ t → IsPermutation (t ++ gathered vs) (gathered (set vs i w))
put_in [] i v w t at e = absurd (some-ne-none v (sym at))
put_in (x ∷ vs) zero v w t at e =
    let own : v.took ≡ x.took = ap (λ (y : View). y.took) (sym (some-injective x v at)) in
    let now : w.took ++ gathered vs ≡ x.took ++ (t ++ gathered vs) = ap (λ l. l ++ gathered vs) (e ∙ ap (λ l. l ++ t) own) ∙ append_assoc x.took t (gathered vs) in
    subst (λ (y : List Lane). IsPermutation (t ++ (x.took ++ gathered vs)) y) (sym now) (exchange t x.took (gathered vs))
put_in (x ∷ vs) (suc i) v w t at e =
    IsPermutation-trans (t ++ (x.took ++ gathered vs)) (x.took ++ (t ++ gathered vs)) (x.took ++ gathered (set vs i w)) (exchange t x.took (gathered vs))
    (IsPermutation-append_right x.took (t ++ gathered vs) (gathered (set vs i w)) (put_in vs i v w t at e))

-- what one view took is taken away
take_out : (vs : List View) (j : ℕ) (u : View) → At vs j u → IsPermutation (gathered vs) (u.took ++ gathered (set vs j spent_view))
take_out [] j u at = absurd (some-ne-none u (sym at))
take_out (x ∷ vs) zero u at = subst (λ (y : List Lane). IsPermutation (x.took ++ gathered vs) (y ++ gathered vs)) (ap (λ (y : View). y.took) (some-injective x u at)) (IsPermutation-refl (x.took ++ gathered vs))
take_out (x ∷ vs) (suc j) u at =
    let rest = gathered (set vs j spent_view) in
    IsPermutation-trans (x.took ++ gathered vs) (x.took ++ (u.took ++ rest)) (u.took ++ (x.took ++ rest)) (IsPermutation-append_right x.took (gathered vs) (u.took ++ rest) (take_out vs j u at)) (exchange x.took u.took rest)

-- one view took in what another had taken
pub taken_in : (vs : List View) (i j : ℕ) (v u b : View) → j ≢ i → At vs i v → At vs j u → b.took ≡ v.took ++ u.took
    → IsPermutation (gathered vs) (gathered (set (set vs i b) j spent_view))
taken_in [] i j v u b ne at at_u e = absurd (some-ne-none v (sym at))
taken_in (x ∷ vs) zero zero v u b ne at at_u e = absurd (ne refl)
taken_in (x ∷ vs) zero (suc j) v u b ne at at_u e =
    let rest = gathered (set vs j spent_view) in
    let own : v.took ≡ x.took = ap (λ (y : View). y.took) (sym (some-injective x v at)) in
    let now : b.took ++ rest ≡ x.took ++ (u.took ++ rest) = ap (λ l. l ++ rest) (e ∙ ap (λ l. l ++ u.took) own) ∙ append_assoc x.took u.took rest in
    subst (λ (y : List Lane). IsPermutation (x.took ++ gathered vs) y) (sym now) (IsPermutation-append_right x.took (gathered vs) (u.took ++ rest) (take_out vs j u at_u))
taken_in (x ∷ vs) (suc i) zero v u b ne at at_u e =
    let own : x.took ≡ u.took = ap (λ (y : View). y.took) (some-injective x u at_u) in
    subst (λ (y : List Lane). IsPermutation (y ++ gathered vs) (gathered (set vs i b))) (sym own) (put_in vs i v b u.took at e)
taken_in (x ∷ vs) (suc i) (suc j) v u b ne at at_u e =
    IsPermutation-append_right x.took (gathered vs) (gathered (set (set vs i b) j spent_view)) (taken_in vs i j v u b (λ k. ne (ap suc k)) at at_u e)
