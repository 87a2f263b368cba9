-- Sums over the views of all passes.
use Rattle.std.proofs.Common.{◌≡◌, ◌≢◌, ℕ, zero, suc, ◌+◌, ◌≤◌, List, [], ◌∷◌, set, refl, sym, ap, ◌∙◌, arith}
use Rattle.std.specs.List.{sum_by}
use Rattle.std.proofs.lemmas.List.Sums.{sum_by-cons}
use mathlib.Core.Option.{some-injective, some-ne-none}
use Rattle.lane_queue.specs.declared.lane.Lane.{Lane}
use Rattle.lane_queue.specs.View.{View, spent_view}
use Rattle.lane_queue.specs.Rule.{At, Each, Fits}

abbrev pub share : View → ℕ
share v = v.share

-- a sum over the views after one was set
pub sum_set : (f : View → ℕ) (vs : List View) (i : ℕ) (v w : View) → At vs i v → sum_by f (set vs i w) + f v ≡ sum_by f vs + f w
sum_set f [] i v w at = absurd (some-ne-none v (sym at))
sum_set f (u ∷ vs) zero v w at = let e : f u ≡ f v = ap f (some-injective u v at) in omega (arith, e, sum_by-cons f u vs, sum_by-cons f w vs)
sum_set f (u ∷ vs) (suc i) v w at = let e = sum_set f vs i v w at in omega (arith, e, sum_by-cons f u vs, sum_by-cons f u (set vs i w))

pub sum_least : (f : View → ℕ) (vs : List View) (i : ℕ) (v : View) → At vs i v → f v ≤ sum_by f vs
sum_least f [] i v at = absurd (some-ne-none v (sym at))
sum_least f (u ∷ vs) zero v at = let e : f u ≡ f v = ap f (some-injective u v at) in omega (arith, e, sum_by-cons f u vs)
sum_least f (u ∷ vs) (suc i) v at = let e = sum_least f vs i v at in omega (arith, e, sum_by-cons f u vs)

sum_two : (f : View → ℕ) (vs : List View) (i j : ℕ) (v u : View) → At vs i v → At vs j u → j ≢ i → f v + f u ≤ sum_by f vs
sum_two f [] i j v u at at_u ne = absurd (some-ne-none v (sym at))
sum_two f (x ∷ vs) zero zero v u at at_u ne = absurd (ne refl)
sum_two f (x ∷ vs) zero (suc j) v u at at_u ne = let e : f x ≡ f v = ap f (some-injective x v at) in let l = sum_least f vs j u at_u in omega (arith, e, l, sum_by-cons f x vs)
sum_two f (x ∷ vs) (suc i) zero v u at at_u ne = let e : f x ≡ f u = ap f (some-injective x u at_u) in let l = sum_least f vs i v at in omega (arith, e, l, sum_by-cons f x vs)
sum_two f (x ∷ vs) (suc i) (suc j) v u at at_u ne = let l = sum_two f vs i j v u at at_u (λ e. ne (ap suc e)) in omega (arith, l, sum_by-cons f x vs)

-- where one view has every share, the others are spent
pub others_spent : (lanes left : List Lane) (vs : List View) (i : ℕ) (v : View) → Each (Fits lanes left) vs → At vs i v → sum_by share vs ≡ share v
    → (j : ℕ) (u : View) → j ≢ i → At vs j u → u ≡ spent_view
others_spent lanes left vs i v each at whole j u ne at_u = let l = sum_two share vs i j v u at at_u ne in (each j u at_u).idle (omega (arith, l, whole))

-- where all other views are spent, sums and what was gathered are those of this one
pub alone_sum : (f : View → ℕ) → f spent_view ≡ 0 → (vs : List View) (i : ℕ) (v : View) → At vs i v → ((j : ℕ) (u : View) → j ≢ i → At vs j u → u ≡ spent_view) → sum_by f vs ≡ f v
alone_sum f z [] i v at spent = absurd (some-ne-none v (sym at))
alone_sum f z (x ∷ vs) zero v at spent = let e : f x ≡ f v = ap f (some-injective x v at) in let rest = none_sum f z vs (λ j u a. spent (suc j) u (λ n. absurd (let k : suc j ≡ 0 = n in omega (arith, k))) a) in omega (arith, e, rest, sum_by-cons f x vs)
  where
    none_sum : (f : View → ℕ) → f spent_view ≡ 0 → (vs : List View) → ((j : ℕ) (u : View) → At vs j u → u ≡ spent_view) → sum_by f vs ≡ 0
    none_sum f z [] spent = refl
    none_sum f z (x ∷ vs) spent = let e : f x ≡ 0 = ap f (spent 0 x refl) ∙ z in let rest = none_sum f z vs (λ j u a. spent (suc j) u a) in omega (arith, e, rest, sum_by-cons f x vs)
alone_sum f z (x ∷ vs) (suc i) v at spent = let e : f x ≡ 0 = ap f (spent 0 x (λ n. absurd (omega (arith, n))) refl) ∙ z in let rest = alone_sum f z vs i v at (λ j u ne a. spent (suc j) u (λ n. ne (let k : suc j ≡ suc i = n in omega (arith, k))) a) in omega (arith, e, rest, sum_by-cons f x vs)
