-- What allows the steps that validate and decide, from what their calls ask.
use Rattle.std.proofs.Common.{◌≡◌, ℕ, refl, ap, ◌∙◌, List, [], ◌∷◌, inl}
use Rattle.core_rule.specs.View.{Fill, Search, still, marks, stands, Look}
use Rattle.core_rule.specs.Searching.{IsAt, stand_in, look_in, front_fill}
use Rattle.core_rule.specs.Views.{Among}
use Rattle.core_rule.specs.Holding.{filled_place, IsFilling}

pub stands_of : (p : ℕ) (x : Search) → IsAt p x → x ≡ stands (stand_in x) (look_in x)
stands_of p still at = absurd at
stands_of p (marks u) at = absurd at
stands_of p (stands s look) at = refl

pub stands_at : (p : ℕ) (x : Search) (look : Look) → IsAt p x → look_in x ≡ look → x ≡ stands (stand_in x) look
stands_at p x look at is = stands_of p x at ∙ ap (stands (stand_in x)) is

pub front_in : (fs : List Fill) → IsFilling fs → Among (front_fill fs) fs
front_in [] is = absurd is
front_in (f ∷ fs) is = inl refl

pub front_place : (fs : List Fill) → filled_place fs ≡ (front_fill fs).place
front_place [] = refl
front_place (f ∷ fs) = refl
