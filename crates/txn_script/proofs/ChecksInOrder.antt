-- The first check that fails is one, and fails where not all pass.
use Rattle.std.proofs.Common.{◌≡◌, List, [], ◌∷◌, sym, ◌∙◌, inl, inr}
use Rattle.txn_script.specs.declared.fault.Kind.{Kind}
use Rattle.txn_script.specs.Grammar.{PassesEach, FirstFailing}

pub first_once : (P : Kind → Type 0) (checks : List Kind) (a b : Kind) → FirstFailing P checks a → FirstFailing P checks b → a ≡ b
first_once P [] a b x y = absurd x
first_once P (check ∷ checks) a b (inl x) (inl y) = x.1 ∙ sym y.1
first_once P (check ∷ checks) a b (inl x) (inr y) = absurd (x.0 y.0)
first_once P (check ∷ checks) a b (inr x) (inl y) = absurd (y.0 x.0)
first_once P (check ∷ checks) a b (inr x) (inr y) = first_once P checks a b x.1 y.1

pub none_fails : (P : Kind → Type 0) (checks : List Kind) (kind : Kind) → PassesEach P checks → FirstFailing P checks kind → ⊥
none_fails P [] kind all first = first
none_fails P (check ∷ checks) kind all (inl x) = x.0 all.0
none_fails P (check ∷ checks) kind all (inr x) = none_fails P checks kind all.1 x.1
