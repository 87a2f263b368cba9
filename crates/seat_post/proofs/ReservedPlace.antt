-- What stands in the reserved place while a record is written again there, and once more.
use Rattle.std.proofs.Common.{◌≡◌, ◌≢◌, ℕ, ◌<◌, Bool, true, false, cond, eqb, eq-eqb, ne_eqb, not, [], ◌∷◌, refl, sym, ap, subst, ◌∙◌, inl, inr, arith}
use Rattle.std.specs.Prelude.{if◌then◌else◌}
use Rattle.core_rule.specs.View.{Counted, Reserved, version_reserved}
use Rattle.core_rule.specs.Views.{Among}
use Rattle.core_rule.specs.Searching.{known_of}
use Rattle.core_rule.specs.Spares.{StandsReserved}
use Rattle.rapid_gc.specs.Bounds.{IsSingle}
use Rattle.rapid_gc.specs.InReserved.{IsBelow, Remains}
use Rattle.rapid_gc.specs.declared.queue.Queued.{Queued}

pub not_on : (b : Bool) → not b ≡ true → b ≡ false
not_on true on = cc
not_on false on = refl

pub not_off : (b : Bool) → not b ≡ false → b ≡ true
not_off true off = refl
not_off false off = cc

the_one : (i j : Queued) → Among j (i ∷ []) → i ≡ j
the_one i j (inl same) = same
the_one i j (inr none) = absurd none

-- a version that is there is not cut off below itself
pub still_reserved : (i : Queued) (before after' : Reserved) → Remains (i ∷ []) before after' → before ≡ version_reserved i.rid i.stamp → after' ≡ version_reserved i.rid i.stamp
still_reserved i before after' (inl same) is = same ∙ is
still_reserved i before after' (inr cut) is = absurd (let h = below.1 in omega arith) where
  below : IsBelow i (version_reserved i.rid i.stamp)
  below = subst (λ (j : Queued). IsBelow j (version_reserved i.rid i.stamp)) (sym (the_one i cut.item cut.among)) (subst (IsBelow cut.item) is cut.below)

-- what was written there stays there, where what is older was cut off
pub reserved_once : (rid stamp : ℕ) (here : Bool) (before mid after' : Reserved) → here ≡ true → mid ≡ (if here then version_reserved rid stamp else before) → Remains (record { rid = rid; stamp = stamp } ∷ []) mid after' → after' ≡ version_reserved rid stamp
reserved_once rid stamp here before mid after' on is remains =
    still_reserved (record { rid = rid; stamp = stamp }) mid after' remains (is ∙ ap (λ (b : Bool). if b then version_reserved rid stamp else before) on)

-- what was written elsewhere leaves it there
pub reserved_twice : (here : Bool) (before mid other k : Reserved) → here ≡ false → mid ≡ (if here then other else before) → before ≡ k → mid ≡ k
reserved_twice here before mid other k off is was = is ∙ ap (λ (b : Bool). if b then other else before) off ∙ was

-- where one version is left, it is the only one
pub stands_reserved : (rid stamp : ℕ) (c : Counted) → c.in_reserved ≡ version_reserved rid stamp → IsSingle (known_of c rid) → StandsReserved rid c
stands_reserved rid stamp c here one = record { stamp = stamp; reserved = here; bound = one.bound; known = one.is; only = let h = one.linked in omega arith }

-- a later version is above it
pub below_later : (i : Queued) (stamp : ℕ) (k : Reserved) → k ≡ version_reserved i.rid stamp → stamp < i.stamp → IsBelow i k
below_later i stamp k is less = subst (IsBelow i) (sym is) (refl, less)

-- which place was taken tells whether the version stands there
pub reserved_in : (here : Bool) (place spot : ℕ) (a b : Reserved) → (here ≡ true → place ≡ spot) → (here ≡ false → place ≢ spot) → cond (eqb place spot) a b ≡ cond here a b
reserved_in true place spot a b on off = ap (λ (x : Bool). cond x a b) (eq-eqb place spot (on refl))
reserved_in false place spot a b on off = ap (λ (x : Bool). cond x a b) (ne_eqb place spot (off refl))
