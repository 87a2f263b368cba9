-- What is written to records, in a list by their numbers.
use Rattle.std.proofs.Common.{◌≡◌, ℕ, zero, suc, ◌+◌, Bool, true, false, ◌&&◌, cond, List, [], ◌∷◌, ◌++◌, Option, None, Some, refl, sym, ap, inl, inr, ◌⊎◌, arith, length, take, drop, eqb, eq-eqb}
use Rattle.std.specs.Prelude.{is_some, IsSome, slice_get, nat_le}
use Rattle.core_rule.specs.Deciding.{written_values, value_of}
use Rattle.core_rule.specs.View.{Write}
use Rattle.record_store.specs.Meaning.{value_at}
use Rattle.spare_numbers.specs.Spare.{added, holds, is_deletion, with_deleted}
use Rattle.spare_numbers.proofs.Shares.{drop_at}

pub length-written : (us : List Write) → length (written_values us) ≡ length us
length-written [] = refl
length-written (u ∷ us) = ap suc (length-written us)

-- the value of a write, at its number
pub turn_get : (i : ℕ) (us : List Write) (u : Write) → us ≡ take i us ++ u ∷ drop (suc i) us → slice_get (written_values us) i ≡ Some (u.record_number, value_of u.cells)
turn_get zero [] u splits = let h = ap length splits in absurd (omega arith)
turn_get (suc i) [] u splits = let h = ap length splits in absurd (omega arith)
turn_get zero (w ∷ us) u splits = let same : w ≡ u = cc in rw same refl
turn_get (suc i) (w ∷ us) u splits = turn_get i us u (ap (drop 1) splits)

-- a record that was found, or is found behind the first entry
pub some_or : (b : Bool) (x : Option (List ℕ)) (found : Option (Option (List ℕ))) → (b ≡ true) ⊎ IsSome found → IsSome (cond b (Some x) found)
some_or true x found some = refl
some_or false x found (inl off) = cc
some_or false x found (inr some) = some

-- a record with a write, at its place
pub some_at : (es : List (ℕ × Option (List ℕ))) (i : ℕ) (e : ℕ × Option (List ℕ)) → slice_get es i ≡ Some e → IsSome (value_at es e.0)
some_at [] i e at = cc
some_at (x ∷ es) zero e at = let same : x ≡ e = cc in some_or (eqb e.0 x.0) x.1 (value_at es e.0) (inl (eq-eqb e.0 x.0 (ap (λ (y : ℕ × Option (List ℕ)). y.0) (sym same))))
some_at (x ∷ es) (suc i) e at = some_or (eqb e.0 x.0) x.1 (value_at es e.0) (inr (some_at es i e at))

pub held : (value : Option (List ℕ)) → is_some value ≡ holds (Some value)
held None = refl
held (Some words) = refl

-- one more write is gone through
pub deleted_step : (fixed rid i : ℕ) (value : Option (List ℕ)) (spare spare' : List ℕ) (es : List (ℕ × Option (List ℕ))) → slice_get es i ≡ Some (rid, value) → spare' ≡ cond (is_deletion value && nat_le fixed rid) (added spare rid) spare → with_deleted fixed spare' (drop (i + 1) es) ≡ with_deleted fixed spare (drop i es)
deleted_step fixed rid i value spare spare' es at more = rw (drop_at es i (rid, value) at, more) refl
