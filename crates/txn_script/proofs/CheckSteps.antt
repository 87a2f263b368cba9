-- Steps that may refuse: what holds of the answer where each outcome of the test gives it.
use Rattle.std.proofs.Common.{◌≡◌, Bool, true, false, cond, Option, Some, None, Result, Ok, Err, refl}
use Rattle.std.specs.Prelude.{not, is_some}
use Rattle.txn_script.specs.declared.fault.Kind.{Kind}
use Rattle.txn_script.specs.declared.fault.Kind.TheVariants as kinds
use Rattle.txn_script.specs.Reading.{need, and_then, check}

pub checked : {A : Type 0} (b : Bool) (kind : Kind) (rest : Result A Kind) (T : Result A Kind → Type 0) → (b ≡ false → T (Err kind)) → (b ≡ true → T rest) → T (check b kind rest)
checked true kind rest T refused passed = passed refl
checked false kind rest T refused passed = refused refl

pub needed : {A B : Type 0} (o : Option A) (kind : Kind) (f : A → Result B Kind) (T : Result B Kind → Type 0) → (o ≡ None → T (Err kind)) → ((x : A) → o ≡ Some x → T (f x)) → T (need o kind f)
needed None kind f T refused passed = refused refl
needed (Some x) kind f T refused passed = passed x refl

pub is_some-some : {A : Type 0} (o : Option A) → is_some o ≡ true → (x : A) × (o ≡ Some x)
is_some-some None e = absurd cc
is_some-some (Some x) e = (x, refl)

pub is_some-none : {A : Type 0} (o : Option A) → is_some o ≡ false → o ≡ None
is_some-none None e = refl
is_some-none (Some x) e = absurd cc

pub not-true : (b : Bool) → not b ≡ true → b ≡ false
not-true true e = absurd cc
not-true false e = refl

pub not-false : (b : Bool) → not b ≡ false → b ≡ true
not-false true e = refl
not-false false e = absurd cc

pub different : (b : Bool) → b ≡ true → b ≡ false → ⊥
different true t f = absurd cc
different false t f = absurd cc

pub row_case : {A B : Type 0} (b : Bool) (x : A) (f : A → Result B Kind) (T : Result B Kind → Type 0) → (b ≡ true → T (Err kinds.Twice)) → (b ≡ false → T (f x)) → T (and_then (cond b (Err kinds.Twice) (Ok x)) f)
row_case true x f T twice new = twice refl
row_case false x f T twice new = new refl

pub some_is : {A : Type 0} (x y : A) → Some x ≡ Some y → x ≡ y
some_is x y e = cc
