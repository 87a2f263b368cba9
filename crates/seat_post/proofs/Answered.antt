-- What is said of an answer that is an error.
use Rattle.std.proofs.Common.{◌≡◌, Result, Ok, Err, sym, subst}
use Rattle.std.specs.Prelude.{IfOk, IfErr, OnErr}
use Rattle.std.specs.Result.{IsErrAnd}

-- of what it would be at `Ok`
pub not_ok : {T E : Type 0} (r : Result T E) (Q : E → Type 0) (P : T → Type 0) → IsErrAnd r Q → IfOk r P
not_ok (Ok x) Q P told = absurd told
not_ok (Err e) Q P told = tt

-- of what holds whatever it is
pub on_err : {T E P : Type 0} (r : Result T E) → P → OnErr r P
on_err (Ok x) p = tt
on_err (Err e) p = p

-- an error that is told in another type
pub err_told : {T E : Type 0} (r : Result T E) (e : E) (P : E → Type 0) → IsErrAnd r (λ x. x ≡ e) → P e → IfErr r P
err_told (Ok t) e P told holds = absurd told
err_told (Err x) e P told holds = subst P (sym told) holds

-- from one fact of an answer to another
pub if_ok_map : {A E : Type 0} (r : Result A E) (P Q : A → Type 0) → ((a : A) → P a → Q a) → IfOk r P → IfOk r Q
if_ok_map (Ok a) P Q f h = f a h
if_ok_map (Err e) P Q f h = h

pub on_err_map : {A E : Type 0} (r : Result A E) (P Q : Type 0) → (P → Q) → OnErr r P → OnErr r Q
on_err_map (Ok a) P Q f h = h
on_err_map (Err e) P Q f h = f h
