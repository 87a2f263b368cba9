-- What is said of an answer that is an error.
use Rattle.std.proofs.Common.{◌≡◌, true, false, Result, Ok, Err}
use Rattle.std.specs.Prelude.{IfOk, OnOk, OnErr}
use Rattle.std.specs.Result.{IsErr}

-- of the value that it would have
pub not_ok : {T E : Type 0} (r : Result T E) (P : T → Type 0) → IsErr r → IfOk r P
not_ok (Ok x) P told = absurd (let no : false ≡ true = told in cc)
not_ok (Err e) P told = tt

-- of what would hold if it had one
pub no_value : {T E : Type 0} (r : Result T E) (P : Type 0) → IsErr r → OnOk r P
no_value (Ok x) P told = absurd (let no : false ≡ true = told in cc)
no_value (Err e) P told = tt

-- of what holds whatever it is
pub on_err : {T E P : Type 0} (r : Result T E) → P → OnErr r P
on_err (Ok x) p = tt
on_err (Err e) p = p
