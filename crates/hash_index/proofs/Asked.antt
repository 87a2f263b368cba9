-- How often a new record was asked for, by the records that were given.
use Rattle.std.proofs.Common.{◌≡◌, ℕ, ◌+◌, ◌∷◌, [], ◌++◌, length, Option, Result, Ok, Err, List, ap, ◌∙◌, arith}
use Rattle.std.specs.Prelude.{IsErrAnd, OnOk}
use Rattle.std.proofs.lemmas.List.{length_push}
use Rattle.record_store.specs.Meaning.{Meaning, after_write}
use Rattle.record_store.specs.Walks.{OnlyReads}
use Rattle.record_store.proofs.Agreement.{given_same}
use Rattle.hash_index.specs.declared.search.Link.{Link}
use Rattle.hash_index.specs.Search.{AddsNode}

-- a refusal says nothing of a success
pub never_ok : {T E : Type 0} (answer : Result T E) (P : E → Type 0) (Q : Type 0) → IsErrAnd answer P → OnOk answer Q
never_ok (Ok value) P Q is = absurd is
never_ok (Err error) P Q is = tt

-- one write behind reads gives no record
pub asked_none : (before between after : Meaning) (rid : ℕ) (value : Option (List ℕ)) → OnlyReads before between → after ≡ after_write between rid value → length after.given ≡ length before.given + 0
asked_none before between after rid value only wrote =
    let same : after.given ≡ before.given = ap (λ (m : Meaning). m.given) wrote ∙ given_same before between only in
    let e = ap length same in
    omega (arith, e)

-- a new node is one
pub asked_one : (key rid : ℕ) (last : Link) (before between after : Meaning) → OnlyReads before between → AddsNode key rid last between after → length after.given ≡ length before.given + 1
asked_one key rid last before between after only adds =
    let grown : after.given ≡ between.given ++ adds.fresh ∷ [] = ap (λ (m : Meaning). m.given) adds.written in
    let e = ap length grown in
    let l = length_push between.given adds.fresh in
    let s = ap length (given_same before between only) in
    omega (arith, e, l, s)
