-- Bytes read or taken one after another.
use Rattle.std.proofs.Common.{◌≡◌, ◌∙◌, ℕ, ◌+◌, ◌≤◌, List, [], ◌++◌, length, take, drop, Option, Some, None, refl, ap, sym, arith, append_assoc, append-nil, length-append}
use Rattle.std.proofs.Math.Seq.{take-add}
use Rattle.std.proofs.lemmas.List.{length-take, take-take}
use Rattle.std.specs.Io.KnownBytes.{prepend_known, append_known}
use Rattle.program_io.specs.Received.{ReadsAtMost}

prepend_known-append : (xs ys : List ℕ) (o : Option (List ℕ)) → prepend_known (xs ++ ys) o ≡ prepend_known xs (prepend_known ys o)
prepend_known-append xs ys None = refl
prepend_known-append xs ys (Some zs) = ap Some (append_assoc xs ys zs)

append_known-append : (o : Option (List ℕ)) (xs ys : List ℕ) → append_known o (xs ++ ys) ≡ append_known (append_known o xs) ys
append_known-append None xs ys = refl
append_known-append (Some zs) xs ys = ap Some (sym (append_assoc zs xs ys))

pub append_known-nil : (o : Option (List ℕ)) → append_known o [] ≡ o
append_known-nil None = refl
append_known-nil (Some zs) = ap Some (append-nil zs)

-- more was read
pub given-more : (a b c : Option (List ℕ)) (xs ys : List ℕ) → a ≡ prepend_known xs b → b ≡ prepend_known ys c → a ≡ prepend_known (xs ++ ys) c
given-more a b c xs ys first next = first ∙ ap (prepend_known xs) next ∙ sym (prepend_known-append xs ys c)

pub reads-more : (most : ℕ) (a b c : Option (List ℕ)) (xs ys : List ℕ) → a ≡ prepend_known xs b → b ≡ prepend_known ys c
    → length xs + length ys ≤ most + 1 → ReadsAtMost most a c
reads-more most a b c xs ys first next fits =
    record { bytes = xs ++ ys; given = given-more a b c xs ys first next; bounded = omega (arith, fits, length-append xs ys) }

-- a sink took the first bytes of a text, and then the first ones of the rest
pub append_known-take : (a b c : Option (List ℕ)) (m n : ℕ) (text : List ℕ) → b ≡ append_known a (take m text) → c ≡ append_known b (take n (drop m text))
    → c ≡ append_known a (take (m + n) text)
append_known-take a b c m n text first next =
    next ∙ ap (λ o. append_known o (take n (drop m text))) first ∙ sym (append_known-append a (take m text) (take n (drop m text)))
    ∙ ap (append_known a) (sym (take-add m n text))

-- the first bytes of the first piece of a text
pub take-piece : (most n : ℕ) (text piece : List ℕ) → piece ≡ take most text → n ≤ length piece → take n piece ≡ take n text
take-piece most n text piece is within =
    ap (take n) is ∙ take-take n most text (omega (arith, ap length is, length-take most text))

pub ruleset pieces = (take-piece, append_known-nil, append_known-take)
