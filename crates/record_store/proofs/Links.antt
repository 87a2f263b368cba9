-- The word of a link read again.
use Rattle.std.proofs.Common.{◌≡◌, ℕ, ◌+◌, Option, None, Some, refl, arith}
use Rattle.std.proofs.lemmas.Bool.Decides.{nat_tests}
use Rattle.record_store.specs.Links.{named_by, link_word}

named_by-more : (rid : ℕ) → named_by (rid + 1) ≡ Some rid
named_by-more rid = grind (arith, nat_tests)

-- a word that names a record names it
pub named_by-link_word : (next : Option ℕ) → named_by (link_word next) ≡ next
named_by-link_word None = refl
named_by-link_word (Some rid) = named_by-more rid
