-- Statuses and the words that show them.
use Rattle.std.proofs.Common.{◌≡◌, ◌≢◌, true, false, eqb, eqb-true, eq-eqb, refl, sym, ◌∙◌}
use denote.Enum.Bare.{sameb}
use Rattle.core_rule.specs.Status.{status_word}
use Rattle.core_rule.specs.contracts.status.Status.{the_type}
use Rattle.core_rule.specs.declared.status.Status.{Status}
use Rattle.core_rule.specs.declared.status.Status.TheVariants.{Pending, Committed, Deleted, Aborted}

-- statuses are the same where their words are
pub same_word : (s t : Status) → sameb the_type s t ≡ eqb (status_word s) (status_word t)
same_word Pending Pending = refl
same_word Pending Committed = refl
same_word Pending Deleted = refl
same_word Pending Aborted = refl
same_word Committed Pending = refl
same_word Committed Committed = refl
same_word Committed Deleted = refl
same_word Committed Aborted = refl
same_word Deleted Pending = refl
same_word Deleted Committed = refl
same_word Deleted Deleted = refl
same_word Deleted Aborted = refl
same_word Aborted Pending = refl
same_word Aborted Committed = refl
same_word Aborted Deleted = refl
same_word Aborted Aborted = refl

pub word_is : (s t : Status) → sameb the_type s t ≡ true → status_word s ≡ status_word t
word_is s t e = eqb-true (status_word s) (status_word t) (sym (same_word s t) ∙ e)

pub word_is_not : (s t : Status) → sameb the_type s t ≡ false → status_word s ≢ status_word t
word_is_not s t e same = let test = eq-eqb (status_word s) (status_word t) same in let no = sym (same_word s t) ∙ e in cc
