-- Options, without or with a value behind a `=`.
use Rattle.std.proofs.Common.{◌≡◌, ◌≢◌, ℕ, List, [], ◌∷◌, ◌++◌, drop, append-nil, inl, inr, sym, ap, ◌∙◌}
use Rattle.std.specs.Prelude.{codes}
use Rattle.dump_top.specs.Words.{IsOption}

-- the same behind the same name
behind_name : (name a b : List ℕ) → name ++ a ≡ name ++ b → a ≡ b
behind_name [] a b same = same
behind_name (x ∷ name) a b same = behind_name name a b (ap (drop 1) same)

-- a word that begins with the name is the option where what is behind it says so
pub option_behind : (name rest word : List ℕ) → word ≡ name ++ rest → IsOption [] rest → IsOption name word
option_behind name rest word is (inl none) = inl (is ∙ ap (λ r. name ++ r) none ∙ append-nil name)
option_behind name rest word is (inr value) = inr (value.0, is ∙ ap (λ r. name ++ r) value.1)

pub rest_of_option : (name rest word : List ℕ) → word ≡ name ++ rest → IsOption name word → IsOption [] rest
rest_of_option name rest word is (inl none) = inl (behind_name name rest [] (sym is ∙ none ∙ sym (append-nil name)))
rest_of_option name rest word is (inr value) = inr (value.0, behind_name name rest (codes "=" ++ value.0) (sym is ∙ value.1))

pub no_option : (name word : List ℕ) → ((rest : List ℕ) → word ≢ name ++ rest) → IsOption name word → ⊥
no_option name word none (inl is) = none [] (is ∙ sym (append-nil name))
no_option name word none (inr value) = none (codes "=" ++ value.0) value.1
