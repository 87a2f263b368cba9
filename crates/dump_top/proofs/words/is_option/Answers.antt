use Rattle.std.proofs.lemmas.Bool.Decides.{Decides-eqb}
use Rattle.std.proofs.lemmas.Slice.Eq.{strip_prefix_is}
use Rattle.std.proofs.Common.{◌≡◌, ◌≢◌, ◌++◌, ℕ, List, Option, subst}
use Rattle.std.specs.Prelude.{MatchOption}
use Rattle.std.specs.Borrow.{Bor}
use Rattle.dump_top.proofs.Options.{option_behind, rest_of_option, no_option}
use Rattle.dump_top.proofs.words.is_option.Goals as goal

pub returns-in_default-clause-no : goal.returns-in_default-clause-no
returns-in_default-clause-no c = λ _ is.
    let told = strip_prefix_is Decides-eqb c.args.word.now c.args.name.now c.strip_prefix.result c.strip_prefix.ensures.cases in
    no_option c.args.name.now c.args.word.now (subst (λ (r : Option (Bor (List ℕ))). MatchOption r ((rest : List ℕ) → c.args.word.now ≢ c.args.name.now ++ rest) (λ x. c.args.word.now ≡ c.args.name.now ++ x.now)) c.in_default.is told) is

pub returns-clause-no : goal.returns-clause-no
returns-clause-no c = λ no is.
    let told = strip_prefix_is Decides-eqb c.args.word.now c.args.name.now c.strip_prefix.result c.strip_prefix.ensures.cases in
    let split : c.args.word.now ≡ c.args.name.now ++ c.in-Some.rest.now = subst (λ (r : Option (Bor (List ℕ))). MatchOption r ((rest : List ℕ) → c.args.word.now ≢ c.args.name.now ++ rest) (λ x. c.args.word.now ≡ c.args.name.now ++ x.now)) c.in-Some.is told in
    c.begins_value.ensures.no no (rest_of_option c.args.name.now c.in-Some.rest.now c.args.word.now split is)

pub returns-clause-yes : goal.returns-clause-yes
returns-clause-yes c = λ yes.
    let told = strip_prefix_is Decides-eqb c.args.word.now c.args.name.now c.strip_prefix.result c.strip_prefix.ensures.cases in
    let split : c.args.word.now ≡ c.args.name.now ++ c.in-Some.rest.now = subst (λ (r : Option (Bor (List ℕ))). MatchOption r ((rest : List ℕ) → c.args.word.now ≢ c.args.name.now ++ rest) (λ x. c.args.word.now ≡ c.args.name.now ++ x.now)) c.in-Some.is told in
    option_behind c.args.name.now c.in-Some.rest.now c.args.word.now split (c.begins_value.ensures.yes yes)
