-- Plain words ask for what their options say: from the rows of what was found to the settings.
use Rattle.std.proofs.Common.{◌≡◌, ◌∙◌, Bool, true, false, cond, List, [], ◌∷◌, ◌++◌, map, All, Option, Some, None, codes, refl, sym, ap, ap₂, subst, arith}
use Rattle.std.specs.Prelude.{◌||◌, find, fold, is_some, option_and_then, slice_get, unwrap_or}
use Rattle.std.specs.List.{list_any}
use Rattle.std.specs.Str.{bytes_eq}
use Rattle.std.proofs.lemmas.List.Elements.{All-head, All-tail}
use Rattle.clap.specs.Faults.{check_fault, defaults_fault, entered_fault, fault_of, given_default_fault, settle_fault}
use Rattle.clap.specs.Kinds.{Kinds, or_else}
use Rattle.clap.specs.Simple.{built, entered, filled, help_rule}
use Rattle.clap.specs.Walk.{Walk, default_rows, finished, has_row, is_empty, more_values, reading_by, row_text, settled, with_default}
use Rattle.clap.specs.Words.{Row, Rule, Text, first_of, matches_of, one_of}
use Rattle.clap.specs.declared.builder.value_parser.Reading.TheVariants.{AsWritten}
use Rattle.clap.specs.declared.parser.matches.ValueSource.TheVariants.{DefaultValue}
use Rattle.clap.proofs.OnLiterals.{clap_on_literals}
use Rattle.program_io.specs.declared.mode.Settings.{Settings}
use Rattle.program_io.specs.Words.{Given, workers, tries, clock, gen, check, worker_counts, try_counts, seeds, workers_rule, tries_rule, clock_rule, seed_rule, check_rule, command, is_clock, is_word, number_in, settings_by, settings_in, settings_of, AreAccepted, IsInRange, workers_by, tries_by, seed_by, clock_by, is_check, given_by, settings_given, IsPlainly}
use Rattle.program_io.proofs.WordLaws.{decimal-is}
use Rattle.program_io.proofs.PlainWords.{top, rules, between, or_parts, at_row-fresh, found, are_new, Reaches, reaches}

-- ---- what is found of options

-- the number that an option gave, where it is one of those that have it
workers-found : (options : List Given) → All IsInRange options → option_and_then (number_in worker_counts) (one_of (codes "workers") (map found options)) ≡ given_by workers_by options
workers-found [] within = refl
workers-found (workers n ∷ os) within = let is = All-head IsInRange (workers n) os within in decimal-is 1 64 n is.0 is.1 (omega (arith, is.1))
workers-found (tries n ∷ os) within = workers-found os (All-tail IsInRange (tries n) os within)
workers-found (clock real ∷ os) within = workers-found os (All-tail IsInRange (clock real) os within)
workers-found (gen seed ∷ os) within = workers-found os (All-tail IsInRange (gen seed) os within)
workers-found (check ∷ os) within = workers-found os (All-tail IsInRange check os within)

tries-found : (options : List Given) → All IsInRange options → option_and_then (number_in try_counts) (one_of (codes "tries") (map found options)) ≡ given_by tries_by options
tries-found [] within = refl
tries-found (workers n ∷ os) within = tries-found os (All-tail IsInRange (workers n) os within)
tries-found (tries n ∷ os) within = let is = All-head IsInRange (tries n) os within in decimal-is 1 1000 n is.0 is.1 (omega (arith, is.1))
tries-found (clock real ∷ os) within = tries-found os (All-tail IsInRange (clock real) os within)
tries-found (gen seed ∷ os) within = tries-found os (All-tail IsInRange (gen seed) os within)
tries-found (check ∷ os) within = tries-found os (All-tail IsInRange check os within)

seed-found : (options : List Given) → All IsInRange options → option_and_then (number_in seeds) (one_of (codes "gen") (map found options)) ≡ given_by seed_by options
seed-found [] within = refl
seed-found (workers n ∷ os) within = seed-found os (All-tail IsInRange (workers n) os within)
seed-found (tries n ∷ os) within = seed-found os (All-tail IsInRange (tries n) os within)
seed-found (clock real ∷ os) within = seed-found os (All-tail IsInRange (clock real) os within)
seed-found (gen seed ∷ os) within = let is = All-head IsInRange (gen seed) os within in decimal-is 0 18446744073709551615 seed (omega arith) (omega (arith, is)) is
seed-found (check ∷ os) within = seed-found os (All-tail IsInRange check os within)

clock-found : (options : List Given) → is_word (codes "real") (first_of (codes "clock") (map found options)) ≡ unwrap_or (given_by clock_by options) false
clock-found [] = refl
clock-found (workers n ∷ os) = clock-found os
clock-found (tries n ∷ os) = clock-found os
clock-found (clock true ∷ os) = refl
clock-found (clock false ∷ os) = refl
clock-found (gen seed ∷ os) = clock-found os
clock-found (check ∷ os) = clock-found os

clock-named : (options : List Given) → is_clock (first_of (codes "clock") (map found options)) ≡ true
clock-named [] = refl
clock-named (workers n ∷ os) = clock-named os
clock-named (tries n ∷ os) = clock-named os
clock-named (clock true ∷ os) = refl
clock-named (clock false ∷ os) = refl
clock-named (gen seed ∷ os) = clock-named os
clock-named (check ∷ os) = clock-named os

check-found : (options : List Given) → is_word (codes "true") (first_of (codes "check") (map found options)) ≡ list_any is_check options
check-found [] = refl
check-found (workers n ∷ os) = check-found os
check-found (tries n ∷ os) = check-found os
check-found (clock real ∷ os) = check-found os
check-found (gen seed ∷ os) = check-found os
check-found (check ∷ os) = refl

-- ---- the default of a flag

-- the row of a check that was not asked for
abbrev unchecked : Row
unchecked = record { id = codes "check"; values = codes "false" ∷ []; count = None; source = Some DefaultValue; reading = AsWritten }

-- the rows with the default of `--check`
abbrev closed : List Row → List Row
closed rows = with_default rows (filled check_rule)

find-push : {X : Type 0} (p : X → Bool) (xs : List X) (x : X) → p x ≡ false → find p (xs ++ x ∷ []) ≡ find p xs
find-push p [] x e = ap (λ (b : Bool). cond b (Some x) None) e
find-push p (y ∷ ys) x e = ap (cond (p y) (Some y)) (find-push p ys x e)

find-last : {X : Type 0} (p : X → Bool) (xs : List X) (x : X) → list_any p xs ≡ false → p x ≡ true → find p (xs ++ x ∷ []) ≡ Some x
find-last p [] x none e = ap (λ (b : Bool). cond b (Some x) None) e
find-last p (y ∷ ys) x none e =
    let parts = or_parts (p y) (list_any p ys) none in
    ap (λ (b : Bool). cond b (Some y) (find p (ys ++ x ∷ []))) parts.0 ∙ find-last p ys x parts.1 e

find-none : {X : Type 0} (p : X → Bool) (xs : List X) → list_any p xs ≡ false → find p xs ≡ None
find-none p [] none = refl
find-none p (y ∷ ys) none =
    let parts = or_parts (p y) (list_any p ys) none in
    ap (λ (b : Bool). cond b (Some y) (find p ys)) parts.0 ∙ find-none p ys parts.1

-- the default stands at the end, or a check was asked for
closed-cases : (C : List Row → Type 0) (rows : List Row) → (has_row (codes "check") rows ≡ true → C rows) → (has_row (codes "check") rows ≡ false → C (rows ++ unchecked ∷ [])) → C (closed rows)
closed-cases C rows there new = go (has_row (codes "check") rows) refl
  where
    go : (b : Bool) → has_row (codes "check") rows ≡ b → C (closed rows)
    go true e = subst C (sym (ap (λ (b : Bool). cond b rows (default_rows (codes "check") AsWritten (codes "false" ∷ []) rows)) e)) (there e)
    go false e =
        subst C (sym (ap (λ (b : Bool). cond b rows (default_rows (codes "check") AsWritten (codes "false" ∷ []) rows)) e ∙ at_row-fresh (codes "check") (more_values DefaultValue (codes "false" ∷ [])) (unchecked ∷ []) rows e)) (new e)

-- another option is found as before
other-found : (name : Text) (rows : List Row) → bytes_eq (codes "check") name ≡ false → find (λ r. bytes_eq r.id name) (closed rows) ≡ find (λ r. bytes_eq r.id name) rows
other-found name rows other =
    closed-cases (λ all. find (λ r. bytes_eq r.id name) all ≡ find (λ r. bytes_eq r.id name) rows) rows (λ e. refl) (λ e. find-push (λ (r : Row). bytes_eq r.id name) rows unchecked other)

check-closed : (rows : List Row) → is_word (codes "true") (first_of (codes "check") (closed rows)) ≡ is_word (codes "true") (first_of (codes "check") rows)
check-closed rows =
    closed-cases (λ all. is_word (codes "true") (first_of (codes "check") all) ≡ is_word (codes "true") (first_of (codes "check") rows)) rows (λ e. refl)
    (λ e. ap (λ (o : Option Row). is_word (codes "true") (option_and_then (λ r. slice_get r.values 0) o)) (find-last (λ (r : Row). bytes_eq r.id (codes "check")) rows unchecked e refl)
    ∙ ap (λ (o : Option Row). is_word (codes "true") (option_and_then (λ r. slice_get r.values 0) o)) (sym (find-none (λ (r : Row). bytes_eq r.id (codes "check")) rows e)))

-- ---- the end of the words

same_both : {X : Type 0} (b : Bool) (x : X) → cond b x x ≡ x
same_both true x = refl
same_both false x = refl

-- an argument without default values adds nothing
no-default : (rows : List Row) (a : Rule) → a.defaults ≡ [] → with_default rows a ≡ rows
no-default rows a e = ap (λ (ds : List Text). cond (has_row a.id rows) rows (default_rows a.id (reading_by a) ds rows)) e ∙ same_both (has_row a.id rows) rows

finished-rows : (rows : List Row) → fold with_default rows rules ≡ closed rows
finished-rows rows =
    ap (λ (x : List Row). fold with_default x (filled tries_rule ∷ filled clock_rule ∷ filled seed_rule ∷ filled check_rule ∷ filled help_rule ∷ [])) (no-default rows (filled workers_rule) refl)
    ∙ ap (λ (x : List Row). fold with_default x (filled clock_rule ∷ filled seed_rule ∷ filled check_rule ∷ filled help_rule ∷ [])) (no-default rows (filled tries_rule) refl)
    ∙ ap (λ (x : List Row). fold with_default x (filled seed_rule ∷ filled check_rule ∷ filled help_rule ∷ [])) (no-default rows (filled clock_rule) refl)
    ∙ ap (λ (x : List Row). fold with_default x (filled check_rule ∷ filled help_rule ∷ [])) (no-default rows (filled seed_rule) refl)
    ∙ no-default (closed rows) (filled help_rule) refl

no-fault : (rows : List Row) (a : Rule) (rest : List Rule) → a.defaults ≡ [] → defaults_fault rows (a ∷ rest) ≡ defaults_fault rows rest
unfolding clap_on_literals
no-fault rows a rest e =
    ap (λ (ds : List Text). or_else (cond (has_row a.id rows || is_empty ds) [] (given_default_fault a ds)) (defaults_fault (with_default rows a) rest)) e
    ∙ ap (λ (b : Bool). or_else (cond b [] (given_default_fault a [])) (defaults_fault (with_default rows a) rest)) (or_true (has_row a.id rows))
    ∙ ap (λ (x : List Row). defaults_fault x rest) (no-default rows a e)
  where
    or_true : (b : Bool) → (b || true) ≡ true
    or_true true = refl
    or_true false = refl

check-default : (rows : List Row) (rest : List Rule) → defaults_fault rows (filled check_rule ∷ rest) ≡ defaults_fault (closed rows) rest
unfolding clap_on_literals
check-default rows rest = go (has_row (codes "check") rows || false)
  where
    go : (b : Bool) → or_else (cond b [] (given_default_fault (filled check_rule) (codes "false" ∷ []))) (defaults_fault (closed rows) rest) ≡ defaults_fault (closed rows) rest
    go true = refl
    go false = refl

no-faults : (rows : List Row) → defaults_fault rows rules ≡ []
unfolding clap_on_literals
no-faults rows =
    no-fault rows (filled workers_rule) (filled tries_rule ∷ filled clock_rule ∷ filled seed_rule ∷ filled check_rule ∷ filled help_rule ∷ []) refl
    ∙ no-fault rows (filled tries_rule) (filled clock_rule ∷ filled seed_rule ∷ filled check_rule ∷ filled help_rule ∷ []) refl
    ∙ no-fault rows (filled clock_rule) (filled seed_rule ∷ filled check_rule ∷ filled help_rule ∷ []) refl
    ∙ no-fault rows (filled seed_rule) (filled check_rule ∷ filled help_rule ∷ []) refl
    ∙ check-default rows (filled help_rule ∷ []) ∙ no-fault (closed rows) (filled help_rule) [] refl

-- what the command says against words, by where the walk over them ends and what is wrong on the way
abbrev said : Walk → Kinds → Kinds
said w faults =
    or_else faults
    (or_else (entered_fault (built command) w.stopped)
    (or_else (settle_fault rules false w.held) (or_else (defaults_fault (settled rules w.held).rows rules) (check_fault top (finished rules w.held) (is_some (entered (built command) w.stopped))))))

module _ (words : List Text) (options : List Given) (end : Reaches words options (between [] None)) where
  accepts-them : fault_of command words ≡ []
  accepts-them =
      ap₂ said end.walks end.faults
      ∙ ap (λ (k : Kinds). or_else k (or_else (defaults_fault (settled rules (between end.rows end.pending).held).rows rules) (check_fault top (finished rules (between end.rows end.pending).held) false))) end.settles
      ∙ ap (λ (k : Kinds). or_else k (check_fault top (finished rules (between end.rows end.pending).held) false)) (no-faults (settled rules (between end.rows end.pending).held).rows)

  rows-are : matches_of command words ≡ closed (map found options)
  rows-are = ap (λ (w : Walk). finished rules w.held) end.walks ∙ ap (λ (rows : List Row). fold with_default rows rules) end.settled ∙ finished-rows (map found options)

settings-closed : (options : List Given) → All IsInRange options → settings_in (closed (map found options)) ≡ settings_given options
settings-closed options within =
    let rows = map found options in
    let first : Option Row → Option Text = option_and_then (λ (r : Row). slice_get r.values 0) in
    let one : Option Row → Option Text = option_and_then row_text in
    let check_is = check-closed rows ∙ check-found options in
    let seed_is = ap (λ (o : Option Row). option_and_then (number_in seeds) (one o)) (other-found (codes "gen") rows refl) ∙ seed-found options within in
    let workers_is = ap (λ (o : Option Row). option_and_then (number_in worker_counts) (one o)) (other-found (codes "workers") rows refl) ∙ workers-found options within in
    let tries_is = ap (λ (o : Option Row). option_and_then (number_in try_counts) (one o)) (other-found (codes "tries") rows refl) ∙ tries-found options within in
    let clock_is = ap (λ (o : Option Row). is_word (codes "real") (first o)) (other-found (codes "clock") rows refl) ∙ clock-found options in
    λ i. settings_by (check_is i) (seed_is i) (workers_is i) (tries_is i) (clock_is i)

clock-closed : (options : List Given) → is_clock (first_of (codes "clock") (closed (map found options))) ≡ true
clock-closed options =
    ap (λ (o : Option Row). is_clock (option_and_then (λ (r : Row). slice_get r.values 0) o)) (other-found (codes "clock") (map found options) refl) ∙ clock-named options

-- words that are accepted whatever else is, and what they ask for
pub plain_words : (given : List Text) (settings : Settings) → IsPlainly given settings → AreAccepted given × (settings_of given ≡ settings)
plain_words given settings plain =
    let options = plain.0 in
    let are = plain.1 in
    let end = subst (λ (words : List Text). Reaches words options (between [] None)) (sym are.spelling) (reaches options [] [] None refl refl (are_new [] options are.once) are.in_range) in
    let rows = rows-are given options end in (
      record { by_command = accepts-them given options end; clock = ap (λ (found_rows : List Row). is_clock (first_of (codes "clock") found_rows)) rows ∙ clock-closed options },
      ap settings_in rows ∙ settings-closed options are.in_range ∙ sym plain.2,
    )
