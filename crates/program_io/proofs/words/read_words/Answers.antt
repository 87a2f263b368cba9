use Rattle.std.proofs.Common.{◌≡◌, ◌∙◌, ap, codes, map, string_bytes, subst, sym, []}
use Rattle.clap.specs.Faults.{is_simple_and_free}
use Rattle.clap.specs.Simple.{is_simple}
use Rattle.clap.specs.Words.{App, fault_of, found_of, matches_of}
use Rattle.program_io.specs.Words.{command, is_clock, AreInRange}
use Rattle.program_io.proofs.GivenSettings.{plain_words}
use Rattle.program_io.proofs.WordLaws.{command-is_simple, command-is_free, differ, first-is, refuses, settings-are, settings-in_range}
use Rattle.program_io.proofs.words.read_words.Goals as goal

pub returns-then-names_clock-clause-accepted : goal.returns-then-names_clock-clause-accepted
returns-then-names_clock-clause-accepted c =
    let words = map string_bytes c.args.words.now in
    let found = found_of c.in-Ok-try_get_matches_from.matches in
    let rows = (c.in-Ok-try_get_matches_from.ensures.matches (ap is_simple c.in-Ok.ensures ∙ command-is_simple)).0 ∙ ap (λ (app : App). matches_of app words) c.in-Ok.ensures in
    record {
      by_command = subst (λ (app : App). fault_of app words ≡ []) c.in-Ok.ensures (c.in-Ok-try_get_matches_from.ensures.kinds (ap is_simple_and_free c.in-Ok.ensures ∙ command-is_free));
      clock = ap is_clock (sym (first-is found words rows (codes "clock"))) ∙ sym c.names_clock.ensures ∙ c.if-names_clock.true;
    }

pub returns-then-names_clock-clause-settings : goal.returns-then-names_clock-clause-settings
returns-then-names_clock-clause-settings c =
    let words = map string_bytes c.args.words.now in
    let found = found_of c.in-Ok-try_get_matches_from.matches in
    let rows = (c.in-Ok-try_get_matches_from.ensures.matches (ap is_simple c.in-Ok.ensures ∙ command-is_simple)).0 ∙ ap (λ (app : App). matches_of app words) c.in-Ok.ensures in
    c.settings_of.ensures ∙ settings-are found words rows

pub returns-then-names_clock-clause-in_range : goal.returns-then-names_clock-clause-in_range
returns-then-names_clock-clause-in_range c =
    let words = map string_bytes c.args.words.now in
    let found = found_of c.in-Ok-try_get_matches_from.matches in
    let rows = (c.in-Ok-try_get_matches_from.ensures.matches (ap is_simple c.in-Ok.ensures ∙ command-is_simple)).0 ∙ ap (λ (app : App). matches_of app words) c.in-Ok.ensures in
    subst AreInRange (sym (c.settings_of.ensures ∙ settings-are found words rows)) (settings-in_range (matches_of command words))

pub returns-clause-refused : goal.returns-clause-refused
returns-clause-refused c =
    let words = map string_bytes c.args.words.now in
    let found = found_of c.in-Ok-try_get_matches_from.matches in
    let rows = (c.in-Ok-try_get_matches_from.ensures.matches (ap is_simple c.in-Ok.ensures ∙ command-is_simple)).0 ∙ ap (λ (app : App). matches_of app words) c.in-Ok.ensures in
    refuses c.unknown_clock.result words (λ accepted. differ _ accepted.clock (ap is_clock (sym (first-is found words rows (codes "clock"))) ∙ sym c.names_clock.ensures ∙ c.if-names_clock.false))

pub returns-in_default-clause-plain_words : goal.returns-in_default-clause-plain_words
returns-in_default-clause-plain_words c = plain_words

pub returns-in-Err-clause-plain_words : goal.returns-in-Err-clause-plain_words
returns-in-Err-clause-plain_words c = plain_words

pub returns-then-names_clock-clause-plain_words : goal.returns-then-names_clock-clause-plain_words
returns-then-names_clock-clause-plain_words c = plain_words

pub returns-clause-plain_words : goal.returns-clause-plain_words
returns-clause-plain_words c = plain_words
