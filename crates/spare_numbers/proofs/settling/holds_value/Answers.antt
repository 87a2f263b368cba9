use Rattle.std.proofs.Common.{sym, ap, ◌∙◌}
use Rattle.std.specs.Prelude.{option_copied}
use Rattle.spare_numbers.specs.Spare.{holds}
use Rattle.spare_numbers.proofs.Written.{held}
use Rattle.spare_numbers.proofs.settling.holds_value.Goals as goal

pub returns-in-None : goal.returns-in-None
returns-in-None c = sym (ap holds (sym c.value_written.ensures ∙ ap option_copied c.in-None.is))

pub returns-in-Some : goal.returns-in-Some
returns-in-Some c = c.is_some.ensures ∙ held c.in-Some.value.now ∙ sym (ap holds (sym c.value_written.ensures ∙ ap option_copied c.in-Some.is))
