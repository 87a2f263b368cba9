use Rattle.core_rule.specs.Kinds.{look_at}
use Rattle.core_rule.proofs.shared.Core.look_at.Given as goal

abbrev pub ghosts-load : goal.ghosts-load
ghosts-load g a = record { kind = look_at a._of.now }
