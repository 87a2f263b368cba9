use Rattle.core_rule.specs.Kinds.{meet_cell}
use Rattle.core_rule.proofs.shared.Core.meet_cell.Given as goal

abbrev pub ghosts-load : goal.ghosts-load
ghosts-load g a = record { kind = meet_cell a._of.now }
