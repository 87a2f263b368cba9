use Rattle.std.proofs.Common.{ℕ, List, ap, ◌∙◌}
use Rattle.spare_numbers.specs.Spare.{NumbersView, taken_in}
use Rattle.spare_numbers.proofs.numbers.Numbers.add.Goals as goal

pub returns : goal.returns
returns c = let n : NumbersView = c.args.self.now in c.take_in.ensures ∙ ap (λ (given : List ℕ). record n { spare = taken_in given n.spare c.args.rid }) c.requires.none
