use Rattle.std.proofs.Common.{take_all, subst, arith}
use Rattle.core_rule.specs.Views.{Among}
use Rattle.validate_core.proofs.statuses.store_all.Goals as goal

pub store_first-requires-clause-inside : goal.store_first-requires-clause-inside
store_first-requires-clause-inside g c = λ u h.
    let is = c.count_writes.ensures in
    (c.requires.inside.writes u (subst (Among u) (take_all c.count_writes.result c.args.sets.now.writes (omega arith)) h)).1
