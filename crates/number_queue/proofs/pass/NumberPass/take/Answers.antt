use Rattle.std.proofs.Common.{rules, refl}
use Rattle.number_queue.specs.Passes.TakesFor.{had, came, waits, came_early, came_foreign, none_came}
use Rattle.number_queue.proofs.pass.NumberPass.take.Goals as goal

pub returns-then-number-stamp-clause-takes : goal.returns-then-number-stamp-clause-takes
returns-then-number-stamp-clause-takes c = had c.in-Some.number (search rules) (search rules) (search rules) (search rules) refl

pub returns-in-Some-clause-takes : goal.returns-in-Some-clause-takes
returns-in-Some-clause-takes c = waits c.in-Some.number (search rules) (search rules) (search rules) refl

pub returns-in_default-next-clause-takes : goal.returns-in_default-next-clause-takes
returns-in_default-next-clause-takes c = none_came (search rules) (search rules) refl

pub returns-then-number-self-clause-takes : goal.returns-then-number-self-clause-takes
returns-then-number-self-clause-takes c = came_foreign c.in-Some-next.number (search rules) (search rules) (search rules) refl

pub returns-then-number-stamp-2-clause-takes : goal.returns-then-number-stamp-2-clause-takes
returns-then-number-stamp-2-clause-takes c = came c.in-Some-next.number (search rules) (search rules) (search rules) (search rules) refl

pub returns-clause-takes : goal.returns-clause-takes
returns-clause-takes c = came_early c.in-Some-next.number (search rules) (search rules) (search rules) (search rules) refl
