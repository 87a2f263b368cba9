use Rattle.std.proofs.Common.{arith}
use Rattle.input_runner.proofs.Enough.{few_of_run}
use Rattle.input_runner.proofs.sizes.sizes_of.Goals as goal

pub overflow_add-records : goal.overflow_add-records
overflow_add-records c = let few = (few_of_run c.args.input.now c.args.seats c.requires.within).records in omega (arith, few, c.for_rows.ensures, c.for_commands.ensures)

pub overflow_add-records-2 : goal.overflow_add-records-2
overflow_add-records-2 c = let few = (few_of_run c.args.input.now c.args.seats c.requires.within).records in omega (arith, few, c.for_rows.ensures, c.for_commands.ensures)

pub overflow_add-result : goal.overflow_add-result
overflow_add-result c = let few = (few_of_run c.args.input.now c.args.seats c.requires.within).records in omega (arith, few, c.for_rows.ensures, c.for_commands.ensures, c.for_seats.ensures.few)

pub overflow_add-result-2 : goal.overflow_add-result-2
overflow_add-result-2 c = let few = (few_of_run c.args.input.now c.args.seats c.requires.within).records in omega (arith, few, c.for_rows.ensures, c.for_commands.ensures, c.for_seats.ensures.few)
