use Rattle.std.proofs.Common.{◌*◌, true, false, arith}
use Rattle.std.specs.Prelude.{count_by}
use Rattle.txn_script.specs.Grammar.{counts, commands_in}
use Rattle.input_runner.proofs.Counts.{count_lanes}
use Rattle.input_runner.proofs.Enough.{few_of_run, if_indexed, if_not_indexed}
use Rattle.input_runner.proofs.sizes.for_commands.Goals as goal

pub count_in_lanes-brought-requires : goal.count_in_lanes-brought-requires
count_in_lanes-brought-requires c = let few = (few_of_run c.args.input.now c.args.seats c.requires.within).brought in let is = count_lanes false c.args.input.now.lanes in record { few = omega (arith, few, is) }

pub overflow_mul-rows : goal.overflow_mul-rows
overflow_mul-rows c = let few = (few_of_run c.args.input.now c.args.seats c.requires.within).brought in let is = count_lanes false c.args.input.now.lanes in omega (arith, few, is, c.count_in_lanes-brought.ensures)

pub overflow_mul-brought : goal.overflow_mul-brought
overflow_mul-brought c = let few = (few_of_run c.args.input.now c.args.seats c.requires.within).brought in let is = count_lanes false c.args.input.now.lanes in omega (arith, few, is, c.count_in_lanes-brought.ensures)

pub overflow_add-rows : goal.overflow_add-rows
overflow_add-rows c = let few = (few_of_run c.args.input.now c.args.seats c.requires.within).brought in let is = count_lanes false c.args.input.now.lanes in omega (arith, few, is, c.count_in_lanes-brought.ensures)

pub count_in_lanes-requires : goal.count_in_lanes-requires
count_in_lanes-requires c =
    let few = (few_of_run c.args.input.now c.args.seats c.requires.within).changed (omega (arith, c.if-len-eq0.false, c.len.ensures)) in
    let is = count_lanes true c.args.input.now.lanes in
    record { few = omega (arith, few, is) }

pub overflow_mul-result : goal.overflow_mul-result
overflow_mul-result c =
    let few = (few_of_run c.args.input.now c.args.seats c.requires.within).changed (omega (arith, c.if-len-eq0.false, c.len.ensures)) in
    let is = count_lanes true c.args.input.now.lanes in
    omega (arith, few, is, c.count_in_lanes.ensures)

pub overflow_add-result : goal.overflow_add-result
overflow_add-result c =
    let few = few_of_run c.args.input.now c.args.seats c.requires.within in
    let brought = few.brought in
    let changed = few.changed (omega (arith, c.if-len-eq0.false, c.len.ensures)) in
    let is = count_lanes false c.args.input.now.lanes in
    let is' = count_lanes true c.args.input.now.lanes in
    omega (arith, brought, changed, is, is', c.count_in_lanes.ensures, c.count_in_lanes-brought.ensures)

pub returns-then-len-eq0 : goal.returns-then-len-eq0
returns-then-len-eq0 c =
    let none = if_not_indexed c.args.input.now.indexes (3 * count_by (counts true) (commands_in c.args.input.now.lanes)) 0 (omega (arith, c.if-len-eq0.true, c.len.ensures)) in
    let is = count_lanes false c.args.input.now.lanes in
    record { value = omega (arith, none, is, c.count_in_lanes-brought.ensures) }

pub returns-else-len-eq0 : goal.returns-else-len-eq0
returns-else-len-eq0 c =
    let some = if_indexed c.args.input.now.indexes (3 * count_by (counts true) (commands_in c.args.input.now.lanes)) 0 (omega (arith, c.if-len-eq0.false, c.len.ensures)) in
    let is = count_lanes false c.args.input.now.lanes in
    let is' = count_lanes true c.args.input.now.lanes in
    record { value = omega (arith, some, is, is', c.count_in_lanes.ensures, c.count_in_lanes-brought.ensures) }
