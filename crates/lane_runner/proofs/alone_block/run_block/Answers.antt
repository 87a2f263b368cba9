use Rattle.std.proofs.Common.{◌≡◌, ◌≤◌, true, false, refl, ap, arith}
use Rattle.txn_engine.specs.Pass.{EngineView}
use Rattle.lane_runner.specs.Blocks.{Commits}
use Rattle.lane_runner.specs.Holding.{Holds, LeavesAfter, IsBehind}
use Rattle.lane_runner.specs.Room.{clock_after}
use Rattle.lane_runner.proofs.Answered.{not_ok, no_value}
use Rattle.lane_runner.proofs.alone_block.run_block.Goals as goal
use Rattle.lane_runner.proofs.alone_block.run_block.Goals.{then-block+in_ok-look_up, else-block+in_ok-stamp}

pub look_up-requires-clause-reads : goal.look_up-requires-clause-reads
look_up-requires-clause-reads c = c.requires.block.may.reads c.if-block.true

pub returns-clause-holds : goal.returns-clause-holds
returns-clause-holds c = elim c.if-block.branch as (λ _. Holds c.if-block.alone.pass) [
  | then-block+in_ok-look_up w ↦ rw w.alone-is w.in_ok-look_up.ensures.holds
  | else-block+in_ok-stamp w ↦ rw w.alone-is w.in_ok-stamp.ensures.holds
]

pub returns-clause-ran : goal.returns-clause-ran
returns-clause-ran c = record {
  commits = elim c.if-block.branch as (λ _. Commits c.args.block.now.commands c.args.alone.now.pass c.if-block.alone.pass (record { stamp = c.if-block.stamp.0; snap = c.args.block.now.snap; lane = c.args.block.now.lane; number = c.args.block.now.number }) c.if-block.stamp.1) [
    | then-block+in_ok-look_up w ↦ rw (w.alone-is, w.stamp-is) (w.in_ok-look_up.ensures.committed _ refl w.if-block.true)
    | else-block+in_ok-stamp w ↦ rw (w.alone-is, w.stamp-is) (w.in_ok-stamp.ensures.committed _ refl w.if-block.false)
  ];
  place = record { snap = refl; lane = refl; number = refl };
}

pub returns-clause-behind : goal.returns-clause-behind
returns-clause-behind c = elim c.if-block.branch as (λ _. c.args.block.now.snap ≡ true → IsBehind c.args.alone.now.pass.log c.if-block.stamp.0) [
  | then-block+in_ok-look_up w ↦ rw w.stamp-is (λ snap. w.in_ok-look_up.ensures.behind)
  | else-block+in_ok-stamp w ↦ λ snap. absurd (let no : c.args.block.now.snap ≡ false = w.if-block.false in cc)
]

pub returns-clause-leaves : goal.returns-clause-leaves
returns-clause-leaves c = elim c.if-block.branch as (λ _. LeavesAfter c.args.block.now.commands c.args.alone.now.pass c.if-block.alone.pass) [
  | then-block+in_ok-look_up w ↦ rw w.alone-is w.in_ok-look_up.ensures.leaves
  | else-block+in_ok-stamp w ↦ rw w.alone-is w.in_ok-stamp.ensures.leaves
]

pub returns-clause-clock : goal.returns-clause-clock
returns-clause-clock c = elim c.if-block.branch as (λ _. c.if-block.alone.pass.clock ≤ clock_after c.args.alone.now.pass.clock 1) [
  | then-block+in_ok-look_up w ↦ rw w.alone-is w.in_ok-look_up.ensures.clock
  | else-block+in_ok-stamp w ↦ rw w.alone-is w.in_ok-stamp.ensures.clock
]

pub look_up-requires-clause-engine : goal.look_up-requires-clause-engine
look_up-requires-clause-engine c = c.requires.pass.same

pub run_commands-requires-clause-pass : goal.run_commands-requires-clause-pass
run_commands-requires-clause-pass c = c.requires.pass

pub look_up-requires-clause-holds : goal.look_up-requires-clause-holds
look_up-requires-clause-holds c = c.requires.holds

pub run_commands-requires-clause-holds : goal.run_commands-requires-clause-holds
run_commands-requires-clause-holds c = c.requires.holds

pub run_commands-requires-clause-places : goal.run_commands-requires-clause-places
run_commands-requires-clause-places c = c.requires.places

pub run_commands-requires-clause-records : goal.run_commands-requires-clause-records
run_commands-requires-clause-records c = c.requires.records

pub look_up-requires-clause-room : goal.look_up-requires-clause-room
look_up-requires-clause-room c = c.requires.room

pub run_commands-requires-clause-room : goal.run_commands-requires-clause-room
run_commands-requires-clause-room c = c.requires.room

pub look_up-requires-clause-commands : goal.look_up-requires-clause-commands
look_up-requires-clause-commands c = c.requires.block.may.commands

pub look_up-requires-clause-short : goal.look_up-requires-clause-short
look_up-requires-clause-short c = c.requires.block.may.short

pub run_commands-requires-clause-commands : goal.run_commands-requires-clause-commands
run_commands-requires-clause-commands c = c.requires.block.may.commands

pub run_commands-requires-clause-short : goal.run_commands-requires-clause-short
run_commands-requires-clause-short c = c.requires.block.may.short

pub run_commands-requires-clause-few : goal.run_commands-requires-clause-few
run_commands-requires-clause-few c = c.requires.block.few

pub look_up-requires-clause-size : goal.look_up-requires-clause-size
look_up-requires-clause-size c =
    let fixed = ap (λ (e : EngineView). e.fixed) c.requires.pass.same in
    let records = ap (λ (e : EngineView). e.size.records) c.requires.pass.same in
    omega (arith, c.requires.pass.fixed, c.requires.records.room, fixed, records)

pub returns-in_err-look_up-clause-holds : goal.returns-in_err-look_up-clause-holds
returns-in_err-look_up-clause-holds c = no_value c.from_residual.result _ c.from_residual.ensures.0

pub returns-in_err-look_up-clause-leaves : goal.returns-in_err-look_up-clause-leaves
returns-in_err-look_up-clause-leaves c = no_value c.from_residual.result _ c.from_residual.ensures.0

pub returns-in_err-look_up-clause-clock : goal.returns-in_err-look_up-clause-clock
returns-in_err-look_up-clause-clock c = no_value c.from_residual.result _ c.from_residual.ensures.0

pub returns-in_err-look_up-clause-ran : goal.returns-in_err-look_up-clause-ran
returns-in_err-look_up-clause-ran c = not_ok c.from_residual.result _ c.from_residual.ensures.0

pub returns-in_err-look_up-clause-behind : goal.returns-in_err-look_up-clause-behind
returns-in_err-look_up-clause-behind c = not_ok c.from_residual.result _ c.from_residual.ensures.0

pub returns-in_err-stamp-clause-holds : goal.returns-in_err-stamp-clause-holds
returns-in_err-stamp-clause-holds c = no_value c.from_residual-in_err-stamp.result _ c.from_residual-in_err-stamp.ensures.0

pub returns-in_err-stamp-clause-leaves : goal.returns-in_err-stamp-clause-leaves
returns-in_err-stamp-clause-leaves c = no_value c.from_residual-in_err-stamp.result _ c.from_residual-in_err-stamp.ensures.0

pub returns-in_err-stamp-clause-clock : goal.returns-in_err-stamp-clause-clock
returns-in_err-stamp-clause-clock c = no_value c.from_residual-in_err-stamp.result _ c.from_residual-in_err-stamp.ensures.0

pub returns-in_err-stamp-clause-ran : goal.returns-in_err-stamp-clause-ran
returns-in_err-stamp-clause-ran c = not_ok c.from_residual-in_err-stamp.result _ c.from_residual-in_err-stamp.ensures.0

pub returns-in_err-stamp-clause-behind : goal.returns-in_err-stamp-clause-behind
returns-in_err-stamp-clause-behind c = not_ok c.from_residual-in_err-stamp.result _ c.from_residual-in_err-stamp.ensures.0
