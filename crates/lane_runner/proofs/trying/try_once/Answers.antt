use Rattle.std.proofs.Common.{Option, IsSome, sym, subst}
use Rattle.txn_engine.specs.Pass.{PassView}
use Rattle.lane_runner.specs.declared.done.BlockDone.{BlockDone}
use Rattle.lane_runner.specs.Ending.{ran}
use Rattle.lane_runner.specs.Blocks.{IsTried}
use Rattle.lane_runner.specs.Ready.{IsReady}
use Rattle.lane_runner.proofs.Granted.{granted_once}
use Rattle.lane_runner.proofs.Tried.{idle_tried, refused_if, tried_then}
use Rattle.lane_runner.proofs.trying.try_once.Goals as goal

pub collect-requires : goal.collect-requires
collect-requires g c = record { pass = idle_tried c.args.engine.now c.args.block.now (ran c.in_ok-answer.answer) c.args.pass.now c.try_txn.new.pass c.requires.pass c.in_ok-answer.ensures.tried }

pub hear_refusal-requires : goal.hear_refusal-requires
hear_refusal-requires g c =
    let collected = tried_then c.args.block.now (ran c.in_ok-answer.answer) c.args.pass.now c.try_txn.new.pass c.collect.new.pass c.in_ok-answer.ensures.tried c.collect.ensures.none in
    record { pass = idle_tried c.args.engine.now c.args.block.now (ran c.in_ok-answer.answer) c.args.pass.now c.collect.new.pass c.requires.pass collected }

pub returns-clause-tried : goal.returns-clause-tried
returns-clause-tried g c =
    let collected = tried_then c.args.block.now (ran c.in_ok-answer.answer) c.args.pass.now c.try_txn.new.pass c.collect.new.pass c.in_ok-answer.ensures.tried c.collect.ensures.none in
    let heard = tried_then c.args.block.now (ran c.in_ok-answer.answer) c.args.pass.now c.collect.new.pass c.hear_refusal.new.pass collected c.hear_refusal.ensures.none in
    subst (λ (answer : Option BlockDone). IsTried c.args.block.now c.args.pass.now c.hear_refusal.new.pass answer) (sym c.hear_refusal.ensures.same) heard

pub returns-clause-granted : goal.returns-clause-granted
returns-clause-granted g c = λ more ample.
    let e = c.in_ok-answer.ensures in
    let granted = granted_once (ran c.in_ok-answer.answer) c.args.pass.now c.try_txn.new.pass c.collect.new.pass ample.ready (λ lawful. e.granted lawful more ample) (refused_if c.args.block.now (ran c.in_ok-answer.answer) c.args.pass.now c.try_txn.new.pass e.tried) e.ready c.collect.ensures.lawful c.collect.ensures.ready in
    let ready = subst (λ (p : PassView). IsReady p) (sym (c.hear_refusal.ensures.done granted.0)) granted.1 in
    (subst (λ (answer : Option BlockDone). IsSome answer) (sym c.hear_refusal.ensures.same) granted.0, ready)
