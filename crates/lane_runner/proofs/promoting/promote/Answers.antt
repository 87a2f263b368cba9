use Rattle.std.proofs.Common.{arith}
use Rattle.txn_engine.specs.Pass.{next_clock}
use Rattle.lane_runner.proofs.Granted.{ready_others}
use Rattle.lane_runner.proofs.Promoted.{leaves_promoted}
use Rattle.lane_runner.proofs.promoting.promote.Goals as goal

pub returns-clause-others : goal.returns-clause-others
returns-clause-others c = (leaves_promoted _ c.args.pass.now c.promote-answer.new.self c.args.rid (next_clock c.args.pass.now c.args.reading) c.promote-answer.result c.requires.pass.1 (omega arith) c.promote-answer.ensures.promotes).others

pub returns-clause-refusals : goal.returns-clause-refusals
returns-clause-refusals c = (leaves_promoted _ c.args.pass.now c.promote-answer.new.self c.args.rid (next_clock c.args.pass.now c.args.reading) c.promote-answer.result c.requires.pass.1 (omega arith) c.promote-answer.ensures.promotes).refusals

pub returns-clause-queue : goal.returns-clause-queue
returns-clause-queue c = (leaves_promoted _ c.args.pass.now c.promote-answer.new.self c.args.rid (next_clock c.args.pass.now c.args.reading) c.promote-answer.result c.requires.pass.1 (omega arith) c.promote-answer.ensures.promotes).queue

pub returns-clause-clock : goal.returns-clause-clock
returns-clause-clock c = omega (arith, (leaves_promoted _ c.args.pass.now c.promote-answer.new.self c.args.rid (next_clock c.args.pass.now c.args.reading) c.promote-answer.result c.requires.pass.1 (omega arith) c.promote-answer.ensures.promotes).at_most)

pub returns-clause-ready : goal.returns-clause-ready
returns-clause-ready c =
    let leaves = leaves_promoted _ c.args.pass.now c.promote-answer.new.self c.args.rid (next_clock c.args.pass.now c.args.reading) c.promote-answer.result c.requires.pass.1 (omega arith) c.promote-answer.ensures.promotes in
    ready_others c.args.pass.now c.promote-answer.new.self leaves.others c.promote-answer.ensures.promotes.absent c.promote-answer.ensures.promotes.roomy
