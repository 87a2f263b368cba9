use Rattle.std.proofs.Common.{◌∙◌}
use Rattle.lane_runner.proofs.Tried.{done_then}
use Rattle.lane_runner.proofs.snapping.run_snap.Goals as goal

pub collect-requires : goal.collect-requires
collect-requires g c = let adds = c.in_ok-done.ensures.done.ran.commits.adds in record { pass = (adds.engine ∙ c.requires.pass.same, adds.idle) }

pub returns-clause-done : goal.returns-clause-done
returns-clause-done g c = done_then c.args.block.now c.in_ok-done.done c.args.pass.now c.read_block.new.pass _ c.in_ok-done.ensures.done c.collect.ensures.none
