use Rattle.std.proofs.Common.{List, ◌∷◌, sym, ap, ◌∙◌}
use Rattle.lane_threads.specs.Workers.{MayBegin, HasRoomBeside}
use Rattle.lane_threads.specs.declared.workers.Worker.{Worker}
use Rattle.lane_threads.proofs.Gathered.{first_is, of_first, of_others, workers_gather}
use Rattle.lane_threads.proofs.all.run_workers.Goals as goal

pub run_beside-left-requires-clause-first : goal.run_beside-left-requires-clause-first
run_beside-left-requires-clause-first g c κs within = of_first (MayBegin c.args.engine.now c.args.queue.now c.args.tries) c.args.workers.items c.pop.new.self.items c.in-Some.first c.requires.some (sym c.in_ok-others.ensures.items ∙ c.in-Some.ensures.items) c.requires.begin

pub run_beside-left-requires-clause-others : goal.run_beside-left-requires-clause-others
run_beside-left-requires-clause-others g c κs within = of_others (MayBegin c.args.engine.now c.args.queue.now c.args.tries) c.args.workers.items c.in_ok-others.others.items c.in_ok-others.ensures.tail c.requires.begin

pub run_beside-left-requires-clause-room : goal.run_beside-left-requires-clause-room
run_beside-left-requires-clause-room g c κs within =
    of_first (HasRoomBeside (g.L.LaneRun.may_read c.args.reader) c.args.tries) c.args.workers.items c.pop.new.self.items c.in-Some.first c.requires.some (sym c.in_ok-others.ensures.items ∙ c.in-Some.ensures.items) c.requires.room

pub returns : goal.returns
returns g c =
    let is = first_is c.args.workers.items c.pop.new.self.items c.in-Some.first c.requires.some (sym c.in_ok-others.ensures.items ∙ c.in-Some.ensures.items) in
    workers_gather c.args.engine.now c.args.queue.now c.args.tries (g.L.LaneRun.may_read c.args.reader) c.args.workers.items c.in-Some.first c.in_ok-others.others.items c.run_beside-left.result.1.0 c.in_ok-left.field-0.items c.in_ok-start_gathering.field-0 c.in_ok-gathered.gathered (g.L.LaneRun.has_read c.run_beside-left.result.1.1)
    (is ∙ ap (λ (ws : List (Worker g.row.C.Denot)). c.in-Some.first ∷ ws) (sym c.in_ok-others.ensures.tail)) c.requires.begin c.run_beside-left.ensures.first c.in_ok-start_gathering.ensures (rw c.in_ok-left.was at c.run_beside-left.ensures.others) c.in_ok-gathered.ensures
