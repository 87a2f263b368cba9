use Rattle.std.proofs.Common.{◌+◌, ◌*◌, ◌<◌, ◌≤◌, subst, ◌∙◌}
use Rattle.txn_engine.specs.Pass.{EngineView}
use Rattle.lane_runner.specs.Finishing.{rests_add, how_many_remain}
use Rattle.lane_runner.proofs.Again.{engine_settled, idle_settled, records_again, Finishes-again, room_settled, clock_settled, never_out, stopped_within, drawn_most, if_ok, on_ok}
use Rattle.lane_runner.proofs.finishing.finish_alone.Goals as goal
use Rattle.lane_runner.proofs.finishing.finish_alone.Goals.{In-Ok}

-- so many draws at most
drawn : (c : In-Ok) → c.settle.new.self.pass.clock ≤ c.args.alone.now.pass.clock + 2 * c.args.engine.now.size.records
drawn c =
    let p = c.args.alone.now.pass in
    let q = c.settle.new.self.pass in
    subst (λ (e : EngineView). q.clock ≤ p.clock + 2 * e.size.records) c.requires.pass.same
    (drawn_most p.clock q.clock _ p.shared.size.records c.in-Ok.ensures.settles.draws c.in-Ok.ensures.settles.done.first.most)

pub unreachable-requires : goal.unreachable-requires
unreachable-requires c =
    let p = c.args.alone.now.pass in
    let q = c.settle.new.self.pass in
    let stops = c.in_default.ensures.settles.stops in
    let within = stopped_within p.post q.post stops in
    never_out p.clock q.clock c.args.engine.now.size.records (how_many_remain c.args.done.items) c.requires.room (subst (λ (e : EngineView). q.clock < p.clock + 2 * e.size.records) c.requires.pass.same within) stops.runs_out.at_end

pub finish_settled-requires-clause-pass : goal.finish_settled-requires-clause-pass
finish_settled-requires-clause-pass c = record {
  same = engine_settled c.args.alone.now.pass c.settle.new.self.pass _ c.settle.ensures.settles ∙ c.requires.pass.same;
  idle = idle_settled c.args.alone.now.pass c.settle.new.self.pass _ c.settle.ensures.settles c.requires.pass.idle;
  fixed = c.requires.pass.fixed;
}

pub finish_settled-requires-clause-records : goal.finish_settled-requires-clause-records
finish_settled-requires-clause-records c = λ lawful. records_again c.args.alone.now.pass c.settle.new.self.pass _ c.settle.ensures.settles c.next_state_is_overlay.ensures lawful (rests_add c.args.done.items) c.requires.records

pub finish_settled-requires-clause-room : goal.finish_settled-requires-clause-room
finish_settled-requires-clause-room c =
    room_settled c.args.alone.now.pass.clock c.settle.new.self.pass.clock c.args.engine.now.size.records (how_many_remain c.args.done.items) (drawn (goal.at.finish_settled-requires-clause-room c).In-Ok) c.requires.room

pub returns-clause-finishes : goal.returns-clause-finishes
returns-clause-finishes c =
    if_ok c.finish_settled.result _ _ (λ results finishes. Finishes-again c.args.alone.now.pass c.settle.new.self.pass _ c.settle.ensures.settles c.finish_settled.new.alone.pass c.args.done.items results.items finishes c.requires.pass.idle) c.finish_settled.ensures.finishes

pub returns-clause-clock : goal.returns-clause-clock
returns-clause-clock c =
    let here = drawn (goal.at.returns-clause-clock c).In-Ok in
    on_ok c.finish_settled.result _ _ (λ more. clock_settled c.args.alone.now.pass.clock c.settle.new.self.pass.clock c.finish_settled.new.alone.pass.clock c.args.engine.now.size.records (how_many_remain c.args.done.items) here more) c.finish_settled.ensures.clock
