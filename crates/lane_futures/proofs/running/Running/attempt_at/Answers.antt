use Rattle.std.proofs.Common.{◌+◌, set, ◌∙◌, refl, arith}
use Rattle.std.proofs.lemmas.List.{length-set}
use Rattle.lane_futures.proofs.Turned.{place_within, room_in_turn, takes_turn, leads_in_turn, fewer_in_turn, adds_turn}
use Rattle.lane_futures.proofs.running.Running.attempt_at.Goals as goal

pub overflow_add-self : goal.overflow_add-self
overflow_add-self g c = omega (arith, place_within _ c.args.self.now c.args.place c.self.view_is c.requires.in_turn, c.self.inside.sessions.ok.0)

pub index_mut-requires : goal.index_mut-requires
index_mut-requires g c = omega (arith, place_within _ c.args.self.now c.args.place c.self.view_is c.requires.in_turn, c.self.inside.sessions.ok.0)

pub attempt-requires-clause-pass : goal.attempt-requires-clause-pass
attempt-requires-clause-pass g c = c.self.invariant.0

pub attempt-requires-clause-room : goal.attempt-requires-clause-room
attempt-requires-clause-room g c = room_in_turn _ c.args.self.now c.args.place c.index_mut.result.now c.self.view_is c.requires.in_turn c.index_mut.ensures.value c.requires.room

pub returns-clause-takes : goal.returns-clause-takes
returns-clause-takes g c =
    takes_turn _ c.args.self.now c.args.place c.index_mut.result.now c.self.view_is c.requires.in_turn c.index_mut.ensures.value _ c.attempt.new.self c.in_ok-attempt.field-0 c.in_ok-attempt.ensures.attempts c.in_ok-attempt.ensures.clock refl refl

pub returns-clause-leads : goal.returns-clause-leads
returns-clause-leads g c =
    leads_in_turn _ c.args.self.now c.args.place c.index_mut.result.now c.self.view_is c.requires.in_turn c.index_mut.ensures.value _ c.attempt.new.self c.in_ok-attempt.ensures.leads refl

pub returns-clause-fewer : goal.returns-clause-fewer
returns-clause-fewer g c =
    fewer_in_turn _ c.args.self.now c.args.place c.index_mut.result.now c.self.view_is c.requires.in_turn c.index_mut.ensures.value
    (record { pass = c.attempt.new.pass; sessions = set c.self.inside.sessions.items c.args.place c.attempt.new.self; next = c.args.place + 1 }) c.attempt.new.self c.in_ok-attempt.ensures.fewer refl

pub returns-clause-adds : goal.returns-clause-adds
returns-clause-adds g c = adds_turn _ c.args.self.now _ c.self.view_is c.attempt.ensures.adds

pub returns-in_err-attempt-clause-adds : goal.returns-in_err-attempt-clause-adds
returns-in_err-attempt-clause-adds g c = adds_turn _ c.args.self.now _ c.self.view_is c.attempt.ensures.adds

pub invariant_of-self : goal.invariant_of-self
invariant_of-self g c =
    let adds = c.attempt.ensures.adds.1 in
    let within = place_within _ c.args.self.now c.args.place c.self.view_is c.requires.in_turn in
    let same = length-set c.self.inside.sessions.items c.args.place c.attempt.new.self in
    (record { same = adds.engine ∙ c.self.invariant.0.same; idle = adds.idle; fixed = c.self.invariant.0.fixed }, omega (arith, within, same, c.self.invariant.1), c.self.invariant.2, omega (arith, same, c.self.invariant.3))

pub invariant_of-self-2 : goal.invariant_of-self-2
invariant_of-self-2 g c =
    let adds = c.attempt.ensures.adds.1 in
    let within = place_within _ c.args.self.now c.args.place c.self.view_is c.requires.in_turn in
    let same = length-set c.self.inside.sessions.items c.args.place c.attempt.new.self in
    (record { same = adds.engine ∙ c.self.invariant.0.same; idle = adds.idle; fixed = c.self.invariant.0.fixed }, omega (arith, within, same, c.self.invariant.1), c.self.invariant.2, omega (arith, same, c.self.invariant.3))
