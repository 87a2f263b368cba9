use Rattle.std.proofs.Common.{rules, ◌≡◌, ◌+◌, ◌<◌, List, ◌∷◌, ◌++◌, reverse, refl, sym, ap, subst, ◌∙◌, arith}
use Rattle.std.specs.Prelude.{IfSome}
use Rattle.replay_model.specs.declared.input.Block.{Block}
use Rattle.txn_engine.specs.Pass.{EngineView}
use Rattle.lane_runner.specs.Blocks.{IsDone}
use Rattle.lane_runner.specs.Session.{SessionView, GivesOutcome}
use Rattle.lane_runner.proofs.Attempted.{leads_none, leads_again, tries_again, leads_outcome, tries_outcome, room_for_try}
use Rattle.lane_runner.proofs.Granted.{some_is, ample_next}
use Rattle.lane_runner.proofs.Run.{adds_done}
use Rattle.lane_runner.proofs.NextBlock.{has_next, left_behind, left_may, ample_left, session_given, gives_outcome, left_is}
use Rattle.lane_runner.proofs.session.Session.attempt.Goals.{After-promote_in_turn}
use Rattle.lane_runner.proofs.session.Session.attempt.Goals as goal

pub try_block-requires-clause-room : goal.try_block-requires-clause-room
try_block-requires-clause-room g c =
    let next = c.in-Some.ensures.some in
    omega (arith, room_for_try c.args.self.now c.args.pass.now.clock (has_next c.args.self.now c.in-Some.block.now next.0 next.1) c.requires.room)

pub promote_in_turn-requires-clause-room : goal.promote_in_turn-requires-clause-room
promote_in_turn-requires-clause-room g c =
    let next = c.in-Some.ensures.some in
    omega (arith, room_for_try c.args.self.now c.args.pass.now.clock (has_next c.args.self.now c.in-Some.block.now next.0 next.1) c.requires.room, c.try_block.ensures.clock)

pub returns-in_default-clause-leads : goal.returns-in_default-clause-leads
returns-in_default-clause-leads g c = leads_none c.args.pass.now c.args.self.now c.requires.pass.idle

pub returns-in_default-2-clause-leads : goal.returns-in_default-2-clause-leads
returns-in_default-2-clause-leads g c =
    let next = c.in-Some.ensures.some in
    leads_again c.args.pass.now c.try_block.new.pass c.args.self.now _ (record { had_block = has_next c.args.self.now c.in-Some.block.now next.0 next.1; session_is = search rules; refused = search rules }) c.try_block.ensures.clock

pub returns-in_default-2-clause-fewer : goal.returns-in_default-2-clause-fewer
returns-in_default-2-clause-fewer g c = λ some.
    tries_again c.args.pass.now c.try_block.new.pass c.args.self.now
    (record { lane = c.self.inside.lane; tries = c.self.inside.tries; results = c.self.inside.results; left = reverse c.self.inside.blocks.items; refused = c.self.inside.refused + 1 })
    (record { had_block = some; session_is = search rules; refused = search rules })

pub returns-in_default-2-clause-granted : goal.returns-in_default-2-clause-granted
returns-in_default-2-clause-granted g c = λ none tried more ample.
    let next = c.in-Some.ensures.some in
    absurd (some_is c.in_ok-done.field-0 c.in_default-2.not-Some
    (c.in_ok-done.ensures.granted (ap (λ (s : SessionView). s.refused) c.self.view_is ∙ none) (next.0 ++ more) (ample_left c.args.self.now c.args.pass.now c.in-Some.block.now next.0 more none tried next.1 ample)).0)

pub invariant_of-self-2 : goal.invariant_of-self-2
invariant_of-self-2 g c =
    let next = c.in-Some.ensures.some in
    let back : reverse c.self.inside.blocks.items ≡ c.in-Some.block.now ∷ next.0 = left_is c.args.self.now c.self.inside.blocks.items c.in-Some.block.now next.0 (sym (ap (λ (s : SessionView). s.left) c.self.view_is)) next.1 in
    (omega arith, left_may c.self.inside.blocks.items c.in-Some.block.now next.0 (reverse c.pop.new.self.items) c.self.invariant.1 back (left_behind c.self.inside.blocks.items c.pop.new.self.items _ c.in-Some.block.now next.0 c.self.inside.blocks.ok.0 c.pop.ensures.rest back))

-- ---- it has its outcome

-- the session then
abbrev given : (g : _) → After-promote_in_turn g → SessionView
given g c = record { lane = c.self.inside.lane; tries = c.self.inside.tries; results = c.push.new.self; left = reverse c.pop.new.self.items; refused = 0 }

gives : (g : _) (c : After-promote_in_turn g) → GivesOutcome c.args.self.now (given g c) c.args.pass.now c.promote_in_turn.new.pass
gives g c =
    let next = c.in-Some.ensures.some in
    let back : reverse c.self.inside.blocks.items ≡ c.in-Some.block.now ∷ next.0 = left_is c.args.self.now c.self.inside.blocks.items c.in-Some.block.now next.0 (sym (ap (λ (s : SessionView). s.left) c.self.view_is)) next.1 in
    let behind : reverse c.pop.new.self.items ≡ next.0 = left_behind c.self.inside.blocks.items c.pop.new.self.items _ c.in-Some.block.now next.0 c.self.inside.blocks.ok.0 c.pop.ensures.rest back in
    let done : IsDone c.in-Some.block.now c.args.pass.now c.try_block.new.pass c.in-Some-2.done = rw c.in-Some-2.is at c.in_ok-done.ensures.tried in
    gives_outcome c.args.self.now (given g c) c.args.pass.now c.try_block.new.pass c.promote_in_turn.new.pass c.in-Some.block.now (reverse c.pop.new.self.items) c.in-Some-2.done.placed c.in-Some-2.done.outcome
    (next.1 ∙ ap (λ (xs : List Block). c.in-Some.block.now ∷ xs) (sym behind))
    (session_given c.args.self.now _ c.push.new.self (c.in-Some-2.done.placed, c.in-Some-2.done.outcome) (reverse c.pop.new.self.items) (sym c.self.view_is) c.in_ok-push.ensures.ok)
    done.ran c.promote_in_turn.ensures.others (omega (arith, done.once.once, c.promote_in_turn.ensures.refusals))

pub returns-clause-attempts : goal.returns-clause-attempts
returns-clause-attempts g c = gives g (goal.at.returns-clause-attempts g c).After-promote_in_turn

pub returns-clause-leads : goal.returns-clause-leads
returns-clause-leads g c =
    let at = (goal.at.returns-clause-leads g c).After-promote_in_turn in
    leads_outcome c.args.pass.now c.promote_in_turn.new.pass c.args.self.now (given g at) (gives g at) (omega (arith, c.try_block.ensures.clock, c.promote_in_turn.ensures.clock))

pub returns-clause-fewer : goal.returns-clause-fewer
returns-clause-fewer g c = λ some.
    let at = (goal.at.returns-clause-fewer g c).After-promote_in_turn in
    tries_outcome c.args.pass.now c.promote_in_turn.new.pass c.args.self.now (given g at) (gives g at)

pub returns-clause-adds : goal.returns-clause-adds
returns-clause-adds g c =
    let done : IsDone c.in-Some.block.now c.args.pass.now c.try_block.new.pass c.in-Some-2.done = rw c.in-Some-2.is at c.in_ok-done.ensures.tried in
    adds_done c.in-Some.block.now.commands c.in-Some-2.done.placed c.in-Some-2.done.outcome c.args.pass.now c.try_block.new.pass c.promote_in_turn.new.pass done.ran.commits c.promote_in_turn.ensures.others

pub returns-clause-granted : goal.returns-clause-granted
returns-clause-granted g c = λ none tried more ample.
    let next = c.in-Some.ensures.some in
    let back : reverse c.self.inside.blocks.items ≡ c.in-Some.block.now ∷ next.0 = left_is c.args.self.now c.self.inside.blocks.items c.in-Some.block.now next.0 (sym (ap (λ (s : SessionView). s.left) c.self.view_is)) next.1 in
    let behind : reverse c.pop.new.self.items ≡ next.0 = left_behind c.self.inside.blocks.items c.pop.new.self.items _ c.in-Some.block.now next.0 c.self.inside.blocks.ok.0 c.pop.ensures.rest back in
    let done : IsDone c.in-Some.block.now c.args.pass.now c.try_block.new.pass c.in-Some-2.done = rw c.in-Some-2.is at c.in_ok-done.ensures.tried in
    let here = ample_left c.args.self.now c.args.pass.now c.in-Some.block.now (reverse c.pop.new.self.items) more none tried (next.1 ∙ ap (λ (xs : List Block). c.in-Some.block.now ∷ xs) (sym behind)) ample in
    let granted = c.in_ok-done.ensures.granted (ap (λ (s : SessionView). s.refused) c.self.view_is ∙ none) (reverse c.pop.new.self.items ++ more) here in
    (refl, ample_next c.args.pass.now c.try_block.new.pass c.promote_in_turn.new.pass c.in-Some.block.now (reverse c.pop.new.self.items ++ more) c.in-Some-2.done.placed c.in-Some-2.done.outcome here done.ran.commits done.ran.place c.promote_in_turn.ensures.others (c.promote_in_turn.ensures.ready granted.1))

pub promote_in_turn-requires-clause-pass : goal.promote_in_turn-requires-clause-pass
promote_in_turn-requires-clause-pass g c =
    let done : IsDone c.in-Some.block.now c.args.pass.now c.try_block.new.pass c.in-Some-2.done = rw c.in-Some-2.is at c.in_ok-done.ensures.tried in
    (done.ran.commits.adds.engine ∙ c.requires.pass.same, done.ran.commits.adds.idle)

pub promote_in_turn-requires-clause-rid : goal.promote_in_turn-requires-clause-rid
promote_in_turn-requires-clause-rid g c =
    let done : IsDone c.in-Some.block.now c.args.pass.now c.try_block.new.pass c.in-Some-2.done = rw c.in-Some-2.is at c.in_ok-done.ensures.tried in
    subst (λ (e : EngineView). IfSome c.in-Some-2.done.first_read (λ rid. rid < e.size.records)) c.requires.pass.same done.first
