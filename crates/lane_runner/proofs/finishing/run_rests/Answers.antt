use Rattle.std.proofs.Common.{◌≡◌, ℕ, ◌≤◌, List, [], ◌++◌, append-nil, length, refl, sym, ap, subst, ◌∙◌, rules, All}
use Rattle.std.proofs.lemmas.List.Elements.{All-head, All-tail}
use Rattle.std.specs.Vec.Iter.{into_iter_items, into_iter_len}
use Rattle.replay_model.specs.declared.input.Block.{Block}
use Rattle.lane_runner.specs.Finishing.{MayFinish, RunsRests}
use Rattle.lane_runner.specs.Weighs.{blocks_add}
use Rattle.lane_runner.specs.Holding.{HasRecords}
use Rattle.lane_runner.specs.Room.{HasRoom, clock_after}
use Rattle.lane_runner.proofs.Clocks.{clock_still, drawn_again, room_for_one}
use Rattle.lane_runner.proofs.Rests.{room_here, room_next, RunsRests-new, RunsRests-more, items_more, items_count, items_remain, one_more}
use Rattle.lane_runner.proofs.Run.{none_kept}
use Rattle.lane_runner.proofs.Answered.{no_value}
use Rattle.lane_runner.proofs.finishing.run_rests.Goals as goal

pub loop-block-init : goal.loop-block-init
loop-block-init c =
    let start : into_iter_items c.into_iter-block-iterator.result ≡ c.args.blocks.items = search rules in
    record {
      engine = c.requires.pass.same;
      ran = RunsRests-new c.args.alone.now.pass c.args.results.now.items c.requires.holds;
      blocks = refl;
      remain = search rules;
      may = subst (λ (xs : List Block). All MayFinish xs) (sym start) c.requires.blocks;
      records = subst (λ (xs : List Block). HasRecords c.args.alone.now.pass (blocks_add xs)) (sym start) c.requires.records;
      clock = clock_still c.args.alone.now.pass.clock;
    }

pub run_block-requires-clause-block : goal.run_block-requires-clause-block
run_block-requires-clause-block c = All-head MayFinish c.in-Some.block (into_iter_items c.next.new.self) (subst (λ (xs : List Block). All MayFinish xs) c.in-Some.ensures.steps.0 c.loop-block.invariant.may)

pub run_block-requires-clause-records : goal.run_block-requires-clause-records
run_block-requires-clause-records c =
    room_here c.loop-block.alone.pass c.in-Some.block (into_iter_items c.next.new.self) (subst (λ (xs : List Block). HasRecords c.loop-block.alone.pass (blocks_add xs)) c.in-Some.ensures.steps.0 c.loop-block.invariant.records)

pub run_block-requires-clause-room : goal.run_block-requires-clause-room
run_block-requires-clause-room c =
    let start : into_iter_items c.into_iter-block-iterator.result ≡ c.args.blocks.items = search rules in
    let count = items_count c.loop-block.yielded c.in-Some.block _ _ c.args.blocks.items (c.loop-block.invariant.blocks ∙ start) c.in-Some.ensures.steps.0 in
    room_for_one c.args.alone.now.pass.clock c.loop-block.alone.pass.clock (length c.loop-block.yielded) _ c.loop-block.invariant.clock (subst (λ (n : ℕ). HasRoom c.args.alone.now.pass.clock n) count c.requires.room)

pub loop-block-preserved : goal.loop-block-preserved
loop-block-preserved c =
    let i = c.loop-block.invariant in
    let next = c.in-Some.ensures.steps.0 in
    let here = subst (λ (xs : List Block). HasRecords c.loop-block.alone.pass (blocks_add xs)) next i.records in
    let ran = c.in_ok-done.ensures in
    record {
      engine = ran.ran.commits.adds.engine ∙ i.engine;
      ran = RunsRests-more c.args.alone.now.pass c.loop-block.alone.pass c.run_block.new.alone.pass c.loop-block.yielded c.args.results.now.items c.loop-block.results.items c.push.new.self.items c.in-Some.block c.in_ok-done.done i.ran ran.ran ran.behind ran.holds c.in_ok-push.ensures.items;
      blocks = items_more c.loop-block.yielded c.in-Some.block _ _ _ i.blocks next;
      remain = items_remain c.in-Some.block (into_iter_items c.loop-block.block-iterator) (into_iter_items c.next.new.self) (into_iter_len c.loop-block.block-iterator) (into_iter_len c.next.new.self) next c.in-Some.ensures.steps.1 i.remain;
      may = All-tail MayFinish c.in-Some.block (into_iter_items c.next.new.self) (subst (λ (xs : List Block). All MayFinish xs) next i.may);
      records = room_next c.loop-block.alone.pass c.run_block.new.alone.pass c.in-Some.block (into_iter_items c.next.new.self) c.adds_after.ensures ran.ran.commits.adds.engine ran.leaves here;
      clock = subst (λ (n : ℕ). c.run_block.new.alone.pass.clock ≤ clock_after c.args.alone.now.pass.clock n) (one_more c.loop-block.yielded c.in-Some.block)
          (drawn_again c.args.alone.now.pass.clock c.loop-block.alone.pass.clock c.run_block.new.alone.pass.clock (length c.loop-block.yielded) i.clock ran.clock);
    }

pub returns-clause-ran : goal.returns-clause-ran
returns-clause-ran c =
    let start : into_iter_items c.into_iter-block-iterator.result ≡ c.args.blocks.items = search rules in
    let none : into_iter_items c.loop-block.block-iterator ≡ [] = none_kept (into_iter_items c.loop-block.block-iterator) (c.loop-block.invariant.remain ∙ c.in-None.ensures.steps.0) in
    let whole : c.loop-block.yielded ≡ c.args.blocks.items = sym (append-nil c.loop-block.yielded) ∙ ap (λ (xs : List Block). c.loop-block.yielded ++ xs) (sym none) ∙ c.loop-block.invariant.blocks ∙ start in
    subst (λ (xs : List Block). RunsRests xs c.args.results.now.items c.args.alone.now.pass c.loop-block.results.items c.loop-block.alone.pass) whole c.loop-block.invariant.ran

pub returns-clause-clock : goal.returns-clause-clock
returns-clause-clock c =
    let start : into_iter_items c.into_iter-block-iterator.result ≡ c.args.blocks.items = search rules in
    let none : into_iter_items c.loop-block.block-iterator ≡ [] = none_kept (into_iter_items c.loop-block.block-iterator) (c.loop-block.invariant.remain ∙ c.in-None.ensures.steps.0) in
    let whole : c.loop-block.yielded ≡ c.args.blocks.items = sym (append-nil c.loop-block.yielded) ∙ ap (λ (xs : List Block). c.loop-block.yielded ++ xs) (sym none) ∙ c.loop-block.invariant.blocks ∙ start in
    subst (λ (xs : List Block). c.loop-block.alone.pass.clock ≤ clock_after c.args.alone.now.pass.clock (length xs)) whole c.loop-block.invariant.clock

pub run_block-requires-clause-pass : goal.run_block-requires-clause-pass
run_block-requires-clause-pass c = record { same = c.loop-block.invariant.engine; idle = c.loop-block.invariant.ran.holds.idle; fixed = c.requires.pass.fixed }

pub run_block-requires-clause-holds : goal.run_block-requires-clause-holds
run_block-requires-clause-holds c = c.loop-block.invariant.ran.holds

pub run_block-requires-clause-places : goal.run_block-requires-clause-places
run_block-requires-clause-places c = c.requires.places

pub returns-in_err-done-clause-ran : goal.returns-in_err-done-clause-ran
returns-in_err-done-clause-ran c = no_value c.from_residual.result _ c.from_residual.ensures.0

pub returns-in_err-done-clause-clock : goal.returns-in_err-done-clause-clock
returns-in_err-done-clause-clock c = no_value c.from_residual.result _ c.from_residual.ensures.0

pub returns-in_err-push-clause-ran : goal.returns-in_err-push-clause-ran
returns-in_err-push-clause-ran c = no_value c.from_residual-in_err-push.result _ c.from_residual-in_err-push.ensures.0

pub returns-in_err-push-clause-clock : goal.returns-in_err-push-clause-clock
returns-in_err-push-clause-clock c = no_value c.from_residual-in_err-push.result _ c.from_residual-in_err-push.ensures.0
