use Rattle.std.proofs.Common.{List, ◌++◌, sym, ap, ◌∙◌}
use Rattle.replay_model.specs.declared.input.Block.{Block}
use Rattle.replay_model.specs.declared.outcome.Outcome.{Outcome}
use Rattle.replay_model.specs.declared.outcome.Placed.{Placed}
use Rattle.lane_runner.proofs.Rests.{results_more, rests_more, items_more}
use Rattle.lane_runner.proofs.finishing.take_apart.Goals as goal

pub loop-lane-preserved : goal.loop-lane-preserved
loop-lane-preserved c =
    let i = c.loop-lane.invariant in
    let lane = c.in-Some.lane in
    let so_far = c.loop-lane.yielded in
    record {
      lanes = items_more so_far lane _ _ _ i.lanes c.in-Some.ensures.steps.0;
      results = c.in_ok-append.ensures.items ∙ ap (λ (xs : List (Placed × Outcome)). c.loop-lane.results.items ++ xs) c.into_vec.ensures ∙ ap (λ (xs : List (Placed × Outcome)). xs ++ lane.results) i.results ∙ sym (results_more so_far lane);
      rests = c.in_ok-append-2.ensures.items ∙ ap (λ (xs : List Block). c.loop-lane.rests.items ++ xs) c.into_vec-in-loop-lane.ensures ∙ ap (λ (xs : List Block). xs ++ lane.rest) i.rests ∙ sym (rests_more so_far lane);
    }
