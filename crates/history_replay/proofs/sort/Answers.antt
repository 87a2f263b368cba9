use Rattle.std.proofs.Common.{◌≡◌, refl, rules}
use Rattle.std.proofs.lemmas.List.Sorted.{answers_always}
use Rattle.replay_model.specs.declared.outcome.Outcome.{Outcome}
use Rattle.replay_model.specs.declared.outcome.Placed.{Placed}
use Rattle.history_replay.proofs.sort.Goals as goal

pub returns-clause-sorted : goal.returns-clause-sorted
returns-clause-sorted c = c.sort_unstable_by_key.ensures.sorted (λ (r : Placed × Outcome). r.0) (answers_always _ (λ a r. r ≡ a.0.now.0) _ (λ f a r g k. search rules))
