use Rattle.std.proofs.Common.{◌∷◌, refl, sym, subst, ◌∙◌}
use Rattle.txn_engine.specs.Pass.{PassView}
use Rattle.lane_runner.specs.Ready.{IsAmple}
use Rattle.lane_runner.proofs.Tried.{tried_behind}
use Rattle.lane_runner.proofs.tries.try_block.Goals as goal

pub returns-then-block-clause-granted : goal.returns-then-block-clause-granted
returns-then-block-clause-granted g c = λ none more ample. (refl, c.in_ok-done.ensures.ready ample.ready)

pub try_once-requires-clause-pass : goal.try_once-requires-clause-pass
try_once-requires-clause-pass g c = record { same = c.sync_before_try.ensures.none.adds.engine ∙ c.requires.pass.same; idle = c.sync_before_try.ensures.none.adds.idle; fixed = c.requires.pass.fixed }

pub returns-clause-tried : goal.returns-clause-tried
returns-clause-tried g c = tried_behind c.args.block.now c.try_once.result c.args.pass.now c.sync_before_try.new.pass _ c.sync_before_try.ensures.none c.try_once.ensures.tried

pub returns-clause-granted : goal.returns-clause-granted
returns-clause-granted g c = λ none more ample. c.try_once.ensures.granted more (subst (λ (x : PassView). IsAmple x (c.args.block.now ∷ more)) (sym (c.sync_before_try.ensures.first none)) ample)
