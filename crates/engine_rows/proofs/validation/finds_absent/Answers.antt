use Rattle.std.proofs.Common.{◌≡◌, true, [], ◌∷◌, ◌++◌, List, None, ap, ◌∙◌}
use Rattle.core_rule.specs.View.{Read}
use Rattle.core_rule.specs.Versions.{read_version}
use Rattle.engine_rows.proofs.Begun.{read_begun}
use Rattle.engine_rows.proofs.validation.finds_absent.Goals as goal

pub returns-in-Version-default-eq0-true-clause-begun : goal.returns-in-Version-default-eq0-true-clause-begun
returns-in-Version-default-eq0-true-clause-begun c = λ _.
    let it = c.in-Version-default-eq0-true in let read = read_version 5 it.place 0 None in
    let wts = it.wts-is in let start : 0 ≡ it.wts = cc in
    let absent = it.absent-is in let gone : true ≡ it.absent = cc in
    let one = c.read.ensures.reads ∙ ap (λ (ds : List Read). ds ++ read ∷ []) c.requires.first in
    read_begun c.args.core.now.size c.args.sets.now c.read.new.self c.args.hand.now.view c.find.new.hand.view _ 5 it.place it.wts it.absent c.requires.begun c.requires.record it.ensures.place
    it.ensures.version start gone one c.read.ensures.writes
