use Rattle.std.proofs.Common.{subst, sym, ap, None, ◌∙◌}
use Rattle.std.specs.FinMap.{remove}
use Rattle.replay_model.specs.TableMap.{RowMap}
use Rattle.replay_model.specs.Listed.{IsRelisted}
use Rattle.replay_model.proofs.ListedRows.{relisted_left}
use Rattle.replay_model.proofs.listed.Listed.leave.Goals as goal

pub returns-clause-left : goal.returns-clause-left
returns-clause-left c =
    let before : RowMap = c.args.self.now.rows in
    let is = c.remove.ensures.rest ∙ ap (λ v. remove before (v, c.args.key)) c.column.ensures in
    subst (λ (m : RowMap). IsRelisted c.args.self.now.column c.args.key None before m) (sym is) (relisted_left c.args.self.now.column c.args.key c.args.row before c.requires.was)
