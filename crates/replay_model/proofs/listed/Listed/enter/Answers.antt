use Rattle.std.proofs.Common.{◌==◌, cond, subst, Some, None, sym, ap, ◌∙◌}
use Rattle.std.specs.FinMap.{insert, remove}
use Rattle.replay_model.specs.TableMap.{RowMap}
use Rattle.replay_model.specs.Listed.{where_value, IsRelisted}
use Rattle.replay_model.proofs.ListedRows.{relisted_new, relisted_moved}
use Rattle.replay_model.proofs.listed.Listed.enter.Goals as goal

pub returns-then-former-value-clause-ok : goal.returns-then-former-value-clause-ok
returns-then-former-value-clause-ok c =
    let before : RowMap = c.args.self.now.rows in let column = c.args.self.now.column in let key = c.args.key in
    let put = c.in_ok-put.ensures.ok ∙ ap (λ v. insert before (v, key) c.args.row) c.column-value.ensures in
    let is = c.remove.ensures.rest ∙ ap (λ (m : RowMap). remove m (c.column-former.result, key)) put in
    let apart = c.if-former-value.true in let former = c.column-former.ensures in let value = c.column-value.ensures in
    subst (λ (m : RowMap). IsRelisted column key (Some c.args.row) before m) (sym is)
    (relisted_moved column key c.column-former.result c.args.row before (λ same. apart (same ∙ sym value))
    (λ v differs. c.requires.was v ∙ ap (λ o. where_value column o v) c.in-Some.is ∙ ap (λ b. cond b (Some c.in-Some.old) None) (ap (λ n. v == n) (sym former) ∙ differs)))

pub returns-else-former-value-clause-ok : goal.returns-else-former-value-clause-ok
returns-else-former-value-clause-ok c =
    let before : RowMap = c.args.self.now.rows in let column = c.args.self.now.column in let key = c.args.key in
    let put = c.in_ok-put.ensures.ok ∙ ap (λ v. insert before (v, key) c.args.row) c.column-value.ensures in
    let one = sym c.column-former.ensures ∙ c.if-former-value.false ∙ c.column-value.ensures in
    subst (λ (m : RowMap). IsRelisted column key (Some c.args.row) before m) (sym put)
    (relisted_new column key c.args.row before
    (λ v differs. c.requires.was v ∙ ap (λ o. where_value column o v) c.in-Some.is ∙ ap (λ b. cond b (Some c.in-Some.old) None) (ap (λ n. v == n) one ∙ differs)))

pub returns-in_default-clause-ok : goal.returns-in_default-clause-ok
returns-in_default-clause-ok c =
    let before : RowMap = c.args.self.now.rows in let column = c.args.self.now.column in let key = c.args.key in
    let put = c.in_ok-put.ensures.ok ∙ ap (λ v. insert before (v, key) c.args.row) c.column-value.ensures in
    subst (λ (m : RowMap). IsRelisted column key (Some c.args.row) before m) (sym put)
    (relisted_new column key c.args.row before (λ v differs. c.requires.was v ∙ ap (λ o. where_value column o v) c.in_default.is))
