use Rattle.std.proofs.Common.{refl, ap, ◌∙◌, Some}
use Rattle.record_store.specs.Into.{value_if}
use Rattle.stored_tables.proofs.Runs.{looks_value}
use Rattle.stored_tables.proofs.Looking.{no_torn, read_refused, read_answered, looks_torn}
use Rattle.stored_tables.proofs.Tearing.{read_no_head}
use Rattle.stored_tables.proofs.Heads.{no_index, index_at, no_other_head}
use Rattle.stored_tables.proofs.head.index_of.Goals as goal

pub returns-in_err-read_into-clause-looks : goal.returns-in_err-read_into-clause-looks
returns-in_err-read_into-clause-looks g c =
    read_refused _ _ c.args.store.now c.read_into.new.self c.head_of-head.result c.in_err-read_into.field-0.0 c.from_residual.result
    c.in_err-read_into.ensures.gives c.in_err-read_into.ensures.err c.from_residual.ensures.1

pub returns-then-not-branch-clause-looks : goal.returns-then-not-branch-clause-looks
returns-then-not-branch-clause-looks g c =
    looks_value _ c.args.store.now c.read_into.new.self _ _ _ (read_answered _ c.args.store.now c.read_into.new.self c.head_of-head.result c.in_ok-read_into.field-0 c.read_into.new.into
    c.in_ok-read_into.ensures.gives c.in_ok-read_into.ensures.ok c.in_ok-read_into.ensures.answer) refl
    (λ state held agrees stands found. no_index c.args.table c.head_of-head.result (g.S.RecordRead.meaning c.args.store.now) state held
    c.requires.table c.head_of-head.ensures.head (found ∙ ap (λ present. value_if present c.read_into.new.into) c.if-not-branch.true) stands)

pub returns-in-Some-clause-looks : goal.returns-in-Some-clause-looks
returns-in-Some-clause-looks g c =
    looks_value _ c.args.store.now c.read_into.new.self _ _ _ (read_answered _ c.args.store.now c.read_into.new.self c.head_of-head.result c.in_ok-read_into.field-0 c.read_into.new.into
    c.in_ok-read_into.ensures.gives c.in_ok-read_into.ensures.ok c.in_ok-read_into.ensures.answer) refl
    (λ state held agrees stands found. index_at c.args.table c.head_of-head.result c.in-Some.column
    (g.S.RecordRead.meaning c.args.store.now) state held c.requires.table c.head_of-head.ensures.head (found ∙ ap (λ present. value_if present c.read_into.new.into) c.if-not-branch.false
    ∙ ap Some c.in-Some.ensures.head.0) stands)

pub returns-in-None-clause-looks : goal.returns-in-None-clause-looks
returns-in-None-clause-looks g c =
    looks_torn _ c.args.store.now c.read_into.new.self _ _ c.head_of-head.result
    (read_answered _ c.args.store.now c.read_into.new.self c.head_of-head.result c.in_ok-read_into.field-0 c.read_into.new.into c.in_ok-read_into.ensures.gives c.in_ok-read_into.ensures.ok
    c.in_ok-read_into.ensures.answer) refl
    (λ state held agrees stands found. (let h = no_other_head c.args.table c.head_of-head.result c.read_into.new.into
    (g.S.RecordRead.meaning c.args.store.now) state held c.requires.table c.head_of-head.ensures.head (found ∙ ap (λ present. value_if present c.read_into.new.into) c.if-not-branch.false) stands
    in c.in-None.ensures.no_head h.0 h.1 h.2))

pub returns-in_err-read_into-clause-tears : goal.returns-in_err-read_into-clause-tears
returns-in_err-read_into-clause-tears g c = no_torn c.from_residual.result c.in_err-read_into.field-0.0 _ c.from_residual.ensures.1

pub returns-in-None-clause-tears : goal.returns-in-None-clause-tears
returns-in-None-clause-tears g c =
    read_no_head c.args.table c.head_of-head.result (g.S.RecordRead.meaning c.args.store.now) (g.S.RecordRead.meaning c.read_into.new.self)
    c.in_ok-read_into.field-0 c.read_into.new.into c.in_ok-read_into.ensures.ok c.in_ok-read_into.ensures.answer c.head_of-head.ensures.head
    (ap (λ present. value_if present c.read_into.new.into) c.if-not-branch.false) c.in-None.ensures.no_head
