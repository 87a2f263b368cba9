use Rattle.std.proofs.Common.{refl, sym, ap, ◌∙◌}
use Rattle.std.proofs.lemmas.Option.{same_Some, none-some}
use Rattle.record_store.specs.Into.{value_if}
use Rattle.stored_tables.specs.Tables.{row_words}
use Rattle.stored_tables.proofs.Looking.{no_torn, read_refused, read_answered, looks_torn, same_row}
use Rattle.stored_tables.proofs.Tearing.{read_no_row}
use Rattle.stored_tables.proofs.Runs.{looks_value}
use Rattle.stored_tables.proofs.reading.row_at.Goals as goal

pub returns-in_err-read_into-clause-looks : goal.returns-in_err-read_into-clause-looks
returns-in_err-read_into-clause-looks g c =
    read_refused _ _ c.args.store.now c.read_into.new.self c.args.rid c.in_err-read_into.field-0.0 c.from_residual.result
    c.in_err-read_into.ensures.gives c.in_err-read_into.ensures.err c.from_residual.ensures.1

pub returns-then-not-branch-clause-looks : goal.returns-then-not-branch-clause-looks
returns-then-not-branch-clause-looks g c =
    looks_torn _ c.args.store.now c.read_into.new.self _ _ c.args.rid
    (read_answered _ c.args.store.now c.read_into.new.self c.args.rid c.in_ok-read_into.field-0 c.read_into.new.into c.in_ok-read_into.ensures.gives c.in_ok-read_into.ensures.ok
    c.in_ok-read_into.ensures.answer) refl
    (λ state words agrees stands found. none-some (row_words words) (sym (ap (λ present. value_if present c.read_into.new.into) c.if-not-branch.true) ∙ sym found ∙ stands))

pub returns-in-Some-clause-looks : goal.returns-in-Some-clause-looks
returns-in-Some-clause-looks g c =
    looks_value _ c.args.store.now c.read_into.new.self _ _ _
    (read_answered _ c.args.store.now c.read_into.new.self c.args.rid c.in_ok-read_into.field-0 c.read_into.new.into c.in_ok-read_into.ensures.gives c.in_ok-read_into.ensures.ok
    c.in_ok-read_into.ensures.answer) refl
    (λ state words agrees stands found. same_row _ words (sym c.in-Some.ensures.row
    ∙ same_Some _ _ (sym (ap (λ present. value_if present c.read_into.new.into) c.if-not-branch.false) ∙ sym found ∙ stands)))

pub returns-in-None-clause-looks : goal.returns-in-None-clause-looks
returns-in-None-clause-looks g c =
    looks_torn _ c.args.store.now c.read_into.new.self _ _ c.args.rid
    (read_answered _ c.args.store.now c.read_into.new.self c.args.rid c.in_ok-read_into.field-0 c.read_into.new.into c.in_ok-read_into.ensures.gives c.in_ok-read_into.ensures.ok
    c.in_ok-read_into.ensures.answer) refl
    (λ state words agrees stands found. c.in-None.ensures.no_row words (same_Some _ _ (sym (ap (λ present. value_if present c.read_into.new.into) c.if-not-branch.false) ∙ sym found ∙ stands)))

pub returns-in_err-read_into-clause-tears : goal.returns-in_err-read_into-clause-tears
returns-in_err-read_into-clause-tears g c = no_torn c.from_residual.result c.in_err-read_into.field-0.0 _ c.from_residual.ensures.1

pub returns-then-not-branch-clause-tears : goal.returns-then-not-branch-clause-tears
returns-then-not-branch-clause-tears g c = (
  refl,
  read_no_row (g.S.RecordRead.meaning c.args.store.now) (g.S.RecordRead.meaning c.read_into.new.self) c.args.rid c.in_ok-read_into.field-0
      c.read_into.new.into c.in_ok-read_into.ensures.ok c.in_ok-read_into.ensures.answer
      (λ row here. none-some (row_words row) (sym (ap (λ present. value_if present c.read_into.new.into) c.if-not-branch.true) ∙ here)),
)

pub returns-in-None-clause-tears : goal.returns-in-None-clause-tears
returns-in-None-clause-tears g c = (
  refl,
  read_no_row (g.S.RecordRead.meaning c.args.store.now) (g.S.RecordRead.meaning c.read_into.new.self) c.args.rid c.in_ok-read_into.field-0
      c.read_into.new.into c.in_ok-read_into.ensures.ok c.in_ok-read_into.ensures.answer
      (λ row here. c.in-None.ensures.no_row row
      (same_Some _ _ (sym (ap (λ present. value_if present c.read_into.new.into) c.if-not-branch.false) ∙ here))),
)
