use Rattle.std.proofs.Common.{ℕ, Bool, List, Ok, Err, ap, subst, ◌∙◌}
use Rattle.replay_model.specs.Effect.{found}
use Rattle.replay_model.specs.TableMap.{Row}
use Rattle.typed_tables.specs.Typed.{AllTyped}
use Rattle.typed_tables.proofs.Answered.{foreign_on}
use Rattle.typed_tables.proofs.Found.{index_refused}
use Rattle.record_store.proofs.Refusals.{torn_moved}
use Rattle.typed_tables.proofs.Answered.{walked_err}
use Rattle.typed_tables.proofs.Found.{not_torn_at}
use Rattle.typed_tables.proofs.finding.typed_find.Goals as goal

pub returns-in-Ok-clause-rows : goal.returns-in-Ok-clause-rows
returns-in-Ok-clause-rows g c = λ indexed.
    let typed = c.in-Ok.ensures.typed in
    let P : List (ℕ × Row) → Type 0 = λ ps. AllTyped g.R.Row.row_of g.R.Row.columns_of ps typed.0 in (
      typed.0,
      typed.1,
      λ state places tables agrees stands.
          let by = rw c.in-Some.is at (c.in_ok-pairs.ensures.looks.found state (places, tables) agrees stands) in
          subst P {y = found c.args.table c.args.column c.args.lo c.args.hi c.args.limit tables} by.1 typed.2,
    )

pub returns-clause-looks : goal.returns-clause-looks
returns-clause-looks g c =
    index_refused {meaning = g.S.RecordRead.meaning} c.args.table c.args.column c.args.lo c.args.hi c.args.limit c.args.store.now
    c.find_rows.new.store c.find_rows.result c.in-Some.pairs c.in-Err.fault c.find_rows.ensures.looks
    (c.in_ok-pairs.was ∙ ap (λ o. Ok o) c.in-Some.is) c.in-Err.ensures.not_torn c.in-Err.ensures.no_fault

pub returns-clause-foreign : goal.returns-clause-foreign
returns-clause-foreign g c =
    foreign_on {T = Bool} g.R.Row.row_of (λ tables. found c.args.table c.args.column c.args.lo c.args.hi c.args.limit tables) c.in-Some.pairs
    (g.S.RecordRead.meaning c.args.store.now) (g.S.RecordRead.meaning c.find_rows.new.store) (Err c.in-Err.fault)
    (λ state held agrees stands. (let by = rw c.in-Some.is at (c.in_ok-pairs.ensures.looks.found state held agrees stands) in by.1))
    c.in-Err.ensures.foreign

pub returns-in_err-pairs-clause-tears : goal.returns-in_err-pairs-clause-tears
returns-in_err-pairs-clause-tears g c =
    torn_moved _ c.find_rows.result c.in_err-pairs.field-0.0 _ c.in_err-pairs.was
    (walked_err c.from_residual.result c.in_err-pairs.field-0.0 c.from_residual.ensures.1) c.find_rows.ensures.tears

pub returns-clause-tears : goal.returns-clause-tears
returns-clause-tears g c = not_torn_at _ c.in-Err.fault _ c.in-Err.ensures.not_torn
