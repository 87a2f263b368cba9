use Rattle.std.proofs.Common.{◌≢◌, Some, sym, ap, ◌∙◌, arith}
use Rattle.std.proofs.lemmas.Option.{slice_get-get_or, get_or_from_slice_get}
use Rattle.replay_model.specs.declared.listed.Listed.{Listed}
use Rattle.replay_model.proofs.Items.{each_more, each_all}
use Rattle.replay_model.proofs.ListedRows.{find_here, find_past}
use Rattle.replay_model.proofs.tables.index_at.Goals as goal

pub returns-then-index-table-clause-there : goal.returns-then-index-table-clause-there
returns-then-index-table-clause-there c = λ l at. ap (λ (x : Listed). x.table) (sym (c.index-indexes-place.is ∙ get_or_from_slice_get c.args.indexes.now c.loop-place.place l c.index-indexes-place.result at)) ∙ c.if-index-table.true

pub returns-then-index-table-clause-column : goal.returns-then-index-table-clause-column
returns-then-index-table-clause-column c = λ l at. c.loop-place.invariant.1 ∙ find_here c.args.table c.args.indexes.now c.loop-place.place l at (ap (λ (x : Listed). x.table) (sym (c.index-indexes-place.is ∙ get_or_from_slice_get c.args.indexes.now c.loop-place.place l c.index-indexes-place.result at)) ∙ c.if-index-table.true)

pub loop-place-preserved : goal.loop-place-preserved
loop-place-preserved c = (
  each_more (λ _ (k : Listed). k.table ≢ c.args.table) c.args.indexes.now c.loop-place.place c.index-indexes-place.result c.loop-place.invariant.0 c.index-indexes-place.is c.if-index-table.false,
  c.loop-place.invariant.1 ∙ find_past c.args.table c.args.indexes.now c.loop-place.place c.index-indexes-place.result (slice_get-get_or c.args.indexes.now c.loop-place.place c.index-indexes-place.result c.loop-place-test.true ∙ ap Some (sym c.index-indexes-place.is)) c.if-index-table.false,
)

pub returns-clause-none : goal.returns-clause-none
returns-clause-none c = each_all (λ _ (k : Listed). k.table ≢ c.args.table) c.args.indexes.now c.loop-place.place (omega arith) c.loop-place.invariant.0
