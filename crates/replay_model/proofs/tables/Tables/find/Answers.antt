use Rattle.std.proofs.Common.{◌≡◌, List, ap, sym, subst, Some, ◌∙◌}
use Rattle.std.specs.List.{slice_get}
use Rattle.replay_model.specs.declared.listed.Listed.{Listed}
use Rattle.replay_model.specs.TableMap.{RowMap, TableMap, pairs_of}
use Rattle.replay_model.specs.Effect.{by_column}
use Rattle.replay_model.specs.RowsIn.{first_spanning, rows_in}
use Rattle.replay_model.proofs.ListedRows.{item_at, listed_is, found_spanning}
use Rattle.replay_model.proofs.tables.Tables.find.Goals as goal

pub returns-then-index-column : goal.returns-then-index-column
returns-then-index-column c =
    let l : Listed = c.index-index.result.now in let indexes = c.self.inside.indexes.items in let place = c.in-Some.place in
    let at = item_at indexes c.deref.result.now place l c.deref.ensures.value c.in-Some.ensures.within c.index-index.ensures in
    let own = c.in-Some.ensures.there l (subst (λ (xs : List Listed). slice_get xs place ≡ Some l) (sym c.deref.ensures.value) at) in
    let rows : RowMap = c.self.inside.rows in
    let listed = listed_is l.table l.column rows l.rows (c.self.invariant.listed place l at) in
    let by = listed ∙ ap (λ t. by_column l.column (rows_in t rows)) own ∙ ap (λ n. by_column n (rows_in c.args.table rows)) c.if-index-column.true
    ∙ ap (λ (m : TableMap). by_column c.args.column (pairs_of c.args.table m)) c.self.view_is in
    c.from_vec.ensures ∙ c.in_ok-found.ensures ∙ ap (first_spanning c.args.lo c.args.hi c.args.limit) by ∙ found_spanning c.args.table c.args.column c.args.lo c.args.hi c.args.limit c.args.self.now

pub returns : goal.returns
returns c = c.from_vec-2.ensures ∙ c.in_ok-found-2.ensures ∙ ap (first_spanning c.args.lo c.args.hi c.args.limit) (c.in_ok-listed_by.ensures ∙ ap (by_column c.args.column) c.in_ok-pairs.ensures) ∙ found_spanning c.args.table c.args.column c.args.lo c.args.hi c.args.limit c.args.self.now
