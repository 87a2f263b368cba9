use Rattle.std.proofs.Common.{Ok, ap, ◌∙◌}
use Rattle.record_store.proofs.Refusals.{IfTorn-map, torn_moved}
use Rattle.stored_tables.proofs.Tearing.{names_behind}
use Rattle.stored_tables.proofs.Runs.{looks_moved, looks_value}
use Rattle.stored_tables.proofs.ScanRows.{searched}
use Rattle.stored_tables.proofs.reading.find_rows.Goals as goal

pub returns-in_err-pairs-in-Some-clause-looks : goal.returns-in_err-pairs-in-Some-clause-looks
returns-in_err-pairs-in-Some-clause-looks g c =
    looks_moved _ c.args.store.now c.search_rows.new.store c.from_residual-in_err-pairs-in-Some.result c.search_rows.result
    c.in_err-pairs-in-Some.field-0.0
    (searched {meaning = g.S.RecordRead.meaning} c.args.table c.args.column c.in-Some.indexed c.args.lo c.args.hi c.args.limit
    c.args.store.now c.index_of.new.store c.search_rows.new.store c.index_of.result c.search_rows.result c.index_of.ensures.looks
    (c.in_ok-indexed.was ∙ ap (λ o. Ok o) c.in-Some.is) c.if-indexed-column.true c.search_rows.ensures.looks)
    c.in_err-pairs-in-Some.was c.from_residual-in_err-pairs-in-Some.ensures.1

pub returns-in_ok-pairs-in-Some-clause-looks : goal.returns-in_ok-pairs-in-Some-clause-looks
returns-in_ok-pairs-in-Some-clause-looks g c =
    looks_value _ c.args.store.now c.search_rows.new.store c.search_rows.result _ _
    (searched {meaning = g.S.RecordRead.meaning} c.args.table c.args.column c.in-Some.indexed c.args.lo c.args.hi c.args.limit
    c.args.store.now c.index_of.new.store c.search_rows.new.store c.index_of.result c.search_rows.result c.index_of.ensures.looks
    (c.in_ok-indexed.was ∙ ap (λ o. Ok o) c.in-Some.is) c.if-indexed-column.true c.search_rows.ensures.looks)
    c.in_ok-pairs-in-Some.was (λ state held agrees stands is. is)

pub returns-in_err-pairs-in-Some-clause-tears : goal.returns-in_err-pairs-in-Some-clause-tears
returns-in_err-pairs-in-Some-clause-tears g c =
    torn_moved c.from_residual-in_err-pairs-in-Some.result c.search_rows.result c.in_err-pairs-in-Some.field-0.0 _ c.in_err-pairs-in-Some.was
    c.from_residual-in_err-pairs-in-Some.ensures.1
    (IfTorn-map c.search_rows.result
    (λ rid t. names_behind c.args.table rid (g.S.RecordRead.meaning c.args.store.now) (g.S.RecordRead.meaning c.index_of.new.store)
    (g.S.RecordRead.meaning c.search_rows.new.store) c.index_of.ensures.looks.by.only t) c.search_rows.ensures.tears)
