use Rattle.std.proofs.Common.{◌+◌, ◌∙◌, arith}
use Rattle.record_store.proofs.Refusals.{IfTorn-map, torn_moved}
use Rattle.stored_tables.proofs.Runs.{looks_moved}
use Rattle.stored_tables.proofs.ScanRows.{lists_nothing, none_listed, entries_found, where_indexed, rows_searched}
use Rattle.stored_tables.proofs.Tearing.{named_in, index_row_behind, index_names}
use Rattle.stored_tables.proofs.reading.search_rows.Goals as goal

pub returns-in_err-scan-clause-looks : goal.returns-in_err-scan-clause-looks
returns-in_err-scan-clause-looks g c =
    looks_moved _ c.args.store.now c.scan.new.store c.from_residual.result c.scan.result c.in_err-scan.field-0.0
    (where_indexed c.args.table c.args.column c.args.store.now c.scan.new.store c.scan.result
    (entries_found {meaning = g.S.RecordRead.meaning} (c.args.table + 8) c.root_of.result c.args.limit _ _ _ c.scan.new.out.items
    c.args.store.now c.scan.new.store c.scan.result (omega (arith, c.requires.table)) c.root_of.ensures.root
    c.new-entries.ensures.items c.scan.ensures.ok c.scan.ensures.torn c.scan.ensures.walk)) c.in_err-scan.was c.from_residual.ensures.1

pub returns-clause-looks : goal.returns-clause-looks
returns-clause-looks g c =
    rows_searched {meaning = g.S.RecordRead.meaning} c.args.table c.args.column c.args.lo c.args.hi c.args.limit c.scan.new.out.items
    c.args.store.now c.scan.new.store c.read_rows.new.store c.scan.result c.read_rows.result c.requires.table
    (entries_found {meaning = g.S.RecordRead.meaning} (c.args.table + 8) c.root_of.result c.args.limit _ _ _ c.scan.new.out.items
    c.args.store.now c.scan.new.store c.scan.result (omega (arith, c.requires.table)) c.root_of.ensures.root
    c.new-entries.ensures.items c.scan.ensures.ok c.scan.ensures.torn c.scan.ensures.walk)
    c.in_ok-scan.was
    (rw c.deref.ensures.value at c.read_rows.ensures.looks)

pub returns-in_err-scan-clause-nothing : goal.returns-in_err-scan-clause-nothing
returns-in_err-scan-clause-nothing g c = λ says. c.scan.ensures.nothing
    (lists_nothing c.args.lo c.args.hi 18446744073709551615 c.args.limit says)

pub returns-clause-nothing : goal.returns-clause-nothing
returns-clause-nothing g c = λ says.
    let none = lists_nothing c.args.lo c.args.hi 18446744073709551615 c.args.limit says in
    c.read_rows.ensures.nothing (c.deref.ensures.value ∙ none_listed _ c.args.limit _ _ _ c.scan.new.out.items
    c.new-entries.ensures.items none c.in_ok-scan.ensures.stored) ∙ c.scan.ensures.nothing none

pub returns-in_err-scan-clause-tears : goal.returns-in_err-scan-clause-tears
returns-in_err-scan-clause-tears g c =
    torn_moved c.from_residual.result c.scan.result c.in_err-scan.field-0.0 _ c.in_err-scan.was c.from_residual.ensures.1
    (index_names c.args.table c.root_of.result _ (g.S.RecordRead.meaning c.args.store.now) (g.S.RecordRead.meaning c.scan.new.store)
    c.scan.result c.root_of.ensures.root c.scan.ensures.torn)

pub returns-clause-tears : goal.returns-clause-tears
returns-clause-tears g c =
    IfTorn-map c.read_rows.result
    (λ rid t. index_row_behind c.args.table c.root_of.result rid (g.S.RecordRead.meaning c.args.store.now) (g.S.RecordRead.meaning c.scan.new.store)
    (g.S.RecordRead.meaning c.read_rows.new.store) c.scan.ensures.walk.only c.root_of.ensures.root
    (named_in c.root_of.result c.args.limit rid _ _ c.new-entries.result.items c.scan.new.out.items (g.S.RecordRead.meaning c.args.store.now)
    (g.S.RecordRead.meaning c.scan.new.store) (g.S.RecordRead.meaning c.read_rows.new.store) c.read_rows.ensures.looks.by.only
    c.new-entries.ensures.items c.in_ok-scan.ensures.ok (rw c.deref.ensures.value at t.0)) t.1) c.read_rows.ensures.tears
