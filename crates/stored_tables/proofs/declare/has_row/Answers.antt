use Rattle.std.proofs.Common.{◌==◌, length, sym, ap, ◌∙◌, arith}
use Rattle.stored_tables.proofs.Declaring.{tells_none, tells_some}
use Rattle.stored_tables.proofs.Runs.{looks_moved, looks_value}
use Rattle.stored_tables.proofs.ScanRows.{entries_found}
use Rattle.record_store.proofs.Refusals.{torn_moved}
use Rattle.stored_tables.proofs.Tearing.{tree_names}
use Rattle.stored_tables.proofs.declare.has_row.Goals as goal

pub returns-in_err-scan-clause-looks : goal.returns-in_err-scan-clause-looks
returns-in_err-scan-clause-looks g c =
    looks_moved _ c.args.store.now c.scan.new.store c.from_residual.result c.scan.result c.in_err-scan.field-0.0
    (entries_found {meaning = g.S.RecordRead.meaning} c.args.table c.root_of.result 1 _ _ _ c.scan.new.out.items c.args.store.now
    c.scan.new.store c.scan.result (omega (arith, c.requires.table)) c.root_of.ensures.root c.new-entries.ensures.items
    c.scan.ensures.ok c.scan.ensures.torn c.scan.ensures.walk)
    c.in_err-scan.was c.from_residual.ensures.1

pub returns-then-is_empty-clause-looks : goal.returns-then-is_empty-clause-looks
returns-then-is_empty-clause-looks g c =
    looks_value _ c.args.store.now c.scan.new.store c.scan.result _ _
    (entries_found {meaning = g.S.RecordRead.meaning} c.args.table c.root_of.result 1 _ _ _ c.scan.new.out.items c.args.store.now
    c.scan.new.store c.scan.result (omega (arith, c.requires.table)) c.root_of.ensures.root c.new-entries.ensures.items
    c.scan.ensures.ok c.scan.ensures.torn c.scan.ensures.walk) c.in_ok-scan.was
    (λ state held agrees stands is. tells_none c.args.table c.scan.new.out.items (g.S.RecordRead.meaning c.args.store.now) state held
    c.requires.table (sym (ap (λ xs. length xs == 0) c.as_slice.ensures.value) ∙ sym c.is_empty.ensures ∙ c.if-is_empty.true) stands
    is)

pub returns-clause-looks : goal.returns-clause-looks
returns-clause-looks g c =
    looks_value _ c.args.store.now c.scan.new.store c.scan.result _ _
    (entries_found {meaning = g.S.RecordRead.meaning} c.args.table c.root_of.result 1 _ _ _ c.scan.new.out.items c.args.store.now
    c.scan.new.store c.scan.result (omega (arith, c.requires.table)) c.root_of.ensures.root c.new-entries.ensures.items
    c.scan.ensures.ok c.scan.ensures.torn c.scan.ensures.walk) c.in_ok-scan.was
    (λ state held agrees stands is. tells_some c.args.table c.scan.new.out.items (g.S.RecordRead.meaning c.args.store.now) state held
    c.requires.table (sym (ap (λ xs. length xs == 0) c.as_slice.ensures.value) ∙ sym c.is_empty.ensures ∙ c.if-is_empty.false) stands
    is)

pub returns-in_err-scan-clause-tears : goal.returns-in_err-scan-clause-tears
returns-in_err-scan-clause-tears g c =
    torn_moved c.from_residual.result c.scan.result c.in_err-scan.field-0.0 _ c.in_err-scan.was c.from_residual.ensures.1
    (tree_names c.args.table c.root_of.result _ (g.S.RecordRead.meaning c.args.store.now) (g.S.RecordRead.meaning c.scan.new.store) c.scan.result
    c.root_of.ensures.root c.scan.ensures.torn)
