use Rattle.std.proofs.Common.{Ok, ap, ◌∙◌}
use Rattle.record_store.proofs.Refusals.{IfTorn-map, torn_moved}
use Rattle.stored_tables.proofs.Tearing.{chain_names, chain_row_behind}
use Rattle.stored_tables.proofs.Runs.{looks_value, looks_moved}
use Rattle.stored_tables.proofs.Finding.{got, found_row, no_row_there}
use Rattle.stored_tables.proofs.reading.find_row.Goals as goal

pub returns-in_err-rid-clause-looks : goal.returns-in_err-rid-clause-looks
returns-in_err-rid-clause-looks g c =
    looks_moved _ c.args.store.now c.get.new.store c.from_residual.result c.get.result c.in_err-rid.field-0.0
    (got c.args.table c.base_of.result c.args.key c.args.store.now c.get.new.store c.get.result c.requires.table c.base_of.ensures.base
    c.get.ensures.ok c.get.ensures.torn c.get.ensures.walk.by)
    c.in_err-rid.was c.from_residual.ensures.1

pub returns-in_default-clause-looks : goal.returns-in_default-clause-looks
returns-in_default-clause-looks g c =
    looks_value _ c.args.store.now c.get.new.store c.get.result _ _
    (got c.args.table c.base_of.result c.args.key c.args.store.now c.get.new.store c.get.result c.requires.table c.base_of.ensures.base
    c.get.ensures.ok c.get.ensures.torn c.get.ensures.walk.by) c.in_ok-rid.was
    (λ state held agrees stands is. (let none = is
    ∙ c.in_default.is in (none, no_row_there _ _ _ none (stands.tied.rows c.args.table c.args.key c.requires.table))))

pub returns-in_err-row-clause-looks : goal.returns-in_err-row-clause-looks
returns-in_err-row-clause-looks g c =
    looks_moved _ c.args.store.now c.row_at.new.store c.from_residual-in_err-row.result c.row_at.result c.in_err-row.field-0.0
    (found_row c.args.table c.args.key c.in-Some.rid c.args.store.now c.get.new.store c.row_at.new.store c.get.result c.row_at.result
    c.requires.table
    (got c.args.table c.base_of.result c.args.key c.args.store.now c.get.new.store c.get.result c.requires.table c.base_of.ensures.base
    c.get.ensures.ok c.get.ensures.torn c.get.ensures.walk.by) (c.in_ok-rid.was
    ∙ ap Ok c.in-Some.is) c.row_at.ensures.looks) c.in_err-row.was c.from_residual-in_err-row.ensures.1

pub returns-clause-looks : goal.returns-clause-looks
returns-clause-looks g c =
    looks_value _ c.args.store.now c.row_at.new.store c.row_at.result _ _
    (found_row c.args.table c.args.key c.in-Some.rid c.args.store.now c.get.new.store c.row_at.new.store c.get.result c.row_at.result
    c.requires.table
    (got c.args.table c.base_of.result c.args.key c.args.store.now c.get.new.store c.get.result c.requires.table c.base_of.ensures.base
    c.get.ensures.ok c.get.ensures.torn c.get.ensures.walk.by) (c.in_ok-rid.was
    ∙ ap Ok c.in-Some.is) c.row_at.ensures.looks) c.in_ok-row.was
    (λ state held agrees stands is. is)

pub returns-in_err-rid-clause-tears : goal.returns-in_err-rid-clause-tears
returns-in_err-rid-clause-tears g c =
    torn_moved c.from_residual.result c.get.result c.in_err-rid.field-0.0 _ c.in_err-rid.was c.from_residual.ensures.1
    (chain_names c.args.table c.base_of.result c.args.key (g.S.RecordRead.meaning c.args.store.now) (g.S.RecordRead.meaning c.get.new.store)
    c.get.result c.base_of.ensures.base c.get.ensures.torn)

pub returns-in_err-row-clause-tears : goal.returns-in_err-row-clause-tears
returns-in_err-row-clause-tears g c =
    torn_moved c.from_residual-in_err-row.result c.row_at.result c.in_err-row.field-0.0 _ c.in_err-row.was c.from_residual-in_err-row.ensures.1
    (IfTorn-map c.row_at.result
    (λ torn t. chain_row_behind c.args.table c.base_of.result c.args.key c.in-Some.rid torn _ (g.S.RecordRead.meaning c.args.store.now)
    (g.S.RecordRead.meaning c.get.new.store) (g.S.RecordRead.meaning c.row_at.new.store) c.get.ensures.walk.by.only
    c.row_at.ensures.looks.by.only c.base_of.ensures.base c.in_ok-rid.ensures.ok c.in-Some.is t) c.row_at.ensures.tears)
