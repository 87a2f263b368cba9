use Rattle.stored_tables.proofs.OneRow.{found_alone, none_alone}
use Rattle.stored_tables.proofs.Runs.{looks_moved, looks_value}
use Rattle.stored_tables.proofs.rows.get_row.Goals as goal

pub returns-in_err-found-clause-looks : goal.returns-in_err-found-clause-looks
returns-in_err-found-clause-looks g c =
    looks_moved _ c.args.store.now c.find_row.new.store c.from_residual.result c.find_row.result c.in_err-found.field-0.0
    c.find_row.ensures.looks c.in_err-found.was c.from_residual.ensures.1

pub returns-in-Some-clause-looks : goal.returns-in-Some-clause-looks
returns-in-Some-clause-looks g c =
    looks_value _ c.args.store.now c.find_row.new.store c.find_row.result _ _ c.find_row.ensures.looks c.in_ok-found.was
    (λ state held agrees stands found. found_alone c.args.table c.args.key _ c.in-Some.found state held c.in-Some.is found)

pub returns-in-None-clause-looks : goal.returns-in-None-clause-looks
returns-in-None-clause-looks g c =
    looks_value _ c.args.store.now c.find_row.new.store c.find_row.result _ _ c.find_row.ensures.looks c.in_ok-found.was
    (λ state held agrees stands found. none_alone c.args.table c.args.key _ state held c.in-None.is found)
