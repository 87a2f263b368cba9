use Rattle.record_store.proofs.Going.{write_refused, write_done}
use Rattle.ordered_index.proofs.giving.free_node.Goals as goal

pub returns-in_err-write-clause-walk : goal.returns-in_err-write-clause-walk
returns-in_err-write-clause-walk g c =
    write_refused _ c.args.store.now c.write.new.self c.args.rid _ c.in_err-write.field-0.0 c.write.result c.from_residual.result c.in_err-write.was
    c.write.ensures.gives c.write.ensures.err c.write.ensures.rest c.from_residual.ensures.1

pub returns-clause-walk : goal.returns-clause-walk
returns-clause-walk g c = write_done _ c.args.store.now c.write.new.self c.args.rid _ c.write.result _ c.write.ensures.gives c.in_ok-write.ensures.ok c.write.ensures.rest (tt, tt)
