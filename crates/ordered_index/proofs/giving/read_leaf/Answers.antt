use Rattle.record_store.proofs.Refusals.{torn_moved, IfTorn-map}
use Rattle.plain_data.specs.State.{overlay}
use Rattle.ordered_index.proofs.Beside.{no_leaf_read}
use Rattle.ordered_index.proofs.giving.read_leaf.Goals as goal

pub returns-in_err-read_node-clause-torn : goal.returns-in_err-read_node-clause-torn
returns-in_err-read_node-clause-torn g c =
    torn_moved c.from_residual.result c.read_node.result c.in_err-read_node.field-0.0 _ c.in_err-read_node.was c.from_residual.ensures.1
    (IfTorn-map c.read_node.result (λ rid torn. (torn.0, λ state agrees. no_leaf_read c.args.size c.args.entry (overlay (g.S.RecordRead.meaning c.args.store.now).writes state) (torn.1 state agrees))) c.read_node.ensures.torn)
