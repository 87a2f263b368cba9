use Rattle.std.proofs.Common.{arith}
use Rattle.ordered_index.proofs.Words.{begins_of, node_is}
use Rattle.ordered_index.proofs.standing.is_node.Goals as goal

pub returns-then-not-begins-clause-no_node : goal.returns-then-not-begins-clause-no_node
returns-then-not-begins-clause-no_node c = λ no node holds sound. c.if-not-begins.ensures (begins_of c.args.words.now c.in-Some.kind node c.in-Some.ensures.kind holds sound.first)

pub returns-clause-node : goal.returns-clause-node
returns-clause-node c = λ yes.
    let next = rw yes at c.names_next.ensures in
    node_is c.args.size c.args.words.now c.in-Some.kind c.told-words c.in-Some.ensures.kind c.if-words-gt9.false (omega arith) c.if-not-begins.ensures c.if-not-are_in_order.ensures next
