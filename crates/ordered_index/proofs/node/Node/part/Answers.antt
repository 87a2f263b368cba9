use Rattle.std.proofs.Common.{◌∙◌, arith}
use Rattle.ordered_index.proofs.Entries.{part_more}
use Rattle.ordered_index.proofs.Words.{key_of}
use Rattle.ordered_index.proofs.node.Node.part.Goals as goal

pub loop-i-preserved : goal.loop-i-preserved
loop-i-preserved c = record {
  items =
      c.push.ensures.items
      ∙ rw c.deref.ensures.0 (part_more c.args.self.now.entries.items c.loop-i.entries.items c.loop-i.i (key_of 0 0, 0) (omega arith) (omega arith) c.loop-i.invariant.items);
  long = omega (arith, c.push.ensures.len, c.loop-i.invariant.long);
}
