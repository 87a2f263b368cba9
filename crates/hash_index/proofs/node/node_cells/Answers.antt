use Rattle.std.proofs.Common.{◌∙◌, arith}
use Rattle.hash_index.proofs.Words.{words_more, words_all}
use Rattle.hash_index.proofs.node.node_cells.Goals as goal

pub loop-i-init : goal.loop-i-init
loop-i-init c = cc

pub loop-i-preserved : goal.loop-i-preserved
loop-i-preserved c = let more = words_more c.loop-i.words _ _ c.loop-i.i c.args.pairs.now.items _ (omega arith) (omega arith) c.loop-i.invariant in rw (c.from-in-loop-i.ensures, c.deref.ensures.0) more

pub returns : goal.returns
returns c = c.new.ensures ∙ words_all c.loop-i.words c.args.pairs.now.items c.args.next c.args.position c.loop-i.i (omega arith) c.loop-i.invariant
