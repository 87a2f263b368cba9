use Rattle.std.proofs.Common.{◌<◌, arith}
use Rattle.std.proofs.lemmas.List.Elements.{All-push, All-same}
use Rattle.hash_index.proofs.Words.{pairs_more, rid_within}
use Rattle.hash_index.proofs.node.are_within.Goals as goal

pub returns-then-rid-from : goal.returns-then-rid-from
returns-then-rid-from c = λ all.
    let low = rid_within c.args.words.now c.loop-i.i c.args.size c.told-words (omega arith) (omega arith) all in
    omega arith

pub loop-i-preserved : goal.loop-i-preserved
loop-i-preserved c =
    let more = pairs_more c.args.words.now c.loop-i.i c.told-words (omega arith) in
    All-same (λ pair. pair.1 < c.args.size) _ _ more (All-push (λ pair. pair.1 < c.args.size) _ _ c.loop-i.invariant (omega arith))
