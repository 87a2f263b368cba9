use Rattle.std.proofs.Common.{◌+◌, ◌*◌, ◌∷◌, [], ◌++◌, ◌∙◌, get_or, sym, ap, arith}
use Rattle.hash_index.proofs.Words.{pairs_more, rid_within}
use Rattle.hash_index.proofs.node.all_pairs.Goals as goal

pub overflow_cast-rid : goal.overflow_cast-rid
overflow_cast-rid c =
    let low = rid_within c.args.words.now c.loop-i.i c.args.size c.told-words (omega arith) (omega arith) c.requires.records in
    omega arith

pub loop-i-preserved : goal.loop-i-preserved
loop-i-preserved c =
    let more = pairs_more c.args.words.now c.loop-i.i c.told-words (omega arith) in
    c.push.ensures.items ∙ ap (λ xs. xs ++ (get_or c.args.words.now (2 + 2 * c.loop-i.i) 0, get_or c.args.words.now (3 + 2 * c.loop-i.i) 0) ∷ []) c.loop-i.invariant ∙ sym more
