use Rattle.std.proofs.Common.{ltb, sym, ap}
use Rattle.hash_index.proofs.Words.{length-pairs_of}
use Rattle.hash_index.proofs.node.has_room.Goals as goal

pub returns : goal.returns
returns c = ap (λ n. ltb n 14) (sym (length-pairs_of c.args.words.now c.told-words c.requires))
