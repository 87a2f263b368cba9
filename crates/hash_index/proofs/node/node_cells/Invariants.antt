use Rattle.std.proofs.Common.{◌≡◌, ◌-◌, ◌*◌, [], ◌∷◌, ◌++◌, length, take}
use lib.ListN.{replicate}
use Rattle.record_store.specs.Links.{link_word}
use Rattle.hash_index.specs.Node.{pair_words}
use Rattle.hash_index.proofs.node.node_cells.Given as goal

-- the words with the pairs written so far, and zeros in place of the others
abbrev pub invariant-loop-i : goal.invariant-loop-i
invariant-loop-i l =
    l.words ≡ length l.pairs.items ∷ link_word l.fn.next ∷ (pair_words (take l.i l.pairs.items) ++ (replicate (28 - 2 * l.i) 0 ++ l.position ∷ 0 ∷ []))
