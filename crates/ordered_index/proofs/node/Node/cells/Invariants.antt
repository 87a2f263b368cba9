use Rattle.std.proofs.Common.{◌≡◌, ◌-◌, ◌*◌, [], ◌∷◌, ◌++◌, length, take}
use lib.ListN.{replicate}
use Rattle.record_store.specs.Links.{link_word}
use Rattle.ordered_index.specs.Node.{entry_words, kind_word}
use Rattle.ordered_index.proofs.node.Node.cells.Given as goal

-- the words with the entries written so far, and zeros in place of the others
abbrev pub invariant-loop-i : goal.invariant-loop-i
invariant-loop-i l =
    l.words ≡ kind_word l.self.kind ∷ length l.self.entries.items ∷ l.self.low.high ∷ l.self.low.low ∷ (entry_words (take l.i l.self.entries.items) ++ (replicate (27 - 3 * l.i) 0 ++ link_word l.self.next ∷ []))
