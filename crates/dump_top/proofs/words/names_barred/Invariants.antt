use Rattle.std.proofs.Common.{All, take}
use Rattle.std.specs.Prelude.{string_bytes}
use Rattle.dump_top.specs.Words.{IsBarred}
use Rattle.dump_top.proofs.words.names_barred.Given as goal

-- none of the words so far
abbrev pub invariant-loop-word : goal.invariant-loop-word
invariant-loop-word l = All (λ word. IsBarred (string_bytes word) → ⊥) (take l.word-index l.words)
