-- The generated input, line by line.
use Rattle.std.specs.Prelude.{ℕ, zero, suc, ◌+◌, ◌++◌, List, [], ◌∷◌, codes, decimal}
use Rattle.std.specs.List.{flat_map}
use Rattle.replay_model.specs.Report.{line}
use Rattle.load_gen.specs.declared.generator.Transfer.{Transfer}
use Rattle.load_gen.specs.Generator.{behind_transfer, transfer_at}

-- the lines one after another, each with a line feed at its end
unfoldable pub spelled : List (List ℕ) → List ℕ
spelled lines = flat_map line lines

-- a keyword, an account and an amount
abbrev pub change_line : List ℕ → ℕ → ℕ → List ℕ
change_line keyword account amount = keyword ++ codes " accounts " ++ decimal account ++ codes " " ++ decimal amount

-- the block of a transfer
abbrev pub transfer_lines : Transfer → List (List ℕ)
transfer_lines t = codes "txn" ∷ change_line (codes "sub") t.from t.amount ∷ change_line (codes "add") t.to t.amount ∷ codes "end" ∷ []

-- the rows of the accounts from 1 to this number
unfoldable pub account_lines : ℕ → List (List ℕ)
account_lines zero = []
account_lines (suc n) = account_lines n ++ change_line (codes "row") (n + 1) 1000000 ∷ []

-- the state behind so many transfers, and their blocks
unfoldable pub behind_transfers : ℕ → ℕ → ℕ
behind_transfers zero state = state
behind_transfers (suc n) state = behind_transfer (behind_transfers n state)

unfoldable pub blocks_lines : ℕ → ℕ → List (List ℕ)
blocks_lines zero state = []
blocks_lines (suc n) state = blocks_lines n state ++ transfer_lines (transfer_at (behind_transfers n state))

-- the state behind so many lanes of so many blocks each, and their lines
unfoldable pub behind_lanes : ℕ → ℕ → ℕ → ℕ
behind_lanes blocks zero state = state
behind_lanes blocks (suc n) state = behind_transfers blocks (behind_lanes blocks n state)

unfoldable pub lanes_lines : ℕ → ℕ → ℕ → List (List ℕ)
lanes_lines blocks zero state = []
lanes_lines blocks (suc n) state = lanes_lines blocks n state ++ codes "lane" ∷ blocks_lines blocks (behind_lanes blocks n state)

-- 64 accounts, and 8 lanes of 500 blocks each; the first state is the seed
unfoldable pub lines : ℕ → List (List ℕ)
lines seed = (codes "cicada 1" ∷ codes "table accounts" ∷ []) ++ account_lines 64 ++ lanes_lines 500 8 seed ++ codes "done" ∷ []
