-- The words of the cells of one place, which lie side by side.
use Rattle.std.proofs.Common.{◌≡◌, ℕ, ◌+◌, ◌<◌, arith}
use Rattle.word_layout.specs.Size.{Size, IsSize, places}
use Rattle.word_layout.specs.Name.{cell, word_of}

pub cell_word : (z : Size) (p i first : ℕ) → first ≡ word_of z (cell p 0) → first + i ≡ word_of z (cell p i)
cell_word z p i first is = omega arith

pub cell_in_range : (z : Size) (p i first : ℕ) → IsSize z → p < places z → i < 32 → first ≡ word_of z (cell p 0) → first + i < 4294967296
cell_in_range z p i first size inside room is =
    let seats = size.seats_in_range in let records = size.records_in_range in let spare = size.spare_in_range in omega arith
