-- The words of a table lie within it, and no two of them have one number.
use Rattle.std.proofs.Common.{◌≡◌, ◌<◌, ◌^◌, refl, ap, arith}
use Rattle.word_layout.specs.Size.{Size, IsSize, words}
use Rattle.word_layout.specs.Name.{published_write, published_read, min_write, min_read, head, lock, floor, status, wts, rts, next, cell, LiesWithin, AreApart}

-- every number that a layout deals with fits 32 bits
pub words-fits : (z : Size) → IsSize z → words z < 2 ^ 32
words-fits z sized = omega arith

pub word_of-below : (z : Size) → LiesWithin z
word_of-below z (published_write s) named = omega arith
word_of-below z _ named = omega arith

pub word_of-injective : (z : Size) → AreApart z
word_of-injective z (published_write s) (published_write t) h k e = ap published_write (omega arith)
word_of-injective z (published_read s) (published_read t) h k e = ap published_read (omega arith)
word_of-injective z min_write min_write h k e = refl
word_of-injective z min_read min_read h k e = refl
word_of-injective z (head r) (head q) h k e = ap head (omega arith)
word_of-injective z (lock r) (lock q) h k e = ap lock (omega arith)
word_of-injective z (floor r) (floor q) h k e = ap floor (omega arith)
word_of-injective z (status p) (status q) h k e = ap status (omega arith)
word_of-injective z (wts p) (wts q) h k e = ap wts (omega arith)
word_of-injective z (rts p) (rts q) h k e = ap rts (omega arith)
word_of-injective z (next p) (next q) h k e = ap next (omega arith)
word_of-injective z (cell p i) (cell q j) h k e =
    let same_place : p ≡ q = omega arith in let same_cell : i ≡ j = omega arith in cc
word_of-injective z n m h k e = absurd (omega arith)
