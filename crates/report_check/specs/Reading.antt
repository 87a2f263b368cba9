-- The head line that a line is, read word by word. It is a function, so that the order printed is one; what it gives is said by how
-- head lines are spelled, in a clause of the call that reads a report.
use Rattle.std.specs.Prelude.{ℕ, ◌+◌, ◌^◌, ◌==◌, ◌&&◌, nat_lt, if◌then◌else◌, List, take, drop, Option, None, Some, option_and_then, codes, decimal}
use Rattle.std.specs.List.{position}
use Rattle.std.specs.Option.{option_map}
use Rattle.std.specs.Str.{bytes_eq}
use Rattle.std.specs.Str.Parse.{digits_value}
use Rattle.replay_model.specs.declared.outcome.Cause.{Cause}
use Rattle.replay_model.specs.declared.outcome.Cause.TheVariants.{Exists, Missing, Over, Short, Unindexed}
use Rattle.report_check.specs.declared.head.Head.{Head}
use Rattle.report_check.specs.declared.head.Said.{Said}
use Rattle.report_check.specs.declared.head.Said.TheVariants.{Ran, Snap, Refused}

infixl 10 ◌>>=◌
abbrev pub ◌>>=◌ : {A B : Type 0} → Option A → (A → Option B) → Option B
o >>= f = option_and_then f o

-- what stands before the first such byte and behind it
abbrev pub cut : ℕ → List ℕ → Option (List ℕ × List ℕ)
cut c bytes = option_map (λ at. (take at bytes, drop (at + 1) bytes)) (position (λ b. b == c) bytes)

-- a number of 64 bits, without a sign or a leading zero
unfoldable pub number_of : List ℕ → Option ℕ
number_of word = if bytes_eq word (decimal (digits_value 10 word)) && nat_lt (digits_value 10 word) (2 ^ 64)
    then Some (digits_value 10 word) else None

-- of 32 bits
unfoldable pub small_number_of : List ℕ → Option ℕ
small_number_of word = do
  number ← number_of word
  if nat_lt number (2 ^ 32) then Some number else None

abbrev pub cause_of : List ℕ → Option Cause
cause_of word =
    if bytes_eq word (codes "exists") then Some Exists
    else if bytes_eq word (codes "missing") then Some Missing
    else if bytes_eq word (codes "over") then Some Over
    else if bytes_eq word (codes "short") then Some Short
    else if bytes_eq word (codes "unindexed") then Some Unindexed
    else None

unfoldable pub refusal_of : List ℕ → Option Said
refusal_of text = do
  word ← cut 32 text
  words ← cut 32 word.1
  command ← small_number_of words.0
  cause ← cause_of words.1
  if bytes_eq word.0 (codes "no") then Some (Refused command cause) else None

unfoldable pub said_of : List ℕ → Option Said
said_of text = if bytes_eq text (codes "ok") then Some Ran else if bytes_eq text (codes "snap") then Some Snap else refusal_of text

unfoldable pub head_of : List ℕ → Option Head
head_of text = do
  a ← cut 32 text
  stamp ← number_of a.0
  b ← cut 46 a.1
  lane ← small_number_of b.0
  c ← cut 32 b.1
  number ← small_number_of c.0
  said ← said_of c.1
  Some (record { stamp = stamp; lane = lane; number = number; said = said })
