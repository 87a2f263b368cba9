-- What callers see of a pass, and what its calls make of it.
use Rattle.std.specs.Prelude.{◌≡◌, ℕ, ◌+◌, ◌-◌, ◌/◌, ◌^◌, ◌<◌, ◌≤◌, min, List, [], ◌∷◌, ◌++◌, Bool, true, false, Option, None, Some, MatchOption, ◌⊎◌}
use Rattle.number_queue.specs.declared.number.Number.{Number}

-- A pass: the limits of its numbers, which are those from `fixed` on and below `records`; the numbers that it put into the queue, and those that
-- it took out; the one of these that it still has, since it was taken too early; and how often an offer or a taking was refused.
pub record NumberPassView : Type 0 where
  pub fixed : ℕ
  pub records : ℕ
  pub put : List Number
  pub taken : List Number
  pub waiting : Option Number
  pub refusals : ℕ

abbrev pub first_number_pass : (fixed records : ℕ) → NumberPassView
first_number_pass fixed records = record { fixed = fixed; records = records; put = []; taken = []; waiting = None; refusals = 0 }

-- the number is within the limits
abbrev pub IsWithin : NumberPassView → Number → Type 0
IsWithin v number = (v.fixed ≤ number.rid) × (number.rid < v.records)

abbrev pub AreSameLimits : NumberPassView → NumberPassView → Type 0
AreSameLimits v w = (w.fixed ≡ v.fixed) × (w.records ≡ v.records)

-- an offer or a taking was refused; the count stands still at its end
abbrev pub refused : NumberPassView → NumberPassView
refused v = record v { refusals = min (v.refusals + 1) (2 ^ 64 - 1) }

-- this number came out of the queue
abbrev pub with_taken : NumberPassView → Number → NumberPassView
with_taken v number = record v { taken = v.taken ++ number ∷ [] }

-- a number is offered: it stands in the queue, or the offer was refused
abbrev pub Offers : Number → NumberPassView → NumberPassView → Bool → Type 0
Offers number v w true = w ≡ record v { put = v.put ++ number ∷ [] }
Offers number v w false = w ≡ refused v

-- A number is taken for a transaction of this stamp: the one that waits, or one that comes out of the queue. It is answered where it may be
-- used there. Else it waits, or is none of the limits; or none came.
pub data TakesFor (stamp : ℕ) (v w : NumberPassView) (answer : Option ℕ) : Type 0 where
  had : (number : Number) → v.waiting ≡ Some number → number.since < stamp → IsWithin v number → w ≡ record v { waiting = None } → answer ≡ Some number.rid → TakesFor stamp v w answer
  came : (number : Number) → v.waiting ≡ None → number.since < stamp → IsWithin v number → w ≡ with_taken v number → answer ≡ Some number.rid → TakesFor stamp v w answer
  waits : (number : Number) → v.waiting ≡ Some number → stamp ≤ number.since → w ≡ refused v → answer ≡ None → TakesFor stamp v w answer
  came_early : (number : Number) → v.waiting ≡ None → stamp ≤ number.since → IsWithin v number → w ≡ refused (record (with_taken v number) { waiting = Some number }) → answer ≡ None → TakesFor stamp v w answer
  came_foreign : (number : Number) → v.waiting ≡ None → (IsWithin v number → ⊥) → w ≡ refused (with_taken v number) → answer ≡ None → TakesFor stamp v w answer
  none_came : v.waiting ≡ None → w ≡ refused v → answer ≡ None → TakesFor stamp v w answer

-- the reading of a clock above that of the stamp up to which the number that waits may have been used
abbrev pub reading_after : Option Number → ℕ
reading_after None = 0
reading_after (Some number) = number.since / 256 + 1

abbrev pub reading_for : NumberPassView → ℕ
reading_for v = reading_after v.waiting

-- the number that waits is offered: it stands in the queue, or waits on
abbrev pub PutsBack : NumberPassView → NumberPassView → Type 0
PutsBack v w = MatchOption v.waiting (w ≡ v) (λ number. (w ≡ record v { put = v.put ++ number ∷ []; waiting = None }) ⊎ (w ≡ refused v))
