-- Counting places: what follows for a seat that is alone where it has met each usable pool place not free.
use Rattle.std.specs.Prelude.{◌≡◌, ℕ, zero, suc, ◌+◌, ◌<◌, ◌≤◌, List, drop, length, Option, Some, None}
use Rattle.word_layout.specs.Name.{status}
use Rattle.word_layout.specs.Size.{Size, IsUsable, usable_places}
use Rattle.core_rule.specs.View.{View, Load, Seen, Bound, no_item}
use Rattle.core_rule.specs.Views.{Among, OthersTaken}
use Rattle.core_rule.specs.Searching.{Rests, known_of}

-- the exchanges that the seat lost, or loads in their stead, after it had given a place back last
abbrev pub recent : Seen → List Load
recent s = drop s.since s.lost

-- one of these was on the status of this place
pub record IsMet (place : ℕ) (lost : List Load) : Type 0 where
  pub exchange : Load
  pub among : Among exchange lost
  pub word : exchange.word ≡ status place

-- the sum over the numbers below k
abbrev pub total : (ℕ → ℕ) → ℕ → ℕ
total f zero = 0
total f (suc k) = f k + total f k

abbrev pub IsWithin : Option Bound → ℕ → Type 0
IsWithin None n = ⊥
IsWithin (Some b) n = b.outside ≤ n

-- of each record a bound on its versions outside the inline place is known, and these come to n at most
pub record AtMost (records : ℕ) (known : ℕ → Option Bound) (n : ℕ) : Type 0 where
  pub bounds : ℕ → ℕ
  pub within : (r : ℕ) → r < records → IsWithin (known r) (bounds r)
  pub sum : total bounds records ≤ n

-- where the seat is alone, marks and collects nothing, and has met each usable pool place not free since it gave one back, there are
-- no more usable pool places than linked versions outside inline places and places held
abbrev pub ReckonsAt : Size → View → Type 0
ReckonsAt z v =
    OthersTaken z.seats v.number v.splitting v.clock.taken_in
    → Rests v.work.search
    → (v.work.item ≡ no_item)
    → ((p : ℕ) → IsUsable z p → IsMet p (recent v.seen))
    → (n : ℕ)
    → AtMost z.records (known_of v.counts) n
    → usable_places z ≤ n + length v.places.held

abbrev pub Reckons : View → Type 0
Reckons v = ReckonsAt v.size v
