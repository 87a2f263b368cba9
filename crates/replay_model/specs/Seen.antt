-- What a pass over an order keeps of the elements that it has passed.
use Rattle.std.specs.Prelude.{◌≡◌, ℕ, ◌<◌, ◌≤◌, Bool, true, false, List, Option, IfSome}
use Rattle.std.specs.declared.cmp.Ordering.{Ordering}
use Rattle.std.specs.Ordering.{nat_cmp, bool_cmp, ordering_then}
use Rattle.std.specs.Map.{lookup}
use Rattle.std.specs.BTreeMap.{is_at}
use Rattle.replay_model.specs.declared.outcome.Placed.{Placed}
use Rattle.replay_model.specs.Order.{Precedes}

-- an element is no writer, or stands above the last stamp of one
abbrev pub IsAbove : Option ℕ → Placed → Type 0
IsAbove last placed = placed.snap ≡ false → IfSome last (λ stamp. stamp < placed.stamp)

-- an element may stand behind writers of which the greatest stamp is given, and behind the last snapshot
pub record IsBehind (writer : Option ℕ) (snap : Option Placed) (placed : Placed) : Type 0 where
  pub behind_writers : placed.snap ≡ true → IfSome writer (λ stamp. stamp ≤ placed.stamp)
  pub before_writers : placed.snap ≡ false → IfSome snap (λ a. a.stamp < placed.stamp)
  pub among_snaps : placed.snap ≡ true → IfSome snap (λ a. Precedes a placed)

-- lanes stand by number, and in each the writers before the snapshots
abbrev pub kind_cmp : ℕ × Bool → ℕ × Bool → Ordering
kind_cmp x y = ordering_then (nat_cmp x.0 y.0) (bool_cmp x.1 y.1)

-- an element stands behind the last number of its lane and kind
abbrev pub IsKept : List ((ℕ × Bool) × ℕ) → Placed → Type 0
IsKept last placed = IfSome (lookup (is_at (kind_cmp (placed.lane, placed.snap))) last) (λ number. number < placed.number)
