-- The raise of a minimum, and the read stamp that is published from one.
use Rattle.std.specs.Prelude.{◌≡◌, ℕ, suc, ◌+◌, ◌<◌, ◌≤◌, max, min, List, [], ◌∷◌, ◌++◌, length, slice_index, None}
use Rattle.word_layout.specs.Name.{Name, min_write}
use Rattle.stamp_base.specs.Limits.{end_of_stamps}
use Rattle.core_rule.specs.View.{View, Load, Seen, no_scan, resting, no_work}
use Rattle.core_rule.specs.Views.{Has, IsAlone}
use Rattle.clock_stamps.specs.Calls.{loaded}

-- the least of these words, and end_of_stamps where there is none
abbrev pub least : List ℕ → ℕ
least [] = end_of_stamps
least (n ∷ ns) = min n (least ns)

-- the loads that found these numbers in the words of a family, by rising seat number from this seat on
abbrev pub loads_from : (ℕ → Name) → ℕ → List ℕ → List Load
loads_from family seat [] = []
loads_from family seat (n ∷ ns) = record { word = family seat; number = n } ∷ loads_from family (suc seat) ns

-- a call loaded the words of a family, raised a minimum to the least of them, and gave the minimum as it is at that
-- step; `own` is the seat's own word of the family
pub record Raises (family : ℕ → Name) (minimum : Name) (own : ℕ) (before : View) (result : ℕ) (after' : View) : Type 0 where
  -- the words loaded, of all seats once each
  pub words : List ℕ
  pub each_seat : length words ≡ before.size.seats
  pub own_word : slice_index words before.number ≡ own
  -- the word of a seat that was taken in is end_of_stamps, and while no other seat is open the own word is the least
  pub taken_in : (seat : ℕ) → seat < before.size.seats → Has seat before.clock.taken_in → slice_index words seat ≡ end_of_stamps
  pub alone : IsAlone before → least words ≡ own
  -- the minimum as the step found it, behind them
  pub found : ℕ
  pub seen : after'.seen ≡ record before.seen {
    loads = before.seen.loads ++ loads_from family 0 words ++ record { word = minimum; number = found } ∷ [];
  }
  pub value : result ≡ max found (least words)
  pub within : result ≤ own

-- the view after a raise of `min_wts` that met this minimum, and of `min_rts` that reached this one
abbrev pub raised_write : View → (met : ℕ) → Seen → View
raised_write v met seen = record v {
  clock = record v.clock { met = met };
  raises = record v.raises { writes = no_scan };
  seen = seen;
}

abbrev pub raised_read : View → (reached : ℕ) → Seen → View
raised_read v reached seen = record v { raises = record v.raises { reads = no_scan }; reached = reached; seen = seen }

-- `min_wts` was loaded, and one less than it is published
abbrev pub bounded : View → (bound : ℕ) → View
bounded v bound = record (loaded v (record { word = min_write; number = bound + 1 } ∷ [])) {
  clock = record v.clock { met = bound + 1 };
  published = record v.published { read = bound };
  flight = resting;
  work = no_work;
  loaded_bound = None;
}
