-- The clock of a seat, and the views after it drew a stamp, published a bound, and looked at another clock.
use Rattle.std.specs.Prelude.{ℕ, ◌+◌, max, min, [], ◌∷◌, ◌++◌, None}
use Rattle.word_layout.specs.Name.{published_write}
use Rattle.stamp_base.specs.Limits.{end_of_stamps, greatest_adopted_clock}
use Rattle.stamp_base.specs.Stamp.{stamp_of, clock_of, bound_of_clock}
use Rattle.core_rule.specs.Stamps.{adopted}
use Rattle.core_rule.specs.View.{View, resting, writing, no_work}
use Rattle.clock_stamps.specs.Calls.{loaded}

-- the clock of the next stamp: above the last clock, and at least the reading as far as readings are adopted
abbrev pub drawn_clock : (clock reading : ℕ) → ℕ
drawn_clock clock reading = max (clock + 1) (min reading greatest_adopted_clock)

-- a stamp was drawn at this clock, is in flight and is published
abbrev pub drawn : View → ℕ → View
drawn v clock = record v {
  clock = record v.clock {
    clock = clock;
    drawn = stamp_of clock v.number;
    known = v.clock.known ++ stamp_of clock v.number ∷ [];
  };
  published = record v.published { write = stamp_of clock v.number };
  flight = writing (stamp_of clock v.number);
  work = no_work;
}

-- the bound of the clock is published, and nothing is in flight
abbrev pub rests : View → View
rests v = record v {
  published = record v.published { write = bound_of_clock v.clock.clock };
  flight = resting;
  work = no_work;
}

-- the published word of another seat was loaded, and its clock adopted
abbrev pub synchronised : View → (other word : ℕ) → View
synchronised v other word = record (loaded v (record { word = published_write other; number = word } ∷ [])) {
  clock = record v.clock { clock = adopted v.clock.clock word };
}

-- a stamp was heard, at a load of the own published word
abbrev pub heard : View → ℕ → View
heard v stamp = record (loaded v (record { word = published_write v.number; number = v.published.write } ∷ [])) {
  clock = record v.clock { clock = max v.clock.clock (clock_of stamp); known = v.clock.known ++ stamp ∷ [] };
}

-- end_of_stamps is published in both words, and nothing is in flight
abbrev pub closed : View → View
closed v = record v {
  published = record v.published { write = end_of_stamps; read = end_of_stamps };
  flight = resting;
  work = no_work;
  loaded_bound = None;
}
