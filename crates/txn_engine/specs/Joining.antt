-- What becomes of a pass and the seats that have retired where they come together.
use Rattle.std.specs.Prelude.{◌≡◌, ℕ, ◌+◌, ◌-◌, max, true, List, [], ◌∷◌, ◌++◌, map}
use Rattle.std.specs.List.{range_with_len}
use Rattle.std.specs.List.Sorted.{IsPermutation}
use Rattle.plain_data.specs.declared.entry.Entry.{Entry}
use Rattle.word_layout.specs.Size.{Size}
use Rattle.txn_engine.specs.Pass.{EngineView, PassView}
use Rattle.txn_engine.specs.Retired.{RetiredView}
use Rattle.seat_post.specs.Seats.{Bounds, Placed, all_taken}
use Rattle.seat_post.specs.Sharing.{no_bounds}
use Rattle.spare_numbers.specs.Spare.{with_all}

-- ---- what they leave together

abbrev pub AreOfEngine : EngineView → List RetiredView → Type 0
AreOfEngine engine [] = Unit {0}
AreOfEngine engine (r ∷ rs) = (r.engine ≡ engine) × AreOfEngine engine rs

-- every seat but the first, once
abbrev pub AreOthers : Size → List RetiredView → Type 0
AreOthers size rs = IsPermutation (map (λ r. r.seat) rs) (range_with_len 1 (size.seats - 1))

-- each seat of the engine is this one or was taken in
abbrev pub IsLast : PassView → Type 0
IsLast p = all_taken p.shared.size.seats p.seat p.others.taken_in ≡ true

-- the logs one after another; the sum of the refusals; the greatest of the clocks and of the minima met; and the spare numbers, each
-- once
abbrev pub logs_of : List RetiredView → List Entry
logs_of [] = []
logs_of (r ∷ rs) = r.log ++ logs_of rs

abbrev pub refusals_of : List RetiredView → ℕ
refusals_of [] = 0
refusals_of (r ∷ rs) = r.refusals + refusals_of rs

abbrev pub greatest_clock_of : ℕ → List RetiredView → ℕ
greatest_clock_of clock [] = clock
greatest_clock_of clock (r ∷ rs) = greatest_clock_of (max clock r.clock) rs

abbrev pub greatest_met_of : ℕ → List RetiredView → ℕ
greatest_met_of met [] = met
greatest_met_of met (r ∷ rs) = greatest_met_of (max met r.met) rs

abbrev pub spare_of : List ℕ → List RetiredView → List ℕ
spare_of rids [] = rids
spare_of rids (r ∷ rs) = spare_of (with_all rids r.spare) rs

-- the seats that are taken in; with the first, what is known of lists is forgotten, and where versions were linked
abbrev pub taken_of : List ℕ → List RetiredView → List ℕ
taken_of taken_in [] = taken_in
taken_of taken_in (r ∷ rs) = taken_of (taken_in ++ r.seat ∷ r.others.taken_in) rs

abbrev pub bounds_joined : Bounds → List RetiredView → Bounds
bounds_joined bounds [] = bounds
bounds_joined bounds (r ∷ rs) = no_bounds

abbrev pub placed_of : List Placed → List RetiredView → List Placed
placed_of placed [] = placed
placed_of placed (r ∷ rs) = []

-- what was given out is spare again
abbrev pub with_numbers_back : PassView → PassView
with_numbers_back p = record p { spare = p.given ++ p.spare; given = [] }

-- the pass with one seat taken in, but for its snapshot
abbrev pub joined : PassView → RetiredView → PassView
joined p r = record p {
  post = record p.post {
    clock = max p.clock r.clock;
    others = record p.others { taken_in = p.others.taken_in ++ r.seat ∷ r.others.taken_in };
    bounds = no_bounds;
    log = p.log ++ r.log;
    placed = [];
    met = max p.met r.met;
  };
  spare = with_all p.spare r.spare;
}

-- the seat that is alone when all of them are taken in, but for its snapshot
abbrev pub come_together : PassView → List RetiredView → PassView
come_together p rs = record p {
  post = record p.post {
    clock = greatest_clock_of p.clock rs;
    others = record p.others { taken_in = taken_of p.others.taken_in rs };
    bounds = bounds_joined p.bounds rs;
    log = p.log ++ logs_of rs;
    placed = placed_of p.placed rs;
    met = greatest_met_of p.met rs;
  };
  boost = 0;
  queue = [];
  spare = spare_of (p.given ++ p.spare) rs;
  given = [];
}
