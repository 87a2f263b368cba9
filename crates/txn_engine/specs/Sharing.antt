-- What becomes of the seat that is alone where it is shared: one pass for each seat.
use Rattle.std.specs.Prelude.{◌≡◌, ◌⊎◌, ℕ, None, ◌+◌, ◌-◌, ◌*◌, ◌/◌, ◌≤◌, nat_lt, false, List, [], ◌∷◌, ◌++◌, map, if◌then◌else◌, All}
use Rattle.std.specs.List.{range_with_len}
use Rattle.word_layout.specs.Name.{published_write, min_write}
use Rattle.word_layout.specs.Size.{Size}
use Rattle.core_rule.specs.View.{Load, sharing}
use Rattle.version_pool.specs.Takes.{IsLostOn}
use Rattle.txn_engine.specs.Pass.{PassView, bare, observing}
use Rattle.seat_post.specs.Observing.{RaisesTo, with_loss}
use Rattle.seat_post.specs.Seats.{Others, Bounds, Observed, Placed, nothing_observed}
use Rattle.seat_post.specs.Sharing.{no_bounds, announced_at, made_next}
use Rattle.spare_numbers.specs.Spare.{every}

-- ---- the pass before it makes others

-- The bound of its clock is published and is the greatest minimum met, and what was given out is spare again. A snapshot there has
-- ended where that bound was not published before.
abbrev pub announced : PassView → PassView
announced p = record p { post = announced_at p.post; spare = p.given ++ p.spare; given = [] }

-- ---- making the others

-- the seats below this number are made; while that is seat 0 alone, nothing is changed
abbrev pub others_made : (made : ℕ) → Others → Others
others_made made others = if nat_lt 1 made then record others { splitting = sharing made } else others

abbrev pub bounds_made : (made : ℕ) → Bounds → Bounds
bounds_made made bounds = if nat_lt 1 made then no_bounds else bounds

abbrev pub placed_made : (made : ℕ) → List Placed → List Placed
placed_made made placed = if nat_lt 1 made then [] else placed

abbrev pub with_made : (made : ℕ) → PassView → PassView
with_made made p = record p { post = record p.post { others = others_made made p.others; bounds = bounds_made made p.bounds; placed = placed_made made p.placed } }

-- the pass of another seat, with its share of the spare numbers, but for its snapshot
abbrev pub share_at : PassView → (seat : ℕ) → PassView
share_at p seat = record {
  post = record (made_next p.post) { seat = seat };
  fixed = p.fixed;
  boost = 0;
  queue = [];
  spare = every p.shared.size.seats seat p.spare;
  given = [];
  refusals = 0;
  commits = 0;
  dead = None;
  counted = false;
}

-- that of seat 0, with its share, but for its snapshot, for what its steps came upon, and for where its versions were linked
abbrev pub first_share : PassView → PassView
first_share p = bare (record (with_made p.shared.size.seats p) { spare = every p.shared.size.seats 0 p.spare })

-- the passes of all seats, in their order, but for these
abbrev pub shares_of : PassView → List PassView
shares_of p = first_share p ∷ map (share_at p) (range_with_len 1 (p.shared.size.seats - 1))

abbrev pub shares : PassView → List PassView
shares p = shares_of (announced p)

-- The spare places are dealt out by rising number, as many to each seat. This one is before those of a seat; before those of seat 0 it is an
-- inline place.
abbrev pub before_share : Size → (seat : ℕ) → ℕ
before_share z seat = z.records + seat * (z.spare / z.seats) - 1

-- where three seats or more share the places, the one before its share was met not free, by an exchange that was lost
pub record MeetsTaken (p : PassView) (before after' : Observed) : Type 0 where
  pub three : 3 ≤ p.shared.size.seats
  pub exchange : Load
  pub not_free : IsLostOn (before_share p.shared.size p.seat) exchange
  pub lost : after' ≡ with_loss before exchange

-- it looks for places from its share on: the place before was taken and given back, or was left, and all is as before; or it was met not
-- free
abbrev pub LooksInShare : PassView → PassView → Type 0
LooksInShare p q = (q ≡ p) ⊎ (MeetsTaken p p.observed q.observed × (q ≡ observing p q.observed))

-- its steps came upon nothing, or upon the place before its share, which was not free
abbrev pub SawAtMost : PassView → Type 0
SawAtMost p = (p.observed ≡ nothing_observed) ⊎ MeetsTaken p nothing_observed p.observed

-- the steps of seat 0 have raised `min_wts` by the published write words, the own one among them as it was published before, and those of the
-- others came upon no more than the place before their share
pub record HaveSeen (p first : PassView) (rest : List PassView) : Type 0 where
  pub raised : RaisesTo published_write min_write p.shared.size.seats p.seat first.published first.met p.observed first.observed
  pub others : All SawAtMost rest
