-- The hand of a seat that has retired, and what becomes of a post that takes it in.
use Rattle.std.specs.Prelude.{◌≡◌, [], ◌++◌, map, max, ◌∷◌}
use Rattle.word_layout.specs.Size.{IsSize}
use Rattle.core_rule.specs.Deciding as deciding
use Rattle.core_rule.specs.Hands.{Seated, IsHandOf, IsRetired}
use Rattle.core_rule.specs.Searching.{Ends}
use Rattle.core_rule.specs.View.{nothing_reserved}
use Rattle.seat_post.specs.Post.{shared_of, PostView}
use Rattle.seat_post.specs.Sharing.{no_bounds}

-- the hand may be joined, holds no place, and has nothing in the reserved one
pub record IsDone (hand : Seated) : Type 0 where
  pub hand_of : IsHandOf (shared_of hand) hand
  pub size : IsSize hand.view.size
  pub retired : IsRetired hand.view
  pub ends : Ends hand.view.work
  pub holds_none : hand.view.places.held ≡ []
  pub none_reserved : hand.view.counts.in_reserved ≡ nothing_reserved

-- the hand is taken in: the greater of the clocks and of the minima met, and one log behind the other; what is known of lists is
-- forgotten
abbrev pub joined_at : PostView → Seated → PostView
joined_at p hand = record p {
  clock = max p.clock hand.view.clock.clock;
  others = record p.others { taken_in = p.others.taken_in ++ hand.view.number ∷ hand.view.clock.taken_in };
  bounds = no_bounds;
  log = p.log ++ map deciding.entry_of hand.view.log;
  placed = [];
  met = max p.met hand.view.clock.met;
}
