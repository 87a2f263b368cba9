-- What becomes of a post where its seat is shared: it is announced, and makes the posts of the other seats.
use Rattle.std.specs.Prelude.{◌≡◌, ◌⊎◌, ℕ, None, ◌+◌, max, []}
use Rattle.stamp_base.specs.Stamp.{bound_of_clock}
use Rattle.core_rule.specs.View.{Load, sharing, shared, nothing_known}
use Rattle.core_rule.specs.Offers.{made_of}
use Rattle.seat_post.specs.declared.phase.Phase.TheVariants.{Idle}
use Rattle.seat_post.specs.Observing.{with_loss}
use Rattle.seat_post.specs.Post.{PostView, observing}
use Rattle.version_pool.specs.Takes.{IsLostOn}
use Rattle.seat_post.specs.Seats.{Bounds, nothing_observed, nothing_removed}

-- nothing is known of lists
abbrev pub no_bounds : Bounds
no_bounds = record { counts = nothing_known; tops = [] }

-- the bound of its clock is published and is the greatest minimum met
abbrev pub announced_at : PostView → PostView
announced_at p = record p { published = max p.published (bound_of_clock p.clock); met = max p.published (bound_of_clock p.clock) }

-- one more seat was made; and the post of that one
abbrev pub one_more : PostView → PostView
one_more p = record p { others = record p.others { splitting = sharing (made_of p.others.splitting + 1) }; bounds = no_bounds; placed = [] }

abbrev pub made_next : PostView → PostView
made_next p = record {
  shared = p.shared;
  seat = made_of p.others.splitting;
  clock = p.clock;
  published = p.published;
  others = record { splitting = shared; taken_in = [] };
  bounds = no_bounds;
  met = p.met;
  log = [];
  observed = nothing_observed;
  gone = nothing_removed;
  placed = [];
  snapshot = None;
  phase = Idle;
  stamp = 0;
  reads = [];
  versions = [];
  writes = [];
}

-- a place was taken and given back, and all is as before; or it was met not free, by an exchange that was lost
abbrev pub Visits : (place : ℕ) → PostView → PostView → Type 0
Visits place before after' = (after' ≡ before) ⊎ ((exchange : Load) × IsLostOn place exchange × (after' ≡ observing before (with_loss before.observed exchange)))
