-- What a collection makes of a pass.
use Rattle.std.specs.Prelude.{◌≡◌, ℕ, ◌≤◌, List, []}
use Rattle.rapid_gc.specs.declared.collecting.Collected.{Collected}
use Rattle.rapid_gc.specs.declared.queue.Queued.{Queued}
use Rattle.rapid_gc.specs.Bounds.{AreAsBefore, MakesSingle}
use Rattle.seat_post.specs.Collecting.{CollectsPost}
use Rattle.seat_post.specs.Logs.{IsAbove}
use Rattle.seat_post.specs.Observing.{Grows}
use Rattle.seat_post.specs.Post.{collected_at}
use Rattle.seat_post.specs.Seats.{Bounds}
use Rattle.txn_engine.specs.Lists.{IsTidy, IsRoomy, IsTidyOnceCollected, IsRoomyOnceCollected}
use Rattle.txn_engine.specs.Pass.{PassView, IsAlone, observing, removing}

-- the bound of its clock is published, a greater minimum was met, this is known of lists, and these versions stay in the queue
abbrev pub collected : PassView → (met : ℕ) → Bounds → List Queued → PassView
collected p met bounds queue = record p { post = collected_at p.post met bounds; queue = queue }

-- Its post collected: each item of the queue has its end, which the tally counts, with the loads of both minima and what shows each end.
-- What is known of each list is as before, or that one version is left. A pass that is alone meets what it has published, keeps no item, and
-- leaves one version where the newest is queued.
pub record CollectsPass (before after' : PassView) (tally : Collected) : Type 0 where
  pub after : after' ≡ removing (observing (collected before after'.met after'.bounds after'.queue) after'.observed) after'.gone
  pub collects : CollectsPost before.post after'.post before.queue after'.queue tally
  pub grows : Grows before.observed after'.observed
  pub met : before.met ≤ after'.met
  pub within : after'.met ≤ after'.published
  pub above : IsAbove before.log after'.published
  pub counts : AreAsBefore before.queue before.bounds.counts after'.bounds.counts
  pub tops : after'.bounds.tops ≡ before.bounds.tops
  pub alone : IsAlone before → after'.queue ≡ []
  pub seen : IsAlone before → after'.met ≡ after'.published
  pub single : IsAlone before → MakesSingle before.queue before.bounds.tops after'.bounds.counts
  pub tidy : IsAlone before → IsTidyOnceCollected before → IsTidy after'
  pub roomy : IsAlone before → IsRoomyOnceCollected before → IsRoomy after'
