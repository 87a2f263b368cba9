-- What a post shows and keeps where it has taken a place and given it back, or met it not free.
use Rattle.std.proofs.Common.{◌≡◌, ℕ, Bool, true, false, List, [], ◌∷◌, ◌++◌, refl, ap, ◌∙◌, inl, inr}
use Rattle.std.specs.Bool.{OnTrue, OnFalse}
use Rattle.core_rule.specs.View.{View, Load}
use Rattle.core_rule.specs.Hands.{Shared, Seated, IsReady}
use Rattle.validate_core.specs.Sets.{SetsView}
use Rattle.version_pool.specs.Takes.{AreLostOn, FindsNone, IsLostOn, VisitsPlace}
use Rattle.seat_post.specs.Post.{IsIdleAt, IsPost, post_of}
use Rattle.seat_post.specs.Sharing.{Visits}
use Rattle.seat_post.specs.declared.phase.Phase.{Phase}
use Rattle.seat_post.specs.declared.phase.Phase.TheVariants.{Idle}
use Rattle.seat_post.proofs.Posts.{at_phase, post_idle}

module _ (core : Shared) (hand hand' : Seated) (phase : Phase) (stamp place : ℕ) (sets : SetsView) (is : IsPost hand phase stamp sets) (idle : phase ≡ Idle) (table : hand'.table ≡ hand.table) (ready : IsReady core hand') where
  at_idle : IsIdleAt hand stamp sets
  at_idle = at_phase phase Idle hand stamp sets is idle

  post_given_back : VisitsPlace place hand.view hand'.view → IsPost hand' phase stamp sets
  post_given_back visits =
      post_idle core phase hand' stamp sets idle ready (rw visits.view is.size) (visits.held ∙ is.holds_none) (rw visits.view is.none_reserved)
      (rw visits.view record { ends = at_idle.ends; whole = at_idle.whole; no_stamp = at_idle.no_stamp; none_read = at_idle.none_read; none_written = at_idle.none_written })

  post_lost : FindsNone (place ∷ []) hand.view hand'.view → IsPost hand' phase stamp sets
  post_lost finds =
      post_idle core phase hand' stamp sets idle ready (rw finds.view is.size) (rw finds.view is.holds_none) (rw finds.view is.none_reserved)
      (rw finds.view record { ends = at_idle.ends; whole = at_idle.whole; no_stamp = at_idle.no_stamp; none_read = at_idle.none_read; none_written = at_idle.none_written })

  -- by whether it was free
  pub post_visited : (free : Bool) → OnTrue free (VisitsPlace place hand.view hand'.view) → OnFalse free (FindsNone (place ∷ []) hand.view hand'.view) → IsPost hand' phase stamp sets
  post_visited true visits finds = post_given_back visits
  post_visited false visits finds = post_lost finds

  lost_on : (lost : List Load) → AreLostOn (place ∷ []) lost → hand'.view ≡ record hand.view { seen = record hand.view.seen { lost = hand.view.seen.lost ++ lost } } → Visits place (post_of hand phase stamp sets) (post_of hand' phase stamp sets)
  lost_on [] not_free view = absurd not_free
  lost_on (exchange ∷ []) not_free view = inr (exchange, not_free.0, rw (table, view) refl)
  lost_on (exchange ∷ next ∷ more) not_free view = absurd not_free.1

  pub visited : (free : Bool) → OnTrue free (VisitsPlace place hand.view hand'.view) → OnFalse free (FindsNone (place ∷ []) hand.view hand'.view) → Visits place (post_of hand phase stamp sets) (post_of hand' phase stamp sets)
  visited true visits finds = inl (rw (table, visits.view) refl)
  visited false visits finds = lost_on finds.lost finds.not_free finds.view
