-- What a read leaves of a post where it met a pending version.
use Rattle.std.proofs.Common.{◌≡◌, ℕ, subst, ap, ◌∙◌}
use Rattle.core_rule.specs.View.{writing}
use Rattle.core_rule.specs.Hands.{Seated}
use Rattle.validate_core.specs.Sets.{SetsView}
use Rattle.seat_post.specs.Reading.{StopsAt}
use Rattle.seat_post.specs.Searched.{Stops}
use Rattle.seat_post.specs.Post.{PostView, post_of, observing, observed_in}
use Rattle.seat_post.specs.declared.phase.Phase.{Phase}
use Rattle.seat_post.proofs.ReadMore.{view_room}
use Rattle.seat_post.proofs.Over.{view_stopped}

module _ (hand hand' : Seated) (phase : Phase) (stamp bound rid wts : ℕ) (sets : SetsView) (p : PostView) (is : post_of hand phase stamp sets ≡ p) (stops : Stops bound rid wts hand.view hand'.view) where
  -- the same transaction, where there may be more room for its reads
  pub stopped_post : (t : ℕ) (sets' : SetsView) → sets'.reads ≡ sets.reads → sets'.writes ≡ sets.writes → hand'.table ≡ hand.table → hand.view.flight ≡ writing t → post_of hand' phase stamp sets' ≡ observing p (observed_in hand')
  stopped_post t sets' reads writes table flight =
      view_stopped hand hand' phase stamp t bound rid wts sets' table stops flight
      ∙ ap (λ (q : PostView). observing q (observed_in hand')) (view_room hand phase stamp sets sets' reads writes ∙ is)

  -- its search stopped there
  pub stops_post : bound ≡ stamp → StopsAt p.stamp rid wts p.observed (observed_in hand')
  stops_post at =
      subst (λ (q : PostView). StopsAt q.stamp rid wts q.observed (observed_in hand')) is
      (subst (λ (n : ℕ). StopsAt n rid wts (observed_in hand) (observed_in hand')) at stops.at)
