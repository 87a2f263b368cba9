-- What a post keeps where it publishes the bound of its clock, and where it makes the next seat.
use Rattle.std.proofs.Common.{◌≡◌, ℕ, ◌<◌, ◌≤◌, refl, sym, ap, subst, ◌∙◌, arith}
use Rattle.std.specs.Prelude.{max}
use mathlib.Core.Logic.{dite}
use native.Mathlib.Decide.{dec_lt}
use Rattle.word_layout.specs.Name.{published_write, min_write}
use Rattle.stamp_base.specs.Stamp.{bound_of_clock}
use Rattle.core_rule.specs.View.{View, Flight, Work, Reserved, Raises as Raised, Seen, resting, no_work, no_scan, nothing_reserved}
use Rattle.core_rule.specs.Views.{IsAlone}
use Rattle.core_rule.specs.Hands.{Shared, Seated, IsReady}
use Rattle.core_rule.specs.Searching.{Ends, reserved_by_both}
use Rattle.core_rule.specs.Snapshots.{AreAllWhole}
use Rattle.clock_stamps.specs.Clocks.{rests}
use Rattle.clock_stamps.specs.Minima.{Raises, raised_write}
use Rattle.validate_core.specs.Sets.{SetsView}
use Rattle.seat_post.specs.declared.phase.Phase.{Phase}
use Rattle.seat_post.specs.declared.phase.Phase.TheVariants.{Idle}
use Rattle.seat_post.specs.Post.{PostView, IsAlonePost, IsAt, IsPost, post_of, observed_in}
use Rattle.seat_post.specs.Sharing.{announced_at}
use Rattle.seat_post.specs.Seats.{observed_of}
use Rattle.seat_post.specs.Observing.{RaisesTo}
use Rattle.seat_post.proofs.AloneSeats.{alone_told}
use Rattle.seat_post.proofs.Posts.{at_phase, post_idle}
use Rattle.seat_post.proofs.Queued.{raises_to}

-- two seats that have nothing in the reserved place have nothing there together
pub nothing_joined : (a b : Reserved) → a ≡ nothing_reserved → b ≡ nothing_reserved → reserved_by_both a b ≡ a
nothing_joined a b first second = ap (λ (k : Reserved). reserved_by_both k b) first ∙ ap (λ (k : Reserved). reserved_by_both nothing_reserved k) second ∙ sym first

-- nothing was to be done
pub ended : (w : Work) → w ≡ no_work → Ends w
ended w none = rw none (record { rests = tt; settled = λ u among. absurd among; collected = refl })

pub none_read : (w : Work) → w ≡ no_work → AreAllWhole w.reads
none_read w none = rw none (λ d among. absurd among)

-- the word that is published
abbrev pub word : View → ℕ
word v = max v.published.write (bound_of_clock v.clock.clock)

-- the view that has published it
abbrev pub idled : View → Flight → Work → View
idled v flight work = record v { published = record v.published { write = word v }; flight = flight; work = work }

record Idles (v w : View) : Type 0 where
  only : w ≡ idled v w.flight w.work
  ends : Ends w.work
  whole : w.flight ≡ resting → AreAllWhole w.work.reads

idles_up : (v w : View) → v.published.write < bound_of_clock v.clock.clock → w ≡ rests v → Idles v w
idles_up v w low up =
    let greater : word v ≡ bound_of_clock v.clock.clock = omega arith in
    subst (λ (x : View). Idles v x) (sym up) (record { only = rw greater refl; ends = ended no_work refl; whole = λ at d among. absurd among })

idles_same : (v w : View) → bound_of_clock v.clock.clock ≤ v.published.write → Ends v.work → (v.flight ≡ resting → AreAllWhole v.work.reads) → w ≡ v → Idles v w
idles_same v w high ends whole same =
    let kept : word v ≡ v.published.write = omega arith in
    subst (λ (x : View). Idles v x) (sym same) (record { only = rw kept refl; ends = ends; whole = whole })

idles : (v w : View) → Ends v.work → (v.flight ≡ resting → AreAllWhole v.work.reads) → (v.published.write < bound_of_clock v.clock.clock → w ≡ rests v) → (bound_of_clock v.clock.clock ≤ v.published.write → w ≡ v) → Idles v w
idles v w ends whole rises unchanged =
    dite (dec_lt v.published.write (bound_of_clock v.clock.clock))
    (λ low. idles_up v w low (rises low))
    (λ not. let high : bound_of_clock v.clock.clock ≤ v.published.write = omega arith in idles_same v w high ends whole (unchanged high))

-- ---- and has raised the minimum to it

abbrev pub told : View → Flight → Work → Raised → Seen → View
told v flight work raises seen = record (idled v flight work) { clock = record v.clock { met = word v }; raises = raises; seen = seen }

pub record Announces (v x : View) : Type 0 where
  pub only : x ≡ told v x.flight x.work x.raises x.seen
  pub raised : RaisesTo published_write min_write v.size.seats v.number (word v) (word v) (observed_of v) (observed_of x)
  pub ends : Ends x.work
  pub whole : x.flight ≡ resting → AreAllWhole x.work.reads

idled_alone : (v w : View) → w ≡ idled v w.flight w.work → IsAlone v → IsAlone w
idled_alone v w only alone = subst IsAlone (sym only) alone

reached : (v w x : View) (result : ℕ) → w ≡ idled v w.flight w.work → IsAlone v → Raises published_write min_write w.published.write w result x → result ≡ word v
reached v w x result only alone raises =
    let least = raises.alone (idled_alone v w only alone) in
    let own : w.published.write ≡ word v = ap (λ (y : View). y.published.write) only in
    let value = raises.value in
    let within = raises.within in
    omega arith

announces_of : (v w x : View) (result : ℕ) → Idles v w → result ≡ word v → Raises published_write min_write w.published.write w result x → x ≡ raised_write w result x.seen → Announces v x
announces_of v w x result is met raises raised =
    let flight : x.flight ≡ w.flight = ap (λ (y : View). y.flight) raised in
    let work : x.work ≡ w.work = ap (λ (y : View). y.work) raised in
    let own : w.published.write ≡ word v = ap (λ (y : View). y.published.write) is.only in
    record {
      only = raised ∙ ap (λ (y : View). raised_write y result x.seen) is.only ∙ ap (λ (n : ℕ). raised_write (idled v w.flight w.work) n x.seen) met
          ∙ ap (λ (f : Flight). told v f w.work (record v.raises { writes = no_scan }) x.seen) (sym flight)
          ∙ ap (λ (y : Work). told v x.flight y (record v.raises { writes = no_scan }) x.seen) (sym work)
          ∙ ap (λ (r : Raised). told v x.flight x.work r x.seen) (sym ((ap (λ (y : View). y.raises) raised) ∙ ap (λ (y : View). record y.raises { writes = no_scan }) is.only));
      raised = subst (λ (y : View). RaisesTo published_write min_write y.size.seats y.number (word v) (word v) (observed_of y) (observed_of x)) is.only
          (subst (λ (n : ℕ × ℕ). RaisesTo published_write min_write w.size.seats w.number n.0 n.1 (observed_of w) (observed_of x)) (λ i. (own i, met i)) (raises_to published_write min_write w.published.write w result x raises));
      ends = subst Ends (sym work) is.ends;
      whole = λ at. subst (λ (y : Work). AreAllWhole y.reads) (sym work) (is.whole (sym flight ∙ at));
    }

pub announces : (hand idle raised : Seated) (phase : Phase) (stamp result : ℕ) (sets : SetsView) (p : PostView) → IsPost hand phase stamp sets → post_of hand phase stamp sets ≡ p → p.phase ≡ Idle → IsAlonePost p
    → (hand.view.published.write < bound_of_clock hand.view.clock.clock → idle.view ≡ rests hand.view) → (bound_of_clock hand.view.clock.clock ≤ hand.view.published.write → idle ≡ hand) → Raises published_write min_write idle.view.published.write idle.view result raised.view → raised.view ≡ raised_write idle.view result raised.view.seen → Announces hand.view raised.view
announces hand idle raised phase stamp result sets p inv same at alone rises unchanged raises view =
    let post = at_phase phase Idle hand stamp sets inv (ap (λ (q : PostView). q.phase) same ∙ at) in
    let is = idles hand.view idle.view post.ends post.whole rises (λ high. ap (λ (h : Seated). h.view) (unchanged high)) in
    announces_of hand.view idle.view raised.view result is (reached hand.view idle.view raised.view result is.only (alone_told hand.view (subst IsAlonePost (sym same) alone)) raises) raises view

pub announced_view : (hand hand' : Seated) (phase : Phase) (stamp : ℕ) (sets : SetsView) → hand'.table ≡ hand.table → Announces hand.view hand'.view → post_of hand' phase stamp sets ≡ record (announced_at (post_of hand phase stamp sets)) { placed = (post_of hand' phase stamp sets).placed; snapshot = (post_of hand' phase stamp sets).snapshot; observed = observed_in hand' }
announced_view hand hand' phase stamp sets table is = rw (table, is.only) refl

-- an idle post whose hand has nothing to be done
pub post_ended : (core : Shared) (phase : Phase) (hand hand' : Seated) (stamp : ℕ) (sets : SetsView) → phase ≡ Idle → IsPost hand phase stamp sets → IsReady core hand' → hand'.view.size ≡ hand.view.size → hand'.view.places.held ≡ hand.view.places.held → hand'.view.counts.in_reserved ≡ hand.view.counts.in_reserved → Ends hand'.view.work → (hand'.view.flight ≡ resting → AreAllWhole hand'.view.work.reads) → IsPost hand' phase stamp sets
post_ended core phase hand hand' stamp sets idle is ready size held kept ends whole =
    let at = subst (λ (p : Phase). IsAt p hand stamp sets) idle is.at in
    post_idle core phase hand' stamp sets idle ready (rw size is.size) (held ∙ is.holds_none) (kept ∙ is.none_reserved) (record {
      ends = ends;
      whole = whole;
      no_stamp = at.no_stamp;
      none_read = at.none_read;
      none_written = at.none_written;
    })

-- a hand that is ready stays so where its seat and its published words are the same
pub ready_same : (core : Shared) (hand hand' : Seated) → IsReady core hand → hand'.table ≡ hand.table → hand'.view.size ≡ hand.view.size → hand'.view.number ≡ hand.view.number → hand'.view.published ≡ hand.view.published → IsReady core hand'
ready_same core hand hand' is table size number published = record {
  hand_of = record { same_table = table ∙ is.hand_of.same_table; same_size = size ∙ is.hand_of.same_size; in_range = rw number is.hand_of.in_range };
  open_words = record { write = rw published is.open_words.write; read = rw published is.open_words.read };
}
