-- A snapshot at a post and at a pass: what both keep while it reads, and what its end tells.
use Rattle.std.proofs.Common.{◌≡◌, ℕ, ◌≤◌, ◌+◌, ◌∷◌, true, List, Option, refl, sym, ap, ◌∙◌, subst, arith, map}
use Rattle.std.specs.Prelude.{IsSome, IfSome}
use Rattle.plain_data.specs.declared.entry.Entry.{Entry}
use Rattle.plain_data.specs.State.{State}
use Rattle.histories.specs.History.{IsValue, UpTo}
use Rattle.core_rule.specs.View.{View, Flight, resting, writing, still, Read, Logged, no_work}
use Rattle.core_rule.specs.Versions.{read_version}
use Rattle.core_rule.specs.Views.{Among, IsAlone}
use Rattle.core_rule.specs.Hands.{Shared, Seated, IsReady}
use Rattle.core_rule.specs.Deciding.{entry_of, StoodAt}
use Rattle.validate_core.specs.Sets.{SetsView}
use Rattle.seat_post.specs.declared.phase.Phase.{Phase}
use Rattle.seat_post.specs.declared.phase.Phase.TheVariants.{Idle}
use Rattle.seat_post.specs.Ends.{Stood}
use Rattle.seat_post.specs.Snapshot.{snapshot_view, entry_of_snapshot}
use Rattle.seat_post.specs.InSnapshot.{IsInSnapshot, Opens, FindsAlike, IsLeftAt, logged_snapshot, snapshot_ended}
use Rattle.seat_post.specs.Logs.{AreBelow}
use Rattle.seat_post.specs.Observing.{MeetsMinimum}
use Rattle.seat_post.specs.Reading.{FindsInSnapshot, LeadsTo}
use Rattle.seat_post.specs.Seats.{observed_of}
use Rattle.seat_post.specs.Post.{IsPost, IsIdleAt, observed_in}
use Rattle.seat_post.proofs.Leaving.{limit_rests}
use Rattle.seat_post.proofs.Queued.{entry_logged, meets_minimum}
use Rattle.seat_post.proofs.EndMore.{stood_same}
use Rattle.seat_post.proofs.Posts.{post_idle}

-- a seat that shows a snapshot rests
rests_of : (f : Flight) (bound : ℕ) (ds : List Read) → IsSome (snapshot_view f bound ds) → f ≡ resting
rests_of resting bound ds some = refl
rests_of (writing t) bound ds some = cc

pub in_snapshot_of : (hand : Seated) (stamp : ℕ) (sets : SetsView) → IsIdleAt hand stamp sets → IsSome (snapshot_view hand.view.flight hand.view.published.read hand.view.work.reads) → IsInSnapshot hand.view
in_snapshot_of hand stamp sets idle some =
    let rests = rests_of hand.view.flight hand.view.published.read hand.view.work.reads some in
    record { rests = rests; ends = idle.ends; whole = idle.whole rests }

-- an idle post at another hand that reads for a snapshot
pub post_in_snapshot : (core : Shared) (phase : Phase) (hand hand' : Seated) (stamp : ℕ) (sets : SetsView) → IsPost hand phase stamp sets → IsIdleAt hand stamp sets → phase ≡ Idle → IsReady core hand' → hand'.view.size ≡ hand.view.size → hand'.view.places.held ≡ hand.view.places.held → hand'.view.counts.in_reserved ≡ hand.view.counts.in_reserved → IsInSnapshot hand'.view → IsPost hand' phase stamp sets
post_in_snapshot core phase hand hand' stamp sets is idle same ready size held kept in_snapshot =
    post_idle core phase hand' stamp sets same ready (rw size is.size) (held ∙ is.holds_none) (kept ∙ is.none_reserved) (record {
      ends = in_snapshot.ends;
      whole = λ at. in_snapshot.whole;
      no_stamp = idle.no_stamp;
      none_read = idle.none_read;
      none_written = idle.none_written;
    })

-- a snapshot has ended there
pub post_ended : (core : Shared) (phase : Phase) (hand hand' : Seated) (stamp word : ℕ) (sets : SetsView) → IsPost hand phase stamp sets → IsIdleAt hand stamp sets → phase ≡ Idle → IsReady core hand' → hand'.view ≡ snapshot_ended hand.view word → IsPost hand' phase stamp sets
post_ended core phase hand hand' stamp word sets is idle same ready view =
    let work : hand'.view.work ≡ no_work = ap (λ (v : View). v.work) view in
    post_idle core phase hand' stamp sets same ready (rw view is.size) (ap (λ (v : View). v.places.held) view ∙ is.holds_none) (ap (λ (v : View). v.counts.in_reserved) view ∙ is.none_reserved) (record {
      ends = rw work (record { rests = tt; settled = λ u among. absurd among; collected = refl });
      whole = λ at. rw work (λ d among. absurd among);
      no_stamp = idle.no_stamp;
      none_read = idle.none_read;
      none_written = idle.none_written;
    })

pub opened_size : (stamp : ℕ) (v w : View) → Opens stamp v w → w.size ≡ v.size
opened_size stamp v w opens = ap (λ (x : View). x.size) opens.bound ∙ ap (λ (x : View). x.size) opens.raised

pub opened_held : (stamp : ℕ) (v w : View) → Opens stamp v w → w.places.held ≡ v.places.held
opened_held stamp v w opens = ap (λ (x : View). x.places.held) opens.bound ∙ ap (λ (x : View). x.places.held) opens.raised

pub opened_kept : (stamp : ℕ) (v w : View) → Opens stamp v w → w.counts.in_reserved ≡ v.counts.in_reserved
opened_kept stamp v w opens = ap (λ (x : View). x.counts.in_reserved) opens.bound ∙ ap (λ (x : View). x.counts.in_reserved) opens.raised

-- of a seat that is alone the stamp is at least one less than what it has published
pub opened_alone : (stamp : ℕ) (v w : View) → Opens stamp v w → IsAlone v → v.published.write ≤ stamp + 1
opened_alone stamp v w opens alone =
    let own = opens.raises.alone alone in
    let value = opens.raises.value in
    let reached = opens.reached in
    omega arith

-- no snapshot of the log is above it
pub below_logged : (log : List Logged) (t : ℕ) → ((e : Logged) → Among e log → e.snapshot ≡ true → e.stamp ≤ t) → AreBelow (map entry_of log) (t + 1)
below_logged log t low e among snapshot =
    let c = entry_logged log e among in
    let h = low c.0 c.1 (ap (λ (y : Entry). y.snapshot) c.2 ∙ snapshot) in
    let s : c.0.stamp ≡ e.stamp = ap (λ (y : Entry). y.stamp) c.2 in
    omega arith

-- what the end tells
pub stood_snapshot : (kept : State → Type 0) (records : ℕ) (v : View) → v.flight ≡ resting → StoodAt kept records v.log (logged_snapshot v) → IfSome (snapshot_view v.flight v.published.read v.work.reads) (λ g. Stood kept records (map entry_of v.log) (entry_of_snapshot g))
stood_snapshot kept records v rests stood = rw rests (stood_same kept records v.log (logged_snapshot v) _ refl stood)

pub left_snapshot : (v : View) (rid : ℕ) (value : Option (List ℕ)) → v.flight ≡ resting → IsLeftAt v rid value → IfSome (snapshot_view v.flight v.published.read v.work.reads) (λ g. IsValue (UpTo (map entry_of v.log) g.stamp) rid value)
left_snapshot v rid value rests left = rw rests left

-- the view after a read, and what was loaded by it
pub read_alike : (v w : View) (rid : ℕ) (value : Option (List ℕ)) (f : FindsAlike rid value v w) → w ≡ record v { work = record v.work { search = still; reads = read_version rid f.place f.wts value ∷ v.work.reads }; seen = w.seen }
read_alike v w rid value f = f.last ∙ (λ i. record f.between { seen = sym (ap (λ (x : View). x.seen) f.last) i }) ∙ ap (λ (x : View). record x { seen = w.seen }) f.finds.view

pub found_snapshot : (v w : View) (rid : ℕ) (value : Option (List ℕ)) → v.flight ≡ resting → FindsAlike rid value v w → IfSome (snapshot_view v.flight v.published.read v.work.reads) (λ g. FindsInSnapshot (g.stamp + 1) rid (observed_of v) (observed_of w) value)
found_snapshot v w rid value rests f = rw rests (record {
  between = observed_of f.between;
  finds = record {
    place = f.place;
    wts = f.wts;
    leads = subst (λ (n : ℕ). LeadsTo n rid f.place f.wts value v.seen.loads f.between.seen.loads) (limit_rests v v.published.read rests refl) f.finds.leads;
    lost = f.finds.lost;
  };
  minimum = f.minimum;
  last = ap observed_of f.last;
})

-- the published write words of all seats were loaded for the minimum
pub opened_minimum : (stamp : ℕ) (hand hand' : Seated) → Opens stamp hand.view hand'.view → MeetsMinimum hand.view.size.seats hand.view.number hand.view.published.write (stamp + 1) (observed_in hand) (observed_in hand')
opened_minimum stamp hand hand' opens = meets_minimum hand.view.published.write hand.view opens.between hand'.view opens.met stamp opens.raises opens.reached opens.bound
