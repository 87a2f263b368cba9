-- What settling comes to: of a record, of all of them, and of a post.
use Rattle.std.proofs.Common.{◌≡◌, ℕ, true, false, ◌+◌, ◌-◌, ◌<◌, ◌≤◌, ◌⊎◌, List, [], ◌∷◌, Option, refl, sym, ap, ◌∙◌, subst, inl, inr, map, arith}
use Rattle.std.specs.Prelude.{nat_lt}
use Rattle.std.proofs.lemmas.Bool.{cases_lt}
use Rattle.plain_data.specs.State.{State}
use Rattle.stamp_base.specs.Stamp.{bound_of_clock}
use Rattle.core_rule.specs.View.{View, Logged, Bound, Counted}
use Rattle.core_rule.specs.Views.{Among, IsAlone}
use Rattle.core_rule.specs.Searching.{known_of}
use Rattle.core_rule.specs.Left.{IsLeft}
use Rattle.core_rule.specs.Collecting.{HasEntry}
use Rattle.core_rule.specs.Hands.{Shared, Seated, StaysReady}
use Rattle.core_rule.specs.Deciding as deciding
use Rattle.clock_stamps.specs.Minima.{bounded}
use Rattle.version_search.specs.Finding.{Reads}
use Rattle.version_search.proofs.Grown.{grows_both}
use Rattle.rapid_gc.specs.Bounds.{IsSingle}
use Rattle.validate_core.specs.Sets.{SetsView}
use Rattle.seat_post.specs.declared.phase.Phase.{Phase}
use Rattle.seat_post.specs.Snapshot.{first_snapshot}
use Rattle.seat_post.specs.Post.{post_of}
use Rattle.seat_post.specs.Rewriting.{Rewritings}
use Rattle.seat_post.specs.declared.settled.Settled.{Settled}
use Rattle.seat_post.specs.Seats.{observed_of}
use Rattle.seat_post.specs.Collecting.{Trail, trail_in}
use Rattle.seat_post.specs.Settling.{entries_of, IsSettling, Settles, AreSettled, AreLater, KeepsOthers, SettlesPost, SettlesAll, StopsSome, StopsPost, with_met}
use Rattle.seat_post.specs.SettlingOne.{IsDue, RunsOut, SettlesFirst}
use Rattle.seat_post.proofs.Observed.{observed_grows, bounded_grows}

-- ---- a record

-- the version that a seat that is alone sees, beside the first one, is that of an entry
left_entered : (log : List Logged) (rid limit wts status : ℕ) → nat_lt 0 wts ≡ true → IsLeft log rid limit wts status → HasEntry rid wts log
left_entered log rid limit wts status above left = elim left.from as (λ _. HasEntry rid wts log) [ inl none ↦ (let h : true ≡ false = sym above ∙ ap (λ (n : ℕ). nat_lt 0 n) none.0 in cc) | inr written ↦ written.entry ]

pub visible_entered : (limit rid place found wts status : ℕ) (v w : View) → IsAlone w → found ≡ wts → nat_lt 0 wts ≡ true → Reads limit rid place found status v w → HasEntry rid wts w.log
visible_entered limit rid place found wts status v w alone same above reads = subst (λ (n : ℕ). nat_lt 0 n ≡ true → HasEntry rid n w.log) same (λ up. left_entered w.log rid limit found status up (reads.left alone)) above

-- an entry of the log is below the bound of the clock
among_entries : (log : List Logged) (e : Logged) → Among e log → Among (deciding.entry_of e) (map deciding.entry_of log)
among_entries [] e among = absurd among
among_entries (x ∷ xs) e (inl same) = inl (ap deciding.entry_of same)
among_entries (x ∷ xs) e (inr more) = inr (among_entries xs e more)

pub entry_below : (v : View) (rid stamp : ℕ) → IsSettling v → HasEntry rid stamp v.log → stamp < bound_of_clock v.clock.clock
entry_below v rid stamp is entry = let h = is.above (deciding.entry_of entry.entry) (among_entries v.log entry.entry entry.among) entry.commit in let k = entry.at in omega arith

-- ---- all of them

-- what is known of other lists stays, so those settled before are settled still
pub settled_still : (count rid : ℕ) (v w : View) → count ≤ rid → AreSettled count v.counts → KeepsOthers rid v w → AreSettled count w.counts
settled_still count rid v w within before others r below = subst (λ (b : Option Bound). IsSingle b) (sym (others r (λ same. omega arith))) (before r below)

settled_last : (rid r : ℕ) (w : View) → (r < rid) ⊎ (rid ≤ r) → r < rid + 1 → (r < rid → IsSingle (known_of w.counts r)) → IsSingle (known_of w.counts rid) → IsSingle (known_of w.counts r)
settled_last rid r w (inl less) below before last = before less
settled_last rid r w (inr most) below before last = let same : rid ≡ r = omega arith in subst (λ (n : ℕ). IsSingle (known_of w.counts n)) same last

pub settled_more : (rid : ℕ) (v w : View) → AreSettled rid v.counts → KeepsOthers rid v w → IsSingle (known_of w.counts rid) → AreSettled (rid + 1) w.counts
settled_more rid v w before others last r below = settled_last rid r w (cases_lt r rid) below (λ less. settled_still rid rid v w (omega arith) before others r less) last

pub stays_both : (core : Shared) (a b c : Seated) → StaysReady core a b → StaysReady core b c → StaysReady core a c
stays_both core a b c first second = record {
  seat = record { same_table = second.seat.same_table ∙ first.seat.same_table; same_id = second.seat.same_id ∙ first.seat.same_id };
  ready = second.ready;
}

-- ---- a post

-- the post after settling, with its read stamp published once more
pub settles_post : (kept : State → Type 0) (hand hand' last : Seated) (phase : Phase) (stamp bound : ℕ) (sets : SetsView) → hand'.table ≡ hand.table → last.table ≡ hand'.table → Settles kept hand.view hand'.view → IsSettling hand'.view → last.view ≡ bounded hand'.view bound → hand'.view.clock.met ≤ bound + 1 → SettlesPost kept (post_of hand phase stamp sets) (post_of last phase stamp sets)
settles_post kept hand hand' last phase stamp bound sets table table' settles settling view low =
    let number : last.view.number ≡ hand.view.number = ap (λ (v : View). v.number) view ∙ settles.number in
    let size : last.view.size ≡ hand.view.size = ap (λ (v : View). v.size) view ∙ settles.size in
    let splitting : last.view.splitting ≡ hand.view.splitting = ap (λ (v : View). v.splitting) view ∙ settles.splitting in
    let taken : last.view.clock.taken_in ≡ hand.view.clock.taken_in = ap (λ (v : View). v.clock.taken_in) view ∙ settles.taken_in in
    let clock : last.view.clock.clock ≡ hand'.view.clock.clock = ap (λ (v : View). v.clock.clock) view in
    let met : last.view.clock.met ≡ bound + 1 = ap (λ (v : View). v.clock.met) view in
    let log : last.view.log ≡ hand'.view.log = ap (λ (v : View). v.log) view in
    let published : last.view.published.write ≡ hand'.view.published.write = ap (λ (v : View). v.published.write) view in
    let later = settles.later in
    let reached = settles.met in
    let before = post_of hand phase stamp sets in
    let after' = post_of last phase stamp sets in
    let linked : last.view.work.linked ≡ [] = ap (λ (v : View). v.work.linked) view in
    let is : bound ≡ bound + 1 - 1 = omega arith in
    let snapshot : after'.snapshot ≡ first_snapshot (last.view.clock.met - 1) = rw view (ap first_snapshot is) in
    let rest : record after' { snapshot = first_snapshot (last.view.clock.met - 1) } ≡ record before { clock = after'.clock; published = after'.published; met = after'.met; bounds = after'.bounds; log = after'.log; observed = after'.observed; gone = after'.gone; placed = []; snapshot = first_snapshot (after'.met - 1) } = rw (table' ∙ table, number, size, splitting, taken, linked) refl in
    record {
      only = ap (λ g. record after' { snapshot = g }) snapshot ∙ rest;
      later = omega arith;
      published = let h = settles.published in omega arith;
      bounded = let h = settles.bounded in omega arith;
      met = omega arith;
      grows = observed_grows hand last (grows_both hand.view.seen hand'.view.seen last.view.seen settles.grows (bounded_grows hand'.view last.view bound view));
      log = subst (λ (es : List Logged). Rewritings kept hand.view.size.records (entries_of hand.view) (map deciding.entry_of es)) (sym log) settles.log;
      added = subst (λ (es : List Logged). AreLater (entries_of hand.view) (map deciding.entry_of es) (bound_of_clock hand.view.clock.clock)) (sym log) settles.added;
      above = rw (log, clock) settling.above;
    }

-- ---- what the call shows

module _ (hand hand' last : Seated) (phase : Phase) (stamp bound : ℕ) (sets : SetsView) (view : last.view ≡ bounded hand'.view bound) where
  last_trail : trail_in last.view ≡ with_met (trail_in hand'.view) last.view.clock.met
  last_trail =
      let met : last.view.clock.met ≡ bound + 1 = ap (λ (v : View). v.clock.met) view in
      ap (λ (v : View). trail_in v) view ∙ ap (λ (n : ℕ). with_met (trail_in hand'.view) n) (sym met)

  pub settles_all : (all : Settled) → SettlesFirst hand.view.size hand.view.number hand.view.size.records all (trail_in hand.view) (trail_in hand'.view) → SettlesAll (post_of hand phase stamp sets) (post_of last phase stamp sets) all
  settles_all all first = record { reached = trail_in hand'.view; first = first; last = last_trail }

  pub stops_post : StopsSome hand.view.size hand.view hand'.view → StopsPost (post_of hand phase stamp sets) (post_of last phase stamp sets)
  stops_post s =
      let z = hand.view.size in
      let b = s.between in let w = hand'.view in
      let counts : last.view.counts ≡ w.counts = ap (λ (v : View). v.counts) view in
      let here : w.clock.clock ≡ last.view.clock.clock = sym (ap (λ (v : View). v.clock.clock) view) in
      record {
        rid = s.rid;
        within = s.within;
        settled = subst (λ (k : Counted). AreSettled s.rid k) (sym counts) s.settled;
        all = s.all;
        between = trail_in b;
        first = s.first;
        searched = s.stops.searched;
        due = subst (λ (n : ℕ). IsDue z.seats n s.rid (entries_of b) (observed_of b) s.stops.searched) s.number s.stops.due;
        reached = observed_of w;
        runs_out = subst (λ (y : ℕ × ℕ × ℕ). RunsOut z y.0 s.rid y.1 y.2 s.stops.searched (observed_of w)) (λ i. (s.number i, s.drawn i, here i)) s.stops.runs_out;
        last = last_trail ∙ ap (λ (t : Trail). with_met t last.view.clock.met) s.stops.rest;
      }
