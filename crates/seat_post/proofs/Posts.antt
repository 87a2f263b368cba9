-- What a post keeps of its hand, from call to call.
use Rattle.std.proofs.Common.{◌≡◌, ℕ, map, List, [], refl, sym, ap, subst}
use Rattle.stamp_base.specs.Stamp.{IsStamp, stamp_of}
use Rattle.core_rule.specs.Views.{Among, OthersTaken}
use Rattle.core_rule.specs.Deciding.{entry_of}
use Rattle.std.proofs.lemmas.List.Elements.{All-nil}
use Rattle.seat_post.specs.Logs.{IsAbove}
use Rattle.seat_post.specs.Leaves.{LeavesValue}
use Rattle.clock_stamps.specs.Clocks.{drawn}
use Rattle.core_rule.specs.View.{resting, writing, nothing_reserved, View, Clock, Seen, Read, Write}
use Rattle.core_rule.specs.Hands.{Shared, Seated, IsReady}
use Rattle.word_layout.specs.Size.{Size, IsSize}
use Rattle.validate_core.specs.Sets.{SetsView, MayInstall}
use Rattle.validate_core.specs.Installing.{IsBegun}
use Rattle.validate_core.specs.Validating as validating
use Rattle.seat_post.specs.declared.phase.Phase.{Phase}
use Rattle.seat_post.specs.declared.phase.Phase.TheVariants.{Idle, Open, Installed, Decided}
use Rattle.seat_post.specs.Post.{IsAt, IsIdleAt, IsPost, shared_of, post_of, observing, with_clock, observed_in}
use Rattle.seat_post.proofs.Observed.{were_found}
use Rattle.version_search.specs.Growing.{Grows}

-- a hand that is ready is ready at its own table
pub own_ready : (core : Shared) (hand : Seated) → IsReady core hand → IsReady (shared_of hand) hand
own_ready core hand is = record {
  hand_of = record { same_table = refl; same_size = refl; in_range = rw is.hand_of.same_size is.hand_of.in_range };
  open_words = is.open_words;
}

-- what is kept where the phase is known
pub at_phase : (phase known : Phase) (hand : Seated) (stamp : ℕ) (sets : SetsView) → IsPost hand phase stamp sets → phase ≡ known → IsAt known hand stamp sets
at_phase phase known hand stamp sets is same = subst (λ (p : Phase). IsAt p hand stamp sets) same is.at

-- the view with another clock and other loads
abbrev turned : View → Clock → Seen → View
turned v clock seen = record v { clock = clock; seen = seen }

begun_turned : (z : Size) (s : SetsView) (v : View) (clock : Clock) (seen : Seen) → IsBegun z s v → IsBegun z s (turned v clock seen)
begun_turned z s v clock seen is = record {
  in_flight = is.in_flight;
  stamp = is.stamp;
  rests = is.rests;
  reads = is.reads;
  raised = is.raised;
  finished = is.finished;
  linked = is.linked;
  passed = is.passed;
  undecided = is.undecided;
  collected = is.collected;
  inside = is.inside;
}

decided_turned : (stamp : ℕ) (s : SetsView) (v : View) (clock : Clock) (seen : Seen) → validating.IsDecidedAt stamp s v → validating.IsDecidedAt stamp s (turned v clock seen)
decided_turned stamp s v clock seen is = record {
  in_flight = is.in_flight;
  rests = is.rests;
  linked = is.linked;
  unsettled = is.unsettled;
  decided = is.decided;
  collected = is.collected;
}

abbrev turned_hand : Seated → Seated → Clock → Seen → Seated
turned_hand hand hand' clock seen = record hand' { view = turned hand.view clock seen }

at_turned : (phase : Phase) (hand hand' : Seated) (stamp : ℕ) (sets : SetsView) (clock : Clock) (seen : Seen) → Grows hand.view.seen seen → clock.taken_in ≡ hand.view.clock.taken_in → IsAt phase hand stamp sets → IsAt phase (turned_hand hand hand' clock seen) stamp sets
at_turned Idle hand hand' stamp sets clock seen grows taken is = record {
  ends = is.ends;
  whole = is.whole;
  no_stamp = is.no_stamp;
  none_read = is.none_read;
  none_written = is.none_written;
}
at_turned Open hand hand' stamp sets clock seen grows taken is = record {
  begun = begun_turned hand.view.size sets hand.view clock seen is.begun;
  at = is.at;
  above = is.above;
  left = λ alone. is.left (subst (λ (taken_in : List ℕ). OthersTaken hand.view.size.seats hand.view.number hand.view.splitting taken_in) taken alone);
  found = were_found stamp sets.reads hand.view (turned hand.view clock seen) grows is.found;
}
at_turned Installed hand hand' stamp sets clock seen grows taken is = record {
  installed = is.installed;
  inside = is.inside;
  placed = is.placed;
  fit = is.fit;
  found = were_found stamp sets.reads hand.view (turned hand.view clock seen) grows is.found;
}
at_turned Decided hand hand' stamp sets clock seen grows taken is = record {
  decided = decided_turned stamp sets hand.view clock seen is.decided;
  inside = is.inside;
  placed = is.placed;
  fit = is.fit;
}

-- a call that changes the clock alone keeps what a post keeps
pub post_turned : (core : Shared) (phase : Phase) (hand hand' : Seated) (stamp : ℕ) (sets : SetsView) (clock : Clock) (seen : Seen) → IsPost hand phase stamp sets → IsReady core hand' → hand'.view ≡ turned hand.view clock seen → Grows hand.view.seen hand'.view.seen → clock.taken_in ≡ hand.view.clock.taken_in → IsPost hand' phase stamp sets
post_turned core phase hand hand' stamp sets clock seen is ready view grows taken = record {
  ready = own_ready core hand' ready;
  size = rw view is.size;
  holds_none = rw view is.holds_none;
  none_reserved = rw view is.none_reserved;
  at = let same : turned_hand hand hand' clock seen ≡ hand' = ap (λ (v : View). record hand' { view = v }) (sym view) in subst (λ (h : Seated). IsAt phase h stamp sets) same (at_turned phase hand hand' stamp sets clock seen (subst (λ (s : Seen). Grows hand.view.seen s) (ap (λ (v : View). v.seen) view) grows) taken is.at);
}

-- what it shows
pub seen_turned : (hand hand' : Seated) (phase : Phase) (stamp : ℕ) (sets : SetsView) (clock : Clock) (seen : Seen) → hand'.table ≡ hand.table → hand'.view ≡ turned hand.view clock seen → clock.taken_in ≡ hand.view.clock.taken_in → clock.met ≡ hand.view.clock.met → post_of hand' phase stamp sets ≡ observing (with_clock (post_of hand phase stamp sets) clock.clock) (record { loads = seen.loads; lost = seen.lost })
seen_turned hand hand' phase stamp sets clock seen table view taken met = rw (table, view, taken, met) refl

pub view_turned : (hand hand' : Seated) (phase : Phase) (stamp : ℕ) (sets : SetsView) (clock : Clock) (seen : Seen) → hand'.table ≡ hand.table → hand'.view ≡ turned hand.view clock seen → clock.taken_in ≡ hand.view.clock.taken_in → clock.met ≡ hand.view.clock.met → post_of hand' phase stamp sets ≡ observing (with_clock (post_of hand phase stamp sets) clock.clock) (observed_in hand')
view_turned hand hand' phase stamp sets clock seen table view taken met = rw (table, view, taken, met) refl

-- ---- drawing a stamp

may_install_none : (z : Size) (s : SetsView) → s.reads ≡ [] → s.writes ≡ [] → MayInstall z s
may_install_none z s no_reads no_writes = record {
  reads = λ d among. absurd (subst (λ (ds : List Read). Among d ds) no_reads among);
  writes = λ u among. absurd (subst (λ (us : List Write). Among u us) no_writes among);
  once = rw no_writes tt;
}

begun_drawn : (z : Size) (s : SetsView) (v : View) (clock : ℕ) → s.reads ≡ [] → s.writes ≡ [] → IsStamp (stamp_of clock v.number) → IsBegun z s (drawn v clock)
begun_drawn z s v clock no_reads no_writes stamp = record {
  in_flight = refl;
  stamp = stamp;
  rests = tt;
  reads = rw no_reads tt;
  raised = refl;
  finished = refl;
  linked = refl;
  passed = refl;
  undecided = record { undecided = refl; unsettled = refl };
  collected = refl;
  inside = may_install_none z s no_reads no_writes;
}

-- a transaction begins at the stamp that was drawn
pub post_opened : (core : Shared) (hand hand' : Seated) (stamp t clock : ℕ) (sets : SetsView) → IsIdleAt hand stamp sets → hand.view.places.held ≡ [] → hand.view.counts.in_reserved ≡ nothing_reserved → IsSize hand.view.size → IsReady core hand' → hand'.view ≡ drawn hand.view clock → IsStamp t → t ≡ stamp_of clock hand.view.number → IsAbove (map entry_of hand.view.log) (stamp_of clock hand.view.number) → IsPost hand' Open t sets
post_opened core hand hand' stamp t clock sets idle held kept size ready view is_stamp at above = record {
  ready = own_ready core hand' ready;
  size = rw view size;
  holds_none = rw view held;
  none_reserved = rw view kept;
  at = record {
    begun = rw view (begun_drawn hand.view.size sets hand.view clock idle.none_read idle.none_written (subst (λ (n : ℕ). IsStamp n) at is_stamp));
    at = rw view at;
    above = rw (view, at) above;
    left = λ alone. rw idle.none_read (All-nil (λ read. LeavesValue (map entry_of hand'.view.log) read.0 t read.1));
    found = λ d among. absurd (subst (λ (ds : List Read). Among d ds) idle.none_read among);
  };
}

-- no transaction is in flight after a stamp that none gets
pub post_ticked : (hand hand' : Seated) (stamp clock : ℕ) (sets : SetsView) → IsIdleAt hand stamp sets → hand'.view ≡ drawn hand.view clock → IsIdleAt hand' stamp sets
post_ticked hand hand' stamp clock sets idle view = record {
  ends = rw view (record { rests = tt; settled = λ u among. absurd among; collected = refl });
  whole = rw view (λ at. let e : writing (stamp_of clock hand.view.number) ≡ resting = at in cc);
  no_stamp = idle.no_stamp;
  none_read = idle.none_read;
  none_written = idle.none_written;
}

-- a call that leaves the post idle
pub post_idle : (core : Shared) (phase : Phase) (hand' : Seated) (stamp : ℕ) (sets : SetsView) → phase ≡ Idle → IsReady core hand' → IsSize hand'.view.size → hand'.view.places.held ≡ [] → hand'.view.counts.in_reserved ≡ nothing_reserved → IsIdleAt hand' stamp sets → IsPost hand' phase stamp sets
post_idle core phase hand' stamp sets same ready size held kept is = record {
  ready = own_ready core hand' ready;
  size = size;
  holds_none = held;
  none_reserved = kept;
  at = subst (λ (p : Phase). IsAt p hand' stamp sets) (sym same) is;
}
