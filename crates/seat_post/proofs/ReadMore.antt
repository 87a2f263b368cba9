-- What a post keeps through a read.
use Rattle.std.proofs.Common.{◌≡◌, ◌≢◌, ℕ, ◌<◌, List, [], ◌∷◌, ◌++◌, Option, None, Some, cond, refl, sym, ap, ◌∙◌, subst, inl, inr, ◌⊎◌, map, arith, true, false, ◌+◌}
use Rattle.std.specs.Prelude.{is_some}
use Rattle.word_layout.specs.Size.{Size, places}
use Rattle.core_rule.specs.View.{reads as for_reads, stands, shown, View, Read, Write, Search, still, Seen, writing}
use Rattle.core_rule.specs.Views.{Among, IsAlone}
use Rattle.core_rule.specs.Hands.{Shared, Seated, IsReady}
use Rattle.core_rule.specs.Searching.{Rests, IsWhole, IsFinal}
use Rattle.core_rule.specs.Deciding.{AreReads, read_values, entry_of}
use Rattle.core_rule.specs.Versions.{read_version, state_of}
use Rattle.record_store.specs.Meaning.{value_at}
use Rattle.validate_core.specs.Sets.{SetsView, MayInstall, Once, versions_read}
use Rattle.validate_core.specs.Installing.{IsBegun}
use Rattle.version_search.specs.Finding as finding
use Rattle.seat_post.specs.Searched.{Finds, Stops}
use Rattle.seat_post.specs.Conflicts.{IsOfAnother}
use Rattle.seat_post.specs.Reading.{FindsValue, LeadsTo, value_loaded}
use Rattle.seat_post.specs.Post.{PostView, IsPost, post_of, observed_in}
use Rattle.seat_post.specs.declared.phase.Phase.{Phase}
use Rattle.seat_post.specs.declared.phase.Phase.TheVariants.{Open}
use Rattle.seat_post.proofs.AloneSeats.{others_of, alone_told}
use Rattle.seat_post.proofs.Posts.{own_ready}
use Rattle.std.proofs.lemmas.List.{map_push}
use Rattle.std.proofs.lemmas.List.Elements.{All-push}
use Rattle.seat_post.specs.Leaves.{LeavesValue, AreLeft}
use Rattle.seat_post.specs.Logs.{IsAbove}
use Rattle.seat_post.specs.Seats.{IsAloneAt, Observed}
use Rattle.seat_post.specs.Conflicts.{WasFound}
use Rattle.seat_post.proofs.Observed.{finds_grow, stops_grow, were_found}
use Rattle.seat_post.proofs.Leaving.{post_left, limit_is}
use Rattle.seat_post.proofs.Listed.{unread, read_values-append, read_value-version}

-- one of a list that has one more at its end
among_append : {A : Type 0} (xs : List A) (y x : A) → Among x (xs ++ y ∷ []) → Among x xs ⊎ (y ≡ x)
among_append [] y x (inl same) = inr same
among_append [] y x (inr none) = absurd none
among_append (z ∷ xs) y x (inl same) = inl (inl same)
among_append (z ∷ xs) y x (inr more) = elim (among_append xs y x more) as (λ _. Among x (z ∷ xs) ⊎ (y ≡ x)) [ inl a ↦ inl (inr a) | inr b ↦ inr b ]

-- the versions found are more
found_more : (ds found : List Read) (d : Read) → AreReads ds found → AreReads ds (d ∷ found)
found_more [] found d are = tt
found_more (e ∷ ds) found d are = (inr are.0, are.1, are.2, found_more ds found d are.3)

not_again : (ds : List Read) (e d : Read) → ((c : Read) → Among c ds → c.record_number ≡ e.record_number → ⊥) → (e.record_number ≡ d.record_number → ⊥) → (c : Read) → Among c (ds ++ d ∷ []) → c.record_number ≡ e.record_number → ⊥
not_again ds e d others apart c among same =
    elim (among_append ds d c among) as (λ _. ⊥) [ inl a ↦ others c a same | inr is ↦ apart (sym same ∙ ap (λ (x : Read). x.record_number) (sym is)) ]

-- one more read, of the version that was found last
are_more : (ds found : List Read) (d : Read) → AreReads ds (d ∷ found) → IsWhole d → ((c : Read) → Among c ds → c.record_number ≢ d.record_number) → AreReads (ds ++ d ∷ []) (d ∷ found)
are_more [] found d are whole apart = (inl refl, whole, λ c among. absurd among, tt)
are_more (e ∷ ds) found d are whole apart =
    (are.0, are.1, not_again ds e d are.2 (apart e (inl refl)), are_more ds found d are.3 whole (λ c among. apart c (inr among)))

-- the view after a search that found a version, or met a pending one
abbrev searched : View → Search → List Read → Seen → View
searched v search reads seen = record v { work = record v.work { search = search; reads = reads }; seen = seen }

may_install_more : (z : Size) (s s' : SetsView) (d : Read) → MayInstall z s → s'.reads ≡ s.reads ++ d ∷ [] → s'.writes ≡ s.writes → d.record_number < z.records → d.place < places z → MayInstall z s'
may_install_more z s s' d may reads writes rid place = record {
  reads = λ c among. elim (among_append s.reads d c (subst (λ (ds : List Read). Among c ds) reads among)) as (λ _. (c.record_number < z.records) × (c.place < places z)) [ inl a ↦ may.reads c a | inr is ↦ subst (λ (x : Read). (x.record_number < z.records) × (x.place < places z)) is (rid, place) ];
  writes = rw writes may.writes;
  once = rw writes may.once;
}

begun_found : (z : Size) (s s' : SetsView) (v : View) (search : Search) (d : Read) (seen : Seen) → IsBegun z s v → Rests search → AreReads s'.reads (d ∷ v.work.reads) → MayInstall z s' → IsBegun z s' (searched v search (d ∷ v.work.reads) seen)
begun_found z s s' v search d seen is rests reads inside = record {
  in_flight = is.in_flight;
  stamp = is.stamp;
  rests = rests;
  reads = reads;
  raised = is.raised;
  finished = is.finished;
  linked = is.linked;
  passed = is.passed;
  undecided = record { undecided = is.undecided.undecided; unsettled = is.undecided.unsettled };
  collected = is.collected;
  inside = inside;
}

begun_stopped : (z : Size) (s : SetsView) (v : View) (search : Search) (seen : Seen) → IsBegun z s v → Rests search → IsBegun z s (record v { work = record v.work { search = search }; seen = seen })
begun_stopped z s v search seen is rests = record {
  in_flight = is.in_flight;
  stamp = is.stamp;
  rests = rests;
  reads = is.reads;
  raised = is.raised;
  finished = is.finished;
  linked = is.linked;
  passed = is.passed;
  undecided = record { undecided = is.undecided.undecided; unsettled = is.undecided.unsettled };
  collected = is.collected;
  inside = is.inside;
}

begun_written : (z : Size) (s s' : SetsView) (v : View) → IsBegun z s v → s'.reads ≡ s.reads → ((u : Write) → Among u s'.writes → u.record_number < z.records) → Once (λ (u : Write). u.record_number) s'.writes → IsBegun z s' v
begun_written z s s' v is reads within once = record {
  in_flight = is.in_flight;
  stamp = is.stamp;
  rests = is.rests;
  reads = rw reads is.reads;
  raised = is.raised;
  finished = is.finished;
  linked = is.linked;
  passed = is.passed;
  undecided = is.undecided;
  collected = is.collected;
  inside = record { reads = rw reads is.inside.reads; writes = within; once = once };
}

-- ---- the post

-- the post where the phase is known
pub open_at : (phase : Phase) (hand : Seated) (stamp : ℕ) (sets : SetsView) → phase ≡ Open → IsPost hand Open stamp sets → IsPost hand phase stamp sets
open_at phase hand stamp sets same is = subst (λ (p : Phase). IsPost hand p stamp sets) (sym same) is

pub is_open : (phase : Phase) (hand : Seated) (stamp : ℕ) (sets : SetsView) → phase ≡ Open → IsPost hand phase stamp sets → IsPost hand Open stamp sets
is_open phase hand stamp sets same is = subst (λ (p : Phase). IsPost hand p stamp sets) same is

-- other writes
pub post_written : (hand : Seated) (stamp : ℕ) (sets sets' : SetsView) → IsPost hand Open stamp sets → sets'.reads ≡ sets.reads → ((u : Write) → Among u sets'.writes → u.record_number < hand.view.size.records) → Once (λ (u : Write). u.record_number) sets'.writes → IsPost hand Open stamp sets'
post_written hand stamp sets sets' is reads within once = record {
  ready = is.ready;
  size = is.size;
  holds_none = is.holds_none;
  none_reserved = is.none_reserved;
  at = record {
    begun = begun_written hand.view.size sets sets' hand.view is.at.begun reads within once;
    at = is.at.at;
    above = is.at.above;
    left = rw reads is.at.left;
    found = rw reads is.at.found;
  };
}

-- more room alone
pub post_room : (hand : Seated) (stamp : ℕ) (sets sets' : SetsView) → IsPost hand Open stamp sets → sets'.reads ≡ sets.reads → sets'.writes ≡ sets.writes → IsPost hand Open stamp sets'
post_room hand stamp sets sets' is reads writes =
    let inside = is.at.begun.inside in
    post_written hand stamp sets sets' is reads (rw writes inside.writes) (rw writes inside.once)

-- what it shows is the same
pub view_room : (hand : Seated) (phase : Phase) (stamp : ℕ) (sets sets' : SetsView) → sets'.reads ≡ sets.reads → sets'.writes ≡ sets.writes → post_of hand phase stamp sets' ≡ post_of hand phase stamp sets
view_room hand phase stamp sets sets' reads writes = rw (reads, writes) refl

-- a search that met a pending version
pub stops_at : (stamp rid place wts : ℕ) (v w : View) → finding.Finds for_reads (cond false (stamp + 1) stamp) rid place wts 2 v w → Stops stamp rid wts v w
stops_at stamp rid place wts v w found =
    let r = found.reaches in
    let met = r.met refl in
    let view = r.view in
    record {
      search = stands (finding.stand_for for_reads rid place r.under) (shown wts 2);
      view = view;
      rests = tt;
      at = record { place = place; path = found.path; lost = r.lost };
      before = r.early;
      another = let a = met.another in record {
        stamp = a.stamp;
        another = λ e. a.another (rw view e);
        within = rw view at a.within;
        not_alone = λ alone. a.not_alone (rw view alone);
      };
    }

-- what it says of the transaction of a post
pub met_at : (hand hand' : Seated) (stamp rid wts : ℕ) → Stops stamp rid wts hand.view hand'.view → hand.view.number < hand.view.size.seats → (wts < stamp) × IsOfAnother hand.view.size hand.view.number (others_of hand.view) wts
met_at hand hand' stamp rid wts stops inside =
    let other = stops.another in
    let within = other.within in
    let apart = other.another in
    (stops.before, record { is_stamp = other.stamp; another = apart; within = within; more = omega arith; not_alone = λ alone. other.not_alone (alone_told hand.view alone) })

-- the version that was found is committed or deleted
final_state : (value : Option (List ℕ)) → IsFinal (state_of value)
final_state None = (omega arith, omega arith)
final_state (Some words) = (omega arith, omega arith)

pub found_at : (v w : View) (stamp rid place wts : ℕ) (value : Option (List ℕ)) → Finds rid place wts value v w → v.flight ≡ writing stamp → WasFound stamp rid wts w.seen.loads
found_at v w stamp rid place wts value finds flight =
    let leads = subst (λ (n : ℕ). LeadsTo n rid place wts value v.seen.loads w.seen.loads) (limit_is v stamp flight) finds.leads in
    record {
      status = state_of value;
      final = final_state value;
      met = record { place = place; earlier = v.seen.loads; met = leads.there; later = value_loaded value place; path = leads.path; loads = leads.loads };
    }

-- the values read, with one more
pub read_more : (rid place wts : ℕ) (value : Option (List ℕ)) (ds ds' : List Read) → ds' ≡ ds ++ read_version rid place wts value ∷ [] → read_values ds' ≡ read_values ds ++ (rid, value) ∷ []
read_more rid place wts value ds ds' more =
    ap read_values more ∙ read_values-append ds (read_version rid place wts value) ∙ ap (λ v. read_values ds ++ (rid, v) ∷ []) (read_value-version rid place wts value)

-- their versions, with one more
pub versions_more : (rid place wts : ℕ) (value : Option (List ℕ)) (ds ds' : List Read) → ds' ≡ ds ++ read_version rid place wts value ∷ [] → versions_read ds' ≡ versions_read ds ++ (rid, wts) ∷ []
versions_more rid place wts value ds ds' more = ap versions_read more ∙ map_push (λ (d : Read). (d.record_number, d.version)) ds (read_version rid place wts value)

-- a read was noted
pub post_read : (core : Shared) (hand hand' : Seated) (stamp rid place wts : ℕ) (value : Option (List ℕ)) (sets sets' : SetsView) → IsPost hand Open stamp sets → IsReady core hand' → Finds rid place wts value hand.view hand'.view → rid < hand.view.size.records → value_at (read_values sets.reads) rid ≡ None → sets'.reads ≡ sets.reads ++ read_version rid place wts value ∷ [] → sets'.writes ≡ sets.writes → IsPost hand' Open stamp sets'
post_read core hand hand' stamp rid place wts value sets sets' is ready finds within first reads writes =
    let d = read_version rid place wts value in
    let may = may_install_more hand.view.size sets sets' d is.at.begun.inside reads writes within finds.inside in
    let found = found_more sets.reads hand.view.work.reads d is.at.begun.reads in
    let are : AreReads sets'.reads (d ∷ hand.view.work.reads) = rw reads (are_more sets.reads hand.view.work.reads d found finds.whole (unread sets.reads rid first)) in
    record {
      ready = own_ready core hand' ready;
      size = rw finds.view is.size;
      holds_none = rw finds.view is.holds_none;
      none_reserved = rw finds.view is.none_reserved;
      at = record {
        begun = rw finds.view (begun_found hand.view.size sets sets' hand.view still d hand'.view.seen is.at.begun tt are may);
        at = rw finds.view is.at.at;
        above = rw finds.view is.at.above;
        left = λ alone.
            let before : IsAlone hand.view = rw finds.view at alone in
            let here = post_left hand hand' stamp rid place wts value finds is.at.begun.in_flight is.at.at before in
            rw (finds.view, read_more rid place wts value sets.reads sets'.reads reads) (All-push (λ read. LeavesValue (map entry_of hand.view.log) read.0 stamp read.1) (read_values sets.reads) (rid, value) (is.at.left before) here);
        found = λ e among. elim (among_append sets.reads d e (subst (λ (ds : List Read). Among e ds) reads among)) as (λ _. WasFound stamp e.record_number e.version hand'.view.seen.loads) [
          | inl earlier ↦ were_found stamp sets.reads hand.view hand'.view (finds_grow rid place wts value hand.view hand'.view finds) is.at.found e earlier
          | inr same ↦ subst (λ (x : Read). WasFound stamp x.record_number x.version hand'.view.seen.loads) same (found_at hand.view hand'.view stamp rid place wts value finds (is.at.begun.in_flight ∙ ap writing (sym is.at.at)))
        ];
      };
    }

-- a pending version was met
pub post_stopped : (core : Shared) (hand hand' : Seated) (stamp rid wts : ℕ) (sets : SetsView) → IsPost hand Open stamp sets → IsReady core hand' → Stops stamp rid wts hand.view hand'.view → IsPost hand' Open stamp sets
post_stopped core hand hand' stamp rid wts sets is ready stops = record {
  ready = own_ready core hand' ready;
  size = rw stops.view is.size;
  holds_none = rw stops.view is.holds_none;
  none_reserved = rw stops.view is.none_reserved;
  at = record {
    begun = rw stops.view (begun_stopped hand.view.size sets hand.view stops.search hand'.view.seen is.at.begun stops.rests);
    at = rw stops.view is.at.at;
    above = rw stops.view is.at.above;
    left = rw stops.view is.at.left;
    found = were_found stamp sets.reads hand.view hand'.view (stops_grow stamp rid wts hand.view hand'.view stops) is.at.found;
  };
}

-- a record of which nothing is known was not read
pub not_read : (w r : Option (Option (List ℕ))) → cond (is_some w) w r ≡ None → r ≡ None
not_read None r none = none
not_read (Some x) r none = cc

-- a version was found that is not noted
pub post_passed : (core : Shared) (hand hand' : Seated) (stamp rid place wts : ℕ) (value : Option (List ℕ)) (sets : SetsView) → IsPost hand Open stamp sets → IsReady core hand' → Finds rid place wts value hand.view hand'.view → IsPost hand' Open stamp sets
post_passed core hand hand' stamp rid place wts value sets is ready finds =
    let d = read_version rid place wts value in
    let found = found_more sets.reads hand.view.work.reads d is.at.begun.reads in
    record {
      ready = own_ready core hand' ready;
      size = rw finds.view is.size;
      holds_none = rw finds.view is.holds_none;
      none_reserved = rw finds.view is.none_reserved;
      at = record {
        begun = rw finds.view (begun_found hand.view.size sets sets hand.view still d hand'.view.seen is.at.begun tt found is.at.begun.inside);
        at = rw finds.view is.at.at;
        above = rw finds.view is.at.above;
        left = rw finds.view is.at.left;
        found = were_found stamp sets.reads hand.view hand'.view (finds_grow rid place wts value hand.view hand'.view finds) is.at.found;
      };
    }

-- its loads alone led to it
pub value_led : (hand hand' : Seated) (phase : Phase) (stamp rid place wts : ℕ) (value : Option (List ℕ)) (sets : SetsView) (p : PostView) → IsPost hand phase stamp sets → post_of hand phase stamp sets ≡ p → p.phase ≡ Open → Finds rid place wts value hand.view hand'.view → LeadsTo p.stamp rid place wts value p.observed.loads hand'.view.seen.loads
value_led hand hand' phase stamp rid place wts value sets p is same flying finds =
    let now = is_open phase hand stamp sets (ap (λ (q : PostView). q.phase) same ∙ flying) is in
    subst (λ (q : PostView). LeadsTo q.stamp rid place wts value q.observed.loads hand'.view.seen.loads) same
    (subst (λ (n : ℕ). LeadsTo n rid place wts value hand.view.seen.loads hand'.view.seen.loads) (limit_is hand.view stamp (now.at.begun.in_flight ∙ ap writing (sym now.at.at))) finds.leads)

abbrev pub found_value : (hand hand' : Seated) (phase : Phase) (stamp rid place wts : ℕ) (value : Option (List ℕ)) (sets : SetsView) (p : PostView) → IsPost hand phase stamp sets → post_of hand phase stamp sets ≡ p → p.phase ≡ Open → Finds rid place wts value hand.view hand'.view → FindsValue p.stamp rid p.observed (observed_in hand') value
found_value hand hand' phase stamp rid place wts value sets p is same flying finds = record { place = place; wts = wts; leads = value_led hand hand' phase stamp rid place wts value sets p is same flying finds; lost = finds.lost ∙ ap (λ (q : PostView). q.observed.lost) same }

-- that it is present
pub present_found : (stamp rid : ℕ) (before after' : Observed) (value : Option (List ℕ)) → FindsValue stamp rid before after' value → is_some value ≡ true → (words : List ℕ) × FindsValue stamp rid before after' (Some words)
present_found stamp rid before after' None found some = cc
present_found stamp rid before after' (Some words) found some = (words, found)

-- ---- what a log leaves

pub alone_at : (hand : Seated) (phase : Phase) (stamp : ℕ) (sets : SetsView) (p : PostView) → post_of hand phase stamp sets ≡ p → IsAloneAt p.shared.size p.seat p.others → IsAlone hand.view
alone_at hand phase stamp sets p same on = alone_told hand.view (subst (λ (q : PostView). IsAloneAt q.shared.size q.seat q.others) (sym same) on)

pub open_left : (hand : Seated) (phase : Phase) (stamp : ℕ) (sets : SetsView) (p : PostView) → IsPost hand phase stamp sets → post_of hand phase stamp sets ≡ p → p.phase ≡ Open → IsAloneAt p.shared.size p.seat p.others → AreLeft p.log p.stamp p.reads
open_left hand phase stamp sets p is same flying on =
    let now = is_open phase hand stamp sets (ap (λ (q : PostView). q.phase) same ∙ flying) is in
    subst (λ (q : PostView). AreLeft q.log q.stamp q.reads) same (now.at.left (alone_at hand phase stamp sets p same on))

pub open_above : (hand : Seated) (phase : Phase) (stamp : ℕ) (sets : SetsView) (p : PostView) → IsPost hand phase stamp sets → post_of hand phase stamp sets ≡ p → p.phase ≡ Open → IsAbove p.log p.stamp
open_above hand phase stamp sets p is same flying =
    let now = is_open phase hand stamp sets (ap (λ (q : PostView). q.phase) same ∙ flying) is in
    subst (λ (q : PostView). IsAbove q.log q.stamp) same now.at.above

pub found_left : (hand hand' : Seated) (phase : Phase) (stamp rid place wts : ℕ) (value : Option (List ℕ)) (sets : SetsView) (p : PostView) → IsPost hand phase stamp sets → post_of hand phase stamp sets ≡ p → p.phase ≡ Open → Finds rid place wts value hand.view hand'.view → IsAloneAt p.shared.size p.seat p.others → LeavesValue p.log rid p.stamp value
found_left hand hand' phase stamp rid place wts value sets p is same flying finds on =
    let now = is_open phase hand stamp sets (ap (λ (q : PostView). q.phase) same ∙ flying) is in
    subst (λ (q : PostView). LeavesValue q.log rid q.stamp value) same (post_left hand hand' stamp rid place wts value finds now.at.begun.in_flight now.at.at (alone_at hand phase stamp sets p same on))
