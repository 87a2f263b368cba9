-- What the steps of a call came upon, from view to view and from post to post.
use Rattle.std.proofs.Common.{◌≡◌, ℕ, ◌<◌, ◌≤◌, List, Option, [], ◌∷◌, ◌++◌, append_assoc, append-nil, refl, sym, ap, ◌∙◌, subst, ⊎_elim}
use Rattle.std.proofs.lemmas.Bool.{cases_lt}
use Rattle.stamp_base.specs.Stamp.{bound_of_clock}
use Rattle.word_layout.specs.Name.{Name}
use Rattle.core_rule.specs.View.{View, Load, Read, Seen}
use Rattle.core_rule.specs.Searching.{IsFinal}
use Rattle.core_rule.specs.Paths.{EndsAt, load}
use Rattle.core_rule.specs.Hands.{Seated}
use Rattle.clock_stamps.specs.Clocks.{rests}
use Rattle.clock_stamps.specs.Minima.{Raises, loads_from, bounded}
use Rattle.version_pool.specs.Takes.{WasMet}
use Rattle.version_search.specs.Growing as growing
use Rattle.version_search.specs.Finding.{Reads}
use Rattle.version_search.proofs.Grown.{grows_both, grows_loads, grows_same}
use Rattle.validate_core.specs.Sets.{SetsView}
use Rattle.validate_core.specs.Validating.{Met, MetFinal, no_more, its_read_stamp, IsShown}
use Rattle.validate_core.specs.declared.conflict.Conflict.{Conflict}
use Rattle.validate_core.specs.declared.conflict.Conflict.TheVariants.{Pending, ReadLater, Overtaken}
use Rattle.seat_post.specs.declared.phase.Phase.{Phase}
use Rattle.seat_post.specs.Conflicts.{WasFound, WereFound}
use Rattle.seat_post.specs.Observing.{Grows, WasLost}
use Rattle.seat_post.specs.Rewriting.{IsLoadedIn}
use Rattle.seat_post.specs.Reading.{FindsValue}
use Rattle.seat_post.specs.Searched.{Finds, Stops}
use Rattle.seat_post.specs.Seats.{observed_of}
use Rattle.seat_post.specs.Post.{PostView, post_of, observed_in}

-- ---- what was added

pub observed_grows : (h k : Seated) → growing.Grows h.view.seen k.view.seen → Grows (observed_in h) (observed_in k)
observed_grows h k g = record { loaded = g.loaded; missed = g.missed; loads = g.loads; lost = g.lost }

pub post_grows : (hand hand' : Seated) (phase : Phase) (stamp : ℕ) (sets : SetsView) (p : PostView) → post_of hand phase stamp sets ≡ p → growing.Grows hand.view.seen hand'.view.seen → Grows p.observed (observed_in hand')
post_grows hand hand' phase stamp sets p same g = subst (λ (q : PostView). Grows q.observed (observed_in hand')) same (observed_grows hand hand' g)

-- by nothing
pub seen_grows : (s t : Seen) → t ≡ s → growing.Grows s t
seen_grows s t e = grows_same s t (ap (λ (x : Seen). x.loads) e) (ap (λ (x : Seen). x.lost) e)

-- by the calls on clocks and minima
pub idle_grows : (h k : Seated) → (h.view.published.write < bound_of_clock h.view.clock.clock → k.view ≡ rests h.view) → (bound_of_clock h.view.clock.clock ≤ h.view.published.write → k ≡ h) → growing.Grows h.view.seen k.view.seen
idle_grows h k rises unchanged =
    seen_grows h.view.seen k.view.seen
    (⊎_elim (λ less. ap (λ (v : View). v.seen) (rises less)) (λ most. ap (λ (x : Seated). x.view.seen) (unchanged most)) (cases_lt h.view.published.write (bound_of_clock h.view.clock.clock)))

pub idle_seen : (h k : Seated) → (h.view.published.write < bound_of_clock h.view.clock.clock → k.view ≡ rests h.view) → (bound_of_clock h.view.clock.clock ≤ h.view.published.write → k ≡ h) → observed_of k.view ≡ observed_of h.view
idle_seen h k rises unchanged =
    ⊎_elim (λ less. ap observed_of (rises less)) (λ most. ap (λ (x : Seated). observed_of x.view) (unchanged most)) (cases_lt h.view.published.write (bound_of_clock h.view.clock.clock))

pub raises_grow : (family : ℕ → Name) (minimum : Name) (own : ℕ) (v : View) (result : ℕ) (w : View) → Raises family minimum own v result w → growing.Grows v.seen w.seen
raises_grow family minimum own v result w r =
    grows_loads v.seen w.seen (loads_from family 0 r.words ++ load minimum r.found ∷ [])
    (ap (λ (s : Seen). s.loads) r.seen ∙ append_assoc v.seen.loads (loads_from family 0 r.words) (load minimum r.found ∷ [])) (ap (λ (s : Seen). s.lost) r.seen)

pub bounded_grows : (v w : View) (bound : ℕ) → w ≡ bounded v bound → growing.Grows v.seen w.seen
bounded_grows v w bound is = grows_loads v.seen w.seen _ (ap (λ (y : View). y.seen.loads) is) (ap (λ (y : View). y.seen.lost) is)

-- by a search
pub reads_grow : (limit rid place wts status : ℕ) (v w : View) → Reads limit rid place wts status v w → growing.Grows v.seen w.seen
reads_grow limit rid place wts status v w found = grows_loads v.seen w.seen _ found.path.loads found.lost

pub value_grows : (stamp rid : ℕ) (value : Option (List ℕ)) (v w : View) → FindsValue stamp rid (observed_of v) (observed_of w) value → growing.Grows v.seen w.seen
value_grows stamp rid value v w found =
    let there = record v.seen { loads = found.leads.there } in
    grows_both v.seen there w.seen (grows_loads v.seen there _ found.leads.path.loads refl) (grows_loads there w.seen _ found.leads.loads found.lost)

pub finds_grow : (rid place wts : ℕ) (value : Option (List ℕ)) (v w : View) → Finds rid place wts value v w → growing.Grows v.seen w.seen
finds_grow rid place wts value v w found = value_grows _ rid value v w (record { place = place; wts = wts; leads = found.leads; lost = found.lost })

pub stops_grow : (stamp rid wts : ℕ) (v w : View) → Stops stamp rid wts v w → growing.Grows v.seen w.seen
stops_grow stamp rid wts v w stops = grows_loads v.seen w.seen _ stops.at.path.loads stops.at.lost

-- ---- what was met

-- where the call began earlier, and where it ends later
pub met_before : (stamp rid w n : ℕ) (more : ℕ → List Load) (a b c ls : List Load) → b ≡ a ++ ls → Met stamp rid w n more b c → Met stamp rid w n more a c
met_before stamp rid w n more a b c ls e m = record {
  place = m.place;
  earlier = ls ++ m.earlier;
  met = m.met;
  later = m.later;
  path = subst (λ (xs : List Load). EndsAt stamp rid m.place w n xs m.met) (ap (λ (xs : List Load). xs ++ m.earlier) e ∙ append_assoc a ls m.earlier) m.path;
  loads = m.loads;
}

pub met_after : (stamp rid w n : ℕ) (more : ℕ → List Load) (a b c ls : List Load) → c ≡ b ++ ls → Met stamp rid w n more a b → Met stamp rid w n more a c
met_after stamp rid w n more a b c ls e m = record {
  place = m.place;
  earlier = m.earlier;
  met = m.met;
  later = m.later ++ ls;
  path = m.path;
  loads = e ∙ ap (λ (xs : List Load). xs ++ ls) m.loads ∙ append_assoc m.met (more m.place ++ m.later) ls
      ∙ ap (λ (xs : List Load). m.met ++ xs) (append_assoc (more m.place) m.later ls);
}

final_before : (stamp rid w : ℕ) (more : ℕ → List Load) (a b c ls : List Load) → b ≡ a ++ ls → MetFinal stamp rid w more b c → MetFinal stamp rid w more a c
final_before stamp rid w more a b c ls e m = record { status = m.status; final = m.final; met = met_before stamp rid w m.status more a b c ls e m.met }

-- a version that a search found
pub met_found : (limit rid place wts status : ℕ) (v w : View) → Reads limit rid place wts status v w → Met limit rid wts status no_more v.seen.loads w.seen.loads
met_found limit rid place wts status v w found = record {
  place = place;
  earlier = [];
  met = w.seen.loads;
  later = [];
  path = subst (λ (xs : List Load). EndsAt limit rid place wts status xs w.seen.loads) (sym (append-nil v.seen.loads)) found.path;
  loads = sym (append-nil w.seen.loads);
}

-- of those loads nothing said
pub met_alone : (limit rid wts status : ℕ) (more : ℕ → List Load) (a b : List Load) → Met limit rid wts status more a b → Met limit rid wts status no_more a b
met_alone limit rid wts status more a b m = record { place = m.place; earlier = m.earlier; met = m.met; later = more m.place ++ m.later; path = m.path; loads = m.loads }

-- a version that was found, where more was loaded afterwards
pub found_after : (stamp rid wts : ℕ) (a b ls : List Load) → b ≡ a ++ ls → WasFound stamp rid wts a → WasFound stamp rid wts b
found_after stamp rid wts a b ls e f = record { status = f.status; final = f.final; met = met_after stamp rid wts f.status no_more [] a b ls e f.met }

pub found_met : (stamp rid wts status : ℕ) (more : ℕ → List Load) (a b : List Load) → IsFinal status → Met stamp rid wts status more a b → WasFound stamp rid wts b
found_met stamp rid wts status more a b final m = record { status = status; final = final; met = met_before stamp rid wts status no_more [] a b a refl (met_alone stamp rid wts status more a b m) }

pub were_found : (stamp : ℕ) (ds : List Read) (v w : View) → growing.Grows v.seen w.seen → WereFound stamp ds v.seen.loads → WereFound stamp ds w.seen.loads
were_found stamp ds v w g found d among = found_after stamp d.record_number d.version v.seen.loads w.seen.loads g.loaded g.loads (found d among)

-- what a conflict names
pub shown_loaded : (stamp : ℕ) (s : SetsView) (v w : View) (conflict : Conflict) → WereFound stamp s.reads w.seen.loads → IsShown stamp s v w conflict → IsLoadedIn stamp conflict v w
shown_loaded stamp s v w (Pending rid wts) found h = h.3
shown_loaded stamp s v w (ReadLater rid wts rts) found h = h.3
shown_loaded stamp s v w (Overtaken rid seen now) found h =
    let r = h.3 in
    (h.4, subst (λ (n : ℕ). WasFound stamp rid n w.seen.loads) r.at (subst (λ (n : ℕ). WasFound stamp n r.read.version w.seen.loads) r.of_record (found r.read r.among)))

pub loaded_before : (stamp : ℕ) (u v w : View) (conflict : Conflict) → growing.Grows u.seen v.seen → IsLoadedIn stamp conflict v w → IsLoadedIn stamp conflict u w
loaded_before stamp u v w (Pending rid wts) g m = met_before stamp rid wts 2 no_more u.seen.loads v.seen.loads w.seen.loads g.loaded g.loads m
loaded_before stamp u v w (ReadLater rid wts rts) g m = final_before stamp rid wts (its_read_stamp rts) u.seen.loads v.seen.loads w.seen.loads g.loaded g.loads m
loaded_before stamp u v w (Overtaken rid seen now) g m = (final_before stamp rid now no_more u.seen.loads v.seen.loads w.seen.loads g.loaded g.loads m.0, m.1)

-- a place that was met not free, where the call began earlier
-- where the call began earlier, and where it ends later
pub lost_earlier : (place : ℕ) (a b c ls : List Load) → b ≡ a ++ ls → WasLost place b c → WasLost place a c
lost_earlier place a b c ls e l = record {
  earlier = ls ++ l.earlier;
  exchange = l.exchange;
  later = l.later;
  not_free = l.not_free;
  lost = l.lost ∙ ap (λ (xs : List Load). xs ++ (l.earlier ++ l.exchange ∷ l.later)) e ∙ append_assoc a ls (l.earlier ++ l.exchange ∷ l.later)
      ∙ ap (λ (xs : List Load). a ++ xs) (sym (append_assoc ls l.earlier (l.exchange ∷ l.later)));
}

pub lost_later : (place : ℕ) (a b c ls : List Load) → c ≡ b ++ ls → WasLost place a b → WasLost place a c
lost_later place a b c ls e l = record {
  earlier = l.earlier;
  exchange = l.exchange;
  later = l.later ++ ls;
  not_free = l.not_free;
  lost = e ∙ ap (λ (xs : List Load). xs ++ ls) l.lost ∙ append_assoc a (l.earlier ++ l.exchange ∷ l.later) ls
      ∙ ap (λ (xs : List Load). a ++ xs) (append_assoc l.earlier (l.exchange ∷ l.later) ls);
}

pub lost_before : (place : ℕ) (u v w x : View) → growing.Grows u.seen v.seen → WasMet place v w → x.seen ≡ w.seen → WasLost place u.seen.lost x.seen.lost
lost_before place u v w x g m same =
    lost_earlier place u.seen.lost v.seen.lost x.seen.lost g.missed g.lost (record { earlier = m.earlier; exchange = m.exchange; later = m.later; not_free = m.not_free; lost = ap (λ (s : Seen). s.lost) same ∙ m.seen })
