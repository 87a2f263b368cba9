-- What settling keeps of a seat that is alone, from call to call.
use Rattle.std.proofs.Common.{◌≡◌, ℕ, ◌+◌, ◌<◌, ◌≤◌, List, ◌++◌, refl, sym, ap, ◌∙◌, subst, arith, inl, inr, ⊎_elim, max}
use Rattle.std.proofs.lemmas.Bool.{cases_lt}
use Rattle.plain_data.specs.declared.entry.Entry.{Entry}
use Rattle.plain_data.specs.State.{State}
use Rattle.stamp_base.specs.Stamp.{bound_of_clock}
use Rattle.core_rule.specs.View.{View, Work, no_work, Seen, Load, Counted, Gone}
use Rattle.core_rule.specs.Views.{IsAlone}
use Rattle.core_rule.specs.Searching.{Ends}
use Rattle.core_rule.specs.Hands.{Seated}
use Rattle.clock_stamps.specs.Clocks.{rests}
use Rattle.clock_stamps.specs.Minima.{raised_write, bounded}
use Rattle.version_search.specs.Growing.{Grows}
use Rattle.version_search.specs.Finding.{Reads}
use Rattle.version_search.proofs.Grown.{grows_none, grows_loads, grows_both}
use Rattle.rapid_gc.specs.Collections.{after_collecting}
use Rattle.seat_post.specs.Rewriting.{Rewritings, none_yet, one_more}
use Rattle.seat_post.specs.Settling.{entries_of, IsSettling, Settles}
use Rattle.seat_post.proofs.Observed.{bounded_grows, reads_grow}

-- the same seat with the same clock and log, the same published word or the bound of the clock, and nothing in flight
pub record Steady (v w : View) : Type 0 where
  pub number : w.number ≡ v.number
  pub size : w.size ≡ v.size
  pub splitting : w.splitting ≡ v.splitting
  pub taken_in : w.clock.taken_in ≡ v.clock.taken_in
  pub clock : w.clock.clock ≡ v.clock.clock
  pub published : v.published.write ≤ w.published.write
  pub bounded : w.published.write ≤ max v.published.write (bound_of_clock w.clock.clock)
  pub met : v.clock.met ≤ w.clock.met
  pub log : w.log ≡ v.log
  pub held : w.places.held ≡ v.places.held
  pub grows : Grows v.seen w.seen
  pub ends : Ends w.work

nothing_ends : Ends no_work
nothing_ends = record { rests = tt; settled = λ u among. absurd among; collected = refl }

pub steady_same : (v w : View) → w ≡ v → Ends v.work → Steady v w
steady_same v w same ends = subst (λ (y : View). Steady v y) (sym same) (record { number = refl; size = refl; splitting = refl; taken_in = refl; clock = refl; published = omega arith; bounded = omega arith; met = omega arith; log = refl; held = refl; grows = grows_none v.seen; ends = ends })

pub steady_both : (u v w : View) → Steady u v → Steady v w → Steady u w
steady_both u v w a b = record {
  number = b.number ∙ a.number;
  size = b.size ∙ a.size;
  splitting = b.splitting ∙ a.splitting;
  taken_in = b.taken_in ∙ a.taken_in;
  clock = b.clock ∙ a.clock;
  published = let h = a.published in let k = b.published in omega arith;
  bounded = let h = a.bounded in let k = b.bounded in let c = b.clock in omega arith;
  met = let h = a.met in let k = b.met in omega arith;
  log = b.log ∙ a.log;
  held = b.held ∙ a.held;
  grows = grows_both u.seen v.seen w.seen a.grows b.grows;
  ends = b.ends;
}

steady_rests : (v w : View) → v.published.write < bound_of_clock v.clock.clock → w ≡ rests v → Steady v w
steady_rests v w less is = subst (λ (y : View). Steady v y) (sym is) (record { number = refl; size = refl; splitting = refl; taken_in = refl; clock = refl; published = omega arith; bounded = omega arith; met = omega arith; log = refl; held = refl; grows = grows_none v.seen; ends = nothing_ends })

pub steady_idle : (h k : Seated) → Ends h.view.work → (h.view.published.write < bound_of_clock h.view.clock.clock → k.view ≡ rests h.view) → (bound_of_clock h.view.clock.clock ≤ h.view.published.write → k ≡ h) → Steady h.view k.view
steady_idle h k ends rises unchanged =
    ⊎_elim (λ less. steady_rests h.view k.view less (rises less)) (λ most. steady_same h.view k.view (ap (λ (x : Seated). x.view) (unchanged most)) ends) (cases_lt h.view.published.write (bound_of_clock h.view.clock.clock))

pub steady_raised : (v w : View) (met : ℕ) (seen : Seen) → w ≡ raised_write v met seen → Grows v.seen seen → v.clock.met ≤ met → Ends v.work → Steady v w
steady_raised v w met seen is grows later ends = subst (λ (y : View). Steady v y) (sym is) (record { number = refl; size = refl; splitting = refl; taken_in = refl; clock = refl; published = omega arith; bounded = omega arith; met = later; log = refl; held = refl; grows = grows; ends = ends })

pub steady_bounded : (v w : View) (bound : ℕ) → w ≡ bounded v bound → v.clock.met ≤ bound + 1 → Steady v w
steady_bounded v w bound is later = subst (λ (y : View). Steady v y) (sym is) (record { number = refl; size = refl; splitting = refl; taken_in = refl; clock = refl; published = omega arith; bounded = omega arith; met = later; log = refl; held = refl; grows = bounded_grows v (bounded v bound) bound refl; ends = nothing_ends })

pub steady_read : (limit rid place wts status : ℕ) (v w : View) → Reads limit rid place wts status v w → Ends v.work → Steady v w
steady_read limit rid place wts status v w found ends = subst (λ (y : View). Steady v y) (sym found.view) (record { number = refl; size = refl; splitting = refl; taken_in = refl; clock = refl; published = omega arith; bounded = omega arith; met = omega arith; log = refl; held = refl; grows = reads_grow limit rid place wts status v w found; ends = record { rests = tt; settled = ends.settled; collected = ends.collected } })

-- a search up to the published read stamp, after that was published anew
pub steady_looked : (a b c d : Seated) (e : View) (met bound rid place wts status : ℕ) → Ends a.view.work → (a.view.published.write < bound_of_clock a.view.clock.clock → b.view ≡ rests a.view) → (bound_of_clock a.view.clock.clock ≤ a.view.published.write → b ≡ a) → c.view ≡ raised_write b.view met c.view.seen → Grows b.view.seen c.view.seen → b.view.clock.met ≤ met → d.view ≡ bounded c.view bound → c.view.clock.met ≤ bound + 1 → Reads (bound + 1) rid place wts status d.view e → Steady a.view e
steady_looked a b c d e met bound rid place wts status ends rises unchanged raised grows not_back is later found =
    let idled = steady_idle a b ends rises unchanged in
    let raise = steady_raised b.view c.view met c.view.seen raised grows not_back idled.ends in
    let publish = steady_bounded c.view d.view bound is later in
    let read = steady_read (bound + 1) rid place wts status d.view e found publish.ends in
    steady_both a.view d.view e (steady_both a.view c.view d.view (steady_both a.view b.view c.view idled raise) publish) read

-- the look at a first version, and a collection
steady_first : (v w : View) (ls : List Load) → w ≡ record v { counts = w.counts; tops = w.tops; front = w.front; seen = w.seen } → w.seen.loads ≡ v.seen.loads ++ ls → w.seen.lost ≡ v.seen.lost → Ends v.work → Steady v w
steady_first v w ls is loads lost ends = subst (λ (y : View). Steady v y) (sym is) (record { number = refl; size = refl; splitting = refl; taken_in = refl; clock = refl; published = omega arith; bounded = omega arith; met = omega arith; log = refl; held = refl; grows = grows_loads v.seen w.seen ls loads lost; ends = ends })

pub steady_collected : (v w : View) (bound reached : ℕ) (counts : Counted) (gone : Gone) (seen : Seen) → w ≡ after_collecting v bound reached counts gone seen → v.clock.met ≤ w.clock.met → Grows v.seen w.seen → Steady v w
steady_collected v w bound reached counts gone seen is met grows = record {
  number = ap (λ (y : View). y.number) is;
  size = ap (λ (y : View). y.size) is;
  splitting = ap (λ (y : View). y.splitting) is;
  taken_in = ap (λ (y : View). y.clock.taken_in) is;
  clock = ap (λ (y : View). y.clock.clock) is;
  published = let h = ap (λ (y : View). y.published.write) is in omega arith;
  bounded = let h = ap (λ (y : View). y.published.write) is in let k = ap (λ (y : View). y.clock.clock) is in omega arith;
  met = met;
  log = ap (λ (y : View). y.log) is;
  held = ap (λ (y : View). y.places.held) is;
  grows = grows;
  ends = subst (λ (y : Work). Ends y) (sym (ap (λ (y : View). y.work) is)) nothing_ends;
}

-- ---- what follows

pub alone_same : (v w : View) → w.number ≡ v.number → w.size ≡ v.size → w.splitting ≡ v.splitting → w.clock.taken_in ≡ v.clock.taken_in → IsAlone v → IsAlone w
alone_same v w number size splitting taken_in alone = rw (number, size, splitting, taken_in) alone

pub steady_settling : (v w : View) → IsSettling v → Steady v w → IsSettling w
steady_settling v w is s = record {
  alone = alone_same v w s.number s.size s.splitting s.taken_in is.alone;
  ends = s.ends;
  holds_none = s.held ∙ is.holds_none;
  above = rw (s.log, s.clock) is.above;
}

pub steady_settles : (kept : State → Type 0) (v w : View) → Steady v w → Settles kept v w
steady_settles kept v w s = record {
  number = s.number;
  size = s.size;
  splitting = s.splitting;
  taken_in = s.taken_in;
  later = let h = s.clock in omega arith;
  published = s.published;
  bounded = s.bounded;
  met = s.met;
  grows = s.grows;
  log = rw s.log none_yet;
  added = rw s.log (λ e among. inl among);
}

pub first_settles : (kept : State → Type 0) (v w : View) (ls : List Load) → w ≡ record v { counts = w.counts; tops = w.tops; front = w.front; seen = w.seen } → w.seen.loads ≡ v.seen.loads ++ ls → w.seen.lost ≡ v.seen.lost → IsSettling v → Settles kept v w × IsSettling w
first_settles kept v w ls is loads lost settling = let steady = steady_first v w ls is loads lost settling.ends in (steady_settles kept v w steady, steady_settling v w settling steady)

rewritings_both : (kept : State → Type 0) (records : ℕ) (a b c : List Entry) → Rewritings kept records a b → Rewritings kept records b c → Rewritings kept records a c
rewritings_both kept records a b c first none_yet = first
rewritings_both kept records a b c first (one_more log stamp rid value second stood above left) = one_more log stamp rid value (rewritings_both kept records a b log first second) stood above left

-- what is above a clock is above an earlier one
later_stamp : (u v : View) (t : ℕ) → u.clock.clock ≤ v.clock.clock → bound_of_clock v.clock.clock ≤ t → bound_of_clock u.clock.clock ≤ t
later_stamp u v t later above = omega arith

pub settles_both : (kept : State → Type 0) (u v w : View) → Settles kept u v → Settles kept v w → Settles kept u w
settles_both kept u v w a b = record {
  number = b.number ∙ a.number;
  size = b.size ∙ a.size;
  splitting = b.splitting ∙ a.splitting;
  taken_in = b.taken_in ∙ a.taken_in;
  later = let h = a.later in let k = b.later in omega arith;
  published = let h = a.published in let k = b.published in omega arith;
  bounded = let h = a.bounded in let k = b.bounded in let l = b.later in omega arith;
  met = let h = a.met in let k = b.met in omega arith;
  grows = grows_both u.seen v.seen w.seen a.grows b.grows;
  log = rewritings_both kept u.size.records (entries_of u) (entries_of v) (entries_of w) a.log (rw (← a.size) b.log);
  added = λ e among. ⊎_elim (λ earlier. a.added e earlier) (λ above. inr (later_stamp u v e.stamp a.later above)) (b.added e among);
}
