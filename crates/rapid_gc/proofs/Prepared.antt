-- What precedes a collection.
use Rattle.std.proofs.Common.{◌≡◌, ◌<◌, ◌≤◌, ℕ, max, Bool, true, false, cond, refl, ap, ◌∙◌, arith}
use Rattle.std.specs.Prelude.{nat_lt}
use Rattle.std.proofs.lemmas.Bool.Decides.{Decides-ltb}
use mathlib.Core.Logic.{dite}
use native.Mathlib.Decide.{dec_lt}
use Rattle.stamp_base.specs.Stamp.{bound_of_clock}
use Rattle.core_rule.specs.View.{View, no_item, Counted, Gone, Seen}
use Rattle.clock_stamps.specs.Minima.{raised_write, raised_read, bounded}
use Rattle.core_rule.specs.Searching.{Ends}
use Rattle.clock_stamps.specs.Clocks.{rests}
use Rattle.rapid_gc.specs.Views.{Passes}
use Rattle.rapid_gc.specs.Collections.{idled, after_collecting}

pub idled_is : (v w : View) → (v.published.write < bound_of_clock v.clock.clock → w ≡ rests v) → (bound_of_clock v.clock.clock ≤ v.published.write → w ≡ v) → w ≡ idled v
idled_is v w rises same = by_test (nat_lt v.published.write (bound_of_clock v.clock.clock)) refl where
  by_test : (t : Bool) → nat_lt v.published.write (bound_of_clock v.clock.clock) ≡ t → w ≡ cond t (rests v) v
  by_test true e = rises ((Decides-ltb v.published.write (bound_of_clock v.clock.clock)).0 e)
  by_test false e = dite (dec_lt v.published.write (bound_of_clock v.clock.clock))
      (λ lt. absurd (let t = (Decides-ltb v.published.write (bound_of_clock v.clock.clock)).1 lt in cc)) (λ ge. same (omega arith))

ends_by : (v : View) (t : Bool) → Ends v.work → Ends (cond t (rests v) v).work
ends_by v true h = record { rests = tt; settled = λ u among. absurd among; collected = refl }
ends_by v false h = h

pub ends_idled : (v : View) → Ends v.work → Ends (idled v).work
ends_idled v h = ends_by v (nat_lt v.published.write (bound_of_clock v.clock.clock)) h

-- what a collection leaves of the view
module _ (v : View) (least bound reached : ℕ) (x y : Seen) (counts : Counted) (gone : Gone) (seen : Seen) where
  abbrev through : View → View
  through u = record (raised_read (bounded (raised_write u least x) bound) reached y) { counts = counts; gone = gone; seen = seen }

  same_by : (t : Bool) → nat_lt v.published.write (bound_of_clock v.clock.clock) ≡ t → through (cond t (rests v) v) ≡ after_collecting v bound reached counts gone seen
  same_by true e =
      let lt = (Decides-ltb v.published.write (bound_of_clock v.clock.clock)).0 e in
      let top : bound_of_clock v.clock.clock ≡ max v.published.write (bound_of_clock v.clock.clock) = omega arith in
      λ i. record (after_collecting v bound reached counts gone seen) { published = record { write = top i; read = bound } }
  same_by false e =
      let top : v.published.write ≡ max v.published.write (bound_of_clock v.clock.clock) = dite (dec_lt v.published.write (bound_of_clock v.clock.clock))
      (λ lt. absurd (let t = (Decides-ltb v.published.write (bound_of_clock v.clock.clock)).1 lt in cc)) (λ ge. omega arith) in
      λ i. record (after_collecting v bound reached counts gone seen) { published = record { write = top i; read = bound } }

pub collects_view : (v u w p after' : View) (least bound reached : ℕ) → u ≡ idled v → w ≡ raised_write u least w.seen → (b : View) → b ≡ bounded w bound → p ≡ raised_read b reached p.seen → Passes p after'
    → after' ≡ after_collecting v bound reached after'.counts after'.gone after'.seen
collects_view v u w p after' least bound reached e1 e2 b e3 e4 e5 =
    e5 ∙ ap (λ (y : View). record y { work = record y.work { item = no_item }; counts = after'.counts; gone = after'.gone; seen = after'.seen })
    (e4 ∙ ap (λ (y : View). raised_read y reached p.seen) (e3 ∙ ap (λ (y : View). bounded y bound) (e2 ∙ ap (λ (y : View). raised_write y least w.seen) e1)))
    ∙ same_by v least bound reached w.seen p.seen after'.counts after'.gone after'.seen (nat_lt v.published.write (bound_of_clock v.clock.clock)) refl
