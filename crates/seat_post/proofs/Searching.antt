-- What a search by a seat that is alone leaves as it was.
use Rattle.std.proofs.Common.{◌≡◌, ℕ, ◌<◌, ◌≤◌, refl, sym, ap, ◌∙◌, subst, ⊎_elim}
use Rattle.std.proofs.lemmas.Bool.{cases_lt}
use Rattle.stamp_base.specs.Stamp.{bound_of_clock}
use Rattle.core_rule.specs.View.{View}
use Rattle.core_rule.specs.Hands.{Seated}
use Rattle.clock_stamps.specs.Clocks.{rests}
use Rattle.clock_stamps.specs.Minima.{raised_write, bounded}
use Rattle.version_search.specs.Finding.{Reads}
use Rattle.seat_post.specs.Settling.{OnlySearches}

only_both : (u v w : View) → OnlySearches u v → OnlySearches v w → OnlySearches u w
only_both u v w a b = record {
  clock = b.clock ∙ a.clock;
  counts = b.counts ∙ a.counts;
  tops = b.tops ∙ a.tops;
  log = b.log ∙ a.log;
  gone = b.gone ∙ a.gone;
}

only_idle : (h k : Seated) → (h.view.published.write < bound_of_clock h.view.clock.clock → k.view ≡ rests h.view) → (bound_of_clock h.view.clock.clock ≤ h.view.published.write → k ≡ h) → OnlySearches h.view k.view
only_idle h k rises unchanged =
    let same : OnlySearches h.view h.view = record { clock = refl; counts = refl; tops = refl; log = refl; gone = refl } in
    let rested : OnlySearches h.view (rests h.view) = record { clock = refl; counts = refl; tops = refl; log = refl; gone = refl } in
    ⊎_elim (λ less. subst (λ (y : View). OnlySearches h.view y) (sym (rises less)) rested) (λ most. subst (λ (y : View). OnlySearches h.view y) (sym (ap (λ (x : Seated). x.view) (unchanged most))) same) (cases_lt h.view.published.write (bound_of_clock h.view.clock.clock))

-- up to the published read stamp, after that was published anew
pub only_looked : (a b c d : Seated) (e : View) (met bound limit rid place wts status : ℕ) → (a.view.published.write < bound_of_clock a.view.clock.clock → b.view ≡ rests a.view) → (bound_of_clock a.view.clock.clock ≤ a.view.published.write → b ≡ a) → c.view ≡ raised_write b.view met c.view.seen → d.view ≡ bounded c.view bound → Reads limit rid place wts status d.view e → OnlySearches a.view e
only_looked a b c d e met bound limit rid place wts status rises unchanged raised is found =
    let raise : OnlySearches b.view c.view = subst (λ (y : View). OnlySearches b.view y) (sym raised) (record { clock = refl; counts = refl; tops = refl; log = refl; gone = refl }) in
    let publish : OnlySearches c.view d.view = subst (λ (y : View). OnlySearches c.view y) (sym is) (record { clock = refl; counts = refl; tops = refl; log = refl; gone = refl }) in
    let read : OnlySearches d.view e = subst (λ (y : View). OnlySearches d.view y) (sym found.view) (record { clock = refl; counts = refl; tops = refl; log = refl; gone = refl }) in
    only_both a.view b.view e (only_idle a b rises unchanged) (only_both b.view c.view e raise (only_both c.view d.view e publish read))
