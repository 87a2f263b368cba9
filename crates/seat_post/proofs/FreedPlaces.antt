-- How many places a call freed.
use Rattle.std.proofs.Common.{◌≡◌, ℕ, Bool, true, false, List, [], ◌++◌, append-nil, refl, sym, ap, ◌∙◌}
use Rattle.std.specs.Prelude.{nat_lt, if◌then◌else◌}
use Rattle.stamp_base.specs.Stamp.{bound_of_clock}
use Rattle.core_rule.specs.View.{View, Gone}
use Rattle.clock_stamps.specs.Clocks.{rests}
use Rattle.rapid_gc.specs.declared.queue.Queued.{Queued}
use Rattle.rapid_gc.specs.declared.collecting.Collected.{Collected}
use Rattle.rapid_gc.specs.Collections.{idled, Collects}
use Rattle.rapid_gc.specs.Ends.{FreesCounted}

-- none was
pub freed_none : (n : ℕ) (v w : View) → n ≡ 0 → w.gone ≡ v.gone → FreesCounted n v w
freed_none n v w none same = record { freed = []; gone = ap (λ (g : Gone). g.freed) same ∙ sym (append-nil v.gone.freed); count = none }

-- none was before
pub freed_from : (n : ℕ) (u v w : View) → v.gone ≡ u.gone → FreesCounted n v w → FreesCounted n u w
freed_from n u v w same freed = record { freed = freed.freed; gone = freed.gone ∙ ap (λ (g : Gone). g.freed ++ freed.freed) same; count = freed.count }

-- what the bound of the clock, published, does not change
pub idled_keeps : {A : Type 0} (f : View → A) (v : View) → f (rests v) ≡ f v → f (idled v) ≡ f v
idled_keeps f v same = by_bool (nat_lt v.published.write (bound_of_clock v.clock.clock)) where
  by_bool : (b : Bool) → f (if b then rests v else v) ≡ f v
  by_bool true = same
  by_bool false = refl

-- a collection frees as many as it counts
pub freed_collecting : (v w : View) (items items' : List Queued) (tally : Collected) → Collects v items items' w tally → FreesCounted tally.places v w
freed_collecting v w items items' tally is =
    let p = is.prepares in
    freed_from tally.places v is.prepared w (ap (λ (x : View). x.gone) p.after_is ∙ ap (λ (x : View). x.gone) p.raised_is ∙ idled_keeps (λ (x : View). x.gone) v refl) is.goes_through.places
