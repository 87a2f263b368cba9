-- Bounds on clocks, seats and logs, where a stamp is drawn or a log grows.
use Rattle.std.proofs.Common.{◌≡◌, ℕ, ◌<◌, ◌≤◌, true, false, List, [], ◌∷◌, ◌++◌, refl, sym, subst, ◌∙◌, ⊎_elim, arith}
use Rattle.plain_data.specs.declared.entry.Entry.{Entry}
use Rattle.word_layout.specs.Size.{Size, IsSize}
use Rattle.stamp_base.specs.Stamp.{stamp_of, bound_of_clock}
use Rattle.core_rule.specs.Views.{Among}
use Rattle.core_rule.proofs.Among.{Among-either}
use Rattle.clock_stamps.specs.Clocks.{drawn_clock}
use Rattle.seat_post.specs.Logs.{IsAbove, AreBelow}

-- a clock that is drawn is later
pub drawn_later : (clock reading : ℕ) → clock < drawn_clock clock reading
drawn_later clock reading = omega arith

pub less_is_most : (a b : ℕ) → a < b → a ≤ b
less_is_most a b less = omega arith

pub seat_below : {size : Size} {seat : ℕ} → IsSize size → seat < size.seats → seat < 64
seat_below {size} {seat} is within = let h = is.seats_in_range in omega arith

-- a stamp that is drawn is above each commit entry
pub above_drawn : (log : List Entry) (clock reading seat : ℕ) → IsAbove log (bound_of_clock clock) → IsAbove log (stamp_of (drawn_clock clock reading) seat)
above_drawn log clock reading seat above e among commit = let h = above e among commit in omega arith

-- a later clock, and a greater minimum
pub above_later : (log : List Entry) (clock later : ℕ) → clock ≤ later → IsAbove log (bound_of_clock clock) → IsAbove log (bound_of_clock later)
above_later log clock later le above e among commit = let h = above e among commit in omega arith

pub below_later : (log : List Entry) (met later : ℕ) → met ≤ later → AreBelow log met → AreBelow log later
below_later log met later le below e among snapshot = let h = below e among snapshot in omega arith

-- what holds of each of a list holds with one more
pub each_more : {A : Type 0} (P : A → Type 0) (xs ys : List A) (y : A) → ((x : A) → Among x xs → P x) → P y → ys ≡ xs ++ y ∷ [] → (x : A) → Among x ys → P x
each_more {A} P xs ys y each last more x among = ⊎_elim (λ before. each x before) (λ same. subst P same last) (Among-either x y xs (subst (λ (zs : List A). Among x zs) more among))

-- with one more commit entry
pub above_more : (log : List Entry) (e : Entry) (t : ℕ) → IsAbove log t → e.stamp < t → IsAbove (log ++ e ∷ []) t
above_more log e t above below = each_more (λ (x : Entry). x.snapshot ≡ false → x.stamp < t) log (log ++ e ∷ []) e above (λ commit. below) refl

pub below_more : (log : List Entry) (e : Entry) (t : ℕ) → AreBelow log t → e.snapshot ≡ false → AreBelow (log ++ e ∷ []) t
below_more log e t before commit = each_more (λ (x : Entry). x.snapshot ≡ true → x.stamp < t) log (log ++ e ∷ []) e before (λ snapshot. absurd (let h : true ≡ false = sym snapshot ∙ commit in cc)) refl
