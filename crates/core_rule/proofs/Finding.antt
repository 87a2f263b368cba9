-- A step on the status of a place, as its hand sees it.
use Rattle.std.proofs.Common.{rules, ◌≡◌, ◌↔◌, IsTrue, ℕ, nat_eq, subst}
use Rattle.plain_data.specs.State.{State}
use Rattle.core_rule.specs.View.{View}
use Rattle.core_rule.specs.Hands.{Seated, IsSameSeat, FindsPlace}
use Rattle.core_rule.specs.Kinds.{Kind}
use Rattle.core_rule.specs.Learnt.{Told}

is_zero : (n : ℕ) → IsTrue (nat_eq n 0) ↔ (n ≡ 0)
is_zero n = search rules

pub finds_place : (kept : State → Type 0) (k : Kind) (n : ℕ) (before after' : Seated) (inside : View) → inside ≡ before.view → IsSameSeat before after' → Told kept k inside n after'.view
    → FindsPlace kept k before (nat_eq n 0) after'
finds_place kept k n before after' inside here seat told =
    let own = subst (λ (v : View). Told kept k v n after'.view) here told in
    record { found = n; free_is = is_zero n; step = record { seat = seat; view = own.view; learnt = own.learnt } }
