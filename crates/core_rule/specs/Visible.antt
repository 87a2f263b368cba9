-- The version of a record that a stamp sees, the stamps that are active, and the places that none of them can select.
use Rattle.std.specs.Prelude.{ℕ, suc, ◌<◌, ◌≤◌, List}
use Rattle.core_rule.specs.View.{View, Logged}
use Rattle.core_rule.specs.Views.{Each, Has, SomeView}
use Rattle.core_rule.specs.Collecting.{HasEntry}
use Rattle.core_rule.specs.Searching.{IsFinal}

-- in this list place p has the greatest committed or deleted version below the limit
pub record IsVisible (stamps statuses : ℕ → ℕ) (xs : List ℕ) (limit p : ℕ) : Type 0 where
  pub there : Has p xs
  pub final : IsFinal (statuses p)
  pub below : stamps p < limit
  pub greatest : (q : ℕ) → Has q xs → IsFinal (statuses q) → stamps q < limit → stamps q ≤ stamps p

-- versions from the limit on are too late for what may be in flight now or later: for a transaction at its stamp t, which is not below
-- some open published write word; for a snapshot at s, which is not below some open published read word and sees the stamp s too
pub data IsActive (vs : List View) : (limit : ℕ) → Type 0 where
  writing_at : (t : ℕ) → SomeView (λ v. v.published.write ≤ t) vs → IsActive vs t
  reading_at : (s : ℕ) → SomeView (λ v. v.published.read ≤ s) vs → IsActive vs (suc s)

-- a version of record r in place p is out of reach: a commit entry writes r at a stamp c above it, which is at or below every
-- published read word and below every published write word
pub record OutOfReach (stamps : ℕ → ℕ) (vs : List View) (log : List Logged) (r c p : ℕ) : Type 0 where
  pub entered : HasEntry r c log
  pub below : stamps p < c
  pub reads : Each (λ u. c ≤ u.published.read) vs
  pub writes : Each (λ u. c < u.published.write) vs

-- no entry of a log puts it out of reach
abbrev pub IsSelectable : (ℕ → ℕ) → List View → (r p : ℕ) → Type 0
IsSelectable stamps vs r p = (c : ℕ) → SomeView (λ v. OutOfReach stamps vs v.log r c p) vs → ⊥
