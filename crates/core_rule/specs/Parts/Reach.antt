-- Reads in reach: the second search will meet a version committed above the one read, or no writer between has passed its check.
use Rattle.std.specs.Prelude.{◌≡◌, ◌≢◌, ◌⊎◌, ℕ, ◌<◌, ◌≤◌, List}
use Rattle.core_rule.specs.Status.{status_word}
use Rattle.core_rule.specs.declared.status.Status.TheVariants.{Pending, Aborted}
use Rattle.core_rule.specs.View.{View, writing, Aim, checks, Stand, Search, stands, Work}
use Rattle.core_rule.specs.Views.{Each, Has}
use Rattle.core_rule.specs.Searching.{IsFinal}
use Rattle.core_rule.specs.Claims.{Claim, Claims}

-- where the check of record r has begun, its search stands at this version or above
abbrev pub AimBehind : (ℕ → ℕ) → (r version : ℕ) → Stand → Aim → Type 0
AimBehind stamps r version s (checks u) = u.record_number ≡ r → version ≤ stamps s.place
AimBehind stamps r version s _ = Unit {0}

abbrev pub IsBehind : (ℕ → ℕ) → (r version : ℕ) → Search → Type 0
IsBehind stamps r version (stands s look) = AimBehind stamps r version s s.aim
IsBehind stamps r version _ = Unit {0}

-- the transaction at the stamp t has not passed its check of record r
pub record Unchecked (stamps : ℕ → ℕ) (r version : ℕ) (w : Work) : Type 0 where
  pub unpassed : Has r w.passed → ⊥
  pub search : IsBehind stamps r version w.search

abbrev pub Waits : (ℕ → ℕ) → (r version t : ℕ) → View → Type 0
Waits stamps r version t u = u.flight ≡ writing t → Unchecked stamps r version u.work

-- (a): a committed or deleted version stands above the one read and not above the position
pub record Passed (lists : ℕ → List ℕ) (stamps statuses : ℕ → ℕ) (c : Claim) : Type 0 where
  pub place : ℕ
  pub there : Has place (lists c.record_number)
  pub final : IsFinal (statuses place)
  pub above : c.version < stamps place
  pub ahead : stamps place ≤ c.position
  pub early : stamps place < c.stamp

-- (b): each version between the position and the stamp that is not aborted is pending, and its writer waits
abbrev pub Clear : (ℕ → List ℕ) → (stamps statuses : ℕ → ℕ) → List View → Claim → Type 0
Clear lists stamps statuses vs c =
    (p : ℕ) → Has p (lists c.record_number) → c.position < stamps p → stamps p < c.stamp → statuses p ≢ status_word Aborted → (statuses p ≡ status_word Pending) × Each (Waits stamps c.record_number c.version (stamps p)) vs

pub record InReach (lists : ℕ → List ℕ) (stamps statuses : ℕ → ℕ) (vs : List View) (c : Claim) : Type 0 where
  pub low : c.version ≤ c.position
  pub either : Passed lists stamps statuses c ⊎ Clear lists stamps statuses vs c

abbrev pub Reach : (ℕ → List ℕ) → (stamps statuses : ℕ → ℕ) → List View → Type 0
Reach lists stamps statuses vs = Each (Claims stamps (InReach lists stamps statuses vs)) vs
