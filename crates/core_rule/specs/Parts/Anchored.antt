-- Anchored: the read stamp of a version that a claim has read is at least the reader's while it is linked. It is linked, or no stamp to
-- come is below the reader's.
use Rattle.std.specs.Prelude.{◌≡◌, ◌⊎◌, ℕ, ◌<◌, ◌≤◌, List}
use Rattle.word_layout.specs.Size.{Size}
use Rattle.core_rule.specs.View.{View}
use Rattle.core_rule.specs.Views.{Each, Has}
use Rattle.core_rule.specs.Searching.{IsFinal}
use Rattle.core_rule.specs.Claims.{Claim, Claims}

-- the version of a claim is linked, committed or deleted
pub record Anchor (lists : ℕ → List ℕ) (stamps statuses : ℕ → ℕ) (c : Claim) : Type 0 where
  pub place : ℕ
  pub there : Has place (lists c.record_number)
  pub version : stamps place ≡ c.version
  pub final : IsFinal (statuses place)

pub record IsAnchored (z : Size) (lists : ℕ → List ℕ) (stamps reads statuses : ℕ → ℕ) (least_read : ℕ) (c : Claim) : Type 0 where
  pub on_record : c.record_number < z.records
  pub early : c.version < c.stamp
  pub raised : (p : ℕ) → Has p (lists c.record_number) → stamps p ≡ c.version → c.stamp ≤ reads p
  pub either : Anchor lists stamps statuses c ⊎ (c.stamp ≤ least_read)

abbrev pub Anchored : Size → (ℕ → List ℕ) → (stamps reads statuses : ℕ → ℕ) → ℕ → List View → Type 0
Anchored z lists stamps reads statuses least_read vs = Each (Claims stamps (IsAnchored z lists stamps reads statuses least_read)) vs
