-- Versions: a linked version's stamp is not above the last one that the seat drew which it names; the version 0 is deleted; a pending
-- one belongs to the transaction in flight at its stamp, which stores its last status.
use Rattle.std.specs.Prelude.{◌≡◌, ◌⊎◌, ℕ, ◌<◌, ◌≤◌, Bool, List, [], length}
use Rattle.word_layout.specs.Limits.{cells_of_value}
use Rattle.stamp_base.specs.Limits.{end_of_stamps}
use Rattle.stamp_base.specs.Stamp.{seat_of}
use Rattle.word_layout.specs.Size.{Size}
use Rattle.core_rule.specs.Status.{status_word, IsStatusWord}
use Rattle.core_rule.specs.declared.status.Status.TheVariants.{Pending, Deleted}
use Rattle.core_rule.specs.View.{View, Flight, writing, Write}
use Rattle.core_rule.specs.Views.{Each, Has, Among, SomeView}
use Rattle.core_rule.specs.Searching.{HasWrite, shown_at}
use Rattle.core_rule.specs.Parts.Filled.{CellsAre}

-- the view of the transaction at the stamp t, which has linked this place in the list of record r
pub record HasLinked (r p t : ℕ) (v : View) : Type 0 where
  pub in_flight : v.flight ≡ writing t
  pub write : HasWrite r p v.work.linked

pub record VersionOk (z : Size) (drawn : ℕ → ℕ) (stamps statuses : ℕ → ℕ) (vs : List View) (r p : ℕ) : Type 0 where
  pub early : stamps p < end_of_stamps
  pub within : seat_of (stamps p) < z.seats
  pub not_above_drawn : stamps p ≤ drawn (seat_of (stamps p))
  pub known : IsStatusWord (statuses p)
  pub base : stamps p ≡ 0 → statuses p ≡ status_word Deleted
  pub pending : statuses p ≡ status_word Pending → SomeView (HasLinked r p (stamps p)) vs

-- what a transaction has linked: pending until its last status is stored
pub record LinkedOk (z : Size) (lists : ℕ → List ℕ) (stamps : ℕ → ℕ) (cells : ℕ → ℕ → ℕ) (statuses : ℕ → ℕ) (flight : Flight) (settled : List ℕ) (decided : Bool) (u : Write) : Type 0 where
  pub on_record : u.record_number < z.records
  pub there : Has u.place (lists u.record_number)
  pub in_flight : flight ≡ writing u.stamp
  pub stamp : stamps u.place ≡ u.stamp
  pub pending : (Has u.record_number settled → ⊥) → statuses u.place ≡ status_word Pending
  pub stored : Has u.record_number settled → statuses u.place ≡ shown_at decided u.cells
  pub value : CellsAre (cells u.place) 0 u.cells
  pub whole : (u.cells ≡ []) ⊎ (length u.cells ≡ cells_of_value)

-- what stands at the stamp in flight was linked by its transaction
abbrev pub OwnStamps : Size → (ℕ → List ℕ) → (ℕ → ℕ) → Flight → List Write → Type 0
OwnStamps z lists stamps flight done =
    (t r p : ℕ) → flight ≡ writing t → r < z.records → Has p (lists r) → stamps p ≡ t → HasWrite r p done

-- each record once
pub record DoneOk (z : Size) (lists : ℕ → List ℕ) (stamps : ℕ → ℕ) (cells : ℕ → ℕ → ℕ) (statuses : ℕ → ℕ) (flight : Flight) (done : List Write) (settled : List ℕ) (decided : Bool) : Type 0 where
  pub linked : (u : Write) → Among u done → LinkedOk z lists stamps cells statuses flight settled decided u
  pub once : (u x : Write) → Among u done → Among x done → u.record_number ≡ x.record_number → u ≡ x
  pub own : OwnStamps z lists stamps flight done

abbrev pub WritesOk : Size → (ℕ → List ℕ) → (ℕ → ℕ) → (ℕ → ℕ → ℕ) → (ℕ → ℕ) → View → Type 0
WritesOk z lists stamps cells statuses v = DoneOk z lists stamps cells statuses v.flight v.work.linked v.work.settled v.work.decided

pub record Versions (z : Size) (drawn : ℕ → ℕ) (lists : ℕ → List ℕ) (stamps : ℕ → ℕ) (cells : ℕ → ℕ → ℕ) (statuses : ℕ → ℕ) (vs : List View) : Type 0 where
  pub each : (r p : ℕ) → r < z.records → Has p (lists r) → VersionOk z drawn stamps statuses vs r p
  pub views : Each (WritesOk z lists stamps cells statuses) vs
