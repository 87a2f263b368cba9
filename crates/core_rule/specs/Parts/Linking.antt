-- Linking: a marked version is its seat's, filled at the stamp in flight; its search stands between the place above and the place below.
use Rattle.std.specs.Prelude.{◌≡◌, ◌⊎◌, ℕ, suc, ◌<◌, ◌≤◌, true, List, [], length, Option, Some, None}
use Rattle.word_layout.specs.Limits.{cells_of_value}
use Rattle.word_layout.specs.Size.{Size, places}
use Rattle.stamp_base.specs.Limits.{end_of_stamps}
use Rattle.core_rule.specs.Memory.{Stored}
use Rattle.core_rule.specs.World.{Owner, marked}
use Rattle.core_rule.specs.View.{View, Flight, writing, Write, Joint, Aim, links, Stand, Search, still, marks, stands}
use Rattle.core_rule.specs.Views.{Each, Has}
use Rattle.core_rule.specs.Searching.{FitsPlace, IsNotLinked}
use Rattle.core_rule.specs.Parts.Filled.{CellsAre}

pub record MarkOk (z : Size) (owner : ℕ → Owner) (w : Stored) (number : ℕ) (flight : Flight) (done : List Write) (u : Write) : Type 0 where
  pub within : u.place < places z
  pub owned : owner u.place ≡ marked number
  pub fits : FitsPlace z u.record_number u.place
  pub in_flight : flight ≡ writing u.stamp
  pub only : IsNotLinked u.record_number done
  pub stamp : w.stamps u.place ≡ u.stamp
  pub reset : w.reads u.place ≡ 0
  pub cells : CellsAre (w.cells u.place) 0 u.cells
  pub whole : (u.cells ≡ []) ⊎ (length u.cells ≡ cells_of_value)

-- the place above is linked, at a stamp above t, which is the number that the place below is under
abbrev pub IsAbove : List ℕ → (ℕ → ℕ) → (t under : ℕ) → Option ℕ → Type 0
IsAbove xs stamps t under None = under ≡ end_of_stamps
IsAbove xs stamps t under (Some a) = Has a xs × (t < stamps a) × (stamps a ≡ under)

-- a linked version before the stamp t that is not under a number but for one
pub record IsLeast (xs : List ℕ) (stamps : ℕ → ℕ) (t least : ℕ) : Type 0 where
  pub place : ℕ
  pub there : Has place xs
  pub early : stamps place < t
  pub bound : least ≤ suc (stamps place)

pub record JointOk (z : Size) (owner : ℕ → Owner) (lists : ℕ → List ℕ) (w : Stored) (number : ℕ) (flight : Flight) (done : List Write) (s : Stand) (j : Joint) : Type 0 where
  pub mark : MarkOk z owner w number flight done j.write
  pub same_record : s.record_number ≡ j.write.record_number
  pub above : IsAbove (lists s.record_number) w.stamps j.write.stamp s.under j.above
  pub least : IsLeast (lists s.record_number) w.stamps j.write.stamp j.least
  pub low : j.least ≤ w.stamps s.place
  -- the own link names the place below, whose stamp is less
  pub stored : j.stored ≡ true → (w.links j.write.place ≡ suc s.place) × (w.stamps s.place < j.write.stamp)

abbrev pub AimOk : Size → (ℕ → Owner) → (ℕ → List ℕ) → Stored → ℕ → Flight → List Write → Stand → Aim → Type 0
AimOk z owner lists w number flight done s (links j) = JointOk z owner lists w number flight done s j
AimOk z owner lists w number flight done s _ = Unit {0}

abbrev pub IsLinking : Size → (ℕ → Owner) → (ℕ → List ℕ) → Stored → ℕ → Flight → List Write → Search → Type 0
IsLinking z owner lists w number flight done still = Unit {0}
IsLinking z owner lists w number flight done (marks u) = MarkOk z owner w number flight done u
IsLinking z owner lists w number flight done (stands s look) = AimOk z owner lists w number flight done s s.aim

abbrev pub LinkingOk : Size → (ℕ → Owner) → (ℕ → List ℕ) → Stored → View → Type 0
LinkingOk z owner lists w v = IsLinking z owner lists w v.number v.flight v.work.linked v.work.search

abbrev pub Linking : Size → (ℕ → Owner) → (ℕ → List ℕ) → Stored → List View → Type 0
Linking z owner lists w vs = Each (LinkingOk z owner lists w) vs
