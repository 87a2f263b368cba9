-- Cells: what is filled, linked and read are words of 64 bits, and the reads that are searched again are of different records.
use Rattle.std.specs.Prelude.{◌≡◌, ◌<◌, ℕ, List, [], ◌∷◌}
use Rattle.core_rule.specs.View.{View, Fill, Write, Read, Aim, links, Search, marks, stands}
use Rattle.core_rule.specs.Views.{Each, AllOf, Among}

abbrev pub AreWords : List ℕ → Type 0
AreWords xs = AllOf (λ x. x < 18446744073709551616) xs

abbrev pub AimWords : Aim → Type 0
AimWords (links j) = AreWords j.write.cells
AimWords _ = Unit {0}

abbrev pub SearchWords : Search → Type 0
SearchWords (marks u) = AreWords u.cells
SearchWords (stands s look) = AimWords s.aim
SearchWords _ = Unit {0}

-- no record twice
abbrev pub IsReadOnce : List Read → Type 0
IsReadOnce [] = Unit {0}
IsReadOnce (d ∷ ds) = ((c : Read) → Among c ds → c.record_number ≡ d.record_number → ⊥) × IsReadOnce ds

abbrev pub IsWrittenOnce : List Write → Type 0
IsWrittenOnce [] = Unit {0}
IsWrittenOnce (u ∷ us) = ((x : Write) → Among x us → x.record_number ≡ u.record_number → ⊥) × IsWrittenOnce us

pub record CellsOk (v : View) : Type 0 where
  pub fills : (f : Fill) → Among f v.places.fills → AreWords f.cells
  pub marked : SearchWords v.work.search
  pub linked : (u : Write) → Among u v.work.linked → AreWords u.cells
  pub reads : (d : Read) → Among d v.work.reads → AreWords d.cells
  pub raised : (d : Read) → Among d v.work.raised → AreWords d.cells
  pub finished_once : IsReadOnce v.work.finished
  pub linked_once : IsWrittenOnce v.work.linked

abbrev pub Cells : List View → Type 0
Cells vs = Each CellsOk vs
