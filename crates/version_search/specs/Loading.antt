-- What is in flight after the value of a version was loaded.
use Rattle.std.specs.Prelude.{ℕ, suc, List, [], ◌∷◌, ◌++◌}
use Rattle.word_layout.specs.Name.{cell}
use Rattle.core_rule.specs.Paths.{load}
use Rattle.core_rule.specs.View.{View, Read, Load, Seen}
use Rattle.core_rule.specs.Views.{IsAlone}
use Rattle.core_rule.specs.Searching.{limit_of, newest}
use Rattle.core_rule.specs.Left.{LeavesCells}

-- the reads, after these cells were loaded of the one found last
abbrev pub with_cells : List ℕ → List Read → List Read
with_cells cells [] = []
with_cells cells (d ∷ ds) = record d { cells = d.cells ++ cells } ∷ ds

abbrev pub with_value : View → List ℕ → Seen → View
with_value v cells seen = record v {
  work = record v.work { reads = with_cells cells v.work.reads };
  seen = seen;
}

-- for a seat that is alone these cells, of the version found last, are what its log leaves of that record
abbrev pub IsLeftIn : View → List ℕ → Type 0
IsLeftIn v cells =
    IsAlone v → LeavesCells v.log (newest v.work.reads).record_number (limit_of v.flight v.published.read) (newest v.work.reads).version cells

-- the loads that found these numbers in the cells of a place, one after another from this cell on
abbrev pub cells_loaded : (place from : ℕ) → List ℕ → List Load
cells_loaded place from [] = []
cells_loaded place from (n ∷ ns) = load (cell place from) n ∷ cells_loaded place (suc from) ns
