-- Reads: what was found stays linked, with its stamp, its status and the cells that were loaded.
use Rattle.std.specs.Prelude.{◌≡◌, ℕ, ◌<◌, List}
use Rattle.word_layout.specs.Size.{Size}
use Rattle.core_rule.specs.View.{View, Read}
use Rattle.core_rule.specs.Views.{Each, Among}
use Rattle.core_rule.specs.Searching.{limit_of, IsFinal}
use Rattle.core_rule.specs.Parts.Filled.{CellsAre}
use Rattle.core_rule.specs.Parts.Searches.{IsKept}

pub record ReadOk (z : Size) (lists : ℕ → List ℕ) (stamps : ℕ → ℕ) (cells : ℕ → ℕ → ℕ) (statuses : ℕ → ℕ) (limit settled : ℕ) (d : Read) : Type 0 where
  pub kept : IsKept z lists stamps statuses settled d.record_number d.place
  pub version : stamps d.place ≡ d.version
  pub early : d.version < limit
  pub status : statuses d.place ≡ d.status
  pub final : IsFinal d.status
  pub value : CellsAre (cells d.place) 0 d.cells

-- what was found, and what of it was raised
pub record FoundOk (z : Size) (lists : ℕ → List ℕ) (stamps : ℕ → ℕ) (cells : ℕ → ℕ → ℕ) (statuses : ℕ → ℕ) (limit settled : ℕ) (found raised : List Read) : Type 0 where
  pub found_ok : (d : Read) → Among d found → ReadOk z lists stamps cells statuses limit settled d
  pub raised_ok : (d : Read) → Among d raised → ReadOk z lists stamps cells statuses limit settled d

abbrev pub ReadsOk : Size → (ℕ → List ℕ) → (ℕ → ℕ) → (ℕ → ℕ → ℕ) → (ℕ → ℕ) → View → Type 0
ReadsOk z lists stamps cells statuses v =
    FoundOk z lists stamps cells statuses (limit_of v.flight v.published.read) v.published.read v.work.reads v.work.raised

abbrev pub Reads : Size → (ℕ → List ℕ) → (ℕ → ℕ) → (ℕ → ℕ → ℕ) → (ℕ → ℕ) → List View → Type 0
Reads z lists stamps cells statuses vs = Each (ReadsOk z lists stamps cells statuses) vs
