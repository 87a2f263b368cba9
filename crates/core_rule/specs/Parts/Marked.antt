-- Marked places: each is that of the version which a view of its seat marks or links.
use Rattle.std.specs.Prelude.{◌≡◌, ℕ, ◌<◌, List}
use Rattle.word_layout.specs.Size.{Size, places}
use Rattle.core_rule.specs.World.{Owner, marked}
use Rattle.core_rule.specs.View.{View, Aim, links, Search, marks, stands}
use Rattle.core_rule.specs.Views.{SomeView}

abbrev pub AimMarks : (p : ℕ) → Aim → Type 0
AimMarks p (links j) = j.write.place ≡ p
AimMarks p _ = ⊥

abbrev pub SearchMarks : (p : ℕ) → Search → Type 0
SearchMarks p (marks u) = u.place ≡ p
SearchMarks p (stands s look) = AimMarks p s.aim
SearchMarks p _ = ⊥

-- the view of this seat marks or links the version in this place
pub record MarksPlace (seat p : ℕ) (v : View) : Type 0 where
  pub number : v.number ≡ seat
  pub aims : SearchMarks p v.work.search

-- what is marked is marked by a view
pub record Marked (z : Size) (owner : ℕ → Owner) (vs : List View) : Type 0 where
  pub marker : (p seat : ℕ) → p < places z → owner p ≡ marked seat → SomeView (MarksPlace seat p) vs
