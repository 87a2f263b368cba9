-- What a call adds to the lists of what a seat's steps loaded, and of the exchanges that they lost.
use Rattle.std.specs.Prelude.{◌≡◌, List, ◌++◌}
use Rattle.core_rule.specs.View.{Load, Seen}

-- what was loaded and lost between the two stands behind what was there
pub record Grows (before after' : Seen) : Type 0 where
  pub loaded : List Load
  pub missed : List Load
  pub loads : after'.loads ≡ before.loads ++ loaded
  pub lost : after'.lost ≡ before.lost ++ missed
