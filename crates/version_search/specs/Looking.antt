-- What a look at the first version of a list loads.
use Rattle.std.specs.Prelude.{◌≡◌, ℕ, suc, Bool, ◌==◌, ◌||◌, List, [], ◌∷◌, ◌++◌}
use Rattle.word_layout.specs.Name.{head, next, wts, status}
use Rattle.core_rule.specs.View.{Load}
use Rattle.core_rule.specs.Paths.{load}
use Rattle.core_rule.specs.Status.{status_word}
use Rattle.core_rule.specs.declared.status.Status.TheVariants.{Committed, Deleted}

-- the head of record r's list, which names this place, and the write stamp, the status and the link of the version there
pub record Looked (r place w : ℕ) (decided single : Bool) (before after' : List Load) : Type 0 where
  pub state : ℕ
  pub link : ℕ
  pub loads : after' ≡ before ++ load (head r) (suc place) ∷ load (wts place) w ∷ load (status place) state ∷ load (next place) link ∷ []
  pub decides : decided ≡ ((state == status_word Committed) || (state == status_word Deleted))
  pub ends : single ≡ (link == 0)
