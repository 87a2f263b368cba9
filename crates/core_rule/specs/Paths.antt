-- The path that a search for a visible version takes.
use Rattle.std.specs.Prelude.{◌≡◌, ℕ, ◌-◌, ◌<◌, ◌≤◌, List, [], ◌∷◌, ◌++◌}
use Rattle.word_layout.specs.Name.{Name, head, next, wts, status}
use Rattle.core_rule.specs.Status.{status_word}
use Rattle.core_rule.specs.declared.status.Status.TheVariants.{Pending, Deleted, Aborted}
use Rattle.core_rule.specs.View.{Load, Look, blank, stamped, shown}

abbrev pub load : Name → ℕ → Load
load word n = record { word = word; number = n }

-- what was loaded at a place
abbrev pub glanced : ℕ → Look → List Load
glanced p blank = []
glanced p (stamped w) = load (wts p) w ∷ []
glanced p (shown w s) = load (wts p) w ∷ load (status p) s ∷ []

-- these loads lead from the head of record r's list to place p: each place is the one that the link before it named, and each
-- place before p was loaded as too late or as aborted
pub data Way (limit r : ℕ) : List Load → ℕ → Type 0 where
  from_head : (n : ℕ) → Way limit r (load (head r) n ∷ []) (n - 1)
  past_late : (ls : List Load) (p w n : ℕ) → Way limit r ls p → limit ≤ w → Way limit r (ls ++ load (wts p) w ∷ load (next p) n ∷ []) (n - 1)
  past_aborted : (ls : List Load) (p w n : ℕ) → Way limit r ls p → Way limit r (ls ++ load (wts p) w ∷ load (status p) (status_word Aborted) ∷ load (next p) n ∷ []) (n - 1)

-- they end at place p, which was loaded neither as too late nor as aborted
pub record EndsAt (limit r p w s : ℕ) (before after' : List Load) : Type 0 where
  pub way : List Load
  pub leads : Way limit r way p
  pub loads : after' ≡ before ++ (way ++ glanced p (shown w s))
  pub early : w < limit
  pub state : (status_word Pending ≤ s) × (s ≤ status_word Deleted)
