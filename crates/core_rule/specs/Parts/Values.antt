-- Values: each committed or deleted version but the first is a write of a commit entry, and each write of a commit entry is linked.
-- An aborted version is that of no entry.
use Rattle.std.specs.Prelude.{◌≡◌, ◌≢◌, ◌⊎◌, ℕ, ◌<◌, true, List, [], length}
use Rattle.word_layout.specs.Limits.{cells_of_value}
use Rattle.word_layout.specs.Size.{Size}
use Rattle.core_rule.specs.Status.{status_word}
use Rattle.core_rule.specs.declared.status.Status.TheVariants.{Pending, Aborted}
use Rattle.core_rule.specs.View.{View, writing, Write, Logged}
use Rattle.core_rule.specs.Views.{Has, Among, SomeView}
use Rattle.core_rule.specs.Searching.{IsFinal, shown_at}
use Rattle.core_rule.specs.Entries.{Wrote}
use Rattle.core_rule.specs.Parts.Filled.{CellsAre}

-- the version in place p of record r is this write of this commit entry
pub record WrittenBy (stamps : ℕ → ℕ) (cells : ℕ → ℕ → ℕ) (statuses : ℕ → ℕ) (vs : List View) (r p : ℕ) : Type 0 where
  pub entry : Logged
  pub write : Write
  pub wrote : Wrote vs r entry write
  pub place : write.place ≡ p
  pub stamp : entry.stamp ≡ stamps p
  pub value : CellsAre (cells p) 0 write.cells
  pub whole : (write.cells ≡ []) ⊎ (length write.cells ≡ cells_of_value)
  pub shows : statuses p ≡ shown_at true write.cells

-- the view of the transaction at the stamp t, which has decided, and has not yet stored the last status of its write u
pub record Publishes (t : ℕ) (u : Write) (v : View) : Type 0 where
  pub in_flight : v.flight ≡ writing t
  pub decided : v.work.decided ≡ true
  pub linked : Among u v.work.linked
  pub unsettled : Has u.record_number v.work.settled → ⊥

-- a write of a commit entry at w is linked in place p of record r, and pending only while its seat publishes
pub record IsInstalled (lists : ℕ → List ℕ) (stamps : ℕ → ℕ) (cells : ℕ → ℕ → ℕ) (statuses : ℕ → ℕ) (vs : List View) (w : ℕ) (u : Write) : Type 0 where
  pub there : Has u.place (lists u.record_number)
  pub stamp : stamps u.place ≡ w
  pub value : CellsAre (cells u.place) 0 u.cells
  pub shows : (statuses u.place ≡ shown_at true u.cells) ⊎ ((statuses u.place ≡ status_word Pending) × SomeView (Publishes w u) vs)

pub record Values (z : Size) (lists : ℕ → List ℕ) (floors stamps : ℕ → ℕ) (cells : ℕ → ℕ → ℕ) (statuses : ℕ → ℕ) (vs : List View) : Type 0 where
  pub each : (r p : ℕ) → r < z.records → Has p (lists r) → IsFinal (statuses p) → 0 < stamps p → WrittenBy stamps cells statuses vs r p
  pub installed : (r : ℕ) (e : Logged) (u : Write) → Wrote vs r e u → (r < z.records) × ((e.stamp < floors r) ⊎ IsInstalled lists stamps cells statuses vs e.stamp u)
  pub aborted : (r p : ℕ) → r < z.records → Has p (lists r) → statuses p ≡ status_word Aborted → (e : Logged) (u : Write) → Wrote vs r e u → e.stamp ≢ stamps p
