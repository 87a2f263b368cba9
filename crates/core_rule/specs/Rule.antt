-- The rule: what holds of the words and of all views between any two steps. One file of Parts each.
use Rattle.std.specs.Prelude.{◌≡◌, ℕ, List, length}
use Rattle.word_layout.specs.Name.{published_write, published_read, min_write, min_read, head, lock, floor, status}
use Rattle.atomic_table.specs.Table.{State as Table}
use Rattle.plain_data.specs.State.{State, empty_state}
use Rattle.word_layout.specs.Size.{Size, IsSize, reserved_place, words}
use Rattle.core_rule.specs.View.{View}
use Rattle.core_rule.specs.Memory.{Memory, memory, stored}
use Rattle.core_rule.specs.World.{World}
use Rattle.core_rule.specs.Parts.Seats.{Seats}
use Rattle.core_rule.specs.Parts.Published.{Published}
use Rattle.core_rule.specs.Parts.Closed.{Closed}
use Rattle.core_rule.specs.Parts.Splitting.{Splittings}
use Rattle.core_rule.specs.Parts.Clocks.{Clocks}
use Rattle.core_rule.specs.Parts.Minima.{Minima}
use Rattle.core_rule.specs.Parts.Scans.{Scans}
use Rattle.core_rule.specs.Parts.Bounds.{Bounds}
use Rattle.core_rule.specs.Parts.Places.{Places}
use Rattle.core_rule.specs.Parts.Filled.{Filled}
use Rattle.core_rule.specs.Parts.Lists.{Lists}
use Rattle.core_rule.specs.Parts.Searches.{Searches}
use Rattle.core_rule.specs.Parts.Reads.{Reads}
use Rattle.core_rule.specs.Parts.Linking.{Linking}
use Rattle.core_rule.specs.Parts.Versions.{Versions}
use Rattle.core_rule.specs.Parts.Counts.{Counts}
use Rattle.core_rule.specs.Parts.Txns.{Txns}
use Rattle.core_rule.specs.Parts.Cells.{Cells}
use Rattle.core_rule.specs.Parts.Joined.{Joined}
use Rattle.core_rule.specs.Parts.ReadStamps.{ReadStamps}
use Rattle.core_rule.specs.Parts.Anchored.{Anchored}
use Rattle.core_rule.specs.Parts.Reach.{Reach}
use Rattle.core_rule.specs.Parts.Values.{Values}
use Rattle.core_rule.specs.Parts.Entered.{Entered}
use Rattle.core_rule.specs.Parts.History.{History}
use Rattle.core_rule.specs.Parts.Locks.{Locks}
use Rattle.core_rule.specs.Parts.Items.{Items}
use Rattle.core_rule.specs.Parts.Chains.{Chains}
use Rattle.core_rule.specs.Parts.Fronts.{Fronts}
use Rattle.core_rule.specs.Parts.Lefts.{Lefts}
use Rattle.core_rule.specs.Parts.Tops.{Tops}
use Rattle.core_rule.specs.Parts.Marked.{Marked}
use Rattle.core_rule.specs.Parts.Met.{Met}
use Rattle.core_rule.specs.Parts.Keeping.{Keeping}

-- the words of one family, by their index
abbrev pub write_words : Memory → ℕ → ℕ
write_words m s = m (published_write s)

abbrev pub read_words : Memory → ℕ → ℕ
read_words m s = m (published_read s)

abbrev pub status_words : Memory → ℕ → ℕ
status_words m p = m (status p)

abbrev pub head_words : Memory → ℕ → ℕ
head_words m r = m (head r)

abbrev pub lock_words : Memory → ℕ → ℕ
lock_words m r = m (lock r)

abbrev pub floor_words : Memory → ℕ → ℕ
floor_words m r = m (floor r)

pub record Rule (kept : State → Type 0) (z : Size) (g : World) (m : Memory) (vs : List View) : Type 0 where
  pub begins_kept : kept empty_state
  pub sized : IsSize z
  pub seats : Seats z vs
  pub published : Published (write_words m) (read_words m) vs
  pub closed : Closed z (write_words m) (read_words m) vs
  pub splittings : Splittings z g.drawn (write_words m) (read_words m) vs
  pub clocks : Clocks g.drawn vs
  pub minima : Minima (m min_write) (m min_read) vs
  pub scans : Scans vs
  pub bounds : Bounds (m min_write) vs
  pub places : Places z g.owner (status_words m) vs
  pub filled : Filled (stored m) vs
  pub lists : Lists z g.owner g.lists (m min_read) (head_words m) (lock_words m) (floor_words m) (stored m) (status_words m)
  pub searches : Searches z g.lists (stored m).stamps (status_words m) vs
  pub reads : Reads z g.lists (stored m).stamps (stored m).cells (status_words m) vs
  pub linking : Linking z g.owner g.lists (stored m) vs
  pub versions : Versions z g.drawn g.lists (stored m).stamps (stored m).cells (status_words m) vs
  pub counts : Counts z g.lists (stored m).stamps vs
  pub txns : Txns vs
  pub word_cells : Cells vs
  pub joined : Joined g.drawn vs
  pub read_stamps : ReadStamps z g.drawn g.lists (stored m).reads
  pub anchored : Anchored z g.lists (stored m).stamps (stored m).reads (status_words m) (m min_read) vs
  pub reach : Reach g.lists (stored m).stamps (status_words m) vs
  pub values : Values z g.lists (floor_words m) (stored m).stamps (stored m).cells (status_words m) vs
  pub entered : Entered g.drawn (m min_write) (stored m).stamps vs
  pub history : History kept z vs
  pub locks : Locks z (lock_words m) vs
  pub items : Items z g.lists (floor_words m) (stored m) (status_words m) (m min_read) vs
  pub chains : Chains z g.owner g.chains (stored m).links (stored m).stamps vs
  pub fronts : Fronts z (head_words m) vs
  pub lefts : Lefts g.chains vs
  pub marked : Marked z g.owner vs
  pub met : Met z g.owner vs
  pub tops : Tops z (head_words m) vs
  pub keeping : Keeping z (g.owner (reserved_place z)) ((stored m).stamps (reserved_place z)) vs

-- the rule of a table of this size
pub record Holds (kept : State → Type 0) (z : Size) {S : Type 0} (s : Table S View) : Type 0 where
  pub sized : length s.words ≡ words z
  pub world : World
  pub rule : Rule kept z world (memory z s.words) s.views
