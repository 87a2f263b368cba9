-- What the loading of an input's rows and indexes leaves.
use Rattle.std.specs.Prelude.{◌≡◌, ◌≢◌, ℕ, ◌+◌, ◌*◌, ◌<◌, ◌≤◌, List, [], All, AllPairs, Contains, length, get_or, None}
use Rattle.histories.specs.History.{Lawful}
use Rattle.history_replay.specs.Results.{LeaveTables, StandsForSome}
use Rattle.replay_model.specs.declared.input.Input.{Input}
use Rattle.replay_model.specs.TableMap.{TableMap, Row, loaded, value_at, with_value, index_of}
use Rattle.replay_model.specs.Input.{IsColumn}
use Rattle.stored_tables.specs.Declare.{IsEmpty, with_index}
use Rattle.stored_tables.specs.Packed.{IsPacked}
use Rattle.stored_tables.specs.Weight.{row_adds}
use Rattle.txn_engine.specs.Alone.{AloneView}
use Rattle.txn_engine.specs.Leaves.{HoldsAbsent}
use Rattle.txn_engine.specs.Lists.{IsRoomy}
use Rattle.txn_engine.specs.Pass.{PassView, IsIdle}
use Rattle.lane_runner.specs.Rows.{stands}
use Rattle.lane_runner.specs.Room.{clock_after}
use Rattle.lane_runner.specs.Lanes.{AddsSome}
use Rattle.lane_runner.specs.Holding.{Holds, LeavesAt, LeavesWithin}

-- what loaded rows weigh at most: two each, their indexes included, since none of them is taken out again
abbrev pub rows_weigh : List (ℕ × ℕ × Row) → ℕ
rows_weigh rows = 2 * length rows

-- each row finds records: those before it weigh two each at most, and it adds what is said of its table at most
abbrev pub FindRecords : List (ℕ × ℕ × Row) → List (ℕ × ℕ) → (fixed records : ℕ) → Type 0
FindRecords rows indexes fixed records =
    (i : ℕ) (d : ℕ × ℕ × Row) → i < length rows → fixed + (2 * i + row_adds (index_of (get_or rows i d).0 (loaded [] indexes))) ≤ records

-- nothing was committed and nothing is in flight, each record from `fixed` on is a spare one, and one version at most lies outside each
-- inline place: as a new engine has it
pub record IsBlank (p : PassView) : Type 0 where
  pub idle : IsIdle p
  pub none_logged : p.log ≡ []
  pub none_queued : p.queue ≡ []
  pub absent : HoldsAbsent p
  pub roomy : IsRoomy p

-- rows over the first 8 tables
abbrev pub AreRowsOf : List (ℕ × ℕ × Row) → Type 0
AreRowsOf rows = All (λ (row : ℕ × ℕ × Row). row.0 < 8) rows

-- ---- in the middle of it

-- the log leaves such tables, into which so many rows were put and from which none was taken out
pub record HasLoaded (tables : TableMap) (rows : ℕ) (before after' : PassView) : Type 0 where
  pub holds : Holds after'
  pub leaves : LeavesAt after'.shared.size.records after'.log tables (λ places. IsPacked places rows)
  pub adds : AddsSome before after'

-- one more row
abbrev pub row_more : ℕ → TableMap → ℕ
row_more table tables = row_adds (index_of table tables)

abbrev pub PutsRow : (table key : ℕ) → Row → (before after' : PassView) → Type 0
PutsRow table key row before after' =
    (tables : TableMap) (rows : ℕ) (first : PassView) → value_at tables table key ≡ None → HasLoaded tables rows first before
    → HasLoaded (with_value tables table key row) (rows + 1) first after'

-- the log leaves tables of which one has neither a row nor an index
pub record LacksRows (table : ℕ) (p : PassView) : Type 0 where
  pub holds : Holds p
  pub tables : TableMap
  pub rows : ℕ
  pub leaves : LeavesAt p.shared.size.records p.log tables (λ places. IsPacked places rows)
  pub empty : IsEmpty table tables
  pub no_index : index_of table tables ≡ None

abbrev pub DeclaresIndex : (table column : ℕ) → (before after' : PassView) → Type 0
DeclaresIndex table column before after' =
    (tables : TableMap) (rows : ℕ) (first : PassView) → HasLoaded tables rows first before → HasLoaded (with_index tables table column) rows first after'

-- it was entered at the seat, which has not collected yet; what the log leaves is told where it is lawful
pub record EntersIndex (table column : ℕ) (before after' : AloneView) : Type 0 where
  pub adds : AddsSome before.pass after'.pass
  pub leaves : Lawful (StandsForSome stands) after'.pass.shared.size.records after'.pass.log
      → (tables : TableMap) (rows : ℕ) → LeavesAt before.pass.shared.size.records before.pass.log tables (λ places. IsPacked places rows)
      → LeavesAt after'.pass.shared.size.records after'.pass.log (with_index tables table column) (λ places. IsPacked places rows)
  pub clock : after'.pass.clock ≤ clock_after before.pass.clock 1

-- indexes of the first 8 tables, one of each at most
pub record AreIndexesOf (indexes : List (ℕ × ℕ)) : Type 0 where
  pub low : All (λ (index : ℕ × ℕ). index.0 < 8) indexes
  pub columns : All (λ (index : ℕ × ℕ). IsColumn index.1) indexes
  pub one_each : AllPairs (λ (a b : ℕ × ℕ). a.0 ≢ b.0) indexes

-- ---- at its end

-- the log leaves the tables of the input, within what its rows weigh at most; entries were added, and the seat holds what it
-- holds between blocks
pub record Loads (input : Input) (before after' : PassView) : Type 0 where
  pub holds : Holds after'
  pub leaves : LeavesWithin after'.shared.size.records after'.log (loaded input.rows input.indexes) (rows_weigh input.rows)
  pub tables : LeaveTables stands (Contains after'.log) (loaded input.rows input.indexes)
  pub adds : AddsSome before after'
