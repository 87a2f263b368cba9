-- Which record a call on a table names as torn.
use Rattle.std.specs.Prelude.{◌≡◌, ◌⊎◌, ℕ, ◌+◌, List, Contains, None, Some, is_some, Bool}
use Rattle.ordered_index.specs.Node.{Content}
use Rattle.ordered_index.specs.Tree.{In, IsTree, record_of_key, row_entries}
use Rattle.ordered_index.specs.Walk.{DescentEndsWell}
use Rattle.stored_tables.specs.Rows.{entry_records}
use Rattle.plain_data.specs.State.{State}
use Rattle.record_store.specs.Meaning.{Meaning}
use Rattle.record_store.specs.States.{EachState}
use Rattle.hash_index.specs.Chain.{IsChain, Rows, RowEndsWell, RowTears, bucket_of, record_of}
use Rattle.ordered_index.specs.declared.key.Key.{Key}
use Rattle.ordered_index.specs.Reclaim.{TearsBeside}
use Rattle.ordered_index.specs.Scan.{ScanTears}
use Rattle.replay_model.specs.Input.{IsColumn}
use Rattle.replay_model.specs.Report.{table_named}
use Rattle.replay_model.specs.declared.command.Command.{Command}
use Rattle.replay_model.specs.TableMap.{Row}
use Rattle.stored_tables.specs.Places.{base_of, head_of, index_tree, root_of}
use Rattle.stored_tables.specs.Shape.{head_words}
use Rattle.stored_tables.specs.Tables.{row_words}

-- the record holds no row
abbrev pub IsNoRow : ℕ → State → Type 0
IsNoRow rid state = (row : Row) → state rid ≡ Some (row_words row) → ⊥

-- the table has the record beside this key, where its chain is lawful
abbrev pub ChainNames : ℕ → ℕ → ℕ → State → ℕ → Type 0
ChainNames size table key state rid = (rows : Rows) → IsChain size (base_of table) state rows → record_of rows key ≡ Some rid

-- an entry of the tree names the record, where the tree is lawful
abbrev pub TreeNames : ℕ → ℕ → State → ℕ → Type 0
TreeNames size root state rid =
    (levels : List (List (ℕ × Content))) (leaves : List (ℕ × Content)) → IsTree size root state levels leaves → In rid (entry_records (row_entries leaves))

-- the record is present, and names no column
pub record IsNoHead (rid : ℕ) (state : State) : Type 0 where
  pub words : List ℕ
  pub present : state rid ≡ Some words
  pub no_head : (column : ℕ) → IsColumn column → words ≡ head_words column → ⊥

-- A table is torn at a record: a walk along its chain for a key is, or a scan of its tree by keys or of its index from a key on; or the
-- record that one of them names for a row holds none; or it is the head of the table's index, and names no column.
pub data TearsTable (size table : ℕ) (state : State) (rid : ℕ) : Type 0 where
  in_chain : (key : ℕ) → RowTears size (base_of table + bucket_of key) key state rid → TearsTable size table state rid
  in_tree : (lo : Key) → ScanTears size (root_of table) lo rid state → TearsTable size table state rid
  in_index : (lo : Key) → ScanTears size (root_of (index_tree table)) lo rid state → TearsTable size table state rid
  chain_row : (key : ℕ) → ChainNames size table key state rid → IsNoRow rid state → TearsTable size table state rid
  tree_row : TreeNames size (root_of table) state rid → IsNoRow rid state → TearsTable size table state rid
  index_row : TreeNames size (root_of (index_tree table)) state rid → IsNoRow rid state → TearsTable size table state rid
  at_head : rid ≡ head_of table → IsNoHead rid state → TearsTable size table state rid

-- so it is in each state that agrees with what was read, also where none of them stands for tables
abbrev pub NamesTorn : ℕ → Meaning → Meaning → ℕ → Type 0
NamesTorn table before after rid = EachState before after (λ state. TearsTable before.size table state rid)

-- ---- calls that write

-- the walk for a key along a bucket's row ends well, and a lawful chain does not have the key
pub record LacksPair (size base key : ℕ) (state : State) : Type 0 where
  pub ends : RowEndsWell size (base + bucket_of key) key state
  pub lacks : (rows : Rows) → IsChain size base state rows → record_of rows key ≡ None

-- the walk for a key down a tree ends well, and a lawful tree has the key, or has it not
pub record TellsEntry (size root : ℕ) (key : Key) (there : Bool) (state : State) : Type 0 where
  pub ends : DescentEndsWell size root key state
  pub tells : (levels : List (List (ℕ × Content))) (leaves : List (ℕ × Content)) → IsTree size root state levels leaves
      → is_some (record_of_key leaves key) ≡ there

-- the tree is one of the table: that by keys, or that of its index
abbrev pub IsTreeOf : ℕ → ℕ → Type 0
IsTreeOf table number = (number ≡ table) ⊎ (number ≡ index_tree table)

-- A table that is changed is torn at a record: there a walk is torn; or a leaf beside the one that a walk comes to is none. Or no walk is, but two parts of the table are at odds about a row: a key
-- that the chain told before is not there, and the record is the key's bucket; or a tree lacks the entry of a row, or has one of a row that was
-- not there, and the record is its root.
pub data TearsChange (size table : ℕ) (state : State) (rid : ℕ) : Type 0 where
  on_a_walk : TearsTable size table state rid → TearsChange size table state rid
  beside_a_leaf : (number : ℕ) (key : Key) → IsTreeOf table number → TearsBeside size (root_of number) key state rid → TearsChange size table state rid
  chain_at_odds : (key : ℕ) → rid ≡ base_of table + bucket_of key → LacksPair size (base_of table) key state → TearsChange size table state rid
  tree_at_odds : (number : ℕ) (key : Key) (there : Bool) → IsTreeOf table number → rid ≡ root_of number → TellsEntry size rid key there state
      → TearsChange size table state rid

-- so it is in each state that agrees with what was read, with the writes so far laid over it
abbrev pub NamesTornChange : ℕ → Meaning → ℕ → Type 0
NamesTornChange table now rid = EachState now now (λ state. TearsChange now.size table state rid)

-- ---- blocks

-- the table is that of one of the commands
abbrev pub OfCommand : List Command → (ℕ → Type 0) → Type 0
OfCommand commands P = (command : Command) × Contains commands command × P (table_named command)
