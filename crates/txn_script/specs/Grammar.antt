-- The input grammar: the checks of a line in their order, which bytes are an input, and which line of other bytes is the first faulty one.
use Rattle.std.specs.Prelude.{◌≡◌, ◌≢◌, ◌⊎◌, ℕ, ◌+◌, ◌<◌, ◌≤◌, ◌==◌, ◌&&◌, nat_le, Bool, true, false, not, IsTrue, List, [], ◌∷◌, ◌++◌, length, count_by, sum_by, All, AllPairs, IsSome, Some, slice_index}
use Rattle.std.specs.List.{flat_map, list_any}
use Rattle.std.specs.Str.{bytes_eq}
use Rattle.replay_model.specs.declared.command.Command.{Command}
use Rattle.replay_model.specs.declared.command.Command.TheVariants as commands
use Rattle.replay_model.specs.declared.input.Block.{Block}
use Rattle.replay_model.specs.declared.input.Input.{Input}
use Rattle.replay_model.specs.Input.{RowsDiffer}
use Rattle.replay_model.specs.Report.{columns_of}
use Rattle.replay_model.specs.TableMap.{Row as RowColumns}
use Rattle.txn_script.specs.declared.fault.Kind.{Kind}
use Rattle.txn_script.specs.declared.fault.Kind.TheVariants as kinds
use Rattle.txn_script.specs.declared.keyword.Keyword.{Keyword}
use Rattle.txn_script.specs.declared.keyword.Keyword.TheVariants.{Table, Index, Row, Get, Put, Ins, Del, Add, Sub, Scan, Find}
use Rattle.txn_script.specs.declared.keyword.Version.{Version}
use Rattle.txn_script.specs.declared.place.Place.TheVariants.{Finished}
use Rattle.txn_script.specs.Line.{Line, head_line, mark_line, named_line, text, spelled, HasForm}
use Rattle.txn_script.specs.Places.{place_behind}
use Rattle.txn_script.specs.Gathered.{tables_of, indexes_of, table_number, named_column, gathered}

-- ---- what an input keeps

-- the blocks of all lanes, and their commands
abbrev pub blocks_in : List (List Block) → List Block
blocks_in lanes = flat_map (λ blocks. blocks) lanes

abbrev pub commands_in : List (List Block) → List Command
commands_in lanes = flat_map (λ block. block.commands) (blocks_in lanes)

-- the commands that count with the rows: those that bring a row, and, where the input has an index, those that change one
abbrev pub counts : Bool → Command → Bool
counts indexed (commands.Get table key column) = false
counts indexed (commands.Put table key values) = true
counts indexed (commands.Ins table key values) = true
counts indexed (commands.Del table key) = false
counts indexed (commands.Add table key column by) = indexed
counts indexed (commands.Sub table key column by) = indexed
counts indexed (commands.Scan table lo hi limit) = false
counts indexed (commands.Find table column lo hi limit) = false

-- the input has an index, on whichever table
abbrev pub is_indexed : List (ℕ × ℕ) → Bool
is_indexed indexes = not (length indexes == 0)

-- the limit of a scan or a search; 0 of the others
abbrev pub limit_of : Command → ℕ
limit_of (commands.Get table key column) = 0
limit_of (commands.Put table key values) = 0
limit_of (commands.Ins table key values) = 0
limit_of (commands.Del table key) = 0
limit_of (commands.Add table key column by) = 0
limit_of (commands.Sub table key column by) = 0
limit_of (commands.Scan table lo hi limit) = limit
limit_of (commands.Find table column lo hi limit) = limit

-- limits of one block: its commands, and the sum of what its scans and searches may list, which does not wrap
pub record IsBlockWithinLimits (block : Block) : Type 0 where
  pub commands : length block.commands ≤ 64
  pub limits : sum_by limit_of block.commands ≤ 256

-- limits of an input: tables, lanes, blocks of all lanes, each block, and rows with the commands that count with them
pub record IsWithinLimits (input : Input) : Type 0 where
  pub tables : length input.tables ≤ 8
  pub lanes : length input.lanes ≤ 64
  pub blocks : length (blocks_in input.lanes) ≤ 16384
  pub each_block : All IsBlockWithinLimits (blocks_in input.lanes)
  pub rows_and_changes : length input.rows + count_by (counts (is_indexed input.indexes)) (commands_in input.lanes) ≤ 16384

-- a command that reads alone
abbrev pub ReadsAlone : Command → Type 0
ReadsAlone (commands.Get table key column) = Unit {0}
ReadsAlone (commands.Put table key values) = ⊥
ReadsAlone (commands.Ins table key values) = ⊥
ReadsAlone (commands.Del table key) = ⊥
ReadsAlone (commands.Add table key column by) = ⊥
ReadsAlone (commands.Sub table key column by) = ⊥
ReadsAlone (commands.Scan table lo hi limit) = Unit {0}
ReadsAlone (commands.Find table column lo hi limit) = Unit {0}

-- a block that is a snapshot reads alone
abbrev pub ReadsIfSnap : Block → Type 0
ReadsIfSnap block = block.snap ≡ true → All ReadsAlone block.commands

-- a row of one of the first n tables
abbrev pub IsRowOver : ℕ → ℕ × ℕ × RowColumns → Type 0
IsRowOver n row = row.0 < n

-- rows are of tables that are declared, and snapshots read alone
pub record IsRunnable (input : Input) : Type 0 where
  pub rows : All (IsRowOver (length input.tables)) input.rows
  pub snapshots : All ReadsIfSnap (blocks_in input.lanes)

-- no table is declared twice or has two indexes, and no two rows have the same table and key
pub record ComesOnce (input : Input) : Type 0 where
  pub tables : AllPairs (λ a b. a.0 ≢ b.0) input.tables
  pub indexes : AllPairs (λ a b. a.0 ≢ b.0) input.indexes
  pub rows : RowsDiffer input.rows

-- ---- the checks of a line

-- a table of this name is declared
abbrev pub IsDeclared : List (List ℕ × ℕ) → List ℕ → Type 0
IsDeclared tables name = IsTrue (list_any (λ table. bytes_eq name table.0) tables)

-- the table that a keyword's line names is declared before it, and so is the index that a search names
abbrev pub IsKeywordKnown : Version → List Line → Keyword → List ℕ → List ℕ → Type 0
IsKeywordKnown version before Table name numbers = Unit {0}
IsKeywordKnown version before Index name numbers = IsDeclared (tables_of version before) name
IsKeywordKnown version before Row name numbers = IsDeclared (tables_of version before) name
IsKeywordKnown version before Get name numbers = IsDeclared (tables_of version before) name
IsKeywordKnown version before Put name numbers = IsDeclared (tables_of version before) name
IsKeywordKnown version before Ins name numbers = IsDeclared (tables_of version before) name
IsKeywordKnown version before Del name numbers = IsDeclared (tables_of version before) name
IsKeywordKnown version before Add name numbers = IsDeclared (tables_of version before) name
IsKeywordKnown version before Sub name numbers = IsDeclared (tables_of version before) name
IsKeywordKnown version before Scan name numbers = IsDeclared (tables_of version before) name
IsKeywordKnown version before Find name numbers =
    IsDeclared (tables_of version before) name
    × IsTrue (list_any (λ index. index.0 == table_number (tables_of version before) name && index.1 == slice_index numbers 0) (indexes_of (tables_of version before) before))

-- what a line names is declared before it
abbrev pub IsKnown : Version → List Line → Line → Type 0
IsKnown version before (head_line other) = Unit {0}
IsKnown version before (mark_line mark) = Unit {0}
IsKnown version before (named_line keyword name numbers) = IsKeywordKnown version before keyword name numbers

-- a column is one of the first so many
abbrev pub is_column : ℕ → ℕ → Bool
is_column columns column = nat_le 1 column && nat_le column columns

-- over a table of so many columns: a row has as many values, and a column that is named is one of them. A search names the column of an
-- index that is declared, which is looked at before.
abbrev pub keeps_columns : Version → ℕ → Keyword → List ℕ → Bool
keeps_columns version columns Table numbers = true
keeps_columns version columns Index numbers = is_column columns (slice_index numbers 0)
keeps_columns version columns Row numbers = length numbers == columns + 1
keeps_columns version columns Get numbers = is_column columns (named_column version numbers)
keeps_columns version columns Put numbers = length numbers == columns + 1
keeps_columns version columns Ins numbers = length numbers == columns + 1
keeps_columns version columns Del numbers = true
keeps_columns version columns Add numbers = is_column columns (named_column version numbers)
keeps_columns version columns Sub numbers = is_column columns (named_column version numbers)
keeps_columns version columns Scan numbers = true
keeps_columns version columns Find numbers = true

-- a line keeps to the columns of the table that it names
abbrev pub KeepsColumns : Version → List Line → Line → Type 0
KeepsColumns version before (head_line other) = Unit {0}
KeepsColumns version before (mark_line mark) = Unit {0}
KeepsColumns version before (named_line keyword name numbers) =
    IsTrue (keeps_columns version (columns_of (tables_of version before) (table_number (tables_of version before) name)) keyword numbers)

-- the check of each kind, of a line behind the lines before it: the last two look at the input that is gathered with the line. That the
-- text ends is no fault of a line.
abbrev pub Passes : Version → List Line → Line → Kind → Type 0
Passes version before line kinds.Form = HasForm version line
Passes version before line kinds.Place = IsSome (place_behind (before ++ line ∷ []))
Passes version before line kinds.Unknown = IsKnown version before line
Passes version before line kinds.Columns = KeepsColumns version before line
Passes version before line kinds.Twice = ComesOnce (gathered version (before ++ line ∷ []))
Passes version before line kinds.Limit = IsWithinLimits (gathered version (before ++ line ∷ []))
Passes version before line kinds.End = Unit {0}

-- the checks of a line that has a form, in their order
abbrev pub checks : List Kind
checks = kinds.Place ∷ kinds.Unknown ∷ kinds.Columns ∷ kinds.Twice ∷ kinds.Limit ∷ []

-- each check passes
abbrev pub PassesEach : (Kind → Type 0) → List Kind → Type 0
PassesEach P [] = Unit {0}
PassesEach P (check ∷ checks) = P check × PassesEach P checks

-- this is the first check that does not pass
abbrev pub FirstFailing : (Kind → Type 0) → List Kind → Kind → Type 0
FirstFailing P [] kind = ⊥
FirstFailing P (check ∷ checks) kind = ((P check → ⊥) × (kind ≡ check)) ⊎ (P check × FirstFailing P checks kind)

-- a line behind the lines before it has a form, and passes each check
pub record Fits (version : Version) (before : List Line) (line : Line) : Type 0 where
  pub form : HasForm version line
  pub passes : PassesEach (Passes version before line) checks

-- each of the lines fits behind those before it
abbrev pub FitBehind : Version → List Line → List Line → Type 0
FitBehind version before [] = Unit {0}
FitBehind version before (line ∷ lines) = Fits version before line × FitBehind version (before ++ line ∷ []) lines

-- ---- texts

-- no byte is a line feed
abbrev pub HasNoLineFeed : List ℕ → Type 0
HasNoLineFeed bytes = All (λ c. c ≢ 10) bytes

-- the head of this version, then these lines, each of which fits, and then the rest of the bytes
pub record Begins (version : Version) (lines : List Line) (rest bytes : List ℕ) : Type 0 where
  pub spelling : bytes ≡ text (head_line version) ++ 10 ∷ (spelled lines ++ rest)
  pub fit : FitBehind version [] lines

-- the bytes are these lines behind a head, and the input is what they gather: behind the last line, which is `done`, nothing follows
pub record Spells (version : Version) (lines : List Line) (bytes : List ℕ) (input : Input) : Type 0 where
  pub begins : Begins version lines [] bytes
  pub finished : place_behind lines ≡ Some Finished
  pub input_is : input ≡ gathered version lines

-- the bytes are this input
abbrev pub IsInput : List ℕ → Input → Type 0
IsInput bytes input = (version : Version) × (lines : List Line) × Spells version lines bytes input

-- a whole line, without its line feed, is faulty: no line has this text, or one has, and this is the first of its checks that fails
pub data FaultyLine (version : Version) (before : List Line) (written : List ℕ) : Kind → Type 0 where
  no_form : ((line : Line) → HasForm version line → written ≡ text line → ⊥) → FaultyLine version before written kinds.Form
  failing : (line : Line) (kind : Kind) → HasForm version line → written ≡ text line → FirstFailing (Passes version before line) checks kind → FaultyLine version before written kind

-- what follows lines that fit is faulty: behind `done` any byte is; else a whole line, or that there is none
pub data FaultyRest (version : Version) (before : List Line) (rest : List ℕ) : Kind → Type 0 where
  behind_done : place_behind before ≡ Some Finished → 0 < length rest → FaultyRest version before rest kinds.Place
  faulty_line : (written behind : List ℕ) (kind : Kind) → (place_behind before ≡ Some Finished → ⊥) → rest ≡ written ++ 10 ∷ behind → HasNoLineFeed written → FaultyLine version before written kind → FaultyRest version before rest kind
  no_line : (place_behind before ≡ Some Finished → ⊥) → HasNoLineFeed rest → FaultyRest version before rest kinds.End

-- the first faulty line of the bytes, counted from 1, and its kind
pub data IsFault (bytes : List ℕ) : ℕ → Kind → Type 0 where
  no_head_line : HasNoLineFeed bytes → IsFault bytes 1 kinds.End
  no_head : (written behind : List ℕ) → bytes ≡ written ++ 10 ∷ behind → HasNoLineFeed written → ((version : Version) → written ≡ text (head_line version) → ⊥) → IsFault bytes 1 kinds.Form
  behind_head : (version : Version) (before : List Line) (rest : List ℕ) (kind : Kind) → Begins version before rest bytes → FaultyRest version before rest kind → IsFault bytes (length before + 2) kind
