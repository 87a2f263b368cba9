-- What is read so far, and what one line more makes of it, as functions on lists; no public contract cites these.
use Rattle.std.specs.Prelude.{◌≡◌, ℕ, ◌+◌, ◌*◌, ◌≤◌, ◌++◌, ◌==◌, ◌&&◌, ◌||◌, nat_lt, nat_le, not, if◌then◌else◌, cond, Bool, true, false, All, List, [], ◌∷◌, length, Option, None, Some, is_some, Result, Ok, Err, slice_index}
use Rattle.std.specs.List.{list_any, position}
use Rattle.std.specs.Str.{bytes_eq}
use Rattle.replay_model.specs.declared.command.Command.{Command}
use Rattle.replay_model.specs.declared.input.Block.{Block}
use Rattle.replay_model.specs.declared.input.Input.{Input}
use Rattle.replay_model.specs.TableMap as rows
use Rattle.replay_model.specs.Input.{IsColumn}
use Rattle.replay_model.specs.Report.{columns_of}
use Rattle.txn_script.specs.declared.fault.Kind.{Kind}
use Rattle.txn_script.specs.declared.fault.Kind.TheVariants as kinds
use Rattle.txn_script.specs.declared.fault.Stop.{Stop}
use Rattle.txn_script.specs.declared.fault.Stop.TheVariants as stops
use Rattle.txn_script.specs.declared.keyword.Keyword.{Keyword}
use Rattle.txn_script.specs.declared.keyword.Keyword.TheVariants.{Table, Index, Row, Get, Put, Ins, Del, Add, Sub, Scan, Find}
use Rattle.txn_script.specs.declared.keyword.Mark.{Mark}
use Rattle.txn_script.specs.declared.keyword.Mark.TheVariants.{Lane, Txn, Snap, End, Done}
use Rattle.txn_script.specs.declared.keyword.Version.{Version}
use Rattle.txn_script.specs.declared.place.Place.{Place}
use Rattle.txn_script.specs.declared.place.Place.TheVariants.{Declarations, InLane, InTxn, InSnap, Finished}
use Rattle.txn_script.specs.declared.reader.Reader.{Reader}
use Rattle.txn_script.specs.Line.{Line, head_line, mark_line, named_line}
use Rattle.txn_script.specs.Places.{after}
use Rattle.txn_script.specs.Gathered.{declared_columns, row_of, command_of}
use Rattle.txn_script.specs.Grammar.{counts, is_indexed, limit_of, keeps_columns}
use Rattle.txn_script.specs.RowPlaces.{same_row}

-- a stop tells the kind that reading gives, unless memory ran out
abbrev pub Fails : {Y : Type 0} → Stop → Result Y Kind → Type 0
Fails (stops.Refused kind) read = read ≡ Err kind
Fails stops.NoMemory read = Unit {0}

-- what a function returned, seen by view, is what reading gives
abbrev pub Gives : {X Y : Type 0} → (X → Y) → Result X Stop → Result Y Kind → Type 0
Gives view (Ok x) read = read ≡ Ok (view x)
Gives view (Err stop) read = Fails stop read

-- ---- what is gathered so far: the closed lanes, the closed blocks of the open lane, the commands of the open block

pub record Progress : Type 0 where
  pub version : Version
  pub place : Place
  pub tables : List (List ℕ × ℕ)
  pub rows : List (ℕ × ℕ × rows.Row)
  pub indexes : List (ℕ × ℕ)
  pub lanes : List (List Block)
  pub blocks : List Block
  pub commands : List Command
  pub block_count : ℕ
  pub change_count : ℕ
  pub limit_sum : ℕ

abbrev pub progress : Reader → Progress
progress r = record {
  version = r.version;
  place = r.place;
  tables = r.tables;
  rows = r.rows;
  indexes = r.indexes;
  lanes = r.lanes;
  blocks = r.blocks;
  commands = r.commands;
  block_count = r.block_count;
  change_count = r.change_count;
  limit_sum = r.limit_sum;
}

-- how many blocks are open, and how many lanes
abbrev pub open_blocks : Place → ℕ
open_blocks Declarations = 0
open_blocks InLane = 0
open_blocks InTxn = 1
open_blocks InSnap = 1
open_blocks Finished = 0

abbrev pub open_lanes : Place → ℕ
open_lanes Declarations = 0
open_lanes InLane = 1
open_lanes InTxn = 1
open_lanes InSnap = 1
open_lanes Finished = 0

-- what is counted is within the limits, and what is not open has nothing in it
pub record IsSteady (p : Progress) : Type 0 where
  pub tables : length p.tables ≤ 8
  pub columns : All (λ table. IsColumn table.1) p.tables
  pub index_columns : All (λ index. IsColumn index.1) p.indexes
  pub lanes : length p.lanes + open_lanes p.place ≤ 64
  pub commands : length p.commands ≤ 64 * open_blocks p.place
  pub limits : p.limit_sum ≤ 256 * open_blocks p.place
  pub blocks : length p.blocks + open_blocks p.place ≤ p.block_count
  pub idle : length p.blocks ≤ 16384 * open_lanes p.place
  pub block_count : p.block_count ≤ 16384
  pub rows_and_changes : length p.rows + p.change_count ≤ 16384

-- nothing read yet behind a head of this version
abbrev pub started : Version → Progress
started version = record {
  version = version;
  place = Declarations;
  tables = [];
  rows = [];
  indexes = [];
  lanes = [];
  blocks = [];
  commands = [];
  block_count = 0;
  change_count = 0;
  limit_sum = 0;
}

-- a value, or else a fault of this kind
abbrev pub need : {A B : Type 0} → Option A → Kind → (A → Result B Kind) → Result B Kind
need None kind f = Err kind
need (Some x) kind f = f x

abbrev pub and_then : {A B : Type 0} → Result A Kind → (A → Result B Kind) → Result B Kind
and_then (Ok x) f = f x
and_then (Err kind) f = Err kind

-- a fault of this kind where a test does not pass
abbrev pub check : {A : Type 0} → Bool → Kind → Result A Kind → Result A Kind
check passes kind rest = if passes then rest else Err kind

-- the number of a table's name, where it is known
abbrev pub number_in : List (List ℕ × ℕ) → List ℕ → Option ℕ
number_in tables name = position (λ table. bytes_eq name table.0) tables

unfoldable pub with_table : Progress → List ℕ → List ℕ → Result Progress Kind
with_table p name numbers =
    check (not (is_some (number_in p.tables name))) kinds.Twice
    (check (nat_lt (length p.tables) 8) kinds.Limit (Ok (record p { tables = p.tables ++ (name, declared_columns p.version numbers) ∷ [] })))

abbrev pub has_index : List (ℕ × ℕ) → ℕ → Bool
has_index indexes table = list_any (λ index. index.0 == table) indexes

unfoldable pub with_index : Progress → List ℕ → List ℕ → Result Progress Kind
with_index p name numbers =
    need (number_in p.tables name) kinds.Unknown (λ table.
    check (keeps_columns p.version (columns_of p.tables table) Index numbers) kinds.Columns
    (check (not (has_index p.indexes table)) kinds.Twice (Ok (record p { indexes = p.indexes ++ (table, slice_index numbers 0) ∷ [] }))))

abbrev pub row_added : List (ℕ × ℕ × rows.Row) → ℕ → ℕ → rows.Row → Result (List (ℕ × ℕ × rows.Row)) Kind
row_added added table key row = if list_any (same_row table key) added then Err kinds.Twice else Ok (added ++ (table, key, row) ∷ [])

unfoldable pub with_row : Progress → List ℕ → List ℕ → Result Progress Kind
with_row p name numbers =
    need (number_in p.tables name) kinds.Unknown (λ table.
    check (keeps_columns p.version (columns_of p.tables table) Row numbers) kinds.Columns
    (and_then (row_added p.rows table (slice_index numbers 0) (row_of numbers)) (λ longer.
    check (nat_lt (length p.rows + p.change_count) 16384) kinds.Limit (Ok (record p { rows = longer })))))

abbrev pub is_in_lane : Place → Bool
is_in_lane Declarations = false
is_in_lane InLane = true
is_in_lane InTxn = false
is_in_lane InSnap = false
is_in_lane Finished = false

unfoldable pub lane_closed : Progress → Progress
lane_closed p = if is_in_lane p.place then record p { lanes = p.lanes ++ p.blocks ∷ []; blocks = [] } else p

unfoldable pub lane_opened : Progress → Result Progress Kind
lane_opened p = check (nat_lt (length (lane_closed p).lanes) 64) kinds.Limit (Ok (lane_closed p))

unfoldable pub block_opened : Progress → Result Progress Kind
block_opened p = check (nat_lt p.block_count 16384) kinds.Limit (Ok (record p { block_count = p.block_count + 1 }))

abbrev pub is_in_snap : Place → Bool
is_in_snap Declarations = false
is_in_snap InLane = false
is_in_snap InTxn = false
is_in_snap InSnap = true
is_in_snap Finished = false

abbrev pub open_block : Progress → Block
open_block p = record { snap = is_in_snap p.place; lane = length p.lanes + 1; number = length p.blocks + 1; commands = p.commands }

unfoldable pub block_closed : Progress → Progress
block_closed p = record p { blocks = p.blocks ++ open_block p ∷ []; commands = []; limit_sum = 0 }

-- a search names an index that is there
abbrev pub is_found : List (ℕ × ℕ) → ℕ → Keyword → List ℕ → Bool
is_found indexes table Table numbers = true
is_found indexes table Index numbers = true
is_found indexes table Row numbers = true
is_found indexes table Get numbers = true
is_found indexes table Put numbers = true
is_found indexes table Ins numbers = true
is_found indexes table Del numbers = true
is_found indexes table Add numbers = true
is_found indexes table Sub numbers = true
is_found indexes table Scan numbers = true
is_found indexes table Find numbers = list_any (λ index. index.0 == table && index.1 == slice_index numbers 0) indexes

-- there is room for a command: in its block, for its limit, and with the rows
abbrev pub has_room : Progress → Command → Bool
has_room p command =
    nat_lt (length p.commands) 64 && nat_le (p.limit_sum + limit_of command) 256
    && (not (counts (is_indexed p.indexes) command) || nat_lt (length p.rows + p.change_count) 16384)

abbrev pub command_added : Progress → Command → Progress
command_added p command = record p {
  commands = p.commands ++ command ∷ [];
  change_count = p.change_count + cond (counts (is_indexed p.indexes) command) 1 0;
  limit_sum = p.limit_sum + limit_of command;
}

unfoldable pub with_command : Progress → Keyword → List ℕ → List ℕ → Result Progress Kind
with_command p keyword name numbers =
    need (number_in p.tables name) kinds.Unknown (λ table.
    check (is_found p.indexes table keyword numbers) kinds.Unknown
    (check (keeps_columns p.version (columns_of p.tables table) keyword numbers) kinds.Columns
    (need (command_of p.version table keyword numbers) kinds.Form (λ command.
    check (has_room p command) kinds.Limit (Ok (command_added p command))))))

abbrev pub mark_taken : Progress → Mark → Result Progress Kind
mark_taken p Lane = lane_opened p
mark_taken p Txn = block_opened p
mark_taken p Snap = block_opened p
mark_taken p End = Ok (block_closed p)
mark_taken p Done = Ok (lane_closed p)

abbrev pub named_taken : Progress → Keyword → List ℕ → List ℕ → Result Progress Kind
named_taken p Table name numbers = with_table p name numbers
named_taken p Index name numbers = with_index p name numbers
named_taken p Row name numbers = with_row p name numbers
named_taken p Get name numbers = with_command p Get name numbers
named_taken p Put name numbers = with_command p Put name numbers
named_taken p Ins name numbers = with_command p Ins name numbers
named_taken p Del name numbers = with_command p Del name numbers
named_taken p Add name numbers = with_command p Add name numbers
named_taken p Sub name numbers = with_command p Sub name numbers
named_taken p Scan name numbers = with_command p Scan name numbers
named_taken p Find name numbers = with_command p Find name numbers

abbrev pub taken_in : Progress → Line → Result Progress Kind
taken_in p (head_line version) = Err kinds.Place
taken_in p (mark_line mark) = mark_taken p mark
taken_in p (named_line keyword name numbers) = named_taken p keyword name numbers

unfoldable pub step : Progress → Line → Result Progress Kind
step p line = need (after p.place line) kinds.Place (λ place. and_then (taken_in p line) (λ q. Ok (record q { place = place })))

abbrev pub input_at_end : Progress → Input
input_at_end p = record { tables = p.tables; rows = p.rows; indexes = p.indexes; lanes = p.lanes }
