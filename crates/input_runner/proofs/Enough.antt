-- The sizes of a run are enough for its rows and all its blocks.
use Rattle.std.proofs.Common.{min, ◌-◌, ◌≡◌, ℕ, ◌+◌, ◌*◌, ◌≤◌, ◌<◌, Bool, true, false, cond, not, if◌then◌else◌, List, [], ◌∷◌, length, get_or, Option, None, Some, refl, ap, inl, inr, arith}
use Rattle.std.specs.FinMap.{get-empty}
use Rattle.std.specs.Ordering.{nat_cmp}
use Rattle.std.specs.List.{count_by, sum_by}
use Rattle.std.proofs.lemmas.Bool.Decides.{eqb_tells}
use Rattle.std.proofs.lemmas.List.Sums.{sum_by-cons}
use Rattle.replay_model.specs.declared.command.Command.{Command}
use Rattle.replay_model.specs.declared.command.Command.TheVariants as commands
use Rattle.replay_model.specs.declared.input.Block.{Block}
use Rattle.replay_model.specs.declared.input.Input.{Input}
use Rattle.replay_model.specs.TableMap.{TableMap, Row, loaded, index_of}
use Rattle.stored_tables.specs.Weight.{row_adds, change_adds, adds, all_add}
use Rattle.txn_script.specs.Grammar.{IsWithinLimits, counts, is_indexed, blocks_in, commands_in}
use Rattle.lane_runner.specs.Weighs.{blocks_add}
use Rattle.input_runner.specs.Sizes.{SizesAreEnough, count_in, records_for_rows, records_for_commands}
use Rattle.input_runner.proofs.Counts.{count_blocks, brings_below}

-- ---- one row or command

row_light : (column : Option ℕ) → row_adds column ≤ 6
row_light None = omega arith
row_light (Some c) = omega arith

change_light : (column : Option ℕ) → change_adds column ≤ 2
change_light None = omega arith
change_light (Some c) = omega arith

-- with an index somewhere, and with none
command_light : (tables : TableMap) (command : Command) → adds tables command ≤ 4 * cond (counts false command) 1 0 + 2 * cond (counts true command) 1 0
command_light tables (commands.Get t k c) = omega arith
command_light tables (commands.Put t k values) = omega (arith, row_light (index_of t tables))
command_light tables (commands.Ins t k values) = omega (arith, row_light (index_of t tables))
command_light tables (commands.Del t k) = omega arith
command_light tables (commands.Add t k c by) = omega (arith, change_light (index_of t tables))
command_light tables (commands.Sub t k c by) = omega (arith, change_light (index_of t tables))
command_light tables (commands.Scan t lo hi limit) = omega arith
command_light tables (commands.Find t c lo hi limit) = omega arith

abbrev HasNoIndex : TableMap → Type 0
HasNoIndex tables = (t : ℕ) → index_of t tables ≡ None

command_lightest : (tables : TableMap) (command : Command) → HasNoIndex tables → adds tables command ≤ 4 * cond (counts false command) 1 0
command_lightest tables (commands.Get t k c) none = omega arith
command_lightest tables (commands.Put t k values) none = omega (arith, ap row_adds (none t))
command_lightest tables (commands.Ins t k values) none = omega (arith, ap row_adds (none t))
command_lightest tables (commands.Del t k) none = omega arith
command_lightest tables (commands.Add t k c by) none = omega (arith, ap change_adds (none t))
command_lightest tables (commands.Sub t k c by) none = omega (arith, ap change_adds (none t))
command_lightest tables (commands.Scan t lo hi limit) none = omega arith
command_lightest tables (commands.Find t c lo hi limit) none = omega arith

-- ---- sums

sum_below : {X : Type 0} (f g h : X → ℕ) (xs : List X) → ((x : X) → f x ≤ 4 * g x + 2 * h x) → sum_by f xs ≤ 4 * sum_by g xs + 2 * sum_by h xs
sum_below f g h [] each = omega arith
sum_below f g h (x ∷ xs) each =
    let first = each x in
    let rest = sum_below f g h xs each in
    let fs = sum_by-cons f x xs in
    let gs = sum_by-cons g x xs in
    let hs = sum_by-cons h x xs in
    omega arith

sum_lowest : {X : Type 0} (f g : X → ℕ) (xs : List X) → ((x : X) → f x ≤ 4 * g x) → sum_by f xs ≤ 4 * sum_by g xs
sum_lowest f g [] each = omega arith
sum_lowest f g (x ∷ xs) each = let first = each x in let rest = sum_lowest f g xs each in let fs = sum_by-cons f x xs in let gs = sum_by-cons g x xs in omega arith

blocks_light : (tables : TableMap) (blocks : List Block) → blocks_add blocks tables ≤ 4 * count_in false blocks + 2 * count_in true blocks
blocks_light tables blocks =
    sum_below (λ (b : Block). all_add b.commands tables) (λ (b : Block). count_by (counts false) b.commands) (λ (b : Block). count_by (counts true) b.commands) blocks
    (λ b. sum_below (adds tables) (λ (c : Command). cond (counts false c) 1 0) (λ (c : Command). cond (counts true c) 1 0) b.commands (command_light tables))

blocks_lightest : (tables : TableMap) (blocks : List Block) → HasNoIndex tables → blocks_add blocks tables ≤ 4 * count_in false blocks
blocks_lightest tables blocks none =
    sum_lowest (λ (b : Block). all_add b.commands tables) (λ (b : Block). count_by (counts false) b.commands) blocks
    (λ b. sum_lowest (adds tables) (λ (c : Command). cond (counts false c) 1 0) b.commands (λ c. command_lightest tables c none))

-- ---- an input

-- records for so many commands that bring a row, and that bring or change one: with an index somewhere, and with none
abbrev records_at : Bool → (seats brought changed : ℕ) → ℕ
records_at indexed seats brought changed = 4 * brought + min (2 * brought) (32768 * (seats - 1)) + (if indexed then 3 * changed else 0)

record AreLight (indexed : Bool) (seats : ℕ) (rows : List (ℕ × ℕ × Row)) (indexes : List (ℕ × ℕ)) (lanes : List (List Block)) : Type 0 where
  few_rows : length rows ≤ 16384
  few_brought : count_by (counts false) (commands_in lanes) ≤ 16384
  few_changed : indexed ≡ true → count_by (counts true) (commands_in lanes) ≤ 16384
  few : 2 * length rows + 4 + records_at indexed seats (count_by (counts false) (commands_in lanes)) (count_by (counts true) (commands_in lanes)) ≤ 180228
  light : blocks_add (blocks_in lanes) (loaded rows indexes) ≤ records_at indexed seats (count_by (counts false) (commands_in lanes)) (count_by (counts true) (commands_in lanes))

-- an index is there
indexed_more : (index : ℕ × ℕ) (indexes : List (ℕ × ℕ)) → is_indexed (index ∷ indexes) ≡ true
indexed_more index indexes = elim (eqb_tells (length (index ∷ indexes)) 0) [ inl same ↦ absurd (let none = same.1 in omega arith) | inr other ↦ ap not other.0 ]

none_there : (indexes : List (ℕ × ℕ)) → is_indexed indexes ≡ false → (t : ℕ) → index_of t (loaded [] indexes) ≡ None
none_there [] none t = get-empty nat_cmp t
none_there (index ∷ indexes) none t = absurd (let some = indexed_more index indexes in cc)

are_light : (seats : ℕ) (rows : List (ℕ × ℕ × Row)) (indexes : List (ℕ × ℕ)) (lanes : List (List Block)) → length rows + count_by (counts (is_indexed indexes)) (commands_in lanes) ≤ 16384
    → AreLight (is_indexed indexes) seats rows indexes lanes
are_light seats rows indexes lanes = by (is_indexed indexes) (none_there indexes) where
  by : (b : Bool) → (b ≡ false → (t : ℕ) → index_of t (loaded [] indexes) ≡ None) → length rows + count_by (counts b) (commands_in lanes) ≤ 16384 → AreLight b seats rows indexes lanes
  by true none few =
      let below = brings_below true (commands_in lanes) in
      let blocks_are = blocks_light (loaded rows indexes) (blocks_in lanes) in
      let brought = count_blocks false lanes in
      let changed = count_blocks true lanes in
      record { few_rows = omega arith; few_brought = omega arith; few_changed = λ _. omega arith; few = omega arith; light = omega (arith, blocks_are, brought, changed) }
  by false none few =
      let blocks_are = blocks_lightest (loaded rows indexes) (blocks_in lanes) (none refl) in
      let brought = count_blocks false lanes in
      record { few_rows = omega arith; few_brought = omega arith; few_changed = λ indexed. absurd (let not_true : false ≡ true = indexed in cc); few = omega arith; light = omega (arith, blocks_are, brought) }

-- what follows of the limits of an input for the sizes of its run
pub record AreFew (input : Input) (seats : ℕ) : Type 0 where
  pub rows : length input.rows ≤ 16384
  pub brought : count_by (counts false) (commands_in input.lanes) ≤ 16384
  pub changed : 0 < length input.indexes → count_by (counts true) (commands_in input.lanes) ≤ 16384
  pub records : records_for_rows input + records_for_commands input seats ≤ 180228

pub few_of_run : (input : Input) (seats : ℕ) → IsWithinLimits input → AreFew input seats
few_of_run input seats within =
    let is = are_light seats input.rows input.indexes input.lanes within.rows_and_changes in
    record { rows = is.few_rows; brought = is.few_brought; changed = λ some. is.few_changed (there input.indexes some); records = is.few }
  where
    there : (indexes : List (ℕ × ℕ)) → 0 < length indexes → is_indexed indexes ≡ true
    there [] some = absurd (omega arith)
    there (index ∷ indexes) some = indexed_more index indexes

-- by whether there is an index
pub if_indexed : {X : Type 0} (indexes : List (ℕ × ℕ)) (some none : X) → 0 < length indexes → (if is_indexed indexes then some else none) ≡ some
if_indexed [] some none there = absurd (omega arith)
if_indexed (index ∷ indexes) some none there = ap (λ (b : Bool). if b then some else none) (indexed_more index indexes)

pub if_not_indexed : {X : Type 0} (indexes : List (ℕ × ℕ)) (some none : X) → length indexes ≡ 0 → (if is_indexed indexes then some else none) ≡ none
if_not_indexed [] some none empty = refl
if_not_indexed (index ∷ indexes) some none empty = absurd (omega (arith, empty))

pub sizes_are_enough : SizesAreEnough
sizes_are_enough input seats well_formed within some most =
    let is = are_light seats input.rows input.indexes input.lanes within.rows_and_changes in
    let few : records_for_rows input + records_for_commands input seats ≤ 180228 = is.few in
    let light : blocks_add (blocks_in input.lanes) (loaded input.rows input.indexes) ≤ records_for_commands input seats = is.light in
    record {
      size = record {
        has_seat = some;
        seats_in_range = most;
        has_record = omega arith;
        records_in_range = omega arith;
        has_spare = omega arith;
        spare_in_range = omega arith;
      };
      rows = λ i d within. let each = row_light (index_of (get_or input.rows i d).0 (loaded [] input.indexes)) in omega (arith, each, within);
      records = omega (arith, light);
    }
