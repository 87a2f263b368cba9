-- What the moves of a command add together, and those of a run: any measure of moves that gives a row with its pair 2 at most, an entry 2
-- at most and other moves nothing stays within what is said of the command.
use Rattle.std.proofs.Common.{◌≡◌, ℕ, ◌+◌, ◌*◌, ◌≤◌, ◌==◌, Bool, true, false, cond, List, [], ◌∷◌, ◌++◌, Option, None, Some, Result, Ok, Err, IfOk, sum_by, refl, sym, ap, ◌∙◌, arith, subst, le_trans, le_of_eq, le_refl, zero-le}
use Rattle.std.specs.FinMap.{get, get-remove}
use Rattle.std.specs.Ordering.{is_eq, eq_by_cmp}
use Rattle.std.specs.Cmp.{IsTotalOrder, nat_cmp_total, on_total}
use Rattle.std.proofs.lemmas.Cmp.{then_total, tied_itself}
use Rattle.std.proofs.lemmas.List.Sums.{sum_by-cons, sum_by-append}
use Rattle.ordered_index.specs.declared.key.Key.{Key}
use Rattle.replay_model.specs.declared.command.Command.{Command}
use Rattle.replay_model.specs.declared.command.Command.TheVariants.{Get, Put, Ins, Del, Add, Sub, Scan, Find}
use Rattle.replay_model.specs.declared.outcome.Answer.{Answer}
use Rattle.replay_model.specs.declared.outcome.Answer.TheVariants.{Nothing}
use Rattle.replay_model.specs.declared.outcome.Cause.{Cause}
use Rattle.replay_model.specs.declared.outcome.Cause.TheVariants.{Exists, Missing}
use Rattle.replay_model.specs.TableMap.{TableMap, Row, pair_cmp, column_in, with_column, value_at, with_value, without, index_of}
use Rattle.replay_model.specs.Running.{answer_before, step_then, run_from, tables_from, tables_after}
use Rattle.replay_model.specs.Effect.{effect, store_at, change_at, is_there, is_on, sum_of, difference_of}
use Rattle.stored_tables.specs.Places.{index_tree}
use Rattle.stored_tables.specs.Plan.{Move, row_added, row_dropped, pair_put, pair_removed, entry_inserted, entry_removed, index_key, enters_index, leaves_index, moves_entry, moves_at, moves_to, plan, plan_then, run_plan}
use Rattle.stored_tables.specs.Weight.{row_adds, change_adds, adds, all_add}
use Rattle.stored_tables.specs.Weights.{CommandAdds, RunAdds, AddsByNumbers, AddsAfter, brings_row, brings_entry, has_index}
use Rattle.stored_tables.proofs.WeightMoves.{weight_added, all_moves_add}

pub record IsMeasure (f : Move → ℕ) : Type 0 where
  pub enters : (table key : ℕ) → f (row_added table key) + f (pair_put table key) ≤ 2
  pub inserts : (tree : ℕ) (key : Key) → f (entry_inserted tree key) ≤ 2
  pub drops : (table key : ℕ) → f (row_dropped table key) ≡ 0
  pub removes : (table key : ℕ) → f (pair_removed table key) ≡ 0
  pub takes_out : (tree : ℕ) (key : Key) → f (entry_removed tree key) ≡ 0

-- ---- no command changes the indexes

keeps_either : (test : Bool) (tables : TableMap) (first second : Result (Answer × TableMap) Cause)
    → IfOk first (λ step. step.1.indexes ≡ tables.indexes) → IfOk second (λ step. step.1.indexes ≡ tables.indexes)
    → IfOk (cond test first second) (λ step. step.1.indexes ≡ tables.indexes)
keeps_either true tables first second one other = one
keeps_either false tables first second one other = other

keeps_store : (tables : TableMap) (t k c : ℕ) (row : Row) (value : Result ℕ Cause)
    → IfOk (store_at tables t k c row value) (λ step. step.1.indexes ≡ tables.indexes)
keeps_store tables t k c row (Ok value) = refl
keeps_store tables t k c row (Err cause) = tt

keeps_change : (tables : TableMap) (t k c : ℕ) (change : ℕ → Result ℕ Cause) (found : Option Row)
    → IfOk (change_at tables t k c change found) (λ step. step.1.indexes ≡ tables.indexes)
keeps_change tables t k c change None = tt
keeps_change tables t k c change (Some row) = keeps_store tables t k c row (change (column_in c row))

pub effect_keeps : (command : Command) (tables : TableMap) → IfOk (effect command tables) (λ step. step.1.indexes ≡ tables.indexes)
effect_keeps (Get t k c) tables = refl
effect_keeps (Put t k row) tables = refl
effect_keeps (Ins t k row) tables = keeps_either (is_there tables t k) tables _ _ tt refl
effect_keeps (Del t k) tables = keeps_either (is_there tables t k) tables _ _ refl tt
effect_keeps (Add t k c by) tables = keeps_change tables t k c (sum_of by) (value_at tables t k)
effect_keeps (Sub t k c by) tables = keeps_change tables t k c (difference_of by) (value_at tables t k)
effect_keeps (Scan t lo hi limit) tables = refl
effect_keeps (Find t c lo hi limit) tables = keeps_either (is_on c (index_of t tables)) tables _ _ refl tt

-- so each command adds as much after another as before it
same_row_adds : (left tables : TableMap) (t : ℕ) → left.indexes ≡ tables.indexes → row_adds (index_of t left) ≡ row_adds (index_of t tables)
same_row_adds left tables t same = ap (λ indexes. row_adds (get indexes t)) same

same_change_adds : (left tables : TableMap) (t : ℕ) → left.indexes ≡ tables.indexes
    → change_adds (index_of t left) ≡ change_adds (index_of t tables)
same_change_adds left tables t same = ap (λ indexes. change_adds (get indexes t)) same

same_adds : (command : Command) (left tables : TableMap) → left.indexes ≡ tables.indexes → adds left command ≡ adds tables command
same_adds (Get t k c) left tables same = refl
same_adds (Put t k row) left tables same = same_row_adds left tables t same
same_adds (Ins t k row) left tables same = same_row_adds left tables t same
same_adds (Del t k) left tables same = refl
same_adds (Add t k c by) left tables same = same_change_adds left tables t same
same_adds (Sub t k c by) left tables same = same_change_adds left tables t same
same_adds (Scan t lo hi limit) left tables same = refl
same_adds (Find t c lo hi limit) left tables same = refl

pub all_same : (commands : List Command) (left tables : TableMap) → left.indexes ≡ tables.indexes
    → all_add commands left ≡ all_add commands tables
all_same [] left tables same = refl
all_same (command ∷ commands) left tables same =
    omega (arith, sum_by-cons (adds left) command commands, sum_by-cons (adds tables) command commands, same_adds command left tables same, all_same commands left tables same)

-- by numbers
row_numbers : (indexed : Option ℕ) → row_adds indexed ≡ 4 * 1 + 2 * has_index indexed
row_numbers None = refl
row_numbers (Some column) = refl

change_numbers : (indexed : Option ℕ) → change_adds indexed ≡ 4 * 0 + 2 * has_index indexed
change_numbers None = refl
change_numbers (Some column) = refl

adds_numbers : (command : Command) (tables : TableMap) → adds tables command ≡ 4 * brings_row command + 2 * brings_entry tables command
adds_numbers (Get t k c) tables = refl
adds_numbers (Put t k row) tables = row_numbers (index_of t tables)
adds_numbers (Ins t k row) tables = row_numbers (index_of t tables)
adds_numbers (Del t k) tables = refl
adds_numbers (Add t k c by) tables = change_numbers (index_of t tables)
adds_numbers (Sub t k c by) tables = change_numbers (index_of t tables)
adds_numbers (Scan t lo hi limit) tables = refl
adds_numbers (Find t c lo hi limit) tables = refl

by_numbers : (commands : List Command) (tables : TableMap) → all_add commands tables ≡ 4 * sum_by brings_row commands + 2 * sum_by (brings_entry tables) commands
by_numbers [] tables = refl
by_numbers (command ∷ commands) tables =
    omega (arith, adds_numbers command tables, by_numbers commands tables, sum_by-cons (adds tables) command commands, sum_by-cons brings_row command commands, sum_by-cons (brings_entry tables) command commands)

pub adds_by_numbers : AddsByNumbers
adds_by_numbers = by_numbers

-- and after a block
keeps_before : (tables : TableMap) (answer : Answer) (run : Result (List Answer × TableMap) (ℕ × Cause))
    → IfOk run (λ r. r.1.indexes ≡ tables.indexes) → IfOk (answer_before answer run) (λ r. r.1.indexes ≡ tables.indexes)
keeps_before tables answer (Ok run) keeps = keeps
keeps_before tables answer (Err refusal) keeps = tt

keeps_then : (n : ℕ) (tables : TableMap) (step : Result (Answer × TableMap) Cause) (rest : TableMap → Result (List Answer × TableMap) (ℕ × Cause))
    → IfOk step (λ s. s.1.indexes ≡ tables.indexes) → ((left : TableMap) → IfOk (rest left) (λ r. r.1.indexes ≡ left.indexes))
    → IfOk (step_then n step rest) (λ r. r.1.indexes ≡ tables.indexes)
keeps_then n tables (Ok step) rest keeps each =
    keeps_before tables step.0 (rest step.1) (keeps_on step.1 tables (rest step.1) keeps (each step.1))
  where
    keeps_on : (left tables : TableMap) (run : Result (List Answer × TableMap) (ℕ × Cause)) → left.indexes ≡ tables.indexes
        → IfOk run (λ r. r.1.indexes ≡ left.indexes) → IfOk run (λ r. r.1.indexes ≡ tables.indexes)
    keeps_on left tables (Ok run) same here = here ∙ same
    keeps_on left tables (Err refusal) same here = tt
keeps_then n tables (Err cause) rest keeps each = tt

run_keeps : (n : ℕ) (commands : List Command) (tables : TableMap) → IfOk (run_from n commands tables) (λ r. r.1.indexes ≡ tables.indexes)
run_keeps n [] tables = refl
run_keeps n (command ∷ commands) tables = keeps_then n tables (effect command tables) (λ left. run_from (n + 1) commands left) (effect_keeps command tables) (λ left. run_keeps (n + 1) commands left)

after_keeps : (tables : TableMap) (run : Result (List Answer × TableMap) (ℕ × Cause)) → IfOk run (λ r. r.1.indexes ≡ tables.indexes)
    → (tables_from tables run).indexes ≡ tables.indexes
after_keeps tables (Ok run) keeps = keeps
after_keeps tables (Err refusal) keeps = refl

pub adds_after : AddsAfter
adds_after = λ commands more tables. all_same more (tables_after commands tables) tables (after_keeps tables (run_from 1 commands tables) (run_keeps 1 commands tables))

-- ---- the measure of a command's moves

-- a row that was removed is not there
pair_cmp_total : IsTotalOrder pair_cmp
pair_cmp_total = then_total (on_total (λ (row : ℕ × ℕ). row.0) nat_cmp_total) (on_total (λ (row : ℕ × ℕ). row.1) nat_cmp_total)

row_gone : (tables : TableMap) (t k : ℕ) → value_at (without tables t k) t k ≡ None
row_gone tables t k =
    let itself : eq_by_cmp pair_cmp (t, k) (t, k) ≡ true = ap is_eq (tied_itself pair_cmp_total (t, k)) in
    get-remove pair_cmp_total tables.rows (t, k) (t, k) ∙ ap (λ b. cond b None (get tables.rows (t, k))) itself

parts_few : (a b m n s t : ℕ) → a ≤ m → b ≤ n → s ≡ a + b → t ≡ m + n → s ≤ t
parts_few _ _ _ _ _ _ first second sum sums = omega (arith, first, second, sum, sums)

module _ (f : Move → ℕ) (is : IsMeasure f) where
  enters_few : (table key : ℕ) (indexed : Option ℕ) (columns : Row) → sum_by f (row_added table key ∷ pair_put table key ∷ entry_inserted table (record { high = key; low = 0 }) ∷ enters_index table key indexed columns) ≤ row_adds indexed
  enters_few table key None columns = let row = is.enters table key in let entry = is.inserts table (record { high = key; low = 0 }) in omega (arith, row, entry)
  enters_few table key (Some column) columns =
      let row = is.enters table key in
      let entry = is.inserts table (record { high = key; low = 0 }) in
      let second = is.inserts (index_tree table) (index_key column key columns) in
      omega (arith, row, entry, second)

  leaves_none : (table key : ℕ) (indexed : Option ℕ) (columns : Row) → sum_by f (leaves_index table key indexed columns ++ pair_removed table key ∷ entry_removed table (record { high = key; low = 0 }) ∷ row_dropped table key ∷ []) ≡ 0
  leaves_none table key None columns = omega (arith, is.removes table key, is.takes_out table (record { high = key; low = 0 }), is.drops table key)
  leaves_none table key (Some column) columns =
      omega (arith, is.removes table key, is.takes_out table (record { high = key; low = 0 }), is.drops table key, is.takes_out (index_tree table) (index_key column key columns))

  entry_other : (test : Bool) (table : ℕ) (first second : Key)
      → sum_by f (cond test [] (entry_removed (index_tree table) first ∷ entry_inserted (index_tree table) second ∷ [])) ≤ 2
  entry_other true table first second = omega arith
  entry_other false table first second = omega (arith, is.takes_out (index_tree table) first, is.inserts (index_tree table) second)

  entry_few : (table key : ℕ) (indexed : Option ℕ) (columns columns' : Row)
      → sum_by f (moves_entry table key indexed columns columns') ≤ change_adds indexed
  entry_few table key None columns columns' = omega arith
  entry_few table key (Some column) columns columns' = entry_other (column_in column columns == column_in column columns') table (index_key column key columns) (index_key column key columns')

  change_row : (indexed : Option ℕ) → change_adds indexed ≤ row_adds indexed
  change_row None = omega arith
  change_row (Some column) = omega arith

  -- a row was there
  there_few : (tables : TableMap) (table key : ℕ) (was : Row) (now : Option Row)
      → sum_by f (moves_at tables table key (Some was) now) ≤ change_adds (index_of table tables)
  there_few tables table key was None = let none = leaves_none table key (index_of table tables) was in omega (arith, none)
  there_few tables table key was (Some columns) = entry_few table key (index_of table tables) was columns

  any_few : (tables : TableMap) (table key : ℕ) (was now : Option Row)
      → sum_by f (moves_at tables table key was now) ≤ row_adds (index_of table tables)
  any_few tables table key None None = omega arith
  any_few tables table key None (Some columns) = enters_few table key (index_of table tables) columns
  any_few tables table key (Some was) now = le_trans (there_few tables table key was now) (change_row (index_of table tables))

  -- none is there afterwards
  gone_none : (tables : TableMap) (table key : ℕ) (was : Option Row) → sum_by f (moves_at tables table key was None) ≡ 0
  gone_none tables table key None = refl
  gone_none tables table key (Some was) = leaves_none table key (index_of table tables) was

  gone_few : (tables : TableMap) (t k : ℕ) (test : Bool)
      → sum_by f (moves_to tables t k (cond test (Ok (Nothing, without tables t k)) (Err Missing))) ≤ 0
  gone_few tables t k true =
      let P : Option Row → Type 0 = λ now. sum_by f (moves_at tables t k (value_at tables t k) now) ≤ 0 in
      subst P (sym (row_gone tables t k)) (le_of_eq (gone_none tables t k (value_at tables t k)))
  gone_few tables t k false = omega arith

  insert_few : (tables : TableMap) (t k : ℕ) (columns : Row) (test : Bool)
      → sum_by f (moves_to tables t k (cond test (Err Exists) (Ok (Nothing, with_value tables t k columns)))) ≤ row_adds (index_of t tables)
  insert_few tables t k columns true = zero-le
  insert_few tables t k columns false = any_few tables t k (value_at tables t k) (value_at (with_value tables t k columns) t k)

  store_few : (tables : TableMap) (t k c : ℕ) (row : Row) (value : Result ℕ Cause) → value_at tables t k ≡ Some row
      → sum_by f (moves_to tables t k (store_at tables t k c row value)) ≤ change_adds (index_of t tables)
  store_few tables t k c row (Ok value) is =
      let now : Option Row = value_at (with_value tables t k (with_column c value row)) t k in
      let P : Option Row → Type 0 = λ was. sum_by f (moves_at tables t k was now) ≤ change_adds (index_of t tables) in
      subst P (sym is) (there_few tables t k row now)
  store_few tables t k c row (Err cause) is = zero-le

  change_few : (tables : TableMap) (t k c : ℕ) (change : ℕ → Result ℕ Cause) (found : Option Row) → value_at tables t k ≡ found
      → sum_by f (moves_to tables t k (change_at tables t k c change found)) ≤ change_adds (index_of t tables)
  change_few tables t k c change None is = zero-le
  change_few tables t k c change (Some row) is = store_few tables t k c row (change (column_in c row)) is

  pub plan_few : (command : Command) (tables : TableMap) → sum_by f (plan command tables) ≤ adds tables command
  plan_few (Get t k c) tables = zero-le
  plan_few (Put t k row) tables = any_few tables t k (value_at tables t k) (value_at (with_value tables t k row) t k)
  plan_few (Ins t k row) tables = insert_few tables t k row (is_there tables t k)
  plan_few (Del t k) tables = gone_few tables t k (is_there tables t k)
  plan_few (Add t k c by) tables = change_few tables t k c (sum_of by) (value_at tables t k) refl
  plan_few (Sub t k c by) tables = change_few tables t k c (difference_of by) (value_at tables t k) refl
  plan_few (Scan t lo hi limit) tables = zero-le
  plan_few (Find t c lo hi limit) tables = zero-le

  then_few : (commands : List Command) (tables : TableMap) (step : Result (Answer × TableMap) Cause)
      → ((left : TableMap) → sum_by f (run_plan commands left) ≤ all_add commands left) → IfOk step (λ s. s.1.indexes ≡ tables.indexes)
      → sum_by f (plan_then step (λ left. run_plan commands left)) ≤ all_add commands tables
  then_few commands tables (Ok step) rest keeps = le_trans (rest step.1) (le_of_eq (all_same commands step.1 tables keeps))
  then_few commands tables (Err cause) rest keeps = zero-le

  pub run_few : (commands : List Command) (tables : TableMap) → sum_by f (run_plan commands tables) ≤ all_add commands tables
  run_few [] tables = zero-le
  run_few (command ∷ commands) tables =
      let rest = plan_then (effect command tables) (λ left. run_plan commands left) in
      parts_few _ _ _ _ _ _ (plan_few command tables) (then_few commands tables (effect command tables) (λ left. run_few commands left) (effect_keeps command tables))
      (sum_by-append f (plan command tables) rest) (sum_by-cons (adds tables) command commands)

-- ---- the weight

weight_is : IsMeasure weight_added
weight_is = record { enters = λ table key. le_refl 2; inserts = λ tree key. le_refl 2; drops = λ table key. refl; removes = λ table key. refl; takes_out = λ tree key. refl }

within : (a b c s : ℕ) → a ≤ b + s → s ≤ c → a ≤ b + c
within _ _ _ _ most few = omega (arith, most, few)

pub command_adds : CommandAdds
command_adds = λ command tables places places' asked follows.
    within _ _ _ _ (all_moves_add (plan command tables) places places' asked follows) (plan_few weight_added weight_is command tables)

pub run_adds : RunAdds
run_adds = λ commands tables places places' asked follows.
    within _ _ _ _ (all_moves_add (run_plan commands tables) places places' asked follows) (run_few weight_added weight_is commands tables)
