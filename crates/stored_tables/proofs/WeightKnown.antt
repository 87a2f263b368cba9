-- The moves of a run of commands over tables that there are: each is in a chain or a tree that there is.
use Rattle.std.proofs.Common.{ℕ, ◌+◌, ◌<◌, true, false, cond, ◌==◌, List, [], ◌∷◌, ◌++◌, Option, None, Some, Result, Ok, Err, arith}
use Rattle.std.specs.Prelude.{⊤}
use Rattle.std.proofs.lemmas.List.Elements.{All-head, All-tail}
use Rattle.replay_model.specs.declared.command.Command.{Command}
use Rattle.replay_model.specs.declared.command.Command.TheVariants.{Get, Put, Ins, Del, Add, Sub, Scan, Find}
use Rattle.replay_model.specs.declared.outcome.Answer.{Answer}
use Rattle.replay_model.specs.declared.outcome.Cause.{Cause}
use Rattle.replay_model.specs.Effect.{effect}
use Rattle.replay_model.specs.Report.{table_named}
use Rattle.replay_model.specs.TableMap.{TableMap, Row, column_in, value_at, index_of}
use Rattle.stored_tables.specs.Plan.{Move, row_added, row_dropped, pair_put, pair_removed, entry_inserted, entry_removed, index_key, enters_index, leaves_index, moves_entry, moves_at, moves_to, plan, plan_then, run_plan}
use Rattle.stored_tables.specs.Weights.{AreKnown}

abbrev pub IsIn : Move → Type 0
IsIn (row_added table key) = ⊤
IsIn (row_dropped table key) = ⊤
IsIn (pair_put table key) = table < 8
IsIn (pair_removed table key) = table < 8
IsIn (entry_inserted tree key) = tree < 16
IsIn (entry_removed tree key) = tree < 16

abbrev pub AreIn : List Move → Type 0
AreIn [] = ⊤
AreIn (move ∷ others) = IsIn move × AreIn others

are_append : (xs ys : List Move) → AreIn xs → AreIn ys → AreIn (xs ++ ys)
are_append [] ys first second = second
are_append (x ∷ xs) ys first second = (first.0, are_append xs ys first.1 second)

pub are_parts : (xs ys : List Move) → AreIn (xs ++ ys) → AreIn xs × AreIn ys
are_parts [] ys are = (tt, are)
are_parts (x ∷ xs) ys are = let more = are_parts xs ys are.1 in ((are.0, more.0), more.1)

enters_in : (table key : ℕ) (indexed : Option ℕ) (columns : Row) → table < 8 → AreIn (enters_index table key indexed columns)
enters_in table key None columns low = tt
enters_in table key (Some column) columns low = (omega arith, tt)

leaves_in : (table key : ℕ) (indexed : Option ℕ) (columns : Row) → table < 8 → AreIn (leaves_index table key indexed columns)
leaves_in table key None columns low = tt
leaves_in table key (Some column) columns low = (omega arith, tt)

entry_in : (table key : ℕ) (indexed : Option ℕ) (columns columns' : Row) → table < 8
    → AreIn (moves_entry table key indexed columns columns')
entry_in table key None columns columns' low = tt
entry_in table key (Some column) columns columns' low = elim (column_in column columns == column_in column columns') as
    (λ b. AreIn (cond b [] (entry_removed (table + 8) (index_key column key columns) ∷ entry_inserted (table + 8) (index_key column key columns') ∷ []))) [ true ↦ tt | false ↦ (omega arith, (omega arith, tt)) ]

at_in : (tables : TableMap) (table key : ℕ) (was now : Option Row) → table < 8 → AreIn (moves_at tables table key was now)
at_in tables table key None None low = tt
at_in tables table key None (Some columns) low = (tt, (low, (omega arith, enters_in table key (index_of table tables) columns low)))
at_in tables table key (Some was) None low = are_append (leaves_index table key (index_of table tables) was) _ (leaves_in table key (index_of table tables) was low) (low, (omega arith, (tt, tt)))
at_in tables table key (Some was) (Some columns) low = entry_in table key (index_of table tables) was columns low

to_in : (tables : TableMap) (table key : ℕ) (step : Result (Answer × TableMap) Cause) → table < 8 → AreIn (moves_to tables table key step)
to_in tables table key (Ok step) low = at_in tables table key (value_at tables table key) (value_at step.1 table key) low
to_in tables table key (Err cause) low = tt

plan_in : (command : Command) (tables : TableMap) → table_named command < 8 → AreIn (plan command tables)
plan_in (Get t k c) tables low = tt
plan_in (Put t k row) tables low = to_in tables t k (effect (Put t k row) tables) low
plan_in (Ins t k row) tables low = to_in tables t k (effect (Ins t k row) tables) low
plan_in (Del t k) tables low = to_in tables t k (effect (Del t k) tables) low
plan_in (Add t k c by) tables low = to_in tables t k (effect (Add t k c by) tables) low
plan_in (Sub t k c by) tables low = to_in tables t k (effect (Sub t k c by) tables) low
plan_in (Scan t lo hi limit) tables low = tt
plan_in (Find t c lo hi limit) tables low = tt

then_in : (step : Result (Answer × TableMap) Cause) (rest : TableMap → List Move) → ((left : TableMap) → AreIn (rest left))
    → AreIn (plan_then step rest)
then_in (Ok step) rest each = each step.1
then_in (Err cause) rest each = tt

pub run_in : (commands : List Command) (tables : TableMap) → AreKnown commands → AreIn (run_plan commands tables)
run_in [] tables known = tt
run_in (command ∷ commands) tables known =
    are_append (plan command tables) _ (plan_in command tables (All-head (λ c. table_named c < 8) command commands known))
    (then_in (effect command tables) (λ left. run_plan commands left) (λ left. run_in commands left (All-tail (λ c. table_named c < 8) command commands known)))
