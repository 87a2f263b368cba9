-- The rows and the blocks of an input can be run.
use Rattle.std.proofs.Common.{ℕ, ◌≤◌, ◌<◌, List, [], ◌∷◌, ◌++◌, All, length, get_or, subst, arith}
use Rattle.std.specs.List.{flat_map, sum_by}
use Rattle.std.proofs.lemmas.List.Concat.{flat_map-cons}
use Rattle.std.proofs.lemmas.List.Elements.{All-nil, All-cons, All-head, All-tail, All-weaker}
use Rattle.std.proofs.lemmas.List.Sums.{get_or-le-sum_by}
use Rattle.replay_model.specs.declared.command.Command.{Command}
use Rattle.replay_model.specs.declared.command.Command.TheVariants as commands
use Rattle.replay_model.specs.declared.input.Block.{Block}
use Rattle.replay_model.specs.declared.input.Input.{Input}
use Rattle.replay_model.specs.Input.{IsWellFormed, AreCommands}
use Rattle.replay_model.specs.Report.{table_named}
use Rattle.replay_model.specs.TableMap.{Row}
use Rattle.stored_tables.specs.Answers.{IsShort, ReadsAlone}
use Rattle.txn_script.specs.Grammar as grammar
use Rattle.lane_runner.specs.Loading.{AreRowsOf}
use Rattle.lane_runner.specs.Finishing.{MayFinish}

all_left : {X : Type 0} (P : X → Type 0) (xs ys : List X) → All P (xs ++ ys) → All P xs
all_left P [] ys each = All-nil P
all_left P (x ∷ xs) ys each = All-cons P x xs (All-head P x (xs ++ ys) each) (all_left P xs ys (All-tail P x (xs ++ ys) each))

all_right : {X : Type 0} (P : X → Type 0) (xs ys : List X) → All P (xs ++ ys) → All P ys
all_right P [] ys each = each
all_right P (x ∷ xs) ys each = all_right P xs ys (All-tail P x (xs ++ ys) each)

-- what holds of the elements of lists one behind the other holds of those of each
all_in_each : {X : Type 0} (P : X → Type 0) (xss : List (List X)) → All P (flat_map (λ (xs : List X). xs) xss) → All (All P) xss
all_in_each P [] each = All-nil (All P)
all_in_each {X} P (xs ∷ xss) each =
    let joined = subst (All P) (flat_map-cons (λ (ys : List X). ys) xs xss) each in
    All-cons (All P) xs xss (all_left P xs (flat_map (λ (ys : List X). ys) xss) joined) (all_in_each P xss (all_right P xs (flat_map (λ (ys : List X). ys) xss) joined))

-- ---- the commands of a block

reads_alone : (c : Command) → grammar.ReadsAlone c → ReadsAlone c
reads_alone (commands.Get t k c) h = h
reads_alone (commands.Put t k values) h = h
reads_alone (commands.Ins t k values) h = h
reads_alone (commands.Del t k) h = h
reads_alone (commands.Add t k c by) h = h
reads_alone (commands.Sub t k c by) h = h
reads_alone (commands.Scan t lo hi limit) h = h
reads_alone (commands.Find t c lo hi limit) h = h

is_short : (c : Command) → grammar.limit_of c ≤ 256 → IsShort c
is_short (commands.Get t k c) h = tt
is_short (commands.Put t k values) h = tt
is_short (commands.Ins t k values) h = tt
is_short (commands.Del t k) h = tt
is_short (commands.Add t k c by) h = tt
is_short (commands.Sub t k c by) h = tt
is_short (commands.Scan t lo hi limit) h = h
is_short (commands.Find t c lo hi limit) h = h

all_short : (cs : List Command) → sum_by grammar.limit_of cs ≤ 256 → All IsShort cs
all_short cs few i d lt = is_short (get_or cs i d) (omega (arith, get_or-le-sum_by grammar.limit_of cs i d lt))

-- ---- an input

pub rows_of : (input : Input) → grammar.IsWithinLimits input → grammar.IsRunnable input → AreRowsOf input.rows
rows_of input within runnable =
    let few = within.tables in
    All-weaker (grammar.IsRowOver (length input.tables)) (λ (row : ℕ × ℕ × Row). row.0 < 8) (λ row below. omega arith) input.rows runnable.rows

commands_of : (tables : ℕ) (cs : List Command) → tables ≤ 8 → AreCommands tables cs → AreCommands 8 cs
commands_of tables cs few are = record {
  runnable = are.runnable;
  known = All-weaker (λ (c : Command). table_named c < tables) (λ (c : Command). table_named c < 8) (λ c below. omega arith) cs are.known;
}

record Fits (tables : ℕ) (block : Block) : Type 0 where
  limits : grammar.IsBlockWithinLimits block
  reads : grammar.ReadsIfSnap block
  commands : AreCommands tables block.commands

may_finish : (tables : ℕ) (block : Block) → tables ≤ 8 → Fits tables block → MayFinish block
may_finish tables block few fits = record {
  may = record {
    commands = commands_of tables block.commands few fits.commands;
    short = all_short block.commands fits.limits.limits;
    reads = λ snap. All-weaker grammar.ReadsAlone ReadsAlone reads_alone block.commands (fits.reads snap);
  };
  few = fits.limits.commands;
}

pub blocks_may_finish : (input : Input) → IsWellFormed input → grammar.IsWithinLimits input → grammar.IsRunnable input → All (All MayFinish) input.lanes
blocks_may_finish input well_formed within runnable =
    let limits = all_in_each grammar.IsBlockWithinLimits input.lanes within.each_block in
    let reads = all_in_each grammar.ReadsIfSnap input.lanes runnable.snapshots in
    λ i d lt. λ j e within_lane. may_finish (length input.tables) (get_or (get_or input.lanes i d) j e) within.tables (record {
      limits = limits i d lt j e within_lane;
      reads = reads i d lt j e within_lane;
      commands = well_formed.lanes.commands i d lt j e within_lane;
    })
