-- The blocks that remain, one behind the other.
use Rattle.std.proofs.Common.{◌≡◌, ℕ, suc, ◌+◌, ◌≤◌, true, List, [], ◌∷◌, ◌++◌, append-nil, append_assoc, length, length-append, refl, sym, ap, subst, ◌∙◌, arith, All}
use Rattle.std.specs.Prelude.{sum_by}
use Rattle.std.proofs.lemmas.List.Elements.{All-nil, All-head, All-tail, All-push, All-append}
use Rattle.std.proofs.lemmas.List.Sums.{sum_by-cons, sum_by-append}
use Rattle.plain_data.specs.declared.entry.Entry.{Entry}
use Rattle.core_rule.specs.Views.{Among}
use Rattle.core_rule.proofs.Among.{Among-left}
use Rattle.replay_model.specs.declared.command.Command.{Command}
use Rattle.replay_model.specs.declared.input.Block.{Block}
use Rattle.replay_model.specs.declared.outcome.Outcome.{Outcome}
use Rattle.replay_model.specs.declared.outcome.Placed.{Placed}
use Rattle.replay_model.specs.Running.{tables_after}
use Rattle.replay_model.specs.TableMap.{TableMap}
use Rattle.stored_tables.specs.Weight.{weight, all_add}
use Rattle.stored_tables.specs.Weights.{AddsAfter}
use Rattle.stored_tables.proofs.WeightPlans.{run_adds}
use Rattle.txn_engine.specs.Pass.{EngineView, PassView, engine_of}
use Rattle.lane_runner.specs.declared.done.LaneDone.{LaneDone}
use Rattle.lane_runner.specs.Blocks.{RunsBlock}
use Rattle.lane_runner.specs.Holding.{Holds, HasRecords, LeavesAfter, IsBehind}
use Rattle.lane_runner.specs.Finishing.{MayFinish, RunsRests, results_of, rests_of}
use Rattle.lane_runner.specs.Weighs.{blocks_add}
use Rattle.lane_runner.proofs.Asked.{runs_add}
use Rattle.lane_runner.proofs.Run.{Runs-result, Runs-new}
use Rattle.lane_runner.proofs.Within.{light_more, within_then}

-- ---- room

-- no block changes what others add
blocks_after : AddsAfter → (commands : List Command) (blocks : List Block) (tables : TableMap) → blocks_add blocks (tables_after commands tables) ≡ blocks_add blocks tables
blocks_after after commands [] tables = refl
blocks_after after commands (block ∷ blocks) tables =
    let here = after commands block.commands tables in
    let more = blocks_after after commands blocks tables in
    let first = sum_by-cons (λ (b : Block). all_add b.commands (tables_after commands tables)) block blocks in
    let second = sum_by-cons (λ (b : Block). all_add b.commands tables) block blocks in
    omega (arith, here, more, first, second)

-- for the next block, and for those behind it
pub room_here : (p : PassView) (block : Block) (blocks : List Block) → HasRecords p (blocks_add (block ∷ blocks)) → HasRecords p (all_add block.commands)
room_here p block blocks has = record {
  tables = has.tables;
  most = has.most;
  leaves = has.leaves;
  room = let whole = sum_by-cons (λ (b : Block). all_add b.commands has.tables) block blocks in omega (arith, has.room, whole);
}

pub room_next : (p q : PassView) (block : Block) (blocks : List Block) → AddsAfter → engine_of q ≡ engine_of p → LeavesAfter block.commands p q → HasRecords p (blocks_add (block ∷ blocks)) → HasRecords q (blocks_add blocks)
room_next p q block blocks after engine leaves has = record {
  tables = tables_after block.commands has.tables;
  most = has.most + all_add block.commands has.tables;
  leaves = within_then block.commands p q has.tables (λ places. weight places ≤ has.most) (λ places. weight places ≤ has.most + all_add block.commands has.tables)
      (λ places after runs. light_more has.most (all_add block.commands has.tables) places after (runs_add run_adds block.commands has.tables places after runs)) leaves has.leaves;
  room =
      let whole = sum_by-cons (λ (b : Block). all_add b.commands has.tables) block blocks in
      let same = blocks_after after block.commands blocks has.tables in
      let fixed : q.fixed ≡ p.fixed = ap (λ (e : EngineView). e.fixed) engine in
      let records : q.shared.size.records ≡ p.shared.size.records = ap (λ (e : EngineView). e.size.records) engine in
      omega (arith, has.room, whole, same, fixed, records);
}

-- ---- results

pub RunsRests-new : (p : PassView) (results : List (Placed × Outcome)) → Holds p → RunsRests [] results p results p
RunsRests-new p results holds = record {
  holds = holds;
  rests = [];
  all = sym (append-nil results);
  runs = Runs-new [] [] p refl refl holds.idle;
  behind = All-nil (λ (result : Placed × Outcome). result.0.snap ≡ true → IsBehind p.log result.0.stamp);
}

pub RunsRests-more : (first p q : PassView) (blocks : List Block) (earlier results results' : List (Placed × Outcome)) (block : Block) (done : Placed × Outcome)
    → RunsRests blocks earlier first results p → RunsBlock block p q done.0 done.1 → (done.0.snap ≡ true → IsBehind p.log done.0.stamp) → Holds q → results' ≡ results ++ done ∷ []
    → RunsRests (blocks ++ block ∷ []) earlier first results' q
RunsRests-more first p q blocks earlier results results' block done so_far ran behind holds pushed = record {
  holds = holds;
  rests = so_far.rests ++ done ∷ [];
  all = pushed ∙ ap (λ (rs : List (Placed × Outcome)). rs ++ done ∷ []) so_far.all ∙ append_assoc earlier so_far.rests (done ∷ []);
  runs = Runs-result blocks so_far.rests [] first p q block done.0 done.1 (so_far.rests ++ done ∷ []) so_far.runs refl ran.commits ran.place refl;
  behind = All-push (λ (result : Placed × Outcome). result.0.snap ≡ true → IsBehind first.log result.0.stamp) so_far.rests done so_far.behind
      (λ snap e among. behind snap e (subst (λ (log : List Entry). Among e log) (sym so_far.runs.adds.log) (Among-left e first.log so_far.runs.entries among)));
}

-- ---- lanes taken apart

pub results_more : (lanes : List LaneDone) (lane : LaneDone) → results_of (lanes ++ lane ∷ []) ≡ results_of lanes ++ lane.results
results_more [] lane = append-nil lane.results
results_more (first ∷ lanes) lane = ap (λ (rs : List (Placed × Outcome)). first.results ++ rs) (results_more lanes lane) ∙ sym (append_assoc first.results (results_of lanes) lane.results)

pub rests_more : (lanes : List LaneDone) (lane : LaneDone) → rests_of (lanes ++ lane ∷ []) ≡ rests_of lanes ++ lane.rest
rests_more [] lane = append-nil lane.rest
rests_more (first ∷ lanes) lane = ap (λ (bs : List Block). first.rest ++ bs) (rests_more lanes lane) ∙ sym (append_assoc first.rest (rests_of lanes) lane.rest)

-- the rests of all lanes
pub rests_may : (lanes : List LaneDone) → All (λ (lane : LaneDone). All MayFinish lane.rest) lanes → All MayFinish (rests_of lanes)
rests_may [] may = All-nil MayFinish
rests_may (lane ∷ lanes) may = All-append MayFinish lane.rest (rests_of lanes) (All-head (λ (l : LaneDone). All MayFinish l.rest) lane lanes may) (rests_may lanes (All-tail (λ (l : LaneDone). All MayFinish l.rest) lane lanes may))

pub rests_add_is : (lanes : List LaneDone) (tables : TableMap) → blocks_add (rests_of lanes) tables ≡ sum_by (λ (lane : LaneDone). blocks_add lane.rest tables) lanes
rests_add_is [] tables = refl
rests_add_is (lane ∷ lanes) tables =
    sum_by-append (λ (b : Block). all_add b.commands tables) lane.rest (rests_of lanes)
    ∙ ap (λ (n : ℕ). blocks_add lane.rest tables + n) (rests_add_is lanes tables)
    ∙ sym (sum_by-cons (λ (l : LaneDone). blocks_add l.rest tables) lane lanes)

pub rests_count : (lanes : List LaneDone) → length (rests_of lanes) ≡ sum_by (λ (lane : LaneDone). length lane.rest) lanes
rests_count [] = refl
rests_count (lane ∷ lanes) = length-append lane.rest (rests_of lanes) ∙ ap (λ (n : ℕ). length lane.rest + n) (rests_count lanes) ∙ sym (sum_by-cons (λ (l : LaneDone). length l.rest) lane lanes)

-- ---- what is left of a list

pub items_more : {X : Type 0} (so_far : List X) (x : X) (items items' all : List X) → so_far ++ items ≡ all → items ≡ x ∷ items' → (so_far ++ x ∷ []) ++ items' ≡ all
items_more so_far x items items' all whole next = append_assoc so_far (x ∷ []) items' ∙ ap (λ xs. so_far ++ xs) (sym next) ∙ whole

pub items_count : {X : Type 0} (so_far : List X) (x : X) (items items' all : List X) → so_far ++ items ≡ all → items ≡ x ∷ items' → length all ≡ length so_far + 1 + length items'
items_count so_far x items items' all whole next =
    let whole_count : length all ≡ length so_far + length items = ap (λ xs. length xs) (sym whole) ∙ length-append so_far items in
    let next_count : length items ≡ suc (length items') = ap (λ xs. length xs) next in
    omega arith

pub one_more : {X : Type 0} (so_far : List X) (x : X) → length so_far + 1 ≡ length (so_far ++ x ∷ [])
one_more so_far x = let e = length-append so_far (x ∷ []) in omega (arith, e)

pub items_remain : {X : Type 0} (x : X) (items items' : List X) (count count' : ℕ) → items ≡ x ∷ items' → count' + 1 ≡ count → length items ≡ count → length items' ≡ count'
items_remain x items items' count count' next less so_far =
    let counted : length items ≡ suc (length items') = ap (λ xs. length xs) next in
    omega arith
