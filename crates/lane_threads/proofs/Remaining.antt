-- The blocks that remain where lanes were run can be run, where there is room for all.
use Rattle.std.proofs.Common.{◌≡◌, ⊎_elim, ℕ, suc, ◌+◌, ◌-◌, ◌<◌, ◌≤◌, false, List, [], ◌∷◌, ◌++◌, length, map, length-append, append_assoc, refl, sym, ap, subst, ◌∙◌, arith, All}
use Rattle.std.specs.List.{range_with_len, sum_by, AllByRecursion}
use Rattle.std.proofs.lemmas.List.Elements.{All-nil, All-cons, All-head, All-tail}
use Rattle.std.proofs.lemmas.List.Sorted.{All-permutation, sum_by-IsPermutation}
use Rattle.std.proofs.lemmas.List.Sums.{sum_by-cons, sum_by-append}
use Rattle.plain_data.specs.declared.entry.Entry.{Entry}
use Rattle.core_rule.specs.Views.{Among}
use Rattle.core_rule.proofs.Among.{Among-split}
use Rattle.histories.specs.History.{Lawful}
use Rattle.history_replay.specs.Results.{StandsForSome}
use Rattle.lane_queue.specs.declared.lane.Lane.{Lane}
use Rattle.lane_queue.specs.Passes.{numbered}
use Rattle.replay_model.specs.declared.input.Block.{Block}
use Rattle.replay_model.specs.declared.input.Input.{Input}
use Rattle.replay_model.specs.declared.outcome.Outcome.{Outcome}
use Rattle.replay_model.specs.declared.outcome.Placed.{Placed}
use Rattle.replay_model.specs.TableMap.{TableMap}
use Rattle.stamp_base.specs.Stamp.{bound_of_clock}
use Rattle.stored_tables.specs.Weight.{all_add}
use Rattle.stored_tables.specs.Weights.{AddsAfter}
use Rattle.txn_engine.specs.Alone.{AloneView}
use Rattle.txn_engine.specs.Pass.{EngineView, PassView, bare, engine_of}
use Rattle.txn_engine.specs.Sharing.{announced, first_share, share_at, shares}
use Rattle.lane_runner.specs.declared.done.LaneDone.{LaneDone}
use Rattle.lane_runner.specs.Rows.{stands}
use Rattle.lane_runner.specs.Lanes.{AreEntries}
use Rattle.lane_threads.specs.All.{AreOfLanes, Grown, IsGrown, grown_logs, all_added}
use Rattle.lane_threads.specs.Merges.{IsMerge}
use Rattle.lane_threads.specs.Merges.IsMerge.{none as none_merged, left, right}
use Rattle.lane_threads.specs.All.AreOfLanes.{none, next}
use Rattle.lane_runner.specs.Weighs.{blocks_add}
use Rattle.lane_runner.specs.Holding.{LeavesWithin}
use Rattle.lane_runner.specs.Loading.{rows_weigh}
use Rattle.lane_runner.specs.Finishing.{MayFinish, rests_add, how_many_remain}
use Rattle.lane_runner.specs.Behind.{ComesBehind, WeighsAfter}
use Rattle.lane_threads.specs.Whole.{blocks_of, loaded_rows, HasRun, CanFinish, RunsCanFinish}
use Rattle.lane_runner.proofs.Run.{AreEntries-others}
use Rattle.lane_threads.proofs.Merging.{merged_entries}
use Rattle.lane_threads.proofs.LaneLists.{each_numbered}
use Rattle.lane_threads.proofs.Shared.{each_bare, each_share, each_pass}
use Rattle.lane_runner.proofs.Weighing.{runs_weigh_after}

-- ---- blocks that ran, and those that remain

-- numbers of blocks that are summed along a list
record IsSum (f : List Block → ℕ) : Type 0 where
  of_none : f [] ≡ 0
  of_both : (xs ys : List Block) → f (xs ++ ys) ≡ f xs + f ys

abbrev of_lanes : (List Block → ℕ) → List Lane → ℕ
of_lanes f lanes = sum_by (λ (lane : Lane). f lane.blocks) lanes

abbrev of_rests : (List Block → ℕ) → List LaneDone → ℕ
of_rests f dones = sum_by (λ (done : LaneDone). f done.rest) dones

sum_merged : (f : List Block → ℕ) → IsSum f → (xs ys all : List Block) → IsMerge xs ys all → f all ≡ f xs + f ys
sum_merged f sums xs ys all none_merged = omega (arith, sums.of_none)
sum_merged f sums xs ys all (left x xs' ys' all' merged) =
    let rest : f all' ≡ f xs' + f ys' = sum_merged f sums xs' ys' all' merged in
    omega (arith, rest, sums.of_both (x ∷ []) all', sums.of_both (x ∷ []) xs')
sum_merged f sums xs ys all (right y xs' ys' all' merged) =
    let rest : f all' ≡ f xs' + f ys' = sum_merged f sums xs' ys' all' merged in
    omega (arith, rest, sums.of_both (y ∷ []) all', sums.of_both (y ∷ []) ys')

-- the blocks of lanes that ran, with their entries; together with the rests they are the blocks of the lanes
record HaveRun (records : ℕ) (entries : List Entry) (lanes : List Lane) (dones : List LaneDone) : Type 0 where
  blocks : List Block
  results : List (Placed × Outcome)
  are_entries : AreEntries records entries blocks results
  parts : (f : List Block → ℕ) → IsSum f → f blocks + of_rests f dones ≡ of_lanes f lanes

have_run : (records : ℕ) (entries : List Entry) (lanes : List Lane) (dones : List LaneDone) → AreOfLanes records entries lanes dones → HaveRun records entries lanes dones
have_run records entries lanes dones (none es keeps) = record { blocks = []; results = []; are_entries = AreEntries-others records es keeps; parts = λ f sums. omega (arith, sums.of_none) }
have_run records entries lanes dones (next es more all lane ls done ds merged is rest) =
    let behind = have_run records more ls ds rest in
    let ran = merged_entries records es more all is.first behind.blocks done.results behind.results merged is.are_entries behind.are_entries in
    record {
      blocks = ran.blocks;
      results = ran.results;
      are_entries = ran.are_entries;
      parts = λ f sums.
          let here : f lane.blocks ≡ f is.first + f done.rest = ap f is.blocks_are ∙ sums.of_both is.first done.rest in
          omega (arith, here, behind.parts f sums, sum_merged f sums is.first behind.blocks ran.blocks ran.of_blocks, sum_by-cons (λ (x : Lane). f x.blocks) lane ls, sum_by-cons (λ (x : LaneDone). f x.rest) done ds);
    }

-- the blocks of lanes with their numbers are those of the lanes
of_numbered : (f : List Block → ℕ) (n : ℕ) (lanes : List (List Block)) → IsSum f → of_lanes f (numbered n lanes) ≡ f (blocks_of lanes)
of_numbered f n [] sums = sym sums.of_none
of_numbered f n (blocks ∷ lanes) sums =
    omega (arith, of_numbered f (suc n) lanes sums, sums.of_both blocks (blocks_of lanes), sum_by-cons (λ (x : Lane). f x.blocks) (record { number = n; blocks = blocks }) (numbered (suc n) lanes))

length_sums : IsSum (λ (blocks : List Block). length blocks)
length_sums = record { of_none = refl; of_both = λ xs ys. length-append xs ys }

adds_sum : (tables : TableMap) → IsSum (λ (blocks : List Block). blocks_add blocks tables)
adds_sum tables = record { of_none = refl; of_both = λ xs ys. sum_by-append (λ (block : Block). all_add block.commands tables) xs ys }

rest_of : (P : Block → Type 0) (first rest : List Block) → All P (first ++ rest) → All P rest
rest_of P [] rest all = all
rest_of P (block ∷ first) rest all = rest_of P first rest (All-tail P block (first ++ rest) all)

-- what holds of each block of lanes holds of those that remain
each_rest : (P : Block → Type 0) (records : ℕ) (entries : List Entry) (lanes : List Lane) (dones : List LaneDone) → AreOfLanes records entries lanes dones → All (λ (lane : Lane). All P lane.blocks) lanes → All (λ (done : LaneDone). All P done.rest) dones
each_rest P records entries lanes dones (none es keeps) each = All-nil (λ (done : LaneDone). All P done.rest)
each_rest P records entries lanes dones (next es more all lane ls done ds merged is rest) each =
    All-cons (λ (x : LaneDone). All P x.rest) done ds
    (rest_of P is.first done.rest (subst (λ (blocks : List Block). All P blocks) is.blocks_are (All-head (λ (x : Lane). All P x.blocks) lane ls each)))
    (each_rest P records more ls ds rest (All-tail (λ (x : Lane). All P x.blocks) lane ls each))

-- ---- the log behind a share

-- what holds of passes holds of them as they have grown
each_grown : (P : PassView → Type 0) (gs : List Grown) → AllByRecursion P (map (λ (g : Grown). g.pass) gs) → AllByRecursion (λ (g : Grown). P g.pass) gs
each_grown P [] each = tt
each_grown P (g ∷ gs) each = (each.0, each_grown P gs each.1)

logs_of_none : (gs : List Grown) → AllByRecursion (λ (g : Grown). g.pass.log ≡ []) gs → grown_logs gs ≡ all_added gs
logs_of_none [] empty = refl
logs_of_none (g ∷ gs) empty = λ i. (empty.0 i ++ g.added) ++ logs_of_none gs empty.1 i

abbrev first_of : PassView → List PassView → PassView
first_of other [] = other
first_of other (p ∷ ps) = p

abbrev behind_first : List PassView → List PassView
behind_first [] = []
behind_first (p ∷ ps) = ps

-- the log of the pass that was shared, and behind it all that was added
pub logs_shared : (p : PassView) (gs : List Grown) → map bare (map (λ (g : Grown). g.pass) gs) ≡ shares p → grown_logs gs ≡ p.log ++ all_added gs
logs_shared p [] are = cc
logs_shared p (g ∷ gs) are =
    (λ i. (first i ++ g.added) ++ logs_of_none gs others i) ∙ append_assoc p.log g.added (all_added gs)
  where
    head : bare g.pass ≡ first_share (announced p)
    head = ap (first_of p) are

    first : g.pass.log ≡ p.log
    first = ap (λ (q : PassView). q.log) head

    tail : map bare (map (λ (x : Grown). x.pass) gs) ≡ map (share_at (announced p)) (range_with_len 1 (p.shared.size.seats - 1))
    tail = ap behind_first are

    others : AllByRecursion (λ (x : Grown). x.pass.log ≡ []) gs
    others = each_grown (λ q. q.log ≡ []) gs (each_bare (λ q. q.log ≡ []) (map (λ (x : Grown). x.pass) gs) (λ q is. is)
        (subst (AllByRecursion (λ (q : PassView). q.log ≡ [])) (sym tail) (each_share (λ q. q.log ≡ []) (announced p) (range_with_len 1 (p.shared.size.seats - 1)) (λ seat. refl))))

-- a pass of a share, as it was handed in
record IsShare (p q : PassView) : Type 0 where
  clock : q.clock ≡ p.clock
  met : bound_of_clock p.clock ≤ q.met

shares_are : (p : PassView) (passes : List PassView) → map bare passes ≡ shares p → AllByRecursion (IsShare p) passes
shares_are p passes are = each_pass (IsShare p) p passes (λ q is. record { clock = is.clock; met = is.met }) are (record { clock = refl; met = omega arith }) (λ seat. record { clock = refl; met = omega arith })

-- what was added to it comes behind its clock
behind_share : (p : PassView) (g : Grown) (entry : Entry) → IsShare p g.pass → IsGrown g → Among entry g.added → ComesBehind (bound_of_clock p.clock - 1) entry
behind_share p g entry is grown among =
    let is_next = grown.each entry among in
    record {
      commit = λ commit. let above : bound_of_clock g.pass.clock ≤ entry.stamp = is_next.commit_clock commit in omega (arith, is.clock);
      snapshot = λ snapshot. let above : g.pass.met ≤ entry.stamp + 1 = is_next.snapshot_met snapshot in omega (arith, is.met);
    }

added_behind : (p : PassView) (gs : List Grown) (entry : Entry) → AllByRecursion (λ (g : Grown). IsShare p g.pass) gs → AllByRecursion IsGrown gs → Among entry (all_added gs) → ComesBehind (bound_of_clock p.clock - 1) entry
added_behind p [] entry are grown among = absurd among
added_behind p (g ∷ gs) entry are grown among =
    ⊎_elim (λ here. behind_share p g entry are.0 grown.0 here) (λ there. added_behind p gs entry are.1 grown.1 there) (Among-split entry g.added (all_added gs) among)

-- ---- the law

module _ (adds_after : AddsAfter) (input : Input) (tries due : ℕ) (loaded : PassView) (alone : AloneView) (done : List LaneDone) (run : HasRun input tries due loaded alone done)
    (lawful : Lawful (StandsForSome stands) loaded.shared.size.records alone.pass.log) (may : All (All MayFinish) input.lanes) where
  abbrev records : ℕ
  records = loaded.shared.size.records

  abbrev start : ℕ
  start = bound_of_clock loaded.clock - 1

  abbrev added : List Entry
  added = all_added run.runs.grown

  abbrev tables : TableMap
  tables = loaded_rows input

  passes_are : map bare (map (λ (g : Grown). g.pass) run.runs.grown) ≡ shares loaded
  passes_are = ap (λ (passes : List PassView). map bare passes) run.runs.passes_are ∙ run.shared.are_shares

  log_is : alone.pass.log ≡ loaded.log ++ added
  log_is = run.runs.log_is ∙ logs_shared loaded run.runs.grown passes_are

  behind : (entry : Entry) → Among entry added → ComesBehind start entry
  behind entry among = added_behind loaded run.runs.grown entry (each_grown (IsShare loaded) run.runs.grown (shares_are loaded (map (λ (g : Grown). g.pass) run.runs.grown) passes_are)) run.runs.each_grown among

  up_to : (entry : Entry) → Among entry loaded.log → entry.snapshot ≡ false → entry.stamp ≤ start
  up_to entry among commit = let below : entry.stamp < bound_of_clock loaded.clock = run.shared.above entry among commit in omega arith

  ran : HaveRun records added run.runs.taken done
  ran = have_run records added run.runs.taken done run.runs.are_of_lanes

  -- those that ran and those that remain are the blocks of the input
  all_blocks : (f : List Block → ℕ) → IsSum f → f ran.blocks + of_rests f done ≡ f (blocks_of input.lanes)
  all_blocks f sums = ran.parts f sums ∙ sum_by-IsPermutation (λ (lane : Lane). f lane.blocks) (numbered 1 input.lanes) run.runs.taken run.runs.each_once ∙ of_numbered f 1 input.lanes sums

  after : WeighsAfter records (loaded.log ++ added) tables (rows_weigh input.rows + blocks_add ran.blocks tables)
  after = runs_weigh_after adds_after records start loaded.log added ran.blocks ran.results tables (rows_weigh input.rows)
      (subst (λ (log : List Entry). Lawful (StandsForSome stands) records log) log_is lawful) run.loads.leaves up_to (λ entry among. (behind entry among).commit) ran.are_entries

  engine_is : engine_of alone.pass ≡ engine_of loaded
  engine_is = run.runs.together.engine_is

  leaves_at : LeavesWithin alone.pass.shared.size.records alone.pass.log after.after (rows_weigh input.rows + blocks_add ran.blocks tables)
  leaves_at = subst (λ (at : EngineView × List Entry). LeavesWithin at.0.size.records at.1 after.after (rows_weigh input.rows + blocks_add ran.blocks tables)) (λ i. (sym engine_is i, sym log_is i)) after.leaves

  rests_same : rests_add done after.after ≡ rests_add done tables
  rests_same = λ i. sum_by (λ (lane : LaneDone). sum_by (λ (block : Block). after.same block.commands i) lane.rest) done

  room_at : loaded.fixed + (rows_weigh input.rows + blocks_add (blocks_of input.lanes) tables) ≤ loaded.shared.size.records
      → alone.pass.fixed + (rows_weigh input.rows + blocks_add ran.blocks tables + rests_add done after.after) ≤ alone.pass.shared.size.records
  room_at room = subst (λ (engine : EngineView). engine.fixed + (rows_weigh input.rows + blocks_add ran.blocks tables + rests_add done after.after) ≤ engine.size.records) (sym engine_is)
      (let all : blocks_add ran.blocks tables + rests_add done tables ≡ blocks_add (blocks_of input.lanes) tables = all_blocks (λ (blocks : List Block). blocks_add blocks tables) (adds_sum tables) in
      omega (arith, all, rests_same, room))

  pub can_finish : loaded.fixed + (rows_weigh input.rows + blocks_add (blocks_of input.lanes) tables) ≤ loaded.shared.size.records → CanFinish input alone done
  can_finish room = record {
    blocks = each_rest MayFinish records added run.runs.taken done run.runs.are_of_lanes
        (All-permutation (λ (lane : Lane). All MayFinish lane.blocks) (numbered 1 input.lanes) run.runs.taken run.runs.each_once (each_numbered MayFinish 1 input.lanes may));
    records = record {
      tables = after.after;
      most = rows_weigh input.rows + blocks_add ran.blocks tables;
      leaves = leaves_at;
      room = room_at room;
    };
    few = let all : length ran.blocks + how_many_remain done ≡ length (blocks_of input.lanes) = all_blocks (λ (blocks : List Block). length blocks) length_sums in omega arith;
  }

pub runs_can_finish : AddsAfter → RunsCanFinish
runs_can_finish adds_after = can_finish adds_after
