-- A run of all lanes behind a loading, and the blocks that remained behind it, are a whole run.
use Rattle.std.proofs.Common.{◌≡◌, ◌<◌, List, ◌++◌, append-nil, append_assoc, All, AllPairs, IsPermutation, sym, ap, subst, subst₂, ◌∙◌, arith, ⊎_elim, ℕ}
use Rattle.std.proofs.lemmas.List.Sorted.{IsPermutation-sym, IsPermutation-trans, IsPermutation-append_left, IsPermutation-append_right, All-permutation}
use Rattle.plain_data.specs.declared.entry.Entry.{Entry}
use Rattle.core_rule.specs.Views.{Among}
use Rattle.core_rule.proofs.Among.{Among-split}
use Rattle.histories.proofs.Lists.{AllPairs-IsPermutation}
use Rattle.replay_model.specs.declared.input.Block.{Block}
use Rattle.replay_model.specs.declared.input.Input.{Input}
use Rattle.replay_model.specs.declared.outcome.Outcome.{Outcome}
use Rattle.replay_model.specs.declared.outcome.Placed.{Placed}
use Rattle.lane_queue.specs.declared.lane.Lane.{Lane}
use Rattle.lane_queue.specs.Passes.{numbered}
use Rattle.txn_engine.specs.Alone.{AloneView}
use Rattle.txn_engine.specs.Pass.{EngineView, PassView}
use Rattle.lane_runner.specs.declared.done.LaneDone.{LaneDone}
use Rattle.lane_runner.specs.Adds.{IsNext}
use Rattle.lane_threads.specs.All.{all_added}
use Rattle.lane_runner.specs.Lanes.{AreEntries}
use Rattle.lane_runner.specs.Finishing.{Finishes, results_of, rests_of}
use Rattle.lane_runner.specs.Behind.{ComesBehind}
use Rattle.lane_threads.specs.Whole.{blocks_of, RunsWhole, HasRun, RunsBecomeWhole}
use Rattle.lane_runner.proofs.Run.{AreEntries-append}
use Rattle.lane_runner.proofs.Results.{entry_of_result, after_entries, keep_order}
use Rattle.lane_runner.proofs.Elements.{among_moved, pairs_append}
use Rattle.lane_threads.proofs.BecomingLists.{pieces_moved}
use Rattle.lane_threads.proofs.BecomingLanes.{Rises, IsLane, LanesDiffer, numbered_are_lanes, numbered_differ, blocks_in, blocks_numbered}
use Rattle.lane_threads.proofs.BecomingRan.{Follows, results_follow, LanesRan, lanes_ran, IsRest, each_rest, DonesDiffer, dones_differ, rests_rise, rests_flat, results_moved_by}
use Rattle.lane_threads.proofs.BecomingLog.{loaded_log, together_begins, last_of_loading, comes_behind, all_behind, loading_up_to}
use Rattle.lane_threads.proofs.BecomingOrder.{lanes_kept}

module _ (input : Input) (tries due : ℕ) (loaded : PassView) (alone : AloneView) (done : List LaneDone) (last : PassView) (results : List (Placed × Outcome))
    (run : HasRun input tries due loaded alone done) (finish : Finishes done alone.pass last results) where
  abbrev records : ℕ
  records = loaded.shared.size.records

  abbrev added : List Entry
  added = all_added run.runs.grown

  abbrev taken : List Lane
  taken = run.runs.taken

  abbrev more : List Entry
  more = finish.runs.entries

  abbrev remained : List Block
  remained = rests_of finish.order

  -- ---- the lanes

  are_lanes : All IsLane taken
  are_lanes = All-permutation IsLane (numbered 1 input.lanes) taken run.runs.each_once
      (numbered_are_lanes input.lanes 0 (λ i j blocks block lane_here here. let at = run.well_formed.lanes.places i j blocks block lane_here here in (omega (arith, at.0), at.1)))

  lanes_differ : AllPairs LanesDiffer taken
  lanes_differ = AllPairs-IsPermutation LanesDiffer (λ a b differ same. differ (sym same)) (numbered 1 input.lanes) taken run.runs.each_once (numbered_differ input.lanes 1)

  ran : LanesRan records added taken done
  ran = lanes_ran records added taken done run.runs.are_of_lanes are_lanes lanes_differ

  -- ---- what remained

  remained_entries : AreEntries records more remained finish.rests
  remained_entries =
      subst (λ (blocks : List Block). AreEntries records more blocks finish.rests) (sym (finish.runs.blocks_are ∙ append-nil finish.runs.done))
      (subst (λ (e : EngineView). AreEntries e.size.records more finish.runs.done finish.rests) run.runs.together.engine_is finish.runs.are_entries)

  remained_moved : IsPermutation (rests_of done) remained
  remained_moved = subst₂ (λ (xs ys : List Block). IsPermutation xs ys) (sym (rests_flat done)) (sym (rests_flat finish.order)) (pieces_moved (λ (d : LaneDone). d.rest) done finish.order finish.same)

  remained_rise : AllPairs Rises remained
  remained_rise = rests_rise finish.order
      (All-permutation IsRest done finish.order finish.same (each_rest records added taken done run.runs.are_of_lanes are_lanes))
      (AllPairs-IsPermutation DonesDiffer (λ a b differ same. differ (sym same)) done finish.order finish.same (dones_differ records added taken done run.runs.are_of_lanes lanes_differ))

  -- ---- each block once

  blocks_once : IsPermutation (blocks_of input.lanes) (ran.firsts ++ remained)
  blocks_once =
      IsPermutation-trans (blocks_of input.lanes) (blocks_in taken) (ran.firsts ++ remained)
      (subst (λ (blocks : List Block). IsPermutation blocks (blocks_in taken)) (blocks_numbered input.lanes 1) (pieces_moved (λ (lane : Lane). lane.blocks) (numbered 1 input.lanes) taken run.runs.each_once))
      (IsPermutation-trans (blocks_in taken) (ran.firsts ++ rests_of done) (ran.firsts ++ remained) ran.same (IsPermutation-append_right ran.firsts (rests_of done) remained remained_moved))

  -- ---- the results

  abbrev ordered : List (Placed × Outcome)
  ordered = ran.results ++ finish.rests

  ordered_entries : AreEntries records (added ++ more) (ran.firsts ++ remained) ordered
  ordered_entries = AreEntries-append records added ran.firsts ran.results more remained finish.rests ran.are_entries remained_entries

  results_in_order : IsPermutation (results_of done) (results_of finish.order)
  results_in_order = results_moved_by done finish.order finish.same

  results_moved : IsPermutation ran.results (results_of finish.order)
  results_moved = IsPermutation-trans ran.results (results_of done) (results_of finish.order) (IsPermutation-sym (results_of done) ran.results ran.same_results) results_in_order

  ordered_same : IsPermutation ordered results
  ordered_same = subst (IsPermutation ordered) (sym finish.all) (IsPermutation-append_left finish.rests ran.results (results_of finish.order) results_moved)

  -- what ran later follows what ran before
  later_follow : (a b : Placed × Outcome) → Among a ran.results → Among b finish.rests → Follows a b
  later_follow a b here there same =
      let h = entry_of_result records added ran.firsts ran.results a ran.are_entries here in
      let k = entry_of_result records more remained finish.rests b remained_entries there in
      let next : IsNext alone.pass k.entry = finish.runs.adds.each k.entry k.among in
      let rises : h.block.number < k.block.number =
      ran.rise h.block k.block h.of_lane (among_moved (rests_of done) remained k.block remained_moved k.of_lane) (sym h.is_result.place.lane ∙ same ∙ k.is_result.place.lane) in (
        omega (arith, rises, h.is_result.place.number, k.is_result.place.number),
        after_entries records h.block k.block a b h.entry k.entry h.is_result k.is_result (record {
          commits = λ first second. next.commit_log second h.entry (run.runs.in_log h.entry h.among) first;
          snapshots = λ first second. next.snapshot_log second h.entry (run.runs.in_log h.entry h.among) first;
        }),
      )

  ordered_follow : AllPairs Follows ordered
  ordered_follow =
      pairs_append Follows ran.results finish.rests ran.follow
      (results_follow records more remained finish.rests remained_entries remained_rise (keep_order records more remained finish.rests remained_entries finish.runs.adds.in_order))
      later_follow

  -- ---- the log

  log_is : last.log ≡ loaded.log ++ (added ++ more)
  log_is =
      finish.runs.adds.log
      ∙ ap (λ (log : List Entry). log ++ more) (run.runs.log_is ∙ loaded_log loaded run.runs.grown run.passes run.runs.passes_are run.shared.are_shares)
      ∙ append_assoc loaded.log added more

  behind : (entry : Entry) → Among entry (added ++ more) → ComesBehind (last_of_loading loaded) entry
  behind entry among = ⊎_elim
      (λ here. all_behind loaded run.runs.grown run.passes run.runs.passes_are run.shared.are_shares run.runs.each_grown entry here)
      (λ there. comes_behind loaded alone.pass entry (together_begins loaded alone.pass run.passes run.shared.are_shares run.runs.clock_from run.runs.met) (finish.runs.adds.each entry there))
      (Among-split entry added more among)

  becomes_whole : RunsWhole records (last_of_loading loaded) last.log input results
  becomes_whole = record {
    loading = loaded.log;
    loads = run.loads.tables;
    up_to = loading_up_to loaded run.shared.above;
    entries = added ++ more;
    log_is = log_is;
    behind = behind;
    blocks = ran.firsts ++ remained;
    each_once = blocks_once;
    ordered = ordered;
    are_entries = ordered_entries;
    same = ordered_same;
    lanes_kept = lanes_kept ordered results ordered_same ordered_follow;
  }

pub runs_become_whole : RunsBecomeWhole
runs_become_whole = becomes_whole
