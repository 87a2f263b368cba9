-- What the seat that is alone holds once it has collected, has looked for the absent records and has told that its log is lawful.
use Rattle.std.proofs.Common.{◌≡◌, ℕ, ◌<◌, ◌≤◌, true, List, [], ◌++◌, append-nil, sym, ap, subst, ◌∙◌, arith, All, length}
use Rattle.std.specs.List.Sorted.{IsPermutation}
use Rattle.std.proofs.lemmas.List.Sorted.{All-permutation, sum_by-IsPermutation}
use Rattle.plain_data.specs.declared.entry.Entry.{Entry}
use Rattle.histories.specs.History.{Lawful}
use Rattle.history_replay.specs.Results.{StandsForSome}
use Rattle.replay_model.specs.declared.input.Block.{Block}
use Rattle.stored_tables.specs.Weight.{weight}
use Rattle.txn_engine.specs.Collecting.{collected}
use Rattle.txn_engine.specs.Leaves.{HoldsAbsent}
use Rattle.txn_engine.specs.Lists.{IsRoomy}
use Rattle.txn_engine.specs.Pass.{EngineView, PassView, IsIdle, engine_of, desk_of, observing, removing, with_met}
use Rattle.seat_post.specs.Logs.{IsAbove}
use Rattle.txn_engine.specs.Rescan.{rescanned}
use Rattle.seat_post.specs.Seats.{Bounds}
use Rattle.lane_runner.specs.declared.done.LaneDone.{LaneDone}
use Rattle.lane_runner.specs.Rows.{stands}
use Rattle.lane_runner.specs.Adds.{Adds}
use Rattle.lane_runner.specs.Lanes.{AreEntries, Runs}
use Rattle.lane_runner.proofs.Adding.{Adds-no_entry, Adds-trans}
use Rattle.replay_model.specs.declared.outcome.Outcome.{Outcome}
use Rattle.replay_model.specs.declared.outcome.Placed.{Placed}
use Rattle.std.specs.List.Sorted.{IsSorted}
use Rattle.std.specs.Ordering.{nat_cmp}
use Rattle.lane_runner.specs.Holding.{Holds, LeavesWithin, HasRecords, IsBehind}
use Rattle.lane_runner.specs.Finishing.{MayFinish, MayFinishAll, rests_add, rests_of, results_of, how_many_remain, RunsRests, Finishes}
use Rattle.lane_runner.specs.Weighs.{blocks_add}
use Rattle.lane_runner.proofs.Held.{absent_same, roomy_same}
use Rattle.lane_runner.proofs.Rests.{rests_may, rests_add_is, rests_count}
use Rattle.lane_runner.proofs.Within.{within_at}

module _ (p c d t : PassView) (met met' : ℕ) (known : Bounds) (spare : List ℕ) (first : c ≡ removing (observing (collected p met known []) c.observed) c.gone) (second : d ≡ observing (rescanned c spare) d.observed) (third : t ≡ observing (with_met d met') t.observed) (idle : IsIdle p) where
  whole : t ≡ removing (observing (with_met (rescanned (collected p met known []) spare) met') t.observed) c.gone
  whole = third ∙ ap (λ (x : PassView). observing (with_met x met') t.observed) (second ∙ ap (λ (x : PassView). observing (rescanned x spare) d.observed) first)

  above_settled : IsAbove p.log c.published → IsAbove p.log d.published
  above_settled above e among commit =
      let below : e.stamp < c.published = above e among commit in
      let later : c.published ≤ d.published = let is = ap (λ (x : PassView). x.published) second in omega (arith, is) in
      omega arith

  pub Holds-settled : Lawful (StandsForSome stands) d.shared.size.records d.log → IsAbove p.log c.published → HoldsAbsent d → IsRoomy c → Holds t
  Holds-settled lawful above absent roomy = record {
    idle = ap desk_of whole ∙ idle;
    none_queued = ap (λ (x : PassView). x.queue) whole;
    lawful = subst (λ (x : PassView). Lawful (StandsForSome stands) x.shared.size.records x.log) (sym third) lawful;
    above = subst (λ (log : List Entry). IsAbove log t.published) (sym (ap (λ (x : PassView). x.log) whole)) (subst (λ (n : ℕ). IsAbove p.log n) (sym (ap (λ (x : PassView). x.published) third)) (above_settled above));
    absent = absent_same d t (ap engine_of third) (ap (λ (x : PassView). x.given) third) (ap (λ (x : PassView). x.spare) third) (ap (λ (x : PassView). x.log) third) absent;
    roomy = roomy_same c t (ap engine_of third ∙ ap engine_of second) (ap (λ (x : PassView). x.bounds) third ∙ ap (λ (x : PassView). x.bounds) second) roomy;
  }

  pub clock_settled : t.clock ≡ p.clock
  clock_settled = ap (λ (x : PassView). x.clock) whole

  pub Adds-settled : p.met ≤ c.met → c.met ≡ c.published → d.met ≤ met' → Adds p t []
  Adds-settled met_more met_is met_most =
      let last_met : t.met ≡ met' = ap (λ (x : PassView). x.met) whole in
      let later : c.published ≤ d.met = let is = ap (λ (x : PassView). x.met) second in omega (arith, is) in
      let same_refusals : t.refusals ≡ p.refusals = ap (λ (x : PassView). x.refusals) whole in
      Adds-no_entry p t (ap engine_of whole) (ap (λ (x : PassView). x.seat) whole) (ap (λ (x : PassView). x.others) whole) (ap desk_of whole ∙ idle) (ap (λ (x : PassView). x.log) whole)
      (let same = clock_settled in omega (arith, same)) (omega arith) (omega arith)

-- ---- the lanes in their order

pub may_order : (done order : List LaneDone) → IsPermutation done order → MayFinishAll done → All MayFinish (rests_of order)
may_order done order same may = rests_may order (All-permutation (λ (l : LaneDone). All MayFinish l.rest) done order same may)

pub count_order : (done order : List LaneDone) → IsPermutation done order → length (rests_of order) ≡ how_many_remain done
count_order done order same = rests_count order ∙ sum_by-IsPermutation (λ (l : LaneDone). length l.rest) done order same

pub room_order : (p t : PassView) (done order : List LaneDone) → Adds p t [] → IsPermutation done order → HasRecords p (rests_add done) → HasRecords t (blocks_add (rests_of order))
room_order p t done order adds same has = record {
  tables = has.tables;
  most = has.most;
  leaves = within_at p t [] has.tables (λ places. weight places ≤ has.most) adds (subst (λ (log : List Entry). LeavesWithin p.shared.size.records log has.tables has.most) (sym (append-nil p.log)) has.leaves);
  room =
      let whole : blocks_add (rests_of order) has.tables ≡ rests_add done has.tables = rests_add_is order has.tables ∙ sum_by-IsPermutation (λ (l : LaneDone). blocks_add l.rest has.tables) done order same in
      let fixed : t.fixed ≡ p.fixed = ap (λ (e : EngineView). e.fixed) adds.engine in
      let records : t.shared.size.records ≡ p.shared.size.records = ap (λ (e : EngineView). e.size.records) adds.engine in
      omega (arith, has.room, whole, fixed, records);
}

-- ---- all of it

Runs-behind : (p t q : PassView) (blocks : List Block) (results : List (Placed × Outcome)) → Adds p t [] → Runs blocks results [] t q → Runs blocks results [] p q
Runs-behind p t q blocks results adds runs = record {
  done = runs.done;
  blocks_are = runs.blocks_are;
  entries = runs.entries;
  are_entries = subst (λ (e : EngineView). AreEntries e.size.records runs.entries runs.done results) adds.engine runs.are_entries;
  adds = Adds-trans p t q [] runs.entries adds runs.adds;
}

pub Finishes-whole : (done order : List LaneDone) (p t q : PassView) (blocks : List Block) (earlier results : List (Placed × Outcome)) → IsPermutation done order → IsSorted (λ (a b : LaneDone). nat_cmp a.lane b.lane) order → Adds p t []
    → blocks ≡ rests_of order → earlier ≡ results_of order → RunsRests blocks earlier t results q → Finishes done p q results
Finishes-whole done order p t q blocks earlier results same sorted adds are_rests are_results ran = record {
  holds = ran.holds;
  order = order;
  same = same;
  sorted = sorted;
  rests = ran.rests;
  all = ran.all ∙ ap (λ (rs : List (Placed × Outcome)). rs ++ ran.rests) are_results;
  runs = subst (λ (bs : List Block). Runs bs ran.rests [] p q) are_rests (Runs-behind p t q blocks ran.rests adds ran.runs);
  behind = subst (λ (log : List Entry). All (λ (result : Placed × Outcome). result.0.snap ≡ true → IsBehind log result.0.stamp) ran.rests) (adds.log ∙ append-nil p.log) ran.behind;
}
