use Rattle.std.proofs.Common.{◌≡◌, ℕ, ◌≤◌, List, [], length, sym, ap, subst, ◌∙◌, rules, All}
use Rattle.std.proofs.lemmas.List.Sorted.{answers_always}
use Rattle.replay_model.specs.declared.input.Block.{Block}
use Rattle.txn_engine.specs.Pass.{EngineView, engine_of, PassView}
use Rattle.plain_data.specs.declared.entry.Entry.{Entry}
use Rattle.histories.specs.History.{Lawful}
use Rattle.history_replay.specs.Results.{StandsForSome}
use Rattle.lane_runner.specs.Rows.{stands}
use Rattle.lane_runner.specs.declared.done.LaneDone.{LaneDone}
use Rattle.lane_runner.specs.Adds.{Adds}
use Rattle.lane_runner.specs.Finishing.{MayFinish}
use Rattle.lane_runner.specs.Weighs.{blocks_add}
use Rattle.lane_runner.specs.Holding.{HasRecords}
use Rattle.lane_runner.specs.Room.{HasRoom, clock_after}
use Rattle.lane_runner.proofs.Held.{roomy_once, collected_alone}
use Rattle.lane_runner.proofs.Settled.{Holds-settled, Adds-settled, clock_settled, may_order, count_order, room_order, Finishes-whole}
use Rattle.lane_runner.proofs.finishing.finish_settled.Goals as goal
use Rattle.lane_runner.proofs.finishing.finish_settled.Goals.{After-tell}

adds : (c : After-tell) → Adds c.args.alone.now.pass c.tell.new.self.pass []
adds c =
    let p = c.args.alone.now.pass in
    let here = c.collect.new.self.pass in
    let d = c.rescan.new.self.pass in
    let t = c.tell.new.self.pass in
    Adds-settled p here d t here.met t.met here.bounds d.spare (collected_alone p here c.collect.ensures.collects.after (c.collect.ensures.collects.alone c.collect.ensures.holds)) c.rescan.ensures.rescans.after c.tell.ensures.value c.requires.pass.idle
    c.collect.ensures.collects.met (c.collect.ensures.collects.seen c.collect.ensures.holds) c.tell.ensures.not_back

-- the log that was told to be lawful is that of before
lawful_before : (c : After-tell) → Lawful (StandsForSome stands) c.args.alone.now.pass.shared.size.records c.args.alone.now.pass.log
lawful_before c =
    let p = c.args.alone.now.pass in
    let d = c.rescan.new.self.pass in
    let engine : engine_of d ≡ engine_of p = ap engine_of c.rescan.ensures.rescans.after ∙ ap engine_of c.collect.ensures.collects.after in
    let log : d.log ≡ p.log = ap (λ (x : PassView). x.log) c.rescan.ensures.rescans.after ∙ ap (λ (x : PassView). x.log) c.collect.ensures.collects.after in
    subst (λ (es : List Entry). Lawful (StandsForSome stands) p.shared.size.records es) log (subst (λ (e : EngineView). Lawful (StandsForSome stands) e.size.records d.log) engine (c.tell.ensures.lawful c.tell.ensures.holds))

same_clock : (c : After-tell) → c.tell.new.self.pass.clock ≡ c.args.alone.now.pass.clock
same_clock c =
    let p = c.args.alone.now.pass in
    let here = c.collect.new.self.pass in
    let d = c.rescan.new.self.pass in
    let t = c.tell.new.self.pass in
    clock_settled p here d t here.met t.met here.bounds d.spare (collected_alone p here c.collect.ensures.collects.after (c.collect.ensures.collects.alone c.collect.ensures.holds)) c.rescan.ensures.rescans.after c.tell.ensures.value c.requires.pass.idle

pub run_rests-requires-clause-pass : goal.run_rests-requires-clause-pass
run_rests-requires-clause-pass c =
    let told = adds (goal.at.run_rests-requires-clause-pass c).After-tell in
    record { same = told.engine ∙ c.requires.pass.same; idle = told.idle; fixed = c.requires.pass.fixed }

pub run_rests-requires-clause-holds : goal.run_rests-requires-clause-holds
run_rests-requires-clause-holds c =
    let p = c.args.alone.now.pass in
    let here = c.collect.new.self.pass in
    let d = c.rescan.new.self.pass in
    let t = c.tell.new.self.pass in
    Holds-settled p here d t here.met t.met here.bounds d.spare (collected_alone p here c.collect.ensures.collects.after (c.collect.ensures.collects.alone c.collect.ensures.holds)) c.rescan.ensures.rescans.after c.tell.ensures.value c.requires.pass.idle
    (c.tell.ensures.lawful c.tell.ensures.holds) c.collect.ensures.collects.above c.rescan.ensures.rescans.held (c.collect.ensures.collects.roomy c.collect.ensures.holds (roomy_once p c.requires.roomy))

pub run_rests-requires-clause-blocks : goal.run_rests-requires-clause-blocks
run_rests-requires-clause-blocks c =
    subst (λ (xs : List Block). All MayFinish xs) (sym c.in_ok-results.ensures.rests) (may_order c.args.done.items c.sort_unstable_by_key.new.self.items c.sort_unstable_by_key.ensures.permutation c.requires.blocks)

pub run_rests-requires-clause-records : goal.run_rests-requires-clause-records
run_rests-requires-clause-records c =
    subst (λ (xs : List Block). HasRecords c.tell.new.self.pass (blocks_add xs)) (sym c.in_ok-results.ensures.rests)
    (room_order c.args.alone.now.pass c.tell.new.self.pass c.args.done.items c.sort_unstable_by_key.new.self.items (adds (goal.at.run_rests-requires-clause-records c).After-tell) c.sort_unstable_by_key.ensures.permutation (c.requires.records (lawful_before (goal.at.run_rests-requires-clause-records c).After-tell)))

pub run_rests-requires-clause-room : goal.run_rests-requires-clause-room
run_rests-requires-clause-room c =
    let count = ap (λ (xs : List Block). length xs) c.in_ok-results.ensures.rests ∙ count_order c.args.done.items c.sort_unstable_by_key.new.self.items c.sort_unstable_by_key.ensures.permutation in
    let many : HasRoom c.args.alone.now.pass.clock (length c.in_ok-results.rests.items) = subst (λ (n : ℕ). HasRoom c.args.alone.now.pass.clock n) (sym count) c.requires.room in
    subst (λ (n : ℕ). HasRoom n (length c.in_ok-results.rests.items)) (sym (same_clock (goal.at.run_rests-requires-clause-room c).After-tell)) many

pub returns-clause-finishes : goal.returns-clause-finishes
returns-clause-finishes c =
    Finishes-whole c.args.done.items c.sort_unstable_by_key.new.self.items c.args.alone.now.pass c.tell.new.self.pass _ c.in_ok-results.rests.items c.in_ok-results.results.items _ c.sort_unstable_by_key.ensures.permutation
    (c.sort_unstable_by_key.ensures.sorted (λ (l : LaneDone). l.lane) (answers_always _ (λ a r. r ≡ a.0.now.lane) _ (λ f a r g k. search rules)))
    (adds (goal.at.returns-clause-finishes c).After-tell) c.in_ok-results.ensures.rests c.in_ok-results.ensures.results c.in_ok-run_rests.ensures.ran

pub returns-clause-clock : goal.returns-clause-clock
returns-clause-clock c =
    let count = ap (λ (xs : List Block). length xs) c.in_ok-results.ensures.rests ∙ count_order c.args.done.items c.sort_unstable_by_key.new.self.items c.sort_unstable_by_key.ensures.permutation in
    let from : c.run_rests.new.alone.pass.clock ≤ clock_after c.args.alone.now.pass.clock (length c.in_ok-results.rests.items) =
    subst (λ (n : ℕ). c.run_rests.new.alone.pass.clock ≤ clock_after n (length c.in_ok-results.rests.items)) (same_clock (goal.at.returns-clause-clock c).After-tell) c.in_ok-run_rests.ensures.clock in
    subst (λ (n : ℕ). c.run_rests.new.alone.pass.clock ≤ clock_after c.args.alone.now.pass.clock n) count from
