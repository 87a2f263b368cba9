use Rattle.std.proofs.Common.{◌≡◌, List, ◌++◌, map, length, sym, ap, ◌∙◌, rules, arith}
use Rattle.std.specs.Vec.Iter.{into_iter_items, into_iter_len}
use Rattle.lane_threads.specs.declared.workers.Worker.{Worker}
use Rattle.lane_runner.proofs.Answered.{not_ok}
use Rattle.lane_threads.proofs.Paired.{put_next, same_left, enough_left, put_all}
use Rattle.lane_runner.proofs.Rests.{items_remain}
use Rattle.lane_threads.proofs.all.workers_of.Goals as goal
use Rattle.lane_threads.proofs.all.workers_of.Goals.{in_default-via-in-Some+in_default, in_default-via-in_default}

pub loop-pass-init : goal.loop-pass-init
loop-pass-init g c =
    let start : into_iter_items c.into_iter-pass-iterator.result ≡ c.args.passes.items = c.into_iter-pass-iterator.ensures.into_iter_gives.0 in
    let passes = ap (λ xs. length xs) start in
    let clocks = ap (λ xs. length xs) c.into_iter-clocks.ensures.rest in
    record {
      same = passes ∙ c.requires.takers ∙ sym (ap (λ xs. length xs) c.into_iter-takers.ensures.rest);
      enough = omega (arith, passes, clocks, c.requires.clocks);
      passes = ap (λ (ws : List (Worker g.row.C.Denot)). map (λ w. w.pass) ws ++ into_iter_items c.into_iter-pass-iterator.result) c.new-workers.ensures.items;
      takers = ap (λ (ws : List (Worker g.row.C.Denot)). map (λ w. w.taker) ws ++ into_iter_items c.into_iter-takers.result) c.new-workers.ensures.items;
      remain = search rules;
      takers_remain = search rules;
      clocks_remain = search rules;
    }

pub loop-pass-preserved : goal.loop-pass-preserved
loop-pass-preserved g c =
    let i = c.loop-pass.invariant in
    let next = c.in-Some.ensures.steps.0 in
    let taken = c.in-Some-Some.ensures.items in
    record {
      same = same_left c.in-Some.pass c.in-Some-Some.taker (into_iter_items c.loop-pass.pass-iterator) (into_iter_items c.next.new.self) (into_iter_items c.loop-pass.takers) (into_iter_items c.next-in-loop-pass.new.self) i.same next taken;
      enough = enough_left c.in-Some.pass c.in-Some-Some.clock (into_iter_items c.loop-pass.pass-iterator) (into_iter_items c.next.new.self) (into_iter_items c.loop-pass.clocks) (into_iter_items c.next-in-loop-pass-2.new.self) i.enough next c.in-Some-Some.ensures'.items;
      passes = put_next (λ (w : Worker g.row.C.Denot). w.pass) c.loop-pass.workers.items c.push.new.self.items _ _ _ _ i.passes next c.in_ok-push.ensures.items;
      takers = put_next (λ (w : Worker g.row.C.Denot). w.taker) c.loop-pass.workers.items c.push.new.self.items _ _ _ _ i.takers taken c.in_ok-push.ensures.items;
      remain = items_remain c.in-Some.pass (into_iter_items c.loop-pass.pass-iterator) (into_iter_items c.next.new.self) (into_iter_len c.loop-pass.pass-iterator) (into_iter_len c.next.new.self) next c.in-Some.ensures.steps.1 i.remain;
      takers_remain = items_remain c.in-Some-Some.taker (into_iter_items c.loop-pass.takers) (into_iter_items c.next-in-loop-pass.new.self) (into_iter_len c.loop-pass.takers) (into_iter_len c.next-in-loop-pass.new.self) taken c.in-Some-Some.ensures.cases.1 i.takers_remain;
      clocks_remain = items_remain c.in-Some-Some.clock (into_iter_items c.loop-pass.clocks) (into_iter_items c.next-in-loop-pass-2.new.self) (into_iter_len c.loop-pass.clocks) (into_iter_len c.next-in-loop-pass-2.new.self) c.in-Some-Some.ensures'.items c.in-Some-Some.ensures'.cases.1 i.clocks_remain;
    }

pub returns-in_err-push-clause-passes : goal.returns-in_err-push-clause-passes
returns-in_err-push-clause-passes g c = not_ok c.from_residual.result _ c.from_residual.ensures.0

pub returns-in_err-push-clause-takers : goal.returns-in_err-push-clause-takers
returns-in_err-push-clause-takers g c = not_ok c.from_residual.result _ c.from_residual.ensures.0

pub returns-clause-passes : goal.returns-clause-passes
returns-clause-passes g c =
    let start : into_iter_items c.into_iter-pass-iterator.result ≡ c.args.passes.items = c.into_iter-pass-iterator.ensures.into_iter_gives.0 in
    let i = c.loop-pass.invariant in
    put_all (λ (w : Worker g.row.C.Denot). w.pass) c.loop-pass.workers.items (into_iter_items c.loop-pass.pass-iterator) c.args.passes.items (i.passes ∙ start) (i.remain ∙ c.in-None.ensures.steps.0)

pub returns-clause-takers : goal.returns-clause-takers
returns-clause-takers g c =
    let i = c.loop-pass.invariant in
    put_all (λ (w : Worker g.row.C.Denot). w.taker) c.loop-pass.workers.items (into_iter_items c.loop-pass.takers) c.args.takers.items (i.takers ∙ c.into_iter-takers.ensures.rest) (sym i.same ∙ i.remain ∙ c.in-None.ensures.steps.0)

-- each pass has a right to take lanes, and a clock
pub unreachable-requires : goal.unreachable-requires
unreachable-requires g c =
    let i = c.loop-pass.invariant in
    let next = ap (λ xs. length xs) c.in-Some.ensures.steps.0 in
    elim c.in_default.branch [
      | in_default-via-in-Some+in_default w ↦ (let none = (rw w.in_default.is-1 at c.next-in-loop-pass-2.ensures.cases).0 in omega (arith, next, i.enough, i.clocks_remain, none))
      | in_default-via-in_default w ↦ (let none = (rw w.in_default.is-0 at c.next-in-loop-pass.ensures.cases).0 in omega (arith, next, i.same, i.takers_remain, none))
    ]
