use Rattle.std.proofs.Common.{◌≡◌, List, [], refl, sym, ◌∙◌, subst, rules}
use Rattle.std.specs.Vec.Iter.{into_iter_items, into_iter_len}
use Rattle.lane_threads.specs.declared.workers.Left.{Left}
use Rattle.lane_threads.specs.Gathers.{GoesOnByEach}
use Rattle.lane_runner.proofs.Answered.{not_ok}
use Rattle.lane_runner.proofs.Rests.{items_remain}
use Rattle.lane_threads.proofs.LaneLists.{no_items}
use Rattle.lane_threads.proofs.gathering.gather_others.Goals as goal

pub loop-one-init : goal.loop-one-init
loop-one-init c = record { goes = λ all more. more; remain = search rules }

pub loop-one-preserved : goal.loop-one-preserved
loop-one-preserved c =
    let i = c.loop-one.invariant in
    let next = c.in-Some.ensures.steps.0 in
    record {
      goes = λ all more. i.goes all (subst (λ (left : List Left). GoesOnByEach c.loop-one.gathered left all) (sym next) (c.in_ok-gathered.gathered, c.in_ok-gathered.ensures, more));
      remain = items_remain c.in-Some.one (into_iter_items c.loop-one.one-iterator) (into_iter_items c.next.new.self) (into_iter_len c.loop-one.one-iterator) (into_iter_len c.next.new.self) next c.in-Some.ensures.steps.1 i.remain;
    }

pub returns-in_err-gathered : goal.returns-in_err-gathered
returns-in_err-gathered c = not_ok c.from_residual.result _ c.from_residual.ensures.0

pub returns : goal.returns
returns c =
    let i = c.loop-one.invariant in
    let start : into_iter_items c.into_iter-one-iterator.result ≡ c.args.left.items = c.into_iter-one-iterator.ensures.into_iter_gives.0 in
    let none : into_iter_items c.loop-one.one-iterator ≡ [] = no_items (into_iter_items c.loop-one.one-iterator) (i.remain ∙ c.in-None.ensures.steps.0) in
    subst (λ (left : List Left). GoesOnByEach c.args.gathered left c.loop-one.gathered) start
    (i.goes c.loop-one.gathered (subst (λ (left : List Left). GoesOnByEach c.loop-one.gathered left c.loop-one.gathered) (sym none) refl))
