use Rattle.std.proofs.Common.{◌≡◌, List, ◌∷◌, [], ap, sym, ◌∙◌, subst, rules}
use Rattle.std.specs.List.{AllByRecursion}
use Rattle.std.specs.Vec.Iter.{into_iter_items}
use Rattle.lane_queue.specs.declared.lane.Lane.{Lane}
use Rattle.lane_queue.specs.View.{known}
use Rattle.lane_queue.specs.Passes.{Taker}
use Rattle.lane_queue.specs.Gathering.{Gathering}
use Rattle.lane_queue.proofs.EachOnceKept.{merges, learns_all}
use Rattle.lane_queue.proofs.PassLists.{first_gathering, next_gathering, all_gathered, whole_share, first_lanes, none_left}
use Rattle.lane_queue.proofs.queue.LaneQueue.close.Goals as goal

pub loop-other-init : goal.loop-other-init
loop-other-init g c =
    let seen = c.first.view_is in
    let passes_are : c.args.passes.items ≡ c.in-Some.first ∷ into_iter_items c.into_iter-other-iterator.result =
    sym c.into_iter-rest.ensures.rest ∙ c.in-Some.ensures.items ∙ ap (λ it. c.in-Some.first ∷ into_iter_items it) (sym c.into_iter-other-iterator.ensures.into_iter_gives) in
    let k = first_gathering c.args.self _ _ c.in-Some.first _ (known c.first.inside.inner) passes_are c.requires.all c.requires.ended seen c.first.invariant.2 in
    let each : AllByRecursion (λ x. x.queue ≡ c.args.self) (c.in-Some.first ∷ into_iter_items c.into_iter-other-iterator.result) =
    subst (AllByRecursion (λ x. x.queue ≡ c.args.self)) passes_are c.requires.all.each in
    ((ap (λ (t : Taker). t.queue) seen ∙ each.0 ∙ sym c.self.view_is, c.first.invariant.0), k, search rules)

pub absorb-requires-clause-rule : goal.absorb-requires-clause-rule
absorb-requires-clause-rule g c = merges _ _ _ _ c.loop-other.invariant.1.some_share c.other.invariant.2

pub learn_as-requires-clause-rule : goal.learn_as-requires-clause-rule
learn_as-requires-clause-rule g c =
    let k = c.loop-other.invariant.1 in
    let none : into_iter_items c.loop-other.other-iterator ≡ [] = let m = c.in-None.ensures.steps.0 in let d = c.loop-other.other-iterator.rest in none_left d.items (c.loop-other.invariant.2 ∙ m) in
    let lanes = (known c.first.inside.inner).lanes in
    let whole = subst (λ (rest : List Taker). Gathering c.args.self c.args.passes.items rest lanes (known c.loop-other.inner)) none k in
    learns_all _ (known c.loop-other.inner) (whole_share c.args.self c.args.passes.items lanes (known c.loop-other.inner) whole) k.ended

pub loop-other-preserved : goal.loop-other-preserved
loop-other-preserved g c = (
  search rules,
  subst (Gathering _ _ (into_iter_items c.next-in-loop-other.new.self) _) (sym c.absorb.ensures.rule)
      (next_gathering _ _ _ _ _ c.in-Some-other.other _ _ (known c.other.inside.inner) c.in-Some-other.ensures.steps.0 c.other.view_is c.loop-other.invariant.1),
  search rules,
)

pub returns : goal.returns
returns g c lanes same =
    let k = c.loop-other.invariant.1 in
    let none : into_iter_items c.loop-other.other-iterator ≡ [] = let m = c.in-None.ensures.steps.0 in let d = c.loop-other.other-iterator.rest in none_left d.items (c.loop-other.invariant.2 ∙ m) in
    let passes_are : c.args.passes.items ≡ c.in-Some.first ∷ into_iter_items c.into_iter-other-iterator.result =
    sym c.into_iter-rest.ensures.rest ∙ c.in-Some.ensures.items ∙ ap (λ it. c.in-Some.first ∷ into_iter_items it) (sym c.into_iter-other-iterator.ensures.into_iter_gives) in
    let lanes_are : (known c.first.inside.inner).lanes ≡ lanes = ap (λ (t : Taker). t.lanes) c.first.view_is ∙ first_lanes _ _ _ lanes passes_are same in
    all_gathered c.args.self c.args.passes.items lanes (known c.loop-other.inner)
    (subst (λ (y : List Lane × List Taker). Gathering c.args.self c.args.passes.items y.1 y.0 (known c.loop-other.inner)) (λ i. (lanes_are i, none i)) k) c.learn_as.ensures.rule.1
