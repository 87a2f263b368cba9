-- Lists of lanes and of passes.
use Rattle.std.proofs.Common.{◌≡◌, ℕ, suc, ◌+◌, ◌<◌, append_assoc, List, [], ◌∷◌, ◌++◌, length, refl, sym, subst, ◌∙◌, ap, arith}
use Rattle.std.specs.List.{sum_by, AllByRecursion}
use Rattle.std.specs.List.Sorted.{IsPermutation}
use Rattle.std.proofs.lemmas.List.{append-nil}
use Rattle.std.proofs.lemmas.List.Sums.{sum_by-cons}
use Rattle.atomic_table.specs.Seated.{TableId}
use Rattle.replay_model.specs.declared.input.Block.{Block}
use Rattle.lane_queue.specs.declared.lane.Lane.{Lane}
use Rattle.lane_queue.specs.View.{View, both_views}
use Rattle.lane_queue.specs.Gathering.{Gathering}
use Rattle.lane_queue.specs.Passes.{Taker, numbered, taken_by, HasEnded, AreAll, AreOf}

-- a pass of this queue as callers see it, where this is known to it
abbrev pub taker : TableId → View → Taker
taker id v = record { queue = id; lanes = v.lanes; share = v.share; took = v.took; ended = v.ended }

abbrev shares : List Taker → ℕ
shares passes = sum_by (λ (p : Taker). p.share) passes

pub length-numbered : (n : ℕ) (lanes : List (List Block)) → length (numbered n lanes) ≡ length lanes
length-numbered n [] = refl
length-numbered n (x ∷ lanes) = let e = length-numbered (suc n) lanes in omega (arith, e)

-- the first pass is opened
pub first_gathering : (queue : TableId) (passes rest : List Taker) (p : Taker) (id : TableId) (v : View) → passes ≡ p ∷ rest
    → AreAll queue passes → AllByRecursion HasEnded passes → taker id v ≡ p → 0 < v.share → Gathering queue passes rest v.lanes v
first_gathering queue passes rest p id v passes_are all ended seen some_share =
    let each : AllByRecursion (λ x. x.queue ≡ queue) (p ∷ rest) = subst (AllByRecursion (λ x. x.queue ≡ queue)) passes_are all.each in
    let done : AllByRecursion HasEnded (p ∷ rest) = subst (AllByRecursion HasEnded) passes_are ended in
    let sum : shares (p ∷ rest) ≡ 64 = ap shares (sym passes_are) ∙ all.whole in
    let share_is : v.share ≡ p.share = ap (λ (t : Taker). t.share) seen in
    record {
      share = omega (arith, sum, share_is, sum_by-cons (λ (x : Taker). x.share) p rest);
      some_share = some_share;
      ended = ap (λ (t : Taker). t.ended) seen ∙ done.0;
      took = ap (λ (t : Taker). t.took ++ taken_by rest) seen ∙ ap taken_by (sym passes_are);
      others = each.1;
      lanes_are = refl;
    }

-- one more pass is taken in
pub next_gathering : (queue : TableId) (passes rest rest' : List Taker) (lanes : List Lane) (p : Taker) (id : TableId) (v u : View) → rest ≡ p ∷ rest' → taker id u ≡ p
    → Gathering queue passes rest lanes v → Gathering queue passes rest' lanes (both_views v u)
next_gathering queue passes rest rest' lanes p id v u rest_is seen k =
    let each : AllByRecursion (λ x. x.queue ≡ queue) (p ∷ rest') = subst (AllByRecursion (λ x. x.queue ≡ queue)) rest_is k.others in
    let sum : v.share + shares (p ∷ rest') ≡ 64 = ap (λ l. v.share + shares l) (sym rest_is) ∙ k.share in
    let share_is : u.share ≡ p.share = ap (λ (t : Taker). t.share) seen in
    let took_is : u.took ≡ p.took = ap (λ (t : Taker). t.took) seen in
    let some_share = k.some_share in
    record {
      share = omega (arith, sum, share_is, sum_by-cons (λ (x : Taker). x.share) p rest');
      some_share = omega (arith, some_share);
      ended = k.ended;
      took = append_assoc v.took u.took (taken_by rest') ∙ ap (λ l. v.took ++ (l ++ taken_by rest')) took_is ∙ ap (λ l. v.took ++ taken_by l) (sym rest_is) ∙ k.took;
      others = each.1;
      lanes_are = k.lanes_are;
    }

-- all passes are taken in
pub all_gathered : (queue : TableId) (passes : List Taker) (lanes : List Lane) (v : View) → Gathering queue passes [] lanes v → IsPermutation v.lanes v.took → IsPermutation lanes (taken_by passes)
all_gathered queue passes lanes v k each_once =
    subst (λ (y : List Lane × List Lane). IsPermutation y.0 y.1) (λ i. (k.lanes_are i, (sym (append-nil v.took) ∙ k.took) i)) each_once

pub whole_share : (queue : TableId) (passes : List Taker) (lanes : List Lane) (v : View) → Gathering queue passes [] lanes v → v.share ≡ 64
whole_share queue passes lanes v k = let e = k.share in let z : shares [] ≡ 0 = refl in omega (arith, e, z)

pub first_lanes : (passes rest : List Taker) (p : Taker) (lanes : List Lane) → passes ≡ p ∷ rest → AreOf lanes passes → p.lanes ≡ lanes
first_lanes passes rest p lanes passes_are same = let each : AreOf lanes (p ∷ rest) = subst (AreOf lanes) passes_are same in each.0

pub none_left : {X : Type 0} (xs : List X) → length xs ≡ 0 → xs ≡ []
none_left [] e = refl
none_left (x ∷ xs) e = absurd (omega (arith, e))
