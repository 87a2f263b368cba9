-- How far the clocks of a run may come.
use Rattle.std.proofs.Common.{◌≡◌, ℕ, ◌+◌, ◌*◌, ◌≤◌, List, [], ◌∷◌, length, sym, ap, subst, ◌∙◌, arith, length-append}
use Rattle.std.specs.List.{AllByRecursion}
use Rattle.std.proofs.lemmas.List.Concat.{flat_map-cons}
use Rattle.std.proofs.lemmas.List.Sums.{sum_by-cons}
use Rattle.std.proofs.Math.Nat.{mul-le-mul_left}
use Rattle.replay_model.specs.declared.input.Block.{Block}
use Rattle.txn_engine.specs.Pass.{PassView}
use Rattle.lane_threads.specs.All.{all_draws, latest_clock}
use Rattle.lane_runner.specs.Lanes.{lane_draws}
use Rattle.lane_runner.specs.Room.{HasRoom}
use Rattle.lane_threads.specs.Whole.{blocks_of}

-- each block of a lane has at most 1,002 draws where there are 1,000 tries
lane_at_most : (n tries : ℕ) → tries ≤ 1000 → n * (tries + 2) ≤ n * 1002
lane_at_most n tries few = mul-le-mul_left n (omega arith)

pub draws_at_most : (lanes : List (List Block)) (tries : ℕ) → tries ≤ 1000 → all_draws lanes tries ≤ length (blocks_of lanes) * 1002
draws_at_most [] tries few = omega arith
draws_at_most (blocks ∷ lanes) tries few =
    let first = lane_at_most (length blocks) tries few in
    let rest = draws_at_most lanes tries few in
    let sum = sum_by-cons (λ (bs : List Block). lane_draws bs tries) blocks lanes in
    let joined = ap length (flat_map-cons (λ (bs : List Block). bs) blocks lanes) ∙ length-append blocks (blocks_of lanes) in
    omega arith

-- passes that have this clock
pub each_has_room : (passes : List PassView) (clock draws : ℕ) → AllByRecursion (λ (p : PassView). p.clock ≡ clock) passes → HasRoom clock draws → AllByRecursion (λ (p : PassView). HasRoom p.clock draws) passes
each_has_room [] clock draws each room = tt
each_has_room (p ∷ passes) clock draws each room = (subst (λ (c : ℕ). HasRoom c draws) (sym each.0) room, each_has_room passes clock draws each.1 room)

pub latest_at_most : (passes : List PassView) (clock : ℕ) → AllByRecursion (λ (p : PassView). p.clock ≡ clock) passes → latest_clock passes ≤ clock
latest_at_most [] clock each = omega arith
latest_at_most (p ∷ passes) clock each = let first = each.0 in let rest = latest_at_most passes clock each.1 in omega arith
