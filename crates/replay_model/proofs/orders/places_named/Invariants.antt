use Rattle.std.proofs.Common.{◌≡◌, ℕ, take}
use Rattle.std.specs.List.{list_any}
use Rattle.std.specs.BTreeSet.{contains}
use Rattle.replay_model.specs.TableMap.{pair_cmp}
use Rattle.replay_model.specs.Order.{at_place}
use Rattle.replay_model.proofs.orders.places_named.Given as goal

abbrev pub invariant-loop-placed : goal.invariant-loop-placed
invariant-loop-placed l =
    (lane number : ℕ) → contains pair_cmp l.places (lane, number) ≡ list_any (at_place lane number) (take l.placed-index l.order)
