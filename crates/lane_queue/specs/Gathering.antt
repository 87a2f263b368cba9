-- How far the passes were gathered into one.
use Rattle.std.specs.Prelude.{◌≡◌, ◌+◌, ◌<◌, true, List, ◌++◌}
use Rattle.std.specs.List.{sum_by, AllByRecursion}
use Rattle.atomic_table.specs.Seated.{TableId}
use Rattle.lane_queue.specs.declared.lane.Lane.{Lane}
use Rattle.lane_queue.specs.View.{View}
use Rattle.lane_queue.specs.Passes.{Taker, taken_by}

-- of all these passes the ones in `rest` are still to be taken in, and v is the view of the pass that has taken in the others
pub record Gathering (queue : TableId) (passes rest : List Taker) (lanes : List Lane) (v : View) : Type 0 where
  pub share : v.share + sum_by (λ (p : Taker). p.share) rest ≡ 64
  pub some_share : 0 < v.share
  pub ended : v.ended ≡ true
  pub took : v.took ++ taken_by rest ≡ taken_by passes
  pub others : AllByRecursion (λ p. p.queue ≡ queue) rest
  pub lanes_are : v.lanes ≡ lanes
