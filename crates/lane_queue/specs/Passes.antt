-- What callers see of the passes of a queue of lanes. Of the queue itself they see which one it is.
use Rattle.std.specs.Prelude.{◌≡◌, ℕ, Bool, true, false, List, [], ◌∷◌, ◌++◌, suc}
use Rattle.std.specs.List.{sum_by, AllByRecursion}
use Rattle.atomic_table.specs.Seated.{TableId}
use Rattle.replay_model.specs.declared.input.Block.{Block}
use Rattle.lane_queue.specs.declared.lane.Lane.{Lane}

-- a pass
pub record Taker : Type 0 where
  -- the queue that it is of, and the lanes that this queue was filled with
  pub queue : TableId
  pub lanes : List Lane
  -- how many of the queue's 64 shares it has: all passes together have 64
  pub share : ℕ
  -- the lanes that it took, in the order in which it took them
  pub took : List Lane
  -- it has answered None: it has met the end of the queue, behind all lanes
  pub ended : Bool

-- the lanes with their numbers, the first of which is n
abbrev pub numbered : ℕ → List (List Block) → List Lane
numbered n [] = []
numbered n (blocks ∷ lanes) = record { number = n; blocks = blocks } ∷ numbered (suc n) lanes

-- the lanes that these passes took, one pass after the other
abbrev pub taken_by : List Taker → List Lane
taken_by [] = []
taken_by (p ∷ ps) = p.took ++ taken_by ps

-- a pass that has taken nothing yet
pub record IsFresh (p : Taker) : Type 0 where
  pub took_none : p.took ≡ []
  pub goes_on : p.ended ≡ false

abbrev pub HasEnded : Taker → Type 0
HasEnded p = p.ended ≡ true

-- these passes are of a queue that was filled with these lanes
abbrev pub AreOf : List Lane → List Taker → Type 0
AreOf lanes passes = AllByRecursion (λ p. p.lanes ≡ lanes) passes

-- these are all passes of the queue
pub record AreAll (queue : TableId) (passes : List Taker) : Type 0 where
  pub each : AllByRecursion (λ p. p.queue ≡ queue) passes
  pub whole : sum_by (λ p. p.share) passes ≡ 64

-- the pass of `before` after a call
pub record IsSamePass (before after' : Taker) : Type 0 where
  pub same_queue : after'.queue ≡ before.queue
  pub same_lanes : after'.lanes ≡ before.lanes
  pub same_share : after'.share ≡ before.share
