-- The rule of the queue: each lane was taken once or is in the queue, and behind the lanes stand the ends.
use Rattle.std.specs.Prelude.{◌≡◌, ℕ, ◌<◌, true, List, [], ◌∷◌, ◌++◌, replicate}
use Rattle.std.specs.List.{sum_by}
use Rattle.std.specs.List.Sorted.{IsPermutation}
use mathlib.Core.Option.{some}
use lib.ListN.{get_elem?}
use Rattle.lane_queue.specs.declared.lane.Lane.{Lane}
use Rattle.lane_queue.specs.declared.lane.Item.{Item}
use Rattle.lane_queue.specs.declared.lane.Item.TheVariants.{Next, End}
use Rattle.lane_queue.specs.View.{View, spent_view}
use Rattle.lane_queue.specs.Subsequences.{IsSubsequence}

-- what the queue holds: lanes, and then ends
abbrev pub contents : List Lane → ℕ → List Item
contents [] ends = replicate ends End
contents (lane ∷ left) ends = Next lane ∷ contents left ends

-- all that was taken
abbrev pub gathered : List View → List Lane
gathered [] = []
gathered (v ∷ vs) = v.took ++ gathered vs

-- the pass of this number has this view
abbrev pub At : List View → ℕ → View → Type 0
At views pass v = get_elem? views pass ≡ some v

abbrev pub Each : (View → Type 0) → List View → Type 0
Each P views = (pass : ℕ) (v : View) → At views pass v → P v

-- what one pass knows is so, where `left` are the lanes in the queue
pub record Fits (lanes left : List Lane) (v : View) : Type 0 where
  -- a pass without a share knows nothing
  pub idle : v.share ≡ 0 → v ≡ spent_view
  pub same : 0 < v.share → v.lanes ≡ lanes
  -- who has met an end knows that no lane is left
  pub done : v.ended ≡ true → left ≡ []
  -- what a pass took and may still take stands in the order of all lanes
  pub order : v.single ≡ true → IsSubsequence (v.took ++ left) lanes

pub record Kept (items : List Item) (views : List View) : Type 0 where
  -- all lanes, those that are in the queue, and how many ends stand behind them
  pub lanes : List Lane
  pub left : List Lane
  pub ends : ℕ
  pub items_are : items ≡ contents left ends
  pub shares : sum_by (λ v. v.share) views ≡ 64
  pub ending : sum_by (λ v. v.ends) views ≡ ends
  pub each_once : IsPermutation lanes (gathered views ++ left)
  pub each : Each (Fits lanes left) views
