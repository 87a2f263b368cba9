-- The lanes of an input with their numbers: what each has, and that they differ.
use Rattle.std.proofs.Common.{◌≡◌, ◌≢◌, inl, inr, ℕ, suc, ◌+◌, ◌<◌, ◌≤◌, List, [], ◌∷◌, ◌++◌, All, AllPairs, Some, slice_get, refl, ap, arith}
use Rattle.std.specs.List.{flat_map}
use Rattle.std.proofs.lemmas.List.Elements.{All-nil, All-cons}
use Rattle.std.proofs.lemmas.List.Kept.{AllPairs-cons}
use Rattle.core_rule.specs.Views.{Among}
use Rattle.histories.proofs.Lists.{pairs_nil}
use Rattle.replay_model.specs.declared.input.Block.{Block}
use Rattle.replay_model.specs.Input.{StandsAt}
use Rattle.lane_queue.specs.declared.lane.Lane.{Lane}
use Rattle.lane_queue.specs.Passes.{numbered}
use Rattle.lane_threads.specs.Whole.{blocks_of}
use Rattle.lane_runner.proofs.Elements.{all_among}
use Rattle.lane_threads.proofs.WholeRun.{list_at}

-- of two blocks of one lane the later one has the greater number
abbrev pub Rises : Block → Block → Type 0
Rises a b = a.lane ≡ b.lane → a.number < b.number

-- its blocks are of the lane, and their numbers rise
pub record IsLane (lane : Lane) : Type 0 where
  pub of_lane : (block : Block) → Among block lane.blocks → block.lane ≡ lane.number
  pub rise : AllPairs Rises lane.blocks

abbrev pub LanesDiffer : Lane → Lane → Type 0
LanesDiffer a b = a.number ≢ b.number

-- the blocks stand where they say, the first lane at this place
abbrev pub StandFrom : ℕ → List (List Block) → Type 0
StandFrom n lanes = (i j : ℕ) (blocks : List Block) (block : Block) → slice_get lanes i ≡ Some blocks → slice_get blocks j ≡ Some block → StandsAt (n + i) j block

-- ---- each lane

blocks_rise : (blocks : List Block) (n : ℕ) → ((j : ℕ) (block : Block) → slice_get blocks j ≡ Some block → block.number ≡ n + j + 1) → AllPairs Rises blocks
blocks_rise [] n each = pairs_nil Rises
blocks_rise (b ∷ blocks) n each =
    AllPairs-cons Rises b blocks
    (all_among (Rises b) blocks (λ c among same. let at = list_at blocks c among in omega (arith, each 0 b refl, each (suc at.0) c at.1)))
    (blocks_rise blocks (n + 1) (λ j block here. omega (arith, each (suc j) block here)))

pub numbered_are_lanes : (lanes : List (List Block)) (n : ℕ) → StandFrom n lanes → All IsLane (numbered (suc n) lanes)
numbered_are_lanes [] n stand = All-nil IsLane
numbered_are_lanes (blocks ∷ lanes) n stand =
    All-cons IsLane (record { number = suc n; blocks = blocks }) (numbered (suc (suc n)) lanes)
    (record {
      of_lane = λ block among. let at = list_at blocks block among in omega (arith, (stand 0 at.0 blocks block refl at.1).0);
      rise = blocks_rise blocks 0 (λ j block here. omega (arith, (stand 0 j blocks block refl here).1));
    })
    (numbered_are_lanes lanes (suc n) (λ i j bs block lane_here here. let at = stand (suc i) j bs block lane_here here in (omega (arith, at.0), at.1)))

-- ---- they differ

numbered_from : (lanes : List (List Block)) (n : ℕ) (lane : Lane) → Among lane (numbered n lanes) → n ≤ lane.number
numbered_from [] n lane among = absurd among
numbered_from (blocks ∷ lanes) n lane (inl same) = let e : n ≡ lane.number = ap (λ (l : Lane). l.number) same in omega arith
numbered_from (blocks ∷ lanes) n lane (inr among) = let h : suc n ≤ lane.number = numbered_from lanes (suc n) lane among in omega arith

pub numbered_differ : (lanes : List (List Block)) (n : ℕ) → AllPairs LanesDiffer (numbered n lanes)
numbered_differ [] n = pairs_nil LanesDiffer
numbered_differ (blocks ∷ lanes) n =
    AllPairs-cons LanesDiffer (record { number = n; blocks = blocks }) (numbered (suc n) lanes)
    (all_among (LanesDiffer (record { number = n; blocks = blocks })) (numbered (suc n) lanes) (λ lane among same. let h : suc n ≤ lane.number = numbered_from lanes (suc n) lane among in omega (arith, same)))
    (numbered_differ lanes (suc n))

-- ---- their blocks

abbrev pub blocks_in : List Lane → List Block
blocks_in lanes = flat_map (λ (lane : Lane). lane.blocks) lanes

pub blocks_numbered : (lanes : List (List Block)) (n : ℕ) → blocks_in (numbered n lanes) ≡ blocks_of lanes
blocks_numbered [] n = refl
blocks_numbered (blocks ∷ lanes) n = ap (λ (more : List Block). blocks ++ more) (blocks_numbered lanes (suc n))
