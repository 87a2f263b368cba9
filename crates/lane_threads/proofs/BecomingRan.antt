-- The blocks of lanes that ran, and those that remain: each once, and in the order of their lanes.
use Rattle.std.proofs.Common.{◌≡◌, ◌≢◌, ◌⊎◌, inl, inr, ⊎_elim, ℕ, ◌<◌, List, [], ◌∷◌, ◌++◌, All, AllPairs, IsPermutation, refl, sym, ap, subst, subst₂, ◌∙◌, arith}
use Rattle.std.specs.List.{flat_map}
use Rattle.std.proofs.lemmas.List.Elements.{All-nil, All-cons, All-head, All-tail, All-contains}
use Rattle.std.proofs.lemmas.List.Kept.{AllPairs-cons}
use Rattle.std.proofs.lemmas.List.Sorted.{IsPermutation-refl, IsPermutation-trans, IsPermutation-append_left, IsPermutation-append_right}
use Rattle.plain_data.specs.declared.entry.Entry.{Entry}
use Rattle.core_rule.specs.Views.{Among}
use Rattle.core_rule.proofs.Among.{Among-left, Among-right, Among-split}
use Rattle.histories.proofs.Lists.{pairs_head, pairs_tail, pairs_nil}
use Rattle.replay_model.specs.declared.input.Block.{Block}
use Rattle.replay_model.specs.declared.outcome.Outcome.{Outcome}
use Rattle.replay_model.specs.declared.outcome.Placed.{Placed}
use Rattle.lane_queue.specs.declared.lane.Lane.{Lane}
use Rattle.lane_runner.specs.declared.done.LaneDone.{LaneDone}
use Rattle.lane_runner.specs.Lanes.{AreEntries, IsAfter, KeepOrder}
use Rattle.lane_runner.specs.Lanes.AreEntries.{none, result, other}
use Rattle.lane_threads.specs.All.{AreOfLane, AreOfLanes}
use Rattle.lane_threads.specs.All.AreOfLanes.{none as no_lanes, next}
use Rattle.lane_runner.specs.Finishing.{results_of, rests_of}
use Rattle.lane_threads.specs.Merges.{IsMerge}
use Rattle.lane_runner.proofs.Run.{AreEntries-others}
use Rattle.lane_threads.proofs.Merging.{MergedEntries, merged_entries, merge_split, merge_permutes, merge_pairs}
use Rattle.lane_runner.proofs.Results.{entry_of_result}
use Rattle.lane_runner.proofs.Elements.{all_among, contains_of, pairs_append, pairs_behind}
use Rattle.lane_threads.proofs.BecomingLists.{pieces_cross, pieces_moved, pairs_first, pairs_across}
use Rattle.lane_threads.proofs.BecomingLanes.{Rises, IsLane, LanesDiffer, blocks_in}

-- of two results of one lane the later one has the greater number, and stands behind
abbrev pub Follows : Placed × Outcome → Placed × Outcome → Type 0
Follows a b = a.0.lane ≡ b.0.lane → (a.0.number < b.0.number) × IsAfter a.0 b.0

-- results follow one another as their blocks and their stamps do
pub results_follow : (records : ℕ) (entries : List Entry) (blocks : List Block) (results : List (Placed × Outcome)) → AreEntries records entries blocks results → AllPairs Rises blocks → KeepOrder results → AllPairs Follows results
results_follow records entries blocks results none rise order = pairs_nil Follows
results_follow records entries blocks results (result e es b bs r rs is rest) rise order =
    AllPairs-cons Follows r rs
    (all_among (Follows r) rs (λ r' among same.
    let h = entry_of_result records es bs rs r' rest among in
    let rises : b.number < h.block.number = All-contains (Rises b) bs h.block (pairs_head Rises b bs rise) (contains_of bs h.block h.of_lane) (sym is.place.lane ∙ same ∙ h.is_result.place.lane) in
    (omega (arith, rises, is.place.number, h.is_result.place.number), order.0 r' among)))
    (results_follow records es bs rs rest (pairs_tail Rises b bs rise) order.1)
results_follow records entries blocks results (other e es bs rs keeps rest) rise order = results_follow records es bs rs rest rise order

-- ---- lanes that ran

-- this is the number of one of the lanes
abbrev pub IsOfOne : List Lane → ℕ → Type 0
IsOfOne lanes n = (lane : Lane) × Among lane lanes × (n ≡ lane.number)

-- the blocks that ran, and their results, in the order of the entries; with those that remain they are the blocks of the lanes
pub record LanesRan (records : ℕ) (entries : List Entry) (lanes : List Lane) (dones : List LaneDone) : Type 0 where
  pub firsts : List Block
  pub results : List (Placed × Outcome)
  pub are_entries : AreEntries records entries firsts results
  pub same_results : IsPermutation (results_of dones) results
  pub same : IsPermutation (blocks_in lanes) (firsts ++ rests_of dones)
  pub first_of : (block : Block) → Among block firsts → IsOfOne lanes block.lane
  pub rest_of : (block : Block) → Among block (rests_of dones) → IsOfOne lanes block.lane
  -- those that remain of a lane stand behind those that ran
  pub rise : (a b : Block) → Among a firsts → Among b (rests_of dones) → Rises a b
  pub follow : AllPairs Follows results

-- one more lane before them
module _ (records : ℕ) (entries more all : List Entry) (lane : Lane) (lanes : List Lane) (done : LaneDone) (dones : List LaneDone)
    (merged : IsMerge entries more all) (is : AreOfLane records entries lane done) (is_lane : IsLane lane) (apart : (n : ℕ) → IsOfOne lanes n → lane.number ≢ n) (behind : LanesRan records more lanes dones) where
  first_lane : (block : Block) → Among block is.first → block.lane ≡ lane.number
  first_lane block among = is_lane.of_lane block (subst (λ (blocks : List Block). Among block blocks) (sym is.blocks_are) (Among-left block is.first done.rest among))

  rest_lane : (block : Block) → Among block done.rest → block.lane ≡ lane.number
  rest_lane block among = is_lane.of_lane block (subst (λ (blocks : List Block). Among block blocks) (sym is.blocks_are) (Among-right block is.first done.rest among))

  result_lane : (r : Placed × Outcome) → Among r done.results → r.0.lane ≡ lane.number
  result_lane r among = let h = entry_of_result records entries is.first done.results r is.are_entries among in h.is_result.place.lane ∙ first_lane h.block h.of_lane

  result_behind : (r : Placed × Outcome) → Among r behind.results → IsOfOne lanes r.0.lane
  result_behind r among = let h = entry_of_result records more behind.firsts behind.results r behind.are_entries among in subst (IsOfOne lanes) (sym h.is_result.place.lane) (behind.first_of h.block h.of_lane)

  both_rise : AllPairs Rises (is.first ++ done.rest)
  both_rise = subst (AllPairs Rises) is.blocks_are is_lane.rise

  one_of : (n : ℕ) → IsOfOne lanes n → IsOfOne (lane ∷ lanes) n
  one_of n of = (of.0, inr of.1, of.2)

  -- in the order of the entries
  ran : MergedEntries records all is.first behind.firsts done.results behind.results
  ran = merged_entries records entries more all is.first behind.firsts done.results behind.results merged is.are_entries behind.are_entries

  first_split : (block : Block) → Among block ran.blocks → Among block is.first ⊎ Among block behind.firsts
  first_split block among = merge_split block is.first behind.firsts ran.blocks ran.of_blocks among

  first_of : (block : Block) → Among block ran.blocks → IsOfOne (lane ∷ lanes) block.lane
  first_of block among = ⊎_elim (λ here. (lane, inl refl, first_lane block here)) (λ there. one_of block.lane (behind.first_of block there)) (first_split block among)

  rest_of : (block : Block) → Among block (done.rest ++ rests_of dones) → IsOfOne (lane ∷ lanes) block.lane
  rest_of block among = ⊎_elim (λ here. (lane, inl refl, rest_lane block here)) (λ there. one_of block.lane (behind.rest_of block there)) (Among-split block done.rest (rests_of dones) among)

  rise : (a b : Block) → Among a ran.blocks → Among b (done.rest ++ rests_of dones) → Rises a b
  rise a b here there =
      ⊎_elim
      (λ here_first. ⊎_elim
      (λ there_first. pairs_across Rises is.first done.rest both_rise a b here_first there_first)
      (λ there_behind same. absurd (apart b.lane (behind.rest_of b there_behind) (sym (first_lane a here_first) ∙ same)))
      (Among-split b done.rest (rests_of dones) there))
      (λ here_behind. ⊎_elim
      (λ there_first same. absurd (apart a.lane (behind.first_of a here_behind) (sym (rest_lane b there_first) ∙ sym same)))
      (λ there_behind. behind.rise a b here_behind there_behind)
      (Among-split b done.rest (rests_of dones) there))
      (first_split a here)

  same : IsPermutation (lane.blocks ++ blocks_in lanes) (ran.blocks ++ (done.rest ++ rests_of dones))
  same = IsPermutation-trans _ _ _
      (subst (λ (blocks : List Block). IsPermutation (blocks ++ blocks_in lanes) ((is.first ++ behind.firsts) ++ (done.rest ++ rests_of dones))) (sym is.blocks_are)
      (IsPermutation-trans _ _ _ (IsPermutation-append_right (is.first ++ done.rest) (blocks_in lanes) (behind.firsts ++ rests_of dones) behind.same) (pieces_cross is.first done.rest behind.firsts (rests_of dones))))
      (IsPermutation-append_left (done.rest ++ rests_of dones) (is.first ++ behind.firsts) ran.blocks (merge_permutes is.first behind.firsts ran.blocks ran.of_blocks))

  same_results : IsPermutation (done.results ++ results_of dones) ran.results
  same_results = IsPermutation-trans _ _ _
      (IsPermutation-append_right done.results (results_of dones) behind.results behind.same_results)
      (merge_permutes done.results behind.results ran.results ran.of_results)

  follow : AllPairs Follows ran.results
  follow =
      merge_pairs Follows done.results behind.results ran.results ran.of_results
      (results_follow records entries is.first done.results is.are_entries (pairs_first Rises is.first done.rest both_rise) is.order)
      behind.follow
      (λ a b here there alike. absurd (apart b.0.lane (result_behind b there) (sym (result_lane a here) ∙ alike)))
      (λ a b here there alike. absurd (apart b.0.lane (result_behind b there) (sym (result_lane a here) ∙ sym alike)))

  one_more : LanesRan records all (lane ∷ lanes) (done ∷ dones)
  one_more = record {
    firsts = ran.blocks;
    results = ran.results;
    are_entries = ran.are_entries;
    same_results = same_results;
    same = same;
    first_of = first_of;
    rest_of = rest_of;
    rise = rise;
    follow = follow;
  }

pub lanes_ran : (records : ℕ) (entries : List Entry) (lanes : List Lane) (dones : List LaneDone) → AreOfLanes records entries lanes dones → All IsLane lanes → AllPairs LanesDiffer lanes → LanesRan records entries lanes dones
lanes_ran records entries lanes dones (no_lanes es keeps) each differ = record {
  firsts = [];
  results = [];
  are_entries = AreEntries-others records es keeps;
  same_results = IsPermutation-refl [];
  same = IsPermutation-refl [];
  first_of = λ block among. absurd among;
  rest_of = λ block among. absurd among;
  rise = λ a b here there. absurd here;
  follow = pairs_nil Follows;
}
lanes_ran records entries lanes dones (next es more all l ls d ds merged is rest) each differ =
    one_more records es more all l ls d ds merged is (All-head IsLane l ls each)
    (λ n of same. All-contains (LanesDiffer l) ls of.0 (pairs_head LanesDiffer l ls differ) (contains_of ls of.0 of.1) (same ∙ of.2))
    (lanes_ran records more ls ds rest (All-tail IsLane l ls each) (pairs_tail LanesDiffer l ls differ))

-- ---- what remains, in whatever order of the lanes

-- what remains of a lane is of that lane, and rises
pub record IsRest (done : LaneDone) : Type 0 where
  pub of_lane : (block : Block) → Among block done.rest → block.lane ≡ done.lane
  pub rise : AllPairs Rises done.rest

abbrev pub DonesDiffer : LaneDone → LaneDone → Type 0
DonesDiffer a b = a.lane ≢ b.lane

pub each_rest : (records : ℕ) (entries : List Entry) (lanes : List Lane) (dones : List LaneDone) → AreOfLanes records entries lanes dones → All IsLane lanes → All IsRest dones
each_rest records entries lanes dones (no_lanes es keeps) each = All-nil IsRest
each_rest records entries lanes dones (next es more all l ls d ds merged is rest) each =
    let lane : IsLane l = All-head IsLane l ls each in
    All-cons IsRest d ds
    (record {
      of_lane = λ block among. lane.of_lane block (subst (λ (blocks : List Block). Among block blocks) (sym is.blocks_are) (Among-right block is.first d.rest among)) ∙ sym is.lane_is;
      rise = pairs_behind Rises is.first d.rest (subst (AllPairs Rises) is.blocks_are lane.rise);
    })
    (each_rest records more ls ds rest (All-tail IsLane l ls each))

done_of : (records : ℕ) (entries : List Entry) (lanes : List Lane) (dones : List LaneDone) → AreOfLanes records entries lanes dones → (done : LaneDone) → Among done dones → IsOfOne lanes done.lane
done_of records entries lanes dones (no_lanes es keeps) done among = absurd among
done_of records entries lanes dones (next es more all l ls d ds merged is rest) done (inl same) = (l, inl refl, ap (λ (x : LaneDone). x.lane) (sym same) ∙ is.lane_is)
done_of records entries lanes dones (next es more all l ls d ds merged is rest) done (inr among) = let h = done_of records more ls ds rest done among in (h.0, inr h.1, h.2)

pub dones_differ : (records : ℕ) (entries : List Entry) (lanes : List Lane) (dones : List LaneDone) → AreOfLanes records entries lanes dones → AllPairs LanesDiffer lanes → AllPairs DonesDiffer dones
dones_differ records entries lanes dones (no_lanes es keeps) differ = pairs_nil DonesDiffer
dones_differ records entries lanes dones (next es more all l ls d ds merged is rest) differ =
    AllPairs-cons DonesDiffer d ds
    (all_among (DonesDiffer d) ds (λ e among same.
    let h = done_of records more ls ds rest e among in
    All-contains (LanesDiffer l) ls h.0 (pairs_head LanesDiffer l ls differ) (contains_of ls h.0 h.1) (sym is.lane_is ∙ same ∙ h.2)))
    (dones_differ records more ls ds rest (pairs_tail LanesDiffer l ls differ))

rest_in : (dones : List LaneDone) (block : Block) → Among block (rests_of dones) → (done : LaneDone) × Among done dones × Among block done.rest
rest_in [] block among = absurd among
rest_in (d ∷ ds) block among = ⊎_elim (λ here. (d, inl refl, here)) (λ there. let h = rest_in ds block there in (h.0, inr h.1, h.2)) (Among-split block d.rest (rests_of ds) among)

pub rests_rise : (dones : List LaneDone) → All IsRest dones → AllPairs DonesDiffer dones → AllPairs Rises (rests_of dones)
rests_rise [] each differ = pairs_nil Rises
rests_rise (d ∷ ds) each differ =
    pairs_append Rises d.rest (rests_of ds) (All-head IsRest d ds each).rise (rests_rise ds (All-tail IsRest d ds each) (pairs_tail DonesDiffer d ds differ))
    (λ a b here there same.
    let h = rest_in ds b there in
    let other_rest : IsRest h.0 = All-contains IsRest ds h.0 (All-tail IsRest d ds each) (contains_of ds h.0 h.1) in
    absurd (All-contains (DonesDiffer d) ds h.0 (pairs_head DonesDiffer d ds differ) (contains_of ds h.0 h.1) (sym ((All-head IsRest d ds each).of_lane a here) ∙ same ∙ other_rest.of_lane b h.2)))

pub rests_flat : (dones : List LaneDone) → rests_of dones ≡ flat_map (λ (done : LaneDone). done.rest) dones
rests_flat [] = refl
rests_flat (d ∷ ds) = ap (λ (more : List Block). d.rest ++ more) (rests_flat ds)

pub results_flat : (dones : List LaneDone) → results_of dones ≡ flat_map (λ (done : LaneDone). done.results) dones
results_flat [] = refl
results_flat (d ∷ ds) = ap (λ (more : List (Placed × Outcome)). d.results ++ more) (results_flat ds)

-- in another order of the lanes
pub results_moved_by : (done order : List LaneDone) → IsPermutation done order → IsPermutation (results_of done) (results_of order)
results_moved_by done order moved = subst₂ (λ (xs ys : List (Placed × Outcome)). IsPermutation xs ys) (sym (results_flat done)) (sym (results_flat order)) (pieces_moved (λ (d : LaneDone). d.results) done order moved)
