-- What results of blocks are to the entries of their lane.
use Rattle.std.proofs.Common.{◌⊎◌, ℕ, ◌<◌, ◌≤◌, List, ◌∷◌, inl, inr, refl, subst, ◌∙◌}
use Rattle.plain_data.specs.declared.entry.Entry.{Entry}
use Rattle.replay_model.specs.declared.input.Block.{Block}
use Rattle.replay_model.specs.declared.outcome.Outcome.{Outcome}
use Rattle.replay_model.specs.declared.outcome.Placed.{Placed}
use Rattle.core_rule.specs.Views.{Among}
use Rattle.lane_runner.specs.Adds.{IsLater, AreInOrder}
use Rattle.lane_runner.specs.Weighs.{LeavesTables}
use Rattle.lane_runner.specs.Lanes.{IsResult, AreEntries, IsAfter, KeepOrder}
use Rattle.lane_runner.specs.Lanes.AreEntries.{none, result, other}

-- the block of a result, and its entry
pub record HasEntry (records : ℕ) (entries : List Entry) (blocks : List Block) (r : Placed × Outcome) : Type 0 where
  pub entry : Entry
  pub among : Among entry entries
  pub block : Block
  pub of_lane : Among block blocks
  pub is_result : IsResult records block r entry

-- the result that an entry is of
pub record HasResult (records : ℕ) (blocks : List Block) (results : List (Placed × Outcome)) (entry : Entry) : Type 0 where
  pub result : Placed × Outcome
  pub among : Among result results
  pub block : Block
  pub of_lane : Among block blocks
  pub is_result : IsResult records block result entry

-- each result has its entry
pub entry_of_result : (records : ℕ) (entries : List Entry) (blocks : List Block) (results : List (Placed × Outcome)) (r : Placed × Outcome) → AreEntries records entries blocks results → Among r results → HasEntry records entries blocks r
entry_of_result records entries blocks results r none among = absurd among
entry_of_result records entries blocks results r (result e es b bs r' rs is rest) (inl same) = record { entry = e; among = inl refl; block = b; of_lane = inl refl; is_result = subst (λ (x : Placed × Outcome). IsResult records b x e) same is }
entry_of_result records entries blocks results r (result e es b bs r' rs is rest) (inr among) =
    let h = entry_of_result records es bs rs r rest among in
    record { entry = h.entry; among = inr h.among; block = h.block; of_lane = inr h.of_lane; is_result = h.is_result }
entry_of_result records entries blocks results r (other e es bs rs keeps rest) among =
    let h = entry_of_result records es bs rs r rest among in
    record { entry = h.entry; among = inr h.among; block = h.block; of_lane = h.of_lane; is_result = h.is_result }

-- each entry is that of a result, or leaves the tables and their weight as they were
pub result_of_entry : (records : ℕ) (entries : List Entry) (blocks : List Block) (results : List (Placed × Outcome)) (entry : Entry) → AreEntries records entries blocks results → Among entry entries → HasResult records blocks results entry ⊎ LeavesTables records entry
result_of_entry records entries blocks results entry none among = absurd among
result_of_entry records entries blocks results entry (result e es b bs r rs is rest) (inl same) = inl (record { result = r; among = inl refl; block = b; of_lane = inl refl; is_result = subst (λ (x : Entry). IsResult records b r x) same is })
result_of_entry records entries blocks results entry (result e es b bs r rs is rest) (inr among) = behind (result_of_entry records es bs rs entry rest among) where
  behind : HasResult records bs rs entry ⊎ LeavesTables records entry → HasResult records (b ∷ bs) (r ∷ rs) entry ⊎ LeavesTables records entry
  behind (inl h) = inl (record { result = h.result; among = inr h.among; block = h.block; of_lane = inr h.of_lane; is_result = h.is_result })
  behind (inr keeps) = inr keeps
result_of_entry records entries blocks results entry (other e es bs rs keeps rest) (inl same) = inr (subst (λ (x : Entry). LeavesTables records x) same keeps)
result_of_entry records entries blocks results entry (other e es bs rs keeps rest) (inr among) = result_of_entry records es bs rs entry rest among

-- results stand in the order of their entries
pub after_entries : (records : ℕ) (b b' : Block) (r r' : Placed × Outcome) (e e' : Entry) → IsResult records b r e → IsResult records b' r' e' → IsLater e e' → IsAfter r.0 r'.0
after_entries records b b' r r' e e' is is' later = record {
  commits = λ first second.
      let rises : e.stamp < e'.stamp = later.commits (is.is_entry.kind ∙ first) (is'.is_entry.kind ∙ second) in
      subst (λ (n : ℕ). n < r'.0.stamp) is.is_entry.stamp (subst (λ (n : ℕ). e.stamp < n) is'.is_entry.stamp rises);
  snapshots = λ first second.
      let stays : e.stamp ≤ e'.stamp = later.snapshots (is.is_entry.kind ∙ first) (is'.is_entry.kind ∙ second) in
      subst (λ (n : ℕ). n ≤ r'.0.stamp) is.is_entry.stamp (subst (λ (n : ℕ). e.stamp ≤ n) is'.is_entry.stamp stays);
}

pub keep_order : (records : ℕ) (entries : List Entry) (blocks : List Block) (results : List (Placed × Outcome)) → AreEntries records entries blocks results → AreInOrder entries → KeepOrder results
keep_order records entries blocks results none in_order = tt
keep_order records entries blocks results (result e es b bs r rs is rest) in_order = (later, keep_order records es bs rs rest in_order.1) where
  later : (second : Placed × Outcome) → Among second rs → IsAfter r.0 second.0
  later second among =
      let h = entry_of_result records es bs rs second rest among in
      after_entries records b h.block r second e h.entry is h.is_result (in_order.0 h.entry h.among)
keep_order records entries blocks results (other e es bs rs keeps rest) in_order = keep_order records es bs rs rest in_order.1
