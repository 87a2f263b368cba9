-- Examples: results that meet the premises of the law.
use Rattle.std.proofs.Common.{◌≡◌, ◌≢◌, ℕ, ◌<◌, ◌≤◌, false, List, [], ◌∷◌, refl, inr, arith, All, AllPairs, Contains}
use Rattle.std.proofs.lemmas.List.Elements.{All-nil, All-cons, All-head, All-contains}
use Rattle.std.proofs.lemmas.List.Kept.{AllPairs-cons}
use Rattle.std.specs.List.{list_any}
use Rattle.std.specs.Prelude.{IsTrue}
use Rattle.plain_data.specs.declared.entry.Entry.{Entry}
use Rattle.plain_data.specs.State.{State, empty_state}
use Rattle.replay_model.specs.declared.input.Block.{Block}
use Rattle.replay_model.specs.declared.input.Input.{Input}
use Rattle.replay_model.specs.declared.outcome.Outcome.{Outcome}
use Rattle.replay_model.specs.declared.outcome.Outcome.TheVariants.{Done}
use Rattle.replay_model.specs.declared.outcome.Placed.{Placed}
use Rattle.replay_model.specs.TableMap.{TableMap, loaded}
use Rattle.replay_model.specs.Order.{NamesOther, names}
use Rattle.replay_model.specs.Replay.{NamesBlock, block_named}
use Rattle.histories.proofs.Lists.{pairs_nil, Contains-head}
use Rattle.history_replay.specs.Results.{AreResults, IsEntryOf, KeepsTables, PlacedApart, IsBehind, KeepsLane}

-- a state stands for the tables without rows
abbrev stands : State → TableMap → Type 0
stands state tables = tables ≡ loaded [] []

abbrev block : Block
block = record { snap = false; lane = 1; number = 1; commands = [] }

-- an input of one lane with one empty block, and the entry of its result
abbrev input : Input
input = record { tables = []; rows = []; indexes = []; lanes = (block ∷ []) ∷ [] }

abbrev placed : Placed
placed = record { stamp = 512; snap = false; lane = 1; number = 1 }

abbrev entry : Entry
entry = record { stamp = 512; snapshot = false; reads = []; writes = [] }

abbrev Result_of : Type 0
Result_of = Placed × Outcome

abbrev one_result : Result_of
one_result = (placed, Done [])

abbrev Found : Result_of → Type 0
Found r = (e : Entry) × Contains (entry ∷ []) e × IsEntryOf stands 1 (block_named input.lanes r.0).commands r.0 r.1 e

abbrev IsComplete : List Block → Type 0
IsComplete blocks = All (λ (b : Block). IsTrue (list_any (λ (r : Result_of). names b r.0) (one_result ∷ []))) blocks

abbrev Other : Entry → Type 0
Other e = e.snapshot ≡ false → 256 < e.stamp → All (λ (r : Result_of). r.0.snap ≡ false → r.0.stamp ≢ e.stamp) (one_result ∷ []) → KeepsTables stands 1 e

example_results : AreResults stands 1 (entry ∷ []) 256 input (one_result ∷ [])
example_results = record {
  begins = (empty_state, (λ rid. inr (refl, λ e among w. All-contains (λ (e : Entry). e.stamp ≤ 256 → ⊥) (entry ∷ []) e (All-cons (λ (e : Entry). e.stamp ≤ 256 → ⊥) entry [] (λ le. absurd (omega arith)) (All-nil _)) among.0 among.1)), refl);
  named = All-cons (λ (r : Result_of). NamesBlock input.lanes r.0) one_result [] refl (All-nil _);
  once = AllPairs-cons (λ (a b : Result_of). NamesOther a.0 b.0) one_result [] (All-nil _) (pairs_nil (λ (a b : Result_of). NamesOther a.0 b.0));
  complete = All-cons IsComplete (block ∷ []) [] (All-cons (λ (b : Block). IsTrue (list_any (λ (r : Result_of). names b r.0) (one_result ∷ []))) block [] refl (All-nil _)) (All-nil _);
  entry = All-cons Found one_result [] (
    entry,
    Contains-head entry [],
    record {
      stamp = refl;
      kind = refl;
      answers = λ state tables is stand agrees. refl;
      writes = λ writer state tables is stand agrees. stand;
    },
  ) (All-nil Found);
  behind = All-cons (λ (r : Result_of). IsBehind 256 r.0) one_result [] (omega arith) (All-nil _);
  apart = AllPairs-cons (λ (a b : Result_of). PlacedApart a.0 b.0) one_result [] (All-nil _) (pairs_nil (λ (a b : Result_of). PlacedApart a.0 b.0));
  lanes = All-cons (λ (a : Result_of). All (λ (b : Result_of). KeepsLane a.0 b.0) (one_result ∷ [])) one_result []
      (All-cons (λ (b : Result_of). KeepsLane placed b.0) one_result [] (λ lane kind number. absurd (omega arith)) (All-nil _)) (All-nil _);
  others = All-cons Other entry [] (λ commit after none. absurd (All-head (λ (r : Result_of). r.0.snap ≡ false → r.0.stamp ≢ 512) one_result [] none refl refl)) (All-nil Other);
}
