-- What a part of a block's run did, told of each state that agrees with what was read and stands as it is said.
use Rattle.std.specs.Prelude.{ℕ, ◌<◌, List, Option, Result, IfOk}
use Rattle.plain_data.specs.State.{State}
use Rattle.record_store.specs.Goes.{GoesByReads, GoesByCalls}
use Rattle.record_store.specs.Meaning.{Meaning}
use Rattle.record_store.specs.States.{Each}
use Rattle.record_store.specs.Walks.{IfTorn}
use Rattle.record_store.specs.Writes.{WritesAtMost, WritesKnown}
use Rattle.record_store.specs.declared.walk.Walk.{Walk}

-- a part that reads alone: what it found, in each such state; it is torn, or refused by the store, only where it may be
pub record Looks {S F T X : Type 0} (read_gives : S → ℕ → Result (Option (List ℕ)) F → S → Type 0) (meaning : S → Meaning)
    (Stands : State → X → Type 0) (Found : T → State → X → Type 0) (first last : S) (result : Result T (Walk F)) : Type 0 where
  pub by : GoesByReads read_gives meaning first last result
  pub found : IfOk result (λ value. Each Stands (meaning last) (Found value))
  pub torn : IfTorn result (λ _. Each Stands (meaning last) (λ _ _. ⊥))

-- a part that changes: what it did, in each such state, when it asked so often for a new record. Whatever it answers, it wrote so many records at most, and none but those that are never given out, that are present
-- in such a state, or that were given.
pub record Runs {S F T X : Type 0} (read_gives : S → ℕ → Result (Option (List ℕ)) F → S → Type 0) (write_gives : S → ℕ → Option (List ℕ)
    → Result (Unit {0}) F → S → Type 0) (fresh_gives : S → Result ℕ F → S → Type 0) (meaning : S → Meaning) (Stands : State → X → Type 0)
    (Due : ℕ → State → X → Type 0) (Did : T → ℕ → State → X → Type 0) (most : ℕ) (first last : S) (result : Result T (Walk F)) : Type 0
  where
    pub asked : ℕ
    pub by : GoesByCalls read_gives write_gives fresh_gives meaning (λ asks. Each Stands (meaning last) (Due asks)) asked first last result
    pub may : 0 < asked → Each Stands (meaning last) (Due asked)
    pub did : IfOk result (λ value. Each Stands (meaning last) (Did value asked))
    pub torn : IfTorn result (λ _. Each Stands (meaning last) (λ _ _. ⊥))
    pub few : WritesAtMost most (meaning first) (meaning last)
    pub writes : Each Stands (meaning last) (λ state _. WritesKnown (meaning first) (meaning last) state)
