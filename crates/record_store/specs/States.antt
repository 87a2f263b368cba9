-- What is said of each state of the records that a call may have run on.
use Rattle.plain_data.specs.State.{State, Agrees, overlay}
use Rattle.record_store.specs.Meaning.{Meaning}

-- what holds where a call begins, of each state that agrees with all that was read by its end, with the writes laid over it
abbrev pub EachState : Meaning → Meaning → (State → Type 0) → Type 0
EachState before after P = (state : State) → Agrees state after.reads → P (overlay before.writes state)

-- What holds of each state that agrees with the reads and in which things stand as it is said. Beside a state stands where its parts are, and
-- what it holds.
abbrev pub Each : {X : Type 0} → (State → X → Type 0) → Meaning → (State → X → Type 0) → Type 0
Each {X} Stands last P = (state : State) (x : X) → Agrees state last.reads → Stands state x → P state x

-- in each state that agrees a walk is torn, and in none things stand as they should
pub record IsTorn {X : Type 0} (Tears : State → Type 0) (Stands : State → X → Type 0) (before after : Meaning) : Type 0 where
  pub tears : EachState before after Tears
  pub none : Each Stands after (λ _ _. ⊥)
