-- Which records a call writes, how many, and how many new ones it is given.
use Rattle.std.specs.Prelude.{◌≡◌, ◌⊎◌, ℕ, ◌+◌, ◌<◌, ◌≤◌, List, ◌++◌, length, Contains, Some, IsSome}
use Rattle.plain_data.specs.State.{State, Agrees}
use Rattle.record_store.specs.Meaning.{Meaning, value_at}

-- at most so many records are written: the writes say of each other record what they said before, and are longer by no more
pub record WritesAtMost (most : ℕ) (before after : Meaning) : Type 0 where
  pub rids : List ℕ
  pub few : length rids ≤ most
  pub others : (rid : ℕ) → (Contains rids rid → ⊥) → value_at after.writes rid ≡ value_at before.writes rid
  pub longer : length after.writes ≤ length before.writes + most

-- each record that is written was written before, or was given, or is one that may be written
abbrev pub WritesOnly : (ℕ → Type 0) → Meaning → Meaning → Type 0
WritesOnly May before after = (rid : ℕ) → IsSome (value_at after.writes rid) → IsSome (value_at before.writes rid) ⊎ Contains after.given rid ⊎ May rid

-- a record that is never given out, or is present
abbrev pub IsKnown : ℕ → State → ℕ → Type 0
IsKnown fixed state rid = (rid < fixed) ⊎ ((words : List ℕ) × (state rid ≡ Some words))

-- in this state only such records are written
abbrev pub WritesKnown : Meaning → Meaning → State → Type 0
WritesKnown before after state = WritesOnly (IsKnown before.fixed state) before after

-- in each state that agrees with the reads
abbrev pub EachWritesKnown : Meaning → Meaning → Type 0
EachWritesKnown before after = (state : State) → Agrees state after.reads → WritesKnown before after state

-- at most so many new records were given, and none was taken back
pub record GivesAtMost (most : ℕ) (before after : Meaning) : Type 0 where
  pub more : List ℕ
  pub given : after.given ≡ before.given ++ more
  pub few : length more ≤ most

-- fewer than so many
pub record GivesFewer (asks : ℕ) (before after : Meaning) : Type 0 where
  pub more : List ℕ
  pub given : after.given ≡ before.given ++ more
  pub few : length more < asks
