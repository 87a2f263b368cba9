-- What a run receives of its source, for what it was asked.
use Rattle.std.specs.Prelude.{◌≡◌, ◌⊎◌, ℕ, ◌≤◌, ◌+◌, List, [], length, Option, Some}
use Rattle.std.specs.Io.KnownBytes.{prepend_known, IsAtEnd}
use Rattle.program_io.specs.declared.mode.Mode.{Mode}
use Rattle.program_io.specs.declared.mode.Mode.TheVariants.{Run, Generate, Check}

-- the most bytes of an input
abbrev pub most_input : ℕ
most_input = 4194304

-- the most bytes of an input with a report behind it
abbrev pub most_checked : ℕ
most_checked = 71303168

-- the most bytes that a source is asked for, and that a sink is offered, at once
abbrev pub most_piece : ℕ
most_piece = 65536

-- the bytes that a source gave between two states of it: all that there were, or one more than so many
pub record Receives (most : ℕ) (before after : Option (List ℕ)) (bytes : List ℕ) : Type 0 where
  pub given : before ≡ prepend_known bytes after
  pub bounded : length bytes ≤ most + 1
  pub enough : IsAtEnd after ⊎ (length bytes ≡ most + 1)

-- the bytes that a run works on; a generated input takes none of the source
abbrev pub ReceivesFor : Mode → Option (List ℕ) → Option (List ℕ) → List ℕ → Type 0
ReceivesFor Run before after bytes = Receives most_input before after bytes
ReceivesFor (Generate seed) before after bytes = (after ≡ before) × (bytes ≡ [])
ReceivesFor Check before after bytes = Receives most_checked before after bytes

-- the input is generated, and the source left alone
abbrev pub IsGenerated : Mode → Type 0
IsGenerated Run = ⊥
IsGenerated (Generate seed) = Unit {0}
IsGenerated Check = ⊥

-- the bytes that the source holds before the run
abbrev pub HoldsFor : Mode → Option (List ℕ) → List ℕ → Type 0
HoldsFor Run before bytes = before ≡ Some bytes
HoldsFor (Generate seed) before bytes = bytes ≡ []
HoldsFor Check before bytes = before ≡ Some bytes

-- the source is at its end where a run has one to read
abbrev pub HasReadAll : Mode → Option (List ℕ) → Type 0
HasReadAll Run after = IsAtEnd after
HasReadAll (Generate seed) after = Unit {0}
HasReadAll Check after = IsAtEnd after

-- at most one byte more than so many was read, whatever came
pub record ReadsAtMost (most : ℕ) (before after : Option (List ℕ)) : Type 0 where
  pub bytes : List ℕ
  pub given : before ≡ prepend_known bytes after
  pub bounded : length bytes ≤ most + 1

abbrev pub ReadsAtMostFor : Mode → Option (List ℕ) → Option (List ℕ) → Type 0
ReadsAtMostFor Run before after = ReadsAtMost most_input before after
ReadsAtMostFor (Generate seed) before after = after ≡ before
ReadsAtMostFor Check before after = ReadsAtMost most_checked before after
