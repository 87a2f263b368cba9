-- Commands that read alone leave the tables where they are.
use Rattle.std.proofs.Common.{◌≡◌, ◌⊎◌, ℕ, Result, Ok, Err, refl, sym, subst, inl, inr}
use Rattle.plain_data.specs.State.{State}
use Rattle.record_store.specs.Meaning.{Meaning}
use Rattle.replay_model.specs.declared.command.Command.{Command}
use Rattle.replay_model.specs.declared.command.Command.TheVariants.{Get, Put, Ins, Del, Add, Sub, Scan, Find}
use Rattle.replay_model.specs.declared.outcome.Answer.{Answer}
use Rattle.replay_model.specs.declared.outcome.Cause.{Cause}
use Rattle.stored_tables.specs.Answers.{Held, Stands, Answers, Does, ReadsAlone, IsIdle}
use Rattle.stored_tables.specs.Plan.Follows.{stays}

pub reads_by : (command : Command) → ((t : ℕ) × (k : ℕ) × (c : ℕ) × (command ≡ Get t k c)) ⊎
    (((t : ℕ) × (lo : ℕ) × (hi : ℕ) × (limit : ℕ) × (command ≡ Scan t lo hi limit)) ⊎ ((t : ℕ) × (c : ℕ) × (lo : ℕ) × (hi : ℕ)
    × (limit : ℕ) × (command ≡ Find t c lo hi limit))) → ReadsAlone command
reads_by command is = elim is as (λ _. ReadsAlone command) [
  | inl get ↦ subst ReadsAlone (sym get.3) tt
  | inr other ↦ elim other as (λ _. ReadsAlone command) [
    | inl scan ↦ subst ReadsAlone (sym scan.4) tt
    | inr find ↦ subst ReadsAlone (sym find.5) tt
  ]
]

pub read_does : (command : Command) (value : Result Answer Cause) (now : Meaning) (state : State) (held : Held) → ReadsAlone command
    → Stands now state held → Answers command value state held → Does command now value 0 state held
read_does (Get t k c) (Ok answer) now state held reads stands answers = (held.1, answers, (held.0, stands, stays held.0))
read_does (Get t k c) (Err cause) now state held reads stands answers = answers
read_does (Scan t lo hi limit) (Ok answer) now state held reads stands answers = (held.1, answers, (held.0, stands, stays held.0))
read_does (Scan t lo hi limit) (Err cause) now state held reads stands answers = answers
read_does (Find t c lo hi limit) (Ok answer) now state held reads stands answers = (held.1, answers, (held.0, stands, stays held.0))
read_does (Find t c lo hi limit) (Err cause) now state held reads stands answers = answers
read_does (Put t k row) value now state held reads stands answers = absurd reads
read_does (Ins t k row) value now state held reads stands answers = absurd reads
read_does (Del t k) value now state held reads stands answers = absurd reads
read_does (Add t k c by) value now state held reads stands answers = absurd reads
read_does (Sub t k c by) value now state held reads stands answers = absurd reads

-- a command that is no scan lists something
pub not_idle : (command : Command) → ((t lo hi limit : ℕ) → command ≡ Scan t lo hi limit → ⊥) → IsIdle command → ⊥
not_idle (Get t k c) never idle = idle
not_idle (Put t k row) never idle = idle
not_idle (Ins t k row) never idle = idle
not_idle (Del t k) never idle = idle
not_idle (Add t k c by) never idle = idle
not_idle (Sub t k c by) never idle = idle
not_idle (Scan t lo hi limit) never idle = never t lo hi limit refl
not_idle (Find t c lo hi limit) never idle = idle
