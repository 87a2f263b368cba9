-- Answers of commands: one to each, and their text.
use Rattle.std.proofs.Common.{◌≡◌, ℕ, zero, suc, ◌+◌, min, List, [], ◌∷◌, ◌++◌, map, length, take, Option, Some, Result, Ok, Err, All, refl, sym, ap, subst, ◌∙◌, arith}
use Rattle.std.specs.Prelude.{◌==◌, ◌||◌, None, cond, true, false, option_and_then, ◌-◌, slice_get}
use Rattle.std.proofs.lemmas.List.{append-nil, append_assoc, length-take}
use Rattle.std.proofs.lemmas.Option.{slice_get_within, get_or_from_slice_get, same_Some}
use Rattle.replay_model.specs.declared.command.Command.{Command}
use Rattle.replay_model.specs.declared.input.Block.{Block}
use Rattle.replay_model.specs.declared.outcome.Answer.{Answer}
use Rattle.replay_model.specs.declared.outcome.Cause.{Cause}
use Rattle.replay_model.specs.declared.outcome.Outcome.{Outcome}
use Rattle.replay_model.specs.declared.outcome.Placed.{Placed}
use Rattle.replay_model.specs.TableMap.{TableMap}
use Rattle.replay_model.specs.Effect.{effect}
use Rattle.replay_model.specs.Running.{run_from, answer_before, step_then, outcome_from, outcome_of, tables_behind}
use Rattle.replay_model.specs.Replay.{block_at, block_named, outcomes_of}
use Rattle.replay_model.specs.Report.{answer_text, each_text, columns_of, table_named}
use Rattle.replay_model.specs.Answered.{HasAnswers, AllAnswered}
use Rattle.replay_model.proofs.Items.{take_more_at}

abbrev Run : Type 0
Run = Result (List Answer × TableMap) (ℕ × Cause)

-- ---- one answer to each command

-- where all ran, there are so many answers
abbrev Counts : ℕ → Run → Type 0
Counts n (Ok run) = n ≡ length run.0
Counts n (Err refusal) = Unit {0}

counts-before : (n : ℕ) (answer : Answer) (run : Run) → Counts n run → Counts (suc n) (answer_before answer run)
counts-before n answer (Ok run) h = ap (λ m. suc m) h
counts-before n answer (Err refusal) h = tt

counts-run : (n : ℕ) (commands : List Command) (tables : TableMap) → Counts (length commands) (run_from n commands tables)
counts-run n [] tables = refl
counts-run n (command ∷ commands) tables =
    elim (effect command tables) as (λ step. Counts (suc (length commands)) (step_then n step (λ left. run_from (n + 1) commands left))) [
      | Ok step ↦ counts-before (length commands) step.0 (run_from (n + 1) commands step.1) (counts-run (n + 1) commands step.1)
      | Err cause ↦ tt
    ]

answered-from : (commands : List Command) (run : Run) → Counts (length commands) run → HasAnswers commands (outcome_from run)
answered-from commands (Ok run) h = h
answered-from commands (Err refusal) h = tt

pub answered : (commands : List Command) (tables : TableMap) → HasAnswers commands (outcome_of commands tables)
answered commands tables = answered-from commands (run_from 1 commands tables) (counts-run 1 commands tables)

pub all_answered : (lanes : List (List Block)) (order : List Placed) (tables : TableMap) → AllAnswered lanes order (outcomes_of (map (block_named lanes) order) tables)
all_answered lanes [] tables i placed outcome at has = absurd cc
all_answered lanes (first ∷ order) tables zero placed outcome at has =
    let same = same_Some first placed at in
    let is = same_Some (outcome_of (block_named lanes first).commands tables) outcome has in
    subst (λ (p : Placed). HasAnswers (block_named lanes p).commands outcome) same
    (subst (λ (o : Outcome). HasAnswers (block_named lanes first).commands o) is (answered (block_named lanes first).commands tables))
all_answered lanes (first ∷ order) tables (suc i) placed outcome at has =
    all_answered lanes order (tables_behind (block_named lanes first) tables) i placed outcome at has

-- ---- the text of answers

each_text-append : (tables : List (List ℕ × ℕ)) (commands more : List Command) (answers others : List Answer) → length commands ≡ length answers → each_text tables (commands ++ more) (answers ++ others) ≡ each_text tables commands answers ++ each_text tables more others
each_text-append tables [] more [] others same = refl
each_text-append tables [] more (answer ∷ answers) others same = absurd (omega arith)
each_text-append tables (command ∷ commands) more [] others same = absurd (omega arith)
each_text-append tables (command ∷ commands) more (answer ∷ answers) others same =
    let rest : length commands ≡ length answers = omega arith in
    let first : List ℕ = answer_text (columns_of tables (table_named command)) answer in
    ap (λ text. first ++ text) (each_text-append tables commands more answers others rest)
    ∙ sym (append_assoc first (each_text tables commands answers) (each_text tables more others))

-- one answer more
pub each_text-take : (tables : List (List ℕ × ℕ)) (commands : List Command) (answers : List Answer) (i : ℕ) (command : Command) (answer : Answer) → length commands ≡ length answers → slice_get commands i ≡ Some command → slice_get answers i ≡ Some answer → each_text tables (take (i + 1) commands) (take (i + 1) answers) ≡ each_text tables (take i commands) (take i answers) ++ answer_text (columns_of tables (table_named command)) answer
each_text-take tables commands answers i command answer same at has =
    let fronts : length (take i commands) ≡ length (take i answers) = length-take i commands ∙ ap (min i) same ∙ sym (length-take i answers) in
    (λ j. each_text tables (take_more_at commands i command at j) (take_more_at answers i answer has j))
    ∙ each_text-append tables (take i commands) (command ∷ []) (take i answers) (answer ∷ []) fronts
    ∙ ap (λ text. each_text tables (take i commands) (take i answers) ++ text) (append-nil (answer_text (columns_of tables (table_named command)) answer))

-- ---- what holds of all blocks holds of one that is found

there : {X : Type 0} (P : X → Type 0) (xs : List X) (i : ℕ) (x : X) → slice_get xs i ≡ Some x → All P xs → P x
there P xs i x at all = subst P (get_or_from_slice_get xs i x x at) (all i x (slice_get_within xs i x at))

inner : (P : Block → Type 0) (o : Option (List Block)) (n : ℕ) (block : Block) → ((blocks : List Block) → o ≡ Some blocks → All P blocks) → option_and_then (λ blocks. slice_get blocks n) o ≡ Some block → P block
inner P None n block all at = absurd cc
inner P (Some blocks) n block all at = there P blocks n block at (all blocks refl)

pub block_is : (P : Block → Type 0) (lanes : List (List Block)) (lane number : ℕ) (block : Block) → block_at lanes lane number ≡ Some block → All (λ blocks. All P blocks) lanes → P block
block_is P lanes lane number block at all =
    elim (lane == 0 || number == 0) as (λ b. cond b None (option_and_then (λ blocks. slice_get blocks (number - 1)) (slice_get lanes (lane - 1))) ≡ Some block → P block) [
      | true ↦ λ e. absurd cc
      | false ↦ λ e. inner P (slice_get lanes (lane - 1)) (number - 1) block (λ blocks here. there (All P) lanes (lane - 1) blocks here all) e
    ] at
