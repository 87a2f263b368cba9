-- One command behind others.
use Rattle.std.proofs.Common.{◌≡◌, ℕ, ◌+◌, ◌*◌, ◌<◌, ◌≤◌, List, [], ◌∷◌, ◌++◌, length, take, drop, get_or, Option, Result, Ok, Err, refl, sym, ap, subst, ◌∙◌, arith}
use Rattle.std.specs.Prelude.{All, IsOk}
use Rattle.std.proofs.lemmas.List.{append_assoc, append-nil, take_more, take-append-drop, drop_more, take_all}
use Rattle.plain_data.specs.State.{State}
use Rattle.record_store.specs.Meaning.{Meaning}
use Rattle.record_store.specs.declared.walk.Walk.{Walk}
use Rattle.replay_model.specs.declared.command.Command.{Command}
use Rattle.replay_model.specs.declared.outcome.Answer.{Answer}
use Rattle.replay_model.specs.declared.outcome.Cause.{Cause}
use Rattle.replay_model.specs.Effect.{effect}
use Rattle.replay_model.specs.Running.{run_from, step_then, answer_before}
use Rattle.replay_model.specs.TableMap.{TableMap}
use Rattle.replay_model.proofs.RunLaws.{run_from-take_more, run_from-refused_at}
use Rattle.stored_tables.specs.Answers.{Held, IsIdle, Stands, Does, DueBy, Becomes, Answers}
use Rattle.stored_tables.specs.Blocks.{Left, Saw}
use Rattle.stored_tables.specs.Places.{Places}
use Rattle.stored_tables.specs.Plan.{Move, Follows, MayAsk, plan, plan_then, run_plan}
use Rattle.stored_tables.specs.Plan.Follows.{stays, moves}
use Rattle.stored_tables.specs.Runs.{Looks, Runs}
use Rattle.stored_tables.proofs.Finding.{stands_on}
use Rattle.stored_tables.proofs.Runs.{looks_then, runs_then}

-- ---- commands that read nothing

pub idle_at : (commands : List Command) (command : Command) (i : ℕ) → All IsIdle commands → i < length commands
    → command ≡ get_or commands i command → IsIdle command
idle_at commands command i all within here = subst IsIdle (sym here) (all i command within)

pub not_refused : (value : Result Answer Cause) (cause : Cause) → value ≡ Err cause → IsOk value → ⊥
not_refused (Ok answer) cause is ok = cc
not_refused (Err other) cause is ok = cc

-- ---- plans

abbrev left_by : TableMap → Result (List Answer × TableMap) (ℕ × Cause) → TableMap
left_by d (Ok run) = run.1
left_by d (Err refusal) = d

before_ok : (answer : Answer) (rest : Result (List Answer × TableMap) (ℕ × Cause)) (answers : List Answer) (left : TableMap)
    → answer_before answer rest ≡ Ok (answers, left) → (later : List Answer) × (rest ≡ Ok (later, left))
before_ok answer (Ok run) answers left is = let same : run.1 ≡ left = ap (left_by left) is in (run.0, ap (λ t. Ok (run.0, t)) same)
before_ok answer (Err refusal) answers left is = cc

pub run_plan-append : (n : ℕ) (xs ys : List Command) (tables left : TableMap) (answers : List Answer)
    → run_from n xs tables ≡ Ok (answers, left) → run_plan (xs ++ ys) tables ≡ run_plan xs tables ++ run_plan ys left
run_plan-append n [] ys tables left answers ran = let same : tables ≡ left = ap (left_by left) ran in ap (run_plan ys) same
run_plan-append n (x ∷ xs) ys tables left answers ran =
    elim (effect x tables) as (λ step. step_then n step (λ l. run_from (n + 1) xs l) ≡ Ok (answers, left)
    → plan x tables ++ plan_then step (λ l. run_plan (xs ++ ys) l) ≡ (plan x tables ++ plan_then step
    (λ l. run_plan xs l)) ++ run_plan ys left) [
      | Ok step ↦ λ is.
          let later = before_ok step.0 (run_from (n + 1) xs step.1) answers left is in
          ap (λ more. plan x tables ++ more) (run_plan-append (n + 1) xs ys step.1 left later.0 later.1)
          ∙ sym (append_assoc (plan x tables) (run_plan xs step.1) (run_plan ys left))
      | Err cause ↦ λ is. cc
    ] ran

none_behind : (step : Result (Answer × TableMap) Cause) → plan_then step (λ l. run_plan [] l) ≡ []
none_behind (Ok step) = refl
none_behind (Err cause) = refl

run_plan-one : (command : Command) (left : TableMap) → run_plan (command ∷ []) left ≡ plan command left
run_plan-one command left = ap (λ more. plan command left ++ more) (none_behind (effect command left)) ∙ append-nil (plan command left)

pub plan_more : (commands : List Command) (i : ℕ) (d : Command) (tables left : TableMap) (answers : List Answer) → i < length commands
    → run_from 1 (take i commands) tables ≡ Ok (answers, left) → run_plan (take (i + 1) commands) tables ≡ run_plan (take i commands)
    tables ++ plan (get_or commands i d) left
plan_more commands i d tables left answers within ran =
    ap (λ cs. run_plan cs tables) (take_more commands i d within) ∙ run_plan-append 1 (take i commands) (get_or commands i d ∷ []) tables
    left answers ran
    ∙ ap (λ more. run_plan (take i commands) tables ++ more) (run_plan-one (get_or commands i d) left)

pub plan_all : (commands : List Command) (i : ℕ) (d : Command) (tables left : TableMap) (answers : List Answer) → i < length commands
    → run_from 1 (take i commands) tables ≡ Ok (answers, left) → (rest : List Move)
    × (run_plan commands tables ≡ run_plan (take i commands) tables ++ (plan (get_or commands i d) left ++ rest))
plan_all commands i d tables left answers within ran = (
  plan_then (effect (get_or commands i d) left) (λ l. run_plan (drop (i + 1) commands) l),
  ap (λ cs. run_plan cs tables) (sym (take-append-drop i commands) ∙ ap (λ cs. take i commands ++ cs) (drop_more commands i d within))
      ∙ run_plan-append 1 (take i commands) (get_or commands i d ∷ drop (i + 1) commands) tables left answers ran,
)

pub follows_append : (xs ys : List Move) (places between after : Places) (n m : ℕ) → Follows xs places n between
    → Follows ys between m after → Follows (xs ++ ys) places (n + m) after
follows_append [] ys places between after n m (stays p) rest = let same : m ≡ 0 + m = omega arith in let P : ℕ
    → Type 0 = λ k. Follows ys places k after in subst P same rest
follows_append (x ∷ xs) ys places between after n m (moves move more p middle last asks asked one first) rest =
    let same : asks + (asked + m) ≡ asks + asked + m = omega arith in
    let P : ℕ → Type 0 = λ k. Follows (x ∷ (xs ++ ys)) places k after in
    subst P same (moves x (xs ++ ys) places middle after asks (asked + m) one
    (follows_append xs ys middle between after asked m first rest))

pub may_behind : (planned first mine rest : List Move) (places between : Places) (earlier asks : ℕ) → planned ≡ first ++ (mine ++ rest)
    → Follows first places earlier between → MayAsk mine between asks → MayAsk planned places (earlier + asks)
may_behind planned first mine rest places between earlier asks is follows may = record {
  before = first ++ may.before;
  move = may.move;
  after = may.after ++ rest;
  is_planned =
      is
      ∙ ap (λ more. first ++ (more ++ rest)) may.is_planned
      ∙ ap (λ more. first ++ more) (append_assoc may.before (may.move ∷ may.after) rest)
      ∙ sym (append_assoc first may.before (may.move ∷ (may.after ++ rest)));
  between = may.between;
  earlier = earlier + may.earlier;
  follows = follows_append first may.before places between may.between earlier may.earlier follows may.follows;
  now = may.now;
  due = may.due;
  counted = (let c = may.counted in omega (arith, c));
}

-- ---- one command more

-- it was answered, or it was refused
abbrev pub StepTo : List Command → ℕ → List Answer → Meaning → Result Answer Cause → ℕ → State → Held → Type 0
StepTo commands i answers now (Ok answer) asked state held = Left (take (i + 1) commands) (answers ++ answer ∷ []) now asked state held
StepTo commands i answers now (Err cause) asked state held = run_from 1 commands held.1 ≡ Err (i + 1, cause)

becomes_more : (commands : List Command) (command : Command) (i : ℕ) (answers : List Answer) (left tables : TableMap) (between : Places)
    (now : Meaning) (before asked : ℕ) (state : State) (held : Held) → i < length commands → command ≡ get_or commands i command
    → run_from 1 (take i commands) held.1 ≡ Ok (answers, left) → Follows (run_plan (take i commands) held.1) held.0 before between
    → Becomes (plan command left) tables now asked state (between, left) → Becomes (run_plan (take (i + 1) commands) held.1) tables now
    (before + asked) state held
becomes_more commands command i answers left tables between now before asked state held within here ran follows did =
    let more : run_plan (take (i + 1) commands) held.1 ≡ run_plan (take i commands) held.1 ++ plan command left = plan_more commands i
    command held.1 left answers within ran ∙ ap (λ c. run_plan (take i commands) held.1 ++ plan c left) (sym here) in
    let P : List Move → Type 0 = λ l. Follows l held.0 (before + asked) did.0 in (
      did.0,
      did.1,
      subst P (sym more) (follows_append (run_plan (take i commands) held.1) (plan command left) held.0 between did.0 before
          asked follows did.2),
    )

pub step_to : (commands : List Command) (command : Command) (i : ℕ) (answers : List Answer) (left : TableMap) (between : Places)
    (now : Meaning) (value : Result Answer Cause) (before asked : ℕ) (state : State) (held : Held) → i < length commands
    → command ≡ get_or commands i command → run_from 1 (take i commands) held.1 ≡ Ok (answers, left)
    → Follows (run_plan (take i commands) held.1) held.0 before between → Does command now value asked state (between, left)
    → StepTo commands i answers now value (before + asked) state held
step_to commands command i answers left between now (Ok answer) before asked state held within here ran follows did = (
  did.0,
  run_from-take_more commands i command held.1 left did.0 answers answer within ran (ap (λ c. effect c left) (sym here) ∙ did.1),
  becomes_more commands command i answers left did.0 between now before asked state held within here ran follows did.2,
)
step_to commands command i answers left between now (Err cause) before asked state held within here ran follows did =
    run_from-refused_at commands i command held.1 left answers cause within ran (ap (λ c. effect c left) (sym here) ∙ did)

may_next : (commands : List Command) (command : Command) (i : ℕ) (answers : List Answer) (left : TableMap) (between : Places)
    (before asks : ℕ) (held : Held) → i < length commands → command ≡ get_or commands i command
    → run_from 1 (take i commands) held.1 ≡ Ok (answers, left) → Follows (run_plan (take i commands) held.1) held.0 before between
    → MayAsk (plan command left) between asks → MayAsk (run_plan commands held.1) held.0 (before + asks)
may_next commands command i answers left between before asks held within here ran follows may =
    let all = plan_all commands i command held.1 left answers within ran in
    may_behind (run_plan commands held.1) (run_plan (take i commands) held.1) (plan command left) all.0 held.0 between before asks
    (all.1 ∙ ap (λ c. run_plan (take i commands) held.1 ++ (plan c left ++ all.0)) (sym here)) follows may

-- the same where nothing changes
abbrev pub SeenTo : List Command → ℕ → List Answer → Result Answer Cause → State → Held → Type 0
SeenTo commands i answers (Ok answer) state held = Saw (take (i + 1) commands) (answers ++ answer ∷ []) state held
SeenTo commands i answers (Err cause) state held = run_from 1 commands held.1 ≡ Err (i + 1, cause)

seen_to : (commands : List Command) (command : Command) (i : ℕ) (answers : List Answer) (value : Result Answer Cause) (state : State)
    (held : Held) → i < length commands → command ≡ get_or commands i command → Saw (take i commands) answers state held
    → Answers command value state held → SeenTo commands i answers value state held
seen_to commands command i answers (Ok answer) state held within here ran did = run_from-take_more commands i command held.1 held.1
    held.1 answers answer within ran (ap (λ c. effect c held.1) (sym here) ∙ did)
seen_to commands command i answers (Err cause) state held within here ran did = run_from-refused_at commands i command held.1 held.1
    answers cause within ran (ap (λ c. effect c held.1) (sym here) ∙ did)

pub seen_value : (commands : List Command) (i : ℕ) (answers answers' : List Answer) (value : Result Answer Cause) (answer : Answer)
    (state : State) (held : Held) → value ≡ Ok answer → answers' ≡ answers ++ answer ∷ [] → SeenTo commands i answers value state held
    → Saw (take (i + 1) commands) answers' state held
seen_value commands i answers answers' value answer state held is grown did =
    let P : Result Answer Cause → Type 0 = λ v. SeenTo commands i answers v state held in
    let Q : List Answer → Type 0 = λ xs. Saw (take (i + 1) commands) xs state held in
    subst Q (sym grown) (subst P is did)

pub seen_refused : (commands : List Command) (i : ℕ) (answers : List Answer) (value : Result Answer Cause) (cause : Cause)
    (state : State) (held : Held) → value ≡ Err cause → SeenTo commands i answers value state held
    → run_from 1 commands held.1 ≡ Err (i + 1, cause)
seen_refused commands i answers value cause state held is did = let P : Result Answer Cause
    → Type 0 = λ v. SeenTo commands i answers v state held in subst P is did

pub step_value : (commands : List Command) (i : ℕ) (answers answers' : List Answer) (now : Meaning) (value : Result Answer Cause)
    (answer : Answer) (asked : ℕ) (state : State) (held : Held) → value ≡ Ok answer → answers' ≡ answers ++ answer ∷ []
    → StepTo commands i answers now value asked state held → Left (take (i + 1) commands) answers' now asked state held
step_value commands i answers answers' now value answer asked state held is grown did =
    let P : Result Answer Cause → Type 0 = λ v. StepTo commands i answers now v asked state held in
    let Q : List Answer → Type 0 = λ xs. Left (take (i + 1) commands) xs now asked state held in
    subst Q (sym grown) (subst P is did)

pub step_refused : (commands : List Command) (i : ℕ) (answers : List Answer) (now : Meaning) (value : Result Answer Cause)
    (cause : Cause) (asked : ℕ) (state : State) (held : Held) → value ≡ Err cause → StepTo commands i answers now value asked state held
    → run_from 1 commands held.1 ≡ Err (i + 1, cause)
step_refused commands i answers now value cause asked state held is did = let P : Result Answer Cause
    → Type 0 = λ v. StepTo commands i answers now v asked state held in subst P is did

-- all commands
pub seen_all : (commands : List Command) (i : ℕ) (answers answers' : List Answer) (state : State) (held : Held) → length commands ≤ i
    → answers' ≡ answers → Saw (take i commands) answers state held → Saw commands answers' state held
seen_all commands i answers answers' state held past same saw =
    let P : List Command → Type 0 = λ cs. Saw cs answers' state held in
    let Q : List Answer → Type 0 = λ xs. Saw (take i commands) xs state held in
    subst P (take_all i commands past) (subst Q (sym same) saw)

pub left_all : (commands : List Command) (i : ℕ) (answers answers' : List Answer) (now : Meaning) (asked : ℕ) (state : State)
    (held : Held) → length commands ≤ i → answers' ≡ answers → Left (take i commands) answers now asked state held
    → Left commands answers' now asked state held
left_all commands i answers answers' now asked state held past same left =
    let P : List Command → Type 0 = λ cs. Left cs answers' now asked state held in
    let Q : List Answer → Type 0 = λ xs. Left (take i commands) xs now asked state held in
    subst P (take_all i commands past) (subst Q (sym same) left)

module _ {S F : Type 0} {read_gives : S → ℕ → Result (Option (List ℕ)) F → S → Type 0} {meaning : S → Meaning} where
  pub next_looks : (commands : List Command) (command : Command) (i : ℕ) (answers : List Answer) (first middle last : S)
      (result : Result (Result Answer Cause) (Walk F)) → i < length commands → command ≡ get_or commands i command
      → Looks read_gives meaning (Stands (meaning first)) (λ _. Saw (take i commands) answers) first middle (Ok (tt {0}))
      → Looks read_gives meaning (Stands (meaning middle)) (Answers command) middle last result
      → Looks read_gives meaning (Stands (meaning first)) (SeenTo commands i answers) first last result
  next_looks commands command i answers first middle last result within here acc step =
      looks_then (SeenTo commands i answers) first middle last (Ok (tt {0})) tt result acc refl step
      (λ state held agrees stands saw. (
        held,
        stands_on (meaning first) (meaning middle) state held acc.by.only stands,
        λ value did. seen_to
            commands command i answers value state held within here saw did,
      ))

module _ {S F : Type 0} {read_gives : S → ℕ → Result (Option (List ℕ)) F → S → Type 0} {write_gives : S → ℕ → Option (List ℕ)
    → Result (Unit {0}) F → S → Type 0} {fresh_gives : S → Result ℕ F → S → Type 0} {meaning : S → Meaning} where
  pub next_runs : (commands : List Command) (command : Command) (i : ℕ) (answers : List Answer) (first middle last : S)
      (result : Result (Result Answer Cause) (Walk F)) → i < length commands → command ≡ get_or commands i command
      → Runs read_gives write_gives fresh_gives meaning (Stands (meaning first)) (DueBy (run_plan commands))
      (λ _. Left (take i commands) answers (meaning middle)) (128 * i) first middle (Ok (tt {0}))
      → Runs read_gives write_gives fresh_gives meaning (Stands (meaning middle)) (DueBy (plan command)) (Does command (meaning last)) 128
      middle last result
      → Runs read_gives write_gives fresh_gives meaning (Stands (meaning first)) (DueBy (run_plan commands))
      (StepTo commands i answers (meaning last)) (128 * i + 128) first last result
  next_runs commands command i answers first middle last result within here acc step =
      runs_then (StepTo commands i answers (meaning last)) (128 * i) 128 first middle last (Ok (tt {0})) tt result acc refl step
      (λ before state held agrees stands left. (
        (left.2.0, left.0),
        left.2.1,
        λ asks may. may_next commands command i answers left.0 left.2.0 before asks held within here left.1 left.2.2 may,
        λ value asked did. step_to commands command i answers left.0 left.2.0 (meaning last) value before asked state held within here
            left.1 left.2.2 did,
      ))
