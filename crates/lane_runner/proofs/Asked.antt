-- A block of commands at the seat that is alone: what it writes, and why it is never refused.
use Rattle.std.proofs.Common.{◌≡◌, ◌⊎◌, ℕ, ◌+◌, ◌*◌, ◌<◌, ◌≤◌, true, false, List, [], ◌++◌, length, Option, None, Some, IsSome, Result, Ok, Err, refl, sym, ap, subst, ◌∙◌, arith, inl, inr, ⊎_elim, Contains}
use Rattle.std.proofs.lemmas.Bool.{eqb-true}
use Rattle.std.proofs.lemmas.Map.Views.{Contains-from_any}
use Rattle.plain_data.specs.State.{State, overlay}
use Rattle.histories.specs.History.{Lawful, Leaves}
use Rattle.record_store.specs.Calls.{CallFault}
use Rattle.record_store.specs.Calls.CallFault.{by_read, by_write, by_fresh}
use Rattle.record_store.specs.Meaning.{Meaning, value_at}
use Rattle.record_store.specs.Walks.{ReadsGrow}
use Rattle.record_store.specs.declared.walk.Walk.{Walk}
use Rattle.record_store.specs.Writes.{WritesAtMost, WritesKnown, IsKnown, GivesFewer}
use Rattle.replay_model.specs.declared.command.Command.{Command}
use Rattle.replay_model.specs.declared.outcome.Outcome.{Outcome}
use Rattle.replay_model.specs.declared.outcome.Outcome.TheVariants.{Done, Refused}
use Rattle.replay_model.specs.Running.{outcome_of, tables_after}
use Rattle.replay_model.specs.TableMap.{TableMap}
use Rattle.stored_tables.specs.Blocks.{Called}
use Rattle.stored_tables.specs.Places.{Places, fixed_records}
use Rattle.stored_tables.specs.Plan.{MayAsk, run_plan}
use Rattle.stored_tables.specs.Tables.{StandsFor, EachTables}
use Rattle.stored_tables.specs.Weight.{weight, all_add}
use Rattle.stored_tables.specs.Weights.{AreKnown, RunAdds, RecordLeft}
use Rattle.spare_numbers.specs.Spare.{is_on}
use Rattle.txn_engine.specs.Leaves.{NoneRemains}
use Rattle.txn_engine.specs.Pass.{PassView}
use Rattle.lane_runner.proofs.Within.{leaves_one}
use Rattle.lane_runner.proofs.Entries.{with_none, refused_stays}
use Rattle.lane_runner.specs.Weighs.{LeadsTo, RunsTo, AddsWeight}

at_most_more : (n more : ℕ) → n ≤ n + more
at_most_more n more = omega arith

-- ---- steps

-- commands add no more to the weight than is said of them
pub runs_add : RunAdds → (commands : List Command) (tables : TableMap) (places after : Places) → RunsTo commands tables places after → AddsWeight (all_add commands tables) places after
runs_add adds commands tables places after (inl follows) = adds commands tables places after follows.0 follows.1
runs_add adds commands tables places after (inr same) = subst (λ (now : Places). weight now ≤ weight places + all_add commands tables) (sym same) (at_most_more (weight places) (all_add commands tables))

-- less is said of the step
pub leads_weaker : (records : ℕ) (reads writes : List (ℕ × Option (List ℕ))) (tables tables' : TableMap) (Step Then : Places → Places → Type 0) → ((places after : Places) → Step places after → Then places after)
    → LeadsTo records reads writes tables tables' Step → LeadsTo records reads writes tables tables' Then
leads_weaker records reads writes tables tables' Step Then goes leads state places agrees holds =
    let step = leads state places agrees holds in
    (step.0, step.1, goes places step.0 step.2)

room_lighter : (fixed light most more records : ℕ) → light ≤ most → fixed + (most + more) ≤ records → fixed + (light + more) ≤ records
room_lighter fixed light most more records below room = omega arith

not_low : (from rid : ℕ) → from ≤ rid → rid < from → ⊥
not_low from rid low high = omega arith

-- ---- what it writes

module _ {S F : Type 0} (read_gives : S → ℕ → Result (Option (List ℕ)) F → S → Type 0) (write_gives : S → ℕ → Option (List ℕ) → Result (Unit {0}) F → S → Type 0)
    (fresh_gives : S → Result ℕ F → S → Type 0) (meaning : S → Meaning) (commands : List Command) (first last : S) where
  -- at most 128 records for each command
  pub few_writes : (outcome : Outcome) → Called read_gives write_gives fresh_gives meaning commands first last (Ok outcome) → (meaning first).writes ≡ [] → length commands ≤ 64 → length (meaning last).writes ≤ 8192
  few_writes (Done answers) called none few =
      let longer : length (meaning called.before).writes ≤ length (meaning first).writes + 128 * length commands = called.few.longer in
      let start : length (meaning first).writes ≡ 0 = ap (λ (ws : List (ℕ × Option (List ℕ))). length ws) none in
      let same : length (meaning last).writes ≡ length (meaning called.before).writes = ap (λ (m : Meaning). length m.writes) called.done.0 in
      omega arith
  few_writes (Refused command cause) called none few =
      let same : length (meaning last).writes ≡ 0 = ap (λ (m : Meaning). length m.writes) called.refused in
      omega arith

  -- its writes lead to the tables after it, by the step that its commands make
  pub leads_run : (outcome : Outcome) (tables : TableMap) → EachTables (meaning first) (meaning last) (λ _ _ tables. outcome ≡ outcome_of commands tables)
      → Called read_gives write_gives fresh_gives meaning commands first last (Ok outcome) → ReadsGrow (meaning first) (meaning last) → (meaning first).writes ≡ []
      → LeadsTo (meaning first).size (meaning last).reads (meaning last).writes tables (tables_after commands tables) (RunsTo commands tables)
  leads_run (Done answers) tables told called grow none state places agrees holds =
      let left = called.done.1 state places tables agrees (with_none _ _ state places tables none holds) in
      (left.0, subst (λ (size : ℕ). StandsFor size (overlay (meaning last).writes state) left.0 (tables_after commands tables)) grow.size left.1, inl (called.asked, left.2))
  leads_run (Refused command cause) tables told called grow none state places agrees holds =
      let stays = refused_stays commands command cause tables (told state places tables agrees (with_none _ _ state places tables none holds)) in
      let here = with_none (meaning first).size (meaning last).writes state places tables (ap (λ (m : Meaning). m.writes) called.refused) holds in
      (places, subst (λ (after : TableMap). StandsFor (meaning first).size (overlay (meaning last).writes state) places after) (sym stays) here, inr refl)

  -- what it has written where it came to a fault
  pub known_written : (fault : Walk F) → Called read_gives write_gives fresh_gives meaning commands first last (Err fault) → EachTables (meaning first) (meaning last) (λ state _ _. WritesKnown (meaning first) (meaning last) state)
  known_written fault called state places tables agrees holds = subst (λ (m : Meaning). WritesKnown (meaning first) m state) (sym called.otherwise) (called.writes state places tables agrees holds)

-- ---- why it wants for no record

-- where neither a read nor a write answers a fault, an ask did
module _ {S F : Type 0} (read_gives : S → ℕ → Result (Option (List ℕ)) F → S → Type 0) (write_gives : S → ℕ → Option (List ℕ) → Result (Unit {0}) F → S → Type 0)
    (fresh_gives : S → Result ℕ F → S → Type 0) (May : ℕ → Type 0) (first last : S) (fault : F)
    (no_read : (s : S) (rid : ℕ) → read_gives s rid (Err fault) last → ⊥) (no_write : (s : S) (rid : ℕ) (value : Option (List ℕ)) → write_gives s rid value (Err fault) last → ⊥) where
  pub by_an_ask : CallFault read_gives write_gives fresh_gives May first last fault → (before : S) × (asks : ℕ) × fresh_gives before (Err fault) last × May asks
  by_an_ask (by_read before asked rid calls answer) = absurd (no_read before rid answer)
  by_an_ask (by_write before asked rid value calls answer) = absurd (no_write before rid value answer)
  by_an_ask (by_fresh before asked calls answer may) = (before, asked + 1, answer, may)

-- where none is left, each record that is absent in the state that such a log leaves is given out or written
absent_taken : (kept : State → Type 0) (state : State) (p : PassView) → Lawful kept p.shared.size.records p.log → Leaves (Contains p.log) state → NoneRemains p
    → (r : ℕ) → p.fixed ≤ r → r < p.shared.size.records → state r ≡ None → (is_on p.given r ≡ true) ⊎ IsSome (value_at p.writes r)
absent_taken kept state p lawful leaves none r from within absent = elim (none r from within) as (λ _. (is_on p.given r ≡ true) ⊎ IsSome (value_at p.writes r)) [
  | inl given ↦ inl given
  | inr more ↦ elim more as (λ _. (is_on p.given r ≡ true) ⊎ IsSome (value_at p.writes r)) [
    | inl written ↦ inr written
    | inr present ↦ absurd (let same : Some present.0 ≡ state r = leaves_one kept p.shared.size.records p.log p.log r (Some present.0) (state r) lawful (λ e h. h) present.1 (leaves r) in let bad : Some present.0 ≡ None = same ∙ absent in cc)
  ]
]

-- Where no number is left, each that is absent is given or written; but one is left, neither present nor given, and a block writes no
-- other.
pub no_ask_refused : (kept : State → Type 0) (q : PassView) (commands : List Command) (asked most : ℕ) (state : State) (places : Places) (tables : TableMap)
    → RecordLeft → NoneRemains q → Lawful kept q.shared.size.records q.log → Leaves (Contains q.log) state → StandsFor q.shared.size.records state places tables → weight places ≤ most
    → AreKnown commands → MayAsk (run_plan commands tables) places asked → fixed_records ≤ q.fixed → q.fixed + (most + all_add commands tables) ≤ q.shared.size.records
    → length q.given < asked
    → ((rid : ℕ) → IsSome (value_at q.writes rid) → Contains q.given rid ⊎ ((rid < q.fixed) ⊎ ((words : List ℕ) × (state rid ≡ Some words)))) → ⊥
no_ask_refused kept q commands asked most state places tables left none lawful leaves holds light known may fixed room few written =
    let found = left q.shared.size.records q.fixed q.shared.size.records state places tables commands asked q.given holds known may fixed (room_lighter q.fixed (weight places) most (all_add commands tables) q.shared.size.records light room) few in
    ⊎_elim (λ given. found.3.not_given (Contains-from_any eqb-true found.0 q.given given))
    (λ writes. ⊎_elim (λ given. found.3.not_given given) (λ more. ⊎_elim (λ low. not_low q.fixed found.0 found.1 low) (λ present. let is : None ≡ Some present.0 = sym found.3.absent ∙ present.1 in absurd (cc)) more) (written found.0 writes))
    (absent_taken kept state q lawful leaves none found.0 found.1 found.2 found.3.absent)

pub one_write : (before after' : Meaning) → before.writes ≡ [] → WritesAtMost 1 before after' → length after'.writes ≤ 8192
one_write before after' none few =
    let longer : length after'.writes ≤ length before.writes + 1 = few.longer in
    let start : length before.writes ≡ 0 = ap (λ (ws : List (ℕ × Option (List ℕ))). length ws) none in
    omega arith

-- what a block without earlier writes has written, and how many numbers it was given
pub known_writes : (m m' : Meaning) (state : State) → m.writes ≡ [] → WritesKnown m m' state → (rid : ℕ) → IsSome (value_at m'.writes rid) → Contains m'.given rid ⊎ IsKnown m.fixed state rid
known_writes m m' state none known rid written =
    ⊎_elim (λ before. let bad : false ≡ true = subst (λ (ws : List (ℕ × Option (List ℕ))). IsSome (value_at ws rid)) none before in absurd (cc)) (λ more. more) (known rid written)

pub few_given : (asks : ℕ) (m m' : Meaning) → m.given ≡ [] → GivesFewer asks m m' → length m'.given < asks
few_given asks m m' none fewer = subst (λ (xs : List ℕ). length xs < asks) (sym (fewer.given ∙ ap (λ (xs : List ℕ). xs ++ fewer.more) none)) fewer.few
