-- A row written to a new record.
use Rattle.std.proofs.Common.{◌≡◌, ℕ, ◌+◌, ◌≤◌, List, Option, None, Some, Result, Ok, Err, refl, ap, subst, ◌∙◌, arith, inl, inr}
use Rattle.std.specs.Prelude.{IsErrAnd}
use Rattle.plain_data.specs.State.{State, overlay}
use Rattle.record_store.specs.Meaning.{Meaning, with_value, after_write, after_fresh}
use Rattle.record_store.specs.Store.{IsFresh}
use Rattle.record_store.specs.declared.walk.Walk.{Walk}
use Rattle.record_store.proofs.Known.{fresh-given}
use Rattle.record_store.specs.declared.walk.Walk.TheVariants.{Store}
use Rattle.stored_tables.specs.Answers.{AddsRow, LacksRow}
use Rattle.stored_tables.specs.Places.{Places, fixed_records}
use Rattle.stored_tables.specs.Runs.{Runs}
use Rattle.stored_tables.proofs.Runs.{runs_then}
use Rattle.stored_tables.proofs.Writing.{write_refused, write_done, fresh_done}
use Rattle.stored_tables.proofs.RowSteps.{WroteOne, adds_row}

module _ {S F : Type 0} {read_gives : S → ℕ → Result (Option (List ℕ)) F → S → Type 0} {write_gives : S → ℕ → Option (List ℕ)
    → Result (Unit {0}) F → S → Type 0} {fresh_gives : S → Result ℕ F → S → Type 0} {meaning : S → Meaning} (table key : ℕ)
    (words : List ℕ) (first middle last : S) (rid : ℕ) (value : Option (List ℕ)) (gave : fresh_gives first (Ok rid) middle)
    (new : IsFresh (meaning first) rid) (given : meaning middle ≡ after_fresh (meaning first) rid) where
  pub adds_refused : (fault : F) (result : Result ℕ (Walk F)) → write_gives middle rid value (Err fault) last
      → meaning last ≡ meaning middle → IsErrAnd result (λ w. w ≡ Store fault) → Runs read_gives write_gives fresh_gives meaning
      (LacksRow (meaning first) table key) (λ asks _ _. asks ≤ 1) (λ at. AddsRow table key at words (meaning first) (meaning last)) 1
      first last result
  adds_refused fault result gives same is =
      let Did : ℕ → ℕ → State → Places → Type 0 = λ at. AddsRow table key at words (meaning first) (meaning last) in
      let Few : ℕ → State → Places → Type 0 = λ asks state places. asks ≤ 1 in
      let Does : ℕ → ℕ → State → Places → Type 0 = λ _ _ _ _. ⊥ in
      let Inner : State → Places → Type 0 = LacksRow (meaning first) table key in
      runs_then Did 0 1 first middle last (Ok rid) rid result
      (fresh_done (LacksRow (meaning first) table key) Few first middle rid gave new given (λ state places lacks. omega arith)) refl
      (write_refused Inner (λ _ _ _. ⊥) Does 1 middle last rid value fault result gives same is)
      (λ before state places agrees lacks did. (places, lacks, λ asks never. absurd never, λ w asked never. absurd never))

  pub adds_done : write_gives middle rid value (Ok tt) last → meaning last ≡ after_write (meaning middle) rid value → value ≡ Some words
      → fixed_records ≤ (meaning first).fixed → Runs {F = F} read_gives write_gives fresh_gives meaning
      (LacksRow (meaning first) table key) (λ asks _ _. asks ≤ 1) (λ at. AddsRow table key at words (meaning first) (meaning last)) 1
      first last (Ok rid)
  adds_done gives is cells enough =
      let Did : ℕ → ℕ → State → Places → Type 0 = λ at. AddsRow table key at words (meaning first) (meaning last) in
      let Few : ℕ → State → Places → Type 0 = λ asks state places. asks ≤ 1 in
      let Inner : State → Places → Type 0 = λ state places. LacksRow (meaning first) table key state places
      × (overlay (meaning first).writes state rid ≡ None) in
      let Does : ℕ → ℕ → State → Places → Type 0 = λ at asked state places. (asked ≡ 0) × AddsRow table key at words (meaning first)
      (meaning last) 1 state places in
      let wrote : WroteOne (meaning first) (meaning last) rid (Some words) = record {
        writes = ap (λ (m : Meaning). m.writes) is ∙ ap (λ (m : Meaning). with_value m.writes rid value) given
            ∙ ap (with_value (meaning first).writes rid) cells;
        size = ap (λ (m : Meaning). m.size) is ∙ ap (λ (m : Meaning). m.size) given;
      } in
      runs_then Did 0 1 first middle last (Ok rid) rid (Ok rid)
      (fresh_done (LacksRow (meaning first) table key) Few first middle rid gave new given (λ state places lacks. omega arith)) refl
      (write_done Inner (λ _ _ _. ⊥) Does middle last rid value rid gives is
      (λ state places inner. inr (inl (fresh-given (meaning first) (meaning middle) rid given)))
      (λ state places agrees inner. (
        refl,
        adds_row table key rid words (meaning first) (meaning last) state places wrote
            (omega (arith, enough, new.new)) inner.1 inner.0,
      )))
      (λ before state places agrees lacks did. (
        places,
        (lacks, did.1),
        λ asks never. absurd
            never,
        λ w asked does. (let same : 1 ≡ before + asked = omega (arith, did.0, does.0) in let P : ℕ
            → Type 0 = λ k. Did w k state places in subst P same does.1),
      ))
