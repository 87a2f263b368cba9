-- What giving leaves back promises, as parts of a run.
use Rattle.std.proofs.Common.{◌≡◌, ℕ, ◌+◌, ◌<◌, ◌≤◌, Bool, true, false, List, Option, None, Some, Result, Ok, refl, sym, subst, arith}
use Rattle.std.specs.Prelude.{IfOk}
use Rattle.plain_data.specs.State.{State, Agrees, overlay}
use Rattle.record_store.specs.Goes.{GoesByCalls}
use Rattle.record_store.specs.Meaning.{Meaning}
use Rattle.record_store.specs.Walks.{IfTorn}
use Rattle.record_store.specs.Writes.{EachWritesKnown}
use Rattle.record_store.specs.declared.walk.Walk.{Walk}
use Rattle.record_store.proofs.Refusals.{IfTorn-map}
use Rattle.record_store.proofs.Going.{by_calls_map}
use Rattle.ordered_index.specs.declared.key.Key.{Key}
use Rattle.ordered_index.specs.Reclaim.{IsReclaimed, IsTornReclaim, Reclaims, WritesOrFrees, frees}
use Rattle.ordered_index.specs.Tree.{IsTree}
use Rattle.replay_model.specs.declared.command.Command.TheVariants.{Del}
use Rattle.replay_model.specs.TableMap.{Row, column_in, without}
use Rattle.stored_tables.specs.Answers.{DueBy, Held, Stands}
use Rattle.stored_tables.specs.OneRow.{TakesOut}
use Rattle.stored_tables.specs.Places.{index_tree, root_of, tree_limit, fixed_records}
use Rattle.stored_tables.specs.Plan.{Follows, plan}
use Rattle.stored_tables.specs.Reclaim.{ClearsBy, ClearsRow, GivesLeaf, GivesLeaves}
use Rattle.stored_tables.specs.Runs.{Runs}
use Rattle.stored_tables.specs.declared.leaving.Taken.{Taken}
use Rattle.stored_tables.proofs.Reclaimed.{gives_leaf, gives_none}
use Rattle.stored_tables.proofs.Runs.{IfOk-map, runs_then, runs_value}

-- told of the place that a number is
at_root : (root place : ℕ) (before : Meaning) (state : State) (held : Held) (number : ℕ) → root ≡ place
    → IsTree before.size place (overlay before.writes state) (held.0.levels number) (held.0.leaves number)
    → IsTree before.size root (overlay before.writes state) (held.0.levels number) (held.0.leaves number)
at_root root place before state held number is tree =
    let P : ℕ → Type 0 = λ r. IsTree before.size r (overlay before.writes state) (held.0.levels number) (held.0.leaves number) in
    subst P (sym is) tree

-- whether a leaf was freed or not
gives_told : (freeing : Bool) (number root : ℕ) (key : Key) (rids : List ℕ) (before now : Meaning) (state : State) (held : Held) → number < tree_limit
    → root ≡ root_of number → fixed_records ≤ before.fixed → now.size ≡ before.size → Agrees state now.reads → Stands before state held
    → frees rids ≡ freeing → Reclaims root key rids before now → GivesLeaf number key rids before now state held
gives_told true number root key rids before now state held low is enough same agrees stands told by =
    let tree = at_root root (root_of number) before state held number is (stands.shape.trees number low) in
    let can = by.answer state (held.0.levels number) (held.0.leaves number) agrees tree in
    let done = by.reclaimed told state (held.0.levels number) (held.0.leaves number) agrees tree in
    let P : ℕ → Type 0 = λ r. IsReclaimed r key rids before now state (held.0.levels number) (held.0.leaves number) done.0 done.1 in
    gives_leaf number key rids before now state held done.0 done.1 low enough same stands (subst P is done.2) can
gives_told false number root key rids before now state held low is enough same agrees stands told by =
    let tree = at_root root (root_of number) before state held number is (stands.shape.trees number low) in
    gives_none number key rids before now state held (by.unchanged told) told
    (by.answer state (held.0.levels number) (held.0.leaves number) agrees tree) stands

abbrev Leaf : ℕ → Key → List ℕ → Meaning → Meaning → ℕ → State → Held → Type 0
Leaf number key rids before now asked state held = (asked ≡ 0) × GivesLeaf number key rids before now state held

abbrev Leaves : ℕ → ℕ → Option ℕ → Row → Meaning → Meaning → ℕ → State → Held → Type 0
Leaves table key index row before now asked state held = (asked ≡ 0) × GivesLeaves table key index row before now state held

module _ {S F : Type 0} {read_gives : S → ℕ → Result (Option (List ℕ)) F → S → Type 0} {write_gives : S → ℕ → Option (List ℕ)
    → Result (Unit {0}) F → S → Type 0} {fresh_gives : S → Result ℕ F → S → Type 0} {meaning : S → Meaning} where
  pub leaf_runs : {T : Type 0} (rids : T → List ℕ) (number root : ℕ) (key : Key) (first last : S) (result : Result T (Walk F))
      → number < tree_limit → root ≡ root_of number → fixed_records ≤ (meaning first).fixed
      → IfOk result (λ freed. Reclaims root key (rids freed) (meaning first) (meaning last))
      → IfTorn result (IsTornReclaim root key (meaning first) (meaning last))
      → GoesByCalls read_gives write_gives fresh_gives meaning (λ _. ⊥) 0 first last result
      → WritesOrFrees 3 (meaning first) (meaning last) → EachWritesKnown (meaning first) (meaning last)
      → Runs read_gives write_gives fresh_gives meaning (Stands (meaning first)) (λ _ _ _. ⊥)
      (λ freed. Leaf number key (rids freed) (meaning first) (meaning last)) 3 first last result
  leaf_runs rids number root key first last result low is enough ok torn by few writes = record {
    asked = 0;
    by = by_calls_map _ 0 first last result by (λ asks never. absurd never);
    may = λ some. absurd (omega arith);
    did = IfOk-map result
        (λ freed gives state held agrees stands. (
          refl,
          gives_told (frees (rids freed)) number root key (rids freed) (meaning first)
              (meaning last) state held low is enough by.grow.size agrees stands refl gives,
        )) ok;
    torn = IfTorn-map result (λ rid t state held agrees stands. t.none state (held.0.levels number, held.0.leaves number) agrees
        (at_root root (root_of number) (meaning first) state held number is (stands.shape.trees number low))) torn;
    few = few.few;
    writes = λ state held agrees stands. writes state agrees;
  }

  -- the leaf in the tree by keys alone, where the table has no index
  pub by_key_alone : {T : Type 0} (rids : T → List ℕ) (table key : ℕ) (index : Option ℕ) (row : Row) (first last : S) (result : Result T (Walk F))
      (freed : T) → index ≡ None → Runs read_gives write_gives fresh_gives meaning (Stands (meaning first)) (λ _ _ _. ⊥)
      (λ freed. Leaf table (record { high = key; low = 0 }) (rids freed) (meaning first) (meaning last)) 3 first last result
      → result ≡ Ok freed
      → Runs {F = F} read_gives write_gives fresh_gives meaning (Stands (meaning first)) (λ _ _ _. ⊥)
      (λ _. Leaves table key index row (meaning first) (meaning last)) 6 first last (Ok (tt {0}))
  by_key_alone rids table key index row first last result freed is runs was =
      runs_value (λ _. Leaves table key index row (meaning first) (meaning last)) 3 6 first last result freed tt (omega arith) runs was
      (λ asked state held agrees stands did. (
        did.0,
        record {
          freed = rids freed;
          between = meaning last;
          by_key = did.1;
          by_index = rw is (refl, did.1.stands);
        },
      ))

  -- and then that in the index
  pub by_both : {T : Type 0} (rids : T → List ℕ) (table key column high : ℕ) (index : Option ℕ) (row : Row) (first middle last : S)
      (early late : Result T (Walk F)) (freed : T) → index ≡ Some column → high ≡ column_in column row
      → Runs read_gives write_gives fresh_gives meaning (Stands (meaning first)) (λ _ _ _. ⊥)
      (λ freed. Leaf table (record { high = key; low = 0 }) (rids freed) (meaning first) (meaning middle)) 3 first middle early
      → early ≡ Ok freed
      → Runs read_gives write_gives fresh_gives meaning (Stands (meaning middle)) (λ _ _ _. ⊥)
      (λ freed. Leaf (index_tree table) (record { high = high; low = key }) (rids freed) (meaning middle) (meaning last)) 3 middle last late
      → Runs read_gives write_gives fresh_gives meaning (Stands (meaning first)) (λ _ _ _. ⊥)
      (λ _. Leaves table key index row (meaning first) (meaning last)) 6 first last late
  by_both rids table key column high index row first middle last early late freed is same a was b =
      runs_then (λ _. Leaves table key index row (meaning first) (meaning last)) 3 3 first middle last early freed late a was b
      (λ before state held agrees stands did. (
        (did.1.after, held.1),
        did.1.stands,
        λ asks never. never,
        λ value asked does. (
          omega (arith, did.0, does.0),
          record {
            freed = rids freed;
            between = meaning middle;
            by_key = did.1;
            by_index = rw (is, ← same) (rids value, does.1);
          },
        ),
      ))

  -- a row was taken out, and then its leaves were given back
  pub cleared : (table key : ℕ) (first middle last : S) (early : Result (Option Taken) (Walk F)) (taken : Taken)
      (result : Result (Unit {0}) (Walk F))
      → Runs read_gives write_gives fresh_gives meaning (Stands (meaning first)) (DueBy (plan (Del table key)))
      (TakesOut table key (meaning middle)) 4 first middle early → early ≡ Ok (Some taken)
      → Runs read_gives write_gives fresh_gives meaning (Stands (meaning middle)) (λ _ _ _. ⊥)
      (λ _. Leaves table key taken.index taken.row (meaning middle) (meaning last)) 6 middle last result
      → Runs read_gives write_gives fresh_gives meaning (Stands (meaning first)) (DueBy (plan (Del table key)))
      (λ _. ClearsRow table key (meaning last)) 10 first last result
  cleared table key first middle last early taken result a was b =
      runs_then (λ _. ClearsRow table key (meaning last)) 4 6 first middle last early (Some taken) result a was b
      (λ before state held agrees stands did. (
        (did.0.1.0, without held.1 table key),
        did.0.1.1,
        λ asks never. absurd never,
        λ value asked does. record {
          row = taken.row;
          there = did.1;
          between = meaning middle;
          taken = (
            did.0.1.0,
            did.0.1.1,
            (let P : ℕ → Type 0 = λ n. Follows (plan (Del table key) held.1) held.0 n did.0.1.0 in
                let none : before ≡ before + asked = omega (arith, does.0) in subst P none did.0.1.2),
          );
          given = rw did.2 does.1;
        },
      ))

  -- told of the store between
  pub halves : (table key : ℕ) (first middle last : S) (early : Result (Option Taken) (Walk F)) (taken : Taken)
      (result : Result (Unit {0}) (Walk F))
      → Runs read_gives write_gives fresh_gives meaning (Stands (meaning first)) (DueBy (plan (Del table key)))
      (TakesOut table key (meaning middle)) 4 first middle early → early ≡ Ok (Some taken)
      → Runs read_gives write_gives fresh_gives meaning (Stands (meaning middle)) (λ _ _ _. ⊥)
      (λ _. Leaves table key taken.index taken.row (meaning middle) (meaning last)) 6 middle last result → result ≡ Ok (tt {0})
      → ClearsBy {F = F} read_gives write_gives fresh_gives meaning table key first last
  halves table key first middle last early taken result a was b done =
      let P : Result (Option Taken) (Walk F) → Type 0 = λ told. Runs read_gives write_gives fresh_gives meaning (Stands (meaning first))
      (DueBy (plan (Del table key))) (TakesOut table key (meaning middle)) 4 first middle told in
      let Q : Result (Unit {0}) (Walk F) → Type 0 = λ told. Runs read_gives write_gives fresh_gives meaning (Stands (meaning middle))
      (λ _ _ _. ⊥) (λ _. Leaves table key taken.index taken.row (meaning middle) (meaning last)) 6 middle last told in
      record { middle = middle; taken = taken; took = subst P was a; gave = subst Q done b }
