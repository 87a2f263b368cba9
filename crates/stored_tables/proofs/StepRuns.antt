-- What the calls on chains and trees promise, as moves.
use Rattle.std.proofs.Common.{◌≡◌, ℕ, ◌+◌, ◌<◌, ◌≤◌, Bool, true, false, List, length, Option, None, Some, Result, Ok, Err, refl, ap, subst, ◌∙◌, arith}
use Rattle.std.specs.Prelude.{IfOk, OnOk, option_to_list, is_some}
use Rattle.std.proofs.lemmas.List.{length-append}
use Rattle.plain_data.specs.State.{State, Agrees, overlay}
use Rattle.record_store.specs.Goes.{GoesByCalls, WalksCounting}
use Rattle.record_store.specs.Meaning.{Meaning}
use Rattle.record_store.specs.Walks.{IfTorn, ReadsGrow}
use Rattle.record_store.specs.Writes.{WritesAtMost, EachWritesKnown}
use Rattle.record_store.specs.declared.walk.Walk.{Walk}
use Rattle.record_store.proofs.Refusals.{IfTorn-map}
use Rattle.record_store.proofs.Writes.{writes-weaken}
use Rattle.hash_index.specs.Answers.{IsTornChain, PutMayAsk, PutAsks, PutsPair, RemovesPair}
use Rattle.hash_index.specs.Changes.{IsPut, IsRemoved}
use Rattle.hash_index.specs.Chain.{IsChain}
use Rattle.ordered_index.specs.Asks.{InsertMayAsk, InsertAsks}
use Rattle.ordered_index.specs.Changes.{IsInserted, IsTakenOut, InsertsEntry, RemovesEntry}
use Rattle.ordered_index.specs.declared.key.Key.{Key}
use Rattle.ordered_index.specs.Node.{Content}
use Rattle.ordered_index.specs.Tree.{IsTree}
use Rattle.ordered_index.specs.Walk.{IsTornTree}
use Rattle.ordered_index.specs.Written.{WritesNodes}
use Rattle.stored_tables.specs.Answers.{ChainHas, TreeHas}
use Rattle.stored_tables.specs.Moved.{Shaped, Step}
use Rattle.stored_tables.specs.Places.{Places, base_of, root_of, table_limit, tree_limit, fixed_records}
use Rattle.stored_tables.specs.Plan.{IsDue}
use Rattle.stored_tables.specs.Plan.Move.{pair_put, pair_removed, entry_inserted, entry_removed}
use Rattle.record_store.proofs.Going.{by_calls_map}
use Rattle.stored_tables.specs.Runs.{Runs}
use Rattle.record_store.specs.States.{Each}
use Rattle.stored_tables.proofs.Runs.{IfOk-map, asks_of}
use Rattle.stored_tables.proofs.Laid.{not_some}
use Rattle.stored_tables.proofs.Stepped.{step_put, step_removed, step_inserted, step_taken_out}

chain_at : (table base : ℕ) (now : Meaning) (state : State) (places : Places) → table < table_limit → base ≡ base_of table
    → Shaped now state places → IsChain now.size base (overlay now.writes state) (places.rows table)
chain_at table base now state places low is shape = rw is (shape.chains table low)

tree_at : (number root : ℕ) (now : Meaning) (state : State) (places : Places) → number < tree_limit → root ≡ root_of number
    → Shaped now state places → IsTree now.size root (overlay now.writes state) (places.levels number) (places.leaves number)
tree_at number root now state places low is shape = rw is (shape.trees number low)

-- told of the place that a number is
put_to : (base place key rid : ℕ) (fresh : Option ℕ) (before now : Meaning) (state : State) (rows rows' : ℕ → List (ℕ × List ℕ))
    → base ≡ place → IsPut base key rid fresh before now state rows rows' → IsPut place key rid fresh before now state rows rows'
put_to base place key rid fresh before now state rows rows' is put = let P : ℕ → Type 0 = λ b. IsPut b key rid fresh before now state
    rows rows' in subst P is put

removed_to : (base place key : ℕ) (before now : Meaning) (state : State) (rows rows' : ℕ → List (ℕ × List ℕ)) → base ≡ place
    → IsRemoved base key before now state rows rows' → IsRemoved place key before now state rows rows'
removed_to base place key before now state rows rows' is removed = let P : ℕ → Type 0 = λ b. IsRemoved b key before now state rows rows'
    in subst P is removed

inserted_to : (root place : ℕ) (key : Key) (rid : ℕ) (before now : Meaning) (state : State) (levels levels' : List (List (ℕ × Content)))
    (leaves leaves' : List (ℕ × Content)) → root ≡ place → IsInserted root key rid before now state levels leaves levels' leaves'
    → IsInserted place key rid before now state levels leaves levels' leaves'
inserted_to root place key rid before now state levels levels' leaves leaves' is inserted = let P : ℕ
    → Type 0 = λ b. IsInserted b key rid before now state levels leaves levels' leaves' in subst P is inserted

taken_to : (root place : ℕ) (key : Key) (before now : Meaning) (state : State) (levels : List (List (ℕ × Content)))
    (leaves leaves' : List (ℕ × Content)) → root ≡ place → IsTakenOut root key before now state levels leaves leaves'
    → IsTakenOut place key before now state levels leaves leaves'
taken_to root place key before now state levels leaves leaves' is out = let P : ℕ
    → Type 0 = λ b. IsTakenOut b key before now state levels leaves leaves' in subst P is out

on_if : {T E : Type 0} (result : Result T E) (P : Type 0) → OnOk result P → IfOk result (λ _. P)
on_if (Ok v) P holds = holds
on_if (Err e) P holds = tt

both_ok : {T E : Type 0} (result : Result T E) (P Q : Type 0) → OnOk result P → OnOk result Q → OnOk result (P × Q)
both_ok (Ok v) P Q a b = (a, b)
both_ok (Err e) P Q a b = tt

-- as many asks as records were given
asks_given : (base key rid asked : ℕ) (before after : Meaning) (puts : PutsPair base key rid before after)
    → length after.given ≡ length before.given + asked → asked ≡ length (option_to_list puts.fresh)
asks_given base key rid asked before after puts count =
    let grown = ap length puts.given in
    let parts = length-append before.given (option_to_list puts.fresh) in
    omega (arith, grown, parts, count)

-- one record is written, and one more for the one ask
few_put : {F : Type 0} (base key : ℕ) (before after : Meaning) (result : Result (Unit {0}) (Walk F)) (asked : ℕ)
    → PutAsks base key before after result asked → WritesAtMost 2 before after
few_put base key before after result asked asks = writes-weaken (1 + asked) 2 before after
    (asks_of asked (1 + asked ≤ 2) (λ none. omega (arith, none)) (λ some. omega (arith, (asks.may some).once))) asks.few

-- an entry that is not there is inserted, by as many asks as records are due
inserted_did : {F : Type 0} (number root : ℕ) (key : Key) (rid : ℕ) (before after : Meaning) (result : Result Bool (Walk F)) (asked : ℕ)
    → number < tree_limit → root ≡ root_of number → fixed_records ≤ before.fixed → ReadsGrow before after
    → IfOk result (λ done. InsertsEntry root key rid done before after) → InsertAsks root key before after result asked
    → IfOk result (λ done. Each (TreeHas before number key None) after
    (λ state places. (done ≡ true) × Step rid (entry_inserted number key) before after asked state places))
inserted_did number root key rid before after (Err walk) asked low is enough grow ok asks = tt
inserted_did number root key rid before after (Ok false) asked low is enough grow ok asks = λ state places agrees has. absurd
    (not_some _ has.2 (ok.there refl state (places.levels number) (places.leaves number) agrees
    (tree_at number root before state places low is has.1)))
inserted_did number root key rid before after (Ok true) asked low is enough grow ok asks = λ state places agrees has.
    let tree = tree_at number root before state places low is has.1 in
    let inserted = ok.inserted refl state (places.levels number) (places.leaves number) agrees tree in
    let due = asks.exact state (places.levels number) (places.leaves number) agrees tree in (
      refl,
      rw due (step_inserted number key rid before after state places inserted.0 inserted.1 low enough grow.size has.0 has.1
          (inserted_to root (root_of number) key rid before after state (places.levels number) inserted.0 (places.leaves number) inserted.1
          is inserted.2)),
    )

module _ {S F : Type 0} {read_gives : S → ℕ → Result (Option (List ℕ)) F → S → Type 0} {write_gives : S → ℕ → Option (List ℕ)
    → Result (Unit {0}) F → S → Type 0} {fresh_gives : S → Result ℕ F → S → Type 0} {meaning : S → Meaning} where
  pub put_runs : {R : Type 0} {rest : S → R} (table base key rid : ℕ) (first last : S) (result : Result (Unit {0}) (Walk F)) → table < table_limit
      → base ≡ base_of table → fixed_records ≤ (meaning first).fixed
      → OnOk result (PutsPair base key rid (meaning first) (meaning last))
      → IfTorn result (IsTornChain base key (meaning first) (meaning last))
      → WalksCounting read_gives write_gives fresh_gives meaning rest (PutMayAsk base key) (PutAsks base key) first last result
      → EachWritesKnown (meaning first) (meaning last)
      → Runs read_gives write_gives fresh_gives meaning (ChainHas (meaning first) table key None)
      (λ asks _ places. IsDue (pair_put table key) places asks) (λ _. Step rid (pair_put table key) (meaning first) (meaning last)) 2
      first last result
  put_runs table base key rid first last result low is enough ok torn went writes =
      let due : (asks : ℕ) → PutMayAsk base key (meaning first) (meaning last) asks → (state : State) (places : Places)
      → Agrees state (meaning last).reads → ChainHas (meaning first) table key None state places
      → IsDue (pair_put table key) places asks = λ asks may state places agrees has. (
        may.once,
        may.needs_node state
            (places.rows table) agrees (chain_at table base (meaning first) state places low is has.0),
      ) in
      record {
        asked = went.asked;
        by = by_calls_map _ went.asked first last result went.walk.by (λ asks may state places agrees has. due asks may state places agrees has);
        may = λ some state places agrees has. due went.asked (went.asks.may some) state places agrees has;
        did = IfOk-map result
            (λ v both state places agrees has. (
            let puts : PutsPair base key rid (meaning first) (meaning last) = both.0 in
            let put = puts.put state (places.rows table) agrees (chain_at table base (meaning first) state places low is has.0) in
            step_put table key rid (meaning first) (meaning last) state places put.0 low enough went.walk.by.grow.size has.0 puts.fresh went.asked has.1
            (asks_given base key rid went.asked (meaning first) (meaning last) puts both.1)
            (put_to base (base_of table) key rid puts.fresh (meaning first) (meaning last) state (places.rows table) put.0 is put.1)
            ))
            (on_if result _ (both_ok result _ _ ok went.asks.exact));
        torn = IfTorn-map result (λ r t state places agrees has. t.none state (places.rows table) agrees
            (chain_at table base (meaning first) state places low is has.0)) torn;
        few = few_put base key (meaning first) (meaning last) result went.asked went.asks;
        writes = λ state places agrees has. writes state agrees;
      }

  pub removed_runs : (table base key rid : ℕ) (first last : S) (result : Result Bool (Walk F)) → table < table_limit
      → base ≡ base_of table → fixed_records ≤ (meaning first).fixed
      → IfOk result (λ there. RemovesPair base key there (meaning first) (meaning last))
      → IfTorn result (IsTornChain base key (meaning first) (meaning last))
      → GoesByCalls read_gives write_gives fresh_gives meaning (λ _. ⊥) 0 first last result
      → WritesAtMost 1 (meaning first) (meaning last) → EachWritesKnown (meaning first) (meaning last) → Runs read_gives write_gives fresh_gives meaning (ChainHas (meaning first) table key (Some rid)) (λ _ _ _. ⊥)
      (λ there asked state places. (there ≡ true) × Step rid (pair_removed table key) (meaning first) (meaning last) asked state
      places) 1 first last result
  removed_runs table base key rid first last result low is enough ok torn by few writes = record {
    asked = 0;
    by = by_calls_map _ 0 first last result by (λ asks never. absurd never);
    may = λ some. absurd (omega arith);
    did = IfOk-map result
        (λ there removes state places agrees has. (
        let chain = chain_at table base (meaning first) state places low is has.0 in
        let yes : there ≡ true = removes.answer state (places.rows table) agrees chain ∙ ap is_some has.1 in
        let removed = removes.removed yes state (places.rows table) agrees chain in (
          yes,
          step_removed table key rid (meaning first) (meaning last) state places removed.0 low enough by.grow.size has.0
              (removed_to base (base_of table) key (meaning first) (meaning last) state (places.rows table) removed.0 is removed.1),
        )
        ))
        ok;
    torn = IfTorn-map result (λ r t state places agrees has. t.none state (places.rows table) agrees
        (chain_at table base (meaning first) state places low is has.0)) torn;
    few = few;
    writes = λ state places agrees has. writes state agrees;
  }

  pub inserted_runs : {R : Type 0} {rest : S → R} (number root : ℕ) (key : Key) (rid : ℕ) (first last : S) (result : Result Bool (Walk F)) → number < tree_limit
      → root ≡ root_of number → fixed_records ≤ (meaning first).fixed
      → IfOk result (λ done. InsertsEntry root key rid done (meaning first) (meaning last))
      → IfTorn result (IsTornTree root key (meaning first) (meaning last))
      → WalksCounting read_gives write_gives fresh_gives meaning rest (InsertMayAsk root key) (InsertAsks root key) first last result
      → EachWritesKnown (meaning first) (meaning last) → WritesNodes 51 (meaning first) (meaning last)
      → Runs read_gives write_gives fresh_gives meaning (TreeHas (meaning first) number key None)
      (λ asks _ places. IsDue (entry_inserted number key) places asks) (λ done asked state places. (done ≡ true)
      × Step rid (entry_inserted number key) (meaning first) (meaning last) asked state places) 51 first last result
  inserted_runs number root key rid first last result low is enough ok torn went writes few =
      let due : (asks : ℕ) → InsertMayAsk root key (meaning first) (meaning last) asks → (state : State) (places : Places)
      → Agrees state (meaning last).reads → TreeHas (meaning first) number key None state places
      → IsDue (entry_inserted number key) places asks = λ asks may state places agrees has. may state (places.levels number)
      (places.leaves number) agrees (tree_at number root (meaning first) state places low is has.1) in
      record {
        asked = went.asked;
        by = by_calls_map _ went.asked first last result went.walk.by (λ asks may state places agrees has. due asks may state places agrees has);
        may = λ some state places agrees has. due went.asked (went.asks.may some) state places agrees has;
        did = inserted_did number root key rid (meaning first) (meaning last) result went.asked low is enough went.walk.by.grow ok went.asks;
        torn = IfTorn-map result (λ r t state places agrees has. t.none state (places.levels number, places.leaves number) agrees
            (tree_at number root (meaning first) state places low is has.1)) torn;
        few = few.few;
        writes = λ state places agrees has. writes state agrees;
      }

  pub taken_runs : (number root : ℕ) (key : Key) (rid : ℕ) (first last : S) (result : Result Bool (Walk F)) → number < tree_limit
      → root ≡ root_of number → fixed_records ≤ (meaning first).fixed
      → IfOk result (λ there. RemovesEntry root key there (meaning first) (meaning last))
      → IfTorn result (IsTornTree root key (meaning first) (meaning last))
      → GoesByCalls read_gives write_gives fresh_gives meaning (λ _. ⊥) 0 first last result
      → WritesNodes 1 (meaning first) (meaning last) → EachWritesKnown (meaning first) (meaning last)
      → Runs read_gives write_gives fresh_gives meaning (TreeHas (meaning first) number key (Some rid)) (λ _ _ _. ⊥)
      (λ there asked state places. (there ≡ true) × Step rid (entry_removed number key) (meaning first) (meaning last) asked state
      places) 1 first last result
  taken_runs number root key rid first last result low is enough ok torn by few writes = record {
    asked = 0;
    by = by_calls_map _ 0 first last result by (λ asks never. absurd never);
    may = λ some. absurd (omega arith);
    did = IfOk-map result
        (λ there removes state places agrees has. (
        let tree = tree_at number root (meaning first) state places low is has.1 in
        let yes : there ≡ true = removes.answer state (places.levels number) (places.leaves number) agrees tree ∙ ap is_some has.2 in
        let removed = removes.removed yes state (places.levels number) (places.leaves number) agrees tree in (
          yes,
          step_taken_out number key rid (meaning first) (meaning last) state places removed.0 low enough by.grow.size has.0 has.1
              (taken_to root (root_of number) key (meaning first) (meaning last) state (places.levels number) (places.leaves number)
              removed.0 is removed.1),
        )
        ))
        ok;
    torn = IfTorn-map result (λ r t state places agrees has. t.none state (places.levels number, places.leaves number) agrees
        (tree_at number root (meaning first) state places low is has.1)) torn;
    few = few.few;
    writes = λ state places agrees has. writes state agrees;
  }
