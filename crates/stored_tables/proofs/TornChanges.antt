-- The record that a call which writes names as torn, told of where the call ends.
use Rattle.std.proofs.Common.{◌≡◌, ℕ, ◌+◌, ◌<◌, Bool, true, false, List, length, get_or, Option, None, Some, Result, Ok, Err, refl, sym, ap, subst, ◌∙◌, inl, inr}
use Rattle.std.specs.Prelude.{Contains, IsSome, is_some}
use Rattle.std.proofs.lemmas.List.Elements.{Contains-get_or}
use Rattle.plain_data.specs.State.{State, overlay}
use Rattle.record_store.specs.Meaning.{Meaning}
use Rattle.record_store.specs.States.{EachState}
use Rattle.record_store.specs.Walks.{IfTorn, OnlyReads}
use Rattle.record_store.specs.declared.walk.Walk.{Walk}
use Rattle.record_store.specs.declared.walk.Walk.TheVariants.{Store, Torn, NoMemory}
use Rattle.record_store.proofs.Agreement.{writes_same, size_same}
use Rattle.record_store.proofs.Refusals.{IfTorn-map}
use Rattle.hash_index.specs.Answers.{IsTornChain}
use Rattle.hash_index.specs.Chain.{EachChain, RowEndsWell, RowTears, bucket_of, record_of}
use Rattle.ordered_index.specs.declared.key.Key.{Key}
use Rattle.ordered_index.specs.Reclaim.{IsTornReclaim, ReclaimTears, TearsBeside}
use Rattle.ordered_index.specs.Tree.{EachTree, record_of_key}
use Rattle.ordered_index.specs.Walk.{DescentEndsWell, DescentTears, IsTornTree}
use Rattle.replay_model.specs.Report.{table_named}
use Rattle.replay_model.specs.declared.command.Command.{Command}
use Rattle.stored_tables.specs.Places.{base_of, root_of}
use Rattle.stored_tables.specs.Tears.{IsTreeOf, LacksPair, NamesTorn, NamesTornChange, OfCommand, TearsChange, TearsTable, TellsEntry}
use Rattle.stored_tables.specs.Tears.TearsTable.{in_chain, in_tree, in_index}
use Rattle.stored_tables.specs.Tears.TearsChange.{on_a_walk, beside_a_leaf, chain_at_odds, tree_at_odds}
use Rattle.stored_tables.proofs.Tearing.{names_behind}

-- where nothing more was written, what was told of where a call began holds of where it ends
pub told_now : (P : ℕ → State → Type 0) (first last : Meaning) → last.writes ≡ first.writes → last.size ≡ first.size
    → EachState first last (P first.size) → EachState last last (P last.size)
told_now P first last writes size each = λ state agrees.
    let W : List (ℕ × Option (List ℕ)) → Type 0 = λ ws. P first.size (overlay ws state) in
    let Z : ℕ → Type 0 = λ n. P n (overlay last.writes state) in
    subst Z (sym size) (subst W (sym writes) (each state agrees))

pub reads_change : (table rid : ℕ) (first last : Meaning) → OnlyReads first last → NamesTorn table first last rid → NamesTornChange table last rid
reads_change table rid first last only names = λ state agrees.
    on_a_walk (told_now (λ size s. TearsTable size table s rid) first last (writes_same first last only) (size_same first last only) names state agrees)

on_tree : (table number root size rid : ℕ) (key : Key) (state : State) → IsTreeOf table number → root ≡ root_of number
    → DescentTears size root key state rid → TearsTable size table state rid
on_tree table number root size rid key state of is torn = elim of as (λ _. TearsTable size table state rid) [
  | inl by_keys ↦ in_tree key (inl (let P : ℕ → Type 0 = λ r. DescentTears size r key state rid in subst P (is ∙ ap root_of by_keys) torn))
  | inr by_index ↦ in_index key (inl (let P : ℕ → Type 0 = λ r. DescentTears size r key state rid in subst P (is ∙ ap root_of by_index) torn))
]

-- a walk is torn, or a leaf beside the one that it comes to
beside_walk : (table number root size rid : ℕ) (key : Key) (state : State) → IsTreeOf table number → root ≡ root_of number
    → ReclaimTears size root key rid state → TearsChange size table state rid
beside_walk table number root size rid key state of is torn = elim torn as (λ _. TearsChange size table state rid) [
  | inl walk ↦ on_a_walk (on_tree table number root size rid key state of is walk)
  | inr beside ↦ (let P : ℕ → Type 0 = λ r. TearsBeside size r key state rid in beside_a_leaf number key of (subst P is beside))
]

both_torn : {T F : Type 0} (result : Result T (Walk F)) (P Q : ℕ → Type 0) → IfTorn result P → IfTorn result Q → IfTorn result (λ rid. P rid × Q rid)
both_torn (Ok value) P Q p q = tt
both_torn (Err (Store fault)) P Q p q = tt
both_torn (Err (Torn rid)) P Q p q = (p, q)
both_torn (Err NoMemory) P Q p q = tt

module _ {T F : Type 0} where
  -- what was read alone
  pub reads_name : (table : ℕ) (first last : Meaning) (result : Result T (Walk F)) → OnlyReads first last → IfTorn result (NamesTorn table first last)
      → IfTorn result (NamesTornChange table last)
  reads_name table first last result only torn = IfTorn-map result (λ rid. reads_change table rid first last only) torn

  -- behind reads
  pub names_after : (table : ℕ) (first middle last : Meaning) (result : Result T (Walk F)) → OnlyReads first middle
      → IfTorn result (NamesTorn table middle last) → IfTorn result (NamesTorn table first last)
  names_after table first middle last result only torn = IfTorn-map result (λ rid. names_behind table rid first middle last only) torn

  -- a walk of a call that changes a chain, or a tree
  pub chain_changes : (table base key : ℕ) (first last : Meaning) (result : Result T (Walk F)) → base ≡ base_of table
      → IfTorn result (IsTornChain base key first last) → IfTorn result (λ _. OnlyReads first last) → IfTorn result (NamesTornChange table last)
  chain_changes table base key first last result is torn unwritten = IfTorn-map result
      (λ rid both. reads_change table rid first last both.1
      (λ state agrees. (let P : ℕ → Type 0 = λ b. RowTears first.size (b + bucket_of key) key (overlay first.writes state) rid in
      in_chain key (subst P is (both.0.tears state agrees)))))
      (both_torn result _ _ torn unwritten)

  pub tree_changes : (table number root : ℕ) (key : Key) (first last : Meaning) (result : Result T (Walk F)) → IsTreeOf table number → root ≡ root_of number
      → IfTorn result (IsTornTree root key first last) → IfTorn result (λ _. OnlyReads first last) → IfTorn result (NamesTornChange table last)
  tree_changes table number root key first last result of is torn unwritten = IfTorn-map result
      (λ rid both. reads_change table rid first last both.1
      (λ state agrees. on_tree table number root first.size rid key (overlay first.writes state) of is (both.0.tears state agrees)))
      (both_torn result _ _ torn unwritten)

  pub leaf_changes : (table number root : ℕ) (key : Key) (first last : Meaning) (result : Result T (Walk F)) → IsTreeOf table number → root ≡ root_of number
      → IfTorn result (IsTornReclaim root key first last) → IfTorn result (λ _. OnlyReads first last) → IfTorn result (NamesTornChange table last)
  leaf_changes table number root key first last result of is torn unwritten = IfTorn-map result
      (λ rid both. told_now (λ size s. TearsChange size table s rid) first last (writes_same first last both.1) (size_same first last both.1)
      (λ state agrees. beside_walk table number root first.size rid key (overlay first.writes state) of is (both.0.tears state agrees)))
      (both_torn result _ _ torn unwritten)

  -- a command of a block
  pub of_command : (commands : List Command) (command : Command) (i : ℕ) (P : ℕ → ℕ → Type 0) (result : Result T (Walk F)) → i < length commands
      → command ≡ get_or commands i command → IfTorn result (P (table_named command)) → IfTorn result (λ rid. OfCommand commands (λ table. P table rid))
  of_command commands command i P result within here torn = IfTorn-map result
      (λ rid names. (let C : Command → Type 0 = Contains commands in
      (command, subst C (sym here) (Contains-get_or commands i command within), names))) torn

-- ---- at odds

pub chain_odds : (table base key at : ℕ) (there : Bool) (first last : Meaning) → base ≡ base_of table → at ≡ base + bucket_of key → there ≡ false
    → last.writes ≡ first.writes → last.size ≡ first.size → EachState first last (RowEndsWell first.size (base + bucket_of key) key)
    → EachChain base first last (λ _ rows. there ≡ is_some (record_of rows key)) → NamesTornChange table last at
chain_odds table base key at there first last is bucket gone writes size ends each = λ state agrees.
    let P : ℕ → Type 0 = λ b. at ≡ b + bucket_of key in
    let L : ℕ → Type 0 = λ b. LacksPair last.size b key (overlay last.writes state) in
    chain_at_odds key (subst P is bucket) (subst L is
    (told_now (λ n s. LacksPair n base key s) first last writes size
    (λ s agree. record {
      ends = ends s agree;
      lacks = λ rows chain. is_none (record_of rows key) (sym (each s rows agree chain) ∙ gone);
    })
    state agrees))
  where
    is_none : (found : Option ℕ) → is_some found ≡ false → found ≡ None
    is_none None lacks = refl
    is_none (Some rid) lacks = cc

pub tree_odds : (table number root : ℕ) (key : Key) (there : Bool) (first last : Meaning) → IsTreeOf table number → root ≡ root_of number
    → last.writes ≡ first.writes → last.size ≡ first.size → EachState first last (DescentEndsWell first.size root key)
    → EachTree root first last (λ _ _ leaves. is_some (record_of_key leaves key) ≡ there) → NamesTornChange table last root
tree_odds table number root key there first last of is writes size ends each = λ state agrees.
    tree_at_odds number key there of is
    (told_now (λ n s. TellsEntry n root key there s) first last writes size
    (λ s agree. record { ends = ends s agree; tells = λ levels leaves tree. each s levels leaves agree tree })
    state agrees)

some_true : (found : Option ℕ) → IsSome found → is_some found ≡ true
some_true None some = cc
some_true (Some rid) some = refl

-- an entry was to be inserted, and is there
pub tree_has : (table number root : ℕ) (key : Key) (first last : Meaning) → IsTreeOf table number → root ≡ root_of number → OnlyReads first last
    → EachState first last (DescentEndsWell first.size root key) → EachTree root first last (λ _ _ leaves. IsSome (record_of_key leaves key))
    → NamesTornChange table last root
tree_has table number root key first last of is only ends each =
    tree_odds table number root key true first last of is (writes_same first last only) (size_same first last only) ends
    (λ state levels leaves agrees tree. some_true (record_of_key leaves key) (each state levels leaves agrees tree))

-- one was to be removed, and is not there
pub tree_lacks : (table number root : ℕ) (key : Key) (there : Bool) (first last : Meaning) → IsTreeOf table number → root ≡ root_of number → there ≡ false
    → last.writes ≡ first.writes → last.size ≡ first.size → EachState first last (DescentEndsWell first.size root key)
    → EachTree root first last (λ _ _ leaves. there ≡ is_some (record_of_key leaves key)) → NamesTornChange table last root
tree_lacks table number root key there first last of is gone writes size ends each =
    tree_odds table number root key false first last of is writes size ends
    (λ state levels leaves agrees tree. sym (each state levels leaves agrees tree) ∙ gone)
