-- The record that a call names as torn, told of where the call begins.
use Rattle.std.proofs.Common.{◌≡◌, ℕ, zero, suc, ◌+◌, ◌<◌, Bool, true, false, cond, List, [], ◌∷◌, ◌++◌, length, filter, take, get_or, Option, Some, Result, refl, sym, ap, subst, ◌∙◌, arith, inl, inr}
use Rattle.plain_data.specs.State.{State, overlay}
use Rattle.record_store.specs.Into.{value_if}
use Rattle.record_store.specs.Meaning.{Meaning, known, after_read}
use Rattle.record_store.specs.States.{EachState}
use Rattle.record_store.specs.Walks.{IfTorn, OnlyReads}
use Rattle.record_store.specs.declared.walk.Walk.{Walk}
use Rattle.record_store.proofs.Agreement.{agrees-extends, answered, writes_same, size_same}
use Rattle.record_store.proofs.Refusals.{IfTorn-map}
use Rattle.hash_index.specs.Answers.{IsTornChain}
use Rattle.ordered_index.specs.declared.key.Key.{Key}
use Rattle.ordered_index.specs.Scan.{IsTornScan, ScanTears, between, is_between}
use Rattle.ordered_index.specs.Tree.{EachTree, In, row_entries}
use Rattle.hash_index.specs.Chain.{EachChain, IsChain, RowTears, bucket_of, record_of}
use Rattle.replay_model.specs.Input.{IsColumn}
use Rattle.replay_model.specs.TableMap.{Row}
use Rattle.stored_tables.specs.Places.{base_of, head_of, index_tree, root_of}
use Rattle.stored_tables.specs.Rows.{entry_records}
use Rattle.stored_tables.specs.Shape.{head_words}
use Rattle.stored_tables.specs.Tables.{row_words}
use Rattle.stored_tables.specs.Tears.{IsNoRow, NamesTorn, TearsTable, TreeNames}
use Rattle.stored_tables.specs.Tears.TearsTable.{in_chain, in_tree, in_index, chain_row, tree_row, index_row, at_head}

-- ---- one record

-- the record that was read holds no row
pub read_no_row : (first last : Meaning) (rid : ℕ) (present : Bool) (cells : List ℕ) → last ≡ after_read first rid (value_if present cells)
    → known last rid ≡ Some (value_if present cells) → ((row : Row) → value_if present cells ≡ Some (row_words row) → ⊥)
    → EachState first last (IsNoRow rid)
read_no_row first last rid present cells is answer never = λ state agrees row here.
    never row (sym (answered first last rid (value_if present cells) is answer state agrees) ∙ here)

-- it is the head of an index, and names no column
pub read_no_head : (table rid : ℕ) (first last : Meaning) (present : Bool) (cells : List ℕ)
    → last ≡ after_read first rid (value_if present cells) → known last rid ≡ Some (value_if present cells) → rid ≡ head_of table
    → value_if present cells ≡ Some cells → ((column : ℕ) → IsColumn column → cells ≡ head_words column → ⊥)
    → NamesTorn table first last rid
read_no_head table rid first last present cells is answer head here never = λ state agrees. at_head head
    (record {
      words = cells;
      present = answered first last rid (value_if present cells) is answer state agrees ∙ here;
      no_head = never;
    })

-- ---- behind reads

pub tears_behind : (P : State → Type 0) (first middle last : Meaning) → OnlyReads first middle → EachState middle last P → EachState first last P
tears_behind P first middle last only each = λ state agrees.
    let W : List (ℕ × Option (List ℕ)) → Type 0 = λ writes. P (overlay writes state) in
    subst W (writes_same first middle only) (each state agrees)

pub names_behind : (table rid : ℕ) (first middle last : Meaning) → OnlyReads first middle → NamesTorn table middle last rid
    → NamesTorn table first last rid
names_behind table rid first middle last only names =
    let Z : ℕ → Type 0 = λ size. EachState middle last (λ state. TearsTable size table state rid) in
    tears_behind (λ state. TearsTable first.size table state rid) first middle last only (subst Z (size_same first middle only) names)

-- ---- rows

-- the record that a chain has beside a key
pub chain_row_behind : (table base key rid torn : ℕ) (found : Option ℕ) (first middle last : Meaning) → OnlyReads first middle → OnlyReads middle last
    → base ≡ base_of table → EachChain base first middle (λ _ rows. found ≡ record_of rows key) → found ≡ Some rid
    → (torn ≡ rid) × EachState middle last (IsNoRow rid) → NamesTorn table first last torn
chain_row_behind table base key rid torn found first middle last only more is each here none =
    let P : ℕ → Type 0 = NamesTorn table first last in
    subst P (sym none.0)
    (λ state agrees.
    chain_row key
    (λ rows chain. (let Q : ℕ → Type 0 = λ b. IsChain first.size b (overlay first.writes state) rows in
    sym (each state rows (agrees-extends middle.reads last.reads state more.reads agrees) (subst Q (sym is) chain)) ∙ here))
    (tears_behind (IsNoRow rid) first middle last only none.1 state agrees))

in_taken : (n : ℕ) (es : List (Key × ℕ)) (rid : ℕ) → In rid (entry_records (take n es)) → In rid (entry_records es)
in_taken zero es rid is = absurd is
in_taken (suc n) [] rid is = is
in_taken (suc n) (e ∷ es) rid is = elim is as (λ _. In rid (entry_records (e ∷ es))) [
  | inl here ↦ inl here
  | inr later ↦ inr (in_taken n es rid later)
]

in_filtered : (p : Key × ℕ → Bool) (es : List (Key × ℕ)) (rid : ℕ) → In rid (entry_records (filter p es)) → In rid (entry_records es)
in_filtered p [] rid is = is
in_filtered p (e ∷ es) rid is = elim (p e) as (λ b. In rid (entry_records (cond b (e ∷ filter p es) (filter p es))) → In rid (entry_records (e ∷ es))) [
  | true ↦ λ some. elim some as (λ _. In rid (entry_records (e ∷ es))) [ inl here ↦ inl here | inr later ↦ inr (in_filtered p es rid later) ]
  | false ↦ λ later. inr (in_filtered p es rid later)
] is

pub in_at : (es : List (Key × ℕ)) (i : ℕ) (d : Key × ℕ) → i < length es → In (get_or es i d).1 (entry_records es)
in_at [] i d within = absurd (omega arith)
in_at (e ∷ es) zero d within = inl refl
in_at (e ∷ es) (suc i) d within = inr (in_at es i d (omega arith))

-- a record that an entry of a scan names is named by an entry of the tree
pub named_in : (root limit rid : ℕ) (lo hi : Key) (old now : List (Key × ℕ)) (first middle last : Meaning) → OnlyReads middle last → old ≡ []
    → EachTree root first middle (λ _ _ leaves. now ≡ old ++ take limit (between lo hi (row_entries leaves))) → In rid (entry_records now)
    → EachState first last (λ state. TreeNames first.size root state rid)
named_in root limit rid lo hi old now first middle last more empty each here = λ state agrees levels leaves tree.
    let is : now ≡ take limit (between lo hi (row_entries leaves)) =
    each state levels leaves (agrees-extends middle.reads last.reads state more.reads agrees) tree
    ∙ ap (λ es. es ++ take limit (between lo hi (row_entries leaves))) empty in
    let P : List (Key × ℕ) → Type 0 = λ es. In rid (entry_records es) in
    in_filtered (λ entry. is_between lo hi entry.0) (row_entries leaves) rid
    (in_taken limit (between lo hi (row_entries leaves)) rid (subst P is here))

pub tree_row_behind : (table root rid : ℕ) (first middle last : Meaning) → OnlyReads first middle → root ≡ root_of table
    → EachState first last (λ state. TreeNames first.size root state rid) → EachState middle last (IsNoRow rid) → NamesTorn table first last rid
tree_row_behind table root rid first middle last only is named none = λ state agrees.
    let P : ℕ → Type 0 = λ r. TreeNames first.size r (overlay first.writes state) rid in
    tree_row (subst P is (named state agrees)) (tears_behind (IsNoRow rid) first middle last only none state agrees)

pub index_row_behind : (table root rid : ℕ) (first middle last : Meaning) → OnlyReads first middle → root ≡ root_of (index_tree table)
    → EachState first last (λ state. TreeNames first.size root state rid) → EachState middle last (IsNoRow rid) → NamesTorn table first last rid
index_row_behind table root rid first middle last only is named none = λ state agrees.
    let P : ℕ → Type 0 = λ r. TreeNames first.size r (overlay first.writes state) rid in
    index_row (subst P is (named state agrees)) (tears_behind (IsNoRow rid) first middle last only none state agrees)

-- ---- walks

module _ {T F : Type 0} where
  pub chain_names : (table base key : ℕ) (first last : Meaning) (result : Result T (Walk F)) → base ≡ base_of table
      → IfTorn result (IsTornChain base key first last) → IfTorn result (NamesTorn table first last)
  chain_names table base key first last result is torn = IfTorn-map result
      (λ rid t state agrees. (let P : ℕ → Type 0 = λ b. RowTears first.size (b + bucket_of key) key (overlay first.writes state) rid in
      in_chain key (subst P is (t.tears state agrees)))) torn

  pub tree_names : (table root : ℕ) (lo : Key) (first last : Meaning) (result : Result T (Walk F)) → root ≡ root_of table
      → IfTorn result (IsTornScan root lo first last) → IfTorn result (NamesTorn table first last)
  tree_names table root lo first last result is torn = IfTorn-map result
      (λ rid t state agrees. (let P : ℕ → Type 0 = λ r. ScanTears first.size r lo rid (overlay first.writes state) in
      in_tree lo (subst P is (t.tears state agrees)))) torn

  pub index_names : (table root : ℕ) (lo : Key) (first last : Meaning) (result : Result T (Walk F)) → root ≡ root_of (index_tree table)
      → IfTorn result (IsTornScan root lo first last) → IfTorn result (NamesTorn table first last)
  index_names table root lo first last result is torn = IfTorn-map result
      (λ rid t state agrees. (let P : ℕ → Type 0 = λ r. ScanTears first.size r lo rid (overlay first.writes state) in
      in_index lo (subst P is (t.tears state agrees)))) torn
