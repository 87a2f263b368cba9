-- A leaf beside another one.
use Rattle.std.proofs.Common.{◌≡◌, ◌⊎◌, ℕ, ◌-◌, ◌<◌, ◌≤◌, zero, suc, List, [], ◌∷◌, ◌++◌, length, get_or, take, drop, Option, Some, Result, Ok, Err, Contains, refl, sym, ap, ◌∙◌, arith, subst, inl, inr}
use Rattle.std.specs.Prelude.{All, remove, IsSome, IfOk, OnOk}
use Rattle.std.proofs.lemmas.List.{append_assoc, drop_all, take-append-drop}
use Rattle.std.proofs.lemmas.List.Elements.{All-nil, All-cons}
use Rattle.std.proofs.lemmas.Option.{same_Some, none-some}
use Rattle.std.proofs.Math.Seq.{take-suc, drop-cons}
use Rattle.plain_data.specs.State.{State}
use Rattle.record_store.specs.Meaning.{Meaning, value_at}
use Rattle.record_store.specs.States.{EachState}
use Rattle.record_store.specs.Walks.{OnlyReads, Extends}
use Rattle.record_store.specs.Writes.{WritesOnly}
use Rattle.record_store.proofs.Agreement.{writes_same}
use Rattle.record_store.proofs.Known.{only-map}
use Rattle.record_store.proofs.States.{each_later}
use Rattle.ordered_index.specs.declared.key.Key.{Key}
use Rattle.ordered_index.specs.declared.node.Kind.TheVariants.{Leaf}
use Rattle.ordered_index.specs.declared.under.Under.{Under}
use Rattle.ordered_index.specs.declared.walk.Stored.{Stored}
use Rattle.ordered_index.specs.Keys.{Above, last_at, first_key}
use Rattle.ordered_index.specs.Node.{Content}
use Rattle.ordered_index.specs.Splits.{IsRank}
use Rattle.ordered_index.specs.Standing.{content_at}
use Rattle.ordered_index.specs.Tree.{IsAt, named}
use Rattle.ordered_index.specs.Under.{IsUnder}
use Rattle.ordered_index.specs.Walk.{IsNoNode, node_of}
use Rattle.ordered_index.specs.Reclaim.{IsNoLeafOf, NamesOne, IsNoneBeside, IsFound, IsLeafAt, IsPair, Joins, joined_of, after_join, without}
use Rattle.ordered_index.proofs.Entries.{last_at-above}
use Rattle.ordered_index.proofs.Paths.{not_at}

-- a record that is no node with the fence is no leaf with it
pub no_leaf_read : (size : ℕ) (entry : Key × ℕ) (state : State) → IsNoNode size entry.0 state entry.1 → IsNoLeafOf size entry state
no_leaf_read size entry state none node kind low at = not_at size entry.1 entry.0 state none node low at

-- ---- the entry beside that of a leaf

-- a key that is before each entry has no leaf
rank_none : (entries : List (Key × ℕ)) (key : Key) (leaf : Key × ℕ) → Above key (drop 0 entries) → last_at entries key ≡ Some leaf → ⊥
rank_none entries key leaf above last = none-some leaf (sym (last_at-above key entries above) ∙ last)

-- entries around two that stand side by side
pub two_at : (entries : List (Key × ℕ)) (i : ℕ) (a b d : Key × ℕ) → suc i < length entries → get_or entries i d ≡ a → get_or entries (suc i) d ≡ b → entries ≡ take i entries ++ a ∷ b ∷ drop (suc (suc i)) entries
two_at entries i a b d within here next =
    sym (take-append-drop i entries)
    ∙ ap (λ es. take i entries ++ es) (drop-cons entries i d (omega arith) ∙ ap (λ e. e ∷ drop (suc i) entries) here ∙ ap (λ es. a ∷ es) (drop-cons entries (suc i) d within ∙ ap (λ e. e ∷ drop (suc (suc i)) entries) next))

-- without the second one
pub without_second : (entries : List (Key × ℕ)) (i : ℕ) (a b d : Key × ℕ) → suc i < length entries → get_or entries i d ≡ a → remove entries (suc i) ≡ take i entries ++ a ∷ drop (suc (suc i)) entries
without_second entries i a b d within here =
    ap (λ es. es ++ drop (suc (suc i)) entries) (take-suc entries i d (omega arith) ∙ ap (λ e. take i entries ++ e ∷ []) here)
    ∙ append_assoc (take i entries) (a ∷ []) (drop (suc (suc i)) entries)

-- a named record that is no leaf
pub names_at : (entries : List (Key × ℕ)) (i : ℕ) (e d : Key × ℕ) → i < length entries → get_or entries i d ≡ e → NamesOne entries e
names_at entries i e d within here = record {
  front = take i entries;
  back = drop (suc i) entries;
  joined = sym (take-append-drop i entries) ∙ ap (λ es. take i entries ++ es) (drop-cons entries i d within ∙ ap (λ x. x ∷ drop (suc i) entries) here);
}

none_at : (size : ℕ) (entries : List (Key × ℕ)) (i : ℕ) (e : Key × ℕ) (before after : Meaning) (rid : ℕ) → e ≡ get_or entries i (first_key, 0) → i < length entries → rid ≡ e.1 → EachState before after (IsNoLeafOf size e) → IsNoneBeside size entries before after rid
none_at size entries i e before after rid is within same none =
    let P : ℕ → Type 0 = λ r. NamesOne entries (e.0, r) in
    let Q : ℕ → Type 0 = λ r. EachState before after (IsNoLeafOf size (e.0, r)) in
    record {
      low = e.0;
      names = subst P (sym same) (names_at entries i e (first_key, 0) within (sym is));
      none = subst Q (sym same) none;
    }

pub none_beside_right : (size : ℕ) (key : Key) (entries : List (Key × ℕ)) (rank : ℕ) (e : Key × ℕ) (before after : Meaning) (rid : ℕ) → e ≡ get_or entries rank (first_key, 0) → rank < length entries → 2 ≤ length entries → rank ≤ length entries → rid ≡ e.1 → EachState before after (IsNoLeafOf size e) → IsNoneBeside size entries before after rid
none_beside_right size key entries rank e before after rid is within two most same none = none_at size entries rank e before after rid is within same none

pub none_beside_left : (size : ℕ) (key : Key) (entries : List (Key × ℕ)) (rank : ℕ) (e : Key × ℕ) (before after : Meaning) (rid : ℕ) → e ≡ get_or entries (rank - 2) (first_key, 0) → length entries ≤ rank → 2 ≤ length entries → rank ≤ length entries → rid ≡ e.1 → EachState before after (IsNoLeafOf size e) → IsNoneBeside size entries before after rid
none_beside_left size key entries rank e before after rid is end two most same none = none_at size entries (rank - 2) e before after rid is (omega arith) same none

-- ---- what is written

found_right : (m0 m1 m2 : Meaning) (parent leaf : ℕ) (beside : ℕ) → OnlyReads m0 m1 → Extends m1.reads m2.reads → WritesOnly (λ rid. (rid ≡ leaf) ⊎ (rid ≡ beside) ⊎ (rid ≡ parent)) m1 m2 → EachState m0 m1 (λ state. (words : List ℕ) × (state beside ≡ Some words)) → WritesOnly (IsFound m0 m2 parent leaf) m0 m2
found_right m0 m1 m2 parent leaf beside only more writes at =
    let later = each_later m0 m1 m2 (λ state. (words : List ℕ) × (state beside ≡ Some words)) more at in
    let Found : ℕ → Type 0 = IsFound m0 m2 parent leaf in
    let wide = only-map (λ rid. (rid ≡ leaf) ⊎ (rid ≡ beside) ⊎ (rid ≡ parent)) Found m1 m2 (λ rid may. elim may as (λ _. Found rid) [
      | inl same ↦ inr (inl same)
      | inr two ↦ elim two as (λ _. Found rid) [ inl same ↦ inr (inr (let P : ℕ → Type 0 = λ r. EachState m0 m2 (λ state. (words : List ℕ) × (state r ≡ Some words)) in subst P (sym same) later)) | inr same ↦ inl same ]
    ]) writes in
    λ rid written. elim (wide rid written) as (λ _. IsSome (value_at m0.writes rid) ⊎ Contains m2.given rid ⊎ Found rid) [
      | inl old ↦ inl (let P : List (ℕ × Option (List ℕ)) → Type 0 = λ w. IsSome (value_at w rid) in subst P (writes_same m0 m1 only) old)
      | inr new ↦ inr new
    ]

pub writes_found_right : (m0 m1 m2 : Meaning) (size parent leaf : ℕ) (beside : Stored) → OnlyReads m0 m1 → Extends m1.reads m2.reads → WritesOnly (λ rid. (rid ≡ leaf) ⊎ (rid ≡ beside.at) ⊎ (rid ≡ parent)) m1 m2 → EachState m0 m1 (λ state. IsAt size state (node_of beside)) → WritesOnly (IsFound m0 m2 parent leaf) m0 m2
writes_found_right m0 m1 m2 size parent leaf beside only more writes at = found_right m0 m1 m2 parent leaf beside.at only more writes (λ state agrees. let is = at state agrees in (is.words, is.here))

pub writes_found_left : (m0 m1 m2 : Meaning) (size parent leaf : ℕ) (beside : Stored) → OnlyReads m0 m1 → Extends m1.reads m2.reads → WritesOnly (λ rid. (rid ≡ beside.at) ⊎ (rid ≡ leaf) ⊎ (rid ≡ parent)) m1 m2 → EachState m0 m1 (λ state. IsAt size state (node_of beside)) → WritesOnly (IsFound m0 m2 parent leaf) m0 m2
writes_found_left m0 m1 m2 size parent leaf beside only more writes at =
    writes_found_right m0 m1 m2 size parent leaf beside only more (only-map (λ rid. (rid ≡ beside.at) ⊎ (rid ≡ leaf) ⊎ (rid ≡ parent)) (λ rid. (rid ≡ leaf) ⊎ (rid ≡ beside.at) ⊎ (rid ≡ parent)) m1 m2 (λ rid may. elim may as (λ _. (rid ≡ leaf) ⊎ (rid ≡ beside.at) ⊎ (rid ≡ parent)) [
      | inl same ↦ inr (inl same)
      | inr two ↦ elim two as (λ _. (rid ≡ leaf) ⊎ (rid ≡ beside.at) ⊎ (rid ≡ parent)) [ inl same ↦ inl same | inr same ↦ inr (inr same) ]
    ]) writes) at

-- ---- which two leaves are joined

-- the leaf that was read is the one that its entry names
named_is : (size : ℕ) (e : Key × ℕ) (here : Stored) → IsLeafAt size e here → named (node_of here) ≡ e
named_is size e here leaf = ap (λ (k : Key). (k, here.at)) leaf.node.low ∙ ap (λ (r : ℕ). (e.0, r)) leaf.node.at

joins_ok : (size : ℕ) (parent leaf beside left right : ℕ × Content) (i : ℕ) (m0 m1 m2 : Meaning) (freed : List ℕ) → suc i < length parent.1.entries → get_or parent.1.entries i (first_key, 0) ≡ named left → get_or parent.1.entries (suc i) (first_key, 0) ≡ named right → IsPair leaf beside left right (drop (suc (suc i)) parent.1.entries) → OnlyReads m0 m1 → EachState m0 m1 (λ state. IsAt size state beside) → beside.1.kind ≡ Leaf → m2 ≡ after_join m1 left.0 (joined_of left.1 right.1) right.0 parent.0 (without parent.1 (suc i)) → freed ≡ right.0 ∷ [] → Joins size parent leaf m0 m2 freed
joins_ok size parent leaf beside left right i m0 m1 m2 freed within first second pair only at kind wrote gave =
    let es = parent.1.entries in
    record {
      between = m1;
      only = only;
      beside = beside;
      left = left;
      right = right;
      names = record { front = take i es; back = drop (suc (suc i)) es; joined = two_at es i (named left) (named right) (first_key, 0) within first second };
      pair = pair;
      at = at;
      kind = kind;
      wrote = wrote ∙ ap (λ (xs : List (Key × ℕ)). after_join m1 left.0 (joined_of left.1 right.1) right.0 parent.0 (record parent.1 { entries = xs })) (without_second es i (named left) (named right) (first_key, 0) within first);
      frees_right = gave;
    }

pub joins_right : (size : ℕ) (key : Key) (under : Under) (e : Key × ℕ) (rank : ℕ) (beside : Stored) (m0 m1 m2 : Meaning) (freed : List ℕ) → IsUnder size key under → e ≡ get_or (content_at under.parent.words).entries rank (first_key, 0) → rank < length (content_at under.parent.words).entries → IsRank key (content_at under.parent.words).entries rank → OnlyReads m0 m1 → IsLeafAt size e beside → EachState m0 m1 (λ state. IsAt size state (node_of beside)) → m2 ≡ after_join m1 under.leaf.at (joined_of (content_at under.leaf.words) (content_at beside.words)) beside.at under.parent.at (without (content_at under.parent.words) rank) → freed ≡ beside.at ∷ [] → Joins size (node_of under.parent) (node_of under.leaf) m0 m2 freed
joins_right size key under e zero beside m0 m1 m2 freed is here within rank only leaf at wrote gave = absurd (rank_none (content_at under.parent.words).entries key (named (node_of under.leaf)) rank.above is.last)
joins_right size key under e (suc i) beside m0 m1 m2 freed is here within rank only leaf at wrote gave =
    let es = (content_at under.parent.words).entries in
    let k : suc i - 1 ≡ i = omega arith in
    let found : last_at es key ≡ Some (get_or es i (first_key, 0)) = rw k at (rank.last (first_key, 0) (omega arith)) in
    joins_ok size (node_of under.parent) (node_of under.leaf) (node_of beside) (node_of under.leaf) (node_of beside) i m0 m1 m2 freed within (same_Some (get_or es i (first_key, 0)) (named (node_of under.leaf)) (sym found ∙ is.last)) (sym here ∙ sym (named_is size e beside leaf)) (inl (refl, refl)) only at leaf.kind wrote gave

pub joins_left : (size : ℕ) (key : Key) (under : Under) (e : Key × ℕ) (rank : ℕ) (beside : Stored) (m0 m1 m2 : Meaning) (freed : List ℕ) → IsUnder size key under → e ≡ get_or (content_at under.parent.words).entries (rank - 2) (first_key, 0) → length (content_at under.parent.words).entries ≤ rank → 2 ≤ length (content_at under.parent.words).entries → IsRank key (content_at under.parent.words).entries rank → OnlyReads m0 m1 → IsLeafAt size e beside → EachState m0 m1 (λ state. IsAt size state (node_of beside)) → m2 ≡ after_join m1 beside.at (joined_of (content_at beside.words) (content_at under.leaf.words)) under.leaf.at under.parent.at (without (content_at under.parent.words) (rank - 1)) → freed ≡ under.leaf.at ∷ [] → Joins size (node_of under.parent) (node_of under.leaf) m0 m2 freed
joins_left size key under e zero beside m0 m1 m2 freed is here end two rank only leaf at wrote gave = absurd (omega arith)
joins_left size key under e (suc zero) beside m0 m1 m2 freed is here end two rank only leaf at wrote gave = absurd (omega arith)
joins_left size key under e (suc (suc i)) beside m0 m1 m2 freed is here end two rank only leaf at wrote gave =
    let es = (content_at under.parent.words).entries in
    let j : suc (suc i) - 2 ≡ i = omega arith in
    let k : suc (suc i) - 1 ≡ suc i = omega arith in
    let most = rank.within in
    let found : last_at es key ≡ Some (get_or es (suc i) (first_key, 0)) = rw k at (rank.last (first_key, 0) (omega arith)) in
    let none : drop (suc (suc i)) es ≡ [] = drop_all (suc (suc i)) es end in
    let first : e ≡ get_or es i (first_key, 0) = rw j at here in
    joins_ok size (node_of under.parent) (node_of under.leaf) (node_of beside) (node_of beside) (node_of under.leaf) i m0 m1 m2 freed (omega arith) (sym first ∙ sym (named_is size e beside leaf)) (same_Some (get_or es (suc i) (first_key, 0)) (named (node_of under.leaf)) (sym found ∙ is.last)) (inr (refl, refl, none)) only at leaf.kind (rw k at wrote) gave

pub joins_each : {T E : Type 0} (result : Result T E) {P Q : T → Type 0} {W : Type 0} → (W → (x : T) → P x → Q x) → OnOk result W → IfOk result P → IfOk result Q
joins_each (Ok x) more wrote gave = more wrote x gave
joins_each (Err e) more wrote gave = tt

pub ok_map : {T E : Type 0} (result : Result T E) {P Q : T → Type 0} → ((x : T) → P x → Q x) → IfOk result P → IfOk result Q
ok_map (Ok x) more holds = more x holds
ok_map (Err e) more holds = tt

pub on_ok : {T E : Type 0} (result : Result T E) {P : Type 0} → P → OnOk result P
on_ok (Ok x) holds = holds
on_ok (Err e) holds = tt

-- one record that lies in the store
pub one_stored : (size r : ℕ) (rids : List ℕ) → rids ≡ r ∷ [] → r < size → All (λ rid. rid < size) rids
one_stored size r rids is within = let P : ℕ → Type 0 = λ rid. rid < size in rw is (All-cons P r [] within (All-nil P))

pub none_stored : (size : ℕ) (rids : List ℕ) → rids ≡ [] → All (λ rid. rid < size) rids
none_stored size rids is = let P : ℕ → Type 0 = λ rid. rid < size in rw is (All-nil P)
