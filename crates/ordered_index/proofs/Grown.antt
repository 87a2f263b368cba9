-- Trees over a state in which records changed.
use Rattle.std.proofs.Common.{◌≡◌, ◌≢◌, ◌⊎◌, ℕ, ◌≤◌, List, [], ◌∷◌, ◌++◌, None, Some, refl, sym, ap, ◌∙◌, subst, inl, inr}
use Rattle.std.proofs.lemmas.Bool.{cases_eq}
use Rattle.std.proofs.lemmas.Option.{none-some}
use Rattle.plain_data.specs.State.{State}
use Rattle.ordered_index.specs.declared.key.Key.{Key}
use Rattle.ordered_index.specs.declared.node.Kind.{Kind}
use Rattle.ordered_index.specs.declared.node.Kind.TheVariants.{Leaf, Inner}
use Rattle.ordered_index.specs.Node.{Content}
use Rattle.ordered_index.specs.Tree.{IsAt, Stand, Descends, In, Apart, row_names, row_entries, tree_records}
use Rattle.record_store.specs.Links.{records_of}
use Rattle.ordered_index.specs.Enter.{Grown}
use Rattle.ordered_index.proofs.Rows.{stand_left, stand_right, stand_append, row_names-append}

pub in_left : (rid : ℕ) (xs ys : List ℕ) → In rid xs → In rid (xs ++ ys)
in_left rid [] ys there = absurd there
in_left rid (x ∷ xs) ys there = elim there as (λ _. (x ≡ rid) ⊎ In rid (xs ++ ys)) [ inl same ↦ inl same | inr more ↦ inr (in_left rid xs ys more) ]

pub in_right : (rid : ℕ) (xs ys : List ℕ) → In rid ys → In rid (xs ++ ys)
in_right rid [] ys there = there
in_right rid (x ∷ xs) ys there = inr (in_right rid xs ys there)

pub in_cases : (rid : ℕ) (xs ys : List ℕ) → In rid (xs ++ ys) → In rid xs ⊎ In rid ys
in_cases rid [] ys there = inr there
in_cases rid (x ∷ xs) ys there = elim there as (λ _. In rid (x ∷ xs) ⊎ In rid ys) [
  | inl same ↦ inl (inl same)
  | inr more ↦ elim (in_cases rid xs ys more) as (λ _. In rid (x ∷ xs) ⊎ In rid ys) [ inl left ↦ inl (inr left) | inr right ↦ inr right ]
]

pub in_or_not : (rid : ℕ) (xs : List ℕ) → In rid xs ⊎ (In rid xs → ⊥)
in_or_not rid [] = inr (λ there. there)
in_or_not rid (x ∷ xs) = elim (cases_eq x rid) as (λ _. In rid (x ∷ xs) ⊎ (In rid (x ∷ xs) → ⊥)) [
  | inl same ↦ inl (inl same)
  | inr other ↦ elim (in_or_not rid xs) as (λ _. In rid (x ∷ xs) ⊎ (In rid (x ∷ xs) → ⊥)) [
    | inl more ↦ inl (inr more)
    | inr none ↦ inr (λ there. elim there as (λ _. ⊥) [ inl same ↦ other same | inr more ↦ none more ])
  ]
]

pub apart_left : (xs ys : List ℕ) → Apart (xs ++ ys) → Apart xs
apart_left [] ys apart = tt
apart_left (x ∷ xs) ys apart = (λ there. apart.0 (in_left x xs ys there), apart_left xs ys apart.1)

pub apart_right : (xs ys : List ℕ) → Apart (xs ++ ys) → Apart ys
apart_right [] ys apart = apart
apart_right (x ∷ xs) ys apart = apart_right xs ys apart.1

pub apart_both : (rid : ℕ) (xs ys : List ℕ) → Apart (xs ++ ys) → In rid xs → In rid ys → ⊥
apart_both rid [] ys apart first second = first
apart_both rid (x ∷ xs) ys apart first second = elim first as (λ _. ⊥) [
  | inl same ↦ apart.0 (in_right x xs ys (let P : ℕ → Type 0 = λ r. In r ys in subst P (sym same) second))
  | inr more ↦ apart_both rid xs ys apart.1 more second
]

pub apart_append : (xs ys : List ℕ) → Apart xs → Apart ys → ((rid : ℕ) → In rid xs → In rid ys → ⊥) → Apart (xs ++ ys)
apart_append [] ys first second differ = second
apart_append (x ∷ xs) ys first second differ =
    (λ there. elim (in_cases x xs ys there) as (λ _. ⊥) [ inl left ↦ first.0 left | inr right ↦ differ x (inl refl) right ], apart_append xs ys first.1 second (λ rid there. differ rid (inr there)))

pub records_of-append : (xs ys : List (ℕ × Content)) → records_of (xs ++ ys) ≡ records_of xs ++ records_of ys
records_of-append [] ys = refl
records_of-append (x ∷ xs) ys = ap (λ rs. x.0 ∷ rs) (records_of-append xs ys)

-- nodes that stand in a state, in another one
pub at_frame : (size : ℕ) (state state' : State) (node : ℕ × Content) → state' node.0 ≡ state node.0 → IsAt size state node → IsAt size state' node
at_frame size state state' node same at = record { words = at.words; here = same ∙ at.here; holds = at.holds; sound = at.sound }

pub stand_frame : (size : ℕ) (state state' : State) (kind : Kind) (row : List (ℕ × Content)) → ((rid : ℕ) → In rid (records_of row) → state' rid ≡ state rid) → Stand size state kind row → Stand size state' kind row
stand_frame size state state' kind [] same stand = tt
stand_frame size state state' kind (x ∷ row) same stand =
    (at_frame size state state' x (same x.0 (inl refl)) stand.0, stand.1, stand_frame size state state' kind row (λ rid there. same rid (inr there)) stand.2)

pub stand_present : (size : ℕ) (state : State) (kind : Kind) (row : List (ℕ × Content)) (rid : ℕ) → Stand size state kind row → In rid (records_of row) → (words : List ℕ) × (state rid ≡ Some words)
stand_present size state kind [] rid stand there = absurd there
stand_present size state kind (x ∷ row) rid stand there = elim there as (λ _. (words : List ℕ) × (state rid ≡ Some words)) [
  | inl same ↦ (stand.0.words, ap state (sym same) ∙ stand.0.here)
  | inr more ↦ stand_present size state kind row rid stand.2 more
]

pub descends_frame : (size : ℕ) (state state' : State) (above : List (Key × ℕ)) (levels : List (List (ℕ × Content))) (leaves : List (ℕ × Content)) → ((rid : ℕ) → In rid (tree_records levels leaves) → state' rid ≡ state rid) → Descends size state above levels leaves → Descends size state' above levels leaves
descends_frame size state state' above [] leaves same descends = (descends.0, stand_frame size state state' Leaf leaves same descends.1)
descends_frame size state state' above (level ∷ levels) leaves same descends =
    (descends.0, stand_frame size state state' Inner level (λ rid there. same rid (in_left rid (records_of level) (tree_records levels leaves) there)) descends.1, descends_frame size state state' (row_entries level) levels leaves (λ rid there. same rid (in_right rid (records_of level) (tree_records levels leaves) there)) descends.2)

pub descends_present : (size : ℕ) (state : State) (above : List (Key × ℕ)) (levels : List (List (ℕ × Content))) (leaves : List (ℕ × Content)) (rid : ℕ) → Descends size state above levels leaves → In rid (tree_records levels leaves) → (words : List ℕ) × (state rid ≡ Some words)
descends_present size state above [] leaves rid descends there = stand_present size state Leaf leaves rid descends.1 there
descends_present size state above (level ∷ levels) leaves rid descends there = elim (in_cases rid (records_of level) (tree_records levels leaves) there) as (λ _. (words : List ℕ) × (state rid ≡ Some words)) [
  | inl here ↦ stand_present size state Inner level rid descends.1 here
  | inr below ↦ descends_present size state (row_entries level) levels leaves rid descends.2 below
]

-- a part of a tree that changed
pub record Changed (size fixed : ℕ) (state state' : State) (above' : List (Key × ℕ)) (levels : List (List (ℕ × Content))) (leaves : List (ℕ × Content)) (levels' : List (List (ℕ × Content))) (leaves' : List (ℕ × Content)) : Type 0 where
  pub descends : Descends size state' above' levels' leaves'
  pub once : Apart (tree_records levels' leaves')
  pub grown : Grown fixed state state' (tree_records levels leaves) (tree_records levels' leaves')

-- a present record outside a part stays outside
pub stays_out : (fixed : ℕ) (state state' : State) (was now : List ℕ) (rid : ℕ) (words : List ℕ) → Grown fixed state state' was now → (In rid was → ⊥) → state rid ≡ Some words → In rid now → ⊥
stays_out fixed state state' was now rid words grown out present there = elim (grown.anew rid there) as (λ _. ⊥) [ inl old ↦ out old | inr new ↦ none-some words (sym new.0 ∙ present) ]

grown_behind : (fixed : ℕ) (state state' : State) (front was now : List ℕ) → Grown fixed state state' was now → Grown fixed state state' (front ++ was) (front ++ now)
grown_behind fixed state state' front was now grown = record {
  kept = λ rid there. elim (in_cases rid front was there) as (λ _. In rid (front ++ now)) [ inl here ↦ in_left rid front now here | inr old ↦ in_right rid front now (grown.kept rid old) ];
  anew = λ rid there. elim (in_cases rid front now there) as (λ _. In rid (front ++ was) ⊎ ((state rid ≡ None) × (fixed ≤ rid))) [
    | inl here ↦ inl (in_left rid front was here)
    | inr later ↦ elim (grown.anew rid later) as (λ _. In rid (front ++ was) ⊎ ((state rid ≡ None) × (fixed ≤ rid))) [ inl old ↦ inl (in_right rid front was old) | inr new ↦ inr new ]
  ];
  outside = λ rid out. grown.outside rid (λ there. out (in_right rid front now there));
}

-- a level over a part that changed and has the same names
pub level_keeps : (size fixed : ℕ) (state state' : State) (above : List (Key × ℕ)) (level : List (ℕ × Content)) (levels : List (List (ℕ × Content))) (leaves : List (ℕ × Content)) (levels' : List (List (ℕ × Content))) (leaves' : List (ℕ × Content)) → row_names level ≡ above → Stand size state Inner level → Apart (records_of level ++ tree_records levels leaves) → Changed size fixed state state' (row_entries level) levels leaves levels' leaves' → Changed size fixed state state' above (level ∷ levels) leaves (level ∷ levels') leaves'
level_keeps size fixed state state' above level levels leaves levels' leaves' names stand apart changed =
    let was = tree_records levels leaves in
    let now = tree_records levels' leaves' in
    let out : (rid : ℕ) → In rid (records_of level) → In rid now → ⊥ = λ rid here.
    let present = stand_present size state Inner level rid stand here in
    stays_out fixed state state' was now rid present.0 changed.grown (apart_both rid (records_of level) was apart here) present.1 in
    record {
      descends = (names, stand_frame size state state' Inner level (λ rid here. changed.grown.outside rid (out rid here)) stand, changed.descends);
      once = apart_append (records_of level) now (apart_left (records_of level) was apart) changed.once out;
      grown = grown_behind fixed state state' (records_of level) was now changed.grown;
    }

-- what is not a record of a list with others around it
pub apart_middle : (xs : List ℕ) (rid : ℕ) (ys : List ℕ) → Apart (xs ++ rid ∷ ys) → (other : ℕ) → In other xs ⊎ In other ys → other ≢ rid
apart_middle xs rid ys apart other there same = elim there as (λ _. ⊥) [
  | inl left ↦ apart_both other xs (rid ∷ ys) apart left (inl (sym same))
  | inr right ↦ (apart_right xs (rid ∷ ys) apart).0 (let P : ℕ → Type 0 = λ r. In r ys in subst P same right)
]

-- one node of a row has other entries
pub row_edits : (size : ℕ) (state state' : State) (kind : Kind) (before : List (ℕ × Content)) (rid : ℕ) (node node' : Content) (after : List (ℕ × Content)) → Stand size state kind (before ++ (rid, node) ∷ after) → Apart (records_of (before ++ (rid, node) ∷ after)) → ((other : ℕ) → other ≢ rid → state' other ≡ state other) → IsAt size state' (rid, node') → node'.kind ≡ kind → Stand size state' kind (before ++ (rid, node') ∷ after)
row_edits size state state' kind before rid node node' after stand apart' others at is =
    let apart : Apart (records_of before ++ rid ∷ records_of after) = rw (← records_of-append before ((rid, node) ∷ after)) apart' in
    let right = stand_right size state kind before ((rid, node) ∷ after) stand in
    stand_append size state' kind before ((rid, node') ∷ after)
    (stand_frame size state state' kind before (λ other there. others other (apart_middle (records_of before) rid (records_of after) apart other (inl there))) (stand_left size state kind before ((rid, node) ∷ after) stand))
    (at, is, stand_frame size state state' kind after (λ other there. others other (apart_middle (records_of before) rid (records_of after) apart other (inr there))) right.2)

records_same : (before : List (ℕ × Content)) (rid : ℕ) (node node' : Content) (after : List (ℕ × Content)) → records_of (before ++ (rid, node') ∷ after) ≡ records_of (before ++ (rid, node) ∷ after)
records_same before rid node node' after = records_of-append before ((rid, node') ∷ after) ∙ sym (records_of-append before ((rid, node) ∷ after))

-- one leaf of a tree has other entries
pub leaf_edits : (size fixed : ℕ) (state state' : State) (above : List (Key × ℕ)) (levels : List (List (ℕ × Content))) (before : List (ℕ × Content)) (rid : ℕ) (node node' : Content) (after : List (ℕ × Content)) → Descends size state above levels (before ++ (rid, node) ∷ after) → Apart (tree_records levels (before ++ (rid, node) ∷ after)) → ((other : ℕ) → other ≢ rid → state' other ≡ state other) → IsAt size state' (rid, node') → node'.kind ≡ Leaf → node'.low ≡ node.low → Changed size fixed state state' above levels (before ++ (rid, node) ∷ after) levels (before ++ (rid, node') ∷ after)
leaf_edits size fixed state state' above [] before rid node node' after descends apart others at kind low =
    let records = records_same before rid node node' after in
    let names : row_names (before ++ (rid, node') ∷ after) ≡ row_names (before ++ (rid, node) ∷ after) = row_names-append before ((rid, node') ∷ after) ∙ ap (λ (l : Key). row_names before ++ (l, rid) ∷ row_names after) low ∙ sym (row_names-append before ((rid, node) ∷ after)) in
    record {
      descends = (names ∙ descends.0, row_edits size state state' Leaf before rid node node' after descends.1 apart others at kind);
      once = rw records apart;
      grown = record {
        kept = λ other there. rw records there;
        anew = λ other there. inl (rw records at there);
        outside = λ other out. others other (λ same. out (rw (same, records_of-append before ((rid, node') ∷ after)) (in_right rid (records_of before) (rid ∷ records_of after) (inl refl))));
      };
    }
leaf_edits size fixed state state' above (level ∷ levels) before rid node node' after descends apart others at kind low =
    level_keeps size fixed state state' above level levels (before ++ (rid, node) ∷ after) levels (before ++ (rid, node') ∷ after) descends.0 descends.1 apart
    (leaf_edits size fixed state state' (row_entries level) levels before rid node node' after descends.2 (apart_right (records_of level) (tree_records levels (before ++ (rid, node) ∷ after)) apart) others at kind low)
