-- A packed tree that takes an entry in is packed again: a leaf is parted into two with five entries each, and no other leaf loses any.
use Rattle.std.proofs.Common.{◌≡◌, ℕ, ◌+◌, ◌≤◌, List, [], ◌∷◌, ◌++◌, length, take, drop, All, Option, None, Some, ◌⊎◌, refl, sym, ap, ◌∙◌, arith, subst, inl, inr}
use Rattle.std.proofs.lemmas.List.{length-append, length-take, length-drop, nil_from_length}
use Rattle.std.proofs.lemmas.List.Elements.{All-nil, All-cons, All-head, All-tail, All-append}
use Rattle.ordered_index.specs.declared.key.Key.{Key}
use Rattle.ordered_index.specs.Node.{Content}
use Rattle.ordered_index.specs.Tree.{row_entries}
use Rattle.ordered_index.specs.Splits.{with_entry, below_root, NodeBecomes, RowTakes, PartTakes, leaf, stays, takes, TreeTakes, begun, grown, leaf_parted, inner_parted}
use Rattle.ordered_index.proofs.Parting.{length-with}
use Rattle.ordered_index.proofs.Leaves.{row_around}
use Rattle.ordered_index.proofs.Entered.{entries_three}
use Rattle.stored_tables.specs.Packed.{IsPackedTree}
use Rattle.stored_tables.proofs.WeightTrees.{Row, Levels}

abbrev Entries : Type 0
Entries = List (Key × ℕ)

abbrev New : Type 0
New = Option (Key × ℕ)

-- a leaf with five entries at least
abbrev HasFive : ℕ × Content → Type 0
HasFive node = 5 ≤ length node.1.entries

-- ---- one row

all_around : (before nodes after : Row) (node : ℕ × Content) → (HasFive node → All HasFive nodes)
    → All HasFive (before ++ node ∷ after) → All HasFive (before ++ (nodes ++ after))
all_around [] nodes after node here all = All-append HasFive nodes after (here (All-head HasFive node after all)) (All-tail HasFive node after all)
all_around (x ∷ before) nodes after node here all =
    All-cons HasFive x (before ++ (nodes ++ after)) (All-head HasFive x (before ++ node ∷ after) all)
    (all_around before nodes after node here (All-tail HasFive x (before ++ node ∷ after) all))

-- what becomes of a leaf: it stays one, or is parted into two with five entries each
record AreFilled (entries : Entries) (nodes : Row) : Type 0 where
  pub all : length (row_entries nodes) ≡ length entries
  pub kept : 5 ≤ length entries → All HasFive nodes
  pub one_or_five : (length nodes ≡ 1) ⊎ All HasFive nodes

two_filled : (left right : ℕ × Content) (entries : Entries) → left.1.entries ≡ take 5 entries → right.1.entries ≡ drop 5 entries
    → length entries ≡ 10 → AreFilled entries (left ∷ right ∷ [])
two_filled left right entries first second ten =
    let few = ap length first ∙ length-take 5 entries in
    let rest = ap length second ∙ length-drop 5 entries in
    let five : All HasFive (left ∷ right ∷ []) =
    All-cons HasFive left (right ∷ []) (omega (arith, few, ten)) (All-cons HasFive right [] (omega (arith, rest, ten)) (All-nil HasFive)) in
    record {
      all = omega (arith, few, rest, ten, length-append left.1.entries (right.1.entries ++ []), length-append right.1.entries []);
      kept = λ enough. five;
      one_or_five = inr five;
    }

filled : (node : ℕ × Content) (entries : Entries) (new : New) (nodes : Row) → NodeBecomes node entries new nodes → AreFilled entries nodes
filled node entries None nodes becomes =
    let node' : ℕ × Content = (node.0, record node.1 { entries = entries }) in
    subst (AreFilled entries) (sym becomes.1) (record {
      all = omega (arith, length-append entries []);
      kept = λ enough. All-cons HasFive node' [] enough (All-nil HasFive);
      one_or_five = inl refl;
    })
filled node entries (Some new) nodes becomes = subst (AreFilled entries) (sym becomes.2) (two_filled _ _ entries refl refl becomes.0)

-- the row of leaves after it took an entry in
pub record RowPacks (leaves leaves' : Row) : Type 0 where
  pub all : length (row_entries leaves') ≡ length (row_entries leaves) + 1
  pub packed : IsPackedTree leaves → IsPackedTree leaves'

-- the one leaf of a tree
alone_packs : (before nodes after : Row) (node : ℕ × Content) → length (before ++ node ∷ after) ≤ 1
    → (length nodes ≡ 1) ⊎ All HasFive nodes → IsPackedTree (before ++ (nodes ++ after))
alone_packs before nodes after node few is =
    let was = length-append before (node ∷ after) in
    let no_before : before ≡ [] = nil_from_length before (omega (arith, was, few)) in
    let no_after : after ≡ [] = nil_from_length after (omega (arith, was, few)) in
    elim is as (λ _. IsPackedTree (before ++ (nodes ++ after))) [
      | inl one ↦ inl (omega (arith, was, few, one, length-append before (nodes ++ after), length-append nodes after))
      | inr five ↦
          let none_before = subst (All HasFive) (sym no_before) (All-nil HasFive) in
          let none_after = subst (All HasFive) (sym no_after) (All-nil HasFive) in
          inr (All-append HasFive before (nodes ++ after) none_before (All-append HasFive nodes after five none_after))
    ]

row_packs : (key : Key) (entry : Key × ℕ) (leaves leaves' : Row) (new : New) → RowTakes key entry leaves leaves' new → RowPacks leaves leaves'
row_packs key entry leaves leaves' new r =
    let entries = with_entry r.node.1.entries r.rank entry in
    let f = filled r.node entries new r.nodes r.becomes in
    let more = length-with r.node.1.entries r.rank entry in
    let had = ap (λ row. length (row_entries row)) r.was ∙ ap length (row_around r.before r.node r.after) ∙ length-append (row_entries r.before) (r.node.1.entries ++ row_entries r.after) in
    let has = ap (λ row. length (row_entries row)) r.now ∙ ap length (entries_three r.before r.nodes r.after) ∙ length-append (row_entries r.before) (row_entries r.nodes ++ row_entries r.after) in
    record {
      all = omega (arith, had, has, more, f.all, length-append r.node.1.entries (row_entries r.after), length-append (row_entries r.nodes) (row_entries r.after));
      packed = λ packed. subst IsPackedTree (sym r.now) (elim (subst IsPackedTree r.was packed) as (λ _. IsPackedTree (r.before ++ (r.nodes ++ r.after))) [
        | inl few ↦ alone_packs r.before r.nodes r.after r.node few f.one_or_five
        | inr five ↦ inr (all_around r.before r.nodes r.after r.node (λ enough. f.kept (omega (arith, enough, more))) five)
      ]);
    }

-- ---- a part of a tree, by its leaves, and the tree

part_packs : (key : Key) (rid : ℕ) (levels : Levels) (leaves : Row) (levels' : Levels) (leaves' : Row) (new : New)
    → PartTakes key rid levels leaves levels' leaves' new → RowPacks leaves leaves'
part_packs key rid _ _ _ _ _ (leaf leaves leaves' new r) = row_packs key (key, rid) leaves leaves' new r
part_packs key rid _ _ _ _ _ (stays level levels levels' leaves leaves' part) = part_packs key rid levels leaves levels' leaves' None part
part_packs key rid _ _ _ _ _ (takes level level' levels levels' leaves leaves' entry new part r) = part_packs key rid levels leaves levels' leaves' (Some entry) part

pub tree_packs : (root : ℕ) (key : Key) (rid : ℕ) (levels : Levels) (leaves : Row) (levels' : Levels) (leaves' : Row)
    → TreeTakes root key rid levels leaves levels' leaves' → RowPacks leaves leaves'
tree_packs root key rid _ _ _ _ begun = record { all = refl; packed = λ packed. inl (omega arith) }
tree_packs root key rid _ _ _ _ (grown levels levels' leaves leaves' part) = part_packs key rid levels leaves levels' leaves' None part
tree_packs root key rid _ _ _ _ (leaf_parted node rank left right tenth) =
    let entries = with_entry node.entries rank (key, rid) in
    let f : AreFilled entries (below_root node entries left right) = two_filled _ _ entries refl refl tenth.ten in
    let more = length-with node.entries rank (key, rid) in
    record {
      all = omega (arith, f.all, more, length-append node.entries []);
      packed = λ packed. inr (f.kept (omega (arith, tenth.ten)));
    }
tree_packs root key rid _ _ _ _ (inner_parted node entry rank left right levels levels' leaves leaves' part tenth) =
    part_packs key rid levels leaves levels' leaves' (Some entry) part
