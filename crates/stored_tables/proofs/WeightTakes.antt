-- How many nodes a tree gets where it takes an entry in: as many as new records are due.
use Rattle.std.proofs.Common.{◌≡◌, ℕ, ◌+◌, ◌-◌, ◌≤◌, Bool, true, false, cond, eqb, ◌&&◌, List, [], ◌∷◌, ◌++◌, length, take, drop, Option, None, Some, refl, sym, ap, ◌∙◌, arith, subst, inl, inr, ne_eqb, add-zero}
use Rattle.std.proofs.lemmas.List.{length-append, length-take, length-drop, nil_from_length}
use Rattle.ordered_index.specs.declared.key.Key.{Key}
use Rattle.ordered_index.specs.Keys.{NotAfter, Above}
use Rattle.ordered_index.specs.Node.{Content}
use Rattle.ordered_index.specs.Splits.{with_entry, root_row, below_root, NodeBecomes, RowTakes, PartTakes, leaf, stays, takes, TreeTakes, begun, grown, leaf_parted, inner_parted}
use Rattle.ordered_index.specs.Tree.{row_names, row_entries}
use Rattle.ordered_index.specs.Asks.{home, has_nine, full_nodes, records_due}
use Rattle.stored_tables.proofs.WeightTrees.{Row, Levels, TwoEach, Branches, IsBranching, count, count-level, count-leaves, one_most, some_nodes, due_none}

abbrev Entries : Type 0
Entries = List (Key × ℕ)

abbrev New : Type 0
New = Option (Key × ℕ)

-- a new node, or none
news : New → ℕ
news None = 0
news (Some entry) = 1

-- ---- entries and rows

entry_more : (entries : Entries) (rank : ℕ) (entry : Key × ℕ) → rank ≤ length entries
    → length (with_entry entries rank entry) ≡ length entries + 1
entry_more entries rank entry low = omega (arith, low, length-append (take rank entries) (entry ∷ drop rank entries), length-take rank entries, length-drop rank entries)

entries-append : (xs ys : Row) → length (row_entries (xs ++ ys)) ≡ length (row_entries xs) + length (row_entries ys)
entries-append [] ys = omega arith
entries-append (x ∷ xs) ys = omega (arith, entries-append xs ys, length-append x.1.entries (row_entries (xs ++ ys)), length-append x.1.entries (row_entries xs))

two_append : (xs ys : Row) → TwoEach xs → TwoEach ys → TwoEach (xs ++ ys)
two_append [] ys first second = second
two_append (x ∷ xs) ys first second = (first.0, two_append xs ys first.1 second)

two_around : (before nodes after : Row) (node : ℕ × Content) → (2 ≤ length node.1.entries → TwoEach nodes)
    → TwoEach (before ++ node ∷ after) → TwoEach (before ++ (nodes ++ after))
two_around [] nodes after node here two = two_append nodes after (here two.0) two.1
two_around (x ∷ before) nodes after node here two = (two.0, two_around before nodes after node here two.1)

-- what becomes of a node
record AreParts (entries : Entries) (new : New) (nodes : Row) : Type 0 where
  pub long : length nodes ≡ 1 + news new
  pub all : length (row_entries nodes) ≡ length entries
  pub two : 2 ≤ length entries → TwoEach nodes

parts : (node : ℕ × Content) (entries : Entries) (new : New) (nodes : Row) → NodeBecomes node entries new nodes → AreParts entries new nodes
unfolding news
parts node entries None nodes becomes =
    let P : Row → Type 0 = AreParts entries None in
    subst P (sym becomes.1) (record { long = refl; all = omega (arith, length-append entries []); two = λ two. (two, tt) })
parts node entries (Some new) nodes becomes =
    let P : Row → Type 0 = AreParts entries (Some new) in
    let first = length-take 5 entries in
    let second = length-drop 5 entries in
    let ten = becomes.0 in
    subst P (sym becomes.2) (record {
      long = refl;
      all = omega (arith, ten, first, second, length-append (take 5 entries) (drop 5 entries ++ []), length-append (drop 5 entries) []);
      two = λ two. (omega (arith, ten, first), (omega (arith, ten, second), tt));
    })

record RowGrows (row row' : Row) (new : New) : Type 0 where
  pub long : length row' ≡ length row + news new
  pub all : length (row_entries row') ≡ length (row_entries row) + 1
  pub two : TwoEach row → TwoEach row'
  pub some : 1 ≤ length row

row_grows : (key : Key) (entry : Key × ℕ) (row row' : Row) (new : New) → RowTakes key entry row row' new → RowGrows row row' new
row_grows key entry row row' new r =
    let p = parts r.node (with_entry r.node.1.entries r.rank entry) new r.nodes r.becomes in
    let more = entry_more r.node.1.entries r.rank entry r.place.within in
    let was = ap length r.was ∙ length-append r.before (r.node ∷ r.after) in
    let now = ap length r.now ∙ length-append r.before (r.nodes ++ r.after) in
    let had = ap (λ xs. length (row_entries xs)) r.was ∙ entries-append r.before (r.node ∷ r.after) in
    let has = ap (λ xs. length (row_entries xs)) r.now ∙ entries-append r.before (r.nodes ++ r.after) in
    let P : Row → Type 0 = TwoEach in
    record {
      long = omega (arith, was, now, p.long, length-append r.nodes r.after);
      all = omega (arith, had, has, p.all, more, entries-append r.nodes r.after, length-append r.node.1.entries (row_entries r.after));
      two = λ two. subst P (sym r.now) (two_around r.before r.nodes r.after r.node (λ enough. p.two (omega (arith, enough, more))) (subst P r.was two));
      some = omega (arith, was);
    }

-- ---- the node that takes it in is the one to which the key belongs

home_above : (row : Row) (key : Key) → Above key (row_names row) → home row key ≡ None
home_above [] key above = refl
home_above (x ∷ row) key above = rw (home_above row key above.1, above.0) refl

home_here : (before after : Row) (node : ℕ × Content) (key : Key) → NotAfter node.1.low key → Above key (row_names after)
    → home (before ++ node ∷ after) key ≡ Some node
home_here [] after node key low above = rw (home_above after key above, low) refl
home_here (x ∷ before) after node key low above = rw (home_here before after node key low above) refl

not_nine : (key : Key) (entry : Key × ℕ) (row row' : Row) → RowTakes key entry row row' None → has_nine (home row key) ≡ false
not_nine key entry row row' r =
    let at_home : home row key ≡ Some r.node = ap (λ xs. home xs key) r.was ∙ home_here r.before r.after r.node key r.low r.above in
    let more = entry_more r.node.1.entries r.rank entry r.place.within in
    let few = r.becomes.0 in
    ap has_nine at_home ∙ ne_eqb (length r.node.1.entries) 9 (λ nine. omega (arith, nine, more, few))

-- ---- the steps of the count

count_stops : (f n : ℕ) (test : Bool) → test ≡ false → cond (eqb f (n + 1) && test) (n + 2) f ≡ f
count_stops f n test not_full = rw not_full (elim (eqb f (n + 1)) as (λ b. cond (b && false) (n + 2) f ≡ f) [ true ↦ refl | false ↦ refl ])

count_less : (f n : ℕ) (test : Bool) → f ≤ n → cond (eqb f (n + 1) && test) (n + 2) f ≡ f
count_less f n test less = rw (ne_eqb f (n + 1) (λ same. omega arith)) refl

most_step : (f n : ℕ) (test : Bool) → f ≤ n + 1 → cond (eqb f (n + 1) && test) (n + 2) f ≤ n + 2
most_step f n test most = elim (eqb f (n + 1) && test) as (λ b. cond b (n + 2) f ≤ n + 2) [ true ↦ omega arith | false ↦ omega arith ]

full_most : (key : Key) (levels : Levels) (leaves : Row) → full_nodes key levels leaves ≤ length levels + 1
full_most key [] leaves = one_most (has_nine (home leaves key))
full_most key (level ∷ levels) leaves =
    let most : full_nodes key (level ∷ levels) leaves ≤ length levels + 2 = most_step (full_nodes key levels leaves) (length levels) (has_nine (home level key)) (full_most key levels leaves) in
    omega (arith, most)

due_step : (f n : ℕ) → f ≤ n + 1 → cond (eqb f (n + 1)) (n + 2) f ≤ n + 2
due_step f n most = elim (eqb f (n + 1)) as (λ b. cond b (n + 2) f ≤ n + 2) [ true ↦ omega arith | false ↦ omega arith ]

due_most : (key : Key) (levels : Levels) (leaves : Row) → records_due key levels leaves ≤ length levels + 2
due_most key levels leaves = due_step (full_nodes key levels leaves) (length levels) (full_most key levels leaves)

due_less : (key : Key) (levels : Levels) (leaves : Row) → full_nodes key levels leaves ≤ length levels
    → records_due key levels leaves ≡ full_nodes key levels leaves
due_less key levels leaves less = rw (ne_eqb (full_nodes key levels leaves) (length levels + 1) (λ same. omega (arith, same, less))) refl

-- ---- a part of a tree

-- where no node is left over, one node came for each full one; else one in each row
abbrev Grows : Key → Levels → Row → Levels → Row → New → Type 0
Grows key levels leaves levels' leaves' None = (count levels leaves + full_nodes key levels leaves ≤ count levels' leaves') × (full_nodes key levels leaves ≤ length levels)
Grows key levels leaves levels' leaves' (Some new) = count levels leaves + (length levels + 1) ≤ count levels' leaves'

leaf_grows : (key : Key) (entry : Key × ℕ) (leaves leaves' : Row) (new : New) → RowTakes key entry leaves leaves' new
    → Grows key [] leaves [] leaves' new
unfolding news
leaf_grows key entry leaves leaves' None r =
    let g = row_grows key entry leaves leaves' None r in
    let none : full_nodes key [] leaves ≡ 0 = ap (λ b. cond b 1 0) (not_nine key entry leaves leaves' r) in
    (omega (arith, g.long, none, count-leaves leaves, count-leaves leaves'), omega (arith, none))
leaf_grows key entry leaves leaves' (Some new) r =
    let g = row_grows key entry leaves leaves' (Some new) r in
    omega (arith, g.long, count-leaves leaves, count-leaves leaves')

level_grows : (key : Key) (entry : Key × ℕ) (level level' : Row) (levels levels' : Levels) (leaves leaves' : Row) (new : New)
    → count levels leaves + (length levels + 1) ≤ count levels' leaves' → RowTakes key entry level level' new
    → Grows key (level ∷ levels) leaves (level' ∷ levels') leaves' new
unfolding news
level_grows key entry level level' levels levels' leaves leaves' None below r =
    let g = row_grows key entry level level' None r in
    let same : full_nodes key (level ∷ levels) leaves ≡ full_nodes key levels leaves = count_stops (full_nodes key levels leaves) (length levels) (has_nine (home level key)) (not_nine key entry level level' r) in
    let most = full_most key levels leaves in
    (omega (arith, below, g.long, same, most, count-level level levels leaves, count-level level' levels' leaves'), omega (arith, same, most))
level_grows key entry level level' levels levels' leaves leaves' (Some new) below r =
    let g = row_grows key entry level level' (Some new) r in
    omega (arith, below, g.long, count-level level levels leaves, count-level level' levels' leaves')

part_grows : (key : Key) (rid : ℕ) (levels : Levels) (leaves : Row) (levels' : Levels) (leaves' : Row) (new : New)
    → PartTakes key rid levels leaves levels' leaves' new → Grows key levels leaves levels' leaves' new
part_grows key rid _ _ _ _ _ (leaf leaves leaves' new r) = leaf_grows key (key, rid) leaves leaves' new r
part_grows key rid _ _ _ _ _ (stays level levels levels' leaves leaves' part) =
    let below = part_grows key rid levels leaves levels' leaves' None part in
    let same : full_nodes key (level ∷ levels) leaves ≡ full_nodes key levels leaves = count_less (full_nodes key levels leaves) (length levels) (has_nine (home level key)) below.1 in
    (omega (arith, below.0, same, count-level level levels leaves, count-level level levels' leaves'), omega (arith, below.1, same))
part_grows key rid _ _ _ _ _ (takes level level' levels levels' leaves leaves' entry new part r) =
    level_grows key entry level level' levels levels' leaves leaves' new (part_grows key rid levels leaves levels' leaves' (Some entry) part) r

part_branches : (key : Key) (rid above : ℕ) (levels : Levels) (leaves : Row) (levels' : Levels) (leaves' : Row) (new : New)
    → PartTakes key rid levels leaves levels' leaves' new → Branches above levels leaves → Branches (above + news new) levels' leaves'
unfolding news
part_branches key rid above _ _ _ _ _ (leaf leaves leaves' new r) branches = let g = row_grows key (key, rid) leaves leaves' new r in omega (arith, g.long, branches)
part_branches key rid above _ _ _ _ _ (stays level levels levels' leaves leaves' part) branches =
    let below = part_branches key rid (length (row_entries level)) levels leaves levels' leaves' None part branches.2 in
    (omega (arith, branches.0), branches.1, subst (λ n. Branches n levels' leaves') (add-zero (length (row_entries level))) below)
part_branches key rid above _ _ _ _ _ (takes level level' levels levels' leaves leaves' entry new part r) branches =
    let g = row_grows key entry level level' new r in
    let below = part_branches key rid (length (row_entries level)) levels leaves levels' leaves' (Some entry) part branches.2 in
    (omega (arith, g.long, branches.0), g.two branches.1, subst (λ n. Branches n levels' leaves') (sym g.all) below)

part_some : (key : Key) (rid : ℕ) (levels : Levels) (leaves : Row) (levels' : Levels) (leaves' : Row) (new : New)
    → PartTakes key rid levels leaves levels' leaves' new → 1 ≤ length leaves
part_some key rid _ _ _ _ _ (leaf leaves leaves' new r) = (row_grows key (key, rid) leaves leaves' new r).some
part_some key rid _ _ _ _ _ (stays level levels levels' leaves leaves' part) = part_some key rid levels leaves levels' leaves' None part
part_some key rid _ _ _ _ _ (takes level level' levels levels' leaves leaves' entry new part r) = part_some key rid levels leaves levels' leaves' (Some entry) part

-- ---- the tree

pub record TreeGrows (key : Key) (levels : Levels) (leaves : Row) (levels' : Levels) (leaves' : Row) : Type 0 where
  pub nodes : count levels leaves - 1 + records_due key levels leaves ≤ count levels' leaves' - 1
  pub branches : IsBranching levels' leaves'

whole : (levels : Levels) (leaves : Row) → 1 ≤ length leaves → IsBranching levels leaves → Branches 1 levels leaves
whole levels leaves some is = elim is as (λ _. Branches 1 levels leaves) [
  | inl none ↦ (let empty : length leaves ≡ 0 = ap length none.1 in absurd (omega (arith, empty, some)))
  | inr branches ↦ branches
]

pub tree_grows : (root : ℕ) (key : Key) (rid : ℕ) (levels : Levels) (leaves : Row) (levels' : Levels) (leaves' : Row)
    → TreeTakes root key rid levels leaves levels' leaves' → IsBranching levels leaves → TreeGrows key levels leaves levels' leaves'
unfolding news
tree_grows root key rid _ _ _ _ begun is = record { nodes = omega (arith, due_none key [] [] refl refl); branches = inr refl }
tree_grows root key rid _ _ _ _ (grown levels levels' leaves leaves' part) is =
    let branches = whole levels leaves (part_some key rid levels leaves levels' leaves' None part) is in
    let g = part_grows key rid levels leaves levels' leaves' None part in
    let some = some_nodes 1 levels leaves branches in
    record {
      nodes = omega (arith, g.0, some, due_less key levels leaves g.1);
      branches = inr (part_branches key rid 1 levels leaves levels' leaves' None part branches);
    }
tree_grows root key rid _ _ _ _ (leaf_parted node rank left right tenth) is =
    let entries = with_entry node.entries rank (key, rid) in
    let due = due_most key [] ((root, node) ∷ []) in
    record { nodes = omega (arith, due); branches = inr (refl, (omega arith, tt), refl) }
tree_grows root key rid _ _ _ _ (inner_parted node entry rank left right levels levels' leaves leaves' part tenth) is =
    let entries = with_entry node.entries rank entry in
    let branches = whole (((root, node) ∷ []) ∷ levels) leaves (part_some key rid levels leaves levels' leaves' (Some entry) part) is in
    let g = part_grows key rid levels leaves levels' leaves' (Some entry) part in
    let due = due_most key (((root, node) ∷ []) ∷ levels) leaves in
    let more = entry_more node.entries rank entry tenth.place.within in
    let had = length-append node.entries [] in
    let first = length-take 5 entries in
    let second = length-drop 5 entries in
    let below = part_branches key rid (length (row_entries ((root, node) ∷ []))) levels leaves levels' leaves' (Some entry) part branches.2 in
    let same : length (row_entries ((root, node) ∷ [])) + 1 ≡ length (row_entries (below_root node entries left right)) =
    omega (arith, tenth.ten, more, had, first, second, length-append (take 5 entries) (drop 5 entries ++ []), length-append (drop 5 entries) []) in
    record {
      nodes = omega (arith, g, due, count-level ((root, node) ∷ []) levels leaves, count-level (root_row root node entries left right) (below_root node entries left right ∷ levels') leaves', count-level (below_root node entries left right) levels' leaves');
      branches = inr (refl, (omega arith, tt), (refl, (omega (arith, tenth.ten, first), (omega (arith, tenth.ten, second), tt)), subst (λ n. Branches n levels' leaves') same below));
    }

-- ---- another row of leaves that is as long

pub count_same : (levels : Levels) (leaves leaves' : Row) → length leaves' ≡ length leaves → count levels leaves' ≡ count levels leaves
count_same [] leaves leaves' same = count-leaves leaves' ∙ same ∙ sym (count-leaves leaves)
count_same (level ∷ levels) leaves leaves' same = omega (arith, count-level level levels leaves, count-level level levels leaves', count_same levels leaves leaves' same)

still_branches : (above : ℕ) (levels : Levels) (leaves leaves' : Row) → length leaves' ≡ length leaves → Branches above levels leaves
    → Branches above levels leaves'
still_branches above [] leaves leaves' same branches = same ∙ branches
still_branches above (level ∷ levels) leaves leaves' same branches = (branches.0, branches.1, still_branches (length (row_entries level)) levels leaves leaves' same branches.2)

pub still_branching : (levels : Levels) (leaves leaves' : Row) → length leaves' ≡ length leaves → IsBranching levels leaves
    → IsBranching levels leaves'
still_branching levels leaves leaves' same is = elim is as (λ _. IsBranching levels leaves') [
  | inl none ↦ inl (none.0, nil_from_length leaves' (same ∙ ap length none.1))
  | inr branches ↦ inr (still_branches 1 levels leaves leaves' same branches)
]
