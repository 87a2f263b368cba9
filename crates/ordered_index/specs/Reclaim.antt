-- How a tree gives an empty leaf back: it and a leaf beside it become one.
use Rattle.std.specs.Prelude.{◌≡◌, ◌⊎◌, ℕ, ◌+◌, ◌<◌, ◌==◌, ◌&&◌, not, List, [], ◌∷◌, ◌++◌, length, remove, Option, None, Some, Bool, true, false}
use Rattle.plain_data.specs.State.{State, overlay}
use Rattle.record_store.specs.Meaning.{Meaning, value_at, after_write}
use Rattle.record_store.specs.Spots.{IsMoved}
use Rattle.record_store.specs.States.{EachState, IsTorn}
use Rattle.record_store.specs.Walks.{OnlyReads}
use Rattle.record_store.specs.Writes.{WritesAtMost}
use Rattle.ordered_index.specs.declared.key.Key.{Key}
use Rattle.ordered_index.specs.declared.node.Kind.TheVariants.{Leaf, Inner}
use Rattle.ordered_index.specs.declared.under.Under.{Under}
use Rattle.ordered_index.specs.declared.walk.Stored.{Stored}
use Rattle.ordered_index.specs.Asks.{home}
use Rattle.ordered_index.specs.Keys.{last_at, first_key}
use Rattle.ordered_index.specs.Node.{Content, tree_node_words}
use Rattle.ordered_index.specs.Standing.{content_at}
use Rattle.ordered_index.specs.Tree.{IsAt, IsTree, IsTreeBefore, EachTree, In, named, row_entries, tree_records}
use Rattle.ordered_index.specs.Walk.{Path, DescentTears, IsTreeNode, node_of}

-- two leaves become one: the left one keeps its low fence, and takes the entries of the right one and its link
abbrev pub joined_of : Content → Content → Content
joined_of left right = record { kind = left.kind; low = left.low; entries = left.entries ++ right.entries; next = right.next }

-- entries that name two nodes, one behind the other
pub record NamesBoth (entries : List (Key × ℕ)) (left right : ℕ × Content) : Type 0 where
  pub front : List (Key × ℕ)
  pub back : List (Key × ℕ)
  pub joined : entries ≡ front ++ named left ∷ named right ∷ back

-- two leaves side by side below one node become one at the record of the left one, and the node no longer names the right one
pub record LeavesJoin (parent left right : ℕ × Content) (names : NamesBoth parent.1.entries left right) (levels : List (List (ℕ × Content))) (leaves : List (ℕ × Content)) (levels' : List (List (ℕ × Content))) (leaves' : List (ℕ × Content)) : Type 0 where
  pub upper : List (List (ℕ × Content))
  pub lefts : List (ℕ × Content)
  pub rights : List (ℕ × Content)
  pub before : List (ℕ × Content)
  pub after : List (ℕ × Content)
  pub levels_were : levels ≡ upper ++ (lefts ++ parent ∷ rights) ∷ []
  pub levels_are : levels' ≡ upper ++ (lefts ++ (parent.0, record parent.1 { entries = names.front ++ named left ∷ names.back }) ∷ rights) ∷ []
  pub leaves_were : leaves ≡ before ++ left ∷ right ∷ after
  pub leaves_are : leaves' ≡ before ++ (left.0, joined_of left.1 right.1) ∷ after

-- the node is the leaf of the key, and has no entries
abbrev pub IsEmptyHome : Key → List (ℕ × Content) → ℕ × Content → Type 0
IsEmptyHome key leaves node = (home leaves key ≡ Some node) × (node.1.entries ≡ [])

-- the leaf of the key is empty and joins the leaf behind it, or where its node names none behind it, the one before it; the record of the
-- right one is freed
pub record TreeGives (key : Key) (levels : List (List (ℕ × Content))) (leaves : List (ℕ × Content)) (levels' : List (List (ℕ × Content))) (leaves' : List (ℕ × Content)) (freed : List ℕ) : Type 0 where
  pub parent : ℕ × Content
  pub left : ℕ × Content
  pub right : ℕ × Content
  pub names : NamesBoth parent.1.entries left right
  pub join : LeavesJoin parent left right names levels leaves levels' leaves'
  pub empty : IsEmptyHome key leaves left ⊎ (IsEmptyHome key leaves right × (names.back ≡ []))
  pub frees_right : freed ≡ right.0 ∷ []

abbrev pub has_none : Option (ℕ × Content) → Bool
has_none None = false
has_none (Some node) = length node.1.entries == 0

abbrev pub has_three : Option (ℕ × Content) → Bool
has_three None = false
has_three (Some node) = not (length node.1.entries == 2)

-- whether the leaf of a key can be given back: it is empty, and the node above it names three leaves or more
abbrev pub can_give : Key → List (List (ℕ × Content)) → List (ℕ × Content) → Bool
can_give key [] leaves = false
can_give key (level ∷ []) leaves = has_none (home leaves key) && has_three (home level key)
can_give key (level ∷ next ∷ levels) leaves = can_give key (next ∷ levels) leaves

-- the tree after a leaf was given back: it has the same entries in the same order, one leaf less, and no other record than before but
-- those that were freed
pub record IsReclaimed (root : ℕ) (key : Key) (freed : List ℕ) (before after : Meaning) (state : State) (levels : List (List (ℕ × Content))) (leaves : List (ℕ × Content)) (levels' : List (List (ℕ × Content))) (leaves' : List (ℕ × Content)) : Type 0 where
  pub lawful : IsTree before.size root (overlay after.writes state) levels' leaves'
  pub entries_stay : row_entries leaves' ≡ row_entries leaves
  pub shape : TreeGives key levels leaves levels' leaves' freed
  pub moved : IsMoved before.fixed root (λ rid. In rid (tree_records levels leaves)) (λ rid. In rid (tree_records levels' leaves')) (overlay before.writes state) (overlay after.writes state)
  pub lost : (rid : ℕ) → In rid freed → In rid (tree_records levels leaves) × (overlay after.writes state rid ≡ None)
  pub kept : (rid : ℕ) → In rid (tree_records levels leaves) → In rid freed ⊎ In rid (tree_records levels' leaves')
  pub none_new : (rid : ℕ) → In rid (tree_records levels' leaves') → In rid (tree_records levels leaves)
  pub leaves_less : length leaves' + 1 ≡ length leaves
  pub levels_stay : length levels' ≡ length levels

-- whether something was freed
abbrev pub frees : List ℕ → Bool
frees [] = false
frees (rid ∷ rids) = true

-- a leaf is given back where it can be, and nothing is written where it cannot
pub record Reclaims (root : ℕ) (key : Key) (freed : List ℕ) (before after : Meaning) : Type 0 where
  pub answer : EachTree root before after (λ _ levels leaves. frees freed ≡ can_give key levels leaves)
  pub unchanged : frees freed ≡ false → OnlyReads before after
  pub given : after.given ≡ before.given
  pub reclaimed : frees freed ≡ true → EachTree root before after (λ state levels leaves. (levels' : List (List (ℕ × Content))) × (leaves' : List (ℕ × Content)) × IsReclaimed root key freed before after state levels leaves levels' leaves')

-- the walk for a key comes to this leaf by this node
pub record ReachesBy (size root : ℕ) (key : Key) (state : State) (parent leaf : ℕ × Content) : Type 0 where
  pub nodes : List (ℕ × Content)
  pub path : Path size state key (first_key, root) nodes (named parent)
  pub few : length nodes + 1 < 24
  pub at : IsAt size state parent
  pub kind : parent.1.kind ≡ Inner
  pub last : last_at parent.1.entries key ≡ Some (named leaf)
  pub leaf_at : IsAt size state leaf
  pub leaf_kind : leaf.1.kind ≡ Leaf

-- the root is absent, or a leaf
abbrev pub IsLow : ℕ → ℕ → State → Type 0
IsLow size root state = (state root ≡ None) ⊎ ((node : Content) × (node.low ≡ first_key) × IsAt size state (root, node) × (node.kind ≡ Leaf))

abbrev pub UnderIs : ℕ → ℕ → Key → State → Option Under → Type 0
UnderIs size root key state None = IsLow size root state
UnderIs size root key state (Some under) = ReachesBy size root key state (node_of under.parent) (node_of under.leaf)

-- no leaf with this fence stands at the record
abbrev pub IsNoLeafOf : ℕ → Key × ℕ → State → Type 0
IsNoLeafOf size entry state = (node : Content) → node.kind ≡ Leaf → node.low ≡ entry.0 → IsAt size state (entry.1, node) → ⊥

-- entries name a record with a fence
pub record NamesOne (entries : List (Key × ℕ)) (entry : Key × ℕ) : Type 0 where
  pub front : List (Key × ℕ)
  pub back : List (Key × ℕ)
  pub joined : entries ≡ front ++ entry ∷ back

-- the node above the leaf for a key names a record that is no leaf with the fence of its entry
pub record TearsBeside (size root : ℕ) (key : Key) (state : State) (rid : ℕ) : Type 0 where
  pub parent : ℕ × Content
  pub leaf : ℕ × Content
  pub reaches : ReachesBy size root key state parent leaf
  pub low : Key
  pub names : NamesOne parent.1.entries (low, rid)
  pub unfit : IsNoLeafOf size (low, rid) state

-- the walk is torn on its way to the leaf, or beside it
abbrev pub ReclaimTears : ℕ → ℕ → Key → ℕ → State → Type 0
ReclaimTears size root key rid state = DescentTears size root key state rid ⊎ TearsBeside size root key state rid

-- no state that agrees with the reads has a lawful tree: in each the walk is torn at the record
abbrev pub IsTornReclaim : ℕ → Key → Meaning → Meaning → ℕ → Type 0
IsTornReclaim root key before after rid = IsTorn (ReclaimTears before.size root key rid) (IsTreeBefore root before) before after

-- at most so many records are written, each as a node, with 0 in the words where nothing is said, or as an absent record
pub record WritesOrFrees (most : ℕ) (before after : Meaning) : Type 0 where
  pub few : WritesAtMost most before after
  pub nodes : (rid : ℕ) (value : Option (List ℕ)) → value_at after.writes rid ≡ Some value → (value_at before.writes rid ≡ Some value) ⊎ (value ≡ None) ⊎ ((node : Content) × (value ≡ Some (tree_node_words node)))

-- two leaves are written as one, the record of the right one is freed, and the node above is written without its entry
abbrev pub after_join : Meaning → ℕ → Content → ℕ → ℕ → Content → Meaning
after_join m left leaf right at parent = after_write (after_write (after_write m left (Some (tree_node_words leaf))) right None) at (Some (tree_node_words parent))

-- a node without the entry at a place
abbrev pub without : Content → ℕ → Content
without node place = record node { entries = remove node.entries place }

-- which of two leaves is the one that is given back: the left one, or the right one where none is named behind it
abbrev pub IsPair : ℕ × Content → ℕ × Content → ℕ × Content → ℕ × Content → List (Key × ℕ) → Type 0
IsPair leaf beside left right back = ((left ≡ leaf) × (right ≡ beside)) ⊎ ((left ≡ beside) × (right ≡ leaf) × (back ≡ []))

-- what a node gives: the leaf for a key joined a leaf beside it, which was read first
pub record Joins (size : ℕ) (parent leaf : ℕ × Content) (before after : Meaning) (freed : List ℕ) : Type 0 where
  pub between : Meaning
  pub only : OnlyReads before between
  pub beside : ℕ × Content
  pub left : ℕ × Content
  pub right : ℕ × Content
  pub names : NamesBoth parent.1.entries left right
  pub pair : IsPair leaf beside left right names.back
  pub at : EachState before between (λ state. IsAt size state beside)
  pub kind : beside.1.kind ≡ Leaf
  pub wrote : after ≡ after_join between left.0 (joined_of left.1 right.1) right.0 parent.0 (record parent.1 { entries = names.front ++ named left ∷ names.back })
  pub frees_right : freed ≡ right.0 ∷ []

-- a node is one of two, or its record was found to be present
abbrev pub IsFound : Meaning → Meaning → ℕ → ℕ → ℕ → Type 0
IsFound before after parent leaf rid = (rid ≡ parent) ⊎ (rid ≡ leaf) ⊎ EachState before after (λ state. (words : List ℕ) × (state rid ≡ Some words))

-- a record that is named has no leaf with the fence of its entry, in each state
pub record IsNoneBeside (size : ℕ) (entries : List (Key × ℕ)) (before after : Meaning) (rid : ℕ) : Type 0 where
  pub low : Key
  pub names : NamesOne entries (low, rid)
  pub none : EachState before after (IsNoLeafOf size (low, rid))

-- a leaf that was read at a record with this fence
pub record IsLeafAt (size : ℕ) (entry : Key × ℕ) (here : Stored) : Type 0 where
  pub node : IsTreeNode size entry.1 entry.0 here
  pub within : here.at < size
  pub kind : (content_at here.words).kind ≡ Leaf
