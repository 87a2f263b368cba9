-- How a part of a tree takes an entry in.
use Rattle.std.specs.Prelude.{◌≡◌, ◌⊎◌, ℕ, ◌+◌, ◌<◌, ◌≤◌, if◌then◌else◌, List, ◌++◌, length, Option, None, Some, IsSome, ⊤}
use Rattle.plain_data.specs.State.{State, Agrees, overlay}
use Rattle.record_store.specs.Meaning.{Meaning, after_write, after_fresh}
use Rattle.record_store.specs.Store.{IsFresh}
use Rattle.ordered_index.specs.declared.key.Key.{Key}
use Rattle.ordered_index.specs.declared.node.Kind.TheVariants.{Leaf}
use Rattle.ordered_index.specs.declared.enter.Entering.{Entering}
use Rattle.ordered_index.specs.declared.enter.Entering.TheVariants.{There, Done, Takes}
use Rattle.ordered_index.specs.Keys.{is_same, Above, Rising, last_at, entry_at}
use Rattle.ordered_index.specs.Node.{Content, tree_node_words}
use Rattle.ordered_index.specs.Tree.{IsAt, Descends, Follow, In, Apart, named, row_names, tree_records, record_of_key}
pub use Rattle.ordered_index.specs.Splits.{with_entry, IsRank, key_at, next_left, left_of, right_of, leaf_of, over_of}
use Rattle.ordered_index.specs.Splits.{PartTakes}
use Rattle.ordered_index.specs.Walk.{Path}

-- the part of a tree below these entries
pub record Part (size : ℕ) (state : State) (above : List (Key × ℕ)) (levels : List (List (ℕ × Content))) (leaves : List (ℕ × Content)) : Type 0 where
  pub descends : Descends size state above levels leaves
  pub rising : Rising (row_names leaves)
  pub follow : Follow leaves
  pub once : Apart (tree_records levels leaves)

-- records are kept, or come to be where none were
pub record Grown (fixed : ℕ) (state state' : State) (was now : List ℕ) : Type 0 where
  pub kept : (rid : ℕ) → In rid was → In rid now
  pub anew : (rid : ℕ) → In rid now → In rid was ⊎ ((state rid ≡ None) × (fixed ≤ rid))
  pub outside : (rid : ℕ) → (In rid now → ⊥) → state' rid ≡ state rid

-- the part with an entry more, below other entries
pub record PartWith (size fixed : ℕ) (key : Key) (rid : ℕ) (state state' : State) (above' : List (Key × ℕ)) (levels : List (List (ℕ × Content))) (leaves : List (ℕ × Content)) (levels' : List (List (ℕ × Content))) (leaves' : List (ℕ × Content)) : Type 0 where
  pub part : Part size state' above' levels' leaves'
  pub grown : Grown fixed state state' (tree_records levels leaves) (tree_records levels' leaves')
  pub at_key : (other : Key) → record_of_key leaves' other ≡ (if is_same other key then Some rid else record_of_key leaves other)
  pub absent : record_of_key leaves key ≡ None
  pub leaves_grow : length leaves' ≤ length leaves + 1
  pub same_depth : length levels' ≡ length levels

-- what comes of a part below the entries of a node: the key is there; or it takes the entry in, and then the node has to take in
-- an entry for a new node, or not
abbrev pub IsEntered : ℕ → ℕ → Key → ℕ → State → State → List (Key × ℕ) → List (Key × ℕ) → ℕ → List (Key × ℕ) → List (List (ℕ × Content)) → List (ℕ × Content) → Entering → Type 0
IsEntered size fixed key rid state state' xs entries rank ys levels leaves There = IsSome (record_of_key leaves key)
IsEntered size fixed key rid state state' xs entries rank ys levels leaves Done =
    (levels' : List (List (ℕ × Content))) × (leaves' : List (ℕ × Content)) × PartWith size fixed key rid state state' (xs ++ (entries ++ ys)) levels leaves levels' leaves' × PartTakes key rid levels leaves levels' leaves' None
IsEntered size fixed key rid state state' xs entries rank ys levels leaves (Takes entry) =
    (levels' : List (List (ℕ × Content))) × (leaves' : List (ℕ × Content)) × PartWith size fixed key rid state state' (xs ++ (with_entry entries rank entry ++ ys)) levels leaves levels' leaves' × PartTakes key rid levels leaves levels' leaves' (Some entry)

-- over each state that agrees, and each part below a level that has the entries of the node
abbrev pub EachEntered : Meaning → Meaning → Key → ℕ → List (Key × ℕ) → ℕ → Entering → Type 0
EachEntered before after key rid entries rank entering =
    (state : State) (xs ys : List (Key × ℕ)) (levels : List (List (ℕ × Content))) (leaves : List (ℕ × Content)) → Agrees state after.reads → Part before.size (overlay before.writes state) (xs ++ (entries ++ ys)) levels leaves → Above key ys
    → IsEntered before.size before.fixed key rid (overlay before.writes state) (overlay after.writes state) xs entries rank ys levels leaves entering

-- a leaf has the key, or takes the entry in
abbrev pub IsLeafEntered : Key → ℕ → List (Key × ℕ) → Entering → Type 0
IsLeafEntered key rid entries There = IsSome (entry_at entries key)
IsLeafEntered key rid entries Done = ⊥
IsLeafEntered key rid entries (Takes entry) = (entry ≡ (key, rid)) × (entry_at entries key ≡ None)

abbrev pub IfTakes : Entering → (Key × ℕ → Type 0) → Type 0
IfTakes There P = ⊤
IfTakes Done P = ⊤
IfTakes (Takes entry) P = P entry

abbrev pub IfThere : Entering → Type 0 → Type 0
IfThere There P = P
IfThere Done P = ⊤
IfThere (Takes entry) P = ⊤

-- a walk on from the entry for a key tears
pub record TearsBelow (size depth : ℕ) (key : Key) (entries : List (Key × ℕ)) (state : State) (rid : ℕ) : Type 0 where
  pub child : Key × ℕ
  pub last : last_at entries key ≡ Some child
  pub nodes : List (ℕ × Content)
  pub low : Key
  pub path : Path size state key child nodes (low, rid)
  pub unfit : ((node : Content) → node.low ≡ low → IsAt size state (rid, node) → ⊥) ⊎ (24 ≤ depth + length nodes)

-- a walk on from the entry for a key comes to a leaf
pub record ReachesBelow (size depth : ℕ) (key : Key) (entries : List (Key × ℕ)) (state : State) : Type 0 where
  pub child : Key × ℕ
  pub last : last_at entries key ≡ Some child
  pub nodes : List (ℕ × Content)
  pub leaf : ℕ × Content
  pub path : Path size state key child nodes (named leaf)
  pub few : depth + length nodes < 24
  pub at : IsAt size state leaf
  pub kind : leaf.1.kind ≡ Leaf

-- a node takes an entry in: it is written with it, or parted in two
abbrev pub PutsEntry : Meaning → Meaning → ℕ → Content → List (Key × ℕ) → Option (Key × ℕ) → Type 0
PutsEntry before after at node entries None = (length entries ≤ 9) × (after ≡ after_write before at (Some (tree_node_words (record node { entries = entries }))))
PutsEntry before after at node entries (Some new) =
    (length entries ≡ 10) × IsFresh before new.1 × (new.0 ≡ key_at entries 5)
    × (after ≡ after_write (after_write (after_fresh before new.1) new.1 (Some (tree_node_words (right_of node entries)))) at (Some (tree_node_words (left_of node entries new.1))))

-- the root takes an entry in: it is written with it, or its entries go to two new nodes below it
pub data PutsRoot (before after : Meaning) (at : ℕ) (node : Content) (entries : List (Key × ℕ)) : Type 0 where
  whole : length entries ≤ 9 → after ≡ after_write before at (Some (tree_node_words (record node { entries = entries }))) → PutsRoot before after at node entries
  parted : (left right : ℕ) → length entries ≡ 10 → IsFresh before left → IsFresh (after_fresh before left) right
      → after ≡ after_write (after_write (after_write (after_fresh (after_fresh before left) right) left (Some (tree_node_words (left_of node entries right)))) right (Some (tree_node_words (right_of node entries)))) at (Some (tree_node_words (over_of node.low left (key_at entries 5) right)))
      → PutsRoot before after at node entries
