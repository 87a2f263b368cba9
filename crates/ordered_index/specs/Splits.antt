-- How the nodes of a tree change where an entry is inserted.
use Rattle.std.specs.Prelude.{◌≡◌, ℕ, ◌-◌, ◌<◌, ◌≤◌, List, [], ◌∷◌, ◌++◌, length, take, drop, slice_index_or, Option, None, Some}
use Rattle.ordered_index.specs.declared.key.Key.{Key}
use Rattle.ordered_index.specs.declared.node.Kind.{Kind}
use Rattle.ordered_index.specs.declared.node.Kind.TheVariants.{Leaf, Inner}
use Rattle.ordered_index.specs.Keys.{Above, NotAfter, last_at, first_key}
use Rattle.ordered_index.specs.Node.{Content}
use Rattle.ordered_index.specs.Tree.{row_names}

-- entries with one more at a place
abbrev pub with_entry : List (Key × ℕ) → ℕ → Key × ℕ → List (Key × ℕ)
with_entry entries rank entry = take rank entries ++ entry ∷ drop rank entries

-- how many entries are not behind a key, by the last of them
pub record IsRank (key : Key) (entries : List (Key × ℕ)) (rank : ℕ) : Type 0 where
  pub within : rank ≤ length entries
  pub above : Above key (drop rank entries)
  pub last : (d : Key × ℕ) → 0 < rank → last_at entries key ≡ Some (slice_index_or entries (rank - 1) d)

-- the key of an entry
abbrev pub key_at : List (Key × ℕ) → ℕ → Key
key_at entries index = (slice_index_or entries index (first_key, 0)).0

-- the first five entries of ten stay, and a leaf names the new node
abbrev pub next_left : Kind → ℕ → Option ℕ
next_left Leaf rid = Some rid
next_left Inner rid = None

abbrev pub left_of : Content → List (Key × ℕ) → ℕ → Content
left_of node entries rid = record { kind = node.kind; low = node.low; entries = take 5 entries; next = next_left node.kind rid }

-- the last five go to the new node
abbrev pub right_of : Content → List (Key × ℕ) → Content
right_of node entries = record { kind = node.kind; low = key_at entries 5; entries = drop 5 entries; next = node.next }

-- a leaf with one entry
abbrev pub leaf_of : Key → ℕ → Content
leaf_of key rid = record { kind = Leaf; low = first_key; entries = (key, rid) ∷ []; next = None }

-- the node over two others
abbrev pub over_of : Key → ℕ → Key → ℕ → Content
over_of low left key right = record { kind = Inner; low = low; entries = (low, left) ∷ (key, right) ∷ []; next = None }

-- what becomes of a node with one entry more: it has them all where they are nine at most; of ten the first five stay, and the last five
-- go to a new node, which the level above has to take in by its first key
abbrev pub NodeBecomes : ℕ × Content → List (Key × ℕ) → Option (Key × ℕ) → List (ℕ × Content) → Type 0
NodeBecomes node entries None nodes = (length entries ≤ 9) × (nodes ≡ (node.0, record node.1 { entries = entries }) ∷ [])
NodeBecomes node entries (Some new) nodes =
    (length entries ≡ 10) × (new.0 ≡ key_at entries 5) × (nodes ≡ (node.0, left_of node.1 entries new.1) ∷ (new.1, right_of node.1 entries) ∷ [])

-- the node of a row to which a key belongs takes an entry in at its place
pub record RowTakes (key : Key) (entry : Key × ℕ) (row row' : List (ℕ × Content)) (new : Option (Key × ℕ)) : Type 0 where
  pub before : List (ℕ × Content)
  pub node : ℕ × Content
  pub after : List (ℕ × Content)
  pub nodes : List (ℕ × Content)
  pub rank : ℕ
  pub was : row ≡ before ++ node ∷ after
  pub now : row' ≡ before ++ (nodes ++ after)
  pub low : NotAfter node.1.low key
  pub above : Above key (row_names after)
  pub place : IsRank key node.1.entries rank
  pub becomes : NodeBecomes node (with_entry node.1.entries rank entry) new nodes

-- the levels below some entries: the leaf takes the key in, and each level above takes in a new node of the level below, or stays
pub data PartTakes (key : Key) (rid : ℕ) : List (List (ℕ × Content)) → List (ℕ × Content) → List (List (ℕ × Content)) → List (ℕ × Content) → Option (Key × ℕ) → Type 0 where
  leaf : (leaves leaves' : List (ℕ × Content)) (new : Option (Key × ℕ)) → RowTakes key (key, rid) leaves leaves' new → PartTakes key rid [] leaves [] leaves' new
  stays : (level : List (ℕ × Content)) (levels levels' : List (List (ℕ × Content))) (leaves leaves' : List (ℕ × Content)) → PartTakes key rid levels leaves levels' leaves' None → PartTakes key rid (level ∷ levels) leaves (level ∷ levels') leaves' None
  takes : (level level' : List (ℕ × Content)) (levels levels' : List (List (ℕ × Content))) (leaves leaves' : List (ℕ × Content)) (entry : Key × ℕ) (new : Option (Key × ℕ))
      → PartTakes key rid levels leaves levels' leaves' (Some entry) → RowTakes key entry level level' new
      → PartTakes key rid (level ∷ levels) leaves (level' ∷ levels') leaves' new

-- the ten entries of the root go to two new nodes, and the root becomes an inner node over them
abbrev pub root_row : ℕ → Content → List (Key × ℕ) → ℕ → ℕ → List (ℕ × Content)
root_row root node entries left right = (root, over_of node.low left (key_at entries 5) right) ∷ []

abbrev pub below_root : Content → List (Key × ℕ) → ℕ → ℕ → List (ℕ × Content)
below_root node entries left right = (left, left_of node entries right) ∷ (right, right_of node entries) ∷ []

-- an entry goes to this place of a node, and is the tenth there
pub record IsTenth (key : Key) (node : Content) (rank : ℕ) (entry : Key × ℕ) : Type 0 where
  pub place : IsRank key node.entries rank
  pub ten : length (with_entry node.entries rank entry) ≡ 10

-- the whole tree: it begins as one leaf; or no level is added; or the root, a leaf or an inner node, is parted
pub data TreeTakes (root : ℕ) (key : Key) (rid : ℕ) : List (List (ℕ × Content)) → List (ℕ × Content) → List (List (ℕ × Content)) → List (ℕ × Content) → Type 0 where
  begun : TreeTakes root key rid [] [] [] ((root, leaf_of key rid) ∷ [])
  grown : (levels levels' : List (List (ℕ × Content))) (leaves leaves' : List (ℕ × Content)) → PartTakes key rid levels leaves levels' leaves' None
      → TreeTakes root key rid levels leaves levels' leaves'
  leaf_parted : (node : Content) (rank left right : ℕ) → IsTenth key node rank (key, rid)
      → TreeTakes root key rid [] ((root, node) ∷ [])
      (root_row root node (with_entry node.entries rank (key, rid)) left right ∷ [])
      (below_root node (with_entry node.entries rank (key, rid)) left right)
  inner_parted : (node : Content) (entry : Key × ℕ) (rank left right : ℕ) (levels levels' : List (List (ℕ × Content))) (leaves leaves' : List (ℕ × Content))
      → PartTakes key rid levels leaves levels' leaves' (Some entry) → IsTenth key node rank entry
      → TreeTakes root key rid (((root, node) ∷ []) ∷ levels) leaves
      (root_row root node (with_entry node.entries rank entry) left right ∷ below_root node (with_entry node.entries rank entry) left right ∷ levels')
      leaves'
