-- Where a walk from the root goes.
use Rattle.std.specs.Prelude.{◌≡◌, ◌⊎◌, ℕ, ◌<◌, ◌≤◌, List, [], ◌∷◌, length, slice_index_or, Option, None, Some}
use Rattle.plain_data.specs.State.{State}
use Rattle.record_store.specs.Meaning.{Meaning}
use Rattle.record_store.specs.States.{IsTorn}
use Rattle.ordered_index.specs.declared.key.Key.{Key}
use Rattle.ordered_index.specs.declared.node.Kind.TheVariants.{Leaf, Inner}
use Rattle.ordered_index.specs.declared.walk.Stored.{Stored}
use Rattle.ordered_index.specs.Keys.{last_at, first_key}
use Rattle.ordered_index.specs.Node.{Content, Holds, IsSound}
use Rattle.ordered_index.specs.Standing.{IsNode, content_at}
use Rattle.ordered_index.specs.Tree.{IsAt, IsTreeBefore, named}

-- inner nodes lead from one entry to another, each by its entry for the key
abbrev pub Path : ℕ → State → Key → Key × ℕ → List (ℕ × Content) → Key × ℕ → Type 0
Path size state key from [] to = from ≡ to
Path size state key from (node ∷ nodes) to =
    (child : Key × ℕ) × (from ≡ named node) × IsAt size state node × (node.1.kind ≡ Inner) × (last_at node.1.entries key ≡ Some child) × Path size state key child nodes to

-- the walk for a key comes to a leaf
pub record DescentReaches (size root : ℕ) (key : Key) (state : State) (leaf : ℕ × Content) : Type 0 where
  pub nodes : List (ℕ × Content)
  pub path : Path size state key (first_key, root) nodes (named leaf)
  pub few : length nodes < 24
  pub at : IsAt size state leaf
  pub kind : leaf.1.kind ≡ Leaf

-- it comes to a record that is no node with the fence of its entry, or passes a depth of 24
pub record DescentTears (size root : ℕ) (key : Key) (state : State) (rid : ℕ) : Type 0 where
  pub words : List ℕ
  pub present : state root ≡ Some words
  pub nodes : List (ℕ × Content)
  pub low : Key
  pub path : Path size state key (first_key, root) nodes (low, rid)
  pub unfit : ((node : Content) → node.low ≡ low → IsAt size state (rid, node) → ⊥) ⊎ (24 ≤ length nodes)

-- a walk ends well: the root is absent, or a leaf is reached
abbrev pub DescentEndsWell : ℕ → ℕ → Key → State → Type 0
DescentEndsWell size root key state = (state root ≡ None) ⊎ ((leaf : ℕ × Content) × DescentReaches size root key state leaf)

-- no state that agrees with the reads has a lawful tree: each has a walk that is torn at the record
abbrev pub IsTornTree : ℕ → Key → Meaning → Meaning → ℕ → Type 0
IsTornTree root key before after rid = IsTorn (λ state. DescentTears before.size root key state rid) (IsTreeBefore root before) before after

-- a node as it was read, with its record
abbrev pub node_of : Stored → ℕ × Content
node_of here = (here.at, content_at here.words)

-- it was read at this record with this fence
pub record IsTreeNode (size rid : ℕ) (fence : Key) (here : Stored) : Type 0 where
  pub at : here.at ≡ rid
  pub low : (content_at here.words).low ≡ fence
  pub node : IsNode size here.words

abbrev pub ReadsNode : ℕ → ℕ → State → Option Stored → Type 0
ReadsNode size rid state None = state rid ≡ None
ReadsNode size rid state (Some here) = IsAt size state (node_of here)

-- the record is present, and no node with this fence
abbrev pub IsNoNode : ℕ → Key → State → ℕ → Type 0
IsNoNode size low state rid = (words : List ℕ) × (state rid ≡ Some words) × ((node : Content) → node.low ≡ low → Holds words node → IsSound size node → ⊥)

-- the leaf for a key, or none where the root is absent
abbrev pub LeafIs : ℕ → ℕ → Key → State → Option Stored → Type 0
LeafIs size root key state None = state root ≡ None
LeafIs size root key state (Some here) = DescentReaches size root key state (node_of here)

-- the entry of this number has the key
pub record HasKeyAt (entries : List (Key × ℕ)) (key : Key) (index : ℕ) : Type 0 where
  pub within : index < length entries
  pub here : (d : Key × ℕ) → (slice_index_or entries index d).0 ≡ key
