-- A tree: levels of inner nodes from the root down, and the row of its leaves.
use Rattle.std.specs.Prelude.{◌≡◌, ◌⊎◌, ℕ, ◌<◌, List, [], ◌∷◌, ◌++◌, length, map, Option, None, Some, MatchOption, ⊤}
use Rattle.std.specs.List.{flat_map}
use Rattle.plain_data.specs.State.{State, Agrees, overlay}
use Rattle.record_store.specs.Links.{records_of}
use Rattle.record_store.specs.Meaning.{Meaning}
use Rattle.ordered_index.specs.declared.key.Key.{Key}
use Rattle.ordered_index.specs.declared.node.Kind.{Kind}
use Rattle.ordered_index.specs.declared.node.Kind.TheVariants.{Leaf, Inner}
use Rattle.ordered_index.specs.Keys.{Rising, Below, From, entry_at, first_key}
use Rattle.ordered_index.specs.Node.{Content, Holds, IsSound}

-- the state has the node at its record
pub record IsAt (size : ℕ) (state : State) (node : ℕ × Content) : Type 0 where
  pub words : List ℕ
  pub here : state node.0 ≡ Some words
  pub holds : Holds words node.1
  pub sound : IsSound size node.1

-- the state has each node of a row, all of one kind
abbrev pub Stand : ℕ → State → Kind → List (ℕ × Content) → Type 0
Stand size state kind [] = ⊤
Stand size state kind (node ∷ nodes) = IsAt size state node × (node.1.kind ≡ kind) × Stand size state kind nodes

-- a node as an entry names it: by its low fence and its record
abbrev pub named : ℕ × Content → Key × ℕ
named node = (node.1.low, node.0)

abbrev pub row_names : List (ℕ × Content) → List (Key × ℕ)
row_names row = map named row

abbrev pub row_entries : List (ℕ × Content) → List (Key × ℕ)
row_entries row = flat_map (λ (node : ℕ × Content). node.1.entries) row

-- the nodes of a level are those that the entries above name, in their order; so all leaves have one depth
abbrev pub Descends : ℕ → State → List (Key × ℕ) → List (List (ℕ × Content)) → List (ℕ × Content) → Type 0
Descends size state above [] leaves = (row_names leaves ≡ above) × Stand size state Leaf leaves
Descends size state above (level ∷ levels) leaves = (row_names level ≡ above) × Stand size state Inner level × Descends size state (row_entries level) levels leaves

abbrev pub first_record : List (ℕ × Content) → Option ℕ
first_record [] = None
first_record (node ∷ nodes) = Some node.0

-- keys before the fence of the next leaf
abbrev pub UpTo : List (ℕ × Content) → List (Key × ℕ) → Type 0
UpTo [] entries = ⊤
UpTo (next ∷ leaves) entries = Below next.1.low entries

-- each leaf names the next one, and its keys lie from its fence to that of the next
abbrev pub Follow : List (ℕ × Content) → Type 0
Follow [] = ⊤
Follow (leaf ∷ leaves) = (leaf.1.next ≡ first_record leaves) × From leaf.1.low leaf.1.entries × UpTo leaves leaf.1.entries × Follow leaves

-- one of a list, and lists in which each stands once
abbrev pub In : ℕ → List ℕ → Type 0
In rid [] = ⊥
In rid (other ∷ rids) = (other ≡ rid) ⊎ In rid rids

abbrev pub Apart : List ℕ → Type 0
Apart [] = ⊤
Apart (rid ∷ rids) = (In rid rids → ⊥) × Apart rids

-- the records of a tree
abbrev pub tree_records : List (List (ℕ × Content)) → List (ℕ × Content) → List ℕ
tree_records [] leaves = records_of leaves
tree_records (level ∷ levels) leaves = records_of level ++ tree_records levels leaves

-- the ordered map of a tree: the record number beside a key
abbrev pub record_of_key : List (ℕ × Content) → Key → Option ℕ
record_of_key leaves key = entry_at (row_entries leaves) key

-- a lawful tree; an absent root stands for one without entries
pub record IsTree (size root : ℕ) (state : State) (levels : List (List (ℕ × Content))) (leaves : List (ℕ × Content)) : Type 0 where
  pub descends : MatchOption (state root) ((levels ≡ []) × (leaves ≡ [])) (λ _. Descends size state ((first_key, root) ∷ []) levels leaves)
  pub rising : Rising (row_names leaves)
  pub follow : Follow leaves
  pub once : Apart (tree_records levels leaves)
  pub deep : length levels < 24

-- with the writes so far laid over it, the state has a lawful tree, of these levels and leaves
abbrev pub IsTreeBefore : ℕ → Meaning → State → List (List (ℕ × Content)) × List (ℕ × Content) → Type 0
IsTreeBefore root before state tree = IsTree before.size root (overlay before.writes state) tree.0 tree.1

-- what holds of each state that agrees with the reads of a call and has a lawful tree where the call begins
abbrev pub EachTree : ℕ → Meaning → Meaning → (State → List (List (ℕ × Content)) → List (ℕ × Content) → Type 0) → Type 0
EachTree root before after P =
    (state : State) (levels : List (List (ℕ × Content))) (leaves : List (ℕ × Content)) → Agrees state after.reads → IsTree before.size root (overlay before.writes state) levels leaves → P state levels leaves
