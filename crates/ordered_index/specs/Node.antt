-- A node of a tree: a record that holds up to nine entries, each a key and a record number.
use Rattle.std.specs.Prelude.{◌≡◌, ℕ, ◌-◌, ◌*◌, ◌<◌, ◌≤◌, List, [], ◌∷◌, ◌++◌, length, take, drop, slice_index, All, Option, None, IfSome, ⊤}
use Rattle.std.specs.List.{flat_map}
use lib.ListN.{replicate}
use Rattle.record_store.specs.Links.{named_by, link_word}
use Rattle.ordered_index.specs.declared.key.Key.{Key}
use Rattle.ordered_index.specs.declared.node.Kind.{Kind}
use Rattle.ordered_index.specs.declared.node.Kind.TheVariants.{Leaf, Inner}
use Rattle.ordered_index.specs.Keys.{Rising}

-- what a node says
pub record Content : Type 0 where
  pub kind : Kind
  pub low : Key
  pub entries : List (Key × ℕ)
  pub next : Option ℕ

abbrev pub kind_word : Kind → ℕ
kind_word Leaf = 1
kind_word Inner = 2

-- the least number of entries
abbrev pub least : Kind → ℕ
least Leaf = 0
least Inner = 2

-- words three by three
abbrev pub in_threes : List ℕ → List (Key × ℕ)
in_threes [] = []
in_threes (high ∷ []) = []
in_threes (high ∷ low ∷ []) = []
in_threes (high ∷ low ∷ rid ∷ words) = (record { high = high; low = low }, rid) ∷ in_threes words

-- the last word of a leaf names the next one
abbrev pub next_leaf : Kind → ℕ → Option ℕ
next_leaf Leaf word = named_by word
next_leaf Inner word = None

-- the words hold the node: its kind, the number of its entries, its low fence, the entries from word 4 on, and the next leaf
pub record Holds (words : List ℕ) (node : Content) : Type 0 where
  pub kind : slice_index words 0 ≡ kind_word node.kind
  pub count : slice_index words 1 ≡ length node.entries
  pub low : record { high = slice_index words 2; low = slice_index words 3 } ≡ node.low
  pub entries : take (slice_index words 1) (in_threes (drop 4 words)) ≡ node.entries
  pub next : next_leaf node.kind (slice_index words 31) ≡ node.next

-- the first key of an inner node is its low fence
abbrev pub Begins : Kind → Key → List (Key × ℕ) → Type 0
Begins Leaf low entries = ⊤
Begins Inner low [] = ⊥
Begins Inner low (entry ∷ entries) = entry.0 ≡ low

-- what a walk finds in order at a node, in a store of this size
pub record IsSound (size : ℕ) (node : Content) : Type 0 where
  pub few : length node.entries ≤ 9
  pub enough : least node.kind ≤ length node.entries
  pub rising : Rising node.entries
  pub records : All (λ entry. entry.1 < size) node.entries
  pub first : Begins node.kind node.low node.entries
  pub next : IfSome node.next (λ rid. rid < size)

abbrev pub entry_words : List (Key × ℕ) → List ℕ
entry_words entries = flat_map (λ (entry : Key × ℕ). entry.0.high ∷ entry.0.low ∷ entry.1 ∷ []) entries

-- the words of a node, zero where nothing is said
abbrev pub tree_node_words : Content → List ℕ
tree_node_words node =
    kind_word node.kind ∷ length node.entries ∷ node.low.high ∷ node.low.low ∷ (entry_words node.entries ++ replicate (27 - 3 * length node.entries) 0 ++ link_word node.next ∷ [])
