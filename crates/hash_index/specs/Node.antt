-- A node of a chain: a record that holds up to 14 pairs of a key and a record number.
use Rattle.std.specs.Prelude.{◌≡◌, ℕ, ◌-◌, ◌*◌, ◌<◌, ◌≤◌, List, [], ◌∷◌, ◌++◌, length, take, drop, slice_index, All, Option, IfSome}
use Rattle.std.specs.List.{flat_map}
use lib.ListN.{replicate}
use Rattle.record_store.specs.Links.{named_by, link_word}

-- words two by two
abbrev pub paired : List ℕ → List (ℕ × ℕ)
paired [] = []
paired (key ∷ []) = []
paired (key ∷ rid ∷ words) = (key, rid) ∷ paired words

-- word 0 counts the pairs, which stand from word 2 on
abbrev pub pairs_of : List ℕ → List (ℕ × ℕ)
pairs_of words = take (slice_index words 0) (paired (drop 2 words))

-- word 1 names the next node
abbrev pub next_node : List ℕ → Option ℕ
next_node words = named_by (slice_index words 1)

-- word 30 is the position in the chain
abbrev pub position_of : List ℕ → ℕ
position_of words = slice_index words 30

-- the words are a node at this position, in a store of this size
pub record IsNode (size position : ℕ) (words : List ℕ) : Type 0 where
  pub few : slice_index words 0 ≤ 14
  pub placed : position_of words ≡ position
  pub in_store : position < size
  pub next : IfSome (next_node words) (λ rid. rid < size)
  pub records : All (λ pair. pair.1 < size) (pairs_of words)

-- the words are those of such a node but for its pairs, and name this next node, or none
pub record NamesNext (size position : ℕ) (words : List ℕ) (next : Option ℕ) : Type 0 where
  pub few : slice_index words 0 ≤ 14
  pub placed : position_of words ≡ position
  pub in_store : position < size
  pub named : next ≡ next_node words
  pub within : IfSome next (λ rid. rid < size)

abbrev pub pair_words : List (ℕ × ℕ) → List ℕ
pair_words pairs = flat_map (λ pair. pair.0 ∷ pair.1 ∷ []) pairs

-- the words of a node, zero where nothing is said
abbrev pub chain_node_words : List (ℕ × ℕ) → Option ℕ → ℕ → List ℕ
chain_node_words pairs next position =
    length pairs ∷ link_word next ∷ (pair_words pairs ++ replicate (28 - 2 * length pairs) 0 ++ position ∷ 0 ∷ [])
