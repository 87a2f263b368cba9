-- How a row changes where a pair is put or removed.
use Rattle.std.specs.Prelude.{◌≡◌, ◌≢◌, ℕ, ◌+◌, ◌<◌, ◌==◌, if◌then◌else◌, List, [], ◌∷◌, ◌++◌, length, slice_get, slice_set, swap_remove, All, Contains, Option, None, Some}
use Rattle.plain_data.specs.State.{State, overlay}
use Rattle.record_store.specs.Meaning.{Meaning}
use Rattle.record_store.specs.Spots.{IsMoved}
use Rattle.hash_index.specs.Node.{pairs_of, next_node, position_of, chain_node_words}
use Rattle.hash_index.specs.Chain.{IsChain, record_at, record_of, row_pairs, bucket_of}
use Rattle.record_store.specs.Links.{records_of}

-- the node with other pairs, or with another next node
abbrev pub with_pairs : ℕ × List ℕ → List (ℕ × ℕ) → ℕ × List ℕ
with_pairs node pairs = (node.0, chain_node_words pairs (next_node node.1) (position_of node.1))

abbrev pub with_next : ℕ × List ℕ → ℕ → ℕ × List ℕ
with_next node rid = (node.0, chain_node_words (pairs_of node.1) (Some rid) (position_of node.1))

abbrev pub IsFull : ℕ × List ℕ → Type 0
IsFull node = length (pairs_of node.1) ≡ 14

-- no node of a row has the key
abbrev pub Misses : ℕ → List (ℕ × List ℕ) → Type 0
Misses key row = record_at (row_pairs row) key ≡ None

-- a node with one pair, behind another one
abbrev pub node_behind : ℕ × List ℕ → ℕ → ℕ → ℕ → ℕ × List ℕ
node_behind last fresh key rid = (fresh, chain_node_words ((key, rid) ∷ []) None (position_of last.1 + 1))

-- a pair is put into a row: in place of the key's pair; else behind the pairs of the first node with room; else into a new
-- node, the bucket itself where it was absent, else a fresh record behind the last node
pub data Puts (bucket key rid : ℕ) : Option ℕ → List (ℕ × List ℕ) → List (ℕ × List ℕ) → Type 0 where
  replaced : (before after : List (ℕ × List ℕ)) (node : ℕ × List ℕ) (index old : ℕ) → slice_get (pairs_of node.1) index ≡ Some (key, old)
      → Puts bucket key rid None (before ++ node ∷ after) (before ++ with_pairs node (slice_set (pairs_of node.1) index (key, rid)) ∷ after)
  added : (before after : List (ℕ × List ℕ)) (node : ℕ × List ℕ) → Misses key (before ++ node ∷ after) → All IsFull before → length (pairs_of node.1) < 14
      → Puts bucket key rid None (before ++ node ∷ after) (before ++ with_pairs node (pairs_of node.1 ++ (key, rid) ∷ []) ∷ after)
  began : Puts bucket key rid None [] ((bucket, chain_node_words ((key, rid) ∷ []) None 0) ∷ [])
  linked : (before : List (ℕ × List ℕ)) (last : ℕ × List ℕ) (fresh : ℕ) → Misses key (before ++ last ∷ []) → All IsFull (before ++ last ∷ [])
      → Puts bucket key rid (Some fresh) (before ++ last ∷ []) (before ++ with_next last fresh ∷ node_behind last fresh key rid ∷ [])

-- a pair is removed from a row: the last pair of its node fills its place, and the node stays
pub data Removes (key : ℕ) : List (ℕ × List ℕ) → List (ℕ × List ℕ) → Type 0 where
  removed : (before after : List (ℕ × List ℕ)) (node : ℕ × List ℕ) (index old : ℕ) → slice_get (pairs_of node.1) index ≡ Some (key, old) → Removes key (before ++ node ∷ after) (before ++ with_pairs node (swap_remove (pairs_of node.1) index (key, old)) ∷ after)

-- the chain after a pair was put: of its spots, which are the buckets, only that of the key changed
pub record IsPut (base key rid : ℕ) (fresh : Option ℕ) (before after : Meaning) (state : State) (rows rows' : ℕ → List (ℕ × List ℕ)) : Type 0 where
  pub lawful : IsChain before.size base (overlay after.writes state) rows'
  pub at_key : (other : ℕ) → record_of rows' other ≡ (if other == key then Some rid else record_of rows other)
  pub own_row : Puts (base + bucket_of key) key rid fresh (rows (bucket_of key)) (rows' (bucket_of key))
  pub other_rows : (bucket : ℕ) → bucket ≢ bucket_of key → rows' bucket ≡ rows bucket
  pub moved : IsMoved before.fixed (base + bucket_of key) (Contains (records_of (rows (bucket_of key)))) (Contains (records_of (rows' (bucket_of key)))) (overlay before.writes state) (overlay after.writes state)

-- the chain after a pair was removed: only the spot of the key's bucket changed
pub record IsRemoved (base key : ℕ) (before after : Meaning) (state : State) (rows rows' : ℕ → List (ℕ × List ℕ)) : Type 0 where
  pub lawful : IsChain before.size base (overlay after.writes state) rows'
  pub at_key : (other : ℕ) → record_of rows' other ≡ (if other == key then None else record_of rows other)
  pub own_row : Removes key (rows (bucket_of key)) (rows' (bucket_of key))
  pub other_rows : (bucket : ℕ) → bucket ≢ bucket_of key → rows' bucket ≡ rows bucket
  pub moved : IsMoved before.fixed (base + bucket_of key) (Contains (records_of (rows (bucket_of key)))) (Contains (records_of (rows' (bucket_of key)))) (overlay before.writes state) (overlay after.writes state)

-- where `fresh` may be asked: the key is not there, and its bucket is present with each node full
pub record NeedsNode (key : ℕ) (rows : ℕ → List (ℕ × List ℕ)) : Type 0 where
  pub not_there : record_of rows key ≡ None
  pub present : rows (bucket_of key) ≢ []
  pub full : All IsFull (rows (bucket_of key))
