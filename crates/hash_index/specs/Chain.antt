-- The chain of a base: 511 buckets, each with a row of nodes, and the map that they hold together.
use Rattle.std.specs.Prelude.{◌≡◌, ◌≢◌, ◌⊎◌, ℕ, ◌+◌, ◌%◌, ◌<◌, ◌==◌, if◌then◌else◌, List, [], ◌∷◌, length, All, AllPairs, Contains, Option, None, Some, IsSome, option_map}
use Rattle.std.specs.List.{flat_map}
use Rattle.plain_data.specs.State.{State, overlay}
use Rattle.record_store.specs.Meaning.{Meaning}
use Rattle.record_store.specs.States.{Each}
use Rattle.record_store.specs.Links.{records_of}
use Rattle.hash_index.specs.Node.{IsNode, pairs_of, next_node}

-- a record with its words
abbrev pub Node : Type 0
Node = ℕ × List ℕ

-- from a record, at a position, the nodes lead to another: each stands at its position and names the next
abbrev pub Leads : ℕ → State → ℕ → Option ℕ → List (ℕ × List ℕ) → Option ℕ → Type 0
Leads size state position from [] to = from ≡ to
Leads size state position from (node ∷ nodes) to =
    (from ≡ Some node.0) × (state node.0 ≡ Some node.1) × IsNode size position node.1 × Leads size state (position + 1) (next_node node.1) nodes to

-- where a walk over a bucket begins: an absent bucket stands for an empty row
abbrev pub start_of : State → ℕ → Option ℕ
start_of state bucket = option_map (λ _. bucket) (state bucket)

-- the pairs of a row
abbrev pub row_pairs : List (ℕ × List ℕ) → List (ℕ × ℕ)
row_pairs row = flat_map (λ node. pairs_of node.1) row

-- the record number beside a key
abbrev pub record_at : List (ℕ × ℕ) → ℕ → Option ℕ
record_at [] key = None
record_at (pair ∷ pairs) key = if key == pair.0 then Some pair.1 else record_at pairs key

-- the rows of the buckets, by their numbers below 511
abbrev pub Rows : Type 0
Rows = ℕ → List (ℕ × List ℕ)

abbrev pub bucket_of : ℕ → ℕ
bucket_of key = key % 511

-- the map of a chain
abbrev pub record_of : (ℕ → List (ℕ × List ℕ)) → ℕ → Option ℕ
record_of rows key = record_at (row_pairs (rows (bucket_of key))) key

-- a lawful chain: each walk passes nodes to its end, each key stands in the row of its own bucket and once there, and no
-- node is reached from two buckets
pub record IsChain (size base : ℕ) (state : State) (rows : ℕ → List (ℕ × List ℕ)) : Type 0 where
  pub walks : (bucket : ℕ) → bucket < 511 → Leads size state 0 (start_of state (base + bucket)) (rows bucket) None
  pub own : (bucket : ℕ) → bucket < 511 → All (λ pair. bucket_of pair.0 ≡ bucket) (row_pairs (rows bucket))
  pub once : (bucket : ℕ) → bucket < 511 → AllPairs (λ a b. a.0 ≢ b.0) (row_pairs (rows bucket))
  pub apart : (a b rid : ℕ) → a < 511 → b < 511 → Contains (records_of (rows a)) rid → Contains (records_of (rows b)) rid → a ≡ b

-- with the writes so far laid over it, the state has a lawful chain
abbrev pub IsChainBefore : ℕ → Meaning → State → (ℕ → List (ℕ × List ℕ)) → Type 0
IsChainBefore base before state rows = IsChain before.size base (overlay before.writes state) rows

-- what holds of each state that agrees with the reads of a call and has a lawful chain where the call begins
abbrev pub EachChain : ℕ → Meaning → Meaning → (State → (ℕ → List (ℕ × List ℕ)) → Type 0) → Type 0
EachChain base before after P = Each (IsChainBefore base before) after P

-- a walk over a bucket for a key is torn: it reaches a record that is no node at its place, and no node before has the key
pub record RowTears (size bucket key : ℕ) (state : State) (rid : ℕ) : Type 0 where
  pub nodes : List (ℕ × List ℕ)
  pub reached : Leads size state 0 (start_of state bucket) nodes (Some rid)
  pub no_node : (words : List ℕ) → state rid ≡ Some words → IsNode size (length nodes) words → ⊥
  pub not_before : record_at (row_pairs nodes) key ≡ None

-- it ends well: the nodes run to the end of the row, or to a node that has the key
pub record RowEndsWell (size bucket key : ℕ) (state : State) : Type 0 where
  pub nodes : List (ℕ × List ℕ)
  pub to : Option ℕ
  pub reached : Leads size state 0 (start_of state bucket) nodes to
  pub ends : (to ≡ None) ⊎ IsSome (record_at (row_pairs nodes) key)
