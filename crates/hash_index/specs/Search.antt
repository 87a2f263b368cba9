-- Where a search for a key ends.
use Rattle.std.specs.Prelude.{◌≡◌, ℕ, ◌+◌, ◌<◌, ◌≤◌, ◌==◌, List, [], ◌∷◌, ◌++◌, length, position, nat_lt, slice_index, if◌then◌else◌, All, Option, None, Some, IfSome}
use Rattle.plain_data.specs.State.{State}
use Rattle.record_store.specs.Meaning.{Meaning, after_write, after_fresh}
use Rattle.record_store.specs.Store.{IsFresh}
use Rattle.hash_index.specs.declared.search.Link.{Link}
use Rattle.hash_index.specs.declared.search.Place.{Place}
use Rattle.hash_index.specs.declared.search.Place.TheVariants.{Found, Room, Full, Empty}
use Rattle.hash_index.specs.Node.{IsNode, pairs_of, chain_node_words}
use Rattle.hash_index.specs.Held.{LinkHolds}
use Rattle.hash_index.specs.Chain.{Leads, start_of, record_at, row_pairs}
use Rattle.hash_index.specs.Changes.{IsFull}

-- a node in memory that was read from a store of this size
pub record IsInStore (size : ℕ) (link : Link) : Type 0 where
  pub record_number : link.at < size
  pub few : slice_index link.words 0 ≤ 14
  pub position : link.position < size
  pub next : IfSome link.next (λ next. next < size)
  pub pairs : All (λ pair. pair.1 < size) (pairs_of link.words)

-- it was read at this record and this position
pub record IsRowLink (size rid position : ℕ) (link : Link) : Type 0 where
  pub at : link.at ≡ rid
  pub placed : link.position ≡ position
  pub in_store : IsInStore size link

-- the state has the node
pub record LinkStands (size position : ℕ) (state : State) (link : Link) (words : List ℕ) : Type 0 where
  pub here : state link.at ≡ Some words
  pub node : IsNode size position words
  pub held : LinkHolds link words

abbrev pub ReadsLink : ℕ → ℕ → ℕ → State → Option Link → Type 0
ReadsLink size rid position state None = state rid ≡ None
ReadsLink size rid position state (Some link) = (words : List ℕ) × LinkStands size position state link words

-- the record is present, and no node at this position
abbrev pub IsNoLink : ℕ → ℕ → State → ℕ → Type 0
IsNoLink size position state rid = (words : List ℕ) × (state rid ≡ Some words) × (IsNode size position words → ⊥)

-- the walk over a bucket reaches a node, and none before it has the key
pub record RowReaches (size bucket key : ℕ) (state : State) (link : Link) : Type 0 where
  pub before : List (ℕ × List ℕ)
  pub words : List ℕ
  pub reached : Leads size state 0 (start_of state bucket) before (Some link.at)
  pub stands : LinkStands size (length before) state link words
  pub not_before : record_at (row_pairs before) key ≡ None

-- a node of a bucket's row, of which none has the key
pub record InRow (size bucket key : ℕ) (state : State) (link : Link) : Type 0 where
  pub before : List (ℕ × List ℕ)
  pub words : List ℕ
  pub after : List (ℕ × List ℕ)
  pub row : Leads size state 0 (start_of state bucket) (before ++ (link.at, words) ∷ after) None
  pub stands : LinkStands size (length before) state link words
  pub full_before : All IsFull before
  pub not_there : record_at (row_pairs (before ++ (link.at, words) ∷ after)) key ≡ None

-- a node that is not full
pub record IsRoom (size : ℕ) (link : Link) : Type 0 where
  pub in_store : IsInStore size link
  pub has_room : length (pairs_of link.words) < 14

-- what holds of a place in a state
abbrev pub IsPlace : ℕ → ℕ → ℕ → State → Place → Type 0
IsPlace size bucket key state (Found link index) = RowReaches size bucket key state link
IsPlace size bucket key state (Room link) = InRow size bucket key state link
IsPlace size bucket key state (Full link) = (row : InRow size bucket key state link) × (row.after ≡ []) × (length (pairs_of link.words) ≡ 14)
IsPlace size bucket key state (Empty rid) = state bucket ≡ None

-- and whatever the state
abbrev pub IsWithin : ℕ → ℕ → ℕ → Place → Type 0
IsWithin size bucket key (Found link index) = IsInStore size link × (position (λ pair. pair.0 == key) (pairs_of link.words) ≡ Some index)
IsWithin size bucket key (Room link) = IsRoom size link
IsWithin size bucket key (Full link) = IsInStore size link
IsWithin size bucket key (Empty rid) = rid ≡ bucket

-- the first node with room, once one more was passed
abbrev pub first_room : Option Link → Link → Option Link
first_room (Some link) passed = Some link
first_room None passed = if nat_lt (length (pairs_of passed.words)) 14 then Some passed else None

-- the place of a key that no node has, from the first node with room before the last one, and the last one
abbrev pub end_place : Option Link → Link → Place
end_place (Some link) last = Room link
end_place None last = if nat_lt (length (pairs_of last.words)) 14 then Room last else Full last

-- a pair is written to a new node, and the last node of the row to name it
pub record AddsNode (key rid : ℕ) (last : Link) (before after : Meaning) : Type 0 where
  pub fresh : ℕ
  pub is_fresh : IsFresh before fresh
  pub written : after ≡ after_write (after_write (after_fresh before fresh) fresh (Some (chain_node_words ((key, rid) ∷ []) None (last.position + 1)))) last.at (Some (chain_node_words (pairs_of last.words) (Some fresh) last.position))
