-- What a scan lists, and how it goes along the row of leaves.
use Rattle.std.specs.Prelude.{◌≡◌, ◌⊎◌, ℕ, ◌+◌, ◌-◌, ◌*◌, ◌^◌, ◌<◌, ◌≤◌, ◌&&◌, not, List, [], ◌∷◌, ◌++◌, length, take, filter, All, Bool, true, None, Some}
use Rattle.plain_data.specs.State.{State}
use Rattle.record_store.specs.Meaning.{Meaning}
use Rattle.ordered_index.specs.declared.key.Key.{Key}
use Rattle.ordered_index.specs.declared.node.Kind.TheVariants.{Leaf}
use Rattle.ordered_index.specs.declared.walk.Stored.{Stored}
use Rattle.ordered_index.specs.Keys.{is_before, Before}
use Rattle.ordered_index.specs.Node.{Content}
use Rattle.ordered_index.specs.Standing.{IsNode, content_at}
use Rattle.ordered_index.specs.Tree.{IsAt, IsTreeBefore, row_entries}
use Rattle.record_store.specs.States.{IsTorn}
use Rattle.ordered_index.specs.Walk.{DescentReaches, DescentTears}

-- whether a key lies from one to another, both taken in
abbrev pub is_between : Key → Key → Key → Bool
is_between lo hi key = not (is_before key lo) && not (is_before hi key)

abbrev pub between : Key → Key → List (Key × ℕ) → List (Key × ℕ)
between lo hi entries = filter (λ entry. is_between lo hi entry.0) entries

-- the arguments alone say that nothing is listed
abbrev pub ListsNothing : Key → Key → ℕ → Type 0
ListsNothing lo hi limit = (limit ≡ 0) ⊎ Before hi lo

-- some pairs were appended, whatever the state: so many at most, of records in the store, with keys between
pub record Appends (size limit : ℕ) (lo hi : Key) (old now : List (Key × ℕ)) : Type 0 where
  pub pairs : List (Key × ℕ)
  pub joined : now ≡ old ++ pairs
  pub few : length pairs ≤ limit
  pub records : All (λ pair. pair.1 < size) pairs
  pub keys : All (λ pair. is_between lo hi pair.0 ≡ true) pairs

-- a leaf names another one, whose fence is behind its own
pub record IsNext (size : ℕ) (state : State) (leaf next : ℕ × Content) : Type 0 where
  pub named : leaf.1.next ≡ Some next.0
  pub rises : Before leaf.1.low next.1.low
  pub at : IsAt size state next
  pub kind : next.1.kind ≡ Leaf

-- leaves lead from one to another, each by its link
abbrev pub LeavesLead : ℕ → State → ℕ × Content → List (ℕ × Content) → ℕ × Content → Type 0
LeavesLead size state from [] to = from ≡ to
LeavesLead size state from (leaf ∷ leaves) to = (next : ℕ × Content) × (from ≡ leaf) × IsNext size state leaf next × LeavesLead size state next leaves to

-- a scan comes from the leaf for a key, past these leaves, to another leaf
pub record Passes (size root : ℕ) (key : Key) (state : State) (passed : List (ℕ × Content)) (last : ℕ × Content) : Type 0 where
  pub first : ℕ × Content
  pub reaches : DescentReaches size root key state first
  pub leads : LeavesLead size state first passed last

-- some entry has a key behind this one
abbrev pub HasBehind : Key → List (Key × ℕ) → Type 0
HasBehind key [] = ⊥
HasBehind key (entry ∷ entries) = Before key entry.0 ⊎ HasBehind key entries

-- why a scan need not go on from a leaf: it is the last one; it has a key behind `hi`, or the next one begins behind it; or there
-- are pairs enough
pub data NeedsNoMore (size : ℕ) (lo hi : Key) (limit : ℕ) (state : State) (passed : List (ℕ × Content)) (last : ℕ × Content) : Type 0 where
  no_leaf : last.1.next ≡ None → NeedsNoMore size lo hi limit state passed last
  key_behind : HasBehind hi last.1.entries → NeedsNoMore size lo hi limit state passed last
  leaf_behind : (next : ℕ × Content) → IsNext size state last next → Before hi next.1.low → NeedsNoMore size lo hi limit state passed last
  enough : limit ≤ length (between lo hi (row_entries (passed ++ last ∷ []))) → NeedsNoMore size lo hi limit state passed last

-- what a scan appends in a state: nothing where the root is absent; else the first pairs of the leaves up to one from which it need
-- not go on
pub data Scans (size root : ℕ) (lo hi : Key) (limit : ℕ) (old now : List (Key × ℕ)) (state : State) : Type 0 where
  nowhere : state root ≡ None → now ≡ old → Scans size root lo hi limit old now state
  along : (passed : List (ℕ × Content)) (last : ℕ × Content) → Passes size root lo state passed last → NeedsNoMore size lo hi limit state passed last → now ≡ old ++ take limit (between lo hi (row_entries (passed ++ last ∷ []))) → Scans size root lo hi limit old now state

-- a leaf names a record that is no leaf with a fence behind its own
pub record TearsAlong (size root : ℕ) (key : Key) (state : State) (rid : ℕ) : Type 0 where
  pub passed : List (ℕ × Content)
  pub last : ℕ × Content
  pub passes : Passes size root key state passed last
  pub named : last.1.next ≡ Some rid
  pub unfit : (node : Content) → node.kind ≡ Leaf → Before last.1.low node.low → IsAt size state (rid, node) → ⊥

-- a scan is torn on its way to the first leaf, or along the leaves
abbrev pub ScanTears : ℕ → ℕ → Key → ℕ → State → Type 0
ScanTears size root key rid state = DescentTears size root key state rid ⊎ TearsAlong size root key state rid

-- no state that agrees with the reads has a lawful tree: in each a scan is torn at the record
abbrev pub IsTornScan : ℕ → Key → Meaning → Meaning → ℕ → Type 0
IsTornScan root key before after rid = IsTorn (ScanTears before.size root key rid) (IsTreeBefore root before) before after

-- a number that falls where keys rise
abbrev pub keys_behind : Key → ℕ
keys_behind key = 2 ^ 128 - (2 ^ 64 * key.high + key.low)

-- a leaf that was read at this record, with a fence behind this one
pub record IsLeafBehind (size rid : ℕ) (fence : Key) (here : Stored) : Type 0 where
  pub at : here.at ≡ rid
  pub kind : (content_at here.words).kind ≡ Leaf
  pub rises : Before fence (content_at here.words).low
  pub nearer : keys_behind (content_at here.words).low < keys_behind fence
  pub node : IsNode size here.words

-- the record is no leaf with a fence behind this one
abbrev pub IsNoLeaf : ℕ → Key → State → ℕ → Type 0
IsNoLeaf size fence state rid = (node : Content) → node.kind ≡ Leaf → Before fence node.low → IsAt size state (rid, node) → ⊥
