-- How a tree changes where an entry is inserted or removed.
use Rattle.std.specs.Prelude.{◌≡◌, ℕ, ◌+◌, ◌≤◌, if◌then◌else◌, List, [], ◌∷◌, ◌++◌, map, length, None, Some, is_some, IsSome, Bool, true, false}
use Rattle.plain_data.specs.State.{State, overlay}
use Rattle.record_store.specs.Meaning.{Meaning}
use Rattle.record_store.specs.Walks.{OnlyReads}
use Rattle.ordered_index.specs.declared.key.Key.{Key}
use Rattle.ordered_index.specs.Keys.{is_same}
use Rattle.ordered_index.specs.Node.{Content}
use Rattle.ordered_index.specs.Splits.{TreeTakes}
use Rattle.ordered_index.specs.Tree.{IsTree, EachTree, tree_records, record_of_key, In}
use Rattle.record_store.specs.Spots.{IsMoved}

-- the tree after an entry was removed: no node is lost
pub record IsTakenOut (root : ℕ) (key : Key) (before after : Meaning) (state : State) (levels : List (List (ℕ × Content))) (leaves leaves' : List (ℕ × Content)) : Type 0 where
  pub lawful : IsTree before.size root (overlay after.writes state) levels leaves'
  pub at_key : (other : Key) → record_of_key leaves' other ≡ (if is_same other key then None else record_of_key leaves other)
  pub moved : IsMoved before.fixed root (λ rid. In rid (tree_records levels leaves)) (λ rid. In rid (tree_records levels leaves')) (overlay before.writes state) (overlay after.writes state)
  pub leaves_stay : length leaves' ≡ length leaves

-- an entry is removed where the key was there, and nothing is written where it was not
pub record RemovesEntry (root : ℕ) (key : Key) (was_there : Bool) (before after : Meaning) : Type 0 where
  pub answer : EachTree root before after (λ _ _ leaves. was_there ≡ is_some (record_of_key leaves key))
  pub given : after.given ≡ before.given
  pub removed : was_there ≡ true → EachTree root before after (λ state levels leaves. (leaves' : List (ℕ × Content)) × IsTakenOut root key before after state levels leaves leaves')
  pub unchanged : was_there ≡ false → after.writes ≡ before.writes

-- the nodes below the root of a tree that is more than a leaf
abbrev pub second_row : List (List (ℕ × Content)) → List (ℕ × Content) → List (ℕ × Content)
second_row [] leaves = []
second_row (top ∷ []) leaves = leaves
second_row (top ∷ level ∷ levels) leaves = level

-- the tree after an entry was inserted: how its nodes changed, and a leaf came to be at most; where the root was parted, the records of
-- the two nodes below it were given last, first that of the left one
pub record IsInserted (root : ℕ) (key : Key) (rid : ℕ) (before after : Meaning) (state : State) (levels : List (List (ℕ × Content))) (leaves : List (ℕ × Content)) (levels' : List (List (ℕ × Content))) (leaves' : List (ℕ × Content)) : Type 0 where
  pub lawful : IsTree before.size root (overlay after.writes state) levels' leaves'
  pub at_key : (other : Key) → record_of_key leaves' other ≡ (if is_same other key then Some rid else record_of_key leaves other)
  pub was_absent : record_of_key leaves key ≡ None
  pub shape : TreeTakes root key rid levels leaves levels' leaves'
  pub moved : IsMoved before.fixed root (λ rid. In rid (tree_records levels leaves)) (λ rid. In rid (tree_records levels' leaves')) (overlay before.writes state) (overlay after.writes state)
  pub leaves_grow : length leaves' ≤ length leaves + 1
  pub left_first : length levels' ≡ length levels + 1 → (earlier : List ℕ) × (after.given ≡ earlier ++ map (λ node. node.0) (second_row levels' leaves'))

-- an entry is inserted where the key was not there, and nothing is written where it was
pub record InsertsEntry (root : ℕ) (key : Key) (rid : ℕ) (done : Bool) (before after : Meaning) : Type 0 where
  pub there : done ≡ false → EachTree root before after (λ _ _ leaves. IsSome (record_of_key leaves key))
  pub unchanged : done ≡ false → OnlyReads before after
  pub inserted : done ≡ true → EachTree root before after (λ state levels leaves. (levels' : List (List (ℕ × Content))) × (leaves' : List (ℕ × Content)) × IsInserted root key rid before after state levels leaves levels' leaves')
