-- What an insertion or a removal writes.
use Rattle.std.specs.Prelude.{◌≡◌, ◌⊎◌, ℕ, List, Option, Some}
use Rattle.record_store.specs.Meaning.{Meaning, value_at}
use Rattle.record_store.specs.Writes.{WritesAtMost}
use Rattle.ordered_index.specs.Node.{Content, tree_node_words}

-- at most so many records are written, each as a node, with 0 in the words where nothing is said
pub record WritesNodes (most : ℕ) (before after : Meaning) : Type 0 where
  pub few : WritesAtMost most before after
  pub nodes : (rid : ℕ) (value : Option (List ℕ)) → value_at after.writes rid ≡ Some value → (value_at before.writes rid ≡ Some value) ⊎ ((node : Content) × (value ≡ Some (tree_node_words node)))
