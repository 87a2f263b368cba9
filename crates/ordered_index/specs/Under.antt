-- A leaf and the node above it, as they were read.
use Rattle.std.specs.Prelude.{◌≡◌, ℕ, ◌<◌, Some}
use Rattle.ordered_index.specs.declared.key.Key.{Key}
use Rattle.ordered_index.specs.declared.node.Kind.TheVariants.{Leaf, Inner}
use Rattle.ordered_index.specs.declared.under.Under.{Under}
use Rattle.ordered_index.specs.Keys.{last_at}
use Rattle.ordered_index.specs.Standing.{IsNode, content_at}
use Rattle.ordered_index.specs.Tree.{named}
use Rattle.ordered_index.specs.Walk.{node_of}

-- what holds of them whatever the state
pub record IsUnder (size : ℕ) (key : Key) (under : Under) : Type 0 where
  pub parent_at : under.parent.at < size
  pub parent_node : IsNode size under.parent.words
  pub parent_kind : (content_at under.parent.words).kind ≡ Inner
  pub last : last_at (content_at under.parent.words).entries key ≡ Some (named (node_of under.leaf))
  pub leaf_at : under.leaf.at < size
  pub leaf_node : IsNode size under.leaf.words
  pub leaf_kind : (content_at under.leaf.words).kind ≡ Leaf
