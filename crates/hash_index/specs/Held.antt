-- A node that was read, and the words of its record.
use Rattle.std.specs.Prelude.{◌≡◌, ℕ, List}
use Rattle.hash_index.specs.declared.search.Link.{Link}
use Rattle.hash_index.specs.Node.{next_node, position_of}

pub record LinkHolds (link : Link) (held : List ℕ) : Type 0 where
  pub words : link.words ≡ held
  pub next : link.next ≡ next_node held
  pub position : link.position ≡ position_of held
