-- What a look for a key sees, and what it answers.
use Rattle.std.specs.Prelude.{◌≡◌, ℕ, List, Option, None, Some}
use Rattle.plain_data.specs.State.{State}
use Rattle.hash_index.specs.declared.looking.Seen.{Seen}
use Rattle.hash_index.specs.declared.looking.Seen.TheVariants.{Found, Next, End}
use Rattle.hash_index.specs.Node.{IsNode, pairs_of, next_node}
use Rattle.hash_index.specs.Chain.{RowEndsWell, record_at, row_pairs}

-- what is seen where this record stands beside the key, or none, and the row goes on at this next one, or ends
abbrev pub seen_of : Option ℕ → Option ℕ → Seen
seen_of (Some rid) next = Found rid
seen_of None (Some next) = Next next
seen_of None None = End

-- the words are a node at this position, and this is seen there
pub record IsSeen (size position key : ℕ) (words : List ℕ) (seen : Seen) : Type 0 where
  pub node : IsNode size position words
  pub says : seen ≡ seen_of (record_at (pairs_of words) key) (next_node words)

-- the walk over a bucket ends well, and this is what its nodes have beside the key
pub record RowAnswers (size bucket key : ℕ) (state : State) (answer : Option ℕ) : Type 0 where
  pub row : RowEndsWell size bucket key state
  pub beside : answer ≡ record_at (row_pairs row.nodes) key
