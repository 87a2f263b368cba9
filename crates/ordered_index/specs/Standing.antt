-- A node where its words stand.
use Rattle.std.specs.Prelude.{ℕ, ◌+◌, ◌*◌, ◌≤◌, ◌==◌, if◌then◌else◌, List, take, drop, slice_index}
use Rattle.ordered_index.specs.declared.key.Key.{Key}
use Rattle.ordered_index.specs.declared.node.Kind.{Kind}
use Rattle.ordered_index.specs.declared.node.Kind.TheVariants.{Leaf, Inner}
use Rattle.ordered_index.specs.Node.{Content, Holds, IsSound, in_threes, next_leaf}

-- the key of the entry of this number
abbrev pub key_at : List ℕ → ℕ → Key
key_at words index = record { high = slice_index words (4 + 3 * index); low = slice_index words (5 + 3 * index) }

-- the entries from word 4 on, as many as word 1 says
abbrev pub entries_at : List ℕ → List (Key × ℕ)
entries_at words = take (slice_index words 1) (in_threes (drop 4 words))

-- the kind that word 0 says
abbrev pub kind_at : ℕ → Kind
kind_at word = if word == 2 then Inner else Leaf

-- what words say, if they are a node
unfoldable pub content_at : List ℕ → Content
content_at words = record {
  kind = kind_at (slice_index words 0);
  low = record { high = slice_index words 2; low = slice_index words 3 };
  entries = entries_at words;
  next = next_leaf (kind_at (slice_index words 0)) (slice_index words 31);
}

-- the words are a node of a store of this size
pub record IsNode (size : ℕ) (words : List ℕ) : Type 0 where
  pub few : slice_index words 1 ≤ 9
  pub holds : Holds words (content_at words)
  pub sound : IsSound size (content_at words)
