-- A node that was read below an entry, and what came of putting an entry in below it.
use Rattle.std.proofs.Common.{◌≡◌, ℕ, ◌-◌, ◌<◌, Bool, true, List, get_or, Option, Some, refl, sym, ap, subst, ◌∙◌}
use Rattle.std.specs.Prelude.{IfSome}
use Rattle.record_store.specs.Into.{value_if}
use Rattle.record_store.specs.Meaning.{Meaning}
use Rattle.record_store.specs.States.{EachState}
use Rattle.record_store.specs.Walks.{OnlyReads}
use Rattle.ordered_index.specs.declared.enter.Entering.{Entering}
use Rattle.ordered_index.specs.declared.key.Key.{Key}
use Rattle.ordered_index.specs.declared.node.Kind.TheVariants.{Leaf, Inner}
use Rattle.ordered_index.specs.declared.walk.Stored.{Stored}
use Rattle.ordered_index.specs.Enter.{EachEntered, IsLeafEntered, IsRank}
use Rattle.ordered_index.specs.Keys.{first_key}
use Rattle.ordered_index.specs.Node.{Content}
use Rattle.ordered_index.specs.Standing.{IsNode, content_at}
use Rattle.ordered_index.specs.Tree.{IsAt}
use Rattle.ordered_index.specs.Walk.{IsTreeNode, ReadsNode}
use Rattle.ordered_index.proofs.Entering.{IsChild, reads_of}
use Rattle.ordered_index.proofs.Passed.{at_some}
use Rattle.ordered_index.proofs.Tearing.{child_at, from_reads}

-- the node that was read is the child of this entry, and stands in each state that agrees
pub record Met (size : ℕ) (key : Key) (entries : List (Key × ℕ)) (rank : ℕ) (child : Key × ℕ) (here : Stored) (first last : Meaning) : Type 0 where
  pub low : (content_at here.words).low ≡ child.0
  pub rid : here.at ≡ child.1
  pub node : IsNode size here.words
  pub is : IsChild size key entries rank ((content_at here.words).low, here.at) (content_at here.words)
  pub at : EachState first last (λ state. IsAt size state (here.at, content_at here.words))

pub met : (size : ℕ) (key : Key) (entries : List (Key × ℕ)) (rank : ℕ) (child : Key × ℕ) (here : Stored) (first last : Meaning) (present : Bool)
    → IsRank key entries rank → 0 < rank → child ≡ get_or entries (rank - 1) (first_key, 0) → present ≡ true
    → IfSome (value_if present here) (IsTreeNode size child.1 child.0)
    → EachState first last (λ state. ReadsNode size child.1 state (value_if present here)) → Met size key entries rank child here first last
met size key entries rank child here first last present ranked some names there node read =
    let is : value_if present here ≡ Some here = ap (λ b. value_if b here) there in
    let link = at_some (IsTreeNode size child.1 child.0) here is node in
    record {
      low = link.low;
      rid = link.at;
      node = link.node;
      is = record { is = ranked; some = some; at = ap (λ k. (k, here.at)) link.low ∙ ap (λ r. (child.0, r)) link.at ∙ names; fence = refl };
      at = child_at size child.1 first last here (value_if present here) is read;
    }

-- told of the size of the store
pub met_first : (size : ℕ) (key : Key) (entries : List (Key × ℕ)) (rank : ℕ) (child : Key × ℕ) (here : Stored) (first last : Meaning) → size ≡ first.size
    → Met size key entries rank child here first last → Met first.size key entries rank child here first last
met_first size key entries rank child here first last same m =
    let P : ℕ → Type 0 = λ n. Met n key entries rank child here first last in subst P same m

-- the entry was put in below the node, or not, as told of where the node was read
pub record Entered (key : Key) (rid : ℕ) (node : Content) (rank : ℕ) (first read last : Meaning) (entering : Entering) : Type 0 where
  pub leaf : node.kind ≡ Leaf → IsLeafEntered key rid node.entries entering × (last ≡ read)
  pub inner : node.kind ≡ Inner → EachEntered (reads_of first read) last key rid node.entries rank entering

pub entered : (key : Key) (rid : ℕ) (node : Content) (rank : ℕ) (first read last : Meaning) (answer entering : Entering) → OnlyReads first read
    → answer ≡ entering → (node.kind ≡ Leaf → IsLeafEntered key rid node.entries answer × (last ≡ read))
    → (node.kind ≡ Inner → EachEntered read last key rid node.entries rank answer) → Entered key rid node rank first read last entering
entered key rid node rank first read last answer entering only is leaf inner = record {
  leaf = λ kind. (let l = leaf kind in let L : Entering → Type 0 = λ e. IsLeafEntered key rid node.entries e in (subst L is l.0, l.1));
  inner = λ kind. from_reads first read last key rid node.entries rank answer entering only is (inner kind);
}
