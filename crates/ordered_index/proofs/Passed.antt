-- A walk goes on from a node to its entry for the key, over each state that agrees.
use Rattle.std.proofs.Common.{◌≡◌, ℕ, ◌+◌, ◌≤◌, Option, None, Some, inl, inr}
use Rattle.ordered_index.specs.Standing.{content_at}
use Rattle.std.specs.Prelude.{IfSome}
use Rattle.plain_data.specs.State.{overlay}
use Rattle.record_store.specs.Meaning.{Meaning}
use Rattle.record_store.specs.Walks.{OnlyReads}
use Rattle.ordered_index.specs.declared.key.Key.{Key}
use Rattle.ordered_index.specs.declared.node.Kind.TheVariants.{Inner}
use Rattle.ordered_index.specs.declared.walk.Stored.{Stored}
use Rattle.ordered_index.specs.Keys.{last_at}
use Rattle.record_store.specs.States.{EachState}
use Rattle.ordered_index.specs.Walk.{ReadsNode, IsNoNode, DescentTears}
use Rattle.record_store.proofs.States.{each_behind, each_grown}
use Rattle.ordered_index.proofs.Paths.{Walked, walk_steps, walk_tears, not_at, not_there}

pub each_tears : (first before after : Meaning) (size root depth rid : ℕ) (key : Key) (here : Stored) (child : Key × ℕ) → OnlyReads first before → OnlyReads before after → EachState first before (λ state. Walked size root depth key state here) → (content_at here.words).kind ≡ Inner → last_at (content_at here.words).entries key ≡ Some child → rid ≡ child.1 → EachState before after (λ state. IsNoNode size child.0 state child.1) → EachState first after (λ state. DescentTears size root key state rid)
each_tears first before after size root depth rid key here child earlier later walked inner last same torn = λ state agrees.
    let so_far = each_grown first before after (λ s. Walked size root depth key s here) later walked state agrees in
    let no_node = each_behind first before after (λ s. IsNoNode size child.0 s child.1) earlier torn state agrees in
    rw same (walk_tears size root depth key (overlay first.writes state) here child so_far inner last (inl (not_at size child.1 child.0 (overlay first.writes state) no_node)))

pub each_absent : (first before after : Meaning) (size root depth : ℕ) (key : Key) (here : Stored) (child : Key × ℕ) (read : Option Stored) → OnlyReads first before → OnlyReads before after → EachState first before (λ state. Walked size root depth key state here) → (content_at here.words).kind ≡ Inner → last_at (content_at here.words).entries key ≡ Some child → read ≡ None → EachState before after (λ state. ReadsNode size child.1 state read) → EachState first after (λ state. DescentTears size root key state child.1)
each_absent first before after size root depth key here child read earlier later walked inner last none absent = λ state agrees.
    let so_far = each_grown first before after (λ s. Walked size root depth key s here) later walked state agrees in
    let no_record = rw none at (each_behind first before after (λ s. ReadsNode size child.1 s read) earlier absent state agrees) in
    walk_tears size root depth key (overlay first.writes state) here child so_far inner last (inl (not_there size child.1 child.0 (overlay first.writes state) no_record))

pub each_deep : (first before : Meaning) (size root depth : ℕ) (key : Key) (here : Stored) (child : Key × ℕ) → EachState first before (λ state. Walked size root depth key state here) → (content_at here.words).kind ≡ Inner → last_at (content_at here.words).entries key ≡ Some child → 24 ≤ depth → EachState first before (λ state. DescentTears size root key state child.1)
each_deep first before size root depth key here child walked inner last deep = λ state agrees. walk_tears size root depth key (overlay first.writes state) here child (walked state agrees) inner last (inr deep)

pub each_steps : (first before after : Meaning) (size root depth : ℕ) (key : Key) (here link : Stored) (child : Key × ℕ) (read : Option Stored) → OnlyReads first before → OnlyReads before after → EachState first before (λ state. Walked size root depth key state here) → (content_at here.words).kind ≡ Inner → last_at (content_at here.words).entries key ≡ Some child → link.at ≡ child.1 → (content_at link.words).low ≡ child.0 → read ≡ Some link → EachState before after (λ state. ReadsNode size child.1 state read) → EachState first after (λ state. Walked size root (depth + 1) key state link)
each_steps first before after size root depth key here link child read earlier later walked inner last at low some read_as = λ state agrees.
    let so_far = each_grown first before after (λ s. Walked size root depth key s here) later walked state agrees in
    let found = rw some at (each_behind first before after (λ s. ReadsNode size child.1 s read) earlier read_as state agrees) in
    walk_steps size root depth key (overlay first.writes state) here link child so_far inner last at low found

-- the value in a `Some`
pub at_some : {X : Type 0} {o : Option X} (P : X → Type 0) (x : X) → o ≡ Some x → IfSome o P → P x
at_some P x is holds = rw is at holds
