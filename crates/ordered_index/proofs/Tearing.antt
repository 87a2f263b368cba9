-- A walk below a node tears; and what the code knows of the child that it read.
use Rattle.std.proofs.Common.{◌≡◌, ◌⊎◌, ℕ, ◌+◌, ◌-◌, ◌<◌, ◌≤◌, zero, suc, List, [], ◌∷◌, length, get_or, Option, None, Some, refl, sym, ap, ◌∙◌, arith, subst, inl, inr, true, false}
use Rattle.plain_data.specs.State.{State, overlay}
use Rattle.record_store.specs.Meaning.{Meaning}
use Rattle.record_store.specs.Walks.{OnlyReads, ReadsGrow}
use Rattle.record_store.proofs.Agreement.{agrees-extends, writes_same}
use Rattle.ordered_index.specs.declared.key.Key.{Key}
use Rattle.ordered_index.specs.declared.node.Kind.{Kind}
use Rattle.ordered_index.specs.declared.node.Kind.TheVariants.{Inner}
use Rattle.ordered_index.specs.declared.walk.Stored.{Stored}
use Rattle.ordered_index.specs.declared.enter.Entering.{Entering}
use Rattle.ordered_index.specs.Keys.{NotAfter, Before, Above, first_key}
use Rattle.ordered_index.specs.Node.{Content, IsSound, Begins}
use Rattle.ordered_index.specs.Standing.{content_at}
use Rattle.ordered_index.specs.Tree.{IsAt}
use Rattle.record_store.specs.States.{EachState}
use Rattle.ordered_index.specs.Walk.{IsTreeNode, ReadsNode, IsNoNode, DescentTears}
use Rattle.ordered_index.specs.Enter.{IsRank, TearsBelow, EachEntered}
use Rattle.ordered_index.proofs.Paths.{not_at, not_there}
use Rattle.ordered_index.proofs.Entering.{IsChild, reads_of}

below_here : (size depth : ℕ) (key : Key) (entries : List (Key × ℕ)) (rank : ℕ) (state : State) → IsRank key entries rank → 0 < rank → ((node : Content) → node.low ≡ (get_or entries (rank - 1) (first_key, 0)).0 → IsAt size state ((get_or entries (rank - 1) (first_key, 0)).1, node) → ⊥) ⊎ (24 ≤ depth + 0) → TearsBelow size depth key entries state (get_or entries (rank - 1) (first_key, 0)).1
below_here size depth key entries rank state is some unfit = record {
  child = get_or entries (rank - 1) (first_key, 0);
  last = is.last (first_key, 0) some;
  nodes = [];
  low = (get_or entries (rank - 1) (first_key, 0)).0;
  path = refl;
  unfit = unfit;
}

pub tears_deep : (size depth : ℕ) (key : Key) (entries : List (Key × ℕ)) (rank : ℕ) (m0 : Meaning) → IsRank key entries rank → 0 < rank → depth ≡ 24 → EachState m0 m0 (λ state. TearsBelow size depth key entries state (get_or entries (rank - 1) (first_key, 0)).1)
tears_deep size depth key entries rank m0 is some deep = λ state agrees. below_here size depth key entries rank (overlay m0.writes state) is some (inr (omega arith))

pub tears_unfit : (size depth rid : ℕ) (key : Key) (entries : List (Key × ℕ)) (rank : ℕ) (m0 m1 : Meaning) → IsRank key entries rank → 0 < rank → rid ≡ (get_or entries (rank - 1) (first_key, 0)).1 → EachState m0 m1 (λ state. IsNoNode size (get_or entries (rank - 1) (first_key, 0)).0 state (get_or entries (rank - 1) (first_key, 0)).1) → EachState m0 m1 (λ state. TearsBelow size depth key entries state rid)
tears_unfit size depth rid key entries rank m0 m1 is some same unfit = λ state agrees. rw same (below_here size depth key entries rank (overlay m0.writes state) is some (inl (not_at size _ _ (overlay m0.writes state) (unfit state agrees))))

pub tears_absent : (size depth : ℕ) (key : Key) (entries : List (Key × ℕ)) (rank : ℕ) (m0 m1 : Meaning) (read : Option Stored) → IsRank key entries rank → 0 < rank → read ≡ None → EachState m0 m1 (λ state. ReadsNode size (get_or entries (rank - 1) (first_key, 0)).1 state read) → EachState m0 m1 (λ state. TearsBelow size depth key entries state (get_or entries (rank - 1) (first_key, 0)).1)
tears_absent size depth key entries rank m0 m1 read is some none absent = λ state agrees. below_here size depth key entries rank (overlay m0.writes state) is some (inl (not_there size _ _ (overlay m0.writes state) (rw none at (absent state agrees))))

tears_more : (size depth rid : ℕ) (key : Key) (entries : List (Key × ℕ)) (rank : ℕ) (child : Key × ℕ) (node : Content) (state : State) → IsChild size key entries rank child node → IsAt size state (child.1, node) → node.kind ≡ Inner → TearsBelow size (depth + 1) key node.entries state rid → TearsBelow size depth key entries state rid
tears_more size depth rid key entries rank child node state c at kind t = record {
  child = child;
  last = c.is.last (first_key, 0) c.some ∙ ap (λ e. Some e) (sym c.at);
  nodes = (child.1, node) ∷ t.nodes;
  low = t.low;
  path = (t.child, ap (λ k. (k, child.1)) (sym c.fence), at, kind, t.last, t.path);
  unfit = elim t.unfit as (λ _. ((other : Content) → other.low ≡ t.low → IsAt size state (rid, other) → ⊥) ⊎ (24 ≤ depth + suc (length t.nodes))) [ inl none ↦ inl none | inr deep ↦ inr (omega (arith, deep)) ];
}

pub tears_below : (size depth rid : ℕ) (key : Key) (entries : List (Key × ℕ)) (rank : ℕ) (child : Key × ℕ) (node : Content) (m0 m1 m2 : Meaning) → OnlyReads m0 m1 → ReadsGrow m1 m2 → IsChild size key entries rank child node → EachState m0 m1 (λ state. IsAt size state (child.1, node)) → node.kind ≡ Inner → EachState m1 m2 (λ state. TearsBelow size (depth + 1) key node.entries state rid) → EachState m0 m2 (λ state. TearsBelow size depth key entries state rid)
tears_below size depth rid key entries rank child node m0 m1 m2 only grow c at kind torn = λ state agrees.
    let P : State → Type 0 = λ s. TearsBelow size (depth + 1) key node.entries s rid in
    tears_more size depth rid key entries rank child node (overlay m0.writes state) c (at state (agrees-extends m1.reads m2.reads state grow.reads agrees)) kind (subst P (ap (λ w. overlay w state) (writes_same m0 m1 only)) (torn state agrees))

-- an inner node has an entry that is not behind the key
above_begins : (low key : Key) (entries : List (Key × ℕ)) → Begins Inner low entries → NotAfter low key → Above key entries → ⊥
above_begins low key [] begins less above = begins
above_begins low key (e ∷ entries) begins less above = let first : Before key low = (let P : Key → Type 0 = λ k. Before key k in subst P begins above.0) in let clash : true ≡ false = sym first ∙ less in cc

pub rank_some : (size : ℕ) (node : Content) (key : Key) (rank : ℕ) → IsSound size node → node.kind ≡ Inner → NotAfter node.low key → IsRank key node.entries rank → 0 < rank
rank_some size node key zero sound kind low is = let P : Kind → Type 0 = λ k. Begins k node.low node.entries in absurd (above_begins node.low key node.entries (subst P kind sound.first) low is.above)
rank_some size node key (suc r) sound kind low is = omega arith

-- the child that was read
pub child_is : (size : ℕ) (key : Key) (entries : List (Key × ℕ)) (rank : ℕ) (link : Stored) → IsRank key entries rank → 0 < rank → IsTreeNode size (get_or entries (rank - 1) (first_key, 0)).1 (get_or entries (rank - 1) (first_key, 0)).0 link → IsChild size key entries rank ((content_at link.words).low, link.at) (content_at link.words)
child_is size key entries rank link is some read = record {
  is = is;
  some = some;
  at = ap (λ k. (k, link.at)) read.low ∙ ap (λ r. ((get_or entries (rank - 1) (first_key, 0)).0, r)) read.at;
  fence = refl;
}

pub child_at : (size : ℕ) (rid : ℕ) (m0 m1 : Meaning) (link : Stored) (read : Option Stored) → read ≡ Some link → EachState m0 m1 (λ state. ReadsNode size rid state read) → EachState m0 m1 (λ state. IsAt size state (link.at, content_at link.words))
child_at size rid m0 m1 link read is each = λ state agrees. rw is at (each state agrees)

pub from_reads : (m0 m1 m2 : Meaning) (key : Key) (rid : ℕ) (entries : List (Key × ℕ)) (rank : ℕ) (e e' : Entering) → OnlyReads m0 m1 → e ≡ e' → EachEntered m1 m2 key rid entries rank e → EachEntered (reads_of m0 m1) m2 key rid entries rank e'
from_reads m0 m1 m2 key rid entries rank e e' only same each =
    let P : Meaning → Type 0 = λ m. EachEntered m m2 key rid entries rank e in
    let Q : Entering → Type 0 = λ x. EachEntered (reads_of m0 m1) m2 key rid entries rank x in
    subst Q same (subst P only.rest each)

-- a walk from the root tears below it
pub top_tears : (size root rid : ℕ) (key : Key) (node : Content) (state : State) → node.low ≡ first_key → IsAt size state (root, node) → node.kind ≡ Inner → TearsBelow size 1 key node.entries state rid → DescentTears size root key state rid
top_tears size root rid key node state low at kind t = record {
  words = at.words;
  present = at.here;
  nodes = (root, node) ∷ t.nodes;
  low = t.low;
  path = (t.child, ap (λ (k : Key). (k, root)) (sym low), at, kind, t.last, t.path);
  unfit = elim t.unfit as (λ _. ((other : Content) → other.low ≡ t.low → IsAt size state (rid, other) → ⊥) ⊎ (24 ≤ suc (length t.nodes))) [ inl none ↦ inl none | inr deep ↦ inr (omega (arith, deep)) ];
}

pub top_torn : (size root rid : ℕ) (key : Key) (node : Content) (m0 m1 m2 : Meaning) → OnlyReads m0 m1 → ReadsGrow m1 m2 → node.low ≡ first_key → EachState m0 m1 (λ state. IsAt size state (root, node)) → node.kind ≡ Inner → EachState m1 m2 (λ state. TearsBelow size 1 key node.entries state rid) → EachState m0 m2 (λ state. DescentTears size root key state rid)
top_torn size root rid key node m0 m1 m2 only grow low at kind torn = λ state agrees.
    let P : State → Type 0 = λ s. TearsBelow size 1 key node.entries s rid in
    top_tears size root rid key node (overlay m0.writes state) low (at state (agrees-extends m1.reads m2.reads state grow.reads agrees)) kind (subst P (ap (λ w. overlay w state) (writes_same m0 m1 only)) (torn state agrees))
