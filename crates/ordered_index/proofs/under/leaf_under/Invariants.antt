use Rattle.std.proofs.Common.{◌≡◌, ◌-◌, ◌<◌, ◌≤◌, Ok}
use Rattle.record_store.specs.Goes.{WalksByReads}
use Rattle.record_store.specs.States.{EachState}
use Rattle.ordered_index.specs.declared.node.Kind.TheVariants.{Inner}
use Rattle.ordered_index.specs.Keys.{NotAfter}
use Rattle.ordered_index.specs.Standing.{IsNode, content_at}
use Rattle.ordered_index.proofs.Paths.{Walked}
use Rattle.ordered_index.proofs.Parents.{Above, Came}
use Rattle.ordered_index.proofs.under.leaf_under.Given as goal

-- each state that agrees has the nodes passed so far, and from the second one on the node above is kept
abbrev pub invariant-loop-key : goal.invariant-loop-key
invariant-loop-key g l = record {
  walk : WalksByReads g.S.RecordRead.read_gives g.S.RecordRead.meaning g.S.RecordRead.rest l.fn.store l.store (Ok (tt {0}));
  at : l.here.at < l.size;
  node : IsNode l.size l.here.words;
  low : NotAfter (content_at l.here.words).low l.key;
  some : 1 ≤ l.depth;
  deep : l.depth ≤ 24;
  walked : EachState (g.S.RecordRead.meaning l.fn.store) (g.S.RecordRead.meaning l.store) (λ state. Walked l.size l.root l.depth l.key state l.here);
  first : l.depth ≡ 1 → (content_at l.here.words).kind ≡ Inner;
  above : 1 < l.depth → Above l.size l.key l.parent l.here;
  came : 1 < l.depth → EachState (g.S.RecordRead.meaning l.fn.store) (g.S.RecordRead.meaning l.store) (λ state. Came l.size l.root l.depth l.key state l.parent);
}

-- a walk passes 24 nodes at most
abbrev pub decreases-loop-key : goal.decreases-loop-key
decreases-loop-key g l = 24 - l.depth
