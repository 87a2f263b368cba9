use Rattle.std.proofs.Common.{◌≡◌, ◌<◌, ◌≤◌, Ok, true}
use Rattle.std.specs.Prelude.{vec_len}
use Rattle.std.specs.Vec.{vec_capacity}
use Rattle.record_store.specs.Goes.{WalksByReads}
use Rattle.record_store.specs.States.{EachState}
use Rattle.ordered_index.specs.Standing.{IsNode, content_at}
use Rattle.ordered_index.specs.Walk.{node_of}
use Rattle.ordered_index.specs.Scan.{Appends, keys_behind}
use Rattle.ordered_index.proofs.Listing.{Listed}
use Rattle.ordered_index.proofs.range.scan_leaves.Given as goal

-- each state that agrees has the leaves passed so far, and their pairs are in the list
abbrev pub invariant-loop-goes_on : goal.invariant-loop-goes_on
invariant-loop-goes_on g l = record {
  walk : WalksByReads g.S.RecordRead.read_gives g.S.RecordRead.meaning g.S.RecordRead.rest l.fn.store l.store (Ok (tt {0}));
  node : IsNode l.size l.here.words;
  room : l.most ≤ vec_capacity l.out;
  some : l.goes_on ≡ true → vec_len l.out < l.most;
  appends : Appends l.size l.limit l.lo l.hi l.fn.out.items l.out.items;
  listed : EachState (g.S.RecordRead.meaning l.fn.store) (g.S.RecordRead.meaning l.store) (λ state. Listed l.size l.root l.lo l.hi l.limit state (node_of l.here) l.fn.out.items l.out.items l.goes_on);
}

-- the fences rise
abbrev pub decreases-loop-goes_on : goal.decreases-loop-goes_on
decreases-loop-goes_on g l = keys_behind (content_at l.here.words).low
