use Rattle.std.proofs.Common.{◌-◌, ◌+◌, Ok}
use Rattle.std.specs.Prelude.{IfSome}
use Rattle.record_store.specs.Goes.{WalksByReads}
use Rattle.hash_index.specs.Chain.{bucket_of}
use Rattle.record_store.specs.States.{EachState}
use Rattle.hash_index.specs.Search.{IsInStore, IsRoom}
use Rattle.hash_index.proofs.Walked.{Walked}
use Rattle.hash_index.proofs.search.search.Given as goal

-- each state that agrees has the nodes passed so far, none of which has the key
abbrev pub invariant-loop-index : goal.invariant-loop-index
invariant-loop-index g l = record {
  walk : WalksByReads g.S.RecordRead.read_gives g.S.RecordRead.meaning g.S.RecordRead.rest l.fn.store l.store (Ok (tt {0}));
  here : IsInStore l.size l.here;
  room : IfSome l.room (IsRoom l.size);
  walked : EachState (g.S.RecordRead.meaning l.fn.store) (g.S.RecordRead.meaning l.store) (λ state. Walked l.size (l.base + bucket_of l.key) l.key state l.room l.here);
}

-- positions rise, and lie below the size
abbrev pub decreases-loop-index : goal.decreases-loop-index
decreases-loop-index g l = l.size - l.here.position
