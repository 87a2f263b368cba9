use Rattle.std.proofs.Common.{◌<◌, ◌-◌, ◌+◌, Ok}
use Rattle.record_store.specs.Goes.{WalksByReads}
use Rattle.record_store.specs.States.{EachState}
use Rattle.hash_index.specs.Chain.{bucket_of}
use Rattle.hash_index.proofs.Looked.{Looked}
use Rattle.hash_index.proofs.looking.look.Given as goal

-- each state that agrees has the nodes passed so far, and they lead to the record that is read next
abbrev pub invariant-loop-cells : goal.invariant-loop-cells
invariant-loop-cells g l = record {
  walk : WalksByReads g.S.RecordRead.read_gives g.S.RecordRead.meaning g.S.RecordRead.rest l.fn.store l.store (Ok (tt {0}));
  within : l.at < l.size;
  looked : EachState (g.S.RecordRead.meaning l.fn.store) (g.S.RecordRead.meaning l.store) (Looked l.size (l.base + bucket_of l.key) l.key l.position l.at);
}

-- positions rise, and lie below the size
abbrev pub decreases-loop-cells : goal.decreases-loop-cells
decreases-loop-cells g l = l.size - l.position
