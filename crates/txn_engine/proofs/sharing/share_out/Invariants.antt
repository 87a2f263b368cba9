use Rattle.std.proofs.Common.{◌≡◌, ◌+◌, ◌-◌, ◌≤◌, length, map, All}
use Rattle.std.specs.List.{range_with_len}
use Rattle.std.specs.Vec.{vec_capacity}
use Rattle.core_rule.specs.Views.{Among}
use Rattle.spare_numbers.specs.Spare.{no_numbers, NumbersView}
use Rattle.txn_engine.specs.Pass.{with_snapshot, bare}
use Rattle.txn_engine.specs.Sharing.{with_made, share_at, SawAtMost}
use Rattle.txn_engine.proofs.sharing.share_out.Given as goal

abbrev pub invariant-loop-seat : goal.invariant-loop-seat
invariant-loop-seat g l = record {
  pass : l.pass ≡ with_snapshot (with_made l._seat l.fn.pass) l.pass.snapshot;
  passes : map bare l.passes.items ≡ map (share_at l.fn.pass) (range_with_len 1 (l._seat - 1));
  observed : All SawAtMost l.passes.items;
  lists : length l.lists.items + l._seat ≡ l.engine.size.seats;
  empty : (n : NumbersView) → Among n l.lists.items → n ≡ no_numbers l.engine.fixed l.engine.size.records;
  room : l.engine.size.seats ≤ vec_capacity l.passes;
}
