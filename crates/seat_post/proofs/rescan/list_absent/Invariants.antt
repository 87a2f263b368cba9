use Rattle.std.proofs.Common.{◌≡◌, ◌+◌, ◌-◌, [], map}
use Rattle.std.specs.List.{range_with_len}
use Rattle.core_rule.specs.Deciding.{entry_of}
use Rattle.core_rule.specs.Hands.{IsReady, IsSameSeat}
use Rattle.validate_core.specs.OneByOne.{OneByOne}
use Rattle.seat_post.specs.Leaves.{AreAbsent}
use Rattle.seat_post.specs.Rescan.{Looks, LooksAt}
use Rattle.seat_post.proofs.rescan.list_absent.Given as goal

abbrev pub invariant-loop-rid : goal.invariant-loop-rid
invariant-loop-rid g l = record {
  looks : Looks l.fn.hand.view l.hand.view;
  each : OneByOne (LooksAt (l.stamp + 1)) (range_with_len l.fn.numbers.fixed (l.rid - l.fn.numbers.fixed)) (l.fn.hand.view.seen.loads, []) (l.hand.view.seen.loads, l.numbers.spare);
  ready : IsReady l.core l.hand;
  seat : IsSameSeat l.fn.hand l.hand;
  numbers : l.numbers ≡ record l.fn.numbers { spare = l.numbers.spare };
  absent : AreAbsent (map entry_of l.fn.hand.view.log) (l.stamp + 1) l.fn.numbers.fixed l.rid l.numbers.spare;
}
