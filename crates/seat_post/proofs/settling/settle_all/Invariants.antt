use Rattle.std.proofs.Common.{◌≡◌, ◌+◌, ◌≤◌, ◌*◌}
use Rattle.core_rule.specs.View.{nothing_reserved}
use Rattle.core_rule.specs.Hands.{StaysReady}
use Rattle.rapid_gc.specs.Ends.{FreesCounted}
use Rattle.seat_post.specs.Collecting.{trail_in}
use Rattle.seat_post.specs.Settling.{IsSettling, Settles, AreSettled}
use Rattle.seat_post.specs.SettlingOne.{SettlesFirst}
use Rattle.seat_post.proofs.settling.settle_all.Given as goal

abbrev pub invariant-loop-rid : goal.invariant-loop-rid
invariant-loop-rid g l = record {
  stays : StaysReady l.core l.fn.hand l.hand;
  settling : IsSettling l.hand.view;
  settles : Settles g.J.Keeps.kept l.fn.hand.view l.hand.view;
  none_reserved : l.hand.view.counts.in_reserved ≡ nothing_reserved;
  settled : AreSettled l.rid l.hand.view.counts;
  draws : l.hand.view.clock.clock ≡ l.fn.hand.view.clock.clock + l.all.rewritten;
  freed : FreesCounted l.all.places l.fn.hand.view l.hand.view;
  first : SettlesFirst l.core.size l.fn.hand.view.number l.rid l.all (trail_in l.fn.hand.view) (trail_in l.hand.view);
  few : l.all.cut ≤ 2 * l.rid;
}
