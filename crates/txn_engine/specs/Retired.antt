-- What contracts see of a seat that has retired, and what it keeps.
use Rattle.std.specs.Prelude.{◌≡◌, ℕ, ◌≤◌, List, [], ◌++◌, map}
use Rattle.plain_data.specs.declared.entry.Entry.{Entry}
use Rattle.stamp_base.specs.Stamp.{bound_of_clock}
use Rattle.core_rule.specs.Deciding as deciding
use Rattle.core_rule.specs.Hands.{Seated}
use Rattle.txn_engine.specs.Pass.{EngineView, PassView, engine_of}
use Rattle.seat_post.specs.Logs.{IsAbove, AreBelow}
use Rattle.seat_post.specs.Seats.{Others}
use Rattle.spare_numbers.specs.Spare.{NumbersView}
use Rattle.seat_post.specs.Joining.{IsDone}

-- a seat that has retired: what a pass leaves, and which seats it took as open
pub record RetiredView : Type 0 where
  pub engine : EngineView
  pub seat : ℕ
  pub clock : ℕ
  pub others : Others
  pub log : List Entry
  pub met : ℕ
  pub spare : List ℕ
  pub refusals : ℕ

abbrev pub retired : PassView → RetiredView
retired p = record { engine = engine_of p; seat = p.seat; clock = p.clock; others = p.others; log = p.log; met = p.met; spare = p.given ++ p.spare; refusals = p.refusals }

abbrev pub retired_view : Seated → NumbersView → ℕ → RetiredView
retired_view hand n refusals = record {
  engine = record { table = hand.table; size = hand.view.size; fixed = n.fixed };
  seat = hand.view.number;
  clock = hand.view.clock.clock;
  others = record { splitting = hand.view.splitting; taken_in = hand.view.clock.taken_in };
  log = map deciding.entry_of hand.view.log;
  met = hand.view.clock.met;
  spare = n.spare;
  refusals = refusals;
}

pub record IsRetiredSeat (hand : Seated) (n : NumbersView) (refusals : ℕ) : Type 0 where
  pub done : IsDone hand
  pub records : n.records ≡ hand.view.size.records
  pub fixed : n.fixed ≤ n.records
  pub none_given : n.given ≡ []
  pub counts : refusals ≤ hand.view.clock.clock
  -- no commit entry of the log is above the clock, and no snapshot is at or above the greatest minimum met
  pub commits : IsAbove (map deciding.entry_of hand.view.log) (bound_of_clock hand.view.clock.clock)
  pub snapshots : AreBelow (map deciding.entry_of hand.view.log) hand.view.clock.met
