-- What looking for the absent records makes of a pass.
use Rattle.std.specs.Prelude.{◌≡◌, ◌≤◌, ℕ, List, [], length}
use Rattle.stamp_base.specs.Stamp.{bound_of_clock}
use Rattle.seat_post.specs.Leaves.{AreAbsent}
use Rattle.seat_post.specs.Logs.{IsAbove}
use Rattle.seat_post.specs.Rescan.{LooksOver, looked_over}
use Rattle.txn_engine.specs.Leaves.{HoldsAbsent}
use Rattle.txn_engine.specs.Pass.{PassView, observing}

-- its post has looked over the records, and these are the spare numbers
abbrev pub rescanned : PassView → List ℕ → PassView
rescanned p spare = record p { post = looked_over p.post; spare = spare; given = [] }

-- The spare numbers are those of the absent records from the first that is given out on, and are counted. They are so below what is
-- published, which is above each commit entry of the log, since the bound of the clock is: so all absent records are held. And what was
-- loaded shows the minimum, and the search for each of them.
pub record Rescans (before after' : PassView) (told : ℕ) : Type 0 where
  pub after : after' ≡ observing (rescanned before after'.spare) after'.observed
  pub absent : AreAbsent before.log after'.published before.fixed before.shared.size.records after'.spare
  pub held : HoldsAbsent after'
  pub count : told ≡ length after'.spare
  pub above : IsAbove before.log (bound_of_clock before.clock)
  pub not_back : before.met ≤ after'.met
  pub loads : LooksOver before.shared.size.seats before.seat after'.met after'.published before.fixed before.shared.size.records after'.spare before.observed after'.observed
