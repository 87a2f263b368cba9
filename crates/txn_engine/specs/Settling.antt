-- What settling makes of the pass of a seat that is alone.
use Rattle.std.specs.Prelude.{◌≡◌, ◌+◌, Result, OnOk, OnErr, IfOk}
use Rattle.plain_data.specs.State.{State}
use Rattle.clock_stamps.specs.declared.clocks.ClockOut.{ClockOut}
use Rattle.seat_post.specs.declared.settled.Settled.{Settled}
use Rattle.seat_post.specs.Settling.{SettlesPost, SettlesAll, StopsPost}
use Rattle.txn_engine.specs.Leaves.{HoldsAbsent}
use Rattle.txn_engine.specs.Lists.{IsTidy, IsRoomy}
use Rattle.txn_engine.specs.Pass.{PassView}

-- Its post was settled, and nothing else is changed. At `Ok` each record has one version, and what was done for each is told; else the
-- clock has come to its end, and it is told of which record.
pub record SettlesPass (kept : State → Type 0) (before after' : PassView) (answer : Result Settled ClockOut) : Type 0 where
  pub settles : SettlesPost kept before.post after'.post
  pub open settles use *
  pub beside : after' ≡ record before { post = after'.post }
  pub tidy : OnOk answer (IsTidy after')
  pub roomy : OnOk answer (IsRoomy after')
  pub absent : HoldsAbsent before → HoldsAbsent after'
  pub done : IfOk answer (SettlesAll before.post after'.post)
  pub draws : IfOk answer (λ all. after'.clock ≡ before.clock + all.rewritten)
  pub stops : OnErr answer (StopsPost before.post after'.post)
