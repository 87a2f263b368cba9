-- What a promotion makes of a pass.
use Rattle.std.specs.Prelude.{◌≡◌, ◌+◌, ◌↔◌, ℕ, Result, Ok, Err, OnOk, IfOk, IfErr}
use Rattle.plain_data.specs.State.{State}
use Rattle.stamp_base.specs.Limits.{greatest_clock}
use Rattle.stamp_base.specs.Stamp.{stamp_of}
use Rattle.engine_answers.specs.declared.promotion.Promotion.{Promotion}
use Rattle.engine_answers.specs.declared.promotion.Promotion.TheVariants.{Promoted, Inline, Absent, Occupied}
use Rattle.engine_answers.specs.declared.promotion.PromoteFault.{PromoteFault}
use Rattle.engine_answers.specs.declared.promotion.PromoteFault.TheVariants as fault
use Rattle.seat_post.specs.Logs.{IsAbove}
use Rattle.seat_post.specs.Promoting.{PromotesPost, FailsPost, CameUpon}
use Rattle.txn_engine.specs.Leaves.{HoldsAbsent}
use Rattle.txn_engine.specs.Lists.{IsRoomy}
use Rattle.txn_engine.specs.Pass.{PassView}

-- the boost of the clock after each answer
abbrev pub boost_after : Result Promotion PromoteFault → ℕ → ℕ
boost_after (Ok (Promoted stamp)) boost = 0
boost_after (Ok Inline) boost = boost
boost_after (Ok Absent) boost = boost
boost_after (Ok Occupied) boost = boost
boost_after (Err fault.ClockOut) boost = boost
boost_after (Err (fault.Conflict conflict)) boost = 1024

-- What a promotion at this clock does and answers. Its post tells what became of it and what was come upon; besides, the boost is
-- other, and the stamp that was drawn is above the commit entries of the log.
pub record Promotes (kept : State → Type 0) (rid clock : ℕ) (before after' : PassView) (answer : Result Promotion PromoteFault) : Type 0 where
  pub ok : IfOk answer (PromotesPost kept rid clock before.post after'.post)
  pub err : IfErr answer (FailsPost rid clock before.post after'.post)
  pub met : IfOk answer (CameUpon (stamp_of clock before.seat) rid before.post after'.post)
  pub clock_out : (answer ≡ Err fault.ClockOut) ↔ (clock ≡ greatest_clock + 1)
  pub beside : after' ≡ record before { post = after'.post; boost = boost_after answer before.boost }
  pub above : OnOk answer (IsAbove before.log (stamp_of clock before.seat))
  pub roomy : IsRoomy before → IsRoomy after'
  pub absent : HoldsAbsent before → HoldsAbsent after'
