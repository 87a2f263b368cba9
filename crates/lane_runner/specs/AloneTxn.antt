-- A transaction of the seat that is alone: how it ends, by what its body answered.
use Rattle.std.specs.Prelude.{◌≡◌, ℕ, ⊤, Result, Ok, IfOk, IfErr}
use Rattle.engine_answers.specs.declared.committed.Committed.{Committed}
use Rattle.engine_answers.specs.declared.faults.AloneFault.{AloneFault}
use Rattle.engine_answers.specs.declared.faults.AloneFault.TheVariants as fault
use Rattle.history_replay.specs.Results.{StandsForSome}
use Rattle.plain_data.specs.State.{Fits}
use Rattle.record_store.specs.declared.walk.Walk.{Walk}
use Rattle.record_store.specs.declared.walk.Walk.TheVariants.{Store, Torn, NoMemory}
use Rattle.seat_post.specs.declared.phase.Phase.TheVariants.{Open}
use Rattle.seat_post.specs.Leaves.{AreLeft}
use Rattle.txn_engine.specs.Alone.{AloneView}
use Rattle.txn_engine.specs.Commits.{Commits}
use Rattle.txn_engine.specs.Lists.{IsFull}
use Rattle.txn_engine.specs.Pass.{EngineView, PassView, engine_of, entry_of}
use Rattle.lane_runner.specs.Rows.{stands}

-- where what it has read is what the log left, its body answers neither that records are torn nor that no number is left
abbrev pub IsRuledOut : Walk AloneFault → PassView → Type 0
IsRuledOut (Torn rid) p = AreLeft p.log p.stamp p.reads → ⊥
IsRuledOut (Store fault.RecordsOut) p = AreLeft p.log p.stamp p.reads → ⊥
IsRuledOut (Store fault.NoMemory) p = ⊤
IsRuledOut NoMemory p = ⊤

-- it is open, and may end by this answer of its body: where the body is done, the writes keep what is kept, and there are places for them
pub record MayEndAlone {T : Type 0} (engine : EngineView) (told : Result T (Walk AloneFault)) (a : AloneView) : Type 0 where
  pub same : engine_of a.pass ≡ engine
  pub is_open : a.pass.phase ≡ Open
  pub fits : IfOk told (λ _. Fits (StandsForSome stands) a.pass.shared.size.records (entry_of a.pass))
  pub places : IfOk told (λ _. IsFull a.pass → ⊥)
  pub ruled_out : IfErr told (λ why. IsRuledOut why a.pass)

-- it has read what the log left, and committed at its stamp
pub record CommitsAlone (before after' : AloneView) (stamp : ℕ) : Type 0 where
  pub told : Committed
  pub commits : Commits (StandsForSome stands) before.pass after'.pass (Ok told)
  pub left : AreLeft before.pass.log before.pass.stamp before.pass.reads
  pub stamp_is : stamp ≡ before.pass.stamp
