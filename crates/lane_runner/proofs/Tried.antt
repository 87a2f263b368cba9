-- What tries of a block leave, one behind the other.
use Rattle.std.proofs.Common.{◌≡◌, ℕ, ◌<◌, false, List, [], ◌∷◌, Option, Some, None, Result, Ok, Err, subst, ◌∙◌, arith}
use Rattle.std.specs.Prelude.{IfOk, IfNone, IfSome}
use Rattle.replay_model.specs.declared.command.Command.{Command}
use Rattle.replay_model.specs.declared.input.Block.{Block}
use Rattle.replay_model.specs.declared.outcome.Outcome.{Outcome}
use Rattle.replay_model.specs.declared.outcome.Placed.{Placed}
use Rattle.txn_engine.specs.Pass.{PassView, EngineView, IsIdleOf}
use Rattle.history_replay.specs.Results.{IsEntryOf}
use Rattle.lane_runner.specs.Rows.{stands}
use Rattle.lane_runner.specs.Using.{MayUse}
use Rattle.lane_runner.specs.declared.done.BlockDone.{BlockDone}
use Rattle.lane_runner.specs.Blocks.{Commits, IsOfSeat, IsDone, IsRefused, IsTried}
use Rattle.lane_runner.specs.Weighs.{WeighsAtMost}
use Rattle.lane_runner.proofs.Adding.{Adds-trans}
use Rattle.lane_runner.proofs.Counted.{once_then, once_after}

-- a try that commits behind others that were refused
pub Commits-behind : (m : ℕ) (commands : List Command) (placed : Placed) (outcome : Outcome) (p q r : PassView) → IsRefused m p q → Commits commands q r placed outcome → Commits commands p r placed outcome
Commits-behind m commands placed outcome p q r first second = record {
  entry = second.entry;
  adds = Adds-trans p q r [] (second.entry ∷ []) first.adds second.adds;
  is_entry = subst (λ (e : EngineView). IsEntryOf stands e.size.records commands placed outcome second.entry) first.adds.engine second.is_entry;
  seat = subst (λ (n : ℕ). IsOfSeat n placed) first.adds.seat second.seat;
  weighs = subst (λ (e : EngineView). second.entry.snapshot ≡ false → WeighsAtMost e.size.records commands second.entry) first.adds.engine second.weighs;
}

-- a call behind it that adds no entry
pub Commits-then : (n : ℕ) (commands : List Command) (placed : Placed) (outcome : Outcome) (p q r : PassView) → Commits commands p q placed outcome → IsRefused n q r → Commits commands p r placed outcome
Commits-then n commands placed outcome p q r first second = record {
  entry = first.entry;
  adds = Adds-trans p q r (first.entry ∷ []) [] first.adds second.adds;
  is_entry = first.is_entry;
  seat = first.seat;
  weighs = first.weighs;
}

-- calls that add no entry and are refused nothing, behind what a block came to
pub done_then : (block : Block) (done : BlockDone) (p q r : PassView) → IsDone block p q done → IsRefused 0 q r → IsDone block p r done
done_then block done p q r is none = record {
  ran = record { commits = Commits-then 0 block.commands done.placed done.outcome p q r is.ran.commits none; place = is.ran.place };
  once = once_then p q r is.once none;
  first = is.first;
}

pub tried_then : (block : Block) (answer : Option BlockDone) (p q r : PassView) → IsTried block p q answer → IsRefused 0 q r → IsTried block p r answer
tried_then block None p q r is none = record { adds = Adds-trans p q r [] [] is.adds none.adds; refusals = omega (arith, is.refusals, none.refusals) }
tried_then block (Some done) p q r is none = done_then block done p q r is none

-- and before it
pub tried_behind : {E : Type 0} (block : Block) (answer : Result (Option BlockDone) E) (p q r : PassView) → IsRefused 0 p q → IfOk answer (λ tried. IsTried block q r tried) → IfOk answer (λ tried. IsTried block p r tried)
tried_behind block (Ok None) p q r none is = record { adds = Adds-trans p q r [] [] none.adds is.adds; refusals = omega (arith, is.refusals, none.refusals) }
tried_behind block (Ok (Some done)) p q r none is = record {
  ran = record { commits = Commits-behind 0 block.commands done.placed done.outcome p q r none is.ran.commits; place = is.ran.place };
  once = once_after p q r none is.once;
  first = subst (λ (e : EngineView). IfSome done.first_read (λ rid. rid < e.size.records)) none.adds.engine is.first;
}
tried_behind block (Err fault) p q r none is = tt

-- the pass is idle again
pub idle_tried : (engine : EngineView) (block : Block) (answer : Option BlockDone) (p q : PassView) → MayUse engine p → IsTried block p q answer → IsIdleOf engine q
idle_tried engine block None p q may is = (is.adds.engine ∙ may.same, is.adds.idle)
idle_tried engine block (Some done) p q may is = (is.ran.commits.adds.engine ∙ may.same, is.ran.commits.adds.idle)

-- what has not run was refused
pub refused_if : (block : Block) (answer : Option BlockDone) (p q : PassView) → IsTried block p q answer → IfNone answer (IsRefused 1 p q)
refused_if block None p q is = is
refused_if block (Some done) p q is = tt
