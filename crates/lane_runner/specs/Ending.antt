-- What the end of a block's transaction says of the block.
use Rattle.std.specs.Prelude.{◌≡◌, ℕ, false, Option, None, Some, Result, Ok, Err}
use Rattle.history_replay.specs.Results.{StandsForSome}
use Rattle.replay_model.specs.declared.input.Block.{Block}
use Rattle.replay_model.specs.declared.outcome.Outcome.{Outcome}
use Rattle.seat_post.specs.FirstRead.{first_record}
use Rattle.engine_answers.specs.declared.faults.CommitFault.{CommitFault}
use Rattle.engine_answers.specs.declared.committed.Committed.{Committed}
use Rattle.txn_engine.specs.Commits as calls
use Rattle.txn_engine.specs.Pass.{PassView}
use Rattle.lane_runner.specs.declared.done.BlockDone.{BlockDone}
use Rattle.lane_runner.specs.Rows.{stands}

-- what a try came to: what the block did, or nothing where it was refused
abbrev pub ran : {E : Type 0} → Result BlockDone E → Option BlockDone
ran (Ok done) = Some done
ran (Err refused) = None

-- what the block came to, of which a transaction read this record first, by the answer to its commit
abbrev pub done_at : Block → Outcome → (first_read : Option ℕ) → Result Committed CommitFault → Option BlockDone
done_at block outcome first_read (Ok told) = Some (record {
  placed = record { stamp = told.stamp; snap = false; lane = block.lane; number = block.number };
  outcome = outcome;
  first_read = first_read;
})
done_at block outcome first_read (Err fault) = None

-- the transaction was committed, and its answer says what the block came to
pub record EndsBlock (block : Block) (outcome : Outcome) (before after' : PassView) (answer : Option BlockDone) : Type 0 where
  pub told : Result Committed CommitFault
  pub commits : calls.Commits (StandsForSome stands) before after' told
  pub answers : answer ≡ done_at block outcome (first_record before.reads) told
