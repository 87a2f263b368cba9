use Rattle.std.proofs.Common.{false, Some, sym, ap, ◌∙◌}
use Rattle.std.specs.Prelude.{Result}
use Rattle.seat_post.specs.FirstRead.{first_record}
use Rattle.txn_engine.specs.Faults.{told_by}
use Rattle.engine_answers.specs.declared.faults.CommitFault.{CommitFault}
use Rattle.engine_answers.specs.declared.committed.Committed.{Committed}
use Rattle.lane_runner.specs.Ending.{done_at}
use Rattle.lane_runner.proofs.trying.commit_block.Goals as goal

pub returns : goal.returns
returns g c = record {
  ends = record {
    told = told_by (λ (f : CommitFault). f) c.commit.result;
    commits = c.commit.ensures.commits;
    answers =
        (λ i. Some (record {
          placed = record { stamp = c.number.ensures.value i; snap = false; lane = c.args.block.now.lane; number = c.args.block.now.number };
          outcome = c.args.outcome;
          first_read = c.first_read-first_read.ensures i;
        })) ∙ sym (ap (λ (r : Result Committed CommitFault). done_at c.args.block.now c.args.outcome (first_record c.args.txn.seat.now.reads) (told_by (λ (f : CommitFault). f) r)) c.in-Ok.is);
  };
}

pub returns-in-Err : goal.returns-in-Err
returns-in-Err g c = record {
  ends = record {
    told = told_by (λ (f : CommitFault). f) c.commit.result;
    commits = c.commit.ensures.commits;
    answers = sym (ap (λ (r : Result Committed CommitFault). done_at c.args.block.now c.args.outcome (first_record c.args.txn.seat.now.reads) (told_by (λ (f : CommitFault). f) r)) c.in-Err.is);
  };
}
