-- What the end of a block's transaction leaves of the pass that it was begun at.
use Rattle.std.proofs.Common.{◌≡◌, ℕ, ◌+◌, ◌<◌, ◌≤◌, false, Option, IsSome, Result, Ok, Err, refl, sym, ap, subst, ◌∙◌, arith}
use Rattle.std.specs.Prelude.{IfSome}
use Rattle.history_replay.specs.Results.{StandsForSome}
use Rattle.record_store.specs.Limits.{record_limit}
use Rattle.replay_model.specs.declared.input.Block.{Block}
use Rattle.replay_model.specs.declared.outcome.Outcome.{Outcome}
use Rattle.stored_tables.specs.Laws.{FitsRecords, FitsMore}
use Rattle.seat_post.specs.FirstRead.{first_record}
use Rattle.seat_post.specs.Logs.{IsAbove}
use Rattle.engine_answers.specs.declared.faults.CommitFault.{CommitFault}
use Rattle.engine_answers.specs.declared.committed.Committed.{Committed}
use Rattle.txn_engine.specs.Commits as calls
use Rattle.txn_engine.specs.Lists.{IsFull}
use Rattle.txn_engine.specs.Pass.{PassView, frame, IsAlone, begun, refused, with_bounds, entry_of, engine_of, desk_of, observing, placing}
use Rattle.txn_engine.specs.Commits.{done_of, refused_of}
use Rattle.lane_runner.specs.declared.done.BlockDone.{BlockDone}
use Rattle.lane_runner.specs.Rows.{stands}
use Rattle.lane_runner.specs.Blocks.{IsRefused, IsTried}
use Rattle.lane_runner.specs.Ending.{EndsBlock, done_at}
use Rattle.lane_runner.specs.Ready.{IsReady, IsReadyOnceCollected}
use Rattle.lane_runner.specs.Weighs.{WeighsAtMost}
use Rattle.lane_runner.proofs.Adding.{Adds-no_entry}
use Rattle.lane_runner.proofs.Begun.{commits_at}
use Rattle.lane_runner.proofs.Counted.{counted_once}
use Rattle.lane_runner.proofs.Entries.{HasRun, first_below}
use Rattle.lane_runner.proofs.Granted.{only_full, ready_committed}
use Rattle.lane_runner.proofs.Held.{roomy_once}
use Rattle.lane_runner.proofs.Ran.{Opened}

-- it was begun at `p`, has run to `q`, and ended at `r`, which the pass is then
module _ (p q r r' : PassView) (same : r' ≡ r) (clock : ℕ) (later : p.clock < clock) (above : IsAbove p.log q.stamp) (kept : frame q ≡ frame (begun p clock)) where
  refused_at : r ≡ observing (placing (refused (with_bounds q r.bounds)) r.placed) r.observed → IsRefused 1 p r
  refused_at ends =
      let same_clock : r.clock ≡ clock = ap (λ (x : PassView). x.clock) ends ∙ ap (λ (f : PassView). f.clock) kept in
      let same_met : r.met ≡ p.met = ap (λ (x : PassView). x.met) ends ∙ ap (λ (f : PassView). f.met) kept in
      let once : r.refusals ≡ q.refusals + 1 = ap (λ (x : PassView). x.refusals) ends in
      let before : q.refusals ≡ p.refusals = ap (λ (f : PassView). f.refusals) kept in
      record {
        adds = Adds-no_entry p r (ap engine_of ends ∙ ap engine_of kept)
            (ap (λ (x : PassView). x.seat) ends ∙ ap (λ (f : PassView). f.seat) kept)
            (ap (λ (x : PassView). x.others) ends ∙ ap (λ (f : PassView). f.others) kept)
            (ap desk_of ends)
            (ap (λ (x : PassView). x.log) ends ∙ ap (λ (f : PassView). f.log) kept)
            (omega arith) (omega arith) (omega arith);
        refusals = omega arith;
      }

  pub tried_ended : (block : Block) (outcome : Outcome) (answer : Option BlockDone) → EndsBlock block outcome q r answer
      → FitsRecords → FitsMore → p.shared.size.records ≤ record_limit → HasRun p.shared.size.records block.commands outcome q.reads q.writes → WeighsAtMost p.shared.size.records block.commands (entry_of q) → block.snap ≡ false → IsTried block p r' answer
  tried_ended block outcome answer ends fits more few run weighs kind = subst (λ (x : PassView). IsTried block p x answer) (sym same) (subst (λ (a : Option BlockDone). IsTried block p r a) (sym ends.answers) (by_told ends.told ends.commits)) where
    by_told : (told : Result Committed CommitFault) → calls.Commits (StandsForSome stands) q r told → IsTried block p r (done_at block outcome (first_record q.reads) told)
    by_told (Err fault) commits = refused_at (refused_of commits.ends)
    by_told (Ok told) commits =
        let is = done_of commits.ends in
        record {
          ran = record {
            commits = commits_at p q r r clock r.bounds block.commands outcome _ later above kept is.after refl fits more few run (sym is.stamp) refl weighs;
            place = record { snap = sym kind; lane = refl; number = refl };
          };
          once = counted_once p q r r clock r.bounds kept is.after refl;
          first = subst (λ (n : ℕ). IfSome (first_record q.reads) (λ rid. rid < n)) (ap (λ (f : PassView). f.shared.size.records) kept)
              (first_below _ q.shared.size.records q.log (entry_of q) (first_record q.reads) is.stood refl);
        }

  pub clock_ended : (block : Block) (outcome : Outcome) (answer : Option BlockDone) → EndsBlock block outcome q r answer → (most : ℕ) → clock ≤ most → r'.clock ≤ most
  clock_ended block outcome answer ends most within = omega (arith, is, within) where
    by_told : (told : Result Committed CommitFault) → calls.Commits (StandsForSome stands) q r told → r.clock ≡ q.clock
    by_told (Ok told) commits = ap (λ (x : PassView). x.clock) (done_of commits.ends).after
    by_told (Err fault) commits = ap (λ (x : PassView). x.clock) (refused_of commits.ends)

    is : r'.clock ≡ clock
    is = ap (λ (x : PassView). x.clock) same ∙ by_told ends.told ends.commits ∙ ap (λ (f : PassView). f.clock) kept

  -- a seat that is alone is refused only where it has no place
  pub granted_ended : (block : Block) (outcome : Outcome) (answer : Option BlockDone) → EndsBlock block outcome q r answer → IsAlone q → (IsFull q → ⊥) → IsSome answer
  granted_ended block outcome answer ends alone roomy = subst (λ (a : Option BlockDone). IsSome a) (sym ends.answers) (by_told ends.told ends.commits) where
    by_told : (told : Result Committed CommitFault) → calls.Commits (StandsForSome stands) q r told → IsSome (done_at block outcome (first_record q.reads) told)
    by_told (Ok told) commits = refl
    by_told (Err fault) commits = absurd (roomy ((only_full alone commits.ends).full alone))

  pub ready_ended : (block : Block) (outcome : Outcome) (answer : Option BlockDone) → EndsBlock block outcome q r answer → (b : PassView) → (IsReady p → Opened p b q) → IfSome answer (λ _. IsReady p → IsReadyOnceCollected r')
  ready_ended block outcome answer ends b opened = subst (λ (x : PassView). IfSome answer (λ _. IsReady p → IsReadyOnceCollected x)) (sym same) (subst (λ (a : Option BlockDone). IfSome a (λ _. IsReady p → IsReadyOnceCollected r)) (sym ends.answers) (by_told ends.told ends.commits)) where
    by_told : (told : Result Committed CommitFault) → calls.Commits (StandsForSome stands) q r told → IfSome (done_at block outcome (first_record q.reads) told) (λ _. IsReady p → IsReadyOnceCollected r)
    by_told (Err fault) commits = tt
    by_told (Ok told) commits = λ ready.
        let o = opened ready in
        let is = done_of commits.ends in
        ready_committed p b q r r r.bounds o ready.alone is.after (commits.absent o.absent) (is.roomy (roomy_once q o.roomy)) refl
