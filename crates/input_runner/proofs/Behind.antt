-- A snapshot behind a whole run.
use Rattle.std.proofs.Common.{◌≡◌, ℕ, true, List, [], ◌∷◌, ◌++◌, Option, append_assoc, sym, ap, subst, ◌∙◌, ⊎_elim}
use Rattle.plain_data.specs.declared.entry.Entry.{Entry}
use Rattle.plain_data.specs.State.{IsEntry, overlay}
use Rattle.core_rule.specs.Views.{Among}
use Rattle.core_rule.proofs.Among.{Among-either}
use Rattle.replay_model.specs.declared.input.Block.{Block}
use Rattle.replay_model.specs.declared.input.Input.{Input}
use Rattle.replay_model.specs.declared.outcome.Outcome.{Outcome}
use Rattle.replay_model.specs.declared.outcome.Placed.{Placed}
use Rattle.lane_runner.specs.Lanes.{AreEntries}
use Rattle.lane_runner.specs.Lanes.AreEntries.{none, result, other}
use Rattle.lane_runner.specs.Rows.{stands}
use Rattle.lane_runner.specs.Weighs.{LeavesTables}
use Rattle.lane_runner.specs.Behind.{ComesBehind}
use Rattle.lane_threads.specs.Whole.{RunsWhole}

-- it leaves the tables as they were
pub snapshot_leaves : (records : ℕ) (entry : Entry) → IsEntry records entry → entry.snapshot ≡ true → LeavesTables records entry
snapshot_leaves records entry is snapshot = record {
  keeps = λ state tables is_state holds agrees. subst (λ (writes : List (ℕ × Option (List ℕ))). stands (overlay writes state) tables) (sym (is.snapshot snapshot)) holds;
  weighs = λ commit. absurd (let both : entry.snapshot ≡ true = snapshot in cc);
}

behind_more : (records : ℕ) (entries : List Entry) (blocks : List Block) (results : List (Placed × Outcome)) (entry : Entry) → AreEntries records entries blocks results → LeavesTables records entry
    → AreEntries records (entries ++ entry ∷ []) blocks results
behind_more records entries blocks results entry none leaves = other entry [] [] [] leaves none
behind_more records entries blocks results entry (result e es b bs r rs is rest) leaves = result e (es ++ entry ∷ []) b bs r rs is (behind_more records es bs rs entry rest leaves)
behind_more records entries blocks results entry (other e es bs rs keeps rest) leaves = other e (es ++ entry ∷ []) bs rs keeps (behind_more records es bs rs entry rest leaves)

pub whole_more : (records start : ℕ) (log : List Entry) (input : Input) (results : List (Placed × Outcome)) (entry : Entry) → RunsWhole records start log input results → LeavesTables records entry → ComesBehind start entry
    → RunsWhole records start (log ++ entry ∷ []) input results
whole_more records start log input results entry run leaves behind = record {
  loading = run.loading;
  loads = run.loads;
  up_to = run.up_to;
  entries = run.entries ++ entry ∷ [];
  log_is = ap (λ (l : List Entry). l ++ entry ∷ []) run.log_is ∙ append_assoc run.loading run.entries (entry ∷ []);
  behind = λ e at. ⊎_elim (λ (here : Among e run.entries). run.behind e here) (λ (same : entry ≡ e). subst (ComesBehind start) same behind) (Among-either e entry run.entries at);
  blocks = run.blocks;
  each_once = run.each_once;
  ordered = run.ordered;
  are_entries = behind_more records run.entries run.blocks run.ordered entry run.are_entries leaves;
  same = run.same;
  lanes_kept = run.lanes_kept;
}
