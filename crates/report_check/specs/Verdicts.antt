-- What each verdict on a report says.
use Rattle.std.specs.Prelude.{◌≡◌, ◌≢◌, ℕ, zero, suc, ◌+◌, ◌<◌, IsTrue, List, All, AllPairs}
use Rattle.std.specs.List.{list_any}
use Rattle.replay_model.specs.declared.input.Input.{Input}
use Rattle.replay_model.specs.declared.outcome.Placed.{Placed}
use Rattle.replay_model.specs.Replay.{NamesBlock}
use Rattle.replay_model.specs.Order.{NamesOther, names, WriterBeforeWriter, SnapsArePlaced, KeepsLane, IsOrder}
use Rattle.replay_model.specs.Report as model
use Rattle.report_check.specs.declared.checking.Verdict.{Verdict}
use Rattle.report_check.specs.declared.checking.Verdict.TheVariants.{Yes, NoOrder, NoLine}
use Rattle.report_check.specs.Lines.{whole_lines, agreed}
use Rattle.report_check.specs.Printed.{printed}

-- the tests of an order, counted from 1; there are six
abbrev pub Test : Input → List Placed → ℕ → Type 0
Test input order (suc zero) = All (NamesBlock input.lanes) order
Test input order (suc (suc zero)) = AllPairs NamesOther order
Test input order (suc (suc (suc zero))) = All (λ blocks. All (λ block. IsTrue (list_any (names block) order)) blocks) input.lanes
Test input order (suc (suc (suc (suc zero)))) = AllPairs WriterBeforeWriter order
Test input order (suc (suc (suc (suc (suc zero))))) = AllPairs SnapsArePlaced order
Test input order (suc (suc (suc (suc (suc (suc zero)))))) = AllPairs KeepsLane order
Test input order n = Unit {0}

-- the test of this number fails, and those before it do not
pub record IsFirstFailed (input : Input) (order : List Placed) (test : ℕ) : Type 0 where
  pub fails : Test input order test → ⊥
  pub before : (earlier : ℕ) → earlier < test → Test input order earlier

-- the report of the input in the order that this report prints
abbrev pub due : Input → List ℕ → List ℕ
due input report = model.report input (printed input report)

-- the report prints an order, is another than the one due, and their whole lines agree up to this one
pub record IsApart (input : Input) (report : List ℕ) (line : ℕ) : Type 0 where
  pub order : IsOrder input (printed input report)
  pub differs : report ≢ due input report
  pub number : line ≡ agreed (whole_lines report) (whole_lines (due input report)) + 1

-- the verdict holds of this report
abbrev pub IsVerdict : Input → List ℕ → Verdict → Type 0
IsVerdict input report Yes = IsOrder input (printed input report) × (report ≡ due input report)
IsVerdict input report (NoOrder test) = IsFirstFailed input (printed input report) test
IsVerdict input report (NoLine line) = IsApart input report line
