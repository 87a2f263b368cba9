-- What belongs together where blocks were run and all was written.
use Rattle.std.proofs.Common.{ℕ, List, Option, None, Some, refl, subst}
use Rattle.std.specs.Prelude.{IfSome}
use Rattle.replay_model.specs.declared.input.Input.{Input}
use Rattle.replay_model.specs.declared.outcome.Placed.{Placed}
use Rattle.replay_model.specs.TableMap.{TableMap}
use Rattle.txn_engine.specs.Alone.{AloneView}
use Rattle.cicada_top.specs.declared.finish.Finish.{Finish}
use Rattle.cicada_top.specs.declared.finish.Status.{Status}
use Rattle.cicada_top.specs.declared.finish.Status.TheVariants.{Done}
use Rattle.program_io.specs.declared.mode.Mode.{Mode}
use Rattle.program_io.specs.declared.mode.Mode.TheVariants.{Run, Generate, Check}
use Rattle.program_io.specs.Received.{ReceivesFor}
use Rattle.cicada_top.specs.Due.{IsAnswer}
use Rattle.cicada_top.specs.Delivery.{IsWhole, WritesAs}
use Rattle.cicada_top.specs.Ending.{RunsBlocks, IsInputFor}
use Rattle.cicada_top.specs.Reported.{Accompanies}
use Rattle.cicada_top.specs.Runs.{BelongsTogether, Streams}

input_answered : (mode : Mode) (bytes : List ℕ) (order : List Placed) (due : List ℕ) → RunsBlocks mode → IsAnswer mode bytes order due → (input : Input) × IsInputFor mode bytes input
input_answered Run bytes order due runs is = (is.input, (is.short, is.accepted))
input_answered (Generate seed) bytes order due runs is = (is.input, is.accepted)
input_answered Check bytes order due runs is = absurd runs

module _ (mode : Mode) (finish : Finish) (before after : Streams) (due : ℕ) (seen : List (ℕ × TableMap)) (bytes : List ℕ) (got : ReceivesFor mode before.left after.left bytes)
    (writes : WritesAs finish.status mode bytes finish.order.items finish.fault before.taken after.taken) where
  of_end : (end : Option AloneView) → Accompanies finish.status mode bytes finish.order.items end finish.tables finish.verdict due seen → IfSome end (λ e. BelongsTogether mode finish e.pass before after seen)
  of_end None beside = tt
  of_end (Some end) beside =
      let done = beside.there.0 refl in
      let whole : IsWhole Done mode bytes finish.order.items finish.fault before.taken after.taken = subst (λ (s : Status). WritesAs s mode bytes finish.order.items finish.fault before.taken after.taken) done.0 writes in
      let of = input_answered mode bytes finish.order.items whole.due done.1 whole.is_due.0 in
      record {
        bytes = bytes;
        received = got;
        due = whole.due;
        answers = whole.is_due.0;
        written = whole.written;
        input = of.0;
        is_input = of.1;
        well_formed = (beside.declared of.0 of.1).0;
        declared = (beside.declared of.0 of.1).1;
        history = beside.history of.0 of.1;
        seen_in = beside.seen_in of.0 of.1;
        snapshots = beside.snapshots of.0 of.1;
      }

  pub belong : Accompanies finish.status mode bytes finish.order.items finish.end finish.tables finish.verdict due seen → IfSome finish.end (λ e. BelongsTogether mode finish e.pass before after seen)
  belong beside = of_end finish.end beside
