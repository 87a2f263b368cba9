-- How transactions and snapshots begin and end at a pass, told of the pass before and after.
use Rattle.std.proofs.Common.{◌≡◌, ℕ, ◌≤◌, nat_eq, Result, Ok, refl, sym, ap, subst, ◌∙◌, arith}
use Rattle.std.specs.List.{IsDistinct}
use Rattle.plain_data.specs.State.{Fits}
use Rattle.record_store.specs.Limits.{record_limit}
use Rattle.stamp_base.specs.Limits.{greatest_clock}
use Rattle.engine_answers.specs.declared.committed.Committed.{Committed}
use Rattle.engine_answers.specs.declared.faults.CommitFault.{CommitFault}
use Rattle.seat_post.specs.Leaves.{AreLeft}
use Rattle.seat_post.specs.Logs.{IsAbove}
use Rattle.stored_tables.specs.Kept.{KeepsTables}
use Rattle.txn_engine.specs.Commits.{Commits}
use Rattle.txn_engine.specs.Leaves.{HoldsAbsent}
use Rattle.txn_engine.specs.Pass.{EngineView, PassView, IsAlone, IsIdleOf, aborted, begun, entry_of, next_clock}
use Rattle.connections.specs.declared.fault.CallFault.{CallFault}
use Rattle.connections.specs.Connection.{IsOpenOf, StandsForRows}
use Rattle.connections.specs.Transactions.{AbortsTxn, BeginsTxn, CommitsTxn, answer_of_commit}
use Rattle.connections.proofs.Laws.{at_passes, fits_rows, leaves_none}

pub aborts_txn : (p p' q q' : PassView) → p' ≡ p → q' ≡ q → q ≡ aborted p' → (IsAlone p' → AreLeft p'.log p'.stamp p'.reads) → AbortsTxn p q'
aborts_txn p p' q q' here there after left = at_passes AbortsTxn p p' q q' here there (record { after = after; read_left = left })

pub commits_txn : (p p' q q' : PassView) (answer : Result ℕ CallFault) (told : Result Committed CommitFault) → p' ≡ p → q' ≡ q → answer ≡ answer_of_commit told → Commits StandsForRows p' q told → CommitsTxn answer p q'
commits_txn p p' q q' answer told here there answered commits = at_passes (CommitsTxn answer) p p' q q' here there (record { told = told; answered = answered; commits = commits })

pub begins_txn : (reading : ℕ) (p q q' : PassView) → q' ≡ q → q ≡ begun p (next_clock p reading) → IsAbove p.log q.stamp → IsDistinct nat_eq q.spare → (HoldsAbsent p → HoldsAbsent q) → next_clock p reading ≤ greatest_clock → BeginsTxn reading (Ok tt) p q'
begins_txn reading p q q' there ok above once absent within = at_passes (BeginsTxn reading (Ok tt)) p p q q' refl there (record { ok = ok; above = above; each_once = once; absent = absent; in_range = within; fault = tt; err = tt })

pub open_begun : (e : EngineView) (p q q' : PassView) (clock : ℕ) → q' ≡ q → q ≡ begun p clock → IsIdleOf e p → IsOpenOf e q'
open_begun e p q q' clock there ok idle = subst (IsOpenOf e) (sym (there ∙ ok)) (record { of = idle.0; open_there = refl; lawful = leaves_none (begun p clock) refl })

pub fits_open : (e : EngineView) (p p' : PassView) → p' ≡ p → IsOpenOf e p → KeepsTables StandsForRows → e.size.records ≤ record_limit → Fits StandsForRows p'.shared.size.records (entry_of p')
fits_open e p p' here opened keeps few =
    let records : p.shared.size.records ≡ e.size.records = ap (λ (x : EngineView). x.size.records) opened.of in
    subst (λ (x : PassView). Fits StandsForRows x.shared.size.records (entry_of x)) (sym here) (fits_rows p keeps (omega arith) opened.lawful)
