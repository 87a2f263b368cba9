use Rattle.std.proofs.Common.{ℕ, Result, sym, ap, ◌∙◌, subst}
use Rattle.engine_answers.specs.declared.faults.TxnFault.{TxnFault}
use Rattle.txn_engine.specs.Pass.{PassView}
use Rattle.txn_engine.specs.Txn.{Gives}
use Rattle.txn_engine.proofs.Answering.{told_same, told_on, stopped_gives, closed_gives}
use Rattle.txn_engine.proofs.at_pass.PassSeatCalls.fresh_if_open.Goals as goal

pub returns-in-Open-clause-gives : goal.returns-in-Open-clause-gives
returns-in-Open-clause-gives g c = subst (λ (r : Result ℕ TxnFault). Gives c.args.self.now c.fresh.new.self r) (sym (told_same c.fresh.result)) c.fresh.ensures.gives

pub returns-in_err-stopped-in_default-clause-gives : goal.returns-in_err-stopped-in_default-clause-gives
returns-in_err-stopped-in_default-clause-gives g c =
    let p = c.args.self.now in let q = c.stopped.new.self in let f = c.in_err-stopped-in_default.field-0.0 in
    told_on c.from_residual.result f (λ (r : Result ℕ TxnFault). Gives p q r) c.from_residual.ensures.1 (stopped_gives p q f c.in_err-stopped-in_default.ensures.err)

pub returns-in_ok-stopped-in_default-clause-gives : goal.returns-in_ok-stopped-in_default-clause-gives
returns-in_ok-stopped-in_default-clause-gives g c =
    let same = c.in_ok-stopped-in_default.ensures.ok in
    closed_gives c.args.self.now c.stopped.new.self same.1 (λ flying. c.in_default.not-Open (c.phase.ensures ∙ ap (λ (x : PassView). x.phase) c.self.view_is ∙ flying)) same.0
