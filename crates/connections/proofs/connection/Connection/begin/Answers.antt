use Rattle.std.proofs.Common.{rules, ◌≡◌, ℕ, Ok, Err, max, inl, inr, sym, subst}
use Rattle.number_queue.specs.Passes.{reading_for}
use Rattle.connections.specs.Calls.{IsOfCall, is_at_rest}
use Rattle.connections.specs.Connection.{ConnectionView}
use Rattle.connections.specs.Transactions.{BeginsTxn}
use Rattle.connections.specs.declared.opened.Opened.TheVariants as opened
use Rattle.connections.proofs.Testing.{calls_at, calls_kept}
use Rattle.connections.proofs.connection.Connection.begin.Goals as goal

pub returns-in-Ok : goal.returns-in-Ok
returns-in-Ok c =
    let from : c.max-reading.result ≡ max c.args.reading (reading_for c.self.inside.numbers) = search rules in
    calls_at is_at_rest (Unit {0}) (λ (v : ConnectionView). BeginsTxn (max c.args.reading (reading_for v.numbers)) (Ok tt)) c.self.inside.opened opened.Transaction _ c.self.inside.numbers _ _ c.in-Some.pass c.begin_at.new.pass _ _ c.self.view_is c.in-Some.is (search rules) tt tt
    (subst (λ (reading : ℕ). BeginsTxn reading (Ok tt) c.in-Some.pass c.begin_at.new.pass) from c.in-Ok.ensures.begins)

pub returns-in-Err : goal.returns-in-Err
returns-in-Err c =
    let from : c.max-reading.result ≡ max c.args.reading (reading_for c.self.inside.numbers) = search rules in
    let of_call : IsOfCall c.in-Err.fault = elim c.in-Err.ensures.begins.fault [ inl is ↦ subst IsOfCall (sym is) tt | inr is ↦ subst IsOfCall (sym is.0) tt ] in
    calls_kept is_at_rest (Unit {0}) (λ (v : ConnectionView). BeginsTxn (max c.args.reading (reading_for v.numbers)) (Err c.in-Err.fault)) c.self.inside.opened opened.Nothing _ c.self.inside.numbers _ _ c.in-Some.pass c.begin_at.new.pass _ _ c.self.view_is c.in-Some.is (search rules) (search rules) tt of_call
    (subst (λ (reading : ℕ). BeginsTxn reading (Err c.in-Err.fault) c.in-Some.pass c.begin_at.new.pass) from c.in-Err.ensures.begins)
