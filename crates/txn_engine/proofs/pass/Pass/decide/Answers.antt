use Rattle.std.proofs.Common.{rules, ◌≡◌, ap, ◌∙◌, sym, subst, arith}
use Rattle.seat_post.specs.Post.{PostView}
use Rattle.txn_engine.specs.Pass.{PassView}
use Rattle.txn_engine.specs.Staged.{IsHaltedBy}
use Rattle.txn_engine.proofs.Passes.{pass_closed, pass_decided}
use Rattle.txn_engine.proofs.pass.Pass.decide.Goals as goal

pub invariant_of-self : goal.invariant_of-self
invariant_of-self g c =
    let i = c.self.inside in
    let phase = ap (λ (p : PassView). p.phase) c.self.view_is ∙ c.requires.phase in
    rw c.in-Ok.ensures.ok (pass_decided i.post i.queue i.numbers _ _ c.self.invariant (λ off. cc))

pub invariant_of-self-in-Err : goal.invariant_of-self-in-Err
invariant_of-self-in-Err g c =
    let i = c.self.inside in
    let phase = ap (λ (p : PassView). p.phase) c.self.view_is ∙ c.requires.phase in
    rw (c.self.invariant.transaction.alive phase, c.in-Err.ensures.err) (pass_closed i.post i.queue i.numbers _ _ _ c.self.invariant (λ off. cc) (omega arith))

pub let_go-requires-clause-room : goal.let_go-requires-clause-room
let_go-requires-clause-room g c =
    let phase = ap (λ (p : PassView). p.phase) c.self.view_is ∙ c.requires.phase in
    let h = c.self.invariant.clock.in_flight (λ off. cc) in
    let clock = ap (λ (p : PostView). p.clock) c.in-Err.ensures.err in
    omega arith

pub returns-in-Err-clause-err : goal.returns-in-Err-clause-err
returns-in-Err-clause-err g c =
    let d = c.in-Err.ensures in
    let p = c.args.self.now in
    let after' = c.decide.new.self.observed in
    let same : c.decide.new.self ≡ c.let_go.new.self.post = sym (ap (λ (q : PassView). q.post) c.let_go.ensures) in
    record {
      after = search rules;
      halts = subst (λ (r : PostView). IsHaltedBy p c.in-Err.conflict p.observed.loads r.observed.loads) same (subst (λ (p : PassView). IsHaltedBy p c.in-Err.conflict p.observed.loads after'.loads) c.self.view_is d.halts);
      lost = ap (λ (r : PostView). r.observed.lost) (sym same) ∙ d.lost ∙ ap (λ (p : PassView). p.observed.lost) c.self.view_is;
      meets = record { shown = search rules; touched = search rules; loaded = search rules };
    }
