use Rattle.std.proofs.Common.{ap, ◌∙◌, sym, refl, inl}
use Rattle.std.specs.Prelude.{IsSome, is_some}
use Rattle.record_store.specs.Meaning.{value_at}
use Rattle.txn_engine.specs.Pass.{PassView}
use Rattle.txn_engine.proofs.pass.Pass.ask.Goals as goal

pub returns-then-is_written-clause-ok : goal.returns-then-is_written-clause-ok
returns-then-is_written-clause-ok g c =
    let some : IsSome (value_at c.args.self.now.writes c.args.rid) = ap (λ (x : PassView). is_some (value_at x.writes c.args.rid)) (sym c.self.view_is) ∙ sym c.is_written.ensures ∙ c.if-is_written.true in
    inl (refl, refl, some)
