use Rattle.std.proofs.Common.{sym, ap, subst, refl}
use Rattle.number_queue.specs.Passes.{NumberPassView}
use Rattle.txn_engine.specs.Pass.{PassView}
use Rattle.connections.specs.Calls.{has_transaction}
use Rattle.connections.specs.Handing.{ThenGives}
use Rattle.connections.specs.Transactions.{GivesUp}
use Rattle.connections.specs.declared.opened.Opened.{Opened}
use Rattle.connections.specs.declared.opened.Opened.TheVariants as opened
use Rattle.connections.proofs.Testing.{hands_at}
use Rattle.connections.proofs.connection.Connection.abort.Goals as goal

abbrev gives_up : Opened → (p q : PassView) → (v w : NumberPassView) → Type 0
gives_up o = ThenGives (GivesUp o)

pub returns-in-Some : goal.returns-in-Some
returns-in-Some c = hands_at has_transaction (Unit {0}) gives_up c.self.inside.opened opened.Nothing _ c.self.inside.numbers c.give.new.numbers _ _ c.in-Some.pass c.give.new.pass _ _ c.self.view_is c.in-Some.is (ap has_transaction c.in-Transaction.is) tt tt
    (subst (λ (o : Opened). gives_up o c.in-Some.pass c.give.new.pass c.self.inside.numbers c.give.new.numbers) (sym c.in-Transaction.is) (record { ran = c.abort_at.new.pass; does = c.abort_at.ensures.aborts; gives = c.give.ensures.gives }))

pub returns-in-Some-pass : goal.returns-in-Some-pass
returns-in-Some-pass c = hands_at has_transaction (Unit {0}) gives_up c.self.inside.opened opened.Nothing _ c.self.inside.numbers c.give-in-Spoiled.new.numbers _ _ c.in-Some-pass.pass c.give-in-Spoiled.new.pass _ _ c.self.view_is c.in-Some-pass.is (ap has_transaction c.in-Spoiled.is) tt tt
    (subst (λ (o : Opened). gives_up o c.in-Some-pass.pass c.give-in-Spoiled.new.pass c.self.inside.numbers c.give-in-Spoiled.new.numbers) (sym c.in-Spoiled.is) (record { ran = c.in-Some-pass.pass; does = refl; gives = c.give-in-Spoiled.ensures.gives }))
