use Rattle.std.proofs.Common.{◌≡◌, false, ap, ◌∙◌, sym, subst}
use Rattle.word_layout.specs.Size.{size_of}
use Rattle.core_rule.specs.View.{View}
use Rattle.spare_numbers.specs.Spare.{NumbersView}
use Rattle.txn_engine.specs.Alone.{AloneView, HasParts}
use Rattle.txn_engine.specs.Pass.{PassView, EngineView, engine_of, first_pass}
use Rattle.txn_engine.specs.Leaves.{HoldsAbsent}
use Rattle.txn_engine.specs.Lists.{IsTidy, IsRoomy}
use Rattle.txn_engine.proofs.Tidying.{tidy_first, roomy_first}
use Rattle.txn_engine.proofs.Accounting.{absent_first}
use Rattle.txn_engine.proofs.engine.Engine.start.Goals as goal

pub returns-clause-absent : goal.returns-clause-absent
returns-clause-absent g c =
    let first = absent_first (record { table = c.in_ok-core.hand.table; size = c.in_ok-core.hand.view.size; fixed = c.in_ok-part.part.fixed }) in
    subst (λ (a : AloneView). HoldsAbsent a.pass) (sym c.first-2.ensures) (subst (λ (p : PassView). HoldsAbsent p) (sym c.first-pass.ensures) first)

pub returns-clause-tidy : goal.returns-clause-tidy
returns-clause-tidy g c =
    let first = tidy_first (record { table = c.in_ok-core.hand.table; size = c.in_ok-core.hand.view.size; fixed = c.in_ok-part.part.fixed }) in
    subst (λ (a : AloneView). IsTidy a.pass) (sym c.first-2.ensures) (subst (λ (p : PassView). IsTidy p) (sym c.first-pass.ensures) first)

pub returns-clause-roomy : goal.returns-clause-roomy
returns-clause-roomy g c =
    let first = roomy_first (record { table = c.in_ok-core.hand.table; size = c.in_ok-core.hand.view.size; fixed = c.in_ok-part.part.fixed }) in
    subst (λ (a : AloneView). IsRoomy a.pass) (sym c.first-2.ensures) (subst (λ (p : PassView). IsRoomy p) (sym c.first-pass.ensures) first)

pub first-requires-2-clause-parts : goal.first-requires-2-clause-parts
first-requires-2-clause-parts g c =
    let size = ap (λ (v : View). v.size) c.in_ok-core.ensures.first ∙ c.in-Ok.ensures.exact in
    let fixed = ap (λ (q : NumbersView). q.fixed) c.in_ok-part.ensures in
    let same : engine_of c.first-pass.result ≡ record { table = c.in_ok-core.hand.table; size = size_of c.args.seats c.args.records c.args.spare; fixed = c.args.fixed } = (ap engine_of c.first-pass.ensures) ∙ (λ k. record { table = c.in_ok-core.hand.table; size = size k; fixed = fixed k }) in
    subst (λ (e : EngineView). HasParts e.size.seats e.fixed e.size.records c.in_ok-parts.parts) (sym same) c.in_ok-parts.ensures

pub returns-clause-alone : goal.returns-clause-alone
returns-clause-alone g c =
    let e = c.in_ok-core.ensures in
    let size = ap (λ (v : View). v.size) e.first ∙ sym e.size in
    let fixed = ap (λ (q : NumbersView). q.fixed) c.in_ok-part.ensures in
    let pass = c.first-pass.ensures ∙ (λ k. first_pass (record { table = e.ready.hand_of.same_table k; size = size k; fixed = fixed k })) in
    c.first-2.ensures ∙ ap (λ (p : PassView). record { pass = p; beside = record { shared = false; earlier = 0 } }) pass
