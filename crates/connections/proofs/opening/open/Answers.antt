use Rattle.std.proofs.Common.{rules, ◌≡◌, ℕ, List, ◌∷◌, map, Result, Ok, Err, ap, subst, ◌∙◌}
use Rattle.std.specs.Prelude.{IfOk}
use Rattle.std.specs.Arc.{arc_value}
use Rattle.txn_engine.specs.Pass.{EngineView, PassView, bare, first_pass}
use Rattle.txn_engine.specs.Sharing.{HaveSeen, shares}
use Rattle.connections.specs.declared.fault.CallFault.{CallFault}
use Rattle.connections.specs.Connection.{ConnectionView}
use Rattle.connections.specs.Opening.{AreConnected, IsOpened, size_for}
use Rattle.connections.proofs.opening.open.Goals as goal

-- the passes of the first seat are those of an engine that is opened
opened_of : {V : Type 0} (result : Result V CallFault) (items : V → List ConnectionView) (e e' : EngineView) (a : PassView) (passes : List PassView) (seats rows spare : ℕ) → e' ≡ e → e.size ≡ size_for seats rows spare → e.fixed ≡ 4112
    → a ≡ first_pass e → map bare passes ≡ shares a → ((first : PassView) (rest : List PassView) → passes ≡ first ∷ rest → HaveSeen a first rest) → IfOk result (λ v. AreConnected e' passes (items v))
    → IfOk result (λ v. IsOpened seats rows spare (items v))
opened_of (Ok v) items e e' a passes seats rows spare same size fixed first shared seen connected = record {
  engine = e;
  size = size;
  fixed = fixed;
  passes = passes;
  shared = shared ∙ ap shares first;
  seen = λ p rest is. subst (λ (x : PassView). HaveSeen x p rest) first (seen p rest is);
  connected = subst (λ (x : EngineView). AreConnected x passes (items v)) same connected;
}
opened_of (Err f) items e e' a passes seats rows spare same size fixed first shared seen connected = tt

pub returns-clause-opened : goal.returns-clause-opened
returns-clause-opened c =
    let s = c.in_ok-engine.ensures in
    let p = c.share-passes.ensures in
    let same : arc_value c.in-Ok.engine ≡ c.in_ok-engine.engine = search rules in
    opened_of c.connect.result (λ v. v.items) c.in_ok-engine.engine (arc_value c.in-Ok.engine) c.in_ok-engine.alone.pass c.share-passes.result.items c.args.seats c.args.rows c.args.spare same s.size s.fixed s.first p.passes p.observed c.connect.ensures.connections
