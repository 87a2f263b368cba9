use Rattle.std.proofs.Common.{◌≡◌, All, List, ◌∷◌, [], ◌++◌, sym, subst}
use Rattle.std.proofs.lemmas.List.Elements.{All-contains, All-take, Contains-push}
use Rattle.std.specs.Arc.{arc_value}
use Rattle.txn_engine.specs.Pass.{PassView, IsIdleOf}
use Rattle.connections.proofs.Connected.{connected_all, connected_more, connected_none, none_left}
use Rattle.connections.proofs.opening.connect.Goals as goal

pub connect_one-requires-clause-pass : goal.connect_one-requires-clause-pass
connect_one-requires-clause-pass c =
    let e = arc_value c.args.engine in
    let all : All (IsIdleOf e) (c.pop.new.self.items ++ c.in-Some.pass ∷ []) = subst (λ (ps : List PassView). All (IsIdleOf e) ps) c.in-Some.ensures.items c.loop-pass.invariant.passes in
    All-contains (IsIdleOf e) (c.pop.new.self.items ++ c.in-Some.pass ∷ []) c.in-Some.pass all (Contains-push c.pop.new.self.items c.in-Some.pass)

pub loop-pass-preserved : goal.loop-pass-preserved
loop-pass-preserved c = record {
  passes = subst (λ (ps : List PassView). All (IsIdleOf (arc_value c.args.engine)) ps) (sym c.pop.ensures.rest)
      (All-take (IsIdleOf (arc_value c.args.engine)) _ c.loop-pass.remaining.items c.loop-pass.invariant.passes);
  tables = c.requires.tables;
  connected = connected_more (arc_value c.args.engine) c.args.passes.items c.loop-pass.remaining.items c.pop.new.self.items c.in-Some.pass c.loop-pass.connections.items c.push.new.self.items _ c.loop-pass.invariant.connected c.in-Some.ensures.items (rw c.in-Ok-push.is at c.push.ensures.items) c.in_ok-connection.ensures.connected;
}

pub returns-clause-connections : goal.returns-clause-connections
returns-clause-connections c =
    let none : c.loop-pass.remaining.items ≡ [] = none_left c.loop-pass.remaining.items c.pop.new.self.items _ c.in_default-pop.ensures.items c.in_default-pop.ensures.rest c.in_default-pop.ensures.cases.0 in
    connected_all (arc_value c.args.engine) c.args.passes.items c.loop-pass.remaining.items c.loop-pass.connections.items c.reverse.new.self.items c.loop-pass.invariant.connected none c.reverse.ensures.items
