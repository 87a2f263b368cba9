use Rattle.std.proofs.Common.{Option, Some, sym, subst, ◌∙◌}
use Rattle.std.specs.Prelude.{OnOk}
use Rattle.lane_futures.specs.Lanes.{LanesView, BothThere, Leads}
use Rattle.lane_futures.proofs.Polled.{come_there, on_ok}
use Rattle.lane_futures.proofs.lanes.Lanes.turn.Goals as goal

pub returns-clause-same : goal.returns-clause-same
returns-clause-same g c =
    let leads = subst (λ (lanes : Option LanesView). OnOk c.turn.result (BothThere Leads lanes (Some c.turn.new.self))) (sym c.in-Some.is ∙ c.self.view_is) c.turn.ensures.leads in
    on_ok c.turn.result _ _ (come_there c.args.self.now (Some c.turn.new.self)) leads
