use Rattle.std.proofs.Common.{refl, subst}
use Rattle.seat_post.specs.Post.{PostView}
use Rattle.txn_engine.specs.Inside.{pass_view}
use Rattle.txn_engine.specs.Pass.{PassView}
use Rattle.txn_engine.specs.Settling.{SettlesPass}
use Rattle.txn_engine.proofs.Settlements.{pass_settled, tidy_settled, roomy_settled, on_ok, absent_settled}
use Rattle.txn_engine.proofs.pass.Pass.settle.Goals as goal

pub invariant_of-self : goal.invariant_of-self
invariant_of-self g c =
    let i = c.self.inside in
    pass_settled g.J.Keeps.kept i.post c.settle.new.self i.queue i.numbers _ _ c.self.invariant c.settle.ensures.settles

pub returns : goal.returns
returns g c =
    let i = c.self.inside in
    let s = c.settle.ensures in
    let view = λ (p : PostView). pass_view p i.boost i.queue i.numbers i.refusals i.commits i.dead i.counted in
    record {
      settles = subst (λ (x : PassView). SettlesPass g.J.Keeps.kept x (view c.settle.new.self) c.settle.result) c.self.view_is (record {
        settles = s.settles;
        beside = refl;
        tidy = on_ok c.settle.result (tidy_settled g.J.Keeps.kept i.post c.settle.new.self s.settles) s.settled;
        roomy = on_ok c.settle.result (roomy_settled g.J.Keeps.kept i.post c.settle.new.self s.settles) s.settled;
        absent = absent_settled g.J.Keeps.kept i.post c.settle.new.self i.boost i.queue i.numbers i.refusals i.commits i.dead i.counted s.settles;
        draws = s.draws;
        done = s.done;
        stops = s.stops;
      });
    }
