use Rattle.std.proofs.Common.{◌≡◌, ℕ, ◌<◌, refl, sym, subst, arith}
use Rattle.clock_stamps.specs.Clocks.{drawn_clock}
use Rattle.txn_engine.specs.Inside.{pass_view}
use Rattle.txn_engine.specs.Pass.{PassView, next_clock}
use Rattle.txn_engine.specs.Promoting.{Promotes, boost_after}
use Rattle.txn_engine.proofs.PromoteMore.{pass_promoted, on_ok_of, roomy_after, absent_after}
use Rattle.seat_post.proofs.Bounds.{above_drawn, drawn_later, less_is_most, seat_below}
use Rattle.txn_engine.proofs.pass.Pass.promote.Goals as goal

pub invariant_of-self : goal.invariant_of-self
invariant_of-self g c =
    let i = c.self.inside in
    let seat = seat_below c.number.ensures.size (subst (λ (n : ℕ). n < i.post.shared.size.seats) c.number.ensures.value c.number.ensures.within) in
    let later = less_is_most _ _ (drawn_later i.post.clock c.saturating_add.result) in
    pass_promoted g.J.Keeps.kept i.post c.promote-told.new.self _ c.args.rid c.promote-told.result i.queue i.numbers _ _ c.self.invariant later seat c.promote-told.ensures.ok c.promote-told.ensures.err

pub returns : goal.returns
returns g c =
    let i = c.self.inside in
    let e = c.promote-told.ensures in
    let r = c.promote-told.new.self in
    let told = c.promote-told.result in
    let clock = drawn_clock i.post.clock c.saturating_add.result in
    let view : PassView = pass_view i.post i.boost i.queue i.numbers i.refusals i.commits i.dead i.counted in
    let s = c.saturating_add.ensures in
    let same : clock ≡ next_clock view c.args.reading = omega arith in
    let within = subst (λ (p : PassView). c.args.rid < p.shared.size.records) (sym c.self.view_is) c.requires.rid in
    let above = above_drawn i.post.log i.post.clock c.saturating_add.result i.post.seat c.self.invariant.clock.commits in
    let promotes : Promotes g.J.Keeps.kept c.args.rid clock view (pass_view r (boost_after told i.boost) i.queue i.numbers i.refusals i.commits i.dead i.counted) told = record {
      ok = e.ok;
      err = e.err;
      met = e.met;
      clock_out = e.clock_out;
      beside = refl;
      above = on_ok_of told above;
      roomy = roomy_after g.J.Keeps.kept i.post r clock c.args.rid told within e.ok e.err;
      absent = absent_after g.J.Keeps.kept i.post r clock c.args.rid i.boost (boost_after told i.boost) told i.queue i.numbers i.refusals i.commits i.dead i.counted above e.ok e.err;
    } in
    record { promotes = rw (c.next_boost-self-inside.ensures, ← c.self.view_is, ← same) promotes }
