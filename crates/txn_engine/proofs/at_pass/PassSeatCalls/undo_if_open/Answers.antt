use Rattle.std.proofs.Common.{rules, ◌≡◌, ◌++◌, refl, sym, ap, ◌∙◌, arith, []}
use Rattle.txn_engine.specs.Accounts.{accounted}
use Rattle.txn_engine.specs.Inside.{pass_view}
use Rattle.txn_engine.specs.Pass.{PassView}
use Rattle.seat_post.specs.Post.{PostView}
use Rattle.spare_numbers.specs.Spare.{NumbersView}
use Rattle.txn_engine.proofs.Passes.{pass_noted}
use Rattle.seat_post.proofs.Growing.{grows_none, grows_same}
use Rattle.txn_engine.proofs.at_pass.PassSeatCalls.undo_if_open.Goals as goal

pub invariant_of-self : goal.invariant_of-self
invariant_of-self g c =
    let i = c.self.inside in
    let phase = sym c.phase.ensures ∙ c.in-Open.is in
    rw (c.drop_writes.ensures, c.take_back.ensures.after) (pass_noted i.post i.post.reads [] i.queue i.numbers _ _ c.self.invariant phase (let h = c.self.invariant.room in omega arith))

pub returns-in-Open-clause-undoes : goal.returns-in-Open-clause-undoes
returns-in-Open-clause-undoes g c =
    let i = c.self.inside in
    let back = record i.numbers { spare = i.numbers.given ++ i.numbers.spare; given = [] } in
    let accounts : accounted (pass_view c.drop_writes.new.self i.boost i.queue c.take_back.new.self i.refusals i.commits i.dead i.counted) ≡ accounted c.args.self.now =
    ap (λ (n : NumbersView). accounted (pass_view c.drop_writes.new.self i.boost i.queue n i.refusals i.commits i.dead i.counted)) c.take_back.ensures.after
    ∙ ap (λ (q : PostView). accounted (pass_view q i.boost i.queue back i.refusals i.commits i.dead i.counted)) c.drop_writes.ensures ∙ ap accounted c.self.view_is in
    let looks = ap (λ (x : PostView). x.observed) c.drop_writes.ensures ∙ ap (λ (x : PassView). x.observed) c.self.view_is in
    record {
      meaning = search rules;
      spare = search rules;
      versions = search rules;
      noted = search rules;
      stays = record { same_frame = search rules; same_accounts = accounts; grows = grows_same c.args.self.now.observed c.drop_writes.new.self.observed looks };
      looks = looks;
      closed = λ off. absurd (off (sym (ap (λ (x : PassView). x.phase) c.self.view_is) ∙ sym c.phase.ensures ∙ c.in-Open.is));
    }

pub returns-in_default-clause-undoes : goal.returns-in_default-clause-undoes
returns-in_default-clause-undoes g c = record { meaning = search rules; spare = search rules; versions = refl; noted = refl; stays = record { same_frame = refl; same_accounts = refl; grows = grows_none c.args.self.now.observed }; looks = refl; closed = λ off. refl }
