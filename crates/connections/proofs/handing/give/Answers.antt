use Rattle.std.proofs.Common.{rules, ℕ, subst, ◌∙◌, true}
use Rattle.number_queue.specs.Passes.{Offers}
use Rattle.connections.proofs.Giving.{all_given, none_given, one_given, one_refused}
use Rattle.connections.proofs.handing.give.Goals as goal

pub loop-pass-preserved : goal.loop-pass-preserved
loop-pass-preserved c = one_given c.args.keep c.args.pass.now c.loop-pass.pass c.part_with.new.self c.args.numbers.now c.loop-pass.numbers c.offer.new.self c.in-Some.rid c.loop-pass.invariant
    (search rules) c.in-Some.ensures.parts c.in-Some.ensures.after (subst (λ (since : ℕ). Offers (record { rid = c.in-Some.rid; since = since }) c.loop-pass.numbers c.offer.new.self true) (c.number-since.ensures.value ∙ c.last.ensures) c.if-not-offer.ensures.offers)
