use Rattle.std.proofs.Common.{◌≡◌, ◌-◌, eqb, position, ◌∙◌, ap, sym, subst, map, arith}
use Rattle.std.specs.List.{list_any}
use Rattle.std.proofs.lemmas.List.{take_all}
use Rattle.core_rule.specs.Views.{Among}
use Rattle.validate_core.specs.Noted.{noted, few}
use Rattle.validate_core.proofs.Chaining.{IsWalked, walk_goes_on}
use Rattle.validate_core.proofs.Noting.{of_at, found_behind, none_at_all, none_walked, numbered_at, walked_at, length_noted, length_behind, if_none}
use Rattle.validate_core.proofs.noted.Noted.position.Goals as goal

pub returns-then-rid-clause-found : goal.returns-then-rid-clause-found
returns-then-rid-clause-found g c =
    let number = g.V.OfRecord.number in let n = c.args.self.now in let x = c.index.result.now in
    of_at number c.args.rid (c.loop-at.at - 1) (noted n) x (walked_at number n c.args.rid c.loop-at.at x c.requires c.loop-at.invariant c.loop-at-test.true c.index.ensures) (sym c.rid.ensures ∙ c.if-rid.true)

pub loop-at-preserved : goal.loop-at-preserved
loop-at-preserved g c =
    let number = g.V.OfRecord.number in let n = c.args.self.now in let x = c.index.result.now in
    let here = walked_at number n c.args.rid c.loop-at.at x c.requires c.loop-at.invariant c.loop-at-test.true c.index.ensures in
    walk_goes_on (map number (noted n)) n.newest n.older c.args.rid c.loop-at.at c.requires.chained c.loop-at.invariant c.loop-at-test.true
    (λ same. c.if-rid.false (c.rid.ensures ∙ sym (numbered_at number (c.loop-at.at - 1) (noted n) x here) ∙ same))

pub returns-then-self-le-FEW-clause-none : goal.returns-then-self-le-FEW-clause-none
returns-then-self-le-FEW-clause-none g c =
    let number = g.V.OfRecord.number in let n = c.args.self.now in let above = c.if-self-le-FEW.true in let long = length_noted n c.requires.within in
    let end : c.loop-at.at ≡ 0 = omega arith in
    λ x among. none_walked number n c.args.rid (subst (IsWalked (map number (noted n)) c.args.rid) end c.loop-at.invariant) x (subst (Among x) (sym (take_all few (noted n) (omega arith))) among)

pub returns-in_err-i-clause-none : goal.returns-in_err-i-clause-none
returns-in_err-i-clause-none g c =
    let number = g.V.OfRecord.number in let n = c.args.self.now in
    let end : c.loop-at.at ≡ 0 = omega arith in
    if_none c.from_residual.result _ (none_at_all number c.args.rid (noted n)
    (none_walked number n c.args.rid (subst (IsWalked (map number (noted n)) c.args.rid) end c.loop-at.invariant))
    (ap (list_any (eqb c.args.rid)) (sym c.requires.behind) ∙ sym c.in_err-i.ensures.found))

pub overflow_add-result : goal.overflow_add-result
overflow_add-result g c =
    let long = length_behind g.V.OfRecord.number c.args.self.now c.requires in let within = c.in_ok-i.ensures.within in
    omega arith

pub returns-clause-found : goal.returns-clause-found
returns-clause-found g c =
    let n = c.args.self.now in
    found_behind g.V.OfRecord.number c.args.rid c.in_ok-i.i (noted n) (ap (position (eqb c.args.rid)) (sym c.requires.behind) ∙ sym c.in_ok-i.ensures.index)
