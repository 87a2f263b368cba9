use Rattle.std.proofs.Common.{◌<◌, ◌≤◌, length, take, sym, ap, ◌∙◌, subst, arith}
use Rattle.core_rule.specs.View.{Write}
use Rattle.core_rule.specs.Views.{Among}
use Rattle.validate_core.specs.Sets.{SetsView, Once}
use Rattle.validate_core.specs.Installing.{FindsNoPlace}
use Rattle.validate_core.proofs.Writes.{same_length}
use Rattle.validate_core.proofs.Bounds.{none_full}
use Rattle.validate_core.proofs.Placing.{placing_starts, placing_record, placing_new, placing_once, placing_next, placing_all, placing_stands, none_stands, none_in_reserved, finds_no_place}
use Rattle.validate_core.proofs.installing.install.Goals as goal

pub loop-i-init : goal.loop-i-init
loop-i-init g c = placing_starts c.args.core.now c.args.hand.now c.args.sets.now c.requires.ready c.requires.begun

pub install_one-requires-clause-number : goal.install_one-requires-clause-number
install_one-requires-clause-number g c =
    let long = same_length c.args.sets.now.writes c.loop-i.sets.writes c.loop-i.invariant.same.writes in let lt = c.loop-i-test.true in let count = c.count_writes-i-end.ensures in omega arith

pub install_one-requires-clause-inside : goal.install_one-requires-clause-inside
install_one-requires-clause-inside g c = placing_record c.args.core.now c.args.hand.now c.args.sets.now c.loop-i.i c.loop-i.sets c.loop-i.hand c.loop-i.invariant c.requires.begun

pub install_one-requires-clause-only : goal.install_one-requires-clause-only
install_one-requires-clause-only g c = placing_new c.args.core.now c.args.hand.now c.args.sets.now c.loop-i.i c.loop-i.sets c.loop-i.hand c.loop-i.invariant c.requires.begun

pub store_first-requires-clause-inside : goal.store_first-requires-clause-inside
store_first-requires-clause-inside g c = λ u h. c.loop-i.invariant.inside u (subst (λ (s : SetsView). Among u (take c.loop-i.i s.writes)) c.in-Err.ensures.same h)

pub store_first-requires-clause-once : goal.store_first-requires-clause-once
store_first-requires-clause-once g c = subst (λ (s : SetsView). Once (λ (u : Write). u.record_number) s.writes) (sym c.in-Err.ensures.same) (placing_once c.args.core.now c.args.hand.now c.args.sets.now c.loop-i.i c.loop-i.sets c.loop-i.hand c.loop-i.invariant c.requires.begun)

pub returns-in-Err-clause-err : goal.returns-in-Err-clause-err
returns-in-Err-clause-err g c =
    let e = c.store_first.ensures in let f = c.in-Err.ensures.err in let same = c.in-Err.ensures.same in
    let w = c.store_first.new.hand.view in
    subst (λ (s : SetsView). FindsNoPlace c.args.core.now.size s c.args.hand.now.view w) (sym same)
    (finds_no_place c.args.core.now c.args.hand.now c.args.sets.now c.loop-i.i c.loop-i.sets c.loop-i.hand c.loop-i.invariant c.requires.begun c.install_one.new.hand f w e.works e.seen (e.linked ∙ ap (λ (s : SetsView). take c.loop-i.i s.writes) same) e.decided e.ends)

pub returns-in-Err-clause-full : goal.returns-in-Err-clause-full
returns-in-Err-clause-full g c =
    let count = c.count_writes-i-end.ensures in let test = c.loop-i-test.true in
    let lt : c.loop-i.i < length c.args.sets.now.writes = omega arith in
    none_full c.args.core.now c.args.hand.now c.args.sets.now c.loop-i.i c.loop-i.sets c.loop-i.hand c.loop-i.invariant c.requires.begun lt c.in-Err.ensures.full

pub loop-i-preserved : goal.loop-i-preserved
loop-i-preserved g c =
    let long = same_length c.args.sets.now.writes c.loop-i.sets.writes c.loop-i.invariant.same.writes in let lt = c.loop-i-test.true in let count = c.count_writes-i-end.ensures in
    let number : c.loop-i.i < length c.loop-i.sets.writes = omega arith in
    placing_next c.args.core.now c.args.hand.now c.args.sets.now c.loop-i.i c.loop-i.sets c.loop-i.hand c.loop-i.invariant c.requires.begun c.published_write-stamp.result c.install_one.new.sets c.install_one.new.hand c.published_write-stamp.ensures number c.in_default.ensures.ok c.install_one.ensures.in_reserved c.in_default.ensures.room c.in_default.ensures.stays

pub returns-clause-stands : goal.returns-clause-stands
returns-clause-stands g c = placing_stands c.args.core.now c.args.hand.now c.args.sets.now c.loop-i.i c.loop-i.sets c.loop-i.hand c.loop-i.invariant c.requires.begun

pub returns-in-Err-clause-stands : goal.returns-in-Err-clause-stands
returns-in-Err-clause-stands g c =
    none_stands c.args.core.now c.args.hand.now c.args.sets.now c.loop-i.i c.loop-i.sets c.loop-i.hand c.loop-i.invariant c.requires.begun c.install_one.new.hand c.in-Err.ensures.err c.store_first.new.hand.view c.store_first.ensures.works

pub returns-clause-ok : goal.returns-clause-ok
returns-clause-ok g c =
    let long = same_length c.args.sets.now.writes c.loop-i.sets.writes c.loop-i.invariant.same.writes in let count = c.count_writes-i-end.ensures in
    let over : length c.loop-i.sets.writes ≤ c.loop-i.i = omega arith in
    placing_all c.args.core.now c.args.hand.now c.args.sets.now c.loop-i.i c.loop-i.sets c.loop-i.hand c.loop-i.invariant c.requires.begun over

pub returns-in-Err-clause-in_reserved : goal.returns-in-Err-clause-in_reserved
returns-in-Err-clause-in_reserved g c =
    none_in_reserved c.args.core.now c.args.hand.now c.args.sets.now c.loop-i.i c.loop-i.sets c.loop-i.hand c.loop-i.invariant c.requires.begun c.install_one.new.hand c.in-Err.ensures.err c.store_first.new.hand.view c.store_first.ensures.works
