use Rattle.std.proofs.Common.{◌≡◌, ◌<◌, ◌≤◌, ◌+◌, ◌-◌, ◌*◌, ℕ, [], ◌∷◌, List, length, ap, ◌∙◌, sym, subst, arith, eqb-true}
use Rattle.std.proofs.lemmas.List.{nil_from_length}
use Rattle.core_rule.specs.Offers.{made_within}
use Rattle.txn_engine.specs.Joining.{AreOfEngine, AreOthers, refusals_of, joined, come_together}
use Rattle.txn_engine.specs.Pass.{PassView, EngineView, engine_of, with_snapshot}
use Rattle.txn_engine.specs.Retired.{RetiredView}
use Rattle.txn_engine.proofs.Joined.{without_snapshot, count_others, earlier_more, earlier_most, first_out, none_back, rests_joined, together_more, alone_together}
use Rattle.txn_engine.proofs.engine.Engine.alone.Goals as goal

pub overflow_add-earlier : goal.overflow_add-earlier
overflow_add-earlier g c =
    let i = c.loop-pass.invariant in
    let few = count_others c.args.self.now.size c.args.others.items c.seats.ensures.in_range c.requires.each_once in
    let k = length c.args.others.items - length c.loop-pass.remaining.items in
    let most = earlier_most k c.loop-pass.earlier c.loop-pass.pass.clock 63 i.earlier (omega arith) in
    let own = i.in_range in
    let result = c.take_over-earlier.ensures.few in
    let joined = ap (λ (p : PassView). p.clock) c.take_over-earlier.ensures.joined in
    let clock = c.take_over-earlier.ensures.in_range in
    omega arith

pub loop-pass-preserved : goal.loop-pass-preserved
loop-pass-preserved g c =
    let i = c.loop-pass.invariant in
    let p = c.loop-pass.pass in
    let q = c.take_over-earlier.new.self in
    let r = c.remove.result in
    let rest = c.loop-pass.remaining.items in
    let rs = c.remove.new.self.items in
    let e = c.take_over-earlier.ensures in
    let left = c.remove.ensures.len in
    let ok = c.loop-pass.remaining.ok in
    let some : 0 < length rest = omega arith in
    let first : rest ≡ r ∷ rs = first_out rest rs r c.remove.ensures.items c.remove.ensures.value some in
    let shorter = ap length first in
    let none = ap (λ (x : PassView). x.given) i.rests in
    let joined_is : q ≡ with_snapshot (joined p r) q.snapshot = e.joined ∙ ap (λ (x : PassView). with_snapshot (joined x r) q.snapshot) (none_back p i.rests) in
    let sum = i.sum in
    let more : refusals_of rest ≡ r.refusals + refusals_of rs = ap refusals_of first in
    let refusals = e.refusals in
    let k = length c.args.others.items - length rest in
    let fewer = i.fewer in
    let one : k + 1 ≡ length c.args.others.items - length rs = omega arith in
    let clock = ap (λ (x : PassView). x.clock) e.joined in
    record {
      together = together_more p q r rest rs _ none joined_is first i.together;
      rests = rests_joined p q r i.rests joined_is;
      engine = ap engine_of e.joined ∙ i.engine;
      of_engine = (subst (λ (xs : List RetiredView). AreOfEngine c.args.self.now xs) first i.of_engine).1;
      sum = omega arith;
      fewer = omega arith;
      earlier = subst (λ (n : ℕ). c.loop-pass.earlier + c.take_over-earlier.result ≤ n * q.clock) one (subst (λ (n : ℕ). c.loop-pass.earlier + c.take_over-earlier.result ≤ (k + 1) * n) (sym clock) (earlier_more k c.loop-pass.earlier p.clock r.clock c.take_over-earlier.result i.earlier e.few));
      in_range = e.in_range;
    }

pub returns-clause-alone : goal.returns-clause-alone
returns-clause-alone g c =
    let i = c.loop-pass.invariant in
    let first = c.clear_all.new.self in
    let others = c.args.others.items in
    let none : c.loop-pass.remaining.items ≡ [] = nil_from_length c.loop-pass.remaining.items (let e = eqb-true _ 0 (sym c.is_empty.ensures ∙ c.loop-pass-test.false) in let ok = c.loop-pass.remaining.ok in omega arith) in
    let all = subst (λ (xs : List RetiredView). without_snapshot (come_together c.loop-pass.pass xs) ≡ without_snapshot (come_together first others)) none i.together in
    let inside = subst (λ (p : PassView). made_within p.shared.size.seats p.others.splitting ≤ p.shared.size.seats) c.pass.view_is c.tell_made.ensures in
    alone_together first c.loop-pass.pass others all (ap (λ (p : PassView). p.seat) c.clear_all.ensures ∙ c.requires.first)
    (subst (λ (e : EngineView). AreOthers e.size others) (sym (sym (ap engine_of all) ∙ i.engine)) c.requires.each_once) inside

pub invariant_of-result : goal.invariant_of-result
invariant_of-result g c =
    let i = c.loop-pass.invariant in
    let first = c.clear_all.new.self in
    let others = c.args.others.items in
    let none : c.loop-pass.remaining.items ≡ [] = nil_from_length c.loop-pass.remaining.items (let e = eqb-true _ 0 (sym c.is_empty.ensures ∙ c.loop-pass-test.false) in let ok = c.loop-pass.remaining.ok in omega arith) in
    let all = subst (λ (xs : List RetiredView). without_snapshot (come_together c.loop-pass.pass xs) ≡ without_snapshot (come_together first others)) none i.together in
    let inside = subst (λ (p : PassView). made_within p.shared.size.seats p.others.splitting ≤ p.shared.size.seats) c.pass.view_is c.tell_made.ensures in
    let zero_is = ap (λ (p : PassView). p.seat) c.clear_all.ensures ∙ c.requires.first in
    let few = count_others c.args.self.now.size others c.seats.ensures.in_range c.requires.each_once in
    record {
      alone = alone_together first c.loop-pass.pass others all zero_is (subst (λ (e : EngineView). AreOthers e.size others) (sym (sym (ap engine_of all) ∙ i.engine)) c.requires.each_once) inside;
      first = ap (λ (p : PassView). p.seat) all ∙ zero_is;
      counts = earlier_most (length others - length c.loop-pass.remaining.items) c.loop-pass.earlier c.loop-pass.pass.clock 63 i.earlier (omega arith);
      unshared = tt;
    }
