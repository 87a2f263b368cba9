-- What is added to a pass, call behind call.
use Rattle.std.proofs.Common.{◌≡◌, ◌+◌, ◌≤◌, List, [], ◌∷◌, ◌++◌, append-nil, append_assoc, refl, sym, ap, subst, ◌∙◌, arith, ⊎_elim, inl, inr}
use Rattle.plain_data.specs.declared.entry.Entry.{Entry}
use Rattle.stamp_base.specs.Stamp.{bound_of_clock}
use Rattle.core_rule.specs.Views.{Among}
use Rattle.core_rule.proofs.Among.{Among-left, Among-right, Among-split}
use Rattle.seat_post.specs.Seats.{IsAloneAt}
use Rattle.txn_engine.specs.Pass.{EngineView, PassView, IsIdle, IsAlone, engine_of}
use Rattle.lane_runner.specs.Adds.{IsNext, IsLater, AreInOrder, Adds}

-- no entry is added
pub Adds-no_entry : (p q : PassView) → engine_of q ≡ engine_of p → q.seat ≡ p.seat → q.others ≡ p.others → IsIdle q → q.log ≡ p.log → p.clock ≤ q.clock → p.met ≤ q.met → p.refusals ≤ q.refusals → Adds p q []
Adds-no_entry p q engine seat others idle log clock met refusals = record {
  engine = engine;
  seat = seat;
  others = others;
  idle = idle;
  log = log ∙ sym (append-nil p.log);
  each = λ entry among. absurd among;
  in_order = tt;
  clock = clock;
  met = met;
  refusals = refusals;
}

-- nothing is added
pub Adds-none : (p : PassView) → IsIdle p → Adds p p []
Adds-none p idle = Adds-no_entry p p refl refl refl idle refl (omega arith) (omega arith) (omega arith)

-- one entry is added
pub Adds-one : (p q : PassView) (entry : Entry) → IsNext p entry → engine_of q ≡ engine_of p → q.seat ≡ p.seat → q.others ≡ p.others → IsIdle q → q.log ≡ p.log ++ entry ∷ [] → p.clock ≤ q.clock → p.met ≤ q.met → p.refusals ≤ q.refusals → Adds p q (entry ∷ [])
Adds-one p q entry next engine seat others idle log clock met refusals = record {
  engine = engine;
  seat = seat;
  others = others;
  idle = idle;
  log = log;
  each = λ e among. ⊎_elim (λ is. subst (λ (x : Entry). IsNext p x) is next) (λ none. absurd none) among;
  in_order = (λ second among. absurd among, tt);
  clock = clock;
  met = met;
  refusals = refusals;
}

-- a seat that is alone stays so
pub alone_as : (p q : PassView) → engine_of q ≡ engine_of p → q.seat ≡ p.seat → q.others ≡ p.others → IsAlone p → IsAlone q
alone_as p q engine seat others alone =
    let here : IsAloneAt p.shared.size q.seat q.others = rw (seat, others) alone in
    subst (λ (e : EngineView). IsAloneAt e.size q.seat q.others) (sym engine) here

pub alone_stays : (p q : PassView) (entries : List Entry) → Adds p q entries → IsAlone p → IsAlone q
alone_stays p q entries adds alone = alone_as p q adds.engine adds.seat adds.others alone

-- what comes next after other entries came next
next_before : (p q : PassView) (xs : List Entry) (entry : Entry) → Adds p q xs → IsNext q entry → IsNext p entry
next_before p q xs entry first next = record {
  commit_clock = λ commit.
      let later : bound_of_clock q.clock ≤ entry.stamp = next.commit_clock commit in
      let clock : p.clock ≤ q.clock = first.clock in
      omega arith;
  commit_log = λ commit e among kind. next.commit_log commit e (in_log e among) kind;
  snapshot_met = λ snapshot.
      let near : q.met ≤ entry.stamp + 1 = next.snapshot_met snapshot in
      let met : p.met ≤ q.met = first.met in
      omega arith;
  snapshot_log = λ snapshot e among kind. next.snapshot_log snapshot e (in_log e among) kind;
} where
  in_log : (e : Entry) → Among e p.log → Among e q.log
  in_log e among = subst (λ (log : List Entry). Among e log) (sym first.log) (Among-left e p.log xs among)

-- entries in order, behind which others come next
pub in_order_behind : (xs ys : List Entry) → AreInOrder xs → AreInOrder ys → ((x y : Entry) → Among x xs → Among y ys → IsLater x y) → AreInOrder (xs ++ ys)
in_order_behind [] ys first second across = second
in_order_behind (x ∷ xs) ys first second across = (λ y among. ⊎_elim (λ h. first.0 y h) (λ h. across x y (inl refl) h) (Among-split y xs ys among), in_order_behind xs ys first.1 second (λ a b here there. across a b (inr here) there))

pub Adds-trans : (p q r : PassView) (xs ys : List Entry) → Adds p q xs → Adds q r ys → Adds p r (xs ++ ys)
Adds-trans p q r xs ys first second = record {
  engine = second.engine ∙ first.engine;
  seat = second.seat ∙ first.seat;
  others = second.others ∙ first.others;
  idle = second.idle;
  log = second.log ∙ ap (λ (log : List Entry). log ++ ys) first.log ∙ append_assoc p.log xs ys;
  each = λ entry among. ⊎_elim (λ h. first.each entry h) (λ h. next_before p q xs entry first (second.each entry h)) (Among-split entry xs ys among);
  in_order = in_order_behind xs ys first.in_order second.in_order across;
  clock = omega (arith, first.clock, second.clock);
  met = omega (arith, first.met, second.met);
  refusals = omega (arith, first.refusals, second.refusals);
} where
  in_log : (e : Entry) → Among e xs → Among e q.log
  in_log e among = subst (λ (log : List Entry). Among e log) (sym first.log) (Among-right e p.log xs among)

  across : (x y : Entry) → Among x xs → Among y ys → IsLater x y
  across x y here there = record {
    commits = λ a b. (second.each y there).commit_log b x (in_log x here) a;
    snapshots = λ a b. (second.each y there).snapshot_log b x (in_log x here) a;
  }
