-- The log of a run behind a loading: the loading, and behind it what the passes of a share have added.
use Rattle.std.proofs.Common.{◌≡◌, ℕ, ◌+◌, ◌-◌, ◌<◌, ◌≤◌, false, List, [], ◌∷◌, ◌++◌, map, append_assoc, refl, sym, ap, subst, ◌∙◌, arith, ⊎_elim}
use Rattle.std.specs.List.{range_with_len, AllByRecursion}
use Rattle.plain_data.specs.declared.entry.Entry.{Entry}
use Rattle.stamp_base.specs.Stamp.{bound_of_clock}
use Rattle.core_rule.specs.Views.{Among}
use Rattle.core_rule.proofs.Among.{Among-split}
use Rattle.seat_post.specs.Logs.{IsAbove}
use Rattle.txn_engine.specs.Pass.{PassView, bare}
use Rattle.txn_engine.specs.Sharing.{announced, share_at, first_share, shares}
use Rattle.lane_runner.specs.Adds.{IsNext}
use Rattle.lane_threads.specs.All.{Grown, IsGrown, grown_logs, all_added, latest_clock, greatest_met}
use Rattle.lane_runner.specs.Behind.{ComesBehind}
use Rattle.lane_threads.proofs.Shared.{each_bare, each_share, each_pass}

-- ---- what the logs of the passes are

cons_head : {X : Type 0} (x y : X) (xs ys : List X) → x ∷ xs ≡ y ∷ ys → x ≡ y
cons_head x y xs ys same = cc

cons_tail : {X : Type 0} (x y : X) (xs ys : List X) → x ∷ xs ≡ y ∷ ys → xs ≡ ys
cons_tail x y xs ys same = cc

-- passes with no log have what was added
added_alone : (grown : List Grown) → AllByRecursion (λ (q : PassView). q.log ≡ []) (map (λ (g : Grown). g.pass) grown) → grown_logs grown ≡ all_added grown
added_alone [] none = refl
added_alone (g ∷ gs) none = ap (λ (log : List Entry). (log ++ g.added) ++ grown_logs gs) none.0 ∙ ap (λ (more : List Entry). g.added ++ more) (added_alone gs none.1)

-- of the passes of a share the first one has the log
pub loaded_log : (p : PassView) (grown : List Grown) (passes : List PassView) → map (λ (g : Grown). g.pass) grown ≡ passes → map bare passes ≡ shares p → grown_logs grown ≡ p.log ++ all_added grown
loaded_log p grown passes same are = of_shares grown (ap (map bare) same ∙ are) where
  of_shares : (gs : List Grown) → map bare (map (λ (g : Grown). g.pass) gs) ≡ shares p → grown_logs gs ≡ p.log ++ all_added gs
  of_shares [] is = cc
  of_shares (g ∷ gs) is =
      let first : bare g.pass ≡ first_share (announced p) = cons_head _ _ _ _ is in
      let others : map bare (map (λ (x : Grown). x.pass) gs) ≡ map (share_at (announced p)) (range_with_len 1 (p.shared.size.seats - 1)) = cons_tail _ _ _ _ is in
      let none : AllByRecursion (λ (q : PassView). q.log ≡ []) (map (λ (x : Grown). x.pass) gs) =
      each_bare (λ (q : PassView). q.log ≡ []) (map (λ (x : Grown). x.pass) gs) (λ q is. is)
      (subst (AllByRecursion (λ (q : PassView). q.log ≡ [])) (sym others) (each_share (λ (q : PassView). q.log ≡ []) (announced p) (range_with_len 1 (p.shared.size.seats - 1)) (λ seat. refl))) in
      ap (λ (log : List Entry). (log ++ g.added) ++ grown_logs gs) (ap (λ (q : PassView). q.log) first)
      ∙ append_assoc p.log g.added (grown_logs gs)
      ∙ ap (λ (more : List Entry). p.log ++ (g.added ++ more)) (added_alone gs none)

-- ---- what was added stands behind the loading

-- a pass that begins no earlier: at the clock of the one that was shared, or a later one, with what its share has met
pub record BeginsBehind (p q : PassView) : Type 0 where
  pub clock : p.clock ≤ q.clock
  pub met : bound_of_clock p.clock ≤ q.met

pub shares_begin : (p : PassView) (passes : List PassView) → map bare passes ≡ shares p → AllByRecursion (BeginsBehind p) passes
shares_begin p passes are =
    each_pass (BeginsBehind p) p passes (λ q begins. record { clock = begins.clock; met = begins.met }) are
    (record { clock = omega arith; met = omega arith }) (λ seat. record { clock = omega arith; met = omega arith })

-- so does a seat at which all of them came together
pub together_begins : (p q : PassView) (passes : List PassView) → map bare passes ≡ shares p → latest_clock passes ≤ q.clock → greatest_met passes ≤ q.met → BeginsBehind p q
together_begins p q [] are clock met = cc
together_begins p q (x ∷ xs) are clock met =
    let first : BeginsBehind p x = (shares_begin p (x ∷ xs) are).0 in
    record { clock = omega (arith, first.clock, clock); met = omega (arith, first.met, met) }

-- the last stamp of the loading
abbrev pub last_of_loading : PassView → ℕ
last_of_loading p = bound_of_clock p.clock - 1

pub comes_behind : (p q : PassView) (entry : Entry) → BeginsBehind p q → IsNext q entry → ComesBehind (last_of_loading p) entry
comes_behind p q entry begins next = record {
  commit = λ commit. let later : bound_of_clock q.clock ≤ entry.stamp = next.commit_clock commit in let clock : p.clock ≤ q.clock = begins.clock in omega arith;
  snapshot = λ snapshot. let later : q.met ≤ entry.stamp + 1 = next.snapshot_met snapshot in let met : bound_of_clock p.clock ≤ q.met = begins.met in omega arith;
}

added_behind : (p : PassView) (grown : List Grown) → AllByRecursion (BeginsBehind p) (map (λ (g : Grown). g.pass) grown) → AllByRecursion IsGrown grown → (entry : Entry) → Among entry (all_added grown) → ComesBehind (last_of_loading p) entry
added_behind p [] begin each entry among = absurd among
added_behind p (g ∷ gs) begin each entry among =
    ⊎_elim (λ here. comes_behind p g.pass entry begin.0 (each.0.each entry here)) (λ there. added_behind p gs begin.1 each.1 entry there) (Among-split entry g.added (all_added gs) among)

pub all_behind : (p : PassView) (grown : List Grown) (passes : List PassView) → map (λ (g : Grown). g.pass) grown ≡ passes → map bare passes ≡ shares p → AllByRecursion IsGrown grown → (entry : Entry) → Among entry (all_added grown) → ComesBehind (last_of_loading p) entry
all_behind p grown passes same are each = added_behind p grown (subst (AllByRecursion (BeginsBehind p)) (sym same) (shares_begin p passes are)) each

-- and the loading stands up to that stamp
pub loading_up_to : (p : PassView) → IsAbove p.log (bound_of_clock p.clock) → (entry : Entry) → Among entry p.log → entry.snapshot ≡ false → entry.stamp ≤ last_of_loading p
loading_up_to p above entry among commit = let below : entry.stamp < bound_of_clock p.clock = above entry among commit in omega arith
