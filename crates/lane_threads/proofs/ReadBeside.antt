-- What is read at the seat that is alone, behind all lanes.
use Rattle.std.proofs.Common.{◌≡◌, ℕ, ◌+◌, ◌-◌, ◌≤◌, length-append, List, [], ◌∷◌, ◌++◌, map, length, All, append-nil, append_assoc, refl, sym, ap, subst, ◌∙◌, ⊎_elim, arith}
use Rattle.std.specs.List.{AllByRecursion}
use Rattle.std.proofs.lemmas.List.Elements.{All-weaker, All-append}
use Rattle.plain_data.specs.declared.entry.Entry.{Entry}
use Rattle.stamp_base.specs.Stamp.{bound_of_clock}
use Rattle.core_rule.specs.Views.{Among, AllIn}
use Rattle.core_rule.proofs.Among.{Among-left, Among-right, Among-split}
use Rattle.histories.specs.History.{Lawful}
use Rattle.history_replay.specs.Results.{StandsForSome}
use Rattle.replay_model.specs.declared.input.Block.{Block}
use Rattle.replay_model.specs.TableMap.{TableMap}
use Rattle.txn_engine.specs.Pass.{EngineView, PassView, observing, with_met}
use Rattle.txn_engine.specs.Alone.{AloneView, Beside, with_pass}
use Rattle.lane_runner.specs.declared.done.LaneDone.{LaneDone}
use Rattle.lane_runner.specs.Rows.{stands}
use Rattle.lane_runner.specs.Room.{HasRoom}
use Rattle.lane_runner.specs.Adds.{IsNext, AreInOrder}
use Rattle.lane_runner.specs.Weighs.{LeavesTables}
use Rattle.lane_threads.specs.All.{AreAllPasses, AreOfLanes, Grown, IsGrown, grown_logs, all_added, all_draws, latest_clock, greatest_met, RunsAll, RunsAndReads}
use Rattle.lane_threads.specs.All.AreOfLanes.{none}
use Rattle.lane_threads.specs.Beside.{FewUpTo, places_of}
use Rattle.lane_threads.specs.Seen.{met_first, HaveEntries, IsRead, NeverFall, ReadsAll, IsSeen, AreSeen, ReadingsAreSeen}
use Rattle.lane_runner.proofs.Adding.{alone_stays, in_order_behind}
use Rattle.lane_threads.proofs.LaneLists.{AreOfLanes-append}
use Rattle.lane_threads.proofs.Together.{count_passes, added_in_logs}
use Rattle.lane_threads.proofs.Beside.{few_behind}
use Rattle.lane_threads.proofs.Owned.{have_then}
use Rattle.lane_threads.proofs.Readings.{read_later, reads_behind}

-- ---- room

latest_room : (passes : List PassView) (n most : ℕ) → AllByRecursion (λ p. HasRoom p.clock n) passes → most ≤ latest_clock passes → HasRoom 0 n → HasRoom most n
latest_room [] n most each at fits = omega (arith, at, fits)
latest_room (p ∷ ps) n most each at fits =
    let first : HasRoom p.clock n = each.0 in
    let rest : HasRoom (latest_clock ps) n = latest_room ps n (latest_clock ps) each.1 (omega arith) fits in
    omega (arith, first, rest, at)

-- ---- entries behind those of the last pass

abbrev behind_last : List Grown → List Entry → List Grown
behind_last [] more = []
behind_last (g ∷ []) more = record g { added = g.added ++ more } ∷ []
behind_last (g ∷ h ∷ gs) more = g ∷ behind_last (h ∷ gs) more

same_passes : (gs : List Grown) (more : List Entry) → map (λ (g : Grown). g.pass) (behind_last gs more) ≡ map (λ (g : Grown). g.pass) gs
same_passes [] more = refl
same_passes (g ∷ []) more = refl
same_passes (g ∷ h ∷ gs) more = ap (λ (ps : List PassView). g.pass ∷ ps) (same_passes (h ∷ gs) more)

added_last : (g : Grown) (gs : List Grown) (more : List Entry) → all_added (behind_last (g ∷ gs) more) ≡ all_added (g ∷ gs) ++ more
added_last g [] more = append-nil (g.added ++ more) ∙ ap (λ (xs : List Entry). xs ++ more) (sym (append-nil g.added))
added_last g (h ∷ gs) more = ap (λ (xs : List Entry). g.added ++ xs) (added_last h gs more) ∙ sym (append_assoc g.added (all_added (h ∷ gs)) more)

logs_last : (g : Grown) (gs : List Grown) (more : List Entry) → grown_logs (behind_last (g ∷ gs) more) ≡ grown_logs (g ∷ gs) ++ more
logs_last g [] more = append-nil (g.pass.log ++ (g.added ++ more)) ∙ sym (append_assoc g.pass.log g.added more) ∙ ap (λ (xs : List Entry). xs ++ more) (sym (append-nil (g.pass.log ++ g.added)))
logs_last g (h ∷ gs) more = ap (λ (xs : List Entry). (g.pass.log ++ g.added) ++ xs) (logs_last h gs more) ∙ sym (append_assoc (g.pass.log ++ g.added) (grown_logs (h ∷ gs)) more)

-- a pass whose log stands in that of another, which is no earlier
record ComesFrom (q : PassView) (g : Grown) : Type 0 where
  in_log : AllIn (g.pass.log ++ g.added) q.log
  clock : g.pass.clock ≤ q.clock
  met : g.pass.met ≤ q.met

next_from : (q : PassView) (g : Grown) (e : Entry) → ComesFrom q g → IsNext q e → IsNext g.pass e
next_from q g e from next = record {
  commit_clock = λ commit. let late : bound_of_clock q.clock ≤ e.stamp = next.commit_clock commit in let clock : g.pass.clock ≤ q.clock = from.clock in omega arith;
  commit_log = λ commit x among kind. next.commit_log commit x (from.in_log x (Among-left x g.pass.log g.added among)) kind;
  snapshot_met = λ snapshot. let late : q.met ≤ e.stamp + 1 = next.snapshot_met snapshot in let met : g.pass.met ≤ q.met = from.met in omega arith;
  snapshot_log = λ snapshot x among kind. next.snapshot_log snapshot x (from.in_log x (Among-left x g.pass.log g.added among)) kind;
}

grown_last : (q : PassView) (gs : List Grown) (more : List Entry) → AllByRecursion IsGrown gs → AllByRecursion (ComesFrom q) gs → ((e : Entry) → Among e more → IsNext q e) → AreInOrder more → AllByRecursion IsGrown (behind_last gs more)
grown_last q [] more each from next in_order = tt
grown_last q (g ∷ []) more each from next in_order = (
  record {
    each = λ e among. ⊎_elim (λ h. each.0.each e h) (λ h. next_from q g e from.0 (next e h)) (Among-split e g.added more among);
    in_order = in_order_behind g.added more each.0.in_order in_order (λ x y here there. record {
      commits = λ a b. (next y there).commit_log b x (from.0.in_log x (Among-right x g.pass.log g.added here)) a;
      snapshots = λ a b. (next y there).snapshot_log b x (from.0.in_log x (Among-right x g.pass.log g.added here)) a;
    });
  },
  tt,
)
grown_last q (g ∷ h ∷ gs) more each from next in_order = (each.0, grown_last q (h ∷ gs) more each.1 from.1 next in_order)

each_comes : (q : PassView) (gs : List Grown) → AllIn (grown_logs gs) q.log → latest_clock (map (λ (g : Grown). g.pass) gs) ≤ q.clock → greatest_met (map (λ (g : Grown). g.pass) gs) ≤ q.met → AllByRecursion (ComesFrom q) gs
each_comes q [] in_log clock met = tt
each_comes q (g ∷ gs) in_log clock met = (
  record { in_log = λ e among. in_log e (Among-left e (g.pass.log ++ g.added) (grown_logs gs) among); clock = omega (arith, clock); met = omega (arith, met) },
  each_comes q gs (λ e among. in_log e (Among-right e (g.pass.log ++ g.added) (grown_logs gs) among)) (omega (arith, clock)) (omega (arith, met)),
)

met_below : (passes : List PassView) → met_first passes ≤ greatest_met passes
met_below [] = omega arith
met_below (p ∷ ps) = omega arith

-- ---- both

module _ (engine : EngineView) (passes : List PassView) (lanes : List (List Block)) (tries due : ℕ) (alone alone' : AloneView) (done : List LaneDone) (earlier seen : List (ℕ × TableMap))
    (both : RunsAndReads engine passes lanes tries due alone done earlier) (reads : ReadsAll due earlier alone alone' seen) where
  abbrev runs : RunsAll engine passes lanes tries (length earlier) alone done
  runs = both.runs

  abbrev more : List Entry
  more = reads.others.entries

  -- each reading has its entry in the log
  each_read : All (IsRead (met_first passes) alone'.pass) seen
  each_read = subst (All (IsRead (met_first passes) alone'.pass)) (sym reads.seen_are) (All-append (IsRead (met_first passes) alone'.pass) earlier reads.more
      (read_later (met_first passes) (met_first passes) alone.pass alone'.pass (omega arith) reads.others.adds.engine reads.others.adds.seat
      (λ e among. subst (Among e) (sym reads.others.adds.log) (Among-left e alone.pass.log more among)) reads.others.adds.clock reads.others.adds.met earlier both.each)
      (read_later alone.pass.met (met_first passes) alone'.pass alone'.pass (omega (arith, runs.met, met_below passes)) refl refl (λ e among. among) (omega arith) (omega arith) reads.more reads.each))

  draws_are : length earlier + length reads.more ≡ due
  draws_are = omega (arith, reads.count, ap (λ (xs : List (ℕ × TableMap)). length xs) reads.seen_are, length-append earlier reads.more)

  -- each by an entry of its own
  own_entries : HaveEntries alone'.pass.shared.size.records alone'.pass.log (earlier ++ reads.more)
  own_entries =
      subst (λ (e : EngineView). HaveEntries e.size.records alone'.pass.log (earlier ++ reads.more)) (sym reads.others.adds.engine)
      (subst (λ (log : List Entry). HaveEntries alone.pass.shared.size.records log (earlier ++ reads.more)) (sym reads.own.log_is)
      (have_then alone.pass.shared.size.records alone.pass.log reads.own.added earlier reads.more both.own reads.own.own))

  pub seen_beside : ReadingsAreSeen → Lawful (StandsForSome stands) alone'.pass.shared.size.records alone'.pass.log → AreSeen due passes alone' done seen
  seen_beside law lawful = record {
    count = reads.count;
    each = law passes alone' seen lawful each_read;
    own = subst (HaveEntries alone'.pass.shared.size.records alone'.pass.log) (sym reads.seen_are) own_entries;
    beside = subst (FewUpTo (places_of done)) (sym reads.seen_are) (few_behind due (places_of done) earlier reads.more draws_are both.beside);
    in_order = subst NeverFall (sym reads.seen_are) (reads_behind (met_first passes) alone.pass alone'.pass earlier reads.more both.each reads.each both.in_order reads.in_order);
  }

  module _ (g : Grown) (gs : List Grown) (are : runs.grown ≡ g ∷ gs) where
    passes_are : map (λ (x : Grown). x.pass) (g ∷ gs) ≡ passes
    passes_are = ap (λ (xs : List Grown). map (λ (x : Grown). x.pass) xs) (sym are) ∙ runs.passes_are

    log_before : alone.pass.log ≡ grown_logs (g ∷ gs)
    log_before = runs.log_is ∙ ap grown_logs are

    from : AllByRecursion (ComesFrom alone.pass) (g ∷ gs)
    from = each_comes alone.pass (g ∷ gs) (λ e among. subst (Among e) (sym log_before) among)
        (subst (λ (ps : List PassView). latest_clock ps ≤ alone.pass.clock) (sym passes_are) runs.clock_from)
        (subst (λ (ps : List PassView). greatest_met ps ≤ alone.pass.met) (sym passes_are) runs.met)

    log_after : alone'.pass.log ≡ grown_logs (behind_last (g ∷ gs) more)
    log_after = reads.others.adds.log ∙ ap (λ (log : List Entry). log ++ more) log_before ∙ sym (logs_last g gs more)

    of_lanes : AreOfLanes engine.size.records (all_added (behind_last (g ∷ gs) more)) runs.taken done
    of_lanes = subst (λ (y : List Entry × List _ × List LaneDone). AreOfLanes engine.size.records y.0 y.1 y.2)
        (λ i. ((ap (λ (xs : List Grown). all_added xs ++ more) are ∙ sym (added_last g gs more)) i, append-nil runs.taken i, append-nil done i))
        (AreOfLanes-append engine.size.records (all_added runs.grown) more runs.taken [] done [] runs.are_of_lanes
        (none more (subst (λ (e : EngineView). (entry : Entry) → Among entry more → LeavesTables e.size.records entry) runs.together.engine_is reads.others.keep)))

    read_behind : RunsAll engine passes lanes tries due alone' done
    read_behind = record {
      together = record {
        shared = ap (λ (b : Beside). b.shared) reads.beside ∙ runs.together.shared;
        engine_is = reads.others.adds.engine ∙ runs.together.engine_is;
        first = reads.others.adds.seat ∙ runs.together.first;
        is_alone = alone_stays alone.pass alone'.pass more reads.others.adds runs.together.is_alone;
        idle = reads.others.adds.idle;
        none_given = reads.given ∙ runs.together.none_given;
        none_queued = reads.queue ∙ runs.together.none_queued;
        no_boost = reads.boost ∙ runs.together.no_boost;
      };
      taken = runs.taken;
      each_once = runs.each_once;
      grown = behind_last (g ∷ gs) more;
      passes_are = same_passes (g ∷ gs) more ∙ passes_are;
      log_is = log_after;
      each_grown = grown_last alone.pass (g ∷ gs) more (subst (AllByRecursion IsGrown) are runs.each_grown) from reads.others.adds.each reads.others.adds.in_order;
      are_of_lanes = of_lanes;
      in_log = subst (AllIn (all_added (behind_last (g ∷ gs) more))) (sym log_after) (added_in_logs (behind_last (g ∷ gs) more));
      refusals = omega (arith, runs.refusals, reads.others.adds.refusals, ap (λ (b : Beside). b.earlier) reads.beside);
      clock_from = omega (arith, runs.clock_from, reads.others.adds.clock);
      clock_to = omega (arith, runs.clock_to, reads.clock, draws_are);
      met = omega (arith, runs.met, reads.others.adds.met);
    }

  pub runs_read : 1 ≤ engine.size.seats → AreAllPasses engine passes → RunsAll engine passes lanes tries due alone' done
  runs_read some are = by runs.grown refl where
    by : (gs : List Grown) → runs.grown ≡ gs → RunsAll engine passes lanes tries due alone' done
    by [] none_grown = absurd (let few : length passes ≡ 0 = ap (λ (ps : List PassView). length ps) (sym runs.passes_are) ∙ ap (λ (xs : List Grown). length (map (λ (x : Grown). x.pass) xs)) none_grown in let count : length passes ≡ engine.size.seats = count_passes engine passes are in omega (arith, few, count, some))
    by (g ∷ gs) same = read_behind g gs same

-- there is room for what is still due at the seat that is alone
pub room_beside : (engine : EngineView) (passes : List PassView) (lanes : List (List Block)) (tries due : ℕ) (alone : AloneView) (done : List LaneDone) (earlier : List (ℕ × TableMap)) → 1 ≤ engine.size.seats → AreAllPasses engine passes
    → RunsAndReads engine passes lanes tries due alone done earlier → AllByRecursion (λ p. HasRoom p.clock (all_draws lanes tries + due)) passes → HasRoom alone.pass.clock (due - length earlier)
room_beside engine [] lanes tries due alone done earlier some are both room = absurd (let count : 0 ≡ engine.size.seats = count_passes engine [] are in omega (arith, count, some))
room_beside engine (p ∷ ps) lanes tries due alone done earlier some are both room =
    let first : HasRoom p.clock (all_draws lanes tries + due) = room.0 in
    let latest : HasRoom (latest_clock (p ∷ ps)) (all_draws lanes tries + due) = latest_room (p ∷ ps) (all_draws lanes tries + due) (latest_clock (p ∷ ps)) room (omega arith) (omega (arith, first)) in
    omega (arith, latest, both.runs.clock_to, both.few)

-- ---- and what was met since

-- one load of the minimum changes what was met alone
module _ (alone told : AloneView) (pass : told.pass ≡ observing (with_met alone.pass told.pass.met) told.pass.observed) (beside : told.beside ≡ alone.beside) (not_back : alone.pass.met ≤ told.pass.met) where
  is : told ≡ with_pass alone (observing (with_met alone.pass told.pass.met) told.pass.observed)
  is = λ i. record { pass = pass i; beside = beside i }

  pub runs_told : (engine : EngineView) (passes : List PassView) (lanes : List (List Block)) (tries due : ℕ) (done : List LaneDone) → RunsAll engine passes lanes tries due alone done → RunsAll engine passes lanes tries due told done
  runs_told engine passes lanes tries due done runs = subst (λ (a : AloneView). RunsAll engine passes lanes tries due a done) (sym is) (record {
    together = record {
      shared = runs.together.shared;
      engine_is = runs.together.engine_is;
      first = runs.together.first;
      is_alone = runs.together.is_alone;
      idle = runs.together.idle;
      none_given = runs.together.none_given;
      none_queued = runs.together.none_queued;
      no_boost = runs.together.no_boost;
    };
    taken = runs.taken;
    each_once = runs.each_once;
    grown = runs.grown;
    passes_are = runs.passes_are;
    log_is = runs.log_is;
    each_grown = runs.each_grown;
    are_of_lanes = runs.are_of_lanes;
    in_log = runs.in_log;
    refusals = runs.refusals;
    clock_from = runs.clock_from;
    clock_to = runs.clock_to;
    met = omega (arith, runs.met, not_back);
  })

  pub seen_told : (due : ℕ) (passes : List PassView) (done : List LaneDone) (seen : List (ℕ × TableMap)) → AreSeen due passes alone done seen → AreSeen due passes told done seen
  seen_told due passes done seen are = subst (λ (a : AloneView). AreSeen due passes a done seen) (sym is) (record {
    count = are.count;
    own = are.own;
    beside = are.beside;
    each = All-weaker (IsSeen passes alone) (IsSeen passes (with_pass alone (observing (with_met alone.pass told.pass.met) told.pass.observed)))
        (λ x s. record { entered = s.entered; tables = s.tables; leaves = s.leaves; rows = s.rows; up_to = s.up_to; met = s.met }) seen are.each;
    in_order = are.in_order;
  })
