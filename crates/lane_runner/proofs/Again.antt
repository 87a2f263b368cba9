-- What is left where the seat that is alone has settled: values written again leave the tables.
use Rattle.std.proofs.Common.{◌≡◌, ℕ, ◌+◌, ◌-◌, ◌*◌, ◌<◌, ◌≤◌, true, false, List, [], ◌∷◌, ◌++◌, append-nil, append_assoc, Option, Result, Ok, Err, refl, sym, ap, subst, ◌∙◌, ⊎_elim, arith, All, AllPairs}
use Rattle.std.specs.Prelude.{IfOk, OnOk}
use Rattle.std.proofs.lemmas.List.Elements.{All-nil, All-cons, All-head, All-tail, All-weaker, Contains-append_left}
use Rattle.std.proofs.lemmas.List.Kept.{AllPairs-cons}
use Rattle.plain_data.specs.declared.entry.Entry.{Entry}
use Rattle.plain_data.specs.State.{State, IsEntry, overlay}
use Rattle.stamp_base.specs.Limits.{greatest_clock}
use Rattle.core_rule.specs.Views.{Among}
use Rattle.core_rule.proofs.Among.{Among-left, Among-right, Among-split}
use Rattle.histories.specs.History.{Lawful, StampsDiffer}
use Rattle.histories.specs.Laws.{NextStateIsOverlay}
use Rattle.histories.proofs.Lists.{pairs_head, pairs_tail, pairs_nil}
use Rattle.history_replay.specs.Results.{StandsForSome}
use Rattle.replay_model.specs.declared.outcome.Outcome.{Outcome}
use Rattle.replay_model.specs.declared.outcome.Placed.{Placed}
use Rattle.replay_model.specs.TableMap.{TableMap}
use Rattle.stored_tables.specs.Tables.{StandsFor}
use Rattle.seat_post.specs.Ends.{Stood}
use Rattle.seat_post.specs.Leaves.{LeavesValue}
use Rattle.seat_post.specs.Logs.{IsAbove}
use Rattle.seat_post.specs.Rewriting.{rewriting, Rewritings, none_yet, one_more}
use Rattle.txn_engine.specs.Pass.{EngineView, PassView, IsIdle, engine_of, desk_of}
use Rattle.seat_post.specs.Post.{PostView}
use Rattle.seat_post.specs.Settling.{StopsPost}
use Rattle.txn_engine.specs.Settling.{SettlesPass}
use Rattle.seat_post.specs.declared.settled.Settled.{Settled}
use Rattle.seat_post.specs.Snapshot.{first_snapshot}
use Rattle.clock_stamps.specs.declared.clocks.ClockOut.{ClockOut}
use Rattle.lane_runner.specs.declared.done.LaneDone.{LaneDone}
use Rattle.lane_runner.specs.Rows.{stands}
use Rattle.lane_runner.specs.Adds.{AreInOrder, IsLater, IsNext, Adds}
use Rattle.lane_runner.specs.Weighs.{LeavesTables}
use Rattle.lane_runner.specs.Lanes.{AreEntries, Runs}
use Rattle.lane_runner.specs.Holding.{LeavesWithin, HasRecords, IsBehind}
use Rattle.lane_runner.specs.Finishing.{Finishes, rests_of}
use Rattle.lane_runner.specs.Room.{HasRoom, clock_after}
use Rattle.lane_runner.proofs.Adding.{Adds-trans, in_order_behind}
use Rattle.lane_runner.proofs.Promoted.{same_at, leaves_rewritten}
use Rattle.lane_runner.proofs.Run.{AreEntries-append, AreEntries-others}
use Rattle.lane_runner.proofs.Within.{all_among, leaves_all, leaves_one}

-- ---- the entries

-- a log has grown by commit entries, each above those of the first log, in their order, which leave the tables
pub record AreAgain (records : ℕ) (first log : List Entry) : Type 0 where
  pub entries : List Entry
  pub log_is : log ≡ first ++ entries
  pub commits : (e : Entry) → Among e entries → e.snapshot ≡ false
  pub above : (e : Entry) → Among e entries → IsAbove first e.stamp
  pub in_order : AreInOrder entries
  pub others : (e : Entry) → Among e entries → LeavesTables records e

among_push : (P : Entry → Type 0) (es : List Entry) (entry : Entry) → ((e : Entry) → Among e es → P e) → P entry → (e : Entry) → Among e (es ++ entry ∷ []) → P e
among_push P es entry each one e among = ⊎_elim (λ here. each e here) (λ last. ⊎_elim (λ same. subst P same one) (λ none. absurd none) last) (Among-split e es (entry ∷ []) among)

module _ (records : ℕ) (first log : List Entry) (stamp rid : ℕ) (value : Option (List ℕ)) (so_far : AreAgain records first log) (above : IsAbove log stamp) where
  abbrev last : Entry
  last = rewriting stamp rid value

  is_later : (x : Entry) → Among x log → IsLater x last
  is_later x among = record { commits = λ a b. above x among a; snapshots = λ a b. cc }

  in_log : (e : Entry) → Among e first → Among e log
  in_log e among = subst (λ (es : List Entry). Among e es) (sym so_far.log_is) (Among-left e first so_far.entries among)

  added_in_log : (e : Entry) → Among e so_far.entries → Among e log
  added_in_log e among = subst (λ (es : List Entry). Among e es) (sym so_far.log_is) (Among-right e first so_far.entries among)

  again_more : AreAgain records first (log ++ last ∷ [])
  again_more = record {
    entries = so_far.entries ++ last ∷ [];
    log_is = ap (λ (es : List Entry). es ++ last ∷ []) so_far.log_is ∙ append_assoc first so_far.entries (last ∷ []);
    commits = among_push (λ (x : Entry). x.snapshot ≡ false) so_far.entries last so_far.commits refl;
    above = among_push (λ (x : Entry). IsAbove first x.stamp) so_far.entries last so_far.above (λ e among commit. above e (in_log e among) commit);
    in_order = in_order_behind so_far.entries (last ∷ []) so_far.in_order (λ second among. absurd among, tt)
        (λ x y here there. ⊎_elim (λ same. subst (λ (z : Entry). IsLater x z) same (is_later x (added_in_log x here))) (λ none. absurd none) there);
    others = among_push (LeavesTables records) so_far.entries last so_far.others (leaves_rewritten records stamp rid value);
  }

pub again : (records : ℕ) (first log : List Entry) → Rewritings (StandsForSome stands) records first log → AreAgain records first log
again records first log none_yet = record { entries = []; log_is = sym (append-nil first); commits = λ e among. absurd among; above = λ e among. absurd among; in_order = tt; others = λ e among. absurd among }
again records first log (one_more es stamp rid value so_far stood above left) = again_more records first es stamp rid value (again records first es so_far) above

-- ---- the tables

module _ {X : Type 0} where
  all_front : (P : X → Type 0) (xs ys : List X) → All P (xs ++ ys) → All P xs
  all_front P [] ys all = All-nil P
  all_front P (x ∷ xs) ys all = All-cons P x xs (All-head P x (xs ++ ys) all) (all_front P xs ys (All-tail P x (xs ++ ys) all))

  pairs_front : (R : X → X → Type 0) (xs ys : List X) → AllPairs R (xs ++ ys) → AllPairs R xs
  pairs_front R [] ys pairs = pairs_nil R
  pairs_front R (x ∷ xs) ys pairs = AllPairs-cons R x xs (all_front (R x) xs ys (pairs_head R x (xs ++ ys) pairs)) (pairs_front R xs ys (pairs_tail R x (xs ++ ys) pairs))

within_once : NextStateIsOverlay → (records : ℕ) (log : List Entry) (stamp rid : ℕ) (value : Option (List ℕ)) (tables : TableMap) (most : ℕ) → Stood (StandsForSome stands) records log (rewriting stamp rid value)
    → All (IsEntry records) (log ++ rewriting stamp rid value ∷ []) → AllPairs StampsDiffer log → IsAbove log stamp → LeavesValue log rid stamp value → LeavesWithin records log tables most → LeavesWithin records (log ++ rewriting stamp rid value ∷ []) tables most
within_once overlays records log stamp rid value tables most stood each apart above left within =
    let at : within.state rid ≡ value = leaves_one (StandsForSome stands) records stood.history log rid (within.state rid) value stood.lawful (λ e there. stood.own e (Contains-append_left log (rewriting stamp rid value ∷ []) e there)) (within.left rid) (leaves_all log rid stamp value above left) in
    let same : within.state ≡ overlay ((rid, value) ∷ []) within.state = λ i r. sym (same_at rid value within.state at r) i in
    record {
      state = overlay ((rid, value) ∷ []) within.state;
      left = (overlays records log (rewriting stamp rid value) within.state each apart refl (all_among (λ (e : Entry). e.snapshot ≡ false → e.stamp < stamp) log above) within.left).1;
      places = within.places;
      stands_for = subst (λ (s : State). StandsFor records s within.places tables) same within.stands_for;
      are = within.are;
    }

within_again : NextStateIsOverlay → (records : ℕ) (first log : List Entry) (tables : TableMap) (most : ℕ) → Rewritings (StandsForSome stands) records first log → All (IsEntry records) log → AllPairs StampsDiffer log → LeavesWithin records first tables most → LeavesWithin records log tables most
within_again overlays records first log tables most none_yet each apart within = within
within_again overlays records first log tables most (one_more es stamp rid value so_far stood above left) each apart within =
    let front = pairs_front StampsDiffer es (rewriting stamp rid value ∷ []) apart in
    within_once overlays records es stamp rid value tables most stood each front above left
    (within_again overlays records first es tables most so_far (all_front (IsEntry records) es (rewriting stamp rid value ∷ []) each) front within)

-- ---- the seat

kinds : (e : Entry) → e.snapshot ≡ false → e.snapshot ≡ true → ⊥
kinds e off on = let both : false ≡ true = sym off ∙ on in cc

not_self : (n : ℕ) → n < n → ⊥
not_self n less = omega arith

module _ (p q : PassView) (answer : Result Settled ClockOut) (s : SettlesPass (StandsForSome stands) p q answer) where
  are : AreAgain p.shared.size.records p.log q.log
  are = again p.shared.size.records p.log q.log s.log

  whole_settled : q ≡ record p { post = record p.post { clock = q.clock; published = q.published; met = q.met; bounds = q.bounds; log = q.log; observed = q.observed; gone = q.gone; placed = []; snapshot = first_snapshot (q.met - 1) } }
  whole_settled = s.beside ∙ ap (λ (x : PostView). record p { post = x }) s.only

  pub engine_settled : engine_of q ≡ engine_of p
  engine_settled = ap engine_of whole_settled

  pub idle_settled : IsIdle p → IsIdle q
  idle_settled idle = ap desk_of whole_settled ∙ idle

  in_both : (e : Entry) → Among e p.log → Among e q.log
  in_both e among = subst (λ (es : List Entry). Among e es) (sym are.log_is) (Among-left e p.log are.entries among)

  next_again : (e : Entry) → Among e are.entries → Among e q.log → IsNext p e
  next_again e among there =
      let commit = are.commits e among in
      record {
        commit_clock = λ _. ⊎_elim (λ early. absurd (not_self e.stamp (are.above e among e early commit))) (λ later. later) (s.added e there);
        commit_log = λ _. are.above e among;
        snapshot_met = λ snapshot. absurd (kinds e commit snapshot);
        snapshot_log = λ snapshot. absurd (kinds e commit snapshot);
      }

  behind_log : (e : Entry) → Among e are.entries → Among e q.log
  behind_log e among = subst (λ (es : List Entry). Among e es) (sym are.log_is) (Among-right e p.log are.entries among)

  Adds-again : IsIdle p → Adds p q are.entries
  Adds-again idle = record {
    engine = engine_settled;
    seat = ap (λ (x : PassView). x.seat) whole_settled;
    others = ap (λ (x : PassView). x.others) whole_settled;
    idle = idle_settled idle;
    log = are.log_is;
    each = λ e among. next_again e among (behind_log e among);
    in_order = are.in_order;
    clock = s.later;
    met = s.met;
    refusals = let same : q.refusals ≡ p.refusals = ap (λ (x : PassView). x.refusals) s.beside in omega arith;
  }

  pub records_again : NextStateIsOverlay → Lawful (StandsForSome stands) q.shared.size.records q.log → (added : TableMap → ℕ) → HasRecords p added → HasRecords q added
  records_again overlays lawful added has =
      let here : Lawful (StandsForSome stands) p.shared.size.records q.log = subst (λ (e : EngineView). Lawful (StandsForSome stands) e.size.records q.log) engine_settled lawful in
      let within : LeavesWithin p.shared.size.records q.log has.tables has.most = within_again overlays p.shared.size.records p.log q.log has.tables has.most s.log here.each here.apart has.leaves in
      record {
        tables = has.tables;
        most = has.most;
        leaves = subst (λ (e : EngineView). LeavesWithin e.size.records q.log has.tables has.most) (sym engine_settled) within;
        room = subst (λ (e : EngineView). e.fixed + (has.most + added has.tables) ≤ e.size.records) (sym engine_settled) has.room;
      }

  module _ (r : PassView) (done : List LaneDone) (results : List (Placed × Outcome)) (f : Finishes done q r results) where
    runs_again : IsIdle p → Runs (rests_of f.order) f.rests [] p r
    runs_again idle = record {
      done = f.runs.done;
      blocks_are = f.runs.blocks_are;
      entries = are.entries ++ f.runs.entries;
      are_entries = AreEntries-append p.shared.size.records are.entries [] [] f.runs.entries f.runs.done f.rests (AreEntries-others p.shared.size.records are.entries are.others)
          (subst (λ (e : EngineView). AreEntries e.size.records f.runs.entries f.runs.done f.rests) engine_settled f.runs.are_entries);
      adds = Adds-trans p q r are.entries f.runs.entries (Adds-again idle) f.runs.adds;
    }

    pub Finishes-again : IsIdle p → Finishes done p r results
    Finishes-again idle = record {
      holds = f.holds;
      order = f.order;
      same = f.same;
      sorted = f.sorted;
      rests = f.rests;
      all = f.all;
      runs = runs_again idle;
      behind = All-weaker (λ (result : Placed × Outcome). result.0.snap ≡ true → IsBehind q.log result.0.stamp) (λ (result : Placed × Outcome). result.0.snap ≡ true → IsBehind p.log result.0.stamp)
          (λ result behind snap e among. behind snap e (in_both e among)) f.rests f.behind;
    }

-- ---- what an answer says

pub if_ok : {T E : Type 0} (told : Result T E) (P Q : T → Type 0) → ((value : T) → P value → Q value) → IfOk told P → IfOk told Q
if_ok (Ok value) P Q follows holds = follows value holds
if_ok (Err error) P Q follows holds = tt

pub on_ok : {T E : Type 0} (told : Result T E) (P Q : Type 0) → (P → Q) → OnOk told P → OnOk told Q
on_ok (Ok value) P Q follows holds = follows holds
on_ok (Err error) P Q follows holds = tt

-- ---- its clock

pub room_settled : (first now records count : ℕ) → now ≤ first + 2 * records → HasRoom first (2 * records + count) → HasRoom now count
room_settled first now records count drawn room = omega arith

pub clock_settled : (first now last records count : ℕ) → now ≤ first + 2 * records → last ≤ clock_after now count → last ≤ clock_after first (2 * records + count)
clock_settled first now last records count drawn more = omega arith

pub never_out : (first now records count : ℕ) → HasRoom first (2 * records + count) → now < first + 2 * records → now ≡ greatest_clock → ⊥
never_out first now records count room drawn out = omega arith

pub drawn_most : (first now rewritten records : ℕ) → now ≡ first + rewritten → rewritten ≤ 2 * records → now ≤ first + 2 * records
drawn_most first now rewritten records drawn most = omega arith

-- where it stopped, each record before was written again twice at most
pub stopped_within : (before after' : PostView) → StopsPost before after' → after'.clock < before.clock + 2 * before.shared.size.records
stopped_within before after' stops =
    let most = stops.first.most in
    let within = stops.within in
    ⊎_elim (λ none. let same = none.0 in omega arith) (λ one. let next = one.0 in omega arith) stops.runs_out.told
