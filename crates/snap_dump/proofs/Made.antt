-- Dumps that are made between the blocks of a lane, and at the seat that is alone.
use Rattle.std.proofs.Common.{◌≡◌, ◌≢◌, inl, inr, ⊎_elim, ℕ, ◌+◌, ◌-◌, ◌≤◌, true, false, List, [], ◌∷◌, ◌++◌, length, Option, None, Some, refl, sym, ap, subst, ◌∙◌, arith}
use Rattle.std.specs.Prelude.{IfSome}
use Rattle.std.proofs.lemmas.List.{append-nil, append_assoc, length-append, map-append}
use Rattle.std.proofs.lemmas.List.Elements.{All-nil, All-cons, All-append, All-weaker}
use Rattle.plain_data.specs.declared.entry.Entry.{Entry}
use Rattle.plain_data.specs.State.{overlay}
use Rattle.core_rule.specs.Views.{Among}
use Rattle.core_rule.proofs.Among.{Among-left, Among-right, Among-split}
use Rattle.replay_model.specs.declared.outcome.Outcome.{Outcome}
use Rattle.replay_model.specs.declared.outcome.Placed.{Placed}
use Rattle.replay_model.specs.TableMap.{TableMap}
use Rattle.stamp_base.specs.Stamp.{stamp_of}
use Rattle.seat_post.specs.Snapshot.{SnapshotView}
use Rattle.txn_engine.specs.Pass.{PassView, EngineView, IsIdle}
use Rattle.lane_runner.specs.Adds.{Adds, IsNext}
use Rattle.lane_runner.specs.Blocks.{AddsOthers, IsOfSeat}
use Rattle.lane_runner.specs.Lanes.{AddsSome}
use Rattle.lane_runner.specs.Room.{HasRoom, clock_after}
use Rattle.lane_runner.specs.Rows.{stands}
use Rattle.lane_runner.specs.Session.{SessionView, LeadsOn, draws_left}
use Rattle.lane_runner.specs.Weighs.{LeavesTables}
use Rattle.lane_runner.proofs.Adding.{Adds-none, Adds-trans}
use Rattle.lane_runner.proofs.Attempted.{leads_trans}
use Rattle.lane_runner.proofs.Run.{AreEntries-others}
use Rattle.lane_threads.specs.Seen.{AreEntered, IsRead, IsReadingOf, NeverFall}
use Rattle.lane_threads.proofs.Owned.{entered_none, entered_one, entered_then}
use Rattle.lane_threads.proofs.Readings.{entered_later, reads_behind}
use Rattle.snap_dump.specs.declared.dump.Dump.{Dump}
use Rattle.snap_dump.specs.Dumps.{Dumps, DumpsMade, KeepsOthers, how_many, seen_in, seen_of}
use Rattle.snap_dump.proofs.Placed.{all_read}

-- ---- the entry of a dump leaves the tables

pub entry_leaves : (records : ℕ) (seen : ℕ × TableMap) (entry : Entry) → IsReadingOf records seen entry → entry.writes ≡ [] → LeavesTables records entry
entry_leaves records seen entry is no_writes = record {
  keeps = λ state tables is_state holds agrees.
      let P : List (ℕ × Option (List ℕ)) → Type 0 = λ ws. stands (overlay ws state) tables in
      subst P (sym no_writes) holds;
  weighs = λ commit. let both : true ≡ false = sym is.kind ∙ commit in cc;
}

pub dump_others : (p q : PassView) (dump : Dump) → Dumps p q dump → AddsOthers p q
dump_others p q dump made = record {
  entries = made.entry ∷ [];
  adds = made.adds;
  keep = only;
} where
  only : (entry : Entry) → Among entry (made.entry ∷ []) → LeavesTables p.shared.size.records entry
  only entry (inl is) = subst (λ (e : Entry). LeavesTables p.shared.size.records e) is (entry_leaves p.shared.size.records (seen_of dump) made.entry made.reading made.no_writes)
  only entry (inr among) = absurd among

pub none_others : (p : PassView) → IsIdle p → AddsOthers p p
none_others p idle = record { entries = []; adds = Adds-none p idle; keep = λ entry among. absurd among }

pub others_then : (p q r : PassView) → AddsOthers p q → AddsOthers q r → AddsOthers p r
others_then p q r first second = record {
  entries = first.entries ++ second.entries;
  adds = Adds-trans p q r first.entries second.entries first.adds second.adds;
  keep = λ e among. ⊎_elim (λ h. first.keep e h)
      (λ h. subst (λ (v : EngineView). LeavesTables v.size.records e) first.adds.engine (second.keep e h))
      (Among-split e first.entries second.entries among);
}

pub others_some : (p q : PassView) → AddsOthers p q → AddsSome p q
others_some p q more = (more.entries, more.adds)

pub some_then : (p q r : PassView) → AddsSome p q → AddsSome q r → AddsSome p r
some_then p q r first second = (first.0 ++ second.0, Adds-trans p q r first.0 second.0 first.1 second.1)

-- ---- one dump behind others

stamp_later : (a b seat : ℕ) → a ≤ b → stamp_of a seat ≤ stamp_of b seat
stamp_later a b seat less = omega arith

-- what was made stays as the log goes on
pub goes_on : (minimum : ℕ) (q r : PassView) (entries : List Entry) (seen : ℕ × TableMap) → Adds q r entries → IsRead minimum q seen → IsRead minimum r seen
goes_on minimum q r entries seen adds is = record {
  entered = entered_later q r seen adds.engine (λ e among. subst (Among e) (sym adds.log) (Among-left e q.log entries among)) is.entered;
  up_to = (let later = stamp_later q.clock r.clock q.seat adds.clock in let seat : stamp_of r.clock r.seat ≡ stamp_of r.clock q.seat = ap (stamp_of r.clock) adds.seat in let low = is.up_to in omega (arith, later, seat, low));
  behind = is.behind;
  below = (let later = adds.met in let low = is.below in omega (arith, later, low));
}

-- it was made behind an earlier pass too
pub begins_earlier : (p q r : PassView) (entries : List Entry) (seen : ℕ × TableMap) → Adds p q entries → IsRead q.met r seen → IsRead p.met r seen
begins_earlier p q r entries seen adds is = record {
  entered = is.entered;
  up_to = is.up_to;
  behind = (let m = adds.met in let low = is.behind in omega (arith, m, low));
  below = is.below;
}

-- nothing was added
pub none_added : (p : PassView) → IsIdle p → AddsSome p p
none_added p idle = ([], Adds-none p idle)

abbrev IsDumpOf : PassView → PassView → Dump → Type 0
IsDumpOf p q dump = IsRead p.met q (seen_of dump)

-- none was made, whatever was added
abbrev pub made_none : (p q : PassView) (old : List Dump) → AddsSome p q → DumpsMade p q old old
made_none p q old adds = record { more = []; grown = sym (append-nil old); each = All-nil (IsDumpOf p q); own = entered_none p.shared.size.records p.log q.log adds.0 adds.1.log; in_order = λ i j d less within. absurd (omega arith) }

pub made_one : (p q : PassView) (old new : List Dump) (dump : Dump) → Dumps p q dump → new ≡ old ++ dump ∷ [] → DumpsMade p q old new
made_one p q old new dump made grown = record {
  more = dump ∷ [];
  grown = grown;
  each = All-cons (IsDumpOf p q) dump [] is (All-nil (IsDumpOf p q));
  own = entered_one p.shared.size.records p.log q.log made.entry (seen_of dump) made.adds.log made.reading;
  in_order = λ i j d less within. absurd (omega (arith, less, within));
} where
  next : IsNext p made.entry
  next = made.adds.each made.entry (inl refl)

  is : IsDumpOf p q dump
  is = record {
    entered = record {
      entry = made.entry;
      in_log = subst (Among made.entry) (sym made.adds.log) (Among-right made.entry p.log (made.entry ∷ []) (inl refl));
      is_reading = subst (λ (e : EngineView). IsReadingOf e.size.records (seen_of dump) made.entry) (sym made.adds.engine) made.reading;
    };
    up_to = (let low = made.below in let stamp = made.reading.stamp in omega (arith, low, stamp));
    behind = (let low = next.snapshot_met made.reading.kind in let stamp = made.reading.stamp in omega (arith, low, stamp));
    below = (let met = made.met in let stamp = made.reading.stamp in omega (arith, met, stamp));
  }

-- one part behind the other
abbrev pub made_then : (p q r : PassView) (old mid new : List Dump) → AddsSome p q → AddsSome q r → DumpsMade p q old mid → DumpsMade q r mid new → DumpsMade p r old new
made_then p q r old mid new before after first second = record {
  more = first.more ++ second.more;
  grown = second.grown ∙ ap (λ ds. ds ++ second.more) first.grown ∙ append_assoc old first.more second.more;
  each = All-append (IsDumpOf p r) first.more second.more
      (All-weaker (IsDumpOf p q) (IsDumpOf p r) (λ dump is. goes_on p.met q r after.0 (seen_of dump) after.1 is) first.more first.each)
      (All-weaker (IsDumpOf q r) (IsDumpOf p r) (λ dump is. begins_earlier p q r before.0 (seen_of dump) before.1 is) second.more second.each);
  own = subst (AreEntered p.shared.size.records p.log r.log) (sym (map-append seen_of first.more second.more))
      (entered_then p.shared.size.records p.log q.log r.log (seen_in first.more) (seen_in second.more) first.own
      (subst (λ (e : EngineView). AreEntered e.size.records q.log r.log (seen_in second.more)) before.1.engine second.own));
  in_order = subst NeverFall (sym (map-append seen_of first.more second.more))
      (reads_behind p.met q r (seen_in first.more) (seen_in second.more) (all_read p.met q first.more first.each) (all_read q.met r second.more second.each) first.in_order second.in_order);
}

-- dumps do not become fewer
pub made_more : (p q : PassView) (old new : List Dump) → DumpsMade p q old new → length old ≤ length new
made_more p q old new made = let longer = ap length made.grown in let sum = length-append old made.more in omega (arith, longer, sum)

-- one dump more is one more
pub count_more : (old mid new : List Dump) (dump : Dump) (n : ℕ) → length mid ≡ length old + n → new ≡ mid ++ dump ∷ [] → length new ≡ length old + (n + 1)
count_more old mid new dump n so_far grown =
    let longer = ap length grown in
    let sum = length-append mid (dump ∷ []) in
    omega (arith, so_far, longer, sum)

-- ---- tries of a session, with dumps between them

-- dumps alone, or nothing
pub leads_dumps : (p q : PassView) (s : SessionView) (dumps : ℕ) → AddsOthers p q → q.clock ≤ clock_after p.clock dumps → LeadsOn dumps p q s s
leads_dumps p q s dumps others clock = record {
  entries = others.entries;
  adds = others.adds;
  goes = record {
    lane = refl;
    tries = refl;
    done = [];
    more = [];
    left_is = refl;
    results_are = sym (append-nil s.results);
    are_entries = AreEntries-others p.shared.size.records others.entries others.keep;
    seats = All-nil (λ (r : Placed × Outcome). IsOfSeat p.seat r.0);
  };
  clock = omega (arith, clock);
  refusals = (let grows = others.adds.refusals in omega (arith, grows));
}

-- a try, and the dumps behind it
pub leads_more : (p q r v : PassView) (s t u : SessionView) (old mid new : List Dump) → length old ≤ length mid → length mid ≤ length new
    → LeadsOn (how_many old mid) p q s t → LeadsOn 0 q r t u → AddsOthers r v → v.clock ≤ clock_after r.clock (how_many mid new) → LeadsOn (how_many old new) p v s u
leads_more p q r v s t u old mid new low high so_far try others clock =
    let sum : how_many old mid + (0 + how_many mid new) ≡ how_many old new = omega (arith, low, high) in
    subst (λ (n : ℕ). LeadsOn n p v s u) sum
    (leads_trans (how_many old mid) (0 + how_many mid new) p q v s t u so_far (leads_trans 0 (how_many mid new) q r v t u u try (leads_dumps r v u (how_many mid new) others clock)))

-- there is room for the draws that are left, and for the dumps that are
pub room_left : (p q : PassView) (s t : SessionView) (old mid : List Dump) (draws due : ℕ) → LeadsOn (how_many old mid) p q s t → draws_left s ≤ draws → length old ≤ length mid → length mid ≤ due
    → HasRoom p.clock (draws + (due - length old)) → HasRoom q.clock (draws_left t + (due - length mid))
room_left p q s t old mid draws due so_far few low high room = let to = so_far.clock in omega (arith, to, few, low, high, room)

-- ---- at the seat that is alone

pub keeps_none : (p : PassView) → KeepsOthers p p
keeps_none p = record { given = refl; queue = refl; boost = refl }

pub keeps_then : (p q r : PassView) → KeepsOthers p q → KeepsOthers q r → KeepsOthers p r
keeps_then p q r first second = record {
  given = second.given ∙ first.given;
  queue = second.queue ∙ first.queue;
  boost = second.boost ∙ first.boost;
}
