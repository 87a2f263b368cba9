-- What the last check leaves of a transaction: it is decided, or was refused and is stopped.
use Rattle.std.proofs.Common.{◌≡◌, ℕ, ◌<◌, ◌≤◌, Bool, true, false, cond, List, [], ◌∷◌, ◌++◌, refl, sym, ap, ◌∙◌, subst}
use Rattle.std.specs.Prelude.{nat_le}
use Rattle.std.proofs.lemmas.Bool.{le-leb, lt-leb}
use Rattle.plain_data.specs.State.{State}
use Rattle.word_layout.specs.Name.{rts}
use Rattle.core_rule.specs.View.{View, Logged, Write, Stand, still, Work, Load, Seen, no_item}
use Rattle.core_rule.specs.Searching.{Rests}
use Rattle.core_rule.specs.Deciding.{stamp_in, commit_of, StoodAt}
use Rattle.core_rule.specs.Hands.{Seated, Steps}
use Rattle.core_rule.specs.Kinds.{load_read_stamp, decide_by_check, decide_bare}
use Rattle.core_rule.specs.Paths.{load}
use Rattle.version_search.proofs.Grown.{grows_loads}
use Rattle.validate_core.specs.Sets.{SetsView}
use Rattle.validate_core.specs.Validating.{worked, Stage, Stopped, Decides}
use Rattle.validate_core.proofs.Checks.{entry_is}

-- how the last check leaves what is in flight
record Closes (s : SetsView) (decided : Bool) (w : Work) : Type 0 where
  rests : Rests w.search
  linked : w.linked ≡ s.writes
  unsettled : w.settled ≡ []
  as_decided : w.decided ≡ decided
  collected : w.item ≡ no_item

-- a check that is refused
stops_step : (s : SetsView) (y : View) (w : Work) → y.work ≡ w → Closes s false w → Stopped s y
stops_step s y w e closes = record {
  rests = subst (λ (z : Work). Rests z.search) (sym e) closes.rests;
  linked = ap (λ (z : Work). z.linked) e ∙ closes.linked;
  undecided = record { undecided = ap (λ (z : Work). z.decided) e ∙ closes.as_decided; unsettled = ap (λ (z : Work). z.settled) e ∙ closes.unsettled };
  collected = ap (λ (z : Work). z.item) e ∙ closes.collected;
}

-- a load that decides
decides_step : (kept : State → Type 0) (records stamp : ℕ) (s : SetsView) (checked : List Write) (x y : View) (w : Work) (t : Seen) (ls : List Load)
    → y ≡ record (worked x w t) { log = x.log ++ commit_of x.flight x.work.finished x.work.linked ∷ [] } → t.loads ≡ x.seen.loads ++ ls → t.lost ≡ x.seen.lost
    → Stage stamp s s.reads s.reads checked x → Closes s true w → StoodAt kept records x.log (commit_of x.flight x.work.finished x.work.linked) → Decides kept records stamp s x y
decides_step kept records stamp s checked x y w t ls e more same st closes stood =
    let entry = entry_is stamp s checked x st in
    let work = ap (λ (v : View). v.work) e in
    let seen = ap (λ (v : View). v.seen) e in
    let log = ap (λ (v : View). v.log) e in record {
      log = log ∙ ap (λ (l : Logged). x.log ++ l ∷ []) entry;
      only = e ∙ (λ i. record (worked x (sym work i) (sym seen i)) { log = sym log i });
      grows = grows_loads x.seen y.seen ls (ap (λ (z : Seen). z.loads) seen ∙ more) (ap (λ (z : Seen). z.lost) seen ∙ same);
      lost = ap (λ (z : Seen). z.lost) seen ∙ same;
      stood = subst (StoodAt kept records x.log) entry stood;
      decided = record {
        in_flight = ap (λ (v : View). v.flight) e ∙ st.in_flight;
        rests = subst (λ (z : Work). Rests z.search) (sym work) closes.rests;
        linked = ap (λ (z : Work). z.linked) work ∙ closes.linked;
        unsettled = ap (λ (z : Work). z.settled) work ∙ closes.unsettled;
        decided = ap (λ (z : Work). z.decided) work ∙ closes.as_decided;
        collected = ap (λ (z : Work). z.item) work ∙ closes.collected;
      };
    }

module _ (kept : State → Type 0) (stamp : ℕ) (s : SetsView) (checked : List Write) (now at : Seated) (r : ℕ) (st : Stage stamp s s.reads s.reads checked now.view) where
  flies : stamp_in now.view.flight ≡ stamp
  flies = ap stamp_in st.in_flight

  -- a check before the last one, which is refused
  pub load_stops : (p : Stand) (u : Write) (w n : ℕ) → Steps kept (load_read_stamp p u w n) now r at → Stopped s at.view
  load_stops p u w n step =
      stops_step s at.view _ (ap (λ (v : View). v.work) step.view) record { rests = tt; linked = st.linked; unsettled = st.undecided.unsettled; as_decided = st.undecided.undecided; collected = st.collected }

  -- the last check
  module _ (p : Stand) (u : Write) (w n : ℕ) (step : Steps kept (decide_by_check p u w n) now r at) where
    pub check_stops : stamp < r → Stopped s at.view
    check_stops later =
        let fails : nat_le r (stamp_in now.view.flight) ≡ false = lt-leb r (stamp_in now.view.flight) (subst (λ (m : ℕ). m < r) (sym flies) later) in
        stops_step s at.view _ (ap (λ (v : View). v.work) step.view) record { rests = tt; linked = st.linked; unsettled = st.undecided.unsettled; as_decided = fails; collected = st.collected }

    pub check_decides : r ≤ stamp → Decides kept now.view.size.records stamp s now.view at.view
    check_decides le =
        let x = now.view in
        let early : r ≤ stamp_in x.flight = subst (λ (m : ℕ). r ≤ m) (sym flies) le in
        let passes : nat_le r (stamp_in x.flight) ≡ true = le-leb r (stamp_in x.flight) early in
        let more = load (rts p.place) r ∷ [] in
        let seen = record x.seen { loads = x.seen.loads ++ more } in
        let work = record x.work { search = still; passed = cond (nat_le r (stamp_in x.flight)) (u.record_number ∷ x.work.passed) x.work.passed; decided = nat_le r (stamp_in x.flight) } in
        let logs : cond (nat_le r (stamp_in x.flight)) (x.log ++ commit_of x.flight x.work.finished x.work.linked ∷ []) x.log ≡ x.log ++ commit_of x.flight x.work.finished x.work.linked ∷ [] =
        ap (λ (b : Bool). cond b (x.log ++ commit_of x.flight x.work.finished x.work.linked ∷ []) x.log) passes in
        decides_step kept x.size.records stamp s checked x at.view work seen more
        (subst (λ (l : List Logged). at.view ≡ record (worked x work seen) { log = l }) logs step.view) refl refl st
        record { rests = tt; linked = st.linked; unsettled = st.undecided.unsettled; as_decided = passes; collected = st.collected } (step.learnt.1 early)

  -- no check is left
  pub bare_decides : Steps kept decide_bare now r at → Decides kept now.view.size.records stamp s now.view at.view
  bare_decides step =
      let x = now.view in
      decides_step kept x.size.records stamp s checked x at.view (record x.work { search = still; decided = true }) _ _ step.view refl refl st
      record { rests = tt; linked = st.linked; unsettled = st.undecided.unsettled; as_decided = refl; collected = st.collected } step.learnt
