-- The logs of all seats are a lawful history, so each entry has a kept state before it that agrees with its reads.
use Rattle.std.proofs.Common.{◌≡◌, ℕ, zero, suc, ◌+◌, ◌*◌, ◌<◌, Bool, true, false, cond, List, [], ◌∷◌, ◌++◌, map, refl, sym, ap, ◌∙◌, subst, arith, append-nil, inl, inr, ⊎_elim, All, AllPairs, Contains, Option}
use Rattle.std.specs.List.{Any}
use Rattle.std.proofs.lemmas.List.Elements.{All-nil, All-cons, All-contains}
use Rattle.std.proofs.lemmas.List.Kept.{AllPairs-cons}
use mathlib.Core.Option.{some-injective, some-ne-none}
use Rattle.plain_data.specs.declared.entry.Entry.{Entry}
use Rattle.plain_data.specs.State.{State, IsEntry, Fits, Agrees, empty_state}
use Rattle.histories.specs.History.{Lawful, StampsDiffer, time_of, Writes, IsValue, Before, UpTo, ReadsObey, ObeysWriteBefore, LeavesKept}
use Rattle.histories.proofs.Lists.{Contains-nil, Contains-head, Contains-tail, Contains-cases}
use Rattle.histories.proofs.States.{time-commit, time-snapshot}
use Rattle.histories.proofs.Lawful.{write_before_is_lawful, lawful_has_states}
use Rattle.word_layout.specs.Size.{Size}
use Rattle.core_rule.specs.View.{View, Read, Write, Logged}
use Rattle.core_rule.specs.Views.{At, Among}
use Rattle.core_rule.specs.Deciding.{read_value, value_of, read_values, written_values, entry_of, snapshot_of, StoodAt, IsLawfulLog}
use Rattle.core_rule.specs.Entries.{InLog, Wrote, Precedes, WriteBefore, AllDiffer, Across}
use Rattle.core_rule.specs.Parts.History.{History}
use Rattle.core_rule.proofs.Among.{Among-left, Among-right, Among-last, Among-split}
use Rattle.core_rule.proofs.Proper.{pairs_nil}
use Rattle.core_rule.proofs.LogGrows.{AllDiffer-append, same_logs}
use Rattle.core_rule.proofs.Logs.{Wrote-more, Sourced-more}

-- ---- all logs, one after another

abbrev log_of : View → List Logged
log_of v = cond v.spent [] v.log

abbrev logs : List View → List Logged
logs [] = []
logs (v ∷ vs) = log_of v ++ logs vs

abbrev entries : List View → List Entry
entries vs = map entry_of (logs vs)

open_log : (e : Logged) (b : Bool) (xs : List Logged) → b ≡ false → Among e xs → Among e (cond b [] xs)
open_log e true xs is h = absurd (let f : true ≡ false = is in cc)
open_log e false xs is h = h

log_open : (e : Logged) (b : Bool) (xs : List Logged) → Among e (cond b [] xs) → (b ≡ false) × Among e xs
log_open e true xs h = absurd h
log_open e false xs h = (refl, h)

in_logs_at : (vs : List View) (i : ℕ) (v : View) (e : Logged) → At vs i v → v.spent ≡ false → Among e v.log → Among e (logs vs)
in_logs_at [] i v e at live h = absurd (some-ne-none v (sym at))
in_logs_at (x ∷ vs) zero v e at live h =
    Among-left e (log_of x) (logs vs) (subst (λ (y : View). Among e (log_of y)) (sym (some-injective x v at)) (open_log e v.spent v.log live h))
in_logs_at (x ∷ vs) (suc i) v e at live h = Among-right e (log_of x) (logs vs) (in_logs_at vs i v e at live h)

in_logs : (vs : List View) (e : Logged) → InLog vs e → Among e (logs vs)
in_logs vs e l = in_logs_at vs l.index l.view e l.here l.is_open l.among

from_logs : (vs : List View) (e : Logged) → Among e (logs vs) → InLog vs e
from_logs [] e h = absurd h
from_logs (x ∷ vs) e h = ⊎_elim
    (λ own. let o = log_open e x.spent x.log own in record { index = 0; view = x; here = refl; is_open = o.0; among = o.1 })
    (λ rest. let l = from_logs vs e rest in record { index = suc l.index; view = l.view; here = l.here; is_open = l.is_open; among = l.among })
    (Among-split e (log_of x) (logs vs) h)

differ_open : (b : Bool) (xs : List Logged) → (b ≡ false → AllDiffer xs) → AllDiffer (cond b [] xs)
differ_open true xs h = tt
differ_open false xs h = h refl

logs_differ : (vs : List View) → ((i : ℕ) (v : View) → At vs i v → v.spent ≡ false → AllDiffer v.log)
    → ((i j : ℕ) (v u : View) → At vs i v → At vs j u → v.spent ≡ false → u.spent ≡ false → (i ≡ j → ⊥) → Across v u) → AllDiffer (logs vs)
logs_differ [] each across = tt
logs_differ (x ∷ vs) each across = AllDiffer-append (log_of x) (logs vs) (differ_open x.spent x.log (λ live. each 0 x refl live))
    (logs_differ vs (λ i v at live. each (suc i) v at live) (λ i j v u a b live live' ne. across (suc i) (suc j) v u a b live live' (λ e. ne (let f = e in omega arith))))
    (λ e c a b. let o = log_open e x.spent x.log a in let l = from_logs vs c b in across 0 (suc l.index) x l.view refl l.here o.0 l.is_open (λ f. absurd (let g = f in omega arith)) e c o.1 l.among)

-- ---- entries

all_of : (P : Entry → Type 0) (ls : List Logged) → ((e : Logged) → Among e ls → P (entry_of e)) → All P (map entry_of ls)
all_of P [] f = All-nil P
all_of P (x ∷ ls) f = All-cons P (entry_of x) (map entry_of ls) (f x (inl refl)) (all_of P ls (λ e h. f e (inr h)))

pairs_of : (ls : List Logged) → AllDiffer ls → AllPairs StampsDiffer (map entry_of ls)
pairs_of [] h = pairs_nil StampsDiffer
pairs_of (x ∷ ls) h = AllPairs-cons StampsDiffer (entry_of x) (map entry_of ls) (all_of (StampsDiffer (entry_of x)) ls (λ e k a b. h.0 e k a b)) (pairs_of ls h.1)

pub contains : (ls : List Logged) (e : Logged) → Among e ls → Contains (map entry_of ls) (entry_of e)
contains [] e h = absurd h
contains (x ∷ ls) e (inl same) = subst (λ (y : Logged). Contains (map entry_of (x ∷ ls)) (entry_of y)) same (Contains-head (entry_of x) (map entry_of ls))
contains (x ∷ ls) e (inr h) = Contains-tail (entry_of x) (map entry_of ls) (entry_of e) (contains ls e h)

pub from_contains : (ls : List Logged) (y : Entry) → Contains (map entry_of ls) y → (e : Logged) × Among e ls × (entry_of e ≡ y)
from_contains [] y h = absurd (Contains-nil y h)
from_contains (x ∷ ls) y h = ⊎_elim (λ same. (x, inl refl, same)) (λ rest. let r = from_contains ls y rest in (r.0, inr r.1, r.2)) (Contains-cases (entry_of x) (map entry_of ls) y h)

pub written_contains : (us : List Write) (u : Write) → Among u us → Contains (written_values us) (u.record_number, value_of u.cells)
written_contains [] u h = absurd h
written_contains (x ∷ us) u (inl same) = subst (λ (y : Write). Contains (written_values (x ∷ us)) (y.record_number, value_of y.cells)) same (Contains-head (x.record_number, value_of x.cells) (written_values us))
written_contains (x ∷ us) u (inr h) = Contains-tail (x.record_number, value_of x.cells) (written_values us) (u.record_number, value_of u.cells) (written_contains us u h)

-- a write of the entry is one of the log's
pub written_from : (rid : ℕ) (us : List Write) (value : ℕ × Option (List ℕ)) → value.0 ≡ rid → Contains (written_values us) value → (u : Write) × Among u us × (u.record_number ≡ rid)
written_from rid [] value is h = absurd (Contains-nil value h)
written_from rid (x ∷ us) value is h = ⊎_elim (λ same. (x, inl refl, ap (λ (p : ℕ × Option (List ℕ)). p.0) same ∙ is)) (λ rest. let r = written_from rid us value is rest in (r.0, inr r.1, r.2))
    (Contains-cases (x.record_number, value_of x.cells) (written_values us) value h)

reads_of : (P : ℕ × Option (List ℕ) → Type 0) (ds : List Read) → ((d : Read) → Among d ds → P (d.record_number, read_value d)) → All P (read_values ds)
reads_of P [] f = All-nil P
reads_of P (d ∷ ds) f = All-cons P (d.record_number, read_value d) (read_values ds) (f d (inl refl)) (reads_of P ds (λ c h. f c (inr h)))

-- ---- before in time

precedes_from : (b : Bool) (w t : ℕ) → 2 * w < 2 * t + cond b 1 0 → Precedes b w t
precedes_from true w t h = omega arith
precedes_from false w t h = omega arith

precedes_to : (b : Bool) (w t : ℕ) → Precedes b w t → 2 * w < 2 * t + cond b 1 0
precedes_to true w t h = omega arith
precedes_to false w t h = omega arith

module _ (kept : State → Type 0) (z : Size) (vs : List View) (h : History kept z vs) (positive : (c : Logged) → InLog vs c → c.snapshot ≡ false → 0 < c.stamp) where
  -- an entry that writes the record and lies before e, as the logs have it
  record Found (rid : ℕ) (e : Logged) (other : Entry) : Type 0 where
    logged : Logged
    write : Write
    wrote : Wrote vs rid logged write
    stamp : logged.stamp ≡ other.stamp
    before : Precedes e.snapshot logged.stamp e.stamp

  found : (rid : ℕ) (e : Logged) (other : Entry) → Before (entries vs) (entry_of e) other → Writes rid other → Found rid e other
  found rid e other before writes =
      let c = from_contains (logs vs) other before.0 in
      let same = c.2 in
      let commit : c.0.snapshot ≡ false = ap (λ (y : Entry). y.snapshot) same ∙ writes.commit in
      let at = subst (λ (y : Entry). Any (λ w. w.0 ≡ rid) y.writes) (sym same) writes.at in
      let u = written_from rid c.0.writes at.1 at.4 (at.0, at.2, at.3) in
      let lt : time_of (entry_of c.0) < time_of (entry_of e) = subst (λ (y : Entry). time_of y < time_of (entry_of e)) (sym same) before.1 in
      let early = time-commit (entry_of c.0) commit in record {
        logged = c.0;
        write = u.0;
        wrote = record { logged = from_logs vs c.0 c.1; commit = commit; among = u.1; of_record = u.2 };
        stamp = ap (λ (y : Entry). y.stamp) same;
        before = precedes_from e.snapshot c.0.stamp e.stamp (subst (λ (n : ℕ). n < time_of (entry_of e)) early lt);
      }

  value_is : (e : Logged) (d : Read) → WriteBefore vs e d → IsValue (Before (entries vs) (entry_of e)) d.record_number (read_value d)
  value_is e d k = ⊎_elim
      (λ none. inr (
        none.1,
        λ other before writes. let f = found d.record_number e other before writes in
            let le = k.last f.logged f.write f.wrote f.before in let pos = positive f.logged f.wrote.logged f.wrote.commit in let zero_is = none.0 in omega arith,
      ))
      (λ s. inl (
        entry_of s.entry,
        record {
          there = (
            contains (logs vs) s.entry (in_logs vs s.entry s.wrote.logged),
            subst (λ (n : ℕ). n < time_of (entry_of e)) (sym (time-commit (entry_of s.entry) s.wrote.commit)) (precedes_to e.snapshot s.entry.stamp e.stamp (subst (λ (w : ℕ). Precedes e.snapshot w e.stamp) (sym s.stamp) k.before)),
          );
          commit = s.wrote.commit;
          value = subst (λ (p : ℕ × Option (List ℕ)). Contains (written_values s.entry.writes) p) (λ i. (s.wrote.of_record i, s.value i)) (written_contains s.entry.writes s.write s.wrote.among);
          last = λ other before writes. let f = found d.record_number e other before writes in
              let le = k.last f.logged f.write f.wrote f.before in let st = f.stamp in let at = s.stamp in omega arith;
        },
      )) k.source

  obeys : ObeysWriteBefore (entries vs)
  obeys = all_of (ReadsObey (entries vs)) (logs vs) (λ e l. reads_of (λ read. IsValue (Before (entries vs) (entry_of e)) read.0 read.1) e.reads (λ d k. value_is e d (h.before e (from_logs vs e l) d k)))

  -- the logs are a lawful history
  pub lawful : kept empty_state → Lawful kept z.records (entries vs)
  lawful keeps =
      let all = entries vs in
      let each : All (IsEntry z.records) all = all_of (IsEntry z.records) (logs vs) (λ c k. h.proper c (from_logs vs c k)) in
      let apart : AllPairs StampsDiffer all = pairs_of (logs vs) (logs_differ vs (λ i v at live. h.apart i v at live) h.across) in
      let fits : All (λ entry. entry.snapshot ≡ false → Fits kept z.records entry) all = all_of (λ entry. entry.snapshot ≡ false → Fits kept z.records entry) (logs vs) (λ c k commit. h.fitting c (from_logs vs c k) commit) in
      write_before_is_lawful kept keeps z.records all each apart obeys fits

  -- an entry at the end of a log stands in it
  pub stood : kept empty_state → (log : List Logged) (e : Logged) → ((c : Logged) → Among c (log ++ e ∷ []) → InLog vs c) → StoodAt kept z.records log e
  stood keeps log e own =
      let all = entries vs in
      let law = lawful keeps in
      let s = All-contains (λ entry. (state : State) × LeavesKept kept z.records (Before all entry) state × Agrees state entry.reads) all (entry_of e) (lawful_has_states kept z.records all law).0
      (contains (logs vs) e (in_logs vs e (own e (Among-last e log)))) in
      record { history = all; lawful = law; own = λ c k. contains (logs vs) c (in_logs vs c (own c k)); state = s.0; left = s.1; agrees = s.2 }

-- ---- up to the stamp of a snapshot

up_to : (all : List Entry) (e : Entry) (rid : ℕ) (x : Option (List ℕ)) → e.snapshot ≡ true → IsValue (Before all e) rid x
    → IsValue (UpTo all e.stamp) rid x
up_to all e rid x snapshot (inr none) = inr (none.0, λ other among writes. none.1 other (is_before other among writes) writes) where
  is_before : (other : Entry) → UpTo all e.stamp other → Writes rid other → Before all e other
  is_before other among writes = let own = time-commit other writes.commit in let at = time-snapshot e snapshot in
      let le = among.1 in (among.0, omega arith)
up_to all e rid x snapshot (inl last) = let w = last.1 in let before = w.there.1 in let own = time-commit last.0 w.commit in
    let at = time-snapshot e snapshot in inl (
      last.0,
      record {
        there = (w.there.0, omega arith);
        commit = w.commit;
        value = w.value;
        last = λ other among writes. let own' = time-commit other writes.commit in let le = among.1 in
            w.last other (among.0, omega arith) writes;
      },
    )

-- ---- the log of the one view that is open

at_one : (v u : View) (i : ℕ) → At (v ∷ []) i u → v ≡ u
at_one v u zero e = some-injective v u e
at_one v u (suc i) e = absurd (some-ne-none u (sym e))

index_one : (v u : View) (i : ℕ) → At (v ∷ []) i u → i ≡ 0
index_one v u zero e = refl
index_one v u (suc i) e = absurd (some-ne-none u (sym e))

module _ (kept : State → Type 0) (z : Size) (vs : List View) (h : History kept z vs) (positive : (c : Logged) → InLog vs c → c.snapshot ≡ false → 0 < c.stamp)
    (id : ℕ) (v : View) (at : At vs id v) (live : v.spent ≡ false) (only : (i : ℕ) (u : View) → At vs i u → u.spent ≡ false → v ≡ u) where
  there : (e : Logged) → InLog vs e → InLog (v ∷ []) e
  there e l = record { index = 0; view = v; here = refl; is_open = live; among = subst (λ (y : View). Among e y.log) (sym (only l.index l.view l.here l.is_open)) l.among }

  back : (e : Logged) → InLog (v ∷ []) e → InLog vs e
  back e l = record { index = id; view = v; here = at; is_open = live; among = subst (λ (y : View). Among e y.log) (sym (at_one v l.view l.index l.here)) l.among }

  one : History kept z (v ∷ [])
  one = same_logs kept z vs (v ∷ []) there back h
      (λ i u here o. subst (λ (y : View). AllDiffer y.log) (at_one v u i here) (h.apart id v at live))
      (λ i j a b here here' o o' ne. absurd (ne (index_one v a i here ∙ sym (index_one v b j here'))))

  one_log : logs (v ∷ []) ≡ v.log
  one_log = append-nil (log_of v) ∙ ap (λ (b : Bool). cond b [] v.log) live

  -- the own log is all logs
  pub lawful_log : kept empty_state → IsLawfulLog kept z.records v.log
  lawful_log keeps = subst (λ (xs : List Logged). Lawful kept z.records (map entry_of xs)) one_log
      (lawful kept z (v ∷ []) one (λ c l commit. positive c (back c l) commit) keeps)

  -- the read of a snapshot that obeys the write before has the value that the own log leaves up to the stamp
  pub value_left : (stamp : ℕ) (ds : List Read) (d : Read) → WriteBefore vs (snapshot_of stamp ds) d
      → IsValue (UpTo (map entry_of v.log) stamp) d.record_number (read_value d)
  value_left stamp ds d k = subst (λ (xs : List Logged). IsValue (UpTo (map entry_of xs) stamp) d.record_number (read_value d)) one_log
      (up_to (entries (v ∷ [])) (entry_of (snapshot_of stamp ds)) d.record_number (read_value d) refl
      (value_is kept z (v ∷ []) one (λ c l commit. positive c (back c l) commit) (snapshot_of stamp ds) d record {
        source = Sourced-more vs (v ∷ []) there d k.source;
        before = k.before;
        last = λ c u w early. k.last c u (Wrote-more (v ∷ []) vs back d.record_number c u w) early;
      }))
