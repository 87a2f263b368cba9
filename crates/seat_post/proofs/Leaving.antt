-- What a log leaves of a record, as a seat that is alone finds it.
use Rattle.std.proofs.Common.{◌≡◌, cond, Bool, eqb, eqb-true, ℕ, ◌<◌, true, false, List, [], ◌∷◌, ◌++◌, append-nil, Option, None, Some, Bor, refl, sym, ap, ◌∙◌, subst, inl, inr, ◌⊎◌, ⊎_elim, arith, length, map, Contains, suc, ◌+◌}
use Rattle.std.specs.Prelude.{IfSome, is_some}
use Rattle.std.specs.List.{Any}
use Rattle.plain_data.specs.declared.entry.Entry.{Entry}
use Rattle.plain_data.specs.State.{State}
use Rattle.histories.specs.History.{Lawful, Writes, IsValue}
use Rattle.histories.proofs.Lists.{Contains-nil, Contains-cases}
use Rattle.word_layout.specs.Size.{places}
use Rattle.core_rule.specs.View.{resting, View, Flight, writing, still, Seen, Read, Write, Logged}
use Rattle.core_rule.specs.Views.{Among, IsAlone}
use Rattle.core_rule.specs.Searching.{limit_of, shown_at}
use Rattle.core_rule.specs.Collecting.{HasEntry}
use Rattle.core_rule.specs.Deciding.{read_value, value_of, written_values, entry_of}
use Rattle.core_rule.specs.Paths.{EndsAt}
use Rattle.core_rule.specs.Versions.{state_of}
use Rattle.core_rule.specs.Left.{NoneAbove, NoneBelow, IsLeft, LeavesCells}
use Rattle.core_rule.specs.Hands.{Seated}
use Rattle.core_rule.proofs.Standing.{contains, from_contains, written_contains, written_from}
use Rattle.record_store.specs.Meaning.{value_at}
use Rattle.std.proofs.lemmas.List.Elements.{All-head, All-tail}
use Rattle.histories.proofs.States.{IsValue-same, one_value}
use Rattle.seat_post.specs.Logs.{IsAbove}
use Rattle.version_search.specs.Finding as finding
use Rattle.version_search.specs.Loading.{with_value, IsLeftIn, cells_loaded}
use Rattle.version_search.specs.Finding.{status_of}
use Rattle.seat_post.specs.Reading.{LeadsTo, value_loaded}
use Rattle.seat_post.specs.Searched.{Finds}
use Rattle.seat_post.specs.Leaves.{StampedBelow, LeavesValue, LeavesSome, LeavesAs, AreLeft, IsPresent}

-- a commit entry of the log that writes the record, below the limit
record Found (log : List Logged) (r limit : ℕ) (other : Entry) : Type 0 where
  logged : Logged
  write : Write
  among : Among logged log
  commit : logged.snapshot ≡ false
  writes : Among write logged.writes
  of_record : write.record_number ≡ r
  stamp : logged.stamp ≡ other.stamp
  below : logged.stamp < limit

found : (log : List Logged) (r limit : ℕ) (other : Entry) → StampedBelow (map entry_of log) limit other → Writes r other → Found log r limit other
found log r limit other there writes =
    let c = from_contains log other there.0 in
    let same = c.2 in
    let stamp : c.0.stamp ≡ other.stamp = ap (λ (y : Entry). y.stamp) same in
    let at = subst (λ (y : Entry). Any (λ w. w.0 ≡ r) y.writes) (sym same) writes.at in
    let u = written_from r c.0.writes at.1 at.4 (at.0, at.2, at.3) in
    record {
      logged = c.0;
      write = u.0;
      among = c.1;
      commit = ap (λ (y : Entry). y.snapshot) same ∙ writes.commit;
      writes = u.1;
      of_record = u.2;
      stamp = stamp;
      below = let h = there.1 in omega arith;
    }

-- ---- what is found is left

last_leaves : (log : List Logged) (r limit w : ℕ) (value : Option (List ℕ)) (h : HasEntry r w log) → NoneAbove log r limit w → w < limit → value_of h.write.cells ≡ value → LeavesValue (map entry_of log) r limit value
last_leaves log r limit w value h last early same =
    let at = h.at in
    inl (
      entry_of h.entry,
      record {
        there = (contains log h.entry h.among, omega arith);
        commit = h.commit;
        value = subst (λ (p : ℕ × Option (List ℕ)). Contains (written_values h.entry.writes) p) (λ i. (h.of_record i, same i)) (written_contains h.entry.writes h.write h.writes);
        last = λ other there writes. let f = found log r limit other there writes in let le = last f.logged f.write f.among f.commit f.writes f.of_record f.below in let st = f.stamp in omega arith;
      },
    )

none_leaves : (log : List Logged) (r limit : ℕ) → NoneBelow log r limit → LeavesValue (map entry_of log) r limit None
none_leaves log r limit none = inr (refl, λ other there writes. let f = found log r limit other there writes in none f.logged f.write f.among f.commit f.writes f.of_record f.below)

deleted : (cells : List ℕ) → 4 ≡ shown_at true cells → value_of cells ≡ None
deleted [] shows = refl
deleted (x ∷ xs) shows = absurd (omega arith)

-- the deleted version was found
pub left_absent : (log : List Logged) (r limit w : ℕ) → IsLeft log r limit w 4 → w < limit → LeavesValue (map entry_of log) r limit None
left_absent log r limit w left early = elim left.from as (λ _. LeavesValue (map entry_of log) r limit None) [
  | inl first ↦ none_leaves log r limit first.2
  | inr written ↦ last_leaves log r limit w None written.entry left.last early (deleted written.entry.write.cells written.shows)
]

whole : (cells : List ℕ) → length cells ≡ 32 → value_of cells ≡ Some cells
whole [] is = absurd (omega arith)
whole (x ∷ xs) is = refl

-- a version with these cells was
pub left_present : (log : List Logged) (r limit w : ℕ) (cells : List ℕ) → LeavesCells log r limit w cells → w < limit → length cells ≡ 32 → LeavesValue (map entry_of log) r limit (Some cells)
left_present log r limit w cells left early is =
    last_leaves log r limit w (Some cells) left.entry left.last early (ap value_of left.value ∙ whole cells is)

shown_some : (cells : List ℕ) → 3 ≡ shown_at true cells → (words : List ℕ) × (value_of cells ≡ Some words)
shown_some [] shows = absurd (omega arith)
shown_some (x ∷ xs) shows = (x ∷ xs, refl)

left_some : (log : List Logged) (r limit w : ℕ) → IsLeft log r limit w 3 → w < limit → LeavesSome (map entry_of log) r limit
left_some log r limit w left early = elim left.from as (λ _. LeavesSome (map entry_of log) r limit) [
  | inl first ↦ absurd (let four = first.1 in omega arith)
  | inr written ↦ (
      let value = shown_some written.entry.write.cells written.shows in
      (value.0, last_leaves log r limit w (Some value.0) written.entry left.last early value.1))
]

-- a search that has found a version tells what is left
pub left_as : (log : List Logged) (r limit w s : ℕ) (absent : Bool) → IsLeft log r limit w s → w < limit → s ≡ status_of absent → LeavesAs (map entry_of log) r limit absent
left_as log r limit w s true is early shows = left_absent log r limit w (subst (λ n. IsLeft log r limit w n) shows is) early
left_as log r limit w s false is early shows = left_some log r limit w (subst (λ n. IsLeft log r limit w n) shows is) early

-- a value that was read is left
head_or_tail : (b : Bool) (x value : Option (List ℕ)) (found : Option (Option (List ℕ))) → cond b (Some x) found ≡ Some value → ((b ≡ true) × (x ≡ value)) ⊎ ((b ≡ false) × (found ≡ Some value))
head_or_tail true x value found is = inl (refl, cc)
head_or_tail false x value found is = inr (refl, is)

pub read_leaves : (log : List Entry) (limit : ℕ) (reads : List (ℕ × Option (List ℕ))) (r : ℕ) (value : Option (List ℕ)) → AreLeft log limit reads → value_at reads r ≡ Some value → LeavesValue log r limit value
read_leaves log limit [] r value are at = cc
read_leaves log limit (d ∷ ds) r value are at =
    let P : ℕ × Option (List ℕ) → Type 0 = λ read. LeavesValue log read.0 limit read.1 in
    elim (head_or_tail (eqb r d.0) d.1 value (value_at ds r) at) as (λ _. LeavesValue log r limit value) [
      | inl h ↦ (
          let here : LeavesValue log d.0 limit d.1 = All-head P d ds are in
          subst (λ n. LeavesValue log n limit value) (sym (eqb-true r d.0 h.0)) (subst (λ v. LeavesValue log d.0 limit v) h.1 here))
      | inr h ↦ read_leaves log limit ds r value (All-tail P d ds are) h.1
    ]

pub version_leaves : (log : List Entry) (limit : ℕ) (reads : List (ℕ × Option (List ℕ))) (r : ℕ) (found : Option (Bor Read)) → AreLeft log limit reads → IfSome found (λ d. value_at reads r ≡ Some (read_value d.now)) → IfSome found (λ d. LeavesValue log r limit (read_value d.now))
version_leaves log limit reads r None are is = tt
version_leaves log limit reads r (Some d) are is = read_leaves log limit reads r (read_value d.now) are is

-- where all commit entries are below the limit
pub among_of : {A : Type 0} (xs : List A) (x : A) → Contains xs x → Among x xs
among_of [] x h = absurd (Contains-nil x h)
among_of (y ∷ xs) x h = ⊎_elim (λ same. inl same) (λ more. inr (among_of xs x more)) (Contains-cases y xs x h)

pub leaves_all : (log : List Entry) (r limit : ℕ) (value : Option (List ℕ)) → IsAbove log limit → LeavesValue log r limit value → IsValue (Contains log) r value
leaves_all log r limit value above left = IsValue-same (StampedBelow log limit) (Contains log) r value (λ e commit at. at.0) (λ e commit at. (at, above e (among_of log e at) commit)) left

pub present_all : (log : List Entry) (r limit : ℕ) → IsAbove log limit → LeavesSome log r limit → IsPresent log r
present_all log r limit above some = (some.0, leaves_all log r limit (Some some.0) above some.1)

-- a log that stands in a lawful history leaves one value of a record
pub leaves_one : (kept : State → Type 0) (records : ℕ) (history log : List Entry) (r : ℕ) (x y : Option (List ℕ)) → Lawful kept records history → ((e : Entry) → Contains log e → Contains history e) → IsValue (Contains log) r x → IsValue (Contains log) r y → x ≡ y
leaves_one kept records history log r x y lawful own a b = one_value records history (Contains log) r x y lawful.each lawful.apart own a b

pub some_words : (found : Option (List ℕ)) → is_some found ≡ true → (words : List ℕ) × (found ≡ Some words)
some_words None on = cc
some_words (Some words) on = (words, refl)

-- ---- what a search comes to

abbrev pub limit_in : View → ℕ
limit_in v = limit_of v.flight v.published.read

pub limit_is : (v : View) (stamp : ℕ) → v.flight ≡ writing stamp → limit_in v ≡ stamp
limit_is v stamp flight = ap (λ (f : Flight). limit_of f v.published.read) flight

-- a snapshot reads up to its stamp
pub limit_rests : (v : View) (stamp : ℕ) → v.flight ≡ resting → stamp ≡ v.published.read → limit_in v ≡ stamp + 1
limit_rests v stamp rests at = let e : suc v.published.read ≡ stamp + 1 = omega arith in ap (λ (f : Flight). limit_of f v.published.read) rests ∙ e

-- its loads led to the version, and then its value was loaded
led_at : (stamp rid place wts : ℕ) (value : Option (List ℕ)) (v w x : View) → limit_in v ≡ stamp → EndsAt stamp rid place wts (state_of value) v.seen.loads w.seen.loads → x.seen.loads ≡ w.seen.loads ++ value_loaded value place → LeadsTo (limit_in v) rid place wts value v.seen.loads x.seen.loads
led_at stamp rid place wts value v w x limit path loads =
    subst (λ (n : ℕ). LeadsTo n rid place wts value v.seen.loads x.seen.loads) (sym limit) (record { there = w.seen.loads; path = path; loads = loads })

pub finds_absent : (stamp rid place wts : ℕ) (v x : View) → finding.Reads stamp rid place wts 4 v x → place < places v.size → limit_in v ≡ stamp → Finds rid place wts None v x
finds_absent stamp rid place wts v x reads inside limit = record {
  view = reads.view;
  whole = inl refl;
  inside = inside;
  leads = led_at stamp rid place wts None v x x limit reads.path (sym (append-nil x.seen.loads));
  lost = reads.lost;
  left = λ alone.
      let left : IsLeft v.log rid stamp wts 4 = rw reads.view at (reads.left (rw reads.view alone)) in
      subst (λ n. LeavesValue (map entry_of v.log) rid n None) (sym limit) (left_absent v.log rid stamp wts left reads.path.early);
}

-- the view of a search that found a version, and the one after its cells were loaded
abbrev read_in : View → (rid place wts : ℕ) → Seen → View
read_in v rid place wts seen = record v { work = record v.work { search = still; reads = finding.new_read rid place wts 3 ∷ v.work.reads }; seen = seen }

pub finds_present : (stamp rid place wts : ℕ) (cells : List ℕ) (v w x : View) → finding.Reads stamp rid place wts 3 v w → x ≡ with_value w cells x.seen → IsLeftIn x cells → x.seen.lost ≡ w.seen.lost → x.seen.loads ≡ w.seen.loads ++ cells_loaded place 0 cells → length cells ≡ 32 → place < places v.size → limit_in v ≡ stamp → Finds rid place wts (Some cells) v x
finds_present stamp rid place wts cells v w x reads view left lost loads long inside limit =
    let at : x ≡ with_value (read_in v rid place wts w.seen) cells x.seen = view ∙ ap (λ (y : View). with_value y cells x.seen) reads.view in
    record {
      view = at;
      whole = inr (refl, long);
      inside = inside;
      leads = led_at stamp rid place wts (Some cells) v w x limit reads.path loads;
      lost = lost ∙ reads.lost;
      left = λ alone.
          let told : IsLeftIn (with_value (read_in v rid place wts w.seen) cells x.seen) cells = subst (λ (y : View). IsLeftIn y cells) at left in
          let leaves : LeavesCells v.log rid (limit_in v) wts cells = told alone in
          let early : wts < limit_in v = let h = reads.path.early in let l = limit in omega arith in
          left_present v.log rid (limit_in v) wts cells leaves early long;
    }

-- while a transaction is in flight
pub post_left : (hand hand' : Seated) (stamp rid place wts : ℕ) (value : Option (List ℕ)) → Finds rid place wts value hand.view hand'.view → hand.view.flight ≡ writing hand.view.published.write → stamp ≡ hand.view.published.write → IsAlone hand.view → LeavesValue (map entry_of hand.view.log) rid stamp value
post_left hand hand' stamp rid place wts value finds flight at alone =
    subst (λ n. LeavesValue (map entry_of hand.view.log) rid n value) (limit_is hand.view stamp (flight ∙ ap writing (sym at))) (finds.left alone)
