-- The raise of a minimum, from the loads to the step that raises it.
use Rattle.std.proofs.Common.{◌≡◌, ◌≢◌, ◌⊎◌, ℕ, zero, suc, ◌+◌, ◌<◌, ◌≤◌, max, min, Bool, cond, List, [], ◌∷◌, ◌++◌, length, get_or, refl, sym, ap, ◌∙◌, subst, inl, inr, ⊎_elim, arith, append_assoc}
use Rattle.std.proofs.Math.Dec.{eqb-suc-zero}
use Rattle.std.proofs.lemmas.List.{length-append}
use Rattle.word_layout.specs.Name.{Name, published_write, published_read}
use Rattle.stamp_base.specs.Limits.{end_of_stamps}
use Rattle.core_rule.specs.View.{View, Published, Scan, no_scan, no_raises, Load}
use Rattle.core_rule.specs.Views.{Has, IsAlone}
use Rattle.plain_data.specs.State.{State}
use Rattle.core_rule.specs.Kinds.{scanned, scan_from, scan_writes, scan_reads}
use Rattle.core_rule.specs.Hands.{Shared, Seated, IsReady, IsSameSeat, Steps}
use Rattle.clock_stamps.specs.Calls.{loaded}
use Rattle.clock_stamps.specs.Minima as minima
use Rattle.clock_stamps.specs.Minima.{least, loads_from}
use Rattle.clock_stamps.proofs.Loads.{least-append, loads_from-append, get_or-more}

scan_from-suc : (seat : ℕ) (s : Scan) → scan_from (suc seat) s ≡ s
scan_from-suc seat s = ap (λ (b : Bool). cond b no_scan s) (eqb-suc-zero seat)

-- how far the raise has come behind the last seat
pub scan_from-end : (seats i : ℕ) (s t : Scan) → i < seats → scan_from seats s ≡ t → s ≡ t
scan_from-end zero i s t h e = absurd (omega arith)
scan_from-end (suc k) i s t h e = sym (scan_from-suc k s) ∙ e

-- the view but for the raises that are in work
abbrev pub unraised : View → View
unraised v = record v { raises = no_raises }

abbrev pub writes_of : View → Scan
writes_of v = v.raises.writes

abbrev pub reads_of : View → Scan
reads_of v = v.raises.reads

-- the words of a seat are end_of_stamps: it was taken in, or is another one while no other is open
abbrev Shut : View → ℕ → Type 0
Shut v seat = Has seat v.clock.taken_in ⊎ (IsAlone v × (seat ≢ v.number))

-- the words of the seats below `next` were loaded: `scan_of` is the raise in work, and `other_of` the other one
pub record Scanned (family : ℕ → Name) (scan_of other_of : View → Scan) (own : ℕ) (core : Shared) (before : Seated) (next least' : ℕ) (now : Seated) : Type 0 where
  pub seat : IsSameSeat before now
  pub ready : IsReady core now
  pub words : List ℕ
  pub count : length words ≡ next
  pub least_is : least' ≡ least words
  pub own_word : before.view.number < next → get_or words before.view.number 0 ≡ own
  pub shut : (seat : ℕ) → seat < next → seat < before.view.size.seats → Shut before.view seat → get_or words seat 0 ≡ end_of_stamps
  pub scan : scan_from next (scan_of now.view) ≡ record { next = next; least = least' }
  pub other : other_of now.view ≡ other_of before.view
  pub view : unraised now.view ≡ unraised (loaded before.view (loads_from family 0 words))

-- one more load for it
pub record Scans (family : ℕ → Name) (scan_of other_of : View → Scan) (core : Shared) (own next : ℕ) (now : Seated) (n : ℕ) (after' : Seated) : Type 0 where
  pub seat : IsSameSeat now after'
  pub ready : IsReady core after'
  pub own_word : next ≡ now.view.number → n ≡ own
  pub shut : next < now.view.size.seats → Shut now.view next → n ≡ end_of_stamps
  pub scan : scan_of after'.view ≡ scanned n (scan_from next (scan_of now.view))
  pub other : other_of after'.view ≡ other_of now.view
  pub view : unraised after'.view ≡ unraised (loaded now.view (record { word = family next; number = n } ∷ []))

pub scanned-more : (family : ℕ → Name) (scan_of other_of : View → Scan) (own : ℕ) (core : Shared) (before : Seated) (next least' : ℕ) (now : Seated) (n : ℕ) (after' : Seated) (next' least'' : ℕ)
    → Scanned family scan_of other_of own core before next least' now → Scans family scan_of other_of core own next now n after' → next' ≡ suc next → least'' ≡ min least' n
    → Scanned family scan_of other_of own core before next' least'' after'
scanned-more family scan_of other_of own core before next least' now n after' next' least'' scans step at is = record {
  seat = record { same_table = step.seat.same_table ∙ scans.seat.same_table; same_id = step.seat.same_id ∙ scans.seat.same_id };
  ready = step.ready;
  words = scans.words ++ n ∷ [];
  count = let e = scans.count in let l = length-append scans.words (n ∷ []) in omega arith;
  least_is = let e = scans.least_is in let f = least-append scans.words n in cc;
  own_word = λ h. let count = scans.count in get_or-more scans.words n before.view.number own (λ l. scans.own_word (omega arith)) (λ e. step.own_word (sym scans.count ∙ e ∙ numbers)) (omega arith);
  shut = λ seat below within closed. let count = scans.count in get_or-more scans.words n seat end_of_stamps (λ l. scans.shut seat (omega arith) within closed)
      (λ e. let here : seat ≡ next = sym e ∙ scans.count in step.shut (subst (λ (v : View). next < v.size.seats) (sym scans.view) (omega arith))
      (subst (λ (v : View). Shut v next) (sym scans.view) (subst (Shut before.view) here closed))) (omega arith);
  scan = ap (λ (k : ℕ). scan_from k (scan_of after'.view)) at ∙ scan_from-suc next (scan_of after'.view) ∙ step.scan ∙ ap (scanned n) scans.scan
      ∙ ap (λ (k : ℕ). let s : Scan = record { next = k; least = min least' n } in s) (sym at)
      ∙ ap (λ (l : ℕ). let s : Scan = record { next = next'; least = l } in s) (sym is);
  other = step.other ∙ scans.other;
  view = step.view
      ∙ ap (λ (v : View). record v { seen = record v.seen { loads = v.seen.loads ++ record { word = family next; number = n } ∷ [] } }) scans.view
      ∙ ap (λ (ls : List Load). record (unraised before.view) { seen = record before.view.seen { loads = ls } })
      (append_assoc before.view.seen.loads (loads_from family 0 scans.words) _
      ∙ ap (λ (ls : List Load). before.view.seen.loads ++ ls) (sym (loads_from-append family 0 scans.words n next counts)));
} where
  numbers : before.view.number ≡ now.view.number
  numbers = sym (ap (λ (v : View). v.number) scans.view)

  counts : next ≡ 0 + length scans.words
  counts = let e = scans.count in omega arith

-- a hand is ready after a step that changes none of its published words
ready-kept : (core : Shared) (now after' : Seated) → IsReady core now → IsSameSeat now after' → after'.view.size ≡ now.view.size → after'.view.number ≡ now.view.number
    → after'.view.published ≡ now.view.published → IsReady core after'
ready-kept core now after' ready seat size number published = record {
  hand_of = record {
    same_table = seat.same_table ∙ ready.hand_of.same_table;
    same_size = size ∙ ready.hand_of.same_size;
    in_range = let h = ready.hand_of.in_range in omega arith;
  };
  open_words = record {
    write = subst (λ (p : Published). p.write < end_of_stamps) (sym published) ready.open_words.write;
    read = subst (λ (p : Published). p.read < end_of_stamps) (sym published) ready.open_words.read;
  };
}

module _ (core : Shared) (now : Seated) (seat n own : ℕ) (after' : Seated) (ready : IsReady core now) where
  pub scans-write : {kept : State → Type 0} → Steps kept (scan_writes seat) now n after' → now.view.published.write ≡ own → Scans published_write writes_of reads_of core own seat now n after'
  scans-write {kept} step same = record {
    seat = step.seat;
    ready = ready-kept core now after' ready step.seat (ap (λ (v : View). v.size) step.view) (ap (λ (v : View). v.number) step.view) (ap (λ (v : View). v.published) step.view);
    own_word = λ e. step.learnt.0 e ∙ same;
    shut = λ within closed. ⊎_elim (λ (has : Has seat now.view.clock.taken_in). step.learnt.1 has within) (λ (h : IsAlone now.view × (seat ≢ now.view.number)). step.learnt.2 h.0 h.1 within) closed;
    scan = ap writes_of step.view;
    other = ap reads_of step.view;
    view = ap unraised step.view;
  }

  pub scans-read : {kept : State → Type 0} → Steps kept (scan_reads seat) now n after' → now.view.published.read ≡ own → Scans published_read reads_of writes_of core own seat now n after'
  scans-read {kept} step same = record {
    seat = step.seat;
    ready = ready-kept core now after' ready step.seat (ap (λ (v : View). v.size) step.view) (ap (λ (v : View). v.number) step.view) (ap (λ (v : View). v.published) step.view);
    own_word = λ e. step.learnt.0 e ∙ same;
    shut = λ within closed. ⊎_elim (λ (has : Has seat now.view.clock.taken_in). step.learnt.1 has within) (λ (h : IsAlone now.view × (seat ≢ now.view.number)). step.learnt.2 h.0 h.1 within) closed;
    scan = ap reads_of step.view;
    other = ap writes_of step.view;
    view = ap unraised step.view;
  }

-- the least of words that are end_of_stamps but for one
none_least : (xs : List ℕ) → ((i : ℕ) → i < length xs → get_or xs i 0 ≡ end_of_stamps) → least xs ≡ end_of_stamps
none_least [] closed = refl
none_least (x ∷ xs) closed = let first = closed 0 (omega arith) in let rest = none_least xs (λ i lt. closed (suc i) (omega arith)) in omega arith

one_least : (xs : List ℕ) (i own : ℕ) → i < length xs → own ≤ end_of_stamps → get_or xs i 0 ≡ own → ((j : ℕ) → j < length xs → j ≢ i → get_or xs j 0 ≡ end_of_stamps) → least xs ≡ own
one_least [] i own lt le here closed = absurd (omega arith)
one_least (x ∷ xs) zero own lt le here closed = let first : x ≡ own = here in let rest = none_least xs (λ j l. closed (suc j) (omega arith) (λ e. absurd (omega arith))) in omega arith
one_least (x ∷ xs) (suc i) own lt le here closed =
    let first : x ≡ end_of_stamps = closed 0 (omega arith) (λ e. absurd (omega arith)) in
    let rest = one_least xs i own (omega arith) le here (λ j l ne. closed (suc j) (omega arith) (λ e. ne (omega arith))) in omega arith

-- what the step that raises the minimum makes of the loads
pub raises : (family : ℕ → Name) (minimum : Name) (scan_of other_of : View → Scan) (own : ℕ) (core : Shared) (before : Seated) (seats least' : ℕ) (now : Seated) (found result : ℕ) (after' : View)
    → Scanned family scan_of other_of own core before seats least' now → seats ≡ before.view.size.seats → before.view.number < seats
    → after'.seen ≡ record now.view.seen { loads = now.view.seen.loads ++ record { word = minimum; number = found } ∷ [] }
    → own < end_of_stamps → found ≤ own → scan_of now.view ≡ record { next = seats; least = least' } → (scan_of now.view).least ≤ own → result ≡ max found least'
    → minima.Raises family minimum own before.view result after'
raises family minimum scan_of other_of own core before seats least' now found result after' scans all within seen is_open found_within scan least_within is =
    let same : (scan_of now.view).least ≡ least' = ap (λ (s : Scan). s.least) scan in
    let words = scans.least_is in
    record {
      words = scans.words;
      each_seat = scans.count ∙ all;
      own_word = scans.own_word within;
      taken_in = λ seat lt has. scans.shut seat (omega arith) lt (inl has);
      alone = λ alone. let count = scans.count in one_least scans.words before.view.number own (omega arith) (omega arith) (scans.own_word within)
          (λ seat lt ne. scans.shut seat (omega arith) (omega arith) (inr (alone, ne)));
      found = found;
      seen = seen ∙ ap (λ (v : View). record v.seen { loads = v.seen.loads ++ record { word = minimum; number = found } ∷ [] }) scans.view;
      value = cc;
      within = omega arith;
    }
