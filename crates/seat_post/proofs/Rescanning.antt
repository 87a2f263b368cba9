-- What a post keeps where it looks for the absent records, and that they are those that the log leaves.
use Rattle.std.proofs.Common.{◌≡◌, ℕ, zero, suc, ◌<◌, ◌≤◌, ◌+◌, ◌-◌, Bool, true, false, ◌||◌, List, [], ◌∷◌, ◌++◌, None, map, refl, sym, ap, subst, ◌∙◌, arith, inl, inr, eqb, eq-eqb, eqb-true}
use Rattle.std.specs.Prelude.{slice_index, if◌then◌else◌}
use Rattle.std.specs.List.{range_with_len}
use Rattle.std.specs.List.Sorted.{IsStrictlyIncreasing}
use Rattle.std.proofs.lemmas.Bool.{or_cases, or_right}
use Rattle.std.proofs.lemmas.Bool.Decides.{eqb_tells}
use Rattle.plain_data.specs.declared.entry.Entry.{Entry}
use Rattle.word_layout.specs.Name.{published_write, min_write}
use Rattle.clock_stamps.specs.Minima.{bounded}
use Rattle.core_rule.specs.View.{View, Work, Read, Load, Logged, Seen, still, resting, no_work, Raises as Raised}
use Rattle.core_rule.specs.Deciding.{entry_of}
use Rattle.core_rule.specs.Paths.{load}
use Rattle.core_rule.specs.Hands.{Seated}
use Rattle.core_rule.specs.Views.{IsAlone}
use Rattle.core_rule.specs.Searching.{Rests, Ends}
use Rattle.version_search.specs.Finding.{Reads, new_read}
use Rattle.validate_core.specs.OneByOne.{OneByOne, none_yet, one_more}
use Rattle.validate_core.specs.Sets.{SetsView}
use Rattle.seat_post.specs.Leaves.{LeavesAs, AreAbsent}
use Rattle.seat_post.specs.Observing.{with_load, RaisesTo}
use Rattle.seat_post.specs.Rescan.{Looks, Searches, LooksAt, LooksOver, looked_over}
use Rattle.seat_post.specs.Seats.{observed_of}
use Rattle.seat_post.specs.declared.phase.Phase.{Phase}
use Rattle.seat_post.specs.Post.{post_of, observing, observed_in}
use Rattle.spare_numbers.specs.Spare.{NumbersView, is_on, added}
use Rattle.seat_post.proofs.Announcing.{word, Announces}
use Rattle.version_pool.proofs.Turns.{range_with_len-more}
use Rattle.spare_numbers.proofs.NumberLists.{or_off, on_either}

-- ---- searches

pub looks_none : (v : View) → Rests v.work.search → Looks v v
looks_none v rests = record { view = refl; lost = refl; rests = rests; ends = λ e. e }

pub looks_more : (u v w : View) → Looks u v → Looks v w → Looks u w
looks_more u v w first second = record {
  view = second.view ∙ ap (λ (x : View). record x { work = w.work; seen = w.seen }) first.view;
  lost = second.lost ∙ first.lost;
  rests = second.rests;
  ends = λ e. second.ends (first.ends e);
}

ends_read : (w : Work) (d : Read) → Ends w → Ends (record w { search = still; reads = d ∷ w.reads })
ends_read w d e = record { rests = tt; settled = e.settled; collected = e.collected }

pub looks_read : (limit rid place w s : ℕ) (v x : View) → Reads limit rid place w s v x → Looks v x
looks_read limit rid place w s v x is =
    let work : x.work ≡ record v.work { search = still; reads = new_read rid place w s ∷ v.work.reads } = ap (λ (y : View). y.work) is.view in
    record {
      view = is.view ∙ ap (λ (y : Work). record v { work = y; seen = x.seen }) (sym work);
      lost = is.lost;
      rests = subst (λ (y : Work). Rests y.search) (sym work) tt;
      ends = λ e. subst Ends (sym work) (ends_read v.work (new_read rid place w s) e);
    }

-- a seat that is alone is so after them
pub looks_alone : (v w : View) → Looks v w → IsAlone v → IsAlone w
looks_alone v w is alone = subst IsAlone (sym is.view) alone

-- ---- rising lists

one_later : (k : ℕ) → suc (k + 1) ≡ suc k + 1
one_later k = omega arith

rise : (x : ℕ) (ys : List ℕ) (k : ℕ) → slice_index ys k < slice_index ys (k + 1) → slice_index (x ∷ ys) (suc k) < slice_index (x ∷ ys) (suc k + 1)
rise x ys k less = subst (λ n. slice_index ys k < slice_index (x ∷ ys) n) (one_later k) less

fall : (x : ℕ) (ys : List ℕ) (k : ℕ) → slice_index (x ∷ ys) (suc k) < slice_index (x ∷ ys) (suc k + 1) → slice_index ys k < slice_index ys (k + 1)
fall x ys k less = subst (λ n. slice_index ys k < slice_index (x ∷ ys) n) (sym (one_later k)) less

rising_more : (xs : List ℕ) (y : ℕ) → IsStrictlyIncreasing xs → ((r : ℕ) → is_on xs r ≡ true → r < y) → IsStrictlyIncreasing (xs ++ y ∷ [])
rising_more [] y rising below k within = absurd (omega arith)
rising_more (x ∷ []) y rising below zero within = below x (rw (eq-eqb x x refl) refl)
rising_more (x ∷ []) y rising below (suc k) within = absurd (omega arith)
rising_more (x ∷ z ∷ xs) y rising below zero within = rising zero (omega arith)
rising_more (x ∷ z ∷ xs) y rising below (suc k) within = rise x (z ∷ xs ++ y ∷ []) k (rising_more (z ∷ xs) y (λ j h. fall x (z ∷ xs) j (rising (suc j) (omega arith))) (λ r on. below r (or_right (eqb r x) _ on)) k (omega arith))

-- none but those below are on the list
off_above : (log : List Entry) (limit from to : ℕ) (rids : List ℕ) → AreAbsent log limit from to rids → is_on rids to ≡ false
off_above log limit from to rids are = by_test (is_on rids to) refl
  where
    by_test : (b : Bool) → is_on rids to ≡ b → b ≡ false
    by_test false is = refl
    by_test true is = absurd (let h = (are.in_range to is).1 in omega arith)

-- one more record was looked at
with_absent : (log : List Entry) (limit from to : ℕ) (rids : List ℕ) → from ≤ to → AreAbsent log limit from to rids → LeavesAs log to limit true → AreAbsent log limit from (to + 1) (rids ++ to ∷ [])
with_absent log limit from to rids some are left = record {
  rising = rising_more rids to are.rising (λ r on. (are.in_range r on).1);
  in_range = λ r on. elim (or_cases (is_on rids r) (eqb r to) (sym (on_either rids to r) ∙ on)) as (λ _. (from ≤ r) × (r < to + 1)) [
    | inl a ↦ (let h = are.in_range r a in let i = h.0 in let j = h.1 in (omega arith, omega arith))
    | inr b ↦ (let e = eqb-true r to b in (omega arith, omega arith))
  ];
  each = λ r from_is below. subst (λ (b : Bool). LeavesAs log r limit b) (sym (on_either rids to r)) (by_number r from_is below);
}
  where
    by_number : (r : ℕ) → from ≤ r → r < to + 1 → LeavesAs log r limit (is_on rids r || eqb r to)
    by_number r from_is below = elim (eqb_tells r to) as (λ _. LeavesAs log r limit (is_on rids r || eqb r to)) [
      | inl t ↦ rw (t.0, or_right (is_on rids r) true refl) (subst (λ n. LeavesAs log n limit true) (sym t.1) left)
      | inr t ↦ (let apart = t.1 in rw (t.0, or_off (is_on rids r)) (are.each r from_is (omega arith)))
    ]

-- none was looked at
pub none_absent : (log : List Entry) (limit from to : ℕ) (rids : List ℕ) → to ≡ from → rids ≡ [] → AreAbsent log limit from to rids
none_absent log limit from to rids same none = rw none (record {
  rising = λ k within. absurd (omega arith);
  in_range = λ r on. (let h : false ≡ true = on in cc);
  each = λ r low below. absurd (omega arith);
})

present_more : (log : List Entry) (limit from to : ℕ) (rids : List ℕ) → from ≤ to → AreAbsent log limit from to rids → LeavesAs log to limit false → AreAbsent log limit from (to + 1) rids
present_more log limit from to rids some are left = record {
  rising = are.rising;
  in_range = λ r on. (let h = are.in_range r on in let i = h.0 in let j = h.1 in (omega arith, omega arith));
  each = λ r from_is below. elim (eqb_tells r to) as (λ _. LeavesAs log r limit (is_on rids r)) [
    | inl t ↦ subst (λ n. LeavesAs log n limit (is_on rids n)) (sym t.1) (subst (λ (b : Bool). LeavesAs log to limit b) (sym (off_above log limit from to rids are)) left)
    | inr t ↦ (let apart = t.1 in are.each r from_is (omega arith))
  ];
}

-- its number put on the list where it is absent
pub absent_more : (log : List Entry) (limit from to : ℕ) (rids : List ℕ) (absent : Bool) → from ≤ to → AreAbsent log limit from to rids → LeavesAs log to limit absent → AreAbsent log limit from (to + 1) (if absent then rids ++ to ∷ [] else rids)
absent_more log limit from to rids true some are left = with_absent log limit from to rids some are left
absent_more log limit from to rids false some are left = present_more log limit from to rids some are left

pub added_above : (log : List Entry) (limit from to : ℕ) (rids : List ℕ) → AreAbsent log limit from to rids → added rids to ≡ rids ++ to ∷ []
added_above log limit from to rids are = rw (off_above log limit from to rids are) refl

-- ---- searches, one by one

pub listed_none : (such : ℕ → (before after' : List Load × List ℕ) → Type 0) (fixed at : ℕ) (loads : List Load) (spare : List ℕ) → at ≡ fixed → spare ≡ [] → OneByOne such (range_with_len fixed (at - fixed)) (loads, []) (loads, spare)
listed_none such fixed at loads spare same none = let z : at - fixed ≡ 0 = omega arith in rw (none, z) (none_yet (loads, []))

pub listed_more : (limit fixed rid : ℕ) (s t u : List Load × List ℕ) (absent : Bool) → fixed ≤ rid → OneByOne (LooksAt limit) (range_with_len fixed (rid - fixed)) s t → Searches limit rid absent t.0 u.0 → u.1 ≡ (if absent then t.1 ++ rid ∷ [] else t.1)
    → OneByOne (LooksAt limit) (range_with_len fixed (rid + 1 - fixed)) s u
listed_more limit fixed rid s t u absent from before searches listed =
    subst (λ rids. OneByOne (LooksAt limit) rids s u) (sym (range_with_len-more fixed rid from)) (one_more (range_with_len fixed (rid - fixed)) rid s t u before (record { absent = absent; searches = searches; listed = listed }))

-- ---- the list of numbers

pub added_same : (first n n' : NumbersView) (spare : List ℕ) → n ≡ record first { spare = n.spare } → n' ≡ record n { spare = spare } → n' ≡ record first { spare = n'.spare }
added_same first n n' spare same is = is ∙ ap (λ (x : NumbersView). record x { spare = spare }) same ∙ ap (λ xs. record first { spare = xs }) (sym (ap (λ (x : NumbersView). x.spare) is))

-- ---- the post

-- the bound is published, with the read stamp below, and searches were made
pub record Overlooks (v z : View) (stamp : ℕ) : Type 0 where
  pub reached : stamp + 1 ≡ word v
  pub raises : Raised
  pub only : z ≡ record v { published = record { write = word v; read = stamp }; clock = record v.clock { met = stamp + 1 }; flight = resting; work = z.work; raises = raises; loaded_bound = None; seen = z.seen }

pub bounded_alone : (v x y : View) (stamp : ℕ) → Announces v x → y ≡ bounded x stamp → IsAlone v → IsAlone y
bounded_alone v x y stamp is view alone = subst IsAlone (sym (view ∙ ap (λ (w : View). bounded w stamp) is.only)) alone

pub overlooks : (v x y z : View) (stamp : ℕ) → Announces v x → y ≡ bounded x stamp → x.clock.met ≤ stamp + 1 → stamp < x.published.write → Looks y z → Overlooks v z stamp
overlooks v x y z stamp is view met below looks =
    let own = ap (λ (w : View). w.published.write) is.only in
    let most = ap (λ (w : View). w.clock.met) is.only in
    record {
      reached = omega arith;
      raises = x.raises;
      only = looks.view ∙ ap (λ (w : View). record w { work = z.work; seen = z.seen }) (view ∙ ap (λ (w : View). bounded w stamp) is.only);
    }

-- the same read stamp is published again, and the searches are over
pub record Overlooked (v w : View) : Type 0 where
  pub raises : Raised
  pub only : w ≡ record v { published = record { write = word v; read = word v - 1 }; clock = record v.clock { met = word v }; flight = resting; work = no_work; raises = raises; loaded_bound = None; seen = w.seen }

-- with these loads in place of its own
abbrev bounded_seen : View → ℕ → Seen → View
bounded_seen v stamp seen = record (bounded v stamp) { seen = seen }

-- what is published again, at any stamp
abbrev overlooked_at : View → (read met : ℕ) → Raised → Seen → View
overlooked_at v read met raises seen =
    record v { published = record { write = word v; read = read }; clock = record v.clock { met = met }; flight = resting; work = no_work; raises = raises; loaded_bound = None; seen = seen }

pub overlooked : (v z w : View) (stamp last : ℕ) → Overlooks v z stamp → w ≡ bounded z last → z.clock.met ≤ last + 1 → last < z.published.write → Overlooked v w
overlooked v z w stamp last is view met below =
    let own = ap (λ (x : View). x.published.write) is.only in
    let most = ap (λ (x : View). x.clock.met) is.only in
    let reached = is.reached in
    let same : last + 1 ≡ word v = omega arith in
    let less : last ≡ word v - 1 = omega arith in
    record {
      raises = is.raises;
      only = view ∙ ap (bounded_seen z last) (sym (ap (λ (x : View). x.seen) view))
          ∙ ap (λ (x : View). bounded_seen x last w.seen) is.only
          ∙ ap (λ (n : ℕ). overlooked_at v last n is.raises w.seen) same
          ∙ ap (λ (n : ℕ). overlooked_at v n (word v) is.raises w.seen) less;
    }

pub overlooked_view : (hand hand' : Seated) (phase : Phase) (stamp : ℕ) (sets : SetsView) → hand'.table ≡ hand.table → Overlooked hand.view hand'.view → post_of hand' phase stamp sets ≡ observing (looked_over (post_of hand phase stamp sets)) (observed_in hand')
overlooked_view hand hand' phase stamp sets table is = rw (table, is.only) refl

-- what is absent is so below what is published
pub absent_below : (v y z w : View) (stamp fixed records : ℕ) (rids : List ℕ) → Overlooks v z stamp → Overlooked v w → y.log ≡ v.log → AreAbsent (map entry_of y.log) (stamp + 1) fixed records rids → AreAbsent (map entry_of v.log) w.published.write fixed records rids
absent_below v y z w stamp fixed records rids is over log absent =
    subst (λ (n : ℕ). AreAbsent (map entry_of v.log) n fixed records rids) (is.reached ∙ sym (ap (λ (x : View). x.published.write) over.only)) (subst (λ (es : List Logged). AreAbsent (map entry_of es) (stamp + 1) fixed records rids) log absent)

pub looks_over : (v x y z w : View) (stamp last fixed records : ℕ) (rids : List ℕ) → Announces v x → y ≡ bounded x stamp → Overlooks v z stamp → Looks y z → OneByOne (LooksAt (stamp + 1)) (range_with_len fixed (records - fixed)) (y.seen.loads, []) (z.seen.loads, rids)
    → w ≡ bounded z last → Overlooked v w → LooksOver v.size.seats v.number w.clock.met w.published.write fixed records rids (observed_of v) (observed_of w)
looks_over v x y z w stamp last fixed records rids is told over looks each ended end =
    let met = ap (λ (u : View). u.clock.met) end.only in
    record {
      raised = observed_of y;
      minimum = record { raised = word v; between = observed_of x; raises = subst (λ (n : ℕ). RaisesTo published_write min_write v.size.seats v.number n (word v) (observed_of v) (observed_of x)) (sym (ap (λ (u : View). u.published.write) end.only)) is.raised; not_less = omega arith; loads = ap observed_of told ∙ ap (λ (n : ℕ). with_load (observed_of x) (load min_write n)) (over.reached ∙ sym met) };
      searched = observed_of z;
      each = subst (λ (n : ℕ). OneByOne (LooksAt n) (range_with_len fixed (records - fixed)) (y.seen.loads, []) (z.seen.loads, rids)) (over.reached ∙ sym (ap (λ (u : View). u.published.write) end.only)) each;
      lost = looks.lost;
      last = ap observed_of ended ∙ ap (λ (n : ℕ). with_load (observed_of z) (load min_write n)) (sym (ap (λ (u : View). u.clock.met) ended));
    }
