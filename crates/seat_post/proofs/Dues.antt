-- What settling does for a record, and what shows it.
use Rattle.std.proofs.Common.{◌≡◌, ◌≢◌, ℕ, ◌+◌, ◌≤◌, ◌⊎◌, ◌&&◌, Bool, true, false, cond, eqb, eqb-true, eq-eqb, rules, List, [], ◌∷◌, ◌++◌, length-append, refl, sym, ap, ◌∙◌, subst, inl, inr, arith}
use Rattle.std.specs.Prelude.{nat_lt, sum_by}
use Rattle.std.proofs.lemmas.Bool.Decides.{nat_tests}
use Rattle.std.proofs.lemmas.List.Sums.{sum_by-append, sum_by-cons}
use Rattle.plain_data.specs.declared.entry.Entry.{Entry}
use Rattle.stamp_base.specs.Stamp.{bound_of_clock}
use Rattle.word_layout.specs.Size.{Size}
use Rattle.core_rule.specs.View.{View}
use Rattle.core_rule.specs.Views.{IsAlone}
use Rattle.clock_stamps.specs.Clocks.{rests}
use Rattle.version_search.specs.Finding.{Reads}
use Rattle.rapid_gc.specs.Bounds.{IsNewest}
use Rattle.rapid_gc.specs.Collections as collections
use Rattle.rapid_gc.specs.Ends.{Ended, Became, Goes, not_begun, goes_on, FreesCounted, items_of, remaining, stays}
use Rattle.rapid_gc.specs.declared.queue.Queued.{Queued}
use Rattle.rapid_gc.specs.declared.collecting.Collected.{Collected}
use Rattle.rapid_gc.specs.declared.fate.Fate.{Fate}
use Rattle.rapid_gc.specs.declared.fate.Fate.TheVariants.{Late, Locked, Dropped, Cut as CutBelow}
use Rattle.rapid_gc.proofs.Alone.{prepared_alone}
use Rattle.seat_post.specs.declared.settled.Settled.{Settled}
use Rattle.seat_post.specs.Logs.{IsAbove}
use Rattle.seat_post.specs.Observing.{MeetsMinimum}
use Rattle.seat_post.specs.Seats.{Observed, observed_of}
use Rattle.seat_post.specs.Collecting.{Trail, trail_in, IsLastNow}
use Rattle.seat_post.specs.Settling.{entries_of}
use Rattle.seat_post.specs.SettlingOne.{FindsBelow, CollectsOne, SettlesOne, none_yet, one_more, SettlesFirst}
use Rattle.seat_post.proofs.FreedPlaces.{freed_collecting}
use Rattle.seat_post.proofs.Queued.{became_shown, raises_both, prepared_trail, prepared_number, prepared_tops}

-- ---- whether a writing again is due

-- whether the version found has the stamp, which is not 0
pub found_here : (found wts : ℕ) (same some : Bool) → eqb found wts ≡ same → nat_lt 0 wts ≡ some → (same && some) ≡ true → (found ≡ wts) × (nat_lt 0 wts ≡ true)
found_here found wts false some first second on = absurd (let never : false ≡ true = on in cc)
found_here found wts true false first second on = absurd (let never : false ≡ true = on in cc)
found_here found wts true true first second on = (eqb-true found wts first, second)

pub apart_or_zero : (found wts : ℕ) (same some : Bool) → eqb found wts ≡ same → nat_lt 0 wts ≡ some → (same && some) ≡ false → (found ≢ wts) ⊎ (wts ≡ 0)
apart_or_zero found wts false some first second off = inl (λ e. let equal = eq-eqb found wts e in cc)
apart_or_zero found wts true false first second off = inr (search rules)
apart_or_zero found wts true true first second off = absurd (let never : true ≡ false = off in cc)

pub not_zero : (wts : ℕ) → nat_lt 0 wts ≡ true → wts ≢ 0
not_zero wts some none = let off : nat_lt 0 wts ≡ false = ap (λ (n : ℕ). nat_lt 0 n) none in cc

-- a search below what was met of the minimum
pub finds_below : (seats seat own bound rid place found status : ℕ) (log : List Entry) (before : Observed) (b w : View) → IsAbove log own → IsAbove log (bound + 1) → MeetsMinimum seats seat own (bound + 1) before (observed_of b) → Reads (bound + 1) rid place found status b w → FindsBelow seats seat rid found log before (observed_of w)
finds_below seats seat own bound rid place found status log before b w announced above minimum reads = record {
  own = own;
  announced = announced;
  limit = bound + 1;
  above = above;
  raised = observed_of b;
  minimum = minimum;
  place = place;
  status = status;
  path = reads.path;
  lost = reads.lost;
}

-- ---- a collection of one version

-- an item of a seat that is alone, and the newest of its record, is cut below
cut_became : (reached : ℕ) (i : Queued) (fate : Fate) (v w : View) → IsAlone v → IsNewest v.tops i → stays fate ≡ false → Became reached i fate v w → Became reached i CutBelow v w
cut_became reached i Late v w alone newest off h = cc
cut_became reached i Locked v w alone newest off h = cc
cut_became reached i Dropped v w alone newest off h =
    let low = h.1.known alone newest.stamp newest.known in
    let under = h.1.below in
    let at = newest.low in
    absurd (omega arith)
cut_became reached i CutBelow v w alone newest off h = h

none_went : (reached : ℕ) (es : List Ended) (v w : View) → Goes reached es v w → items_of es ≡ [] → w ≡ v
none_went reached _ _ _ (not_begun v) none = refl
none_went reached _ _ _ (goes_on es e v w x goes became) none = cc

off_left : (b : Bool) (i : Queued) (xs ys : List Queued) → cond b (i ∷ xs) ys ≡ [] → b ≡ false
off_left true i xs ys none = cc
off_left false i xs ys none = refl

one_cut : (reached : ℕ) (i : Queued) (es : List Ended) (v w : View) → Goes reached es v w → IsAlone v → IsNewest v.tops i → items_of es ≡ i ∷ [] → remaining es ≡ [] → Became reached i CutBelow v w
one_cut reached i _ _ _ (not_begun v) alone newest one none = cc
one_cut reached i _ _ _ (goes_on es e v w x goes became) alone newest one none =
    let same : w ≡ v = none_went reached es v w goes (let h : e.item ∷ items_of es ≡ i ∷ [] = one in cc) in
    let item : e.item ≡ i = let h : e.item ∷ items_of es ≡ i ∷ [] = one in cc in
    let off = off_left (stays e.end) e.item (remaining es) (remaining es) none in
    let here = subst (λ (y : View). Became reached e.item e.end y x) same became in
    let fits : IsNewest v.tops e.item = subst (λ (j : Queued). IsNewest v.tops j) (sym item) newest in
    subst (λ (j : Queued). Became reached j CutBelow v x) item (cut_became reached e.item e.end v x alone fits off here)

-- what is published before the minima are raised is above the clock
own_high : (v : View) → bound_of_clock v.clock.clock ≤ (collections.idled v).published.write
own_high v = by_test (nat_lt v.published.write (bound_of_clock v.clock.clock)) refl where
  by_test : (b : Bool) → nat_lt v.published.write (bound_of_clock v.clock.clock) ≡ b → bound_of_clock v.clock.clock ≤ (cond b (rests v) v).published.write
  by_test true low = omega arith
  by_test false high = grind (arith, nat_tests)

pub collects_one : (v w : View) (items items' : List Queued) (tally : Collected) (i : Queued) → collections.Collects v items items' w tally → items ≡ i ∷ [] → items' ≡ [] → IsAlone v → IsNewest v.tops i → IsAbove (entries_of v) (bound_of_clock v.clock.clock)
    → CollectsOne v.size.seats v.number i.rid i.stamp tally.places (trail_in v) (trail_in w)
collects_one v w items items' tally i is one none alone newest above =
    let p = is.prepares in
    let g = is.goes_through in
    let x = is.prepared in
    let fits : IsNewest x.tops i = subst (λ ts. IsNewest ts i) (sym (prepared_tops v x w.reached p)) newest in
    let became = one_cut w.reached i g.ended x w g.goes (prepared_alone v w.reached x p alone) fits (g.each_item ∙ one) (sym g.stays_in ∙ none) in
    let shown = became_shown v.number w.reached i CutBelow x w (prepared_number v x w.reached p) became in
    let freed = freed_collecting v w items items' tally is in
    record {
      own = (collections.idled v).published.write;
      announced = λ e among commit. (let low = above e among commit in let high = own_high v in omega arith);
      met = p.bound + 1;
      reached = w.reached;
      prepared = observed_of x;
      raises = raises_both v x w.reached p;
      ready = shown.0;
      cuts = subst (λ (t : Trail). IsLastNow i t (trail_in w)) (prepared_trail v x w.reached p) shown.1;
      frees = record { freed = freed.freed; gone = freed.gone; count = freed.count };
    }

-- ---- one record after another

pub settles_none : (z : Size) (seat : ℕ) (all : Settled) (v : View) → all.rewritten ≡ 0 → all.cut ≡ 0 → FreesCounted all.places v v → SettlesFirst z seat 0 all (trail_in v) (trail_in v)
settles_none z seat all v rewritten cut freed = record {
  done = [];
  many = refl;
  each = none_yet (trail_in v);
  most = omega arith;
  rewritten = rewritten;
  cut = cut;
  places = record { freed = freed.freed; gone = freed.gone; count = freed.count };
}

pub settles_more : (z : Size) (seat count : ℕ) (all one all' : Settled) (u v w : View) → SettlesFirst z seat count all (trail_in u) (trail_in v) → SettlesOne z seat count one (trail_in v) (trail_in w) → one.rewritten ≤ 2 → all'.rewritten ≡ all.rewritten + one.rewritten → all'.cut ≡ all.cut + one.cut → FreesCounted all'.places u w → SettlesFirst z seat (count + 1) all' (trail_in u) (trail_in w)
settles_more z seat count all one all' u v w so_far here few rewritten cut freed =
    let at = subst (λ (n : ℕ). SettlesOne z seat n one (trail_in v) (trail_in w)) (sym so_far.many) here in
    record {
      done = so_far.done ++ one ∷ [];
      many = let e = length-append so_far.done (one ∷ []) in let h = so_far.many in omega arith;
      each = one_more so_far.done one (trail_in u) (trail_in v) (trail_in w) so_far.each at;
      most = let h = so_far.most in omega arith;
      rewritten = rewritten ∙ ap (λ (n : ℕ). n + one.rewritten) so_far.rewritten ∙ sym (sum_push (λ (d : Settled). d.rewritten) so_far.done one);
      cut = cut ∙ ap (λ (n : ℕ). n + one.cut) so_far.cut ∙ sym (sum_push (λ (d : Settled). d.cut) so_far.done one);
      places = record { freed = freed.freed; gone = freed.gone; count = freed.count };
    } where
      sum_push : (f : Settled → ℕ) (ds : List Settled) (d : Settled) → sum_by f (ds ++ d ∷ []) ≡ sum_by f ds + f d
      sum_push f ds d =
          let both = sum_by-append f ds (d ∷ []) in
          let last = sum_by-cons f d [] in
          let none : sum_by f [] ≡ 0 = refl in
          omega arith
