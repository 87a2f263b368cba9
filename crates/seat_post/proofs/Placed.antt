-- Which of the versions that were linked stand in inline places, and how many, as what is known of lists tells.
use Rattle.std.proofs.Common.{◌≡◌, ℕ, ◌+◌, suc, true, false, Bool, cond, not, List, [], ◌∷◌, ◌++◌, Option, None, Some, refl, sym, ap, ◌∙◌, subst, inl, inr, append_assoc, append-nil, arith, length, length-append, lt-ltb, le-ltb, eqb, eq-eqb, ne_eqb, ◌<◌, map}
use Rattle.std.specs.Prelude.{IsSome, nat_lt}
use Rattle.word_layout.specs.Size.{Size}
use Rattle.core_rule.specs.View.{View, Write, Bound, Counted, Reserved}
use Rattle.core_rule.specs.Paths.{load}
use Rattle.core_rule.specs.Views.{Among}
use Rattle.word_layout.specs.Name.{wts}
use Rattle.core_rule.specs.Searching.{known_of, one_more, counted_more}
use Rattle.core_rule.specs.Deciding.{written_values, value_of}
use Rattle.std.proofs.lemmas.List.{map_push}
use Rattle.std.proofs.lemmas.List.Sums.{sum_by-cons}
use Rattle.core_rule.specs.Hands.{Seated}
use Rattle.validate_core.specs.Sets.{Once, count_below}
use Rattle.validate_core.specs.Installing.{IsFor, LinksOne, LinksEach}
use Rattle.validate_core.specs.OneByOne.{OneByOne, none_yet, one_more as one_more_linked}
use Rattle.validate_core.proofs.Placing.{one_view}
use Rattle.version_pool.specs.Takes.{first_in_turn}
use Rattle.version_search.specs.Links.{DescendsTo}
use Rattle.seat_post.specs.Observing as observing
use Rattle.seat_post.specs.Seats.{Bounds, Observed, Placed as PlacedAt, observed_of, placed_of, at_of}
use Rattle.seat_post.specs.Placing.{is_inline, count_inline, HavePlaces, Puts, TriesAll, WantsPlaceAt}
use Rattle.seat_post.proofs.Growing.{grows_none, grows_both}
use Rattle.seat_post.specs.Lists.{bounds_before, AreBounded, is_raised, count_raised}
use Rattle.seat_post.specs.Post.{PostView, bounds_in, ArePlaced}
use Rattle.spare_numbers.proofs.Written.{length-written}
use Rattle.seat_post.proofs.Listed.{among_written}
use Rattle.core_rule.proofs.Among.{Among-split}
use Rattle.seat_post.proofs.Linked.{bounds_by, number_of, once_front, once_end, not_written, known_here, known_there, each_linked}

-- what is known, with this of the reserved place
abbrev keeping : Reserved → Bounds → Bounds
keeping k known = record { counts = record known.counts { in_reserved = k }; tops = known.tops }

module _ (z : Size) (stamp : ℕ) where
  each_sized : (us : List Write) (v w : View) → LinksEach z stamp us v w → w.size ≡ v.size
  each_sized _ _ _ (none_yet v) = refl
  each_sized _ _ _ (one_more_linked us u v w x each l) = ap (λ (y : View). y.size) (one_view z stamp u w x l) ∙ each_sized us v w each

  -- what was known of lists before
  each_known : (us : List Write) (v w : View) → LinksEach z stamp us v w → bounds_before (length us) (bounds_by w) ≡ keeping w.counts.in_reserved (bounds_by v)
  each_known _ _ _ (none_yet v) = refl
  each_known _ _ _ (one_more_linked us u v w x each l) =
      let long : length (us ++ u ∷ []) ≡ suc (length us) = let h = length-append us (u ∷ []) in omega arith in
      let one = one_view z stamp u w x l in
      ap (λ n. bounds_before n (bounds_by x)) long
      ∙ ap (λ (y : View). keeping x.counts.in_reserved (bounds_before (suc (length us)) (bounds_by y))) one
      ∙ ap (λ k. keeping x.counts.in_reserved k) (each_known us v w each)

  -- and of the reserved place, where nothing was linked there
  pub each_before : (us : List Write) (v w : View) → LinksEach z stamp us v w → w.counts.in_reserved ≡ v.counts.in_reserved → bounds_before (length us) (bounds_by w) ≡ bounds_by v
  each_before us v w each same = each_known us v w each ∙ ap (λ (k : Reserved). keeping k (bounds_by v)) same

  -- the bounds after it
  each_more : (us : List Write) (v w : View) → LinksEach z stamp us v w → Once number_of us → (u : Write) → Among u us → known_of w.counts u.record_number ≡ one_more v.size u.place (known_of v.counts u.record_number)
  each_more _ _ _ (none_yet v) once u among = absurd among
  each_more _ _ _ (one_more_linked us u v w x each l) once c among =
      let counts : x.counts ≡ counted_more w.size u.record_number u.stamp u.place w.counts = ap (λ (y : View). y.counts) (one_view z stamp u w x l) in
      let size = each_sized us v w each in
      elim (Among-split c us (u ∷ []) among) as (λ _. known_of x.counts c.record_number ≡ one_more v.size c.place (known_of v.counts c.record_number)) [
        | inl old ↦ (
            let apart = once_end us u once c old in
            ap (λ (k : Counted). known_of k c.record_number) counts ∙ known_there w.size u.record_number u.stamp u.place w.counts c.record_number apart ∙ each_more us v w each (once_front us u once) c old)
        | inr new ↦ elim new as (λ _. known_of x.counts c.record_number ≡ one_more v.size c.place (known_of v.counts c.record_number)) [
          | inr none ↦ absurd none
          | inl same ↦ (
              let before = (each_linked z stamp us v w each (once_front us u once)).others u.record_number (not_written us u.record_number (once_end us u once)) in
              let here : known_of x.counts u.record_number ≡ one_more v.size u.place (known_of v.counts u.record_number) =
              ap (λ (k : Counted). known_of k u.record_number) counts ∙ known_here w.size u.record_number u.stamp u.place w.counts u.record_number refl ∙ ap (λ s. one_more s u.place (known_of w.counts u.record_number)) size ∙ ap (λ o. one_more v.size u.place o) before.0 in
              subst (λ (y : Write). known_of x.counts y.record_number ≡ one_more v.size y.place (known_of v.counts y.record_number)) same here)
        ]
      ]

raised_bool : (b : Bool) (n : ℕ) → nat_lt n (cond b n (suc n)) ≡ not b
raised_bool true n = le-ltb n n (omega arith)
raised_bool false n = lt-ltb n (suc n) (omega arith)

raised_one : (z : Size) (p : ℕ) (o : Option Bound) → IsSome o → is_raised o (one_more z p o) ≡ not (nat_lt p z.records)
raised_one z p None some = let e : false ≡ true = some in cc
raised_one z p (Some b) some = raised_bool (nat_lt p z.records) b.outside

sum_step : (a b x y l : ℕ) (raised inline : Bool) → a ≡ cond inline 1 0 + x → b ≡ cond raised 1 0 + y → raised ≡ not inline → x + y ≡ l → a + b ≡ suc l
sum_step a b x y l true true first second same rest = cc
sum_step a b x y l true false first second same rest = omega arith
sum_step a b x y l false true first second same rest = omega arith
sum_step a b x y l false false first second same rest = cc

all_counted : (records : ℕ) (before after' : Bounds) (us : List Write) → ((u : Write) → Among u us → is_raised (known_of before.counts u.record_number) (known_of after'.counts u.record_number) ≡ not (nat_lt u.place records)) → count_below records us + count_raised before after' (written_values us) ≡ length us
all_counted records before after' [] each = refl
all_counted records before after' (u ∷ us) each =
    sum_step _ _ (count_below records us) (count_raised before after' (written_values us)) (length us) (is_raised (known_of before.counts u.record_number) (known_of after'.counts u.record_number)) (nat_lt u.place records)
    (sum_by-cons (λ (c : Write). cond (nat_lt c.place records) 1 0) u us)
    (sum_by-cons (λ (w : ℕ × Option (List ℕ)). cond (is_raised (known_of before.counts w.0) (known_of after'.counts w.0)) 1 0) (u.record_number, value_of u.cells) (written_values us)) (each u (inl refl))
    (all_counted records before after' us (λ c among. each c (inr among)))

pub each_counted : (z : Size) (stamp : ℕ) (us : List Write) (hand hand' : Seated) → LinksEach z stamp us hand.view hand'.view → hand'.view.counts.in_reserved ≡ hand.view.counts.in_reserved → Once number_of us → ArePlaced hand' us
each_counted z stamp us hand hand' each kept once = λ known.
    let before : bounds_before (length us) (bounds_in hand') ≡ bounds_in hand = each_before z stamp us hand.view hand'.view each kept in
    let had : AreBounded (bounds_in hand) (written_values us) = subst (λ (k : Bounds). AreBounded k (written_values us)) before known in
    let size = each_sized z stamp us hand.view hand'.view each in
    let all : count_below hand.view.size.records us + count_raised (bounds_in hand) (bounds_in hand') (written_values us) ≡ length us =
    all_counted hand.view.size.records (bounds_in hand) (bounds_in hand') us
    (λ u among.
    let o = known_of hand.view.counts u.record_number in
    ap (λ after'. is_raised o after') (each_more z stamp us hand.view hand'.view each once u among) ∙ raised_one hand.view.size u.place o (had u.record_number (among_written us u among))) in
    subst (λ (s : Size). count_below s.records us + count_raised (bounds_before (length us) (bounds_in hand')) (bounds_in hand') (written_values us) ≡ length us) (sym size)
    (subst (λ (k : Bounds). count_below hand.view.size.records us + count_raised k (bounds_in hand') (written_values us) ≡ length us) (sym before) all)

-- ---- each in a place for its record

pub each_fits : (z : Size) (stamp : ℕ) (us : List Write) (v w : View) → LinksEach z stamp us v w → (u : Write) → Among u us → IsFor z u.record_number u.place
each_fits z stamp _ _ _ (none_yet v) u among = absurd among
each_fits z stamp _ _ _ (one_more_linked us c v w x each l) u among =
    elim (Among-split u us (c ∷ []) among) as (λ _. IsFor z u.record_number u.place) [
      | inl old ↦ each_fits z stamp us v w each u old
      | inr (inl same) ↦ subst (λ (y : Write). IsFor z y.record_number y.place) same l.fits
      | inr (inr none) ↦ absurd none
    ]

-- of such a place, whether it is inline
inline_below : (z : Size) (rid place : ℕ) → rid < z.records → IsFor z rid place → nat_lt place z.records ≡ eqb place rid
inline_below z rid place within (inl same) = lt-ltb place z.records (omega arith) ∙ sym (eq-eqb place rid same)
inline_below z rid place within (inr usable) = le-ltb place z.records usable.0 ∙ sym (ne_eqb place rid (let low = usable.0 in omega arith))

pub count_placed : (z : Size) (us : List Write) → ((u : Write) → Among u us → u.record_number < z.records) → ((u : Write) → Among u us → IsFor z u.record_number u.place) → count_below z.records us ≡ count_inline (placed_of us)
count_placed z [] within each = refl
count_placed z (u ∷ us) within each =
    let rest = count_placed z us (λ c among. within c (inr among)) (λ c among. each c (inr among)) in
    let same = inline_below z u.record_number u.place (within u (inl refl)) (each u (inl refl)) in
    sum_by-cons (λ (c : Write). cond (nat_lt c.place z.records) 1 0) u us
    ∙ ap (λ (n : ℕ). cond (nat_lt u.place z.records) 1 0 + n) rest
    ∙ ap (λ (b : Bool). cond b 1 0 + count_inline (placed_of us)) same
    ∙ sym (sum_by-cons (λ (at : PlacedAt). cond (is_inline at) 1 0) (record { rid = u.record_number; place = u.place }) (placed_of us))

placed_fit : (z : Size) (us : List Write) → ((u : Write) → Among u us → IsFor z u.record_number u.place) → (at : PlacedAt) → Among at (placed_of us) → IsFor z at.rid at.place
placed_fit z [] each at among = absurd among
placed_fit z (u ∷ us) each at (inl same) = subst (λ (p : PlacedAt). IsFor z p.rid p.place) same (each u (inl refl))
placed_fit z (u ∷ us) each at (inr more) = placed_fit z us (λ c among. each c (inr among)) at more

of_writes : (us : List Write) → map (λ (at : PlacedAt). at.rid) (placed_of us) ≡ map (λ (write : ℕ × Option (List ℕ)). write.0) (written_values us)
of_writes [] = refl
of_writes (u ∷ us) = ap (λ (rids : List ℕ). u.record_number ∷ rids) (of_writes us)

pub have_places : (z : Size) (us : List Write) (writes : List (ℕ × Option (List ℕ))) → ((u : Write) → Among u us → IsFor z u.record_number u.place) → written_values us ≡ writes → HavePlaces z writes (placed_of us)
have_places z us writes each values = subst (λ (ws : List (ℕ × Option (List ℕ))). HavePlaces z ws (placed_of us)) values (record { of_each = of_writes us; each = placed_fit z us each })

-- ---- what was come upon

-- each was put so
put_one : (z : Size) (stamp : ℕ) (u : Write) (v w : View) → LinksOne z stamp u v w → Puts z stamp (at_of u) (observed_of v) (observed_of w)
put_one z stamp u v w l = record {
  first = first_in_turn z v.places.last_pool;
  tried = l.takes.earlier;
  later = l.takes.later;
  turn = l.takes.turn;
  met = l.takes.lost;
  not_free = l.takes.not_free;
  descends = subst (λ (n : ℕ). DescendsTo n u.record_number v.seen.loads (v.seen.lost ++ l.takes.lost) w.seen.loads w.seen.lost) l.at
      (subst (λ (t : View). DescendsTo u.stamp u.record_number t.seen.loads t.seen.lost w.seen.loads w.seen.lost) l.takes.takes.view l.linked.descends);
}

pub each_puts : (z : Size) (stamp : ℕ) (us : List Write) (v w : View) → LinksEach z stamp us v w → OneByOne (Puts z stamp) (placed_of us) (observed_of v) (observed_of w)
each_puts z stamp _ _ _ (none_yet v) = none_yet (observed_of v)
each_puts z stamp _ _ _ (one_more_linked us u v w x each l) =
    subst (λ (ps : List PlacedAt). OneByOne (Puts z stamp) ps (observed_of v) (observed_of x)) (sym (map_push at_of us u))
    (one_more_linked (placed_of us) (at_of u) (observed_of v) (observed_of w) (observed_of x) (each_puts z stamp us v w each) (put_one z stamp u w x l))

-- as a post shows it
pub puts_told : {z z' : Size} {n n' : ℕ} {ps ps' : List PlacedAt} {a a' b : Observed} → OneByOne (Puts z n) ps a b → z ≡ z' → n ≡ n' → ps ≡ ps' → a ≡ a' → OneByOne (Puts z' n') ps' a' b
puts_told {z} {z'} {n} {n'} {ps} {ps'} {a} {a'} {b} each size stamp placed from =
    subst (λ (x : Size). OneByOne (Puts x n') ps' a' b) size
    (subst (λ (k : ℕ). OneByOne (Puts z k) ps' a' b) stamp
    (subst (λ (qs : List PlacedAt). OneByOne (Puts z n) qs a' b) placed (subst (λ (o : Observed). OneByOne (Puts z n) ps o b) from each)))

-- what was come upon has grown by it
pub put_grows : (z : Size) (stamp : ℕ) (at : PlacedAt) (a b : Observed) → Puts z stamp at a b → observing.Grows a b
put_grows z stamp at a b p =
    let d = p.descends in record {
      loaded = d.loaded ++ load (wts d.place) d.version ∷ [];
      missed = p.met ++ d.missed;
      loads = d.loads;
      lost = d.lost ∙ append_assoc a.lost p.met d.missed;
    }

pub puts_grow : (z : Size) (stamp : ℕ) (ps : List PlacedAt) (a b : Observed) → OneByOne (Puts z stamp) ps a b → observing.Grows a b
puts_grow z stamp _ _ _ (none_yet a) = grows_none a
puts_grow z stamp _ _ _ (one_more_linked ps p a b c each put) = grows_both a b c (puts_grow z stamp ps a b each) (put_grows z stamp p b c put)

-- and where there was no place for the next one
none_grows : (z : Size) (rid : ℕ) (a b : Observed) → TriesAll z rid a b → observing.Grows a b
none_grows z rid a b f = record { loaded = []; missed = f.met; loads = ap (λ (o : Observed). o.loads) f.after ∙ sym (append-nil a.loads); lost = ap (λ (o : Observed). o.lost) f.after }

pub wants_grows : (p q : PostView) → WantsPlaceAt p q → observing.Grows p.observed q.observed
wants_grows p q w = grows_both p.observed w.between q.observed (puts_grow p.shared.size p.stamp q.placed p.observed w.between w.puts) (none_grows p.shared.size w.write.0 w.between q.observed w.none)

-- nothing of it has changed
pub placed_kept : (hand hand' : Seated) (us : List Write) → hand'.view.size ≡ hand.view.size → hand'.view.counts ≡ hand.view.counts → ArePlaced hand us → ArePlaced hand' us
placed_kept hand hand' us size counts is = rw (size, counts) is

-- as a post shows it
pub placed_shown : (hand : Seated) (us : List Write) (records inlined : ℕ) (writes : List (ℕ × Option (List ℕ))) (known : Bounds) → ArePlaced hand us → written_values us ≡ writes → bounds_in hand ≡ known → records ≡ hand.view.size.records → inlined ≡ count_below records us
    → AreBounded (bounds_before (length writes) known) writes → inlined + count_raised (bounds_before (length writes) known) known writes ≡ length writes
placed_shown hand us records inlined writes known placed values is size count =
    let P : ℕ → Type 0 = λ n. AreBounded (bounds_before n (bounds_in hand)) (written_values us) → count_below hand.view.size.records us + count_raised (bounds_before n (bounds_in hand)) (bounds_in hand) (written_values us) ≡ n in
    let long : P (length (written_values us)) = subst P (sym (length-written us)) placed in
    let Q : List (ℕ × Option (List ℕ)) → Bounds → Type 0 = λ ws k. AreBounded (bounds_before (length ws) k) ws → inlined + count_raised (bounds_before (length ws) k) k ws ≡ length ws in
    let counted : inlined ≡ count_below hand.view.size.records us = count ∙ ap (λ n. count_below n us) size in
    let first : Q (written_values us) (bounds_in hand) = λ had. ap (λ n. n + count_raised (bounds_before (length (written_values us)) (bounds_in hand)) (bounds_in hand) (written_values us)) counted ∙ long had in
    subst (λ k. Q writes k) is (subst (λ ws. Q ws (bounds_in hand)) values first)
