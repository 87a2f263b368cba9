-- Places tried in turn, one after another.
use Rattle.std.proofs.Common.{◌≡◌, ◌≢◌, ℕ, zero, suc, ◌+◌, ◌-◌, ◌<◌, ◌≤◌, ◌⊎◌, Bool, true, false, ◌&&◌, cond, eqb, Option, Some, None, IfSome, IfNone, List, [], ◌∷◌, ◌++◌, refl, sym, ap, ◌∙◌, subst, inl, inr, arith, eqb-true, eq-eqb, append_assoc, length, rules}
use Rattle.std.proofs.lemmas.List.{append-nil}
use Rattle.std.proofs.lemmas.Bool.Decides.{leb_tells, nat_tests}
use Rattle.std.specs.List.{range_with_len}
use Rattle.word_layout.specs.Name.{status}
use Rattle.word_layout.specs.Size.{Size, IsUsable, places, reserved_place}
use Rattle.core_rule.specs.View.{View, Load}
use Rattle.core_rule.specs.Views.{Has}
use Rattle.core_rule.specs.Holding.{is_usable}
use Rattle.core_rule.specs.Kinds.{take, after}
use Rattle.plain_data.specs.State.{State}
use Rattle.core_rule.specs.Hands.{Seated, Takes, LooksAt}
use Rattle.core_rule.specs.Reckoning.{Reckons}
use Rattle.version_pool.specs.Takes.{first_in_turn, usable_from, usable_in_turn, IsLostOn, AreLostOn, after_losing, after_taking, TakesFree, TakesFirst, FindsNone, WasMet}

pub range_with_len-split : (a m n k b : ℕ) → b ≡ a + m → k ≡ m + n → range_with_len a k ≡ range_with_len a m ++ range_with_len b n
range_with_len-split a zero n k b at all =
    let e : b ≡ a = omega arith in let f : k ≡ n = omega arith in ap (λ (i : ℕ). range_with_len i k) (sym e) ∙ ap (range_with_len b) f
range_with_len-split a (suc m) n k b at all =
    let f : k ≡ suc (m + n) = omega arith in
    ap (range_with_len a) f ∙ ap (λ (ps : List ℕ). a ∷ ps) (range_with_len-split (a + 1) m n (m + n) b (omega arith) refl)

-- one place more, and then the others
pub range_with_len-more : (from place : ℕ) → from ≤ place → range_with_len from (place + 1 - from) ≡ range_with_len from (place - from) ++ place ∷ []
range_with_len-more from place low = range_with_len-split from (place - from) 1 (place + 1 - from) place (omega arith) (omega arith)

pub range_with_len-rest : (from place to : ℕ) → from ≤ place → place < to
    → range_with_len from (to - from) ≡ (range_with_len from (place - from) ++ place ∷ []) ++ range_with_len (place + 1) (to - (place + 1))
range_with_len-rest from place to low high =
    range_with_len-split from (place - from) (suc (to - (place + 1))) (to - from) place (omega arith) (omega arith)
    ∙ sym (append_assoc (range_with_len from (place - from)) (place ∷ []) (range_with_len (place + 1) (to - (place + 1))))

pub Has-range_with_len : (p a n : ℕ) → a ≤ p → p < a + n → Has p (range_with_len a n)
Has-range_with_len p a zero low high = absurd (omega arith)
Has-range_with_len p a (suc n) low high =
    elim (eqb a p) as (λ (b : Bool). eqb a p ≡ b → (a ≡ p) ⊎ Has p (range_with_len (a + 1) n)) [
      | true ↦ λ e. inl (eqb-true a p e)
      | false ↦ λ e. inr (let ne : a ≢ p = λ same. let t = eq-eqb a p same in cc in Has-range_with_len p (a + 1) n (omega arith) (omega arith))
    ] refl

pub Has-append_left : (p : ℕ) (xs ys : List ℕ) → Has p xs → Has p (xs ++ ys)
Has-append_left p [] ys h = absurd h
Has-append_left p (x ∷ xs) ys (inl e) = inl e
Has-append_left p (x ∷ xs) ys (inr h) = inr (Has-append_left p xs ys h)

pub Has-append_right : (p : ℕ) (xs ys : List ℕ) → Has p ys → Has p (xs ++ ys)
Has-append_right p [] ys h = h
Has-append_right p (x ∷ xs) ys h = inr (Has-append_right p xs ys h)

-- each usable place has its turn
pub Has-usable_from : (z : Size) (start p : ℕ) → z.records ≤ start → start ≤ reserved_place z → IsUsable z p → Has p (usable_from z start)
Has-usable_from z start p low high usable =
    elim (leb_tells start p) [
      | inl above ↦ let at : start ≤ p = above.1 in Has-append_left p upper lower (Has-range_with_len p start (reserved_place z - start) at (omega arith))
      | inr below ↦ let at : p < start = below.1 in Has-append_right p upper lower (Has-range_with_len p z.records (start - z.records) usable.0 (omega arith))
    ] where
      upper : List ℕ
      upper = range_with_len start (reserved_place z - start)

      lower : List ℕ
      lower = range_with_len z.records (start - z.records)

pub AreLostOn-append : (ps qs : List ℕ) (ls ms : List Load) → AreLostOn ps ls → AreLostOn qs ms → AreLostOn (ps ++ qs) (ls ++ ms)
AreLostOn-append [] qs [] ms h k = k
AreLostOn-append [] qs (l ∷ ls) ms h k = absurd h
AreLostOn-append (p ∷ ps) qs [] ms h k = absurd h
AreLostOn-append (p ∷ ps) qs (l ∷ ls) ms h k = (h.0, AreLostOn-append ps qs ls ms h.1 k)

pub after_losing-after_losing : (v : View) (ls ms : List Load) → after_losing (after_losing v ls) ms ≡ after_losing v (ls ++ ms)
after_losing-after_losing v ls ms =
    ap (λ (all : List Load). record v { seen = record v.seen { lost = all } }) (append_assoc v.seen.lost ls ms)

pub after_losing-nil : (v : View) → after_losing v [] ≡ v
after_losing-nil v = ap (λ (all : List Load). record v { seen = record v.seen { lost = all } }) (append-nil v.seen.lost)

-- one exchange, by whether it found a free place
abbrev after_test : View → (place n : ℕ) → Bool → View
after_test v place n b = record v {
  places = record v.places {
    held = cond b (place ∷ v.places.held) v.places.held;
    last_pool = cond (b && is_usable v.size place) (Some place) v.places.last_pool;
  };
  seen = record v.seen { lost = v.seen.lost ++ cond b [] (record { word = status place; number = n } ∷ []) };
}

ne_from_zero : (n : ℕ) → n ≢ 0 → eqb n 0 ≡ false
ne_from_zero n h = grind (arith, nat_tests)

pub after-lost : (v : View) (place n : ℕ) → n ≢ 0 → after (take place) v n ≡ after_losing v (record { word = status place; number = n } ∷ [])
after-lost v place n h = ap (after_test v place n) (ne_from_zero n h)

pub after-won : (v : View) (place n : ℕ) → n ≡ 0 → after (take place) v n ≡ after_taking v place
after-won v place n h =
    ap (after_test v place n) (ap (λ (k : ℕ). eqb k 0) h)
    ∙ ap (λ (all : List Load). record (after_taking v place) { seen = record v.seen { lost = all } }) (append-nil v.seen.lost)

-- an exchange that was lost, and one that was won
pub FindsNone-one : {kept : State → Type 0} (place : ℕ) (before : Seated) (won : Bool) (after' : Seated) → Takes kept place before won after' → won ≡ false → FindsNone (place ∷ []) before.view after'.view
FindsNone-one {kept} place before won after' t is = record {
  lost = record { word = status place; number = t.found } ∷ [];
  not_free = (record { word = refl; not_free = not_free }, tt);
  view = t.step.view ∙ after-lost before.view place t.found not_free;
} where
  not_free : t.found ≢ 0
  not_free = λ e. let w = t.free_is.1 e in let f = is in search rules

pub TakesFree-one : {kept : State → Type 0} (place : ℕ) (before : Seated) (won : Bool) (after' : Seated) → Takes kept place before won after' → won ≡ true → TakesFree place before.view after'.view
TakesFree-one {kept} place before won after' t is = record {
  view = t.step.view ∙ after-won before.view place t.found free;
  not_held = t.step.learnt.0 free;
} where
  free : t.found ≡ 0
  free = t.free_is.0 (search rules)

-- what an exchange tells of the number of places, whether it was won or lost, and a load
pub takes_since : {kept : State → Type 0} (place : ℕ) (before : Seated) (won : Bool) (after' : Seated) → Takes kept place before won after' → before.view.seen.since ≤ length before.view.seen.lost
takes_since {kept} place before won after' t = t.step.learnt.1

pub looks_counted : {kept : State → Type 0} (place : ℕ) (before : Seated) (free : Bool) (after' : Seated) → LooksAt kept place before free after' → Reckons after'.view
looks_counted {kept} place before free after' t = subst Reckons (sym t.step.view) t.step.learnt.1

pub takes_counted : {kept : State → Type 0} (place : ℕ) (before : Seated) (won : Bool) (after' : Seated) → Takes kept place before won after' → Reckons after'.view
takes_counted {kept} place before won after' t = subst Reckons (sym t.step.view) t.step.learnt.2

pub TakesFirst-one : (place : ℕ) (v w : View) → TakesFree place v w → TakesFirst (place ∷ []) v place w
TakesFirst-one place v w t = record {
  earlier = [];
  later = [];
  turn = refl;
  lost = [];
  not_free = tt;
  takes = subst (λ (u : View). TakesFree place u w) (sym (after_losing-nil v)) t;
}

pub FindsNone-append : (ps qs : List ℕ) (u v w : View) → FindsNone ps u v → FindsNone qs v w → FindsNone (ps ++ qs) u w
FindsNone-append ps qs u v w first second = record {
  lost = first.lost ++ second.lost;
  not_free = AreLostOn-append ps qs first.lost second.lost first.not_free second.not_free;
  view = second.view ∙ ap (λ (x : View). after_losing x second.lost) first.view ∙ after_losing-after_losing u first.lost second.lost;
}

pub TakesFirst-after : (ps qs : List ℕ) (place : ℕ) (u v w : View) → FindsNone ps u v → TakesFirst qs v place w → TakesFirst (ps ++ qs) u place w
TakesFirst-after ps qs place u v w first second = record {
  earlier = ps ++ second.earlier;
  later = second.later;
  turn = ap (λ (rest : List ℕ). ps ++ rest) second.turn ∙ sym (append_assoc ps second.earlier (place ∷ second.later));
  lost = first.lost ++ second.lost;
  not_free = AreLostOn-append ps second.earlier first.lost second.lost first.not_free second.not_free;
  takes = subst (λ (x : View). TakesFree place x w) (ap (λ (x : View). after_losing x second.lost) first.view ∙ after_losing-after_losing u first.lost second.lost) second.takes;
}

pub TakesFirst-before : (ps qs : List ℕ) (place : ℕ) (v w : View) → TakesFirst ps v place w → TakesFirst (ps ++ qs) v place w
TakesFirst-before ps qs place v w first = record {
  earlier = first.earlier;
  later = first.later ++ qs;
  turn = ap (λ (all : List ℕ). all ++ qs) first.turn ∙ append_assoc first.earlier (place ∷ first.later) qs;
  lost = first.lost;
  not_free = first.not_free;
  takes = first.takes;
}

-- a place that was met not free
record Among (place : ℕ) (ls : List Load) : Type 0 where
  pub earlier : List Load
  pub exchange : Load
  pub later : List Load
  pub not_free : IsLostOn place exchange
  pub at : ls ≡ earlier ++ exchange ∷ later

among : (place : ℕ) (ps : List ℕ) (ls : List Load) → AreLostOn ps ls → Has place ps → Among place ls
among place [] ls h has = absurd has
among place (p ∷ ps) [] h has = absurd h
among place (p ∷ ps) (l ∷ ls) h (inl e) = record {
  earlier = [];
  exchange = l;
  later = ls;
  not_free = subst (λ (q : ℕ). IsLostOn q l) e h.0;
  at = refl;
}
among place (p ∷ ps) (l ∷ ls) h (inr has) =
    let a = among place ps ls h.1 has in
    record {
      earlier = l ∷ a.earlier;
      exchange = a.exchange;
      later = a.later;
      not_free = a.not_free;
      at = ap (λ (rest : List Load). l ∷ rest) a.at;
    }

was_met : (place : ℕ) (v w : View) (ls : List Load) → w.seen.lost ≡ v.seen.lost ++ ls → Among place ls → WasMet place v w
was_met place v w ls e a = record {
  earlier = a.earlier;
  exchange = a.exchange;
  later = a.later;
  not_free = a.not_free;
  seen = e ∙ ap (λ (all : List Load). v.seen.lost ++ all) a.at;
}

pub WasMet-none : (place : ℕ) (ps : List ℕ) (v w : View) → FindsNone ps v w → Has place ps → WasMet place v w
WasMet-none place ps v w none has = was_met place v w none.lost (ap (λ (x : View). x.seen.lost) none.view) (among place ps none.lost none.not_free has)

pub WasMet-first : (place p : ℕ) (ps : List ℕ) (v w : View) → (t : TakesFirst ps v p w) → Has place t.earlier → WasMet place v w
WasMet-first place p ps v w t has = was_met place v w t.lost (ap (λ (x : View). x.seen.lost) t.takes.view) (among place t.earlier t.lost t.not_free has)

pub WasMet-missed : (place p : ℕ) (ps qs : List ℕ) (u v w : View) → FindsNone ps u v → TakesFirst qs v p w → Has place ps → WasMet place u w
WasMet-missed place p ps qs u v w first t has = was_met place u w (first.lost ++ t.lost)
    (ap (λ (x : View). x.seen.lost) t.takes.view ∙ ap (λ (x : View). x.seen.lost ++ t.lost) first.view ∙ append_assoc u.seen.lost first.lost t.lost)
    (among place (ps ++ t.earlier) (first.lost ++ t.lost) (AreLostOn-append ps t.earlier first.lost t.lost first.not_free t.not_free) (Has-append_left place ps t.earlier has))

-- the same, where a call answers whether it took one
pub IfSome-after : (ps qs : List ℕ) (u v w : View) (r : Option ℕ) → FindsNone ps u v → IfSome r (λ place. TakesFirst qs v place w) → IfSome r (λ place. TakesFirst (ps ++ qs) u place w)
IfSome-after ps qs u v w None first second = tt
IfSome-after ps qs u v w (Some place) first second = TakesFirst-after ps qs place u v w first second

pub IfNone-append : (ps qs : List ℕ) (u v w : View) (r : Option ℕ) → FindsNone ps u v → IfNone r (FindsNone qs v w) → IfNone r (FindsNone (ps ++ qs) u w)
IfNone-append ps qs u v w None first second = FindsNone-append ps qs u v w first second
IfNone-append ps qs u v w (Some place) first second = tt

-- the turn of the usable places, by the numbers that a call has
pub usable_from-by : (z layout : Size) (start all records : ℕ) → layout ≡ z → all ≡ places layout → records ≡ layout.records
    → range_with_len start (all - 1 - start) ++ range_with_len records (start - records) ≡ usable_from z start
usable_from-by z layout start all records same all_is records_is =
    ap (λ (n : ℕ). range_with_len start (n - 1 - start) ++ range_with_len records (start - records)) (all_is ∙ ap places same)
    ∙ ap (λ (r : ℕ). range_with_len start (reserved_place z - start) ++ range_with_len r (start - r)) (records_is ∙ ap (λ (x : Size). x.records) same)

pub usable_in_turn-by : (z layout : Size) (last own : Option ℕ) (start : ℕ) → layout ≡ z → start ≡ first_in_turn layout last → last ≡ own → usable_from z start ≡ usable_in_turn z own
usable_in_turn-by z layout last own start same start_is last_is =
    ap (usable_from z) (start_is ∙ ap (λ (x : Size). first_in_turn x last) same ∙ ap (first_in_turn z) last_is)
