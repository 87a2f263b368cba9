-- Which records a pass accounts for, before and after a call.
use Rattle.std.proofs.Common.{◌≡◌, ℕ, ◌+◌, ◌-◌, ⊎_elim, zero, suc, ◌<◌, ◌≤◌, true, false, Bool, cond, not, eqb, eqb-true, eq-eqb, List, [], ◌∷◌, ◌++◌, Option, None, Some, refl, sym, ap, ◌∙◌, subst, inl, inr, ◌⊎◌, arith, length, take, drop, remove, Contains}
use Rattle.std.specs.Prelude.{IsSome, is_some, nat_lt, nat_le, ◌&&◌, ◌||◌, slice_get}
use Rattle.std.specs.List.{list_any, range_with_len}
use Rattle.std.proofs.lemmas.List.Elements.{Contains-push, Contains-append_left, Contains-push_cases}
use Rattle.std.proofs.lemmas.Bool.{le-leb, le-ltb, ltb-false, not-true, not_from_false, cases_Bool, and_parts, and_from, or_cases, or_left, or_right}
use Rattle.std.proofs.lemmas.Bool.Decides.{eqb_tells}
use Rattle.std.proofs.lemmas.List.Folds.{list_any-append, Any-from_list_any, list_any-from_Any}
use Rattle.std.proofs.lemmas.Map.Views.{any-filter_same}
use Rattle.plain_data.specs.declared.entry.Entry.{Entry}
use Rattle.plain_data.specs.State.{State}
use Rattle.histories.specs.History.{Lawful, Writes, IsLastWrite, IsValue}
use Rattle.histories.proofs.States.{IsValue-same}
use Rattle.histories.proofs.Lists.{Contains-nil, Contains-head, Contains-tail, Contains-cases}
use Rattle.record_store.specs.Meaning.{value_at}
use Rattle.seat_post.specs.Seats.{Bounds, is_alone_at}
use Rattle.spare_numbers.specs.Spare.{is_on, holds, is_deletion, unused, added, with_deleted, spare_after, written_of, struck_before}
use Rattle.spare_numbers.proofs.NumberLists.{on_parts}
use Rattle.txn_engine.specs.Fresh.{AreWritten, struck_to}
use Rattle.txn_engine.specs.Rescan.{rescanned}
use Rattle.stamp_base.specs.Stamp.{bound_of_clock}
use Rattle.txn_engine.specs.Pass.{PassView, IsAlone, first_pass, with_log, observing, frame, with_bounds, entry_of, decided, published, committed, EngineView, engine_of}
use Rattle.seat_post.specs.Logs.{IsAbove}
use Rattle.seat_post.specs.Leaves.{IsPresent, LeavesAs, AreAbsent}
use Rattle.txn_engine.specs.Leaves.{HoldsAbsent, NoneRemains}
use Rattle.txn_engine.specs.Accounts.{writes_at, gives_at, is_present, accounted, KeepsAbsent}
use Rattle.seat_post.proofs.Listed.{known_head, known_tail}
use Rattle.seat_post.proofs.Leaving.{among_of, leaves_one, present_all}

-- ---- the log, as it is computed and as it stands

-- some element passes a test
any_found : {A : Type 0} (test : A → Bool) (xs : List A) → list_any test xs ≡ true → (x : A) × Contains xs x × (test x ≡ true)
any_found test xs on = let h = Any-from_list_any test xs on in (h.1, (h.0, h.2, h.3), h.4)

pub any_shown : {A : Type 0} (test : A → Bool) (xs : List A) (x : A) → Contains xs x → test x ≡ true → list_any test xs ≡ true
any_shown test xs x there on = list_any-from_Any test xs (there.0, x, there.1, there.2, on)

writes_told : (r : ℕ) (e : Entry) → writes_at r e ≡ true → Writes r e
writes_told r e on =
    let h = and_parts (not e.snapshot) _ on in
    let w = any_found (λ (write : ℕ × Option (List ℕ)). eqb r write.0) e.writes h.1 in
    record { commit = not-true e.snapshot h.0; at = (w.1.0, w.0, w.1.1, w.1.2, sym (eqb-true r w.0.0 w.2)) }

writes_shown : (r : ℕ) (e : Entry) → Writes r e → writes_at r e ≡ true
writes_shown r e w =
    let at = w.at in
    and_from (not e.snapshot) _ (not_from_false e.snapshot w.commit) (any_shown (λ (write : ℕ × Option (List ℕ)). eqb r write.0) e.writes at.1 (at.0, at.2, at.3) (eq-eqb r at.1.0 (sym at.4)))

some_of : (value : Option (List ℕ)) → is_some value ≡ true → (words : List ℕ) × (value ≡ Some words)
some_of None on = cc
some_of (Some words) on = (words, refl)

gives_told : (r : ℕ) (e : Entry) → gives_at r e ≡ true → (e.snapshot ≡ false) × ((words : List ℕ) × Contains e.writes (r, Some words))
gives_told r e on =
    let h = and_parts (not e.snapshot) _ on in
    let w = any_found (λ (write : ℕ × Option (List ℕ)). eqb r write.0 && is_some write.1) e.writes h.1 in
    let at = and_parts (eqb r w.0.0) _ w.2 in
    let some = some_of w.0.1 at.1 in
    (not-true e.snapshot h.0, (some.0, subst (λ (x : ℕ × Option (List ℕ)). Contains e.writes x) (λ i. (sym (eqb-true r w.0.0 at.0) i, some.1 i)) w.1))

gives_shown : (r : ℕ) (e : Entry) (words : List ℕ) → e.snapshot ≡ false → Contains e.writes (r, Some words) → gives_at r e ≡ true
gives_shown r e words commit there =
    and_from (not e.snapshot) _ (not_from_false e.snapshot commit) (any_shown (λ (write : ℕ × Option (List ℕ)). eqb r write.0 && is_some write.1) e.writes (r, Some words) there (and_from (eqb r r) true (eq-eqb r r refl) refl))

pub present_told : (log : List Entry) (r : ℕ) → is_present log r ≡ true → IsPresent log r
present_told log r on =
    let e = any_found (λ (e : Entry). gives_at r e && not (list_any (λ (later : Entry). writes_at r later && nat_lt e.stamp later.stamp) log)) log on in
    let h = and_parts (gives_at r e.0) _ e.2 in
    let gives = gives_told r e.0 h.0 in
    let none = not-true _ h.1 in (
      gives.1.0,
      inl (
        e.0,
        record {
          there = e.1;
          commit = gives.0;
          value = gives.1.1;
          last = λ other there writes. elim (cases_Bool (nat_lt e.0.stamp other.stamp)) as (λ _. other.stamp ≤ e.0.stamp) [
            | inl later ↦ (let found = any_shown (λ (x : Entry). writes_at r x && nat_lt e.0.stamp x.stamp) log other there (and_from (writes_at r other) _ (writes_shown r other writes) later) in let bad : true ≡ false = sym found ∙ none in cc)
            | inr off ↦ ltb-false e.0.stamp other.stamp off
          ];
        },
      ),
    )

pub present_shown : (log : List Entry) (r : ℕ) → IsPresent log r → is_present log r ≡ true
present_shown log r present = by_value present.1 where
  by_value : IsValue (Contains log) r (Some present.0) → is_present log r ≡ true
  by_value (inr none) = absurd (let e : Some present.0 ≡ None = none.0 in cc)
  by_value (inl found) = any_shown (λ (e : Entry). gives_at r e && not (list_any (λ (later : Entry). writes_at r later && nat_lt e.stamp later.stamp) log)) log found.0 found.1.there
      (and_from (gives_at r found.0) _ (gives_shown r found.0 present.0 found.1.commit found.1.value) (not_from_false _ (none_later found.0 found.1))) where
        none_later : (e : Entry) → IsLastWrite (Contains log) r (Some present.0) e → list_any (λ (later : Entry). writes_at r later && nat_lt e.stamp later.stamp) log ≡ false
        none_later e last = elim (cases_Bool (list_any (λ (later : Entry). writes_at r later && nat_lt e.stamp later.stamp) log)) as (λ _. list_any (λ (later : Entry). writes_at r later && nat_lt e.stamp later.stamp) log ≡ false) [
          | inr off ↦ off
          | inl on ↦ (
              let x = any_found (λ (later : Entry). writes_at r later && nat_lt e.stamp later.stamp) log on in
              let h = and_parts (writes_at r x.0) _ x.2 in
              let le = last.last x.0 x.1 (writes_told r x.0 h.0) in
              let bad : true ≡ false = sym h.1 ∙ le-ltb e.stamp x.0.stamp le in
              cc)
        ]

-- ---- spare numbers given out and struck off

or_swap : (a b c : Bool) → (a || (b || c)) ≡ (b || (a || c))
or_swap true true c = refl
or_swap true false c = refl
or_swap false true c = refl
or_swap false false c = refl

-- the list with one number less
pub on_removed : (xs : List ℕ) (i rid r : ℕ) → slice_get xs i ≡ Some rid → is_on xs r ≡ (eqb r rid || is_on (remove xs i) r)
on_removed [] i rid r at = cc
on_removed (x ∷ xs) zero rid r at = let same : x ≡ rid = cc in ap (λ n. eqb r n || is_on xs r) same
on_removed (x ∷ xs) (suc i) rid r at = ap (λ b. eqb r x || b) (on_removed xs i rid r at) ∙ or_swap (eqb r x) (eqb r rid) (is_on (remove xs i) r)

given_bools : (a x e y p : Bool) → (not a || (((x || (e || false)) || y) || p)) ≡ (not a || ((x || (e || y)) || p))
given_bools false x e y p = refl
given_bools true true e y p = refl
given_bools true false true y p = refl
given_bools true false false y p = refl

passed_bools : (a x w y z p : Bool) → (a ≡ true → y ≡ true → (w ≡ true) ⊎ (p ≡ true)) → (not a || ((x || ((w && y) || z)) || p)) ≡ (not a || ((x || (y || z)) || p))
passed_bools false x w y z p here = refl
passed_bools true true w y z p here = refl
passed_bools true false true y z p here = refl
passed_bools true false false false z p here = refl
passed_bools true false false true z p here = ⊎_elim (λ (no : false ≡ true). cc) (λ (on : p ≡ true). or_right z p on) (here refl refl)

each_same : (f g : ℕ → Bool) → ((r : ℕ) → f r ≡ g r) → f ≡ g
each_same f g same = λ j. λ r. same r j

pub accounted_given : (p : PassView) (i rid : ℕ) → slice_get p.spare i ≡ Some rid → accounted (record p { spare = remove p.spare i; given = p.given ++ rid ∷ [] }) ≡ accounted p
accounted_given p i rid at = each_same _ _ (λ r.
    let a = is_alone_at p.shared.size p.seat p.others in
    let here = list_any-append (eqb r) (p.given ++ rid ∷ []) (remove p.spare i) ∙ ap (λ b. b || is_on (remove p.spare i) r) (list_any-append (eqb r) p.given (rid ∷ [])) in
    let there = list_any-append (eqb r) p.given p.spare ∙ ap (λ b. is_on p.given r || b) (on_removed p.spare i rid r at) in
    ap (λ b. not a || (b || is_present p.log r)) here ∙ given_bools a (is_on p.given r) (eqb r rid) (is_on (remove p.spare i) r) (is_present p.log r) ∙ sym (ap (λ b. not a || (b || is_present p.log r)) there))

-- the numbers before a place that are not written are struck off, where each of them is one of a record that is present
pub accounted_struck : (p : PassView) (i : ℕ) → (IsAlone p → (r : ℕ) → is_on (take i p.spare) r ≡ true → IsSome (value_at p.writes r) ⊎ IsPresent p.log r) → accounted (struck_to p i) ≡ accounted p
accounted_struck p i held = each_same _ _ (λ r.
    let a = is_alone_at p.shared.size p.seat p.others in
    let passed = take i p.spare in
    let behind = drop i p.spare in
    let written = is_some (value_at p.writes r) in
    let kept : is_on (written_of p.writes passed) r ≡ (written && is_on passed r) = any-filter_same (eqb r) (λ n. is_some (value_at p.writes n)) written (λ k at. ap (λ n. is_some (value_at p.writes n)) (sym (eqb-true r k at))) passed in
    let here = list_any-append (eqb r) p.given (struck_before p.writes i p.spare) ∙ ap (λ b. is_on p.given r || b) (list_any-append (eqb r) (written_of p.writes passed) behind ∙ ap (λ b. b || is_on behind r) kept) in
    let there = list_any-append (eqb r) p.given p.spare ∙ ap (λ b. is_on p.given r || b) (on_parts p.spare i r) in
    let on : a ≡ true → is_on passed r ≡ true → (written ≡ true) ⊎ (is_present p.log r ≡ true) = λ alone listed. ⊎_elim (λ (some : IsSome (value_at p.writes r)). inl some) (λ (present : IsPresent p.log r). inr (present_shown p.log r present)) (held alone r listed) in
    ap (λ b. not a || (b || is_present p.log r)) here ∙ passed_bools a (is_on p.given r) written (is_on passed r) (is_on behind r) (is_present p.log r) on ∙ sym (ap (λ b. not a || (b || is_present p.log r)) there))

-- ---- absent records

told_bools : (a b p : Bool) → a ≡ true → (not a || (b || p)) ≡ true → (b ≡ true) ⊎ (p ≡ true)
told_bools true b p alone on = or_cases b p on
told_bools false b p alone on = cc

shown_bools : (a b p : Bool) → (b ≡ true) ⊎ (p ≡ true) → (not a || (b || p)) ≡ true
shown_bools a b p on = or_right (not a) _ (⊎_elim (or_left b p) (or_right b p) on)

-- a pass that is alone holds the absent records after each call of a transaction
pub absent_stays : (p q : PassView) → frame q ≡ frame p → accounted q ≡ accounted p → IsAlone p → HoldsAbsent p → HoldsAbsent q
absent_stays p q same_frame same_accounts alone absent r from within =
    let engine = ap engine_of same_frame in
    let fixed : q.fixed ≡ p.fixed = ap (λ (e : EngineView). e.fixed) engine in
    let records : q.shared.size.records ≡ p.shared.size.records = ap (λ (e : EngineView). e.size.records) engine in
    let was = elim (absent r (omega arith) (omega arith)) as (λ _. (is_on (p.given ++ p.spare) r ≡ true) ⊎ (is_present p.log r ≡ true)) [ inl on ↦ inl on | inr present ↦ inr (present_shown p.log r present) ] in
    let on : accounted q r ≡ true = ap (λ f. f r) same_accounts ∙ shown_bools (is_alone_at p.shared.size p.seat p.others) (is_on (p.given ++ p.spare) r) (is_present p.log r) was in
    let still : is_alone_at q.shared.size q.seat q.others ≡ true = ap (λ (f : PassView). is_alone_at f.shared.size f.seat f.others) same_frame ∙ alone in
    elim (told_bools (is_alone_at q.shared.size q.seat q.others) (is_on (q.given ++ q.spare) r) (is_present q.log r) still on) as (λ _. (is_on (q.given ++ q.spare) r ≡ true) ⊎ IsPresent q.log r) [
      | inl here ↦ inl here
      | inr present ↦ inr (present_told q.log r present)
    ]

pub keeps_absent : (begun : PassView) → KeepsAbsent begun
keeps_absent begun alone absent q same_frame same_accounts = absent_stays begun q same_frame same_accounts alone absent

-- a number of the list has its place there
on_at : (xs : List ℕ) (r : ℕ) → is_on xs r ≡ true → (k : ℕ) × (k < length xs) × (slice_get xs k ≡ Some r)
on_at [] r on = cc
on_at (x ∷ xs) r on = elim (or_cases (eqb r x) (is_on xs r) on) as (λ _. (k : ℕ) × (k < length (x ∷ xs)) × (slice_get (x ∷ xs) k ≡ Some r)) [
  | inl same ↦ (0, omega arith, ap (λ n. Some n) (sym (eqb-true r x same)))
  | inr more ↦ (let h = on_at xs r more in (suc h.0, omega arith, h.2))
]

-- where the transaction writes each spare number, none is left
pub none_remains : (p : PassView) → HoldsAbsent p → AreWritten p (length p.spare) → NoneRemains p
none_remains p absent written r from within = elim (absent r from within) as (λ _. (is_on p.given r ≡ true) ⊎ (IsSome (value_at p.writes r) ⊎ IsPresent p.log r)) [
  | inr present ↦ inr (inr present)
  | inl on ↦ elim (or_cases (is_on p.given r) (is_on p.spare r) (sym (list_any-append (eqb r) p.given p.spare) ∙ on)) as (λ _. (is_on p.given r ≡ true) ⊎ (IsSome (value_at p.writes r) ⊎ IsPresent p.log r)) [
    | inl given ↦ inl given
    | inr spare ↦ (let h = on_at p.spare r spare in inr (inl (written h.0 r h.1 h.2)))
  ]
]

-- ---- at the ends of a transaction

pub range_on : (a n r : ℕ) → a ≤ r → r < a + n → is_on (range_with_len a n) r ≡ true
range_on a zero r from below = absurd (omega arith)
range_on a (suc n) r from below = elim (eqb_tells r a) as (λ _. is_on (range_with_len a (suc n)) r ≡ true) [
  | inl t ↦ or_left (eqb r a) (is_on (range_with_len (a + 1) n) r) t.0
  | inr t ↦ or_right (eqb r a) (is_on (range_with_len (a + 1) n) r) (let apart = t.1 in range_on (a + 1) n r (omega arith) (omega arith))
]

-- the first pass holds all records from `fixed` on
pub absent_first : (e : EngineView) → HoldsAbsent (first_pass e)
absent_first e r from within = inl (range_on e.fixed (e.size.records - e.fixed) r from (omega arith))

kept_added : (xs : List ℕ) (y r : ℕ) → is_on xs r ≡ true → is_on (added xs y) r ≡ true
kept_added xs y r on = by_bool (is_on xs y) where
  by_bool : (b : Bool) → is_on (cond b xs (xs ++ y ∷ [])) r ≡ true
  by_bool true = on
  by_bool false = list_any-append (eqb r) xs (y ∷ []) ∙ or_left (is_on xs r) (is_on (y ∷ []) r) on

on_added : (xs : List ℕ) (r : ℕ) → is_on (added xs r) r ≡ true
on_added xs r = by_bool (is_on xs r) refl where
  by_bool : (b : Bool) → is_on xs r ≡ b → is_on (cond b xs (xs ++ r ∷ [])) r ≡ true
  by_bool true on = on
  by_bool false off = list_any-append (eqb r) xs (r ∷ []) ∙ or_right (is_on xs r) (is_on (r ∷ []) r) (or_left (eqb r r) false (eq-eqb r r refl))

kept_step : (b : Bool) (xs : List ℕ) (y r : ℕ) → is_on xs r ≡ true → is_on (cond b (added xs y) xs) r ≡ true
kept_step true xs y r on = kept_added xs y r on
kept_step false xs y r on = on

kept_deleted : (fixed : ℕ) (xs : List ℕ) (ws : List (ℕ × Option (List ℕ))) (r : ℕ) → is_on xs r ≡ true → is_on (with_deleted fixed xs ws) r ≡ true
kept_deleted fixed xs [] r on = on
kept_deleted fixed xs (w ∷ ws) r on =
    kept_deleted fixed (cond (is_deletion w.1 && nat_le fixed w.0) (added xs w.0) xs) ws r (kept_step (is_deletion w.1 && nat_le fixed w.0) xs w.0 r on)

on_step : (b : Bool) (xs : List ℕ) (r : ℕ) → b ≡ true → is_on (cond b (added xs r) xs) r ≡ true
on_step true xs r on = on_added xs r
on_step false xs r on = cc

-- a record that is deleted is on the list
on_deleted : (fixed : ℕ) (xs : List ℕ) (ws : List (ℕ × Option (List ℕ))) (r : ℕ) → fixed ≤ r → value_at ws r ≡ Some None → is_on (with_deleted fixed xs ws) r ≡ true
on_deleted fixed xs [] r from at = cc
on_deleted fixed xs (w ∷ ws) r from at = elim (eqb_tells r w.0) as (λ _. is_on (with_deleted fixed xs (w ∷ ws)) r ≡ true) [
  | inl t ↦ (
      let none : w.1 ≡ None = let e : cond true (Some w.1) (value_at ws r) ≡ Some None = subst (λ (b : Bool). cond b (Some w.1) (value_at ws r) ≡ Some None) t.0 at in cc in
      let on : (is_deletion w.1 && nat_le fixed w.0) ≡ true = and_from (is_deletion w.1) (nat_le fixed w.0) (ap is_deletion none) (le-leb fixed w.0 (let e = t.1 in omega arith)) in
      kept_deleted fixed (cond (is_deletion w.1 && nat_le fixed w.0) (added xs w.0) xs) ws r
      (subst (λ n. is_on (cond (is_deletion w.1 && nat_le fixed w.0) (added xs w.0) xs) n ≡ true) (sym t.1) (on_step (is_deletion w.1 && nat_le fixed w.0) xs w.0 on)))
  | inr t ↦ on_deleted fixed (cond (is_deletion w.1 && nat_le fixed w.0) (added xs w.0) xs) ws r from (subst (λ (b : Bool). cond b (Some w.1) (value_at ws r) ≡ Some None) t.0 at)
]

-- a spare number, or one given out, that is not written is a spare one
on_unused : (ws : List (ℕ × Option (List ℕ))) (given spare : List ℕ) (r : ℕ) → value_at ws r ≡ None → is_on (given ++ spare) r ≡ true → is_on (unused ws given ++ spare) r ≡ true
on_unused ws given spare r none on =
    let off : not (holds (value_at ws r)) ≡ true = ap (λ v. not (holds v)) none in
    let same : is_on (unused ws given) r ≡ (not (holds (value_at ws r)) && is_on given r) = any-filter_same (eqb r) (λ n. not (holds (value_at ws n))) (not (holds (value_at ws r))) (λ k at. ap (λ n. not (holds (value_at ws n))) (sym (eqb-true r k at))) given in
    let all : is_on (unused ws given) r ≡ is_on given r = same ∙ ap (λ b. b && is_on given r) off in
    list_any-append (eqb r) (unused ws given) spare ∙ ap (λ b. b || is_on spare r) all ∙ sym (list_any-append (eqb r) given spare) ∙ on

value_contained : (ws : List (ℕ × Option (List ℕ))) (r : ℕ) (value : Option (List ℕ)) → value_at ws r ≡ Some value → Contains ws (r, value)
value_contained [] r value at = cc
value_contained (w ∷ ws) r value at = elim (eqb_tells r w.0) as (λ _. Contains (w ∷ ws) (r, value)) [
  | inl t ↦ (
      let same : w.1 ≡ value = let e : cond true (Some w.1) (value_at ws r) ≡ Some value = subst (λ (b : Bool). cond b (Some w.1) (value_at ws r) ≡ Some value) t.0 at in cc in
      subst (λ (x : ℕ × Option (List ℕ)). Contains (w ∷ ws) x) (λ j. (sym t.1 j, same j)) (Contains-head w ws))
  | inr t ↦ Contains-tail w ws (r, value) (value_contained ws r value (subst (λ (b : Bool). cond b (Some w.1) (value_at ws r) ≡ Some value) t.0 at))
]

not_contained : (ws : List (ℕ × Option (List ℕ))) (r : ℕ) (w : ℕ × Option (List ℕ)) → value_at ws r ≡ None → Contains ws w → w.0 ≡ r → ⊥
not_contained [] r w none there is = Contains-nil w there
not_contained (x ∷ ws) r w none there is = ⊎_elim
    (λ (same : x ≡ w). known_head (eqb r x.0) x.1 (value_at ws r) (eq-eqb r x.0 (sym (ap (λ (y : ℕ × Option (List ℕ)). y.0) same ∙ is))) none)
    (λ (more : Contains ws w). not_contained ws r w (known_tail (eqb r x.0) x.1 (value_at ws r) none) more is) (Contains-cases x ws w there)

unwritten : (r : ℕ) (e : Entry) → value_at e.writes r ≡ None → Writes r e → ⊥
unwritten r e none w = let at = w.at in not_contained e.writes r at.1 none (at.0, at.2, at.3) at.4

-- with one more entry, at the end and above all others
module _ (log : List Entry) (e : Entry) (commit : e.snapshot ≡ false) (above : IsAbove log e.stamp) where
  still_present : (r : ℕ) → value_at e.writes r ≡ None → IsPresent log r → IsPresent (log ++ e ∷ []) r
  still_present r none present = (present.0, by_value present.1) where
    by_value : IsValue (Contains log) r (Some present.0) → IsValue (Contains (log ++ e ∷ [])) r (Some present.0)
    by_value (inr absent) = absurd (let h : Some present.0 ≡ None = absent.0 in cc)
    by_value (inl found) = inl (
      found.0,
      record {
        there = Contains-append_left log (e ∷ []) found.0 found.1.there;
        commit = found.1.commit;
        value = found.1.value;
        last = λ other there w. ⊎_elim (λ (old : Contains log other). found.1.last other old w) (λ (new : e ≡ other). absurd (unwritten r e none (subst (λ (x : Entry). Writes r x) (sym new) w))) (Contains-push_cases log e other there);
      },
    )

  now_present : (r : ℕ) (words : List ℕ) → value_at e.writes r ≡ Some (Some words) → IsPresent (log ++ e ∷ []) r
  now_present r words at = (
    words,
    inl (
      e,
      record {
        there = Contains-push log e;
        commit = commit;
        value = value_contained e.writes r (Some words) at;
        last = λ other there w. ⊎_elim (λ (old : Contains log other). let h = above other (among_of log other old) w.commit in omega arith) (λ (new : e ≡ other). let h = ap (λ (x : Entry). x.stamp) new in omega arith) (Contains-push_cases log e other there);
      },
    ),
  )

-- a commit entry that deletes spare records alone
pub absent_entered : (p : PassView) (e : Entry) → e.snapshot ≡ false → IsAbove p.log e.stamp
    → ((r : ℕ) → p.fixed ≤ r → r < p.shared.size.records → value_at e.writes r ≡ Some None → is_on (p.given ++ p.spare) r ≡ true) → HoldsAbsent p → HoldsAbsent (with_log p (p.log ++ e ∷ []))
absent_entered p e commit above spare absent r from within = by_write (value_at e.writes r) refl where
  by_write : (found : Option (Option (List ℕ))) → value_at e.writes r ≡ found → (is_on (p.given ++ p.spare) r ≡ true) ⊎ IsPresent (p.log ++ e ∷ []) r
  by_write None none = elim (absent r from within) as (λ _. (is_on (p.given ++ p.spare) r ≡ true) ⊎ IsPresent (p.log ++ e ∷ []) r) [ inl on ↦ inl on | inr present ↦ inr (still_present p.log e commit above r none present) ]
  by_write (Some None) at = inl (spare r from within at)
  by_write (Some (Some words)) at = inr (now_present p.log e commit above r words at)

-- a snapshot entry
pub absent_snapshot : (p : PassView) (e : Entry) → e.snapshot ≡ true → HoldsAbsent p → HoldsAbsent (with_log p (p.log ++ e ∷ []))
absent_snapshot p e snapshot absent r from within = elim (absent r from within) as (λ _. (is_on (p.given ++ p.spare) r ≡ true) ⊎ IsPresent (p.log ++ e ∷ []) r) [
  | inl on ↦ inl on
  | inr present ↦ inr (
    present.0,
    IsValue-same (Contains p.log) (Contains (p.log ++ e ∷ [])) r (Some present.0) (λ x commit at. Contains-append_left p.log (e ∷ []) x at)
        (λ x commit at. ⊎_elim (λ (old : Contains p.log x). old) (λ (new : e ≡ x). let bad : true ≡ false = sym snapshot ∙ ap (λ (y : Entry). y.snapshot) new ∙ commit in cc) (Contains-push_cases p.log e x at)) present.1,
  )
]

pub absent_published : (p : PassView) (before : List Entry) → p.log ≡ before ++ entry_of p ∷ [] → IsAbove before p.stamp → HoldsAbsent (with_log p before) → HoldsAbsent (published p)
absent_published p before log above absent r from within = by_write (value_at p.writes r) refl where
  now : IsPresent (before ++ entry_of p ∷ []) r → IsPresent p.log r
  now present = subst (λ (l : List Entry). IsPresent l r) (sym log) present

  by_write : (found : Option (Option (List ℕ))) → value_at p.writes r ≡ found → (is_on (spare_after p.fixed p.writes p.given p.spare) r ≡ true) ⊎ IsPresent p.log r
  by_write None none = elim (absent r from within) as (λ _. (is_on (spare_after p.fixed p.writes p.given p.spare) r ≡ true) ⊎ IsPresent p.log r) [
    | inl on ↦ inl (kept_deleted p.fixed (unused p.writes p.given ++ p.spare) p.writes r (on_unused p.writes p.given p.spare r none on))
    | inr present ↦ inr (now (still_present before (entry_of p) refl above r none present))
  ]
  by_write (Some None) at = inl (on_deleted p.fixed (unused p.writes p.given ++ p.spare) p.writes r from at)
  by_write (Some (Some words)) at = inr (now (now_present before (entry_of p) refl above r words at))

pub absent_committed : (p : PassView) (known : Bounds) → IsAbove p.log p.stamp → HoldsAbsent p → HoldsAbsent (committed (with_bounds p known))
absent_committed p known above absent = absent_published (decided (with_bounds p known)) p.log refl above absent

-- numbers that are those of the absent records
listed : (b : Bool) (log : List Entry) (r limit : ℕ) (spare : List ℕ) → is_on spare r ≡ b → IsAbove log limit → LeavesAs log r limit b → (is_on spare r ≡ true) ⊎ IsPresent log r
listed true log r limit spare is above left = inl is
listed false log r limit spare is above left = inr (present_all log r limit above left)

pub absent_rescanned : (p q : PassView) → q ≡ observing (rescanned p q.spare) q.observed → IsAbove p.log (bound_of_clock p.clock) → AreAbsent p.log q.published p.fixed p.shared.size.records q.spare → HoldsAbsent q
absent_rescanned p q is above absent = subst (λ (x : PassView). HoldsAbsent x) (sym is) (λ r from within. listed (is_on q.spare r) p.log r q.published q.spare refl published (absent.each r from within)) where
  published : IsAbove p.log q.published
  published e among commit = let low = above e among commit in let at = ap (λ (x : PassView). x.published) is in omega arith

-- where the log stands in a lawful history, a record of which it leaves no value is a spare one or given out
pub absent_on : (kept : State → Type 0) (records : ℕ) (history : List Entry) (p : PassView) → Lawful kept records history → ((e : Entry) → Contains p.log e → Contains history e) → HoldsAbsent p
    → (r : ℕ) → p.fixed ≤ r → r < p.shared.size.records → IsValue (Contains p.log) r None → is_on (p.given ++ p.spare) r ≡ true
absent_on kept records history p lawful own absent r from within none = elim (absent r from within) as (λ _. is_on (p.given ++ p.spare) r ≡ true) [
  | inl on ↦ on
  | inr present ↦ absurd (let same : Some present.0 ≡ None = leaves_one kept records history p.log r (Some present.0) None lawful own present.1 none in cc)
]
