-- Lists of pairs in which each key stands once: a pair is taken out, or put in at a place.
use Rattle.std.proofs.Common.{◌≡◌, ◌≢◌, ℕ, ◌<◌, zero, suc, Bool, true, false, cond, eqb, List, [], ◌∷◌, ◌++◌, length, get_or, Option, None, Some, All, refl, sym, ap, ◌∙◌, arith, eq-eqb, ne_eqb, subst, inl, inr}
use Rattle.std.specs.Prelude.{AllPairs}
use Rattle.std.proofs.lemmas.Bool.{cases_eq}
use Rattle.std.proofs.lemmas.Bool.Decides.{nat_tests}
use Rattle.std.proofs.lemmas.Option.{none-some}
use Rattle.std.proofs.lemmas.List.{append_assoc}
use Rattle.std.proofs.lemmas.List.Elements.{All-head, All-tail, All-cons, All-nil}
use Rattle.hash_index.specs.Chain.{record_at, bucket_of}
use Rattle.hash_index.proofs.Pairs.{record_at-absent}

-- no key stands in front of itself
abbrev pub Distinct : List (ℕ × ℕ) → Type 0
Distinct [] = Unit {0}
Distinct (pair ∷ pairs) = (record_at pairs pair.0 ≡ None) × Distinct pairs

pub none_parts : (key first rid : ℕ) (later : Option ℕ) → cond (eqb key first) (Some rid) later ≡ None → (key ≢ first) × (later ≡ None)
none_parts key first rid later absent = elim (cases_eq key first) as (λ _. (key ≢ first) × (later ≡ None)) [
  | inl same ↦ absurd (none-some rid (sym (rw (eq-eqb key first same) at absent)))
  | inr other ↦ (other, rw (ne_eqb key first other) at absent)
]

none_at : (pairs : List (ℕ × ℕ)) (key : ℕ) → record_at pairs key ≡ None → (k : ℕ) (d : ℕ × ℕ) → k < length pairs → key ≢ (get_or pairs k d).0
none_at [] key absent k d below = absurd (omega arith)
none_at (x ∷ pairs) key absent zero d below = (none_parts key x.0 x.1 (record_at pairs key) absent).0
none_at (x ∷ pairs) key absent (suc k) d below = none_at pairs key (none_parts key x.0 x.1 (record_at pairs key) absent).1 k d (omega arith)

-- the same in std's words
pub distinct_from : (pairs : List (ℕ × ℕ)) → AllPairs (λ a b. a.0 ≢ b.0) pairs → Distinct pairs
distinct_from [] apart = tt
distinct_from (x ∷ pairs) apart =
    (record_at-absent pairs x.0 (λ k below. apart 0 (suc k) (0, 0) (omega arith) (omega arith)), distinct_from pairs (λ i j d less below. apart (suc i) (suc j) d (omega arith) (omega arith)))

apart_at : (x : ℕ × ℕ) (pairs : List (ℕ × ℕ)) → record_at pairs x.0 ≡ None → AllPairs (λ a b. a.0 ≢ b.0) pairs → (i j : ℕ) (d : ℕ × ℕ) → i < j → j < length (x ∷ pairs) → (get_or (x ∷ pairs) i d).0 ≢ (get_or (x ∷ pairs) j d).0
apart_at x pairs absent apart zero zero d less below = absurd (omega arith)
apart_at x pairs absent apart zero (suc j) d less below = none_at pairs x.0 absent j d (omega arith)
apart_at x pairs absent apart (suc i) zero d less below = absurd (omega arith)
apart_at x pairs absent apart (suc i) (suc j) d less below = apart i j d (omega arith) (omega arith)

pub distinct_to : (pairs : List (ℕ × ℕ)) → Distinct pairs → AllPairs (λ a b. a.0 ≢ b.0) pairs
distinct_to [] distinct = λ i j d less below. absurd (omega arith)
distinct_to (x ∷ pairs) distinct = λ i j d less below. apart_at x pairs distinct.0 (distinct_to pairs distinct.1) i j d less below

-- a pair taken out
remove-step : (q first rid key : ℕ) (rest whole : Option ℕ) → first ≢ key → rest ≡ cond (eqb q key) None whole → cond (eqb q first) (Some rid) rest ≡ cond (eqb q key) None (cond (eqb q first) (Some rid) whole)
remove-step q first rid key rest whole other more = grind (arith, nat_tests)

remove-here : (q key rid : ℕ) (rest : List (ℕ × ℕ)) → record_at rest key ≡ None → record_at rest q ≡ cond (eqb q key) None (cond (eqb q key) (Some rid) (record_at rest q))
remove-here q key rid rest absent = elim (cases_eq q key) as (λ _. record_at rest q ≡ cond (eqb q key) None (cond (eqb q key) (Some rid) (record_at rest q))) [
  | inl same ↦ rw (eq-eqb q key same) (ap (record_at rest) same ∙ absent)
  | inr other ↦ rw (ne_eqb q key other) refl
]

-- a key that no pair has is not that of one of them
differs : (xs ys : List (ℕ × ℕ)) (e : ℕ × ℕ) (key : ℕ) → record_at (xs ++ e ∷ ys) key ≡ None → key ≢ e.0
differs [] ys e key absent = (none_parts key e.0 e.1 (record_at ys key) absent).0
differs (x ∷ xs) ys e key absent = differs xs ys e key (none_parts key x.0 x.1 (record_at (xs ++ e ∷ ys) key) absent).1

pub record_at-remove : (xs ys : List (ℕ × ℕ)) (e : ℕ × ℕ) (q : ℕ) → Distinct (xs ++ e ∷ ys) → record_at (xs ++ ys) q ≡ cond (eqb q e.0) None (record_at (xs ++ e ∷ ys) q)
record_at-remove [] ys e q distinct = remove-here q e.0 e.1 ys distinct.0
record_at-remove (x ∷ xs) ys e q distinct =
    remove-step q x.0 x.1 e.0 (record_at (xs ++ ys) q) (record_at (xs ++ e ∷ ys) q) (differs xs ys e x.0 distinct.0) (record_at-remove xs ys e q distinct.1)

pub removed_absent : (xs ys : List (ℕ × ℕ)) (e : ℕ × ℕ) → Distinct (xs ++ e ∷ ys) → record_at (xs ++ ys) e.0 ≡ None
removed_absent xs ys e distinct = record_at-remove xs ys e e.0 distinct ∙ rw (eq-eqb e.0 e.0 refl) refl

absent_removed : (xs ys : List (ℕ × ℕ)) (e : ℕ × ℕ) (key : ℕ) → record_at (xs ++ e ∷ ys) key ≡ None → Distinct (xs ++ e ∷ ys) → record_at (xs ++ ys) key ≡ None
absent_removed xs ys e key absent distinct = record_at-remove xs ys e key distinct ∙ rw absent (elim (eqb key e.0) as (λ b. cond {A = Option ℕ} b None None ≡ None) [ true ↦ refl | false ↦ refl ])

pub Distinct-remove : (xs ys : List (ℕ × ℕ)) (e : ℕ × ℕ) → Distinct (xs ++ e ∷ ys) → Distinct (xs ++ ys)
Distinct-remove [] ys e distinct = distinct.1
Distinct-remove (x ∷ xs) ys e distinct = (absent_removed xs ys e x.0 distinct.0 distinct.1, Distinct-remove xs ys e distinct.1)

-- a pair put in
insert-step : (q first rid key new : ℕ) (rest whole : Option ℕ) → key ≢ first → whole ≡ cond (eqb q key) (Some new) rest → cond (eqb q first) (Some rid) whole ≡ cond (eqb q key) (Some new) (cond (eqb q first) (Some rid) rest)
insert-step q first rid key new rest whole other more = grind (arith, nat_tests)

pub record_at-insert : (xs ys : List (ℕ × ℕ)) (e : ℕ × ℕ) (q : ℕ) → record_at (xs ++ ys) e.0 ≡ None → record_at (xs ++ e ∷ ys) q ≡ cond (eqb q e.0) (Some e.1) (record_at (xs ++ ys) q)
record_at-insert [] ys e q absent = refl
record_at-insert (x ∷ xs) ys e q absent =
    let parts = none_parts e.0 x.0 x.1 (record_at (xs ++ ys) e.0) absent in
    insert-step q x.0 x.1 e.0 e.1 (record_at (xs ++ ys) q) (record_at (xs ++ e ∷ ys) q) parts.0 (record_at-insert xs ys e q parts.1)

pub inserted_there : (xs ys : List (ℕ × ℕ)) (e : ℕ × ℕ) → record_at (xs ++ ys) e.0 ≡ None → record_at (xs ++ e ∷ ys) e.0 ≡ Some e.1
inserted_there xs ys e absent = record_at-insert xs ys e e.0 absent ∙ rw (eq-eqb e.0 e.0 refl) refl

pub Distinct-insert : (xs ys : List (ℕ × ℕ)) (e : ℕ × ℕ) → Distinct (xs ++ ys) → record_at (xs ++ ys) e.0 ≡ None → Distinct (xs ++ e ∷ ys)
Distinct-insert [] ys e distinct absent = (absent, distinct)
Distinct-insert (x ∷ xs) ys e distinct absent =
    let parts = none_parts e.0 x.0 x.1 (record_at (xs ++ ys) e.0) absent in
    let other : x.0 ≢ e.0 = λ same. parts.0 (sym same) in
    (record_at-insert xs ys e x.0 parts.1 ∙ rw (ne_eqb x.0 e.0 other) distinct.0, Distinct-insert xs ys e distinct.1 parts.1)

-- what holds of each element, with one taken out or put in
pub all_remove : {X : Type 0} (P : X → Type 0) (xs ys : List X) (e : X) → All P (xs ++ e ∷ ys) → All P (xs ++ ys)
all_remove P [] ys e all = All-tail P e ys all
all_remove P (x ∷ xs) ys e all = All-cons P x (xs ++ ys) (All-head P x (xs ++ e ∷ ys) all) (all_remove P xs ys e (All-tail P x (xs ++ e ∷ ys) all))

pub all_middle : {X : Type 0} (P : X → Type 0) (xs ys : List X) (e : X) → All P (xs ++ e ∷ ys) → P e
all_middle P [] ys e all = All-head P e ys all
all_middle P (x ∷ xs) ys e all = all_middle P xs ys e (All-tail P x (xs ++ e ∷ ys) all)

pub all_insert : {X : Type 0} (P : X → Type 0) (xs ys : List X) (e : X) → All P (xs ++ ys) → P e → All P (xs ++ e ∷ ys)
all_insert P [] ys e all holds = All-cons P e ys holds all
all_insert P (x ∷ xs) ys e all holds = All-cons P x (xs ++ e ∷ ys) (All-head P x (xs ++ ys) all) (all_insert P xs ys e (All-tail P x (xs ++ ys) all) holds)

pub all_front : {X : Type 0} (P : X → Type 0) (xs ys : List X) → All P (xs ++ ys) → All P xs
all_front P [] ys all = All-nil P
all_front P (x ∷ xs) ys all = All-cons P x xs (All-head P x (xs ++ ys) all) (all_front P xs ys (All-tail P x (xs ++ ys) all))

pub all_back : {X : Type 0} (P : X → Type 0) (xs ys : List X) → All P (xs ++ ys) → All P ys
all_back P [] ys all = all
all_back P (x ∷ xs) ys all = all_back P xs ys (All-tail P x (xs ++ ys) all)

-- the pairs of a bucket: each key is its own, and stands once
pub record Keyed (bucket : ℕ) (pairs : List (ℕ × ℕ)) : Type 0 where
  pub distinct : Distinct pairs
  pub own : All (λ pair. bucket_of pair.0 ≡ bucket) pairs

pub Keyed-remove : (bucket : ℕ) (xs ys : List (ℕ × ℕ)) (e : ℕ × ℕ) → Keyed bucket (xs ++ e ∷ ys) → Keyed bucket (xs ++ ys)
Keyed-remove bucket xs ys e keyed = record { distinct = Distinct-remove xs ys e keyed.distinct; own = all_remove (λ pair. bucket_of pair.0 ≡ bucket) xs ys e keyed.own }

pub Keyed-insert : (bucket : ℕ) (xs ys : List (ℕ × ℕ)) (e : ℕ × ℕ) → Keyed bucket (xs ++ ys) → record_at (xs ++ ys) e.0 ≡ None → bucket_of e.0 ≡ bucket → Keyed bucket (xs ++ e ∷ ys)
Keyed-insert bucket xs ys e keyed absent belongs = record { distinct = Distinct-insert xs ys e keyed.distinct absent; own = all_insert (λ pair. bucket_of pair.0 ≡ bucket) xs ys e keyed.own belongs }

-- the pairs after a change at one key
pub record Changes (bucket key : ℕ) (value : Option ℕ) (old new : List (ℕ × ℕ)) : Type 0 where
  pub keyed : Keyed bucket new
  pub at_key : (other : ℕ) → record_at new other ≡ cond (eqb other key) value (record_at old other)

pub changes_insert : (bucket key rid : ℕ) (xs ys : List (ℕ × ℕ)) → bucket_of key ≡ bucket → Keyed bucket (xs ++ ys) → record_at (xs ++ ys) key ≡ None → Changes bucket key (Some rid) (xs ++ ys) (xs ++ (key, rid) ∷ ys)
changes_insert bucket key rid xs ys belongs keyed absent = record {
  keyed = Keyed-insert bucket xs ys (key, rid) keyed absent belongs;
  at_key = λ other. record_at-insert xs ys (key, rid) other absent;
}

pub changes_remove : (bucket key rid : ℕ) (xs ys : List (ℕ × ℕ)) → Keyed bucket (xs ++ (key, rid) ∷ ys) → Changes bucket key None (xs ++ (key, rid) ∷ ys) (xs ++ ys)
changes_remove bucket key rid xs ys keyed = record {
  keyed = Keyed-remove bucket xs ys (key, rid) keyed;
  at_key = λ other. record_at-remove xs ys (key, rid) other keyed.distinct;
}

set_twice : (test : Bool) (value later : Option ℕ) → cond test value (cond test None later) ≡ cond test value later
set_twice true value later = refl
set_twice false value later = refl

pub changes_replace : (bucket key old rid : ℕ) (xs ys : List (ℕ × ℕ)) → bucket_of key ≡ bucket → Keyed bucket (xs ++ (key, old) ∷ ys) → Changes bucket key (Some rid) (xs ++ (key, old) ∷ ys) (xs ++ (key, rid) ∷ ys)
changes_replace bucket key old rid xs ys belongs keyed =
    let gone = changes_remove bucket key old xs ys keyed in
    let back = changes_insert bucket key rid xs ys belongs gone.keyed (removed_absent xs ys (key, old) keyed.distinct) in
    record {
      keyed = back.keyed;
      at_key = λ other. back.at_key other ∙ ap (cond (eqb other key) (Some rid)) (gone.at_key other) ∙ set_twice (eqb other key) (Some rid) (record_at (xs ++ (key, old) ∷ ys) other);
    }

-- a pair is moved forward
pub moved : (bucket : ℕ) (xs mid ys : List (ℕ × ℕ)) (e : ℕ × ℕ) → Keyed bucket (xs ++ (mid ++ e ∷ ys)) → Keyed bucket (xs ++ e ∷ (mid ++ ys)) × ((other : ℕ) → record_at (xs ++ e ∷ (mid ++ ys)) other ≡ record_at (xs ++ (mid ++ e ∷ ys)) other)
moved bucket xs mid ys e keyed =
    let P : List (ℕ × ℕ) → Type 0 = Keyed bucket in
    let before = subst P (sym (append_assoc xs mid (e ∷ ys))) keyed in
    let without = subst P (append_assoc xs mid ys) (Keyed-remove bucket (xs ++ mid) ys e before) in
    let absent : record_at (xs ++ (mid ++ ys)) e.0 ≡ None = ap (λ ps. record_at ps e.0) (sym (append_assoc xs mid ys)) ∙ removed_absent (xs ++ mid) ys e before.distinct in
    let absent_before : record_at ((xs ++ mid) ++ ys) e.0 ≡ None = removed_absent (xs ++ mid) ys e before.distinct in
    let belongs : bucket_of e.0 ≡ bucket = all_middle (λ (pair : ℕ × ℕ). bucket_of pair.0 ≡ bucket) (xs ++ mid) ys e before.own in (
      Keyed-insert bucket xs (mid ++ ys) e without absent belongs,
      λ other.
          record_at-insert xs (mid ++ ys) e other absent
          ∙ ap (λ ps. cond (eqb other e.0) (Some e.1) (record_at ps other)) (sym (append_assoc xs mid ys))
          ∙ sym (record_at-insert (xs ++ mid) ys e other absent_before)
          ∙ ap (λ ps. record_at ps other) (append_assoc xs mid (e ∷ ys)),
    )
