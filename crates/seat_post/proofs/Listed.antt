-- Lists of records with values: how lists of versions and maps agree with them.
use Rattle.std.proofs.Common.{◌||◌, ◌<◌, ◌≤◌, ◌+◌, suc, take, add-one, take-suc, arith, length, ◌≡◌, ◌≢◌, ℕ, true, false, cond, Bool, eqb, List, [], ◌∷◌, ◌++◌, Option, None, Some, refl, sym, ap, ◌∙◌, eq-eqb, inl, inr, subst}
use Rattle.std.specs.Prelude.{is_some, IsSome, IfSome, slice_get}
use Rattle.std.specs.List.{list_any, IsDistinct, AllByRecursion}
use Rattle.std.specs.Map.{keys_of}
use Rattle.std.proofs.lemmas.Option.{slice_get_within, get_or_from_slice_get}
use Rattle.std.proofs.lemmas.Bool.Decides.{eqb_tells}
use Rattle.std.proofs.lemmas.Map.Steps.{length-le_from_distinct_below}
use Rattle.record_store.specs.Meaning.{value_at, with_value}
use Rattle.core_rule.specs.Versions.{read_version, cells_of}
use Rattle.core_rule.specs.View.{Read, Write}
use Rattle.core_rule.specs.Views.{Among}
use Rattle.validate_core.specs.Sets.{Once}
use Rattle.core_rule.specs.Deciding.{read_values, read_value, written_values, value_of}
use Rattle.spare_numbers.proofs.Written.{some_or}

-- what is among the reads is known by them
pub known_head : (b : Bool) (x : Option (List ℕ)) (found : Option (Option (List ℕ))) → b ≡ true → cond b (Some x) found ≡ None → ⊥
known_head b x found is none = let h : Some x ≡ None = subst (λ (c : Bool). cond c (Some x) found ≡ None) is none in cc

pub known_tail : (b : Bool) (x : Option (List ℕ)) (found : Option (Option (List ℕ))) → cond b (Some x) found ≡ None → found ≡ None
known_tail true x found none = cc
known_tail false x found none = none

pub unread : (ds : List Read) (rid : ℕ) → value_at (read_values ds) rid ≡ None → (d : Read) → Among d ds → d.record_number ≢ rid
unread [] rid none d among = absurd among
unread (e ∷ ds) rid none d (inl same) = λ at. known_head (eqb rid e.record_number) _ (value_at (read_values ds) rid) (eq-eqb rid e.record_number (sym at ∙ ap (λ (x : Read). x.record_number) (sym same))) none
unread (e ∷ ds) rid none d (inr among) = unread ds rid (known_tail (eqb rid e.record_number) _ (value_at (read_values ds) rid) none) d among

-- reads and their values, with one more
pub read_values-append : (ds : List Read) (d : Read) → read_values (ds ++ d ∷ []) ≡ read_values ds ++ read_values (d ∷ [])
read_values-append [] d = refl
read_values-append (e ∷ ds) d = ap (λ vs. (e.record_number, read_value e) ∷ vs) (read_values-append ds d)

-- the value of a version as it was read
pub read_value-version : (rid place wts : ℕ) (value : Option (List ℕ)) → read_value (read_version rid place wts value) ≡ value
read_value-version rid place wts None = refl
read_value-version rid place wts (Some words) = refl

-- the last of some reads, by their values
last_alone : (d : Read) (ds : List Read) (rid : ℕ) (value : Option (List ℕ)) → read_values (d ∷ ds) ≡ (rid, value) ∷ [] → (before : List Read) × (last : Read) × (d ∷ ds ≡ before ++ last ∷ []) × (read_value last ≡ value)
last_alone d [] rid value is =
    let same : (d.record_number, read_value d) ≡ (rid, value) = cc in
    ([], d, refl, ap (λ (x : ℕ × Option (List ℕ)). x.1) same)
last_alone d (e ∷ ds) rid value is = cc

pub last_of : (ds : List Read) (values : List (ℕ × Option (List ℕ))) (rid : ℕ) (value : Option (List ℕ)) → read_values ds ≡ values ++ (rid, value) ∷ [] → (before : List Read) × (last : Read) × (ds ≡ before ++ last ∷ []) × (read_value last ≡ value)
last_of [] [] rid value is = cc
last_of [] (v ∷ vs) rid value is = cc
last_of (d ∷ ds) [] rid value is = last_alone d ds rid value is
last_of (d ∷ ds) (v ∷ vs) rid value is =
    let rest : read_values ds ≡ vs ++ (rid, value) ∷ [] = cc in
    let l = last_of ds vs rid value rest in
    (d ∷ l.0, l.1, ap (λ xs. d ∷ xs) l.2, l.3)

-- ---- writes

-- the records of a list, by its keys
listed_step : (b : Bool) (x : Option (List ℕ)) (found : Option (Option (List ℕ))) (any : Bool) → any ≡ is_some found → (b || any) ≡ is_some (cond b (Some x) found)
listed_step true x found any same = refl
listed_step false x found any same = same

list_any-keys : (entries : List (ℕ × Option (List ℕ))) (rid : ℕ) → list_any (eqb rid) (keys_of entries) ≡ is_some (value_at entries rid)
list_any-keys [] rid = refl
list_any-keys (e ∷ es) rid = listed_step (eqb rid e.0) e.1 (value_at es rid) (list_any (eqb rid) (keys_of es)) (list_any-keys es rid)

length-keys : (entries : List (ℕ × Option (List ℕ))) → length (keys_of entries) ≡ length entries
length-keys [] = refl
length-keys (e ∷ es) = ap suc (length-keys es)

-- a list of records below a number, each once, is no longer than that
pub few : (entries : List (ℕ × Option (List ℕ))) (records : ℕ) → IsDistinct eqb (keys_of entries) → ((rid : ℕ) → IsSome (value_at entries rid) → rid < records) → length entries ≤ records
few entries records distinct below =
    let h = length-le_from_distinct_below (keys_of entries) records distinct (λ q any. below q (sym (list_any-keys entries q) ∙ any)) in
    let k = length-keys entries in
    omega arith

longer_step : (b : Bool) (x : ℕ × Option (List ℕ)) (e : ℕ × Option (List ℕ)) (es more : List (ℕ × Option (List ℕ))) → length more ≤ length es + 1 → length (cond b (x ∷ es) (e ∷ more)) ≤ length (e ∷ es) + 1
longer_step true x e es more h = omega arith
longer_step false x e es more h = omega arith

-- a write makes the list longer by one at most
pub longer : (entries : List (ℕ × Option (List ℕ))) (rid : ℕ) (value : Option (List ℕ)) → length (with_value entries rid value) ≤ length entries + 1
longer [] rid value = omega arith
longer (e ∷ es) rid value = longer_step (eqb rid e.0) (e.0, value) e es (with_value es rid value) (longer es rid value)

-- ---- versions to be written

pub written_values-append : (us : List Write) (u : Write) → written_values (us ++ u ∷ []) ≡ written_values us ++ (u.record_number, value_of u.cells) ∷ []
written_values-append [] u = refl
written_values-append (w ∷ us) u = ap (λ vs. (w.record_number, value_of w.cells) ∷ vs) (written_values-append us u)

-- the value of a version as it is written
pub value_of-cells : (value : Option (List ℕ)) → IfSome value (λ words. length words ≡ 32) → value_of (cells_of value) ≡ value
value_of-cells None whole = refl
value_of-cells (Some []) whole = cc
value_of-cells (Some (x ∷ xs)) whole = refl

pub unheld : (b : Bool) (x : Option (List ℕ)) (found : Option (Option (List ℕ))) → b ≡ false → found ≡ None → cond b (Some x) found ≡ None
unheld true x found off none = cc
unheld false x found off none = none

pub eqb_not : (a b : ℕ) → (a ≡ b → ⊥) → eqb a b ≡ false
eqb_not a b apart = elim (eqb_tells a b) as (λ _. eqb a b ≡ false) [ inl t ↦ absurd (apart t.1) | inr t ↦ t.0 ]

-- the first entries, with one more
pub take_more : (es : List (ℕ × Option (List ℕ))) (i : ℕ) (e : ℕ × Option (List ℕ)) → slice_get es i ≡ Some e → take (i + 1) es ≡ take i es ++ e ∷ []
take_more es i e at =
    let h : i < length es = slice_get_within es i e at in
    rw (add-one, take-suc es i e h) (ap (λ x. take i es ++ x ∷ []) (get_or_from_slice_get es i e e at))

-- a write that is listed has a value there
pub among_written : (us : List Write) (u : Write) → Among u us → IsSome (value_at (written_values us) u.record_number)
among_written [] u among = absurd among
among_written (w ∷ us) u (inl same) = some_or (eqb u.record_number w.record_number) _ (value_at (written_values us) u.record_number) (inl (eq-eqb u.record_number w.record_number (ap (λ (x : Write). x.record_number) (sym same))))
among_written (w ∷ us) u (inr among) = some_or (eqb u.record_number w.record_number) _ (value_at (written_values us) u.record_number) (inr (among_written us u among))

-- no record twice
unequal : (n : ℕ) (us : List Write) → ((u : Write) → Among u us → u.record_number ≢ n) → AllByRecursion (λ k. eqb n k ≡ false) (keys_of (written_values us))
unequal n [] apart = tt
unequal n (w ∷ us) apart = (eqb_not n w.record_number (λ same. apart w (inl refl) (sym same)), unequal n us (λ u among. apart u (inr among)))

pub once_distinct : (us : List Write) → Once (λ (u : Write). u.record_number) us → IsDistinct eqb (keys_of (written_values us))
unfolding IsDistinct
once_distinct [] once = tt
once_distinct (u ∷ us) once = (unequal u.record_number us once.0, once_distinct us once.1)
