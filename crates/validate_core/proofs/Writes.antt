-- Lists of writes that are given their places one by one.
use Rattle.std.proofs.Common.{◌≡◌, ◌≢◌, ℕ, zero, suc, ◌+◌, ◌<◌, ◌≤◌, List, [], ◌∷◌, ◌++◌, refl, sym, ap, ◌∙◌, subst, inl, inr, ⊎_elim, take, drop, set, length, arith}
use Rattle.std.proofs.lemmas.List.{take-append-drop, take-set, drop-set}
use Rattle.core_rule.specs.View.{Write}
use Rattle.core_rule.specs.Views.{Among}
use Rattle.validate_core.specs.Sets.{Turn, Once, SameWrites}
use Rattle.validate_core.proofs.Works.{among_last}

abbrev head_or : {A : Type 0} → A → List A → A
head_or d [] = d
head_or d (x ∷ xs) = x

abbrev rest_of : {A : Type 0} → List A → List A
rest_of [] = []
rest_of (x ∷ xs) = xs

last_same : {A : Type 0} → (xs : List A) (u w : A) → xs ++ u ∷ [] ≡ xs ++ w ∷ [] → u ≡ w
last_same [] u w e = ap (head_or u) e
last_same (x ∷ xs) u w e = last_same xs u w (ap rest_of e)

-- there is one element of a number
pub turn_same : {A : Type 0} → (i : ℕ) (xs : List A) (u w : A) → Turn i xs u → Turn i xs w → u ≡ w
turn_same i xs u w a b = last_same (take i xs) u w (sym a.next ∙ b.next)

pub take_within : {A : Type 0} → (i n : ℕ) (xs : List A) (x : A) → i ≤ n → Among x (take i xs) → Among x (take n xs)
take_within zero n xs x le h = absurd h
take_within (suc i) n [] x le h = absurd h
take_within (suc i) zero (y ∷ ys) x le h = absurd (omega arith)
take_within (suc i) (suc n) (y ∷ ys) x le (inl e) = inl e
take_within (suc i) (suc n) (y ∷ ys) x le (inr h) = inr (take_within i n ys x (omega arith) h)

-- no number twice, with one more
pub once_snoc : {A : Type 0} → (number : A → ℕ) (xs : List A) (x : A) → Once number xs → ((y : A) → Among y xs → number y ≢ number x) → Once number (xs ++ x ∷ [])
once_snoc number [] x o fresh = ((λ y h. absurd h), tt)
once_snoc number (z ∷ zs) x o fresh = (
  (λ y h. ⊎_elim (λ (old : Among y zs). o.0 y old) (λ (new : x ≡ y). λ (same : number y ≡ number z). fresh z (inl refl) (sym same ∙ sym (ap number new))) (among_last y x zs h)),
  once_snoc number zs x o.1 (λ y h. fresh y (inr h)),
)

-- ---- the same writes

pub same_none : (xs : List Write) → SameWrites xs xs
same_none [] = tt
same_none (u ∷ us) = (refl, refl, same_none us)

pub same_both : (xs ys zs : List Write) → SameWrites xs ys → SameWrites ys zs → SameWrites xs zs
same_both [] [] [] a b = tt
same_both [] [] (w ∷ ws) a b = absurd b
same_both [] (v ∷ vs) zs a b = absurd a
same_both (u ∷ us) [] zs a b = absurd a
same_both (u ∷ us) (v ∷ vs) [] a b = absurd b
same_both (u ∷ us) (v ∷ vs) (w ∷ ws) a b = (b.0 ∙ a.0, b.1 ∙ a.1, same_both us vs ws a.2 b.2)

same_middle : (xs : List Write) (u : Write) (place stamp : ℕ) (ys : List Write) → SameWrites (xs ++ u ∷ ys) (xs ++ record u { place = place; stamp = stamp } ∷ ys)
same_middle [] u place stamp ys = (refl, refl, same_none ys)
same_middle (x ∷ xs) u place stamp ys = (refl, refl, same_middle xs u place stamp ys)

pub same_set : (xs : List Write) (i : ℕ) (u : Write) (place stamp : ℕ) → Turn i xs u → i < length xs → SameWrites xs (set xs i (record u { place = place; stamp = stamp }))
same_set xs i u place stamp t lt =
    let w : Write = record u { place = place; stamp = stamp } in let k : i + 1 ≡ suc i = omega arith in
    let e : set xs i w ≡ take i xs ++ w ∷ drop (suc i) xs =
    sym (take-append-drop i (set xs i w)) ∙ ap (λ (l : List Write). l ++ drop i (set xs i w)) (take-set xs i w) ∙ ap (λ (l : List Write). take i xs ++ l) (drop-set xs i w lt)
    ∙ ap (λ (n : ℕ). take i xs ++ w ∷ drop n xs) k in
    subst (λ (l : List Write). SameWrites l (set xs i w)) (sym t.splits)
    (subst (λ (l : List Write). SameWrites (take i xs ++ u ∷ drop (suc i) xs) l) (sym e) (same_middle (take i xs) u place stamp (drop (suc i) xs)))

pub same_among : (xs ys : List Write) (w : Write) → SameWrites xs ys → Among w ys → (u : Write) × Among u xs × (w.record_number ≡ u.record_number)
same_among [] [] w s h = absurd h
same_among [] (v ∷ vs) w s h = absurd s
same_among (u ∷ us) [] w s h = absurd h
same_among (u ∷ us) (v ∷ vs) w s (inl e) = (u, inl refl, sym (ap (λ (x : Write). x.record_number) e) ∙ s.0)
same_among (u ∷ us) (v ∷ vs) w s (inr h) = let o = same_among us vs w s.2 h in (o.0, inr o.1, o.2)

pub same_once : (xs ys : List Write) → SameWrites xs ys → Once (λ (u : Write). u.record_number) xs → Once (λ (u : Write). u.record_number) ys
same_once [] [] s o = tt
same_once [] (v ∷ vs) s o = absurd s
same_once (u ∷ us) [] s o = absurd s
same_once (u ∷ us) (v ∷ vs) s o =
    ((λ y h. let w = same_among us vs y s.2 h in λ (same : y.record_number ≡ v.record_number). o.0 w.0 w.1 (sym w.2 ∙ same ∙ s.0)), same_once us vs s.2 o.1)

pub same_length : (xs ys : List Write) → SameWrites xs ys → length ys ≡ length xs
same_length [] [] s = refl
same_length [] (v ∷ vs) s = absurd s
same_length (u ∷ us) [] s = absurd s
same_length (u ∷ us) (v ∷ vs) s = ap suc (same_length us vs s.2)
