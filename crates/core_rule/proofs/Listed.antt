-- Lists that links spell and whose write stamps fall.
use Rattle.std.proofs.Common.{◌≡◌, ◌≢◌, ◌⊎◌, ℕ, suc, ◌-◌, ◌<◌, ◌≤◌, Bool, true, false, cond, eqb, List, [], ◌∷◌, refl, sym, ap, ◌∙◌, subst, inl, inr, arith, eqb-true, eq-eqb, ne_eqb}
use Rattle.core_rule.specs.Views.{Has}
use Rattle.core_rule.specs.World.{at_number, behind}
use Rattle.core_rule.specs.Parts.Lists.{Spells, Falls}
use Rattle.core_rule.proofs.Without.{ne_from_test}
use Rattle.core_rule.proofs.Step.{at_cases, at_number-same}

-- what a word names is linked, at the stamp of p or above
pub record Meets (stamps : ℕ → ℕ) (xs : List ℕ) (word p : ℕ) : Type 0 where
  pub positive : 0 < word
  pub there : Has (word - 1) xs
  pub over : stamps p ≤ stamps (word - 1)

-- and below that of q
pub record Follows (stamps : ℕ → ℕ) (xs : List ℕ) (word q p : ℕ) : Type 0 where
  pub meets : Meets stamps xs word p
  pub strict : stamps (word - 1) < stamps q

module _ (stamps : ℕ → ℕ) where
  -- one stamp stands at one place
  pub one_place : (xs : List ℕ) (p q : ℕ) → Falls stamps xs → Has p xs → Has q xs → stamps p ≡ stamps q → p ≡ q
  one_place [] p q f hp hq e = absurd hp
  one_place (x ∷ xs) p q f (inl a) (inl b) e = sym a ∙ b
  one_place (x ∷ xs) p q f (inl a) (inr b) e = absurd (let l = f.0 q b in let c : stamps x ≡ stamps p = ap stamps a in omega arith)
  one_place (x ∷ xs) p q f (inr a) (inl b) e = absurd (let l = f.0 p a in let c : stamps x ≡ stamps q = ap stamps b in omega arith)
  one_place (x ∷ xs) p q f (inr a) (inr b) e = one_place xs p q f.1 a b e

  first_is : (xs : List ℕ) (word x p : ℕ) → word ≡ suc x → stamps p ≤ stamps x → Meets stamps (x ∷ xs) word p
  first_is xs word x p e le =
      let here : word - 1 ≡ x = omega arith in
      record { positive = omega arith; there = inl (sym here); over = subst (λ (y : ℕ). stamps p ≤ stamps y) (sym here) le }

  -- the first place has the greatest stamp
  pub top : (links : ℕ → ℕ) (xs : List ℕ) (word p : ℕ) → Spells links word xs → Falls stamps xs → Has p xs → Meets stamps xs word p
  top links [] word p sp f hp = absurd hp
  top links (x ∷ xs) word p sp f (inl a) = let c : stamps x ≡ stamps p = ap stamps a in first_is xs word x p sp.0 (omega arith)
  top links (x ∷ xs) word p sp f (inr a) = let l = f.0 p a in first_is xs word x p sp.0 (omega arith)

  Meets-more : (x : ℕ) (xs : List ℕ) (word p : ℕ) → Meets stamps xs word p → Meets stamps (x ∷ xs) word p
  Meets-more x xs word p h = record { positive = h.positive; there = inr h.there; over = h.over }

  Follows-more : (x : ℕ) (xs : List ℕ) (word q p : ℕ) → Follows stamps xs word q p → Follows stamps (x ∷ xs) word q p
  Follows-more x xs word q p h = record { meets = Meets-more x xs word p h.meets; strict = h.strict }

  -- nothing stands between a place and the one that its link names
  pub below : (links : ℕ → ℕ) (xs : List ℕ) (word q p : ℕ) → Spells links word xs → Falls stamps xs → Has q xs → Has p xs → stamps p < stamps q → Follows stamps xs (links q) q p
  below links [] word q p sp f hq hp lt = absurd hq
  below links (x ∷ xs) word q p sp f (inl a) (inl b) lt = absurd (let c : stamps x ≡ stamps p = ap stamps b in let d : stamps x ≡ stamps q = ap stamps a in omega arith)
  below links (x ∷ xs) word q p sp f (inl a) (inr b) lt =
      let h = top links xs (links q) p (subst (λ (y : ℕ). Spells links (links y) xs) a sp.1) f.1 b in
      let l = f.0 (links q - 1) h.there in let d : stamps x ≡ stamps q = ap stamps a in
      record { meets = Meets-more x xs (links q) p h; strict = omega arith }
  below links (x ∷ xs) word q p sp f (inr a) (inl b) lt = absurd (let l = f.0 q a in let c : stamps x ≡ stamps p = ap stamps b in omega arith)
  below links (x ∷ xs) word q p sp f (inr a) (inr b) lt = Follows-more x xs (links q) q p (below links xs (links x) q p sp.1 f.1 a b lt)

-- words that are the same at the places of a list
pub Spells-same : (c d : ℕ → ℕ) (word : ℕ) (xs : List ℕ) → ((p : ℕ) → Has p xs → d p ≡ c p) → Spells c word xs → Spells d word xs
Spells-same c d word [] same h = h
Spells-same c d word (x ∷ xs) same h = (h.0, subst (λ (y : ℕ). Spells d y xs) (sym (same x (inl refl))) (Spells-same c d (c x) xs (λ p q. same p (inr q)) h.1))

pub Falls-same : (c d : ℕ → ℕ) (xs : List ℕ) → ((p : ℕ) → Has p xs → d p ≡ c p) → Falls c xs → Falls d xs
Falls-same c d [] same h = tt
Falls-same c d (x ∷ xs) same h = ((λ q k. let l = h.0 q k in let a = same q (inr k) in let b = same x (inl refl) in omega arith), Falls-same c d xs (λ p q. same p (inr q)) h.1)

-- p behind q
module _ (q p : ℕ) where
  old_case : (x y : ℕ) (xs rest : List ℕ) (b : Bool) → (Has y xs → Has y rest) → Has y (x ∷ xs) → Has y (cond b (x ∷ p ∷ xs) (x ∷ rest))
  old_case x y xs rest true rec (inl e) = inl e
  old_case x y xs rest true rec (inr h) = inr (inr h)
  old_case x y xs rest false rec (inl e) = inl e
  old_case x y xs rest false rec (inr h) = inr (rec h)

  pub behind_old : (xs : List ℕ) (y : ℕ) → Has y xs → Has y (behind q p xs)
  behind_old [] y h = absurd h
  behind_old (x ∷ xs) y h = old_case x y xs (behind q p xs) (eqb x q) (behind_old xs y) h

  only_case : (x y : ℕ) (xs rest : List ℕ) (b : Bool) → (Has y rest → (p ≡ y) ⊎ Has y xs) → Has y (cond b (x ∷ p ∷ xs) (x ∷ rest)) → (p ≡ y) ⊎ Has y (x ∷ xs)
  only_case x y xs rest true rec (inl e) = inr (inl e)
  only_case x y xs rest true rec (inr (inl e)) = inl e
  only_case x y xs rest true rec (inr (inr h)) = inr (inr h)
  only_case x y xs rest false rec (inl e) = inr (inl e)
  only_case x y xs rest false rec (inr h) = only_more (rec h) where
    only_more : (p ≡ y) ⊎ Has y xs → (p ≡ y) ⊎ Has y (x ∷ xs)
    only_more (inl e) = inl e
    only_more (inr k) = inr (inr k)

  pub behind_only : (xs : List ℕ) (y : ℕ) → Has y (behind q p xs) → (p ≡ y) ⊎ Has y xs
  behind_only [] y h = absurd h
  behind_only (x ∷ xs) y h = only_case x y xs (behind q p xs) (eqb x q) (behind_only xs y) h

  new_case : (x : ℕ) (xs rest : List ℕ) (b : Bool) → eqb x q ≡ b → (Has q xs → Has p rest) → Has q (x ∷ xs) → Has p (cond b (x ∷ p ∷ xs) (x ∷ rest))
  new_case x xs rest true e rec h = inr (inl refl)
  new_case x xs rest false e rec (inl a) = absurd (ne_from_test x q e a)
  new_case x xs rest false e rec (inr h) = inr (rec h)

  pub behind_new : (xs : List ℕ) → Has q xs → Has p (behind q p xs)
  behind_new [] h = absurd h
  behind_new (x ∷ xs) h = new_case x xs (behind q p xs) (eqb x q) refl (behind_new xs) h

  module _ (links stamps : ℕ → ℕ) (names : links p ≡ links q) (lower : stamps p < stamps q) where
    here : (y : ℕ) → y ≡ q → at_number links q (suc p) y ≡ suc p
    here y e = rw (eq-eqb q y (sym e))

    else_where : (y : ℕ) → y ≢ q → at_number links q (suc p) y ≡ links y
    else_where y ne = rw (ne_eqb q y (λ e. ne (sym e)))

    below_apart : (x : ℕ) (xs : List ℕ) → x ≡ q → ((y : ℕ) → Has y xs → stamps y < stamps x) → (y : ℕ) → Has y xs → y ≢ q
    below_apart x xs e f y h same = let l = f y h in let a : stamps y ≡ stamps q = ap stamps same in let b : stamps x ≡ stamps q = ap stamps e in omega arith

    own_apart : p ≢ q
    own_apart same = let a : stamps p ≡ stamps q = ap stamps same in omega arith

    spells_case : (x word : ℕ) (xs rest : List ℕ) (b : Bool) → eqb x q ≡ b → Has q (x ∷ xs) → Spells links word (x ∷ xs) → Falls stamps (x ∷ xs)
        → (Has q xs → Spells (at_number links q (suc p)) (links x) rest) → Spells (at_number links q (suc p)) word (cond b (x ∷ p ∷ xs) (x ∷ rest))
    spells_case x word xs rest true e h sp f rec =
        let same = eqb-true x q e in (
          sp.0,
          (
            here x same,
            subst (λ (y : ℕ). Spells (at_number links q (suc p)) y xs) (sym (else_where p own_apart ∙ names ∙ ap links (sym same)))
                (Spells-same links (at_number links q (suc p)) (links x) xs (λ y k. else_where y (below_apart x xs same f.0 y k)) sp.1),
          ),
        )
    spells_case x word xs rest false e (inl a) sp f rec = absurd (ne_from_test x q e a)
    spells_case x word xs rest false e (inr h) sp f rec =
        (sp.0, subst (λ (y : ℕ). Spells (at_number links q (suc p)) y rest) (sym (else_where x (ne_from_test x q e))) (rec h))

    pub spells_behind : (xs : List ℕ) (word : ℕ) → Spells links word xs → Falls stamps xs → Has q xs → Spells (at_number links q (suc p)) word (behind q p xs)
    spells_behind [] word sp f h = absurd h
    spells_behind (x ∷ xs) word sp f h = spells_case x word xs (behind q p xs) (eqb x q) refl h sp f (λ k. spells_behind xs (links x) sp.1 f.1 k)

  module _ (stamps : ℕ → ℕ) (lower : stamps p < stamps q) where
    falls_case : (x : ℕ) (xs rest : List ℕ) (b : Bool) → eqb x q ≡ b → Has q (x ∷ xs) → Falls stamps (x ∷ xs) → ((y : ℕ) → Has y (x ∷ xs) → stamps y < stamps q → stamps y < stamps p)
        → (Has q xs → Falls stamps rest) → ((y : ℕ) → Has y rest → (p ≡ y) ⊎ Has y xs) → Falls stamps (cond b (x ∷ p ∷ xs) (x ∷ rest))
    falls_case x xs rest true e h f under rec only =
        let same : stamps x ≡ stamps q = ap stamps (eqb-true x q e) in
        (first, ((λ y k. let l = f.0 y k in under y (inr k) (omega arith)), f.1)) where
          first : (y : ℕ) → Has y (p ∷ xs) → stamps y < stamps x
          first y (inl a) = let c : stamps p ≡ stamps y = ap stamps a in let d : stamps x ≡ stamps q = ap stamps (eqb-true x q e) in omega arith
          first y (inr k) = f.0 y k
    falls_case x xs rest false e (inl a) f under rec only = absurd (ne_from_test x q e a)
    falls_case x xs rest false e (inr h) f under rec only = ((λ y k. by_case y (only y k)), rec h) where
      by_case : (y : ℕ) → (p ≡ y) ⊎ Has y xs → stamps y < stamps x
      by_case y (inl a) = let c : stamps p ≡ stamps y = ap stamps a in let l = f.0 q h in omega arith
      by_case y (inr k) = f.0 y k

    pub falls_behind : (xs : List ℕ) → Falls stamps xs → Has q xs → ((y : ℕ) → Has y xs → stamps y < stamps q → stamps y < stamps p) → Falls stamps (behind q p xs)
    falls_behind [] f h under = absurd h
    falls_behind (x ∷ xs) f h under = falls_case x xs (behind q p xs) (eqb x q) refl h f under (λ k. falls_behind xs f.1 k (λ y i. under y (inr i))) (behind_only xs)

-- the lists after the place p was put into that of record r
pub record Grown (r p : ℕ) (f h : ℕ → List ℕ) : Type 0 where
  pub old : (q y : ℕ) → Has y (f q) → Has y (h q)
  pub only : (q y : ℕ) → Has y (h q) → ((r ≡ q) × (p ≡ y)) ⊎ Has y (f q)
  pub new : Has p (h r)

module _ (f : ℕ → List ℕ) (r p : ℕ) (xs : List ℕ) (old : (y : ℕ) → Has y (f r) → Has y xs) (only : (y : ℕ) → Has y xs → (p ≡ y) ⊎ Has y (f r)) (new : Has p xs) where
  with_record : (q y : ℕ) → r ≡ q → (p ≡ y) ⊎ Has y (f r) → ((r ≡ q) × (p ≡ y)) ⊎ Has y (f q)
  with_record q y e (inl a) = inl (e, a)
  with_record q y e (inr h) = inr (subst (λ (x : ℕ). Has y (f x)) e h)

  pub grown : Grown r p f (at_number f r xs)
  grown = record {
    old = λ q y h. at_cases f r xs q (Has y) (λ e. old y (subst (λ (x : ℕ). Has y (f x)) (sym e) h)) (λ ne. h);
    only = λ q y. at_cases f r xs q (λ l. Has y l → ((r ≡ q) × (p ≡ y)) ⊎ Has y (f q)) (λ e h. with_record q y e (only y h)) (λ ne h. inr h);
    new = subst (Has p) (sym (at_number-same f r xs)) new;
  }

pub grown_head : (f : ℕ → List ℕ) (r p : ℕ) → Grown r p f (at_number f r (p ∷ f r))
grown_head f r p = grown f r p (p ∷ f r) (λ y h. inr h) (λ y h. h) (inl refl)

pub grown_behind : (f : ℕ → List ℕ) (r p a : ℕ) → Has a (f r) → Grown r p f (at_number f r (behind a p (f r)))
grown_behind f r p a there = grown f r p (behind a p (f r)) (behind_old a p (f r)) (behind_only a p (f r)) (behind_new a p (f r) there)
