-- A list cut behind one of its places: what stays, and what is cut off.
use Rattle.std.proofs.Common.{◌≡◌, ◌⊎◌, ℕ, ◌<◌, ◌≤◌, Bool, true, false, cond, eqb, List, [], ◌∷◌, refl, sym, ap, subst, inl, inr, ⊎_elim, arith, eqb-true, eq-eqb, ne_eqb}
use Rattle.core_rule.specs.Views.{Has}
use Rattle.core_rule.specs.World.{Owner, cut_by, at_number, up_to, from_behind, is_in, cut_from}
use Rattle.core_rule.specs.Parts.Lists.{Spells, Falls}
use Rattle.core_rule.proofs.Without.{ne_from_test}

module _ (q : ℕ) where
  in_case : (x : ℕ) (xs : List ℕ) (b : Bool) → eqb x q ≡ b → (is_in q xs ≡ true → Has q xs) → cond b true (is_in q xs) ≡ true → Has q (x ∷ xs)
  in_case x xs true e rec h = inl (eqb-true x q e)
  in_case x xs false e rec h = inr (rec h)

  pub in_has : (xs : List ℕ) → is_in q xs ≡ true → Has q xs
  in_has [] h = absurd (let e : false ≡ true = h in cc)
  in_has (x ∷ xs) h = in_case x xs (eqb x q) refl (in_has xs) h

  not_case : (x : ℕ) (xs : List ℕ) (b : Bool) → eqb x q ≡ b → (is_in q xs ≡ false → Has q xs → ⊥) → cond b true (is_in q xs) ≡ false → Has q (x ∷ xs) → ⊥
  not_case x xs true e rec h has = absurd (let f : true ≡ false = h in cc)
  not_case x xs false e rec h (inl same) = ne_from_test x q e same
  not_case x xs false e rec h (inr has) = rec h has

  pub not_in : (xs : List ℕ) → is_in q xs ≡ false → Has q xs → ⊥
  not_in [] h has = has
  not_in (x ∷ xs) h has = not_case x xs (eqb x q) refl (not_in xs) h has

module _ (p : ℕ) where
  behind_case : (x q : ℕ) (xs rest : List ℕ) (b : Bool) → (Has q rest → Has q xs) → Has q (cond b xs rest) → Has q (x ∷ xs)
  behind_case x q xs rest true rec h = inr h
  behind_case x q xs rest false rec h = inr (rec h)

  pub behind_in : (xs : List ℕ) (q : ℕ) → Has q (from_behind p xs) → Has q xs
  behind_in [] q h = h
  behind_in (x ∷ xs) q h = behind_case x q xs (from_behind p xs) (eqb x p) (behind_in xs q) h

  up_case : (x q : ℕ) (xs rest : List ℕ) (b : Bool) → (Has q rest → Has q xs) → Has q (cond b (x ∷ []) (x ∷ rest)) → Has q (x ∷ xs)
  up_case x q xs rest true rec (inl e) = inl e
  up_case x q xs rest true rec (inr h) = absurd h
  up_case x q xs rest false rec (inl e) = inl e
  up_case x q xs rest false rec (inr h) = inr (rec h)

  pub up_in : (xs : List ℕ) (q : ℕ) → Has q (up_to p xs) → Has q xs
  up_in [] q h = h
  up_in (x ∷ xs) q h = up_case x q xs (up_to p xs) (eqb x p) (up_in xs q) h

  either_case : (x q : ℕ) (xs ups rest : List ℕ) (b : Bool) → (Has q xs → Has q ups ⊎ Has q rest) → Has q (x ∷ xs) → Has q (cond b (x ∷ []) (x ∷ ups)) ⊎ Has q (cond b xs rest)
  either_case x q xs ups rest true rec (inl e) = inl (inl e)
  either_case x q xs ups rest true rec (inr h) = inr h
  either_case x q xs ups rest false rec (inl e) = inl (inl e)
  either_case x q xs ups rest false rec (inr h) = ⊎_elim (λ k. inl (inr k)) (λ k. inr k) (rec h)

  pub up_or_behind : (xs : List ℕ) (q : ℕ) → Has q xs → Has q (up_to p xs) ⊎ Has q (from_behind p xs)
  up_or_behind [] q h = absurd h
  up_or_behind (x ∷ xs) q h = either_case x q xs (up_to p xs) (from_behind p xs) (eqb x p) (up_or_behind xs q) h

  module _ (stamps : ℕ → ℕ) where
    low_case : (x q : ℕ) (xs rest : List ℕ) (b : Bool) → eqb x p ≡ b → Has p (x ∷ xs) → Falls stamps (x ∷ xs) → (Has p xs → Has q rest → stamps q < stamps p) → Has q (cond b xs rest) → stamps q < stamps p
    low_case x q xs rest true e there f rec h = let l = f.0 q h in let same : stamps x ≡ stamps p = ap stamps (eqb-true x p e) in omega arith
    low_case x q xs rest false e (inl same) f rec h = absurd (ne_from_test x p e same)
    low_case x q xs rest false e (inr there) f rec h = rec there h

    -- what is cut off is below p, and what stays is not
    pub behind_low : (xs : List ℕ) → Falls stamps xs → Has p xs → (q : ℕ) → Has q (from_behind p xs) → stamps q < stamps p
    behind_low [] f there q h = absurd h
    behind_low (x ∷ xs) f there q h = low_case x q xs (from_behind p xs) (eqb x p) refl there f (λ k. behind_low xs f.1 k q) h

    high_case : (x q : ℕ) (xs rest : List ℕ) (b : Bool) → eqb x p ≡ b → Has p (x ∷ xs) → Falls stamps (x ∷ xs) → (Has p xs → Has q rest → stamps p ≤ stamps q) → Has q (cond b (x ∷ []) (x ∷ rest)) → stamps p ≤ stamps q
    high_case x q xs rest true e there f rec (inl same) = let a : stamps x ≡ stamps p = ap stamps (eqb-true x p e) in let b : stamps x ≡ stamps q = ap stamps same in omega arith
    high_case x q xs rest true e there f rec (inr h) = absurd h
    high_case x q xs rest false e (inl same) f rec h = absurd (ne_from_test x p e same)
    high_case x q xs rest false e (inr there) f rec (inl same) = let l = f.0 p there in let b : stamps x ≡ stamps q = ap stamps same in omega arith
    high_case x q xs rest false e (inr there) f rec (inr h) = rec there h

    pub up_high : (xs : List ℕ) → Falls stamps xs → Has p xs → (q : ℕ) → Has q (up_to p xs) → stamps p ≤ stamps q
    up_high [] f there q h = absurd there
    up_high (x ∷ xs) f there q h = high_case x q xs (up_to p xs) (eqb x p) refl there f (λ k. up_high xs f.1 k q) h

    -- what is not below p stays
    pub up_has : (xs : List ℕ) → Falls stamps xs → Has p xs → (q : ℕ) → Has q xs → stamps p ≤ stamps q → Has q (up_to p xs)
    up_has xs f there q h le = ⊎_elim (λ k. k) (λ k. absurd (let l = behind_low xs f there q k in omega arith)) (up_or_behind xs q h)

    falls_behind_case : (x : ℕ) (xs rest : List ℕ) (b : Bool) → Falls stamps (x ∷ xs) → Falls stamps rest → Falls stamps (cond b xs rest)
    falls_behind_case x xs rest true f rec = f.1
    falls_behind_case x xs rest false f rec = rec

    pub falls_from : (xs : List ℕ) → Falls stamps xs → Falls stamps (from_behind p xs)
    falls_from [] f = tt
    falls_from (x ∷ xs) f = falls_behind_case x xs (from_behind p xs) (eqb x p) f (falls_from xs f.1)

    falls_up_case : (x : ℕ) (xs rest : List ℕ) (b : Bool) → Falls stamps (x ∷ xs) → ((q : ℕ) → Has q rest → Has q xs) → Falls stamps rest → Falls stamps (cond b (x ∷ []) (x ∷ rest))
    falls_up_case x xs rest true f only rec = ((λ q k. absurd k), tt)
    falls_up_case x xs rest false f only rec = ((λ q k. f.0 q (only q k)), rec)

    pub falls_up : (xs : List ℕ) → Falls stamps xs → Falls stamps (up_to p xs)
    falls_up [] f = tt
    falls_up (x ∷ xs) f = falls_up_case x xs (up_to p xs) (eqb x p) f (up_in xs) (falls_up xs f.1)

    -- the link of p begins what is cut off; without it the rest is spelled
    module _ (links : ℕ → ℕ) where
      begins_case : (x word : ℕ) (xs rest : List ℕ) (b : Bool) → eqb x p ≡ b → Has p (x ∷ xs) → Spells links word (x ∷ xs) → (Has p xs → Spells links (links p) rest) → Spells links (links p) (cond b xs rest)
      begins_case x word xs rest true e there sp rec = subst (λ (y : ℕ). Spells links (links y) xs) (eqb-true x p e) sp.1
      begins_case x word xs rest false e (inl same) sp rec = absurd (ne_from_test x p e same)
      begins_case x word xs rest false e (inr there) sp rec = rec there

      pub spells_from : (xs : List ℕ) (word : ℕ) → Spells links word xs → Has p xs → Spells links (links p) (from_behind p xs)
      spells_from [] word sp there = absurd there
      spells_from (x ∷ xs) word sp there = begins_case x word xs (from_behind p xs) (eqb x p) refl there sp (λ k. spells_from xs (links x) sp.1 k)

      ends_case : (x word : ℕ) (xs rest : List ℕ) (b : Bool) → eqb x p ≡ b → Has p (x ∷ xs) → Spells links word (x ∷ xs) → (Has p xs → Spells (at_number links p 0) (links x) rest) → Spells (at_number links p 0) word (cond b (x ∷ []) (x ∷ rest))
      ends_case x word xs rest true e there sp rec = (sp.0, rw (eq-eqb p x (sym (eqb-true x p e))))
      ends_case x word xs rest false e (inl same) sp rec = absurd (ne_from_test x p e same)
      ends_case x word xs rest false e (inr there) sp rec =
          (sp.0, subst (λ (y : ℕ). Spells (at_number links p 0) y rest) (sym (rw (ne_eqb p x (λ same. ne_from_test x p e (sym same))))) (rec there))

      pub spells_up : (xs : List ℕ) (word : ℕ) → Spells links word xs → Has p xs → Spells (at_number links p 0) word (up_to p xs)
      spells_up [] word sp there = absurd there
      spells_up (x ∷ xs) word sp there = ends_case x word xs (up_to p xs) (eqb x p) refl there sp (λ k. spells_up xs (links x) sp.1 k)

-- the owners after places were cut off
module _ (seat : ℕ) (xs : List ℕ) (owner : ℕ → Owner) (q : ℕ) where
  same_by : (b : Bool) → is_in q xs ≡ b → (Has q xs → ⊥) → cond b (cut_by seat) (owner q) ≡ owner q
  same_by true e not = absurd (not (in_has q xs e))
  same_by false e not = refl

  pub cut_same : (Has q xs → ⊥) → cut_from seat xs owner q ≡ owner q
  cut_same not = same_by (is_in q xs) refl not

  here_by : (b : Bool) → is_in q xs ≡ b → Has q xs → cond b (cut_by seat) (owner q) ≡ cut_by seat
  here_by true e has = refl
  here_by false e has = absurd (not_in q xs e has)

  pub cut_here : Has q xs → cut_from seat xs owner q ≡ cut_by seat
  cut_here has = here_by (is_in q xs) refl has

  -- what it was, or the seat's now
  or_by : (b : Bool) → is_in q xs ≡ b → (o : Owner) → cond b (cut_by seat) (owner q) ≡ o → (Has q xs × (cut_by seat ≡ o)) ⊎ ((Has q xs → ⊥) × (owner q ≡ o))
  or_by true e o h = inl (in_has q xs e, h)
  or_by false e o h = inr (not_in q xs e, h)

  pub cut_or : (o : Owner) → cut_from seat xs owner q ≡ o → (Has q xs × (cut_by seat ≡ o)) ⊎ ((Has q xs → ⊥) × (owner q ≡ o))
  cut_or = or_by (is_in q xs) refl
