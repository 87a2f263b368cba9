-- Counting places: each usable pool place that is not free is linked in one record's list, or held.
use Rattle.std.proofs.Common.{◌≡◌, ◌≢◌, ◌⊎◌, ℕ, zero, suc, ◌+◌, ◌<◌, ◌≤◌, true, false, Bool, cond, eqb, List, [], ◌∷◌, ◌++◌, length, refl, sym, subst, arith, inl, inr, ⊎_elim, Option, Some, None}
use Rattle.std.specs.Prelude.{nat_lt}
use Rattle.std.proofs.lemmas.Bool.{ltb-true}
use Rattle.std.proofs.lemmas.List.{length-append}
use mathlib.Core.Logic.{dite}
use native.Mathlib.Decide.{ℕ_discrete}
use Rattle.plain_data.specs.State.{State}
use Rattle.word_layout.specs.Size.{Size, places, usable_places, IsUsable}
use Rattle.core_rule.specs.Memory.{Memory}
use Rattle.core_rule.specs.World.{World, Owner, free, held, marked, linked, cut_by}
use Rattle.core_rule.specs.View.{View, Bound, no_item}
use Rattle.core_rule.specs.Views.{At, Has, OthersTaken}
use Rattle.core_rule.specs.Holding.{without}
use Rattle.core_rule.specs.Searching.{Rests, known_of}
use Rattle.core_rule.specs.Collecting.{Frees}
use Rattle.core_rule.specs.Reckoning.{recent, IsMet, total, IsWithin, AtMost, ReckonsAt, Reckons}
use Rattle.core_rule.specs.Rule.{Rule}
use Rattle.core_rule.specs.Parts.Places.{IsLinkedAt}
use Rattle.core_rule.specs.Parts.Marked.{SearchMarks}
use Rattle.core_rule.specs.Parts.Counts.{outside, IsBounded}
use Rattle.core_rule.proofs.Without.{Has-without, ne_from_test}
use Rattle.core_rule.proofs.Alone.{as_this}
use Rattle.core_rule.proofs.Parts.MarkedKept.{rests_not}

-- ---- numbers in a row that all stand in a list

without_case : (a x : ℕ) (rest : List ℕ) (n : ℕ) (b : Bool) → length rest ≤ n → length (cond b rest (x ∷ rest)) ≤ suc n
without_case a x rest n true le = omega arith
without_case a x rest n false le = omega arith

without_not_longer : (a : ℕ) (xs : List ℕ) → length (without a xs) ≤ length xs
without_not_longer a [] = omega arith
without_not_longer a (x ∷ xs) = without_case a x (without a xs) (length xs) (eqb x a) (without_not_longer a xs)

shorter_case : (a x : ℕ) (xs rest : List ℕ) (b : Bool) → eqb x a ≡ b → length rest ≤ length xs → (Has a xs → suc (length rest) ≤ length xs) → Has a (x ∷ xs) → suc (length (cond b rest (x ∷ rest))) ≤ length (x ∷ xs)
shorter_case a x xs rest true e le rec h = omega arith
shorter_case a x xs rest false e le rec (inl same) = absurd (ne_from_test x a e same)
shorter_case a x xs rest false e le rec (inr h) = let l = rec h in omega arith

without_shorter : (a : ℕ) (xs : List ℕ) → Has a xs → suc (length (without a xs)) ≤ length xs
without_shorter a [] h = absurd h
without_shorter a (x ∷ xs) h = shorter_case a x xs (without a xs) (eqb x a) refl (without_not_longer a xs) (without_shorter a xs) h

row_fits : (n a : ℕ) (xs : List ℕ) → ((i : ℕ) → a ≤ i → i < a + n → Has i xs) → n ≤ length xs
row_fits zero a xs h = omega arith
row_fits (suc n) a xs h =
    let rest = row_fits n (suc a) (without a xs) (λ i le lt. Has-without a i xs (λ e. absurd (omega arith)) (h i (omega arith) (omega arith))) in
    let less = without_shorter a xs (h a (omega arith) (omega arith)) in omega arith

-- ---- the places of lists that are no inline places

module _ (z : Size) where
  abbrev out : List ℕ → List ℕ
  out [] = []
  out (p ∷ ps) = cond (nat_lt p z.records) (out ps) (p ∷ out ps)

  out_case : (p n : ℕ) (rest : List ℕ) (b : Bool) → length rest ≡ n → length (cond b rest (p ∷ rest)) ≡ cond b n (suc n)
  out_case p n rest true e = e
  out_case p n rest false e = omega arith

  length_out : (ps : List ℕ) → length (out ps) ≡ outside z ps
  length_out [] = refl
  length_out (p ∷ ps) = out_case p (outside z ps) (out ps) (nat_lt p z.records) (length_out ps)

  has_case : (p q : ℕ) (rest : List ℕ) (b : Bool) → nat_lt p z.records ≡ b → z.records ≤ q → (p ≡ q) ⊎ Has q rest → Has q (cond b rest (p ∷ rest))
  has_case p q rest true e high (inl same) = absurd (let l = ltb-true p z.records e in omega arith)
  has_case p q rest true e high (inr h) = h
  has_case p q rest false e high (inl same) = inl same
  has_case p q rest false e high (inr h) = inr h

  has_out : (q : ℕ) (ps : List ℕ) → z.records ≤ q → Has q ps → Has q (out ps)
  has_out q [] high h = h
  has_out q (p ∷ ps) high (inl e) = has_case p q (out ps) (nat_lt p z.records) refl high (inl e)
  has_out q (p ∷ ps) high (inr h) = has_case p q (out ps) (nat_lt p z.records) refl high (inr (has_out q ps high h))

  -- of the records below k
  abbrev pools : (ℕ → List ℕ) → ℕ → List ℕ
  pools lists zero = []
  pools lists (suc k) = out (lists k) ++ pools lists k

  has_left : (q : ℕ) (xs ys : List ℕ) → Has q xs → Has q (xs ++ ys)
  has_left q [] ys h = absurd h
  has_left q (x ∷ xs) ys (inl e) = inl e
  has_left q (x ∷ xs) ys (inr h) = inr (has_left q xs ys h)

  has_right : (q : ℕ) (xs ys : List ℕ) → Has q ys → Has q (xs ++ ys)
  has_right q [] ys h = h
  has_right q (x ∷ xs) ys h = inr (has_right q xs ys h)

  has_pools : (lists : ℕ → List ℕ) (k r q : ℕ) → r < k → z.records ≤ q → Has q (lists r) → Has q (pools lists k)
  has_pools lists zero r q lt high h = absurd (omega arith)
  has_pools lists (suc k) r q lt high h = dite (ℕ_discrete r k)
      (λ e. has_left q (out (lists k)) (pools lists k) (has_out q (lists k) high (subst (λ (x : ℕ). Has q (lists x)) e h)))
      (λ ne. has_right q (out (lists k)) (pools lists k) (has_pools lists k r q (omega arith) high h))

  within_out : (o : Option Bound) (n : ℕ) (xs : List ℕ) → IsBounded z o xs → IsWithin o n → outside z xs ≤ n
  within_out None n xs h w = absurd w
  within_out (Some b) n xs h w = let l = h.1 in omega arith

  length_pools : (lists : ℕ → List ℕ) (known : ℕ → Option Bound) (bounds : ℕ → ℕ) (k : ℕ) → ((r : ℕ) → r < k → IsBounded z (known r) (lists r)) → ((r : ℕ) → r < k → IsWithin (known r) (bounds r)) → length (pools lists k) ≤ total bounds k
  length_pools lists known bounds zero h w = omega arith
  length_pools lists known bounds (suc k) h w =
      let rest = length_pools lists known bounds k (λ r lt. h r (omega arith)) (λ r lt. w r (omega arith)) in
      let here = within_out (known k) (bounds k) (lists k) (h k (omega arith)) (w k (omega arith)) in
      let same = length_out (lists k) in let both = length-append (out (lists k)) (pools lists k) in omega arith

-- ---- the count

module _ (kept : State → Type 0) (z : Size) (g : World) (m : Memory) (vs : List View) (rule : Rule kept z g m vs) (id : ℕ) (v : View) (at : At vs id v) (live : v.spent ≡ false) where
  module _ (alone : OthersTaken z.seats v.number v.splitting v.clock.taken_in) (rests : Rests v.work.search) (none : v.work.item ≡ no_item) where
    -- what has a place that is not free
    pub by_owner : (p : ℕ) → p < places z → (o : Owner) → g.owner p ≡ o → o ≢ free → Has p v.places.held ⊎ ((r : ℕ) × (r < z.records) × Has p (g.lists r))
    by_owner p inside free e ne = absurd (ne refl)
    by_owner p inside (held seat) e ne =
        let h = rule.places.holder p seat inside e in
        inl (subst (λ (u : View). Has p u.places.held) (sym (as_this kept z g m vs rule id v at live h.index h.view h.here h.is_open alone)) h.holds.has)
    by_owner p inside (marked seat) e ne =
        let h = rule.marked.marker p seat inside e in
        absurd (rests_not p v.work.search rests (subst (λ (u : View). SearchMarks p u.work.search) (sym (as_this kept z g m vs rule id v at live h.index h.view h.here h.is_open alone)) h.holds.aims))
    by_owner p inside (linked r) e ne =
        let on = subst (IsLinkedAt z p) e (rule.places.inline p inside) in inr (r, on.0, rule.lists.listed p r inside e)
    by_owner p inside (cut_by seat) e ne =
        let h = rule.chains.holder p seat inside e in
        let mine = subst (λ (u : View). Frees u.work.item) (sym (as_this kept z g m vs rule id v at live h.index h.view h.here h.is_open alone)) h.holds.frees in absurd (subst Frees none mine)

    abbrev used : List ℕ
    used = v.places.held ++ pools z g.lists z.records

    in_use : (p : ℕ) → IsUsable z p → g.owner p ≢ free → Has p used
    in_use p usable ne =
        let low = usable.0 in let high = usable.1 in
        ⊎_elim (λ (h : Has p v.places.held). has_left z p v.places.held (pools z g.lists z.records) h)
        (λ (h : (r : ℕ) × (r < z.records) × Has p (g.lists r)). has_right z p v.places.held (pools z g.lists z.records) (has_pools z g.lists z.records h.0 p h.1 low h.2)) (by_owner p (omega arith) (g.owner p) refl ne)

    counted : ((p : ℕ) → IsUsable z p → IsMet p (recent v.seen)) → (n : ℕ) → AtMost z.records (known_of v.counts) n → usable_places z ≤ n + length v.places.held
    counted met n most =
        let taken = (rule.met id v at live).taken alone in
        let row = row_fits (usable_places z) z.records used (λ i low high. let usable : IsUsable z i = (low, omega arith) in in_use i usable (taken i (omega arith) (met i usable))) in
        let known = rule.counts id v at live alone in
        let long = length_pools z g.lists (known_of v.counts) most.bounds z.records known.bounded most.within in
        let both = length-append v.places.held (pools z g.lists z.records) in let sum = most.sum in omega arith

  pub reckons : Reckons v
  reckons = subst (λ (x : Size). ReckonsAt x v) (sym (rule.seats.each id v at live).size) (λ alone rests none met n most. counted alone rests none met n most)
