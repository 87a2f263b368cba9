-- What a seat that is alone knows to be free: nothing else has it, for a place that is not free is held by this seat or linked.
use Rattle.std.proofs.Common.{◌≡◌, ◌≢◌, ℕ, ◌<◌, ◌≤◌, List, [], ◌∷◌, length, false, refl, sym, ◌∙◌, subst, arith, inl, inr, ⊎_elim, Option}
use mathlib.Core.Logic.{dite}
use native.Mathlib.Decide.{ℕ_discrete}
use Rattle.plain_data.specs.State.{State}
use Rattle.word_layout.specs.Size.{Size, places, reserved_place}
use Rattle.word_layout.specs.Name.{status}
use Rattle.core_rule.specs.Memory.{Memory, stored}
use Rattle.core_rule.specs.World.{World, Owner, free, linked}
use Rattle.core_rule.specs.View.{View, Bound, nothing_reserved}
use Rattle.core_rule.specs.Views.{At, Has, OthersTaken}
use Rattle.core_rule.specs.Spares.{StandsReserved, IsSpare, KnowsFree}
use Rattle.core_rule.specs.Rule.{Rule}
use Rattle.core_rule.specs.Parts.Places.{Shows, IsLinkedAt}
use Rattle.core_rule.specs.Parts.Counts.{IsBounded}
use Rattle.core_rule.specs.Parts.Keeping.{MayBe, IsThere}
use Rattle.core_rule.proofs.Alone.{as_this, taken_as}
use Rattle.core_rule.proofs.Reckoning.{by_owner}

-- a list of one place has no two
one_of : (p q : ℕ) (xs : List ℕ) → length xs ≤ 1 → Has p xs → Has q xs → p ≡ q
one_of p q [] le hp hq = absurd hp
one_of p q (x ∷ []) le (inl a) (inl b) = sym a ∙ b
one_of p q (x ∷ []) le (inl a) (inr b) = absurd b
one_of p q (x ∷ []) le (inr a) hq = absurd a
one_of p q (x ∷ y ∷ ys) le hp hq = absurd (omega arith)

module _ (kept : State → Type 0) (z : Size) (g : World) (m : Memory) (vs : List View) (rule : Rule kept z g m vs) (id : ℕ) (v : View) (at : At vs id v) (live : v.spent ≡ false) (p : ℕ) (knows : KnowsFree v p) where
  alone : OthersTaken z.seats v.number v.splitting v.clock.taken_in
  alone = taken_as kept z g m vs rule id v at live knows.alone

  -- nothing is linked in the reserved place
  reserved_free : v.counts.in_reserved ≡ nothing_reserved → (r : ℕ) → g.owner (reserved_place z) ≡ linked r → ⊥
  reserved_free is r linked_is =
      let h = rule.keeping.known r linked_is in
      let mine = subst (λ (u : View). MayBe r ((stored m).stamps (reserved_place z)) u.counts.in_reserved) (sym (as_this kept z g m vs rule id v at live h.index h.view h.here h.is_open alone)) h.holds in
      subst (MayBe r ((stored m).stamps (reserved_place z))) is mine

  -- nor in the inline place of a record whose only version stands there
  inline_free : p < z.records → StandsReserved p v.counts → Has p (g.lists p) → ⊥
  inline_free lt stands has =
      let there = subst (IsThere (g.owner (reserved_place z)) ((stored m).stamps (reserved_place z))) stands.reserved (rule.keeping.alone id v at live alone) in
      let spare = rule.sized.has_spare in let only = stands.only in
      let long = (subst (λ (o : Option Bound). IsBounded z o (g.lists p)) stands.known ((rule.counts id v at live alone).bounded p lt)).0 in
      let same : p ≡ reserved_place z = one_of p (reserved_place z) (g.lists p) (omega arith) has (rule.lists.listed (reserved_place z) p (omega arith) there.0) in absurd (omega arith)

  linked_not : IsSpare z p v.counts → (r : ℕ) → r < z.records → Has p (g.lists r) → ⊥
  linked_not (inl a) r lt has = reserved_free a.1 r (subst (λ (x : ℕ). g.owner x ≡ linked r) a.0 ((rule.lists.each r lt).owned p has).1)
  linked_not (inr a) r lt has =
      let own = (rule.lists.each r lt).owned p has in
      let same : r ≡ p = (subst (IsLinkedAt z p) own.1 (rule.places.inline p own.0)).1 a.0 in inline_free a.0 a.1 (subst (λ (x : ℕ). Has p (g.lists x)) same has)

  inside : IsSpare z p v.counts → p < places z
  inside (inl a) = let is = a.0 in let spare = rule.sized.has_spare in omega arith
  inside (inr a) = let lt = a.0 in omega arith

  not_owned : IsSpare z p v.counts → g.owner p ≢ free → ⊥
  not_owned spare ne = ⊎_elim (λ (h : Has p v.places.held). knows.not_held h) (λ (h : (r : ℕ) × (r < z.records) × Has p (g.lists r)). linked_not spare h.0 h.1 h.2)
      (by_owner kept z g m vs rule id v at live alone knows.rests knows.collected p (inside spare) (g.owner p) refl ne)

  pub spare_free : m (status p) ≡ 0
  spare_free =
      let spare = subst (λ (x : Size). IsSpare x p v.counts) (rule.seats.each id v at live).size knows.spare in
      dite (ℕ_discrete (m (status p)) 0) (λ is. is)
      (λ ne. absurd (not_owned spare (λ is. ne (subst (λ (o : Owner). Shows o (m (status p))) is (rule.places.shows p (inside spare))))))
