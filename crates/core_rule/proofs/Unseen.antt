-- A place out of reach: every active stamp sees a later version of its record. So no step frees a place that one can select.
use Rattle.std.proofs.Common.{◌≡◌, ℕ, ◌<◌, ◌≤◌, ◌⊎◌, true, false, List, [], ◌∷◌, refl, sym, ap, subst, ⊎_elim, arith, inl, inr, Some}
use mathlib.Core.Logic.{dite}
use native.Mathlib.Decide.{dec_lt}
use Rattle.plain_data.specs.State.{State}
use Rattle.word_layout.specs.Size.{Size}
use Rattle.word_layout.specs.Name.{min_read}
use Rattle.core_rule.specs.Memory.{Memory, stored}
use Rattle.core_rule.specs.World.{World}
use Rattle.core_rule.specs.View.{View, Flight, writing, freeing}
use Rattle.core_rule.specs.Views.{At, Has, SomeView}
use Rattle.core_rule.specs.Searching.{IsFinal, shown_at}
use Rattle.core_rule.specs.Visible.{IsVisible, IsActive, writing_at, reading_at, OutOfReach}
use Rattle.core_rule.specs.Kinds.{free_place}
use Rattle.core_rule.specs.Rule.{Rule, status_words, floor_words}
use Rattle.core_rule.specs.Parts.Lists.{Falls}
use Rattle.core_rule.specs.Parts.Values.{Publishes, IsInstalled}
use Rattle.core_rule.specs.Parts.Clocks.{InFlight}
use Rattle.core_rule.proofs.Step.{Step}
use Rattle.core_rule.proofs.Collected.{chain_of, left_of}

-- a version that ends a search: committed or deleted, and not too late
by_sight : (n w limit : ℕ) → (IsFinal n × (w < limit)) ⊎ (IsFinal n → w < limit → ⊥)
by_sight n w limit = dite (dec_lt w limit)
    (λ lt. dite (dec_lt n 3) (λ low. inr (λ f l. let a = f.0 in absurd (omega arith)))
    (λ ge. dite (dec_lt 4 n) (λ high. inr (λ f l. let a = f.1 in absurd (omega arith))) (λ le. inl ((omega arith, omega arith), lt))))
    (λ ge. inr (λ f l. absurd (omega arith)))

-- the version in place q is visible, and not below this number
record SeesFrom (S T : ℕ → ℕ) (xs : List ℕ) (limit least : ℕ) : Type 0 where
  pub place : ℕ
  pub visible : IsVisible S T xs limit place
  pub later : least ≤ S place

-- a list that falls has a visible version where it has one that is committed or deleted and not too late
sees : (S T : ℕ → ℕ) (limit p : ℕ) (xs : List ℕ) → Falls S xs → Has p xs → IsFinal (T p) → S p < limit → SeesFrom S T xs limit (S p)
sees S T limit p [] falls has final below = absurd has
sees S T limit p (x ∷ xs) falls has final below = ⊎_elim
    (λ (here : IsFinal (T x) × (S x < limit)). record {
      place = x;
      visible = record {
        there = inl refl;
        final = here.0;
        below = here.1;
        greatest = λ q at f lt. ⊎_elim (λ (e : x ≡ q). let same = ap S e in omega arith) (λ (k : Has q xs). let low = falls.0 q k in omega arith) at;
      };
      later = ⊎_elim (λ (e : x ≡ p). let same = ap S e in omega arith) (λ (k : Has p xs). let low = falls.0 p k in omega arith) has;
    })
    (λ (not : IsFinal (T x) → S x < limit → ⊥). rest not (sees S T limit p xs falls.1 (⊎_elim
    (λ (e : x ≡ p). absurd (not (subst (λ (q : ℕ). IsFinal (T q)) (sym e) final) (subst (λ (q : ℕ). S q < limit) (sym e) below)))
    (λ (k : Has p xs). k) has) final below))
    (by_sight (T x) (S x) limit) where
      rest : (IsFinal (T x) → S x < limit → ⊥) → SeesFrom S T xs limit (S p) → SeesFrom S T (x ∷ xs) limit (S p)
      rest not r = record {
        place = r.place;
        visible = record {
          there = inr r.visible.there;
          final = r.visible.final;
          below = r.visible.below;
          greatest = λ q at f lt. ⊎_elim (λ (e : x ≡ q). absurd (not (subst (λ (y : ℕ). IsFinal (T y)) (sym e) f) (subst (λ (y : ℕ). S y < limit) (sym e) lt)))
              (λ (h : Has q xs). r.visible.greatest q h f lt) at;
        };
        later = r.later;
      }

shown_final : (cells : List ℕ) → IsFinal (shown_at true cells)
shown_final [] = (omega arith, omega arith)
shown_final (x ∷ xs) = (omega arith, omega arith)

module _ (kept : State → Type 0) (z : Size) (g : World) (m : Memory) (vs : List View) (rule : Rule kept z g m vs) where
  abbrev S : ℕ → ℕ
  S = (stored m).stamps

  abbrev T : ℕ → ℕ
  T = status_words m

  -- a committed or deleted version is linked at the stamp c or above it, and no later than c and the floor
  record LinkedFrom (r c : ℕ) : Type 0 where
    on_record : r < z.records
    place : ℕ
    there : Has place (g.lists r)
    final : IsFinal (T place)
    from : c ≤ S place
    early : (S place ≡ c) ⊎ (S place ≤ m min_read)

  module _ (id : ℕ) (v : View) (at : At vs id v) (live : v.spent ≡ false) (r c p : ℕ) (out : OutOfReach S vs v.log r c p) where
    -- a transaction that publishes at c is in flight there, which no published write word allows
    none_publishes : (u : Flight) → SomeView (λ w. w.flight ≡ writing c) vs → ⊥
    none_publishes u some =
        let f = subst (InFlight some.view.clock some.view.published) some.holds ((rule.clocks some.index some.view some.here some.is_open).in_flight) in
        let above = out.writes some.index some.view some.here some.is_open in let e = f.1 in absurd (omega arith)

    linked_from : LinkedFrom r c
    linked_from = by_place (rule.values.installed r out.entered.entry out.entered.write record {
      logged = record { index = id; view = v; here = at; is_open = live; among = out.entered.among };
      commit = out.entered.commit;
      among = out.entered.writes;
      of_record = out.entered.of_record;
    }) where
      by_place : (r < z.records) × ((out.entered.entry.stamp < floor_words m r) ⊎ IsInstalled g.lists S (stored m).cells T vs out.entered.entry.stamp out.entered.write) → LinkedFrom r c
      by_place (lt, inl under) =
          let list = rule.lists.each r lt in let b = list.base in let low = list.settled in let e = out.entered.at in let st = b.stamp in record {
            on_record = lt;
            place = b.place;
            there = b.there;
            final = b.final;
            from = omega arith;
            early = inr (omega arith);
          }
      by_place (lt, inr i) =
          let e = out.entered.at in let st = i.stamp in record {
            on_record = lt;
            place = out.entered.write.place;
            there = subst (λ (x : ℕ). Has out.entered.write.place (g.lists x)) out.entered.of_record i.there;
            final = ⊎_elim (λ (is : T out.entered.write.place ≡ shown_at true out.entered.write.cells). subst IsFinal (sym is) (shown_final out.entered.write.cells))
                (λ (pending : (T out.entered.write.place ≡ 2) × SomeView (Publishes out.entered.entry.stamp out.entered.write) vs).
                let q = pending.1 in
                absurd (none_publishes v.flight record { index = q.index; view = q.view; here = q.here; is_open = q.is_open; holds = subst (λ (t : ℕ). q.view.flight ≡ writing t) e q.holds.in_flight })) i.shows;
            from = omega arith;
            early = inl (omega arith);
          }

    -- every active stamp sees a version that is later than the one in place p
    pub unseen : (limit : ℕ) → IsActive vs limit → (q : ℕ) × IsVisible S T (g.lists r) limit q × (S p < S q)
    unseen limit active =
        let l = linked_from in
        let s = sees S T limit l.place (g.lists r) (rule.lists.each r l.on_record).falls l.there l.final (in_time limit active l.early) in
        let low = out.below in let from = l.from in let later = s.later in
        (s.place, s.visible, omega arith) where
          in_time : (limit : ℕ) → IsActive vs limit → (S linked_from.place ≡ c) ⊎ (S linked_from.place ≤ m min_read) → S linked_from.place < limit
          in_time limit (writing_at t some) early =
              let above = out.writes some.index some.view some.here some.is_open in let b = rule.minima.reads_below in
              let w = (rule.minima.each some.index some.view some.here some.is_open).writes in let h = some.holds in
              ⊎_elim (λ (e : S linked_from.place ≡ c). omega arith) (λ (le : S linked_from.place ≤ m min_read). omega arith) early
          in_time limit (reading_at s some) early =
              let above = out.reads some.index some.view some.here some.is_open in
              let w = (rule.minima.each some.index some.view some.here some.is_open).reads in let h = some.holds in
              ⊎_elim (λ (e : S linked_from.place ≡ c). omega arith) (λ (le : S linked_from.place ≤ m min_read). omega arith) early

module _ (kept : State → Type 0) (z : Size) (g : World) (m : Memory) (vs : List View) (id : ℕ) (v : View) where
  -- a step frees no place that an active stamp can select
  pub freed_unseen : (r c to p : ℕ) → Step kept z g m vs id v (free_place r c to p) → (limit : ℕ) → IsActive vs limit → (q : ℕ) × IsVisible (stored m).stamps (status_words m) (g.lists r) limit q × ((stored m).stamps p < (stored m).stamps q)
  freed_unseen r c to p s =
      let chain = chain_of kept z g m vs s.rule id v s.at s.allowed.is_open r c (freeing to (Some p)) tt s.allowed.can in
      unseen kept z g m vs s.rule id v s.at s.allowed.is_open r c p (chain.gone p (left_of kept z g m vs s.rule id v s.at s.allowed.is_open r c to p s.allowed.can))
