-- One more element in what a pass over an order keeps.
use Rattle.std.proofs.Common.{◌≡◌, ◌↔◌, ℕ, ◌<◌, Bool, true, false, cond, eqb, List, [], ◌∷◌, ◌++◌, Some, refl, sym, ap, subst, ◌∙◌, arith}
use Rattle.std.specs.Prelude.{◌&&◌, ◌||◌, IfSome, Option}
use Rattle.std.specs.declared.cmp.Ordering.{Ordering}
use Rattle.std.specs.declared.cmp.Ordering.TheVariants.{Less, Equal, Greater}
use Rattle.std.specs.Bool.{beq}
use Rattle.std.specs.Cmp.{booleans_Decides}
use Rattle.std.specs.Ordering.{nat_cmp, bool_cmp, ordering_then, is_eq}
use Rattle.std.specs.Map.{lookup}
use Rattle.std.specs.BTreeMap.{is_at}
use Rattle.std.specs.BTreeSet.{BTreeSet, contains}
use Rattle.std.specs.List.{list_any}
use Rattle.std.proofs.lemmas.Bool.{eqb-true, eq-eqb}
use Rattle.std.proofs.lemmas.Bool.Decides.{nat_tests}
use Rattle.std.proofs.lemmas.List.Folds.{list_any-append}
use Rattle.std.proofs.lemmas.Option.{IfSome_then}
use Rattle.replay_model.specs.declared.outcome.Placed.{Placed}
use Rattle.replay_model.specs.TableMap.{pair_cmp}
use Rattle.replay_model.specs.Order.{at_place, NamesOther, KeepsLane}
use Rattle.replay_model.specs.Seen.{kind_cmp, IsKept}

is_eq-then : (a b : Ordering) → is_eq (ordering_then a b) ≡ (is_eq a && is_eq b)
is_eq-then Less b = refl
is_eq-then Equal b = refl
is_eq-then Greater b = refl

is_eq-nat_cmp : (a b : ℕ) → is_eq (nat_cmp a b) ≡ eqb a b
is_eq-nat_cmp a b = grind (arith, nat_tests)

is_eq-bool_cmp : (s t : Bool) → is_eq (bool_cmp s t) ≡ beq s t
is_eq-bool_cmp false false = refl
is_eq-bool_cmp false true = refl
is_eq-bool_cmp true false = refl
is_eq-bool_cmp true true = refl

at_pair : (a b c d : ℕ) → is_at (pair_cmp (a, b)) (c, d) ≡ (eqb a c && eqb b d)
at_pair a b c d = is_eq-then (nat_cmp a c) (nat_cmp b d) ∙ (λ i. is_eq-nat_cmp a c i && is_eq-nat_cmp b d i)

at_kind : (a : ℕ) (s : Bool) (b : ℕ) (t : Bool) → is_at (kind_cmp (a, s)) (b, t) ≡ (eqb a b && beq s t)
at_kind a s b t = is_eq-then (nat_cmp a b) (bool_cmp s t) ∙ (λ i. is_eq-nat_cmp a b i && is_eq-bool_cmp s t i)

and_parts : (a b : Bool) → (a && b) ≡ true → (a ≡ true) × (b ≡ true)
and_parts true b e = (refl, e)
and_parts false b e = absurd cc

both : (a b : Bool) → a ≡ true → b ≡ true → (a && b) ≡ false → ⊥
both true true x y e = absurd cc
both true false x y e = absurd cc
both false b x y e = absurd cc

true≢false-from : (b : Bool) → b ≡ true → b ≡ false → ⊥
true≢false-from true t f = absurd cc
true≢false-from false t f = absurd cc

-- ---- elements that name the same block

pub other_step : (s n : BTreeSet (ℕ × ℕ)) (x : Placed) → ((q : ℕ × ℕ) → contains pair_cmp n q ≡ cond (is_at (pair_cmp (x.lane, x.number)) q) true (contains pair_cmp s q)) → (b : Placed) → (NamesOther x b × (contains pair_cmp s (b.lane, b.number) ≡ false)) ↔ (contains pair_cmp n (b.lane, b.number) ≡ false)
other_step s n x updates b =
    let at = at_pair x.lane x.number b.lane b.number in
    let there = contains pair_cmp s (b.lane, b.number) in
    subst (λ r. (NamesOther x b × (there ≡ false)) ↔ (r ≡ false)) (sym (updates (b.lane, b.number) ∙ ap (λ t. cond t true there) at))
    (elim (eqb x.lane b.lane && eqb x.number b.number) as (λ t. (eqb x.lane b.lane && eqb x.number b.number) ≡ t → (NamesOther x b × (there ≡ false)) ↔ (cond t true there ≡ false)) [
      | true ↦ λ e. let parts = and_parts (eqb x.lane b.lane) (eqb x.number b.number) e in
          (λ p. absurd (p.0 (eqb-true _ _ parts.0, eqb-true _ _ parts.1)), λ t. absurd cc)
      | false ↦ λ e. (λ p. p.1, λ free. (λ same. both (eqb x.lane b.lane) (eqb x.number b.number) (eq-eqb _ _ same.0) (eq-eqb _ _ same.1) e, free))
    ] refl)

cond_or : (b s : Bool) → cond b true s ≡ (s || (b || false))
cond_or true true = refl
cond_or true false = refl
cond_or false true = refl
cond_or false false = refl

pub named_step : (s n : BTreeSet (ℕ × ℕ)) (passed : List Placed) (x : Placed) → ((q : ℕ × ℕ) → contains pair_cmp n q ≡ cond (is_at (pair_cmp (x.lane, x.number)) q) true (contains pair_cmp s q)) → ((l k : ℕ) → contains pair_cmp s (l, k) ≡ list_any (at_place l k) passed) → (l k : ℕ) → contains pair_cmp n (l, k) ≡ list_any (at_place l k) (passed ++ x ∷ [])
named_step s n passed x updates before l k =
    updates (l, k) ∙ ap (λ t. cond t true (contains pair_cmp s (l, k))) (at_pair x.lane x.number l k)
    ∙ ap (λ r. cond (eqb x.lane l && eqb x.number k) true r) (before l k) ∙ cond_or (eqb x.lane l && eqb x.number k) (list_any (at_place l k) passed)
    ∙ sym (list_any-append (at_place l k) passed (x ∷ []))

-- ---- the last number of a lane and kind

pub kept_step : (es fs : List ((ℕ × Bool) × ℕ)) (x : Placed) → ((q : ℕ × Bool) → lookup (is_at (kind_cmp q)) fs ≡ cond (is_at (kind_cmp (x.lane, x.snap)) q) (Some x.number) (lookup (is_at (kind_cmp q)) es)) → IsKept es x → (b : Placed) → (KeepsLane x b × IsKept es b) ↔ IsKept fs b
kept_step es fs x updates kept b =
    let at = at_kind x.lane x.snap b.lane b.snap in
    let last = lookup (is_at (kind_cmp (b.lane, b.snap))) es in
    let P : ℕ → Type 0 = λ n. n < b.number in
    let T = eqb x.lane b.lane && beq x.snap b.snap in
    subst (λ (o : Option ℕ). (KeepsLane x b × IfSome last P) ↔ IfSome o P) (sym (updates (b.lane, b.snap) ∙ ap (λ t. cond t (Some x.number) last) at))
    (elim T as (λ t. T ≡ t → (KeepsLane x b × IfSome last P) ↔ IfSome (cond t (Some x.number) last) P) [
      | true ↦ λ e.
          let parts = and_parts (eqb x.lane b.lane) (beq x.snap b.snap) e in
          let lane = eqb-true x.lane b.lane parts.0 in
          let snap = (booleans_Decides x.snap b.snap).0 parts.1 in (
            λ p. p.0 lane snap,
            λ lt. (
              λ _ _. lt,
              subst (λ (k : ℕ × Bool). IfSome (lookup (is_at (kind_cmp k)) es) P) (λ i. (lane i, snap i))
                  (IfSome_then (lookup (is_at (kind_cmp (x.lane, x.snap))) es) {P = λ n. n < x.number} {Q = P} kept (λ n h. omega arith)),
            ),
          )
      | false ↦ λ e. (
        λ p. p.1,
        λ s. (λ lane snap. absurd (both (eqb x.lane b.lane) (beq x.snap b.snap) (eq-eqb _ _ lane) ((booleans_Decides x.snap b.snap).1 snap) e), s),
      )
    ] refl)
