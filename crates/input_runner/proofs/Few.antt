-- How many indexes an input has at most.
use Rattle.std.proofs.Common.{◌≡◌, ℕ, suc, eqb, ◌<◌, ◌≤◌, ◌≢◌, true, false, List, [], ◌∷◌, map, length, All, AllPairs, refl, ap, inl, inr, arith}
use Rattle.std.specs.List.{AllByRecursion, IsDistinct, list_any}
use Rattle.std.proofs.lemmas.Bool.Decides.{eqb_tells}
use Rattle.std.proofs.lemmas.List.Elements.{All-head, All-tail}
use Rattle.std.proofs.lemmas.Map.Steps.{length-le_from_distinct_below}
use Rattle.replay_model.specs.Input.{AreIndexes}
use Rattle.histories.proofs.Lists.{pairs_head, pairs_tail}

abbrev tables_of : List (ℕ × ℕ) → List ℕ
tables_of indexes = map (λ (index : ℕ × ℕ). index.0) indexes

others_differ : (t : ℕ) (indexes : List (ℕ × ℕ)) → All (λ (index : ℕ × ℕ). t ≢ index.0) indexes → AllByRecursion (λ (u : ℕ). eqb t u ≡ false) (tables_of indexes)
others_differ t [] each = tt
others_differ t (index ∷ indexes) each = (
  elim (eqb_tells t index.0) [ inl same ↦ absurd (All-head (λ (i : ℕ × ℕ). t ≢ i.0) index indexes each same.1) | inr other ↦ other.0 ],
  others_differ t indexes (All-tail (λ (i : ℕ × ℕ). t ≢ i.0) index indexes each),
)

distinct : (indexes : List (ℕ × ℕ)) → AllPairs (λ (a b : ℕ × ℕ). a.0 ≢ b.0) indexes → IsDistinct eqb (tables_of indexes)
unfolding IsDistinct
distinct [] differ = tt
distinct (index ∷ indexes) differ =
    (others_differ index.0 indexes (pairs_head (λ (a b : ℕ × ℕ). a.0 ≢ b.0) index indexes differ), distinct indexes (pairs_tail (λ (a b : ℕ × ℕ). a.0 ≢ b.0) index indexes differ))

all_low : (indexes : List (ℕ × ℕ)) → All (λ (index : ℕ × ℕ). index.0 < 8) indexes → (q : ℕ) → list_any (eqb q) (tables_of indexes) ≡ true → q < 8
all_low [] each q found = absurd (cc)
all_low (index ∷ indexes) each q found = elim (eqb_tells q index.0) [
  | inl same ↦ let low = All-head (λ (i : ℕ × ℕ). i.0 < 8) index indexes each in let is = same.1 in omega arith
  | inr other ↦ all_low indexes (All-tail (λ (i : ℕ × ℕ). i.0 < 8) index indexes each) q (rw other.0 at found)
]

length_tables : (indexes : List (ℕ × ℕ)) → length (tables_of indexes) ≡ length indexes
length_tables [] = refl
length_tables (index ∷ indexes) = ap suc (length_tables indexes)

pub few_indexes : (tables : ℕ) (indexes : List (ℕ × ℕ)) → AreIndexes tables indexes → length indexes ≤ 8
few_indexes tables indexes are =
    let low : All (λ (index : ℕ × ℕ). index.0 < 8) indexes = λ i d lt. (are.each i d lt).low in
    let at_most = length-le_from_distinct_below (tables_of indexes) 8 (distinct indexes are.one_each) (all_low indexes low) in
    let same = length_tables indexes in
    omega arith
