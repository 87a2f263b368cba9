-- Spots can be told apart.
use Rattle.std.proofs.Common.{◌≡◌, ◌≢◌, ◌⊎◌, ℕ, refl, sym, ap, ◌∙◌, arith, inl, inr}
use Rattle.std.proofs.lemmas.Bool.{cases_eq}
use Rattle.stored_tables.specs.Places.{Spot}
use Rattle.stored_tables.specs.Places.Spot.{bucket, tree, row, head}

kind_of : Spot → ℕ
kind_of (bucket table number) = 0
kind_of (tree number) = 1
kind_of (row table key) = 2
kind_of (head table) = 3

place_of : Spot → ℕ
place_of (bucket table number) = table
place_of (tree number) = number
place_of (row table key) = table
place_of (head table) = table

part_of : Spot → ℕ
part_of (bucket table number) = number
part_of (tree number) = 0
part_of (row table key) = key
part_of (head table) = 0

differ : (a b : Spot) (x y : ℕ) → kind_of a ≡ x → kind_of b ≡ y → (x ≡ y → ⊥) → a ≢ b
differ a b x y p q apart same = apart (let e : kind_of a ≡ kind_of b = ap kind_of same in omega (arith, p, q, e))

-- spots of one kind
pub bucket_table : (a b c d : ℕ) → bucket a b ≡ bucket c d → a ≡ c
unfolding place_of
bucket_table a b c d same = ap place_of same

pub tree_number : (a b : ℕ) → tree a ≡ tree b → a ≡ b
unfolding place_of
tree_number a b same = ap place_of same

pub head_table : (a b : ℕ) → head a ≡ head b → a ≡ b
unfolding place_of
head_table a b same = ap place_of same

-- spots of two kinds
pub bucket_tree : (a b c : ℕ) → bucket a b ≢ tree c
unfolding kind_of
bucket_tree a b c = differ (bucket a b) (tree c) 0 1 refl refl (λ same. omega (arith, same))

pub bucket_row : (a b c d : ℕ) → bucket a b ≢ row c d
unfolding kind_of
bucket_row a b c d = differ (bucket a b) (row c d) 0 2 refl refl (λ same. omega (arith, same))

pub bucket_head : (a b c : ℕ) → bucket a b ≢ head c
unfolding kind_of
bucket_head a b c = differ (bucket a b) (head c) 0 3 refl refl (λ same. omega (arith, same))

pub tree_row : (a c d : ℕ) → tree a ≢ row c d
unfolding kind_of
tree_row a c d = differ (tree a) (row c d) 1 2 refl refl (λ same. omega (arith, same))

pub tree_head : (a c : ℕ) → tree a ≢ head c
unfolding kind_of
tree_head a c = differ (tree a) (head c) 1 3 refl refl (λ same. omega (arith, same))

pub row_head : (a b c : ℕ) → row a b ≢ head c
unfolding kind_of
row_head a b c = differ (row a b) (head c) 2 3 refl refl (λ same. omega (arith, same))

turned : (a b : Spot) → a ≢ b → b ≢ a
turned a b apart same = apart (sym same)

one_place : (f : ℕ → Spot) (a b : ℕ) → (f a ≡ f b → a ≡ b) → (f a ≡ f b) ⊎ (f a ≢ f b)
one_place f a b back = elim (cases_eq a b) as (λ _. (f a ≡ f b) ⊎ (f a ≢ f b)) [
  | inl same ↦ inl (ap f same)
  | inr differs ↦ inr (λ same. differs (back same))
]

two_places : (f : ℕ → ℕ → Spot) (a b c d : ℕ) → (f a b ≡ f c d → a ≡ c) → (f a b ≡ f c d → b ≡ d) → (f a b ≡ f c d) ⊎ (f a b ≢ f c d)
two_places f a b c d first second = elim (cases_eq a c) as (λ _. (f a b ≡ f c d) ⊎ (f a b ≢ f c d)) [
  | inl one ↦ elim (cases_eq b d) as (λ _. (f a b ≡ f c d) ⊎ (f a b ≢ f c d)) [
    | inl two ↦ inl (ap (λ x. f x b) one ∙ ap (λ y. f c y) two)
    | inr differs ↦ inr (λ same. differs (second same))
  ]
  | inr differs ↦ inr (λ same. differs (first same))
]

pub told_apart : (a b : Spot) → (a ≡ b) ⊎ (a ≢ b)
unfolding place_of part_of
told_apart (bucket a b) (bucket c d) = two_places bucket a b c d (λ same. ap place_of same) (λ same. ap part_of same)
told_apart (row a b) (row c d) = two_places row a b c d (λ same. ap place_of same) (λ same. ap part_of same)
told_apart (tree a) (tree c) = one_place tree a c (λ same. ap place_of same)
told_apart (head a) (head c) = one_place head a c (λ same. ap place_of same)
told_apart (bucket a b) (tree c) = inr (bucket_tree a b c)
told_apart (bucket a b) (row c d) = inr (bucket_row a b c d)
told_apart (bucket a b) (head c) = inr (bucket_head a b c)
told_apart (tree a) (bucket c d) = inr (turned (bucket c d) (tree a) (bucket_tree c d a))
told_apart (tree a) (row c d) = inr (tree_row a c d)
told_apart (tree a) (head c) = inr (tree_head a c)
told_apart (row a b) (bucket c d) = inr (turned (bucket c d) (row a b) (bucket_row c d a b))
told_apart (row a b) (tree c) = inr (turned (tree c) (row a b) (tree_row c a b))
told_apart (row a b) (head c) = inr (row_head a b c)
told_apart (head a) (bucket c d) = inr (turned (bucket c d) (head a) (bucket_head c d a))
told_apart (head a) (tree c) = inr (turned (tree c) (head a) (tree_head c a))
told_apart (head a) (row c d) = inr (turned (row c d) (head a) (row_head c d a))
