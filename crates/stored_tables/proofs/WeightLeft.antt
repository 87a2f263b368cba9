-- A record is left for each ask, and tables weigh nothing where nothing is present.
use Rattle.std.proofs.Common.{◌≡◌, ◌≢◌, ◌⊎◌, ℕ, ◌+◌, ◌-◌, ◌*◌, ◌<◌, ◌≤◌, zero, suc, List, [], ◌∷◌, length, All, AllPairs, Option, None, Some, sum_by, refl, ap, arith, inl, inr, le_refl, le_trans}
use Rattle.std.specs.List.{range_with_len}
use Rattle.std.proofs.lemmas.Bool.{cases_eq}
use Rattle.std.proofs.lemmas.Option.{none-some}
use Rattle.std.proofs.lemmas.List.Elements.{All-nil, All-cons, All-weaker}
use Rattle.std.proofs.lemmas.List.Kept.{AllPairs-cons}
use Rattle.std.proofs.lemmas.List.Sums.{sum_by-cons}
use Rattle.plain_data.specs.State.{State, empty_state}
use Rattle.hash_index.specs.Chain.{Leads}
use Rattle.ordered_index.specs.Tree.{In}
use Rattle.stored_tables.specs.Places.{fixed_records}
use Rattle.stored_tables.specs.Weight.{below, weight, chain_weight, tree_weight, all_add}
use Rattle.stored_tables.specs.Weights.{IsLeft, AtMostWith, RecordLeft, EmptyWeighsNothing}
use Rattle.stored_tables.proofs.Counting.{in_from, few_in}
use Rattle.stored_tables.proofs.WeightMoves.{row_weight}
use Rattle.stored_tables.proofs.WeightAsks.{room_to_ask}

-- ---- numbers of a range: one is left, or each is present or given

abbrev IsPresent : State → ℕ → ℕ → Type 0
IsPresent state from rid = (from ≤ rid) × ((words : List ℕ) × (state rid ≡ Some words))

abbrev IsGiven : List ℕ → ℕ → ℕ → Type 0
IsGiven given from rid = (from ≤ rid) × In rid given

record AllTaken (state : State) (given : List ℕ) (from n : ℕ) : Type 0 where
  pub present : List ℕ
  pub others : List ℕ
  pub counted : n ≡ length present + length others
  pub apart : AllPairs (λ a b. a ≢ b) present
  pub are_present : All (IsPresent state from) present
  pub others_apart : AllPairs (λ a b. a ≢ b) others
  pub are_given : All (IsGiven given from) others

in_or_not : (xs : List ℕ) (rid : ℕ) → In rid xs ⊎ (In rid xs → ⊥)
in_or_not [] rid = inr (λ there. there)
in_or_not (x ∷ xs) rid = elim (cases_eq x rid) as (λ _. In rid (x ∷ xs) ⊎ (In rid (x ∷ xs) → ⊥)) [
  | inl same ↦ inl (inl same)
  | inr differs ↦ elim (in_or_not xs rid) as (λ _. In rid (x ∷ xs) ⊎ (In rid (x ∷ xs) → ⊥)) [
    | inl more ↦ inl (inr more)
    | inr none ↦ inr (λ there. elim there as (λ _. ⊥) [ inl is ↦ differs is | inr more ↦ none more ])
  ]
]

known : (found : Option (List ℕ)) → ((words : List ℕ) × (found ≡ Some words)) ⊎ (found ≡ None)
known None = inr refl
known (Some words) = inl (words, refl)

no_pairs : AllPairs (λ (a b : ℕ). a ≢ b) []
no_pairs = λ i j d less within. absurd (omega arith)

module _ (state : State) (given : List ℕ) (from n : ℕ) (rest : AllTaken state given (from + 1) n) where
  later_present : All (IsPresent state from) rest.present
  later_present = All-weaker (IsPresent state (from + 1)) (IsPresent state from) (λ rid is. (omega (arith, is.0), is.1)) rest.present rest.are_present

  later_given : All (IsGiven given from) rest.others
  later_given = All-weaker (IsGiven given (from + 1)) (IsGiven given from) (λ rid is. (omega (arith, is.0), is.1)) rest.others rest.are_given

  with_present : ((words : List ℕ) × (state from ≡ Some words)) → AllTaken state given from (suc n)
  with_present here = record {
    present = from ∷ rest.present;
    others = rest.others;
    counted = omega (arith, rest.counted);
    apart = AllPairs-cons (λ a b. a ≢ b) from rest.present (All-weaker (IsPresent state (from + 1)) (λ rid. from ≢ rid) (λ rid is same. omega (arith, is.0, same)) rest.present rest.are_present) rest.apart;
    are_present = All-cons (IsPresent state from) from rest.present (le_refl from, here) later_present;
    others_apart = rest.others_apart;
    are_given = later_given;
  }

  with_given : In from given → AllTaken state given from (suc n)
  with_given here = record {
    present = rest.present;
    others = from ∷ rest.others;
    counted = omega (arith, rest.counted);
    apart = rest.apart;
    are_present = later_present;
    others_apart = AllPairs-cons (λ a b. a ≢ b) from rest.others (All-weaker (IsGiven given (from + 1)) (λ rid. from ≢ rid) (λ rid is same. omega (arith, is.0, same)) rest.others rest.are_given) rest.others_apart;
    are_given = All-cons (IsGiven given from) from rest.others (le_refl from, here) later_given;
  }

IsLeftIn : State → List ℕ → ℕ → ℕ → Type 0
IsLeftIn state given from n = (rid : ℕ) × (from ≤ rid) × (rid < from + n) × IsLeft state given rid

left_or_taken : (state : State) (given : List ℕ) (from n : ℕ) → IsLeftIn state given from n ⊎ AllTaken state given from n
unfolding IsLeftIn
left_or_taken state given from zero = inr (record { present = []; others = []; counted = refl; apart = no_pairs; are_present = All-nil (IsPresent state from); others_apart = no_pairs; are_given = All-nil (IsGiven given from) })
left_or_taken state given from (suc n) = elim (left_or_taken state given (from + 1) n) as (λ _. IsLeftIn state given from (suc n) ⊎ AllTaken state given from (suc n)) [
  | inl (rid, low, high, left) ↦ inl (rid, omega arith, omega arith, left)
  | inr rest ↦ elim (known (state from)) as (λ _. IsLeftIn state given from (suc n) ⊎ AllTaken state given from (suc n)) [
    | inl here ↦ inr (with_present state given from n rest here)
    | inr absent ↦ elim (in_or_not given from) as (λ _. IsLeftIn state given from (suc n) ⊎ AllTaken state given from (suc n)) [
      | inl here ↦ inr (with_given state given from n rest here)
      | inr none ↦ inl (from, le_refl from, omega arith, record { absent = absent; not_given = λ there. none (in_from given from there) })
    ]
  ]
]

not_all_taken : (state : State) (given : List ℕ) (fixed asked most : ℕ) → fixed_records ≤ fixed → length given < asked
    → AtMostWith fixed_records state asked most → AllTaken state given fixed most → ⊥
not_all_taken state given fixed asked most behind few with_those taken =
    let present = with_those taken.present taken.apart (All-weaker (IsPresent state fixed) (IsPresent state fixed_records) (λ rid is. (omega (arith, is.0, behind), is.1)) taken.present taken.are_present) in
    let others = few_in taken.others given taken.others_apart (All-weaker (IsGiven given fixed) (λ rid. In rid given) (λ rid is. is.1) taken.others taken.are_given) in
    omega (arith, present, others, few, taken.counted)

pub record_left : RecordLeft
unfolding IsLeftIn
record_left = λ size fixed records state places tables commands asked given stands are_known may behind enough few.
    let most = weight places + all_add commands tables in
    let with_those : AtMostWith fixed_records state asked most = room_to_ask size state places tables commands asked stands are_known may in
    elim (left_or_taken state given fixed most) as (λ _. (rid : ℕ) × (fixed ≤ rid) × (rid < records) × IsLeft state given rid) [
      | inl (rid, low, high, left) ↦ (rid, low, le_trans high enough, left)
      | inr taken ↦ absurd (not_all_taken state given fixed asked most behind few with_those taken)
    ]

-- ---- nothing present

sum_none : (f : ℕ → ℕ) (a n : ℕ) → ((i : ℕ) → i < a + n → f i ≡ 0) → sum_by f (range_with_len a n) ≡ 0
sum_none f a zero each = refl
sum_none f a (suc n) each =
    let more = sum_none f (a + 1) n (λ i low. each i (omega arith)) in
    let here = each a (omega arith) in
    omega (arith, more, here, sum_by-cons f a (range_with_len (a + 1) n))

no_nodes : (size : ℕ) (nodes : List (ℕ × List ℕ)) → Leads size empty_state 0 None nodes None → row_weight nodes ≡ 0
no_nodes size [] leads = refl
no_nodes size (node ∷ nodes) leads = absurd (none-some node.0 leads.0)

nothing : (a b : ℕ) → a ≡ 0 → b ≡ 0 → a + b ≡ 0
nothing a b first second = omega (arith, first, second)

pub empty_weighs_nothing : EmptyWeighsNothing
empty_weighs_nothing = λ size places tables stands.
    nothing (sum_by (chain_weight places) (below 8)) (sum_by (tree_weight places) (below 16))
    (sum_none (chain_weight places) 0 8 (λ table known. sum_none (λ number. row_weight (places.rows table number)) 0 511 (λ number low. no_nodes size (places.rows table number) ((stands.shape.chains table known).walks number low))))
    (sum_none (tree_weight places) 0 16 (λ number low. ap (λ leaves. 2 * (length leaves - 1)) (stands.shape.trees number low).descends.1))
