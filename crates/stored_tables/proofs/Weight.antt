-- Tables use no more new records than they weigh: each such record is a row, a node behind a bucket, or a node beside a root.
use Rattle.std.proofs.Common.{◌≡◌, ◌≢◌, ℕ, ◌+◌, ◌-◌, ◌<◌, ◌≤◌, List, [], ◌∷◌, ◌++◌, length, map, drop, All, Option, None, Some, option_map, sum_by, sym, ◌∙◌, arith, inl, inr, eq-eqb, ne_eqb, lt-ltb, le-ltb, le_trans}
use Rattle.std.specs.List.{flat_map, range_with_len}
use Rattle.std.proofs.lemmas.Bool.{cases_eq, cases_lt}
use Rattle.std.proofs.lemmas.Option.{same_Some, none-some}
use Rattle.std.proofs.lemmas.List.{length-append, length-map, length-drop}
use Rattle.std.proofs.lemmas.List.Concat.{length-flat_map}
use Rattle.plain_data.specs.State.{State}
use Rattle.hash_index.specs.Chain.{Leads, start_of, row_pairs, record_at, bucket_of}
use Rattle.record_store.specs.Links.{records_of}
use Rattle.ordered_index.specs.Tree.{In, tree_records}
use Rattle.replay_model.specs.TableMap.{TableMap}
use Rattle.stored_tables.specs.Places.{Places, Spot, bucket, tree, row, head, holds, base_of, root_of, fixed_records}
use Rattle.stored_tables.specs.Tables.{StandsFor}
use Rattle.stored_tables.specs.Weight.{below, weight, chain_weight, tree_weight}
use Rattle.stored_tables.specs.Weights.{SparesWithinWeight}
use Rattle.stored_tables.proofs.Counting.{in_from, in_left, in_right, in_piece, few_in, sum_most}
use Rattle.stored_tables.proofs.WeightTrees.{branching, tree_beside, tree_most}

-- ---- the new records that tables may use, in a list

-- those of one bucket: the rows of its pairs, and its nodes behind the first
abbrev pub bucket_spares : (ℕ → List (ℕ × List ℕ)) → ℕ → List ℕ
bucket_spares rows number = map (λ pair. pair.1) (row_pairs (rows number)) ++ drop 1 (records_of (rows number))

abbrev pub chain_spares : Places → ℕ → List ℕ
chain_spares places table = flat_map (bucket_spares (places.rows table)) (below 511)

-- the nodes of a tree behind the first, which is its root
abbrev pub tree_spares : Places → ℕ → List ℕ
tree_spares places number = drop 1 (tree_records (places.levels number) (places.leaves number))

abbrev pub spares : Places → List ℕ
spares places = flat_map (chain_spares places) (below 8) ++ flat_map (tree_spares places) (below 16)

-- ---- each new record is among them

record_in : (pairs : List (ℕ × ℕ)) (key rid : ℕ) → record_at pairs key ≡ Some rid → In rid (map (λ pair. pair.1) pairs)
record_in [] key rid at = absurd (none-some rid at)
record_in (pair ∷ pairs) key rid at = elim (cases_eq key pair.0) as (λ _. In rid (map (λ pair. pair.1) (pair ∷ pairs))) [
  | inl same ↦ inl (same_Some pair.1 rid (rw (eq-eqb key pair.0 same) at at))
  | inr differs ↦ inr (record_in pairs key rid (rw (ne_eqb key pair.0 differs) at at))
]

starts_at : (found : Option (List ℕ)) (first rid : ℕ) → option_map (λ _. first) found ≡ Some rid → first ≡ rid
starts_at None first rid starts = absurd (none-some rid starts)
starts_at (Some words) first rid starts = same_Some first rid starts

behind_bucket : (size first rid : ℕ) (state : State) (nodes : List (ℕ × List ℕ)) → rid ≢ first
    → Leads size state 0 (start_of state first) nodes None → In rid (records_of nodes) → In rid (drop 1 (records_of nodes))
behind_bucket size first rid state [] differs leads there = there
behind_bucket size first rid state (node ∷ nodes) differs leads there = elim there as (λ _. In rid (records_of nodes)) [
  | inl same ↦ absurd (differs (sym same ∙ sym (starts_at (state first) first node.0 leads.0)))
  | inr more ↦ more
]

pub bucket_below : (key : ℕ) → bucket_of key < 511
bucket_below key = omega arith

root_fixed : (number : ℕ) → number < 16 → root_of number < fixed_records
root_fixed number low = elim (cases_lt number 8) as (λ _. root_of number < fixed_records) [
  | inl first ↦ rw (lt-ltb number 8 first) (omega arith)
  | inr second ↦ rw (le-ltb number 8 second) (omega arith)
]

spare_at : (size : ℕ) (state : State) (places : Places) (tables : TableMap) (rid : ℕ) → StandsFor size state places tables
    → fixed_records ≤ rid → (spot : Spot) → holds places spot rid → In rid (spares places)
spare_at size state places tables rid stands new (bucket table number) (known, low, there) =
    in_left (flat_map (chain_spares places) (below 8)) (flat_map (tree_spares places) (below 16)) rid
    (in_piece (chain_spares places) 0 8 table rid (omega arith) (omega arith)
    (in_piece (bucket_spares (places.rows table)) 0 511 number rid (omega arith) (omega arith)
    (in_right (map (λ pair. pair.1) (row_pairs (places.rows table number))) (drop 1 (records_of (places.rows table number))) rid
    (behind_bucket size (base_of table + number) rid state (places.rows table number) (λ same. omega arith) ((stands.shape.chains table known).walks number low)
    (in_from (records_of (places.rows table number)) rid there)))))
spare_at size state places tables rid stands new (tree number) (known, there) =
    in_right (flat_map (chain_spares places) (below 8)) (flat_map (tree_spares places) (below 16)) rid
    (in_piece (tree_spares places) 0 16 number rid (omega arith) (omega arith)
    (tree_beside size (root_of number) rid state (places.levels number) (places.leaves number) (λ same. let fixed = root_fixed number known in omega (arith, same, fixed, new)) (stands.shape.trees number known) there))
spare_at size state places tables rid stands new (row table key) (known, at) =
    in_left (flat_map (chain_spares places) (below 8)) (flat_map (tree_spares places) (below 16)) rid
    (in_piece (chain_spares places) 0 8 table rid (omega arith) (omega arith)
    (in_piece (bucket_spares (places.rows table)) 0 511 (bucket_of key) rid (omega arith) (bucket_below key)
    (in_left (map (λ pair. pair.1) (row_pairs (places.rows table (bucket_of key)))) (drop 1 (records_of (places.rows table (bucket_of key)))) rid
    (record_in (row_pairs (places.rows table (bucket_of key))) key rid (stands.tied.chain table key known ∙ at)))))
spare_at size state places tables rid stands new (head table) (known, is_some, same) = absurd (omega arith)

pub in_spares : (size : ℕ) (state : State) (places : Places) (tables : TableMap) (rid : ℕ) (words : List ℕ)
    → StandsFor size state places tables → fixed_records ≤ rid → state rid ≡ Some words → In rid (spares places)
in_spares size state places tables rid words stands new here =
    let held = stands.shape.laid.all rid words here in
    spare_at size state places tables rid stands new held.0 held.1

-- ---- and they are no more than the weight

bucket_few : (rows : ℕ → List (ℕ × List ℕ)) (number : ℕ)
    → length (bucket_spares rows number) ≤ length (row_pairs (rows number)) + (length (rows number) - 1)
bucket_few rows number =
    let pairs = length-map (row_pairs (rows number)) (λ (pair : ℕ × ℕ). pair.1) in
    let nodes = length-map (rows number) (λ (node : ℕ × List ℕ). node.0) in
    omega (arith, pairs, nodes, length-drop 1 (records_of (rows number)), length-append (map (λ pair. pair.1) (row_pairs (rows number))) (drop 1 (records_of (rows number))))

pub chain_few : (rows : ℕ → List (ℕ × List ℕ)) (n : ℕ)
    → length (flat_map (bucket_spares rows) (range_with_len 0 n)) ≤ sum_by (λ number. length (row_pairs (rows number)) + (length (rows number) - 1)) (range_with_len 0 n)
chain_few rows n =
    let few = sum_most (λ number. length (bucket_spares rows number)) (λ number. length (row_pairs (rows number)) + (length (rows number) - 1)) 0 n (λ number low high. bucket_few rows number) in
    omega (arith, few, length-flat_map (bucket_spares rows) (range_with_len 0 n))

tree_few : (size : ℕ) (state : State) (places : Places) (tables : TableMap) (number : ℕ) → StandsFor size state places tables → number < 16
    → length (tree_spares places number) ≤ tree_weight places number
tree_few size state places tables number stands low =
    let most = tree_most (places.levels number) (places.leaves number) (branching size (root_of number) state (places.levels number) (places.leaves number) (stands.shape.trees number low)) in
    omega (arith, most, length-drop 1 (tree_records (places.levels number) (places.leaves number)))

pub pieces_few : (f g : ℕ → List ℕ) (f' g' : ℕ → ℕ) (n m : ℕ) → ((i : ℕ) → i < n → length (f i) ≤ f' i)
    → ((i : ℕ) → i < m → length (g i) ≤ g' i)
    → length (flat_map f (range_with_len 0 n) ++ flat_map g (range_with_len 0 m)) ≤ sum_by f' (range_with_len 0 n) + sum_by g' (range_with_len 0 m)
pieces_few f g f' g' n m first second =
    let fs = sum_most (λ i. length (f i)) f' 0 n (λ i low high. first i (omega arith)) in
    let gs = sum_most (λ i. length (g i)) g' 0 m (λ i low high. second i (omega arith)) in
    omega (arith, fs, gs, length-append (flat_map f (range_with_len 0 n)) (flat_map g (range_with_len 0 m)), length-flat_map f (range_with_len 0 n), length-flat_map g (range_with_len 0 m))

spares_few : (size : ℕ) (state : State) (places : Places) (tables : TableMap) → StandsFor size state places tables
    → length (spares places) ≤ weight places
spares_few size state places tables stands =
    pieces_few (chain_spares places) (tree_spares places) (chain_weight places) (tree_weight places) 8 16 (λ table low. chain_few (places.rows table) 511) (λ number low. tree_few size state places tables number stands low)

pub spares_within_weight : SparesWithinWeight
spares_within_weight = λ size state places tables stands rids apart present.
    let inside : All (λ rid. In rid (spares places)) rids = λ k d within. (let here = present k d within in in_spares size state places tables _ here.1.0 stands here.0 here.1.1) in
    let few = few_in rids (spares places) apart inside in
    le_trans few (spares_few size state places tables stands)
