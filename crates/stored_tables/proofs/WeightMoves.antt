-- What a move adds to the weight: a pair adds itself and perhaps a node, an entry perhaps a leaf with an inner node, and nothing else adds.
use Rattle.std.proofs.Common.{◌≡◌, ◌≢◌, ℕ, ◌+◌, ◌-◌, ◌*◌, ◌≤◌, cond, eqb, List, [], ◌∷◌, ◌++◌, length, take, get_or, slice_set, swap_remove, Option, None, Some, sum_by, refl, sym, ap, ◌∙◌, arith, subst, eq-eqb, ne_eqb, le_of_eq, length-set}
use Rattle.std.specs.List.{range_with_len}
use Rattle.std.proofs.lemmas.Grind.{flat_map-append}
use Rattle.std.proofs.lemmas.List.{append_assoc, length-append, length-take, take_at}
use Rattle.std.proofs.lemmas.List.Sums.{sum_by-cons}
use lib.ListN.{replicate}
use Rattle.hash_index.specs.Node.{paired, pairs_of, next_node, position_of, pair_words, chain_node_words}
use Rattle.hash_index.specs.Chain.{Rows, row_pairs, bucket_of}
use Rattle.hash_index.specs.Changes.{Puts, Removes, replaced, added, began, linked, removed}
use Rattle.stored_tables.specs.Places.{Places, with_chain, with_tree}
use Rattle.stored_tables.specs.Plan.{Move, row_added, row_dropped, pair_put, pair_removed, entry_inserted, entry_removed, Moves, row_added_at, row_dropped_at, pair_put_in, pair_removed_from, entry_inserted_in, entry_removed_from, Follows, stays, moves}
use Rattle.stored_tables.specs.Weight.{below, weight, tree_weight}
use Rattle.stored_tables.proofs.Counting.{sum_upper}
use Rattle.stored_tables.proofs.WeightTrees.{Row, Levels}

-- the nodes of a bucket
abbrev pub Nodes : Type 0
Nodes = List (ℕ × List ℕ)

abbrev pub weight_added : Move → ℕ
weight_added (row_added table key) = 0
weight_added (row_dropped table key) = 0
weight_added (pair_put table key) = 2
weight_added (pair_removed table key) = 0
weight_added (entry_inserted tree key) = 2
weight_added (entry_removed tree key) = 0

-- ---- the pairs of a node that was written

paired_back : (pairs : List (ℕ × ℕ)) (words : List ℕ) → paired (pair_words pairs ++ words) ≡ pairs ++ paired words
paired_back [] words = refl
paired_back (pair ∷ pairs) words = ap (λ more. (pair.0, pair.1) ∷ more) (paired_back pairs words)

pairs_written : (pairs : List (ℕ × ℕ)) (next : Option ℕ) (position : ℕ) → pairs_of (chain_node_words pairs next position) ≡ pairs
pairs_written pairs next position =
    let zeros = replicate (28 - 2 * length pairs) 0 in
    let back = position ∷ 0 ∷ [] in
    ap (λ words. take (length pairs) (paired words)) (append_assoc (pair_words pairs) zeros back)
    ∙ ap (take (length pairs)) (paired_back pairs (zeros ++ back))
    ∙ take_at pairs (paired (zeros ++ back)) (length pairs) refl

-- ---- one row of a chain

abbrev pub row_weight : Nodes → ℕ
row_weight nodes = length (row_pairs nodes) + (length nodes - 1)

pub pairs_around : (before after : Nodes) (node : ℕ × List ℕ)
    → length (row_pairs (before ++ node ∷ after)) ≡ length (row_pairs before) + (length (pairs_of node.1) + length (row_pairs after))
pairs_around before after node =
    let parts = ap length (flat_map-append (λ (n : ℕ × List ℕ). pairs_of n.1) before (node ∷ after)) in
    let first = length-append (row_pairs before) (row_pairs (node ∷ after)) in
    let second = length-append (pairs_of node.1) (row_pairs after) in
    omega (arith, parts, first, second)

-- a node gets other pairs
pairs_changed : (before after : Nodes) (node : ℕ × List ℕ) (pairs : List (ℕ × ℕ)) (more : ℕ)
    → length pairs ≤ length (pairs_of node.1) + more
    → row_weight (before ++ (node.0, chain_node_words pairs (next_node node.1) (position_of node.1)) ∷ after) ≤ row_weight (before ++ node ∷ after) + more
pairs_changed before after node pairs more few =
    let node' : ℕ × List ℕ = (node.0, chain_node_words pairs (next_node node.1) (position_of node.1)) in
    let now = ap length (pairs_written pairs (next_node node.1) (position_of node.1)) in
    let nodes : length (before ++ node' ∷ after) ≡ length (before ++ node ∷ after) = length-append before (node' ∷ after) ∙ sym (length-append before (node ∷ after)) in
    omega (arith, few, now, nodes, pairs_around before after node, pairs_around before after node')

pub put_weight : (bucket key rid : ℕ) (fresh : Option ℕ) (nodes nodes' : Nodes) → Puts bucket key rid fresh nodes nodes'
    → row_weight nodes' ≤ row_weight nodes + 2
put_weight bucket key rid _ _ _ (replaced before after node index old at) =
    let long = length-set (pairs_of node.1) index (key, rid) in
    let same = pairs_changed before after node (slice_set (pairs_of node.1) index (key, rid)) 0 (omega (arith, long)) in
    omega (arith, same)
put_weight bucket key rid _ _ _ (added before after node absent full few) =
    let long = length-append (pairs_of node.1) ((key, rid) ∷ []) in
    let more = pairs_changed before after node (pairs_of node.1 ++ (key, rid) ∷ []) 1 (omega (arith, long)) in
    omega (arith, more)
put_weight bucket key rid _ _ _ began = let one = ap length (pairs_written ((key, rid) ∷ []) None 0) in omega (arith, one, length-append (pairs_of (chain_node_words ((key, rid) ∷ []) None 0)) [])
put_weight bucket key rid _ _ _ (linked before last fresh absent full) =
    let last' : ℕ × List ℕ = (last.0, chain_node_words (pairs_of last.1) (Some fresh) (position_of last.1)) in
    let new : ℕ × List ℕ = (fresh, chain_node_words ((key, rid) ∷ []) None (position_of last.1 + 1)) in
    let stay = ap length (pairs_written (pairs_of last.1) (Some fresh) (position_of last.1)) in
    let one = ap length (pairs_written ((key, rid) ∷ []) None (position_of last.1 + 1)) in
    let behind = length-append (pairs_of new.1) [] in
    omega (arith, stay, one, behind, pairs_around before [] last, pairs_around before (new ∷ []) last', length-append before (last ∷ []), length-append before (last' ∷ new ∷ []))

pub removed_weight : (key : ℕ) (nodes nodes' : Nodes) → Removes key nodes nodes' → row_weight nodes' ≤ row_weight nodes
removed_weight key _ _ (removed before after node index old at) =
    let pairs = pairs_of node.1 in
    let kept = slice_set pairs index (get_or pairs (length pairs - 1) (key, old)) in
    let long = length-set pairs index (get_or pairs (length pairs - 1) (key, old)) in
    let taken = length-take (length pairs - 1) kept in
    let fewer = pairs_changed before after node (swap_remove pairs index (key, old)) 0 (omega (arith, long, taken)) in
    omega (arith, fewer)

-- ---- the places

abbrev pub rows_weight : Rows → ℕ
rows_weight rows = sum_by (λ number. row_weight (rows number)) (below 511)

pub rows_changed : (measure : Nodes → ℕ) (rows rows' : Rows) (bucket more n : ℕ) → ((other : ℕ) → other ≢ bucket → rows' other ≡ rows other)
    → measure (rows' bucket) ≤ measure (rows bucket) + more
    → sum_by (λ number. measure (rows' number)) (range_with_len 0 n) ≤ sum_by (λ number. measure (rows number)) (range_with_len 0 n) + more
rows_changed measure rows rows' bucket more n others here =
    sum_upper (λ number. measure (rows number)) (λ number. measure (rows' number)) 0 n bucket more (λ number differs low. le_of_eq (ap measure (others number differs))) (λ low high. here)

pub at_other : {X : Type 0} (i at : ℕ) (new old : X) → i ≢ at → cond (eqb i at) new old ≡ old
at_other i at new old differs = ap (λ b. cond b new old) (ne_eqb i at differs)

pub at_same : {X : Type 0} (at : ℕ) (new old : X) → cond (eqb at at) new old ≡ new
at_same at new old = ap (λ b. cond b new old) (eq-eqb at at refl)

pub chains_changed : (measure : Rows → ℕ) (places : Places) (table : ℕ) (rows' : Rows) (more n : ℕ)
    → measure rows' ≤ measure (places.rows table) + more
    → sum_by (λ other. measure ((with_chain places table rows').rows other)) (range_with_len 0 n) ≤ sum_by (λ other. measure (places.rows other)) (range_with_len 0 n) + more
chains_changed measure places table rows' more n here =
    let P : Rows → Type 0 = λ rows. measure rows ≤ measure (places.rows table) + more in
    sum_upper (λ other. measure (places.rows other)) (λ other. measure ((with_chain places table rows').rows other)) 0 n table more
    (λ other differs low. le_of_eq (ap measure (at_other other table rows' (places.rows other) differs)))
    (λ low high. subst P (sym (at_same table rows' (places.rows table))) here)

pub trees_changed : (places : Places) (tree : ℕ) (levels' : Levels) (leaves' : Row) (more n : ℕ)
    → 2 * (length leaves' - 1) ≤ 2 * (length (places.leaves tree) - 1) + more
    → sum_by (tree_weight (with_tree places tree levels' leaves')) (range_with_len 0 n) ≤ sum_by (tree_weight places) (range_with_len 0 n) + more
trees_changed places tree levels' leaves' more n here =
    let P : Row → Type 0 = λ leaves. 2 * (length leaves - 1) ≤ 2 * (length (places.leaves tree) - 1) + more in
    sum_upper (tree_weight places) (tree_weight (with_tree places tree levels' leaves')) 0 n tree more
    (λ other differs low. le_of_eq (ap (λ (leaves : Row). 2 * (length leaves - 1)) (at_other other tree leaves' (places.leaves other) differs)))
    (λ low high. subst P (sym (at_same tree leaves' (places.leaves tree))) here)

pub in_first : (a a' b more : ℕ) → a' ≤ a + more → a' + b ≤ a + b + more
in_first _ _ _ _ less = omega (arith, less)

pub in_second : (a b b' more : ℕ) → b' ≤ b + more → a + b' ≤ a + b + more
in_second _ _ _ _ less = omega (arith, less)

pub as_it_was : (n : ℕ) → n ≤ n + 0
as_it_was n = omega arith

pub chain_adds : (places : Places) (table bucket : ℕ) (rows' : Rows) (more : ℕ)
    → ((other : ℕ) → other ≢ bucket → rows' other ≡ places.rows table other)
    → row_weight (rows' bucket) ≤ row_weight (places.rows table bucket) + more
    → weight (with_chain places table rows') ≤ weight places + more
chain_adds places table bucket rows' more others here =
    in_first _ _ _ _ (chains_changed rows_weight places table rows' more 8 (rows_changed row_weight (places.rows table) rows' bucket more 511 others here))

pub tree_adds : (places : Places) (tree : ℕ) (levels' : Levels) (leaves' : Row) (more : ℕ)
    → 2 * (length leaves' - 1) ≤ 2 * (length (places.leaves tree) - 1) + more
    → weight (with_tree places tree levels' leaves') ≤ weight places + more
tree_adds places tree levels' leaves' more here =
    in_second _ _ _ _ (trees_changed places tree levels' leaves' more 16 here)

pub move_adds : (move : Move) (places places' : Places) (asks : ℕ) → Moves move places asks places'
    → weight places' ≤ weight places + weight_added move
move_adds _ _ _ _ (row_added_at places table key rid absent) = as_it_was (weight places)
move_adds _ _ _ _ (row_dropped_at places table key) = as_it_was (weight places)
move_adds _ _ _ _ (pair_put_in places table key rid fresh rows' absent puts others) = chain_adds places table (bucket_of key) rows' 2 others (put_weight _ key rid fresh (places.rows table (bucket_of key)) (rows' (bucket_of key)) puts)
move_adds _ _ _ _ (pair_removed_from places table key rows' removes others) =
    let less = removed_weight key (places.rows table (bucket_of key)) (rows' (bucket_of key)) removes in
    chain_adds places table (bucket_of key) rows' 0 others (omega (arith, less))
move_adds _ _ _ _ (entry_inserted_in places tree key rid levels' leaves' absent takes grow) = tree_adds places tree levels' leaves' 2 (omega (arith, grow))
move_adds _ _ _ _ (entry_removed_from places tree key leaves' stay at_key) = tree_adds places tree (places.levels tree) leaves' 0 (omega (arith, stay))

pub all_moves_add : (planned : List Move) (places places' : Places) (asked : ℕ) → Follows planned places asked places'
    → weight places' ≤ weight places + sum_by weight_added planned
all_moves_add _ _ _ _ (stays places) = as_it_was (weight places)
all_moves_add _ _ _ _ (moves move more places between places' asks asked first rest) =
    let one = move_adds move places between asks first in
    let others = all_moves_add more between places' asked rest in
    steps_add _ _ _ _ _ _ one others (sum_by-cons weight_added move more)
  where
    steps_add : (a b c m n s : ℕ) → b ≤ a + m → c ≤ b + n → s ≡ m + n → c ≤ a + s
    steps_add _ _ _ _ _ _ first second sum = omega (arith, first, second, sum)
