-- Tables into which rows were only put weigh two for each row at most: each move of a row that enters leaves chains and trees packed.
use Rattle.std.proofs.Common.{◌≡◌, ◌≢◌, ℕ, ◌+◌, ◌-◌, ◌*◌, ◌≤◌, true, false, cond, eqb, List, [], ◌∷◌, ◌++◌, length, slice_set, All, Option, None, Some, sum_by, refl, sym, ap, ◌∙◌, arith, subst, inl, inr, le_of_eq, length-set}
use Rattle.std.specs.Prelude.{⊤}
use Rattle.std.specs.List.{range_with_len}
use Rattle.std.proofs.lemmas.Bool.{cases_eq}
use Rattle.std.proofs.lemmas.List.{length-append}
use Rattle.std.proofs.lemmas.List.Elements.{All-head, All-tail}
use Rattle.std.proofs.lemmas.List.Sums.{sum_by-cons}
use Rattle.hash_index.specs.Node.{pairs_of, next_node, position_of, chain_node_words}
use Rattle.hash_index.specs.Chain.{Rows, row_pairs, bucket_of}
use Rattle.hash_index.specs.Changes.{Puts, IsFull, replaced, added, began, linked}
use Rattle.hash_index.proofs.Words.{pairs_of-chain_node_words}
use Rattle.ordered_index.specs.Tree.{row_entries}
use Rattle.replay_model.specs.TableMap.{Row as Columns, index_of}
use Rattle.stored_tables.specs.Answers.{enter_moves}
use Rattle.stored_tables.specs.Laws.{no_places}
use Rattle.stored_tables.specs.Packed.{IsPackedRow, IsPackedTree, IsPacked, RowsPack, pairs_in, entries_in}
use Rattle.stored_tables.specs.Places.{Places, with_chain, with_tree}
use Rattle.stored_tables.specs.Plan.{Move, row_added, row_dropped, pair_put, pair_removed, entry_inserted, entry_removed, Moves, row_added_at, row_dropped_at, pair_put_in, pair_removed_from, entry_inserted_in, entry_removed_from, Follows, stays, moves}
use Rattle.stored_tables.specs.Weight.{below, weight, chain_weight, tree_weight}
use Rattle.stored_tables.proofs.Commands.{plan_enters}
use Rattle.stored_tables.proofs.Counting.{sum_upper}
use Rattle.stored_tables.proofs.PackingTrees.{tree_packs}
use Rattle.stored_tables.proofs.WeightMoves.{Nodes, pairs_around, rows_changed, chains_changed, at_same, at_other}
use Rattle.stored_tables.proofs.WeightTrees.{Row, Levels}

-- ---- sums, term by term

-- what holds of two zeros and of sums of two, and of each two terms, holds of both sums
sum_both : (P : ℕ → ℕ → Type 0) → P 0 0 → ((a b c d : ℕ) → P a b → P c d → P (a + c) (b + d))
    → (f g : ℕ → ℕ) (numbers : List ℕ) → ((i : ℕ) → P (f i) (g i)) → P (sum_by f numbers) (sum_by g numbers)
sum_both P none plus f g [] each = none
sum_both P none plus f g (n ∷ numbers) each =
    let both = plus (f n) (g n) (sum_by f numbers) (sum_by g numbers) (each n) (sum_both P none plus f g numbers each) in
    subst (λ s. P s (sum_by g (n ∷ numbers))) (sym (sum_by-cons f n numbers))
    (subst (λ s. P (f n + sum_by f numbers) s) (sym (sum_by-cons g n numbers)) both)

abbrev IsNone : ℕ → ℕ → Type 0
IsNone a b = a ≤ 0

sum_none : (f : ℕ → ℕ) (numbers : List ℕ) → ((i : ℕ) → f i ≤ 0) → sum_by f numbers ≤ 0
sum_none f numbers each = sum_both IsNone (omega arith) (λ a b c d first second. omega (arith, first, second)) f f numbers each

-- what a chain weighs beside its pairs, and a tree beside its entries
abbrev IsChainShare : ℕ → ℕ → Type 0
IsChainShare a b = 14 * a ≤ 15 * b

abbrev IsTreeShare : ℕ → ℕ → Type 0
IsTreeShare a b = 5 * a ≤ 2 * b

chain_shares : (f g : ℕ → ℕ) (numbers : List ℕ) → ((i : ℕ) → 14 * f i ≤ 15 * g i) → 14 * sum_by f numbers ≤ 15 * sum_by g numbers
chain_shares f g numbers each = sum_both IsChainShare (omega arith) (λ a b c d first second. omega (arith, first, second)) f g numbers each

tree_shares : (f g : ℕ → ℕ) (numbers : List ℕ) → ((i : ℕ) → 5 * f i ≤ 2 * g i) → 5 * sum_by f numbers ≤ 2 * sum_by g numbers
tree_shares f g numbers each = sum_both IsTreeShare (omega arith) (λ a b c d first second. omega (arith, first, second)) f g numbers each

-- ---- what packed places weigh

row_share : (nodes : Nodes) → IsPackedRow nodes → 14 * (length (row_pairs nodes) + (length nodes - 1)) ≤ 15 * length (row_pairs nodes)
row_share nodes packed = omega (arith, packed)

five_each : (leaves : Row) → All (λ leaf. 5 ≤ length leaf.1.entries) leaves → 5 * length leaves ≤ length (row_entries leaves)
five_each [] five = omega arith
five_each (leaf ∷ leaves) five =
    let here : 5 ≤ length leaf.1.entries = All-head (λ leaf. 5 ≤ length leaf.1.entries) leaf leaves five in
    let more = five_each leaves (All-tail (λ leaf. 5 ≤ length leaf.1.entries) leaf leaves five) in
    omega (arith, here, more, length-append leaf.1.entries (row_entries leaves))

leaves_share : (leaves : Row) → IsPackedTree leaves → 5 * (2 * (length leaves - 1)) ≤ 2 * length (row_entries leaves)
leaves_share leaves packed = elim packed as (λ _. 5 * (2 * (length leaves - 1)) ≤ 2 * length (row_entries leaves)) [
  | inl few ↦ omega (arith, few)
  | inr five ↦ let more = five_each leaves five in omega (arith, more)
]

all_weigh : (chains pairs trees entries rows : ℕ) → 14 * chains ≤ 15 * pairs → 5 * trees ≤ 2 * entries → pairs ≤ rows → entries ≤ 2 * rows
    → chains + trees ≤ 2 * rows
all_weigh chains pairs trees entries rows first second few fewer = omega (arith, first, second, few, fewer)

packed_weighs : (places : Places) (rows : ℕ) → IsPacked places rows → weight places ≤ 2 * rows
packed_weighs places rows packed =
    let row : ℕ → ℕ → ℕ = λ table number. length (row_pairs (places.rows table number)) in
    all_weigh (sum_by (chain_weight places) (below 8)) (pairs_in places) (sum_by (tree_weight places) (below 16)) (entries_in places) rows
    (chain_shares (chain_weight places) (λ table. sum_by (row table) (below 511)) (below 8) (λ table.
    chain_shares (λ number. row table number + (length (places.rows table number) - 1)) (row table) (below 511) (λ number. row_share (places.rows table number) (packed.chains table number))))
    (tree_shares (tree_weight places) (λ tree. length (row_entries (places.leaves tree))) (below 16) (λ tree. leaves_share (places.leaves tree) (packed.trees tree)))
    packed.pairs packed.entries

-- ---- one row of a chain

record RowPacks (nodes nodes' : Nodes) : Type 0 where
  pub few : length (row_pairs nodes') ≤ length (row_pairs nodes) + 1
  pub packed : IsPackedRow nodes → IsPackedRow nodes'

-- a node gets other pairs, as many or more
other_pairs : (before after : Nodes) (node : ℕ × List ℕ) (pairs : List (ℕ × ℕ)) (next : Option ℕ) (position : ℕ)
    → length (pairs_of node.1) ≤ length pairs → length pairs ≤ length (pairs_of node.1) + 1
    → RowPacks (before ++ node ∷ after) (before ++ (node.0, chain_node_words pairs next position) ∷ after)
other_pairs before after node pairs next position enough few =
    let node' : ℕ × List ℕ = (node.0, chain_node_words pairs next position) in
    let now = ap length (pairs_of-chain_node_words pairs next position) in
    let long : length (before ++ node' ∷ after) ≡ length (before ++ node ∷ after) = length-append before (node' ∷ after) ∙ sym (length-append before (node ∷ after)) in
    let was = pairs_around before after node in
    let has = pairs_around before after node' in
    record { few = omega (arith, few, now, was, has); packed = λ packed. omega (arith, enough, now, long, was, has, packed) }

full_pairs : (nodes : Nodes) → All IsFull nodes → length (row_pairs nodes) ≡ 14 * length nodes
full_pairs [] full = refl
full_pairs (node ∷ nodes) full =
    let here : length (pairs_of node.1) ≡ 14 = All-head IsFull node nodes full in
    let more = full_pairs nodes (All-tail IsFull node nodes full) in
    omega (arith, here, more, length-append (pairs_of node.1) (row_pairs nodes))

put_packs : (bucket key rid : ℕ) (fresh : Option ℕ) (nodes nodes' : Nodes) → Puts bucket key rid fresh nodes nodes' → RowPacks nodes nodes'
put_packs bucket key rid _ _ _ (replaced before after node index old at) =
    let long = length-set (pairs_of node.1) index (key, rid) in
    other_pairs before after node (slice_set (pairs_of node.1) index (key, rid)) (next_node node.1) (position_of node.1) (omega (arith, long)) (omega (arith, long))
put_packs bucket key rid _ _ _ (added before after node absent full few) =
    let long = length-append (pairs_of node.1) ((key, rid) ∷ []) in
    other_pairs before after node (pairs_of node.1 ++ (key, rid) ∷ []) (next_node node.1) (position_of node.1) (omega (arith, long)) (omega (arith, long))
put_packs bucket key rid _ _ _ began =
    let words = chain_node_words ((key, rid) ∷ []) None 0 in
    let one = ap length (pairs_of-chain_node_words ((key, rid) ∷ []) None 0) in
    record { few = omega (arith, one, length-append (pairs_of words) []); packed = λ packed. omega arith }
put_packs bucket key rid _ _ _ (linked before last fresh absent full) =
    let last' : ℕ × List ℕ = (last.0, chain_node_words (pairs_of last.1) (Some fresh) (position_of last.1)) in
    let new : ℕ × List ℕ = (fresh, chain_node_words ((key, rid) ∷ []) None (position_of last.1 + 1)) in
    let stay = ap length (pairs_of-chain_node_words (pairs_of last.1) (Some fresh) (position_of last.1)) in
    let one = ap length (pairs_of-chain_node_words ((key, rid) ∷ []) None (position_of last.1 + 1)) in
    let behind = length-append (pairs_of new.1) [] in
    let was = pairs_around before [] last in
    let has = pairs_around before (new ∷ []) last' in
    let all = full_pairs (before ++ last ∷ []) full in
    record {
      few = omega (arith, stay, one, behind, was, has);
      packed = λ packed. omega (arith, stay, one, behind, was, has, all, length-append before (last ∷ []), length-append before (last' ∷ new ∷ []));
    }

-- ---- one move

-- packed places with so many pairs and entries at most
record Packs (pairs entries : ℕ) (places : Places) : Type 0 where
  pub chains : (table number : ℕ) → IsPackedRow (places.rows table number)
  pub trees : (tree : ℕ) → IsPackedTree (places.leaves tree)
  pub pairs_few : pairs_in places ≤ pairs
  pub entries_few : entries_in places ≤ entries

-- a move of a row that enters, and what it brings
abbrev Brings : Move → Type 0
Brings (row_added table key) = ⊤
Brings (row_dropped table key) = ⊥
Brings (pair_put table key) = ⊤
Brings (pair_removed table key) = ⊥
Brings (entry_inserted tree key) = ⊤
Brings (entry_removed tree key) = ⊥

abbrev pairs_put : Move → ℕ
pairs_put (row_added table key) = 0
pairs_put (row_dropped table key) = 0
pairs_put (pair_put table key) = 1
pairs_put (pair_removed table key) = 0
pairs_put (entry_inserted tree key) = 0
pairs_put (entry_removed tree key) = 0

abbrev entries_put : Move → ℕ
entries_put (row_added table key) = 0
entries_put (row_dropped table key) = 0
entries_put (pair_put table key) = 0
entries_put (pair_removed table key) = 0
entries_put (entry_inserted tree key) = 1
entries_put (entry_removed tree key) = 0

one_more : (a b c : ℕ) → a ≤ b + 1 → b ≤ c → a ≤ c + 1
one_more a b c more few = omega (arith, more, few)

no_more : (a b : ℕ) → a ≤ b → a ≤ b + 0
no_more a b few = omega (arith, few)

chain_packs : (places : Places) (pairs entries table bucket : ℕ) (rows' : Rows)
    → ((other : ℕ) → other ≢ bucket → rows' other ≡ places.rows table other) → RowPacks (places.rows table bucket) (rows' bucket)
    → Packs pairs entries places → Packs (pairs + 1) (entries + 0) (with_chain places table rows')
chain_packs places pairs entries table bucket rows' others here packs =
    let rows_pairs : Rows → ℕ = λ rows. sum_by (λ number. length (row_pairs (rows number))) (below 511) in
    let own : (number : ℕ) → IsPackedRow (rows' number) = λ number. elim (cases_eq number bucket) as (λ _. IsPackedRow (rows' number)) [
      | inl same ↦ subst (λ n. IsPackedRow (rows' n)) (sym same) (here.packed (packs.chains table bucket))
      | inr differs ↦ subst IsPackedRow (sym (others number differs)) (packs.chains table number)
    ] in
    record {
      chains = λ other number. elim (eqb other table) as (λ b. IsPackedRow (cond b rows' (places.rows other) number)) [ true ↦ own number | false ↦ packs.chains other number ];
      trees = packs.trees;
      pairs_few = one_more _ _ _ (chains_changed rows_pairs places table rows' 1 8 (rows_changed (λ nodes. length (row_pairs nodes)) (places.rows table) rows' bucket 1 511 others here.few)) packs.pairs_few;
      entries_few = no_more _ _ packs.entries_few;
    }

tree_changed : (places : Places) (tree : ℕ) (levels' : Levels) (leaves' : Row) (n : ℕ)
    → length (row_entries leaves') ≤ length (row_entries (places.leaves tree)) + 1
    → sum_by (λ number. length (row_entries ((with_tree places tree levels' leaves').leaves number))) (range_with_len 0 n) ≤ sum_by (λ number. length (row_entries (places.leaves number))) (range_with_len 0 n) + 1
tree_changed places tree levels' leaves' n here =
    let P : Row → Type 0 = λ leaves. length (row_entries leaves) ≤ length (row_entries (places.leaves tree)) + 1 in
    sum_upper (λ number. length (row_entries (places.leaves number))) (λ number. length (row_entries ((with_tree places tree levels' leaves').leaves number))) 0 n tree 1
    (λ other differs low. le_of_eq (ap (λ (leaves : Row). length (row_entries leaves)) (at_other other tree leaves' (places.leaves other) differs)))
    (λ low high. subst P (sym (at_same tree leaves' (places.leaves tree))) here)

move_packs : (move : Move) (places places' : Places) (asks pairs entries : ℕ) → Moves move places asks places' → Brings move
    → Packs pairs entries places → Packs (pairs + pairs_put move) (entries + entries_put move) places'
move_packs _ _ _ _ pairs entries (row_added_at places table key rid absent) brings packs =
    record { chains = packs.chains; trees = packs.trees; pairs_few = no_more _ _ packs.pairs_few; entries_few = no_more _ _ packs.entries_few }
move_packs _ _ _ _ pairs entries (row_dropped_at places table key) brings packs = absurd brings
move_packs _ _ _ _ pairs entries (pair_put_in places table key rid fresh rows' absent puts others) brings packs =
    chain_packs places pairs entries table (bucket_of key) rows' others
    (put_packs _ key rid fresh (places.rows table (bucket_of key)) (rows' (bucket_of key)) puts) packs
move_packs _ _ _ _ pairs entries (pair_removed_from places table key rows' removes others) brings packs = absurd brings
move_packs _ _ _ _ pairs entries (entry_inserted_in places tree key rid levels' leaves' absent takes grow) brings packs =
    let here = tree_packs _ key rid (places.levels tree) (places.leaves tree) levels' leaves' takes in
    record {
      chains = packs.chains;
      trees = λ other. elim (eqb other tree) as (λ b. IsPackedTree (cond b leaves' (places.leaves other))) [ true ↦ here.packed (packs.trees tree) | false ↦ packs.trees other ];
      pairs_few = no_more _ _ packs.pairs_few;
      entries_few = one_more _ _ _ (tree_changed places tree levels' leaves' 16 (le_of_eq here.all)) packs.entries_few;
    }
move_packs _ _ _ _ pairs entries (entry_removed_from places tree key leaves' stay at_key) brings packs = absurd brings

-- ---- the moves of a row that enters

abbrev AllBring : List Move → Type 0
AllBring [] = ⊤
AllBring (move ∷ more) = Brings move × AllBring more

follows_packs : (planned : List Move) (places places' : Places) (asked pairs entries : ℕ) → Follows planned places asked places' → AllBring planned
    → Packs pairs entries places → Packs (pairs + sum_by pairs_put planned) (entries + sum_by entries_put planned) places'
follows_packs _ _ _ _ pairs entries (stays places) bring packs =
    record { chains = packs.chains; trees = packs.trees; pairs_few = no_more _ _ packs.pairs_few; entries_few = no_more _ _ packs.entries_few }
follows_packs _ _ _ _ pairs entries (moves move more places between places' asks asked first rest) bring packs =
    let one = move_packs move places between asks pairs entries first bring.0 packs in
    let all = follows_packs more between places' asked (pairs + pairs_put move) (entries + entries_put move) rest bring.1 one in
    record {
      chains = all.chains;
      trees = all.trees;
      pairs_few = then_more _ _ _ _ _ all.pairs_few (sum_by-cons pairs_put move more);
      entries_few = then_more _ _ _ _ _ all.entries_few (sum_by-cons entries_put move more);
    }
  where
    then_more : (a b c d s : ℕ) → a ≤ b + c + d → s ≡ c + d → a ≤ b + s
    then_more a b c d s few sum = omega (arith, few, sum)

enters_packs : (table key : ℕ) (index : Option ℕ) (columns : Columns) (places places' : Places) (asked rows : ℕ)
    → Follows (enter_moves table key index columns ++ []) places asked places' → IsPacked places rows → IsPacked places' (rows + 1)
enters_packs table key None columns places places' asked rows follows packed =
    let all = follows_packs (enter_moves table key None columns ++ []) places places' asked rows (2 * rows) follows (tt, (tt, (tt, tt))) (record { chains = packed.chains; trees = packed.trees; pairs_few = packed.pairs; entries_few = packed.entries }) in
    let few = all.entries_few in
    record { chains = all.chains; trees = all.trees; pairs = all.pairs_few; entries = omega (arith, few) }
enters_packs table key (Some column) columns places places' asked rows follows packed =
    let all = follows_packs (enter_moves table key (Some column) columns ++ []) places places' asked rows (2 * rows) follows (tt, (tt, (tt, (tt, tt)))) (record { chains = packed.chains; trees = packed.trees; pairs_few = packed.pairs; entries_few = packed.entries }) in
    let few = all.entries_few in
    record { chains = all.chains; trees = all.trees; pairs = all.pairs_few; entries = omega (arith, few) }

-- ---- the law

none_packed : IsPacked no_places 0
none_packed = record {
  chains = λ table number. omega arith;
  trees = λ tree. inl (omega arith);
  pairs = sum_none (λ table. sum_by (λ number. length (row_pairs (no_places.rows table number))) (below 511)) (below 8) (λ table.
      sum_none (λ number. length (row_pairs (no_places.rows table number))) (below 511) (λ number. omega arith));
  entries = sum_none (λ tree. length (row_entries (no_places.leaves tree))) (below 16) (λ tree. omega arith);
}

pub rows_pack : RowsPack
rows_pack = record {
  none = none_packed;
  head = λ places table column rows packed. record { chains = packed.chains; trees = packed.trees; pairs = packed.pairs; entries = packed.entries };
  row = λ tables table key columns places places' asked rows absent follows packed.
      enters_packs table key (index_of table tables) columns places places' asked rows
      (subst (λ planned. Follows (planned ++ []) places asked places') (plan_enters tables table key (index_of table tables) columns refl absent) follows) packed;
  weighs = packed_weighs;
}
