-- New records that are present where a run begins, with all that the run asks for, are no more than the weight there and what the commands
-- add: no node is given back, so each ask for a node shows in the number of nodes, which the weight bounds, and a row is asked for once.
use Rattle.std.proofs.Common.{◌≡◌, ◌≢◌, ℕ, ◌+◌, ◌-◌, ◌*◌, ◌<◌, ◌≤◌, Bool, true, false, cond, eqb, List, [], ◌∷◌, ◌++◌, length, All, Option, option_to_list, sum_by, refl, sym, ap, ◌∙◌, arith, subst, eq-eqb, ne_eqb, le_of_eq, le_refl, le_trans}
use Rattle.std.specs.List.{range_with_len}
use Rattle.std.proofs.lemmas.List.{length-append, length-drop}
use Rattle.std.proofs.lemmas.List.Sums.{sum_by-cons, sum_by-append}
use Rattle.plain_data.specs.State.{State}
use Rattle.hash_index.specs.Chain.{Rows, bucket_of}
use Rattle.hash_index.specs.Changes.{Puts, Removes, replaced, added, began, linked, removed}
use Rattle.ordered_index.specs.Tree.{tree_records}
use Rattle.replay_model.specs.TableMap.{TableMap}
use Rattle.stored_tables.specs.Places.{Places, with_chain, with_tree, root_of, fixed_records}
use Rattle.stored_tables.specs.Tables.{StandsFor}
use Rattle.stored_tables.specs.Plan.{Move, row_added, row_dropped, pair_put, pair_removed, entry_inserted, entry_removed, run_plan, Moves, row_added_at, row_dropped_at, pair_put_in, pair_removed_from, entry_inserted_in, entry_removed_from, Follows, stays, moves, IsDue}
use Rattle.stored_tables.specs.Weight.{below, weight, chain_weight, tree_weight, all_add}
use Rattle.stored_tables.specs.Weights.{AtMostWith, RoomToAsk, RoomAfterRun}
use Rattle.ordered_index.specs.Tree.{In}
use Rattle.stored_tables.proofs.Counting.{few_in, sum_most, sum_lower}
use Rattle.stored_tables.proofs.WeightTrees.{Row as Level, Levels, IsBranching, count, branching, tree_most, tree_due}
use Rattle.stored_tables.proofs.WeightTakes.{tree_grows, count_same, still_branching}
use Rattle.stored_tables.proofs.Weight.{spares, chain_spares, tree_spares, bucket_below, in_spares, chain_few, pieces_few}
use Rattle.stored_tables.proofs.WeightMoves.{Nodes, at_other, at_same, rows_changed, chains_changed, trees_changed, in_first, in_second}
use Rattle.stored_tables.proofs.WeightKnown.{IsIn, AreIn, are_parts, run_in}
use Rattle.stored_tables.proofs.WeightPlans.{IsMeasure, run_few}

-- ---- the nodes behind buckets and beside roots, and how many there may be

abbrev behind : Nodes → ℕ
behind nodes = length nodes - 1

abbrev rows_nodes : Rows → ℕ
rows_nodes rows = sum_by (λ number. behind (rows number)) (below 511)

abbrev chain_nodes : Places → ℕ → ℕ
chain_nodes places table = rows_nodes (places.rows table)

abbrev tree_nodes : Places → ℕ → ℕ
tree_nodes places number = count (places.levels number) (places.leaves number) - 1

abbrev spare_nodes : Places → ℕ
spare_nodes places = sum_by (chain_nodes places) (below 8) + sum_by (tree_nodes places) (below 16)

abbrev room : Places → ℕ
room places = sum_by (chain_nodes places) (below 8) + sum_by (tree_weight places) (below 16)

abbrev AllBranch : Places → Type 0
AllBranch places = (number : ℕ) → number < 16 → IsBranching (places.levels number) (places.leaves number)

-- what a move adds to the room, and the row that it asks for
abbrev asks_added : Move → ℕ
asks_added (row_added table key) = 1
asks_added (row_dropped table key) = 0
asks_added (pair_put table key) = 1
asks_added (pair_removed table key) = 0
asks_added (entry_inserted tree key) = 2
asks_added (entry_removed tree key) = 0

asks_is : IsMeasure asks_added
asks_is = record { enters = λ table key. le_refl 2; inserts = λ tree key. le_refl 2; drops = λ table key. refl; removes = λ table key. refl; takes_out = λ tree key. refl }

sum_grows : (f g : ℕ → ℕ) (n at more : ℕ) → at < n → ((i : ℕ) → i ≢ at → f i ≤ g i) → f at + more ≤ g at
    → sum_by f (range_with_len 0 n) + more ≤ sum_by g (range_with_len 0 n)
sum_grows f g n at more low others here =
    let all = sum_lower f g 0 n at more 0 (omega arith) (omega arith) (λ i differs high. others i differs) (omega (arith, here)) in
    omega (arith, all)

chains_grow : (places : Places) (table bucket more : ℕ) (rows' : Rows) → table < 8 → bucket < 511
    → ((other : ℕ) → other ≢ bucket → rows' other ≡ places.rows table other)
    → behind (places.rows table bucket) + more ≤ behind (rows' bucket)
    → sum_by (chain_nodes places) (below 8) + more ≤ sum_by (chain_nodes (with_chain places table rows')) (below 8)
chains_grow places table bucket more rows' known low others here =
    let P : Rows → Type 0 = λ rows. rows_nodes (places.rows table) + more ≤ rows_nodes rows in
    let own = sum_grows (λ number. behind (places.rows table number)) (λ number. behind (rows' number)) 511 bucket more low (λ number differs. le_of_eq (ap behind (sym (others number differs)))) here in
    sum_grows (chain_nodes places) (chain_nodes (with_chain places table rows')) 8 table more known
    (λ other differs. le_of_eq (ap rows_nodes (sym (at_other other table rows' (places.rows other) differs))))
    (subst P (sym (at_same table rows' (places.rows table))) own)

trees_grow : (places : Places) (tree more : ℕ) (levels' : Levels) (leaves' : Level) → tree < 16
    → tree_nodes places tree + more ≤ count levels' leaves' - 1
    → sum_by (tree_nodes places) (below 16) + more ≤ sum_by (tree_nodes (with_tree places tree levels' leaves')) (below 16)
trees_grow places tree more levels' leaves' known here =
    let nodes : ℕ → Bool → ℕ = λ other b. count (cond b levels' (places.levels other)) (cond b leaves' (places.leaves other)) - 1 in
    let P : Bool → Type 0 = λ b. tree_nodes places tree + more ≤ nodes tree b in
    sum_grows (tree_nodes places) (tree_nodes (with_tree places tree levels' leaves')) 16 tree more known
    (λ other differs. le_of_eq (ap (nodes other) (sym (ne_eqb other tree differs))))
    (subst P (sym (eq-eqb tree tree refl)) here)

branches_with : (places : Places) (tree : ℕ) (levels' : Levels) (leaves' : Level) → AllBranch places → IsBranching levels' leaves'
    → AllBranch (with_tree places tree levels' leaves')
branches_with places tree levels' leaves' all here = λ number low.
    elim (eqb number tree) as (λ b. IsBranching (cond b levels' (places.levels number)) (cond b leaves' (places.leaves number))) [ true ↦ here | false ↦ all number low ]

-- ---- one row of a chain

record RowChanges (asks : ℕ) (nodes nodes' : Nodes) : Type 0 where
  pub all : behind nodes + asks ≤ behind nodes'
  pub few : behind nodes' ≤ behind nodes + 1

still_long : (before after : Nodes) (node node' : ℕ × List ℕ) → length (before ++ node' ∷ after) ≡ length (before ++ node ∷ after)
still_long before after node node' = length-append before (node' ∷ after) ∙ sym (length-append before (node ∷ after))

with_other : (before after : Nodes) (node node' : ℕ × List ℕ) → RowChanges 0 (before ++ node ∷ after) (before ++ node' ∷ after)
with_other before after node node' = let long = still_long before after node node' in record { all = omega (arith, long); few = omega (arith, long) }

with_one : (before : Nodes) (last last' new : ℕ × List ℕ) → RowChanges 1 (before ++ last ∷ []) (before ++ last' ∷ new ∷ [])
with_one before last last' new =
    let was = length-append before (last ∷ []) in
    let now = length-append before (last' ∷ new ∷ []) in
    record { all = omega (arith, was, now); few = omega (arith, was, now) }

put_changes : (bucket key rid : ℕ) (fresh : Option ℕ) (nodes nodes' : Nodes) → Puts bucket key rid fresh nodes nodes'
    → RowChanges (length (option_to_list fresh)) nodes nodes'
put_changes bucket key rid _ _ _ (replaced before after node index old at) = with_other before after node _
put_changes bucket key rid _ _ _ (added before after node absent full few) = with_other before after node _
put_changes bucket key rid _ _ _ began = record { all = omega arith; few = omega arith }
put_changes bucket key rid _ _ _ (linked before last fresh absent full) = with_one before last _ _

removed_same : (key : ℕ) (nodes nodes' : Nodes) → Removes key nodes nodes' → behind nodes' ≡ behind nodes
removed_same key _ _ (removed before after node index old at) = ap (λ n. n - 1) (still_long before after node _)

-- ---- one move

record StepAsks (added asks : ℕ) (places places' : Places) : Type 0 where
  pub branches : AllBranch places'
  pub rows : ℕ
  pub nodes : spare_nodes places + asks ≤ spare_nodes places' + rows
  pub within : room places' + rows ≤ room places + added

first_grows : (a a' b more : ℕ) → a + more ≤ a' → a + b + more ≤ a' + b + 0
first_grows _ _ _ _ less = omega (arith, less)

second_grows : (a b b' more : ℕ) → b + more ≤ b' → a + b + more ≤ a + b' + 0
second_grows _ _ _ _ less = omega (arith, less)

and_none : (a b : ℕ) → a ≤ b → a + 0 ≤ b
and_none _ _ less = omega (arith, less)

module _ (places : Places) (all : AllBranch places) where
  chain_step : (table bucket asks more : ℕ) (rows' : Rows) → table < 8 → bucket < 511
      → ((other : ℕ) → other ≢ bucket → rows' other ≡ places.rows table other)
      → behind (places.rows table bucket) + asks ≤ behind (rows' bucket) → behind (rows' bucket) ≤ behind (places.rows table bucket) + more
      → StepAsks more asks places (with_chain places table rows')
  chain_step table bucket asks more rows' known low others least most =
      let new = with_chain places table rows' in
      let chains = sum_by (chain_nodes places) (below 8) in
      let chains' = sum_by (chain_nodes new) (below 8) in
      record {
        branches = all;
        rows = 0;
        nodes = first_grows _ _ _ _ (chains_grow places table bucket asks rows' known low others least);
        within = and_none _ _ (in_first _ _ _ _
            (chains_changed rows_nodes places table rows' more 8 (rows_changed behind (places.rows table) rows' bucket more 511 others most)));
      }

  tree_step : (tree asks more : ℕ) (levels' : Levels) (leaves' : Level) → tree < 16
      → tree_nodes places tree + asks ≤ count levels' leaves' - 1 → 2 * (length leaves' - 1) ≤ 2 * (length (places.leaves tree) - 1) + more
      → IsBranching levels' leaves'
      → StepAsks more asks places (with_tree places tree levels' leaves')
  tree_step tree asks more levels' leaves' known least most here =
      let new = with_tree places tree levels' leaves' in
      let chains = sum_by (chain_nodes places) (below 8) in
      record {
        branches = branches_with places tree levels' leaves' all here;
        rows = 0;
        nodes = second_grows _ _ _ _ (trees_grow places tree asks levels' leaves' known least);
        within = and_none _ _ (in_second _ _ _ _ (trees_changed places tree levels' leaves' more 16 most));
      }

step_asks : (move : Move) (places places' : Places) (asks : ℕ) → IsIn move → AllBranch places → Moves move places asks places'
    → StepAsks (asks_added move) asks places places'
step_asks _ _ _ _ known all (row_added_at places table key rid absent) = record { branches = all; rows = 1; nodes = le_refl (spare_nodes places + 1); within = le_refl (room places + 1) }
step_asks _ _ _ _ known all (row_dropped_at places table key) = record { branches = all; rows = 0; nodes = le_refl (spare_nodes places + 0); within = le_refl (room places + 0) }
step_asks _ _ _ _ known all (pair_put_in places table key rid fresh rows' absent puts others) =
    let changes = put_changes _ key rid fresh (places.rows table (bucket_of key)) (rows' (bucket_of key)) puts in
    chain_step places all table (bucket_of key) (length (option_to_list fresh)) 1 rows' known (bucket_below key) others changes.all changes.few
step_asks _ _ _ _ known all (pair_removed_from places table key rows' removes others) =
    let same = removed_same key (places.rows table (bucket_of key)) (rows' (bucket_of key)) removes in
    chain_step places all table (bucket_of key) 0 0 rows' known (bucket_below key) others (omega (arith, same)) (omega (arith, same))
step_asks _ _ _ _ known all (entry_inserted_in places tree key rid levels' leaves' absent takes grow) =
    let grows = tree_grows (root_of tree) key rid (places.levels tree) (places.leaves tree) levels' leaves' takes (all tree known) in
    tree_step places all tree _ 2 levels' leaves' known grows.nodes (omega (arith, grow)) grows.branches
step_asks _ _ _ _ known all (entry_removed_from places tree key leaves' stay at_key) =
    tree_step places all tree 0 0 (places.levels tree) leaves' known (omega (arith, count_same (places.levels tree) (places.leaves tree) leaves' stay)) (omega (arith, stay))
    (still_branching (places.levels tree) (places.leaves tree) leaves' stay (all tree known))

-- ---- one after another

both_nodes : (a b c asks asked r s : ℕ) → a + asks ≤ b + r → b + asked ≤ c + s → a + (asks + asked) ≤ c + (r + s)
both_nodes _ _ _ _ _ _ _ first second = omega (arith, first, second)

both_rooms : (a b c r s m n t : ℕ) → b + r ≤ a + m → c + s ≤ b + n → t ≡ m + n → c + (r + s) ≤ a + t
both_rooms _ _ _ _ _ _ _ _ first second sum = omega (arith, first, second, sum)

run_asks : (planned : List Move) (places places' : Places) (asked : ℕ) → AreIn planned → AllBranch places
    → Follows planned places asked places' → StepAsks (sum_by asks_added planned) asked places places'
run_asks _ _ _ _ known all (stays places) = record { branches = all; rows = 0; nodes = le_refl (spare_nodes places + 0); within = le_refl (room places + 0) }
run_asks _ _ _ _ known all (moves move more places between places' asks asked first rest) =
    let one = step_asks move places between asks known.0 all first in
    let others = run_asks more between places' asked known.1 one.branches rest in
    record {
      branches = others.branches;
      rows = one.rows + others.rows;
      nodes = both_nodes _ _ _ _ _ _ _ one.nodes others.nodes;
      within = both_rooms _ _ _ _ _ _ _ _ one.within others.within (sum_by-cons asks_added move more);
    }

-- ---- the move for which a new record is asked for

nodes_within : (places : Places) → AllBranch places → spare_nodes places ≤ room places
nodes_within places all =
    let trees = sum_most (tree_nodes places) (tree_weight places) 0 16 (λ number low high. tree_most (places.levels number) (places.leaves number) (all number (omega arith))) in
    beside (sum_by (chain_nodes places) (below 8)) (sum_by (tree_nodes places) (below 16)) (sum_by (tree_weight places) (below 16)) trees
  where
    beside : (a b b' : ℕ) → b ≤ b' → a + b ≤ a + b'
    beside a b b' less = omega (arith, less)

sum_with : (a b m n : ℕ) → a ≤ b → m ≤ n → a + m ≤ b + n
sum_with _ _ _ _ first second = omega (arith, first, second)

due_within : (move : Move) (places : Places) (now : ℕ) → IsIn move → AllBranch places → IsDue move places now
    → spare_nodes places + now ≤ room places + asks_added move
due_within (row_added table key) places now known all due = sum_with _ _ _ _ (nodes_within places all) due.0
due_within (row_dropped table key) places now known all due = sum_with _ _ _ _ (nodes_within places all) (le_of_eq due)
due_within (pair_put table key) places now known all due = sum_with _ _ _ _ (nodes_within places all) due.0
due_within (pair_removed table key) places now known all due = sum_with _ _ _ _ (nodes_within places all) (le_of_eq due)
due_within (entry_inserted tree key) places now known all due =
    let own = tree_due key (places.levels tree) (places.leaves tree) (all tree known) in
    let few = due.1 in
    let trees = sum_lower (tree_nodes places) (tree_weight places) 0 16 tree now 2 (omega arith) known (λ number differs low. tree_most (places.levels number) (places.leaves number) (all number (omega arith))) (omega (arith, own, few)) in
    beside (sum_by (chain_nodes places) (below 8)) (sum_by (tree_nodes places) (below 16)) (sum_by (tree_weight places) (below 16)) now 2 trees
  where
    beside : (a b b' m n : ℕ) → b + m ≤ b' + n → a + b + m ≤ a + b' + n
    beside a b b' m n less = omega (arith, less)
due_within (entry_removed tree key) places now known all due = sum_with _ _ _ _ (nodes_within places all) (le_of_eq due)

-- ---- the whole

-- the new records that are present are no more than rows, nodes behind buckets and nodes beside roots
spares_by_nodes : (places : Places)
    → length (spares places) ≤ sum_by (chain_weight places) (below 8) + sum_by (tree_nodes places) (below 16)
spares_by_nodes places =
    pieces_few (chain_spares places) (tree_spares places) (chain_weight places) (tree_nodes places) 8 16 (λ table low. chain_few (places.rows table) 511)
    (λ number low. le_of_eq (length-drop 1 (tree_records (places.levels number) (places.leaves number))))

counted : (rids asked chains pairs nodes trees adds : ℕ) → nodes + trees + asked ≤ nodes + chains + adds → rids ≤ pairs + trees
    → rids + asked ≤ pairs + chains + adds
counted _ _ _ _ _ _ _ within few = omega (arith, within, few)

with_those : (size : ℕ) (state : State) (places : Places) (tables : TableMap) (asked most : ℕ) → StandsFor size state places tables
    → spare_nodes places + asked ≤ room places + most → AtMostWith fixed_records state asked (weight places + most)
with_those size state places tables asked most stands within = λ rids apart present.
    let inside : All (λ rid. In rid (spares places)) rids = λ k d low. (let here = present k d low in in_spares size state places tables _ here.1.0 stands here.0 here.1.1) in
    counted _ _ _ _ _ _ _ within (le_trans (few_in rids (spares places) apart inside) (spares_by_nodes places))

all_branch : (size : ℕ) (state : State) (places : Places) (tables : TableMap) → StandsFor size state places tables → AllBranch places
all_branch size state places tables stands = λ number low. branching size (root_of number) state (places.levels number) (places.leaves number) (stands.shape.trees number low)

after_run : (a a' asked rows b b' m n : ℕ) → a + asked ≤ a' + rows → b' + rows ≤ b + m → a' ≤ b' → m ≤ n → a + asked ≤ b + n
after_run _ _ _ _ _ _ _ _ nodes within enough few = omega (arith, nodes, within, enough, few)

at_ask : (a a' earlier now rows b b' m n o s : ℕ) → a + earlier ≤ a' + rows → b' + rows ≤ b + m → a' + now ≤ b' + n → m + n ≤ s → s ≤ o
    → a + (earlier + now) ≤ b + o
at_ask _ _ _ _ _ _ _ _ _ _ _ nodes within more some few = omega (arith, nodes, within, more, some, few)

upto_move : (before : List Move) (move : Move) (after planned : List Move) → planned ≡ before ++ move ∷ after
    → sum_by asks_added before + asks_added move ≤ sum_by asks_added planned
upto_move before move after planned is = omega (arith, ap (sum_by asks_added) is, sum_by-append asks_added before (move ∷ after), sum_by-cons asks_added move after)

pub room_after_run : RoomAfterRun
room_after_run = λ size state places places' tables commands asked stands known follows.
    let planned = run_plan commands tables in
    let run = run_asks planned places places' asked (run_in commands tables known) (all_branch size state places tables stands) follows in
    with_those size state places tables asked (all_add commands tables) stands
    (after_run _ _ _ _ _ _ _ _ run.nodes run.within (nodes_within places' run.branches) (run_few asks_added asks_is commands tables))

pub room_to_ask : RoomToAsk
room_to_ask = λ size state places tables commands asked stands known may.
    let planned = run_plan commands tables in
    let are = are_parts may.before (may.move ∷ may.after) (subst AreIn may.is_planned (run_in commands tables known)) in
    let run = run_asks may.before places may.between may.earlier are.0 (all_branch size state places tables stands) may.follows in
    let P : ℕ → Type 0 = λ n. AtMostWith fixed_records state n (weight places + all_add commands tables) in
    subst P (sym may.counted) (with_those size state places tables (may.earlier + may.now) (all_add commands tables) stands
    (at_ask _ _ _ _ _ _ _ _ _ _ _ run.nodes run.within (due_within may.move may.between may.now are.1.0 run.branches may.due) (upto_move may.before may.move may.after planned may.is_planned) (run_few asks_added asks_is commands tables)))
