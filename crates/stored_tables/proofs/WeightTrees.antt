-- How many nodes a tree has: an inner node has two children at least, so there are fewer inner nodes than leaves; and a full one has nine,
-- so there is room for each node that an insertion may ask for.
use Rattle.std.proofs.Common.{◌≡◌, ◌≢◌, ◌⊎◌, ℕ, ◌+◌, ◌-◌, ◌*◌, ◌≤◌, Bool, true, false, cond, eqb, ◌&&◌, List, [], ◌∷◌, ◌++◌, length, get_or, drop, Option, None, Some, MatchOption, refl, sym, ap, ◌∙◌, arith, subst, inl, inr, eq-eqb, ne_eqb, eqb-true}
use Rattle.std.specs.Prelude.{⊤}
use Rattle.std.proofs.lemmas.Bool.{cases_eq}
use Rattle.std.proofs.lemmas.List.{length-append, length-map, append-nil}
use Rattle.plain_data.specs.State.{State}
use Rattle.ordered_index.specs.declared.key.Key.{Key}
use Rattle.ordered_index.specs.declared.node.Kind.{Kind}
use Rattle.ordered_index.specs.declared.node.Kind.TheVariants.{Inner}
use Rattle.ordered_index.specs.Keys.{is_before, or_else, first_key}
use Rattle.ordered_index.specs.Node.{Content, least}
use Rattle.ordered_index.specs.Tree.{IsTree, Stand, Descends, In, named, row_names, row_entries, tree_records}
use Rattle.record_store.specs.Links.{records_of}
use Rattle.ordered_index.specs.Asks.{home, has_nine, full_nodes, records_due}
use Rattle.stored_tables.proofs.Counting.{in_left}

-- the nodes of a level, and levels of them
abbrev pub Row : Type 0
Row = List (ℕ × Content)

abbrev pub Levels : Type 0
Levels = List Row

-- each node has two entries at least
abbrev pub TwoEach : Row → Type 0
TwoEach [] = ⊤
TwoEach (node ∷ row) = (2 ≤ length node.1.entries) × TwoEach row

-- levels below so many entries: one node for each entry of the level above
abbrev pub Branches : ℕ → Levels → Row → Type 0
Branches above [] leaves = length leaves ≡ above
Branches above (level ∷ levels) leaves = (length level ≡ above) × TwoEach level × Branches (length (row_entries level)) levels leaves

-- a tree that has not begun, or one below its root
abbrev pub IsBranching : Levels → Row → Type 0
IsBranching levels leaves = ((levels ≡ []) × (leaves ≡ [])) ⊎ Branches 1 levels leaves

abbrev pub count : Levels → Row → ℕ
count levels leaves = length (tree_records levels leaves)

pub count-level : (level : Row) (levels : Levels) (leaves : Row) → count (level ∷ levels) leaves ≡ length level + count levels leaves
count-level level levels leaves = let long = length-append (records_of level) (tree_records levels leaves) in omega (arith, long, length-map level (λ (node : ℕ × Content). node.0))

pub count-leaves : (leaves : Row) → count [] leaves ≡ length leaves
count-leaves leaves = length-map leaves (λ (node : ℕ × Content). node.0)

-- ---- a lawful tree branches

stand_two : (size : ℕ) (state : State) (row : Row) → Stand size state Inner row → TwoEach row
stand_two size state [] stand = tt
stand_two size state (x ∷ row) stand = (let P : Kind → Type 0 = λ k. least k ≤ length x.1.entries in subst P stand.1 stand.0.sound.enough, stand_two size state row stand.2)

names_length : (row : Row) (above : List (Key × ℕ)) → row_names row ≡ above → length row ≡ length above
names_length row above same = sym (length-map row named) ∙ ap length same

descends_branches : (size : ℕ) (state : State) (above : List (Key × ℕ)) (levels : Levels) (leaves : Row)
    → Descends size state above levels leaves → Branches (length above) levels leaves
descends_branches size state above [] leaves descends = names_length leaves above descends.0
descends_branches size state above (level ∷ levels) leaves descends =
    (names_length level above descends.0, stand_two size state level descends.1, descends_branches size state (row_entries level) levels leaves descends.2)

root_cases : (found : Option (List ℕ)) (A B : Type 0) → MatchOption found A (λ _. B) → A ⊎ B
root_cases None A B is = inl is
root_cases (Some words) A B is = inr is

pub branching : (size root : ℕ) (state : State) (levels : Levels) (leaves : Row) → IsTree size root state levels leaves
    → IsBranching levels leaves
branching size root state levels leaves tree =
    elim (root_cases (state root) ((levels ≡ []) × (leaves ≡ [])) (Descends size state ((first_key, root) ∷ []) levels leaves) tree.descends) as (λ _. IsBranching levels leaves) [
      | inl none ↦ inl none
      | inr descends ↦ inr (descends_branches size state ((first_key, root) ∷ []) levels leaves descends)
    ]

-- ---- its records beside the root

first_named : (node : ℕ × Content) (row : Row) (above : Key × ℕ) → row_names (node ∷ row) ≡ above ∷ [] → node.0 ≡ above.1
first_named node row above names = ap (λ (xs : List (Key × ℕ)). (get_or {A = Key × ℕ} xs 0 above).1) names

behind_first : (row : Row) (rids : List ℕ) (above : Key × ℕ) (rid : ℕ) → row_names row ≡ above ∷ [] → rid ≢ above.1
    → In rid (records_of row ++ rids) → In rid (drop 1 (records_of row ++ rids))
behind_first [] rids above rid names differs there = let none = names_length [] (above ∷ []) names in absurd (omega (arith, none))
behind_first (node ∷ row) rids above rid names differs there = elim there as (λ _. In rid (records_of row ++ rids)) [
  | inl same ↦ absurd (differs (sym same ∙ first_named node row above names))
  | inr more ↦ more
]

beside_root : (size root rid : ℕ) (state : State) (levels : Levels) (leaves : Row) → rid ≢ root
    → Descends size state ((first_key, root) ∷ []) levels leaves → In rid (tree_records levels leaves)
    → In rid (drop 1 (tree_records levels leaves))
beside_root size root rid state [] leaves differs descends there =
    let P : List ℕ → Type 0 = λ rids. In rid (drop 1 rids) in
    subst P (append-nil (records_of leaves)) (behind_first leaves [] (first_key, root) rid descends.0 differs (in_left (records_of leaves) [] rid there))
beside_root size root rid state (level ∷ levels) leaves differs descends there = behind_first level (tree_records levels leaves) (first_key, root) rid descends.0 differs there

pub tree_beside : (size root rid : ℕ) (state : State) (levels : Levels) (leaves : Row) → rid ≢ root → IsTree size root state levels leaves
    → In rid (tree_records levels leaves) → In rid (drop 1 (tree_records levels leaves))
tree_beside size root rid state levels leaves differs tree there =
    elim (root_cases (state root) ((levels ≡ []) × (leaves ≡ [])) (Descends size state ((first_key, root) ∷ []) levels leaves) tree.descends) as (λ _. In rid (drop 1 (tree_records levels leaves))) [
      | inl none ↦ absurd (rw (none.0, none.1) at there)
      | inr descends ↦ beside_root size root rid state levels leaves differs descends there
    ]

-- ---- fewer than twice as many nodes as leaves

pub two_each : (row : Row) → TwoEach row → 2 * length row ≤ length (row_entries row)
two_each [] two = omega arith
two_each (x ∷ row) two = let more = two_each row two.1 in omega (arith, more, two.0, length-append x.1.entries (row_entries row))

count_most : (above : ℕ) (levels : Levels) (leaves : Row) → Branches above levels leaves → count levels leaves + above ≤ 2 * length leaves
count_most above [] leaves branches = omega (arith, branches, count-leaves leaves)
count_most above (level ∷ levels) leaves branches =
    let below = count_most (length (row_entries level)) levels leaves branches.2 in
    omega (arith, below, branches.0, two_each level branches.1, count-level level levels leaves)

pub tree_most : (levels : Levels) (leaves : Row) → IsBranching levels leaves → count levels leaves - 1 ≤ 2 * (length leaves - 1)
tree_most levels leaves is = elim is as (λ _. count levels leaves - 1 ≤ 2 * (length leaves - 1)) [
  | inl none ↦ rw (none.0, none.1) (omega arith)
  | inr branches ↦ let most = count_most 1 levels leaves branches in omega (arith, most)
]

-- ---- and with those that an insertion may ask for, one more at most

nine_of : (found : Option (ℕ × Content)) (node : ℕ × Content) (later : Bool) → has_nine (or_else found (cond later None (Some node))) ≡ true
    → (has_nine found ≡ true) ⊎ (length node.1.entries ≡ 9)
nine_of (Some other) node later nine = inl nine
nine_of None node true nine = inl nine
nine_of None node false nine = inr (eqb-true (length node.1.entries) 9 nine)

nine_below : (row : Row) (key : Key) → TwoEach row → has_nine (home row key) ≡ true → 2 * length row + 7 ≤ length (row_entries row)
nine_below [] key two nine = cc
nine_below (x ∷ row) key two nine = elim (nine_of (home row key) x (is_before key x.1.low) nine) as (λ _. 2 * length (x ∷ row) + 7 ≤ length (row_entries (x ∷ row))) [
  | inl later ↦ let more = nine_below row key two.1 later in omega (arith, more, two.0, length-append x.1.entries (row_entries row))
  | inr here ↦ let more = two_each row two.1 in omega (arith, more, here, length-append x.1.entries (row_entries row))
]

full_step : (f n : ℕ) (test : Bool)
    → (cond (eqb f (n + 1) && test) (n + 2) f ≤ f) ⊎ ((test ≡ true) × (cond (eqb f (n + 1) && test) (n + 2) f ≤ f + 1))
full_step f n true = elim (cases_eq f (n + 1)) as (λ _. (cond (eqb f (n + 1) && true) (n + 2) f ≤ f) ⊎ ((true ≡ true) × (cond (eqb f (n + 1) && true) (n + 2) f ≤ f + 1))) [
  | inl same ↦ inr (refl, rw (eq-eqb f (n + 1) same) (omega (arith, same)))
  | inr differs ↦ inl (rw (ne_eqb f (n + 1) differs) (omega arith))
]
full_step f n false = inl (elim (eqb f (n + 1)) as (λ b. cond (b && false) (n + 2) f ≤ f) [ true ↦ omega arith | false ↦ omega arith ])

pub one_most : (test : Bool) → cond test 1 0 ≤ 1
one_most true = omega arith
one_most false = omega arith

count_full : (key : Key) (above : ℕ) (levels : Levels) (leaves : Row) → Branches above levels leaves
    → count levels leaves + above + full_nodes key levels leaves ≤ 2 * length leaves + 1
count_full key above [] leaves branches = omega (arith, branches, count-leaves leaves, one_most (has_nine (home leaves key)))
count_full key above (level ∷ levels) leaves branches =
    let below = count_full key (length (row_entries level)) levels leaves branches.2 in
    let long = count-level level levels leaves in
    elim (full_step (full_nodes key levels leaves) (length levels) (has_nine (home level key))) as (λ _. count (level ∷ levels) leaves + above + full_nodes key (level ∷ levels) leaves ≤ 2 * length leaves + 1) [
      | inl same ↦ omega (arith, below, long, same, branches.0, two_each level branches.1)
      | inr (nine, more) ↦ omega (arith, below, long, more, branches.0, nine_below level key branches.1 nine)
    ]

due_step : (f n : ℕ) → cond (eqb f (n + 1)) (n + 2) f ≤ f + 1
due_step f n = elim (cases_eq f (n + 1)) as (λ _. cond (eqb f (n + 1)) (n + 2) f ≤ f + 1) [
  | inl same ↦ rw (eq-eqb f (n + 1) same) (omega (arith, same))
  | inr differs ↦ rw (ne_eqb f (n + 1) differs) (omega arith)
]

pub due_none : (key : Key) (levels : Levels) (leaves : Row) → levels ≡ [] → leaves ≡ [] → records_due key levels leaves ≡ 0
due_none key levels leaves no_levels no_leaves = rw (no_levels, no_leaves) refl

pub some_nodes : (above : ℕ) (levels : Levels) (leaves : Row) → Branches above levels leaves → above ≤ count levels leaves
some_nodes above [] leaves branches = omega (arith, branches, count-leaves leaves)
some_nodes above (level ∷ levels) leaves branches = omega (arith, branches.0, count-level level levels leaves)

pub tree_due : (key : Key) (levels : Levels) (leaves : Row) → IsBranching levels leaves
    → count levels leaves - 1 + records_due key levels leaves ≤ 2 * (length leaves - 1) + 2
tree_due key levels leaves is = elim is as (λ _. count levels leaves - 1 + records_due key levels leaves ≤ 2 * (length leaves - 1) + 2) [
  | inl none ↦ let due = due_none key levels leaves none.0 none.1 in let nodes : count levels leaves ≡ 0 = rw (none.0, none.1) refl in omega (arith, due, nodes)
  | inr branches ↦
      let most = count_full key 1 levels leaves branches in
      let due : records_due key levels leaves ≤ full_nodes key levels leaves + 1 = due_step (full_nodes key levels leaves) (length levels) in
      omega (arith, most, due, some_nodes 1 levels leaves branches)
]
