-- Entries of a map of rows, in the order of their places, as entries of a tree.
use Rattle.std.proofs.Common.{◌≡◌, ℕ, Bool, true, false, cond, ◌==◌, ◌&&◌, T, List, [], ◌∷◌, map, filter, All, Option, None, Some, refl, sym, ap, ◌∙◌, arith, inl, inr}
use Rattle.std.specs.Prelude.{option_map}
use Rattle.std.specs.declared.cmp.Ordering.{Ordering}
use Rattle.std.specs.declared.cmp.Ordering.TheVariants.{Less, Equal, Greater}
use Rattle.std.specs.FinMap.{find, is_sorted}
use Rattle.std.specs.FinMap.Entries.{below_all}
use Rattle.std.specs.Ordering.{eq_by_cmp, is_lt, is_eq}
use Rattle.std.proofs.lemmas.Bool.Decides.{nat_tests, eqb_tells}
use Rattle.std.proofs.lemmas.Cmp.{tied_itself}
use Rattle.std.proofs.lemmas.Option.{none-some}
use Rattle.std.proofs.lemmas.List.Elements.{All-nil, All-cons, All-head, All-tail, All-weaker}
use Rattle.ordered_index.specs.declared.key.Key.{Key}
use Rattle.ordered_index.specs.Keys.{is_same, Before, Above, Rising, entry_at}
use Rattle.ordered_index.proofs.Order.{cases_bool}
use Rattle.replay_model.specs.TableMap.{Row, pair_cmp, pair_at, column_in}
use Rattle.replay_model.specs.Effect.{lies_between}
use Rattle.stored_tables.proofs.Maps.{pair_cmp_total, pair_cmp-IsAntisymmetric, pair_ties}

abbrev pub Entries : Type 0
Entries = List ((ℕ × ℕ) × Row)

first_true : (a b : Bool) → T (a && b) → T a
first_true true b both = tt
first_true false b both = absurd both

second_true : (a b : Bool) → T (a && b) → T b
second_true true b both = both
second_true false b both = absurd both

less : (o : Ordering) → T (is_lt o) → o ≡ Less
less Less is = refl
less Equal is = absurd is
less Greater is = absurd is

equal : (o : Ordering) → is_eq o ≡ true → o ≡ Equal
equal Less is = cc
equal Equal is = refl
equal Greater is = cc

-- what is below all entries is not found
find_below : (q : ℕ × ℕ) (es : List ((ℕ × ℕ) × Row)) → T (below_all pair_cmp q es) → find pair_cmp q es ≡ None
find_below q [] below = refl
find_below q (e ∷ es) below =
    ap (λ r. cond (is_eq r) (Some e.1) (find pair_cmp q es))
    (less (pair_cmp q e.0) (first_true (is_lt (pair_cmp q e.0)) (below_all pair_cmp q es) below))
    ∙ find_below q es (second_true (is_lt (pair_cmp q e.0)) (below_all pair_cmp q es) below)

-- places that tie are the same
pub same_place : (x y : ℕ × ℕ) → eq_by_cmp pair_cmp x y ≡ true → x ≡ y
same_place x y tie = pair_cmp-IsAntisymmetric x y (equal (pair_cmp x y) tie)

-- ---- each entry is found at its place

found_behind : (e : (ℕ × ℕ) × Row) (es : List ((ℕ × ℕ) × Row)) (q : ℕ × ℕ) (row : Row) → T (below_all pair_cmp e.0 es)
    → find pair_cmp q es ≡ Some row → find pair_cmp q (e ∷ es) ≡ Some row
found_behind e es q row below here = elim (cases_bool (eq_by_cmp pair_cmp q e.0)) as (λ _. find pair_cmp q (e ∷ es) ≡ Some row) [
  | inl tie ↦
      let same : q ≡ e.0 = same_place q e.0 tie in
      absurd (none-some row (sym (find_below e.0 es below) ∙ ap (λ p. find pair_cmp p es) (sym same) ∙ here))
  | inr other ↦ ap (λ b. cond b (Some e.1) (find pair_cmp q es)) other ∙ here
]

pub all_found : (es : List ((ℕ × ℕ) × Row)) → T (is_sorted pair_cmp es) → All (λ e. find pair_cmp e.0 es ≡ Some e.1) es
all_found [] sorted = All-nil _
all_found (e ∷ es) sorted =
    let below = first_true (below_all pair_cmp e.0 es) (is_sorted pair_cmp es) sorted in
    All-cons (λ f. find pair_cmp f.0 (e ∷ es) ≡ Some f.1) e es
    (ap (λ o. cond (is_eq o) (Some e.1) (find pair_cmp e.0 es)) (tied_itself pair_cmp_total e.0))
    (All-weaker (λ f. find pair_cmp f.0 es ≡ Some f.1) (λ f. find pair_cmp f.0 (e ∷ es) ≡ Some f.1)
    (λ f here. found_behind e es f.0 f.1 below here) es
    (all_found es (second_true (below_all pair_cmp e.0 es) (is_sorted pair_cmp es) sorted)))

-- ---- as entries of a tree: the key from the place, and a record beside it

abbrev pub as_entry : (ℕ × ℕ → Key) → (ℕ × ℕ → ℕ) → (ℕ × ℕ) × Row → Key × ℕ
as_entry key_of rid_of e = (key_of e.0, rid_of e.0)

pub entry_at-entries : (key_of : ℕ × ℕ → Key) (rid_of : ℕ × ℕ → ℕ) (key : Key) (q : ℕ × ℕ) (es : List ((ℕ × ℕ) × Row))
    → All (λ e. is_same key (key_of e.0) ≡ eq_by_cmp pair_cmp q e.0) es
    → entry_at (map (as_entry key_of rid_of) es) key ≡ option_map (λ _. rid_of q) (find pair_cmp q es)
entry_at-entries key_of rid_of key q [] alike = refl
entry_at-entries key_of rid_of key q (e ∷ es) alike =
    let P = λ (e : (ℕ × ℕ) × Row). is_same key (key_of e.0) ≡ eq_by_cmp pair_cmp q e.0 in
    ap (λ b. cond b (Some (rid_of e.0)) (entry_at (map (as_entry key_of rid_of) es) key)) (All-head P e es alike)
    ∙ ap (cond (eq_by_cmp pair_cmp q e.0) (Some (rid_of e.0))) (entry_at-entries key_of rid_of key q es (All-tail P e es alike))
    ∙ elim (cases_bool (eq_by_cmp pair_cmp q e.0)) as
    (λ _. cond (eq_by_cmp pair_cmp q e.0) (Some (rid_of e.0)) (option_map (λ _. rid_of q) (find pair_cmp q es)) ≡ option_map
    (λ _. rid_of q) (cond (eq_by_cmp pair_cmp q e.0) (Some e.1) (find pair_cmp q es))) [
      | inl tie ↦ rw (tie, same_place q e.0 tie) refl
      | inr other ↦ rw other refl
    ]

pub entry_at_none : (key_of : ℕ × ℕ → Key) (rid_of : ℕ × ℕ → ℕ) (key : Key) → ((place : ℕ × ℕ) → is_same key (key_of place) ≡ false)
    → (es : List ((ℕ × ℕ) × Row)) → entry_at (map (as_entry key_of rid_of) es) key ≡ None
entry_at_none key_of rid_of key others [] = refl
entry_at_none key_of rid_of key others (e ∷ es) = rw (others e.0) (entry_at_none key_of rid_of key others es)

-- rising places give rising keys where the map from one to the other rises
above_entries : (key_of : ℕ × ℕ → Key) (rid_of : ℕ × ℕ → ℕ) (P : ℕ × ℕ → Type 0)
    → ((x y : ℕ × ℕ) → P x → P y → pair_cmp x y ≡ Less → Before (key_of x) (key_of y)) → (x : ℕ × ℕ) → P x → (es : List ((ℕ × ℕ) × Row))
    → All (λ e. P e.0) es → T (below_all pair_cmp x es)
    → Above (key_of x) (map (as_entry key_of rid_of) es)
above_entries key_of rid_of P rises x in_x [] all below = tt
above_entries key_of rid_of P rises x in_x (e ∷ es) all below = (
  rises x e.0 in_x (All-head (λ e. P e.0) e es all)
      (less (pair_cmp x e.0) (first_true (is_lt (pair_cmp x e.0))
      (below_all pair_cmp x es) below)),
  above_entries key_of rid_of P rises x in_x es (All-tail (λ e. P e.0) e es all)
      (second_true (is_lt (pair_cmp x e.0)) (below_all pair_cmp x es) below),
)

pub rising_entries : (key_of : ℕ × ℕ → Key) (rid_of : ℕ × ℕ → ℕ) (P : ℕ × ℕ → Type 0)
    → ((x y : ℕ × ℕ) → P x → P y → pair_cmp x y ≡ Less → Before (key_of x) (key_of y)) → (es : List ((ℕ × ℕ) × Row)) → All (λ e. P e.0) es
    → T (is_sorted pair_cmp es)
    → Rising (map (as_entry key_of rid_of) es)
rising_entries key_of rid_of P rises [] all sorted = tt
rising_entries key_of rid_of P rises (e ∷ es) all sorted = (
  above_entries key_of rid_of P rises e.0 (All-head (λ e. P e.0) e es all) es (All-tail (λ e. P e.0) e es all)
      (first_true (below_all pair_cmp e.0 es) (is_sorted pair_cmp es) sorted),
  rising_entries key_of rid_of P rises es
      (All-tail (λ e. P e.0) e es all) (second_true (below_all pair_cmp e.0 es) (is_sorted pair_cmp es) sorted),
)

-- ---- the rows of a table by a column

-- what a look-up by a value and a key finds, from what is found by the table and the key
abbrev pub row_between : ℕ → ℕ → ℕ → ℕ → Option Row → Option Row
row_between c lo hi value None = None
row_between c lo hi value (Some row) = cond (lies_between lo hi (column_in c row) && value == column_in c row) (Some row) None

abbrev pub by_value : ℕ → ℕ → ℕ → List ((ℕ × ℕ) × Row) → List ((ℕ × ℕ) × Row)
by_value c lo hi es = map (λ pair. ((column_in c pair.1, pair.0), pair.1))
    (filter (λ pair. lies_between lo hi (column_in c pair.1)) (map pair_at es))

kept_first : (test : Bool) (q : ℕ × ℕ) (f : ℕ × Row → (ℕ × ℕ) × Row) (x : ℕ × Row) (xs : List (ℕ × Row))
    → find pair_cmp q (map f (cond test (x ∷ xs) xs)) ≡ cond (test && eq_by_cmp pair_cmp q (f x).0) (Some (f x).1)
    (find pair_cmp q (map f xs))
kept_first true q f x xs = refl
kept_first false q f x xs = refl

at_key : (low here : Bool) (row : Row) (found : Option Row) → found ≡ None
    → cond (low && (here && true)) (Some row) found ≡ cond (low && here) (Some row) None
at_key true true row found is = refl
at_key true false row found is = is
at_key false here row found is = is

off_key : (low here : Bool) (row : Row) (found : Option Row) → cond (low && (here && false)) (Some row) found ≡ found
off_key true true row found = refl
off_key true false row found = refl
off_key false here row found = refl

off_table : {X : Type 0} (here : Bool) (x y : X) → cond (here && false) x y ≡ y
off_table true x y = refl
off_table false x y = refl

by_value_found : (c lo hi table value key : ℕ) (e : (ℕ × ℕ) × Row) (behind : Option Row) (found : Option Row) → e.0.0 ≡ table
    → found ≡ row_between c lo hi value behind → (e.0 ≡ (table, key) → behind ≡ None)
    → cond (lies_between lo hi (column_in c e.1) && eq_by_cmp pair_cmp (value, key) (column_in c e.1, e.0.1)) (Some e.1) found
    ≡ row_between c lo hi value (cond (eq_by_cmp pair_cmp (table, key) e.0) (Some e.1) behind)
by_value_found c lo hi table value key e behind found in_table is once =
    rw (pair_ties (value, key) (column_in c e.1, e.0.1), pair_ties (table, key) e.0)
    (elim (eqb_tells key e.0.1) as (λ _. cond (lies_between lo hi (column_in c e.1) && (value == column_in c e.1 && key == e.0.1))
    (Some e.1) found ≡ row_between c lo hi value (cond (table == e.0.0 && key == e.0.1) (Some e.1) behind)) [
      | inl same ↦
          let table_too : (table == e.0.0) ≡ true = grind (arith, nat_tests) in
          let place : e.0 ≡ (table, key) = λ i. (in_table i, sym same.1 i) in
          let none : found ≡ None = is ∙ ap (row_between c lo hi value) (once place) in
          rw (table_too, same.0) (at_key (lies_between lo hi (column_in c e.1)) (value == column_in c e.1) e.1 found none)
      | inr differs ↦
          rw differs.0
          (off_key (lies_between lo hi (column_in c e.1)) (value == column_in c e.1) e.1 found ∙ is
          ∙ ap (row_between c lo hi value) (sym (off_table (table == e.0.0) (Some e.1) behind)))
    ])

chosen : (test : Bool) (other row : Row) → cond test (Some other) None ≡ Some row → Some other ≡ Some row
chosen true other row is = is
chosen false other row is = absurd (none-some row is)

pub find-by_value : (c lo hi table value key : ℕ) (es : List ((ℕ × ℕ) × Row)) → T (is_sorted pair_cmp es) → All (λ e. e.0.0 ≡ table) es
    → find pair_cmp (value, key) (by_value c lo hi es) ≡ row_between c lo hi value (find pair_cmp (table, key) es)
find-by_value c lo hi table value key [] sorted all = refl
find-by_value c lo hi table value key (e ∷ es) sorted all =
    let P = λ (e : (ℕ × ℕ) × Row). e.0.0 ≡ table in
    let below = first_true (below_all pair_cmp e.0 es) (is_sorted pair_cmp es) sorted in
    let rest = find-by_value c lo hi table value key es (second_true (below_all pair_cmp e.0 es) (is_sorted pair_cmp es) sorted)
    (All-tail P e es all) in
    kept_first (lies_between lo hi (column_in c e.1)) (value, key) (λ pair. ((column_in c pair.1, pair.0), pair.1)) (pair_at e)
    (filter (λ pair. lies_between lo hi (column_in c pair.1)) (map pair_at es))
    ∙ by_value_found c lo hi table value key e (find pair_cmp (table, key) es) (find pair_cmp (value, key) (by_value c lo hi es))
    (All-head P e es all) rest
    (λ same. ap (λ q. find pair_cmp q es) (sym same) ∙ find_below e.0 es below)

pub row_between_some : (c lo hi value : ℕ) (found : Option Row) (row : Row) → row_between c lo hi value found ≡ Some row → found ≡ Some row
row_between_some c lo hi value None row is = is
row_between_some c lo hi value (Some other) row is =
    chosen (lies_between lo hi (column_in c other) && value == column_in c other) other row is
