-- A leaf of a tree was given back: the shape stands, and what it says of the tables.
use Rattle.std.proofs.Common.{◌≡◌, ℕ, ◌<◌, ◌≤◌, true, false, List, [], ◌∷◌, length, Option, None, Some, refl, sym, ap, subst, ◌∙◌, arith, inl, inr, ne_eqb}
use Rattle.std.specs.Prelude.{IsSome, is_some}
use Rattle.std.proofs.lemmas.Bool.{cases_eq, cases_lt}
use Rattle.std.proofs.lemmas.List.{length-append}
use Rattle.plain_data.specs.State.{State, overlay}
use Rattle.record_store.specs.Meaning.{Meaning}
use Rattle.record_store.specs.Walks.{OnlyReads}
use Rattle.record_store.proofs.Agreement.{writes_same}
use Rattle.ordered_index.specs.declared.key.Key.{Key}
use Rattle.ordered_index.specs.Keys.{entry_at}
use Rattle.ordered_index.specs.Node.{Content}
use Rattle.ordered_index.specs.Reclaim.{IsReclaimed, can_give, frees, joined_of}
use Rattle.ordered_index.specs.Tree.{In, record_of_key, row_entries}
use Rattle.replay_model.specs.TableMap.{Row}
use Rattle.stored_tables.specs.Answers.{Held, Stands}
use Rattle.stored_tables.specs.Places.{Places, root_of, index_tree, with_tree, table_limit, tree_limit, fixed_records}
use Rattle.stored_tables.specs.Places.Spot.{tree}
use Rattle.stored_tables.specs.Reclaim.{GivesLeaf, HasSameEntries}
use Rattle.stored_tables.specs.Shape.{IsShape}
use Rattle.stored_tables.specs.Steps.{IsDeclared}
use Rattle.stored_tables.specs.Tables.{IsRow, IsTied, StandsFor}
use Rattle.stored_tables.proofs.Finding.{stands_on}
use Rattle.stored_tables.proofs.FixedPlaces.{no_leaves, own_fixed}
use Rattle.stored_tables.proofs.Laid.{HeadSays}
use Rattle.stored_tables.proofs.Replaced.{leaves_here, leaves_other}
use Rattle.stored_tables.proofs.Stepped.{tree_stays}
use Rattle.stored_tables.proofs.StepsTrees.{tree_shape}

row_framed : (state state' : State) (found : Option Row) (rid : Option ℕ) → ((at : ℕ) → rid ≡ Some at → state' at ≡ state at)
    → IsRow state found rid → IsRow state' found rid
row_framed state state' found None same is = is
row_framed state state' found (Some at) same is = (is.0, is.1, is.2, same at refl ∙ is.3)

some_of : {T : Type 0} (found : Option T) (value : T) → found ≡ Some value → is_some found ≡ true
some_of found value is = ap is_some is

-- ---- where nothing was freed

none_freed : (rids : List ℕ) → frees rids ≡ false → rids ≡ []
none_freed [] is = refl
none_freed (rid ∷ rids) is = cc

same_places : (number : ℕ) (places : Places) → HasSameEntries number places places
same_places number places = record {
  entries = λ other. refl;
  other_trees = λ other differs. (refl, refl);
  rows = refl;
  row_at = refl;
  column_at = refl;
}

pub gives_none : (number : ℕ) (key : Key) (freed : List ℕ) (before now : Meaning) (state : State) (held : Held) → OnlyReads before now
    → frees freed ≡ false → frees freed ≡ can_give key (held.0.levels number) (held.0.leaves number) → Stands before state held
    → GivesLeaf number key freed before now state held
gives_none number key freed before now state held only none can stands =
    let empty = none_freed freed none in
    let never : (rid : ℕ) → In rid freed → ⊥ = λ rid there. (let I : List ℕ → Type 0 = λ rids. In rid rids in subst I empty there) in
    record {
      can = can;
      after = held.0;
      stands = stands_on before now state held only stands;
      nodes = same_places number held.0;
      records = record {
        new = λ rid there. absurd (never rid there);
        were = λ rid there. absurd (never rid there);
        gone = λ rid there. absurd (never rid there);
        others = λ rid other. ap (λ writes. is_some (overlay writes state rid)) (writes_same before now only);
      };
    }

-- ---- where a leaf was

module _ (number : ℕ) (key : Key) (freed : List ℕ) (before now : Meaning) (state : State) (held : Held)
    (levels' : List (List (ℕ × Content))) (leaves' : List (ℕ × Content)) (low : number < tree_limit)
    (enough : fixed_records ≤ before.fixed) (same : now.size ≡ before.size) (stands : Stands before state held)
    (by : IsReclaimed (root_of number) key freed before now state (held.0.levels number) (held.0.leaves number) levels' leaves') where
  abbrev after : Places
  after = with_tree held.0 number levels' leaves'

  abbrev was : State
  was = overlay before.writes state

  abbrev is_now : State
  is_now = overlay now.writes state

  -- a tree that has leaves is declared
  column_there : (column : Option ℕ) (table : ℕ) → table < table_limit → held.0.column_at table ≡ column → number ≡ index_tree table → IsSome column
  column_there None table inside is named =
      let says : HeadSays was table None = subst (HeadSays was table) is (stands.shape.heads table inside) in
      let none = no_leaves before.size (root_of number) was (held.0.levels number) (held.0.leaves number) (ap (λ n. was (root_of n)) named ∙ says.1) (stands.shape.trees number low) in
      let count = ap length none in
      absurd (omega (arith, by.leaves_less, count))
  column_there (Some column) table inside is named = refl

  declared : IsDeclared held.0 number
  declared = λ table inside named. column_there (held.0.column_at table) table inside refl named

  shape_before : IsShape before.size is_now after
  shape_before = tree_shape before.size before.fixed number was is_now held.0 levels' leaves' low enough declared stands.shape
      (record { lawful = by.lawful; moved = by.moved })

  -- each key has the record that it had
  key_stays : (other : ℕ) (k : Key) → record_of_key (after.leaves other) k ≡ record_of_key (held.0.leaves other) k
  key_stays other k = elim (cases_eq other number) as (λ _. record_of_key (after.leaves other) k ≡ record_of_key (held.0.leaves other) k) [
    | inl is ↦
        let E : ℕ → Type 0 = λ t. record_of_key (after.leaves t) k ≡ record_of_key (held.0.leaves t) k in
        subst E (sym is) (ap (λ leaves. record_of_key leaves k) (leaves_here held.0 number levels' leaves') ∙ ap (λ es. entry_at es k) by.entries_stay)
    | inr differs ↦ ap (λ leaves. record_of_key leaves k) (leaves_other held.0 number levels' leaves' other differs)
  ]

  row_stays : (table k at : ℕ) → table < table_limit → held.0.row_at table k ≡ Some at → is_now at ≡ was at
  row_stays = tree_stays number key 0 before now state held.0 levels' leaves' low enough same declared stands.shape before.fixed
      (root_of number) shape_before by.moved

  tied_now : IsTied is_now after held.1
  tied_now = record {
    chain = stands.tied.chain;
    tree = λ table k known. key_stays table k ∙ stands.tied.tree table k known;
    index = λ table k known. key_stays (index_tree table) k ∙ stands.tied.index table k known;
    rows = λ table k known. row_framed was is_now _ (held.0.row_at table k) (λ at is. row_stays table k at known is) (stands.tied.rows table k known);
    columns = stands.tied.columns;
    in_range = stands.tied.in_range;
    no_row = stands.tied.no_row;
    no_index = stands.tied.no_index;
  }

  stands_now : Stands now state (after, held.1)
  stands_now =
      let Z : ℕ → Type 0 = λ n. StandsFor n is_now after held.1 in
      subst Z (sym same) (record { shape = shape_before; tied = tied_now; fit = stands.fit })

  entries_now : (other : ℕ) → row_entries (after.leaves other) ≡ row_entries (held.0.leaves other)
  entries_now other = elim (cases_eq other number) as (λ _. row_entries (after.leaves other) ≡ row_entries (held.0.leaves other)) [
    | inl is ↦
        let E : ℕ → Type 0 = λ t. row_entries (after.leaves t) ≡ row_entries (held.0.leaves t) in
        subst E (sym is) (ap row_entries (leaves_here held.0 number levels' leaves') ∙ by.entries_stay)
    | inr differs ↦ ap row_entries (leaves_other held.0 number levels' leaves' other differs)
  ]

  nodes_now : HasSameEntries number held.0 after
  nodes_now = record {
    entries = entries_now;
    other_trees = λ other differs. (levels_other other differs, leaves_other held.0 number levels' leaves' other differs);
    rows = refl;
    row_at = refl;
    column_at = refl;
  }
    where
      levels_other : (other : ℕ) → (other ≡ number → ⊥) → after.levels other ≡ held.0.levels other
      levels_other other differs = rw (ne_eqb other number differs) refl

  -- ---- the records

  lost_there : (rid : ℕ) → In rid freed → (words : List ℕ) × (was rid ≡ Some words)
  lost_there rid there = stands.shape.laid.present rid (tree number) (low, (by.lost rid there).0)

  -- the root stays
  root_there : is_now (root_of number) ≡ None → ⊥
  root_there none =
      let empty = no_leaves before.size (root_of number) is_now levels' leaves' none by.lawful in
      let are = by.shape.join.leaves_are in
      let count = ap length (sym are ∙ empty) in
      omega (arith, count, length-append by.shape.join.before ((by.shape.left.0, joined_of by.shape.left.1 by.shape.right.1) ∷ by.shape.join.after))

  new_ones : (rid : ℕ) → In rid freed → fixed_records ≤ rid
  new_ones rid there = elim (cases_lt rid fixed_records) as (λ _. fixed_records ≤ rid) [
    | inl below ↦
        let present = lost_there rid there in
        let root = own_fixed before.size was held.0 stands.shape rid present.0 present.1 number (low, (by.lost rid there).0) below in
        absurd (root_there (ap is_now (sym root) ∙ (by.lost rid there).1))
    | inr enough ↦ enough
  ]

  others_stay : (rid : ℕ) → (In rid freed → ⊥) → is_some (is_now rid) ≡ is_some (was rid)
  others_stay rid other = elim (by.moved.known_before rid) as (λ _. is_some (is_now rid) ≡ is_some (was rid)) [
    | inl here ↦ elim (by.kept rid here) as (λ _. is_some (is_now rid) ≡ is_some (was rid)) [
      | inl gone ↦ absurd (other gone)
      | inr stays ↦
          let late = by.moved.present rid stays in
          let early = stands.shape.laid.present rid (tree number) (low, here) in
          ap is_some late.1 ∙ sym (ap is_some early.1)
    ]
    | inr never ↦ ap is_some (by.moved.outside rid (λ stays. never (by.none_new rid stays)) never)
  ]

  pub gives_leaf : frees freed ≡ can_give key (held.0.levels number) (held.0.leaves number) → GivesLeaf number key freed before now state held
  gives_leaf can = record {
    can = can;
    after = after;
    stands = stands_now;
    nodes = nodes_now;
    records = record {
      new = new_ones;
      were = λ rid there. (let p = lost_there rid there in ap is_some p.1);
      gone = λ rid there. (by.lost rid there).1;
      others = others_stay;
    };
  }
