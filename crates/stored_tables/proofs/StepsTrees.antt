-- The shape once an entry was inserted into a tree or removed from it.
use Rattle.std.proofs.Common.{◌≡◌, ◌≢◌, ℕ, ◌<◌, ◌≤◌, List, None, refl, sym, ap, ◌∙◌, subst, inl, inr, eq-eqb, ne_eqb}
use Rattle.std.proofs.lemmas.Bool.{cases_eq}
use Rattle.plain_data.specs.State.{State, overlay}
use Rattle.record_store.specs.Spots.{IsMoved}
use Rattle.ordered_index.specs.Node.{Content}
use Rattle.ordered_index.specs.Tree.{IsTree, In, tree_records}
use Rattle.stored_tables.specs.Places.{Spot, Places, holds, root_of, index_tree, with_tree, table_limit, tree_limit, fixed_records}
use Rattle.stored_tables.specs.Places.Spot.{bucket, tree, row, head}
use Rattle.stored_tables.specs.Shape.{IsShape}
use Rattle.stored_tables.specs.Steps.{IsDeclared, TreeInserted, TreeTakenOut}
use Rattle.stored_tables.proofs.Spots.{bucket_tree, tree_head, tree_number}
use Rattle.stored_tables.proofs.Laid.{SpotMoved, chain_stays, tree_stays, head_stays, all_laid, moved_along, not_some, root_apart, bucket_root, head_root}

-- a lawful tree changed
pub record TreeMoved (size fixed number : ℕ) (state state' : State) (places : Places) (levels' : List (List (ℕ × Content))) (leaves' : List (ℕ × Content)) : Type 0 where
  pub lawful : IsTree size (root_of number) state' levels' leaves'
  pub moved : IsMoved fixed (root_of number) (λ rid. In rid (tree_records (places.levels number) (places.leaves number))) (λ rid. In rid (tree_records levels' leaves')) state state'

module _ (size fixed number : ℕ) (state state' : State) (places : Places) (levels' : List (List (ℕ × Content))) (leaves' : List (ℕ × Content)) (within : number < tree_limit) (enough : fixed_records ≤ fixed) (declared : IsDeclared places number) (shape : IsShape size state places) (by : TreeMoved size fixed number state state' places levels' leaves') where
  abbrev after : Places
  after = with_tree places number levels' leaves'

  own_levels : after.levels number ≡ levels'
  own_levels = rw (eq-eqb number number refl) refl

  own_leaves : after.leaves number ≡ leaves'
  own_leaves = rw (eq-eqb number number refl) refl

  other_levels : (other : ℕ) → other ≢ number → after.levels other ≡ places.levels other
  other_levels other differs = rw (ne_eqb other number differs) refl

  other_leaves : (other : ℕ) → other ≢ number → after.leaves other ≡ places.leaves other
  other_leaves other differs = rw (ne_eqb other number differs) refl

  own_records : tree_records (after.levels number) (after.leaves number) ≡ tree_records levels' leaves'
  own_records = ap (λ ls. tree_records ls (after.leaves number)) own_levels ∙ ap (λ ns. tree_records levels' ns) own_leaves

  other_records : (other : ℕ) → other ≢ number → tree_records (after.levels other) (after.leaves other) ≡ tree_records (places.levels other) (places.leaves other)
  other_records other differs =
      ap (λ ls. tree_records ls (after.leaves other)) (other_levels other differs)
      ∙ ap (λ ns. tree_records (places.levels other) ns) (other_leaves other differs)

  on : (a : Spot) → a ≢ tree number → (rid : ℕ) → holds places a rid → holds after a rid
  on (bucket other place) differs rid here = here
  on (tree other) differs rid here = (here.0, rw (other_records other (λ same. differs (ap (λ t. tree t) same))) here.1)
  on (row other key) differs rid here = here
  on (head other) differs rid here = here

  back : (a : Spot) → a ≢ tree number → (rid : ℕ) → holds after a rid → holds places a rid
  back (bucket other place) differs rid here = here
  back (tree other) differs rid here = (here.0, rw (other_records other (λ same. differs (ap (λ t. tree t) same))) at here.1)
  back (row other key) differs rid here = here
  back (head other) differs rid here = here

  spot : SpotMoved fixed (root_of number) (tree number) state state' places after
  spot = record {
    enough = enough;
    moved = moved_along fixed (root_of number) _ _ _ _ state state'
        (λ rid here. (within, here)) (λ rid here. here.1) (λ rid here. (within, rw own_records here))
        (λ rid here. rw own_records at here.1) by.moved;
    on = on;
    back = back;
  }

  trees_now : (other : ℕ) → other < tree_limit → IsTree size (root_of other) state' (after.levels other) (after.leaves other)
  trees_now other inside =
      let P : ℕ → Type 0 = λ t. IsTree size (root_of t) state' (after.levels t) (after.leaves t) in
      elim (cases_eq other number) as (λ _. P other) [
        | inl same ↦ subst P (sym same) (rw (own_levels, own_leaves) by.lawful)
        | inr differs ↦ rw (other_levels other differs, other_leaves other differs)
            (tree_stays size fixed (root_of number) (tree number) state state' places after shape spot other inside
            (λ same. differs (tree_number other number same))
            (root_apart other number differs))
      ]

  -- the root of an index that is not declared is not that of this tree
  undeclared : (table : ℕ) → table < table_limit → places.column_at table ≡ None → root_of (index_tree table) ≢ root_of number
  undeclared table inside none =
      root_apart (index_tree table) number (λ same. not_some (places.column_at table) none (declared table inside (sym same)))

  pub tree_shape : IsShape size state' after
  tree_shape = record {
    chains = λ other inside. chain_stays size fixed (root_of number) (tree number) state state' places after shape spot other inside
        (λ place. bucket_tree other place number)
        (λ place below. bucket_root other place number inside below);
    trees = trees_now;
    heads = λ other inside. head_stays size fixed (root_of number) (tree number) state state' places after shape spot other inside
        (λ same. tree_head number other (sym same))
        (head_root other number inside)
        (undeclared other inside);
    laid = all_laid size fixed (root_of number) (tree number) state state' places after shape spot;
  }

pub tree_inserted : TreeInserted
tree_inserted number key rid before after state places levels' leaves' within enough declared shape inserted =
    tree_shape before.size before.fixed number (overlay before.writes state)
    (overlay after.writes state) places levels' leaves' within enough declared shape
    (record { lawful = inserted.lawful; moved = inserted.moved })

pub tree_taken_out : TreeTakenOut
tree_taken_out number key before after state places leaves' within enough declared shape taken =
    tree_shape before.size before.fixed number (overlay before.writes state) (overlay after.writes state) places
    (places.levels number) leaves' within enough declared shape
    (record { lawful = taken.lawful; moved = taken.moved })
