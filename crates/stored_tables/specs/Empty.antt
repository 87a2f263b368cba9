-- The empty state stands for the empty tables. A state that is kept from the beginning on has to, so this stands beside the definitions.
use Rattle.std.proofs.Common.{◌≡◌, ℕ, Bool, true, false, cond, [], Option, None, refl, sym, ◌∙◌, subst, lit<, true≢false}
use Rattle.std.proofs.Math.Nat.{not-suc-le-zero}
use Rattle.std.specs.Prelude.{IfSome}
use Rattle.std.specs.Ordering.{nat_cmp}
use Rattle.std.specs.FinMap.{get-empty}
use Rattle.std.proofs.lemmas.Option.{none-some}
use Rattle.std.proofs.lemmas.List.Elements.{All-nil}
use Rattle.plain_data.specs.State.{empty_state}
use Rattle.hash_index.specs.Chain.{IsChain, bucket_of}
use Rattle.ordered_index.specs.Tree.{IsTree}
use Rattle.replay_model.specs.TableMap.{pair_cmp}
use Rattle.replay_model.specs.Input.{IsColumn}
use Rattle.stored_tables.specs.Places.{Spot, holds, base_of, root_of}
use Rattle.stored_tables.specs.Places.Spot.{bucket, tree, row, head}
use Rattle.stored_tables.specs.Shape.{IsShape}
use Rattle.stored_tables.specs.Tables.{IsTied}
use Rattle.stored_tables.specs.Laws.{no_places, no_tables, EmptyStands}

nothing : (spot : Spot) (rid : ℕ) → holds no_places spot rid → ⊥
nothing (bucket table number) rid here = not-suc-le-zero here.2.1
nothing (tree number) rid here = here.1
nothing (row table key) rid here = none-some rid here.1
nothing (head table) rid here = true≢false (sym here.1)

chain_empty : (size base : ℕ) → IsChain size base empty_state (λ _. [])
chain_empty size base = record {
  walks = λ number low. refl;
  own = λ number low. All-nil (λ (pair : ℕ × ℕ). bucket_of pair.0 ≡ number);
  once = λ number low i j d less below. absurd (not-suc-le-zero below);
  apart = λ a b rid low_a low_b here there. absurd (not-suc-le-zero here.1);
}

tree_empty : (size root : ℕ) → IsTree size root empty_state [] []
tree_empty size root = record { descends = (refl, refl); rising = tt; follow = tt; once = tt; deep = lit< tt }

shape_empty : (size : ℕ) → IsShape size empty_state no_places
shape_empty size = record {
  chains = λ table within. chain_empty size (base_of table);
  trees = λ number within. tree_empty size (root_of number);
  heads = λ table within. (refl, refl);
  laid = record {
    once = λ rid a b here there. absurd (nothing a rid here);
    present = λ rid a here. absurd (nothing a rid here);
    all = λ rid words here. absurd (none-some words here);
  };
}

either_none : (test : Bool) → let none : Option ℕ = None in none ≡ cond test None None
either_none true = refl
either_none false = refl

tied_empty : IsTied empty_state no_places no_tables
tied_empty = record {
  chain = λ table key within. refl;
  tree = λ table key within. either_none _;
  index = λ table key within. refl;
  rows = λ table key within. get-empty pair_cmp (table, key);
  columns = λ table within. get-empty nat_cmp table;
  in_range = λ table.
      let P : Option ℕ → Type 0 = λ o. IfSome o IsColumn in
      let none : P None = tt in
      subst P (sym (get-empty nat_cmp table)) none;
  no_row = λ table key out. get-empty pair_cmp (table, key);
  no_index = λ table out. get-empty nat_cmp table;
}

pub stands_empty : EmptyStands
stands_empty size = record {
  shape = shape_empty size;
  tied = tied_empty;
  fit = λ table key row here. absurd (none-some row (sym (get-empty pair_cmp (table, key)) ∙ here));
}
