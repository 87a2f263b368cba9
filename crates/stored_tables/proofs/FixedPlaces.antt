-- A record below the new ones that a tree has is its root.
use Rattle.std.proofs.Common.{◌≡◌, ℕ, ◌+◌, ◌-◌, ◌*◌, ◌<◌, ◌≤◌, List, [], ◌∷◌, Option, None, Some, refl, sym, ap, subst, ◌∙◌, arith, inl, inr}
use Rattle.std.specs.Prelude.{◌/◌, ◌%◌, Contains, IsSome, MatchOption}
use Rattle.std.proofs.lemmas.Bool.{cases_lt}
use Rattle.std.proofs.lemmas.Option.{none-some}
use Rattle.plain_data.specs.State.{State}
use Rattle.record_store.specs.Links.{records_of}
use Rattle.hash_index.specs.Chain.{Leads, start_of}
use Rattle.ordered_index.specs.Keys.{first_key}
use Rattle.ordered_index.specs.Node.{Content}
use Rattle.ordered_index.specs.Tree.{Descends, In, IsTree, tree_records}
use Rattle.stored_tables.specs.Places.{Places, holds, base_of, head_of, root_of, table_limit, tree_limit, fixed_records}
use Rattle.stored_tables.specs.Places.Spot.{bucket, tree, head}
use Rattle.stored_tables.specs.Shape.{IsShape}
use Rattle.stored_tables.proofs.Frames.{bucket_in, root_in}
use Rattle.stored_tables.proofs.Laid.{HeadSays, root_cases}
use Rattle.stored_tables.proofs.Spots.{bucket_tree, tree_head, tree_number}

-- a lawful tree with an absent root has no leaves
pub no_leaves : (size root : ℕ) (state : State) (levels : List (List (ℕ × Content))) (leaves : List (ℕ × Content)) → state root ≡ None
    → IsTree size root state levels leaves → leaves ≡ []
no_leaves size root state levels leaves none lawful =
    let M : Option (List ℕ) → Type 0 = λ value. MatchOption value ((levels ≡ []) × (leaves ≡ [])) (λ _. Descends size state ((first_key, root) ∷ []) levels leaves) in
    let says : M None = subst M none lawful.descends in
    says.1

module _ (size : ℕ) (state : State) (places : Places) (shape : IsShape size state places) (rid : ℕ) (words : List ℕ) (here : state rid ≡ Some words) where
  -- it stands where a bucket begins, at a head or at a root
  in_bucket : (table number : ℕ) → table < table_limit → number < 511 → base_of table + number ≡ rid → holds places (bucket table number) rid
  in_bucket table number known low is =
      let present : state (base_of table + number) ≡ Some words = ap state is ∙ here in
      let P : Option ℕ → Type 0 = λ from. Leads size state 0 from (places.rows table number) None in
      let start : start_of state (base_of table + number) ≡ Some (base_of table + number) = rw present refl in
      let C : ℕ → Type 0 = λ r. Contains (records_of (places.rows table number)) r in (
        known,
        low,
        subst C is (bucket_in size (base_of table + number) state (places.rows table number)
            (subst P start ((shape.chains table known).walks number low))),
      )

  in_tree : (number : ℕ) → number < tree_limit → root_of number ≡ rid → holds places (tree number) rid
  in_tree number known is =
      let present : state (root_of number) ≡ Some words = ap state is ∙ here in
      let M : Option (List ℕ) → Type 0 = λ value. MatchOption value ((places.levels number ≡ []) × (places.leaves number ≡ [])) (λ _. Descends size state ((first_key, root_of number) ∷ []) (places.levels number) (places.leaves number)) in
      let says : M (Some words) = subst M present (shape.trees number known).descends in
      let I : ℕ → Type 0 = λ r. In r (tree_records (places.levels number) (places.leaves number)) in
      (known, subst I is (root_in size (root_of number) state (places.levels number) (places.leaves number) says))

  at_head : (column : Option ℕ) (table : ℕ) → table < table_limit → places.column_at table ≡ column → head_of table ≡ rid → IsSome column
  at_head None table known is at =
      let says : HeadSays state table None = subst (HeadSays state table) is (shape.heads table known) in
      absurd (none-some words (sym says.0 ∙ ap state at ∙ here))
  at_head (Some column) table known is at = refl

  in_head : (table : ℕ) → table < table_limit → head_of table ≡ rid → holds places (head table) rid
  in_head table known is = (known, at_head (places.column_at table) table known refl is, sym is)

  module _ (number : ℕ) (own : holds places (tree number) rid) where
    other_bucket : (table at : ℕ) → table < table_limit → at < 511 → base_of table + at ≡ rid → ⊥
    other_bucket table at known low is =
        bucket_tree table at number (shape.laid.once rid (bucket table at) (tree number) (in_bucket table at known low is) own)

    own_root : (other : ℕ) → other < tree_limit → root_of other ≡ rid → rid ≡ root_of number
    own_root other known is =
        let same : other ≡ number = tree_number other number (shape.laid.once rid (tree other) (tree number) (in_tree other known is) own) in
        sym is ∙ ap root_of same

    other_head : (table : ℕ) → table < table_limit → head_of table ≡ rid → ⊥
    other_head table known is =
        tree_head number table (shape.laid.once rid (tree number) (head table) own (in_head table known is))

    root_low : (table : ℕ) → table < 8 → rid ≡ 512 * table + 511 → rid ≡ root_of number
    root_low table low is = elim (root_cases table) as (λ _. rid ≡ root_of number) [
      | inl first ↦ own_root table (omega (arith, low)) (omega (arith, first.1, is))
      | inr second ↦ absurd (omega (arith, second.0, low))
    ]

    root_high : (other : ℕ) → 8 ≤ other → other < 16 → rid ≡ 4096 + other → rid ≡ root_of number
    root_high other high low is = elim (root_cases other) as (λ _. rid ≡ root_of number) [
      | inl first ↦ absurd (omega (arith, first.0, high))
      | inr second ↦ own_root other low (omega (arith, second.1, is))
    ]

    in_tables : rid < 4096 → rid ≡ root_of number
    in_tables low = elim (cases_lt (rid % 512) 511) as (λ _. rid ≡ root_of number) [
      | inl inside ↦ absurd (other_bucket (rid / 512) (rid % 512) (omega arith) inside (omega arith))
      | inr last ↦ root_low (rid / 512) (omega arith) (omega arith)
    ]

    behind_tables : 4096 ≤ rid → rid < 4112 → rid ≡ root_of number
    behind_tables high low = elim (cases_lt rid 4104) as (λ _. rid ≡ root_of number) [
      | inl first ↦ absurd (other_head (rid - 4096) (omega arith) (omega arith))
      | inr second ↦ root_high (rid - 4096) (omega arith) (omega arith) (omega arith)
    ]

    pub own_fixed : rid < fixed_records → rid ≡ root_of number
    own_fixed low = elim (cases_lt rid 4096) as (λ _. rid ≡ root_of number) [
      | inl first ↦ in_tables first
      | inr second ↦ behind_tables second low
    ]
