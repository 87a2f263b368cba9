-- The shape once a pair was put into a chain or removed from it.
use Rattle.std.proofs.Common.{◌≡◌, ◌≢◌, ℕ, ◌+◌, ◌<◌, ◌≤◌, List, Contains, refl, sym, ap, ◌∙◌, arith, subst, inl, inr, eq-eqb, ne_eqb}
use Rattle.std.proofs.lemmas.Bool.{cases_eq}
use Rattle.plain_data.specs.State.{State, overlay}
use Rattle.record_store.specs.Spots.{IsMoved}
use Rattle.hash_index.specs.Chain.{IsChain, bucket_of}
use Rattle.record_store.specs.Links.{records_of}
use Rattle.stored_tables.specs.Places.{Spot, Places, holds, base_of, index_tree, with_chain, table_limit, fixed_records}
use Rattle.stored_tables.specs.Places.Spot.{bucket, tree, row, head}
use Rattle.stored_tables.specs.Shape.{IsShape}
use Rattle.stored_tables.specs.Steps.{ChainPut, ChainRemoved}
use Rattle.stored_tables.proofs.Spots.{bucket_table, bucket_tree, bucket_head}
use Rattle.stored_tables.proofs.Frames.{bucket_below}
use Rattle.stored_tables.proofs.Laid.{SpotMoved, chain_stays, tree_stays, head_stays, all_laid, moved_along, bucket_root}

-- one bucket of a lawful chain changed
pub record ChainMoved (size fixed table number : ℕ) (state state' : State) (rows rows' : ℕ → List (ℕ × List ℕ)) : Type 0 where
  pub lawful : IsChain size (base_of table) state' rows'
  pub other_rows : (other : ℕ) → other ≢ number → rows' other ≡ rows other
  pub moved : IsMoved fixed (base_of table + number) (Contains (records_of (rows number))) (Contains (records_of (rows' number))) state state'

module _ (size fixed table number : ℕ) (state state' : State) (places : Places) (rows' : ℕ → List (ℕ × List ℕ)) (within : table < table_limit) (low : number < 511) (enough : fixed_records ≤ fixed) (shape : IsShape size state places) (by : ChainMoved size fixed table number state state' (places.rows table) rows') where
  abbrev after : Places
  after = with_chain places table rows'

  own_rows : after.rows table ≡ rows'
  own_rows = rw (eq-eqb table table refl) refl

  other_rows : (other : ℕ) → other ≢ table → after.rows other ≡ places.rows other
  other_rows other differs = rw (ne_eqb other table differs) refl

  row_same : (other place : ℕ) → bucket other place ≢ bucket table number → after.rows other place ≡ places.rows other place
  row_same other place differs = elim (cases_eq other table) as (λ _. after.rows other place ≡ places.rows other place) [
    | inl same ↦
        ap (λ t. after.rows t place) same
        ∙ ap (λ (rows : ℕ → List (ℕ × List ℕ)). rows place) own_rows
        ∙ by.other_rows place (λ is. differs (ap (λ t. bucket t place) same ∙ ap (λ n. bucket table n) is))
        ∙ ap (λ t. places.rows t place) (sym same)
    | inr apart ↦ ap (λ (rows : ℕ → List (ℕ × List ℕ)). rows place) (other_rows other apart)
  ]

  on : (a : Spot) → a ≢ bucket table number → (rid : ℕ) → holds places a rid → holds after a rid
  on (bucket other place) differs rid here = (here.0, here.1, rw (row_same other place differs) here.2)
  on (tree other) differs rid here = here
  on (row other key) differs rid here = here
  on (head other) differs rid here = here

  back : (a : Spot) → a ≢ bucket table number → (rid : ℕ) → holds after a rid → holds places a rid
  back (bucket other place) differs rid here = (here.0, here.1, rw (row_same other place differs) at here.2)
  back (tree other) differs rid here = here
  back (row other key) differs rid here = here
  back (head other) differs rid here = here

  spot : SpotMoved fixed (base_of table + number) (bucket table number) state state' places after
  spot =
      let same = ap (λ (rows : ℕ → List (ℕ × List ℕ)). rows number) own_rows in
      record {
        enough = enough;
        moved = moved_along fixed (base_of table + number) (Contains (records_of (places.rows table number))) _
            (Contains (records_of (rows' number))) _ state state'
            (λ rid here. (within, low, here)) (λ rid here. here.2) (λ rid here. (within, low, rw same here))
            (λ rid here. rw same at here.2) by.moved;
        on = on;
        back = back;
      }

  chains_now : (other : ℕ) → other < table_limit → IsChain size (base_of other) state' (after.rows other)
  chains_now other inside =
      let P : ℕ → Type 0 = λ t. IsChain size (base_of t) state' (after.rows t) in
      elim (cases_eq other table) as (λ _. P other) [
        | inl same ↦ subst P (sym same) (rw own_rows by.lawful)
        | inr differs ↦ rw (other_rows other differs)
            (chain_stays size fixed (base_of table + number) (bucket table number) state state' places after shape spot other inside
            (λ place same. differs (bucket_table other place table number same))
            (λ place below same. differs (omega (arith, below, low, same))))
      ]

  pub chain_shape : IsShape size state' after
  chain_shape = record {
    chains = chains_now;
    trees = λ other inside. tree_stays size fixed (base_of table + number)
        (bucket table number) state state' places after shape spot other inside
        (λ same. bucket_tree table number other (sym same))
        (λ same. bucket_root table number other within low (sym same));
    heads = λ other inside. head_stays size fixed (base_of table + number)
        (bucket table number) state state' places after shape spot other inside
        (λ same. bucket_head table number other (sym same))
        (λ same. omega (arith, within, low, inside, same))
        (λ _ same. bucket_root table number (index_tree other) within low (sym same));
    laid = all_laid size fixed (base_of table + number) (bucket table number) state state' places after shape spot;
  }

pub chain_put : ChainPut
chain_put table key rid fresh before after state places rows' within enough shape put =
    chain_shape before.size before.fixed table (bucket_of key) (overlay before.writes state)
    (overlay after.writes state) places rows' within (bucket_below key) enough shape
    (record { lawful = put.lawful; other_rows = put.other_rows; moved = put.moved })

pub chain_removed : ChainRemoved
chain_removed table key before after state places rows' within enough shape removed =
    chain_shape before.size before.fixed table (bucket_of key) (overlay before.writes state)
    (overlay after.writes state) places rows' within (bucket_below key) enough shape
    (record { lawful = removed.lawful; other_rows = removed.other_rows; moved = removed.moved })
