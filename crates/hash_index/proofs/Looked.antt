-- How far a look has come, and what it tells of a lawful chain.
use Rattle.std.proofs.Common.{◌≡◌, ◌≢◌, ℕ, ◌+◌, List, [], ◌∷◌, ◌++◌, length, Option, None, Some, true, cond, refl, sym, ap, ◌∙◌, ◌⊎◌, inl, inr, arith}
use Rattle.std.specs.Prelude.{IsSome, is_some}
use Rattle.std.proofs.lemmas.List.{append-nil, length_push}
use Rattle.std.proofs.lemmas.Option.{same_Some}
use Rattle.plain_data.specs.State.{State}
use Rattle.record_store.specs.Meaning.{Meaning, after_read, known}
use Rattle.record_store.specs.States.{EachState}
use Rattle.record_store.specs.Walks.{OnlyReads}
use Rattle.record_store.proofs.Agreement.{OnlyReads-after_read, answered}
use Rattle.record_store.proofs.States.{each_behind, each_grown}
use Rattle.hash_index.specs.declared.looking.Seen.{Seen}
use Rattle.hash_index.specs.declared.looking.Seen.TheVariants.{Found, Next, End}
use Rattle.hash_index.specs.Node.{IsNode, pairs_of, next_node}
use Rattle.hash_index.specs.Chain.{IsChain, Leads, RowTears, bucket_of, record_at, record_of, row_pairs, start_of}
use Rattle.hash_index.specs.Looking.{IsSeen, RowAnswers}
use Rattle.hash_index.proofs.Pairs.{record_at-append}
use Rattle.hash_index.proofs.Rows.{Leads-at, Leads-follow, Leads-push, row_pairs-append, start_absent, start_present}
use Rattle.hash_index.proofs.Chains.{bucket_below, nothing_behind}
use Rattle.hash_index.proofs.Walked.{Leads-to, absent_unfit, at_place, beside_push, not_there_push, unfit}
use Rattle.hash_index.proofs.Seen.{from_end, from_found, from_next}

-- so many nodes lead from the bucket to this record, be it present or not, and none of them has the key
pub record Looked (size bucket key position at : ℕ) (state : State) : Type 0 where
  pub nodes : List (ℕ × List ℕ)
  pub reached : Leads size state 0 (Some bucket) nodes (Some at)
  pub long : length nodes ≡ position
  pub not_there : record_at (row_pairs nodes) key ≡ None

-- the look begins at the bucket
pub look_begins : (size bucket key : ℕ) (state : State) → Looked size bucket key 0 bucket state
look_begins size bucket key state = record { nodes = []; reached = refl; long = refl; not_there = refl }

-- a bucket behind which a node was passed is present, and begins its row
begun : (size bucket : ℕ) (state : State) (to : Option ℕ) (node : ℕ × List ℕ) (nodes : List (ℕ × List ℕ)) → Leads size state 0 (Some bucket) (node ∷ nodes) to → Leads size state 0 (start_of state bucket) (node ∷ nodes) to
begun size bucket state to node nodes leads = Leads-at size state 0 0 (Some bucket) (start_of state bucket) to (node ∷ nodes) refl (sym (start_present state bucket node.1 (ap state (same_Some bucket node.0 leads.0) ∙ leads.1))) leads

-- and so does one that leads to a present record
leads_there : (size bucket at : ℕ) (state : State) (words : List ℕ) (nodes : List (ℕ × List ℕ)) → state at ≡ Some words → Leads size state 0 (Some bucket) nodes (Some at) → Leads size state 0 (start_of state bucket) nodes (Some at)
leads_there size bucket at state words [] here leads = start_present state bucket words (ap state (same_Some bucket at leads) ∙ here) ∙ leads
leads_there size bucket at state words (node ∷ nodes) here leads = begun size bucket state (Some at) node nodes leads

tears_behind : (size bucket key at : ℕ) (state : State) (nodes : List (ℕ × List ℕ)) → Leads size state 0 (Some bucket) nodes (Some at) → length nodes ≢ 0 → record_at (row_pairs nodes) key ≡ None → state at ≡ None → RowTears size bucket key state at
tears_behind size bucket key at state [] reached behind not_there absent = absurd (behind refl)
tears_behind size bucket key at state (node ∷ nodes) reached behind not_there absent = record {
  nodes = node ∷ nodes;
  reached = begun size bucket state (Some at) node nodes reached;
  no_node = absent_unfit size (length (node ∷ nodes)) at state absent;
  not_before = not_there;
}

ends_empty : (size bucket key at : ℕ) (state : State) (nodes : List (ℕ × List ℕ)) → Leads size state 0 (Some bucket) nodes (Some at) → length nodes ≡ 0 → state at ≡ None → RowAnswers size bucket key state None
ends_empty size bucket key at state [] reached long absent = record {
  row = record { nodes = []; to = None; reached = start_absent state bucket (ap state (same_Some bucket at reached) ∙ absent); ends = inl refl };
  beside = refl;
}
ends_empty size bucket key at state (node ∷ nodes) reached long absent = cc

module _ {size bucket key position at : ℕ} {state : State} (looked : Looked size bucket key position at state) where
  -- the record is absent: the bucket, or behind a node
  pub look_at_none : position ≡ 0 → state at ≡ None → RowAnswers size bucket key state None
  look_at_none first = ends_empty size bucket key at state looked.nodes looked.reached (looked.long ∙ first)

  pub look_misses : position ≢ 0 → state at ≡ None → RowTears size bucket key state at
  look_misses behind = tears_behind size bucket key at state looked.nodes looked.reached (λ none. behind (sym looked.long ∙ none)) looked.not_there

  -- it is no node at its place
  pub look_tears : (words : List ℕ) → state at ≡ Some words → (IsNode size position words → ⊥) → RowTears size bucket key state at
  look_tears words here torn = record {
    nodes = looked.nodes;
    reached = leads_there size bucket at state words looked.nodes here looked.reached;
    no_node = λ words' here' node. unfit size position at state (words, here, torn) words' here' (at_place size (length looked.nodes) position words' looked.long node);
    not_before = looked.not_there;
  }

  -- one node more
  passed : (from : Option ℕ) (words : List ℕ) → Leads size state 0 from looked.nodes (Some at) → state at ≡ Some words → IsNode size position words → Leads size state 0 from (looked.nodes ++ (at, words) ∷ []) (next_node words)
  passed from words reached here node = Leads-push size state 0 from at words looked.nodes reached here (at_place size position (0 + length looked.nodes) words (omega (arith, looked.long)) node)

  -- the look goes on at the next node
  pub look_steps : {next : ℕ} {seen : Seen} (words : List ℕ) → state at ≡ Some words → seen ≡ Next next → IsSeen size position key words seen → Looked size bucket key (position + 1) next state
  look_steps {next} words here same is =
      let goes = from_next (record_at (pairs_of words) key) (next_node words) next (sym same ∙ is.says) in
      record {
        nodes = looked.nodes ++ (at, words) ∷ [];
        reached = Leads-to size state 0 (Some bucket) (next_node words) (Some next) (looked.nodes ++ (at, words) ∷ []) goes.1 (passed (Some bucket) words looked.reached here is.node);
        long = omega (arith, length_push looked.nodes (at, words), looked.long);
        not_there = not_there_push looked.nodes at key words looked.not_there goes.0;
      }

  -- it ends where a node has the key, or at the last node
  answers : (words : List ℕ) (answer : Option ℕ) → state at ≡ Some words → IsNode size position words → record_at (pairs_of words) key ≡ answer → (next_node words ≡ None) ⊎ IsSome answer → RowAnswers size bucket key state answer
  answers words answer here node says ends =
      let beside = beside_push looked.nodes at key words looked.not_there ∙ says in
      record {
        row = record {
          nodes = looked.nodes ++ (at, words) ∷ [];
          to = next_node words;
          reached = passed (start_of state bucket) words (leads_there size bucket at state words looked.nodes here looked.reached) here node;
          ends = rw beside ends;
        };
        beside = sym beside;
      }

  pub look_finds : {rid : ℕ} {seen : Seen} (words : List ℕ) → state at ≡ Some words → seen ≡ Found rid → IsSeen size position key words seen → RowAnswers size bucket key state (Some rid)
  look_finds {rid} words here same is = answers words (Some rid) here is.node (from_found (record_at (pairs_of words) key) (next_node words) rid (sym same ∙ is.says)) (inr refl)

  pub look_ends : {seen : Seen} (words : List ℕ) → state at ≡ Some words → seen ≡ End → IsSeen size position key words seen → RowAnswers size bucket key state None
  look_ends words here same is = let ends = from_end (record_at (pairs_of words) key) (next_node words) (sym same ∙ is.says) in answers words None here is.node ends.0 (inl ends.1)

-- ---- over each state that agrees

-- the record was read
pub each_read : {first before after : Meaning} {size bucket key position at : ℕ} {value : Option (List ℕ)} → OnlyReads first before → after ≡ after_read before at value → known after at ≡ Some value → EachState first before (Looked size bucket key position at) → EachState first after (λ state. Looked size bucket key position at state × (state at ≡ value))
each_read {first} {before} {after} {size} {bucket} {key} {position} {at} {value} earlier is answer looked = λ state agrees. (
  each_grown first before after (Looked size bucket key position at) (OnlyReads-after_read before after at value is) looked state agrees,
  each_behind first before after (λ s. s at ≡ value) earlier (answered before after at value is answer) state agrees,
)

-- ---- of a lawful chain

first_counts : (first later : Option ℕ) → is_some first ≡ true → cond (is_some first) first later ≡ first
first_counts None later some = cc
first_counts (Some rid) later some = refl

-- what stands behind the nodes of a walk that ended well is not asked
not_asked : (size position key : ℕ) (state : State) (to : Option ℕ) (nodes rest : List (ℕ × List ℕ)) → (to ≡ None) ⊎ IsSome (record_at (row_pairs nodes) key) → Leads size state position to rest None → record_at (row_pairs (nodes ++ rest)) key ≡ record_at (row_pairs nodes) key
not_asked size position key state to nodes rest ends leads = elim ends as (λ _. record_at (row_pairs (nodes ++ rest)) key ≡ record_at (row_pairs nodes) key) [
  | inl none ↦
      let nothing = nothing_behind size state position rest (Leads-at size state position position to None None rest refl none leads) in
      ap (λ more. record_at (row_pairs (nodes ++ more)) key) nothing ∙ ap (λ row. record_at (row_pairs row) key) (append-nil nodes)
  | inr some ↦
      ap (λ ps. record_at ps key) (row_pairs-append nodes rest)
      ∙ record_at-append (row_pairs nodes) (row_pairs rest) key
      ∙ first_counts (record_at (row_pairs nodes) key) (record_at (row_pairs rest) key) some
]

-- the answer is what the chain has beside the key
pub chain_answers : (size base key : ℕ) (state : State) (rows : ℕ → List (ℕ × List ℕ)) (answer : Option ℕ) → IsChain size base state rows → RowAnswers size (base + bucket_of key) key state answer → answer ≡ record_of rows key
chain_answers size base key state rows answer chain is =
    let row = is.row in
    let follows = Leads-follow size state 0 (start_of state (base + bucket_of key)) row.to row.nodes (rows (bucket_of key)) row.reached (chain.walks (bucket_of key) (bucket_below key)) in
    is.beside
    ∙ sym (not_asked size (0 + length row.nodes) key state row.to row.nodes follows.rest row.ends follows.leads)
    ∙ ap (λ r. record_at (row_pairs r) key) (sym follows.joined)
