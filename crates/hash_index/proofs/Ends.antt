-- Where a search ends, the walk ends well.
use Rattle.std.proofs.Common.{◌≡◌, ℕ, ◌+◌, List, [], ◌∷◌, ◌++◌, length, Option, None, Some, sym, ap, ◌∙◌, arith, inl, inr}
use Rattle.std.specs.Prelude.{position, is_some, ◌==◌}
use Rattle.std.proofs.lemmas.List.{append-nil}
use Rattle.plain_data.specs.State.{State}
use Rattle.record_store.specs.Meaning.{Meaning, after_write}
use Rattle.record_store.specs.States.{EachState}
use Rattle.record_store.specs.Walks.{Extends}
use Rattle.record_store.proofs.States.{each_later}
use Rattle.hash_index.specs.declared.search.Link.{Link}
use Rattle.hash_index.specs.Node.{pairs_of, next_node}
use Rattle.hash_index.specs.Chain.{RowEndsWell, start_of, record_at, row_pairs}
use Rattle.hash_index.specs.Search.{RowReaches}
use Rattle.hash_index.proofs.Pairs.{position-found}
use Rattle.hash_index.proofs.Rows.{Leads-push}
use Rattle.hash_index.proofs.Walked.{at_place, beside_push}

-- at a node that has the key
pub ends_found : (size bucket key index : ℕ) (state : State) (link : Link) → RowReaches size bucket key state link → position (λ pair. pair.0 == key) (pairs_of link.words) ≡ Some index → RowEndsWell size bucket key state
ends_found size bucket key index state link r is =
    let passed : List (ℕ × List ℕ) = r.before ++ (link.at, r.words) ∷ [] in
    let found = position-found (pairs_of link.words) key index is in
    let here : record_at (row_pairs passed) key ≡ Some found.rid = beside_push r.before link.at key r.words r.not_before ∙ ap (λ ps. record_at ps key) (sym (ap pairs_of r.stands.held.words)) ∙ found.found in
    record {
      nodes = passed;
      to = next_node r.words;
      reached = Leads-push size state 0 (start_of state bucket) link.at r.words r.before r.reached r.stands.here (at_place size (length r.before) (0 + length r.before) r.words (omega arith) r.stands.node);
      ends = inr (ap is_some here);
    }

-- at a node that names no next one
pub ends_last : (size bucket key : ℕ) (state : State) (link : Link) → RowReaches size bucket key state link → link.next ≡ None → RowEndsWell size bucket key state
ends_last size bucket key state link r ends = record {
  nodes = r.before ++ (link.at, r.words) ∷ [];
  to = next_node r.words;
  reached = Leads-push size state 0 (start_of state bucket) link.at r.words r.before r.reached r.stands.here (at_place size (length r.before) (0 + length r.before) r.words (omega arith) r.stands.node);
  ends = inl (sym r.stands.held.next ∙ ends);
}

-- told of the later reads
pub walked_on : (size bucket key : ℕ) (before between after : Meaning) → size ≡ before.size → Extends between.reads after.reads → EachState before between (RowEndsWell size bucket key) → EachState before after (RowEndsWell before.size bucket key)
walked_on size bucket key before between after same more walked = each_later before between after (RowEndsWell before.size bucket key) more (rw (← same) walked)

pub walked_written : (size bucket key rid : ℕ) (value : Option (List ℕ)) (before between after : Meaning) → size ≡ before.size → EachState before between (RowEndsWell size bucket key) → after ≡ after_write between rid value → EachState before after (RowEndsWell before.size bucket key)
walked_written size bucket key rid value before between after same walked wrote = walked_on size bucket key before between after same ([], ap (λ (m : Meaning). m.reads) wrote ∙ sym (append-nil between.reads)) walked
