-- The chain once a pair is removed.
use Rattle.std.proofs.Common.{◌≡◌, ◌≢◌, ℕ, ◌+◌, ◌-◌, ◌<◌, ◌≤◌, List, ◌∷◌, ◌++◌, length, get_or, set, Option, None, Some, refl, sym, ap, ◌∙◌, arith, subst, eq-eqb, ne_eqb}
use Rattle.std.specs.Prelude.{position, swap_remove, is_some, true, false, ◌==◌}
use Rattle.std.proofs.lemmas.List.{length-take, length-set, get_or_default}
use Rattle.plain_data.specs.State.{State, overlay}
use Rattle.record_store.specs.Meaning.{Meaning, with_value, after_write}
use Rattle.record_store.specs.Walks.{OnlyReads}
use Rattle.record_store.proofs.Agreement.{overlay-with_value, written_after, given_same, writes_same}
use Rattle.hash_index.specs.declared.search.Link.{Link}
use Rattle.hash_index.specs.Node.{pairs_of, next_node, position_of, chain_node_words}
use Rattle.hash_index.specs.Chain.{IsChain, EachChain, row_pairs, record_of, bucket_of}
use Rattle.hash_index.specs.Answers.{RemovesPair}
use Rattle.hash_index.specs.Changes.{Removes, IsRemoved}
use Rattle.hash_index.specs.Changes.Removes.{removed}
use Rattle.record_store.specs.States.{EachState}
use Rattle.hash_index.specs.Search.{LinkStands, RowReaches}
use Rattle.hash_index.proofs.Pairs.{FoundAt, position-found}
use Rattle.hash_index.proofs.Chains.{found_in, row_at, row_pairs-around, bucket_below}
use Rattle.hash_index.proofs.Walked.{few_pairs}
use Rattle.hash_index.proofs.Moved.{pairs_removed, all_swap_remove, keyed_along}
use Rattle.hash_index.proofs.Joined.{with_row, with_row-same, with_row-other}
use Rattle.hash_index.proofs.Edits.{edited, row_keyed}
use Rattle.hash_index.proofs.Reached.{removed_records, spot_moved}

-- a state with one record written over
pub written_here : (writes : List (ℕ × Option (List ℕ))) (state : State) (rid : ℕ) (value : Option (List ℕ)) → overlay (with_value writes rid value) state rid ≡ value
written_here writes state rid value = overlay-with_value writes state rid value rid ∙ rw (eq-eqb rid rid refl) refl

pub written_others : (writes : List (ℕ × Option (List ℕ))) (state : State) (rid : ℕ) (value : Option (List ℕ)) (other : ℕ) → other ≢ rid → overlay (with_value writes rid value) state other ≡ overlay writes state other
written_others writes state rid value other differs = overlay-with_value writes state rid value other ∙ rw (ne_eqb other rid differs) refl

pub found_in_words : (size place key index : ℕ) (state : State) (link : Link) (words : List ℕ) → LinkStands size place state link words → position (λ pair. pair.0 == key) (pairs_of link.words) ≡ Some index → FoundAt (pairs_of words) key index
found_in_words size place key index state link words stands is =
    let P : List (ℕ × ℕ) → Type 0 = λ ps. FoundAt ps key index in
    subst P (ap pairs_of stands.held.words) (position-found (pairs_of link.words) key index is)

-- what a node in memory writes, told of the words that it was read from
pub same_words : (size place : ℕ) (state : State) (link : Link) (words : List ℕ) (pairs : List (ℕ × ℕ)) → LinkStands size place state link words → chain_node_words pairs link.next link.position ≡ chain_node_words pairs (next_node words) (position_of words)
same_words size place state link words pairs stands = ap (λ n. chain_node_words pairs n link.position) stands.held.next ∙ ap (λ p. chain_node_words pairs (next_node words) p) stands.held.position

shorter : {X : Type 0} (xs : List X) (i : ℕ) (d : X) → length xs ≤ 14 → length (swap_remove xs i d) ≤ 14
shorter xs i d few = omega (arith, length-take (length xs - 1) (set xs i (get_or xs (length xs - 1) d)), length-set xs i (get_or xs (length xs - 1) d))

pub removed_in : (size base key index : ℕ) (before after : Meaning) (state : State) (rows : ℕ → List (ℕ × List ℕ)) (link : Link) (taken : ℕ × ℕ) → size ≡ before.size → IsChain before.size base (overlay before.writes state) rows → RowReaches size (base + bucket_of key) key (overlay before.writes state) link → position (λ pair. pair.0 == key) (pairs_of link.words) ≡ Some index → taken ≡ get_or (pairs_of link.words) index taken → after.writes ≡ with_value before.writes link.at (Some (chain_node_words (swap_remove (pairs_of link.words) index taken) link.next link.position)) → (rows' : ℕ → List (ℕ × List ℕ)) × IsRemoved base key before after state rows rows'
removed_in size base key index before after state rows link taken same chain' r is read written =
    let st : State = overlay before.writes state in
    let st' : State = overlay after.writes state in
    let chain : IsChain size base st rows = rw same chain' in
    let b = bucket_of key in
    let at = row_at size (base + b) key st link (rows b) r (chain.walks b (bucket_below key)) in
    let found = found_in_words size (length r.before) key index st link r.words r.stands is in
    let e : ℕ × ℕ = (key, found.rid) in
    let took : taken ≡ e = read ∙ ap (λ ps. get_or ps index taken) (ap pairs_of r.stands.held.words) ∙ get_or_default (pairs_of r.words) index taken (0, 0) found.within ∙ found.at_index in
    let pairs : List (ℕ × ℕ) = swap_remove (pairs_of r.words) index e in
    let words' : List ℕ = chain_node_words pairs (next_node r.words) (position_of r.words) in
    let whole : chain_node_words (swap_remove (pairs_of link.words) index taken) link.next link.position ≡ words' =
    ap (λ d. chain_node_words (swap_remove (pairs_of link.words) index d) link.next link.position) took
    ∙ ap (λ ps. chain_node_words (swap_remove ps index e) link.next link.position) (ap pairs_of r.stands.held.words)
    ∙ same_words size (length r.before) st link r.words pairs r.stands in
    let writes : after.writes ≡ with_value before.writes link.at (Some words') = written ∙ ap (λ w. with_value before.writes link.at (Some w)) whole in
    let few = few_pairs size (length r.before) r.words r.stands.node in
    let low : (get_or (pairs_of r.words) index (0, 0)).1 < size = r.stands.node.records index (0, 0) found.within in
    let holds : found.rid < size = rw (ap (λ (p : ℕ × ℕ). p.1) found.at_index) at low in
    let done = edited size base key link.at None st st' rows r.before at.after r.words pairs chain at.joined (shorter (pairs_of r.words) index e few) (all_swap_remove (λ pair. pair.1 < size) (pairs_of r.words) index e r.stands.node.records holds)
    (ap (λ w. overlay w state link.at) writes ∙ written_here before.writes state link.at (Some words'))
    (λ other differs. ap (λ w. overlay w state other) writes ∙ written_others before.writes state link.at (Some words') other differs)
    (pairs_removed b key found.rid index (row_pairs r.before) (pairs_of r.words) (row_pairs at.after) found.here (keyed_along b _ _ (ap row_pairs at.joined ∙ row_pairs-around r.before at.after link.at r.words) (row_keyed size base b st rows chain (bucket_below key)))) in
    let row' : List (ℕ × List ℕ) = r.before ++ (link.at, words') ∷ at.after in
    let R : List (ℕ × List ℕ) → List (ℕ × List ℕ) → Type 0 = Removes key in
    let own_row : Removes key (rows b) (with_row rows b row' b) = subst (λ x. R x (with_row rows b row' b)) (sym at.joined) (subst (λ y. R (r.before ++ (link.at, r.words) ∷ at.after) y) (sym (with_row-same rows b row')) (removed r.before at.after (link.at, r.words) index found.rid found.here)) in (
      with_row rows b row',
      record {
        lawful = rw (← same) done.lawful;
        at_key = done.at_key;
        own_row = own_row;
        other_rows = λ other differs. with_row-other rows b other row' differs;
        moved = spot_moved size base before.fixed key None st st' rows (with_row rows b row') chain done.lawful (removed_records (base + b) key (rows b) (with_row rows b row' b) own_row) tt done.outside;
      },
    )

-- the contract, over each state
pub removes_pair : (size base key index : ℕ) (before between after : Meaning) (link : Link) (taken : ℕ × ℕ) (pairs : List (ℕ × ℕ)) → size ≡ before.size → OnlyReads before between → EachState before between (λ state. RowReaches size (base + bucket_of key) key state link) → position (λ pair. pair.0 == key) (pairs_of link.words) ≡ Some index → taken ≡ get_or (pairs_of link.words) index taken → pairs ≡ swap_remove (pairs_of link.words) index taken → after ≡ after_write between link.at (Some (chain_node_words pairs link.next link.position)) → RemovesPair base key true before after
removes_pair size base key index before between after link taken pairs same only reaches is read edit wrote =
    let one = written_after before between after link.at _ only wrote in
    record {
      answer = λ state rows agrees chain. sym (ap is_some (found_in size base key index (overlay before.writes state) rows link (rw same chain) (reaches state (rw one.reads at agrees)) is));
      given = one.given;
      removed = λ _ state rows agrees chain. removed_in size base key index before after state rows link taken same chain (reaches state (rw one.reads at agrees)) is read (one.writes ∙ ap (λ ps. with_value before.writes link.at (Some (chain_node_words ps link.next link.position))) edit);
      unchanged = λ e. cc;
    }

pub removes_nothing : (base key : ℕ) (before after : Meaning) → OnlyReads before after → EachChain base before after (λ _ rows. record_of rows key ≡ None) → RemovesPair base key false before after
removes_nothing base key before after only absent = record {
  answer = λ state rows agrees chain. sym (ap is_some (absent state rows agrees chain));
  given = given_same before after only;
  removed = λ e. cc;
  unchanged = λ _. writes_same before after only;
}
