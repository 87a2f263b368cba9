-- The chain once a pair is put.
use Rattle.std.proofs.Common.{◌≡◌, ◌≢◌, ◌⊎◌, ℕ, ◌+◌, ◌<◌, ◌≤◌, cond, List, [], ◌∷◌, ◌++◌, length, get_or, drop, Option, None, Some, All, Contains, refl, sym, ap, ◌∙◌, arith, subst, inl, inr}
use Rattle.std.specs.Prelude.{position, slice_set, IfSome, is_some, ◌==◌}
use Rattle.std.proofs.lemmas.Option.{none-some}
use Rattle.std.proofs.lemmas.List.{length-set, length_push, append-nil, take_at}
use Rattle.std.specs.List.{refill}
use Rattle.std.proofs.lemmas.List.Elements.{All-set, All-push, All-cons, All-nil, Contains-push_cases}
use Rattle.plain_data.specs.State.{State, Agrees, overlay}
use Rattle.record_store.specs.Meaning.{Meaning, value_at, with_value, after_write, after_fresh}
use Rattle.record_store.specs.Store.{IsFresh}
use Rattle.record_store.specs.Walks.{Extends, OnlyReads}
use Rattle.record_store.proofs.Values.{value_at-append}
use Rattle.record_store.proofs.Steps.{known_from_reads}
use Rattle.record_store.proofs.Agreement.{overlay-unwritten, agrees-value_at, written_after, given_same, writes_same, size_same, fixed_same, agrees-extends, extends-after_read}
use Rattle.hash_index.specs.declared.search.Link.{Link}
use Rattle.hash_index.specs.Node.{pairs_of, next_node, position_of, chain_node_words}
use Rattle.hash_index.specs.Chain.{Leads, IsChain, EachChain, row_pairs, record_at, bucket_of}
use Rattle.record_store.specs.Links.{records_of}
use Rattle.hash_index.specs.Changes.{Puts, IsPut, IsFull, NeedsNode}
use Rattle.hash_index.specs.Changes.Puts.{replaced, added, began, linked as links}
use Rattle.hash_index.specs.Answers.{PutsPair}
use Rattle.record_store.specs.States.{EachState}
use Rattle.hash_index.specs.Search.{RowReaches, InRow, AddsNode}
use Rattle.hash_index.proofs.Words.{pairs_of-chain_node_words, next_node-chain_node_words}
use Rattle.hash_index.proofs.Rows.{start_present}
use Rattle.hash_index.proofs.Chains.{row_at, not_in_row, empty_row, row_pairs-around, bucket_below}
use Rattle.hash_index.proofs.Walked.{few_pairs}
use Rattle.hash_index.proofs.Distinct.{changes_insert}
use Rattle.hash_index.proofs.Moved.{pairs_replaced, pairs_added, keyed_along, along}
use Rattle.hash_index.proofs.Joined.{IsNew, with_row, with_row-same, with_row-other}
use Rattle.hash_index.proofs.Reached.{put_records, spot_moved}
use Rattle.hash_index.proofs.Edits.{Edited, edited, edited_row, node_words, row_keyed, not_nil}
use Rattle.hash_index.proofs.Removed.{written_here, written_others, found_in_words, same_words}
use Rattle.hash_index.proofs.Linked.{linked}

-- the contract of one state, from the chain once its row changed
put_state : (base key rid : ℕ) (fresh : Option ℕ) (before after : Meaning) (state : State) (rows : ℕ → List (ℕ × List ℕ)) (row row' : List (ℕ × List ℕ)) → rows (bucket_of key) ≡ row → IsChain before.size base (overlay before.writes state) rows → Edited before.size base key (Some rid) (overlay before.writes state) (overlay after.writes state) rows row' → Puts (base + bucket_of key) key rid fresh row row' → IfSome fresh (λ new. (overlay before.writes state new ≡ None) × (before.fixed ≤ new)) → (rows' : ℕ → List (ℕ × List ℕ)) × IsPut base key rid fresh before after state rows rows'
put_state base key rid fresh before after state rows row row' joined chain done puts spare =
    let b = bucket_of key in
    let st : State = overlay before.writes state in
    let R : List (ℕ × List ℕ) → List (ℕ × List ℕ) → Type 0 = Puts (base + b) key rid fresh in
    let own_row : Puts (base + b) key rid fresh (rows b) (with_row rows b row' b) = subst (λ x. R x (with_row rows b row' b)) (sym joined) (subst (λ y. R row y) (sym (with_row-same rows b row')) puts) in (
      with_row rows b row',
      record {
        lawful = done.lawful;
        at_key = done.at_key;
        own_row = own_row;
        other_rows = λ other differs. with_row-other rows b other row' differs;
        moved = spot_moved before.size base before.fixed key fresh st (overlay after.writes state) rows (with_row rows b row') chain done.lawful (put_records (base + b) key rid fresh (rows b) (with_row rows b row' b) own_row) spare done.outside;
      },
    )

-- the key was found
found_state : (base key rid index : ℕ) (before after : Meaning) (state : State) (rows : ℕ → List (ℕ × List ℕ)) (link : Link) → rid < before.size → IsChain before.size base (overlay before.writes state) rows → RowReaches before.size (base + bucket_of key) key (overlay before.writes state) link → position (λ pair. pair.0 == key) (pairs_of link.words) ≡ Some index → after.writes ≡ with_value before.writes link.at (Some (chain_node_words (slice_set (pairs_of link.words) index (key, rid)) link.next link.position)) → (rows' : ℕ → List (ℕ × List ℕ)) × IsPut base key rid None before after state rows rows'
found_state base key rid index before after state rows link stored chain r is written =
    let st : State = overlay before.writes state in
    let b = bucket_of key in
    let at = row_at before.size (base + b) key st link (rows b) r (chain.walks b (bucket_below key)) in
    let found = found_in_words before.size (length r.before) key index st link r.words r.stands is in
    let pairs : List (ℕ × ℕ) = slice_set (pairs_of r.words) index (key, rid) in
    let words' : List ℕ = chain_node_words pairs (next_node r.words) (position_of r.words) in
    let whole : chain_node_words (slice_set (pairs_of link.words) index (key, rid)) link.next link.position ≡ words' =
    ap (λ ps. chain_node_words (slice_set ps index (key, rid)) link.next link.position) (ap pairs_of r.stands.held.words) ∙ same_words before.size (length r.before) st link r.words pairs r.stands in
    let writes : after.writes ≡ with_value before.writes link.at (Some words') = written ∙ ap (λ w. with_value before.writes link.at (Some w)) whole in
    let few = few_pairs before.size (length r.before) r.words r.stands.node in
    let done = edited before.size base key link.at (Some rid) st (overlay after.writes state) rows r.before at.after r.words pairs chain at.joined (omega (arith, length-set (pairs_of r.words) index (key, rid))) (All-set (λ pair. pair.1 < before.size) (pairs_of r.words) index (key, rid) stored r.stands.node.records)
    (ap (λ w. overlay w state link.at) writes ∙ written_here before.writes state link.at (Some words'))
    (λ other differs. ap (λ w. overlay w state other) writes ∙ written_others before.writes state link.at (Some words') other differs)
    (pairs_replaced b key found.rid rid index (row_pairs r.before) (pairs_of r.words) (row_pairs at.after) found.here refl (keyed_along b _ _ (ap row_pairs at.joined ∙ row_pairs-around r.before at.after link.at r.words) (row_keyed before.size base b st rows chain (bucket_below key)))) in
    put_state base key rid None before after state rows (r.before ++ (link.at, r.words) ∷ at.after) (r.before ++ (link.at, words') ∷ at.after) at.joined chain done (replaced r.before at.after (link.at, r.words) index found.rid found.here) tt

-- a node has room
room_state : (base key rid : ℕ) (before after : Meaning) (state : State) (rows : ℕ → List (ℕ × List ℕ)) (link : Link) → rid < before.size → IsChain before.size base (overlay before.writes state) rows → InRow before.size (base + bucket_of key) key (overlay before.writes state) link → length (pairs_of link.words) < 14 → after.writes ≡ with_value before.writes link.at (Some (chain_node_words ((pairs_of link.words) ++ (key, rid) ∷ []) link.next link.position)) → (rows' : ℕ → List (ℕ × List ℕ)) × IsPut base key rid None before after state rows rows'
room_state base key rid before after state rows link stored chain r room written =
    let st : State = overlay before.writes state in
    let b = bucket_of key in
    let joined = not_in_row before.size base key st rows link chain r in
    let pairs : List (ℕ × ℕ) = pairs_of r.words ++ (key, rid) ∷ [] in
    let words' : List ℕ = chain_node_words pairs (next_node r.words) (position_of r.words) in
    let whole : chain_node_words ((pairs_of link.words) ++ (key, rid) ∷ []) link.next link.position ≡ words' =
    ap (λ ps. chain_node_words (ps ++ (key, rid) ∷ []) link.next link.position) (ap pairs_of r.stands.held.words) ∙ same_words before.size (length r.before) st link r.words pairs r.stands in
    let writes : after.writes ≡ with_value before.writes link.at (Some words') = written ∙ ap (λ w. with_value before.writes link.at (Some w)) whole in
    let few : length (pairs_of r.words) < 14 = rw (← (ap pairs_of r.stands.held.words)) room in
    let around = row_pairs-around r.before r.after link.at r.words in
    let done = edited before.size base key link.at (Some rid) st (overlay after.writes state) rows r.before r.after r.words pairs chain joined (omega (arith, length_push (pairs_of r.words) (key, rid))) (All-push (λ pair. pair.1 < before.size) (pairs_of r.words) (key, rid) r.stands.node.records stored)
    (ap (λ w. overlay w state link.at) writes ∙ written_here before.writes state link.at (Some words'))
    (λ other differs. ap (λ w. overlay w state other) writes ∙ written_others before.writes state link.at (Some words') other differs)
    (pairs_added b key rid (row_pairs r.before) (pairs_of r.words) (row_pairs r.after) refl (keyed_along b _ _ (ap row_pairs joined ∙ around) (row_keyed before.size base b st rows chain (bucket_below key))) (ap (λ ps. record_at ps key) (sym around) ∙ r.not_there)) in
    put_state base key rid None before after state rows (r.before ++ (link.at, r.words) ∷ r.after) (r.before ++ (link.at, words') ∷ r.after) joined chain done (added r.before r.after (link.at, r.words) r.not_there r.full_before few) tt

-- the bucket was absent
began_row : (size base key rid : ℕ) (state state' : State) (rows : ℕ → List (ℕ × List ℕ)) → rid < size → 0 < size → IsChain size base state rows → state (base + bucket_of key) ≡ None → state' (base + bucket_of key) ≡ Some (chain_node_words ((key, rid) ∷ []) None 0) → ((other : ℕ) → other ≢ base + bucket_of key → state' other ≡ state other) → Edited size base key (Some rid) state state' rows ((base + bucket_of key, chain_node_words ((key, rid) ∷ []) None 0) ∷ [])
began_row size base key rid state state' rows stored some chain absent here others =
    let b = bucket_of key in
    let bucket : ℕ = base + b in
    let words' : List ℕ = chain_node_words ((key, rid) ∷ []) None 0 in
    let row' : List (ℕ × List ℕ) = (bucket, words') ∷ [] in
    let empty = empty_row size base key state rows chain absent in
    let node = node_words size 0 ((key, rid) ∷ []) None (omega arith) some tt (All-cons (λ pair. pair.1 < size) (key, rid) [] stored (All-nil (λ pair. pair.1 < size))) in
    let S : Option ℕ → Type 0 = λ o. Leads size state' 0 o row' None in
    let was : row_pairs (rows b) ≡ [] = ap row_pairs empty in
    let now : row_pairs row' ≡ (key, rid) ∷ [] = ap (λ ps. ps ++ []) (pairs_of-chain_node_words ((key, rid) ∷ []) None 0) in
    let changes = along b key (Some rid) _ _ _ _ was now (changes_insert b key rid [] [] refl (keyed_along b _ _ was (row_keyed size base b state rows chain (bucket_below key))) refl) in
    edited_row size base key (Some rid) state state' rows row' chain (record {
      leads = subst S (sym (start_present state' bucket words' here)) (refl, here, node, next_node-chain_node_words ((key, rid) ∷ []) None 0);
      keyed = changes.keyed;
      records = λ r there. elim (Contains-push_cases [] bucket r there) as (λ _. Contains (records_of (rows b)) r ⊎ IsNew base b state r) [
        | inl none ↦ absurd (omega arith)
        | inr same ↦ inr (record { absent = ap state (sym same) ∙ absent; no_bucket = λ other low differs is. differs (omega arith) })
      ];
      outside = λ r gone. others r (λ same. gone (rw same (0, omega arith, refl)));
    }) changes

empty_state_put : (base key rid : ℕ) (before after : Meaning) (state : State) (rows : ℕ → List (ℕ × List ℕ)) → rid < before.size → 0 < before.size → IsChain before.size base (overlay before.writes state) rows → overlay before.writes state (base + bucket_of key) ≡ None → after.writes ≡ with_value before.writes (base + bucket_of key) (Some (chain_node_words ((key, rid) ∷ []) None 0)) → (rows' : ℕ → List (ℕ × List ℕ)) × IsPut base key rid None before after state rows rows'
empty_state_put base key rid before after state rows stored some chain absent written =
    let st : State = overlay before.writes state in
    let bucket : ℕ = base + bucket_of key in
    let words' : List ℕ = chain_node_words ((key, rid) ∷ []) None 0 in
    let done = began_row before.size base key rid st (overlay after.writes state) rows stored some chain absent
    (ap (λ w. overlay w state bucket) written ∙ written_here before.writes state bucket (Some words'))
    (λ other differs. ap (λ w. overlay w state other) written ∙ written_others before.writes state bucket (Some words') other differs) in
    put_state base key rid None before after state rows [] ((bucket, words') ∷ []) (empty_row before.size base key st rows chain absent) chain done began tt

-- every node was full
full_state : (base key rid fresh : ℕ) (before after : Meaning) (state : State) (rows : ℕ → List (ℕ × List ℕ)) (last : Link) → rid < before.size → base + 511 ≤ fresh → before.fixed ≤ fresh → fresh < before.size → IsChain before.size base (overlay before.writes state) rows → (r : InRow before.size (base + bucket_of key) key (overlay before.writes state) last) → r.after ≡ [] → length (pairs_of last.words) ≡ 14 → overlay before.writes state fresh ≡ None → after.writes ≡ with_value (with_value before.writes fresh (Some (chain_node_words ((key, rid) ∷ []) None (last.position + 1)))) last.at (Some (chain_node_words (pairs_of last.words) (Some fresh) last.position)) → (rows' : ℕ → List (ℕ × List ℕ)) × IsPut base key rid (Some fresh) before after state rows rows'
full_state base key rid fresh before after state rows last stored outside spare within chain r ends full absent written =
    let st : State = overlay before.writes state in
    let st' : State = overlay after.writes state in
    let b = bucket_of key in
    let joined : rows b ≡ r.before ++ (last.at, r.words) ∷ [] = not_in_row before.size base key st rows last chain r ∙ ap (λ ns. r.before ++ (last.at, r.words) ∷ ns) ends in
    let not_there : record_at (row_pairs (rows b)) key ≡ None = ap (λ row. record_at (row_pairs row) key) (not_in_row before.size base key st rows last chain r) ∙ r.not_there in
    let new_words : List ℕ = chain_node_words ((key, rid) ∷ []) None (position_of r.words + 1) in
    let last_words : List ℕ = chain_node_words (pairs_of r.words) (Some fresh) (position_of r.words) in
    let new_same : chain_node_words ((key, rid) ∷ []) None (last.position + 1) ≡ new_words = ap (λ p. chain_node_words ((key, rid) ∷ []) None (p + 1)) r.stands.held.position in
    let last_same : chain_node_words (pairs_of last.words) (Some fresh) last.position ≡ last_words = ap (λ ps. chain_node_words ps (Some fresh) last.position) (ap pairs_of r.stands.held.words) ∙ ap (λ p. chain_node_words (pairs_of r.words) (Some fresh) p) r.stands.held.position in
    let writes : after.writes ≡ with_value (with_value before.writes fresh (Some new_words)) last.at (Some last_words) =
    written ∙ ap (λ w. with_value (with_value before.writes fresh (Some w)) last.at (Some (chain_node_words (pairs_of last.words) (Some fresh) last.position))) new_same ∙ ap (λ w. with_value (with_value before.writes fresh (Some new_words)) last.at (Some w)) last_same in
    let differs : fresh ≢ last.at = λ same. none-some r.words (sym absent ∙ ap st same ∙ r.stands.here) in
    let inner : List (ℕ × Option (List ℕ)) = with_value before.writes fresh (Some new_words) in
    let done = linked before.size base key rid last.at fresh st st' rows r.before r.words chain joined not_there absent outside within stored
    (ap (λ w. overlay w state fresh) writes ∙ written_others inner state last.at (Some last_words) fresh differs ∙ written_here before.writes state fresh (Some new_words))
    (ap (λ w. overlay w state last.at) writes ∙ written_here inner state last.at (Some last_words))
    (λ other not_last not_fresh. ap (λ w. overlay w state other) writes ∙ written_others inner state last.at (Some last_words) other not_last ∙ written_others before.writes state fresh (Some new_words) other not_fresh) in
    let all_full : All IsFull (r.before ++ (last.at, r.words) ∷ []) = All-push IsFull r.before (last.at, r.words) r.full_before (ap length (sym (ap pairs_of r.stands.held.words)) ∙ full) in
    put_state base key rid (Some fresh) before after state rows (r.before ++ (last.at, r.words) ∷ []) (r.before ++ (last.at, last_words) ∷ (fresh, new_words) ∷ []) joined chain done (links r.before (last.at, r.words) fresh (ap (λ row. record_at (row_pairs row) key) (sym joined) ∙ not_there) all_full) (absent, spare)

-- the contract, over each state
pub puts_found : (size base key rid index : ℕ) (before between after : Meaning) (link : Link) (pairs : List (ℕ × ℕ)) → size ≡ before.size → rid < before.size → OnlyReads before between → EachState before between (λ state. RowReaches size (base + bucket_of key) key state link) → position (λ pair. pair.0 == key) (pairs_of link.words) ≡ Some index → pairs ≡ slice_set (pairs_of link.words) index (key, rid) → after ≡ after_write between link.at (Some (chain_node_words pairs link.next link.position)) → PutsPair base key rid before after
puts_found size base key rid index before between after link pairs same stored only reaches is edit wrote =
    let one = written_after before between after link.at _ only wrote in
    record {
      fresh = None;
      given = one.given ∙ sym (append-nil before.given);
      is_fresh = tt;
      put = λ state rows agrees chain. found_state base key rid index before after state rows link stored chain (rw same at (reaches state (rw one.reads at agrees))) is (one.writes ∙ ap (λ ps. with_value before.writes link.at (Some (chain_node_words ps link.next link.position))) edit);
    }

pub puts_room : (size base key rid : ℕ) (before between after : Meaning) (link : Link) (pairs : List (ℕ × ℕ)) → size ≡ before.size → rid < before.size → OnlyReads before between → EachState before between (λ state. InRow size (base + bucket_of key) key state link) → length (pairs_of link.words) < 14 → pairs ≡ (pairs_of link.words) ++ (key, rid) ∷ [] → after ≡ after_write between link.at (Some (chain_node_words pairs link.next link.position)) → PutsPair base key rid before after
puts_room size base key rid before between after link pairs same stored only in_row room edit wrote =
    let one = written_after before between after link.at _ only wrote in
    record {
      fresh = None;
      given = one.given ∙ sym (append-nil before.given);
      is_fresh = tt;
      put = λ state rows agrees chain. room_state base key rid before after state rows link stored chain (rw same at (in_row state (rw one.reads at agrees))) room (one.writes ∙ ap (λ ps. with_value before.writes link.at (Some (chain_node_words ps link.next link.position))) edit);
    }

pub puts_empty : (size base key rid bucket : ℕ) (before between after : Meaning) (words : List ℕ) → size ≡ before.size → rid < before.size → OnlyReads before between → bucket ≡ base + bucket_of key → EachState before between (λ state. state (base + bucket_of key) ≡ None) → words ≡ chain_node_words ((key, rid) ∷ []) None 0 → after ≡ after_write between bucket (Some words) → PutsPair base key rid before after
puts_empty size base key rid bucket before between after words same stored only at absent form wrote =
    let one = written_after before between after bucket _ only wrote in
    record {
      fresh = None;
      given = one.given ∙ sym (append-nil before.given);
      is_fresh = tt;
      put = λ state rows agrees chain. empty_state_put base key rid before after state rows stored (omega arith) chain (absent state (rw one.reads at agrees)) (one.writes ∙ ap (λ b. with_value before.writes b (Some words)) at ∙ ap (λ ws. with_value before.writes (base + bucket_of key) (Some ws)) form);
    }

-- a new record of a later moment was new before
front_absent : (first : Option (Option (List ℕ))) (second : Option (Option (List ℕ))) → IfSome (cond (is_some first) first second) (λ value. value ≡ None) → IfSome first (λ value. value ≡ None)
front_absent None second holds = tt
front_absent (Some value) second holds = holds

pub fresh_before : (before between : Meaning) (fresh : ℕ) → OnlyReads before between → IsFresh between fresh → IsFresh before fresh
fresh_before before between fresh only is = record {
  new = rw (← fixed_same before between only) is.new;
  within = rw (← size_same before between only) is.within;
  not_given = λ there. is.not_given (rw (given_same before between only) there);
  not_written = ap (λ ws. value_at ws fresh) (sym (writes_same before between only)) ∙ is.not_written;
  absent = front_absent (value_at before.reads fresh) (value_at only.reads.0 fresh) (rw (ap (λ rs. value_at rs fresh) only.reads.1 ∙ value_at-append before.reads only.reads.0 fresh) at is.absent);
}

-- a new record is absent in each state that agrees once it was given
absent_now : (between : Meaning) (fresh : ℕ) (state : State) → IsFresh between fresh → Agrees state (after_fresh between fresh).reads → overlay between.writes state fresh ≡ None
absent_now between fresh state is agrees =
    overlay-unwritten between.writes state fresh is.not_written
    ∙ agrees-value_at (after_fresh between fresh).reads state fresh None agrees (rw is.not_written (known_from_reads between.reads fresh is.absent))

pub puts_full : (size base key rid : ℕ) (before between after : Meaning) (last : Link) → size ≡ before.size → rid < before.size → base + 511 ≤ before.fixed → OnlyReads before between → EachState before between (λ state. (row : InRow size (base + bucket_of key) key state last) × (row.after ≡ []) × (length (pairs_of last.words) ≡ 14)) → AddsNode key rid last between after → PutsPair base key rid before after
puts_full size base key rid before between after last same stored buckets only place adds =
    let is = fresh_before before between adds.fresh only adds.is_fresh in
    let reads : after.reads ≡ (after_fresh between adds.fresh).reads = ap (λ (m : Meaning). m.reads) adds.written in
    let writes = ap (λ (m : Meaning). m.writes) adds.written ∙ ap (λ ws. with_value (with_value ws adds.fresh (Some (chain_node_words ((key, rid) ∷ []) None (last.position + 1)))) last.at (Some (chain_node_words (pairs_of last.words) (Some adds.fresh) last.position))) (writes_same before between only) in
    record {
      fresh = Some adds.fresh;
      given = ap (λ (m : Meaning). m.given) adds.written ∙ ap (λ gs. gs ++ adds.fresh ∷ []) (given_same before between only);
      is_fresh = is;
      put = λ state rows agrees chain.
          let agrees_fresh = rw reads at agrees in
          let agrees_between = agrees-extends between.reads (after_fresh between adds.fresh).reads state (extends-after_read between adds.fresh None) agrees_fresh in
          let found = rw same at (place state agrees_between) in
          let absent = ap (λ ws. overlay ws state adds.fresh) (sym (writes_same before between only)) ∙ absent_now between adds.fresh state adds.is_fresh agrees_fresh in
          full_state base key rid adds.fresh before after state rows last stored (omega (arith, is.new)) is.new is.within chain found.0 found.1 found.2 absent writes;
    }

-- where a new node is needed
pub needs_node : (size base key : ℕ) (before between after : Meaning) (last : Link) → size ≡ before.size → Extends between.reads after.reads → EachState before between (λ state. (row : InRow size (base + bucket_of key) key state last) × (row.after ≡ []) × (length (pairs_of last.words) ≡ 14)) → EachChain base before after (λ _ rows. NeedsNode key rows)
needs_node size base key before between after last same more place = λ state rows agrees chain.
    let found = rw same at (place state (agrees-extends between.reads after.reads state more agrees)) in
    let r = found.0 in
    let joined = not_in_row before.size base key (overlay before.writes state) rows last chain r ∙ ap (λ ns. r.before ++ (last.at, r.words) ∷ ns) found.1 in
    record {
      not_there = ap (λ row. record_at (row_pairs row) key) (not_in_row before.size base key (overlay before.writes state) rows last chain r) ∙ r.not_there;
      present = λ none. not_nil r.before [] (last.at, r.words) (sym joined ∙ none);
      full = rw joined (All-push IsFull r.before (last.at, r.words) r.full_before (ap length (sym (ap pairs_of r.stands.held.words)) ∙ found.2));
    }

-- a pair whose record number is written over
pub edited_pairs : (items now : List (ℕ × ℕ)) (index key old rid : ℕ) → now ≡ items → get_or items index (0, 0) ≡ (key, old) → refill (length items) items (slice_set now index ((get_or now index (0, 0)).0, rid)) ≡ slice_set items index (key, rid)
edited_pairs items now index key old rid same at =
    let whole : List (ℕ × ℕ) = slice_set items index (key, rid) in
    ap (λ ps. refill (length items) items (slice_set ps index ((get_or ps index (0, 0)).0, rid))) same
    ∙ ap (λ (p : ℕ × ℕ). refill (length items) items (slice_set items index (p.0, rid))) at
    ∙ take_at whole (drop (length whole) items) (length items) (length-set items index (key, rid))
