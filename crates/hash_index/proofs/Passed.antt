-- A search goes on from a node to the next record, over each state that agrees.
use Rattle.std.proofs.Common.{◌≡◌, ℕ, ◌+◌, Option, None, Some}
use Rattle.std.specs.Prelude.{position, ◌==◌}
use Rattle.plain_data.specs.State.{overlay}
use Rattle.record_store.specs.Meaning.{Meaning}
use Rattle.record_store.specs.Walks.{OnlyReads}
use Rattle.hash_index.specs.declared.search.Link.{Link}
use Rattle.hash_index.specs.Node.{pairs_of}
use Rattle.hash_index.specs.Chain.{RowTears}
use Rattle.record_store.specs.States.{EachState}
use Rattle.hash_index.specs.Search.{ReadsLink, IsNoLink, first_room}
use Rattle.record_store.proofs.States.{each_behind, each_grown}
use Rattle.hash_index.proofs.Walked.{Walked, walk_steps, walk_tears, unfit, absent_unfit}

pub each_tears : (first before after : Meaning) (size bucket key next rid : ℕ) (room : Option Link) (here : Link) → OnlyReads first before → OnlyReads before after → EachState first before (λ state. Walked size bucket key state room here) → position (λ pair. pair.0 == key) (pairs_of here.words) ≡ None → here.next ≡ Some next → rid ≡ next → EachState before after (λ state. IsNoLink size (here.position + 1) state next) → EachState first after (λ state. RowTears size bucket key state rid)
each_tears first before after size bucket key next rid room here earlier later walked absent names same torn = λ state agrees.
    let so_far = each_grown first before after (λ s. Walked size bucket key s room here) later walked state agrees in
    let no_node = each_behind first before after (λ s. IsNoLink size (here.position + 1) s next) earlier torn state agrees in
    rw same (walk_tears size bucket key next _ room here so_far absent names (unfit size (here.position + 1) next (overlay first.writes state) no_node))

pub each_absent : (first before after : Meaning) (size bucket key next : ℕ) (room : Option Link) (here : Link) (read : Option Link) → OnlyReads first before → OnlyReads before after → EachState first before (λ state. Walked size bucket key state room here) → position (λ pair. pair.0 == key) (pairs_of here.words) ≡ None → here.next ≡ Some next → read ≡ None → EachState before after (λ state. ReadsLink size next (here.position + 1) state read) → EachState first after (λ state. RowTears size bucket key state next)
each_absent first before after size bucket key next room here read earlier later walked absent names none no_words = λ state agrees.
    let so_far = each_grown first before after (λ s. Walked size bucket key s room here) later walked state agrees in
    let no_record = rw none at (each_behind first before after (λ s. ReadsLink size next (here.position + 1) s read) earlier no_words state agrees) in
    walk_tears size bucket key next _ room here so_far absent names (absent_unfit size (here.position + 1) next (overlay first.writes state) no_record)

pub each_steps : (first before after : Meaning) (size bucket key next : ℕ) (room : Option Link) (here link : Link) (read : Option Link) → OnlyReads first before → OnlyReads before after → EachState first before (λ state. Walked size bucket key state room here) → position (λ pair. pair.0 == key) (pairs_of here.words) ≡ None → here.next ≡ Some next → link.at ≡ next → read ≡ Some link → EachState before after (λ state. ReadsLink size next (here.position + 1) state read) → EachState first after (λ state. Walked size bucket key state (first_room room here) link)
each_steps first before after size bucket key next room here link read earlier later walked absent names at some read_as = λ state agrees.
    let so_far = each_grown first before after (λ s. Walked size bucket key s room here) later walked state agrees in
    let found = rw some at (each_behind first before after (λ s. ReadsLink size next (here.position + 1) s read) earlier read_as state agrees) in
    walk_steps size bucket key next _ room here link found.0 so_far absent names at found.1
