use Rattle.std.proofs.Common.{◌≡◌, ℕ, List, [], ◌∷◌, ◌++◌, get_or, None, ap, ◌∙◌, arith}
use Rattle.std.specs.Prelude.{slice_set}
use Rattle.record_store.proofs.Refusals.{torn_moved, IfTorn-map, OnOk-map}
use Rattle.record_store.proofs.Known.{few-reads, few-behind, few-tried, tries, known-reads, known-found, known-fixed}
use Rattle.hash_index.specs.Node.{pairs_of, chain_node_words}
use Rattle.hash_index.proofs.Pairs.{position-found}
use Rattle.hash_index.proofs.Chains.{bucket_below, is_torn}
use Rattle.hash_index.proofs.Stored.{puts_found, puts_room, puts_empty, puts_full, needs_node, edited_pairs}
use Rattle.hash_index.proofs.Ends.{walked_on, walked_written}
use Rattle.hash_index.proofs.Asked.{never_ok, asked_none, asked_one}
use Rattle.record_store.proofs.Agreement.{written_as}
use Rattle.record_store.proofs.Going.{reads_moved, calls_reads, calls_behind}
use Rattle.hash_index.proofs.index.put.Goals as goal

pub returns-in_err-link-clause-torn : goal.returns-in_err-link-clause-torn
returns-in_err-link-clause-torn g c =
    torn_moved c.from_residual.result c.search.result c.in_err-link.field-0.0 _ c.in_err-link.was c.from_residual.ensures.1
    (IfTorn-map c.search.result (λ rid. is_torn c.args.base c.args.key c.size-size.result rid _ _ c.size-size.ensures.size) c.search.ensures.torn)

-- the key is there
pub returns-in-Found-clause-ok : goal.returns-in-Found-clause-ok
returns-in-Found-clause-ok g c =
    let within = rw c.in-Found.is at c.in_ok-link.ensures.within in
    let found = position-found (pairs_of c.in-Found.link.words) c.args.key c.in-Found.index within.1 in
    let items : List (ℕ × ℕ) = c.all_pairs-pairs.result.items in
    let at : get_or items c.in-Found.index (0, 0) ≡ (c.args.key, found.rid) = ap (λ ps. get_or ps c.in-Found.index (0, 0)) c.all_pairs-pairs.ensures ∙ found.at_index in
    OnOk-map c.write_node.result (λ wrote. puts_found c.size-size.result c.args.base c.args.key c.args.rid c.in-Found.index (g.S.RecordRead.meaning c.args.store.now) (g.S.RecordRead.meaning c.search.new.store) (g.S.RecordRead.meaning c.write_node.new.store) c.in-Found.link _
    c.size-size.ensures.size c.requires.rid c.in_ok-link.ensures.walk.by.only (λ state agrees. rw c.in-Found.is at (c.in_ok-link.ensures.place state agrees)) within.1
    (edited_pairs items c.deref_mut.result.now c.in-Found.index c.args.key found.rid c.args.rid c.deref_mut.ensures.value at ∙ ap (λ ps. slice_set ps c.in-Found.index (c.args.key, c.args.rid)) c.all_pairs-pairs.ensures) (written_as (g.S.RecordRead.meaning c.search.new.store) c.in-Found.link.at c.node_cells-cells.ensures wrote)) c.write_node.ensures.ok

-- a node has room
pub returns-in-Room-clause-ok : goal.returns-in-Room-clause-ok
returns-in-Room-clause-ok g c =
    let within = rw c.in-Room.is at c.in_ok-link.ensures.within in
    OnOk-map c.write_node-in-Room.result (λ wrote. puts_room c.size-size.result c.args.base c.args.key c.args.rid (g.S.RecordRead.meaning c.args.store.now) (g.S.RecordRead.meaning c.search.new.store) (g.S.RecordRead.meaning c.write_node-in-Room.new.store) c.in-Room.link c.push.new.self.items
    c.size-size.ensures.size c.requires.rid c.in_ok-link.ensures.walk.by.only (λ state agrees. rw c.in-Room.is at (c.in_ok-link.ensures.place state agrees)) within.has_room (c.push.ensures.items ∙ ap (λ ps. ps ++ (c.args.key, c.args.rid) ∷ []) c.all_pairs-pairs-in-Room.ensures) (written_as (g.S.RecordRead.meaning c.search.new.store) c.in-Room.link.at c.node_cells-cells-in-Room.ensures wrote)) c.write_node-in-Room.ensures.ok

-- every node is full
pub returns-in-Full-clause-ok : goal.returns-in-Full-clause-ok
returns-in-Full-clause-ok g c =
    OnOk-map c.add_node.result (λ adds. puts_full c.size-size.result c.args.base c.args.key c.args.rid (g.S.RecordRead.meaning c.args.store.now) (g.S.RecordRead.meaning c.search.new.store) (g.S.RecordRead.meaning c.add_node.new.store) c.in-Full.link
    c.size-size.ensures.size c.requires.rid c.requires.buckets c.in_ok-link.ensures.walk.by.only (λ state agrees. rw c.in-Full.is at (c.in_ok-link.ensures.place state agrees)) adds) c.add_node.ensures.ok

-- the bucket is absent
pub returns-in-Empty-clause-ok : goal.returns-in-Empty-clause-ok
returns-in-Empty-clause-ok g c =
    let within = rw c.in-Empty.is at c.in_ok-link.ensures.within in
    OnOk-map c.write_node-in-Empty.result (λ wrote. puts_empty c.size-size.result c.args.base c.args.key c.args.rid c.in-Empty.bucket (g.S.RecordRead.meaning c.args.store.now) (g.S.RecordRead.meaning c.search.new.store) (g.S.RecordRead.meaning c.write_node-in-Empty.new.store) _
    c.size-size.ensures.size c.requires.rid c.in_ok-link.ensures.walk.by.only within (λ state agrees. rw c.in-Empty.is at (c.in_ok-link.ensures.place state agrees)) (c.node_cells-cells-in-Empty.ensures ∙ ap (λ ps. chain_node_words ps None 0) c.one_pair.ensures) wrote) c.write_node-in-Empty.ensures.ok

-- the walk ended well
pub returns-in-Found-clause-walked : goal.returns-in-Found-clause-walked
returns-in-Found-clause-walked g c = OnOk-map c.write_node.result (walked_written c.size-size.result _ c.args.key _ _ (g.S.RecordRead.meaning c.args.store.now) (g.S.RecordRead.meaning c.search.new.store) (g.S.RecordRead.meaning c.write_node.new.store) c.size-size.ensures.size c.in_ok-link.ensures.walked) c.write_node.ensures.ok

pub returns-in-Room-clause-walked : goal.returns-in-Room-clause-walked
returns-in-Room-clause-walked g c = OnOk-map c.write_node-in-Room.result (walked_written c.size-size.result _ c.args.key _ _ (g.S.RecordRead.meaning c.args.store.now) (g.S.RecordRead.meaning c.search.new.store) (g.S.RecordRead.meaning c.write_node-in-Room.new.store) c.size-size.ensures.size c.in_ok-link.ensures.walked) c.write_node-in-Room.ensures.ok

pub returns-in-Full-clause-walked : goal.returns-in-Full-clause-walked
returns-in-Full-clause-walked g c = OnOk-map c.add_node.result (λ _. walked_on c.size-size.result _ c.args.key (g.S.RecordRead.meaning c.args.store.now) (g.S.RecordRead.meaning c.search.new.store) (g.S.RecordRead.meaning c.add_node.new.store) c.size-size.ensures.size c.add_node.ensures.walk.by.grow.reads c.in_ok-link.ensures.walked) c.add_node.ensures.ok

pub returns-in-Empty-clause-walked : goal.returns-in-Empty-clause-walked
returns-in-Empty-clause-walked g c = OnOk-map c.write_node-in-Empty.result (walked_written c.size-size.result _ c.args.key _ _ (g.S.RecordRead.meaning c.args.store.now) (g.S.RecordRead.meaning c.search.new.store) (g.S.RecordRead.meaning c.write_node-in-Empty.new.store) c.size-size.ensures.size c.in_ok-link.ensures.walked) c.write_node-in-Empty.ensures.ok

-- what is written
pub returns-in-Found-clause-writes : goal.returns-in-Found-clause-writes
returns-in-Found-clause-writes g c =
    let tried = (tries c.write_node.result (g.S.RecordRead.meaning c.search.new.store) (g.S.RecordRead.meaning c.write_node.new.store) c.in-Found.link.at _ c.write_node.ensures.ok c.write_node.ensures.err) in
    known-found 0 (g.S.RecordRead.meaning c.args.store.now) (g.S.RecordRead.meaning c.search.new.store) (g.S.RecordRead.meaning c.write_node.new.store) c.in-Found.link.at c.in_ok-link.ensures.walk.by.only tried.reads tried.given tried.only (λ state agrees. (let here = rw c.in-Found.is at (c.in_ok-link.ensures.place state agrees) in (here.words, here.stands.here)))

pub returns-in-Room-clause-writes : goal.returns-in-Room-clause-writes
returns-in-Room-clause-writes g c =
    let tried = (tries c.write_node-in-Room.result (g.S.RecordRead.meaning c.search.new.store) (g.S.RecordRead.meaning c.write_node-in-Room.new.store) c.in-Room.link.at _ c.write_node-in-Room.ensures.ok c.write_node-in-Room.ensures.err) in
    known-found 0 (g.S.RecordRead.meaning c.args.store.now) (g.S.RecordRead.meaning c.search.new.store) (g.S.RecordRead.meaning c.write_node-in-Room.new.store) c.in-Room.link.at c.in_ok-link.ensures.walk.by.only tried.reads tried.given tried.only (λ state agrees. (let here = rw c.in-Room.is at (c.in_ok-link.ensures.place state agrees) in (here.words, here.stands.here)))

pub returns-in-Full-clause-writes : goal.returns-in-Full-clause-writes
returns-in-Full-clause-writes g c =
    known-found 1 (g.S.RecordRead.meaning c.args.store.now) (g.S.RecordRead.meaning c.search.new.store) (g.S.RecordRead.meaning c.add_node.new.store) c.in-Full.link.at c.in_ok-link.ensures.walk.by.only c.add_node.ensures.walk.by.grow.reads c.add_node.ensures.walk.by.given c.add_node.ensures.writes (λ state agrees. (let here = rw c.in-Full.is at (c.in_ok-link.ensures.place state agrees) in (here.0.words, here.0.stands.here)))

pub returns-in-Empty-clause-writes : goal.returns-in-Empty-clause-writes
returns-in-Empty-clause-writes g c =
    let within = rw c.in-Empty.is at c.in_ok-link.ensures.within in
    let tried = (tries c.write_node-in-Empty.result (g.S.RecordRead.meaning c.search.new.store) (g.S.RecordRead.meaning c.write_node-in-Empty.new.store) c.in-Empty.bucket _ c.write_node-in-Empty.ensures.ok c.write_node-in-Empty.ensures.err) in
    known-fixed 0 (g.S.RecordRead.meaning c.args.store.now) (g.S.RecordRead.meaning c.search.new.store) (g.S.RecordRead.meaning c.write_node-in-Empty.new.store) c.in-Empty.bucket c.in_ok-link.ensures.walk.by.only tried.reads tried.given tried.only (let below = bucket_below c.args.key in omega (arith, within, below, c.requires.buckets))

pub returns-in_err-link-clause-writes : goal.returns-in_err-link-clause-writes
returns-in_err-link-clause-writes g c = known-reads (g.S.RecordRead.meaning c.args.store.now) (g.S.RecordRead.meaning c.search.new.store) c.search.ensures.walk.by.only

-- how the walk went
pub returns-in_err-link-clause-walk : goal.returns-in_err-link-clause-walk
returns-in_err-link-clause-walk g c = record {
  asked = 0;
  walk = calls_reads _ c.args.store.now c.search.new.store c.from_residual.result (reads_moved c.args.store.now c.search.new.store c.from_residual.result c.search.result c.in_err-link.field-0.0 c.in_err-link.was c.from_residual.ensures.1 c.search.ensures.walk);
  asks = record { may = λ asked. absurd (omega arith); exact = never_ok c.from_residual.result _ _ c.from_residual.ensures.1; few = few-reads 1 (g.S.RecordRead.meaning c.args.store.now) (g.S.RecordRead.meaning c.search.new.store) c.search.ensures.walk.by.only };
}

pub returns-in-Found-clause-walk : goal.returns-in-Found-clause-walk
returns-in-Found-clause-walk g c = record {
  asked = 0;
  walk = calls_behind _ 0 c.args.store.now c.search.new.store c.write_node.new.store c.search.result c.write_node.result c.search.ensures.walk c.write_node.ensures.walk (λ asks never. absurd never);
  asks = record {
    may = λ asked. absurd (omega arith);
    exact = OnOk-map c.write_node.result (asked_none (g.S.RecordRead.meaning c.args.store.now) (g.S.RecordRead.meaning c.search.new.store) (g.S.RecordRead.meaning c.write_node.new.store) _ _ c.in_ok-link.ensures.walk.by.only) c.write_node.ensures.ok;
    few = few-tried (g.S.RecordRead.meaning c.args.store.now) (g.S.RecordRead.meaning c.search.new.store) (g.S.RecordRead.meaning c.write_node.new.store) c.in-Found.link.at c.in_ok-link.ensures.walk.by.only (tries c.write_node.result (g.S.RecordRead.meaning c.search.new.store) (g.S.RecordRead.meaning c.write_node.new.store) c.in-Found.link.at _ c.write_node.ensures.ok c.write_node.ensures.err);
  };
}

pub returns-in-Room-clause-walk : goal.returns-in-Room-clause-walk
returns-in-Room-clause-walk g c = record {
  asked = 0;
  walk = calls_behind _ 0 c.args.store.now c.search.new.store c.write_node-in-Room.new.store c.search.result c.write_node-in-Room.result c.search.ensures.walk c.write_node-in-Room.ensures.walk (λ asks never. absurd never);
  asks = record {
    may = λ asked. absurd (omega arith);
    exact = OnOk-map c.write_node-in-Room.result (asked_none (g.S.RecordRead.meaning c.args.store.now) (g.S.RecordRead.meaning c.search.new.store) (g.S.RecordRead.meaning c.write_node-in-Room.new.store) _ _ c.in_ok-link.ensures.walk.by.only) c.write_node-in-Room.ensures.ok;
    few = few-tried (g.S.RecordRead.meaning c.args.store.now) (g.S.RecordRead.meaning c.search.new.store) (g.S.RecordRead.meaning c.write_node-in-Room.new.store) c.in-Room.link.at c.in_ok-link.ensures.walk.by.only (tries c.write_node-in-Room.result (g.S.RecordRead.meaning c.search.new.store) (g.S.RecordRead.meaning c.write_node-in-Room.new.store) c.in-Room.link.at _ c.write_node-in-Room.ensures.ok c.write_node-in-Room.ensures.err);
  };
}

pub returns-in-Empty-clause-walk : goal.returns-in-Empty-clause-walk
returns-in-Empty-clause-walk g c = record {
  asked = 0;
  walk = calls_behind _ 0 c.args.store.now c.search.new.store c.write_node-in-Empty.new.store c.search.result c.write_node-in-Empty.result c.search.ensures.walk c.write_node-in-Empty.ensures.walk (λ asks never. absurd never);
  asks = record {
    may = λ asked. absurd (omega arith);
    exact = OnOk-map c.write_node-in-Empty.result (asked_none (g.S.RecordRead.meaning c.args.store.now) (g.S.RecordRead.meaning c.search.new.store) (g.S.RecordRead.meaning c.write_node-in-Empty.new.store) _ _ c.in_ok-link.ensures.walk.by.only) c.write_node-in-Empty.ensures.ok;
    few = few-tried (g.S.RecordRead.meaning c.args.store.now) (g.S.RecordRead.meaning c.search.new.store) (g.S.RecordRead.meaning c.write_node-in-Empty.new.store) c.in-Empty.bucket c.in_ok-link.ensures.walk.by.only (tries c.write_node-in-Empty.result (g.S.RecordRead.meaning c.search.new.store) (g.S.RecordRead.meaning c.write_node-in-Empty.new.store) c.in-Empty.bucket _ c.write_node-in-Empty.ensures.ok c.write_node-in-Empty.ensures.err);
  };
}

pub returns-in-Full-clause-walk : goal.returns-in-Full-clause-walk
returns-in-Full-clause-walk g c =
    let needs = needs_node c.size-size.result c.args.base c.args.key (g.S.RecordRead.meaning c.args.store.now) (g.S.RecordRead.meaning c.search.new.store) (g.S.RecordRead.meaning c.add_node.new.store) c.in-Full.link c.size-size.ensures.size c.add_node.ensures.walk.by.grow.reads (λ state agrees. rw c.in-Full.is at (c.in_ok-link.ensures.place state agrees)) in
    record {
      asked = 1;
      walk = calls_behind _ 1 c.args.store.now c.search.new.store c.add_node.new.store c.search.result c.add_node.result c.search.ensures.walk c.add_node.ensures.walk (λ asks once. record { once = once; needs_node = needs });
      asks = record {
        may = λ asked. record { once = omega arith; needs_node = needs };
        exact = OnOk-map c.add_node.result (asked_one c.args.key c.args.rid c.in-Full.link (g.S.RecordRead.meaning c.args.store.now) (g.S.RecordRead.meaning c.search.new.store) (g.S.RecordRead.meaning c.add_node.new.store) c.in_ok-link.ensures.walk.by.only) c.add_node.ensures.ok;
        few = few-behind 2 (g.S.RecordRead.meaning c.args.store.now) (g.S.RecordRead.meaning c.search.new.store) (g.S.RecordRead.meaning c.add_node.new.store) c.in_ok-link.ensures.walk.by.only c.add_node.ensures.few;
      };
    }
