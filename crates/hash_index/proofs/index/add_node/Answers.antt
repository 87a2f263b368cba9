use Rattle.std.proofs.Common.{◌≡◌, ◌+◌, ◌≤◌, Ok, None, Some, ap, refl, ◌∙◌, arith}
use Rattle.record_store.specs.Meaning.{after_write, after_fresh}
use Rattle.record_store.proofs.Known.{few-same, few-fresh, tries, goes-same, goes-added, goes-tried, goes-trans}
use Rattle.record_store.proofs.Writes.{writes-trans}
use Rattle.record_store.proofs.Refusals.{OnOk-map}
use Rattle.hash_index.specs.Node.{pairs_of, chain_node_words}
use Rattle.record_store.proofs.Agreement.{written_as}
use Rattle.record_store.proofs.Going.{fresh_refused, fresh_done, calls_moved, calls_never}
use Rattle.hash_index.proofs.index.add_node.Goals as goal

pub returns-clause-ok : goal.returns-clause-ok
returns-clause-ok g c = OnOk-map c.write_node-2.result (λ wrote. record {
  fresh = c.in_ok-fresh.fresh;
  is_fresh = c.in_ok-fresh.ensures.fresh;
  written =
      written_as (g.S.RecordRead.meaning c.write_node.new.store) c.args.last.now.at c.node_cells-cells.ensures wrote
      ∙ ap (λ ps. after_write (g.S.RecordRead.meaning c.write_node.new.store) c.args.last.now.at (Some (chain_node_words ps (Some c.in_ok-fresh.fresh) c.args.last.now.position))) c.all_pairs-pairs.ensures
      ∙ ap (λ m. after_write m c.args.last.now.at (Some (chain_node_words (pairs_of c.args.last.now.words) (Some c.in_ok-fresh.fresh) c.args.last.now.position)))
      (written_as (g.S.RecordRead.meaning c.fresh.new.self) c.in_ok-fresh.fresh c.node_cells-first.ensures c.in_ok-write_node.ensures.ok
      ∙ ap (λ m. after_write m c.in_ok-fresh.fresh (Some (chain_node_words c.one_pair.result.items None (c.args.last.now.position + 1)))) c.in_ok-fresh.ensures.ok
      ∙ ap (λ ps. after_write (after_fresh (g.S.RecordRead.meaning c.args.store.now) c.in_ok-fresh.fresh) c.in_ok-fresh.fresh (Some (chain_node_words ps None (c.args.last.now.position + 1)))) c.one_pair.ensures);
}) c.write_node-2.ensures.ok

-- what is written and given: the new node, then the last one
pub returns-in_err-write_node-clause-writes : goal.returns-in_err-write_node-clause-writes
returns-in_err-write_node-clause-writes g c =
    (goes-added (λ rid. rid ≡ c.args.last.now.at) (g.S.RecordRead.meaning c.args.store.now) (g.S.RecordRead.meaning c.fresh.new.self) (g.S.RecordRead.meaning c.write_node.new.store) c.in_ok-fresh.fresh c.in_ok-fresh.ensures.ok (tries c.write_node.result (g.S.RecordRead.meaning c.fresh.new.self) (g.S.RecordRead.meaning c.write_node.new.store) c.in_ok-fresh.fresh _ c.write_node.ensures.ok c.write_node.ensures.err)).only

pub returns-clause-writes : goal.returns-clause-writes
returns-clause-writes g c =
    (goes-trans 1 0 (λ rid. rid ≡ c.args.last.now.at) (g.S.RecordRead.meaning c.args.store.now) (g.S.RecordRead.meaning c.write_node.new.store) (g.S.RecordRead.meaning c.write_node-2.new.store) (goes-added (λ rid. rid ≡ c.args.last.now.at) (g.S.RecordRead.meaning c.args.store.now) (g.S.RecordRead.meaning c.fresh.new.self) (g.S.RecordRead.meaning c.write_node.new.store) c.in_ok-fresh.fresh c.in_ok-fresh.ensures.ok (tries c.write_node.result (g.S.RecordRead.meaning c.fresh.new.self) (g.S.RecordRead.meaning c.write_node.new.store) c.in_ok-fresh.fresh _ c.write_node.ensures.ok c.write_node.ensures.err)) (goes-tried (λ rid. rid ≡ c.args.last.now.at) (g.S.RecordRead.meaning c.write_node.new.store) (g.S.RecordRead.meaning c.write_node-2.new.store) c.args.last.now.at (tries c.write_node-2.result (g.S.RecordRead.meaning c.write_node.new.store) (g.S.RecordRead.meaning c.write_node-2.new.store) c.args.last.now.at _ c.write_node-2.ensures.ok c.write_node-2.ensures.err) refl)).only

pub returns-in_err-fresh-clause-writes : goal.returns-in_err-fresh-clause-writes
returns-in_err-fresh-clause-writes g c = (goes-same (λ rid. rid ≡ c.args.last.now.at) (g.S.RecordRead.meaning c.args.store.now) (g.S.RecordRead.meaning c.fresh.new.self) c.in_err-fresh.ensures.err).only

-- how many records are written
pub returns-in_err-fresh-clause-few : goal.returns-in_err-fresh-clause-few
returns-in_err-fresh-clause-few g c = few-same 2 (g.S.RecordRead.meaning c.args.store.now) (g.S.RecordRead.meaning c.fresh.new.self) c.in_err-fresh.ensures.err

pub returns-in_err-write_node-clause-few : goal.returns-in_err-write_node-clause-few
returns-in_err-write_node-clause-few g c =
    writes-trans 0 2 (g.S.RecordRead.meaning c.args.store.now) (g.S.RecordRead.meaning c.fresh.new.self) (g.S.RecordRead.meaning c.write_node.new.store) (few-fresh (g.S.RecordRead.meaning c.args.store.now) (g.S.RecordRead.meaning c.fresh.new.self) _ c.in_ok-fresh.ensures.ok) (few-same 2 (g.S.RecordRead.meaning c.fresh.new.self) (g.S.RecordRead.meaning c.write_node.new.store) c.in_err-write_node.ensures.err)

pub returns-clause-few : goal.returns-clause-few
returns-clause-few g c =
    let wrote = writes-trans 0 1 (g.S.RecordRead.meaning c.args.store.now) (g.S.RecordRead.meaning c.fresh.new.self) (g.S.RecordRead.meaning c.write_node.new.store) (few-fresh (g.S.RecordRead.meaning c.args.store.now) (g.S.RecordRead.meaning c.fresh.new.self) _ c.in_ok-fresh.ensures.ok) (tries c.write_node.result (g.S.RecordRead.meaning c.fresh.new.self) (g.S.RecordRead.meaning c.write_node.new.store) c.in_ok-fresh.fresh _ c.write_node.ensures.ok c.write_node.ensures.err).few in
    writes-trans 1 1 (g.S.RecordRead.meaning c.args.store.now) (g.S.RecordRead.meaning c.write_node.new.store) (g.S.RecordRead.meaning c.write_node-2.new.store) wrote (tries c.write_node-2.result (g.S.RecordRead.meaning c.write_node.new.store) (g.S.RecordRead.meaning c.write_node-2.new.store) c.args.last.now.at _ c.write_node-2.ensures.ok c.write_node-2.ensures.err).few

-- how the walk went
pub returns-in_err-fresh-clause-walk : goal.returns-in_err-fresh-clause-walk
returns-in_err-fresh-clause-walk g c = fresh_refused _ c.args.store.now c.fresh.new.self c.in_err-fresh.field-0.0 c.fresh.result c.from_residual.result (omega arith) c.in_err-fresh.was c.fresh.ensures.gives c.fresh.ensures.err c.fresh.ensures.rest c.from_residual.ensures.1

pub returns-in_err-write_node-clause-walk : goal.returns-in_err-write_node-clause-walk
returns-in_err-write_node-clause-walk g c = calls_moved c.args.store.now c.write_node.new.store c.from_residual-in_err-write_node.result c.write_node.result c.in_err-write_node.field-0.0 c.in_err-write_node.was c.from_residual-in_err-write_node.ensures.1 (calls_never (λ asks. asks ≤ 1) 1 c.args.store.now c.fresh.new.self c.write_node.new.store (Ok (tt {0})) c.write_node.result (fresh_done (λ _. ⊥) c.args.store.now c.fresh.new.self c.in_ok-fresh.fresh c.fresh.result (Ok (tt {0})) c.fresh.ensures.gives c.in_ok-fresh.ensures.ok c.fresh.ensures.rest (tt, tt)) c.write_node.ensures.walk)

pub returns-clause-walk : goal.returns-clause-walk
returns-clause-walk g c = calls_never _ 1 c.args.store.now c.write_node.new.store c.write_node-2.new.store c.write_node.result c.write_node-2.result (calls_never (λ asks. asks ≤ 1) 1 c.args.store.now c.fresh.new.self c.write_node.new.store (Ok (tt {0})) c.write_node.result (fresh_done (λ _. ⊥) c.args.store.now c.fresh.new.self c.in_ok-fresh.fresh c.fresh.result (Ok (tt {0})) c.fresh.ensures.gives c.in_ok-fresh.ensures.ok c.fresh.ensures.rest (tt, tt)) c.write_node.ensures.walk) c.write_node-2.ensures.walk
