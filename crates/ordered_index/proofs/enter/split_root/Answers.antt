use Rattle.std.proofs.Common.{◌≡◌, ◌≤◌, Ok, Some, refl, ap, ◌∙◌, arith}
use Rattle.record_store.specs.Meaning.{Meaning, after_write, after_fresh}
use Rattle.ordered_index.specs.Node.{Content, tree_node_words}
use Rattle.ordered_index.specs.Held.{content_of}
use Rattle.ordered_index.specs.Enter.{key_at, left_of, right_of, over_of}
use Rattle.ordered_index.specs.Enter.PutsRoot.{parted}
use Rattle.record_store.proofs.Known.{tries, goes-same, goes-fresh, goes-trans}
use Rattle.ordered_index.proofs.Going.{left_goes, right_goes, over_goes}
use Rattle.ordered_index.proofs.Asking.{on_err}
use Rattle.ordered_index.proofs.Wrote.{nodes-none, nodes-trans, nodes-weaken, wrote_fresh, wrote_none, wrote_one}
use Rattle.record_store.proofs.Agreement.{written_as}
use Rattle.ordered_index.proofs.Parting.{left_few, right_few}
use Rattle.record_store.proofs.Going.{fresh_refused, fresh_done, calls_moved, calls_quiet, calls_then, calls_never}
use Rattle.ordered_index.proofs.enter.split_root.Goals as goal

pub returns-in_err-left-clause-walk : goal.returns-in_err-left-clause-walk
returns-in_err-left-clause-walk g c =
    record {
      asked = 1;
      walk = fresh_refused _ c.args.store.now c.fresh.new.self c.in_err-left.field-0.0 c.fresh.result c.from_residual.result (omega arith) c.in_err-left.was c.fresh.ensures.gives c.fresh.ensures.err c.fresh.ensures.rest c.from_residual.ensures.1;
      asks = record { few = omega arith; some = omega arith; exact = on_err c.from_residual.result _ c.from_residual.ensures.0 };
    }

pub returns-in_err-right-clause-walk : goal.returns-in_err-right-clause-walk
returns-in_err-right-clause-walk g c =
    record {
      asked = 2;
      walk = calls_then _ 1 1 c.args.store.now c.fresh.new.self c.fresh-2.new.self (Ok (tt {0})) c.from_residual-in_err-right.result (fresh_done (λ _. ⊥) c.args.store.now c.fresh.new.self c.in_ok-left.left c.fresh.result (Ok (tt {0})) c.fresh.ensures.gives c.in_ok-left.ensures.ok c.fresh.ensures.rest (tt, tt)) (fresh_refused (λ asks. asks ≤ 1) c.fresh.new.self c.fresh-2.new.self c.in_err-right.field-0.0 c.fresh-2.result c.from_residual-in_err-right.result (omega arith) c.in_err-right.was c.fresh-2.ensures.gives c.fresh-2.ensures.err c.fresh-2.ensures.rest c.from_residual-in_err-right.ensures.1) (λ asks one. omega (arith, one));
      asks = record { few = omega arith; some = omega arith; exact = on_err c.from_residual-in_err-right.result _ c.from_residual-in_err-right.ensures.0 };
    }

pub returns-in_err-write_node-clause-walk : goal.returns-in_err-write_node-clause-walk
returns-in_err-write_node-clause-walk g c =
    record {
      asked = 2;
      walk = calls_moved c.args.store.now c.write_node.new.store c.from_residual-in_err-write_node.result c.write_node.result c.in_err-write_node.field-0.0 c.in_err-write_node.was c.from_residual-in_err-write_node.ensures.1 (calls_never (λ asks. asks ≤ 2) 2 c.args.store.now c.fresh-2.new.self c.write_node.new.store (Ok (tt {0})) c.write_node.result (calls_then (λ _. Unit {0}) 1 1 c.args.store.now c.fresh.new.self c.fresh-2.new.self (Ok (tt {0})) (Ok (tt {0})) (fresh_done (λ _. ⊥) c.args.store.now c.fresh.new.self c.in_ok-left.left c.fresh.result (Ok (tt {0})) c.fresh.ensures.gives c.in_ok-left.ensures.ok c.fresh.ensures.rest (tt, tt)) (fresh_done (λ _. ⊥) c.fresh.new.self c.fresh-2.new.self c.in_ok-right.right c.fresh-2.result (Ok (tt {0})) c.fresh-2.ensures.gives c.in_ok-right.ensures.ok c.fresh-2.ensures.rest (tt, tt)) (λ asks never. tt)) c.write_node.ensures.walk);
      asks = record { few = omega arith; some = omega arith; exact = on_err c.from_residual-in_err-write_node.result _ c.from_residual-in_err-write_node.ensures.0 };
    }

pub returns-in_err-write_node-2-clause-walk : goal.returns-in_err-write_node-2-clause-walk
returns-in_err-write_node-2-clause-walk g c =
    record {
      asked = 2;
      walk = calls_moved c.args.store.now c.write_node-2.new.store c.from_residual-in_err-write_node-2.result c.write_node-2.result c.in_err-write_node-2.field-0.0 c.in_err-write_node-2.was c.from_residual-in_err-write_node-2.ensures.1 (calls_never (λ asks. asks ≤ 2) 2 c.args.store.now c.write_node.new.store c.write_node-2.new.store c.write_node.result c.write_node-2.result (calls_never (λ asks. asks ≤ 2) 2 c.args.store.now c.fresh-2.new.self c.write_node.new.store (Ok (tt {0})) c.write_node.result (calls_then (λ _. Unit {0}) 1 1 c.args.store.now c.fresh.new.self c.fresh-2.new.self (Ok (tt {0})) (Ok (tt {0})) (fresh_done (λ _. ⊥) c.args.store.now c.fresh.new.self c.in_ok-left.left c.fresh.result (Ok (tt {0})) c.fresh.ensures.gives c.in_ok-left.ensures.ok c.fresh.ensures.rest (tt, tt)) (fresh_done (λ _. ⊥) c.fresh.new.self c.fresh-2.new.self c.in_ok-right.right c.fresh-2.result (Ok (tt {0})) c.fresh-2.ensures.gives c.in_ok-right.ensures.ok c.fresh-2.ensures.rest (tt, tt)) (λ asks never. tt)) c.write_node.ensures.walk) c.write_node-2.ensures.walk);
      asks = record { few = omega arith; some = omega arith; exact = on_err c.from_residual-in_err-write_node-2.result _ c.from_residual-in_err-write_node-2.ensures.0 };
    }

pub returns-in_err-write_node-3-clause-walk : goal.returns-in_err-write_node-3-clause-walk
returns-in_err-write_node-3-clause-walk g c =
    record {
      asked = 2;
      walk = calls_moved c.args.store.now c.write_node-3.new.store c.from_residual-in_err-write_node-3.result c.write_node-3.result c.in_err-write_node-3.field-0.0 c.in_err-write_node-3.was c.from_residual-in_err-write_node-3.ensures.1 (calls_never (λ asks. asks ≤ 2) 2 c.args.store.now c.write_node-2.new.store c.write_node-3.new.store c.write_node-2.result c.write_node-3.result (calls_never (λ asks. asks ≤ 2) 2 c.args.store.now c.write_node.new.store c.write_node-2.new.store c.write_node.result c.write_node-2.result (calls_never (λ asks. asks ≤ 2) 2 c.args.store.now c.fresh-2.new.self c.write_node.new.store (Ok (tt {0})) c.write_node.result (calls_then (λ _. Unit {0}) 1 1 c.args.store.now c.fresh.new.self c.fresh-2.new.self (Ok (tt {0})) (Ok (tt {0})) (fresh_done (λ _. ⊥) c.args.store.now c.fresh.new.self c.in_ok-left.left c.fresh.result (Ok (tt {0})) c.fresh.ensures.gives c.in_ok-left.ensures.ok c.fresh.ensures.rest (tt, tt)) (fresh_done (λ _. ⊥) c.fresh.new.self c.fresh-2.new.self c.in_ok-right.right c.fresh-2.result (Ok (tt {0})) c.fresh-2.ensures.gives c.in_ok-right.ensures.ok c.fresh-2.ensures.rest (tt, tt)) (λ asks never. tt)) c.write_node.ensures.walk) c.write_node-2.ensures.walk) c.write_node-3.ensures.walk);
      asks = record { few = omega arith; some = omega arith; exact = on_err c.from_residual-in_err-write_node-3.result _ c.from_residual-in_err-write_node-3.ensures.0 };
    }

pub returns-clause-walk : goal.returns-clause-walk
returns-clause-walk g c =
    record {
      asked = 2;
      walk = calls_quiet _ c.args.store.now c.write_node-3.new.store _ c.write_node-3.result (tt, tt) (calls_never (λ asks. asks ≤ 2) 2 c.args.store.now c.write_node-2.new.store c.write_node-3.new.store c.write_node-2.result c.write_node-3.result (calls_never (λ asks. asks ≤ 2) 2 c.args.store.now c.write_node.new.store c.write_node-2.new.store c.write_node.result c.write_node-2.result (calls_never (λ asks. asks ≤ 2) 2 c.args.store.now c.fresh-2.new.self c.write_node.new.store (Ok (tt {0})) c.write_node.result (calls_then (λ _. Unit {0}) 1 1 c.args.store.now c.fresh.new.self c.fresh-2.new.self (Ok (tt {0})) (Ok (tt {0})) (fresh_done (λ _. ⊥) c.args.store.now c.fresh.new.self c.in_ok-left.left c.fresh.result (Ok (tt {0})) c.fresh.ensures.gives c.in_ok-left.ensures.ok c.fresh.ensures.rest (tt, tt)) (fresh_done (λ _. ⊥) c.fresh.new.self c.fresh-2.new.self c.in_ok-right.right c.fresh-2.result (Ok (tt {0})) c.fresh-2.ensures.gives c.in_ok-right.ensures.ok c.fresh-2.ensures.rest (tt, tt)) (λ asks never. tt)) c.write_node.ensures.walk) c.write_node-2.ensures.walk) c.write_node-3.ensures.walk);
      asks = record { few = omega arith; some = omega arith; exact = refl };
    }

pub returns-clause-ok : goal.returns-clause-ok
returns-clause-ok g c =
    let base : g.S.RecordRead.meaning c.fresh-2.new.self ≡ after_fresh (after_fresh (g.S.RecordRead.meaning c.args.store.now) c.in_ok-left.left) c.in_ok-right.right = c.in_ok-right.ensures.ok ∙ ap (λ m. after_fresh m c.in_ok-right.right) c.in_ok-left.ensures.ok in
    let low : c.part-right_node.result.low ≡ key_at c.args.top.entries.items 5 = ap (λ (n : Content). n.low) c.part-right_node.ensures.right in
    let over : content_of c.over-over.result ≡ over_of c.args.top.low c.in_ok-left.left (key_at c.args.top.entries.items 5) c.in_ok-right.right = c.over-over.ensures ∙ ap (λ k. over_of c.args.top.low c.in_ok-left.left k c.in_ok-right.right) low in
    let first : Meaning = after_fresh (after_fresh (g.S.RecordRead.meaning c.args.store.now) c.in_ok-left.left) c.in_ok-right.right in
    let left : Content = left_of (content_of c.args.top) c.args.top.entries.items c.in_ok-right.right in
    let right : Content = right_of (content_of c.args.top) c.args.top.entries.items in
    let one : g.S.RecordRead.meaning c.write_node.new.store ≡ after_write first c.in_ok-left.left (Some (tree_node_words left)) = (written_as (g.S.RecordRead.meaning c.fresh-2.new.self) c.in_ok-left.left c.cells.ensures c.in_ok-write_node.ensures.ok) ∙ ap (λ n. after_write (g.S.RecordRead.meaning c.fresh-2.new.self) c.in_ok-left.left (Some (tree_node_words n))) c.part-right_node.ensures.left ∙ ap (λ m. after_write m c.in_ok-left.left (Some (tree_node_words left))) base in
    let two : g.S.RecordRead.meaning c.write_node-2.new.store ≡ after_write (after_write first c.in_ok-left.left (Some (tree_node_words left))) c.in_ok-right.right (Some (tree_node_words right)) = (written_as (g.S.RecordRead.meaning c.write_node.new.store) c.in_ok-right.right c.cells-2.ensures c.in_ok-write_node-2.ensures.ok) ∙ ap (λ n. after_write (g.S.RecordRead.meaning c.write_node.new.store) c.in_ok-right.right (Some (tree_node_words n))) c.part-right_node.ensures.right ∙ ap (λ m. after_write m c.in_ok-right.right (Some (tree_node_words right))) one in
    parted c.in_ok-left.left c.in_ok-right.right c.requires.ten c.in_ok-left.ensures.fresh (rw c.in_ok-left.ensures.ok at c.in_ok-right.ensures.fresh)
    ((written_as (g.S.RecordRead.meaning c.write_node-2.new.store) c.args.at c.cells-3.ensures c.in_ok-write_node-3.ensures.ok) ∙ ap (λ n. after_write (g.S.RecordRead.meaning c.write_node-2.new.store) c.args.at (Some (tree_node_words n))) over ∙ ap (λ m. after_write m c.args.at (Some (tree_node_words (over_of c.args.top.low c.in_ok-left.left (key_at c.args.top.entries.items 5) c.in_ok-right.right)))) two)

pub returns-in_err-left-clause-few : goal.returns-in_err-left-clause-few
returns-in_err-left-clause-few g c =
    let m0 = g.S.RecordRead.meaning c.args.store.now in
    let m1 = g.S.RecordRead.meaning c.fresh.new.self in
    nodes-weaken 0 3 m0 m1 (omega arith) (wrote_none 0 m0 m0 m1 (nodes-none m0 m0 refl) c.in_err-left.ensures.err)

pub returns-in_err-right-clause-few : goal.returns-in_err-right-clause-few
returns-in_err-right-clause-few g c =
    let m0 = g.S.RecordRead.meaning c.args.store.now in
    let m1 = g.S.RecordRead.meaning c.fresh.new.self in
    let m2 = g.S.RecordRead.meaning c.fresh-2.new.self in
    nodes-weaken 0 3 m0 m2 (omega arith) (wrote_none 0 m0 m1 m2 (wrote_fresh m0 m1 _ c.in_ok-left.ensures.ok) c.in_err-right.ensures.err)

pub returns-in_err-write_node-clause-few : goal.returns-in_err-write_node-clause-few
returns-in_err-write_node-clause-few g c =
    let m0 = g.S.RecordRead.meaning c.args.store.now in
    let m1 = g.S.RecordRead.meaning c.fresh.new.self in
    let m2 = g.S.RecordRead.meaning c.fresh-2.new.self in
    let m3 = g.S.RecordRead.meaning c.write_node.new.store in
    nodes-weaken 0 3 m0 m3 (omega arith) (wrote_none 0 m0 m2 m3 (nodes-trans 0 0 m0 m1 m2 (wrote_fresh m0 m1 _ c.in_ok-left.ensures.ok) (wrote_fresh m1 m2 _ c.in_ok-right.ensures.ok)) c.in_err-write_node.ensures.err)

pub returns-in_err-write_node-2-clause-few : goal.returns-in_err-write_node-2-clause-few
returns-in_err-write_node-2-clause-few g c =
    let m0 = g.S.RecordRead.meaning c.args.store.now in
    let m1 = g.S.RecordRead.meaning c.fresh.new.self in
    let m2 = g.S.RecordRead.meaning c.fresh-2.new.self in
    let m3 = g.S.RecordRead.meaning c.write_node.new.store in
    let m4 = g.S.RecordRead.meaning c.write_node-2.new.store in
    nodes-weaken 1 3 m0 m4 (omega arith) (wrote_none 1 m0 m3 m4 (wrote_one 0 m0 m2 m3 _ _ (nodes-trans 0 0 m0 m1 m2 (wrote_fresh m0 m1 _ c.in_ok-left.ensures.ok) (wrote_fresh m1 m2 _ c.in_ok-right.ensures.ok)) (written_as m2 c.in_ok-left.left c.cells.ensures c.in_ok-write_node.ensures.ok)) c.in_err-write_node-2.ensures.err)

pub returns-in_err-write_node-3-clause-few : goal.returns-in_err-write_node-3-clause-few
returns-in_err-write_node-3-clause-few g c =
    let m0 = g.S.RecordRead.meaning c.args.store.now in
    let m1 = g.S.RecordRead.meaning c.fresh.new.self in
    let m2 = g.S.RecordRead.meaning c.fresh-2.new.self in
    let m3 = g.S.RecordRead.meaning c.write_node.new.store in
    let m4 = g.S.RecordRead.meaning c.write_node-2.new.store in
    let m5 = g.S.RecordRead.meaning c.write_node-3.new.store in
    nodes-weaken 2 3 m0 m5 (omega arith) (wrote_none 2 m0 m4 m5 (wrote_one 1 m0 m3 m4 _ _ (wrote_one 0 m0 m2 m3 _ _ (nodes-trans 0 0 m0 m1 m2 (wrote_fresh m0 m1 _ c.in_ok-left.ensures.ok) (wrote_fresh m1 m2 _ c.in_ok-right.ensures.ok)) (written_as m2 c.in_ok-left.left c.cells.ensures c.in_ok-write_node.ensures.ok)) (written_as m3 c.in_ok-right.right c.cells-2.ensures c.in_ok-write_node-2.ensures.ok)) c.in_err-write_node-3.ensures.err)

pub returns-clause-few : goal.returns-clause-few
returns-clause-few g c =
    let m0 = g.S.RecordRead.meaning c.args.store.now in
    let m1 = g.S.RecordRead.meaning c.fresh.new.self in
    let m2 = g.S.RecordRead.meaning c.fresh-2.new.self in
    let m3 = g.S.RecordRead.meaning c.write_node.new.store in
    let m4 = g.S.RecordRead.meaning c.write_node-2.new.store in
    let m5 = g.S.RecordRead.meaning c.write_node-3.new.store in
    wrote_one 2 m0 m4 m5 _ _ (wrote_one 1 m0 m3 m4 _ _ (wrote_one 0 m0 m2 m3 _ _ (nodes-trans 0 0 m0 m1 m2 (wrote_fresh m0 m1 _ c.in_ok-left.ensures.ok) (wrote_fresh m1 m2 _ c.in_ok-right.ensures.ok)) (written_as m2 c.in_ok-left.left c.cells.ensures c.in_ok-write_node.ensures.ok)) (written_as m3 c.in_ok-right.right c.cells-2.ensures c.in_ok-write_node-2.ensures.ok)) (written_as m4 c.args.at c.cells-3.ensures c.in_ok-write_node-3.ensures.ok)

pub returns-in_err-left-clause-writes : goal.returns-in_err-left-clause-writes
returns-in_err-left-clause-writes g c = (goes-same (λ rid. rid ≡ c.args.at) (g.S.RecordRead.meaning c.args.store.now) (g.S.RecordRead.meaning c.fresh.new.self) c.in_err-left.ensures.err).only

pub returns-in_err-right-clause-writes : goal.returns-in_err-right-clause-writes
returns-in_err-right-clause-writes g c = (goes-trans 1 0 (λ rid. rid ≡ c.args.at) (g.S.RecordRead.meaning c.args.store.now) (g.S.RecordRead.meaning c.fresh.new.self) (g.S.RecordRead.meaning c.fresh-2.new.self) (goes-fresh (λ rid. rid ≡ c.args.at) (g.S.RecordRead.meaning c.args.store.now) (g.S.RecordRead.meaning c.fresh.new.self) c.in_ok-left.left c.in_ok-left.ensures.ok) (goes-same (λ rid. rid ≡ c.args.at) (g.S.RecordRead.meaning c.fresh.new.self) (g.S.RecordRead.meaning c.fresh-2.new.self) c.in_err-right.ensures.err)).only

pub returns-in_err-write_node-clause-writes : goal.returns-in_err-write_node-clause-writes
returns-in_err-write_node-clause-writes g c = (left_goes (λ rid. rid ≡ c.args.at) (g.S.RecordRead.meaning c.args.store.now) (g.S.RecordRead.meaning c.fresh.new.self) (g.S.RecordRead.meaning c.fresh-2.new.self) (g.S.RecordRead.meaning c.write_node.new.store) c.in_ok-left.left c.in_ok-right.right c.in_ok-left.ensures.ok c.in_ok-right.ensures.ok (tries c.write_node.result (g.S.RecordRead.meaning c.fresh-2.new.self) (g.S.RecordRead.meaning c.write_node.new.store) c.in_ok-left.left _ c.write_node.ensures.ok c.write_node.ensures.err)).only

pub returns-in_err-write_node-2-clause-writes : goal.returns-in_err-write_node-2-clause-writes
returns-in_err-write_node-2-clause-writes g c = (right_goes (λ rid. rid ≡ c.args.at) (g.S.RecordRead.meaning c.args.store.now) (g.S.RecordRead.meaning c.fresh.new.self) (g.S.RecordRead.meaning c.fresh-2.new.self) (g.S.RecordRead.meaning c.write_node.new.store) c.in_ok-left.left c.in_ok-right.right c.in_ok-left.ensures.ok c.in_ok-right.ensures.ok (tries c.write_node.result (g.S.RecordRead.meaning c.fresh-2.new.self) (g.S.RecordRead.meaning c.write_node.new.store) c.in_ok-left.left _ c.write_node.ensures.ok c.write_node.ensures.err) (g.S.RecordRead.meaning c.write_node-2.new.store) (tries c.write_node-2.result (g.S.RecordRead.meaning c.write_node.new.store) (g.S.RecordRead.meaning c.write_node-2.new.store) c.in_ok-right.right _ c.write_node-2.ensures.ok c.write_node-2.ensures.err)).only

pub returns-in_err-write_node-3-clause-writes : goal.returns-in_err-write_node-3-clause-writes
returns-in_err-write_node-3-clause-writes g c = (over_goes (λ rid. rid ≡ c.args.at) (g.S.RecordRead.meaning c.args.store.now) (g.S.RecordRead.meaning c.fresh.new.self) (g.S.RecordRead.meaning c.fresh-2.new.self) (g.S.RecordRead.meaning c.write_node.new.store) c.in_ok-left.left c.in_ok-right.right c.in_ok-left.ensures.ok c.in_ok-right.ensures.ok (tries c.write_node.result (g.S.RecordRead.meaning c.fresh-2.new.self) (g.S.RecordRead.meaning c.write_node.new.store) c.in_ok-left.left _ c.write_node.ensures.ok c.write_node.ensures.err) (g.S.RecordRead.meaning c.write_node-2.new.store) (tries c.write_node-2.result (g.S.RecordRead.meaning c.write_node.new.store) (g.S.RecordRead.meaning c.write_node-2.new.store) c.in_ok-right.right _ c.write_node-2.ensures.ok c.write_node-2.ensures.err) (g.S.RecordRead.meaning c.write_node-3.new.store) c.args.at refl (tries c.write_node-3.result (g.S.RecordRead.meaning c.write_node-2.new.store) (g.S.RecordRead.meaning c.write_node-3.new.store) c.args.at _ c.write_node-3.ensures.ok c.write_node-3.ensures.err)).only

pub returns-clause-writes : goal.returns-clause-writes
returns-clause-writes g c = (over_goes (λ rid. rid ≡ c.args.at) (g.S.RecordRead.meaning c.args.store.now) (g.S.RecordRead.meaning c.fresh.new.self) (g.S.RecordRead.meaning c.fresh-2.new.self) (g.S.RecordRead.meaning c.write_node.new.store) c.in_ok-left.left c.in_ok-right.right c.in_ok-left.ensures.ok c.in_ok-right.ensures.ok (tries c.write_node.result (g.S.RecordRead.meaning c.fresh-2.new.self) (g.S.RecordRead.meaning c.write_node.new.store) c.in_ok-left.left _ c.write_node.ensures.ok c.write_node.ensures.err) (g.S.RecordRead.meaning c.write_node-2.new.store) (tries c.write_node-2.result (g.S.RecordRead.meaning c.write_node.new.store) (g.S.RecordRead.meaning c.write_node-2.new.store) c.in_ok-right.right _ c.write_node-2.ensures.ok c.write_node-2.ensures.err) (g.S.RecordRead.meaning c.write_node-3.new.store) c.args.at refl (tries c.write_node-3.result (g.S.RecordRead.meaning c.write_node-2.new.store) (g.S.RecordRead.meaning c.write_node-3.new.store) c.args.at _ c.write_node-3.ensures.ok c.write_node-3.ensures.err)).only

-- nine entries at most are written
pub cells-requires : goal.cells-requires
cells-requires g c = left_few (content_of c.args.top) (content_of c.part-right_node.new.self) c.args.top.entries.items c.in_ok-right.right c.part-right_node.ensures.left

pub cells-requires-2 : goal.cells-requires-2
cells-requires-2 g c = right_few (content_of c.args.top) (content_of c.part-right_node.result) c.args.top.entries.items (omega (arith, c.requires.ten)) c.part-right_node.ensures.right
