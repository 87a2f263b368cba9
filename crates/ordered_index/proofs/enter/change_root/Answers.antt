use Rattle.std.proofs.Common.{Some, length, ap, ◌∙◌, arith}
use Rattle.record_store.specs.Meaning.{after_write}
use Rattle.record_store.proofs.Agreement.{written_as}
use Rattle.record_store.proofs.Refusals.{OnOk-map}
use Rattle.record_store.proofs.Known.{tries}
use Rattle.ordered_index.specs.Node.{Content, tree_node_words}
use Rattle.ordered_index.specs.Enter.PutsRoot.{whole}
use Rattle.ordered_index.proofs.Parting.{not_full}
use Rattle.ordered_index.proofs.Rooting.{puts_same}
use Rattle.ordered_index.proofs.Asking.{asks_few, had_nine, root_whole, root_refused, root_split}
use Rattle.record_store.proofs.Going.{calls_moved, calls_quiet, calls_map}
use Rattle.ordered_index.proofs.enter.change_root.Goals as goal

pub returns-in_err-write_node-clause-walk : goal.returns-in_err-write_node-clause-walk
returns-in_err-write_node-clause-walk g c =
    record {
      asked = 0;
      walk = calls_moved c.args.store.now c.write_node.new.store c.from_residual.result c.write_node.result c.in_err-write_node.field-0.0 c.in_err-write_node.was c.from_residual.ensures.1 (calls_map _ 0 c.args.store.now c.write_node.new.store c.write_node.result c.write_node.ensures.walk (λ asks never. absurd never));
      asks = root_refused c.args.top.entries.items (g.S.RecordRead.meaning c.args.store.now) (g.S.RecordRead.meaning c.write_node.new.store) c.from_residual.result c.from_residual.ensures.0 c.in_err-write_node.ensures.err;
    }

pub returns-then-not-is_full-clause-ok : goal.returns-then-not-is_full-clause-ok
returns-then-not-is_full-clause-ok g c =
    let items = c.insert.ensures.items in
    let few = not_full (length c.insert.new.self.items) c.is_full.result c.is_full.ensures.value c.if-not-is_full.true c.is_full.ensures.fits in
    whole (omega (arith, few, ap length items)) (written_as (g.S.RecordRead.meaning c.args.store.now) c.args.at c.cells.ensures c.in_ok-write_node.ensures.ok ∙ ap (λ es. after_write (g.S.RecordRead.meaning c.args.store.now) c.args.at (Some (tree_node_words (let n : Content = record { kind = c.args.top.kind; low = c.args.top.low; entries = es; next = c.args.top.next } in n)))) items)

pub returns-then-not-is_full-clause-walk : goal.returns-then-not-is_full-clause-walk
returns-then-not-is_full-clause-walk g c =
    let few = asks_few c.args.top.entries.items c.args.rank c.args.entry c.insert.new.self.items c.is_full.result c.insert.ensures.items c.is_full.ensures.value c.if-not-is_full.true c.is_full.ensures.fits in
    record {
      asked = 0;
      walk = calls_quiet _ c.args.store.now c.write_node.new.store _ c.write_node.result (tt, tt) c.write_node.ensures.walk;
      asks = root_whole c.args.top.entries.items (g.S.RecordRead.meaning c.args.store.now) (g.S.RecordRead.meaning c.write_node.new.store) _ _ few (written_as (g.S.RecordRead.meaning c.args.store.now) c.args.at c.cells.ensures c.in_ok-write_node.ensures.ok);
    }

pub returns-clause-ok : goal.returns-clause-ok
returns-clause-ok g c = OnOk-map c.split_root.result (puts_same (g.S.RecordRead.meaning c.args.store.now) (g.S.RecordRead.meaning c.split_root.new.store) c.args.at c.args.top.kind c.args.top.low c.insert.new.self.items c.args.top.entries.items c.insert.new.self.items _ c.args.top.next c.insert.ensures.items) c.split_root.ensures.ok

pub returns-clause-walk : goal.returns-clause-walk
returns-clause-walk g c =
    let nine = had_nine c.args.top.entries.items c.args.rank c.args.entry c.insert.new.self.items c.is_full.result c.insert.ensures.items c.is_full.ensures.value c.if-not-is_full.false in
    let n = c.split_root.ensures.walk in
    record {
      asked = n.asked;
      walk = calls_map _ n.asked c.args.store.now c.split_root.new.store c.split_root.result n.walk (λ asks few. (few, nine));
      asks = root_split c.args.top.entries.items (g.S.RecordRead.meaning c.args.store.now) (g.S.RecordRead.meaning c.split_root.new.store) c.split_root.result n.asked nine n.asks.few n.asks.exact n.asks.some c.split_root.ensures.few;
    }

pub returns-in_err-write_node-clause-writes : goal.returns-in_err-write_node-clause-writes
returns-in_err-write_node-clause-writes g c = (tries c.write_node.result (g.S.RecordRead.meaning c.args.store.now) (g.S.RecordRead.meaning c.write_node.new.store) c.args.at _ c.write_node.ensures.ok c.write_node.ensures.err).only

pub returns-then-not-is_full-clause-writes : goal.returns-then-not-is_full-clause-writes
returns-then-not-is_full-clause-writes g c = (tries c.write_node.result (g.S.RecordRead.meaning c.args.store.now) (g.S.RecordRead.meaning c.write_node.new.store) c.args.at _ c.write_node.ensures.ok c.write_node.ensures.err).only
