use Rattle.std.proofs.Common.{◌≡◌, ◌+◌, ◌*◌, Ok, refl, sym, ap, arith}
use Rattle.record_store.specs.Meaning.{Meaning}
use Rattle.record_store.proofs.Known.{tries, goes-same, goes-added, goes-tried, goes-trans}
use Rattle.ordered_index.specs.Asks.{MayAskAt, asks_at}
use Rattle.ordered_index.proofs.Counting.{asks_nine}
use Rattle.ordered_index.proofs.Asking.{asks_few, had_nine}
use Rattle.ordered_index.proofs.Wrote.{nodes-none, nodes-weaken, wrote_fresh, wrote_none, wrote_one}
use Rattle.record_store.proofs.Agreement.{written_as}
use Rattle.ordered_index.proofs.Parting.{left_few, right_few}
use Rattle.ordered_index.specs.Held.{content_of}
use Rattle.record_store.proofs.Going.{fresh_refused, fresh_done, calls_at, calls_map, calls_moved, calls_never, calls_quiet}
use Rattle.ordered_index.proofs.enter.change_node.Goals as goal

pub returns-in_err-write_node-clause-few : goal.returns-in_err-write_node-clause-few
returns-in_err-write_node-clause-few g c =
    nodes-weaken 0 (2 * asks_at c.args.node.entries.items + 1) (g.S.RecordRead.meaning c.args.store.now) (g.S.RecordRead.meaning c.write_node.new.store) (omega arith) (nodes-none (g.S.RecordRead.meaning c.args.store.now) (g.S.RecordRead.meaning c.write_node.new.store) (ap (λ (m : Meaning). m.writes) c.in_err-write_node.ensures.err))

pub returns-then-not-is_full-clause-few : goal.returns-then-not-is_full-clause-few
returns-then-not-is_full-clause-few g c =
    let m0 = g.S.RecordRead.meaning c.args.store.now in
    let m1 = g.S.RecordRead.meaning c.write_node.new.store in
    nodes-weaken (0 + 1) (2 * asks_at c.args.node.entries.items + 1) m0 m1 (omega arith) (wrote_one 0 m0 m0 m1 _ _ (nodes-none m0 m0 refl) (written_as m0 c.args.at c.cells.ensures c.in_ok-write_node.ensures.ok))

pub returns-in_err-fresh-clause-few : goal.returns-in_err-fresh-clause-few
returns-in_err-fresh-clause-few g c =
    nodes-weaken 0 (2 * asks_at c.args.node.entries.items + 1) (g.S.RecordRead.meaning c.args.store.now) (g.S.RecordRead.meaning c.fresh.new.self) (omega arith) (nodes-none (g.S.RecordRead.meaning c.args.store.now) (g.S.RecordRead.meaning c.fresh.new.self) (ap (λ (m : Meaning). m.writes) c.in_err-fresh.ensures.err))

pub returns-in_err-write_node-2-clause-few : goal.returns-in_err-write_node-2-clause-few
returns-in_err-write_node-2-clause-few g c =
    let m0 = g.S.RecordRead.meaning c.args.store.now in
    let m1 = g.S.RecordRead.meaning c.fresh.new.self in
    let m2 = g.S.RecordRead.meaning c.write_node-2.new.store in
    nodes-weaken 0 (2 * asks_at c.args.node.entries.items + 1) m0 m2 (omega arith) (wrote_none 0 m0 m1 m2 (wrote_fresh m0 m1 _ c.in_ok-fresh.ensures.ok) c.in_err-write_node-2.ensures.err)

pub returns-in_err-write_node-3-clause-few : goal.returns-in_err-write_node-3-clause-few
returns-in_err-write_node-3-clause-few g c =
    let m0 = g.S.RecordRead.meaning c.args.store.now in
    let m1 = g.S.RecordRead.meaning c.fresh.new.self in
    let m2 = g.S.RecordRead.meaning c.write_node-2.new.store in
    let m3 = g.S.RecordRead.meaning c.write_node-3.new.store in
    nodes-weaken (0 + 1) (2 * asks_at c.args.node.entries.items + 1) m0 m3 (omega arith) (wrote_none (0 + 1) m0 m2 m3 (wrote_one 0 m0 m1 m2 _ _ (wrote_fresh m0 m1 _ c.in_ok-fresh.ensures.ok) (written_as m1 c.in_ok-fresh.fresh c.cells-2.ensures c.in_ok-write_node-2.ensures.ok)) c.in_err-write_node-3.ensures.err)

pub returns-clause-few : goal.returns-clause-few
returns-clause-few g c =
    let nine = had_nine c.args.node.entries.items c.args.rank c.args.entry c.insert.new.self.items c.is_full.result c.insert.ensures.items c.is_full.ensures.value c.if-not-is_full.false in
    let m0 = g.S.RecordRead.meaning c.args.store.now in
    let m1 = g.S.RecordRead.meaning c.fresh.new.self in
    let m2 = g.S.RecordRead.meaning c.write_node-2.new.store in
    let m3 = g.S.RecordRead.meaning c.write_node-3.new.store in
    nodes-weaken (0 + 1 + 1) (2 * asks_at c.args.node.entries.items + 1) m0 m3 (omega (arith, asks_nine c.args.node.entries.items nine)) (wrote_one (0 + 1) m0 m2 m3 _ _ (wrote_one 0 m0 m1 m2 _ _ (wrote_fresh m0 m1 _ c.in_ok-fresh.ensures.ok) (written_as m1 c.in_ok-fresh.fresh c.cells-2.ensures c.in_ok-write_node-2.ensures.ok)) (written_as m2 c.args.at c.cells-3.ensures c.in_ok-write_node-3.ensures.ok))

pub returns-clause-parted : goal.returns-clause-parted
returns-clause-parted g c =
    let nine = had_nine c.args.node.entries.items c.args.rank c.args.entry c.insert.new.self.items c.is_full.result c.insert.ensures.items c.is_full.ensures.value c.if-not-is_full.false in
    let m0 = g.S.RecordRead.meaning c.args.store.now in
    let m1 = g.S.RecordRead.meaning c.fresh.new.self in
    let m2 = g.S.RecordRead.meaning c.write_node-2.new.store in
    let m3 = g.S.RecordRead.meaning c.write_node-3.new.store in
    nodes-weaken (0 + 1 + 1) (2 * asks_at c.args.node.entries.items) m0 m3 (omega (arith, asks_nine c.args.node.entries.items nine)) (wrote_one (0 + 1) m0 m2 m3 _ _ (wrote_one 0 m0 m1 m2 _ _ (wrote_fresh m0 m1 _ c.in_ok-fresh.ensures.ok) (written_as m1 c.in_ok-fresh.fresh c.cells-2.ensures c.in_ok-write_node-2.ensures.ok)) (written_as m2 c.args.at c.cells-3.ensures c.in_ok-write_node-3.ensures.ok))

-- what is written and given
pub returns-in_err-write_node-clause-writes : goal.returns-in_err-write_node-clause-writes
returns-in_err-write_node-clause-writes g c = (tries c.write_node.result (g.S.RecordRead.meaning c.args.store.now) (g.S.RecordRead.meaning c.write_node.new.store) c.args.at _ c.write_node.ensures.ok c.write_node.ensures.err).only

pub returns-then-not-is_full-clause-writes : goal.returns-then-not-is_full-clause-writes
returns-then-not-is_full-clause-writes g c = (tries c.write_node.result (g.S.RecordRead.meaning c.args.store.now) (g.S.RecordRead.meaning c.write_node.new.store) c.args.at _ c.write_node.ensures.ok c.write_node.ensures.err).only

pub returns-in_err-fresh-clause-writes : goal.returns-in_err-fresh-clause-writes
returns-in_err-fresh-clause-writes g c = (goes-same (λ rid. rid ≡ c.args.at) (g.S.RecordRead.meaning c.args.store.now) (g.S.RecordRead.meaning c.fresh.new.self) c.in_err-fresh.ensures.err).only

pub returns-in_err-write_node-2-clause-writes : goal.returns-in_err-write_node-2-clause-writes
returns-in_err-write_node-2-clause-writes g c = (goes-added (λ rid. rid ≡ c.args.at) (g.S.RecordRead.meaning c.args.store.now) (g.S.RecordRead.meaning c.fresh.new.self) (g.S.RecordRead.meaning c.write_node-2.new.store) c.in_ok-fresh.fresh c.in_ok-fresh.ensures.ok (tries c.write_node-2.result (g.S.RecordRead.meaning c.fresh.new.self) (g.S.RecordRead.meaning c.write_node-2.new.store) c.in_ok-fresh.fresh _ c.write_node-2.ensures.ok c.write_node-2.ensures.err)).only

pub returns-in_err-write_node-3-clause-writes : goal.returns-in_err-write_node-3-clause-writes
returns-in_err-write_node-3-clause-writes g c = (goes-trans 1 0 (λ rid. rid ≡ c.args.at) (g.S.RecordRead.meaning c.args.store.now) (g.S.RecordRead.meaning c.write_node-2.new.store) (g.S.RecordRead.meaning c.write_node-3.new.store) (goes-added (λ rid. rid ≡ c.args.at) (g.S.RecordRead.meaning c.args.store.now) (g.S.RecordRead.meaning c.fresh.new.self) (g.S.RecordRead.meaning c.write_node-2.new.store) c.in_ok-fresh.fresh c.in_ok-fresh.ensures.ok (tries c.write_node-2.result (g.S.RecordRead.meaning c.fresh.new.self) (g.S.RecordRead.meaning c.write_node-2.new.store) c.in_ok-fresh.fresh _ c.write_node-2.ensures.ok c.write_node-2.ensures.err)) (goes-tried (λ rid. rid ≡ c.args.at) (g.S.RecordRead.meaning c.write_node-2.new.store) (g.S.RecordRead.meaning c.write_node-3.new.store) c.args.at (tries c.write_node-3.result (g.S.RecordRead.meaning c.write_node-2.new.store) (g.S.RecordRead.meaning c.write_node-3.new.store) c.args.at _ c.write_node-3.ensures.ok c.write_node-3.ensures.err) refl)).only

pub returns-clause-writes : goal.returns-clause-writes
returns-clause-writes g c = (goes-trans 1 0 (λ rid. rid ≡ c.args.at) (g.S.RecordRead.meaning c.args.store.now) (g.S.RecordRead.meaning c.write_node-2.new.store) (g.S.RecordRead.meaning c.write_node-3.new.store) (goes-added (λ rid. rid ≡ c.args.at) (g.S.RecordRead.meaning c.args.store.now) (g.S.RecordRead.meaning c.fresh.new.self) (g.S.RecordRead.meaning c.write_node-2.new.store) c.in_ok-fresh.fresh c.in_ok-fresh.ensures.ok (tries c.write_node-2.result (g.S.RecordRead.meaning c.fresh.new.self) (g.S.RecordRead.meaning c.write_node-2.new.store) c.in_ok-fresh.fresh _ c.write_node-2.ensures.ok c.write_node-2.ensures.err)) (goes-tried (λ rid. rid ≡ c.args.at) (g.S.RecordRead.meaning c.write_node-2.new.store) (g.S.RecordRead.meaning c.write_node-3.new.store) c.args.at (tries c.write_node-3.result (g.S.RecordRead.meaning c.write_node-2.new.store) (g.S.RecordRead.meaning c.write_node-3.new.store) c.args.at _ c.write_node-3.ensures.ok c.write_node-3.ensures.err) refl)).only

-- nine entries at most are written
pub cells-requires-2 : goal.cells-requires-2
cells-requires-2 g c = right_few (content_of c.args.node) (content_of c.part-right.result) c.insert.new.self.items c.is_full.ensures.fits c.part-right.ensures.right

pub cells-requires-3 : goal.cells-requires-3
cells-requires-3 g c = left_few (content_of c.args.node) (content_of c.part-right.new.self) c.insert.new.self.items c.in_ok-fresh.fresh c.part-right.ensures.left

-- how the walk went
pub returns-in_err-write_node-clause-walk : goal.returns-in_err-write_node-clause-walk
returns-in_err-write_node-clause-walk g c =
    let few = asks_few c.args.node.entries.items c.args.rank c.args.entry c.insert.new.self.items c.is_full.result c.insert.ensures.items c.is_full.ensures.value c.if-not-is_full.true c.is_full.ensures.fits in
    calls_at 0 (asks_at c.args.node.entries.items) c.args.store.now c.write_node.new.store c.from_residual.result (sym few) (calls_moved c.args.store.now c.write_node.new.store c.from_residual.result c.write_node.result c.in_err-write_node.field-0.0 c.in_err-write_node.was c.from_residual.ensures.1 (calls_map _ 0 c.args.store.now c.write_node.new.store c.write_node.result c.write_node.ensures.walk (λ asks never. absurd never)))

pub returns-then-not-is_full-clause-walk : goal.returns-then-not-is_full-clause-walk
returns-then-not-is_full-clause-walk g c =
    let few = asks_few c.args.node.entries.items c.args.rank c.args.entry c.insert.new.self.items c.is_full.result c.insert.ensures.items c.is_full.ensures.value c.if-not-is_full.true c.is_full.ensures.fits in
    calls_at 0 (asks_at c.args.node.entries.items) c.args.store.now c.write_node.new.store _ (sym few) (calls_quiet _ c.args.store.now c.write_node.new.store _ c.write_node.result (tt, tt) c.write_node.ensures.walk)

pub returns-in_err-fresh-clause-walk : goal.returns-in_err-fresh-clause-walk
returns-in_err-fresh-clause-walk g c =
    let nine = had_nine c.args.node.entries.items c.args.rank c.args.entry c.insert.new.self.items c.is_full.result c.insert.ensures.items c.is_full.ensures.value c.if-not-is_full.false in
    calls_at 1 (asks_at c.args.node.entries.items) c.args.store.now c.fresh.new.self c.from_residual-in_err-fresh.result (sym (asks_nine c.args.node.entries.items nine)) (fresh_refused _ c.args.store.now c.fresh.new.self c.in_err-fresh.field-0.0 c.fresh.result c.from_residual-in_err-fresh.result (omega arith, nine) c.in_err-fresh.was c.fresh.ensures.gives c.fresh.ensures.err c.fresh.ensures.rest c.from_residual-in_err-fresh.ensures.1)

pub returns-in_err-write_node-2-clause-walk : goal.returns-in_err-write_node-2-clause-walk
returns-in_err-write_node-2-clause-walk g c =
    let nine = had_nine c.args.node.entries.items c.args.rank c.args.entry c.insert.new.self.items c.is_full.result c.insert.ensures.items c.is_full.ensures.value c.if-not-is_full.false in
    calls_at 1 (asks_at c.args.node.entries.items) c.args.store.now c.write_node-2.new.store c.from_residual-in_err-write_node-2.result (sym (asks_nine c.args.node.entries.items nine)) (calls_moved c.args.store.now c.write_node-2.new.store c.from_residual-in_err-write_node-2.result c.write_node-2.result c.in_err-write_node-2.field-0.0 c.in_err-write_node-2.was c.from_residual-in_err-write_node-2.ensures.1 (calls_never (MayAskAt c.args.node.entries.items) 1 c.args.store.now c.fresh.new.self c.write_node-2.new.store (Ok (tt {0})) c.write_node-2.result (fresh_done (λ _. ⊥) c.args.store.now c.fresh.new.self c.in_ok-fresh.fresh c.fresh.result (Ok (tt {0})) c.fresh.ensures.gives c.in_ok-fresh.ensures.ok c.fresh.ensures.rest (tt, tt)) c.write_node-2.ensures.walk))

pub returns-in_err-write_node-3-clause-walk : goal.returns-in_err-write_node-3-clause-walk
returns-in_err-write_node-3-clause-walk g c =
    let nine = had_nine c.args.node.entries.items c.args.rank c.args.entry c.insert.new.self.items c.is_full.result c.insert.ensures.items c.is_full.ensures.value c.if-not-is_full.false in
    calls_at 1 (asks_at c.args.node.entries.items) c.args.store.now c.write_node-3.new.store c.from_residual-in_err-write_node-3.result (sym (asks_nine c.args.node.entries.items nine)) (calls_moved c.args.store.now c.write_node-3.new.store c.from_residual-in_err-write_node-3.result c.write_node-3.result c.in_err-write_node-3.field-0.0 c.in_err-write_node-3.was c.from_residual-in_err-write_node-3.ensures.1 (calls_never (MayAskAt c.args.node.entries.items) 1 c.args.store.now c.write_node-2.new.store c.write_node-3.new.store c.write_node-2.result c.write_node-3.result (calls_never (MayAskAt c.args.node.entries.items) 1 c.args.store.now c.fresh.new.self c.write_node-2.new.store (Ok (tt {0})) c.write_node-2.result (fresh_done (λ _. ⊥) c.args.store.now c.fresh.new.self c.in_ok-fresh.fresh c.fresh.result (Ok (tt {0})) c.fresh.ensures.gives c.in_ok-fresh.ensures.ok c.fresh.ensures.rest (tt, tt)) c.write_node-2.ensures.walk) c.write_node-3.ensures.walk))

pub returns-clause-walk : goal.returns-clause-walk
returns-clause-walk g c =
    let nine = had_nine c.args.node.entries.items c.args.rank c.args.entry c.insert.new.self.items c.is_full.result c.insert.ensures.items c.is_full.ensures.value c.if-not-is_full.false in
    calls_at 1 (asks_at c.args.node.entries.items) c.args.store.now c.write_node-3.new.store _ (sym (asks_nine c.args.node.entries.items nine)) (calls_quiet _ c.args.store.now c.write_node-3.new.store _ c.write_node-3.result (tt, tt) (calls_never (MayAskAt c.args.node.entries.items) 1 c.args.store.now c.write_node-2.new.store c.write_node-3.new.store c.write_node-2.result c.write_node-3.result (calls_never (MayAskAt c.args.node.entries.items) 1 c.args.store.now c.fresh.new.self c.write_node-2.new.store (Ok (tt {0})) c.write_node-2.result (fresh_done (λ _. ⊥) c.args.store.now c.fresh.new.self c.in_ok-fresh.fresh c.fresh.result (Ok (tt {0})) c.fresh.ensures.gives c.in_ok-fresh.ensures.ok c.fresh.ensures.rest (tt, tt)) c.write_node-2.ensures.walk) c.write_node-3.ensures.walk))
