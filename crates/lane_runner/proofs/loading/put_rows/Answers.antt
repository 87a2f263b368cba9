use Rattle.std.proofs.Common.{List, ℕ, ◌<◌, take, refl, sym, ap, subst, ◌∙◌, arith}
use Rattle.std.proofs.lemmas.List.{take_all}
use Rattle.replay_model.specs.TableMap.{Row, loaded}
use Rattle.txn_engine.specs.Pass.{EngineView}
use Rattle.lane_runner.proofs.Clocks.{drawn_again, drawn_most, room_among}
use Rattle.lane_runner.proofs.Answered.{no_value}
use Rattle.lane_runner.proofs.Loaded.{row_loaded, absent_row, room_row, HasLoaded-as}
use Rattle.lane_runner.proofs.loading.put_rows.Goals as goal

pub loop-row-init : goal.loop-row-init
loop-row-init c = record { engine = c.requires.pass.same; loaded = c.requires.loaded; clock = omega arith; shared = refl }

pub put_row-requires-clause-holds : goal.put_row-requires-clause-holds
put_row-requires-clause-holds c = c.loop-row.invariant.loaded.holds

pub put_row-requires-clause-table : goal.put_row-requires-clause-table
put_row-requires-clause-table c = subst (λ (row : ℕ × ℕ × Row). row.0 < 8) (sym c.row-item.is) (c.requires.rows c.loop-row.row-index c.row-item.result c.loop-row-test.true)

pub put_row-requires-clause-records : goal.put_row-requires-clause-records
put_row-requires-clause-records c =
    let engine = c.loop-row.invariant.engine in
    room_row c.args.alone.now.pass c.loop-row.alone.pass c.args.rows.now c.args.indexes.now c.loop-row.row-index c.row-item.result c.args.engine.now.fixed c.args.engine.now.size.records c.row-item.is c.loop-row-test.true
    (ap (λ (e : EngineView). e.fixed) engine) (ap (λ (e : EngineView). e.size.records) engine) c.requires.records c.rows_pack.ensures c.loop-row.invariant.loaded

pub loop-row-preserved : goal.loop-row-preserved
loop-row-preserved c =
    let i = c.loop-row.invariant in
    let at = c.loop-row.row-index in
    let row = c.row-item.result in
    let rows = c.args.rows.now in
    let indexes = c.args.indexes.now in
    let put = c.in_ok-put_row.ensures.puts (loaded (take at rows) indexes) at c.args.alone.now.pass (absent_row rows indexes at row c.requires.differ c.row-item.is c.loop-row-test.true) i.loaded in
    record {
      engine = put.adds.1.engine ∙ c.requires.pass.same;
      loaded = HasLoaded-as c.args.alone.now.pass c.put_row.new.alone.pass _ _ _ _ (row_loaded rows indexes at row c.requires.differ c.row-item.is c.loop-row-test.true) refl put;
      clock = drawn_again _ _ _ _ i.clock c.in_ok-put_row.ensures.clock;
      shared = c.put_row.ensures.shared ∙ i.shared;
    }

pub returns-clause-loaded : goal.returns-clause-loaded
returns-clause-loaded c =
    HasLoaded-as c.args.alone.now.pass c.loop-row.alone.pass _ _ _ _ (ap (λ (rows : List (ℕ × ℕ × Row)). loaded rows c.args.indexes.now) (take_all c.loop-row.row-index c.args.rows.now c.loop-row-test.false))
    (omega (arith, c.loop-row-test.false, c.loop-row.auto.row-index-end)) c.loop-row.invariant.loaded

pub put_row-requires-clause-pass : goal.put_row-requires-clause-pass
put_row-requires-clause-pass c = record { same = c.loop-row.invariant.engine; idle = c.loop-row.invariant.loaded.holds.idle; fixed = c.requires.pass.fixed }

pub put_row-requires-clause-places : goal.put_row-requires-clause-places
put_row-requires-clause-places c = c.requires.places

pub put_row-requires-clause-room : goal.put_row-requires-clause-room
put_row-requires-clause-room c = room_among c.args.alone.now.pass.clock c.loop-row.alone.pass.clock c.loop-row.row-index _ c.loop-row.invariant.clock c.loop-row-test.true c.requires.room

pub returns-clause-shared : goal.returns-clause-shared
returns-clause-shared c = c.loop-row.invariant.shared

pub returns-clause-clock : goal.returns-clause-clock
returns-clause-clock c = drawn_most c.args.alone.now.pass.clock c.loop-row.alone.pass.clock c.loop-row.row-index _ c.loop-row.invariant.clock c.loop-row.auto.row-index-end

pub returns-in_err-put_row-clause-loaded : goal.returns-in_err-put_row-clause-loaded
returns-in_err-put_row-clause-loaded c = no_value c.from_residual.result _ c.from_residual.ensures.0

pub returns-in_err-put_row-clause-clock : goal.returns-in_err-put_row-clause-clock
returns-in_err-put_row-clause-clock c = no_value c.from_residual.result _ c.from_residual.ensures.0

pub returns-in_err-put_row-clause-shared : goal.returns-in_err-put_row-clause-shared
returns-in_err-put_row-clause-shared c = c.put_row.ensures.shared ∙ c.loop-row.invariant.shared
