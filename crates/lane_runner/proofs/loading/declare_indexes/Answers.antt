use Rattle.std.proofs.Common.{List, ℕ, [], take, refl, subst, ◌∙◌, arith}
use Rattle.std.proofs.lemmas.List.{take_all}
use Rattle.replay_model.specs.TableMap.{loaded}
use Rattle.lane_runner.specs.Loading.{HasLoaded}
use Rattle.lane_runner.proofs.Clocks.{drawn_again, drawn_most, room_among}
use Rattle.lane_runner.proofs.Answered.{no_value}
use Rattle.lane_runner.proofs.Loaded.{index_loaded, lacks_rows, HasLoaded-none, HasLoaded-as}
use Rattle.lane_runner.proofs.loading.declare_indexes.Goals as goal

pub loop-table-init : goal.loop-table-init
loop-table-init c = record {
  engine = c.requires.pass.same;
  loaded = HasLoaded-none c.write_before_is_lawful.ensures c.empty_stands.ensures c.rows_pack.ensures c.args.alone.now.pass c.requires.blank;
  clock = omega arith;
  shared = refl;
}

pub declare-requires-clause-lacks : goal.declare-requires-clause-lacks
declare-requires-clause-lacks c = lacks_rows c.args.alone.now.pass c.loop-table.alone.pass c.args.indexes.now c.loop-table.table-index _ c.requires.indexes.one_each c.loop-table-test.true c.loop-table.invariant.loaded

pub declare-requires-clause-table : goal.declare-requires-clause-table
declare-requires-clause-table c = c.requires.indexes.low c.loop-table.table-index _ c.loop-table-test.true

pub declare-requires-clause-column : goal.declare-requires-clause-column
declare-requires-clause-column c = c.requires.indexes.columns c.loop-table.table-index _ c.loop-table-test.true

pub loop-table-preserved : goal.loop-table-preserved
loop-table-preserved c =
    let i = c.loop-table.invariant in
    let at = c.loop-table.table-index in
    let indexes = c.args.indexes.now in
    let declared = c.in_ok-declare.ensures.declares (loaded [] (take at indexes)) 0 c.args.alone.now.pass i.loaded in
    record {
      engine = declared.adds.1.engine ∙ c.requires.pass.same;
      loaded = HasLoaded-as c.args.alone.now.pass c.declare.new.alone.pass _ _ 0 0 (index_loaded indexes at _ c.requires.indexes.one_each c.loop-table-test.true) refl declared;
      clock = drawn_again _ _ _ _ i.clock c.in_ok-declare.ensures.clock;
      shared = c.declare.ensures.shared ∙ i.shared;
    }

pub returns-clause-loaded : goal.returns-clause-loaded
returns-clause-loaded c =
    subst (λ (indexes : List (ℕ × ℕ)). HasLoaded (loaded [] indexes) 0 c.args.alone.now.pass c.loop-table.alone.pass)
    (take_all c.loop-table.table-index c.args.indexes.now c.loop-table-test.false) c.loop-table.invariant.loaded

pub declare-requires-clause-pass : goal.declare-requires-clause-pass
declare-requires-clause-pass c = record { same = c.loop-table.invariant.engine; idle = c.loop-table.invariant.loaded.holds.idle; fixed = c.requires.pass.fixed }

pub declare-requires-clause-places : goal.declare-requires-clause-places
declare-requires-clause-places c = c.requires.places

pub declare-requires-clause-room : goal.declare-requires-clause-room
declare-requires-clause-room c = room_among c.args.alone.now.pass.clock c.loop-table.alone.pass.clock c.loop-table.table-index _ c.loop-table.invariant.clock c.loop-table-test.true c.requires.room

pub returns-clause-shared : goal.returns-clause-shared
returns-clause-shared c = c.loop-table.invariant.shared

pub returns-clause-clock : goal.returns-clause-clock
returns-clause-clock c = drawn_most c.args.alone.now.pass.clock c.loop-table.alone.pass.clock c.loop-table.table-index _ c.loop-table.invariant.clock c.loop-table.auto.table-index-end

pub returns-in_err-declare-clause-loaded : goal.returns-in_err-declare-clause-loaded
returns-in_err-declare-clause-loaded c = no_value c.from_residual.result _ c.from_residual.ensures.0

pub returns-in_err-declare-clause-clock : goal.returns-in_err-declare-clause-clock
returns-in_err-declare-clause-clock c = no_value c.from_residual.result _ c.from_residual.ensures.0

pub returns-in_err-declare-clause-shared : goal.returns-in_err-declare-clause-shared
returns-in_err-declare-clause-shared c = c.declare.ensures.shared ∙ c.loop-table.invariant.shared
