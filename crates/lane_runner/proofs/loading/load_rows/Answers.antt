use Rattle.std.proofs.Common.{◌≡◌, ℕ, ◌≤◌, List, [], length, sym, subst, ◌∙◌}
use Rattle.record_store.specs.Limits.{record_limit}
use Rattle.replay_model.specs.Input.{RowsDiffer}
use Rattle.replay_model.specs.TableMap.{Row, loaded}
use Rattle.txn_engine.specs.Pass.{EngineView, engine_of}
use Rattle.lane_runner.specs.Loading.{HasLoaded, AreIndexesOf, AreRowsOf, FindRecords}
use Rattle.lane_runner.specs.Room.{HasRoom, clock_after}
use Rattle.lane_runner.proofs.Clocks.{drawn_both, room_behind, room_part}
use Rattle.lane_runner.proofs.Answered.{no_value}
use Rattle.lane_runner.proofs.Loaded.{HasLoaded-again, Loads-whole, swapped}
use Rattle.lane_runner.proofs.loading.load_rows.Goals as goal

pub put_rows-requires-clause-loaded : goal.put_rows-requires-clause-loaded
put_rows-requires-clause-loaded c =
    let p = c.args.alone.now.pass in
    let q = c.declare_indexes.new.alone.pass in
    subst (λ (xs : List (ℕ × ℕ)). HasLoaded (loaded [] xs) 0 q q) (c.as_slice.ensures ∙ sym c.as_slice-3.ensures) (HasLoaded-again p q (loaded [] c.as_slice.result.now) 0 c.in_ok-declare_indexes.ensures.loaded)

pub put_rows-requires-clause-rows : goal.put_rows-requires-clause-rows
put_rows-requires-clause-rows c = subst (λ (xs : List (ℕ × ℕ × Row)). AreRowsOf xs) (sym c.as_slice-2.ensures) c.requires.rows

pub put_rows-requires-clause-differ : goal.put_rows-requires-clause-differ
put_rows-requires-clause-differ c = subst (λ (xs : List (ℕ × ℕ × Row)). RowsDiffer xs) (sym c.as_slice-2.ensures) c.requires.input.rows_differ

pub put_rows-requires-clause-room : goal.put_rows-requires-clause-room
put_rows-requires-clause-room c =
    let p = c.args.alone.now.pass in
    let q = c.declare_indexes.new.alone.pass in
    let input = c.args.input.now in
    let drawn : q.clock ≤ clock_after p.clock (length input.indexes) = subst (λ (xs : List (ℕ × ℕ)). q.clock ≤ clock_after p.clock (length xs)) c.as_slice.ensures c.in_ok-declare_indexes.ensures.clock in
    let room : HasRoom q.clock (length input.rows) =
    room_behind p.clock q.clock (length input.indexes) (length input.rows) drawn (subst (λ (n : ℕ). HasRoom p.clock n) (swapped (length input.rows) (length input.indexes)) c.requires.room) in
    subst (λ (xs : List (ℕ × ℕ × Row)). HasRoom q.clock (length xs)) (sym c.as_slice-2.ensures) room

pub returns-clause-loads : goal.returns-clause-loads
returns-clause-loads c =
    let p = c.args.alone.now.pass in
    let q = c.declare_indexes.new.alone.pass in
    let w = c.put_rows.new.alone.pass in
    let input = c.args.input.now in
    let before = c.in_ok-declare_indexes.ensures.loaded.adds in
    let rows : HasLoaded (loaded input.rows c.as_slice-3.result.now) (length input.rows) q w =
    subst (λ (xs : List (ℕ × ℕ × Row)). HasLoaded (loaded xs c.as_slice-3.result.now) (length xs) q w) c.as_slice-2.ensures c.in_ok-put_rows.ensures.loaded in
    let so_far : HasLoaded (loaded input.rows input.indexes) (length input.rows) q w =
    subst (λ (xs : List (ℕ × ℕ)). HasLoaded (loaded input.rows xs) (length input.rows) q w) c.as_slice-3.ensures rows in
    let engine : engine_of w ≡ c.args.engine.now = so_far.adds.1.engine ∙ before.1.engine ∙ c.requires.pass.same in
    Loads-whole input p q w c.rows_pack.ensures c.fits_more.ensures (subst (λ (e : EngineView). e.size.records ≤ record_limit) (sym engine) c.records.ensures.in_range.records_in_range) before so_far

pub returns-clause-clock : goal.returns-clause-clock
returns-clause-clock c =
    let p = c.args.alone.now.pass in
    let q = c.declare_indexes.new.alone.pass in
    let w = c.put_rows.new.alone.pass in
    let input = c.args.input.now in
    let drawn : q.clock ≤ clock_after p.clock (length input.indexes) = subst (λ (xs : List (ℕ × ℕ)). q.clock ≤ clock_after p.clock (length xs)) c.as_slice.ensures c.in_ok-declare_indexes.ensures.clock in
    let more : w.clock ≤ clock_after q.clock (length input.rows) = subst (λ (xs : List (ℕ × ℕ × Row)). w.clock ≤ clock_after q.clock (length xs)) c.as_slice-2.ensures c.in_ok-put_rows.ensures.clock in
    subst (λ (n : ℕ). w.clock ≤ clock_after p.clock n) (swapped (length input.indexes) (length input.rows)) (drawn_both p.clock q.clock w.clock (length input.indexes) (length input.rows) drawn more)

pub declare_indexes-requires-clause-pass : goal.declare_indexes-requires-clause-pass
declare_indexes-requires-clause-pass c = c.requires.pass

pub declare_indexes-requires-clause-blank : goal.declare_indexes-requires-clause-blank
declare_indexes-requires-clause-blank c = c.requires.blank

pub declare_indexes-requires-clause-places : goal.declare_indexes-requires-clause-places
declare_indexes-requires-clause-places c = c.requires.places

pub declare_indexes-requires-clause-indexes : goal.declare_indexes-requires-clause-indexes
declare_indexes-requires-clause-indexes c =
    let i = c.requires.input.indexes in
    subst (λ (xs : List (ℕ × ℕ)). AreIndexesOf xs) (sym c.as_slice.ensures) (record { low = λ at other fewer. (i.each at other fewer).low; columns = λ at other fewer. (i.each at other fewer).column; one_each = i.one_each })

pub declare_indexes-requires-clause-room : goal.declare_indexes-requires-clause-room
declare_indexes-requires-clause-room c =
    let input = c.args.input.now in
    subst (λ (xs : List (ℕ × ℕ)). HasRoom c.args.alone.now.pass.clock (length xs)) (sym c.as_slice.ensures) (room_part c.args.alone.now.pass.clock (length input.rows) (length input.indexes) c.requires.room)

pub put_rows-requires-clause-pass : goal.put_rows-requires-clause-pass
put_rows-requires-clause-pass c = let loaded = c.in_ok-declare_indexes.ensures.loaded in record { same = loaded.adds.1.engine ∙ c.requires.pass.same; idle = loaded.holds.idle; fixed = c.requires.pass.fixed }

pub put_rows-requires-clause-places : goal.put_rows-requires-clause-places
put_rows-requires-clause-places c = c.requires.places

pub put_rows-requires-clause-records : goal.put_rows-requires-clause-records
put_rows-requires-clause-records c =
    let e = c.args.engine.now in
    subst (λ (xs : List (ℕ × ℕ × Row)). FindRecords xs c.as_slice-3.result.now e.fixed e.size.records) (sym c.as_slice-2.ensures)
    (subst (λ (xs : List (ℕ × ℕ)). FindRecords c.args.input.now.rows xs e.fixed e.size.records) (sym c.as_slice-3.ensures) c.requires.records)

pub returns-clause-shared : goal.returns-clause-shared
returns-clause-shared c = c.put_rows.ensures.shared ∙ c.declare_indexes.ensures.shared

pub returns-in_err-declare_indexes-clause-shared : goal.returns-in_err-declare_indexes-clause-shared
returns-in_err-declare_indexes-clause-shared c = c.declare_indexes.ensures.shared

pub returns-in_err-put_rows-clause-shared : goal.returns-in_err-put_rows-clause-shared
returns-in_err-put_rows-clause-shared c = c.put_rows.ensures.shared ∙ c.declare_indexes.ensures.shared

pub returns-in_err-declare_indexes-clause-loads : goal.returns-in_err-declare_indexes-clause-loads
returns-in_err-declare_indexes-clause-loads c = no_value c.from_residual.result _ c.from_residual.ensures.0

pub returns-in_err-declare_indexes-clause-clock : goal.returns-in_err-declare_indexes-clause-clock
returns-in_err-declare_indexes-clause-clock c = no_value c.from_residual.result _ c.from_residual.ensures.0

pub returns-in_err-put_rows-clause-loads : goal.returns-in_err-put_rows-clause-loads
returns-in_err-put_rows-clause-loads c = no_value c.from_residual-in_err-put_rows.result _ c.from_residual-in_err-put_rows.ensures.0

pub returns-in_err-put_rows-clause-clock : goal.returns-in_err-put_rows-clause-clock
returns-in_err-put_rows-clause-clock c = no_value c.from_residual-in_err-put_rows.result _ c.from_residual-in_err-put_rows.ensures.0
