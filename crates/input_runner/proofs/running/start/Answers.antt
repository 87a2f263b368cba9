use Rattle.std.proofs.Common.{ap, ◌∙◌, arith}
use Rattle.word_layout.specs.Size.{size_of}
use Rattle.txn_engine.specs.Alone.{AloneView}
use Rattle.txn_engine.specs.Pass.{engine_of}
use Rattle.input_runner.proofs.Few.{few_indexes}
use Rattle.input_runner.proofs.running.start.Goals as goal

pub load_rows-requires-clause-room : goal.load_rows-requires-clause-room
load_rows-requires-clause-room c =
    let new = ap (λ (a : AloneView). a.pass.clock) c.in-Ok.ensures.alone in
    let rows = c.requires.within.rows_and_changes in
    let indexes = few_indexes _ c.args.input.now.indexes c.requires.well_formed.indexes in
    omega arith

pub load_rows-requires-clause-records : goal.load_rows-requires-clause-records
load_rows-requires-clause-records c = λ i d within.
    let enough = c.sizes_are_enough.ensures c.args.input.now c.args.seats c.requires.well_formed c.requires.within c.requires.some c.requires.most in
    let found = enough.rows i d within in
    let fixed = c.in-Ok.ensures.fixed in
    let size = ap (λ z. z.records) c.in-Ok.ensures.size in
    let records = c.sizes_of-sizes.ensures.records in
    omega (arith, found, fixed, size, records)

pub returns-clause-engine : goal.returns-clause-engine
returns-clause-engine c = record {
  size = c.in-Ok.ensures.size ∙ (λ i. size_of c.args.seats (c.sizes_of-sizes.ensures.records i) (c.sizes_of-sizes.ensures.spare i));
  fixed = c.in-Ok.ensures.fixed;
}

pub returns-clause-loaded : goal.returns-clause-loaded
returns-clause-loaded c = record {
  engine_is = c.in_ok-load_rows.ensures.loads.adds.1.engine ∙ ap (λ (a : AloneView). engine_of a.pass) c.in-Ok.ensures.alone;
  unshared = c.load_rows.ensures.shared ∙ ap (λ (a : AloneView). a.shared) c.in-Ok.ensures.alone;
  first = c.in-Ok.made.1.pass;
  loads = c.in_ok-load_rows.ensures.loads;
  clock = let new = ap (λ (a : AloneView). a.pass.clock) c.in-Ok.ensures.alone in let at = c.in_ok-load_rows.ensures.clock in omega arith;
}
