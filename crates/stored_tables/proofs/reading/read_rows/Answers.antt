use Rattle.std.proofs.Common.{◌≡◌, take, length, Ok, refl, sym, ap, subst, ◌∙◌, arith}
use Rattle.record_store.specs.States.{EachState}
use Rattle.ordered_index.specs.Tree.{In}
use Rattle.record_store.proofs.Refusals.{IfTorn-map, torn_moved}
use Rattle.stored_tables.specs.Rows.{entry_records, part_in}
use Rattle.stored_tables.specs.Tears.{IsNoRow}
use Rattle.stored_tables.proofs.Tearing.{in_at, tears_behind}
use Rattle.stored_tables.proofs.Runs.{looks_begin, looks_memory, looks_moved, looks_value}
use Rattle.stored_tables.proofs.Listed.{pushed, row_read, all_listed}
use Rattle.stored_tables.proofs.reading.read_rows.Goals as goal

pub returns-then-is_err-clause-looks : goal.returns-then-is_err-clause-looks
returns-then-is_err-clause-looks g c =
    looks_memory _ c.args.store.now c.args.store.now (Ok (tt {0}))
    (looks_begin {F = g.row.S-Fault.Denot} _ (λ _ _ _. Unit {0}) c.args.store.now tt (λ state rows lists. tt))

pub loop-key-init : goal.loop-key-init
loop-key-init g c = record {
  looks = looks_begin {F = g.row.S-Fault.Denot} _ _ c.args.store.now tt (λ state rows lists. c.reserve.ensures.items
      ∙ c.new-pairs.ensures.items);
  rest = refl;
  nothing = λ none. refl;
}

pub returns-in_err-row-clause-looks : goal.returns-in_err-row-clause-looks
returns-in_err-row-clause-looks g c =
    looks_moved _ c.args.store.now c.row_at.new.store c.from_residual.result c.row_at.result c.in_err-row.field-0.0
    (row_read (part_in c.args.part) c.args.entries.now c.loop-key.pairs.items c.loop-key.key-index _ _ _ c.args.store.now
    c.loop-key.store c.row_at.new.store c.row_at.result c.loop-key-test.true refl refl c.loop-key.invariant.looks
    c.row_at.ensures.looks) c.in_err-row.was c.from_residual.ensures.1

pub returns-then-is_err-2-clause-looks : goal.returns-then-is_err-2-clause-looks
returns-then-is_err-2-clause-looks g c =
    looks_memory _ c.args.store.now c.row_at.new.store c.row_at.result
    (row_read (part_in c.args.part) c.args.entries.now c.loop-key.pairs.items c.loop-key.key-index _ _ _ c.args.store.now
    c.loop-key.store c.row_at.new.store c.row_at.result c.loop-key-test.true c.part_of.ensures refl c.loop-key.invariant.looks
    c.row_at.ensures.looks)

pub loop-key-preserved : goal.loop-key-preserved
loop-key-preserved g c = record {
  looks = looks_value _ c.args.store.now c.row_at.new.store c.row_at.result _ _
      (row_read (part_in c.args.part) c.args.entries.now c.loop-key.pairs.items c.loop-key.key-index _ _ _ c.args.store.now
      c.loop-key.store c.row_at.new.store c.row_at.result c.loop-key-test.true c.part_of.ensures refl c.loop-key.invariant.looks
      c.row_at.ensures.looks) c.in_ok-row.was
      (λ state rows agrees lists is. pushed _ _ _ _ _ c.push.ensures.items c.is_err-in-loop-key.ensures.negation c.if-is_err-2.false
      ∙ is);
  rest = c.row_at.ensures.rest ∙ c.loop-key.invariant.rest;
  nothing = λ none. (let e = ap length none in absurd (omega (arith, e, c.loop-key-test.true)));
}

pub returns-clause-looks : goal.returns-clause-looks
returns-clause-looks g c =
    looks_value _ c.args.store.now c.loop-key.store (Ok (tt {0})) _ _ c.loop-key.invariant.looks refl
    (λ state rows agrees lists is. (let whole : c.loop-key.key-index ≡ length c.args.entries.now = omega
    (arith, c.loop-key-test.false, c.loop-key.auto.key-index-end) in c.from_vec.ensures ∙ is ∙ ap (λ n. take n rows) whole
    ∙ all_listed _ (part_in c.args.part) c.args.entries.now rows lists))

pub returns-in_err-row-clause-tears : goal.returns-in_err-row-clause-tears
returns-in_err-row-clause-tears g c =
    torn_moved c.from_residual.result c.row_at.result c.in_err-row.field-0.0 _ c.in_err-row.was c.from_residual.ensures.1
    (IfTorn-map c.row_at.result
    (λ rid t. subst (λ torn. In torn (entry_records c.args.entries.now) × EachState (g.S.RecordRead.meaning c.args.store.now) (g.S.RecordRead.meaning c.row_at.new.store) (IsNoRow torn)) (sym t.0) (
      in_at c.args.entries.now c.loop-key.key-index _ c.loop-key-test.true,
      tears_behind (IsNoRow _) (g.S.RecordRead.meaning c.args.store.now) (g.S.RecordRead.meaning c.loop-key.store)
          (g.S.RecordRead.meaning c.row_at.new.store) c.loop-key.invariant.looks.by.only t.1,
    )) c.row_at.ensures.tears)
