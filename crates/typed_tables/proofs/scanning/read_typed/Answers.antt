use Rattle.std.proofs.Common.{◌≡◌, ◌<◌, ℕ, List, length, get_or, ap, subst, sym, ◌∙◌, arith}
use Rattle.std.proofs.lemmas.List.{take_all}
use Rattle.replay_model.specs.TableMap.{Row}
use Rattle.typed_tables.specs.Typed.{AllTyped}
use Rattle.typed_tables.proofs.Scans.{first_foreign}
use Rattle.typed_tables.proofs.scanning.read_typed.Goals as goal

pub returns-in_default-clause-foreign : goal.returns-in_default-clause-foreign
returns-in_default-clause-foreign g c =
    let within : c.loop-key.key-index < length c.args.pairs.now = omega (arith, ap length c.as_slice-key-items.ensures, c.loop-key-test.true) in
    let here : c.loop-key-item.result ≡ get_or c.args.pairs.now c.loop-key.key-index c.loop-key-item.result = c.loop-key-item.is
    ∙ ap (λ (ps : List (ℕ × Row)). get_or ps c.loop-key.key-index c.loop-key-item.result) c.as_slice-key-items.ensures in
    first_foreign g.R.Row.row_of c.args.pairs.now c.loop-key.invariant.rows c.loop-key.key-index c.loop-key-item.result within here
    (sym c.decode.ensures.row ∙ c.in_default.is) c.loop-key.invariant.typed.typed

pub returns-clause-typed : goal.returns-clause-typed
returns-clause-typed g c =
    let P : List (ℕ × Row) → Type 0 = λ ps. AllTyped g.R.Row.row_of g.R.Row.columns_of ps c.loop-key.invariant.rows in (
      c.loop-key.invariant.rows,
      c.loop-key.invariant.grown,
      subst P (take_all c.loop-key.key-index c.args.pairs.now (omega (arith, ap length c.as_slice-key-items.ensures, c.loop-key-test.false)))
          c.loop-key.invariant.typed,
    )
