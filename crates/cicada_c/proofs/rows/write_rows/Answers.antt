use Rattle.std.proofs.Common.{length, map, ◌<◌, slice_set, ◌∙◌, ap, arith}
use Rattle.cicada_c.specs.Writing.{written}
use Rattle.cicada_c.proofs.Written.{set_written}
use Rattle.cicada_c.proofs.rows.write_rows.Goals as goal

pub loop-i-preserved : goal.loop-i-preserved
loop-i-preserved c =
    let found = c.args.found.now in
    let i = c.loop-i.i in
    let pair = c.index-found-i.result in
    let there : i < length found = omega arith in
    let key_room : i < length c.args.keys.now = omega arith in
    let row_room : i < length c.args.rows.now = omega arith in (
      ap (λ keys. slice_set keys i pair.0) c.loop-i.invariant.0
          ∙ ap (λ p. slice_set (written i (map (λ row. row.0) found) c.args.keys.now) i p.0) c.index-found-i.is
          ∙ set_written (λ row. row.0) found c.args.keys.now i pair there key_room,
      ap (λ rows. slice_set rows i c.values.result) c.loop-i.invariant.1
          ∙ ap (λ columns. slice_set (written i (map (λ row. row.1) found) c.args.rows.now) i columns) (c.values.ensures ∙ ap (λ p. p.1) c.index-found-i.is)
          ∙ set_written (λ row. row.1) found c.args.rows.now i pair there row_room,
    )
