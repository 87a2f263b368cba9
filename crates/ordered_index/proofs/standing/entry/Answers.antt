use Rattle.std.proofs.Common.{◌+◌, ◌*◌, ap, sym, ◌∙◌, arith}
use Rattle.std.specs.Prelude.{slice_index}
use Rattle.ordered_index.specs.Keys.{first_key}
use Rattle.ordered_index.proofs.Words.{content_counted, content_entry, rid_fits}
use Rattle.ordered_index.proofs.standing.entry.Goals as goal

pub overflow_cast-rid : goal.overflow_cast-rid
overflow_cast-rid c =
    let low = rid_fits c.args.words.now c.args.i c.args.size c.told-words c.requires.node c.requires.within in
    omega (arith, low)

pub returns : goal.returns
returns c =
    ap (λ k. (k, slice_index c.args.words.now (6 + 3 * c.args.i))) c.key_of.ensures
    ∙ sym (content_entry c.args.words.now c.args.i (first_key, 0) c.told-words c.requires.node.few (omega (arith, c.requires.within, content_counted c.args.words.now c.told-words c.requires.node.few)))
