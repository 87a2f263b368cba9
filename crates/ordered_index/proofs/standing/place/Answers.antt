use Rattle.std.proofs.Common.{◌-◌, ℕ, ap, arith, sym, ◌∙◌}
use Rattle.ordered_index.specs.declared.key.Key.{Key}
use Rattle.ordered_index.specs.Standing.{content_at}
use Rattle.ordered_index.proofs.Order.{ne_true, ne_false}
use Rattle.ordered_index.proofs.Entries.{entry_at-last, entry_at-above}
use Rattle.ordered_index.proofs.Words.{content_counted, content_entry, key_of}
use Rattle.ordered_index.proofs.standing.place.Goals as goal

pub key_of-requires : goal.key_of-requires
key_of-requires c = omega (arith, c.rank_of-rank.ensures.within, c.requires.few, content_counted c.args.words.now c.told-words c.requires.few)

pub returns-then-rank-eq0-clause-absent : goal.returns-then-rank-eq0-clause-absent
returns-then-rank-eq0-clause-absent c = entry_at-above c.args.key (content_at c.args.words.now).entries (rw c.if-rank-eq0.true at c.rank_of-rank.ensures.above)

pub returns-then-ne-clause-absent : goal.returns-then-ne-clause-absent
returns-then-ne-clause-absent c =
    let counted = content_counted c.args.words.now c.told-words c.requires.few in
    let here = content_entry c.args.words.now (c.rank_of-rank.result - 1) (key_of 0 0, 0) c.told-words c.requires.few (omega (arith, counted, c.rank_of-rank.ensures.within)) in
    entry_at-last (content_at c.args.words.now).entries c.rank_of-rank.result (key_of 0 0, 0) c.args.key c.requires.rising (omega arith) c.rank_of-rank.ensures.within c.rank_of-rank.ensures.above c.rank_of-rank.ensures.last
    (λ same. ne_true c.key_of.result c.args.key (sym c.ne.ensures ∙ c.if-ne.true) (c.key_of.ensures ∙ ap (λ (e : Key × ℕ). e.0) (sym here) ∙ same))

pub returns-clause-place : goal.returns-clause-place
returns-clause-place c =
    let counted = content_counted c.args.words.now c.told-words c.requires.few in
    record {
      within = omega (arith, c.rank_of-rank.ensures.within);
      here = λ d. ap (λ (e : Key × ℕ). e.0) (content_entry c.args.words.now (c.rank_of-rank.result - 1) d c.told-words c.requires.few (omega (arith, counted, c.rank_of-rank.ensures.within))) ∙ sym c.key_of.ensures ∙ ne_false c.key_of.result c.args.key (sym c.ne.ensures ∙ c.if-ne.false);
    }
