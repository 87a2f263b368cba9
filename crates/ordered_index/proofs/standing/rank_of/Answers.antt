use Rattle.std.proofs.Common.{◌-◌, true, false, arith, sym, ap, ◌∙◌}
use Rattle.std.specs.Prelude.{slice_index}
use Rattle.ordered_index.specs.Standing.{content_at}
use Rattle.ordered_index.specs.Keys.{is_before}
use Rattle.ordered_index.proofs.Entries.{above_end, rank_down, rank_none, rank_some, rank_at}
use Rattle.ordered_index.proofs.Words.{content_counted, key_before, key_of}
use Rattle.ordered_index.proofs.standing.rank_of.Goals as goal

pub loop-rank-init : goal.loop-rank-init
loop-rank-init c = record { within = omega arith; above = above_end c.args.key (content_at c.args.words.now).entries (slice_index c.args.words.now 1) (content_counted c.args.words.now c.told-words c.requires) }

pub loop-rank-preserved : goal.loop-rank-preserved
loop-rank-preserved c =
    let counted = content_counted c.args.words.now c.told-words c.requires in
    let before = key_before c.args.words.now (c.loop-rank.rank - 1) c.args.key true c.told-words c.requires (omega arith) (ap (is_before c.args.key) (sym c.key_of.ensures) ∙ sym c.is_before.ensures ∙ c.if-is_before.true) in
    record {
      within = omega arith;
      above = rank_down (content_at c.args.words.now).entries c.loop-rank.rank (key_of 0 0, 0) c.args.key (omega arith) (omega arith) c.loop-rank.invariant.above before;
    }

pub returns-else-is_before-clause-within : goal.returns-else-is_before-clause-within
returns-else-is_before-clause-within c = omega (arith, c.loop-rank.invariant.within, content_counted c.args.words.now c.told-words c.requires)

pub returns-else-is_before-clause-last : goal.returns-else-is_before-clause-last
returns-else-is_before-clause-last c =
    let counted = content_counted c.args.words.now c.told-words c.requires in
    let before = key_before c.args.words.now (c.loop-rank.rank - 1) c.args.key false c.told-words c.requires (omega arith) (ap (is_before c.args.key) (sym c.key_of.ensures) ∙ sym c.is_before.ensures ∙ c.if-is_before.false) in
    rank_some (content_at c.args.words.now).entries c.loop-rank.rank (key_of 0 0, 0) c.args.key c.loop-rank.invariant.above (omega arith) (omega arith) before

pub returns-after-loop-rank-clause-last : goal.returns-after-loop-rank-clause-last
returns-after-loop-rank-clause-last c = rank_none (content_at c.args.words.now).entries c.loop-rank.rank c.args.key c.loop-rank.invariant.above (omega arith)

pub returns-else-is_before-clause-rank : goal.returns-else-is_before-clause-rank
returns-else-is_before-clause-rank c = record {
  within = returns-else-is_before-clause-within c;
  above = c.loop-rank.invariant.above;
  last = λ d some. rank_at (content_at c.args.words.now).entries c.loop-rank.rank d c.args.key some (returns-else-is_before-clause-within c) (returns-else-is_before-clause-last c);
}
