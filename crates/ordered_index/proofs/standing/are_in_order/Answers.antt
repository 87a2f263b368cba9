use Rattle.std.proofs.Common.{◌<◌, arith}
use Rattle.std.proofs.lemmas.List.Elements.{All-push, All-same}
use Rattle.std.specs.Prelude.{slice_index}
use Rattle.ordered_index.proofs.Words.{entries_more, entry_is, key_of, no_fall, rises_on}
use Rattle.ordered_index.proofs.standing.are_in_order.Goals as goal

pub returns-then-words-i : goal.returns-then-words-i
returns-then-words-i c = λ stored rising.
    let e = entry_is c.args.words.now (slice_index c.args.words.now 1) c.loop-i.i c.told-words (omega arith) (omega arith) in
    let low = stored c.loop-i.i (key_of 0 0, 0) e.within in
    omega (arith, low, e.rid)

pub returns-then-not-follows : goal.returns-then-not-follows
returns-then-not-follows c = λ stored rising. no_fall c.args.words.now c.loop-i.i c.follows.result c.told-words c.requires (omega arith) c.follows.ensures.first c.follows.ensures.later c.if-not-follows.true rising

pub loop-i-preserved : goal.loop-i-preserved
loop-i-preserved c =
    let more = entries_more c.args.words.now c.loop-i.i c.told-words (omega arith) in
    record {
      within = All-same (λ entry. entry.1 < c.args.size) _ _ more (All-push (λ entry. entry.1 < c.args.size) _ _ c.loop-i.invariant.within (omega arith));
      rising = rises_on c.args.words.now c.loop-i.i c.follows.result c.told-words (omega arith) c.follows.ensures.later c.if-not-follows.false c.loop-i.invariant.rising;
    }
