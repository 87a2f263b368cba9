use Rattle.std.proofs.Common.{◌∙◌, sym, ap, arith, eq-eqb, ne_eqb}
use Rattle.hash_index.specs.Node.{pairs_of}
use Rattle.hash_index.proofs.Words.{pair_is, length-pairs_of}
use Rattle.hash_index.proofs.Pairs.{position_here, position_none, fails_next}
use Rattle.hash_index.proofs.node.find.Goals as goal

pub returns-then-words-i : goal.returns-then-words-i
returns-then-words-i c =
    let pair = pair_is c.args.words.now c.loop-i.i c.told-words (omega arith) (omega arith) in
    sym (position_here (pairs_of c.args.words.now) c.args.key c.loop-i.i pair.0 (eq-eqb _ _ (ap (λ p. p.0) pair.1 ∙ c.if-words-i.true)) c.loop-i.invariant)

pub loop-i-preserved : goal.loop-i-preserved
loop-i-preserved c =
    let pair = pair_is c.args.words.now c.loop-i.i c.told-words (omega arith) (omega arith) in
    fails_next (pairs_of c.args.words.now) c.args.key c.loop-i.i c.loop-i.invariant (ne_eqb _ _ (λ same. c.if-words-i.false (sym (ap (λ p. p.0) pair.1) ∙ same)))

pub returns : goal.returns
returns c =
    let long = length-pairs_of c.args.words.now c.told-words c.requires in
    sym (position_none (pairs_of c.args.words.now) c.args.key (λ k below. c.loop-i.invariant k (omega arith)))
