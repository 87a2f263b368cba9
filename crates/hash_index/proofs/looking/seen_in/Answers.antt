use Rattle.std.proofs.Common.{◌≡◌, ◌<◌, ◌+◌, ◌*◌, get_or, sym, ap, ◌∙◌, refl, arith}
use Rattle.std.specs.Prelude.{not}
use Rattle.std.proofs.lemmas.List.Elements.{All-push, All-same}
use Rattle.hash_index.specs.Looking.{seen_of}
use Rattle.hash_index.specs.declared.looking.Seen.TheVariants.{Found, Next, End}
use Rattle.hash_index.proofs.Words.{pairs_more, rid_within}
use Rattle.hash_index.proofs.Seen.{passes, beside_more, beside_first, beside_before, beside_other, is_seen}
use Rattle.hash_index.proofs.looking.seen_in.Goals as goal
use Rattle.hash_index.proofs.looking.seen_in.Goals.{then-words-i+then-is_none, else-words-i, else-words-i-via-then-words-i+else-is_none, else-words-i-via-else-words-i}

pub returns-then-rid-from-clause-no_node : goal.returns-then-rid-from-clause-no_node
returns-then-rid-from-clause-no_node c = λ node.
    let low = rid_within c.args.words.now c.loop-i.i c.args.size c.told-words (omega (arith, node.few)) (omega arith) node.records in
    omega arith

pub loop-i-preserved : goal.loop-i-preserved
loop-i-preserved c =
    let few = c.in_ok-next.ensures.named.few in
    let low : c.loop-i.i < 15 = omega (arith, few) in
    let more = pairs_more c.args.words.now c.loop-i.i c.told-words low in
    let first = get_or c.args.words.now (2 + 2 * c.loop-i.i) 0 in
    let rid = get_or c.args.words.now (3 + 2 * c.loop-i.i) 0 in
    record {
      within = All-same (λ pair. pair.1 < c.args.size) _ _ more (All-push (λ pair. pair.1 < c.args.size) _ _ c.loop-i.invariant.within (omega arith));
      found =
          passes c.args.words.now c.loop-i.i c.args.key c.loop-i.found c.if-words-i.found c.told-words low c.loop-i.invariant.found
          (elim c.if-words-i.branch as (λ _. c.if-words-i.found ≡ beside_more c.loop-i.found c.args.key first rid) [
            | then-words-i+then-is_none w ↦ w.found-is ∙ beside_first c.loop-i.found c.args.key first rid (w.is_none.ensures ∙ ap not w.if-is_none.true) w.if-words-i.true
            | else-words-i w ↦ elim w.else-words-i.branch as (λ _. c.if-words-i.found ≡ beside_more c.loop-i.found c.args.key first rid) [
              | else-words-i-via-then-words-i+else-is_none w' ↦ w.found-is ∙ beside_before c.loop-i.found c.args.key first rid (w'.is_none.ensures ∙ ap not w'.if-is_none.false)
              | else-words-i-via-else-words-i w' ↦ w.found-is ∙ beside_other c.loop-i.found c.args.key first rid w'.if-words-i.false
            ]
          ]);
    }

pub returns-in-Some-default-clause-seen : goal.returns-in-Some-default-clause-seen
returns-in-Some-default-clause-seen c = is_seen c.args.size c.args.position c.args.key c.loop-i.i c.args.words.now c.loop-i.found c.in_ok-next.next (Found c.in-Some-default.rid) c.in_ok-next.ensures.named (omega arith) c.loop-i.invariant.within c.loop-i.invariant.found (ap (λ b. seen_of b c.in_ok-next.next) (sym c.in-Some-default.is-0))

pub returns-in-None-Some-clause-seen : goal.returns-in-None-Some-clause-seen
returns-in-None-Some-clause-seen c = is_seen c.args.size c.args.position c.args.key c.loop-i.i c.args.words.now c.loop-i.found c.in_ok-next.next (Next c.in-None-Some.next) c.in_ok-next.ensures.named (omega arith) c.loop-i.invariant.within c.loop-i.invariant.found (rw (c.in-None-Some.is-0, c.in-None-Some.is-1) refl)

pub returns-in-None-None-clause-seen : goal.returns-in-None-None-clause-seen
returns-in-None-None-clause-seen c = is_seen c.args.size c.args.position c.args.key c.loop-i.i c.args.words.now c.loop-i.found c.in_ok-next.next End c.in_ok-next.ensures.named (omega arith) c.loop-i.invariant.within c.loop-i.invariant.found (rw (c.in-None-None.is-0, c.in-None-None.is-1) refl)
