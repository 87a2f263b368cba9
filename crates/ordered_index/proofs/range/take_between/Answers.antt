use Rattle.std.proofs.Common.{◌≡◌, ℕ, ◌+◌, ◌-◌, ◌<◌, ◌≤◌, [], ◌∷◌, ◌++◌, length, get_or, take, true, sym, ap, ◌∙◌, arith, rules, inl}
use Rattle.std.specs.Prelude.{not, is_ok}
use Rattle.std.proofs.lemmas.List.{append_assoc, length-append}
use Rattle.ordered_index.specs.declared.key.Key.{Key}
use Rattle.ordered_index.specs.Keys.{first_key, is_before}
use Rattle.ordered_index.specs.Standing.{content_at}
use Rattle.ordered_index.specs.Scan.{between}
use Rattle.ordered_index.proofs.Between.{between_ends, between_fills, between_skips, between_takes, between_whole, has_behind}
use Rattle.ordered_index.proofs.Words.{content_counted}
use Rattle.ordered_index.proofs.range.take_between.Goals as goal

pub entry-pair-requires-clause-within : goal.entry-pair-requires-clause-within
entry-pair-requires-clause-within c = omega (arith, c.loop-i-test.true, content_counted c.args.words.now c.told-words c.requires.node.few)

pub returns-then-is_before-clause-items : goal.returns-then-is_before-clause-items
returns-then-is_before-clause-items c =
    let old = c.args.out.now.items in
    let n = c.args.most - length old in
    let xs = (content_at c.args.words.now).entries in
    let i = c.loop-i.i in
    let within : i < length xs = omega (arith, c.loop-i-test.true, content_counted c.args.words.now c.told-words c.requires.node.few) in
    let so_far = c.loop-i.invariant.items in
    let few : length (between c.args.lo c.args.hi (take i xs)) ≤ n = omega (arith, ap length so_far, length-append old (between c.args.lo c.args.hi (take i xs)), c.loop-i.out.ok.0, c.loop-i.invariant.some) in
    so_far
    ∙ ap (λ ys. old ++ ys) (between_ends c.args.lo c.args.hi xs i n (first_key, 0) c.requires.node.sound.rising within (ap (λ (e : Key × ℕ). is_before c.args.hi e.0) (sym c.entry-pair.ensures) ∙ sym c.is_before.ensures ∙ c.if-is_before.true) few)

pub returns-then-is_before-clause-ends : goal.returns-then-is_before-clause-ends
returns-then-is_before-clause-ends c = λ no.
    let xs = (content_at c.args.words.now).entries in
    let within : c.loop-i.i < length xs = omega (arith, c.loop-i-test.true, content_counted c.args.words.now c.told-words c.requires.node.few) in
    inl (has_behind c.args.hi xs c.loop-i.i (first_key, 0) within (ap (λ (e : Key × ℕ). is_before c.args.hi e.0) (sym c.entry-pair.ensures) ∙ sym c.is_before.ensures ∙ c.if-is_before.true))

pub returns-then-len-most-clause-items : goal.returns-then-len-most-clause-items
returns-then-len-most-clause-items c =
    let old = c.args.out.now.items in
    let n = c.args.most - length old in
    let xs = (content_at c.args.words.now).entries in
    let i = c.loop-i.i in
    let d : Key × ℕ = (first_key, 0) in
    let within : i < length xs = omega (arith, c.loop-i-test.true, content_counted c.args.words.now c.told-words c.requires.node.few) in
    let ok : is_ok c.push.result ≡ true = c.is_err.ensures.negation ∙ ap not c.if-is_err.false in
    let now : c.push.new.self.items ≡ old ++ between c.args.lo c.args.hi (take (i + 1) xs) =
    rw ok at c.push.ensures.items
    ∙ ap (λ e. c.loop-i.out.items ++ e ∷ []) c.entry-pair.ensures
    ∙ ap (λ ys. ys ++ get_or xs i d ∷ []) c.loop-i.invariant.items
    ∙ append_assoc old (between c.args.lo c.args.hi (take i xs)) (get_or xs i d ∷ [])
    ∙ ap (λ ys. old ++ ys)
    (sym (between_takes c.args.lo c.args.hi xs i d within (ap (λ (e : Key × ℕ). is_before e.0 c.args.lo) (sym c.entry-pair.ensures) ∙ sym c.is_before-in-loop-i.ensures ∙ c.if-is_before-2.false) (ap (λ (e : Key × ℕ). is_before c.args.hi e.0) (sym c.entry-pair.ensures) ∙ sym c.is_before.ensures ∙ c.if-is_before.false))) in
    let full : length (between c.args.lo c.args.hi (take (i + 1) xs)) ≡ n = omega (arith, ap length now, length-append old (between c.args.lo c.args.hi (take (i + 1) xs)), c.push.new.self.ok.0, c.len.ensures, c.if-len-most.true) in
    now ∙ ap (λ ys. old ++ ys) (between_fills c.args.lo c.args.hi xs (i + 1) n full)

pub loop-i-preserved-then-is_before-2 : goal.loop-i-preserved-then-is_before-2
loop-i-preserved-then-is_before-2 c =
    let xs = (content_at c.args.words.now).entries in
    let within : c.loop-i.i < length xs = omega (arith, c.loop-i-test.true, content_counted c.args.words.now c.told-words c.requires.node.few) in
    let skips = between_skips c.args.lo c.args.hi xs c.loop-i.i (first_key, 0) within (ap (λ (e : Key × ℕ). is_before e.0 c.args.lo) (sym c.entry-pair.ensures) ∙ sym c.is_before-in-loop-i.ensures ∙ c.if-is_before-2.true) in
    record {
      items = c.loop-i.invariant.items ∙ ap (λ ys. c.args.out.now.items ++ ys) (sym skips);
      some = c.loop-i.invariant.some;
      room = c.loop-i.invariant.room;
    }

pub loop-i-preserved : goal.loop-i-preserved
loop-i-preserved c =
    let old = c.args.out.now.items in
    let xs = (content_at c.args.words.now).entries in
    let i = c.loop-i.i in
    let d : Key × ℕ = (first_key, 0) in
    let within : i < length xs = omega (arith, c.loop-i-test.true, content_counted c.args.words.now c.told-words c.requires.node.few) in
    let ok : is_ok c.push.result ≡ true = c.is_err.ensures.negation ∙ ap not c.if-is_err.false in
    let pushed : c.push.new.self.items ≡ c.loop-i.out.items ++ get_or xs i d ∷ [] = rw ok at c.push.ensures.items ∙ ap (λ e. c.loop-i.out.items ++ e ∷ []) c.entry-pair.ensures in
    let takes = between_takes c.args.lo c.args.hi xs i d within (ap (λ (e : Key × ℕ). is_before e.0 c.args.lo) (sym c.entry-pair.ensures) ∙ sym c.is_before-in-loop-i.ensures ∙ c.if-is_before-2.false) (ap (λ (e : Key × ℕ). is_before c.args.hi e.0) (sym c.entry-pair.ensures) ∙ sym c.is_before.ensures ∙ c.if-is_before.false) in
    record {
      items = pushed ∙ ap (λ ys. ys ++ get_or xs i d ∷ []) c.loop-i.invariant.items ∙ append_assoc old (between c.args.lo c.args.hi (take i xs)) (get_or xs i d ∷ []) ∙ ap (λ ys. old ++ ys) (sym takes);
      some = omega (arith, ap length pushed, length-append c.loop-i.out.items (get_or xs i d ∷ []), c.push.new.self.ok.0, c.loop-i.out.ok.0, c.len.ensures, c.if-len-most.false, c.loop-i.invariant.some);
      room = search rules;
    }

pub returns-clause-items : goal.returns-clause-items
returns-clause-items c =
    let old = c.args.out.now.items in
    let n = c.args.most - length old in
    let xs = (content_at c.args.words.now).entries in
    let so_far = c.loop-i.invariant.items in
    let end : c.loop-i.i ≡ length xs = omega (arith, c.loop-i-test.false, c.loop-i.auto.i-end, content_counted c.args.words.now c.told-words c.requires.node.few) in
    let all : c.loop-i.out.items ≡ old ++ between c.args.lo c.args.hi (take (length xs) xs) = so_far ∙ ap (λ i. old ++ between c.args.lo c.args.hi (take i xs)) end in
    let few : length (between c.args.lo c.args.hi (take (length xs) xs)) ≤ n = omega (arith, ap length all, length-append old (between c.args.lo c.args.hi (take (length xs) xs)), c.loop-i.out.ok.0, c.loop-i.invariant.some) in
    all ∙ ap (λ ys. old ++ ys) (between_whole c.args.lo c.args.hi xs n few)

pub returns-clause-ends : goal.returns-clause-ends
returns-clause-ends c = λ no. cc
