use Rattle.std.proofs.Common.{false, ◌≡◌, ◌<◌, ◌≤◌, ◌+◌, ap, ◌∙◌, arith, length, drop, length-drop, sym, subst, eqb}
use Rattle.std.specs.Prelude.{slice_get}
use Rattle.std.proofs.lemmas.Option.{slice_get_past}
use Rattle.spare_numbers.specs.Spare.{NumbersView, is_on}
use Rattle.std.specs.List.{IsDistinct}
use Rattle.spare_numbers.proofs.NumberLists.{spare_in_range, not_given, few_numbers}
use Rattle.spare_numbers.proofs.Shares.{distinct_drop}
use Rattle.spare_numbers.proofs.numbers.Numbers.at.Goals as goal

pub returns-then-i-len-clause-from : goal.returns-then-i-len-clause-from
returns-then-i-len-clause-from c =
    let i = c.self.inside in
    let within : i.taken + c.args.i < length i.list.items = let l = c.len.ensures in let o = i.list.ok in let t = c.if-i-len.true in let m = c.self.invariant.are.marked in omega arith in
    let r = spare_in_range i.fixed i.records i.taken c.args.i c.index.result.now i.list.items _ c.self.invariant.are within c.index.ensures in
    subst (λ (n : NumbersView). n.fixed ≤ c.index.result.now) c.self.view_is r.0

pub returns-then-i-len-clause-within : goal.returns-then-i-len-clause-within
returns-then-i-len-clause-within c =
    let i = c.self.inside in
    let within : i.taken + c.args.i < length i.list.items = let l = c.len.ensures in let o = i.list.ok in let t = c.if-i-len.true in let m = c.self.invariant.are.marked in omega arith in
    let r = spare_in_range i.fixed i.records i.taken c.args.i c.index.result.now i.list.items _ c.self.invariant.are within c.index.ensures in
    subst (λ (n : NumbersView). c.index.result.now < n.records) c.self.view_is r.1

pub returns-else-i-len-clause-at : goal.returns-else-i-len-clause-at
returns-else-i-len-clause-at c =
    let i = c.self.inside in
    let past : length (drop i.taken i.list.items) ≤ c.args.i = let l = c.len.ensures in let d = length-drop i.taken i.list.items in let t = c.if-i-len.false in let o = i.list.ok in omega arith in
    sym (ap (λ (n : NumbersView). slice_get n.spare c.args.i) (sym c.self.view_is) ∙ slice_get_past (drop i.taken i.list.items) c.args.i past)

pub returns-then-i-len-clause-not_given : goal.returns-then-i-len-clause-not_given
returns-then-i-len-clause-not_given c =
    let i = c.self.inside in
    let within : i.taken + c.args.i < length i.list.items = let l = c.len.ensures in let o = i.list.ok in let t = c.if-i-len.true in let m = c.self.invariant.are.marked in omega arith in
    subst (λ (n : NumbersView). is_on n.given c.index.result.now ≡ false) c.self.view_is (not_given i.fixed i.records i.taken c.args.i c.index.result.now i.list.items _ c.self.invariant.are within c.index.ensures)

pub returns-then-i-len-clause-distinct : goal.returns-then-i-len-clause-distinct
returns-then-i-len-clause-distinct c =
    let i = c.self.inside in
    subst (λ (n : NumbersView). IsDistinct eqb n.spare) c.self.view_is (distinct_drop i.taken i.list.items c.self.invariant.are.distinct)

pub returns-else-i-len-clause-distinct : goal.returns-else-i-len-clause-distinct
returns-else-i-len-clause-distinct c =
    let i = c.self.inside in
    subst (λ (n : NumbersView). IsDistinct eqb n.spare) c.self.view_is (distinct_drop i.taken i.list.items c.self.invariant.are.distinct)

pub returns-then-i-len-clause-early : goal.returns-then-i-len-clause-early
returns-then-i-len-clause-early c =
    let i = c.self.inside in
    let within : i.taken + c.args.i < length i.list.items = let l = c.len.ensures in let o = i.list.ok in let t = c.if-i-len.true in let m = c.self.invariant.are.marked in omega arith in
    let few = few_numbers i.fixed i.records i.taken i.list.items _ c.self.invariant.are in
    subst (λ (n : NumbersView). c.args.i < n.records) c.self.view_is (omega arith)
