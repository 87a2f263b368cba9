use Rattle.std.proofs.Common.{◌≡◌, ◌<◌, ◌≤◌, true, false, ap, ◌∙◌, sym, subst, arith}
use Rattle.spare_numbers.specs.Spare.{NumbersView, taken_in, is_on}
use Rattle.spare_numbers.proofs.NumberLists.{numbers_added, numbers_room, added_view, listed_view}
use Rattle.spare_numbers.proofs.Marked.{marked_added, mark_tells}
use Rattle.spare_numbers.proofs.numbers.Numbers.take_in.Goals as goal

pub unreachable-requires : goal.unreachable-requires
unreachable-requires c =
    let i = c.self.inside in
    let from = subst (λ (n : NumbersView). n.fixed ≤ c.args.rid) (sym c.self.view_is) c.requires.from in
    let within = subst (λ (n : NumbersView). c.args.rid < n.records) (sym c.self.view_is) c.requires.within in
    let off : is_on i.list.items c.args.rid ≡ false = sym (mark_tells i.fixed i.records c.args.rid i.list.items i.marks.items c.index.result.now c.self.invariant.marked from within c.index.ensures) ∙ c.if-index.false in
    let room = numbers_room i.fixed i.records i.taken c.args.rid i.list.items _ c.self.invariant.are off from within in
    let full = c.in_default.ensures.full in
    let ok = i.list.ok in
    omega arith

pub invariant_of-self : goal.invariant_of-self
invariant_of-self c =
    let i = c.self.inside in
    let from = subst (λ (n : NumbersView). n.fixed ≤ c.args.rid) (sym c.self.view_is) c.requires.from in
    let within = subst (λ (n : NumbersView). c.args.rid < n.records) (sym c.self.view_is) c.requires.within in
    let off : is_on i.list.items c.args.rid ≡ false = sym (mark_tells i.fixed i.records c.args.rid i.list.items i.marks.items c.index.result.now c.self.invariant.marked from within c.index.ensures) ∙ c.if-index.false in
    record {
      are = rw c.in-Ok.ensures.items (numbers_added i.fixed i.records i.taken c.args.rid i.list.items _ _ c.self.invariant.are off from within c.push_back.ensures.capacity);
      marked = marked_added i.fixed i.records c.args.rid i.list.items c.push_back.new.self.items i.marks.items c.self.invariant.marked from within c.in-Ok.ensures.items;
    }

pub returns-then-index : goal.returns-then-index
returns-then-index c =
    let i = c.self.inside in
    let from = subst (λ (n : NumbersView). n.fixed ≤ c.args.rid) (sym c.self.view_is) c.requires.from in
    let within = subst (λ (n : NumbersView). c.args.rid < n.records) (sym c.self.view_is) c.requires.within in
    let on : is_on i.list.items c.args.rid ≡ true = sym (mark_tells i.fixed i.records c.args.rid i.list.items i.marks.items c.index.result.now c.self.invariant.marked from within c.index.ensures) ∙ c.if-index.true in
    sym c.self.view_is
    ∙ listed_view i.fixed i.records i.taken c.args.rid i.list.items on
    ∙ ap (λ (n : NumbersView). record n { spare = taken_in n.given n.spare c.args.rid }) c.self.view_is

pub returns : goal.returns
returns c =
    let i = c.self.inside in
    let from = subst (λ (n : NumbersView). n.fixed ≤ c.args.rid) (sym c.self.view_is) c.requires.from in
    let within = subst (λ (n : NumbersView). c.args.rid < n.records) (sym c.self.view_is) c.requires.within in
    let off : is_on i.list.items c.args.rid ≡ false = sym (mark_tells i.fixed i.records c.args.rid i.list.items i.marks.items c.index.result.now c.self.invariant.marked from within c.index.ensures) ∙ c.if-index.false in
    added_view i.fixed i.records i.taken c.args.rid i.list.items c.push_back.new.self.items c.self.invariant.are.marked off c.in-Ok.ensures.items
    ∙ ap (λ (n : NumbersView). record n { spare = taken_in n.given n.spare c.args.rid }) c.self.view_is
