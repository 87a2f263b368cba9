use Rattle.std.proofs.Common.{ℕ, List, ◌∷◌, ◌+◌, ◌<◌, ap, arith, ◌∙◌, length, sym, subst, remove}
use Rattle.std.specs.List.Sorted.{IsPermutation}
use Rattle.std.proofs.lemmas.List.Sorted.{IsPermutation-remove}
use Rattle.spare_numbers.specs.Spare.{NumbersView}
use Rattle.spare_numbers.proofs.NumberLists.{numbers_struck, spare_in_range, struck_given, struck_spare, inside_all, numbers_view}
use Rattle.spare_numbers.proofs.Marked.{marked_struck, mark_within}
use Rattle.spare_numbers.proofs.numbers.Numbers.strike.Goals as goal

pub overflow_sub-mark : goal.overflow_sub-mark
overflow_sub-mark c =
    let i = c.self.inside in
    let within = inside_all i.list.items i.taken c.args.i c.self.invariant.are.marked (subst (λ (n : NumbersView). c.args.i < length n.spare) (sym c.self.view_is) c.requires) in
    (spare_in_range i.fixed i.records i.taken c.args.i c.in-Some.rid i.list.items _ c.self.invariant.are within c.in-Some.ensures.value).0

pub index_mut-requires : goal.index_mut-requires
index_mut-requires c =
    let i = c.self.inside in
    let within = inside_all i.list.items i.taken c.args.i c.self.invariant.are.marked (subst (λ (n : NumbersView). c.args.i < length n.spare) (sym c.self.view_is) c.requires) in
    let range = spare_in_range i.fixed i.records i.taken c.args.i c.in-Some.rid i.list.items _ c.self.invariant.are within c.in-Some.ensures.value in
    let inside = mark_within i.fixed i.records c.in-Some.rid i.list.items i.marks.items c.self.invariant.marked range.0 range.1 in
    let ok = i.marks.ok in
    omega arith

pub invariant_of-self : goal.invariant_of-self
invariant_of-self c =
    let i = c.self.inside in
    let within = inside_all i.list.items i.taken c.args.i c.self.invariant.are.marked (subst (λ (n : NumbersView). c.args.i < length n.spare) (sym c.self.view_is) c.requires) in
    let range = spare_in_range i.fixed i.records i.taken c.args.i c.in-Some.rid i.list.items _ c.self.invariant.are within c.in-Some.ensures.value in
    let same = subst (λ (ys : List ℕ). IsPermutation i.list.items (c.in-Some.rid ∷ ys)) (sym c.in-Some.ensures.items) (IsPermutation-remove i.list.items (i.taken + c.args.i) c.in-Some.rid within c.in-Some.ensures.value) in
    record {
      are = rw (c.in-Some.ensures.items, c.remove.ensures.capacity) (numbers_struck i.fixed i.records i.taken c.args.i c.in-Some.rid i.list.items _ c.self.invariant.are within c.in-Some.ensures.value);
      marked = marked_struck i.fixed i.records c.in-Some.rid i.list.items c.remove.new.self.items i.marks.items c.self.invariant.marked c.self.invariant.are.distinct range.0 range.1 same;
    }

pub returns : goal.returns
returns c =
    let i = c.self.inside in
    let given = struck_given i.list.items c.remove.new.self.items i.taken c.args.i c.self.invariant.are.marked c.in-Some.ensures.items in
    let spare = struck_spare i.list.items c.remove.new.self.items i.taken c.args.i c.self.invariant.are.marked c.in-Some.ensures.items in
    numbers_view i.fixed i.records _ _ _ _ spare given
    ∙ ap (λ (n : NumbersView). record n { spare = remove n.spare c.args.i }) c.self.view_is
