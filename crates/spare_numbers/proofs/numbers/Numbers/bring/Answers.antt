use Rattle.std.proofs.Common.{◌<◌, ◌≤◌, ◌∷◌, ap, ◌∙◌, arith, length, sym, subst, remove, insert, drop}
use Rattle.std.specs.Prelude.{slice_index_or}
use Rattle.spare_numbers.specs.Spare.{NumbersView}
use Rattle.spare_numbers.proofs.NumberLists.{numbers_brought, same_brought, brought_given, brought_spare, at_brought, inside_all, numbers_view}
use Rattle.spare_numbers.proofs.Marked.{marked_same}
use Rattle.spare_numbers.proofs.numbers.Numbers.bring.Goals as goal

pub invariant_of-self : goal.invariant_of-self
invariant_of-self c =
    let i = c.self.inside in
    let within = inside_all i.list.items i.taken c.args.i c.self.invariant.are.marked (subst (λ (n : NumbersView). c.args.i < length n.spare) (sym c.self.view_is) c.requires) in
    let made = c.in-Ok.ensures.items ∙ ap (λ xs. insert xs i.taken c.in-Some.rid) c.in-Some.ensures.items in
    let more : i.list.cap ≤ c.insert.new.self.cap = let a = c.remove.ensures.capacity in let b = c.insert.ensures.capacity in omega arith in
    record {
      are = numbers_brought i.fixed i.records i.taken c.args.i c.in-Some.rid i.list.items c.insert.new.self.items _ _ c.self.invariant.are within c.in-Some.ensures.value made more;
      marked = marked_same i.fixed i.records i.list.items c.insert.new.self.items i.marks.items c.self.invariant.marked (same_brought i.taken c.args.i c.in-Some.rid i.list.items c.insert.new.self.items c.self.invariant.are.marked within c.in-Some.ensures.value made);
    }

pub returns : goal.returns
returns c =
    let i = c.self.inside in
    let within = inside_all i.list.items i.taken c.args.i c.self.invariant.are.marked (subst (λ (n : NumbersView). c.args.i < length n.spare) (sym c.self.view_is) c.requires) in
    let made = c.in-Ok.ensures.items ∙ ap (λ xs. insert xs i.taken c.in-Some.rid) c.in-Some.ensures.items in
    let given = brought_given i.list.items c.insert.new.self.items i.taken c.args.i c.in-Some.rid c.self.invariant.are.marked made in
    let spare = brought_spare i.list.items c.insert.new.self.items i.taken c.args.i c.in-Some.rid c.self.invariant.are.marked made in
    let here = at_brought i.list.items i.taken c.args.i c.in-Some.rid within c.in-Some.ensures.value in
    numbers_view i.fixed i.records _ _ _ _ (spare ∙ ap (λ rid. rid ∷ remove (drop i.taken i.list.items) c.args.i) here) given
    ∙ ap (λ (n : NumbersView). record n { spare = slice_index_or n.spare c.args.i 0 ∷ remove n.spare c.args.i }) c.self.view_is
