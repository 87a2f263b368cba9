use Rattle.std.proofs.Common.{◌≡◌, ◌-◌, ◌≤◌, arith, ap, ◌∙◌, length, sym, subst, false, replicate, deque_capacity, vec_len}
use Rattle.spare_numbers.specs.Spare.{AreNumbers}
use Rattle.spare_numbers.proofs.NumberLists.{numbers_empty}
use Rattle.spare_numbers.proofs.Marked.{marked_none}
use Rattle.spare_numbers.proofs.numbers.Numbers.clear.Goals as goal

pub invariant_of-self : goal.invariant_of-self
invariant_of-self c =
    let i = c.self.inside in
    let none : c.len-self-inside.result ≡ 0 = let l = c.len-self-inside.ensures in let e = ap length c.clear.ensures.items in let o = c.clear.new.self.ok in omega arith in
    let room = deque_capacity c.clear.new.self in
    let fits : i.records - i.fixed ≤ room = let f = c.self.invariant.are.fits in let k = c.clear.ensures.capacity in omega arith in
    let long : vec_len i.marks ≡ i.records - i.fixed = let l = c.self.invariant.marked.long in let o = i.marks.ok in omega arith in
    record {
      are = subst (λ t. AreNumbers i.fixed i.records t c.clear.new.self.items room) (sym none) (numbers_empty i.fixed i.records c.clear.new.self.items room c.clear.ensures.items fits);
      marked = marked_none i.fixed i.records c.clear.new.self.items c.fill.new.self.items c.clear.ensures.items (c.fill.ensures.items (λ y same. same) ∙ ap (λ n. replicate n false) long);
    }
