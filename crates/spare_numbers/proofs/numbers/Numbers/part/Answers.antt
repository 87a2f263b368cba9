use Rattle.std.proofs.Common.{◌≡◌, ◌+◌, ◌++◌, ◌∷◌, [], ◌∙◌, refl, sym, subst, arith, length, remove, eqb, Some}
use Rattle.std.specs.Prelude.{slice_get}
use Rattle.std.specs.List.{IsDistinct}
use Rattle.spare_numbers.proofs.Shares.{last_off, none_of_both}
use Rattle.spare_numbers.proofs.numbers.Numbers.part.Goals as goal

pub returns : goal.returns
returns c =
    let n = c.args.self.now in
    let last = c.in_ok-last.last in
    let rid = c.in_ok-rid.rid in
    let long : last + 1 ≡ length n.spare = let l = c.len.ensures in let k = c.in_ok-last.ensures in omega arith in
    let at : slice_get n.spare last ≡ Some rid = sym c.at.ensures.at ∙ c.in_ok-rid.was in
    let apart : n.spare ≡ remove n.spare last ++ rid ∷ [] = last_off n.spare last rid long at in
    rw c.strike.ensures (record {
      last = apart;
      none = tt;
      only = refl;
      from = c.in_ok-rid.ensures.from;
      within = c.in_ok-rid.ensures.within;
      gone = none_of_both n.given (remove n.spare last) rid c.in_ok-rid.ensures.not_given (subst (IsDistinct eqb) apart c.at.ensures.distinct);
    })
