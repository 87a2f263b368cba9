use Rattle.std.proofs.Common.{rules, ◌≡◌, ℕ, List, ◌∷◌, [], ◌++◌, length, map, sym, subst}
use Rattle.std.specs.List.{range_with_len}
use Rattle.txn_engine.specs.Joining.{AreOfEngine}
use Rattle.txn_engine.specs.Retired.{RetiredView}
use Rattle.pass_rows.proofs.Seats.{of_engine-snoc, numbers-snoc, others_by_number}
use Rattle.pass_rows.proofs.coming.retire_all.Goals as goal

pub loop-pass-preserved : goal.loop-pass-preserved
loop-pass-preserved g c =
    let rs = c.loop-pass.retired.items in
    let r = c.retire_as.result in
    let is : c.push.new.self.items ≡ rs ++ r ∷ [] = search rules in
    record {
      passes = c.take_first.ensures.others;
      of_engine = subst (λ (xs : List RetiredView). AreOfEngine c.args.engine.now xs) (sym is) (of_engine-snoc c.args.engine.now rs r c.loop-pass.invariant.of_engine c.retire_as.ensures.engine);
      numbers = subst (λ (xs : List RetiredView). map (λ (x : RetiredView). x.seat) xs ≡ map (λ (n : ℕ). n) (range_with_len 1 (length xs))) (sym is) (numbers-snoc rs r c.loop-pass.invariant.numbers (search rules));
    }

pub returns-clause-others : goal.returns-clause-others
returns-clause-others g c = others_by_number c.loop-pass.retired.items _ c.loop-pass.invariant.numbers (search rules)
