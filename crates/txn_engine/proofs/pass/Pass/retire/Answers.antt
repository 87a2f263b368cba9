use Rattle.std.proofs.Common.{◌≤◌, ap, ◌∙◌, sym, arith}
use Rattle.seat_post.specs.Post.{PostView}
use Rattle.spare_numbers.specs.Spare.{NumbersView}
use Rattle.txn_engine.proofs.pass.Pass.retire.Goals as goal

pub invariant_of-result : goal.invariant_of-result
invariant_of-result g c =
    let same = c.retire.ensures.hand in
    let numbers = c.take_back.ensures.after in
    let records = ap (λ (n : NumbersView). n.records) numbers in
    let fixed = ap (λ (n : NumbersView). n.fixed) numbers in
    record {
      done = c.retire.ensures.done;
      records = records ∙ c.self.invariant.records ∙ sym (ap (λ (p : PostView). p.shared.size.records) same);
      fixed = rw (fixed, records) c.self.invariant.fixed;
      none_given = ap (λ (n : NumbersView). n.given) numbers;
      counts = let few : c.self.inside.refusals ≤ c.self.inside.post.clock = omega (arith, c.self.invariant.clock.counts) in rw (ap (λ (p : PostView). p.clock) same) few;
      commits = rw (ap (λ (p : PostView). p.clock) same, ap (λ (p : PostView). p.log) same) c.self.invariant.clock.commits;
      snapshots = rw (ap (λ (p : PostView). p.met) same, ap (λ (p : PostView). p.log) same) c.self.invariant.log.snapshots;
    }
