use Rattle.std.proofs.Common.{◌≡◌, ◌<◌, ◌≤◌, ℕ, ap, ◌∙◌, sym, subst, Some, cond, ◌&&◌, length, arith}
use Rattle.std.specs.Prelude.{slice_get, nat_le}
use Rattle.std.proofs.lemmas.List.{drop_all}
use Rattle.core_rule.specs.Deciding.{written_values}
use Rattle.spare_numbers.specs.Spare.{NumbersView, added, is_deletion, spare_after, with_deleted}
use Rattle.spare_numbers.proofs.Written.{some_at, turn_get, length-written, deleted_step}
use Rattle.spare_numbers.proofs.numbers.Numbers.settle.Goals as goal

pub note-requires-clause-within : goal.note-requires-clause-within
note-requires-clause-within c =
    let us = c.args.sets.now.writes in
    let w = c.write_at-write.result.now in
    let some = some_at (written_values us) c.loop-i.i _ (turn_get c.loop-i.i us w c.write_at-write.ensures.splits) in
    subst (λ (n : ℕ). c.rid.result < n) (sym c.loop-i.invariant.records) (c.requires c.rid.result (rw c.rid.ensures some))

pub loop-i-preserved : goal.loop-i-preserved
loop-i-preserved c =
    let i = c.loop-i.invariant in
    let us = c.args.sets.now.writes in
    let rid = c.rid.result in
    let value = c.value.result.now in
    let at : slice_get (written_values us) c.loop-i.i ≡ Some (rid, value) = rw (c.rid.ensures, c.value.ensures.value) (turn_get c.loop-i.i us c.write_at-write.result.now c.write_at-write.ensures.splits) in
    let more : c.note.new.self.spare ≡ cond (is_deletion value && nat_le c.args.self.now.fixed rid) (added c.loop-i.self.spare rid) c.loop-i.self.spare = ap (λ (n : NumbersView). n.spare) c.note.ensures ∙ ap (λ (f : ℕ). cond (is_deletion value && nat_le f rid) (added c.loop-i.self.spare rid) c.loop-i.self.spare) i.fixed in
    record {
      fixed = ap (λ (n : NumbersView). n.fixed) c.note.ensures ∙ i.fixed;
      records = ap (λ (n : NumbersView). n.records) c.note.ensures ∙ i.records;
      given = ap (λ (n : NumbersView). n.given) c.note.ensures ∙ i.given;
      spare = deleted_step c.args.self.now.fixed rid c.loop-i.i value c.loop-i.self.spare c.note.new.self.spare (written_values us) at more ∙ i.spare;
    }

pub returns : goal.returns
returns c =
    let i = c.loop-i.invariant in
    let es = written_values c.args.sets.now.writes in
    let f = c.args.self.now.fixed in
    let over : length es ≤ c.loop-i.i = let long = length-written c.args.sets.now.writes in let count = c.count_writes-i-end.ensures.count in let end = c.loop-i-test.false in omega arith in
    let spare : c.loop-i.self.spare ≡ spare_after f es c.args.self.now.given c.args.self.now.spare = ap (with_deleted f c.loop-i.self.spare) (sym (drop_all c.loop-i.i es over)) ∙ i.spare in
    λ k. record { fixed = i.fixed k; records = i.records k; spare = spare k; given = i.given k }
