use Rattle.std.proofs.Common.{◌∙◌, sym, ap, arith, ℕ, Option}
use Rattle.std.specs.Prelude.{unwrap_or}
use Rattle.program_io.proofs.PartLaws.{length-line, to_done-here, to_done-later, to_done-end}
use Rattle.program_io.proofs.parts.length_of_input.Goals as goal
use Rattle.std.proofs.Common.{length}

pub returns-then-is_last-clause-is : goal.returns-then-is_last-clause-is
returns-then-is_last-clause-is c =
    sym (ap (λ (found : Option ℕ). unwrap_or found (length c.args.bytes.now))
    (sym c.loop-line.invariant.counted
    ∙ to_done-here c.loop-line.length c.loop-line.rest.now c.in-Some.line.now c.in-Some.behind.now (sym c.in-Some.ensures) (sym c.is_last.ensures ∙ c.if-is_last.true)))

pub loop-line-preserved : goal.loop-line-preserved
loop-line-preserved c = record {
  counted = sym (to_done-later c.loop-line.length c.loop-line.rest.now c.in-Some.line.now c.in-Some.behind.now (sym c.in-Some.ensures) (sym c.is_last.ensures ∙ c.if-is_last.false))
      ∙ c.loop-line.invariant.counted;
  bound = omega (arith, c.loop-line.invariant.bound, length-line c.loop-line.rest.now c.in-Some.line.now c.in-Some.behind.now (sym c.in-Some.ensures));
}

pub returns-clause-is : goal.returns-clause-is
returns-clause-is c =
    sym (ap (λ (found : Option ℕ). unwrap_or found (length c.args.bytes.now))
    (sym c.loop-line.invariant.counted ∙ to_done-end c.loop-line.length c.loop-line.rest.now (sym c.in_default.ensures)))
