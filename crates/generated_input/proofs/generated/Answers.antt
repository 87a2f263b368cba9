use Rattle.std.proofs.Common.{length, Err, sym, ap, subst, ◌∙◌, arith}
use Rattle.txn_script.specs.Grammar.{IsInput}
use Rattle.txn_script.specs.Answer.{IsAnswer}
use Rattle.generated_input.proofs.Accepted.{accepted, short}
use Rattle.generated_input.proofs.generated.Goals as goal

pub returns-in_err-text-clause-accepted : goal.returns-in_err-text-clause-accepted
returns-in_err-text-clause-accepted c = accepted c.args.seed c.generate.ensures.lines

pub parse-requires : goal.parse-requires
parse-requires c = omega (arith, ap length (c.deref.ensures.value ∙ c.in_ok-text.ensures.text), short c.args.seed c.generate.ensures.lines)

pub returns-in-Err-NoMemory-clause-accepted : goal.returns-in-Err-NoMemory-clause-accepted
returns-in-Err-NoMemory-clause-accepted c = accepted c.args.seed c.generate.ensures.lines

pub unreachable-requires : goal.unreachable-requires
unreachable-requires c =
    let bytes = c.deref.result.now in
    let is = c.deref.ensures.value ∙ c.in_ok-text.ensures.text in
    let there = accepted c.args.seed c.generate.ensures.lines in
    let fault = subst (IsAnswer bytes) (c.in-Err-Refused.is ∙ ap (λ f. Err f) c.in-Err-Refused.field-0-is) c.parse.ensures.answer in
    c.parse.ensures.never_both there.0 fault.0 fault.1 (subst (λ b. IsInput b there.0) (sym is) there.1) fault.3
