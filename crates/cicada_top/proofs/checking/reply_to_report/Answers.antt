use Rattle.std.proofs.Common.{◌∙◌, ◌≡◌, ℕ, List, sym, subst, Err, arith, length, ◌≤◌}
use Rattle.std.proofs.lemmas.Result.{IfOk-weaker}
use Rattle.txn_script.specs.declared.fault.Kind.{Kind}
use Rattle.txn_script.specs.declared.fault.ParseFault.{ParseFault}
use Rattle.txn_script.specs.declared.fault.ParseFault.TheVariants.{Refused}
use Rattle.txn_script.specs.Answer.{IsAnswer}
use Rattle.txn_script.specs.Grammar.{IsFault}
use Rattle.txn_script.specs.Kinds.{input_fault}
use Rattle.cicada_top.specs.Due.{IsCheckable}
use Rattle.program_io.specs.Parts.{input_part}
use Rattle.cicada_top.proofs.DueLaws.{only_verdict, only_fault_checked}
use Rattle.cicada_top.proofs.checking.reply_to_report.Goals as goal

pub returns-in-Ok-clause-alone : goal.returns-in-Ok-clause-alone
returns-in-Ok-clause-alone c =
    let short : IsCheckable c.args.bytes.now = record {
      short = omega (arith, c.if-bytes-gt-MAX_CHECKED.false);
      short_input = subst (λ (part : List ℕ). length part ≤ 4194304) c.parts_of.ensures.input (omega (arith, c.if-text-gt-MAX_INPUT.false));
    } in
    let parsed = rw c.parts_of.ensures.input at c.in-Ok.ensures in
    let judged = rw c.parts_of.ensures.report at c.judge.ensures in
    IfOk-weaker c.judge.result _ _
    (λ reply found.
    only_verdict c.args.bytes.now c.in-Ok.input found.0 reply.status reply.order.items reply.fault reply.text.items short parsed.answer found.1 found.2
    parsed.one_input parsed.never_both judged.alone)
    judged.judged

pub returns-in-Err-Refused-clause-alone : goal.returns-in-Err-Refused-clause-alone
returns-in-Err-Refused-clause-alone c =
    let short : IsCheckable c.args.bytes.now = record {
      short = omega (arith, c.if-bytes-gt-MAX_CHECKED.false);
      short_input = subst (λ (part : List ℕ). length part ≤ 4194304) c.parts_of.ensures.input (omega (arith, c.if-text-gt-MAX_INPUT.false));
    } in
    let parsed = rw c.parts_of.ensures.input at c.in-Err-Refused.ensures in
    let fault : (line : ℕ) × (kind : Kind) × (c.in-Err-Refused.fault ≡ input_fault line kind) × IsFault (input_part c.args.bytes.now) line kind =
    subst (λ (part : List ℕ). IsAnswer part (Err (Refused c.in-Err-Refused.fault))) c.parts_of.ensures.input
    (subst (λ (e : ParseFault). IsAnswer c.parts_of.result.0.now (Err e)) c.in-Err-Refused.field-0-is c.in-Err-Refused.ensures.answer) in
    IfOk-weaker c.for_fault.result _ _
    (λ reply is. λ status cause. only_fault_checked c.args.bytes.now fault.0 fault.1 short fault.3 parsed.never_both status cause ∙ sym is)
    c.for_fault.ensures.status
