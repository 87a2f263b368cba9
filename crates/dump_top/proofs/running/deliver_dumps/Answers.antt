use Rattle.std.proofs.Common.{Err, inr, refl, sym, ap, ◌∙◌}
use Rattle.cicada_top.specs.declared.finish.Finish.{Finish}
use Rattle.cicada_top.specs.declared.finish.Status.{Status}
use Rattle.dump_top.proofs.Ends.{why_failed}
use Rattle.dump_top.proofs.running.deliver_dumps.Goals as goal

pub returns-in-Err-clause-delivers : goal.returns-in-Err-clause-delivers
returns-in-Err-clause-delivers g c = inr (record { why = c.in-Err.fault; is = ap (λ (s : Status). record c.args.finish { status = s }) c.status_at.ensures; part = c.in-Err.ensures.part })

pub returns-in-Err-clause-failed : goal.returns-in-Err-clause-failed
returns-in-Err-clause-failed g c is =
    let failed = why_failed c.in-Err.fault (sym c.status_at.ensures ∙ is) in
    c.in-Err.ensures.failed (λ i. Err (failed i))
