use Rattle.std.proofs.Common.{Result, sym, ap, subst, rules}
use Rattle.version_pool.specs.declared.takes.PlacesOut.{PlacesOut}
use Rattle.engine_answers.specs.declared.faults.CommitFault.TheVariants as commit_fault
use Rattle.engine_answers.specs.declared.committed.Committed.{Committed}
use Rattle.txn_engine.specs.Alone.{AloneView}
use Rattle.txn_engine.specs.Commits.{Commits}
use Rattle.txn_engine.specs.Faults.{told_by}
use Rattle.txn_engine.specs.Pass.{PassView}
use Rattle.txn_engine.proofs.Committing.{alone_after}
use Rattle.txn_engine.proofs.at_alone.AloneSeatCalls.commit.Goals.{in-Ok, in-Err-PlacesOut}
use Rattle.txn_engine.proofs.at_alone.AloneSeatCalls.commit.Goals as goal

pub invariant_of-self : goal.invariant_of-self
invariant_of-self g c = alone_after c.self.inside.earlier c.self.inside.parts c.commit.ensures.commits.ends c.self.invariant

pub returns-clause-commits : goal.returns-clause-commits
returns-clause-commits g c =
    let p = c.args.self.now.pass in
    let q = c.commit.new.self in
    let told = subst (λ (x : PassView). Commits g.J.Keeps.kept x q (told_by (λ f. f) c.commit.result)) (ap (λ (a : AloneView). a.pass) c.self.view_is) c.commit.ensures.commits in
    elim c.match-commit.branch [
      | in-Ok w ↦
          let ok = rw w.in-Ok.is at told in
          subst (λ (answer : Result Committed PlacesOut). Commits g.J.Keeps.kept p q (told_by (λ (full : PlacesOut). commit_fault.PlacesOut) answer)) (sym w.result-is) (search rules)
      | in-Err-PlacesOut w ↦
          subst (λ (answer : Result Committed PlacesOut). Commits g.J.Keeps.kept p q (told_by (λ (full : PlacesOut). commit_fault.PlacesOut) answer)) (sym w.result-is) (rw (w.in-Err-PlacesOut.is, w.in-Err-PlacesOut.field-0-is) at told)
    ]
