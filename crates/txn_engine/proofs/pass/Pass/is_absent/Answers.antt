use Rattle.std.proofs.Common.{◌≡◌, ◌<◌, ℕ, List, Option, None, Some, Err, inl, inr, not, refl, sym, subst, ap, ◌∙◌}
use Rattle.record_store.specs.Meaning.{value_at}
use Rattle.record_store.proofs.Values.{is_some-false}
use Rattle.seat_post.specs.Leaves.{LeavesValue, LeavesSome, IsPresent}
use Rattle.seat_post.specs.Post.{PostView, known_at}
use Rattle.seat_post.proofs.Leaving.{some_words, present_all}
use Rattle.engine_answers.specs.declared.faults.TxnFault.TheVariants as txn
use Rattle.txn_engine.specs.Pass.{PassView, IsAlone}
use Rattle.txn_engine.specs.Fresh.{TellsAbsent}
use Rattle.txn_engine.specs.Inside.{pass_view}
use Rattle.txn_engine.specs.Txn.{Reads}
use Rattle.txn_engine.proofs.Asking.{pass_asked, asked_absent, known_absent}
use Rattle.txn_engine.proofs.Passes.{none_found, known_unwritten}
use Rattle.txn_engine.proofs.Answering.{met_pending, memory_reads}
use Rattle.txn_engine.proofs.pass.Pass.is_absent.Goals as goal

pub invariant_of-self : goal.invariant_of-self
invariant_of-self g c =
    let i = c.self.inside in
    pass_asked i.post c.read_absent.new.self c.args.rid c.in-Ok.absent i.queue i.numbers _ _ c.in-Ok.ensures.absent c.in-Ok.ensures.passed c.self.invariant (ap (λ (x : PassView). x.phase) c.self.view_is ∙ c.requires.open)

pub invariant_of-self-in-Err-Pending : goal.invariant_of-self-in-Err-Pending
invariant_of-self-in-Err-Pending g c = rw c.in-Err-Pending.ensures.err c.self.invariant

pub invariant_of-self-in-Err-NoMemory : goal.invariant_of-self-in-Err-NoMemory
invariant_of-self-in-Err-NoMemory g c = rw c.in-Err-NoMemory.ensures.err c.self.invariant

pub returns-in-Some-clause-ok : goal.returns-in-Some-clause-ok
returns-in-Some-clause-ok g c =
    let a = c.args.self.now in let p = c.self.inside.post in
    let unwritten = ap (λ (x : PassView). value_at x.writes c.args.rid) c.self.view_is ∙ c.requires.unwritten in
    let known : known_at p c.args.rid ≡ Some c.value.result = known_unwritten p c.args.rid unwritten ∙ c.in-Some.ensures.found ∙ ap Some (sym c.value.ensures.value) in
    let here : known_at a.post c.args.rid ≡ Some c.value.result = sym (ap (λ (x : PassView). known_at x.post c.args.rid) c.self.view_is) ∙ known in
    record {
      after = known_absent a c.args.rid c.is_none.result c.value.result here;
      met_absent = λ on. inl (here ∙ ap Some (is_some-false c.value.result (c.is_none.ensures ∙ ap not on)), refl, refl);
      met_present = λ off. let w = some_words c.value.result (c.is_none.ensures ∙ ap not off) in (w.0, inl (here ∙ ap Some w.1, refl));
      left = λ alone off.
          let flying = ap (λ (x : PassView). x.phase) c.self.view_is ∙ c.requires.open in
          let left = c.in-Some.ensures.left flying (subst (λ (x : PassView). IsAlone x) (sym c.self.view_is) alone) in
          let w = some_words c.value.result (c.is_none.ensures ∙ ap not off) in
          let some : LeavesSome p.log c.args.rid p.stamp = (w.0, subst (λ (v : Option (List ℕ)). LeavesValue p.log c.args.rid p.stamp v) (sym c.value.ensures.value ∙ w.1) left) in
          subst (λ (x : PassView). IsPresent x.log c.args.rid) c.self.view_is (present_all p.log c.args.rid p.stamp (c.version_read.ensures.above flying) some);
    }

pub returns-in-Ok-clause-ok : goal.returns-in-Ok-clause-ok
returns-in-Ok-clause-ok g c =
    let i = c.self.inside in let p = i.post in let q = c.read_absent.new.self in
    let b = pass_view p i.boost i.queue i.numbers i.refusals i.commits i.dead i.counted in
    let unread : value_at p.reads c.args.rid ≡ None = rw (none_found c.version_read.result c.in_default.not-Some) at c.version_read.ensures.none in
    let unknown : known_at p c.args.rid ≡ None = known_unwritten p c.args.rid (ap (λ (x : PassView). value_at x.writes c.args.rid) c.self.view_is ∙ c.requires.unwritten) ∙ unread in
    subst (λ (x : PassView). TellsAbsent x (record b { post = q }) c.args.rid c.in-Ok.absent) c.self.view_is (record {
      after = asked_absent b q c.args.rid c.in-Ok.absent unknown c.in-Ok.ensures.absent c.in-Ok.ensures.passed;
      met_absent = λ on. let r = c.in-Ok.ensures.absent on in inr (unknown, (r.found, ap (λ (x : PostView). x.versions) r.after));
      met_present = λ off. let found = c.in-Ok.ensures.present off in (found.0, inr (unknown, found.1));
      left = λ alone off.
          let flying = ap (λ (x : PassView). x.phase) c.self.view_is ∙ c.requires.open in
          present_all p.log c.args.rid p.stamp (c.version_read.ensures.above flying) (c.in-Ok.ensures.left alone off);
    })

pub returns-in-Err-Pending-clause-err : goal.returns-in-Err-Pending-clause-err
returns-in-Err-Pending-clause-err g c =
    let i = c.self.inside in let p = i.post in let a = c.args.self.now in
    let b = pass_view p i.boost i.queue i.numbers i.refusals i.commits i.dead i.counted in
    let q = pass_view c.read_absent.new.self i.boost i.queue i.numbers i.refusals i.commits i.dead i.counted in
    let unread : value_at p.reads c.args.rid ≡ None = rw (none_found c.version_read.result c.in_default.not-Some) at c.version_read.ensures.none in
    let unknown : known_at p c.args.rid ≡ None = known_unwritten p c.args.rid (ap (λ (x : PassView). value_at x.writes c.args.rid) c.self.view_is ∙ c.requires.unwritten) ∙ unread in
    let met = rw c.in-Err-Pending.field-0-is at c.in-Err-Pending.ensures.met in
    let rid : c.args.rid < p.shared.size.records = subst (λ (x : PassView). c.args.rid < x.shared.size.records) (sym c.self.view_is) c.requires.rid in
    subst (λ (x : PassView). Reads x c.doom.new.self c.args.rid (Err c.doom.result)) c.self.view_is
    (met_pending b q c.doom.new.self c.args.rid c.in-Err-Pending.wts c.doom.result (ap (λ (x : PassView). x.dead) c.self.view_is ∙ c.requires.alive) unknown
    (ap (λ (x : PostView). record b { post = x }) c.in-Err-Pending.ensures.err) (rw c.in-Err-Pending.field-0-is at c.in-Err-Pending.ensures.stops) ((rid, met.0), met.1) c.doom.ensures.after c.doom.ensures.fault)

pub returns-in-Err-NoMemory-clause-err : goal.returns-in-Err-NoMemory-clause-err
returns-in-Err-NoMemory-clause-err g c =
    let i = c.self.inside in
    let p = i.post in
    let b = pass_view p i.boost i.queue i.numbers i.refusals i.commits i.dead i.counted in
    let q = pass_view c.read_absent.new.self i.boost i.queue i.numbers i.refusals i.commits i.dead i.counted in
    let unread : value_at p.reads c.args.rid ≡ None = rw (none_found c.version_read.result c.in_default.not-Some) at c.version_read.ensures.none in
    let unknown : known_at p c.args.rid ≡ None = known_unwritten p c.args.rid (ap (λ (x : PassView). value_at x.writes c.args.rid) c.self.view_is ∙ c.requires.unwritten) ∙ unread in
    subst (λ (x : PassView). Reads x q c.args.rid (Err txn.NoMemory)) c.self.view_is
    (memory_reads b q c.args.rid (ap (λ (x : PassView). x.dead) c.self.view_is ∙ c.requires.alive) unknown (ap (λ (x : PostView). record b { post = x }) (c.in-Err-NoMemory.ensures.no_memory c.in-Err-NoMemory.field-0-is)))
