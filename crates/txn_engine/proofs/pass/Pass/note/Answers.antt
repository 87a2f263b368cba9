use Rattle.std.proofs.Common.{◌≡◌, ◌<◌, Err, None, sym, ap, ◌∙◌, subst}
use Rattle.seat_post.specs.Post.{PostView, known_at}
use Rattle.engine_answers.specs.declared.faults.TxnFault.TheVariants as txn
use Rattle.txn_engine.specs.Pass.{PassView}
use Rattle.txn_engine.specs.Inside.{pass_view}
use Rattle.txn_engine.specs.Txn.{Reads}
use Rattle.txn_engine.proofs.Passes.{pass_noted}
use Rattle.txn_engine.proofs.Answering.{met_pending, memory_reads}
use Rattle.txn_engine.proofs.pass.Pass.note.Goals as goal

pub invariant_of-self : goal.invariant_of-self
invariant_of-self g c =
    let i = c.self.inside in
    let phase = ap (λ (x : PassView). x.phase) c.self.view_is ∙ c.requires.open in
    rw c.in-Ok.ensures.ok.after (pass_noted i.post _ i.post.writes i.queue i.numbers _ _ c.self.invariant phase c.self.invariant.room)

pub returns-in-Err-Pending : goal.returns-in-Err-Pending
returns-in-Err-Pending g c =
    let i = c.self.inside in
    let p = i.post in
    let b = pass_view p i.boost i.queue i.numbers i.refusals i.commits i.dead i.counted in
    let q = pass_view c.read.new.self i.boost i.queue i.numbers i.refusals i.commits i.dead i.counted in
    let met = rw c.in-Err-Pending.field-0-is at c.in-Err-Pending.ensures.met in
    let rid : c.args.rid < p.shared.size.records = subst (λ (x : PassView). c.args.rid < x.shared.size.records) (sym c.self.view_is) c.requires.rid in
    let unknown : known_at p c.args.rid ≡ None = ap (λ (x : PassView). known_at x.post c.args.rid) c.self.view_is ∙ c.requires.first in
    let reads =
    met_pending b q c.doom.new.self c.args.rid c.in-Err-Pending.wts c.doom.result (ap (λ (x : PassView). x.dead) c.self.view_is ∙ c.requires.alive) unknown
    (ap (λ (x : PostView). record b { post = x }) c.in-Err-Pending.ensures.err) (rw c.in-Err-Pending.field-0-is at c.in-Err-Pending.ensures.stops) ((rid, met.0), met.1) c.doom.ensures.after c.doom.ensures.fault in
    record {
      notes = record {
        ok = tt;
        reads = tt;
        err = subst (λ (x : PassView). Reads x c.doom.new.self c.args.rid (Err c.doom.result)) c.self.view_is reads;
      };
    }

pub returns-in-Err-NoMemory : goal.returns-in-Err-NoMemory
returns-in-Err-NoMemory g c =
    let i = c.self.inside in
    let p = i.post in
    let b = pass_view p i.boost i.queue i.numbers i.refusals i.commits i.dead i.counted in
    let q = pass_view c.read.new.self i.boost i.queue i.numbers i.refusals i.commits i.dead i.counted in
    let unknown : known_at p c.args.rid ≡ None = ap (λ (x : PassView). known_at x.post c.args.rid) c.self.view_is ∙ c.requires.first in
    let reads = memory_reads b q c.args.rid (ap (λ (x : PassView). x.dead) c.self.view_is ∙ c.requires.alive) unknown (ap (λ (x : PostView). record b { post = x }) (c.in-Err-NoMemory.ensures.no_memory c.in-Err-NoMemory.field-0-is)) in
    record {
      notes = record {
        ok = tt;
        reads = tt;
        err = subst (λ (x : PassView). Reads x q c.args.rid (Err txn.NoMemory)) c.self.view_is reads;
      };
    }
