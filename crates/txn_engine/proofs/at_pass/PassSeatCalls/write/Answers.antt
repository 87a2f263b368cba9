use Rattle.std.proofs.Common.{◌≡◌, ◌≤◌, ◌+◌, List, Result, ap, ◌∙◌, arith, length}
use Rattle.record_store.specs.Meaning.{with_value}
use Rattle.rapid_gc.specs.declared.queue.Queued.{Queued}
use Rattle.seat_post.specs.Post.{PostView, written}
use Rattle.seat_post.proofs.Listed.{longer}
use Rattle.engine_answers.specs.declared.faults.TxnFault.{TxnFault}
use Rattle.engine_answers.specs.declared.faults.TxnFault.TheVariants as txn
use Rattle.txn_engine.specs.Inside.{pass_view}
use Rattle.txn_engine.specs.Pass.{PassView}
use Rattle.txn_engine.specs.Txn.{Writes}
use Rattle.txn_engine.proofs.Passes.{pass_noted, pass_room}
use Rattle.txn_engine.proofs.Answering.{told_on, stopped_writes, memory_writes, written_writes}
use Rattle.txn_engine.proofs.at_pass.PassSeatCalls.write.Goals as goal

pub invariant_of-self : goal.invariant_of-self
invariant_of-self g c = let i = c.self.inside in pass_room i.post i.queue c.reserve.new.self i.numbers _ _ c.self.invariant c.reserve.ensures.items c.reserve.ensures.not_less

pub invariant_of-self-in_err-write : goal.invariant_of-self-in_err-write
invariant_of-self-in_err-write g c = let i = c.self.inside in rw c.in_err-write.ensures.err (pass_room i.post i.queue c.reserve.new.self i.numbers _ _ c.self.invariant c.reserve.ensures.items c.reserve.ensures.not_less)

pub invariant_of-self-2 : goal.invariant_of-self-2
invariant_of-self-2 g c =
    let i = c.self.inside in
    let phase = ap (λ (x : PassView). x.phase) c.self.view_is ∙ ap (λ (x : PassView). x.phase) c.in_ok-stopped.ensures.ok.0 ∙ c.requires.open in
    let room = pass_room i.post i.queue c.reserve.new.self i.numbers _ _ c.self.invariant c.reserve.ensures.items c.reserve.ensures.not_less in
    let enough : length c.reserve.new.self.items + length (with_value i.post.writes c.args.rid c.args.value.now) ≤ c.reserve.new.self.room =
    let r = c.in_ok-reserve.ensures.room in let i = ap length c.reserve.ensures.items in let w = c.sets.ensures.count in let l = c.count_writes.ensures.count in let m = longer c.self.inside.post.writes c.args.rid c.args.value.now in omega arith in
    rw c.in_ok-write.ensures.ok (pass_noted i.post i.post.reads _ c.reserve.new.self i.numbers _ _ room phase enough)

pub returns-in_err-stopped-clause-writes : goal.returns-in_err-stopped-clause-writes
returns-in_err-stopped-clause-writes g c =
    let p = c.args.self.now in let q = c.stopped.new.self in let f = c.in_err-stopped.field-0.0 in
    told_on c.from_residual.result f (λ (r : Result (Unit {0}) TxnFault). Writes p q c.args.rid c.args.value.now r) c.from_residual.ensures.1 (stopped_writes p q c.args.rid c.args.value.now f c.in_err-stopped.ensures.err)

pub returns-in_err-reserve-clause-writes : goal.returns-in_err-reserve-clause-writes
returns-in_err-reserve-clause-writes g c =
    let p = c.args.self.now in let i = c.self.inside in
    let b = pass_view i.post i.boost i.queue i.numbers i.refusals i.commits i.dead i.counted in
    let q = pass_view i.post i.boost c.reserve.new.self i.numbers i.refusals i.commits i.dead i.counted in
    let same : q ≡ p = ap (λ (items : List Queued). record b { queue = items }) c.reserve.ensures.items ∙ c.self.view_is ∙ c.in_ok-stopped.ensures.ok.0 in
    told_on c.from_residual-in_err-reserve.result txn.NoMemory (λ (r : Result (Unit {0}) TxnFault). Writes p q c.args.rid c.args.value.now r) c.from_residual-in_err-reserve.ensures.1
    (memory_writes p q c.args.rid c.args.value.now c.in_ok-stopped.ensures.ok.1 same)

pub returns-in_err-write-clause-writes : goal.returns-in_err-write-clause-writes
returns-in_err-write-clause-writes g c =
    let p = c.args.self.now in let i = c.self.inside in
    let q = pass_view c.write.new.self i.boost c.reserve.new.self i.numbers i.refusals i.commits i.dead i.counted in
    let same : q ≡ p =
    ap (λ (x : PostView). pass_view x i.boost c.reserve.new.self i.numbers i.refusals i.commits i.dead i.counted) c.in_err-write.ensures.err
    ∙ ap (λ (items : List Queued). record (pass_view i.post i.boost i.queue i.numbers i.refusals i.commits i.dead i.counted) { queue = items }) c.reserve.ensures.items ∙ c.self.view_is ∙ c.in_ok-stopped.ensures.ok.0 in
    told_on c.from_residual-in_err-write.result txn.NoMemory (λ (r : Result (Unit {0}) TxnFault). Writes p q c.args.rid c.args.value.now r) c.from_residual-in_err-write.ensures.1
    (memory_writes p q c.args.rid c.args.value.now c.in_ok-stopped.ensures.ok.1 same)

pub returns-clause-writes : goal.returns-clause-writes
returns-clause-writes g c =
    let p = c.args.self.now in let i = c.self.inside in
    let q = pass_view c.write.new.self i.boost c.reserve.new.self i.numbers i.refusals i.commits i.dead i.counted in
    let is : q ≡ record p { post = written p.post c.args.rid c.args.value.now } =
    ap (λ (x : PostView). pass_view x i.boost c.reserve.new.self i.numbers i.refusals i.commits i.dead i.counted) c.in_ok-write.ensures.ok
    ∙ ap (λ (items : List Queued). record (pass_view i.post i.boost i.queue i.numbers i.refusals i.commits i.dead i.counted) { post = written i.post c.args.rid c.args.value.now; queue = items }) c.reserve.ensures.items
    ∙ ap (λ (x : PassView). record x { post = written x.post c.args.rid c.args.value.now }) (c.self.view_is ∙ c.in_ok-stopped.ensures.ok.0) in
    written_writes p q c.args.rid c.args.value.now c.in_ok-stopped.ensures.ok.1 is
