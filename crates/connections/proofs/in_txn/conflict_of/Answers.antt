use Rattle.std.proofs.Common.{rules, ◌≡◌, ap}
use Rattle.txn_engine.specs.Pass.{frame}
use Rattle.txn_engine.specs.Txn.{TxnFrame}
use Rattle.connections.proofs.InTxns.{met_conflict, no_entry, overtaken}
use Rattle.connections.proofs.in_txn.conflict_of.Goals.{in_default-via-in-Err+in_default, in_default-via-in_default}
use Rattle.connections.proofs.in_txn.conflict_of.Goals as goal

pub unreachable-requires : goal.unreachable-requires
unreachable-requires c =
    let rest : frame c.undo.new.self.seat.now ≡ frame c.resume-txn.result.seat.now = ap (λ (x : TxnFrame (Unit {0})). x.of_pass) c.undo.ensures.rest in
    let met = (met_conflict c.args.pass.now c.resume-txn.result.seat.now c.undo.new.self.seat.now c.resume-txn.ensures.seat c.requires.open_there rest c.undo.ensures.undone c.commit.result c.requires.doomed c.commit.ensures.commits.ends).1 in
    elim c.in_default.branch [
      | in_default-via-in-Err+in_default w ↦ search (met, rules)
      | in_default-via-in_default w ↦ search (met, rules)
    ]

pub returns-clause-overtaken : goal.returns-clause-overtaken
returns-clause-overtaken c =
    let rest : frame c.undo.new.self.seat.now ≡ frame c.resume-txn.result.seat.now = ap (λ (x : TxnFrame (Unit {0})). x.of_pass) c.undo.ensures.rest in
    overtaken c.args.pass.now c.resume-txn.result.seat.now c.undo.new.self.seat.now c.resume-txn.ensures.seat c.requires.open_there rest c.undo.ensures.undone _ _ c.in-Err-Conflict.conflict (search rules) c.undo.ensures.gives
    (rw c.in-Err-Conflict.field-0-is at c.in-Err-Conflict.ensures.commits)

pub returns-clause-no_entry : goal.returns-clause-no_entry
returns-clause-no_entry c =
    let rest : frame c.undo.new.self.seat.now ≡ frame c.resume-txn.result.seat.now = ap (λ (x : TxnFrame (Unit {0})). x.of_pass) c.undo.ensures.rest in
    let kept = no_entry c.args.pass.now c.resume-txn.result.seat.now c.undo.new.self.seat.now c.resume-txn.ensures.seat c.requires.open_there rest c.undo.ensures.undone c.in-Err-Conflict.ensures.commits.ends in
    search (kept, rules)
