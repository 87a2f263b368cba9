use Rattle.std.proofs.Common.{◌∙◌}
use Rattle.engine_rows.proofs.Begun.{roomy_begun, write_begun}
use Rattle.engine_rows.proofs.Committed.{has_entry, only_write, OnOk-map}
use Rattle.engine_rows.proofs.validation.write_one.Goals as goal

pub run-requires-clause-begun : goal.run-requires-clause-begun
run-requires-clause-begun c =
    let size = c.args.core.now.size in let v = c.args.hand.now.view in let room = c.reserve.new.self in
    let begun = roomy_begun size c.args.sets room v c.requires.begun c.reserve.ensures.reads c.reserve.ensures.writes in
    write_begun size room c.write.new.self v _ begun c.requires.record c.write.ensures.writes c.write.ensures.reads c.write.ensures.once

pub returns-clause-entered : goal.returns-clause-entered
returns-clause-entered c =
    let only = only_write c.write.new.self.writes c.reserve.new.self.writes _ c.write.ensures.writes (c.reserve.ensures.writes ∙ c.requires.first) in
    OnOk-map c.in_ok-run.field-0 (λ log. has_entry c.args.hand.now.view c.run.new.hand.view c.write.new.self c.run.new.sets _ c.run.ensures.same only log) c.in_ok-run.ensures.log
