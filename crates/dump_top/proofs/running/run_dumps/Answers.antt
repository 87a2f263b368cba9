use Rattle.std.proofs.Common.{rules, map, inr}
use Rattle.std.specs.Prelude.{string_bytes}
use Rattle.cicada_top.specs.Runs.{streams}
use Rattle.dump_top.proofs.Ends.{dumps_not_begun}
use Rattle.dump_top.proofs.running.run_dumps.Goals as goal

pub returns-clause-runs : goal.returns-clause-runs
returns-clause-runs g c =
    let at = streams (g.S.Source.left c.args.source.now) (g.K.Sink.taken c.args.sink.now) (g.S.Source.faults c.args.source.now) (g.K.Sink.faults c.args.sink.now) in
    let bare = c.bare-in-Err-NoMemory.ensures in
    record {
      asked = dumps_not_begun (map string_bytes c.args.words.now) c.bare-in-Err-NoMemory.result at (inr bare.status) bare.order bare.fault bare.end bare.tables bare.verdict;
      usage = search rules;
      refused = λ _. inr bare.status;
      usage_text = search rules;
      complete = λ dumps taken unread unwritten bytes holds cause causes. inr bare.status;
    }
