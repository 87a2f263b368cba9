use Rattle.replay_model.specs.Replay.{NamesBlock}
use Rattle.input_runner.proofs.Texts.{all_of_map, each_answered, whole_text}
use Rattle.input_runner.proofs.printing.report_of.Goals as goal

pub push_results-requires-clause-named : goal.push_results-requires-clause-named
push_results-requires-clause-named c = all_of_map (NamesBlock c.args.input.now.lanes) c.args.results.now c.requires.named

pub push_results-requires-clause-answered : goal.push_results-requires-clause-answered
push_results-requires-clause-answered c = each_answered c.args.input.now.lanes c.args.results.now c.requires.answered

pub returns : goal.returns
returns c = λ tables are.
    whole_text c.args.input.now c.args.results.now c.args.rows.now tables c.new-text.result.items c.push_results.new.text.items c.push_tables.new.text.items c.extend_from_slice.new.self.items _ c.new-text.ensures.items c.in_ok-push_results.ensures c.in_ok-push_tables.ensures c.in_ok-extend_from_slice.ensures.items are
