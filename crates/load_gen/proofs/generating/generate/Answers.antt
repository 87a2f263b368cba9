use Rattle.load_gen.specs.Load.{lines, account_lines, lanes_lines}
use Rattle.std.specs.Prelude.{codes}
use Rattle.load_gen.proofs.TextLaws.{five_parts, length-lines}
use Rattle.load_gen.proofs.generating.generate.Goals as goal

pub returns-in_err-push_line-clause-lines : goal.returns-in_err-push_line-clause-lines
returns-in_err-push_line-clause-lines c = length-lines c.args.seed

pub returns-in_err-push_line-2-clause-lines : goal.returns-in_err-push_line-2-clause-lines
returns-in_err-push_line-2-clause-lines c = length-lines c.args.seed

pub returns-in_err-push_accounts-clause-lines : goal.returns-in_err-push_accounts-clause-lines
returns-in_err-push_accounts-clause-lines c = length-lines c.args.seed

pub returns-in_err-push_lanes-clause-lines : goal.returns-in_err-push_lanes-clause-lines
returns-in_err-push_lanes-clause-lines c = length-lines c.args.seed

pub returns-in_err-push_line-3-clause-lines : goal.returns-in_err-push_line-3-clause-lines
returns-in_err-push_line-3-clause-lines c = length-lines c.args.seed

pub returns-clause-lines : goal.returns-clause-lines
returns-clause-lines c = length-lines c.args.seed

pub returns-clause-text : goal.returns-clause-text
unfolding lines
returns-clause-text c =
    five_parts c.new-text.result.items c.push_line.new.text.items c.push_line-2.new.text.items c.push_accounts.new.text.items c.push_lanes.new.text.items c.push_line-3.new.text.items
    (codes "cicada 1") (codes "table accounts") (account_lines 64) (lanes_lines 500 8 c.args.seed) (codes "done")
    c.new-text.ensures.items c.in_ok-push_line.ensures c.in_ok-push_line-2.ensures c.in_ok-push_accounts.ensures c.in_ok-push_lanes.ensures.text c.in_ok-push_line-3.ensures
