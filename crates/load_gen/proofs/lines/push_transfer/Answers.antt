use Rattle.load_gen.proofs.TextLaws.{four_lines}
use Rattle.load_gen.proofs.lines.push_transfer.Goals as goal

pub returns : goal.returns
returns c =
    four_lines c.args.text.now.items c.push_line.new.text.items c.push_change.new.text.items c.push_change-2.new.text.items c.push_line-2.new.text.items _ _ _ _ c.in_ok-push_line.ensures c.in_ok-push_change.ensures c.in_ok-push_change-2.ensures c.in_ok-push_line-2.ensures
