use Rattle.std.proofs.Common.{sym, ap, ◌∙◌}
use Rattle.txn_script.specs.LineReading.{named_of}
use Rattle.txn_script.proofs.LineLaws.{line_of-keyword, line_of-mark, line_of-head, line_of-none}
use Rattle.txn_script.proofs.line.Line.read.Goals as goal

pub returns-in-Some : goal.returns-in-Some
returns-in-Some c =
    c.named.ensures ∙ ap (named_of c.args.version c.in-Some.keyword) c.new.ensures ∙ sym (line_of-keyword c.args.version c.args.text.now c.in-Some.keyword c.in-Some.rest.now c.in-Some.ensures)

pub returns-in-Some-read : goal.returns-in-Some-read
returns-in-Some-read c = sym (line_of-mark c.args.version c.args.text.now c.in-Some-read.mark (sym c.in-Some-read.ensures))

pub returns-then-is_head : goal.returns-then-is_head
returns-then-is_head c = sym (line_of-head c.args.version c.args.text.now (sym c.is_head.ensures ∙ c.if-is_head.true))

pub returns-else-is_head : goal.returns-else-is_head
returns-else-is_head c = sym (line_of-none c.args.version c.args.text.now c.in_default.ensures (sym c.in_default-read.ensures) (sym c.is_head.ensures ∙ c.if-is_head.false))
