use Rattle.std.proofs.Common.{sym, ◌∙◌}
use Rattle.txn_script.specs.declared.keyword.Version.TheVariants.{One, Two}
use Rattle.txn_script.proofs.LineLaws.{head_of-is, head_of-none}
use Rattle.txn_script.proofs.line.head.Goals as goal

pub returns-then-is_head : goal.returns-then-is_head
returns-then-is_head c = sym (head_of-is One c.args.line.now (sym c.is_head.ensures ∙ c.if-is_head.true))

pub returns-then-is_head-2 : goal.returns-then-is_head-2
returns-then-is_head-2 c = sym (head_of-is Two c.args.line.now (sym c.is_head-else-is_head.ensures ∙ c.if-is_head-2.true))

pub returns-else-is_head-2 : goal.returns-else-is_head-2
returns-else-is_head-2 c = sym (head_of-none c.args.line.now (sym c.is_head.ensures ∙ c.if-is_head.false) (sym c.is_head-else-is_head.ensures ∙ c.if-is_head-2.false))
