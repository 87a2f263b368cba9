use Rattle.snap_dump.proofs.Made.{dump_others, made_none, made_one, none_added}
use Rattle.snap_dump.proofs.lanes.dump_behind.Goals as goal

pub returns-clause-others : goal.returns-clause-others
returns-clause-others g c = dump_others c.args.pass.now c.dump_at.new.seat c.in_ok-dump.dump c.in_ok-dump.ensures.dumps

pub returns-clause-made : goal.returns-clause-made
returns-clause-made g c = made_one c.args.pass.now c.dump_at.new.seat c.args.made.now.items c.push.new.self.items c.in_ok-dump.dump c.in_ok-dump.ensures.dumps c.in_ok-push.ensures.items

pub returns-then-len-due-clause-made : goal.returns-then-len-due-clause-made
returns-then-len-due-clause-made g c = made_none c.args.pass.now c.args.pass.now c.args.made.now.items (none_added c.args.pass.now c.requires.pass.idle)

pub returns-then-ne-clause-made : goal.returns-then-ne-clause-made
returns-then-ne-clause-made g c = made_none c.args.pass.now c.args.pass.now c.args.made.now.items (none_added c.args.pass.now c.requires.pass.idle)
