use Rattle.std.proofs.Common.{◌<◌, sym, ◌∙◌, arith}
use Rattle.core_rule.specs.Status.{status_word}
use Rattle.core_rule.specs.declared.status.Status.TheVariants.{Aborted}
use Rattle.core_rule.specs.Searching.{stand_in}
use Rattle.version_search.proofs.Statuses.{word_is_not}
use Rattle.version_search.proofs.Walks.{sees_at}
use Rattle.version_search.proofs.walking.look_at.Goals as goal

pub returns-clause-sees : goal.returns-clause-sees
returns-clause-sees g c =
    let v = c.args.hand.now.view in let first = c.load_stamp-wts.ensures in let second = c.load_status-status.ensures in
    let status = c.load_status-status.result in
    let early : c.load_stamp-wts.result < c.args.limit = omega arith in
    sees_at (stand_in v.work.search).aim c.args.limit c.args.rid c.args.place c.requires.here.under c.load_stamp-wts.result (status_word status) v g.J.Keeps.kept c.requires.here.search
    c.load_stamp-wts.new.hand.view c.load_status-status.new.hand.view c.requires.limit first.view second.view second.learnt (word_is_not status Aborted (sym c.eq.ensures ∙ c.if-eq.false)) early
