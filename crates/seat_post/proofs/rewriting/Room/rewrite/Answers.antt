use Rattle.validate_core.specs.Checked.{Validates}
use Rattle.validate_core.specs.Halting.{Halts}
use Rattle.seat_post.proofs.Again.{fitting_again, linked_then, rewrites_at, stopped_at}
use Rattle.seat_post.proofs.rewriting.Room.rewrite.Goals as goal

pub decide-requires-clause-fits : goal.decide-requires-clause-fits
decide-requires-clause-fits g c =
    let r = c.args.read.now in
    fitting_again g.J.Keeps.kept c.args.core.now.size.records c.install_held-installed.result.stamp c.args.rid r.place r.wts r.value c.stage.new.sets c.install_held-installed.new.sets c.requires.whole c.stage.ensures.reads c.stage.ensures.writes c.install_held-installed.ensures.same

pub returns-in-Ok-clause-ok : goal.returns-in-Ok-clause-ok
returns-in-Ok-clause-ok g c =
    let r = c.args.read.now in
    let i = c.install_held-installed in
    let p = c.publish.ensures in
    rewrites_at g.J.Keeps.kept c.args.core.now.size.records c.args.rid r.place r.wts c.args.place r.value c.args.core.now.size c.stage.new.sets i.new.sets c.args.hand.now.view i.new.hand.view c.decide.new.hand.view c.publish.new.hand.view
    c.requires.whole c.stage.ensures.reads c.stage.ensures.writes i.ensures.same i.ensures.installs i.result.stamp i.ensures.stamp c.in-Ok.ensures.ok p.log p.as_before p.linked p.published.ends

pub returns-in-Ok-clause-validates : goal.returns-in-Ok-clause-validates
returns-in-Ok-clause-validates g c =
    let r = c.args.read.now in
    let i = c.install_held-installed in
    rw c.publish.ensures.seen (linked_then c.args.core.now.size c.stage.new.sets i.new.sets c.args.rid c.args.place r.value c.args.hand.now.view i.new.hand.view i.ensures.installs c.stage.ensures.writes
    Validates r.place r.wts i.result.stamp c.decide.new.hand.view.seen c.stage.ensures.reads i.ensures.same i.ensures.stamp c.in-Ok.ensures.ok.lost c.in-Ok.ensures.validates)

pub returns-in-Err-clause-halts : goal.returns-in-Err-clause-halts
returns-in-Err-clause-halts g c =
    let r = c.args.read.now in
    let i = c.install_held-installed in
    linked_then c.args.core.now.size c.stage.new.sets i.new.sets c.args.rid c.args.place r.value c.args.hand.now.view i.new.hand.view i.ensures.installs c.stage.ensures.writes
    (λ stamp seat reads rids before after'. Halts stamp reads rids before after' c.in-Err.conflict) r.place r.wts i.result.stamp c.decide.new.hand.view.seen c.stage.ensures.reads i.ensures.same i.ensures.stamp c.in-Err.ensures.as_before.lost c.in-Err.ensures.halts

pub returns-in-Err-clause-err : goal.returns-in-Err-clause-err
returns-in-Err-clause-err g c =
    let r = c.args.read.now in
    let i = c.install_held-installed in
    let e = c.in-Err.ensures in
    let h = c.requires.ready.hand_of in
    stopped_at c.args.rid r.place r.wts c.args.place r.value c.args.core.now.size c.stage.new.sets i.new.sets c.args.hand.now.view i.new.hand.view c.decide.new.hand.view i.result.stamp c.in-Err.conflict
    c.stage.ensures.reads c.stage.ensures.writes i.ensures.same i.ensures.installs i.ensures.stamp (rw h.same_size h.in_range) c.decide.ensures.stands e.as_before c.decide.ensures.linked e.log e.aborted.ends e.conflict c.requires.read.found
