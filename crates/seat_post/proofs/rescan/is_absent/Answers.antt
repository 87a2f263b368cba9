use Rattle.std.proofs.Common.{◌+◌, List, ap, subst, refl}
use Rattle.core_rule.specs.View.{View, Logged}
use Rattle.core_rule.specs.Left.{IsLeft}
use Rattle.version_search.specs.Finding.{status_of}
use Rattle.seat_post.proofs.Leaving.{left_as}
use Rattle.seat_post.proofs.Rescanning.{looks_read, looks_alone}
use Rattle.seat_post.proofs.rescan.is_absent.Goals as goal

pub returns-clause-looks : goal.returns-clause-looks
returns-clause-looks g c = looks_read _ c.args.rid c.in-Version.place c.in-Version.wts _ c.args.hand.now.view c.find.new.hand.view c.in-Version.ensures.version

pub returns-clause-searches : goal.returns-clause-searches
returns-clause-searches g c = record { place = c.in-Version.place; version = c.in-Version.wts; path = c.in-Version.ensures.version.path }

pub returns-clause-left : goal.returns-clause-left
returns-clause-left g c = λ alone.
    let found = c.in-Version.ensures.version in
    let looks = looks_read _ c.args.rid c.in-Version.place c.in-Version.wts _ c.args.hand.now.view c.find.new.hand.view found in
    let left = found.left (looks_alone c.args.hand.now.view c.find.new.hand.view looks alone) in
    let log = ap (λ (v : View). v.log) found.view in
    left_as c.args.hand.now.view.log c.args.rid (c.args.stamp + 1) c.in-Version.wts (status_of c.in-Version.absent) c.in-Version.absent (subst (λ (es : List Logged). IsLeft es c.args.rid (c.args.stamp + 1) c.in-Version.wts (status_of c.in-Version.absent)) log left) found.path.early refl
