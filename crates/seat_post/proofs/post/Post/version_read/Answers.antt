use Rattle.std.proofs.Common.{◌≡◌, Some, IfSome, subst}
use Rattle.core_rule.specs.Deciding.{read_value}
use Rattle.record_store.specs.Meaning.{value_at}
use Rattle.seat_post.specs.Post.{PostView}
use Rattle.seat_post.proofs.ReadMore.{open_left, open_above}
use Rattle.seat_post.proofs.Leaving.{version_leaves}
use Rattle.seat_post.proofs.post.Post.version_read.Goals as goal

pub returns-clause-above : goal.returns-clause-above
returns-clause-above g c = let i = c.self.inside in open_above i.hand i.phase i.stamp i.sets c.args.self.now c.self.invariant c.self.view_is

pub returns-clause-left : goal.returns-clause-left
returns-clause-left g c = λ flying on.
    let i = c.self.inside in
    let p = c.args.self.now in
    let found = subst (λ (q : PostView). IfSome c.read_of.result (λ d. value_at q.reads c.args.rid ≡ Some (read_value d.now))) c.self.view_is c.read_of.ensures.found in
    version_leaves p.log p.stamp p.reads c.args.rid c.read_of.result (open_left i.hand i.phase i.stamp i.sets p c.self.invariant c.self.view_is flying on) found
