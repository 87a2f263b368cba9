use Rattle.std.proofs.Common.{◌∙◌, ap, sym}
use Rattle.core_rule.specs.Deciding.{read_value, read_values}
use Rattle.seat_post.specs.Post.{PostView}
use Rattle.seat_post.proofs.Listed.{last_of}
use Rattle.seat_post.proofs.post.Post.last_read.Goals as goal

pub last_read-requires : goal.last_read-requires
last_read-requires g c = λ none. c.requires (sym (ap (λ (p : PostView). p.reads) c.self.view_is) ∙ ap read_values none)

pub returns : goal.returns
returns g c = λ before rid value is.
    let l = last_of c.self.inside.sets.reads before rid value (ap (λ (p : PostView). p.reads) c.self.view_is ∙ is) in
    ap read_value (c.last_read.ensures l.0 l.1 l.2) ∙ l.3
