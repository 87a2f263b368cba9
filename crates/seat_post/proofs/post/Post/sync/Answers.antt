use Rattle.std.proofs.Common.{refl, ap, ◌∙◌}
use Rattle.word_layout.specs.Name.{published_write}
use Rattle.core_rule.specs.Paths.{load}
use Rattle.core_rule.specs.Stamps.{adopted}
use Rattle.core_rule.specs.View.{View}
use Rattle.seat_post.specs.Observing.{with_load}
use Rattle.seat_post.specs.Post.{PostView, with_clock, observing}
use Rattle.seat_post.proofs.Posts.{post_turned, seen_turned}
use Rattle.version_search.proofs.Grown.{grows_loads}
use Rattle.seat_post.proofs.post.Post.sync.Goals as goal

pub invariant_of-self : goal.invariant_of-self
invariant_of-self g c =
    post_turned c.args.core.now c.self.inside.phase c.self.inside.hand c.sync.new.hand c.self.inside.stamp c.self.inside.sets _ _ c.self.invariant c.sync.ensures.ready.ready c.sync.ensures.adopted.1 (grows_loads _ _ _ (ap (λ (v : View). v.seen.loads) c.sync.ensures.adopted.1) (ap (λ (v : View). v.seen.lost) c.sync.ensures.adopted.1)) refl

pub returns : goal.returns
returns g c =
    let i = c.self.inside in
    let e = c.sync.ensures.adopted in
    record {
      value = (
        e.0,
        seen_turned i.hand c.sync.new.hand i.phase i.stamp i.sets _ _ c.sync.ensures.ready.seat.same_table e.1 refl refl
            ∙ ap (λ (p : PostView). observing (with_clock p (adopted p.clock e.0)) (with_load p.observed (load (published_write c.args.other) e.0))) c.self.view_is,
      );
    }
