use Rattle.std.proofs.Common.{refl, ap, ◌∙◌}
use Rattle.std.specs.Prelude.{max}
use Rattle.stamp_base.specs.Stamp.{clock_of}
use Rattle.word_layout.specs.Name.{published_write}
use Rattle.core_rule.specs.Paths.{load}
use Rattle.core_rule.specs.View.{View}
use Rattle.seat_post.specs.Observing.{with_load}
use Rattle.seat_post.specs.Post.{PostView, with_clock, observing}
use Rattle.version_search.proofs.Grown.{grows_loads}
use Rattle.seat_post.proofs.Posts.{post_turned, seen_turned}
use Rattle.seat_post.proofs.post.Post.hear.Goals as goal

pub invariant_of-self : goal.invariant_of-self
invariant_of-self g c =
    post_turned c.args.core.now c.self.inside.phase c.self.inside.hand c.hear.new.hand c.self.inside.stamp c.self.inside.sets _ _ c.self.invariant c.hear.ensures.ready.ready c.hear.ensures.view (grows_loads _ _ _ (ap (λ (v : View). v.seen.loads) c.hear.ensures.view) (ap (λ (v : View). v.seen.lost) c.hear.ensures.view)) refl

pub returns : goal.returns
returns g c =
    let i = c.self.inside in
    record {
      value =
          seen_turned i.hand c.hear.new.hand i.phase i.stamp i.sets _ _ c.hear.ensures.ready.seat.same_table c.hear.ensures.view refl refl
          ∙ ap (λ (p : PostView). observing (with_clock p (max p.clock (clock_of c.args.stamp))) (with_load p.observed (load (published_write p.seat) p.published))) c.self.view_is;
    }
