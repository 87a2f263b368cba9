use Rattle.std.proofs.Common.{sym, subst}
use Rattle.core_rule.specs.View.{View}
use Rattle.core_rule.specs.Views.{Among}
use Rattle.seat_post.proofs.snapshots.begin_snapshot.Goals as goal

pub returns-clause-snapshots : goal.returns-clause-snapshots
returns-clause-snapshots g c = λ e among snapshot.
    c.publish_read.ensures.snapshots e (subst (λ (v : View). Among e v.log) (sym c.raise_min_write.ensures.view) among) snapshot
