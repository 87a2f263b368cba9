use Rattle.seat_post.proofs.snapshots.end_snapshot.Goals as goal

pub returns-clause-view : goal.returns-clause-view
returns-clause-view g c = (c.finish.result, c.finish.ensures.view)
