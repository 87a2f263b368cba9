use Rattle.record_store.specs.Into.{value_if}
use Rattle.seat_post.proofs.SnapshotReads.{finds_alike, in_snapshot_still, reads_noted, answers, leaves}
use Rattle.seat_post.proofs.snapshots.read_snapshot.Goals as goal

pub returns-clause-finds_alike : goal.returns-clause-finds_alike
returns-clause-finds_alike g c = let r = c.load_visible-read.result in
    finds_alike g.J.Keeps.kept c.args.rid r.0 r.1 c.load_min_read.result (value_if r.2 c.load_visible-read.new.into) c.args.hand.now.view c.load_visible-read.new.hand
    c.load_min_read.new.hand c.load_visible-read.ensures.finds c.requires.in_snapshot c.load_min_read.ensures

pub returns-clause-in_snapshot : goal.returns-clause-in_snapshot
returns-clause-in_snapshot g c = let r = c.load_visible-read.result in
    in_snapshot_still g.J.Keeps.kept c.args.rid r.0 r.1 c.load_min_read.result (value_if r.2 c.load_visible-read.new.into) c.args.hand.now.view c.load_visible-read.new.hand
    c.load_min_read.new.hand c.load_visible-read.ensures.finds c.requires.in_snapshot c.load_min_read.ensures

pub returns-clause-reads : goal.returns-clause-reads
returns-clause-reads g c = let r = c.load_visible-read.result in
    reads_noted g.J.Keeps.kept c.args.rid r.0 r.1 c.load_min_read.result (value_if r.2 c.load_visible-read.new.into) c.args.hand.now.view c.load_visible-read.new.hand
    c.load_min_read.new.hand c.load_visible-read.ensures.finds c.requires.in_snapshot c.load_min_read.ensures

pub returns-clause-answer : goal.returns-clause-answer
returns-clause-answer g c = let r = c.load_visible-read.result in
    answers g.J.Keeps.kept c.args.rid r.0 r.1 c.load_min_read.result (value_if r.2 c.load_visible-read.new.into) c.args.hand.now.view c.load_visible-read.new.hand
    c.load_min_read.new.hand c.load_visible-read.ensures.finds c.requires.in_snapshot c.load_min_read.ensures

pub returns-clause-left : goal.returns-clause-left
returns-clause-left g c = let r = c.load_visible-read.result in
    leaves g.J.Keeps.kept c.args.rid r.0 r.1 c.load_min_read.result (value_if r.2 c.load_visible-read.new.into) c.args.hand.now.view c.load_visible-read.new.hand
    c.load_min_read.new.hand c.load_visible-read.ensures.finds c.requires.in_snapshot c.load_min_read.ensures
