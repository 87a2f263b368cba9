use Rattle.std.proofs.Common.{◌<◌, Bool, None, Some, subst, sym}
use Rattle.word_layout.specs.Size.{Size, places}
use Rattle.version_search.specs.Finding.{Reads, status_of}
use Rattle.seat_post.proofs.ReadMore.{stops_at}
use Rattle.seat_post.proofs.Leaving.{limit_is, finds_absent, finds_present}
use Rattle.seat_post.proofs.reading.note.Goals as goal

pub returns-in-Pending-clause-err : goal.returns-in-Pending-clause-err
returns-in-Pending-clause-err g c = let found = c.in-Pending.ensures.pending in stops_at _ _ _ _ _ _ found.1

pub returns-in-Version-default-default-true-clause-ok : goal.returns-in-Version-default-default-true-clause-ok
returns-in-Version-default-default-true-clause-ok g c =
    let a = c.in-Version-default-default-true in
    let v = c.args.hand.now.view in
    let w = c.find.new.hand.view in
    let inside = subst (λ (z : Size). a.place < places z) (sym c.requires.ready.hand_of.same_size) a.ensures.place in
    let found = subst (λ (b : Bool). Reads c.args.stamp c.args.rid a.place a.wts (status_of b) v w) a.absent-test a.ensures.version in
    record {
      place = a.place;
      wts = a.wts;
      value = None;
      finds = finds_absent c.args.stamp c.args.rid a.place a.wts v w found inside (limit_is v c.args.stamp c.requires.in_flight);
      reads = c.note_absent.ensures.reads;
    }

pub returns-in-Version-default-default-false-clause-ok : goal.returns-in-Version-default-default-false-clause-ok
returns-in-Version-default-default-false-clause-ok g c =
    let a = c.in-Version-default-default-false in
    let v = c.args.hand.now.view in
    let w = c.find.new.hand.view in
    let l = c.load.ensures.loads in
    let inside = subst (λ (z : Size). a.place < places z) (sym c.requires.ready.hand_of.same_size) a.ensures.place in
    let found = subst (λ (b : Bool). Reads c.args.stamp c.args.rid a.place a.wts (status_of b) v w) a.absent-test a.ensures.version in
    record {
      place = a.place;
      wts = a.wts;
      value = Some l.cells;
      finds = finds_present c.args.stamp c.args.rid a.place a.wts l.cells v w c.load.new.hand.view found l.view l.left l.lost l.loads l.whole inside (limit_is v c.args.stamp c.requires.in_flight);
      reads = l.reads;
    }
