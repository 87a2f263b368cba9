use Rattle.std.proofs.Common.{refl, subst, inl, inr}
use Rattle.stamp_base.specs.Stamp.{IsStamp}
use Rattle.seat_post.proofs.ReadMore.{stops_at}
use Rattle.seat_post.proofs.Promotions.{pending_at, has_found, writes_inline, stopped_writing}
use Rattle.version_search.specs.Finding.{Reads}
use Rattle.seat_post.proofs.promoting.promote_at.Goals as goal

pub returns-in-Pending-clause-err : goal.returns-in-Pending-clause-err
returns-in-Pending-clause-err g c =
    let h = c.requires.ready.hand_of in
    inl (pending_at c.args.hand.now c.find.new.hand c.args.stamp c.args.rid c.in-Pending.wts (rw c.number.ensures.value at (stops_at _ _ _ _ _ _ c.in-Pending.ensures.pending.1)) (rw h.same_size h.in_range) c.requires.drawn)

pub rewrite-requires-clause-read : goal.rewrite-requires-clause-read
rewrite-requires-clause-read g c =
    let m = c.in-Version-default-default-false in
    let r = c.load-read in
    let v = c.args.hand.now.view in
    let found : Reads c.args.stamp c.args.rid m.place m.wts 3 v c.find.new.hand.view = rw m.absent-test at (rw c.number.ensures.value at m.ensures.version) in
    rw (r.ensures.place, r.ensures.wts) (has_found r.result.value c.args.stamp c.args.rid m.place m.wts v c.find.new.hand.view c.take_inline.new.hand.view r.new.hand.view (subst IsStamp c.number.ensures.value c.number.ensures.stamp) c.requires.drawn r.ensures.present r.ensures.value found c.if-not-take_inline.ensures.taken)

pub returns-in-Ok-clause-ok : goal.returns-in-Ok-clause-ok
returns-in-Ok-clause-ok g c =
    let m = c.in-Version-default-default-false in
    let r = c.load-read in
    let v = c.args.hand.now.view in
    let found : Reads c.args.stamp c.args.rid m.place m.wts 3 v c.find.new.hand.view = rw m.absent-test at (rw c.number.ensures.value at m.ensures.version) in
    (refl, writes_inline g.J.Keeps.kept c.args.core.now.size.records r.result.value c.args.stamp c.args.rid m.place m.wts v c.find.new.hand.view c.take_inline.new.hand.view r.new.hand.view c.rewrite.new.hand.view c.requires.drawn r.ensures.present r.ensures.value r.ensures.lost c.if-place-rid.false found c.if-not-take_inline.ensures.taken c.in-Ok.ensures.ok (rw r.ensures.wts at c.in-Ok.ensures.validates))

pub returns-in-Err-clause-err : goal.returns-in-Err-clause-err
returns-in-Err-clause-err g c =
    let m = c.in-Version-default-default-false in
    let r = c.load-read in
    let v = c.args.hand.now.view in
    let found : Reads c.args.stamp c.args.rid m.place m.wts 3 v c.find.new.hand.view = rw m.absent-test at (rw c.number.ensures.value at m.ensures.version) in
    inr (stopped_writing r.result.value c.args.stamp c.args.rid m.place m.wts v c.find.new.hand.view c.take_inline.new.hand.view r.new.hand.view c.rewrite.new.hand.view c.in-Err.conflict c.requires.drawn r.ensures.present r.ensures.value r.ensures.lost c.if-place-rid.false found c.if-not-take_inline.ensures.taken c.in-Err.ensures.err (rw r.ensures.wts at c.in-Err.ensures.halts))
