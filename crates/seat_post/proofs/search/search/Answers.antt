use Rattle.std.proofs.Common.{◌≡◌, ◌<◌, Bool, length, subst, sym, rules}
use Rattle.word_layout.specs.Size.{Size, places}
use Rattle.version_search.specs.Finding.{Reads, status_of}
use Rattle.seat_post.proofs.ReadMore.{stops_at}
use Rattle.seat_post.proofs.Leaving.{limit_is, finds_absent, finds_present}
use Rattle.seat_post.proofs.search.search.Goals as goal

pub returns-in-Pending-clause-err : goal.returns-in-Pending-clause-err
returns-in-Pending-clause-err g c = let found = c.in-Pending.ensures.pending in stops_at _ _ _ _ _ _ found.1

pub returns-in-Version-default-default-true-clause-ok : goal.returns-in-Version-default-default-true-clause-ok
returns-in-Version-default-default-true-clause-ok g c =
    let a = c.in-Version-default-default-true in
    let inside = subst (λ (z : Size). a.place < places z) (sym c.requires.ready.hand_of.same_size) a.ensures.place in
    finds_absent c.args.stamp c.args.rid a.place a.wts c.args.hand.now.view c.find.new.hand.view (subst (λ (b : Bool). Reads c.args.stamp c.args.rid a.place a.wts (status_of b) c.args.hand.now.view c.find.new.hand.view) a.absent-test a.ensures.version) inside (limit_is c.args.hand.now.view c.args.stamp c.requires.in_flight)

pub returns-in-Version-default-default-false-clause-ok : goal.returns-in-Version-default-default-false-clause-ok
returns-in-Version-default-default-false-clause-ok g c =
    let a = c.in-Version-default-default-false in
    let inside = subst (λ (z : Size). a.place < places z) (sym c.requires.ready.hand_of.same_size) a.ensures.place in
    let found = subst (λ (b : Bool). Reads c.args.stamp c.args.rid a.place a.wts (status_of b) c.args.hand.now.view c.find.new.hand.view) a.absent-test a.ensures.version in
    let long : length c.load_value-cells.result ≡ 32 = search rules in
    finds_present c.args.stamp c.args.rid a.place a.wts c.load_value-cells.result c.args.hand.now.view c.find.new.hand.view c.load_value-cells.new.hand.view found c.load_value-cells.ensures.view c.load_value-cells.ensures.left c.load_value-cells.ensures.lost c.load_value-cells.ensures.loads long inside (limit_is c.args.hand.now.view c.args.stamp c.requires.in_flight)
