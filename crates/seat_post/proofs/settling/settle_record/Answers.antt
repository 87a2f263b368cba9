use Rattle.std.proofs.Common.{◌≡◌, ap, ◌∙◌, inr, arith}
use Rattle.core_rule.specs.View.{View}
use Rattle.rapid_gc.proofs.Going.{frees_more}
use Rattle.seat_post.proofs.FreedPlaces.{freed_from}
use Rattle.seat_post.proofs.Answered.{not_ok, on_err}
use Rattle.seat_post.proofs.SettledOne.{none_done, only_one, cuts_it, renews_it, renews_more, stops_it}
use Rattle.seat_post.proofs.ReservedPlace.{not_on, not_off, reserved_once, reserved_twice, stands_reserved, below_later}
use Rattle.seat_post.proofs.Steady.{first_settles, settles_both}
use Rattle.seat_post.proofs.settling.settle_record.Goals as goal

pub returns-then-found-clause-settling : goal.returns-then-found-clause-settling
returns-then-found-clause-settling g c = let e = c.first-found.ensures in (first_settles g.J.Keeps.kept _ _ _ e.view e.looked.loads e.lost c.requires.settling).1

pub returns-then-found-clause-settles : goal.returns-then-found-clause-settles
returns-then-found-clause-settles g c = let e = c.first-found.ensures in (first_settles g.J.Keeps.kept _ _ _ e.view e.looked.loads e.lost c.requires.settling).0

pub is_visible-requires-clause-settling : goal.is_visible-requires-clause-settling
is_visible-requires-clause-settling g c = let e = c.first-found.ensures in (first_settles g.J.Keeps.kept _ _ _ e.view e.looked.loads e.lost c.requires.settling).1

pub returns-then-is_visible-clause-settles : goal.returns-then-is_visible-clause-settles
returns-then-is_visible-clause-settles g c =
    let e = c.first-found.ensures in
    let seen = settles_both _ _ _ _ (first_settles g.J.Keeps.kept _ _ _ e.view e.looked.loads e.lost c.requires.settling).0 c.is_visible.ensures.settles in
    settles_both _ _ _ _ seen c.cut_below-places.ensures.settles

pub returns-in_err-once-clause-settles : goal.returns-in_err-once-clause-settles
returns-in_err-once-clause-settles g c =
    let e = c.first-found.ensures in
    let seen = settles_both _ _ _ _ (first_settles g.J.Keeps.kept _ _ _ e.view e.looked.loads e.lost c.requires.settling).0 c.is_visible.ensures.settles in
    settles_both _ _ _ _ seen c.renew.ensures.settles

pub returns-then-not-once-clause-settles : goal.returns-then-not-once-clause-settles
returns-then-not-once-clause-settles g c =
    let e = c.first-found.ensures in
    let seen = settles_both _ _ _ _ (first_settles g.J.Keeps.kept _ _ _ e.view e.looked.loads e.lost c.requires.settling).0 c.is_visible.ensures.settles in
    settles_both _ _ _ _ (settles_both _ _ _ _ seen c.renew.ensures.settles) c.cut_below-places-2.ensures.settles

pub returns-clause-settles : goal.returns-clause-settles
returns-clause-settles g c =
    let e = c.first-found.ensures in
    let seen = settles_both _ _ _ _ (first_settles g.J.Keeps.kept _ _ _ e.view e.looked.loads e.lost c.requires.settling).0 c.is_visible.ensures.settles in
    let once = settles_both _ _ _ _ (settles_both _ _ _ _ seen c.renew.ensures.settles) c.cut_below-places-2.ensures.settles in
    settles_both _ _ _ _ (settles_both _ _ _ _ once c.renew-2.ensures.settles) c.cut_below-more.ensures.settles

pub renew-requires-2-clause-spare : goal.renew-requires-2-clause-spare
renew-requires-2-clause-spare g c =
    let once = c.in_ok-once.once in
    let cut = c.cut_below-places-2 in
    let kept = reserved_once c.args.rid once.stamp once.reserved _ _ _ (not_off once.reserved c.if-not-once.false) c.in_ok-once.ensures.in_reserved cut.ensures.in_reserved in
    inr (stands_reserved c.args.rid once.stamp cut.new.hand.view.counts kept cut.ensures.cut.one)

pub returns-clause-freed : goal.returns-clause-freed
returns-clause-freed g c =
    let v = c.args.hand.now.view in
    let once = c.renew.new.hand.view in
    let cut = c.cut_below-places-2 in
    let twice = c.renew-2.new.hand.view in
    let more = c.cut_below-more in
    let same : once.gone ≡ v.gone = c.renew.ensures.gone ∙ c.is_visible.ensures.searches.gone ∙ ap (λ (x : View). x.gone) c.first-found.ensures.view in
    let before = freed_from cut.result v once cut.new.hand.view same cut.ensures.freed in
    let behind = freed_from more.result cut.new.hand.view twice more.new.hand.view c.renew-2.ensures.gone more.ensures.freed in
    frees_more cut.result more.result c.saturating_add.result v cut.new.hand.view more.new.hand.view before behind (let e = c.saturating_add.ensures in omega arith)

-- where the reserved place has served, the record is written again in its inline place
pub unreachable-requires : goal.unreachable-requires
unreachable-requires g c =
    let once = c.in_ok-once.once in
    let e = c.in_ok-once.ensures in
    let cut = c.cut_below-places-2 in
    let on = not_off once.reserved c.if-not-once.false in
    let kept = reserved_once c.args.rid once.stamp once.reserved _ _ _ on e.in_reserved cut.ensures.in_reserved in
    let left = e.clock on in
    let clock = cut.ensures.cut.clock in
    c.in_default.ensures.inline (stands_reserved c.args.rid once.stamp cut.new.hand.view.counts kept cut.ensures.cut.one) (omega arith)

pub returns-clause-none_reserved : goal.returns-clause-none_reserved
returns-clause-none_reserved g c =
    let once = c.in_ok-once.once in
    let twice = c.in-Ok.twice in
    let e = c.in_ok-once.ensures in
    let cut = c.cut_below-places-2 in
    let on = not_off once.reserved c.if-not-once.false in
    let kept = reserved_once c.args.rid once.stamp once.reserved _ _ _ on e.in_reserved cut.ensures.in_reserved in
    let left = e.clock on in
    let clock = cut.ensures.cut.clock in
    let off = c.in-Ok.ensures.inline (stands_reserved c.args.rid once.stamp cut.new.hand.view.counts kept cut.ensures.cut.one) (omega arith) in
    let there = reserved_twice twice.reserved cut.new.hand.view.counts.in_reserved c.renew-2.new.hand.view.counts.in_reserved _ _ off c.in-Ok.ensures.in_reserved kept in
    let number = cut.ensures.settles.number ∙ c.renew.ensures.settles.number in
    let first = e.ok.at in
    let second = c.in-Ok.ensures.ok.at in
    let drawn = e.ok.drawn in
    c.cut_below-more.ensures.cut_off (below_later (record { rid = c.args.rid; stamp = twice.stamp }) once.stamp c.renew-2.new.hand.view.counts.in_reserved there (omega arith))

-- ---- what was done

pub returns-then-found-clause-done : goal.returns-then-found-clause-done
returns-then-found-clause-done g c =
    let f = c.first-found in
    let n = c.none.ensures in
    only_one c.args.core.now.size c.args.rid f.result c.args.hand.now.view f.new.hand.view f.ensures.looked f.ensures.lost f.ensures.view c.none.result c.if-found.true (none_done c.none.result n.rewritten n.cut n.places)

pub returns-then-is_visible-clause-done : goal.returns-then-is_visible-clause-done
returns-then-is_visible-clause-done g c =
    let f = c.first-found in
    let s = c.is_visible in
    let k = c.cut_below-places in
    cuts_it c.args.core.now.size c.args.rid f.result c.args.hand.now.view f.new.hand.view f.ensures.looked f.ensures.lost f.ensures.view s.new.hand.view c.if-found.false s.ensures.searches s.ensures.settles.number
    k.new.hand.view k.result (s.ensures.visible c.if-is_visible.true) k.ensures.collects

pub returns-then-not-once-clause-done : goal.returns-then-not-once-clause-done
returns-then-not-once-clause-done g c =
    let f = c.first-found in
    let s = c.is_visible in
    let k = c.cut_below-places-2 in
    let once = c.in_ok-once.once in
    renews_it c.args.core.now.size c.args.rid f.result c.args.hand.now.view f.new.hand.view f.ensures.looked f.ensures.lost f.ensures.view s.new.hand.view c.if-found.false s.ensures.searches s.ensures.settles.number
    (s.ensures.hidden c.if-is_visible.false) c.renew.new.hand.view k.new.hand.view once.stamp k.result once.reserved (not_on once.reserved c.if-not-once.true) c.renew.ensures.settles.number c.in_ok-once.ensures.rewrites k.ensures.collects

pub returns-clause-done : goal.returns-clause-done
returns-clause-done g c =
    let f = c.first-found in
    let s = c.is_visible in
    let k = c.cut_below-places-2 in
    let m = c.cut_below-more in
    let once = c.in_ok-once.once in
    let twice = c.in-Ok.twice in
    let e = c.in_ok-once.ensures in
    let on = not_off once.reserved c.if-not-once.false in
    let kept = reserved_once c.args.rid once.stamp once.reserved _ _ _ on e.in_reserved k.ensures.in_reserved in
    let left = e.clock on in
    let clock = k.ensures.cut.clock in
    let off = c.in-Ok.ensures.inline (stands_reserved c.args.rid once.stamp k.new.hand.view.counts kept k.ensures.cut.one) (omega arith) in
    renews_more c.args.core.now.size c.args.rid f.result c.args.hand.now.view f.new.hand.view f.ensures.looked f.ensures.lost f.ensures.view s.new.hand.view c.if-found.false s.ensures.searches s.ensures.settles.number
    (s.ensures.hidden c.if-is_visible.false) c.renew.new.hand.view k.new.hand.view c.renew-2.new.hand.view m.new.hand.view once.stamp twice.stamp k.result m.result c.saturating_add.result once.reserved twice.reserved on off
    (let sum = c.saturating_add.ensures in omega arith) c.renew.ensures.settles.number k.ensures.settles.number c.renew-2.ensures.settles.number e.rewrites k.ensures.collects c.in-Ok.ensures.rewrites m.ensures.collects

pub returns-in_err-once-clause-done : goal.returns-in_err-once-clause-done
returns-in_err-once-clause-done g c = not_ok c.from_residual.result _ _ c.from_residual.ensures.1

pub returns-in_err-once-clause-stops : goal.returns-in_err-once-clause-stops
returns-in_err-once-clause-stops g c =
    let f = c.first-found in
    let s = c.is_visible in
    on_err c.from_residual.result
    (stops_it c.args.core.now.size c.args.rid f.result c.args.hand.now.view f.new.hand.view f.ensures.looked f.ensures.lost f.ensures.view s.new.hand.view c.if-found.false s.ensures.searches s.ensures.settles.number
    (s.ensures.hidden c.if-is_visible.false) c.renew.new.hand.view c.renew.ensures.gone c.in_err-once.ensures.log c.in_err-once.ensures.runs_out)
