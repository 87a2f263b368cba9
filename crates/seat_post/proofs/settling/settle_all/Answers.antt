use Rattle.std.proofs.Common.{ℕ, refl, subst, arith, rules}
use Rattle.rapid_gc.proofs.Going.{frees_more}
use Rattle.seat_post.specs.Collecting.{trail_in}
use Rattle.seat_post.specs.SettlingOne.{SettlesOne}
use Rattle.seat_post.proofs.Answered.{not_ok, on_err}
use Rattle.seat_post.proofs.Dues.{settles_none, settles_more}
use Rattle.seat_post.proofs.FreedPlaces.{freed_none}
use Rattle.seat_post.proofs.Steady.{steady_same, steady_settles, settles_both}
use Rattle.seat_post.proofs.Settlement.{settled_still, settled_more, stays_both}
use Rattle.seat_post.proofs.settling.settle_all.Goals as goal

pub loop-rid-init : goal.loop-rid-init
loop-rid-init g c =
    let v = c.args.hand.now.view in
    let n = c.none-all.ensures.rewritten in
    let m = c.none-all.ensures.cut in
    record {
      stays = record { seat = record { same_table = refl; same_id = refl }; ready = c.requires.ready };
      settling = c.requires.settling;
      settles = steady_settles g.J.Keeps.kept v v (steady_same v v refl c.requires.settling.ends);
      none_reserved = c.requires.none_reserved;
      settled = λ r below. absurd (omega arith);
      draws = omega arith;
      freed = freed_none c.none-all.result.places v v c.none-all.ensures.places refl;
      first = settles_none c.args.core.now.size v.number c.none-all.result v n m (freed_none c.none-all.result.places v v c.none-all.ensures.places refl);
      few = omega arith;
    }

pub returns-in_err-settle_record-clause-settles : goal.returns-in_err-settle_record-clause-settles
returns-in_err-settle_record-clause-settles g c = settles_both g.J.Keeps.kept c.args.hand.now.view c.loop-rid.hand.view c.settle_record.new.hand.view c.loop-rid.invariant.settles c.settle_record.ensures.settles

pub returns-in_err-settle_record-clause-settled : goal.returns-in_err-settle_record-clause-settled
returns-in_err-settle_record-clause-settled g c = not_ok c.from_residual.result _ _ c.from_residual.ensures.1

pub returns-in_err-settle_record-clause-draws : goal.returns-in_err-settle_record-clause-draws
returns-in_err-settle_record-clause-draws g c = not_ok c.from_residual.result _ _ c.from_residual.ensures.1

pub returns-in_err-settle_record-clause-done : goal.returns-in_err-settle_record-clause-done
returns-in_err-settle_record-clause-done g c = not_ok c.from_residual.result _ _ c.from_residual.ensures.1

pub loop-rid-preserved : goal.loop-rid-preserved
loop-rid-preserved g c =
    let i = c.loop-rid.invariant in
    let e = c.in_ok-settle_record.ensures in
    let s = c.settle_record in
    let w = c.with-all in
    let v = c.args.hand.now.view in
    let rewritten = w.ensures.rewritten in
    let cut = w.ensures.cut in
    let number = i.settles.number in
    let done = subst (λ (n : ℕ). SettlesOne c.args.core.now.size n c.loop-rid.rid c.in_ok-settle_record.field-0 (trail_in c.loop-rid.hand.view) (trail_in s.new.hand.view)) number e.done in
    let freed = frees_more c.loop-rid.all.places _ c.with-all.result.places v c.loop-rid.hand.view s.new.hand.view i.freed e.freed w.ensures.places in
    record {
      stays = stays_both c.args.core.now c.args.hand.now c.loop-rid.hand s.new.hand i.stays s.ensures.stays;
      settling = s.ensures.settling;
      settles = settles_both g.J.Keeps.kept v c.loop-rid.hand.view s.new.hand.view i.settles s.ensures.settles;
      none_reserved = s.ensures.none_reserved;
      settled = settled_more c.loop-rid.rid c.loop-rid.hand.view s.new.hand.view i.settled s.ensures.others e.one;
      draws = let h = i.draws in let k = e.draws in omega arith;
      freed = freed;
      first = settles_more c.args.core.now.size v.number c.loop-rid.rid c.loop-rid.all _ c.with-all.result v c.loop-rid.hand.view s.new.hand.view i.first done e.counts.0 rewritten cut freed;
      few = let h = i.few in let k = e.counts.1 in omega arith;
    }

pub returns-in_err-settle_record-clause-stops : goal.returns-in_err-settle_record-clause-stops
returns-in_err-settle_record-clause-stops g c =
    let i = c.loop-rid.invariant in
    let s = c.settle_record in
    on_err c.from_residual.result (record {
      rid = c.loop-rid.rid;
      all = c.loop-rid.all;
      within = search rules;
      settled = settled_still c.loop-rid.rid c.loop-rid.rid c.loop-rid.hand.view s.new.hand.view (omega arith) i.settled s.ensures.others;
      between = c.loop-rid.hand.view;
      first = i.first;
      number = i.settles.number;
      drawn = i.draws;
      stops = c.in_err-settle_record.ensures.stops;
    })
