use Rattle.std.proofs.Common.{◌≡◌, ◌≤◌, ◌-◌, ℕ, [], ◌∷◌, List, length, map, length-append, ap, ◌∙◌, sym, subst, refl, arith}
use Rattle.core_rule.specs.Offers.{MayOffer, made_of}
use Rattle.core_rule.specs.Views.{Among}
use Rattle.txn_engine.specs.Alone.{PartsView}
use Rattle.txn_engine.specs.Pass.{PassView, EngineView, bare, engine_of}
use Rattle.txn_engine.specs.Sharing.{with_made, share_at, first_share, SawAtMost}
use Rattle.seat_post.specs.Seats.{Others, Observed}
use Rattle.spare_numbers.specs.Spare.{NumbersView, no_numbers, every}
use Rattle.std.specs.List.{range_with_len}
use Rattle.std.proofs.lemmas.List.Elements.{All-nil, All-same, All-push}
use Rattle.txn_engine.proofs.InShare.{bare_looks, saw_at_most}
use Rattle.txn_engine.proofs.Making.{may_make, next_share, next_made, pushed_share, count_shares}
use Rattle.core_rule.proofs.Among.{Among-last, Among-left}
use Rattle.txn_engine.proofs.sharing.share_out.Goals as goal

pub loop-seat-init : goal.loop-seat-init
loop-seat-init g c =
    let view = c.parts.view_is in
    let has = c.requires.parts in
    let count = has.count in
    let long = ap (λ (p : PartsView). length p.lists) view in
    record {
      pass = refl;
      passes = ap (map bare) c.parts.invariant;
      observed = All-same SawAtMost _ [] c.parts.invariant (All-nil SawAtMost);
      lists = omega arith;
      empty = λ n among. has.empty n (subst (λ (p : PartsView). Among n p.lists) view among);
      room = subst (λ (p : PartsView). c.args.engine.now.size.seats ≤ p.room) (sym view) has.room;
    }

pub split-next-requires-clause-list : goal.split-next-requires-clause-list
split-next-requires-clause-list g c =
    let i = c.loop-seat.invariant in
    let engine : engine_of c.loop-seat.pass ≡ c.args.engine.now = ap engine_of i.pass ∙ c.requires.engine in
    let is = i.empty c.in-Some.list (subst (λ (ns : List NumbersView). Among c.in-Some.list ns) (sym c.in-Some.ensures.items) (Among-last c.in-Some.list c.pop.new.self.items)) in
    subst (λ (e : EngineView). c.in-Some.list ≡ no_numbers e.fixed e.size.records) (sym engine) is

pub unreachable-requires-in_default-push : goal.unreachable-requires-in_default-push
unreachable-requires-in_default-push g c =
    let i = c.loop-seat.invariant in
    let full = c.in_default-push.ensures.full in
    let long = count_shares c.args.pass c.loop-seat.passes.items c.loop-seat._seat i.passes in
    let ok = c.loop-seat.passes.ok in
    let room = i.room in
    let test = c.loop-seat-test.true in
    let end = c.seats-seat-end.ensures.value in
    omega arith

pub loop-seat-preserved : goal.loop-seat-preserved
loop-seat-preserved g c =
    let i = c.loop-seat.invariant in
    let some = c.loop-seat.auto._seat in
    let plain = ap (λ (o : Others). o.splitting) c.requires.only in
    let popped = c.in-Some.ensures.items in
    let long = ap length popped in
    let parts = length-append c.pop.new.self.items (c.in-Some.list ∷ []) in
    let lists = i.lists in
    let room = i.room in
    let kept = c.in-Ok.ensures.capacity in
    let made = next_share c.args.pass c.loop-seat.pass c.split-next.result c.loop-seat._seat some plain i.pass (ap bare c.split-next.ensures.made) in
    record {
      pass = next_made c.args.pass c.loop-seat.pass c.split-next.new.self c.loop-seat._seat some plain i.pass c.split-next.ensures.after;
      passes = pushed_share c.args.pass c.loop-seat.passes.items c.push.new.self.items c.loop-seat._seat c.look_in_share.new.self some i.passes (bare_looks c.split-next.result c.look_in_share.new.self c.look_in_share.ensures ∙ made) c.in-Ok.ensures.items;
      observed = All-same SawAtMost _ _ c.in-Ok.ensures.items (All-push SawAtMost _ _ i.observed (saw_at_most c.split-next.result c.look_in_share.new.self (ap (λ (p : PassView). p.observed) c.split-next.ensures.made) c.look_in_share.ensures));
      lists = omega arith;
      empty = λ n among. i.empty n (subst (λ (ns : List NumbersView). Among n ns) (sym popped) (Among-left n c.pop.new.self.items (c.in-Some.list ∷ []) among));
      room = omega arith;
    }

pub unreachable-requires-in_default-insert : goal.unreachable-requires-in_default-insert
unreachable-requires-in_default-insert g c =
    let i = c.loop-seat.invariant in
    let full = c.in_default-insert.ensures.full in
    let long = count_shares c.args.pass c.loop-seat.passes.items c.loop-seat._seat i.passes in
    let ok = c.loop-seat.passes.ok in
    let room = i.room in
    let test = c.loop-seat-test.false in
    let end = c.seats-seat-end.ensures.value in
    let some = c.seats.ensures.in_range.has_seat in
    let last = c.loop-seat.auto._seat-end in
    omega arith

pub returns-clause-count : goal.returns-clause-count
returns-clause-count g c =
    let i = c.loop-seat.invariant in
    let items = ap length c.in-Ok-insert.ensures.items in
    let long = count_shares c.args.pass c.loop-seat.passes.items c.loop-seat._seat i.passes in
    let test = c.loop-seat-test.false in
    let end = c.seats-seat-end.ensures.value in
    let some = c.seats.ensures.in_range.has_seat in
    let last = c.loop-seat.auto._seat-end in
    omega arith

pub returns-clause-passes : goal.returns-clause-passes
returns-clause-passes g c =
    let i = c.loop-seat.invariant in
    let p = c.args.pass in
    let x = c.loop-seat.pass in
    let seats : c.args.engine.now.size.seats ≡ p.shared.size.seats = sym (ap (λ (e : EngineView). e.size.seats) c.requires.engine) in
    let over : c.loop-seat._seat ≡ c.args.engine.now.size.seats =
    let test = c.loop-seat-test.false in
    let end = c.seats-seat-end.ensures.value in
    let some = c.seats.ensures.in_range.has_seat in
    let last = c.loop-seat.auto._seat-end in
    omega arith in
    let at : c.loop-seat._seat ≡ p.shared.size.seats = over ∙ seats in
    let first : bare c.retain_share.new.self ≡ first_share p =
    ap bare c.retain_share.ensures
    ∙ ap (λ (n : ℕ). bare (record x { spare = every n 0 x.spare })) (c.seats.ensures.value ∙ seats)
    ∙ ap (λ (y : PassView). bare (record y { spare = every p.shared.size.seats 0 y.spare })) i.pass
    ∙ ap (λ (n : ℕ). bare (record (with_made n p) { spare = every p.shared.size.seats 0 p.spare })) at in
    let others : map bare c.loop-seat.passes.items ≡ map (share_at p) (range_with_len 1 (p.shared.size.seats - 1)) = i.passes ∙ ap (λ (n : ℕ). map (share_at p) (range_with_len 1 (n - 1))) at in
    ap (map bare) c.in-Ok-insert.ensures.items ∙ (λ k. first k ∷ others k)

pub split-next-requires-clause-makes : goal.split-next-requires-clause-makes
split-next-requires-clause-makes g c =
    let may = may_make c.loop-seat._seat c.args.pass.others c.loop-seat.auto._seat (ap (λ (o : Others). o.splitting) c.requires.only) in
    subst (λ (p : PassView). MayOffer p.others.splitting) (sym c.loop-seat.invariant.pass) may.0

pub split-next-requires-clause-room : goal.split-next-requires-clause-room
split-next-requires-clause-room g c =
    let plain = ap (λ (o : Others). o.splitting) c.requires.only in
    let may = may_make c.loop-seat._seat c.args.pass.others c.loop-seat.auto._seat plain in
    let count = ap (λ (p : PassView). made_of p.others.splitting) c.loop-seat.invariant.pass ∙ may.1 in
    let test = c.loop-seat-test.true in
    let end = c.seats-seat-end.ensures.value in
    omega arith

pub returns-clause-observed : goal.returns-clause-observed
returns-clause-observed g c = λ first rest same.
    let both = sym c.in-Ok-insert.ensures.items ∙ same in
    let head : first ≡ c.retain_share.new.self = cc in
    let tail : rest ≡ c.loop-seat.passes.items = cc in
    let seen : PassView → Observed = λ p. p.observed in
    (ap seen head ∙ ap seen c.retain_share.ensures ∙ ap seen c.loop-seat.invariant.pass, All-same SawAtMost _ _ tail c.loop-seat.invariant.observed)
