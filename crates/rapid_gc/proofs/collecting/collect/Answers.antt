use Rattle.std.proofs.Common.{◌≡◌, ℕ, ◌+◌, refl, ap, sym, ◌∙◌, subst, arith}
use Rattle.word_layout.specs.Name.{published_write, published_read, min_write, min_read}
use Rattle.core_rule.specs.View.{View}
use Rattle.core_rule.specs.Views.{IsAlone}
use Rattle.core_rule.specs.Searching.{Ends}
use Rattle.clock_stamps.specs.Minima.{Raises, raised_write, raised_read, bounded}
use Rattle.rapid_gc.specs.Queues.{Waiting}
use Rattle.rapid_gc.specs.Collections.{idled, Prepares, GoesThrough, after_collecting}
use Rattle.rapid_gc.proofs.Alone.{idled_alone, nothing_stays}
use Rattle.rapid_gc.proofs.Bounds.{are_kept, leaves_one}
use Rattle.rapid_gc.proofs.Grown.{collects_adds}
use Rattle.rapid_gc.proofs.InReserved.{is_left, cuts_off}
use Rattle.rapid_gc.proofs.Prepared.{idled_is, ends_idled, collects_view}
use Rattle.rapid_gc.proofs.collecting.collect.Goals as goal

pub publish_read-requires-clause-ends : goal.publish_read-requires-clause-ends
publish_read-requires-clause-ends g c =
    let before = c.args.hand.now.view in
    let e1 : c.idle.new.hand.view ≡ idled before = idled_is before c.idle.new.hand.view c.idle.ensures.rises (λ le. ap (λ h. h.view) (c.idle.ensures.unchanged le)) in
    let work : c.raise_min_write.new.hand.view.work ≡ (idled before).work = ap (λ (v : View). v.work) c.raise_min_write.ensures.view ∙ ap (λ (v : View). v.work) e1 in
    subst Ends (sym work) (ends_idled before c.requires.ends)

pub returns-clause-collects : goal.returns-clause-collects
returns-clause-collects g c =
    let before = c.args.hand.now.view in let raised = c.raise_min_write.new.hand.view in let least = c.raise_min_write.result in let bound = c.publish_read.result in
    let prepared = c.raise_min_read-reached.new.hand.view in let reached = c.raise_min_read-reached.result in let after' = c.go_through.new.hand.view in
    let e1 : c.idle.new.hand.view ≡ idled before = idled_is before c.idle.new.hand.view c.idle.ensures.rises (λ le. ap (λ h. h.view) (c.idle.ensures.unchanged le)) in
    let e2 : c.publish_read.new.hand.view ≡ bounded raised bound = c.publish_read.ensures.view in
    let reached_is : reached ≡ after'.reached = sym (ap (λ (v : View). v.reached) c.go_through.ensures.view ∙ ap (λ (v : View). v.reached) c.raise_min_read-reached.ensures.view) in
    let prepares : Prepares before reached prepared = record {
      least = least;
      raised = raised;
      raises_writes = subst (λ (v : View). Raises published_write min_write v.published.write v least raised) e1 c.raise_min_write.ensures.raises;
      raised_is = subst (λ (v : View). raised ≡ raised_write v least raised.seen) e1 c.raise_min_write.ensures.view;
      bound = bound;
      met = c.publish_read.ensures.met;
      raises_reads = subst (λ (v : View). Raises published_read min_read v.published.read v reached prepared) e2 c.raise_min_read-reached.ensures.raises;
      after_is = subst (λ (v : View). prepared ≡ raised_read v reached prepared.seen) e2 c.raise_min_read-reached.ensures.view;
    } in record {
      prepared = prepared;
      prepares = subst (λ (n : ℕ). Prepares before n prepared) reached_is prepares;
      goes_through = subst (λ (n : ℕ). GoesThrough n c.args.queue.now.items c.go_through.new.items.items prepared after' c.go_through.result) reached_is (subst (λ (q : Waiting). GoesThrough reached q.items c.go_through.new.items.items prepared after' c.go_through.result) c.queue.view_is c.go_through.ensures.goes);
    }

pub returns-clause-view : goal.returns-clause-view
returns-clause-view g c =
    let before = c.args.hand.now.view in let raised = c.raise_min_write.new.hand.view in let least = c.raise_min_write.result in let bound = c.publish_read.result in
    let prepared = c.raise_min_read-reached.new.hand.view in let reached = c.raise_min_read-reached.result in let after' = c.go_through.new.hand.view in
    let e1 : c.idle.new.hand.view ≡ idled before = idled_is before c.idle.new.hand.view c.idle.ensures.rises (λ le. ap (λ h. h.view) (c.idle.ensures.unchanged le)) in
    let reached_is : reached ≡ after'.reached = sym (ap (λ (v : View). v.reached) c.go_through.ensures.view ∙ ap (λ (v : View). v.reached) c.raise_min_read-reached.ensures.view) in
    let bound_is : bound ≡ after'.published.read =
    sym (ap (λ (v : View). v.published.read) c.go_through.ensures.view ∙ ap (λ (v : View). v.published.read) c.raise_min_read-reached.ensures.view ∙ ap (λ (v : View). v.published.read) c.publish_read.ensures.view) in
    let all = collects_view before c.idle.new.hand.view raised prepared after' least bound reached e1 c.raise_min_write.ensures.view c.publish_read.new.hand.view c.publish_read.ensures.view c.raise_min_read-reached.ensures.view c.go_through.ensures.view in
    subst (λ (n : ℕ). after' ≡ after_collecting before n after'.reached after'.counts after'.gone after'.seen) bound_is
    (subst (λ (n : ℕ). after' ≡ after_collecting before bound n after'.counts after'.gone after'.seen) reached_is all)

pub returns-clause-alone : goal.returns-clause-alone
returns-clause-alone g c = nothing_stays c.args.hand.now.view c.args.queue.now.items c.go_through.new.items.items c.go_through.new.hand.view c.go_through.result (returns-clause-collects g c)

pub returns-clause-known : goal.returns-clause-known
returns-clause-known g c = are_kept c.args.hand.now.view c.args.queue.now.items c.go_through.new.items.items c.go_through.new.hand.view c.go_through.result (returns-clause-collects g c)

pub returns-clause-single : goal.returns-clause-single
returns-clause-single g c = leaves_one c.args.hand.now.view c.args.queue.now.items c.go_through.new.items.items c.go_through.new.hand.view c.go_through.result (returns-clause-collects g c)

pub returns-clause-in_reserved : goal.returns-clause-in_reserved
returns-clause-in_reserved g c = is_left c.args.hand.now.view c.args.queue.now.items c.go_through.new.items.items c.go_through.new.hand.view c.go_through.result (returns-clause-collects g c)

pub returns-clause-cut_off : goal.returns-clause-cut_off
returns-clause-cut_off g c = cuts_off c.args.hand.now.view c.args.queue.now.items c.go_through.new.items.items c.go_through.new.hand.view c.go_through.result (returns-clause-collects g c)

pub returns-clause-seen : goal.returns-clause-seen
returns-clause-seen g c = λ alone.
    let before = c.args.hand.now.view in let raised = c.raise_min_write.new.hand.view in
    let e1 : c.idle.new.hand.view ≡ idled before = idled_is before c.idle.new.hand.view c.idle.ensures.rises (λ le. ap (λ h. h.view) (c.idle.ensures.unchanged le)) in
    let r = c.raise_min_write.ensures.raises in
    let own = r.alone (subst IsAlone (sym e1) (idled_alone before alone)) in
    let value = r.value in
    let least : raised.clock.met ≡ c.raise_min_write.result = ap (λ (v : View). v.clock.met) c.raise_min_write.ensures.view in
    let write : raised.published.write ≡ c.idle.new.hand.view.published.write = ap (λ (v : View). v.published.write) c.raise_min_write.ensures.view in
    let low = c.publish_read.ensures.met in
    let high = c.publish_read.ensures.below in
    let met : c.go_through.new.hand.view.clock.met ≡ c.publish_read.result + 1 =
    ap (λ (v : View). v.clock.met) c.go_through.ensures.view ∙ ap (λ (v : View). v.clock.met) c.raise_min_read-reached.ensures.view ∙ ap (λ (v : View). v.clock.met) c.publish_read.ensures.view in
    let published : c.go_through.new.hand.view.published.write ≡ raised.published.write =
    ap (λ (v : View). v.published.write) c.go_through.ensures.view ∙ ap (λ (v : View). v.published.write) c.raise_min_read-reached.ensures.view ∙ ap (λ (v : View). v.published.write) c.publish_read.ensures.view in
    omega arith

pub returns-clause-loads : goal.returns-clause-loads
returns-clause-loads g c = (collects_adds c.args.hand.now.view c.args.queue.now.items c.go_through.new.items.items c.go_through.new.hand.view c.go_through.result (returns-clause-collects g c)).loads

pub returns-clause-lost : goal.returns-clause-lost
returns-clause-lost g c = (collects_adds c.args.hand.now.view c.args.queue.now.items c.go_through.new.items.items c.go_through.new.hand.view c.go_through.result (returns-clause-collects g c)).lost

pub returns-clause-log : goal.returns-clause-log
returns-clause-log g c = ap (λ (v : View). v.log) (returns-clause-view g c)

pub returns-clause-held : goal.returns-clause-held
returns-clause-held g c = ap (λ (v : View). v.places) (returns-clause-view g c)

pub returns-clause-ends : goal.returns-clause-ends
returns-clause-ends g c = subst Ends (sym (ap (λ (v : View). v.work) (returns-clause-view g c))) (record { rests = tt; settled = λ u among. absurd among; collected = refl })
