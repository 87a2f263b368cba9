use Rattle.std.proofs.Common.{◌≡◌, ◌<◌, ℕ, List, [], ◌∷◌, ◌++◌, ap, ◌∙◌, sym, subst, refl, inl, inr}
use Rattle.stamp_base.specs.Stamp.{bound_of_clock}
use Rattle.rapid_gc.specs.declared.queue.Queued.{Queued}
use Rattle.rapid_gc.specs.Bounds.{AreAsBefore, MakesSingle}
use Rattle.rapid_gc.specs.InReserved.{CutsOff}
use Rattle.rapid_gc.specs.Queues.{AllBelow}
use Rattle.word_layout.specs.Size.{Size}
use Rattle.seat_post.specs.Collecting.{trail_in}
use Rattle.seat_post.specs.SettlingOne.{CollectsOne}
use Rattle.seat_post.proofs.Dues.{collects_one}
use Rattle.seat_post.proofs.FreedPlaces.{freed_collecting}
use Rattle.seat_post.proofs.rewriting.Room.collect.Goals as goal

one_item : (items before : List Queued) (i : Queued) → items ≡ before ++ i ∷ [] → before ≡ [] → items ≡ i ∷ []
one_item items before i is none = is ∙ ap (λ xs. xs ++ i ∷ []) none

one_below : (i : Queued) (bound : ℕ) → i.stamp < bound → AllBelow bound (i ∷ [])
one_below i bound below x (inl same) = subst (λ (y : Queued). y.stamp < bound) same below
one_below i bound below x (inr none) = absurd none

pub returns-clause-bounds : goal.returns-clause-bounds
returns-clause-bounds g c =
    let items = one_item c.add.new.self.items c.self.inside.queue.items _ c.add.ensures.items c.self.invariant.1.none in
    subst (λ is. AreAsBefore is c.args.hand.now.view.counts c.collect-collected.new.hand.view.counts) items c.collect-collected.ensures.known

pub returns-clause-one : goal.returns-clause-one
returns-clause-one g c = λ newest.
    let v = c.args.hand.now.view in
    let items = one_item c.add.new.self.items c.self.inside.queue.items _ c.add.ensures.items c.self.invariant.1.none in
    let below = subst (λ is. AllBelow (bound_of_clock v.clock.clock) is) (sym items) (one_below (record { rid = c.args.rid; stamp = c.args.stamp }) (bound_of_clock v.clock.clock) c.requires.below) in
    let left = subst (λ is. MakesSingle is v.tops c.collect-collected.new.hand.view.counts) items (c.collect-collected.ensures.single c.requires.alone below) in
    left (record { rid = c.args.rid; stamp = c.args.stamp }) (inl refl) newest

pub returns-clause-freed : goal.returns-clause-freed
returns-clause-freed g c = freed_collecting c.args.hand.now.view c.collect-collected.new.hand.view _ _ c.collect-collected.result c.collect-collected.ensures.collects

pub returns-clause-cut_off : goal.returns-clause-cut_off
returns-clause-cut_off g c =
    let v = c.args.hand.now.view in
    let items = one_item c.add.new.self.items c.self.inside.queue.items _ c.add.ensures.items c.self.invariant.1.none in
    let below = subst (λ is. AllBelow (bound_of_clock v.clock.clock) is) (sym items) (one_below (record { rid = c.args.rid; stamp = c.args.stamp }) (bound_of_clock v.clock.clock) c.requires.below) in
    subst (λ is. CutsOff is v.tops v.counts.in_reserved c.collect-collected.new.hand.view.counts.in_reserved) items (c.collect-collected.ensures.cut_off c.requires.alone below)

pub returns-clause-grows : goal.returns-clause-grows
returns-clause-grows g c = let e = c.collect-collected.ensures in record { loaded = e.loads.0; missed = e.lost.0; loads = e.loads.1; lost = e.lost.1 }

pub returns-clause-collects : goal.returns-clause-collects
returns-clause-collects g c = λ newest.
    let v = c.args.hand.now.view in
    let e = c.collect-collected.ensures in
    let w = c.collect-collected.new.hand.view in
    let i : Queued = record { rid = c.args.rid; stamp = c.args.stamp } in
    let items = one_item c.add.new.self.items c.self.inside.queue.items _ c.add.ensures.items c.self.invariant.1.none in
    let below = subst (λ is. AllBelow (bound_of_clock v.clock.clock) is) (sym items) (one_below i (bound_of_clock v.clock.clock) c.requires.below) in
    let one = collects_one v w _ _ c.collect-collected.result i e.collects items (e.alone c.requires.alone below) c.requires.alone newest c.requires.above in
    subst (λ (z : Size). CollectsOne z.seats v.number c.args.rid c.args.stamp c.collect-collected.result.places (trail_in v) (trail_in w)) c.requires.ready.hand_of.same_size one
