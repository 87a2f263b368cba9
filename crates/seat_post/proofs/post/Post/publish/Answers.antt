use Rattle.std.proofs.Common.{◌≡◌, ℕ, refl, ap, sym, subst, ◌∙◌, arith, length}
use Rattle.std.proofs.lemmas.List.Sums.{count_by-le-length}
use Rattle.std.specs.Prelude.{nat_lt}
use Rattle.word_layout.specs.Size.{Size}
use Rattle.core_rule.specs.View.{View, Write}
use Rattle.core_rule.specs.Deciding.{written_values}
use Rattle.core_rule.specs.Hands.{Shared}
use Rattle.validate_core.specs.Sets.{IsInside, count_below}
use Rattle.validate_core.specs.Validating.{IsDecidedAt}
use Rattle.seat_post.specs.Post.{PostView, closed}
use Rattle.seat_post.specs.Seats.{placed_of}
use Rattle.seat_post.specs.Placing.{CountsPlaces}
use Rattle.seat_post.proofs.Placed.{placed_shown, have_places, count_placed}
use Rattle.spare_numbers.proofs.Written.{length-written}
use Rattle.seat_post.proofs.EndMore.{at_known}
use Rattle.seat_post.proofs.Over.{view_over_same, post_over}
use Rattle.seat_post.proofs.post.Post.publish.Goals as goal

pub publish-requires-clause-inside : goal.publish-requires-clause-inside
publish-requires-clause-inside g c =
    let is = at_known _ _ _ _ _ (ap (λ (p : PostView). p.phase) c.self.view_is ∙ c.requires.phase) c.self.invariant in
    subst (λ (x : Shared). IsInside x.size c.self.inside.sets) (ap (λ (p : PostView). p.shared) c.self.view_is ∙ c.requires.core) is.at.inside

pub publish-requires-clause-decided : goal.publish-requires-clause-decided
publish-requires-clause-decided g c =
    let is = at_known _ _ _ _ _ (ap (λ (p : PostView). p.phase) c.self.view_is ∙ c.requires.phase) c.self.invariant in
    subst (λ (n : ℕ). IsDecidedAt n c.self.inside.sets c.self.inside.hand.view) (ap (λ (p : PostView). p.stamp) c.self.view_is ∙ sym c.requires.stamp) is.at.decided

pub returns-clause-count : goal.returns-clause-count
returns-clause-count g c =
    let is = at_known _ _ _ _ _ (ap (λ (p : PostView). p.phase) c.self.view_is ∙ c.requires.phase) c.self.invariant in
    let same = sym (length-written c.self.inside.sets.writes) ∙ ap (λ (p : PostView). length p.writes) c.self.view_is in
    let few = count_by-le-length (λ (u : Write). nat_lt u.place c.records.result) c.self.inside.sets.writes in
    let count = c.count_below-inlined.ensures in
    omega arith

pub invariant_of-self : goal.invariant_of-self
invariant_of-self g c =
    let is = at_known _ _ _ _ _ (ap (λ (p : PostView). p.phase) c.self.view_is ∙ c.requires.phase) c.self.invariant in
    let p = c.publish.ensures in
    let e = c.let_go.ensures in
    rw e.phase (post_over c.args.core.now _ _ _ _ _ _ _ _ is p.stands (ap (λ (v : View). v.counts.in_reserved) p.as_before.only) is.at.decided.in_flight p.stays.ready p.published.ends e.stamp e.reads e.writes)

pub returns-clause-closed : goal.returns-clause-closed
returns-clause-closed g c =
    let i = c.self.inside in
    let is = at_known _ _ _ _ _ (ap (λ (p : PostView). p.phase) c.self.view_is ∙ c.requires.phase) c.self.invariant in
    let p = c.publish.ensures in
    let e = c.let_go.ensures in
    rw e.phase (view_over_same i.hand c.publish.new.hand i.phase i.stamp _ _ i.sets c.let_go.new.sets p.stays.seat.same_table p.stands p.as_before (p.linked ∙ sym is.at.decided.linked) p.seen is.at.decided.in_flight p.log e.stamp e.reads e.writes
    ∙ ap closed c.self.view_is)

pub returns-clause-placed : goal.returns-clause-placed
returns-clause-placed g c =
    let is = at_known _ _ _ _ _ (ap (λ (p : PostView). p.phase) c.self.view_is ∙ c.requires.phase) c.self.invariant in
    placed_shown c.self.inside.hand c.self.inside.sets.writes c.records.result c.count_below-inlined.result c.args.self.now.writes c.args.self.now.bounds is.at.placed (ap (λ (p : PostView). p.writes) c.self.view_is) (ap (λ (p : PostView). p.bounds) c.self.view_is)
    (c.records.ensures.count ∙ ap (λ (z : Size). z.records) c.layout.ensures ∙ sym (ap (λ (p : PostView). p.shared.size.records) c.self.view_is ∙ ap (λ (x : Shared). x.size.records) c.requires.core)) c.count_below-inlined.ensures

pub returns-clause-places : goal.returns-clause-places
returns-clause-places g c =
    let i = c.self.inside in
    let is = at_known _ _ _ _ _ (ap (λ (p : PostView). p.phase) c.self.view_is ∙ c.requires.phase) c.self.invariant in
    let z = i.hand.view.size in
    let us = i.sets.writes in
    let records : c.records.result ≡ z.records = c.records.ensures.count ∙ ap (λ (x : Size). x.records) c.layout.ensures ∙ sym (ap (λ (p : PostView). p.shared.size.records) c.self.view_is ∙ ap (λ (x : Shared). x.size.records) c.requires.core) in
    let counted = c.count_below-inlined.ensures ∙ ap (λ n. count_below n us) records ∙ count_placed z us (λ u among. (is.at.inside.writes u among).0) is.at.fit in
    let told : CountsPlaces z (written_values us) (placed_of us) c.count_below-inlined.result = record { have = have_places z us (written_values us) is.at.fit refl; count = counted } in
    subst (λ (p : PostView). CountsPlaces p.shared.size p.writes p.placed c.count_below-inlined.result) c.self.view_is
    (subst (λ ws. CountsPlaces z (written_values us) (placed_of ws) c.count_below-inlined.result) (sym is.at.decided.linked) told)
