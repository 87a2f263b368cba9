use Rattle.std.proofs.Common.{◌≡◌, true, false, inl, inr}
use Rattle.word_layout.specs.Size.{reserved_place}
use Rattle.seat_post.proofs.Renewed.{still_free, tries_taking}
use Rattle.seat_post.proofs.renewing.take_place.Goals as goal

-- one of the two places is known to be free
pub unreachable-requires : goal.unreachable-requires
unreachable-requires g c =
    let e = c.in_default.ensures in
    let lost = e.places_out in
    elim c.requires.spare as (λ _. ⊥) [
      | inl kept ↦ (let some : false ≡ true = c.in_default-take_reserved.ensures.free (still_free (reserved_place c.args.core.now.size) c.args.hand.now.view c.take.new.hand.view lost.lost lost.view kept) in cc)
      | inr inline ↦ e.free inline
    ]

pub returns-clause-tries : goal.returns-clause-tries
returns-clause-tries g c = tries_taking c.args.core.now.size c.args.rid c.in-Some.place c.args.hand.now.view c.take.new.hand.view c.take_reserved.new.hand.view c.in_default.ensures.places_out c.in-Some.ensures.taken
