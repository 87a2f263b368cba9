use Rattle.std.proofs.Common.{◌≡◌, ◌<◌, ◌∙◌, List, Some, ap, sym, subst, length, refl, arith}
use Rattle.std.specs.Prelude.{slice_get, slice_set}
use Rattle.std.specs.Vec.{with_item}
use Rattle.core_rule.specs.View.{Write}
use Rattle.validate_core.specs.Noted.{noted}
use Rattle.validate_core.specs.Sets.{SetsView, Turn}
use Rattle.validate_core.proofs.Noting.{noted_get, noted_set, set_noted, get_of, length_noted}
use Rattle.validate_core.proofs.sets.Sets.place_at.Goals as goal

pub invariant_of-self : goal.invariant_of-self
invariant_of-self c =
    let n = c.self.inside.writes in let old = c.index_mut.result.now in let is = c.self.invariant.writes_are in
    let below : c.args.i < length (noted n) = subst (λ (s : SetsView). c.args.i < length s.writes) (sym c.self.view_is) c.requires in
    record {
      reads_are = c.self.invariant.reads_are;
      writes_are = set_noted (λ (u : Write). u.record_number) n _ c.args.i c.set_place.new.self old is (noted_get n c.args.i old is.within below c.index_mut.ensures.value)
          (ap (λ (u : Write). u.record_number) c.set_place.ensures) refl refl refl refl refl;
    }

pub returns-clause-writes : goal.returns-clause-writes
returns-clause-writes c =
    let n = c.self.inside.writes in let old = c.index_mut.result.now in let is = c.self.invariant.writes_are in let i = c.args.i in
    let below : i < length (noted n) = subst (λ (s : SetsView). i < length s.writes) (sym c.self.view_is) c.requires in
    let at : slice_get (noted n) i ≡ Some old = noted_get n i old is.within below c.index_mut.ensures.value in
    let long = length_noted n is.within in
    λ u turn.
    let there : slice_get (noted n) i ≡ Some u = get_of i (noted n) u (subst (λ (s : SetsView). Turn i s.writes u) (sym c.self.view_is) turn) in
    let same : old ≡ u = cc in
    noted_set n (record n { items = with_item n.items i c.set_place.new.self }) i c.set_place.new.self (omega arith) refl refl
    ∙ ap (λ (us : List Write). slice_set us i c.set_place.new.self) (ap (λ (s : SetsView). s.writes) c.self.view_is)
    ∙ ap (λ (w : Write). slice_set c.args.self.now.writes i w) (c.set_place.ensures ∙ ap (λ (w : Write). record w { place = c.args.place; stamp = c.args.stamp }) same)
