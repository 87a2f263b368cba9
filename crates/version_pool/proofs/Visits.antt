-- A place that is taken and given back.
use Rattle.std.proofs.Common.{◌≡◌, ℕ, Bool, true, ◌&&◌, cond, leb, ltb, le-leb, lt-ltb, Option, Some, List, ap, ◌∙◌, refl}
use Rattle.word_layout.specs.Size.{Size, IsUsable, reserved_place}
use Rattle.core_rule.specs.View.{View}
use Rattle.core_rule.specs.Holding.{is_usable, without}
use Rattle.version_pool.specs.Fills.{after_giving}
use Rattle.version_pool.specs.Takes.{TakesFree, VisitsPlace, after_taking}
use Rattle.version_pool.proofs.Places.{without_taken}

usable : (z : Size) (place : ℕ) → IsUsable z place → is_usable z place ≡ true
usable z place is = (λ i. le-leb z.records place is.0 i && lt-ltb place (reserved_place z) is.1 i)

pub visits : (place : ℕ) (z : Size) (v taken given : View) → v.size ≡ z → IsUsable z place → TakesFree place v taken → given ≡ after_giving taken place → VisitsPlace place v given
visits place z v taken given size is takes view =
    let same : given ≡ after_giving (after_taking v place) place = view ∙ ap (λ (w : View). after_giving w place) takes.view in
    let free : is_usable v.size place ≡ true = ap (λ (y : Size). is_usable y place) size ∙ usable z place is in record {
      view = same;
      held = ap (λ (w : View). w.places.held) same ∙ without_taken place v.places.held takes.not_held;
      last = ap (λ (w : View). w.places.last_pool) same ∙ ap (λ (b : Bool). cond b (Some place) v.places.last_pool) free;
    }
