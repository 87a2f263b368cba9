use Rattle.std.proofs.Common.{◌≡◌, ◌∷◌, ℕ, refl, ap, ◌∙◌, subst, inl, inr}
use Rattle.version_pool.specs.declared.takes.Kind.{Kind}
use Rattle.version_pool.specs.declared.takes.Kind.TheVariants.{Inline, Pool}
use Rattle.word_layout.specs.Size.{Size, IsUsable}
use Rattle.core_rule.specs.View.{View, Write}
use Rattle.core_rule.specs.Views.{Among}
use Rattle.version_pool.specs.Takes.{usable_in_turn, TakesFirst}
use Rattle.validate_core.specs.Installing.{IsFor}
use Rattle.validate_core.proofs.Placing.{linked_in_reserved}
use Rattle.validate_core.proofs.Writes.{turn_same}
use Rattle.validate_core.proofs.installing.install_one.Goals as goal

by_kind : {A B : Type 0} (z : Size) (rid place : ℕ) (kind : Kind) → (kind ≡ Inline → (place ≡ rid) × A) → (kind ≡ Pool → IsUsable z place × B) → IsFor z rid place
by_kind z rid place Inline inline pool = inl (inline refl).0
by_kind z rid place Pool inline pool = inr (pool refl).0

pub put-requires-clause-only : goal.put-requires-clause-only
put-requires-clause-only g c = λ u turn u' h.
    let linked = ap (λ (v : View). v.work.linked) c.in-Ok.ensures.first.takes.view in c.requires.only u turn u' (subst (Among u') linked h)

pub returns-in-Ok-clause-ok : goal.returns-in-Ok-clause-ok
returns-in-Ok-clause-ok g c =
    let puts = c.put.ensures.puts in let before = c.args.hand.now.view in
    let same : c.rid-rid.result ≡ puts.write.record_number =
    c.rid-rid.ensures ∙ ap (λ (u : Write). u.record_number) (turn_same c.args.i c.args.sets.now.writes c.write_at.result.now puts.write c.write_at.ensures puts.turn) in
    record {
      place = c.in-Ok.place;
      taken = c.take.new.hand.view;
      puts = puts;
      fits = subst (λ (r : ℕ). IsFor c.args.core.now.size r c.in-Ok.place) same (by_kind c.args.core.now.size c.rid-rid.result c.in-Ok.place _ c.in-Ok.ensures.inline c.in-Ok.ensures.pool);
      takes = subst (λ (r : ℕ). TakesFirst (r ∷ usable_in_turn c.args.core.now.size before.places.last_pool) before c.in-Ok.place c.take.new.hand.view) same c.in-Ok.ensures.first;
    }

pub returns-in-Ok-clause-in_reserved : goal.returns-in-Ok-clause-in_reserved
returns-in-Ok-clause-in_reserved g c =
    let taken = c.in-Ok.ensures.first.takes.view in
    linked_in_reserved c.args.core.now.size _ _ c.put.new.hand.view (ap (λ (v : View). v.size) taken ∙ c.requires.ready.hand_of.same_size) c.in-Ok.ensures.not_reserved c.put.ensures.puts.linked
    ∙ ap (λ (v : View). v.counts.in_reserved) taken
