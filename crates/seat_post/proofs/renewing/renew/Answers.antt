use Rattle.std.specs.Prelude.{if◌then◌else◌}
use Rattle.std.proofs.Common.{rules, ◌≡◌, ◌≢◌, ◌<◌, ℕ, sym, ap, ◌∙◌, subst, inl, inr, arith}
use Rattle.stamp_base.specs.Stamp.{stamp_of}
use Rattle.core_rule.specs.Hands.{Seated}
use Rattle.core_rule.specs.View.{View, Counted, version_reserved}
use Rattle.word_layout.specs.Size.{Size, reserved_place}
use Rattle.clock_stamps.specs.Clocks.{drawn_clock}
use Rattle.seat_post.specs.Collecting.{trail_in}
use Rattle.seat_post.specs.Reading.{FindsValue}
use Rattle.seat_post.specs.Rewriting.{Rewrites}
use Rattle.seat_post.specs.Seats.{observed_of}
use Rattle.seat_post.specs.Settling.{IsSettling, Settles, IsRewrittenAt}
use Rattle.seat_post.specs.SettlingOne.{RewritesOne}
use Rattle.seat_post.proofs.Answered.{not_ok, on_err}
use Rattle.seat_post.proofs.Bounds.{drawn_later, less_is_most, seat_below}
use Rattle.seat_post.proofs.Steady.{steady_same, steady_settles}
use Rattle.seat_post.proofs.ReservedPlace.{reserved_in}
use Rattle.seat_post.proofs.Renewed.{drew_found, drew_taking, alone_drawn, none_taken, taken_alone, was_found, written_again, none_stops, spare_found, free_found, value_found, rewrites_one}
use Rattle.seat_post.proofs.renewing.renew.Given.{Over}
use Rattle.seat_post.proofs.renewing.renew.Goals as goal

pub returns-in_err-stamp-clause-settles : goal.returns-in_err-stamp-clause-settles
returns-in_err-stamp-clause-settles g c = steady_settles g.J.Keeps.kept c.args.hand.now.view c.draw.new.hand.view (steady_same c.args.hand.now.view c.draw.new.hand.view (ap (λ (h : Seated). h.view) c.in_err-stamp.ensures.unchanged) c.requires.settling.ends)

pub unreachable-requires : goal.unreachable-requires
unreachable-requires g c = c.in-Err.ensures.err.another.not_alone (alone_drawn c.args.hand.now.view c.draw.new.hand.view _ c.in_ok-stamp.ensures.view c.requires.settling.alone)

-- no place was taken
none_was : (g : Over) (c : goal.After-from_residual-in_err-taken g) → IsSettling c.take_place.new.hand.view × Settles g.J.Keeps.kept c.args.hand.now.view c.take_place.new.hand.view
none_was g c =
    let v = c.args.hand.now.view in
    let r = c.in-Ok.read in
    let seat = seat_below c.number.ensures.size (subst (λ (n : ℕ). n < v.size.seats) c.number.ensures.value c.number.ensures.in_range) in
    let above = subst (λ (n : ℕ). v.published.write < n) c.in_ok-stamp.ensures.stamp c.in_ok-stamp.ensures.above_published in
    none_taken g.J.Keeps.kept v c.draw.new.hand.view c.search.new.hand.view c.take_place.new.hand.view (drawn_clock v.clock.clock 0) c.args.rid r.place r.wts r.value c.requires.settling seat above (less_is_most _ _ (drawn_later v.clock.clock 0)) c.in_ok-stamp.ensures.view c.in-Ok.ensures.ok c.in_err-taken.ensures.none

pub returns-in_err-taken-clause-settling : goal.returns-in_err-taken-clause-settling
returns-in_err-taken-clause-settling g c = (none_was g c).0

pub returns-in_err-taken-clause-settles : goal.returns-in_err-taken-clause-settles
returns-in_err-taken-clause-settles g c = (none_was g c).1

pub returns-in_err-taken-clause-ok : goal.returns-in_err-taken-clause-ok
returns-in_err-taken-clause-ok g c = not_ok c.from_residual-in_err-taken.result _ _ c.from_residual-in_err-taken.ensures.1

pub returns-in_err-taken-clause-in_reserved : goal.returns-in_err-taken-clause-in_reserved
returns-in_err-taken-clause-in_reserved g c = not_ok c.from_residual-in_err-taken.result _ _ c.from_residual-in_err-taken.ensures.1

pub returns-in_err-taken-clause-clock : goal.returns-in_err-taken-clause-clock
returns-in_err-taken-clause-clock g c = not_ok c.from_residual-in_err-taken.result _ _ c.from_residual-in_err-taken.ensures.1

pub returns-in_err-taken-clause-none : goal.returns-in_err-taken-clause-none
returns-in_err-taken-clause-none g c = on_err c.from_residual-in_err-taken.result (ap (λ (y : View). y.counts) c.in_err-taken.ensures.none.view ∙ ap (λ (y : View). y.counts) c.in-Ok.ensures.ok.view ∙ ap (λ (y : View). y.counts) c.in_ok-stamp.ensures.view)

pub returns-in_err-taken-clause-log : goal.returns-in_err-taken-clause-log
returns-in_err-taken-clause-log g c = on_err c.from_residual-in_err-taken.result (ap (λ (y : View). y.log) c.in_err-taken.ensures.none.view ∙ ap (λ (y : View). y.log) c.in-Ok.ensures.ok.view ∙ ap (λ (y : View). y.log) c.in_ok-stamp.ensures.view)

pub returns-in_err-stamp-clause-runs_out : goal.returns-in_err-stamp-clause-runs_out
returns-in_err-stamp-clause-runs_out g c =
    let same = ap (λ (h : Seated). h.view) c.in_err-stamp.ensures.unchanged in
    let out = c.in_err-stamp.ensures.clock_out in
    let clock = ap (λ (y : View). y.clock.clock) same in
    on_err c.from_residual.result (record { at_end = grind (arith, rules); told = inl (clock, ap observed_of same) })

pub returns-in_err-taken-clause-runs_out : goal.returns-in_err-taken-clause-runs_out
returns-in_err-taken-clause-runs_out g c =
    let v = c.args.hand.now.view in
    let r = c.in-Ok.read in
    let w = c.search.new.hand.view in
    let e = c.in_err-taken.ensures in
    let at : w.clock.clock ≡ drawn_clock v.clock.clock 0 = ap (λ (y : View). y.clock.clock) c.in-Ok.ensures.ok.view ∙ ap (λ (y : View). y.clock.clock) c.in_ok-stamp.ensures.view in
    let last : c.take_place.new.hand.view.clock.clock ≡ w.clock.clock = ap (λ (y : View). y.clock.clock) e.none.view in
    let stamp : stamp_of (drawn_clock v.clock.clock 0) v.number ≡ stamp_of c.take_place.new.hand.view.clock.clock v.number = ap (λ (n : ℕ). stamp_of n v.number) (sym (last ∙ at)) in
    let found = value_found v c.draw.new.hand.view w (drawn_clock v.clock.clock 0) c.args.rid r.place r.wts r.value c.in_ok-stamp.ensures.view c.in-Ok.ensures.ok in
    on_err c.from_residual-in_err-taken.result (record {
      at_end = last ∙ e.clock_out;
      told = inr (omega arith, record { value = r.value; found = observed_of w; finds = subst (λ (n : ℕ). FindsValue n c.args.rid (observed_of v) (observed_of w) r.value) stamp found; none = e.tries_all });
    })

pub returns-in_err-taken-clause-rewrites : goal.returns-in_err-taken-clause-rewrites
returns-in_err-taken-clause-rewrites g c = not_ok c.from_residual-in_err-taken.result _ _ c.from_residual-in_err-taken.ensures.1

pub rewrite-requires-clause-read : goal.rewrite-requires-clause-read
rewrite-requires-clause-read g c =
    let v = c.args.hand.now.view in
    let r = c.in-Ok.read in
    record {
      in_flight = search rules;
      published = search rules;
      is_stamp = search rules;
      work = search rules;
      found = was_found v c.draw.new.hand.view c.search.new.hand.view c.take_place.new.hand.view (drawn_clock v.clock.clock 0) c.args.rid r.place r.wts c.in_ok-taken.taken.place r.value c.in_ok-stamp.ensures.view c.in-Ok.ensures.ok c.in_ok-taken.ensures.takes;
    }

pub rewrite-requires-clause-fits : goal.rewrite-requires-clause-fits
rewrite-requires-clause-fits g c = c.in_ok-taken.ensures.fits.0

pub unreachable-requires-in-Err-rewrite : goal.unreachable-requires-in-Err-rewrite
unreachable-requires-in-Err-rewrite g c =
    let v = c.args.hand.now.view in
    let r = c.in-Ok.read in
    none_stops c.args.rid c.in_ok-taken.taken.place _ c.take_place.new.hand.view c.rewrite.new.hand.view c.in-Err-rewrite._conflict
    (taken_alone v c.draw.new.hand.view c.search.new.hand.view c.take_place.new.hand.view (drawn_clock v.clock.clock 0) c.args.rid r.place r.wts c.in_ok-taken.taken.place r.value c.in_ok-stamp.ensures.view c.in-Ok.ensures.ok c.in_ok-taken.ensures.takes c.requires.settling.alone) c.in-Err-rewrite.ensures.err

-- the record was written again
again : (g : Over) (c : goal.After-number-in-Ok-rewrite g) → let v = c.args.hand.now.view in let x = c.rewrite.new.hand.view in IsSettling x × Settles g.J.Keeps.kept v x × IsRewrittenAt c.args.rid (stamp_of (drawn_clock v.clock.clock 0) v.number) v x
again g c =
    let v = c.args.hand.now.view in
    let r = c.in-Ok.read in
    let seat = seat_below c.number.ensures.size (subst (λ (n : ℕ). n < v.size.seats) c.number.ensures.value c.number.ensures.in_range) in
    let above = subst (λ (n : ℕ). v.published.write < n) c.in_ok-stamp.ensures.stamp c.in_ok-stamp.ensures.above_published in
    let h = c.requires.ready.hand_of in
    let rewrites : Rewrites g.J.Keeps.kept v.size.records c.args.rid c.in_ok-taken.taken.place c.take_place.new.hand.view.published.write r.value c.take_place.new.hand.view c.rewrite.new.hand.view = rw h.same_size c.in-Ok-rewrite.ensures.ok in
    written_again v c.draw.new.hand.view c.search.new.hand.view c.take_place.new.hand.view (drawn_clock v.clock.clock 0) c.args.rid r.place r.wts c.in_ok-taken.taken.place r.value c.in_ok-stamp.ensures.view c.in-Ok.ensures.ok c.in_ok-taken.ensures.takes g.J.Keeps.kept c.rewrite.new.hand.view c.requires.settling seat above (drawn_later v.clock.clock 0) rewrites (omega arith)

pub returns-clause-rewrites : goal.returns-clause-rewrites
returns-clause-rewrites g c =
    let v = c.args.hand.now.view in
    let r = c.in-Ok.read in
    let t = c.take_place.new.hand.view in
    let x = c.rewrite.new.hand.view in
    let h = c.requires.ready.hand_of in
    let seat = seat_below c.number.ensures.size (subst (λ (n : ℕ). n < v.size.seats) c.number.ensures.value c.number.ensures.in_range) in
    let above = subst (λ (n : ℕ). v.published.write < n) c.in_ok-stamp.ensures.stamp c.in_ok-stamp.ensures.above_published in
    let rewrites : Rewrites g.J.Keeps.kept v.size.records c.args.rid c.in_ok-taken.taken.place t.published.write r.value t x = rw h.same_size c.in-Ok-rewrite.ensures.ok in
    subst (λ (n : ℕ). RewritesOne c.args.core.now.size v.number c.args.rid n c.in_ok-taken.taken.reserved (trail_in v) (trail_in x)) (sym (c.number-in-Ok-rewrite.ensures.value ∙ c.in_ok-stamp.ensures.stamp))
    (rewrites_one v c.draw.new.hand.view c.search.new.hand.view t (drawn_clock v.clock.clock 0) c.args.rid r.place r.wts c.in_ok-taken.taken.place r.value c.in_ok-stamp.ensures.view c.in-Ok.ensures.ok c.in_ok-taken.ensures.takes
    g.J.Keeps.kept x c.requires.settling seat above (drawn_later v.clock.clock 0) rewrites c.args.core.now.size c.in_ok-taken.taken.reserved c.in_ok-taken.ensures.tries c.in-Ok-rewrite.ensures.validates)

pub returns-clause-settling : goal.returns-clause-settling
returns-clause-settling g c = (again g c).0

pub returns-clause-settles : goal.returns-clause-settles
returns-clause-settles g c = (again g c).1

pub take_place-requires-clause-spare : goal.take_place-requires-clause-spare
take_place-requires-clause-spare g c =
    let v = c.args.hand.now.view in
    let r = c.in-Ok.read in
    let h = c.requires.ready.hand_of in
    let within : c.args.rid < v.size.records = rw h.same_size c.requires.rid in
    spare_found v c.draw.new.hand.view c.search.new.hand.view c.args.core.now.size (drawn_clock v.clock.clock 0) c.args.rid r.place r.wts r.value c.in_ok-stamp.ensures.view c.in-Ok.ensures.ok c.requires.settling (sym h.same_size) within c.requires.spare

pub returns-clause-ok : goal.returns-clause-ok
returns-clause-ok g c =
    let v = c.args.hand.now.view in
    subst (λ (n : ℕ). IsRewrittenAt c.args.rid n v c.rewrite.new.hand.view) (sym (c.number-in-Ok-rewrite.ensures.value ∙ c.in_ok-stamp.ensures.stamp)) (again g c).2

-- the inline place of a record whose only version stands in the reserved place
pub returns-in_err-taken-clause-inline : goal.returns-in_err-taken-clause-inline
returns-in_err-taken-clause-inline g c = λ stands less.
    let v = c.args.hand.now.view in
    let r = c.in-Ok.read in
    let within : c.args.rid < v.size.records = rw c.requires.ready.hand_of.same_size c.requires.rid in
    absurd (c.in_err-taken.ensures.inline (free_found v c.draw.new.hand.view c.search.new.hand.view (drawn_clock v.clock.clock 0) c.args.rid r.place r.wts c.args.rid r.value c.in_ok-stamp.ensures.view c.in-Ok.ensures.ok c.requires.settling (inr (within, stands))))

pub returns-clause-inline : goal.returns-clause-inline
returns-clause-inline g c = λ stands less.
    let v = c.args.hand.now.view in
    let r = c.in-Ok.read in
    let within : c.args.rid < v.size.records = rw c.requires.ready.hand_of.same_size c.requires.rid in
    c.in_ok-taken.ensures.inline (free_found v c.draw.new.hand.view c.search.new.hand.view (drawn_clock v.clock.clock 0) c.args.rid r.place r.wts c.args.rid r.value c.in_ok-stamp.ensures.view c.in-Ok.ensures.ok c.requires.settling (inr (within, stands)))

pub returns-clause-in_reserved : goal.returns-clause-in_reserved
returns-clause-in_reserved g c =
    let v = c.args.hand.now.view in
    let t = c.take_place.new.hand.view in
    let r = c.in-Ok.read in
    let taken = c.in_ok-taken.taken in
    let e = c.in_ok-taken.ensures in
    let clock = drawn_clock v.clock.clock 0 in
    let found = drew_found v c.draw.new.hand.view c.search.new.hand.view clock c.args.rid r.place r.wts r.value c.in_ok-stamp.ensures.view c.in-Ok.ensures.ok in
    let drew = drew_taking v c.search.new.hand.view t clock taken.place v.places.held found e.takes in
    let size : c.args.core.now.size ≡ t.size = sym (drew.size ∙ c.requires.ready.hand_of.same_size) in
    let counts : t.counts ≡ v.counts = ap (λ (y : View). y.counts) e.takes.takes.view ∙ ap (λ (y : View). y.counts) c.in-Ok.ensures.ok.view ∙ ap (λ (y : View). y.counts) c.in_ok-stamp.ensures.view in
    let stamp : t.published.write ≡ c.number-in-Ok-rewrite.result = drew.published ∙ sym (c.number-in-Ok-rewrite.ensures.value ∙ c.in_ok-stamp.ensures.stamp) in
    ap (λ (y : View). y.counts.in_reserved) c.in-Ok-rewrite.ensures.ok.links.only
    ∙ reserved_in taken.reserved taken.place (reserved_place t.size) (version_reserved c.args.rid t.published.write) t.counts.in_reserved (λ here. e.reserved here ∙ ap reserved_place size) (λ off. subst (λ (z : Size). taken.place ≢ reserved_place z) size (e.apart off))
    ∙ ap (λ (n : ℕ). if taken.reserved then version_reserved c.args.rid n else t.counts.in_reserved) stamp
    ∙ ap (λ (k : Counted). if taken.reserved then version_reserved c.args.rid c.number-in-Ok-rewrite.result else k.in_reserved) counts
