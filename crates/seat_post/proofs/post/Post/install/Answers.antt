use Rattle.std.proofs.Common.{◌≡◌, ap, sym, subst, ◌∙◌, length, take}
use Rattle.core_rule.specs.Deciding.{value_of}
use Rattle.core_rule.specs.Hands.{Shared}
use Rattle.validate_core.specs.Installing.{IsBegun, Installs}
use Rattle.seat_post.specs.Observing.{MeetsNoPlace}
use Rattle.seat_post.specs.Post.{PostView, in_phase, closed, with_bounds, placing, bounds_in, observing, observed_in}
use Rattle.seat_post.specs.declared.phase.Phase.TheVariants.{Installed}
use Rattle.seat_post.proofs.EndMore.{at_known, post_installed, turned_written, same_values}
use Rattle.seat_post.proofs.Over.{view_over, view_installed, post_over}
use Rattle.seat_post.specs.Seats.{IsAloneAt, placed_of, observed_of}
use Rattle.seat_post.specs.Placing.{HavePlaces, TriesAll}
use Rattle.seat_post.specs.Lists.{bounds_before, IsFullAt}
use Rattle.validate_core.proofs.Writes.{same_once}
use Rattle.seat_post.proofs.ReadMore.{open_left, open_above}
use Rattle.seat_post.proofs.AloneSeats.{alone_told}
use Rattle.spare_numbers.proofs.Written.{length-written}
use Rattle.seat_post.proofs.Placed.{each_before, each_fits, each_puts, puts_told, have_places}
use Rattle.seat_post.proofs.Linked.{written_values-take, post_linked, post_stuck, post_full}
use Rattle.seat_post.proofs.Stuck.{finds_none, meets_none, next_written}
use Rattle.seat_post.proofs.post.Post.install.Goals as goal

pub install-requires-clause-begun : goal.install-requires-clause-begun
install-requires-clause-begun g c =
    let is = at_known _ _ _ _ _ (ap (λ (p : PostView). p.phase) c.self.view_is ∙ c.requires.open) c.self.invariant in
    subst (λ (x : Shared). IsBegun x.size c.self.inside.sets c.self.inside.hand.view) (ap (λ (p : PostView). p.shared) c.self.view_is ∙ c.requires.core) is.at.begun

pub invariant_of-self : goal.invariant_of-self
invariant_of-self g c =
    let is = at_known _ _ _ _ _ (ap (λ (p : PostView). p.phase) c.self.view_is ∙ c.requires.open) c.self.invariant in
    let n = c.install.ensures in
    let installs = subst (λ (x : Shared). Installs x.size c.install.new.sets c.self.inside.hand.view c.install.new.hand.view) (sym (ap (λ (p : PostView). p.shared) c.self.view_is ∙ c.requires.core)) c.in-Ok.ensures.ok in
    post_installed c.args.core.now _ _ _ _ _ is n.same installs n.stands n.in_reserved n.stays.ready

pub returns-in-Ok-clause-ok : goal.returns-in-Ok-clause-ok
returns-in-Ok-clause-ok g c =
    let i = c.self.inside in
    let is = at_known _ _ _ _ _ (ap (λ (p : PostView). p.phase) c.self.view_is ∙ c.requires.open) c.self.invariant in
    let n = c.install.ensures in
    let w = c.install.new.hand.view in
    view_installed i.hand c.install.new.hand i.phase i.stamp _ i.sets c.install.new.sets n.stays.seat.same_table n.stands is.at.begun.in_flight n.log n.same
    ∙ ap (λ (p : PostView). observing (placing (in_phase (with_bounds p record { counts = w.counts; tops = w.tops }) Installed) (placed_of w.work.linked)) (observed_in c.install.new.hand)) c.self.view_is

pub returns-in-Ok-clause-stamp : goal.returns-in-Ok-clause-stamp
returns-in-Ok-clause-stamp g c =
    let is = at_known _ _ _ _ _ (ap (λ (p : PostView). p.phase) c.self.view_is ∙ c.requires.open) c.self.invariant in
    c.in-Ok.ensures.stamp ∙ sym is.at.at ∙ ap (λ (p : PostView). p.stamp) c.self.view_is

pub returns-in-Err-clause-written : goal.returns-in-Err-clause-written
returns-in-Err-clause-written g c = λ none.
    let e = c.in-Err.ensures.err in
    turned_written e.number c.self.inside.sets.writes c.install.new.sets.writes e.write c.install.ensures.same.writes e.turn (ap (λ (p : PostView). p.writes) c.self.view_is ∙ none)

pub invariant_of-self-in-Err : goal.invariant_of-self-in-Err
invariant_of-self-in-Err g c =
    let is = at_known _ _ _ _ _ (ap (λ (p : PostView). p.phase) c.self.view_is ∙ c.requires.open) c.self.invariant in
    let n = c.install.ensures in
    let e = c.let_go.ensures in
    rw e.phase (post_over c.args.core.now _ _ _ _ _ _ _ _ is n.stands n.in_reserved is.at.begun.in_flight n.stays.ready c.in-Err.ensures.err.ends e.stamp e.reads e.writes)

pub returns-in-Err-clause-err : goal.returns-in-Err-clause-err
returns-in-Err-clause-err g c =
    let i = c.self.inside in
    let is = at_known _ _ _ _ _ (ap (λ (p : PostView). p.phase) c.self.view_is ∙ c.requires.open) c.self.invariant in
    let n = c.install.ensures in
    let e = c.let_go.ensures in
    rw e.phase (view_over i.hand c.install.new.hand i.phase i.stamp _ _ i.sets c.let_go.new.sets n.stays.seat.same_table n.stands is.at.begun.in_flight n.log e.stamp e.reads e.writes
    ∙ ap (λ (p : PostView). observing (placing (closed (with_bounds p record { counts = c.install.new.hand.view.counts; tops = c.install.new.hand.view.tops })) (placed_of c.install.new.hand.view.work.linked)) (observed_in c.install.new.hand)) c.self.view_is)

pub returns-in-Ok-clause-linked : goal.returns-in-Ok-clause-linked
returns-in-Ok-clause-linked g c =
    let is = at_known _ _ _ _ _ (ap (λ (p : PostView). p.phase) c.self.view_is ∙ c.requires.open) c.self.invariant in
    let n = c.install.ensures in
    let once = same_once c.self.inside.sets.writes c.install.new.sets.writes n.same.writes is.at.begun.inside.once in
    let values = same_values c.self.inside.sets.writes c.install.new.sets.writes n.same.writes ∙ ap (λ (p : PostView). p.writes) c.self.view_is in
    post_linked c.args.core.now.size c.self.inside.hand.view.published.write c.install.new.sets.writes c.self.inside.hand.view c.install.new.hand.view c.args.self.now.writes c.args.self.now.stamp c.args.self.now.bounds c.in-Ok.ensures.ok.each once values (sym is.at.at ∙ ap (λ (p : PostView). p.stamp) c.self.view_is) (ap (λ (p : PostView). p.bounds) c.self.view_is)

pub returns-in-Err-clause-wants : goal.returns-in-Err-clause-wants
returns-in-Err-clause-wants g c =
    let i = c.self.inside in
    let is = at_known _ _ _ _ _ (ap (λ (p : PostView). p.phase) c.self.view_is ∙ c.requires.open) c.self.invariant in
    let z = c.args.core.now.size in
    let p = c.args.self.now in
    let f = c.in-Err.ensures.err in
    let us = c.install.new.sets.writes in
    let w = c.install.new.hand.view in
    let few = take f.number p.writes in
    let once = same_once i.sets.writes us c.install.ensures.same.writes is.at.begun.inside.once in
    let values = same_values c.self.inside.sets.writes us c.install.ensures.same.writes ∙ ap (λ (q : PostView). q.writes) c.self.view_is in
    let have = have_places z (take f.number us) few (each_fits z i.hand.view.published.write (take f.number us) i.hand.view f.installed f.each) (written_values-take f.number us ∙ ap (take f.number) values) in
    let no_place = meets_none z c.install.new.sets i.hand.view w f in
    record {
      count = f.number;
      write = (f.write.record_number, value_of f.write.cells);
      next = next_written f.number us p.writes f.write f.turn values;
      linked = post_stuck z c.install.new.sets i.hand.view w p.writes p.stamp p.bounds once values (sym is.at.at ∙ ap (λ (q : PostView). q.stamp) c.self.view_is) (ap (λ (q : PostView). q.bounds) c.self.view_is) f;
      have = subst (λ (x : Shared). HavePlaces x.size few (placed_of w.work.linked)) (sym c.requires.core) (subst (λ ws. HavePlaces z few (placed_of ws)) (sym f.linked) have);
      between = observed_of f.installed;
      puts = puts_told (each_puts z i.hand.view.published.write (take f.number us) i.hand.view f.installed f.each)
          (sym (ap (λ (x : Shared). x.size) c.requires.core)) (sym is.at.at ∙ ap (λ (q : PostView). q.stamp) c.self.view_is) (ap placed_of (sym f.linked)) (ap (λ (q : PostView). q.observed) c.self.view_is);
      none = subst (λ (x : Shared). TriesAll x.size f.write.record_number (observed_of f.installed) (observed_in c.install.new.hand)) (sym c.requires.core) (finds_none z c.install.new.sets i.hand.view w f);
      no_place = subst (λ (q : PostView). MeetsNoPlace q.shared.size f.write.record_number q.observed (observed_in c.install.new.hand)) c.self.view_is
          (subst (λ (x : Shared). MeetsNoPlace x.size f.write.record_number (observed_in i.hand) (observed_in c.install.new.hand)) (sym (ap (λ (q : PostView). q.shared) c.self.view_is ∙ c.requires.core)) no_place);
    }

pub returns-in-Err-clause-full : goal.returns-in-Err-clause-full
returns-in-Err-clause-full g c = λ on.
    let i = c.self.inside in
    let us = i.sets.writes in
    let alone = alone_told i.hand.view (subst (λ (p : PostView). IsAloneAt p.shared.size p.seat p.others) (sym c.self.view_is) on) in
    let same : length us ≡ length c.args.self.now.writes = sym (length-written us) ∙ ap (λ (p : PostView). length p.writes) c.self.view_is in
    let at = post_full c.args.core.now.size i.hand.view c.args.self.now.bounds (length c.args.self.now.writes) (length us) c.in-Err.ensures.full alone c.self.invariant.holds_none same (ap (λ (p : PostView). p.bounds) c.self.view_is) in
    subst (λ (x : Shared). IsFullAt x.size c.args.self.now.bounds (length c.args.self.now.writes)) (sym c.requires.core) at

pub returns-in-Ok-clause-read_left : goal.returns-in-Ok-clause-read_left
returns-in-Ok-clause-read_left g c = let i = c.self.inside in open_left i.hand i.phase i.stamp i.sets c.args.self.now c.self.invariant c.self.view_is c.requires.open

pub returns-in-Err-clause-read_left : goal.returns-in-Err-clause-read_left
returns-in-Err-clause-read_left g c = let i = c.self.inside in open_left i.hand i.phase i.stamp i.sets c.args.self.now c.self.invariant c.self.view_is c.requires.open

pub returns-in-Ok-clause-above : goal.returns-in-Ok-clause-above
returns-in-Ok-clause-above g c = let i = c.self.inside in open_above i.hand i.phase i.stamp i.sets c.args.self.now c.self.invariant c.self.view_is c.requires.open

pub returns-in-Err-clause-above : goal.returns-in-Err-clause-above
returns-in-Err-clause-above g c = let i = c.self.inside in open_above i.hand i.phase i.stamp i.sets c.args.self.now c.self.invariant c.self.view_is c.requires.open

pub returns-in-Ok-clause-before : goal.returns-in-Ok-clause-before
returns-in-Ok-clause-before g c =
    let us = c.install.new.sets.writes in
    let values = same_values c.self.inside.sets.writes us c.install.ensures.same.writes ∙ ap (λ (p : PostView). p.writes) c.self.view_is in
    let long : length us ≡ length c.args.self.now.writes = sym (length-written us) ∙ ap length values in
    ap (λ k. bounds_before k (bounds_in c.install.new.hand)) (sym long) ∙ each_before c.args.core.now.size c.self.inside.hand.view.published.write us c.self.inside.hand.view c.install.new.hand.view c.in-Ok.ensures.ok.each c.install.ensures.in_reserved ∙ ap (λ (p : PostView). p.bounds) c.self.view_is

pub returns-in-Ok-clause-places : goal.returns-in-Ok-clause-places
returns-in-Ok-clause-places g c =
    let z = c.args.core.now.size in
    let us = c.install.new.sets.writes in
    let o = c.in-Ok.ensures.ok in
    let values = same_values c.self.inside.sets.writes us c.install.ensures.same.writes ∙ ap (λ (p : PostView). p.writes) c.self.view_is in
    let have = have_places z us c.args.self.now.writes (each_fits z c.self.inside.hand.view.published.write us c.self.inside.hand.view c.install.new.hand.view o.each) values in
    subst (λ (x : Shared). HavePlaces x.size c.args.self.now.writes (placed_of c.install.new.hand.view.work.linked)) (sym c.requires.core)
    (subst (λ ws. HavePlaces z c.args.self.now.writes (placed_of ws)) (sym o.installed.linked) have)

pub returns-in-Ok-clause-puts : goal.returns-in-Ok-clause-puts
returns-in-Ok-clause-puts g c =
    let i = c.self.inside in
    let is = at_known _ _ _ _ _ (ap (λ (p : PostView). p.phase) c.self.view_is ∙ c.requires.open) c.self.invariant in
    let k = c.install.new.hand in
    let o = c.in-Ok.ensures.ok in
    puts_told (each_puts c.args.core.now.size i.hand.view.published.write c.install.new.sets.writes i.hand.view k.view o.each)
    (sym (ap (λ (x : Shared). x.size) c.requires.core)) (sym is.at.at ∙ ap (λ (p : PostView). p.stamp) c.self.view_is) (ap placed_of (sym o.installed.linked)) (ap (λ (p : PostView). p.observed) c.self.view_is)
