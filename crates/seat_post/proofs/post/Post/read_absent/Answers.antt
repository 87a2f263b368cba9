use Rattle.std.proofs.Common.{◌≡◌, ◌<◌, ℕ, List, Option, subst, sym, ap, ◌∙◌, None}
use Rattle.core_rule.specs.View.{writing}
use Rattle.core_rule.specs.Deciding.{read_values}
use Rattle.record_store.specs.Meaning.{value_at}
use Rattle.seat_post.specs.Conflicts.{IsOfAnother}
use Rattle.seat_post.specs.Searched.{Finds}
use Rattle.seat_post.specs.Post.{PostView, noted, observing, observed_in}
use Rattle.seat_post.proofs.Listed.{unread}
use Rattle.seat_post.proofs.ReadMore.{met_at, is_open, open_at, post_room, view_room, post_read, post_stopped, post_passed, not_read, found_left, found_value, present_found}
use Rattle.record_store.proofs.Values.{is_some-false}
use Rattle.seat_post.proofs.Over.{view_found, view_noted}
use Rattle.seat_post.proofs.Stopped.{stopped_post, stops_post}
use Rattle.seat_post.specs.Leaves.{LeavesValue}
use Rattle.seat_post.proofs.Leaving.{some_words}
use Rattle.seat_post.proofs.post.Post.read_absent.Goals as goal

pub invariant_of-self : goal.invariant_of-self
invariant_of-self g c =
    let phase = ap (λ (p : PostView). p.phase) c.self.view_is ∙ c.requires.open in
    let r = c.reserve.ensures in
    open_at _ _ _ _ phase (post_room _ _ _ _ (is_open _ _ _ _ phase c.self.invariant) r.reads r.writes)

pub search-requires-clause-rests : goal.search-requires-clause-rests
search-requires-clause-rests g c =
    (is_open _ _ _ _ (ap (λ (p : PostView). p.phase) c.self.view_is ∙ c.requires.open) c.self.invariant).at.begun.rests

pub search-requires-clause-in_flight : goal.search-requires-clause-in_flight
search-requires-clause-in_flight g c =
    let now = (is_open _ _ _ _ (ap (λ (p : PostView). p.phase) c.self.view_is ∙ c.requires.open) c.self.invariant).at in
    now.begun.in_flight ∙ ap writing (sym (c.number.ensures.value ∙ now.at))

pub invariant_of-self-in-Err : goal.invariant_of-self-in-Err
invariant_of-self-in-Err g c =
    let phase = ap (λ (p : PostView). p.phase) c.self.view_is ∙ c.requires.open in
    let r = c.reserve.ensures in
    let room = post_room c.self.inside.hand c.self.inside.stamp c.self.inside.sets c.reserve.new.self (is_open _ _ _ _ phase c.self.invariant) r.reads r.writes in
    open_at _ _ _ _ phase (post_stopped c.args.core.now _ _ _ c.args.rid _ _ room c.search.ensures.stays.ready (rw c.number.ensures.value at c.in-Err.ensures.err))

pub read-requires-clause-first : goal.read-requires-clause-first
read-requires-clause-first g c =
    let none = not_read (value_at c.args.self.now.writes c.args.rid) (value_at c.args.self.now.reads c.args.rid) c.requires.first in
    unread c.reserve.new.self.reads c.args.rid (ap (λ ds. value_at (read_values ds) c.args.rid) c.reserve.ensures.reads ∙ ap (λ (p : PostView). value_at p.reads c.args.rid) c.self.view_is ∙ none)

pub invariant_of-self-then-is_some : goal.invariant_of-self-then-is_some
invariant_of-self-then-is_some g c =
    let phase = ap (λ (p : PostView). p.phase) c.self.view_is ∙ c.requires.open in
    let r = c.reserve.ensures in
    let room = post_room c.self.inside.hand c.self.inside.stamp c.self.inside.sets c.reserve.new.self (is_open _ _ _ _ phase c.self.invariant) r.reads r.writes in
    open_at _ _ _ _ phase (post_passed c.args.core.now _ _ _ c.args.rid _ _ _ _ room c.search.ensures.stays.ready c.in-Ok.ensures.ok)

pub invariant_of-self-in-Ok : goal.invariant_of-self-in-Ok
invariant_of-self-in-Ok g c =
    let phase = ap (λ (p : PostView). p.phase) c.self.view_is ∙ c.requires.open in
    let r = c.reserve.ensures in
    let room = post_room c.self.inside.hand c.self.inside.stamp c.self.inside.sets c.reserve.new.self (is_open _ _ _ _ phase c.self.invariant) r.reads r.writes in
    let within = subst (λ (p : PostView). c.args.rid < p.shared.size.records) (sym c.self.view_is) c.requires.rid in
    let unread = not_read (value_at c.args.self.now.writes c.args.rid) (value_at c.args.self.now.reads c.args.rid) c.requires.first in
    let first = ap (λ ds. value_at (read_values ds) c.args.rid) r.reads ∙ ap (λ (p : PostView). value_at p.reads c.args.rid) c.self.view_is ∙ unread in
    let none : c.in-Ok.read.value ≡ None = is_some-false c.in-Ok.read.value (sym c.is_some.ensures ∙ c.if-is_some.false) in
    let finds = subst (λ (x : Option (List ℕ)). Finds c.args.rid c.in-Ok.read.place c.in-Ok.read.wts x c.self.inside.hand.view c.search.new.hand.view) none c.in-Ok.ensures.ok in
    open_at _ _ _ _ phase (post_read c.args.core.now _ _ _ c.args.rid _ _ None _ _ room c.search.ensures.stays.ready finds within first c.read.ensures.reads c.read.ensures.writes)

pub returns-in-Err-clause-met : goal.returns-in-Err-clause-met
returns-in-Err-clause-met g c =
    let i = c.self.inside in
    let met = met_at i.hand c.search.new.hand i.stamp c.args.rid c.in-Err.met.wts (rw c.number.ensures.value at c.in-Err.ensures.err) c.self.invariant.ready.hand_of.in_range in
    subst (λ (p : PostView). (c.in-Err.met.wts < p.stamp) × IsOfAnother p.shared.size p.seat p.others c.in-Err.met.wts) c.self.view_is met

pub returns-then-is_some-clause-passed : goal.returns-then-is_some-clause-passed
returns-then-is_some-clause-passed g c = λ off.
    let i = c.self.inside in
    let r = c.reserve.ensures in
    let flight = (is_open _ _ _ _ (ap (λ (p : PostView). p.phase) c.self.view_is ∙ c.requires.open) c.self.invariant).at.begun.in_flight in
    view_found i.hand c.search.new.hand i.phase i.stamp _ _ _ _ _ c.reserve.new.self c.search.ensures.stays.seat.same_table c.in-Ok.ensures.ok flight
    ∙ ap (λ (p : PostView). observing p (observed_in c.search.new.hand)) (view_room i.hand i.phase i.stamp i.sets c.reserve.new.self r.reads r.writes ∙ c.self.view_is)

pub returns-then-is_some-clause-left : goal.returns-then-is_some-clause-left
returns-then-is_some-clause-left g c = λ on off.
    let i = c.self.inside in
    let left = found_left i.hand c.search.new.hand i.phase i.stamp c.args.rid _ _ _ i.sets c.args.self.now c.self.invariant c.self.view_is c.requires.open c.in-Ok.ensures.ok on in
    let w = some_words c.in-Ok.read.value (sym c.is_some.ensures ∙ c.if-is_some.true) in
    (w.0, subst (λ (v : Option (List ℕ)). LeavesValue c.args.self.now.log c.args.rid c.args.self.now.stamp v) w.1 left)

pub returns-in-Err-clause-stops : goal.returns-in-Err-clause-stops
returns-in-Err-clause-stops g c =
    let i = c.self.inside in
    stops_post i.hand c.search.new.hand i.phase i.stamp _ c.args.rid c.in-Err.met.wts i.sets c.args.self.now c.self.view_is c.in-Err.ensures.err c.number.ensures.value

pub returns-in-Err-clause-err : goal.returns-in-Err-clause-err
returns-in-Err-clause-err g c =
    let i = c.self.inside in
    let flight = (is_open _ _ _ _ (ap (λ (p : PostView). p.phase) c.self.view_is ∙ c.requires.open) c.self.invariant).at.begun.in_flight in
    stopped_post i.hand c.search.new.hand i.phase i.stamp _ c.args.rid c.in-Err.met.wts i.sets c.args.self.now c.self.view_is c.in-Err.ensures.err _ c.reserve.new.self c.reserve.ensures.reads c.reserve.ensures.writes c.search.ensures.stays.seat.same_table flight

pub returns-then-is_some-clause-present : goal.returns-then-is_some-clause-present
returns-then-is_some-clause-present g c = λ off.
    let i = c.self.inside in
    let found = found_value i.hand c.search.new.hand i.phase i.stamp c.args.rid _ _ _ i.sets c.args.self.now c.self.invariant c.self.view_is c.requires.open c.in-Ok.ensures.ok in
    present_found c.args.self.now.stamp c.args.rid c.args.self.now.observed (observed_in c.search.new.hand) c.in-Ok.read.value found (sym c.is_some.ensures ∙ c.if-is_some.true)

pub returns-else-is_some-clause-absent : goal.returns-else-is_some-clause-absent
returns-else-is_some-clause-absent g c = λ on.
    let i = c.self.inside in
    let r = c.reserve.ensures in
    let flight = (is_open _ _ _ _ (ap (λ (p : PostView). p.phase) c.self.view_is ∙ c.requires.open) c.self.invariant).at.begun.in_flight in
    let wts = c.in-Ok.read.wts in
    let none : c.in-Ok.read.value ≡ None = is_some-false c.in-Ok.read.value (sym c.is_some.ensures ∙ c.if-is_some.false) in
    let finds = subst (λ (x : Option (List ℕ)). Finds c.args.rid c.in-Ok.read.place wts x i.hand.view c.search.new.hand.view) none c.in-Ok.ensures.ok in
    record {
      found = found_value i.hand c.search.new.hand i.phase i.stamp c.args.rid c.in-Ok.read.place wts None i.sets c.args.self.now c.self.invariant c.self.view_is c.requires.open finds;
      after =
          view_noted i.hand c.search.new.hand i.phase i.stamp _ c.args.rid _ wts None c.reserve.new.self c.read.new.self c.search.ensures.stays.seat.same_table finds flight c.read.ensures.reads c.read.ensures.writes
          ∙ ap (λ (p : PostView). observing (noted p c.args.rid wts None) (observed_in c.search.new.hand)) (view_room i.hand i.phase i.stamp i.sets c.reserve.new.self r.reads r.writes ∙ c.self.view_is);
    }
