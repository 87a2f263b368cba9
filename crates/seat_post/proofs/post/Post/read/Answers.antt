use Rattle.std.proofs.Common.{◌<◌, subst, sym, ap, ◌∙◌}
use Rattle.core_rule.specs.View.{writing}
use Rattle.core_rule.specs.Deciding.{read_values}
use Rattle.record_store.specs.Meaning.{value_at}
use Rattle.seat_post.specs.Conflicts.{IsOfAnother}
use Rattle.seat_post.specs.Post.{PostView, noted, observing, observed_in}
use Rattle.seat_post.proofs.Listed.{unread}
use Rattle.seat_post.proofs.ReadMore.{met_at, is_open, open_at, post_room, view_room, post_read, post_stopped, not_read, found_left, found_value}
use Rattle.seat_post.proofs.Over.{view_noted}
use Rattle.seat_post.proofs.Stopped.{stopped_post, stops_post}
use Rattle.seat_post.proofs.post.Post.read.Goals as goal

pub invariant_of-self : goal.invariant_of-self
invariant_of-self g c =
    let phase = ap (λ (p : PostView). p.phase) c.self.view_is ∙ c.requires.open in
    let r = c.reserve.ensures in
    open_at _ _ _ _ phase (post_room _ _ _ _ (is_open _ _ _ _ phase c.self.invariant) r.reads r.writes)

pub note-requires-clause-rests : goal.note-requires-clause-rests
note-requires-clause-rests g c =
    (is_open _ _ _ _ (ap (λ (p : PostView). p.phase) c.self.view_is ∙ c.requires.open) c.self.invariant).at.begun.rests

pub note-requires-clause-in_flight : goal.note-requires-clause-in_flight
note-requires-clause-in_flight g c =
    let now = (is_open _ _ _ _ (ap (λ (p : PostView). p.phase) c.self.view_is ∙ c.requires.open) c.self.invariant).at in
    now.begun.in_flight ∙ ap writing (sym (c.number.ensures.value ∙ now.at))

pub note-requires-clause-first : goal.note-requires-clause-first
note-requires-clause-first g c =
    let none = not_read (value_at c.args.self.now.writes c.args.rid) (value_at c.args.self.now.reads c.args.rid) c.requires.first in
    unread c.reserve.new.self.reads c.args.rid (ap (λ ds. value_at (read_values ds) c.args.rid) c.reserve.ensures.reads ∙ ap (λ (p : PostView). value_at p.reads c.args.rid) c.self.view_is ∙ none)

pub invariant_of-self-in-Err : goal.invariant_of-self-in-Err
invariant_of-self-in-Err g c =
    let phase = ap (λ (p : PostView). p.phase) c.self.view_is ∙ c.requires.open in
    let now = post_room c.self.inside.hand c.self.inside.stamp c.self.inside.sets c.note.new.sets (is_open _ _ _ _ phase c.self.invariant) (c.in-Err.ensures.unread ∙ c.reserve.ensures.reads) (c.note.ensures.writes ∙ c.reserve.ensures.writes) in
    open_at _ _ _ _ phase (post_stopped c.args.core.now _ _ _ c.args.rid _ _ now c.note.ensures.stays.ready (rw c.number.ensures.value at c.in-Err.ensures.err))

pub invariant_of-self-2 : goal.invariant_of-self-2
invariant_of-self-2 g c =
    let phase = ap (λ (p : PostView). p.phase) c.self.view_is ∙ c.requires.open in
    let r = c.reserve.ensures in
    let room = post_room c.self.inside.hand c.self.inside.stamp c.self.inside.sets c.reserve.new.self (is_open _ _ _ _ phase c.self.invariant) r.reads r.writes in
    let l = c.in-Ok.ensures.ok in
    let within = subst (λ (p : PostView). c.args.rid < p.shared.size.records) (sym c.self.view_is) c.requires.rid in
    let none = not_read (value_at c.args.self.now.writes c.args.rid) (value_at c.args.self.now.reads c.args.rid) c.requires.first in
    let first = ap (λ ds. value_at (read_values ds) c.args.rid) r.reads ∙ ap (λ (p : PostView). value_at p.reads c.args.rid) c.self.view_is ∙ none in
    open_at _ _ _ _ phase (post_read c.args.core.now _ _ _ c.args.rid l.place l.wts l.value _ _ room c.note.ensures.stays.ready l.finds within first l.reads c.note.ensures.writes)

pub returns-in-Err-clause-met : goal.returns-in-Err-clause-met
returns-in-Err-clause-met g c =
    let i = c.self.inside in
    let met = met_at i.hand c.note.new.hand i.stamp c.args.rid c.in-Err.met.wts (rw c.number.ensures.value at c.in-Err.ensures.err) c.self.invariant.ready.hand_of.in_range in
    subst (λ (p : PostView). (c.in-Err.met.wts < p.stamp) × IsOfAnother p.shared.size p.seat p.others c.in-Err.met.wts) c.self.view_is met

pub returns-clause-ok : goal.returns-clause-ok
returns-clause-ok g c =
    let i = c.self.inside in
    let r = c.reserve.ensures in
    let l = c.in-Ok.ensures.ok in
    let after = observed_in c.note.new.hand in
    let flight = (is_open _ _ _ _ (ap (λ (p : PostView). p.phase) c.self.view_is ∙ c.requires.open) c.self.invariant).at.begun.in_flight in
    record {
      value = l.value;
      reads = record {
        found = found_value i.hand c.note.new.hand i.phase i.stamp c.args.rid l.place l.wts l.value i.sets c.args.self.now c.self.invariant c.self.view_is c.requires.open l.finds;
        after =
            view_noted i.hand c.note.new.hand i.phase i.stamp _ c.args.rid l.place l.wts l.value c.reserve.new.self c.note.new.sets c.note.ensures.stays.seat.same_table l.finds flight l.reads c.note.ensures.writes
            ∙ ap (λ (p : PostView). observing (noted p c.args.rid l.wts l.value) after) (view_room i.hand i.phase i.stamp i.sets c.reserve.new.self r.reads r.writes ∙ c.self.view_is);
      };
      left = found_left i.hand c.note.new.hand i.phase i.stamp c.args.rid l.place l.wts l.value i.sets c.args.self.now c.self.invariant c.self.view_is c.requires.open l.finds;
    }

pub returns-in-Err-clause-stops : goal.returns-in-Err-clause-stops
returns-in-Err-clause-stops g c =
    let i = c.self.inside in
    stops_post i.hand c.note.new.hand i.phase i.stamp _ c.args.rid c.in-Err.met.wts i.sets c.args.self.now c.self.view_is c.in-Err.ensures.err c.number.ensures.value

pub returns-in-Err-clause-err : goal.returns-in-Err-clause-err
returns-in-Err-clause-err g c =
    let i = c.self.inside in
    let flight = (is_open _ _ _ _ (ap (λ (p : PostView). p.phase) c.self.view_is ∙ c.requires.open) c.self.invariant).at.begun.in_flight in
    stopped_post i.hand c.note.new.hand i.phase i.stamp _ c.args.rid c.in-Err.met.wts i.sets c.args.self.now c.self.view_is c.in-Err.ensures.err _ c.note.new.sets (c.in-Err.ensures.unread ∙ c.reserve.ensures.reads) (c.note.ensures.writes ∙ c.reserve.ensures.writes) c.note.ensures.stays.seat.same_table flight
