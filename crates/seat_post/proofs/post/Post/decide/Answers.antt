use Rattle.std.proofs.Common.{ℕ, List, refl, ap, sym, subst, ◌∙◌}
use Rattle.core_rule.specs.View.{View, writing}
use Rattle.core_rule.specs.Deciding.{commit_of}
use Rattle.core_rule.specs.Hands.{Shared}
use Rattle.validate_core.specs.Checked.{Validates}
use Rattle.validate_core.specs.Halting.{Halts}
use Rattle.validate_core.specs.Sets.{IsInside, versions_read, records_written}
use Rattle.validate_core.specs.Validating as validating
use Rattle.seat_post.specs.Ends.{Stood}
use Rattle.seat_post.specs.Conflicts.{Touches, IsLoaded, WereFound}
use Rattle.seat_post.specs.Post.{PostView, post_of, closed, entered, entry_at, observing, observed_in, rids_written, IsShownAt}
use Rattle.seat_post.proofs.EndMore.{at_known, records_of, entry_same, fits_same, stood_same, decided_view, post_decided, shown_at, touches_at}
use Rattle.seat_post.proofs.Observed.{shown_loaded, were_found}
use Rattle.seat_post.proofs.Over.{view_over_all, post_over}
use Rattle.seat_post.proofs.post.Post.decide.Goals as goal

pub decide-requires-clause-inside : goal.decide-requires-clause-inside
decide-requires-clause-inside g c =
    let is = at_known _ _ _ _ _ (ap (λ (p : PostView). p.phase) c.self.view_is ∙ c.requires.phase) c.self.invariant in
    subst (λ (x : Shared). IsInside x.size c.self.inside.sets) (ap (λ (p : PostView). p.shared) c.self.view_is ∙ c.requires.core) is.at.inside

pub decide-requires-clause-installed : goal.decide-requires-clause-installed
decide-requires-clause-installed g c =
    let is = at_known _ _ _ _ _ (ap (λ (p : PostView). p.phase) c.self.view_is ∙ c.requires.phase) c.self.invariant in
    subst (λ (n : ℕ). validating.IsInstalled n c.self.inside.sets c.self.inside.hand.view) (ap (λ (p : PostView). p.stamp) c.self.view_is ∙ sym c.requires.stamp) is.at.installed

pub decide-requires-clause-fits : goal.decide-requires-clause-fits
decide-requires-clause-fits g c =
    let is = at_known _ _ _ _ _ (ap (λ (p : PostView). p.phase) c.self.view_is ∙ c.requires.phase) c.self.invariant in
    let entry = entry_same c.args.installed.stamp c.self.inside.sets.reads c.self.inside.sets.writes c.args.self.now c.requires.stamp (ap (λ (p : PostView). p.reads) c.self.view_is) (ap (λ (p : PostView). p.writes) c.self.view_is) in
    fits_same g.J.Keeps.kept c.args.core.now.size.records c.args.core.now c.args.installed.stamp c.self.inside.sets.reads c.self.inside.sets.writes c.args.self.now c.requires.core entry c.requires.fits

pub invariant_of-self : goal.invariant_of-self
invariant_of-self g c =
    let is = at_known _ _ _ _ _ (ap (λ (p : PostView). p.phase) c.self.view_is ∙ c.requires.phase) c.self.invariant in
    let same = c.requires.stamp ∙ sym (ap (λ (p : PostView). p.stamp) c.self.view_is) in
    let decides = subst (λ (n : ℕ). validating.Decides g.J.Keeps.kept c.args.core.now.size.records n c.self.inside.sets c.self.inside.hand.view c.decide.new.hand.view) same c.in-Ok.ensures.ok in
    post_decided c.args.core.now g.J.Keeps.kept c.args.core.now.size.records _ _ _ _ is c.decide.ensures.stays.ready decides

pub returns-in-Ok-clause-ok : goal.returns-in-Ok-clause-ok
returns-in-Ok-clause-ok g c =
    let i = c.self.inside in
    let is = at_known _ _ _ _ _ (ap (λ (p : PostView). p.phase) c.self.view_is ∙ c.requires.phase) c.self.invariant in
    let p = post_of i.hand i.phase i.stamp i.sets in
    let entry = entry_same c.args.installed.stamp i.sets.reads i.sets.writes p (c.requires.stamp ∙ sym (ap (λ (p : PostView). p.stamp) c.self.view_is)) refl refl in
    decided_view g.J.Keeps.kept c.args.core.now.size.records i.hand c.decide.new.hand i.phase i.stamp c.args.installed.stamp i.stamp i.sets is.at.installed.in_flight is.at.installed.linked c.decide.ensures.stays.seat.same_table c.in-Ok.ensures.ok entry
    ∙ ap (λ (p : PostView). observing (entered p) (observed_in c.decide.new.hand)) c.self.view_is

pub returns-in-Ok-clause-stood : goal.returns-in-Ok-clause-stood
returns-in-Ok-clause-stood g c =
    let i = c.self.inside in
    let is = at_known _ _ _ _ _ (ap (λ (p : PostView). p.phase) c.self.view_is ∙ c.requires.phase) c.self.invariant in
    let p = post_of i.hand i.phase i.stamp i.sets in
    let entry = entry_same c.args.installed.stamp i.sets.reads i.sets.writes p (c.requires.stamp ∙ sym (ap (λ (p : PostView). p.stamp) c.self.view_is)) refl refl in
    let stood = stood_same g.J.Keeps.kept c.args.core.now.size.records i.hand.view.log (commit_of (writing c.args.installed.stamp) i.sets.reads i.sets.writes) (entry_at p) entry c.in-Ok.ensures.ok.stood in
    subst (λ (q : PostView). Stood g.J.Keeps.kept q.shared.size.records q.log (entry_at q)) c.self.view_is (subst (λ (x : Shared). Stood g.J.Keeps.kept x.size.records p.log (entry_at p)) (sym (ap (λ (q : PostView). q.shared) c.self.view_is ∙ c.requires.core)) stood)

pub returns-in-Err-clause-shown : goal.returns-in-Err-clause-shown
returns-in-Err-clause-shown g c =
    let i = c.self.inside in
    let is = at_known _ _ _ _ _ (ap (λ (p : PostView). p.phase) c.self.view_is ∙ c.requires.phase) c.self.invariant in
    let same = c.requires.stamp ∙ sym (ap (λ (p : PostView). p.stamp) c.self.view_is) in
    subst (λ (q : PostView). IsShownAt q c.in-Err.conflict) c.self.view_is (shown_at i.hand c.decide.new.hand i.phase i.stamp c.args.installed.stamp i.sets c.in-Err.conflict is.at.inside is.ready.hand_of.in_range same c.decide.ensures.stands c.in-Err.ensures.conflict)

pub returns-in-Err-clause-touches : goal.returns-in-Err-clause-touches
returns-in-Err-clause-touches g c =
    let i = c.self.inside in
    let is = at_known _ _ _ _ _ (ap (λ (p : PostView). p.phase) c.self.view_is ∙ c.requires.phase) c.self.invariant in
    subst (λ (q : PostView). Touches q.reads q.writes c.in-Err.conflict) c.self.view_is (touches_at c.args.installed.stamp i.hand.view c.decide.new.hand.view i.sets c.in-Err.conflict c.in-Err.ensures.conflict)

pub returns-in-Err-clause-loaded : goal.returns-in-Err-clause-loaded
returns-in-Err-clause-loaded g c =
    let i = c.self.inside in
    let is = at_known _ _ _ _ _ (ap (λ (p : PostView). p.phase) c.self.view_is ∙ c.requires.phase) c.self.invariant in
    let same = c.requires.stamp ∙ sym (ap (λ (p : PostView). p.stamp) c.self.view_is) in
    let found = subst (λ (n : ℕ). WereFound n i.sets.reads c.decide.new.hand.view.seen.loads) (sym same) (were_found i.stamp i.sets.reads i.hand.view c.decide.new.hand.view c.decide.ensures.stands.grows is.at.found) in
    subst (λ (q : PostView). IsLoaded q.stamp c.in-Err.conflict q.observed (observed_in c.decide.new.hand)) c.self.view_is
    (subst (λ (n : ℕ). IsLoaded n c.in-Err.conflict (observed_in i.hand) (observed_in c.decide.new.hand)) same (shown_loaded c.args.installed.stamp i.sets i.hand.view c.decide.new.hand.view c.in-Err.conflict found c.in-Err.ensures.conflict))

pub returns-in-Ok-clause-validates : goal.returns-in-Ok-clause-validates
returns-in-Ok-clause-validates g c =
    let i = c.self.inside in
    let after' = c.decide.new.hand.view.seen.loads in
    let at = subst (λ (n : ℕ). Validates n i.hand.view.number (versions_read i.sets.reads) (records_written i.sets.writes) i.hand.view.seen.loads after') c.requires.stamp c.in-Ok.ensures.validates in
    let written = subst (λ (rids : List ℕ). Validates c.args.self.now.stamp i.hand.view.number (versions_read i.sets.reads) rids i.hand.view.seen.loads after') (records_of i.sets.writes) at in
    subst (λ (p : PostView). Validates c.args.self.now.stamp p.seat p.versions (rids_written p) p.observed.loads after') c.self.view_is written

pub returns-in-Ok-clause-lost : goal.returns-in-Ok-clause-lost
returns-in-Ok-clause-lost g c = c.in-Ok.ensures.ok.lost ∙ ap (λ (p : PostView). p.observed.lost) c.self.view_is

pub returns-in-Err-clause-lost : goal.returns-in-Err-clause-lost
returns-in-Err-clause-lost g c = c.in-Err.ensures.as_before.lost ∙ ap (λ (p : PostView). p.observed.lost) c.self.view_is

pub returns-in-Err-clause-halts : goal.returns-in-Err-clause-halts
returns-in-Err-clause-halts g c =
    let i = c.self.inside in let conflict = c.in-Err.conflict in
    let before = i.hand.view.seen.loads in let after' = c.decide.new.hand.view.seen.loads in
    let at = subst (λ (n : ℕ). Halts n (versions_read i.sets.reads) (records_written i.sets.writes) before after' conflict) c.requires.stamp c.in-Err.ensures.halts in
    let written = subst (λ (rids : List ℕ). Halts c.args.self.now.stamp (versions_read i.sets.reads) rids before after' conflict) (records_of i.sets.writes) at in
    subst (λ (p : PostView). Halts c.args.self.now.stamp p.versions (rids_written p) p.observed.loads after' conflict) c.self.view_is written

pub invariant_of-self-in-Err : goal.invariant_of-self-in-Err
invariant_of-self-in-Err g c =
    let is = at_known _ _ _ _ _ (ap (λ (p : PostView). p.phase) c.self.view_is ∙ c.requires.phase) c.self.invariant in
    let d = c.decide.ensures in
    let e = c.let_go.ensures in
    rw e.phase (post_over c.args.core.now _ _ _ _ _ _ _ _ is d.stands (ap (λ (v : View). v.counts.in_reserved) c.in-Err.ensures.as_before.only) is.at.installed.in_flight d.stays.ready c.in-Err.ensures.aborted.ends e.stamp e.reads e.writes)

pub returns-in-Err-clause-err : goal.returns-in-Err-clause-err
returns-in-Err-clause-err g c =
    let i = c.self.inside in
    let is = at_known _ _ _ _ _ (ap (λ (p : PostView). p.phase) c.self.view_is ∙ c.requires.phase) c.self.invariant in
    let d = c.decide.ensures in
    let e = c.let_go.ensures in
    rw e.phase (view_over_all i.hand c.decide.new.hand i.phase i.stamp _ _ i.sets c.let_go.new.sets d.stays.seat.same_table d.stands c.in-Err.ensures.as_before (d.linked ∙ sym is.at.installed.linked) is.at.installed.in_flight c.in-Err.ensures.log e.stamp e.reads e.writes
    ∙ ap (λ (p : PostView). observing (closed p) (observed_in c.decide.new.hand)) c.self.view_is)
