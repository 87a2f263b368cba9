use Rattle.std.proofs.Common.{rules, ◌≡◌, List, Result, Ok, Err, refl, sym, subst, ap, ◌∙◌}
use Rattle.std.specs.Result.{IsErrAnd}
use Rattle.plain_data.specs.State.{Fits}
use Rattle.seat_post.specs.Observing.{Grows}
use Rattle.seat_post.specs.Placing.{HavePlaces, Puts}
use Rattle.seat_post.proofs.Placed.{puts_grow}
use Rattle.validate_core.specs.OneByOne.{OneByOne}
use Rattle.seat_post.specs.Seats.{Bounds, Observed, Placed}
use Rattle.seat_post.specs.Lists.{AreLinked}
use Rattle.seat_post.specs.Conflicts.{IsLoaded}
use Rattle.engine_answers.specs.declared.faults.CommitFault.{CommitFault}
use Rattle.engine_answers.specs.declared.committed.Committed.{Committed}
use Rattle.txn_engine.specs.Faults.{IsShown, IsTouched, told_by}
use Rattle.txn_engine.specs.Lists.{IsTidyOnceCollected, IsRoomyOnceCollected}
use Rattle.txn_engine.specs.Pass.{PassView, engine_of, desk_of, entry_of, with_bounds, observing, placing, decided, published, committed, refused as refused_at}
use Rattle.txn_engine.specs.Staged.{IsValidated, IsHaltedBy, AreCounted, bounds_first}
use Rattle.txn_engine.specs.Commits.{IsStopped, EndsCommit}
use Rattle.txn_engine.specs.Leaves.{HoldsAbsent}
use Rattle.txn_engine.proofs.Accounting.{absent_committed}
use Rattle.seat_post.proofs.Growing.{grows_both}
use Rattle.txn_engine.proofs.Committing.{ends_unlinked, unlinked_grows, unlinked_refused, refused_idle}
use Rattle.txn_engine.proofs.Growing.{loaded_earlier, validated_grows, halted_grows}
use Rattle.txn_engine.proofs.Tidying.{tidy_committed, roomy_committed}
use Rattle.txn_engine.proofs.at_pass.PassSeatCalls.commit.Goals as goal

-- an answer is told as it is
told_too : {A F : Type 0} (answer : Result A F) (P : F → Type 0) → IsErrAnd answer P → IsErrAnd (told_by (λ f. f) answer) P
told_too (Ok value) P told = told
told_too (Err f) P told = told

-- and it is that error
is_err : {A F : Type 0} (answer : Result A F) (e : F) → IsErrAnd answer (λ f. f ≡ e) → answer ≡ Err e
is_err (Ok value) e is = absurd is
is_err (Err f) e is = ap Err is

pub decide-requires-clause-fits : goal.decide-requires-clause-fits
decide-requires-clause-fits g c = subst (λ (p : PassView). Fits g.J.Keeps.kept p.shared.size.records (entry_of p)) (sym c.in_ok-linked.ensures.ok.after) c.requires.fits

pub returns-in_err-linked-clause-commits : goal.returns-in_err-linked-clause-commits
returns-in_err-linked-clause-commits g c =
    let p = c.args.self.now in
    let q = c.install.new.self in
    let refused = c.in_err-linked.ensures.err in
    let told = told_too c.from_residual.result _ c.from_residual.ensures.1 in
    record {
      ends = subst (λ (answer : Result Committed CommitFault). EndsCommit g.J.Keeps.kept p q answer) (sym (is_err _ _ told)) (ends_unlinked refused.stops);
      idle = refused_idle p q (unlinked_refused refused.stops);
      grows = unlinked_grows refused.stops;
      read_left = refused.read_left;
      absent = λ absent. subst (λ (x : PassView). HoldsAbsent x) (sym (unlinked_refused refused.stops)) absent;
    }

pub returns-in_err-entered-clause-commits : goal.returns-in_err-entered-clause-commits
returns-in_err-entered-clause-commits g c =
    let p = c.args.self.now in
    let q = c.decide.new.self in
    let linked = c.in_ok-linked.ensures.ok in
    let refused = c.in_err-entered.ensures.err in
    let conflict = c.in_err-entered.field-0.0 in
    let told = told_too c.from_residual-in_err-entered.result _ c.from_residual-in_err-entered.ensures.1 in
    let here : PassView → PassView = λ known. observing (refused_at known) q.observed in
    let stopped = refused.after ∙ ap here linked.after in
    let placed = ap (λ (x : PassView). x.placed) refused.after in
    let known = ap (λ (x : PassView). x.bounds) refused.after in
    let between = c.install.new.self.observed in
    let grown = puts_grow p.shared.size p.stamp c.install.new.self.placed p.observed between linked.puts in
    let halted = halted_grows c.install.new.self q conflict refused.halts refused.lost in
    let loaded = subst (λ n. IsLoaded n conflict between q.observed) (ap (λ (x : PassView). x.stamp) linked.after) refused.meets.loaded in
    let is : IsStopped p q conflict = record {
      alive = linked.alive;
      after = subst (λ (x : PassView). x ≡ observing (placing (refused_at (with_bounds p x.bounds)) x.placed) x.observed) (sym stopped) refl;
      meets = record {
        shown = subst (λ (x : PassView). IsShown x conflict) linked.after refused.meets.shown;
        touched = subst (λ (x : PassView). IsTouched x conflict) linked.after refused.meets.touched;
        loaded = loaded_earlier p.stamp p.observed between q.observed conflict grown loaded;
      };
      halted = record {
        have = subst (λ (x : List Placed). HavePlaces p.shared.size p.writes x) (sym placed) linked.have;
        linked = subst (λ (k : Bounds). AreLinked p.writes p.stamp p.bounds k) (sym known) linked.linked;
        between = between;
        puts = subst (λ (x : List Placed). OneByOne (Puts p.shared.size p.stamp) x p.observed between) (sym placed) linked.puts;
        then = subst (λ (x : PassView). IsHaltedBy x conflict between.loads q.observed.loads) linked.after refused.halts;
        lost = refused.lost;
      };
    } in
    record {
      ends = subst (λ (answer : Result Committed CommitFault). EndsCommit g.J.Keeps.kept p q answer) (sym (is_err _ _ told)) (EndsCommit.stopped conflict is);
      idle = refused_idle p q is.after;
      grows = grows_both _ _ _ grown halted;
      read_left = linked.read_left;
      absent = λ absent. subst (λ (x : PassView). HoldsAbsent x) (sym is.after) absent;
    }

pub returns-clause-commits : goal.returns-clause-commits
returns-clause-commits g c =
    let p = c.args.self.now in
    let known = c.install.new.self.bounds in
    let o = c.decide.new.self.observed in
    let linked = c.in_ok-linked.ensures.ok in
    let entered = c.in_ok-entered.ensures.ok in
    let publishes = c.publish.ensures.publishes in
    let told = c.publish.result in
    let same = entered.after ∙ ap (λ (q : PassView). observing (decided q) o) linked.after in
    let after = publishes.after ∙ ap published same in
    let placed = c.install.new.self.placed in
    let between = c.install.new.self.observed in
    let grown = puts_grow p.shared.size p.stamp placed p.observed between linked.puts in
    let validated = validated_grows c.install.new.self c.decide.new.self entered.validated entered.lost in
    let counted = subst (λ (x : PassView). AreCounted (bounds_first x) x.bounds x.writes x.placed told) same publishes.counted in
    record {
      ends = EndsCommit.done told (record {
        alive = linked.alive;
        after = subst (λ (x : PassView). x ≡ observing (placing (committed (with_bounds p x.bounds)) x.placed) x.observed) (sym after) refl;
        stood = search rules;
        validated = record {
          have = subst (λ (x : PassView). HavePlaces p.shared.size p.writes x.placed) (sym after) linked.have;
          linked = subst (λ (x : PassView). AreLinked p.writes p.stamp p.bounds x.bounds) (sym after) linked.linked;
          between = between;
          puts = subst (λ (x : PassView). OneByOne (Puts p.shared.size p.stamp) x.placed p.observed between) (sym after) linked.puts;
          then = subst (λ (x : PassView). IsValidated p between.loads x.observed.loads) (sym after) (subst (λ (x : PassView). IsValidated x between.loads o.loads) linked.after entered.validated);
          lost = ap (λ (x : PassView). x.observed.lost) after ∙ entered.lost;
        };
        stamp = search rules;
        counted = subst (λ (x : PassView). AreCounted p.bounds x.bounds p.writes x.placed told) (sym after) (subst (λ (k : Bounds). AreCounted k known p.writes placed told) linked.first counted);
        tidy = λ tidy. subst (λ (x : PassView). IsTidyOnceCollected x) (sym after) (tidy_committed p known linked.linked tidy);
        roomy = λ roomy. subst (λ (x : PassView). IsRoomyOnceCollected x) (sym after) (roomy_committed p known linked.linked roomy);
      });
      idle = (ap engine_of after, ap desk_of after);
      grows = subst (λ (x : Observed). Grows p.observed x) (sym (ap (λ (x : PassView). x.observed) publishes.after)) (grows_both _ _ _ grown validated);
      read_left = linked.read_left;
      absent = λ absent. subst (λ (x : PassView). HoldsAbsent x) (sym after) (absent_committed p known linked.above absent);
    }
