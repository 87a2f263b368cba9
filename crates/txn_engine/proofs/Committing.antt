-- What the ways in which a commit, and an install, end show of the pass.
use Rattle.std.proofs.Common.{◌≡◌, ◌∙◌, ℕ, ◌*◌, ◌≤◌, Result, Err, Option, Some, None, refl, sym, ap, subst}
use Rattle.std.specs.Prelude.{IfSome}
use Rattle.plain_data.specs.State.{State}
use Rattle.core_rule.specs.Hands.{Shared}
use Rattle.validate_core.specs.declared.conflict.Conflict.{Conflict}
use Rattle.seat_post.specs.Observing.{Grows}
use Rattle.seat_post.proofs.Growing.{grows_same}
use Rattle.seat_post.proofs.Placed.{wants_grows}
use Rattle.engine_answers.specs.declared.faults.CommitFault.{CommitFault}
use Rattle.engine_answers.specs.declared.faults.CommitFault.TheVariants as fault
use Rattle.engine_answers.specs.declared.committed.Committed.{Committed}
use Rattle.txn_engine.specs.Alone.{PartsView, HasParts, IsUnshared, IsAloneSeat}
use Rattle.txn_engine.specs.Pass.{PassView, IsIdleOf, engine_of, desk_of, with_bounds, observing, placing, refused}
use Rattle.txn_engine.specs.Staged.{EndsRefused, WasDoomed, StopsInstall, RefusesInstall, MayRefuseInstall}
use Rattle.txn_engine.specs.Commits.{EndsCommit, doomed_refused}

-- nothing is in flight then
pub refused_idle : (p q : PassView) → EndsRefused p q → IsIdleOf (engine_of p) q
refused_idle p q ends = (ap engine_of ends, ap desk_of ends)

-- ---- the seat that is alone

-- what it keeps of its pass is as before
unshared_as : (p q : PassView) (earlier : ℕ) (parts : Option PartsView) → q.shared ≡ p.shared → q.others ≡ p.others → q.fixed ≡ p.fixed → IfSome parts (IsUnshared p earlier) → IfSome parts (IsUnshared q earlier)
unshared_as p q earlier None shared others fixed was = tt
unshared_as p q earlier (Some parts) shared others fixed was = record {
  only = others ∙ was.only;
  none_earlier = was.none_earlier;
  has_parts = subst (λ (s : Shared). HasParts s.size.seats q.fixed s.size.records parts) (sym shared) (subst (λ (n : ℕ). HasParts p.shared.size.seats n p.shared.size.records parts) (sym fixed) was.has_parts);
}

alone_as : (p q : PassView) (earlier : ℕ) (parts : Option PartsView) → q.shared ≡ p.shared → q.seat ≡ p.seat → q.others ≡ p.others → q.clock ≡ p.clock → q.fixed ≡ p.fixed → IsAloneSeat p earlier parts → IsAloneSeat q earlier parts
alone_as p q earlier parts shared seat others clock fixed was = record {
  alone = rw (shared, seat, others) was.alone;
  first = seat ∙ was.first;
  counts = subst (λ (n : ℕ). earlier ≤ 63 * n) (sym clock) was.counts;
  unshared = unshared_as p q earlier parts shared others fixed was.unshared;
}

refused_alone : (p q : PassView) (earlier : ℕ) (parts : Option PartsView) → EndsRefused p q → IsAloneSeat p earlier parts → IsAloneSeat q earlier parts
refused_alone p q earlier parts ends was =
    alone_as p q earlier parts (ap (λ (x : PassView). x.shared) ends) (ap (λ (x : PassView). x.seat) ends) (ap (λ (x : PassView). x.others) ends) (ap (λ (x : PassView). x.clock) ends) (ap (λ (x : PassView). x.fixed) ends) was

pub alone_after : {kept : State → Type 0} {p q : PassView} {answer : Result Committed CommitFault} (earlier : ℕ) (parts : Option PartsView) → EndsCommit kept p q answer → IsAloneSeat p earlier parts → IsAloneSeat q earlier parts
alone_after {kept} {p} {q} earlier parts (EndsCommit.done told is) was =
    alone_as p q earlier parts (ap (λ (x : PassView). x.shared) is.after) (ap (λ (x : PassView). x.seat) is.after) (ap (λ (x : PassView). x.others) is.after) (ap (λ (x : PassView). x.clock) is.after) (ap (λ (x : PassView). x.fixed) is.after) was
alone_after {kept} {p} {q} earlier parts (EndsCommit.doomed conflict is) was = refused_alone p q earlier parts (doomed_refused p q conflict is) was
alone_after {kept} {p} {q} earlier parts (EndsCommit.stopped conflict is) was = refused_alone p q earlier parts is.after was
alone_after {kept} {p} {q} earlier parts (EndsCommit.no_place has) was = refused_alone p q earlier parts has.after was

-- ---- an install that is refused

pub ends_unlinked : {kept : State → Type 0} {p q : PassView} {why : CommitFault} → StopsInstall p q why → EndsCommit kept p q (Err why)
ends_unlinked (StopsInstall.doomed conflict was) = EndsCommit.doomed conflict was
ends_unlinked (StopsInstall.no_place has) = EndsCommit.no_place has

pub unlinked_grows : {p q : PassView} {why : CommitFault} → StopsInstall p q why → Grows p.observed q.observed
unlinked_grows {p} {q} (StopsInstall.doomed conflict was) = grows_same p.observed q.observed (ap (λ (x : PassView). x.observed) was.after)
unlinked_grows {p} {q} (StopsInstall.no_place has) = wants_grows p.post q.post has.wants

pub unlinked_refused : {p q : PassView} {why : CommitFault} → StopsInstall p q why → EndsRefused p q
unlinked_refused (StopsInstall.doomed conflict was) = doomed_refused _ _ conflict was
unlinked_refused (StopsInstall.no_place has) = has.after

-- what it shows of the pass before
pub may_refuse : {p q : PassView} {why : CommitFault} → RefusesInstall p q why → MayRefuseInstall p why
may_refuse {p} {q} r = by_way r.stops where
  by_way : {why : CommitFault} → StopsInstall p q why → MayRefuseInstall p why
  by_way (StopsInstall.doomed conflict was) = record {
    dead = subst (λ (d : Option Conflict). IfSome d (λ c. fault.Conflict conflict ≡ fault.Conflict c)) (sym was.dead) refl;
    alive = λ none. absurd (let never : Some conflict ≡ None = sym was.dead ∙ none in cc);
    cause = was.shown;
    read_left = r.read_left;
    full = λ out. absurd (let never : fault.Conflict conflict ≡ fault.PlacesOut = out in cc);
  }
  by_way (StopsInstall.no_place has) = record {
    dead = subst (λ (d : Option Conflict). IfSome d (λ c. fault.PlacesOut ≡ fault.Conflict c)) (sym has.alive) tt;
    alive = λ none. refl;
    cause = has.written;
    read_left = r.read_left;
    full = λ out. has.full;
  }
