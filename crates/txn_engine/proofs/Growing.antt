-- What the steps of a seat came upon, from call to call.
use Rattle.std.proofs.Common.{◌≡◌, ℕ, List, [], ◌++◌, Option, None, Some, inl, inr, append_assoc, append-nil, sym, ap, ◌∙◌}
use Rattle.core_rule.specs.Paths.{glanced}
use Rattle.core_rule.specs.Versions.{state_of}
use Rattle.core_rule.specs.View.{Load, shown}
use Rattle.validate_core.specs.Validating.{no_more, its_read_stamp}
use Rattle.validate_core.specs.declared.conflict.Conflict.{Conflict}
use Rattle.validate_core.specs.declared.conflict.Conflict.TheVariants.{Pending, ReadLater, Overtaken}
use Rattle.seat_post.specs.Conflicts.{IsLoaded}
use Rattle.seat_post.specs.Observing.{Grows}
use Rattle.seat_post.proofs.Growing.{grows_same}
use Rattle.seat_post.proofs.Observed.{met_before}
use Rattle.seat_post.specs.Post.{PostView}
use Rattle.seat_post.specs.Reading.{FindsValue, ReadsAs, StopsAt, value_loaded}
use Rattle.seat_post.specs.Seats.{Observed}
use Rattle.txn_engine.specs.Fresh.{IsMetAbsent, IsMetPresent}
use Rattle.txn_engine.specs.Pass.{PassView}
use Rattle.txn_engine.specs.Staged.{IsValidated, IsHaltedBy}
use Rattle.validate_core.proofs.Behind.{validates_grow, halts_grow}

-- by a search that found a value, or stopped, and so by each number that was asked for
found_grows : (stamp rid : ℕ) (value : Option (List ℕ)) (o p : Observed) → FindsValue stamp rid o p value → Grows o p
found_grows stamp rid value o p f =
    let e = f.leads.path in
    let loaded = e.way ++ glanced f.place (shown f.wts (state_of value)) in
    record {
      loaded = loaded ++ value_loaded value f.place;
      missed = [];
      loads = f.leads.loads ∙ ap (λ (x : List Load). x ++ value_loaded value f.place) e.loads ∙ append_assoc o.loads loaded (value_loaded value f.place);
      lost = f.lost ∙ sym (append-nil o.lost);
    }

pub stopped_grows : (stamp rid wts : ℕ) (o p : Observed) → StopsAt stamp rid wts o p → Grows o p
stopped_grows stamp rid wts o p s = record { loaded = s.path.way ++ glanced s.place (shown wts 2); missed = []; loads = s.path.loads; lost = s.lost ∙ sym (append-nil o.lost) }

pub reads_as_grows : (rid : ℕ) (value : Option (List ℕ)) (a b : PostView) → ReadsAs rid value a b → Grows a.observed b.observed
reads_as_grows rid value a b r = found_grows a.stamp rid value a.observed b.observed r.found

pub absent_grows : (p : PassView) (rid : ℕ) (versions : List (ℕ × ℕ)) (o t : Observed) → IsMetAbsent p rid versions o t → Grows o t
absent_grows p rid versions o t (inl known) = grows_same o t known.2
absent_grows p rid versions o t (inr found) = found_grows p.stamp rid None o t found.1.0

pub present_grows : (p : PassView) (rid : ℕ) (o t : Observed) → IsMetPresent p rid o t → Grows o t
present_grows p rid o t (words, inl known) = grows_same o t known.1
present_grows p rid o t (words, inr found) = found_grows p.stamp rid (Some words) o t found.1

-- by what validates a transaction, or stops at a conflict
pub validated_grows : (p q : PassView) → IsValidated p p.observed.loads q.observed.loads → q.observed.lost ≡ p.observed.lost → Grows p.observed q.observed
validated_grows p q v lost = let more = validates_grow p.stamp p.seat p.versions _ p.observed.loads q.observed.loads v in record { loaded = more.0; missed = []; loads = more.1; lost = lost ∙ sym (append-nil p.observed.lost) }

pub halted_grows : (p q : PassView) (conflict : Conflict) → IsHaltedBy p conflict p.observed.loads q.observed.loads → q.observed.lost ≡ p.observed.lost → Grows p.observed q.observed
halted_grows p q conflict h lost = let more = halts_grow p.stamp p.versions _ p.observed.loads q.observed.loads conflict h in record { loaded = more.0; missed = []; loads = more.1; lost = lost ∙ sym (append-nil p.observed.lost) }

-- what a conflict names was loaded between two, also where the first of them was earlier
pub loaded_earlier : (stamp : ℕ) (o p q : Observed) (conflict : Conflict) → Grows o p → IsLoaded stamp conflict p q → IsLoaded stamp conflict o q
loaded_earlier stamp o p q (Pending rid wts) g m = met_before stamp rid wts 2 no_more o.loads p.loads q.loads g.loaded g.loads m
loaded_earlier stamp o p q (ReadLater rid wts rts) g m = record { status = m.status; final = m.final; met = met_before stamp rid wts m.status (its_read_stamp rts) o.loads p.loads q.loads g.loaded g.loads m.met }
loaded_earlier stamp o p q (Overtaken rid seen now) g m = (record { status = m.0.status; final = m.0.final; met = met_before stamp rid now m.0.status no_more o.loads p.loads q.loads g.loaded g.loads m.0.met }, m.1)
