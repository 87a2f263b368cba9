-- What the calls of a transaction answer, by their ways out: what refuses them, and what is known or written.
use Rattle.std.proofs.Common.{◌≡◌, ℕ, Option, None, Some, Result, Ok, Err, List, true, refl, sym, ap, ◌∙◌, subst}
use Rattle.std.specs.Result.{IsErrAnd}
use Rattle.validate_core.specs.declared.conflict.Conflict.{Conflict}
use Rattle.validate_core.specs.declared.conflict.Conflict.TheVariants.{Pending}
use Rattle.seat_post.specs.declared.phase.Phase.{Phase}
use Rattle.seat_post.specs.declared.phase.Phase.TheVariants.{Idle, Open, Installed, Decided}
use Rattle.seat_post.specs.Post.{known_at, written}
use Rattle.seat_post.specs.Reading.{StopsAt}
use Rattle.seat_post.specs.Seats.{Observed}
use Rattle.engine_answers.specs.declared.faults.TxnFault.{TxnFault}
use Rattle.engine_answers.specs.declared.faults.TxnFault.TheVariants as txn
use Rattle.txn_engine.specs.Accounts.{Stays}
use Rattle.txn_engine.specs.Faults.{told_by, IsPending}
use Rattle.txn_engine.specs.Leaves.{ReadsLeft}
use Rattle.txn_engine.specs.Pass.{PassView, store_at, counted, doomed, observing}
use Rattle.txn_engine.specs.Txn.{AnswersConflict, Refuses, Reads, Writes, Gives}
use Rattle.seat_post.proofs.Growing.{grows_none}
use Rattle.txn_engine.proofs.Growing.{stopped_grows}

-- ---- what a pass answers

-- in place of its own fault: that fault
pub told_same : {A : Type 0} (r : Result A TxnFault) → told_by (λ f. f) r ≡ r
told_same (Ok value) = refl
told_same (Err f) = refl

-- an error that is handed on
pub handed_on : {A : Type 0} (r : Result A TxnFault) (e : TxnFault) (P : Result A TxnFault → Type 0) → IsErrAnd r (λ x. x ≡ e) → P (Err e) → P r
handed_on (Ok value) e P told holds = absurd told
handed_on (Err x) e P told holds = subst (λ (y : TxnFault). P (Err y)) (sym told) holds

pub told_on : {A : Type 0} (r : Result A TxnFault) (e : TxnFault) (P : Result A TxnFault → Type 0) → IsErrAnd r (λ x. x ≡ e) → P (Err e) → P (told_by (λ f. f) r)
told_on r e P told holds = subst P (sym (told_same r)) (handed_on r e P told holds)

-- ---- a conflict that was met before

stays_counted : (p : PassView) → Stays p (counted p)
stays_counted p = record { same_frame = refl; same_accounts = refl; grows = grows_none p.observed }

refuses_again : {A : Type 0} (p : PassView) (conflict : Conflict) (answer : Result A TxnFault) → answer ≡ Err (txn.Conflict conflict) → p.dead ≡ Some conflict → IsPending p conflict → Refuses p (counted p) answer
refuses_again p conflict answer is met shown = subst (λ r. Refuses p (counted p) r) (sym is) (record {
  shown = shown;
  versions = refl;
  noted = ap (λ (d : Option Conflict). (d, true)) met;
  stopped = rw met refl;
  still = rw met refl;
  records_out = λ out. (cc);
})

conflict_reads : (p : PassView) (rid : ℕ) (conflict : Conflict) → p.dead ≡ Some conflict → IsPending p conflict → Reads p (counted p) rid (Err (txn.Conflict conflict))
conflict_reads p rid conflict met shown = record {
  ok = tt;
  answered = tt;
  err = refl;
  spare = refl;
  stays = stays_counted p;
  refuses = refuses_again p conflict (Err (txn.Conflict conflict)) refl met shown;
  meets = λ alive. let none : None ≡ Some conflict = sym alive ∙ met in cc;
  never = λ out. (cc);
  left = tt;
  found = tt;
  again = λ alive. let none : None ≡ Some conflict = sym alive ∙ met in cc;
  no_memory = λ want. (cc);
}

conflict_writes : (p : PassView) (rid : ℕ) (value : Option (List ℕ)) (conflict : Conflict) → p.dead ≡ Some conflict → IsPending p conflict → Writes p (counted p) rid value (Err (txn.Conflict conflict))
conflict_writes p rid value conflict met shown = record {
  ok = tt;
  err = refl;
  spare = refl;
  versions = refl;
  stays = stays_counted p;
  looks = refl;
  refuses = refuses_again p conflict (Err (txn.Conflict conflict)) refl met shown;
  alive = λ alive. let none : None ≡ Some conflict = sym alive ∙ met in cc;
  never = λ out. (cc);
  no_memory = λ want. (cc);
}

meaning_counted : (phase : Phase) (p : PassView) → store_at phase (counted p) ≡ store_at phase p
meaning_counted Open p = refl
meaning_counted Idle p = refl
meaning_counted Installed p = refl
meaning_counted Decided p = refl

conflict_gives : (p : PassView) (conflict : Conflict) → p.dead ≡ Some conflict → IsPending p conflict → Gives p (counted p) (Err (txn.Conflict conflict))
conflict_gives p conflict met shown = record {
  fresh = tt;
  ok = tt;
  err = meaning_counted p.phase p;
  stays = stays_counted p;
  refuses = refuses_again p conflict (Err (txn.Conflict conflict)) refl met shown;
  meets = λ alive. let none : None ≡ Some conflict = sym alive ∙ met in cc;
  first = tt;
  all_passed = λ out. (cc);
  none_remains = λ out. (cc);
  no_memory = λ flying want. (cc);
  closed = λ off want. (cc);
}

pub stopped_reads : (p q : PassView) (rid : ℕ) (f : TxnFault) → AnswersConflict p q f → Reads p q rid (Err f)
stopped_reads p q rid f a =
    subst (λ (x : TxnFault). Reads p q rid (Err x)) (sym a.answer) (subst (λ (x : PassView). Reads p x rid (Err (txn.Conflict a.conflict))) (sym a.after) (conflict_reads p rid a.conflict a.met a.shown))

pub stopped_writes : (p q : PassView) (rid : ℕ) (value : Option (List ℕ)) (f : TxnFault) → AnswersConflict p q f → Writes p q rid value (Err f)
stopped_writes p q rid value f a =
    subst (λ (x : TxnFault). Writes p q rid value (Err x)) (sym a.answer) (subst (λ (x : PassView). Writes p x rid value (Err (txn.Conflict a.conflict))) (sym a.after) (conflict_writes p rid value a.conflict a.met a.shown))

pub stopped_gives : (p q : PassView) (f : TxnFault) → AnswersConflict p q f → Gives p q (Err f)
stopped_gives p q f a =
    subst (λ (x : TxnFault). Gives p q (Err x)) (sym a.answer) (subst (λ (x : PassView). Gives p x (Err (txn.Conflict a.conflict))) (sym a.after) (conflict_gives p a.conflict a.met a.shown))

-- ---- a search that met a pending version, and want of memory

pending_reads : (p : PassView) (o : Observed) (rid wts : ℕ) → p.dead ≡ None → known_at p.post rid ≡ None → StopsAt p.stamp rid wts p.observed o → IsPending p (Pending rid wts) → Reads p (doomed (observing p o) (Pending rid wts)) rid (Err (txn.Conflict (Pending rid wts)))
pending_reads p o rid wts alive unknown stops shown = record {
  ok = tt;
  answered = tt;
  err = refl;
  spare = refl;
  stays = record { same_frame = refl; same_accounts = refl; grows = stopped_grows p.stamp rid wts p.observed o stops };
  refuses = record {
    shown = shown;
    versions = refl;
    noted = refl;
    stopped = rw alive tt;
    still = rw alive tt;
    records_out = λ out. (cc);
  };
  meets = λ first. (refl, stops);
  never = λ out. (cc);
  left = tt;
  found = tt;
  again = λ first. rw unknown tt;
  no_memory = λ want. (cc);
}

-- at a pass where the search has ended, before it is noted
pub met_pending : (p q r : PassView) (rid wts : ℕ) (f : TxnFault) → p.dead ≡ None → known_at p.post rid ≡ None → q ≡ observing p q.observed → StopsAt p.stamp rid wts p.observed q.observed → IsPending p (Pending rid wts) → r ≡ doomed q (Pending rid wts) → f ≡ txn.Conflict (Pending rid wts) → Reads p r rid (Err f)
met_pending p q r rid wts f alive unknown only stops shown after is =
    subst (λ (x : TxnFault). Reads p r rid (Err x)) (sym is)
    (subst (λ (x : PassView). Reads p x rid (Err (txn.Conflict (Pending rid wts)))) (sym (after ∙ ap (λ (x : PassView). doomed x (Pending rid wts)) only)) (pending_reads p q.observed rid wts alive unknown stops shown))

refuses_memory : {A : Type 0} (p : PassView) (answer : Result A TxnFault) → answer ≡ Err txn.NoMemory → p.dead ≡ None → Refuses p p answer
refuses_memory p answer is alive = subst (λ r. Refuses p p r) (sym is) (record {
  shown = tt;
  versions = refl;
  noted = refl;
  stopped = rw alive tt;
  still = rw alive tt;
  records_out = λ out. (cc);
})

pub stays_so : (p : PassView) → Stays p p
stays_so p = record { same_frame = refl; same_accounts = refl; grows = grows_none p.observed }

pub memory_reads : (p q : PassView) (rid : ℕ) → p.dead ≡ None → known_at p.post rid ≡ None → q ≡ p → Reads p q rid (Err txn.NoMemory)
memory_reads p q rid alive unknown same = subst (λ (x : PassView). Reads p x rid (Err txn.NoMemory)) (sym same) (record {
  ok = tt;
  answered = tt;
  err = refl;
  spare = refl;
  stays = stays_so p;
  refuses = refuses_memory p (Err txn.NoMemory) refl alive;
  meets = λ first. tt;
  never = λ out. (cc);
  left = tt;
  found = tt;
  again = λ first. rw unknown tt;
  no_memory = λ want. refl;
})

pub memory_writes : (p q : PassView) (rid : ℕ) (value : Option (List ℕ)) → p.dead ≡ None → q ≡ p → Writes p q rid value (Err txn.NoMemory)
memory_writes p q rid value alive same = subst (λ (x : PassView). Writes p x rid value (Err txn.NoMemory)) (sym same) (record {
  ok = tt;
  err = refl;
  spare = refl;
  versions = refl;
  stays = stays_so p;
  looks = refl;
  refuses = refuses_memory p (Err txn.NoMemory) refl alive;
  alive = λ first. refl;
  never = λ out. (cc);
  no_memory = λ want. refl;
})

-- of no transaction none is given
pub closed_gives : (p q : PassView) → p.dead ≡ None → (p.phase ≡ Open → ⊥) → q ≡ p → Gives p q (Err txn.NoMemory)
closed_gives p q alive closed same = subst (λ (x : PassView). Gives p x (Err txn.NoMemory)) (sym same) (record {
  fresh = tt;
  ok = tt;
  err = refl;
  stays = stays_so p;
  refuses = refuses_memory p (Err txn.NoMemory) refl alive;
  meets = λ first. tt;
  first = tt;
  all_passed = λ out. (cc);
  none_remains = λ out. (cc);
  no_memory = λ flying. absurd (closed flying);
  closed = λ off want. refl;
})

-- ---- a record that is known

pub known_reads : (p q : PassView) (rid : ℕ) (value : Option (List ℕ)) → p.dead ≡ None → known_at p.post rid ≡ Some value → ReadsLeft p rid value → q ≡ p → Reads p q rid (Ok value)
known_reads p q rid value alive some left same = subst (λ (x : PassView). Reads p x rid (Ok value)) (sym same) (record {
  ok = rw some refl;
  answered = some;
  err = tt;
  spare = refl;
  stays = stays_so p;
  refuses = record { shown = tt; versions = tt; noted = refl; stopped = rw alive tt; still = rw alive tt; records_out = tt };
  meets = λ first. tt;
  never = tt;
  left = left;
  found = λ none. let other : None ≡ Some value = sym none ∙ some in cc;
  again = λ first. rw some (refl, refl);
  no_memory = tt;
})

-- ---- a record that is written

pub written_writes : (p q : PassView) (rid : ℕ) (value : Option (List ℕ)) → p.dead ≡ None → q ≡ record p { post = written p.post rid value } → Writes p q rid value (Ok tt)
written_writes p q rid value alive is = subst (λ (x : PassView). Writes p x rid value (Ok tt)) (sym is) (record {
  ok = refl;
  err = tt;
  spare = refl;
  versions = refl;
  stays = record { same_frame = refl; same_accounts = refl; grows = grows_none p.observed };
  looks = refl;
  refuses = record { shown = tt; versions = tt; noted = refl; stopped = rw alive tt; still = rw alive tt; records_out = tt };
  alive = λ first. tt;
  never = tt;
  no_memory = tt;
})
