-- Asking for new record numbers.
use Rattle.std.proofs.Common.{◌≡◌, ◌⊎◌, Contains, ℕ, ◌<◌, ◌≤◌, zero, suc, true, false, Bool, cond, List, [], ◌∷◌, ◌++◌, Option, None, Some, Result, Ok, Err, IfOk, refl, sym, ap, subst, ◌∙◌, arith, length, eqb, eq-eqb, inl, inr}
use Rattle.std.specs.Prelude.{IfSome, is_some, slice_get}
use Rattle.rapid_gc.specs.Queues.{Waiting}
use Rattle.record_store.specs.Meaning.{value_at}
use Rattle.record_store.specs.Store.{IsFresh}
use Rattle.validate_core.specs.declared.conflict.Conflict.{Conflict}
use Rattle.seat_post.specs.declared.phase.Phase.TheVariants.{Open}
use Rattle.seat_post.specs.Seats.{Observed}
use Rattle.seat_post.specs.Post as posts
use Rattle.seat_post.specs.Post.{PostView, known_at}
use Rattle.seat_post.specs.Reading.{ReadsAs}
use Rattle.engine_answers.specs.declared.faults.TxnFault.{TxnFault}
use Rattle.spare_numbers.specs.Spare.{NumbersView, is_on}
use Rattle.txn_engine.specs.Pass.{PassView, store_of, observing}
use Rattle.txn_engine.specs.Fresh.{read_absent, IsMetAbsent, TellsAbsent, Asks}
use Rattle.txn_engine.specs.Inside.{IsPass}
use Rattle.txn_engine.proofs.Passes.{pass_noted}
use Rattle.txn_engine.proofs.Accounting.{any_shown}

-- a record was read, and noted where it is absent
pub pass_asked : (p p' : PostView) (rid : ℕ) (absent : Bool) (q : Waiting) (n : NumbersView) (most : ℕ) (dead : Option Conflict) → (absent ≡ true → ReadsAs rid None p p') → (absent ≡ false → p' ≡ posts.observing p p'.observed) → IsPass p q n most dead → p.phase ≡ Open → IsPass p' q n most dead
pass_asked p p' rid true q n most dead reads passed is phase =
    subst (λ (x : PostView). IsPass x q n most dead) (sym (reads refl).after) (pass_noted p (p.reads ++ (rid, None) ∷ []) p.writes q n most dead is phase is.room)
pass_asked p p' rid false q n most dead reads passed is phase = subst (λ (x : PostView). IsPass x q n most dead) (sym (passed refl)) is

-- what that makes of the pass
pub asked_absent : (b : PassView) (p' : PostView) (rid : ℕ) (absent : Bool) → known_at b.post rid ≡ None → (absent ≡ true → ReadsAs rid None b.post p') → (absent ≡ false → p' ≡ posts.observing b.post p'.observed) → record b { post = p' } ≡ observing (cond absent (read_absent b rid p'.versions) b) p'.observed
asked_absent b p' rid true none reads passed =
    let r = reads refl in
    let versions : p'.versions ≡ b.versions ++ (rid, r.found.wts) ∷ [] = ap (λ (x : PostView). x.versions) r.after in
    ap (λ (x : PostView). record b { post = x }) r.after
    ∙ ap (λ (vs : List (ℕ × ℕ)). record b { post = record b.post { observed = p'.observed; reads = b.reads ++ (rid, None) ∷ []; versions = vs } }) (sym versions)
    ∙ sym (ap (λ (k : Option (Option (List ℕ))). record b { post = record b.post { observed = p'.observed; reads = cond (is_some k) b.reads (b.reads ++ (rid, None) ∷ []); versions = p'.versions } }) none)
asked_absent b p' rid false none reads passed = ap (λ (x : PostView). record b { post = x }) (passed refl)

-- a record that is known is not read again
pub known_absent : (p : PassView) (rid : ℕ) (absent : Bool) (value : Option (List ℕ)) → known_at p.post rid ≡ Some value → p ≡ observing (cond absent (read_absent p rid p.versions) p) p.observed
known_absent p rid true value some = rw some refl
known_absent p rid false value some = refl

-- a number that is not on a list
pub off_list : (xs : List ℕ) (r : ℕ) → is_on xs r ≡ false → Contains xs r → ⊥
off_list xs r off there = let on = any_shown (eqb r) xs r there (eq-eqb r r refl) in cc

-- a record that is not written and was met absent was not read as present
absent_by : (w r : Option (Option (List ℕ))) → w ≡ None → (cond (is_some w) w r ≡ Some None) ⊎ (cond (is_some w) w r ≡ None) → IfSome r (λ value. value ≡ None)
absent_by None r none (inl known) = subst (λ (x : Option (Option (List ℕ))). IfSome x (λ value. value ≡ None)) (sym known) refl
absent_by None r none (inr unknown) = subst (λ (x : Option (Option (List ℕ))). IfSome x (λ value. value ≡ None)) (sym unknown) tt
absent_by (Some x) r none met = cc

pub absent_known : (p : PassView) (rid : ℕ) (versions : List (ℕ × ℕ)) (o u : Observed) → value_at p.writes rid ≡ None → IsMetAbsent p rid versions o u → IfSome (value_at p.reads rid) (λ value. value ≡ None)
absent_known p rid versions o u unwritten (inl known) = absent_by (value_at p.writes rid) (value_at p.reads rid) unwritten (inl known.0)
absent_known p rid versions o u unwritten (inr found) = absent_by (value_at p.writes rid) (value_at p.reads rid) unwritten (inr found.0)

-- a place where nothing stands is behind the list
pub past : (xs : List ℕ) (i : ℕ) → slice_get xs i ≡ None → length xs ≤ i
past [] i none = omega arith
past (x ∷ xs) zero none = cc
past (x ∷ xs) (suc i) none = let h = past xs i none in omega arith

-- a number that is asked for is a new record's, where it is to be given out
pub fresh_where : (p : PassView) (rid : ℕ) (versions : List (ℕ × ℕ)) (o u : Observed) → p.fixed ≤ rid → rid < p.shared.size.records → is_on p.given rid ≡ false → value_at p.writes rid ≡ None → IsMetAbsent p rid versions o u → IsFresh (store_of p) rid
fresh_where p rid versions o u from within off unwritten met = record { new = from; within = within; not_given = off_list p.given rid off; not_written = unwritten; absent = absent_known p rid versions o u unwritten met }

-- an answer of a record that is not written
pub asked_unwritten : (p q : PassView) (rid : ℕ) (answer : Result Bool TxnFault) → value_at p.writes rid ≡ None → IfOk answer (TellsAbsent p q rid) → IfOk answer (Asks p q rid)
asked_unwritten p q rid (Ok absent) unwritten tells = inr (unwritten, tells)
asked_unwritten p q rid (Err f) unwritten tells = tt

-- asking leaves the list as it is
pub asked_list : (p q : PassView) (rid : ℕ) (free : Bool) → Asks p q rid free → q.spare ≡ p.spare
asked_list p q rid true (inl written) = ap (λ (x : PassView). x.spare) written.1
asked_list p q rid true (inr (unwritten, tells)) = ap (λ (x : PassView). x.spare) tells.after
asked_list p q rid false (inl written) = ap (λ (x : PassView). x.spare) written.1
asked_list p q rid false (inr (unwritten, tells)) = ap (λ (x : PassView). x.spare) tells.after
