-- What asking for a new record gives, by what came of the numbers that were asked for.
use Rattle.std.proofs.Common.{◌≡◌, ◌⊎◌, ℕ, ◌<◌, ◌≤◌, ◌+◌, None, Some, Ok, Err, true, false, List, [], ◌∷◌, ◌++◌, refl, sym, ap, ◌∙◌, subst, inl, inr, length, take, drop, remove}
use Rattle.std.specs.Prelude.{IsSome, slice_get}
use Rattle.record_store.specs.Meaning.{Meaning, value_at, after_fresh}
use Rattle.validate_core.specs.declared.conflict.Conflict.{Conflict}
use Rattle.seat_post.specs.declared.phase.Phase.TheVariants.{Open}
use Rattle.seat_post.specs.Leaves.{IsPresent}
use Rattle.seat_post.specs.Seats.{Observed}
use Rattle.seat_post.specs.Post.{known_at}
use Rattle.seat_post.proofs.Growing.{grows_both}
use Rattle.engine_answers.specs.declared.faults.TxnFault.TheVariants as txn
use Rattle.spare_numbers.specs.Spare.{is_on, written_of, struck_before}
use Rattle.spare_numbers.proofs.Shares.{drop_at}
use Rattle.txn_engine.specs.Accounts.{accounted}
use Rattle.txn_engine.specs.Fresh.{AreWritten, IsMetAbsent, Asks, PassesOver, GivesFirst, WantsMemory, MeetsNext, read_absent, struck_to, given_at}
use Rattle.txn_engine.specs.Pass.{PassView, IsAlone, store_of, meaning_of_pass, counted, observing}
use Rattle.txn_engine.specs.Txn.{Reads, Gives}
use Rattle.txn_engine.proofs.Accounting.{none_remains, accounted_given, accounted_struck}
use Rattle.txn_engine.proofs.Asking.{past, fresh_where}
use Rattle.txn_engine.proofs.Growing.{absent_grows}
use Rattle.txn_engine.proofs.Passing.{HasAsked, asked_at, split_at, take_removed, drop_removed, stays_written, struck_all, all_passed}

open_meaning : (p : PassView) → p.phase ≡ Open → meaning_of_pass p ≡ store_of p
open_meaning p opened = rw opened refl

-- what a list is where those before a place that are not written are struck off, by what stood at that place
struck_split : (p : PassView) (i rid : ℕ) → slice_get p.spare i ≡ Some rid → struck_before p.writes i p.spare ≡ written_of p.writes (take i p.spare) ++ rid ∷ drop (i + 1) p.spare
struck_split p i rid at = ap (λ (xs : List ℕ). written_of p.writes (take i p.spare) ++ xs) (drop_at p.spare i rid at)

struck_removed : (p : PassView) (i : ℕ) → struck_before p.writes i (remove p.spare i) ≡ written_of p.writes (take i p.spare) ++ drop (i + 1) p.spare
struck_removed p i = λ k. written_of p.writes (take_removed p.spare i k) ++ drop_removed p.spare i k

-- ---- the number that is given

module _ (p : PassView) (i rid : ℕ) (o u : Observed) (versions : List (ℕ × ℕ)) (h : HasAsked i p (observing p o)) (at : slice_get p.spare i ≡ Some rid) (met : IsMetAbsent p rid versions o u) where
  abbrev read : PassView
  read = observing (read_absent p rid versions) u

  given : GivesFirst p (given_at read i rid) rid
  given = record {
    numbers = take i p.spare;
    stayed = written_of p.writes (take i p.spare);
    behind = drop (i + 1) p.spare;
    list = split_at p.spare i rid at;
    between = o;
    over = h.over;
    absent = met;
    spare = struck_removed p i;
    given = refl;
  }

  accounts : accounted (given_at read i rid) ≡ accounted p
  accounts =
      accounted_struck (record read { spare = remove p.spare i; given = p.given ++ rid ∷ [] }) i (λ alone r on. h.held alone r (ap (λ (xs : List ℕ). is_on xs r) (sym (take_removed p.spare i)) ∙ on))
      ∙ accounted_given read i rid at

  gives_here : p.phase ≡ Open → p.dead ≡ None → p.fixed ≤ rid → rid < p.shared.size.records → is_on p.given rid ≡ false → value_at p.writes rid ≡ None → Gives p (given_at read i rid) (Ok rid)
  gives_here opened alive from within off unwritten =
      let meaning : meaning_of_pass p ≡ store_of p = open_meaning p opened in
      record {
        fresh = rw meaning (fresh_where p rid versions o u from within off unwritten met);
        ok = open_meaning (given_at read i rid) opened ∙ ap (λ (m : Meaning). after_fresh m rid) (sym meaning);
        err = tt;
        stays = record { same_frame = refl; same_accounts = accounts; grows = grows_both p.observed o u h.grows (absent_grows p rid versions o u met) };
        refuses = record { shown = tt; versions = tt; noted = refl; stopped = rw alive tt; still = rw alive tt; records_out = tt };
        meets = λ first. tt;
        first = given;
        all_passed = tt;
        none_remains = tt;
        no_memory = λ flying. tt;
        closed = λ off. tt;
      }

given_by : (p s r : PassView) (i rid : ℕ) (o : Observed) → p.phase ≡ Open → p.dead ≡ None → HasAsked i p (observing p o) → slice_get p.spare i ≡ Some rid → p.fixed ≤ rid → rid < p.shared.size.records → is_on p.given rid ≡ false → Asks (observing p o) s rid true → r ≡ given_at s i rid → Gives p r (Ok rid)
given_by p s r i rid o opened alive h at from within off (inl written) is = let no : true ≡ false = written.0 in cc
given_by p s r i rid o opened alive h at from within off (inr (unwritten, tells)) is =
    subst (λ (x : PassView). Gives p x (Ok rid)) (sym (is ∙ ap (λ (x : PassView). given_at x i rid) tells.after))
    (gives_here p i rid o s.observed s.versions h at (tells.met_absent refl) opened alive from within off unwritten)

pub given_gives : (p q s r : PassView) (i rid : ℕ) → p.phase ≡ Open → p.dead ≡ None → HasAsked i p q → slice_get q.spare i ≡ Some rid → q.fixed ≤ rid → rid < q.shared.size.records → is_on q.given rid ≡ false → Asks q s rid true → r ≡ given_at s i rid → Gives p r (Ok rid)
given_gives p q s r i rid opened alive h at from within off asks is =
    given_by p s r i rid q.observed opened alive (subst (λ (x : PassView). HasAsked i p x) h.same h) (asked_at i p q (Some rid) h at)
    (subst (λ (x : PassView). x.fixed ≤ rid) h.same from)
    (subst (λ (x : PassView). rid < x.shared.size.records) h.same within)
    (subst (λ (x : PassView). is_on x.given rid ≡ false) h.same off)
    (subst (λ (x : PassView). Asks x s rid true) h.same asks) is

-- ---- a refusal of asking for a number, which is one of a read

module _ (p : PassView) (i rid : ℕ) (o : Observed) (opened : p.phase ≡ Open) (alive : p.dead ≡ None) (h : HasAsked i p (observing p o)) (at : slice_get p.spare i ≡ Some rid) (unknown : known_at p.post rid ≡ None) where
  -- a conflict: those that were passed and are not written leave the list
  module _ (s : PassView) (conflict : Conflict) (reads : Reads (observing p o) s rid (Err (txn.Conflict conflict))) where
    list_same : struck_before s.writes i s.spare ≡ struck_before p.writes i p.spare
    list_same = λ k. struck_before ((ap (λ (m : Meaning). m.writes) reads.err) k) i (reads.spare k)

    held_there : IsAlone s → (r : ℕ) → is_on (take i s.spare) r ≡ true → IsSome (value_at s.writes r) ⊎ IsPresent s.log r
    held_there alone r on =
        let same = reads.stays.same_frame in
        let was = h.held (subst (λ (x : PassView). IsAlone x) same alone) r (ap (λ (xs : List ℕ). is_on (take i xs) r) (sym reads.spare) ∙ on) in
        elim was as (λ _. IsSome (value_at s.writes r) ⊎ IsPresent s.log r) [
          | inl written ↦ inl (subst (λ (m : Meaning). IsSome (value_at m.writes r)) (sym reads.err) written)
          | inr present ↦ inr (subst (λ (x : PassView). IsPresent x.log r) (sym same) present)
        ]

    meets_next : MeetsNext p (struck_to s i) conflict
    meets_next = record {
      numbers = take i p.spare;
      stayed = written_of p.writes (take i p.spare);
      rid = rid;
      behind = drop (i + 1) p.spare;
      list = split_at p.spare i rid at;
      between = o;
      over = h.over;
      unknown = unknown;
      stops = reads.meets alive;
      spare = list_same ∙ struck_split p i rid at;
    }

    stopped_here : Gives p (struck_to s i) (Err (txn.Conflict conflict))
    stopped_here = record {
      fresh = tt;
      ok = tt;
      err = open_meaning (struck_to s i) (ap (λ (x : PassView). x.phase) reads.stays.same_frame ∙ opened) ∙ reads.err ∙ sym (open_meaning p opened);
      stays = record {
        same_frame = reads.stays.same_frame;
        same_accounts = accounted_struck s i held_there ∙ reads.stays.same_accounts;
        grows = grows_both p.observed o s.observed h.grows reads.stays.grows;
      };
      refuses = record {
        shown = reads.refuses.shown;
        versions = reads.refuses.versions;
        noted = reads.refuses.noted;
        stopped = rw alive tt;
        still = rw alive tt;
        records_out = λ out. (cc);
      };
      first = tt;
      meets = λ first. meets_next;
      all_passed = λ out. (cc);
      none_remains = λ out. (cc);
      no_memory = λ flying want. (cc);
      closed = λ off want. (cc);
    }

  wants_memory : WantsMemory p (observing p o)
  wants_memory = record {
    numbers = take i p.spare;
    stayed = written_of p.writes (take i p.spare);
    rid = rid;
    behind = drop (i + 1) p.spare;
    list = split_at p.spare i rid at;
    over = h.over;
    unknown = unknown;
    after = refl;
  }

  -- no memory: nothing leaves it
  wanting_here : Gives p (observing p o) (Err txn.NoMemory)
  wanting_here = record {
    fresh = tt;
    ok = tt;
    err = open_meaning (observing p o) opened ∙ sym (open_meaning p opened);
    stays = record { same_frame = refl; same_accounts = refl; grows = h.grows };
    refuses = record { shown = tt; versions = refl; noted = refl; stopped = rw alive tt; still = rw alive tt; records_out = λ out. (cc) };
    first = tt;
    meets = λ first. tt;
    all_passed = λ out. (cc);
    none_remains = λ out. (cc);
    no_memory = λ flying want. wants_memory;
    closed = λ off. absurd (off opened);
  }

pub stopped_gives_next : (p q s r : PassView) (i rid : ℕ) (conflict : Conflict) → p.phase ≡ Open → p.dead ≡ None → HasAsked i p q → slice_get q.spare i ≡ Some rid → known_at q.post rid ≡ None → Reads q s rid (Err (txn.Conflict conflict)) → r ≡ struck_to s i → Gives p r (Err (txn.Conflict conflict))
stopped_gives_next p q s r i rid conflict opened alive h at unknown reads is =
    subst (λ (x : PassView). Gives p x (Err (txn.Conflict conflict))) (sym is)
    (stopped_here p i rid q.observed opened alive (subst (λ (x : PassView). HasAsked i p x) h.same h) (asked_at i p q (Some rid) h at) (subst (λ (x : PassView). known_at x.post rid ≡ None) h.same unknown) s conflict (subst (λ (x : PassView). Reads x s rid (Err (txn.Conflict conflict))) h.same reads))

pub wanting_gives : (p q r : PassView) (i rid : ℕ) → p.phase ≡ Open → p.dead ≡ None → HasAsked i p q → slice_get q.spare i ≡ Some rid → known_at q.post rid ≡ None → Reads q r rid (Err txn.NoMemory) → Gives p r (Err txn.NoMemory)
wanting_gives p q r i rid opened alive h at unknown reads =
    subst (λ (x : PassView). Gives p x (Err txn.NoMemory)) (sym (reads.no_memory refl ∙ h.same))
    (wanting_here p i rid q.observed opened alive (subst (λ (x : PassView). HasAsked i p x) h.same h) (asked_at i p q (Some rid) h at) (subst (λ (x : PassView). known_at x.post rid ≡ None) h.same unknown))

-- ---- the end of the list

module _ (p : PassView) (i : ℕ) (o : Observed) (opened : p.phase ≡ Open) (alive : p.dead ≡ None) (h : HasAsked i p (observing p o)) (none : slice_get p.spare i ≡ None) where
  left : struck_before p.writes i p.spare ≡ written_of p.writes p.spare
  left = struck_all p.writes p.spare i (past p.spare i none)

  abbrev last : PassView
  last = counted (struck_to (observing p o) i)

  all_written : AreWritten last (length last.spare)
  all_written k rid below here = stays_written p.writes p.spare k rid (ap (λ (xs : List ℕ). slice_get xs k) (sym left) ∙ here)

  ended_here : Gives p last (Err txn.RecordsOut)
  ended_here = record {
    fresh = tt;
    ok = tt;
    err = open_meaning last opened ∙ sym (open_meaning p opened);
    stays = record { same_frame = refl; same_accounts = accounted_struck (observing p o) i h.held; grows = h.grows };
    refuses = record { shown = tt; versions = refl; noted = refl; stopped = rw alive tt; still = rw alive tt; records_out = λ out. all_written };
    first = tt;
    meets = λ first. tt;
    all_passed = λ out. subst (λ (xs : List ℕ). PassesOver p p.spare xs p.observed o) (sym left) (all_passed p (observing p o) i h none);
    none_remains = λ out absent. none_remains last absent all_written;
    no_memory = λ flying want. (cc);
    closed = λ off want. (cc);
  }

pub ended_gives : (p q r : PassView) (i : ℕ) → p.phase ≡ Open → p.dead ≡ None → HasAsked i p q → slice_get q.spare i ≡ None → r ≡ counted (struck_to q i) → Gives p r (Err txn.RecordsOut)
ended_gives p q r i opened alive h none is =
    subst (λ (x : PassView). Gives p x (Err txn.RecordsOut)) (sym (is ∙ ap (λ (x : PassView). counted (struck_to x i)) h.same))
    (ended_here p i q.observed opened alive (subst (λ (x : PassView). HasAsked i p x) h.same h) (asked_at i p q None h none))
