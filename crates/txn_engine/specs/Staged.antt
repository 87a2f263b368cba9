-- What becomes of a transaction in its stages: its versions are linked, it is decided, and they are published; or it is refused.
use Rattle.std.specs.Prelude.{◌≡◌, ◌≢◌, ℕ, ◌+◌, List, [], Option, None, Some, IfSome, length}
use Rattle.plain_data.specs.State.{State}
use Rattle.core_rule.specs.View.{Load}
use Rattle.validate_core.specs.Checked.{Validates}
use Rattle.validate_core.specs.Halting.{Halts}
use Rattle.validate_core.specs.OneByOne.{OneByOne}
use Rattle.validate_core.specs.declared.conflict.Conflict.{Conflict}
use Rattle.seat_post.specs.Ends.{Stood}
use Rattle.seat_post.specs.Leaves.{AreLeft}
use Rattle.seat_post.specs.Lists.{AreLinked, bounds_before, AreBounded, count_raised}
use Rattle.seat_post.specs.Logs.{IsAbove}
use Rattle.seat_post.specs.Placing.{HavePlaces, Puts, count_inline}
use Rattle.seat_post.specs.Post.{rids_written}
use Rattle.seat_post.specs.Seats.{Bounds, Placed}
use Rattle.engine_answers.specs.declared.faults.CommitFault.{CommitFault}
use Rattle.engine_answers.specs.declared.faults.CommitFault.TheVariants as fault
use Rattle.engine_answers.specs.declared.committed.Committed.{Committed}
use Rattle.txn_engine.specs.Faults.{IsShown, IsTouched, MatchStopped, WasLoaded, WantsPlace}
use Rattle.txn_engine.specs.Lists.{IsFull}
use Rattle.txn_engine.specs.Pass.{PassView, IsAlone, with_bounds, observing, placing, entry_of, installed, decided, refused, published}

-- its versions are linked one by one as pending ones, each in a place for its record, the inline one where that was met free, and nothing
-- else is loaded
pub record Installs (before after' : PassView) : Type 0 where
  pub after : after' ≡ observing (placing (installed (with_bounds before after'.bounds)) after'.placed) after'.observed
  pub alive : before.dead ≡ None
  pub have : HavePlaces before.shared.size before.writes after'.placed
  pub puts : OneByOne (Puts before.shared.size before.stamp) after'.placed before.observed after'.observed
  pub above : IsAbove before.log before.stamp
  pub read_left : IsAlone before → AreLeft before.log before.stamp before.reads
  pub first : bounds_before (length before.writes) after'.bounds ≡ before.bounds
  pub linked : AreLinked before.writes before.stamp before.bounds after'.bounds

-- why they are not: it has met a conflict, or there is no place for one of them
pub record MayRefuseInstall (before : PassView) (why : CommitFault) : Type 0 where
  pub dead : IfSome before.dead (λ conflict. why ≡ fault.Conflict conflict)
  pub alive : before.dead ≡ None → why ≡ fault.PlacesOut
  pub cause : MatchStopped why (IsShown before) (before.writes ≢ [])
  pub read_left : IsAlone before → AreLeft before.log before.stamp before.reads
  pub full : why ≡ fault.PlacesOut → IsAlone before → IsFull before

-- The transaction has ended as a refused one. Beside that, only what is known of lists, where versions were linked, and what its steps came upon may be
-- other than before.
abbrev pub EndsRefused : (before after' : PassView) → Type 0
EndsRefused before after' = after' ≡ observing (placing (refused (with_bounds before after'.bounds)) after'.placed) after'.observed

-- it had met this conflict before: nothing was linked, loaded or lost
pub record WasDoomed (before after' : PassView) (conflict : Conflict) : Type 0 where
  pub dead : before.dead ≡ Some conflict
  pub shown : IsShown before conflict
  pub after : after' ≡ refused before

-- There was no place for one of its writes, after versions of those before it were linked. A seat that is alone is full then, by the bounds that it
-- knows.
pub record HasNoPlace (before after' : PassView) : Type 0 where
  pub alive : before.dead ≡ None
  pub after : EndsRefused before after'
  pub written : before.writes ≢ []
  pub wants : WantsPlace before after'
  pub full : IsAlone before → IsFull before

-- in which of these two ways they are not
pub data StopsInstall (before after' : PassView) : CommitFault → Type 0 where
  doomed : (conflict : Conflict) → WasDoomed before after' conflict → StopsInstall before after' (fault.Conflict conflict)
  no_place : HasNoPlace before after' → StopsInstall before after' fault.PlacesOut

-- they are not linked, and the transaction has ended
pub record RefusesInstall (before after' : PassView) (why : CommitFault) : Type 0 where
  pub stops : StopsInstall before after' why
  pub read_left : IsAlone before → AreLeft before.log before.stamp before.reads

-- what was known of lists before its versions were linked
abbrev pub bounds_first : PassView → Bounds
bounds_first p = bounds_before (length p.writes) p.bounds

-- the loads between two lists validate it: each record read was searched once more, and each written one was checked
abbrev pub IsValidated : PassView → (before after' : List Load) → Type 0
IsValidated p before after' = Validates p.stamp p.seat p.versions (rids_written p.post) before after'

-- they end at this conflict, behind what passed before it
abbrev pub IsHaltedBy : PassView → Conflict → (before after' : List Load) → Type 0
IsHaltedBy p conflict before after' = Halts p.stamp p.versions (rids_written p.post) before after' conflict

-- it is valid: its entry stands at the end of the log, and a kept state of the history agrees with its reads
pub record Decides (kept : State → Type 0) (before after' : PassView) : Type 0 where
  pub after : after' ≡ observing (decided before) after'.observed
  pub validated : IsValidated before before.observed.loads after'.observed.loads
  pub lost : after'.observed.lost ≡ before.observed.lost
  pub stood : Stood kept before.shared.size.records before.log (entry_of before)

-- loads of the call showed this conflict with what it has read or written
pub record MeetsConflict (before after' : PassView) (conflict : Conflict) : Type 0 where
  pub shown : IsShown before conflict
  pub touched : IsTouched before conflict
  pub loaded : WasLoaded before after' conflict

-- it is not valid, since it met a conflict, and has ended
pub record RefusesDecision (before after' : PassView) (conflict : Conflict) : Type 0 where
  pub after : after' ≡ observing (refused before) after'.observed
  pub halts : IsHaltedBy before conflict before.observed.loads after'.observed.loads
  pub lost : after'.observed.lost ≡ before.observed.lost
  pub meets : MeetsConflict before after' conflict

-- So many versions of these writes stand in the inline places of their records, and the others in usable pool places. Where a bound is known of
-- each record that is written, the others are as many as by the new bounds may lie outside inline places, and by the earlier ones did not.
pub record AreCounted (bounds known : Bounds) (writes : List (ℕ × Option (List ℕ))) (placed : List Placed) (told : Committed) : Type 0 where
  pub all : told.inlined + told.pooled ≡ length writes
  pub inlined : told.inlined ≡ count_inline placed
  pub pooled : AreBounded bounds writes → told.pooled ≡ count_raised bounds known writes

-- its versions are published, and counted by the places that they took
pub record Publishes (before after' : PassView) (told : Committed) : Type 0 where
  pub after : after' ≡ published before
  pub stamp : told.stamp ≡ before.stamp
  pub have : HavePlaces before.shared.size before.writes before.placed
  pub counted : AreCounted (bounds_first before) before.bounds before.writes before.placed told
