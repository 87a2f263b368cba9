-- How far a transaction has come in its validation.
use Rattle.std.specs.Prelude.{◌≡◌, ◌⊎◌, ℕ, ◌<◌, Bool, true, List, [], ◌∷◌, ◌++◌}
use Rattle.plain_data.specs.State.{State}
use Rattle.word_layout.specs.Name.{rts}
use Rattle.core_rule.specs.Status.{status_word}
use Rattle.core_rule.specs.declared.status.Status.TheVariants.{Pending as PendingStatus}
use Rattle.core_rule.specs.View.{View, Flight, writing, Read, Write, Work, Load, Seen, no_item}
use Rattle.core_rule.specs.Views.{Among, Has}
use Rattle.core_rule.specs.Searching.{Rests, Ends, IsFinal, AllPassed}
use Rattle.core_rule.specs.Learnt.{IsOfAnother}
use Rattle.core_rule.specs.Deciding.{commit_of, AreReads, IsUndecided, StoodAt}
use Rattle.core_rule.specs.Paths.{EndsAt, load}
use Rattle.version_search.specs.Growing.{Grows}
use Rattle.validate_core.specs.Sets.{SetsView}
use Rattle.validate_core.specs.declared.conflict.Conflict.{Conflict}
use Rattle.validate_core.specs.declared.conflict.Conflict.TheVariants.{Pending, ReadLater, Overtaken}

-- what a call leaves as it was: the clock, the two published words and the places held, and all else but what is stored in places,
-- what is in flight, what is known of lists, the log, and what was seen, which has grown
pub record Stands (v w : View) : Type 0 where
  pub clock : w.clock ≡ v.clock
  pub published : w.published ≡ v.published
  pub held : w.places.held ≡ v.places.held
  pub others : w ≡ record v { places = w.places; work = w.work; counts = w.counts; tops = w.tops; front = w.front; log = w.log; seen = w.seen }
  pub grows : Grows v.seen w.seen

-- the view with this in flight, and this seen
abbrev pub worked : View → Work → Seen → View
worked v w seen = record v { work = w; seen = seen }

-- what is in flight and what was seen alone have changed, and loads alone were added to what was seen
pub record Works (v w : View) : Type 0 where
  pub only : w ≡ worked v w.work w.seen
  pub grows : Grows v.seen w.seen
  pub lost : w.seen.lost ≡ v.seen.lost

-- the transaction at this stamp has these reads and writes, which are linked; of the reads so many are raised, and finished; and
-- these writes have passed the check
pub record StageOf (stamp : ℕ) (s : SetsView) (up done : List Read) (checked : List Write) (flight : Flight) (work : Work) : Type 0 where
  pub in_flight : flight ≡ writing stamp
  pub rests : Rests work.search
  pub reads : AreReads s.reads work.reads
  pub raised : work.raised ≡ up
  pub finished : work.finished ≡ done
  pub linked : work.linked ≡ s.writes
  pub passed : AllPassed checked work.passed
  pub undecided : IsUndecided work
  pub collected : work.item ≡ no_item

abbrev pub Stage : ℕ → SetsView → (up done : List Read) → List Write → View → Type 0
Stage stamp s up done checked v = StageOf stamp s up done checked v.flight v.work

-- its writes are linked, and nothing is validated yet
abbrev pub IsInstalled : ℕ → SetsView → View → Type 0
IsInstalled stamp s v = Stage stamp s [] [] [] v

-- these writes have their last status
pub record Settled (checked : List Write) (v : View) : Type 0 where
  pub all : (u : Write) → Among u checked → Has u.record_number v.work.settled
  pub only : (r : ℕ) → Has r v.work.settled → (u : Write) × Among u checked × (u.record_number ≡ r)

-- the transaction is decided, and its entry is in the log
pub record IsDecidedAt (stamp : ℕ) (s : SetsView) (v : View) : Type 0 where
  pub in_flight : v.flight ≡ writing stamp
  pub rests : Rests v.work.search
  pub linked : v.work.linked ≡ s.writes
  pub unsettled : v.work.settled ≡ []
  pub decided : v.work.decided ≡ true
  pub collected : v.work.item ≡ no_item

-- the log has one more entry, the commit entry of the sets, at the end of a lawful history in which a kept state agrees with its
-- reads. No exchange was lost, and all else but what is in flight and what was seen is as before
pub record Decides (kept : State → Type 0) (records stamp : ℕ) (s : SetsView) (v w : View) : Type 0 where
  pub log : w.log ≡ v.log ++ commit_of (writing stamp) s.reads s.writes ∷ []
  pub only : w ≡ record (worked v w.work w.seen) { log = w.log }
  pub grows : Grows v.seen w.seen
  pub lost : w.seen.lost ≡ v.seen.lost
  pub stood : StoodAt kept records v.log (commit_of (writing stamp) s.reads s.writes)
  pub decided : IsDecidedAt stamp s w

-- each version of the transaction has its last status, as it was decided or not, and nothing is left to be done for it
pub record IsOver (decided : Bool) (s : SetsView) (v : View) : Type 0 where
  pub as_decided : v.work.decided ≡ decided
  pub settled : Settled s.writes v
  pub ends : Ends v.work

-- of the loads that one list has behind those of the other, some led to a version of record rid below the stamp, which showed this
-- status; and the next loads at its place were these
pub record Met (stamp rid wts status : ℕ) (more : ℕ → List Load) (before after' : List Load) : Type 0 where
  pub place : ℕ
  pub earlier : List Load
  pub met : List Load
  pub later : List Load
  pub path : EndsAt stamp rid place wts status (before ++ earlier) met
  pub loads : after' ≡ met ++ (more place ++ later)

abbrev pub no_more : ℕ → List Load
no_more place = []

abbrev pub its_read_stamp : ℕ → ℕ → List Load
its_read_stamp n place = load (rts place) n ∷ []

-- such a version, committed or deleted
pub record MetFinal (stamp rid wts : ℕ) (more : ℕ → List Load) (before after' : List Load) : Type 0 where
  pub status : ℕ
  pub final : IsFinal status
  pub met : Met stamp rid wts status more before after'

-- a version that the transaction has read; a record that it writes; a record that it has read or writes
pub record HasRead (rid version : ℕ) (s : SetsView) : Type 0 where
  pub read : Read
  pub among : Among read s.reads
  pub of_record : read.record_number ≡ rid
  pub at : read.version ≡ version

pub record Writes (rid : ℕ) (s : SetsView) : Type 0 where
  pub write : Write
  pub among : Among write s.writes
  pub of_record : write.record_number ≡ rid

abbrev pub Touches : ℕ → SetsView → Type 0
Touches rid s = ((version : ℕ) × HasRead rid version s) ⊎ Writes rid s

-- the conflict was shown by the loads of the call between two views
abbrev pub IsShown : ℕ → SetsView → View → View → Conflict → Type 0
IsShown stamp s v w (Pending rid wts) = (wts < stamp) × IsOfAnother w wts × Touches rid s × Met stamp rid wts (status_word PendingStatus) no_more v.seen.loads w.seen.loads
IsShown stamp s v w (ReadLater rid wts read_stamp) =
    (stamp < read_stamp) × IsOfAnother w read_stamp × Writes rid s × MetFinal stamp rid wts (its_read_stamp read_stamp) v.seen.loads w.seen.loads
IsShown stamp s v w (Overtaken rid seen now) =
    (seen < now) × (now < stamp) × IsOfAnother w now × HasRead rid seen s × MetFinal stamp rid now no_more v.seen.loads w.seen.loads

-- a conflict was met, and nothing is stored yet
pub record Stopped (s : SetsView) (v : View) : Type 0 where
  pub rests : Rests v.work.search
  pub linked : v.work.linked ≡ s.writes
  pub undecided : IsUndecided v.work
  pub collected : v.work.item ≡ no_item
