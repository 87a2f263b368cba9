-- What the validation of a transaction loads where a conflict stops it.
use Rattle.std.specs.Prelude.{◌≡◌, ℕ, List}
use Rattle.core_rule.specs.Status.{status_word}
use Rattle.core_rule.specs.declared.status.Status.TheVariants.{Pending as PendingStatus}
use Rattle.core_rule.specs.View.{Write, Load}
use Rattle.core_rule.specs.Paths.{EndsAt}
use Rattle.validate_core.specs.Sets.{Turn}
use Rattle.validate_core.specs.OneByOne.{OneByOne, StopsIn}
use Rattle.validate_core.specs.Checked.{Raises, FindsFinal, FindsAgain, IsReadAt, IsReadInTime}
use Rattle.validate_core.specs.declared.conflict.Conflict.{Conflict}
use Rattle.validate_core.specs.declared.conflict.Conflict.TheVariants.{Pending, ReadLater, Overtaken}

-- loads led to this version of the record below the stamp, and showed it pending
pub record FindsPending (stamp rid version : ℕ) (before after' : List Load) : Type 0 where
  pub place : ℕ
  pub path : EndsAt stamp rid place version (status_word PendingStatus) before after'

-- in place of the version that was read the search came upon a pending one, or a later one
abbrev pub StopsSearch : (stamp : ℕ) → Conflict → ℕ × ℕ → (before after' : List Load) → Type 0
StopsSearch stamp (Pending rid wts) read before after' = (rid ≡ read.0) × FindsPending stamp read.0 wts before after'
StopsSearch stamp (ReadLater rid wts read_stamp) read before after' = ⊥
StopsSearch stamp (Overtaken rid seen now) read before after' = (rid ≡ read.0) × (seen ≡ read.1) × FindsFinal stamp read.0 now before after'

-- the check of a written record came upon a pending version, or upon one that was read later
abbrev pub StopsCheck : (stamp : ℕ) → Conflict → ℕ → (before after' : List Load) → Type 0
StopsCheck stamp (Pending rid wts) written before after' = (rid ≡ written) × FindsPending stamp written wts before after'
StopsCheck stamp (ReadLater rid wts read_stamp) written before after' = (rid ≡ written) × IsReadAt stamp written wts read_stamp before after'
StopsCheck stamp (Overtaken rid seen now) written before after' = ⊥

-- that of the write of this number did
pub record FailsCheck (stamp i : ℕ) (us : List Write) (before after' : List Load) (conflict : Conflict) : Type 0 where
  pub write : Write
  pub turn : Turn i us write
  pub stop : StopsCheck stamp conflict write.record_number before after'

-- The validation stopped at a conflict: the read stamps of all versions read were raised, and then either a record read was not found
-- again, behind those that were; or all were, and a written one failed its check, behind those that passed. Nothing else was loaded.
pub data Halts (stamp : ℕ) (reads : List (ℕ × ℕ)) (rids : List ℕ) (before after' : List Load) (conflict : Conflict) : Type 0 where
  in_search : (raised : List Load) → OneByOne Raises reads before raised → StopsIn (FindsAgain stamp) (StopsSearch stamp conflict) reads raised after' → Halts stamp reads rids before after' conflict
  in_check : (raised searched : List Load) → OneByOne Raises reads before raised → OneByOne (FindsAgain stamp) reads raised searched → StopsIn (IsReadInTime stamp) (StopsCheck stamp conflict) rids searched after'
      → Halts stamp reads rids before after' conflict
