-- What the validation of a transaction loads where it passes.
use Rattle.std.specs.Prelude.{◌≡◌, ℕ, ◌≤◌, List, [], ◌∷◌, ◌++◌}
use Rattle.word_layout.specs.Name.{rts, published_write}
use Rattle.core_rule.specs.View.{Write, Load}
use Rattle.core_rule.specs.Searching.{IsFinal}
use Rattle.core_rule.specs.Paths.{EndsAt, load}
use Rattle.validate_core.specs.OneByOne.{OneByOne}
use Rattle.validate_core.specs.Sets.{Turn}

-- the read stamp of a version was raised, and found so before
pub record Raises (read : ℕ × ℕ) (before after' : List Load) : Type 0 where
  pub place : ℕ
  pub found : ℕ
  pub loads : after' ≡ before ++ load (rts place) found ∷ []

-- loads led to this version of the record below the stamp, and showed it committed or deleted
pub record FindsFinal (stamp rid version : ℕ) (before after' : List Load) : Type 0 where
  pub place : ℕ
  pub status : ℕ
  pub final : IsFinal status
  pub path : EndsAt stamp rid place version status before after'

-- the version that was read is the visible one still
abbrev pub FindsAgain : (stamp : ℕ) → ℕ × ℕ → (before after' : List Load) → Type 0
FindsAgain stamp read before after' = FindsFinal stamp read.0 read.1 before after'

-- this version of the record is overwritten, and was read at that stamp
pub record IsReadAt (stamp rid version read_stamp : ℕ) (before after' : List Load) : Type 0 where
  pub found : List Load
  pub finds : FindsFinal stamp rid version before found
  pub loads : after' ≡ found ++ load (rts finds.place) read_stamp ∷ []

-- the version of the record that is overwritten was read at no later stamp
pub record IsReadInTime (stamp rid : ℕ) (before after' : List Load) : Type 0 where
  pub version : ℕ
  pub read_stamp : ℕ
  pub in_time : read_stamp ≤ stamp
  pub read : IsReadAt stamp rid version read_stamp before after'

-- that which the write of this number overwrites was
pub record PassesCheck (stamp i : ℕ) (us : List Write) (before after' : List Load) : Type 0 where
  pub write : Write
  pub turn : Turn i us write
  pub in_time : IsReadInTime stamp write.record_number before after'

-- the own published stamp was loaded
pub record LoadsOwn (seat : ℕ) (before after' : List Load) : Type 0 where
  pub number : ℕ
  pub loads : after' ≡ before ++ load (published_write seat) number ∷ []

-- all that are overwritten were; where nothing is written the own published stamp was loaded
abbrev pub Checks : (stamp seat : ℕ) → (rids : List ℕ) → (before after' : List Load) → Type 0
Checks stamp seat [] before after' = LoadsOwn seat before after'
Checks stamp seat (rid ∷ rids) before after' = OneByOne (IsReadInTime stamp) (rid ∷ rids) before after'

-- The read stamps of all versions read were raised, each record read was searched once more, and each written one was checked, and
-- nothing else was loaded.
pub record Validates (stamp seat : ℕ) (reads : List (ℕ × ℕ)) (rids : List ℕ) (before after' : List Load) : Type 0 where
  pub raised : List Load
  pub raises : OneByOne Raises reads before raised
  pub searched : List Load
  pub again : OneByOne (FindsAgain stamp) reads raised searched
  pub checks : Checks stamp seat rids searched after'
