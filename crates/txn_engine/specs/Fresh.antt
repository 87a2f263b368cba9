-- How a transaction asks for a new record number.
use Rattle.std.specs.Prelude.{◌≡◌, ◌⊎◌, ℕ, ◌<◌, Bool, true, false, if◌then◌else◌, List, ◌∷◌, ◌++◌, [], Option, None, Some, IsSome, slice_get, remove}
use Rattle.record_store.specs.Meaning.{value_at, after_read}
use Rattle.validate_core.specs.declared.conflict.Conflict.{Conflict}
use Rattle.seat_post.specs.Post.{known_at}
use Rattle.seat_post.specs.Reading.{FindsValue}
use Rattle.seat_post.specs.Seats.{Observed}
use Rattle.seat_post.specs.Leaves.{IsPresent}
use Rattle.spare_numbers.specs.Spare.{struck_before}
use Rattle.txn_engine.specs.Faults.{StopsRead}
use Rattle.txn_engine.specs.Pass.{PassView, IsAlone, store_of, observing}

-- the record was read as absent, if it was not read before, and these are the versions read
abbrev pub read_absent : PassView → (rid : ℕ) → List (ℕ × ℕ) → PassView
read_absent p rid versions = record p { post = record p.post { reads = (after_read (store_of p) rid None).reads; versions = versions } }

-- the spare numbers before this place that are not written are struck off
abbrev pub struck_to : PassView → ℕ → PassView
struck_to p i = record p { spare = struck_before p.writes i p.spare }

-- and the one that stood at this place is given out
abbrev pub given_at : PassView → (i rid : ℕ) → PassView
given_at p i rid = struck_to (record p { spare = remove p.spare i; given = p.given ++ rid ∷ [] }) i

-- the transaction writes each spare number before this place
abbrev pub AreWritten : PassView → ℕ → Type 0
AreWritten p i = (k rid : ℕ) → k < i → slice_get p.spare k ≡ Some rid → IsSome (value_at p.writes rid)

-- a search between the two found this value of the record, and the version that it found stands behind those that were read before
abbrev pub NotesFound : PassView → (rid : ℕ) → Option (List ℕ) → (versions : List (ℕ × ℕ)) → (before after' : Observed) → Type 0
NotesFound p rid value versions before after' = (found : FindsValue p.stamp rid before after' value) × (versions ≡ p.versions ++ (rid, found.wts) ∷ [])

-- the record was known to be absent, no version is noted and nothing was loaded; or nothing was known of it, and a search found it so
abbrev pub IsMetAbsent : PassView → (rid : ℕ) → (versions : List (ℕ × ℕ)) → (before after' : Observed) → Type 0
IsMetAbsent p rid versions before after' =
    ((known_at p.post rid ≡ Some None) × (versions ≡ p.versions) × (after' ≡ before))
    ⊎ ((known_at p.post rid ≡ None) × NotesFound p rid None versions before after')

-- it was known to be present, and nothing was loaded; or nothing was known of it, and a search found it so, and loaded nothing else
abbrev pub IsMetPresent : PassView → ℕ → (before after' : Observed) → Type 0
IsMetPresent p rid before after' =
    (words : List ℕ) × (((known_at p.post rid ≡ Some (Some words)) × (after' ≡ before)) ⊎ ((known_at p.post rid ≡ None) × FindsValue p.stamp rid before after' (Some words)))

-- What a call tells of a record that is not written: where it is absent, it was read, if it was not before, and is noted; else nothing is.
pub record TellsAbsent (before after' : PassView) (rid : ℕ) (absent : Bool) : Type 0 where
  pub after : after' ≡ observing (if absent then read_absent before rid after'.versions else before) after'.observed
  pub met_absent : absent ≡ true → IsMetAbsent before rid after'.versions before.observed after'.observed
  pub met_present : absent ≡ false → IsMetPresent before rid before.observed after'.observed
  -- a seat that is alone meets what its log leaves
  pub left : IsAlone before → absent ≡ false → IsPresent before.log rid

-- Numbers of the list were passed, in turn: one that is written, which stays there, or one that is not and was met present. The latter are
-- struck off where a call comes to its end, but not where memory is wanted.
pub data PassesOver (p : PassView) : (numbers stayed : List ℕ) → Observed → Observed → Type 0 where
  none_yet : (o : Observed) → PassesOver p [] [] o o
  one_stays : (numbers stayed : List ℕ) (rid : ℕ) (o t : Observed) → PassesOver p numbers stayed o t → IsSome (value_at p.writes rid)
      → PassesOver p (numbers ++ rid ∷ []) (stayed ++ rid ∷ []) o t
  one_leaves : (numbers stayed : List ℕ) (rid : ℕ) (o t u : Observed) → PassesOver p numbers stayed o t → value_at p.writes rid ≡ None → IsMetPresent p rid t u
      → PassesOver p (numbers ++ rid ∷ []) stayed o u

-- The first number of the list that is met absent and not written is given out: those before it were passed.
pub record GivesFirst (before after' : PassView) (rid : ℕ) : Type 0 where
  pub numbers : List ℕ
  pub stayed : List ℕ
  pub behind : List ℕ
  pub list : before.spare ≡ numbers ++ rid ∷ behind
  pub between : Observed
  pub over : PassesOver before numbers stayed before.observed between
  pub absent : IsMetAbsent before rid after'.versions between after'.observed
  pub spare : after'.spare ≡ stayed ++ behind
  pub given : after'.given ≡ before.given ++ rid ∷ []

-- Memory is wanted for a number of the list of which nothing is known. Those before it were passed, which what was loaded shows, and all else
-- is as before: each of them is on the list still.
pub record WantsMemory (before after' : PassView) : Type 0 where
  pub numbers : List ℕ
  pub stayed : List ℕ
  pub rid : ℕ
  pub behind : List ℕ
  pub list : before.spare ≡ numbers ++ rid ∷ behind
  pub over : PassesOver before numbers stayed before.observed after'.observed
  pub unknown : known_at before.post rid ≡ None
  pub after : after' ≡ observing before after'.observed

-- A conflict was met at a number of the list of which nothing was known, at which its search stopped: those before it were passed.
pub record MeetsNext (before after' : PassView) (conflict : Conflict) : Type 0 where
  pub numbers : List ℕ
  pub stayed : List ℕ
  pub rid : ℕ
  pub behind : List ℕ
  pub list : before.spare ≡ numbers ++ rid ∷ behind
  pub between : Observed
  pub over : PassesOver before numbers stayed before.observed between
  pub unknown : known_at before.post rid ≡ None
  pub stops : StopsRead before.stamp rid between after'.observed conflict
  pub spare : after'.spare ≡ stayed ++ rid ∷ behind

-- all of them were passed
abbrev pub PassesAll : (before after' : PassView) → Type 0
PassesAll before after' = PassesOver before before.spare after'.spare before.observed after'.observed

-- What asking for a number tells, which is whether it is to be given out: no, where it is written, and nothing is changed; else whether its
-- record was met absent.
abbrev pub Asks : (before after' : PassView) (rid : ℕ) → Bool → Type 0
Asks before after' rid free = ((free ≡ false) × (after' ≡ before) × IsSome (value_at before.writes rid)) ⊎ ((value_at before.writes rid ≡ None) × TellsAbsent before after' rid free)
