-- What a conflict says of the transaction that it stops.
use Rattle.std.specs.Prelude.{◌≡◌, ◌≢◌, ◌⊎◌, ℕ, ◌<◌, List, [], Option, IsSome}
use Rattle.stamp_base.specs.Stamp.{seat_of, IsStamp}
use Rattle.word_layout.specs.Size.{Size}
use Rattle.core_rule.specs.View.{Load, Read}
use Rattle.core_rule.specs.Views.{Among}
use Rattle.validate_core.specs.Validating.{Met, MetFinal, no_more, its_read_stamp}
use Rattle.seat_post.specs.Seats.{Others, Observed, IsAloneAt}
use Rattle.record_store.specs.Meaning.{value_at}
use Rattle.validate_core.specs.Named.{stamp_named}
use Rattle.validate_core.specs.declared.conflict.Conflict.{Conflict}
use Rattle.validate_core.specs.declared.conflict.Conflict.TheVariants.{Pending, ReadLater, Overtaken}

-- the number is that of a stamp of another seat of the engine, which has more than one then; and this one is not the only one that is open
pub record IsOfAnother (size : Size) (seat : ℕ) (others : Others) (stamp : ℕ) : Type 0 where
  pub is_stamp : IsStamp stamp
  pub another : seat_of stamp ≢ seat
  pub within : seat_of stamp < size.seats
  pub more : 1 < size.seats
  pub not_alone : IsAloneAt size seat others → ⊥

-- An earlier version is pending of a record that it asked for; a version that it overwrites was read later; the version that it read
-- was overwritten before.
abbrev pub IsInTheWay : (size : Size) (stamp : ℕ) (reads : List (ℕ × Option (List ℕ))) (versions : List (ℕ × ℕ)) (writes : List (ℕ × Option (List ℕ))) → Conflict → Type 0
IsInTheWay size stamp reads versions writes (Pending rid wts) = (rid < size.records) × (wts < stamp)
IsInTheWay size stamp reads versions writes (ReadLater rid wts rts) = IsSome (value_at writes rid) × (wts < stamp) × (stamp < rts)
IsInTheWay size stamp reads versions writes (Overtaken rid seen now) = IsSome (value_at reads rid) × (seen < now) × (now < stamp) × Among (rid, seen) versions

-- It is in the way, and what it names is always the stamp of another seat.
abbrev pub Shows : (size : Size) (seat : ℕ) (others : Others) (stamp : ℕ) (reads : List (ℕ × Option (List ℕ))) (versions : List (ℕ × ℕ)) (writes : List (ℕ × Option (List ℕ))) → Conflict → Type 0
Shows size seat others stamp reads versions writes conflict = IsInTheWay size stamp reads versions writes conflict × IsOfAnother size seat others (stamp_named conflict)

-- It is of a record that was read or is written: one that is overwritten was written, and one that was overtaken was read.
abbrev pub Touches : (reads writes : List (ℕ × Option (List ℕ))) → Conflict → Type 0
Touches reads writes (Pending rid wts) = IsSome (value_at reads rid) ⊎ IsSome (value_at writes rid)
Touches reads writes (ReadLater rid wts rts) = IsSome (value_at writes rid)
Touches reads writes (Overtaken rid seen now) = IsSome (value_at reads rid)

-- loads led to this version of the record below the stamp, and showed it committed or deleted; and to the version of each read
abbrev pub WasFound : (stamp rid wts : ℕ) → List Load → Type 0
WasFound stamp rid wts loads = MetFinal stamp rid wts no_more [] loads

abbrev pub WereFound : (stamp : ℕ) → List Read → List Load → Type 0
WereFound stamp ds loads = (d : Read) → Among d ds → WasFound stamp d.record_number d.version loads

-- What it names was loaded between the two, at a version below the stamp to which the loads led: the status of a pending one; the
-- read stamp of a committed or deleted one; the status of such a one, where the version that was read had been found too.
abbrev pub IsLoaded : (stamp : ℕ) → Conflict → (before after' : Observed) → Type 0
IsLoaded stamp (Pending rid wts) before after' = Met stamp rid wts 2 no_more before.loads after'.loads
IsLoaded stamp (ReadLater rid wts rts) before after' = MetFinal stamp rid wts (its_read_stamp rts) before.loads after'.loads
IsLoaded stamp (Overtaken rid seen now) before after' = MetFinal stamp rid now no_more before.loads after'.loads × WasFound stamp rid seen after'.loads

-- a read meets a pending version alone
abbrev pub IsPendingBefore : (size : Size) (stamp : ℕ) → Conflict → Type 0
IsPendingBefore size stamp (Pending rid wts) = (rid < size.records) × (wts < stamp)
IsPendingBefore size stamp (ReadLater rid wts rts) = ⊥
IsPendingBefore size stamp (Overtaken rid seen now) = ⊥

abbrev pub ShowsPending : (size : Size) (seat : ℕ) (others : Others) (stamp : ℕ) → Conflict → Type 0
ShowsPending size seat others stamp conflict = IsPendingBefore size stamp conflict × IsOfAnother size seat others (stamp_named conflict)

-- the same of a transaction that reads and writes this record alone
abbrev pub IsInTheWayOf : (rid stamp : ℕ) → Conflict → Type 0
IsInTheWayOf rid stamp (Pending at wts) = (at ≡ rid) × (wts < stamp)
IsInTheWayOf rid stamp (ReadLater at wts rts) = (at ≡ rid) × (wts < stamp) × (stamp < rts)
IsInTheWayOf rid stamp (Overtaken at seen now) = (at ≡ rid) × (seen < now) × (now < stamp)

abbrev pub ShowsOf : (rid : ℕ) (size : Size) (seat : ℕ) (others : Others) (stamp : ℕ) → Conflict → Type 0
ShowsOf rid size seat others stamp conflict = IsInTheWayOf rid stamp conflict × IsOfAnother size seat others (stamp_named conflict)
