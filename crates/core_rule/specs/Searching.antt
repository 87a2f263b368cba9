-- What a seat searches for, finds and links, from step to step.
use Rattle.std.specs.Prelude.{◌≡◌, ◌≢◌, ◌⊎◌, ℕ, suc, ◌-◌, ◌<◌, ◌≤◌, Bool, false, ◌==◌, ◌&&◌, nat_le, nat_lt, if◌then◌else◌, List, [], ◌∷◌, ◌++◌, length, Option, Some, None}
use Rattle.word_layout.specs.Size.{Size, reserved_place}
use Rattle.word_layout.specs.Limits.{cells_of_value}
use Rattle.core_rule.specs.Status.{status_word}
use Rattle.core_rule.specs.declared.status.Status.TheVariants.{Committed, Deleted, Aborted}
use Rattle.core_rule.specs.Views.{Among, Has}
use Rattle.core_rule.specs.View.{Flight, resting, writing, Fill, Write, Read, Joint, Aim, reads, links, again, checks, Stand, Look, blank, stamped, shown, Search, still, marks, stands, no_item, Work, Bound, Count, Reserved, nothing_reserved, version_reserved, maybe_reserved, Counted, Top, Front, no_front, at_front}

-- versions from this stamp on are too late for a transaction at its stamp, and for a snapshot at the read stamp
abbrev pub limit_of : Flight → ℕ → ℕ
limit_of (writing t) read = t
limit_of resting read = suc read

-- a search goes on from a place that was loaded as too late or as aborted
abbrev pub IsPassed : ℕ → Look → Type 0
IsPassed limit blank = ⊥
IsPassed limit (stamped w) = limit ≤ w
IsPassed limit (shown w s) = s ≡ status_word Aborted

abbrev pub stamp_seen : Look → ℕ
stamp_seen blank = 0
stamp_seen (stamped w) = w
stamp_seen (shown w s) = w

-- where it links, as too late
abbrev pub IsLate : Aim → Look → Type 0
IsLate (links j) look = j.write.stamp ≤ stamp_seen look
IsLate aim look = Unit {0}

-- committed or deleted
abbrev pub IsFinal : ℕ → Type 0
IsFinal s = (status_word Committed ≤ s) × (s ≤ status_word Deleted)

abbrev pub is_final : ℕ → Bool
is_final s = nat_le (status_word Committed) s && nat_le s (status_word Deleted)

-- a write stamp and a status at which the search has found what it was for
abbrev pub ends : Aim → (version status : ℕ) → Bool
ends reads w n = is_final n
ends (again d) w n = is_final n && (w == d.version)
ends _ w n = false

-- only a search that links does not ask for statuses
abbrev pub AsksStatus : Aim → Type 0
AsksStatus (links j) = ⊥
AsksStatus _ = Unit {0}

-- what a search is for, after it has left place q
abbrev pub moved : Aim → ℕ → Aim
moved (links j) q = links record j { above = Some q; least = j.least - 1; stored = false }
moved aim q = aim

-- no version is marked that is not linked
abbrev pub IsReading : Aim → Type 0
IsReading (links j) = ⊥
IsReading _ = Unit {0}

abbrev pub Rests : Search → Type 0
Rests still = Unit {0}
Rests (marks w) = ⊥
Rests (stands s look) = IsReading s.aim

-- nothing is left to be done for the transaction or snapshot: no version waits to be linked, or for its last status, and nothing is
-- collected
pub record Ends (w : Work) : Type 0 where
  pub rests : Rests w.search
  pub settled : (u : Write) → Among u w.linked → Has u.record_number w.settled
  pub collected : w.item ≡ no_item

-- the version that a search found
abbrev pub read_found : Stand → (version status : ℕ) → Read
read_found s w n = record { record_number = s.record_number; place = s.place; version = w; status = n; cells = [] }

-- the reads after a search for this ended; and those whose second search has ended
abbrev pub reads_with : Aim → Stand → (version status : ℕ) → List Read → List Read
reads_with reads s w n ds = read_found s w n ∷ ds
reads_with _ s w n ds = ds

abbrev pub finished_with : Aim → List Read → List Read
finished_with (again d) ds = ds ++ d ∷ []
finished_with _ ds = ds

-- all of the version was loaded
abbrev pub IsWhole : Read → Type 0
IsWhole d = (d.status ≡ status_word Deleted) ⊎ ((d.status ≡ status_word Committed) × (length d.cells ≡ cells_of_value))

-- no read of record r is among these
abbrev pub IsNotRead : ℕ → List Read → Type 0
IsNotRead r ds = (d : Read) → Among d ds → d.record_number ≢ r

abbrev pub no_read : Read
no_read = record { record_number = 0; place = 0; version = 0; status = status_word Deleted; cells = [] }

-- the read whose cells are loaded; its place, and how many cells were loaded
abbrev pub newest : List Read → Read
newest [] = no_read
newest (d ∷ ds) = d

abbrev pub read_place : List Read → ℕ
read_place [] = 0
read_place (r ∷ rs) = r.place

abbrev pub read_cells : List Read → ℕ
read_cells [] = 0
read_cells (r ∷ rs) = length r.cells

abbrev pub more_read : ℕ → List Read → List Read
more_read word [] = []
more_read word (r ∷ rs) = record r { cells = r.cells ++ word ∷ [] } ∷ rs

abbrev pub IsLoading : List Read → Type 0
IsLoading [] = ⊥
IsLoading (r ∷ rs) = r.status ≡ status_word Committed

-- the version of record r that is filled
abbrev pub write_of : ℕ → Fill → Write
write_of r f = record { record_number = r; place = f.place; stamp = f.stamp; cells = f.cells }

-- a version of record r may stand in place p
abbrev pub FitsPlace : Size → (r p : ℕ) → Type 0
FitsPlace z r p = (r < z.records) × (p < z.records → r ≡ p)

-- none of these is of record r; and one of these is, in place p
abbrev pub IsNotLinked : ℕ → List Write → Type 0
IsNotLinked r us = (u : Write) → Among u us → u.record_number ≢ r

abbrev pub HasWrite : (r p : ℕ) → List Write → Type 0
HasWrite r p us = (u : Write) × Among u us × (u.record_number ≡ r) × (u.place ≡ p)

-- a version has all its cells, or none for a deletion
abbrev pub IsWholeFill : Fill → Type 0
IsWholeFill f = (f.cells ≡ []) ⊎ (length f.cells ≡ cells_of_value)

-- the last status of what was linked
abbrev pub shown_at : Bool → List ℕ → ℕ
shown_at decided [] = if decided then status_word Deleted else status_word Aborted
shown_at decided (x ∷ xs) = if decided then status_word Committed else status_word Aborted

-- each of these but that of record r has passed the check; each read but this one was searched again
abbrev pub AllPassed : List Write → List ℕ → Type 0
AllPassed us rs = (u : Write) → Among u us → Has u.record_number rs

abbrev pub OthersPassed : ℕ → List Write → List ℕ → Type 0
OthersPassed r us rs = (u : Write) → Among u us → (u.record_number ≡ r) ⊎ Has u.record_number rs

-- a search begins: one that links, for a version that is marked; a second one, for a read whose read stamp is raised; a check, for
-- a version that is linked
abbrev pub Begins : Aim → ℕ → Work → Type 0
Begins reads r work = Rests work.search
Begins (links j) r work = (work.search ≡ marks j.write) × (j.write.record_number ≡ r) × (j.above ≡ None) × (j.least ≡ 0) × (j.stored ≡ false)
Begins (again d) r work = Rests work.search × (d.record_number ≡ r) × Among d work.raised × (work.decided ≡ false) × (Among d work.finished → ⊥)
Begins (checks u) r work = Rests work.search × (u.record_number ≡ r) × Among u work.linked × (work.decided ≡ false)

-- the search stands at place p; where it stands, and what it loaded there
abbrev pub IsAt : ℕ → Search → Type 0
IsAt p (stands s look) = s.place ≡ p
IsAt p _ = ⊥

abbrev pub no_stand : Stand
no_stand = record { aim = reads; record_number = 0; place = 0; under = 0 }

abbrev pub stand_in : Search → Stand
stand_in (stands s look) = s
stand_in _ = no_stand

abbrev pub look_in : Search → Look
look_in (stands s look) = look
look_in _ = blank

-- the linking of a version, as it begins, and as it is in work
abbrev pub first_joint : Write → Joint
first_joint w = record { write = w; above = None; least = 0; stored = false }

abbrev pub no_write : Write
no_write = record { record_number = 0; place = 0; stamp = 0; cells = [] }

abbrev pub write_in : Search → Write
write_in (marks w) = w
write_in _ = no_write

abbrev pub joint_of : Aim → Joint
joint_of (links j) = j
joint_of _ = first_joint no_write

abbrev pub joint_in : Search → Joint
joint_in s = joint_of (stand_in s).aim

-- the fill in work
abbrev pub front_fill : List Fill → Fill
front_fill [] = record { place = 0; stamp = 0; reset = false; cells = [] }
front_fill (f ∷ fs) = f

-- what is known of a list, after one more version was linked in place p
abbrev pub one_more : Size → ℕ → Option Bound → Option Bound
one_more z p None = None
one_more z p (Some b) = Some record { linked = suc b.linked; outside = (if nat_lt p z.records then b.outside else suc b.outside) }

abbrev pub known_in : Option Bound → List Count → ℕ → Option Bound
known_in rest [] r = rest
known_in rest (c ∷ cs) r = if c.record_number == r then c.bound else known_in rest cs r

abbrev pub known_of : Counted → ℕ → Option Bound
known_of c r = known_in c.rest c.listed r

-- what is known after one more version of record r, at the stamp t, was linked in place p
abbrev pub counted_more : Size → (r t p : ℕ) → Counted → Counted
counted_more z r t p c = record {
  rest = c.rest;
  listed = record { record_number = r; bound = one_more z p (known_of c r) } ∷ c.listed;
  in_reserved = (if p == reserved_place z then version_reserved r t else c.in_reserved);
}

-- what is known after the version in place p was found to be the only one of record r
abbrev pub counted_one : Size → (r p : ℕ) → Counted → Counted
counted_one z r p c =
    record c { listed = record { record_number = r; bound = Some record { linked = 1; outside = (if nat_lt p z.records then 0 else 1) } } ∷ c.listed }

-- the number that no write stamp in the list of record r is above, as far as known
abbrev pub newest_stamp : List Top → ℕ → Option ℕ
newest_stamp [] r = None
newest_stamp (t ∷ ts) r = if t.record_number == r then Some t.stamp else newest_stamp ts r

-- no version above the stamp c is linked, as it is known
abbrev pub is_newest : ℕ → Option ℕ → Bool
is_newest c None = false
is_newest c (Some t) = nat_le t c

-- what the seat has in the reserved place, after the versions of record r below the stamp c were cut off
abbrev pub reserved_from : (r c : ℕ) → Reserved → Reserved
reserved_from r c (version_reserved q t) = if (q == r) && nat_lt t c then nothing_reserved else version_reserved q t
reserved_from r c k = k

-- what is known after what is older than the version of record r in place p, at the stamp c, was cut off
abbrev pub counted_cut : Size → (r c p : ℕ) → List Top → Counted → Counted
counted_cut z r c p tops known =
    record (if is_newest c (newest_stamp tops r) then counted_one z r p known else known) { in_reserved = reserved_from r c known.in_reserved }

-- what two seats together have in the reserved place
abbrev pub reserved_by_both : Reserved → Reserved → Reserved
reserved_by_both nothing_reserved nothing_reserved = nothing_reserved
reserved_by_both a b = maybe_reserved

-- where the look at a first version stands
abbrev pub front_record : Front → ℕ
front_record no_front = 0
front_record (at_front r p look) = r

abbrev pub front_place : Front → ℕ
front_place no_front = 0
front_place (at_front r p look) = p

abbrev pub front_look : Front → Look
front_look no_front = blank
front_look (at_front r p look) = look

abbrev pub state_seen : Look → ℕ
state_seen (shown w s) = s
state_seen _ = 0

-- the write that is checked

abbrev pub write_of_aim : Aim → Write
write_of_aim (checks u) = u
write_of_aim _ = no_write

abbrev pub checked_in : Search → Write
checked_in s = write_of_aim (stand_in s).aim
