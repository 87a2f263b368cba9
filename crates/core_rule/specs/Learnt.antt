-- What a step tells its seat: the view after it, and what the rule says of the number that it found.
use Rattle.std.specs.Prelude.{◌≡◌, ◌≢◌, ℕ, suc, ◌<◌, ◌≤◌, true, false, [], ◌∷◌, ◌++◌, length, Some}
use Rattle.word_layout.specs.Size.{places}
use Rattle.word_layout.specs.Limits.{cells_of_value}
use Rattle.stamp_base.specs.Limits.{end_of_stamps}
use Rattle.stamp_base.specs.Stamp.{stamp_of, clock_of, seat_of, IsStamp}
use Rattle.plain_data.specs.State.{State}
use Rattle.core_rule.specs.Status.{status_word, IsStatusWord}
use Rattle.core_rule.specs.declared.status.Status.TheVariants.{Pending}
use Rattle.core_rule.specs.View.{View, resting, Aim, links, again, Logged}
use Rattle.core_rule.specs.Views.{AllOf, Has, Among, IsAlone}
use Rattle.core_rule.specs.Searching.{limit_of, IsFinal, read_cells, newest, newest_stamp}
use Rattle.core_rule.specs.Deciding.{stamp_in, commit_of, snapshot_of, StoodAt, IsLawfulLog}
use Rattle.core_rule.specs.Snapshots.{AreAlike, AreLeft}
use Rattle.core_rule.specs.Reckoning.{Reckons}
use Rattle.core_rule.specs.Spares.{KnowsFree}
use Rattle.core_rule.specs.Left.{IsLeft, LeavesCells}
use Rattle.core_rule.specs.Kinds.{Kind, publish_stamp, hear, scan_writes, scan_reads, load_min_write, load_min_read, raise_min_write, raise_min_read, take, look_at, load_head, load_next, load_stamp, load_status, load_cell, link_head, link_next, load_read_stamp, decide_by_check, decide_bare, finish, take_lock, load_floor, seek_head, seek_stamp, seek_next, cut, follow, front_head, front_status, after}

-- a number that a stamp at the place that is searched for is not under
abbrev pub least_of : Aim → ℕ
least_of (links j) = j.least
least_of _ = 0

-- a link to a place
abbrev pub IsLink : ℕ → ℕ → Type 0
IsLink count n = (0 < n) × (n ≤ count)

-- a stamp of another seat
pub record IsOfAnother (v : View) (w : ℕ) : Type 0 where
  pub stamp : IsStamp w
  pub another : seat_of w ≢ v.number
  pub within : seat_of w < v.size.seats
  pub not_alone : IsAlone v → ⊥

-- a second search never ends below the version read, and only another seat's stands above it
abbrev pub IsOvertaken : View → Aim → (stamp status : ℕ) → Type 0
IsOvertaken v (again d) w n = IsFinal n → (d.version ≤ w) × (w ≢ d.version → IsOfAnother v w)
IsOvertaken v _ w n = Unit {0}

-- what the rule says of the number found
abbrev pub Learnt : (State → Type 0) → Kind → View → ℕ → Type 0
Learnt kept (publish_stamp clock) v n =
    AllOf (λ t. t < stamp_of clock v.number) v.clock.known × (v.published.write < stamp_of clock v.number)
Learnt kept (hear stamp) v n = n ≡ v.published.write
-- the own word; that of a seat taken in; and of any other, while this one is alone
Learnt kept (scan_writes seat) v n =
    (seat ≡ v.number → n ≡ v.published.write) × (Has seat v.clock.taken_in → seat < v.size.seats → n ≡ end_of_stamps) × (IsAlone v → seat ≢ v.number → seat < v.size.seats → n ≡ end_of_stamps)
Learnt kept (scan_reads seat) v n =
    (seat ≡ v.number → n ≡ v.published.read) × (Has seat v.clock.taken_in → seat < v.size.seats → n ≡ end_of_stamps) × (IsAlone v → seat ≢ v.number → seat < v.size.seats → n ≡ end_of_stamps)
-- each snapshot in the log is below it; and the log of a seat that is alone is a lawful history
Learnt kept load_min_write v n =
    (v.clock.met ≤ n)
    × (v.published.read < n)
    × (n ≤ v.published.write)
    × (v.published.write < end_of_stamps → n < stamp_of (suc v.clock.clock) v.number)
    × ((e : Logged) → Among e v.log → e.snapshot ≡ true → e.stamp < n)
    × (IsAlone v → IsLawfulLog kept v.size.records v.log)
-- what a snapshot has read of one record is alike; and a seat that is alone has read what its log leaves
Learnt kept load_min_read v n =
    (n ≤ v.published.read)
    × (v.flight ≡ resting → AreAlike v.work.reads)
    × (IsAlone v → v.flight ≡ resting → AreLeft v.log v.published.read v.work.reads)
Learnt kept raise_min_write v n = (v.clock.met ≤ n) × (n ≤ v.published.write) × (v.raises.writes.least ≤ v.published.write)
-- no entry of the log is above the own clock
Learnt kept raise_min_read v n =
    (n ≤ v.published.read) × (v.raises.reads.least ≤ v.published.read) × ((e : Logged) → Among e v.log → e.snapshot ≡ false → clock_of e.stamp ≤ v.clock.clock)
-- a place that is taken was not held; where each usable pool place was met not free, they are counted; and what is known to be
-- free is found so
Learnt kept (take place) v n =
    (n ≡ 0 → AllOf (λ p. p ≢ place) v.places.held) × (v.seen.since ≤ length v.seen.lost) × Reckons (after (take place) v n) × (KnowsFree v place → n ≡ 0)
Learnt kept (look_at place) v n = (v.seen.since ≤ length v.seen.lost) × Reckons (after (look_at place) v n) × (KnowsFree v place → n ≡ 0)
Learnt kept (load_head aim r) v n = IsLink (places v.size) n
Learnt kept (load_next s look) v n = IsLink (places v.size) n
Learnt kept (load_stamp s) v n = (least_of s.aim ≤ n) × (n < s.under)
-- a pending version is that of another seat, and a snapshot meets none. What a second search finds in place of the version read is
-- above it, and another seat's. A seat that is alone finds what its log leaves
Learnt kept (load_status s w) v n =
    IsStatusWord n
    × (n ≡ status_word Pending → IsOfAnother v w × (v.flight ≢ resting))
    × IsOvertaken v s.aim w n
    × (IsAlone v → IsFinal n → IsLeft v.log s.record_number (limit_of v.flight v.published.read) w n)
-- with the last cell a seat that is alone has loaded the value that its log leaves
Learnt kept load_cell v n =
    IsAlone v
    → suc (read_cells v.work.reads) ≡ cells_of_value
    → LeavesCells v.log (newest v.work.reads).record_number (limit_of v.flight v.published.read) (newest v.work.reads).version ((newest v.work.reads).cells ++ n ∷ [])
-- a seat that is alone links at the head, and loses no exchange
Learnt kept (link_head s j w) v n = IsLink (places v.size) n × (IsAlone v → n ≡ suc s.place)
Learnt kept (link_next s j above w) v n = IsLink (places v.size) n × (IsAlone v → ⊥)
-- a greater read stamp is that of another seat
Learnt kept (load_read_stamp s u w state) v n = stamp_in v.flight < n → IsOfAnother v n
Learnt kept (decide_by_check s u w state) v n =
    (stamp_in v.flight < n → IsOfAnother v n) × (n ≤ stamp_in v.flight → StoodAt kept v.size.records v.log (commit_of v.flight v.work.finished v.work.linked))
Learnt kept decide_bare v n = StoodAt kept v.size.records v.log (commit_of v.flight v.work.finished v.work.linked)
Learnt kept (finish ds) v n = StoodAt kept v.size.records v.log (snapshot_of v.published.read ds)
-- a lock that is taken names another seat
Learnt kept (take_lock r c) v n = (n ≢ suc v.number) × (n ≤ v.size.seats) × (IsAlone v → n ≡ 0)
-- the version at the floor is linked
Learnt kept (load_floor r c) v n = IsAlone v → (t : ℕ) → newest_stamp v.tops r ≡ Some t → n ≤ t
-- the search for a version that is collected never comes to an end of its list
Learnt kept (seek_head r c) v n = IsLink (places v.size) n
Learnt kept (seek_stamp r c p u) v n = (c ≤ n) × (n < u)
Learnt kept (seek_next r c p w) v n = IsLink (places v.size) n
Learnt kept (cut r c p) v n = (n ≤ places v.size) × (0 < n → 0 < c)
Learnt kept (follow r c to) v n = (n ≤ places v.size) × (0 < n → 1 < v.gone.left)
Learnt kept (front_head r) v n = IsLink (places v.size) n
Learnt kept (front_status r p w) v n = IsStatusWord n
Learnt kept _ v n = Unit {0}

-- what a step tells its seat
pub record Told (kept : State → Type 0) (k : Kind) (before : View) (n : ℕ) (after' : View) : Type 0 where
  pub view : after' ≡ after k before n
  pub learnt : Learnt kept k before n
