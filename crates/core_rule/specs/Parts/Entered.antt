-- Entered: the stamps of a log name its seat or one taken in, and are not above the last stamp which that one drew; and no search or
-- read of the seat stands below its own entries.
use Rattle.std.specs.Prelude.{◌≡◌, ◌⊎◌, ℕ, ◌<◌, ◌≤◌, true, false, List}
use Rattle.stamp_base.specs.Stamp.{seat_of}
use Rattle.core_rule.specs.View.{View, writing, Read, Write, Aim, links, Stand, Search, stands, Logged}
use Rattle.core_rule.specs.Views.{Each, Has, Among}

-- no entry of record r at w below the stamp t stands above the place of the search
abbrev pub AimAbove : (ℕ → ℕ) → (r w : ℕ) → Stand → Aim → Type 0
AimAbove stamps r w s (links j) = Unit {0}
AimAbove stamps r w s _ = s.record_number ≡ r → w ≤ stamps s.place

abbrev pub SearchAbove : (ℕ → ℕ) → (r w : ℕ) → Search → Type 0
SearchAbove stamps r w (stands s look) = AimAbove stamps r w s s.aim
SearchAbove stamps r w _ = Unit {0}

-- what the seat's transaction meets of record r, which an entry of its log wrote at w
pub record Below (stamps : ℕ → ℕ) (v : View) (r w : ℕ) : Type 0 where
  pub search : SearchAbove stamps r w v.work.search
  pub reads : (d : Read) → Among d v.work.reads → d.record_number ≡ r → w ≤ d.version
  pub raised : (d : Read) → Among d v.work.raised → d.record_number ≡ r → w ≤ d.version

pub record CommitOk (drawn stamps : ℕ → ℕ) (v : View) (e : Logged) : Type 0 where
  pub positive : 0 < e.stamp
  pub drawn_by : (seat_of e.stamp ≡ v.number) ⊎ Has (seat_of e.stamp) v.clock.taken_in
  pub not_above_drawn : e.stamp ≤ drawn (seat_of e.stamp)
  pub before : (t : ℕ) → v.flight ≡ writing t → (e.stamp < t) ⊎ ((e.stamp ≡ t) × (v.work.decided ≡ true))
  pub own : (t : ℕ) → v.flight ≡ writing t → e.stamp < t → (u : Write) → Among u e.writes → Below stamps v u.record_number e.stamp

pub record EntriesOk (drawn : ℕ → ℕ) (least_write : ℕ) (stamps : ℕ → ℕ) (v : View) : Type 0 where
  pub commits : (e : Logged) → Among e v.log → e.snapshot ≡ false → CommitOk drawn stamps v e
  pub snapshots : (e : Logged) → Among e v.log → e.snapshot ≡ true → e.stamp < least_write

abbrev pub Entered : (ℕ → ℕ) → ℕ → (ℕ → ℕ) → List View → Type 0
Entered drawn least_write stamps vs = Each (EntriesOk drawn least_write stamps) vs
