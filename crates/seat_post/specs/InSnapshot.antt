-- A snapshot at the hand of a seat: how it begins, what it has read, what one more read comes to, and how it ends.
use Rattle.std.specs.Prelude.{◌≡◌, ℕ, ◌+◌, ◌≤◌, List, [], ◌∷◌, ◌++◌, map, Option}
use Rattle.histories.specs.History.{IsValue, UpTo}
use Rattle.word_layout.specs.Name.{published_write, published_read, min_write, min_read}
use Rattle.clock_stamps.specs.Minima.{Raises, raised_write, bounded}
use Rattle.core_rule.specs.View.{View, resting, Read, Load, Logged, no_work}
use Rattle.core_rule.specs.Paths.{load}
use Rattle.core_rule.specs.Views.{Among}
use Rattle.core_rule.specs.Searching.{Ends}
use Rattle.core_rule.specs.Deciding.{read_value, read_values, entry_of, snapshot_of}
use Rattle.core_rule.specs.Snapshots.{firsts, AreAllWhole}
use Rattle.seat_post.specs.Searched.{Finds}

-- no transaction is in flight, and all that was read so far is whole
pub record IsInSnapshot (v : View) : Type 0 where
  pub rests : v.flight ≡ resting
  pub ends : Ends v.work
  pub whole : AreAllWhole v.work.reads

-- `min_wts` was raised, and was `met` at that step; one less than what was loaded of it afterwards is the read stamp
pub record Opens (stamp : ℕ) (v w : View) : Type 0 where
  pub met : ℕ
  pub between : View
  pub raises : Raises published_write min_write v.published.write v met between
  pub raised : between ≡ raised_write v met between.seen
  pub reached : met ≤ stamp + 1
  pub bound : w ≡ bounded between stamp

-- the records read so far, each with the value of its first read
abbrev pub snapshot_reads : View → List (ℕ × Option (List ℕ))
snapshot_reads v = read_values (firsts v.work.reads)

-- the view after one more load
abbrev pub after_loading : View → Load → View
after_loading v l = record v { seen = record v.seen { loads = v.seen.loads ++ l ∷ [] } }

-- one more version was found, in some place, with this value, and then the minimum of the read stamps was loaded; each earlier read of
-- the record has that value too
pub record FindsAlike (rid : ℕ) (value : Option (List ℕ)) (v w : View) : Type 0 where
  pub place : ℕ
  pub wts : ℕ
  pub between : View
  pub finds : Finds rid place wts value v between
  pub minimum : ℕ
  pub last : w ≡ after_loading between (load min_read minimum)
  pub alike : (d : Read) → Among d v.work.reads → d.record_number ≡ rid → read_value d ≡ value

-- the log leaves this value of a record up to the read stamp
abbrev pub IsLeftAt : View → ℕ → Option (List ℕ) → Type 0
IsLeftAt v rid value = IsValue (UpTo (map entry_of v.log) v.published.read) rid value

-- the entry of a snapshot that ends here, and the view after it has ended, at a load of the own published read word
abbrev pub logged_snapshot : View → Logged
logged_snapshot v = snapshot_of v.published.read (firsts v.work.reads)

abbrev pub snapshot_ended : View → (word : ℕ) → View
snapshot_ended v word = record (after_loading v (load (published_read v.number) word)) { work = no_work; log = v.log ++ logged_snapshot v ∷ [] }
