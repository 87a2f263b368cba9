-- What a read of a record from the table comes to.
use Rattle.std.specs.Prelude.{◌≡◌, ℕ, ◌<◌, List, [], ◌∷◌, ◌++◌, map, Option}
use Rattle.word_layout.specs.Size.{places}
use Rattle.core_rule.specs.View.{View, still, Search, Read}
use Rattle.core_rule.specs.Views.{IsAlone}
use Rattle.core_rule.specs.Searching.{Rests, IsWhole, limit_of}
use Rattle.core_rule.specs.Deciding.{entry_of}
use Rattle.core_rule.specs.Versions.{read_version}
use Rattle.core_rule.specs.Learnt.{IsOfAnother}
use Rattle.seat_post.specs.Reading.{LeadsTo, StopsAt}
use Rattle.seat_post.specs.Leaves.{LeavesValue}
use Rattle.seat_post.specs.Seats.{observed_of}

-- the version of record rid in a place was found, with this value
pub record Finds (rid place wts : ℕ) (value : Option (List ℕ)) (v w : View) : Type 0 where
  pub view : w ≡ record v { work = record v.work { search = still; reads = read_version rid place wts value ∷ v.work.reads }; seen = w.seen }
  pub whole : IsWhole (read_version rid place wts value)
  pub inside : place < places v.size
  -- the loads of the search alone led there and to its value, and it lost no exchange
  pub leads : LeadsTo (limit_of v.flight v.published.read) rid place wts value v.seen.loads w.seen.loads
  pub lost : w.seen.lost ≡ v.seen.lost
  -- a seat that is alone finds what its log leaves
  pub left : IsAlone v → LeavesValue (map entry_of v.log) rid (limit_of v.flight v.published.read) value

-- one was found, and stands behind what was read before
pub record FindsOne (rid : ℕ) (before after' : List Read) (v w : View) : Type 0 where
  pub place : ℕ
  pub wts : ℕ
  pub value : Option (List ℕ)
  pub finds : Finds rid place wts value v w
  pub reads : after' ≡ before ++ read_version rid place wts value ∷ []

-- a pending version of another seat was met in the list of record rid, and no version was found
pub record Stops (stamp rid wts : ℕ) (v w : View) : Type 0 where
  pub search : Search
  pub view : w ≡ record v { work = record v.work { search = search }; seen = w.seen }
  pub rests : Rests search
  pub at : StopsAt stamp rid wts (observed_of v) (observed_of w)
  pub before : wts < stamp
  pub another : IsOfAnother v wts
