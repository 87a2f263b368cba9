-- What installing the writes of a transaction comes to.
use Rattle.std.specs.Prelude.{◌≡◌, ◌⊎◌, ℕ, ◌+◌, ◌<◌, false, List, [], ◌∷◌, length, take, slice_set, Option}
use Rattle.stamp_base.specs.Stamp.{IsStamp}
use Rattle.word_layout.specs.Size.{Size, places, IsUsable, usable_places}
use Rattle.core_rule.specs.View.{View, writing, Write, no_item}
use Rattle.core_rule.specs.Views.{IsAlone}
use Rattle.core_rule.specs.Searching.{Rests, Ends, known_of}
use Rattle.core_rule.specs.Reckoning.{AtMost}
use Rattle.core_rule.specs.Deciding.{AreReads, IsUndecided}
use Rattle.core_rule.specs.Holding.{without}
use Rattle.core_rule.specs.Versions.{cells_of}
use Rattle.version_pool.specs.Fills.{after_filling}
use Rattle.version_pool.specs.Takes.{usable_in_turn, TakesFirst, FindsNone, WasMet}
use Rattle.version_search.specs.Links.{IsLinked}
use Rattle.validate_core.specs.OneByOne.{OneByOne}
use Rattle.validate_core.specs.Sets.{SetsView, Turn, MayInstall, IsInside, SameWrites}
use Rattle.validate_core.specs.Validating.{Works, IsInstalled}

-- a transaction is in flight that has linked nothing yet; its stamp is published
pub record IsBegun (z : Size) (s : SetsView) (v : View) : Type 0 where
  pub in_flight : v.flight ≡ writing v.published.write
  pub stamp : IsStamp v.published.write
  pub rests : Rests v.work.search
  pub reads : AreReads s.reads v.work.reads
  pub raised : v.work.raised ≡ []
  pub finished : v.work.finished ≡ []
  pub linked : v.work.linked ≡ []
  pub passed : v.work.passed ≡ []
  pub undecided : IsUndecided v.work
  pub collected : v.work.item ≡ no_item
  pub inside : MayInstall z s

-- reads and writes are the same, but for the places and stamps of what is written
pub record SameSets (before after' : SetsView) : Type 0 where
  pub reads : after'.reads ≡ before.reads
  pub writes : SameWrites before.writes after'.writes

-- the view after versions were linked in places that were taken for them
abbrev pub installed_in : View → View → View
installed_in v w = record v {
  places = w.places;
  work = record v.work { search = w.work.search; linked = w.work.linked };
  counts = w.counts;
  tops = w.tops;
  front = w.front;
  seen = w.seen;
}

-- the place is the inline place of the record, or a usable pool place
abbrev pub IsFor : Size → (rid place : ℕ) → Type 0
IsFor z rid place = (place ≡ rid) ⊎ IsUsable z place

-- a held place was filled with the write of this number and linked as its version at this stamp; the sets have the place beside it
pub record Puts (z : Size) (stamp i place : ℕ) (before after' : SetsView) (v w : View) : Type 0 where
  pub write : Write
  pub turn : Turn i before.writes write
  pub inside : place < places z
  pub value : Option (List ℕ)
  pub value_is : cells_of value ≡ write.cells
  pub linked : IsLinked (record write { place = place; stamp = stamp }) (after_filling v place stamp value) w
  pub writes : after'.writes ≡ slice_set before.writes i (record write { place = place; stamp = stamp })
  pub reads : after'.reads ≡ before.reads

-- a place was taken for the write of this number, the first free one of those for its record, and it was put there
pub record InstallsOne (z : Size) (stamp i : ℕ) (before after' : SetsView) (v w : View) : Type 0 where
  pub place : ℕ
  pub taken : View
  pub puts : Puts z stamp i place before after' taken w
  pub fits : IsFor z puts.write.record_number place
  pub takes : TakesFirst (puts.write.record_number ∷ usable_in_turn z v.places.last_pool) v place taken

-- each of the places for the write of this number was met not free
pub record FindsNoneFor (z : Size) (i : ℕ) (s : SetsView) (v w : View) : Type 0 where
  pub write : Write
  pub turn : Turn i s.writes write
  pub inline_met : WasMet write.record_number v w
  pub usable_met : (p : ℕ) → IsUsable z p → WasMet p v w
  pub none : FindsNone (write.record_number ∷ usable_in_turn z v.places.last_pool) v w

-- the first free one of the places for its record was taken for a version at this stamp, filled with it and linked
pub record LinksOne (z : Size) (stamp : ℕ) (u : Write) (v w : View) : Type 0 where
  pub at : u.stamp ≡ stamp
  pub fits : IsFor z u.record_number u.place
  pub taken : View
  pub takes : TakesFirst (u.record_number ∷ usable_in_turn z v.places.last_pool) v u.place taken
  pub value : Option (List ℕ)
  pub value_is : cells_of value ≡ u.cells
  pub linked : IsLinked u (after_filling taken u.place u.stamp value) w

-- this was done for these versions, between two views
abbrev pub LinksEach : Size → (stamp : ℕ) → List Write → View → View → Type 0
LinksEach z stamp us v w = OneByOne (LinksOne z stamp) us v w

-- all writes are linked at the stamp
pub record Installs (z : Size) (after' : SetsView) (v w : View) : Type 0 where
  pub each : LinksEach z v.published.write after'.writes v w
  pub inside : IsInside z after'
  pub installed : IsInstalled v.published.write after' w

-- the write is linked at the stamp, in a place that was held
pub record InstallsHeld (z : Size) (place : ℕ) (before after' : SetsView) (v w : View) : Type 0 where
  pub only : w ≡ installed_in v w
  pub held : w.places.held ≡ without place v.places.held
  pub puts : Puts z v.published.write 0 place before after' v w
  pub inside : IsInside z after'
  pub installed : IsInstalled v.published.write after' w

-- for one of the writes each place was met not free, after places had been taken for those before it alone; the versions of these
-- are aborted
pub record FindsNoPlace (z : Size) (s : SetsView) (v w : View) : Type 0 where
  pub number : ℕ
  pub write : Write
  pub turn : Turn number s.writes write
  pub installed : View
  pub each : LinksEach z v.published.write (take number s.writes) v installed
  pub searched : View
  pub inline_met : WasMet write.record_number installed searched
  pub usable_met : (p : ℕ) → IsUsable z p → WasMet p installed searched
  pub none : FindsNone (write.record_number ∷ usable_in_turn z installed.places.last_pool) installed searched
  pub works : Works searched w
  pub seen : w.seen ≡ searched.seen
  pub linked : w.work.linked ≡ take number s.writes
  pub undecided : w.work.decided ≡ false
  pub ends : Ends w.work

-- a seat that is alone finds no place for one of so many writes only where there are fewer usable pool places than linked versions
-- outside inline places, by the bounds that it knew before, writes, and places that it holds
abbrev pub IsFullFor : Size → (writes : ℕ) → View → Type 0
IsFullFor z writes v = IsAlone v → (n : ℕ) → AtMost z.records (known_of v.counts) n → usable_places z < n + writes + length v.places.held
