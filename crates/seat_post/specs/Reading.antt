-- What a read answers, and why it has no answer.
use Rattle.std.specs.Prelude.{◌≡◌, ℕ, ⊤, List, [], ◌++◌, Option, None, Some}
use Rattle.word_layout.specs.Name.{min_read}
use Rattle.core_rule.specs.View.{Load}
use Rattle.core_rule.specs.Paths.{EndsAt, load}
use Rattle.core_rule.specs.Versions.{state_of}
use Rattle.version_search.specs.Loading.{cells_loaded}
use Rattle.seat_post.specs.Seats.{Observed, IsAloneAt}
use Rattle.seat_post.specs.Leaves.{LeavesValue}
use Rattle.seat_post.specs.Observing.{with_load}
use Rattle.seat_post.specs.Post.{PostView, noted, observing}
use Rattle.seat_post.specs.declared.reading.ReadFault.{ReadFault}
use Rattle.seat_post.specs.declared.reading.ReadFault.TheVariants.{Pending, NoMemory}

abbrev pub IfPending : ReadFault → (ℕ → Type 0) → Type 0
IfPending (Pending wts) P = P wts
IfPending NoMemory P = ⊤

-- the loads of a value from a place: those of its cells, and of a deletion none
abbrev pub value_loaded : Option (List ℕ) → (place : ℕ) → List Load
value_loaded None place = []
value_loaded (Some words) place = cells_loaded place 0 words

-- The loads of one search, and no others, led to the version of the record that is visible below the stamp, in this place. It was loaded
-- as committed, and then its value; or, where there is none, as deleted.
pub record LeadsTo (stamp rid place wts : ℕ) (value : Option (List ℕ)) (before after' : List Load) : Type 0 where
  pub there : List Load
  pub path : EndsAt stamp rid place wts (state_of value) before there
  pub loads : after' ≡ there ++ value_loaded value place

-- A search between the two found this value. It loaded nothing else, and lost no exchange.
pub record FindsValue (stamp rid : ℕ) (before after' : Observed) (value : Option (List ℕ)) : Type 0 where
  pub place : ℕ
  pub wts : ℕ
  pub leads : LeadsTo stamp rid place wts value before.loads after'.loads
  pub lost : after'.lost ≡ before.lost

-- A search of the record stopped at a pending version. It loaded nothing else, and lost no exchange.
pub record StopsAt (stamp rid wts : ℕ) (before after' : Observed) : Type 0 where
  pub place : ℕ
  pub path : EndsAt stamp rid place wts 2 before.loads after'.loads
  pub lost : after'.lost ≡ before.lost

-- that of a snapshot did, and then the minimum of the read stamps was loaded
pub record FindsInSnapshot (stamp rid : ℕ) (before after' : Observed) (value : Option (List ℕ)) : Type 0 where
  pub between : Observed
  pub finds : FindsValue stamp rid before between value
  pub minimum : ℕ
  pub last : after' ≡ with_load between (load min_read minimum)

-- a record is read as this value, and noted so with the version that the search found
pub record ReadsAs (rid : ℕ) (value : Option (List ℕ)) (before after' : PostView) : Type 0 where
  pub found : FindsValue before.stamp rid before.observed after'.observed value
  pub after : after' ≡ observing (noted before rid found.wts value) after'.observed

-- A record is read, and one value is noted: that of the version that the search found, which is what the log of a seat that is alone leaves.
pub record ReadsOne (rid : ℕ) (before after' : PostView) : Type 0 where
  pub value : Option (List ℕ)
  pub reads : ReadsAs rid value before after'
  pub open reads use *
  pub left : IsAloneAt before.shared.size before.seat before.others → LeavesValue before.log rid before.stamp value
