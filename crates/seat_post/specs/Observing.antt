-- What a call of a post adds to what the seat's steps loaded and to the exchanges that they lost.
use Rattle.std.specs.Prelude.{◌≡◌, ℕ, ◌-◌, ◌≤◌, max, List, [], ◌∷◌, ◌++◌, length, slice_index}
use Rattle.word_layout.specs.Name.{Name, published_write, published_read, min_write, min_read}
use Rattle.word_layout.specs.Size.{Size, IsUsable}
use Rattle.core_rule.specs.View.{Load}
use Rattle.core_rule.specs.Paths.{load}
use Rattle.clock_stamps.specs.Minima.{least, loads_from}
use Rattle.version_pool.specs.Takes.{IsLostOn}
use Rattle.seat_post.specs.Seats.{Observed}

-- what was added stands behind what was there
pub record Grows (before after' : Observed) : Type 0 where
  pub loaded : List Load
  pub missed : List Load
  pub loads : after'.loads ≡ before.loads ++ loaded
  pub lost : after'.lost ≡ before.lost ++ missed

-- one load more, and more
abbrev pub with_load : Observed → Load → Observed
with_load o l = record o { loads = o.loads ++ l ∷ [] }

abbrev pub with_loads : Observed → List Load → Observed
with_loads o ls = record o { loads = o.loads ++ ls }

-- one exchange more was lost
abbrev pub with_loss : Observed → Load → Observed
with_loss o l = record o { lost = o.lost ++ l ∷ [] }

-- The words of a family were loaded, of so many seats once each and by rising number, and that of this seat was `own`. Then a minimum was
-- raised to the least of them: it was found so, and came to this.
pub record RaisesTo (family : ℕ → Name) (minimum : Name) (seats seat own raised : ℕ) (before after' : Observed) : Type 0 where
  pub words : List ℕ
  pub each_seat : length words ≡ seats
  pub own_word : slice_index words seat ≡ own
  pub found : ℕ
  pub value : raised ≡ max found (least words)
  pub loads : after' ≡ with_loads before (loads_from family 0 words ++ load minimum found ∷ [])

-- `min_wts` was raised so by the published write words, and then loaded again, when it was this and no less
pub record MeetsMinimum (seats seat own met : ℕ) (before after' : Observed) : Type 0 where
  pub raised : ℕ
  pub between : Observed
  pub raises : RaisesTo published_write min_write seats seat own raised before between
  pub not_less : raised ≤ met
  pub loads : after' ≡ with_load between (load min_write met)

-- It was, and then `min_rts` was raised by the published read words to what was reached. The own one was one less than what was met.
pub record RaisesBoth (seats seat own met reached : ℕ) (before after' : Observed) : Type 0 where
  pub bounded : Observed
  pub minimum : MeetsMinimum seats seat own met before bounded
  pub raises : RaisesTo published_read min_read seats seat (met - 1) reached bounded after'

-- an exchange on this place was among those that were lost: the place was met not free
pub record WasLost (place : ℕ) (before after' : List Load) : Type 0 where
  pub earlier : List Load
  pub exchange : Load
  pub later : List Load
  pub not_free : IsLostOn place exchange
  pub lost : after' ≡ before ++ (earlier ++ exchange ∷ later)

-- the inline place of the record was met not free, and each usable one
pub record MeetsNoPlace (size : Size) (rid : ℕ) (before after' : Observed) : Type 0 where
  pub inline_met : WasLost rid before.lost after'.lost
  pub usable_met : (p : ℕ) → IsUsable size p → WasLost p before.lost after'.lost
