-- What settling does for a record, and what shows it: each load, each exchange that was lost, each cut and each entry.
use Rattle.std.specs.Prelude.{◌≡◌, ◌≢◌, ◌⊎◌, ℕ, Bool, true, false, ◌+◌, ◌*◌, ◌≤◌, List, [], ◌∷◌, ◌++◌, Option, length, sum_by}
use Rattle.plain_data.specs.declared.entry.Entry.{Entry}
use Rattle.stamp_base.specs.Limits.{greatest_clock}
use Rattle.stamp_base.specs.Stamp.{stamp_of}
use Rattle.word_layout.specs.Size.{Size}
use Rattle.core_rule.specs.View.{Load}
use Rattle.core_rule.specs.Paths.{EndsAt}
use Rattle.version_pool.specs.Takes.{usable_from, AreLostOn}
use Rattle.version_search.specs.declared.fronts.First.{First}
use Rattle.version_search.specs.Looking.{Looked}
use Rattle.rapid_gc.specs.Chains.{counted}
use Rattle.seat_post.specs.declared.settled.Settled.{Settled}
use Rattle.seat_post.specs.Collecting.{Trail, seeing, IsLastNow, Frees}
use Rattle.seat_post.specs.Logs.{IsAbove}
use Rattle.seat_post.specs.Observing.{MeetsMinimum, RaisesBoth}
use Rattle.seat_post.specs.Placing.{TriesAll}
use Rattle.seat_post.specs.Reading.{FindsValue}
use Rattle.seat_post.specs.Rewriting.{rewriting, LinksOneThen, ValidatesOne}
use Rattle.seat_post.specs.Seats.{Observed}

-- ---- whether the first version of a list is the visible one

-- a look at the first version of the record's list showed this, and nothing else was loaded or lost
pub record LooksFirst (rid : ℕ) (first : First) (before after' : Observed) : Type 0 where
  pub look : Looked rid first.place first.wts first.decided first.single before.loads after'.loads
  pub lost : after'.lost ≡ before.lost

-- `min_wts` was raised by the published write words, the own one among them above each commit entry of the log, and was met above each.
-- Then a search below it ended at this version of the record. Nothing else was loaded or lost.
pub record FindsBelow (seats seat rid found : ℕ) (log : List Entry) (before after' : Observed) : Type 0 where
  pub own : ℕ
  pub announced : IsAbove log own
  pub limit : ℕ
  pub above : IsAbove log limit
  pub raised : Observed
  pub minimum : MeetsMinimum seats seat own limit before raised
  pub place : ℕ
  pub status : ℕ
  pub path : EndsAt limit rid place found status raised.loads after'.loads
  pub lost : after'.lost ≡ raised.lost

-- the first version is committed or deleted, it is not version 0, and such a search ended there
pub record IsVisible (seats seat rid : ℕ) (first : First) (log : List Entry) (before after' : Observed) : Type 0 where
  pub decided : first.decided ≡ true
  pub written : first.wts ≢ 0
  pub finds : FindsBelow seats seat rid first.wts log before after'

-- it is committed or deleted, and the search ended at another one, or this is version 0
pub record FindsOther (seats seat rid : ℕ) (first : First) (log : List Entry) (before after' : Observed) : Type 0 where
  pub decided : first.decided ≡ true
  pub found : ℕ
  pub finds : FindsBelow seats seat rid found log before after'
  pub other : (found ≢ first.wts) ⊎ (first.wts ≡ 0)

-- the first version is neither committed nor deleted, and nothing was loaded; or another one was found
abbrev pub IsHidden : (seats seat rid : ℕ) → First → (log : List Entry) → (before after' : Observed) → Type 0
IsHidden seats seat rid first log before after' = ((first.decided ≡ false) × (after' ≡ before)) ⊎ FindsOther seats seat rid first log before after'

-- a writing again is due: the look at the first version showed that it is not the only one, and then it was found to be hidden
pub record IsDue (seats seat rid : ℕ) (log : List Entry) (before after' : Observed) : Type 0 where
  pub first : First
  pub looked : Observed
  pub looks : LooksFirst rid first before looked
  pub more : first.single ≡ false
  pub hidden : IsHidden seats seat rid first log looked after'

-- ---- a value written again, and a list cut

-- the inline place of the record was tried, and the usable ones from one on, up to the first that was met free
pub record TriesSome (size : Size) (rid : ℕ) (before after' : Observed) : Type 0 where
  pub first : ℕ
  pub tried : List ℕ
  pub place : ℕ
  pub later : List ℕ
  pub turn : rid ∷ usable_from size first ≡ tried ++ place ∷ later
  pub met : List Load
  pub not_free : AreLostOn tried met
  pub after : after' ≡ record before { lost = before.lost ++ met }

-- such a place was taken; or the reserved one, after each of them was met not free
abbrev pub TakesFor : (size : Size) (rid : ℕ) (reserved : Bool) (before after' : Observed) → Type 0
TakesFor size rid false before after' = TriesSome size rid before after'
TakesFor size rid true before after' = TriesAll size rid before after'

-- The record's visible value was written again at this stamp: a search found it, a place was taken for it, it was linked there where loads
-- and lost exchanges led, and the loads behind that validate it. Nothing else was loaded, lost, cut off or freed.
pub record RewritesOne (size : Size) (seat rid stamp : ℕ) (reserved : Bool) (before after' : Trail) : Type 0 where
  pub value : Option (List ℕ)
  pub found : Observed
  pub finds : FindsValue stamp rid before.observed found value
  pub taken : Observed
  pub takes : TakesFor size rid reserved found taken
  pub links : LinksOneThen stamp rid (ValidatesOne stamp seat rid finds.wts) taken after'.observed
  pub entry : after'.log ≡ before.log ++ rewriting stamp rid value ∷ []
  pub gone : after'.gone ≡ before.gone

-- A collection of the record's version at this stamp alone: both minima were raised, the own write word loaded above each commit entry of
-- the log, and then what is older than that version was cut off. So many places were freed. Nothing else was loaded or lost.
pub record CollectsOne (seats seat rid stamp places : ℕ) (before after' : Trail) : Type 0 where
  pub own : ℕ
  pub announced : IsAbove before.log own
  pub met : ℕ
  pub reached : ℕ
  pub prepared : Observed
  pub raises : RaisesBoth seats seat own met reached before.observed prepared
  pub ready : stamp ≤ reached
  pub cuts : IsLastNow (record { rid = rid; stamp = stamp }) (record before { observed = prepared }) after'
  pub frees : Frees places before.gone after'.gone

-- ---- a record

-- its first version is the only one, and nothing was done
pub record IsOnlyOne (rid : ℕ) (done : Settled) (before after' : Trail) : Type 0 where
  pub first : First
  pub looks : LooksFirst rid first before.observed after'.observed
  pub only : first.single ≡ true
  pub none : done ≡ record { rewritten = 0; cut = 0; places = 0 }
  pub rest : after' ≡ seeing before after'.observed

-- it is not, and is the visible one: the list was cut below it
pub record CutsFirst (size : Size) (seat rid : ℕ) (done : Settled) (before after' : Trail) : Type 0 where
  pub first : First
  pub looked : Observed
  pub looks : LooksFirst rid first before.observed looked
  pub more : first.single ≡ false
  pub searched : Observed
  pub visible : IsVisible size.seats seat rid first before.log looked searched
  pub cuts : CollectsOne size.seats seat rid first.wts done.places (seeing before searched) after'
  pub cut : done ≡ record { rewritten = 0; cut = 1; places = done.places }

-- the visible value was written again, in the reserved place or another one, and the list was cut below it
pub record RenewsAt (size : Size) (seat rid : ℕ) (reserved : Bool) (places : ℕ) (before after' : Trail) : Type 0 where
  pub stamp : ℕ
  pub written : Trail
  pub writes : RewritesOne size seat rid stamp reserved before written
  pub cuts : CollectsOne size.seats seat rid stamp places written after'

-- a writing again was due, and was done so in another place than the reserved one
pub record RenewsOnce (size : Size) (seat rid : ℕ) (done : Settled) (before after' : Trail) : Type 0 where
  pub searched : Observed
  pub due : IsDue size.seats seat rid before.log before.observed searched
  pub renews : RenewsAt size seat rid false done.places (seeing before searched) after'
  pub rewritten : done ≡ record { rewritten = 1; cut = 1; places = done.places }

-- it was due, and was done in the reserved place, since each other one was met not free; then it was done once more, in another place
pub record RenewsTwice (size : Size) (seat rid : ℕ) (done : Settled) (before after' : Trail) : Type 0 where
  pub searched : Observed
  pub due : IsDue size.seats seat rid before.log before.observed searched
  pub between : Trail
  pub places : ℕ
  pub renews : RenewsAt size seat rid true places (seeing before searched) between
  pub more : ℕ
  pub once_more : RenewsAt size seat rid false more between after'
  pub rewritten : done ≡ record { rewritten = 2; cut = 2; places = counted (places + more) }

-- what was done for a record, and nothing else was loaded, lost, cut off or freed, nor entered into the log
pub data SettlesOne (size : Size) (seat rid : ℕ) (done : Settled) (before after' : Trail) : Type 0 where
  is_only : IsOnlyOne rid done before after' → SettlesOne size seat rid done before after'
  cuts_first : CutsFirst size seat rid done before after' → SettlesOne size seat rid done before after'
  renews_once : RenewsOnce size seat rid done before after' → SettlesOne size seat rid done before after'
  renews_twice : RenewsTwice size seat rid done before after' → SettlesOne size seat rid done before after'

-- this was done for the records from the first one on, for each before the next one
pub data SettlesEach (size : Size) (seat : ℕ) : List Settled → Trail → Trail → Type 0 where
  none_yet : (t : Trail) → SettlesEach size seat [] t t
  one_more : (ds : List Settled) (d : Settled) (t u w : Trail) → SettlesEach size seat ds t u → SettlesOne size seat (length ds) d u w
      → SettlesEach size seat (ds ++ d ∷ []) t w

-- for so many records, each written again twice at most, and in all this
pub record SettlesFirst (size : Size) (seat count : ℕ) (all : Settled) (before after' : Trail) : Type 0 where
  pub done : List Settled
  pub many : length done ≡ count
  pub each : SettlesEach size seat done before after'
  pub most : all.rewritten ≤ 2 * count
  pub rewritten : all.rewritten ≡ sum_by (λ (d : Settled). d.rewritten) done
  pub cut : all.cut ≡ sum_by (λ (d : Settled). d.cut) done
  pub places : Frees all.places before.gone after'.gone

-- ---- where the clock comes to its end

-- the value to be written again was found, and each place for it was met not free, so that the reserved one would have had to serve
pub record WantsReserved (size : Size) (rid stamp : ℕ) (before after' : Observed) : Type 0 where
  pub value : Option (List ℕ)
  pub found : Observed
  pub finds : FindsValue stamp rid before found value
  pub none : TriesAll size rid found after'

-- The clock stands at its end. It stood there, and nothing was loaded or lost; or the stamp of its last turn was drawn, and the reserved
-- place would have had to serve, from which the value is written once more.
pub record RunsOut (size : Size) (seat rid clock clock' : ℕ) (before after' : Observed) : Type 0 where
  pub at_end : clock' ≡ greatest_clock
  pub told : ((clock' ≡ clock) × (after' ≡ before)) ⊎ ((clock' ≡ clock + 1) × WantsReserved size rid (stamp_of clock' seat) before after')
