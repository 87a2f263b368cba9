-- What a promotion makes of a post, and what it came upon.
use Rattle.std.specs.Prelude.{◌≡◌, ◌≢◌, ◌⊎◌, ℕ, List, [], ◌∷◌, ◌++◌, Option, None, Some}
use Rattle.plain_data.specs.State.{State}
use Rattle.stamp_base.specs.Stamp.{stamp_of}
use Rattle.core_rule.specs.View.{View, writing, no_work, Load}
use Rattle.core_rule.specs.Searching.{Ends}
use Rattle.core_rule.specs.Paths.{EndsAt}
use Rattle.version_pool.specs.Takes.{FindsNone, IsLostOn}
use Rattle.version_search.specs.Finding.{Reads}
use Rattle.validate_core.specs.Validating.{worked}
use Rattle.validate_core.specs.declared.conflict.Conflict.{Conflict}
use Rattle.validate_core.specs.declared.conflict.Conflict.TheVariants.{Pending}
use Rattle.engine_answers.specs.declared.promotion.Promotion.{Promotion}
use Rattle.engine_answers.specs.declared.promotion.Promotion.TheVariants.{Promoted, Inline, Absent, Occupied}
use Rattle.engine_answers.specs.declared.promotion.PromoteFault.{PromoteFault}
use Rattle.engine_answers.specs.declared.promotion.PromoteFault.TheVariants as fault
use Rattle.seat_post.specs.Reading.{FindsValue, StopsAt}
use Rattle.seat_post.specs.Seats.{Bounds, Observed, observed_of}
use Rattle.seat_post.specs.Conflicts.{ShowsOf, IsLoaded}
use Rattle.seat_post.specs.Ends.{Stood}
use Rattle.seat_post.specs.Post.{PostView, drawn_at, observing, placing}
use Rattle.seat_post.specs.Rewriting.{rewriting, linked_in, LinksOneThen, ValidatesOne, HaltsOne, Rewrites, IsStopped, others_in, IsLoadedIn}

-- ---- what was come upon

-- a search ended at the visible version in this place, which is present, and nothing else was loaded
pub record MeetsAt (stamp rid place : ℕ) (before after' : List Load) : Type 0 where
  pub wts : ℕ
  pub path : EndsAt stamp rid place wts 3 before after'

-- one exchange alone was lost, on this place: it was met not free
pub record LosesOnly (place : ℕ) (before after' : List Load) : Type 0 where
  pub exchange : Load
  pub not_free : IsLostOn place exchange
  pub lost : after' ≡ before ++ exchange ∷ []

-- A search found these words elsewhere than in the inline place, the version there was linked, then loads were made so, and nothing else
-- was loaded or lost.
pub record WritesThen (stamp rid : ℕ) (words : List ℕ) (such : (wts : ℕ) → (before after' : List Load) → Type 0) (before after' : Observed) : Type 0 where
  pub loaded : Observed
  pub finds : FindsValue stamp rid before loaded (Some words)
  pub elsewhere : finds.place ≢ rid
  pub links : LinksOneThen stamp rid (such finds.wts) loaded after'

-- the words of the entry were found so, and the loads behind the linking validate it
pub record WritesAgain (stamp rid : ℕ) (before after' : PostView) : Type 0 where
  pub words : List ℕ
  pub entry : after'.log ≡ before.log ++ rewriting stamp rid (Some words) ∷ []
  pub validates : WritesThen stamp rid words (ValidatesOne stamp before.seat rid) before.observed after'.observed

-- What each answer of a promotion was come upon by, where nothing else was loaded or lost: the version was found elsewhere, and written
-- again; in the inline place; deleted; elsewhere, and then one exchange was lost, on the inline place.
abbrev pub CameUpon : (stamp rid : ℕ) (before after' : PostView) → Promotion → Type 0
CameUpon stamp rid before after' (Promoted at) = WritesAgain stamp rid before after'
CameUpon stamp rid before after' Inline = MeetsAt stamp rid rid before.observed.loads after'.observed.loads × (after'.observed.lost ≡ before.observed.lost)
CameUpon stamp rid before after' Absent = FindsValue stamp rid before.observed after'.observed None
CameUpon stamp rid before after' Occupied =
    (place : ℕ) × (place ≢ rid) × MeetsAt stamp rid place before.observed.loads after'.observed.loads × LosesOnly rid before.observed.lost after'.observed.lost

-- ---- the same of a post

abbrev pub rewritten_at : PostView → (clock rid place : ℕ) → Option (List ℕ) → PostView
rewritten_at p clock rid place value = record (drawn_at p clock) {
  placed = record { rid = rid; place = place } ∷ [];
  bounds = linked_in p.shared.size rid place (stamp_of clock p.seat) p.bounds;
  log = p.log ++ rewriting (stamp_of clock p.seat) rid value ∷ [];
}

abbrev pub stopped_at : PostView → (clock : ℕ) → Bounds → PostView
stopped_at p clock bounds = record (drawn_at p clock) { bounds = bounds }

pub record IsRewritten (kept : State → Type 0) (rid place clock : ℕ) (before after' : PostView) (stamp : ℕ) : Type 0 where
  pub at : stamp ≡ stamp_of clock before.seat
  pub words : List ℕ
  pub after : after' ≡ observing (rewritten_at before clock rid place (Some words)) after'.observed
  pub stood : Stood kept before.shared.size.records before.log (rewriting stamp rid (Some words))

-- the search stopped at this pending version, and no version was linked
pub record LinksNone (stamp rid : ℕ) (before after' : PostView) (conflict : Conflict) : Type 0 where
  pub bounds : after'.bounds ≡ before.bounds
  pub placed : after'.placed ≡ []
  pub wts : ℕ
  pub pending : conflict ≡ Pending rid wts
  pub stops : StopsAt stamp rid wts before.observed after'.observed

-- one was, in the inline place of the record, and the validation stopped
pub record LinksInline (stamp rid : ℕ) (before after' : PostView) (conflict : Conflict) : Type 0 where
  pub bounds : after'.bounds ≡ linked_in before.shared.size rid rid stamp before.bounds
  pub placed : after'.placed ≡ record { rid = rid; place = rid } ∷ []
  pub words : List ℕ
  pub halts : WritesThen stamp rid words (HaltsOne stamp rid conflict) before.observed after'.observed

pub record IsStoppedPost (rid clock : ℕ) (before after' : PostView) (conflict : Conflict) : Type 0 where
  pub after : after' ≡ observing (placing (stopped_at before clock after'.bounds) after'.placed) after'.observed
  pub linked : LinksNone (stamp_of clock before.seat) rid before after' conflict ⊎ LinksInline (stamp_of clock before.seat) rid before after' conflict
  pub shown : ShowsOf rid before.shared.size before.seat before.others (stamp_of clock before.seat) conflict
  pub loaded : IsLoaded (stamp_of clock before.seat) conflict before.observed after'.observed

abbrev pub PromotesPost : (kept : State → Type 0) (rid clock : ℕ) (before after' : PostView) → Promotion → Type 0
PromotesPost kept rid clock before after' (Promoted stamp) = IsRewritten kept rid rid clock before after' stamp
PromotesPost kept rid clock before after' Inline = after' ≡ observing (drawn_at before clock) after'.observed
PromotesPost kept rid clock before after' Absent = after' ≡ observing (drawn_at before clock) after'.observed
PromotesPost kept rid clock before after' Occupied = after' ≡ observing (drawn_at before clock) after'.observed

abbrev pub FailsPost : (rid clock : ℕ) (before after' : PostView) → PromoteFault → Type 0
FailsPost rid clock before after' fault.ClockOut = after' ≡ before
FailsPost rid clock before after' (fault.Conflict conflict) = IsStoppedPost rid clock before after' conflict

-- ---- the steps at the hand

-- the stamp was drawn and is in flight, and nothing else was done
pub record IsDrawn (stamp : ℕ) (v : View) : Type 0 where
  pub in_flight : v.flight ≡ writing stamp
  pub published : v.published.write ≡ stamp
  pub work : v.work ≡ no_work
  pub holds_none : v.places.held ≡ []

-- the visible version was found in the inline place, and is present; it was found to be deleted
pub record FindsInline (stamp rid : ℕ) (v w : View) : Type 0 where
  pub wts : ℕ
  pub found : Reads stamp rid rid wts 3 v w

pub record FindsAbsent (stamp rid : ℕ) (v w : View) : Type 0 where
  pub place : ℕ
  pub wts : ℕ
  pub found : Reads stamp rid place wts 4 v w

-- it was found elsewhere, and then the exchange on the inline place found that not free
pub record FindsOccupied (stamp rid : ℕ) (v w : View) : Type 0 where
  pub between : View
  pub place : ℕ
  pub elsewhere : place ≢ rid
  pub wts : ℕ
  pub found : Reads stamp rid place wts 3 v between
  pub lost : FindsNone (rid ∷ []) between w

-- or took it, and the value was loaded: the hand holds that place, and places, loads and what is in flight differ alone
pub record LoadsElsewhere (stamp rid : ℕ) (words : List ℕ) (v w : View) : Type 0 where
  pub only : w ≡ record v { places = w.places; work = w.work; seen = w.seen }
  pub held : w.places.held ≡ rid ∷ v.places.held
  pub finds : FindsValue stamp rid (observed_of v) (observed_of w) (Some words)
  pub elsewhere : finds.place ≢ rid

-- and was written there again
pub record WritesInline (kept : State → Type 0) (records stamp rid : ℕ) (v w : View) : Type 0 where
  pub words : List ℕ
  pub loaded : View
  pub loads : LoadsElsewhere stamp rid words v loaded
  pub rewrites : Rewrites kept records rid rid stamp (Some words) loaded w
  pub validates : LinksOneThen stamp rid (ValidatesOne stamp v.number rid loads.finds.wts) (observed_of loaded) (observed_of w)

-- exactly what was come upon at each answer
abbrev pub PromotesAt : (kept : State → Type 0) (records stamp rid : ℕ) (v w : View) → Promotion → Type 0
PromotesAt kept records stamp rid v w (Promoted at) = (at ≡ stamp) × WritesInline kept records stamp rid v w
PromotesAt kept records stamp rid v w Inline = FindsInline stamp rid v w
PromotesAt kept records stamp rid v w Absent = FindsAbsent stamp rid v w
PromotesAt kept records stamp rid v w Occupied = FindsOccupied stamp rid v w

-- a pending version was met
pub record MeetsPending (stamp rid : ℕ) (v w : View) (conflict : Conflict) : Type 0 where
  pub only : w ≡ worked v w.work w.seen
  pub none_linked : w.work.linked ≡ []
  pub ends : Ends w.work
  pub wts : ℕ
  pub pending : conflict ≡ Pending rid wts
  pub stops : StopsAt stamp rid wts (observed_of v) (observed_of w)
  pub shown : ShowsOf rid v.size v.number (others_in v) stamp conflict
  pub loaded : IsLoadedIn stamp conflict v w

-- a conflict stopped the writing
pub record IsStoppedWriting (stamp rid : ℕ) (v w : View) (conflict : Conflict) : Type 0 where
  pub words : List ℕ
  pub loaded : View
  pub loads : LoadsElsewhere stamp rid words v loaded
  pub stops : IsStopped rid rid stamp loaded w conflict
  pub halts : LinksOneThen stamp rid (HaltsOne stamp rid conflict loads.finds.wts) (observed_of loaded) (observed_of w)

abbrev pub FailsAt : (stamp rid : ℕ) (v w : View) → Conflict → Type 0
FailsAt stamp rid v w conflict = MeetsPending stamp rid v w conflict ⊎ IsStoppedWriting stamp rid v w conflict
