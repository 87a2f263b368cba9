-- What a search for a visible version has come to, and what it found.
use Rattle.std.specs.Prelude.{◌≡◌, ◌≢◌, ℕ, ◌<◌, ◌≤◌, Bool, if◌then◌else◌, List, [], ◌∷◌, ◌++◌}
use Rattle.core_rule.specs.View.{View, resting, Aim, Stand, Look, blank, shown, Search, still, stands, Work, Read, Load, Seen}
use Rattle.core_rule.specs.Views.{IsAlone}
use Rattle.core_rule.specs.Searching.{stand_in, IsPassed, IsFinal, stamp_seen, ends, reads_with, finished_with}
use Rattle.core_rule.specs.Left.{IsLeft}
use Rattle.core_rule.specs.Status.{status_word}
use Rattle.core_rule.specs.declared.status.Status.TheVariants.{Pending as PendingStatus, Committed, Deleted}
use Rattle.core_rule.specs.Learnt.{IsOfAnother, IsOvertaken}
use Rattle.core_rule.specs.Paths.{glanced, Way, EndsAt}
use Rattle.version_search.specs.declared.finding.Found.{Found}
use Rattle.version_search.specs.declared.finding.Found.TheVariants.{Version, Pending}

abbrev pub IfVersion : Found → ((place wts : ℕ) → (absent : Bool) → Type 0) → Type 0
IfVersion (Version place wts absent) P = P place wts absent
IfVersion (Pending wts) P = Unit {0}

abbrev pub IfPending : Found → ((wts : ℕ) → Type 0) → Type 0
IfPending (Version place wts absent) P = Unit {0}
IfPending (Pending wts) P = P wts

-- the status of a version that is committed, or deleted
abbrev pub status_of : Bool → ℕ
status_of absent = status_word (if absent then Deleted else Committed)

-- the view after loads that change the search alone
abbrev pub with_work : View → Search → Seen → View
with_work v search seen = record v { work = record v.work { search = search }; seen = seen }

abbrev pub stand_for : Aim → (rid place under : ℕ) → Stand
stand_for aim rid place under = record { aim = aim; record_number = rid; place = place; under = under }

-- the search stands at this place, where nothing was loaded yet
pub record StandsFor (aim : Aim) (rid place : ℕ) (v : View) : Type 0 where
  pub under : ℕ
  pub search : v.work.search ≡ stands (stand_for aim rid place under) blank

-- what was loaded there is passed
pub record Passes (place limit : ℕ) (v w : View) : Type 0 where
  pub look : Look
  pub loads : w.seen.loads ≡ v.seen.loads ++ glanced place look
  pub passed : IsPassed limit look
  pub falls : stamp_seen look < (stand_in v.work.search).under
  pub lost : w.seen.lost ≡ v.seen.lost
  pub seen : Seen
  pub view : w ≡ with_work v (stands (stand_in v.work.search) look) seen

-- a pending version is another seat's, which is open, and a snapshot meets none
pub record IsMet (v : View) (wts : ℕ) : Type 0 where
  pub another : IsOfAnother v wts
  pub in_flight : v.flight ≢ resting

-- what is in flight after a search ended at a version with this write stamp and status
abbrev pub reached : Stand → (w s : ℕ) → Work → Work
reached p w s work = record work {
  search = (if ends p.aim w s then still else stands p (shown w s));
  reads = (if ends p.aim w s then reads_with p.aim p w s work.reads else work.reads);
  finished = (if ends p.aim w s then finished_with p.aim work.finished else work.finished);
}

-- a search ended at the version in a place
pub record Reaches (aim : Aim) (limit rid place w s : ℕ) (v x : View) : Type 0 where
  pub under : ℕ
  pub early : w < limit
  pub state : (status_word PendingStatus ≤ s) × (s ≤ status_word Deleted)
  pub met : s ≡ status_word PendingStatus → IsMet x w
  pub overtaken : IsOvertaken x aim w s
  -- a seat that is alone finds what its log leaves
  pub left : IsAlone x → IsFinal s → IsLeft x.log rid limit w s
  -- it lost no exchange
  pub lost : x.seen.lost ≡ v.seen.lost
  pub view : x ≡ record v { work = reached (stand_for aim rid place under) w s v.work; seen = x.seen }

-- it was loaded there
pub record Sees (aim : Aim) (limit rid place w s : ℕ) (v x : View) : Type 0 where
  pub reaches : Reaches aim limit rid place w s v x
  pub loads : x.seen.loads ≡ v.seen.loads ++ glanced place (shown w s)

-- and loads led there from this place
pub record Arrives (aim : Aim) (limit rid from place w s : ℕ) (v x : View) : Type 0 where
  pub reaches : Reaches aim limit rid place w s v x
  pub ways : List Load
  pub leads : (way : List Load) → Way limit rid way from → Way limit rid (way ++ ways) place
  pub loads : x.seen.loads ≡ v.seen.loads ++ (ways ++ glanced place (shown w s))

-- a search from the head of the list ended there, by its path
pub record Finds (aim : Aim) (limit rid place w s : ℕ) (v x : View) : Type 0 where
  pub reaches : Reaches aim limit rid place w s v x
  pub path : EndsAt limit rid place w s v.seen.loads x.seen.loads

-- the version that a first read found
abbrev pub new_read : (rid place w s : ℕ) → Read
new_read rid place w s = record { record_number = rid; place = place; version = w; status = s; cells = [] }

-- a search for a read found it
pub record Reads (limit rid place w s : ℕ) (v x : View) : Type 0 where
  pub path : EndsAt limit rid place w s v.seen.loads x.seen.loads
  -- a seat that is alone finds what its log leaves
  pub left : IsAlone x → IsLeft x.log rid limit w s
  pub lost : x.seen.lost ≡ v.seen.lost
  pub view : x ≡ record v {
    work = record v.work { search = still; reads = new_read rid place w s ∷ v.work.reads };
    seen = x.seen;
  }
