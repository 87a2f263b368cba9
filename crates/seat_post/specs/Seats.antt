-- Which seats of its engine a seat takes as open, what it knows of the records' lists of versions while it is the only one, what its
-- steps came upon, and what they cut off, freed and linked.
use Rattle.std.specs.Prelude.{◌≡◌, ℕ, zero, suc, Bool, true, ◌==◌, ◌&&◌, ◌||◌, List, [], map}
use Rattle.std.specs.List.{list_any}
use Rattle.core_rule.specs.View.{View, Splitting, Counted, Top, Load, Cut, Write}
use Rattle.core_rule.specs.Offers.{made_within}
use Rattle.word_layout.specs.Size.{Size}

-- which seats were made, and which of them this one has taken in
pub record Others : Type 0 where
  pub splitting : Splitting
  pub taken_in : List ℕ

-- each seat below this number is this one or was taken in
abbrev pub all_taken : (made seat : ℕ) → List ℕ → Bool
all_taken zero seat taken_in = true
all_taken (suc s) seat taken_in = (s == seat || list_any (λ other. s == other) taken_in) && all_taken s seat taken_in

-- no other seat is open
abbrev pub is_alone_at : Size → (seat : ℕ) → Others → Bool
is_alone_at size seat others = all_taken (made_within size.seats others.splitting) seat others.taken_in

abbrev pub IsAloneAt : Size → (seat : ℕ) → Others → Type 0
IsAloneAt size seat others = is_alone_at size seat others ≡ true

-- bounds on how many versions of each record are linked, and on those outside its inline place; and numbers that no version of a
-- record is stamped above
pub record Bounds : Type 0 where
  pub counts : Counted
  pub tops : List Top

-- what its steps loaded, and the exchanges that they lost, in turn
pub record Observed : Type 0 where
  pub loads : List Load
  pub lost : List Load

abbrev pub nothing_observed : Observed
nothing_observed = record { loads = []; lost = [] }

abbrev pub observed_of : View → Observed
observed_of v = record { loads = v.seen.loads; lost = v.seen.lost }

-- the versions at which its steps cut a list, with the links to what they cut off, and the places that they freed, in turn
pub record Removed : Type 0 where
  pub cuts : List Cut
  pub freed : List ℕ

abbrev pub nothing_removed : Removed
nothing_removed = record { cuts = []; freed = [] }

abbrev pub removed_of : View → Removed
removed_of v = record { cuts = v.gone.cuts; freed = v.gone.freed }

-- a version of a record was linked in a place
pub record Placed : Type 0 where
  pub rid : ℕ
  pub place : ℕ

abbrev pub at_of : Write → Placed
at_of u = record { rid = u.record_number; place = u.place }

-- the versions that the transaction in flight has linked, or the last one
abbrev pub placed_of : List Write → List Placed
placed_of us = map at_of us
