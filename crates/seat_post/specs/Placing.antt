-- Which places the installed writes of a transaction took, and which of them found none.
use Rattle.std.specs.Prelude.{◌≡◌, ℕ, suc, ◌==◌, Bool, List, [], ◌∷◌, ◌++◌, Option, map, take, count_by}
use Rattle.word_layout.specs.Size.{Size}
use Rattle.core_rule.specs.View.{Load}
use Rattle.core_rule.specs.Views.{Among}
use Rattle.version_pool.specs.Takes.{usable_from, AreLostOn}
use Rattle.version_search.specs.Links.{DescendsTo}
use Rattle.validate_core.specs.OneByOne.{OneByOne}
use Rattle.validate_core.specs.Installing.{IsFor}
use Rattle.seat_post.specs.Lists.{AreLinked}
use Rattle.seat_post.specs.Observing.{MeetsNoPlace}
use Rattle.seat_post.specs.Post.{PostView}
use Rattle.seat_post.specs.Seats.{Observed, Placed}

-- in the inline place of its record; and how many are
abbrev pub is_inline : Placed → Bool
is_inline at = at.place == at.rid

abbrev pub count_inline : List Placed → ℕ
count_inline placed = count_by is_inline placed

-- each write has a version linked, in their order: in the inline place of its record or in a usable pool place
pub record HavePlaces (size : Size) (writes : List (ℕ × Option (List ℕ))) (placed : List Placed) : Type 0 where
  pub of_each : map (λ (at : Placed). at.rid) placed ≡ map (λ (write : ℕ × Option (List ℕ)). write.0) writes
  pub each : (at : Placed) → Among at placed → IsFor size at.rid at.place

-- so many of the writes took inline places, and the others usable pool places
pub record CountsPlaces (size : Size) (writes : List (ℕ × Option (List ℕ))) (placed : List Placed) (inlined : ℕ) : Type 0 where
  pub have : HavePlaces size writes placed
  pub count : inlined ≡ count_inline placed

-- One of these versions was linked: its places were tried in turn, the inline one of its record first and the usable ones from one on,
-- and each before the one that was taken was met not free; then it was linked where loads and lost exchanges led, and nothing else was
-- loaded or lost.
pub record Puts (size : Size) (stamp : ℕ) (at : Placed) (before after' : Observed) : Type 0 where
  pub first : ℕ
  pub tried : List ℕ
  pub later : List ℕ
  pub turn : at.rid ∷ usable_from size first ≡ tried ++ at.place ∷ later
  pub met : List Load
  pub not_free : AreLostOn tried met
  pub descends : DescendsTo stamp at.rid before.loads (before.lost ++ met) after'.loads after'.lost

-- the inline place of the record was met not free, and each usable one from one on, and nothing else was loaded or lost
pub record TriesAll (size : Size) (rid : ℕ) (before after' : Observed) : Type 0 where
  pub first : ℕ
  pub met : List Load
  pub not_free : AreLostOn (rid ∷ usable_from size first) met
  pub after : after' ≡ record before { lost = before.lost ++ met }

-- The first few of its writes have versions linked, each in such a place, and for the next one there was none: the inline place of its
-- record was met not free, and each usable one. Nothing else was loaded or lost.
pub record WantsPlaceAt (before after' : PostView) : Type 0 where
  pub count : ℕ
  pub write : ℕ × Option (List ℕ)
  pub next : take (suc count) before.writes ≡ take count before.writes ++ write ∷ []
  pub linked : AreLinked (take count before.writes) before.stamp before.bounds after'.bounds
  pub have : HavePlaces before.shared.size (take count before.writes) after'.placed
  pub between : Observed
  pub puts : OneByOne (Puts before.shared.size before.stamp) after'.placed before.observed between
  pub none : TriesAll before.shared.size write.0 between after'.observed
  pub no_place : MeetsNoPlace before.shared.size write.0 before.observed after'.observed
