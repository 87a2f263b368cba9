-- The search for the version to collect below; and what was cut off, followed from link to link, and freed.
use Rattle.std.specs.Prelude.{◌≡◌, ◌≢◌, ℕ, ◌-◌, ◌<◌, min, List, [], ◌∷◌, ◌++◌, length}
use Rattle.word_layout.specs.Name.{head, wts, next as next_word}
use Rattle.core_rule.specs.View.{View, Load, Item}
use Rattle.core_rule.specs.Paths.{load}
use Rattle.core_rule.specs.Collecting.{rests_at}

-- a count of 32 bits, which stands still at its end
abbrev pub counted : ℕ → ℕ
counted n = min n 4294967295

-- these loads lead from the head of record r's list to a place: each place is the one that the link before it named, and each before it
-- showed another write stamp
pub data Seeks (r stamp : ℕ) : List Load → (place : ℕ) → Type 0 where
  from_head : (n : ℕ) → Seeks r stamp (load (head r) n ∷ []) (n - 1)
  past_other : (ls : List Load) (p w n : ℕ) → Seeks r stamp ls p → w ≢ stamp → Seeks r stamp (ls ++ load (wts p) w ∷ load (next_word p) n ∷ []) (n - 1)

-- what was loaded led to the version at this stamp, in this place
pub record FindsVersion (r stamp place : ℕ) (before after' : List Load) : Type 0 where
  pub sought : List Load
  pub leads : Seeks r stamp sought place
  pub loads : after' ≡ before ++ (sought ++ load (wts place) stamp ∷ [])

-- from this link on these places were freed, each after its own link was loaded; the last link loaded is `to`
pub data Follows (first : ℕ) : List ℕ → List Load → ℕ → Type 0 where
  from_cut : Follows first [] [] first
  one_more : (ps : List ℕ) (ls : List Load) (to n : ℕ) → Follows first ps ls to → 0 < to → Follows first (ps ++ (to - 1) ∷ []) (ls ++ load (next_word (to - 1)) n ∷ []) n

-- the collection goes on from this link
pub record RestsAt (to : ℕ) (item : Item) : Type 0 where
  pub record_number : ℕ
  pub stamp : ℕ
  pub is : item ≡ rests_at record_number stamp to

-- the places from one link up to another were freed
pub record Frees (first to places : ℕ) (v w : View) : Type 0 where
  pub freed : List ℕ
  pub links : List Load
  pub follows : Follows first freed links to
  pub count : places ≡ counted (length freed)
  pub gone : w.gone.freed ≡ v.gone.freed ++ freed
  pub cuts : w.gone.cuts ≡ v.gone.cuts
  pub loads : w.seen.loads ≡ v.seen.loads ++ links
  pub lost : w.seen.lost ≡ v.seen.lost
