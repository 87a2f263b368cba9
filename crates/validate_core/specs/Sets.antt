-- What a transaction has read and what it writes.
use Rattle.std.specs.Prelude.{◌≡◌, ◌≢◌, ℕ, suc, ◌<◌, List, [], ◌∷◌, ◌++◌, Some, take, drop, length, map, nat_lt, count_by}
use Rattle.word_layout.specs.Size.{Size, places}
use Rattle.core_rule.specs.View.{View, Read, Write}
use Rattle.core_rule.specs.Views.{Among}
use Rattle.core_rule.specs.Versions.{read_version}
use Rattle.version_search.specs.Loading.{with_value, IsLeftIn, cells_loaded}

-- the reads and the writes in the order of adding, and room for so many
pub record SetsView : Type 0 where
  pub reads : List Read
  pub writes : List Write
  pub read_room : ℕ
  pub write_room : ℕ

-- of each read its record and the stamp of its version; and of each write its record
abbrev pub versions_read : List Read → List (ℕ × ℕ)
versions_read ds = map (λ (d : Read). (d.record_number, d.version)) ds

abbrev pub records_written : List Write → List ℕ
records_written us = map (λ (u : Write). u.record_number) us

-- the element of this number
pub record Turn {A : Type 0} (i : ℕ) (xs : List A) (x : A) : Type 0 where
  pub splits : xs ≡ take i xs ++ x ∷ drop (suc i) xs
  pub next : take (suc i) xs ≡ take i xs ++ x ∷ []

-- no number twice
abbrev pub Once : {A : Type 0} → (A → ℕ) → List A → Type 0
Once number [] = Unit {0}
Once number (x ∷ xs) = ((y : _) → Among y xs → number y ≢ number x) × Once number xs

-- the same writes, at places and stamps of their own
abbrev pub SameWrites : List Write → List Write → Type 0
SameWrites [] [] = Unit {0}
SameWrites [] (w ∷ ws) = ⊥
SameWrites (u ∷ us) [] = ⊥
SameWrites (u ∷ us) (w ∷ ws) = (w.record_number ≡ u.record_number) × (w.cells ≡ u.cells) × SameWrites us ws

-- how many of the writes stand in places below this one
abbrev pub count_below : (place : ℕ) → List Write → ℕ
count_below place us = count_by (λ (u : Write). nat_lt u.place place) us

-- records and places are those of a table of this size
pub record IsInside (z : Size) (s : SetsView) : Type 0 where
  pub reads : (d : Read) → Among d s.reads → (d.record_number < z.records) × (d.place < places z)
  pub writes : (u : Write) → Among u s.writes → (u.record_number < z.records) × (u.place < places z)
  pub once : Once (λ (u : Write). u.record_number) s.writes

-- the same before the writes have their places
pub record MayInstall (z : Size) (s : SetsView) : Type 0 where
  pub reads : (d : Read) → Among d s.reads → (d.record_number < z.records) × (d.place < places z)
  pub writes : (u : Write) → Among u s.writes → u.record_number < z.records
  pub once : Once (λ (u : Write). u.record_number) s.writes

-- one more read, of a version whose value these steps loaded
pub record LoadsOne (rid place wts : ℕ) (before after' : SetsView) (v w : View) : Type 0 where
  pub cells : List ℕ
  pub whole : length cells ≡ 32
  pub reads : after'.reads ≡ before.reads ++ read_version rid place wts (Some cells) ∷ []
  pub view : w ≡ with_value v cells w.seen
  pub left : IsLeftIn w cells
  pub loads : w.seen.loads ≡ v.seen.loads ++ cells_loaded place 0 cells
  pub lost : w.seen.lost ≡ v.seen.lost
