-- The spare record numbers of a pass.
use Rattle.std.specs.Prelude.{◌≡◌, ℕ, zero, suc, ◌+◌, ◌-◌, Bool, true, false, nat_eq, ◌==◌, ◌&&◌, ◌≤◌, ◌<◌, nat_le, not, if◌then◌else◌, List, [], ◌∷◌, ◌++◌, Option, None, Some, IfNone, IfSome, is_some, option_to_list, filter, take, drop, length, slice_index_or}
use Rattle.std.specs.List.{list_any, range_with_len, IsDistinct}
use Rattle.record_store.specs.Meaning.{value_at}

-- the number is on the list
abbrev pub is_on : List ℕ → ℕ → Bool
is_on rids rid = list_any (λ other. rid == other) rids

-- a value is written to the record
abbrev pub holds : Option (Option (List ℕ)) → Bool
holds None = false
holds (Some None) = false
holds (Some (Some words)) = true

abbrev pub is_deletion : Option (List ℕ) → Bool
is_deletion None = true
is_deletion (Some words) = false

-- the new numbers that were given out and hold no value
abbrev pub unused : List (ℕ × Option (List ℕ)) → List ℕ → List ℕ
unused writes given = filter (λ rid. not (holds (value_at writes rid))) given

-- a number at the end of the list, where it is not on it
abbrev pub added : List ℕ → ℕ → List ℕ
added rids rid = if is_on rids rid then rids else rids ++ rid ∷ []

-- the spare ones with a number at their end, where it is neither spare nor given out
abbrev pub taken_in : (given spare : List ℕ) → ℕ → List ℕ
taken_in given spare rid = if is_on given rid then spare else added spare rid

-- the list with each record from `fixed` on that is deleted
abbrev pub with_deleted : (fixed : ℕ) → List ℕ → List (ℕ × Option (List ℕ)) → List ℕ
with_deleted fixed rids [] = rids
with_deleted fixed rids (write ∷ writes) = with_deleted fixed (if is_deletion write.1 && nat_le fixed write.0 then added rids write.0 else rids) writes

-- those of the numbers that are written; and a list without those before a place that are not
abbrev pub written_of : List (ℕ × Option (List ℕ)) → List ℕ → List ℕ
written_of writes rids = filter (λ rid. is_some (value_at writes rid)) rids

abbrev pub struck_before : List (ℕ × Option (List ℕ)) → (place : ℕ) → List ℕ → List ℕ
struck_before writes place rids = written_of writes (take place rids) ++ drop place rids

-- the list after a commit of these writes, where these numbers were given out
abbrev pub spare_after : (fixed : ℕ) → List (ℕ × Option (List ℕ)) → (given spare : List ℕ) → List ℕ
spare_after fixed writes given spare = with_deleted fixed (unused writes given ++ spare) writes

-- what a pass has of its spare numbers: the limits of all, those that are spare, and those that are given out
pub record NumbersView : Type 0 where
  pub fixed : ℕ
  pub records : ℕ
  pub spare : List ℕ
  pub given : List ℕ

-- The last spare number is parted with, where there is one, and stands on the list no more. All else is as it was: nothing that was spare or
-- given out is lost.
pub record PartsWith (before after' : NumbersView) (answer : Option ℕ) : Type 0 where
  pub last : before.spare ≡ after'.spare ++ option_to_list answer
  pub none : IfNone answer (before.spare ≡ [])
  pub only : after' ≡ record before { spare = after'.spare }
  pub from : IfSome answer (λ rid. before.fixed ≤ rid)
  pub within : IfSome answer (λ rid. rid < before.records)
  pub gone : IfSome answer (λ rid. is_on (after'.given ++ after'.spare) rid ≡ false)

-- the first `taken` are given out; each number is there once and in its range, and all that may be there find room
pub record AreNumbers (fixed records taken : ℕ) (items : List ℕ) (room : ℕ) : Type 0 where
  pub marked : taken ≤ length items
  pub distinct : IsDistinct nat_eq items
  pub in_range : (rid : ℕ) → is_on items rid ≡ true → (fixed ≤ rid) × (rid < records)
  pub fits : records - fixed ≤ room

-- each number from `fixed` on is marked exactly where it is on the list, given out or not
pub record AreMarked (fixed records : ℕ) (items : List ℕ) (marks : List Bool) : Type 0 where
  pub long : length marks ≡ records - fixed
  pub told : (k : ℕ) → k < records - fixed → slice_index_or marks k false ≡ is_on items (fixed + k)

-- what a list of spare numbers is, with its marks
pub record IsNumbers (fixed records taken : ℕ) (items : List ℕ) (room : ℕ) (marks : List Bool) : Type 0 where
  pub are : AreNumbers fixed records taken items room
  pub marked : AreMarked fixed records items marks

-- none of them
abbrev pub no_numbers : (fixed records : ℕ) → NumbersView
no_numbers fixed records = record { fixed = fixed; records = records; spare = []; given = [] }

-- all numbers from `fixed` on
abbrev pub all_numbers : (fixed records : ℕ) → NumbersView
all_numbers fixed records = record { fixed = fixed; records = records; spare = range_with_len fixed (records - fixed); given = [] }

-- each of these numbers at the end of the list, where it is not on it
abbrev pub with_all : List ℕ → List ℕ → List ℕ
with_all rids [] = rids
with_all rids (x ∷ xs) = with_all (added rids x) xs

-- every so many-th of the list, from this place on
abbrev pub every : (step from : ℕ) → List ℕ → List ℕ
every step from [] = []
every step zero (x ∷ xs) = x ∷ every step (step - 1) xs
every step (suc from) (x ∷ xs) = every step from xs
