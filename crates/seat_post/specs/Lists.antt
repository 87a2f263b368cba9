-- What is known of the records' lists of versions: after versions were linked, and where there is no place for one more.
use Rattle.std.specs.Prelude.{◌≡◌, ℕ, suc, ◌+◌, ◌<◌, ◌≤◌, Bool, false, nat_lt, List, take, drop, count_by, Option, None, Some, IsSome}
use Rattle.word_layout.specs.Size.{Size, usable_places}
use Rattle.core_rule.specs.View.{Bound}
use Rattle.core_rule.specs.Searching.{known_of, newest_stamp}
use Rattle.core_rule.specs.Reckoning.{AtMost}
use Rattle.record_store.specs.Meaning.{value_at}
use Rattle.seat_post.specs.Seats.{Bounds}

-- so many versions of a list at most are known to be linked; and to be linked outside the record's inline place
abbrev pub HasLinked : ℕ → Option Bound → Type 0
HasLinked n None = ⊥
HasLinked n (Some b) = b.linked ≤ n

abbrev pub HasOutside : ℕ → Option Bound → Type 0
HasOutside n None = ⊥
HasOutside n (Some b) = b.outside ≤ n

-- one more version than before may be linked, and lie outside
abbrev pub IsOneMore : Option Bound → Option Bound → Type 0
IsOneMore None known = known ≡ None
IsOneMore (Some b) None = ⊥
IsOneMore (Some b) (Some c) = (c.linked ≤ suc b.linked) × (c.outside ≤ suc b.outside)

-- versions of these writes were linked at this stamp
pub record AreLinked (writes : List (ℕ × Option (List ℕ))) (stamp : ℕ) (before after' : Bounds) : Type 0 where
  pub written : (r : ℕ) → IsSome (value_at writes r) → IsOneMore (known_of before.counts r) (known_of after'.counts r) × (newest_stamp after'.tops r ≡ Some stamp)
  pub others : (r : ℕ) → value_at writes r ≡ None → (known_of after'.counts r ≡ known_of before.counts r) × (newest_stamp after'.tops r ≡ newest_stamp before.tops r)

-- versions of the first few of these writes were
pub record AreSomeLinked (writes : List (ℕ × Option (List ℕ))) (stamp : ℕ) (before after' : Bounds) : Type 0 where
  pub count : ℕ
  pub linked : AreLinked (take count writes) stamp before after'

-- what was known before the last so many versions were linked
abbrev pub bounds_before : ℕ → Bounds → Bounds
bounds_before count bounds = record { counts = record bounds.counts { listed = drop count bounds.counts.listed }; tops = drop count bounds.tops }

-- of each record that is written a bound is known
abbrev pub AreBounded : Bounds → List (ℕ × Option (List ℕ)) → Type 0
AreBounded bounds writes = (r : ℕ) → IsSome (value_at writes r) → IsSome (known_of bounds.counts r)

-- more versions may lie outside the inline place than before; and of how many of these writes' records
abbrev pub is_raised : Option Bound → Option Bound → Bool
is_raised (Some b) (Some c) = nat_lt b.outside c.outside
is_raised (Some b) None = false
is_raised None known = false

abbrev pub count_raised : (before after' : Bounds) → List (ℕ × Option (List ℕ)) → ℕ
count_raised before after' writes = count_by (λ write. is_raised (known_of before.counts write.0) (known_of after'.counts write.0)) writes

abbrev pub IsRoomyAt : Size → Bounds → Type 0
IsRoomyAt size bounds = (r : ℕ) → suc r ≤ size.records → HasOutside 1 (known_of bounds.counts r)

-- A seat that is alone finds no place for one of so many writes: there are fewer usable pool places than linked versions outside inline
-- places, by the bounds that it knows, and writes. So where one at most is known to lie outside each inline place, the spare places are
-- no more than records and writes.
pub record IsFullAt (size : Size) (bounds : Bounds) (writes : ℕ) : Type 0 where
  pub by_bounds : (n : ℕ) → AtMost size.records (known_of bounds.counts) n → usable_places size < n + writes
  pub roomy : IsRoomyAt size bounds → size.spare ≤ size.records + writes
