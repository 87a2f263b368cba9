-- What is noted of records, each once, in the order of noting.
use Rattle.std.specs.Prelude.{◌≡◌, ◌≢◌, ℕ, ◌+◌, ◌-◌, ◌%◌, ◌<◌, ◌≤◌, List, map, take, drop, length, slice_index, min, vec_capacity}
use Rattle.indexmap.specs.IndexSet.{spare}
use Rattle.core_rule.specs.View.{Read, Write}
use Rattle.validate_core.specs.declared.noted.Noted.{Noted}
use Rattle.validate_core.specs.Sets.{Turn, Once}

-- the first so many items
abbrev pub noted : {V : Type 0} → Noted V → List V
noted n = take n.count n.items.items

-- so many records stand in chains
abbrev pub few : ℕ
few = 128

-- there are so many chains, one for each remainder that a number may leave
abbrev pub chains : ℕ
chains = 64

-- so many can be noted: as many as there are items, and the first few with as many as the set behind them can have
abbrev pub room : {V : Type 0} → Noted V → ℕ
room n = min (vec_capacity n.items) (few + length n.behind.keys + spare n.behind)

-- this is the place, counted from 1, of the last of the first n numbers that leaves this remainder, or 0 where none does
pub record IsLast (rids : List ℕ) (n remainder place : ℕ) : Type 0 where
  pub within : place ≤ n
  pub leaves : 0 < place → slice_index rids (place - 1) % chains ≡ remainder
  pub none_behind : (i : ℕ) → place ≤ i → i < n → slice_index rids i % chains ≢ remainder

-- of the first few numbers, newest has the last one of each remainder, and older for each of them the last one before it that leaves
-- the same
pub record AreChained (rids newest older : List ℕ) : Type 0 where
  pub remainders : length newest ≡ chains
  pub places : length older ≡ few
  pub last : (remainder : ℕ) → remainder < chains → IsLast rids (min few (length rids)) remainder (slice_index newest remainder)
  pub before : (i : ℕ) → i < min few (length rids) → IsLast rids i (slice_index rids i % chains) (slice_index older i)

-- the element of this number is of record rid
pub record IsOf {V : Type 0} (number : V → ℕ) (rid : ℕ) (xs : List V) (i : ℕ) : Type 0 where
  pub element : V
  pub turn : Turn i xs element
  pub of_record : number element ≡ rid

-- the items that are noted are there; of those behind the first few the set has the records, in the same order; no record is noted
-- twice; and the first few stand in chains
pub record IsNoted {V : Type 0} (number : V → ℕ) (n : Noted V) : Type 0 where
  pub within : n.count ≤ length n.items.items
  pub behind : n.behind.keys ≡ map number (drop few (noted n))
  pub apart : Once number (noted n)
  pub chained : AreChained (map number (noted n)) n.newest n.older

-- reads and writes are noted so
pub record AreNoted (reads : Noted Read) (writes : Noted Write) : Type 0 where
  pub reads_are : IsNoted (λ (d : Read). d.record_number) reads
  pub writes_are : IsNoted (λ (u : Write). u.record_number) writes
