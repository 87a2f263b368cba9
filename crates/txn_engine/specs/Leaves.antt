-- What the log of a pass leaves: what a seat that is alone reads, and which records it holds as absent.
use Rattle.std.specs.Prelude.{◌≡◌, ◌⊎◌, ℕ, ◌<◌, ◌≤◌, List, ◌++◌, true, Option, None, IsSome}
use Rattle.record_store.specs.Meaning.{value_at}
use Rattle.spare_numbers.specs.Spare.{is_on}
use Rattle.txn_engine.specs.Pass.{PassView, IsAlone}
use Rattle.seat_post.specs.Leaves.{IsPresent, LeavesValue}

-- a seat that is alone reads what its log leaves, where its transaction has not written the record
abbrev pub ReadsLeft : PassView → (r : ℕ) → Option (List ℕ) → Type 0
ReadsLeft p r value = IsAlone p → value_at p.writes r ≡ None → LeavesValue p.log r p.stamp value

-- Each record from `fixed` on is a spare one or given out, or the log leaves a value of it: so each of which it leaves none is a spare
-- one or given out.
abbrev pub HoldsAbsent : PassView → Type 0
HoldsAbsent p = (r : ℕ) → p.fixed ≤ r → r < p.shared.size.records → (is_on (p.given ++ p.spare) r ≡ true) ⊎ IsPresent p.log r

-- each of them is given out, or the transaction writes it, or the log leaves a value of it
abbrev pub NoneRemains : PassView → Type 0
NoneRemains p =
    (r : ℕ) → p.fixed ≤ r → r < p.shared.size.records
    → (is_on p.given r ≡ true) ⊎ (IsSome (value_at p.writes r) ⊎ IsPresent p.log r)
