-- What the calls of the index promise.
use Rattle.std.specs.Prelude.{◌≡◌, ℕ, ◌+◌, ◌<◌, ◌≤◌, ◌++◌, List, length, Option, option_to_list, IfSome, is_some, Bool, true, false, Result, OnOk}
use Rattle.record_store.specs.Meaning.{Meaning}
use Rattle.record_store.specs.Store.{IsFresh}
use Rattle.record_store.specs.States.{IsTorn}
use Rattle.record_store.specs.Writes.{WritesAtMost}
use Rattle.hash_index.specs.Chain.{EachChain, IsChainBefore, RowTears, record_of, bucket_of}
use Rattle.hash_index.specs.Changes.{IsPut, IsRemoved, NeedsNode}

-- no state that agrees with the reads has a lawful chain: in each the walk for the key is torn at the record
abbrev pub IsTornChain : ℕ → ℕ → Meaning → Meaning → ℕ → Type 0
IsTornChain base key before after rid = IsTorn (λ state. RowTears before.size (base + bucket_of key) key state rid)
    (IsChainBefore base before) before after

-- `fresh` may be asked so often: once, where the key is not there and its bucket is present with each node full
pub record PutMayAsk (base key : ℕ) (before after : Meaning) (asks : ℕ) : Type 0 where
  pub once : asks ≤ 1
  pub needs_node : EachChain base before after (λ _ rows. NeedsNode key rows)

-- How often `fresh` was asked: only where it may be, and where the pair is in, once for each record that was given. Whatever is answered,
-- one record is written at most, and one more for each ask.
pub record PutAsks {E : Type 0} (base key : ℕ) (before after : Meaning) (answer : Result (Unit {0}) E) (asked : ℕ) : Type 0 where
  pub may : 0 < asked → PutMayAsk base key before after asked
  pub exact : OnOk answer (length after.given ≡ length before.given + asked)
  pub few : WritesAtMost (1 + asked) before after

-- a pair is put, and where it takes a new node, that is the record that was given
pub record PutsPair (base key rid : ℕ) (before after : Meaning) : Type 0 where
  pub fresh : Option ℕ
  pub given : after.given ≡ before.given ++ option_to_list fresh
  pub is_fresh : IfSome fresh (IsFresh before)
  pub put : EachChain base before after (λ state rows. (rows' : ℕ → List (ℕ × List ℕ)) × IsPut base key rid fresh before after state rows rows')

-- a pair is removed where the key was there, and nothing is written where it was not
pub record RemovesPair (base key : ℕ) (was_there : Bool) (before after : Meaning) : Type 0 where
  pub answer : EachChain base before after (λ state rows. was_there ≡ is_some (record_of rows key))
  pub given : after.given ≡ before.given
  pub removed : was_there ≡ true → EachChain base before after (λ state rows. (rows' : ℕ → List (ℕ × List ℕ)) × IsRemoved base key before after state rows rows')
  pub unchanged : was_there ≡ false → after.writes ≡ before.writes
