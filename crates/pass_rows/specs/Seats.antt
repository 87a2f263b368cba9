-- A pass while a transaction reads and writes, and while its versions are linked and decided.
use Rattle.std.specs.Prelude.{◌≡◌, ℕ}
use Rattle.txn_engine.specs.Pass.{PassView, begun, installed, decided}

-- a transaction is in flight that reads and writes
abbrev pub IsOpen : PassView → Type 0
IsOpen pass = pass.phase ≡ (begun pass 0).phase

-- its versions are linked, at this stamp
abbrev pub IsLinked : ℕ → PassView → Type 0
IsLinked stamp pass = (pass.phase ≡ (installed pass).phase) × (stamp ≡ pass.stamp)

-- it is decided, at this stamp
abbrev pub IsDecided : ℕ → PassView → Type 0
IsDecided stamp pass = (pass.phase ≡ (decided pass).phase) × (stamp ≡ pass.stamp)
