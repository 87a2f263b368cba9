-- What a call adds to a pass.
use Rattle.std.specs.Prelude.{◌≡◌, ℕ, ◌+◌, ◌<◌, ◌≤◌, true, false, List, [], ◌∷◌, ◌++◌, ⊤}
use Rattle.plain_data.specs.declared.entry.Entry.{Entry}
use Rattle.stamp_base.specs.Stamp.{bound_of_clock}
use Rattle.core_rule.specs.Views.{Among}
use Rattle.txn_engine.specs.Pass.{PassView, IsIdle, engine_of}
use Rattle.seat_post.specs.Logs.{IsAbove}

-- no snapshot entry of the log is stamped above this number
abbrev pub AreUpTo : List Entry → ℕ → Type 0
AreUpTo log t = (e : Entry) → Among e log → e.snapshot ≡ true → e.stamp ≤ t

-- A commit entry that a pass adds is stamped above all stamps of its clock, of whatever seat, and above each commit entry of its log; a
-- snapshot entry at most one below the greatest `min_wts` that it has met, and not below any snapshot entry of its log.
pub record IsNext (before : PassView) (entry : Entry) : Type 0 where
  pub commit_clock : entry.snapshot ≡ false → bound_of_clock before.clock ≤ entry.stamp
  pub commit_log : entry.snapshot ≡ false → IsAbove before.log entry.stamp
  pub snapshot_met : entry.snapshot ≡ true → before.met ≤ entry.stamp + 1
  pub snapshot_log : entry.snapshot ≡ true → AreUpTo before.log entry.stamp

-- of two entries of a log the later one: stamps of commit entries rise, and those of snapshot entries never fall
pub record IsLater (first second : Entry) : Type 0 where
  pub commits : first.snapshot ≡ false → second.snapshot ≡ false → first.stamp < second.stamp
  pub snapshots : first.snapshot ≡ true → second.snapshot ≡ true → first.stamp ≤ second.stamp

abbrev pub AreInOrder : List Entry → Type 0
AreInOrder [] = ⊤
AreInOrder (first ∷ entries) = ((second : Entry) → Among second entries → IsLater first second) × AreInOrder entries

-- Exactly these entries stand behind the log of the pass, which is of the same seat, idle again, and takes the same seats as open. Its
-- clock, its count of refusals and the greatest `min_wts` that it has met do not fall.
pub record Adds (before after' : PassView) (entries : List Entry) : Type 0 where
  pub engine : engine_of after' ≡ engine_of before
  pub seat : after'.seat ≡ before.seat
  pub others : after'.others ≡ before.others
  pub idle : IsIdle after'
  pub log : after'.log ≡ before.log ++ entries
  pub each : (entry : Entry) → Among entry entries → IsNext before entry
  pub in_order : AreInOrder entries
  pub clock : before.clock ≤ after'.clock
  pub met : before.met ≤ after'.met
  pub refusals : before.refusals ≤ after'.refusals
