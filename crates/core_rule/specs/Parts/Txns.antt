-- Transactions: how the lists of a transaction in flight go together.
use Rattle.std.specs.Prelude.{◌≡◌, ℕ, true, false, List}
use Rattle.core_rule.specs.View.{View, writing, Read, Write, Aim, reads, links, again, checks, Stand, Search, still, marks, stands, Work}
use Rattle.core_rule.specs.Views.{Each, Has, Among, AllIn}
use Rattle.core_rule.specs.Searching.{IsWhole, AllPassed}
use Rattle.core_rule.specs.Deciding.{stamp_in, commit_of}

-- a write of record r is among these
abbrev pub HasWriteOf : ℕ → List Write → Type 0
HasWriteOf r us = (u : Write) × Among u us × (u.record_number ≡ r)

-- what a search is for is there
abbrev pub AimFits : Work → Stand → Aim → Type 0
AimFits w s reads = Unit {0}
AimFits w s (links j) = w.decided ≡ false
AimFits w s (again d) = Among d w.raised × (s.record_number ≡ d.record_number) × (w.decided ≡ false) × (Among d w.finished → ⊥)
AimFits w s (checks u) = Among u w.linked × (s.record_number ≡ u.record_number) × (w.decided ≡ false)

abbrev pub SearchFits : Work → Search → Type 0
SearchFits w still = Unit {0}
SearchFits w (marks u) = w.decided ≡ false
SearchFits w (stands s look) = AimFits w s s.aim

-- the entry stands in the log; every check has passed, and every second search has ended
pub record IsDecided (v : View) : Type 0 where
  pub passed : AllPassed v.work.linked v.work.passed
  pub finished : AllIn v.work.raised v.work.finished
  pub entered : Among (commit_of v.flight v.work.finished v.work.linked) v.log

pub record TxnOk (v : View) : Type 0 where
  pub raised : (d : Read) → Among d v.work.raised → (v.flight ≡ writing (stamp_in v.flight)) × IsWhole d
  pub raised_once : (d c : Read) → Among d v.work.raised → Among c v.work.raised → d.record_number ≡ c.record_number → d ≡ c
  pub finished : AllIn v.work.finished v.work.raised
  pub passed : (r : ℕ) → Has r v.work.passed → HasWriteOf r v.work.linked
  pub settled : (r : ℕ) → Has r v.work.settled → HasWriteOf r v.work.linked
  pub search : SearchFits v.work v.work.search
  pub decided : v.work.decided ≡ true → (v.flight ≡ writing (stamp_in v.flight)) × IsDecided v

abbrev pub Txns : List View → Type 0
Txns vs = Each TxnOk vs
