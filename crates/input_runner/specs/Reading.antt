-- What the reading of all tables leaves at the seat that is alone.
use Rattle.std.specs.Prelude.{◌≡◌, ℕ, ◌+◌, ◌≤◌, max, true, [], ◌∷◌, ◌++◌}
use Rattle.core_rule.specs.Views.{Among}
use Rattle.plain_data.specs.declared.entry.Entry.{Entry}
use Rattle.stamp_base.specs.Limits.{greatest_adopted_clock}
use Rattle.txn_engine.specs.Pass.{PassView, IsIdle, engine_of}

-- one clock more than the seat has, or than it may adopt
abbrev pub clock_read : PassView → ℕ
clock_read p = max p.clock greatest_adopted_clock + 1

-- One snapshot entry was added, not below any entry of the log, nor below the minimum that was met. The seat is idle.
pub record AddsSnapshot (before after' : PassView) : Type 0 where
  pub entry : Entry
  pub snapshot : entry.snapshot ≡ true
  pub log : after'.log ≡ before.log ++ entry ∷ []
  pub behind : (e : Entry) → Among e before.log → e.stamp ≤ entry.stamp
  pub met : before.met ≤ entry.stamp + 1
  pub not_back : before.met ≤ after'.met
  pub engine : engine_of after' ≡ engine_of before
  pub seat : after'.seat ≡ before.seat
  pub others : after'.others ≡ before.others
  pub refusals : after'.refusals ≡ before.refusals
  pub idle : IsIdle after'
  pub later : before.clock ≤ after'.clock
  pub clock : after'.clock ≤ clock_read before
