-- How a connection is closed.
use Rattle.std.specs.Prelude.{◌≡◌, ◌≤◌, MatchOption, ℕ}
use Rattle.histories.specs.History.{Lawful}
use Rattle.word_layout.specs.Name.{min_write}
use Rattle.core_rule.specs.Paths.{load}
use Rattle.seat_post.specs.Observing.{with_load}
use Rattle.txn_engine.specs.Joining.{IsLast}
use Rattle.txn_engine.specs.Pass.{PassView, observing, with_met}
use Rattle.txn_engine.specs.Retired.{retired}
use Rattle.txn_engine.specs.Snapshot.{Finishes}
use Rattle.connections.specs.declared.opened.Opened.{Opened}
use Rattle.connections.specs.declared.opened.Opened.TheVariants.{Nothing, Transaction, Spoiled, Snapshot, Closed}
use Rattle.connections.specs.Connection.{ConnectionView, StandsForRows, at_end}
use Rattle.connections.specs.Handing.{GivesAll}
use Rattle.connections.specs.Transactions.{AbortsTxn}

-- what is open ends: a transaction without an entry, a snapshot with its own
abbrev pub EndsOpened : Opened → PassView → PassView → Type 0
EndsOpened Nothing p q = q ≡ p
EndsOpened Transaction p q = AbortsTxn p q
EndsOpened Spoiled p q = q ≡ p
EndsOpened Snapshot p q = (stamp : ℕ) × Finishes StandsForRows p q stamp
EndsOpened Closed p q = ⊥

-- Then `min_wts` is loaded once, which is met. Where each other seat of the engine is taken in, the log is one lawful history.
pub record TellsLawful (before after' : PassView) : Type 0 where
  pub after : after' ≡ observing (with_met before after'.met) after'.observed
  pub loads : after'.observed ≡ with_load before.observed (load min_write after'.met)
  pub not_back : before.met ≤ after'.met
  pub lawful : IsLast before → Lawful StandsForRows before.shared.size.records before.log

-- Then its numbers are given, and the seat retires. What it leaves is a lawful history where each other seat of the engine was taken in.
pub record Retires (before after' : ConnectionView) (p : PassView) : Type 0 where
  pub ended : PassView
  pub told : PassView
  pub last : PassView
  pub ends : EndsOpened before.opened p ended
  pub tells : TellsLawful ended told
  pub gives : GivesAll told last before.numbers after'.numbers
  pub is : after' ≡ at_end before.engine after'.numbers (retired last)
  pub lawful : IsLast p → Lawful StandsForRows before.engine.size.records last.log

-- one that is closed stays as it is
abbrev pub Closes : ConnectionView → ConnectionView → Type 0
Closes before after' = MatchOption before.pass ((before.opened ≡ Closed) × (after' ≡ before)) (Retires before after')
