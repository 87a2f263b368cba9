-- What a connection does at its pass while nothing is open.
use Rattle.std.specs.Prelude.{◌≡◌, ◌↔◌, ℕ, ◌+◌, Result, Ok, Err, OnOk, OnErr, IfOk, IfErr, IsErr}
use Rattle.rapid_gc.specs.declared.collecting.Collected.{Collected}
use Rattle.stamp_base.specs.Limits.{greatest_clock}
use Rattle.stamp_base.specs.Stamp.{stamp_of}
use Rattle.word_layout.specs.Name.{published_write}
use Rattle.core_rule.specs.Paths.{load}
use Rattle.seat_post.specs.Logs.{IsAbove}
use Rattle.seat_post.specs.Observing.{with_load}
use Rattle.txn_engine.specs.Collecting.{CollectsPass}
use Rattle.txn_engine.specs.Pass.{PassView, heard, next_clock, observing, ticked}
use Rattle.connections.specs.declared.fault.CallFault.{CallFault}
use Rattle.connections.specs.declared.fault.CallFault.TheVariants.{ClockOut}

-- it collects, and tells what became of the versions
abbrev pub Collects : Result Collected CallFault → PassView → PassView → Type 0
Collects (Ok tally) before after' = CollectsPass before after' tally
Collects (Err fault) before after' = ⊥

-- it hears the stamp of this number, at one load of its own published word
abbrev pub Hears : ℕ → Result (Unit {0}) CallFault → PassView → PassView → Type 0
Hears number (Ok u) before after' = after' ≡ observing (heard before number) (with_load before.observed (load (published_write before.seat) before.published))
Hears number (Err fault) before after' = ⊥

-- it draws a stamp that no transaction gets, above its log; or no clock is left, and all is as before
pub record Ticks (reading : ℕ) (answer : Result ℕ CallFault) (before after' : PassView) : Type 0 where
  pub ok : OnOk answer (after' ≡ ticked before (next_clock before reading))
  pub stamp : IfOk answer (λ stamp. stamp ≡ stamp_of (next_clock before reading) before.seat)
  pub above : IfOk answer (IsAbove before.log)
  pub clock_out : IsErr answer ↔ (next_clock before reading ≡ greatest_clock + 1)
  pub fault : IfErr answer (λ f. f ≡ ClockOut)
  pub err : OnErr answer (after' ≡ before)
