use Rattle.std.proofs.Common.{◌≡◌, refl}
use Rattle.core_rule.specs.View.{View}
use Rattle.core_rule.specs.Searching.{Ends}
use Rattle.engine_rows.proofs.Fresh.{at_first}
use Rattle.engine_rows.proofs.tables.first_seat.Goals as goal

pub returns-clause-ends : goal.returns-clause-ends
returns-clause-ends c = at_first (λ (v : View). Ends v.work) _ _ c.in_ok-new.ensures.first record { rests = tt; settled = λ u h. absurd h; collected = refl }

pub returns-clause-clock : goal.returns-clause-clock
returns-clause-clock c = at_first (λ (v : View). v.clock.clock ≡ 0) _ _ c.in_ok-new.ensures.first refl
