use Rattle.std.proofs.Common.{◌≡◌, [], refl}
use Rattle.core_rule.specs.View.{View}
use Rattle.core_rule.specs.Offers.{MayOffer}
use Rattle.core_rule.specs.Searching.{Ends}
use Rattle.engine_rows.proofs.Fresh.{at_first, at_left, at_right}
use Rattle.engine_rows.proofs.tables.two_seats.Goals as goal

pub split-second-requires-clause-makes : goal.split-second-requires-clause-makes
split-second-requires-clause-makes c = at_first (λ (v : View). MayOffer v.splitting) _ _ c.in_ok-core.ensures.first tt

pub split-second-requires-clause-ends : goal.split-second-requires-clause-ends
split-second-requires-clause-ends c = at_first (λ (v : View). Ends v.work) _ _ c.in_ok-core.ensures.first record { rests = tt; settled = λ u h. absurd h; collected = refl }

pub returns-clause-first_ends : goal.returns-clause-first_ends
returns-clause-first_ends c =
    at_left (λ (v : View). Ends v.work) _ _ _ c.in_ok-core.ensures.first c.split-second.ensures.split.left record { rests = tt; settled = λ u h. absurd h; collected = refl }

pub returns-clause-second_ends : goal.returns-clause-second_ends
returns-clause-second_ends c =
    at_right (λ (v : View). Ends v.work) _ _ _ c.in_ok-core.ensures.first c.split-second.ensures.split.right record { rests = tt; settled = λ u h. absurd h; collected = refl }

pub returns-clause-first_clock : goal.returns-clause-first_clock
returns-clause-first_clock c = at_left (λ (v : View). v.clock.clock ≡ 0) _ _ _ c.in_ok-core.ensures.first c.split-second.ensures.split.left refl

pub returns-clause-second_clock : goal.returns-clause-second_clock
returns-clause-second_clock c = at_right (λ (v : View). v.clock.clock ≡ 0) _ _ _ c.in_ok-core.ensures.first c.split-second.ensures.split.right refl

pub returns-clause-first_holds : goal.returns-clause-first_holds
returns-clause-first_holds c = at_left (λ (v : View). v.places.held ≡ []) _ _ _ c.in_ok-core.ensures.first c.split-second.ensures.split.left refl

pub returns-clause-second_holds : goal.returns-clause-second_holds
returns-clause-second_holds c = at_right (λ (v : View). v.places.held ≡ []) _ _ _ c.in_ok-core.ensures.first c.split-second.ensures.split.right refl
