-- Met places: while a seat is alone, no place is free that it met not free after it had given a place back last.
use Rattle.std.specs.Prelude.{◌≢◌, ℕ, ◌<◌, ◌≤◌, List, length}
use Rattle.word_layout.specs.Size.{Size, places}
use Rattle.core_rule.specs.View.{View, Splitting, Seen}
use Rattle.core_rule.specs.Views.{Each, OthersTaken}
use Rattle.core_rule.specs.World.{Owner, free}
use Rattle.core_rule.specs.Reckoning.{recent, IsMet}

pub record IsTaken (z : Size) (owner : ℕ → Owner) (number : ℕ) (splitting : Splitting) (taken_in : List ℕ) (seen : Seen) : Type 0 where
  pub within : seen.since ≤ length seen.lost
  pub taken : OthersTaken z.seats number splitting taken_in → (p : ℕ) → p < places z → IsMet p (recent seen) → owner p ≢ free

abbrev pub MetOk : Size → (ℕ → Owner) → View → Type 0
MetOk z owner v = IsTaken z owner v.number v.splitting v.clock.taken_in v.seen

abbrev pub Met : Size → (ℕ → Owner) → List View → Type 0
Met z owner vs = Each (MetOk z owner) vs
