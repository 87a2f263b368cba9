-- Keeping: a version that is linked in the reserved place is one that a view may have there, and what a view that is alone has is linked there.
use Rattle.std.specs.Prelude.{◌≡◌, ℕ, List}
use Rattle.word_layout.specs.Size.{Size}
use Rattle.core_rule.specs.World.{Owner, linked}
use Rattle.core_rule.specs.View.{View, Reserved, nothing_reserved, version_reserved, maybe_reserved}
use Rattle.core_rule.specs.Views.{Each, OthersTaken, SomeView}

-- a version of record r at the stamp t may be what the seat has there
abbrev pub MayBe : (r t : ℕ) → Reserved → Type 0
MayBe r t nothing_reserved = ⊥
MayBe r t (version_reserved q u) = (q ≡ r) × (u ≡ t)
MayBe r t maybe_reserved = Unit {0}

-- what the seat has there is linked, by the owner of the place and its write stamp
abbrev pub IsThere : (owner : Owner) (stamp : ℕ) → Reserved → Type 0
IsThere owner stamp (version_reserved r t) = (owner ≡ linked r) × (stamp ≡ t)
IsThere owner stamp _ = Unit {0}

abbrev pub KeepingOk : Size → (owner : Owner) (stamp : ℕ) → View → Type 0
KeepingOk z owner stamp v = OthersTaken z.seats v.number v.splitting v.clock.taken_in → IsThere owner stamp v.counts.in_reserved

-- by the owner of the reserved place, and the write stamp there
pub record Keeping (z : Size) (owner : Owner) (stamp : ℕ) (vs : List View) : Type 0 where
  pub known : (r : ℕ) → owner ≡ linked r → SomeView (λ v. MayBe r stamp v.counts.in_reserved) vs
  pub alone : Each (KeepingOk z owner stamp) vs
