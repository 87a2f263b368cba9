-- How the seat that makes others goes on from step to step.
use Rattle.std.specs.Prelude.{ℕ}
use Rattle.core_rule.specs.View.{Splitting, single, sharing, offers_write, offers_both, shared}

-- how many seats are made, as far as the seat that makes them knows
abbrev pub made_of : Splitting → ℕ
made_of single = 1
made_of (sharing made) = made
made_of (offers_write made) = made
made_of (offers_both made) = made
made_of shared = 0

abbrev pub offered_write : Splitting → Splitting
offered_write s = offers_write (made_of s)

abbrev pub offered_read : Splitting → Splitting
offered_read s = offers_both (made_of s)

-- how many seats are made at most: a seat that makes none knows no more than how many the table has
abbrev pub made_within : (seats : ℕ) → Splitting → ℕ
made_within seats single = 1
made_within seats (sharing made) = made
made_within seats (offers_write made) = made
made_within seats (offers_both made) = made
made_within seats shared = seats

abbrev pub MayOffer : Splitting → Type 0
MayOffer single = Unit {0}
MayOffer (sharing made) = Unit {0}
MayOffer s = ⊥

abbrev pub HasOffered : Splitting → Type 0
HasOffered (offers_write made) = Unit {0}
HasOffered s = ⊥

-- both words of the next seat are stored
abbrev pub HasOfferedBoth : Splitting → Type 0
HasOfferedBoth (offers_both made) = Unit {0}
HasOfferedBoth s = ⊥

-- no seat is being made
abbrev pub IsSettled : Splitting → Type 0
IsSettled (offers_write made) = ⊥
IsSettled (offers_both made) = ⊥
IsSettled s = Unit {0}
