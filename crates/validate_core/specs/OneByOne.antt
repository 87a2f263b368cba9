-- What is done for each of a list, one behind the other.
use Rattle.std.specs.Prelude.{◌≡◌, List, [], ◌∷◌, ◌++◌}

-- what was done between two states is this for each item, for each before the next one, and nothing else
pub data OneByOne {A S : Type 0} (such : A → (before after' : S) → Type 0) : List A → (before after' : S) → Type 0 where
  none_yet : (s : S) → OneByOne such [] s s
  one_more : (xs : List A) (x : A) (s t u : S) → OneByOne such xs s t → such x t u → OneByOne such (xs ++ x ∷ []) s u

-- it was this for the first items of a list, and at the next one it came to a stop
pub record StopsIn {A S : Type 0} (such stops : A → (before after' : S) → Type 0) (xs : List A) (before after' : S) : Type 0 where
  pub earlier : List A
  pub item : A
  pub later : List A
  pub in_turn : xs ≡ earlier ++ item ∷ later
  pub reached : S
  pub each : OneByOne such earlier before reached
  pub stop : stops item reached after'
