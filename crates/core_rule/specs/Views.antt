-- What holds of each view that is not spent, and of any two.
use Rattle.std.specs.Prelude.{◌≡◌, ◌≢◌, ◌⊎◌, ℕ, ◌<◌, false, List, [], ◌∷◌}
use mathlib.Core.Option.{some}
use lib.ListN.{get_elem?}
use Rattle.core_rule.specs.View.{View, Splitting}
use Rattle.core_rule.specs.Offers.{made_within}

abbrev pub At : List View → ℕ → View → Type 0
At vs i v = get_elem? vs i ≡ some v

abbrev pub Each : (View → Type 0) → List View → Type 0
Each P vs = (i : ℕ) (v : View) → At vs i v → v.spent ≡ false → P v

-- of any two views, one and the same among them
abbrev pub Pairs : (View → View → Type 0) → List View → Type 0
Pairs R vs = (i j : ℕ) (v w : View) → At vs i v → At vs j w → v.spent ≡ false → w.spent ≡ false → R v w

abbrev pub AllOf : (ℕ → Type 0) → List ℕ → Type 0
AllOf P [] = Unit {0}
AllOf P (x ∷ xs) = P x × AllOf P xs

abbrev pub Among : {A : Type 0} → A → List A → Type 0
Among x [] = ⊥
Among x (y ∷ ys) = (y ≡ x) ⊎ Among x ys

-- the same of a list of numbers
abbrev pub Has : ℕ → List ℕ → Type 0
Has x ys = Among x ys

-- each of these is one of those
abbrev pub AllIn : {A : Type 0} → List A → List A → Type 0
AllIn {A} xs ys = (x : A) → Among x xs → Among x ys

abbrev pub IsDistinct : List ℕ → Type 0
IsDistinct [] = Unit {0}
IsDistinct (x ∷ xs) = AllOf (λ y. y ≢ x) xs × IsDistinct xs

-- a view that is not spent of which this holds
pub record SomeView (P : View → Type 0) (vs : List View) : Type 0 where
  pub index : ℕ
  pub view : View
  pub here : At vs index view
  pub is_open : view.spent ≡ false
  pub holds : P view

-- no two views have one number
abbrev pub Apart : List View → Type 0
Apart vs =
    (i j : ℕ) (v w : View) → At vs i v → At vs j w → v.spent ≡ false → w.spent ≡ false → v.number ≡ w.number → i ≡ j

-- each seat that was made, but this one, was taken in
abbrev pub OthersTaken : (seats number : ℕ) → Splitting → List ℕ → Type 0
OthersTaken seats number splitting taken_in = (s : ℕ) → s < made_within seats splitting → (s ≡ number) ⊎ Has s taken_in

-- no other seat is open, as the view can tell
abbrev pub IsAlone : View → Type 0
IsAlone v = OthersTaken v.size.seats v.number v.splitting v.clock.taken_in
