-- A step of one kind by one seat, while the rule holds: what each part's lemma is given.
use Rattle.std.proofs.Common.{◌≡◌, ◌≢◌, ℕ, ◌<◌, true, false, Bool, cond, eqb, List, refl, sym, ap, eq-eqb, eqb-true, ne_eqb}
use Rattle.std.specs.Prelude.{nat_lt}
use Rattle.std.proofs.lemmas.Bool.Decides.{Decides-ltb}
use Rattle.plain_data.specs.State.{State}
use Rattle.word_layout.specs.Size.{Size}
use Rattle.core_rule.specs.View.{View}
use Rattle.core_rule.specs.Views.{At}
use Rattle.core_rule.specs.Memory.{Memory}
use Rattle.core_rule.specs.World.{World, at_number}
use Rattle.core_rule.specs.Kinds.{Kind, name, Allowed}
use Rattle.core_rule.specs.Rule.{Rule}

pub record Step (kept : State → Type 0) (z : Size) (g : World) (m : Memory) (vs : List View) (id : ℕ) (v : View) (k : Kind) : Type 0 where
  pub rule : Rule kept z g m vs
  pub at : At vs id v
  pub allowed : Allowed kept k v
  pub fits : m (name k v) < 18446744073709551616

-- what the function has at one number is another, elsewhere it is the same
pub at_number-other : {A : Type 0} (f : ℕ → A) (i k : ℕ) (a : A) → i ≢ k → at_number f i a k ≡ f k
at_number-other f i k a ne = rw (ne_eqb i k ne)

pub at_number-same : {A : Type 0} (f : ℕ → A) (i : ℕ) (a : A) → at_number f i a i ≡ a
at_number-same f i a = rw (eq-eqb i i refl)

-- what the function has where one number was changed, by cases
module _ {A B : Type 0} (f : ℕ → A) (g : ℕ → B) (i : ℕ) (a : A) (b : B) (k : ℕ) (P : A → B → Type 0) where
  by_test : (i ≡ k → P a b) → (i ≢ k → P (f k) (g k)) → (t : Bool) → eqb i k ≡ t → P (cond t a (f k)) (cond t b (g k))
  by_test here there true e = here (eqb-true i k e)
  by_test here there false e = there (λ same. let t = eq-eqb i k same in cc)

  pub at_both : (i ≡ k → P a b) → (i ≢ k → P (f k) (g k)) → P (at_number f i a k) (at_number g i b k)
  at_both here there = by_test here there (eqb i k) refl

pub at_cases : {A : Type 0} (f : ℕ → A) (i : ℕ) (a : A) (k : ℕ) (P : A → Type 0) → (i ≡ k → P a) → (i ≢ k → P (f k)) → P (at_number f i a k)
at_cases {A} f i a k P here there = at_both f f i a a k (λ x y. P x) here there

-- nothing changes where a number is given what it has
pub at_number-stays : {A : Type 0} (f : ℕ → A) (i k : ℕ) → at_number f i (f i) k ≡ f k
at_number-stays f i k = at_cases f i (f i) k (λ x. x ≡ f k) (λ e. ap f e) (λ ne. refl)

-- a test that is passed
pub ltb-true_from : (a b : ℕ) → a < b → nat_lt a b ≡ true
ltb-true_from a b h = (Decides-ltb a b).1 h

module _ (kept : State → Type 0) (z : Size) (g : World) (m : Memory) (vs : List View) (id : ℕ) (v : View) (k : Kind) (s : Step kept z g m vs id v k) where
  pub differs : (i : ℕ) (u : View) → i ≢ id → At vs i u → u.spent ≡ false → v.number ≢ u.number
  differs i u ne at live e = ne (sym (s.rule.seats.apart id i v u s.at at s.allowed.is_open live e))
