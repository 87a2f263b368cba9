-- That a seat is alone, as it is computed and as the rule has it.
use Rattle.std.proofs.Common.{◌≡◌, ℕ, zero, suc, ◌<◌, true, eqb, List, [], ◌∷◌, refl, sym, subst, inl, inr, ◌⊎◌, arith, eq-eqb, eqb-true}
use Rattle.std.specs.Prelude.{◌||◌}
use Rattle.std.specs.List.{list_any}
use Rattle.std.proofs.lemmas.Bool.{and_parts, and_from, or_cases, or_left, or_right}
use Rattle.std.proofs.lemmas.Bool.Decides.{eqb_tells}
use Rattle.core_rule.specs.View.{View}
use Rattle.core_rule.specs.Views.{Has, IsAlone}
use Rattle.core_rule.specs.Offers.{made_within}
use Rattle.seat_post.specs.Seats.{Others, all_taken, IsAloneAt}

-- the seats that a view takes as open
abbrev pub others_of : View → Others
others_of v = record { splitting = v.splitting; taken_in = v.clock.taken_in }

pub has_any : (s : ℕ) (xs : List ℕ) → list_any (eqb s) xs ≡ true → Has s xs
has_any s [] on = cc
has_any s (x ∷ xs) on = elim (or_cases (eqb s x) (list_any (eqb s) xs) on) as (λ _. Has s (x ∷ xs)) [ inl e ↦ inl (sym (eqb-true s x e)) | inr more ↦ inr (has_any s xs more) ]

pub any_has : (s : ℕ) (xs : List ℕ) → Has s xs → list_any (eqb s) xs ≡ true
any_has s [] has = absurd has
any_has s (x ∷ xs) (inl same) = or_left (eqb s x) _ (eq-eqb s x (sym same))
any_has s (x ∷ xs) (inr more) = or_right (eqb s x) _ (any_has s xs more)

taken_told : (made seat : ℕ) (taken_in : List ℕ) → all_taken made seat taken_in ≡ true → (s : ℕ) → s < made → (s ≡ seat) ⊎ Has s taken_in
taken_told zero seat taken_in on s below = absurd (omega arith)
taken_told (suc m) seat taken_in on s below =
    let parts = and_parts _ (all_taken m seat taken_in) on in
    elim (eqb_tells s m) as (λ _. (s ≡ seat) ⊎ Has s taken_in) [
      | inl t ↦ subst (λ (n : ℕ). (n ≡ seat) ⊎ Has n taken_in) (sym t.1) (elim (or_cases (eqb m seat) (list_any (eqb m) taken_in) parts.0) as (λ _. (m ≡ seat) ⊎ Has m taken_in) [ inl e ↦ inl (eqb-true m seat e) | inr any ↦ inr (has_any m taken_in any) ])
      | inr t ↦ taken_told m seat taken_in parts.1 s (let apart = t.1 in omega arith)
    ]

-- a seat that is alone as it is computed is alone
pub alone_told : (v : View) → IsAloneAt v.size v.number (others_of v) → IsAlone v
alone_told v on = taken_told (made_within v.size.seats v.splitting) v.number v.clock.taken_in on

pub taken_all : (made seat : ℕ) (taken_in : List ℕ) → ((s : ℕ) → s < made → (s ≡ seat) ⊎ Has s taken_in) → all_taken made seat taken_in ≡ true
taken_all zero seat taken_in told = refl
taken_all (suc m) seat taken_in told =
    let here = elim (told m (omega arith)) as (λ _. (eqb m seat || list_any (eqb m) taken_in) ≡ true) [ inl same ↦ or_left _ _ (eq-eqb m seat same) | inr has ↦ or_right (eqb m seat) _ (any_has m taken_in has) ] in
    and_from _ (all_taken m seat taken_in) here (taken_all m seat taken_in (λ s below. told s (omega arith)))

-- and the other way round
pub alone_shown : (v : View) → IsAlone v → IsAloneAt v.size v.number (others_of v)
alone_shown v told = taken_all (made_within v.size.seats v.splitting) v.number v.clock.taken_in told
