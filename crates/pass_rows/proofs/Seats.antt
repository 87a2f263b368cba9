-- The seats that come together.
use Rattle.std.proofs.Common.{◌≡◌, ℕ, ◌+◌, ◌-◌, List, [], ◌∷◌, ◌++◌, length, map, IsPermutation, sym, ap, subst, ◌∙◌, arith, length-append}
use Rattle.std.specs.List.{range_with_len}
use Rattle.std.proofs.lemmas.List.{map-append, map-id}
use Rattle.std.proofs.lemmas.List.FromFn.{map-range_with_len_more}
use Rattle.std.proofs.lemmas.List.Sorted.{IsPermutation-refl}
use Rattle.txn_engine.specs.Pass.{EngineView}
use Rattle.txn_engine.specs.Joining.{AreOfEngine}
use Rattle.txn_engine.specs.Retired.{RetiredView}

pub of_engine-snoc : (engine : EngineView) (rs : List RetiredView) (r : RetiredView) → AreOfEngine engine rs → r.engine ≡ engine → AreOfEngine engine (rs ++ r ∷ [])
of_engine-snoc engine [] r all is = (is, tt)
of_engine-snoc engine (x ∷ rs) r all is = (all.0, of_engine-snoc engine rs r all.1 is)

-- the seats of a list are numbered from 1 on
pub numbers-snoc : (rs : List RetiredView) (r : RetiredView) → map (λ (x : RetiredView). x.seat) rs ≡ map (λ (n : ℕ). n) (range_with_len 1 (length rs)) → r.seat ≡ length rs + 1 → map (λ (x : RetiredView). x.seat) (rs ++ r ∷ []) ≡ map (λ (n : ℕ). n) (range_with_len 1 (length (rs ++ r ∷ [])))
numbers-snoc rs r numbers is =
    map-append (λ (x : RetiredView). x.seat) rs (r ∷ [])
    ∙ ap (λ (xs : List ℕ). xs ++ r.seat ∷ []) numbers
    ∙ sym (map-range_with_len_more (λ (n : ℕ). n) 1 (length rs) r.seat (omega (arith, is)))
    ∙ ap (λ (n : ℕ). map (λ (m : ℕ). m) (range_with_len 1 n)) (sym (length-append rs (r ∷ [])))

-- they are all seats but the first, where the engine has one more
pub others_by_number : (rs : List RetiredView) (seats : ℕ) → map (λ (x : RetiredView). x.seat) rs ≡ map (λ (n : ℕ). n) (range_with_len 1 (length rs)) → seats ≡ length rs + 1 → IsPermutation (map (λ (x : RetiredView). x.seat) rs) (range_with_len 1 (seats - 1))
others_by_number rs seats numbers is =
    let count : length rs ≡ seats - 1 = omega (arith, is) in
    let all : map (λ (x : RetiredView). x.seat) rs ≡ range_with_len 1 (seats - 1) = numbers ∙ map-id (range_with_len 1 (length rs)) ∙ ap (range_with_len 1) count in
    subst (λ (xs : List ℕ). IsPermutation xs (range_with_len 1 (seats - 1))) (sym all) (IsPermutation-refl (range_with_len 1 (seats - 1)))
