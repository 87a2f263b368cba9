-- What a share of an engine gives.
use Rattle.std.proofs.Common.{◌≡◌, ℕ, ◌-◌, List, [], ◌∷◌, map, refl, sym, ap, subst, ◌∙◌}
use Rattle.std.specs.List.{range_with_len, AllByRecursion}
use Rattle.txn_engine.specs.Pass.{PassView, IsIdle, bare, engine_of}
use Rattle.txn_engine.specs.Sharing.{announced, share_at, first_share, shares}
use Rattle.lane_threads.specs.Shares.{SharesAreAll}
use Rattle.lane_threads.proofs.Together.{range_first}

pub each_bare : (P : PassView → Type 0) (passes : List PassView) → ((q : PassView) → P (bare q) → P q) → AllByRecursion P (map bare passes) → AllByRecursion P passes
each_bare P [] stays all = tt
each_bare P (q ∷ passes) stays all = (stays q all.0, each_bare P passes stays all.1)

pub each_share : (P : PassView → Type 0) (p : PassView) (seats : List ℕ) → ((seat : ℕ) → P (share_at p seat)) → AllByRecursion P (map (share_at p) seats)
each_share P p [] each = tt
each_share P p (seat ∷ seats) each = (each seat, each_share P p seats each)

-- what holds of each share holds of each pass
pub each_pass : (P : PassView → Type 0) (p : PassView) (passes : List PassView) → ((q : PassView) → P (bare q) → P q) → map bare passes ≡ shares p
    → P (first_share (announced p)) → ((seat : ℕ) → P (share_at (announced p) seat)) → AllByRecursion P passes
each_pass P p passes stays are first each = each_bare P passes stays (subst (AllByRecursion P) (sym are) (first, each_share P (announced p) (range_with_len 1 (p.shared.size.seats - 1)) each))

seats_bare : (passes : List PassView) → map (λ (q : PassView). q.seat) (map bare passes) ≡ map (λ (q : PassView). q.seat) passes
seats_bare [] = refl
seats_bare (q ∷ passes) = ap (λ (seats : List ℕ). q.seat ∷ seats) (seats_bare passes)

seats_shared : (p : PassView) (seats : List ℕ) → map (λ (q : PassView). q.seat) (map (share_at p) seats) ≡ seats
seats_shared p [] = refl
seats_shared p (seat ∷ seats) = ap (λ (more : List ℕ). seat ∷ more) (seats_shared p seats)

pub shares_are_all : SharesAreAll
shares_are_all p passes some idle first are = (
  record {
    engines = each_pass (λ q. engine_of q ≡ engine_of p) p passes (λ q is. is) are refl (λ seat. refl);
    idle = each_pass IsIdle p passes (λ q is. is) are idle (λ seat. refl);
    seats = sym (seats_bare passes) ∙ ap (map (λ (q : PassView). q.seat)) are ∙ (λ i. first i ∷ seats_shared (announced p) (range_with_len 1 (p.shared.size.seats - 1)) i) ∙ sym (range_first p.shared.size.seats some);
  },
  each_pass (λ q. q.clock ≡ p.clock) p passes (λ q is. is) are refl (λ seat. refl),
)
