-- The passes that a share gives.
use Rattle.std.proofs.Common.{◌≡◌, ℕ, ◌-◌, List, [], ◌∷◌, map, All, ap, sym, refl, ◌∙◌}
use Rattle.std.specs.List.{range_with_len}
use Rattle.std.proofs.lemmas.List.Elements.{All-nil, All-cons}
use Rattle.txn_engine.specs.Pass.{EngineView, PassView, bare, engine_of, desk_of}
use Rattle.txn_engine.specs.Sharing.{share_at, first_share, announced, shares}
use Rattle.program_rows.specs.Seats.{IsSeat}

-- what two passes have in common that differ in their snapshots alone
seat_by : (e : EngineView) (p x q : PassView) → IsSeat e p → bare x ≡ q → engine_of q ≡ engine_of p → desk_of q ≡ desk_of p → q.clock ≡ p.clock → IsSeat e x
seat_by e p x q seat is engine desk clock = record {
  engine_is = ap engine_of is ∙ engine ∙ seat.engine_is;
  idle = ap desk_of is ∙ desk ∙ seat.idle;
  clock = ap (λ (r : PassView). r.clock) is ∙ clock ∙ seat.clock;
}

others_are : (e : EngineView) (p : PassView) (xs : List PassView) (seats : List ℕ) → IsSeat e p → map bare xs ≡ map (share_at (announced p)) seats → All (IsSeat e) xs
others_are e p [] seats seat is = All-nil (IsSeat e)
others_are e p (x ∷ xs) [] seat is = cc
others_are e p (x ∷ xs) (s ∷ seats) seat is =
    let head : bare x ≡ share_at (announced p) s = cc in
    let tail : map bare xs ≡ map (share_at (announced p)) seats = cc in
    All-cons (IsSeat e) x xs (seat_by e p x (share_at (announced p) s) seat head refl (sym seat.idle) refl) (others_are e p xs seats seat tail)

-- each pass that a share gives is of the engine, with nothing in flight, at the clock of the one that was shared
pub shares_are : (e : EngineView) (p : PassView) (xs : List PassView) → IsSeat e p → map bare xs ≡ shares p → All (IsSeat e) xs
shares_are e p [] seat is = All-nil (IsSeat e)
shares_are e p (x ∷ xs) seat is =
    let head : bare x ≡ first_share (announced p) = cc in
    let seats = range_with_len 1 (p.shared.size.seats - 1) in
    let tail : map bare xs ≡ map (share_at (announced p)) seats = cc in
    All-cons (IsSeat e) x xs (seat_by e p x (first_share (announced p)) seat head refl refl refl) (others_are e p xs seats seat tail)
