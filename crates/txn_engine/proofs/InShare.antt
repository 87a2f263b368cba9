-- Where a new seat looks for places of the pool.
use Rattle.std.proofs.Common.{◌≡◌, ap, ◌∙◌, sym, subst, inl, inr}
use Rattle.seat_post.specs.Seats.{Observed, nothing_observed}
use Rattle.seat_post.specs.Observing.{with_loss}
use Rattle.txn_engine.specs.Pass.{PassView, bare}
use Rattle.txn_engine.specs.Sharing.{MeetsTaken, LooksInShare, SawAtMost}

-- what it shows beside stays
pub bare_looks : (p q : PassView) → LooksInShare p q → bare q ≡ bare p
bare_looks p q (inl same) = ap bare same
bare_looks p q (inr looks) = ap bare looks.1

-- and one that came upon nothing has come upon no more than that place
pub saw_at_most : (p q : PassView) → p.observed ≡ nothing_observed → LooksInShare p q → SawAtMost q
saw_at_most p q none (inl same) = inl (ap (λ (x : PassView). x.observed) same ∙ none)
saw_at_most p q none (inr looks) =
    let taken = looks.0 in
    inr (subst (λ (x : PassView). MeetsTaken x nothing_observed q.observed) (sym looks.1) (record {
      three = taken.three;
      exchange = taken.exchange;
      not_free = taken.not_free;
      lost = taken.lost ∙ ap (λ (o : Observed). with_loss o taken.exchange) none;
    }))
