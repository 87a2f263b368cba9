-- What the steps of a seat came upon, where more was added.
use Rattle.std.proofs.Common.{◌≡◌, List, [], ◌++◌, append_assoc, append-nil, sym, ap, ◌∙◌, subst}
use Rattle.core_rule.specs.View.{Load}
use Rattle.seat_post.specs.Observing.{Grows}
use Rattle.seat_post.specs.Seats.{Observed}

pub grows_none : (o : Observed) → Grows o o
grows_none o = record { loaded = []; missed = []; loads = sym (append-nil o.loads); lost = sym (append-nil o.lost) }

pub grows_same : (o p : Observed) → p ≡ o → Grows o p
grows_same o p same = subst (λ (x : Observed). Grows o x) (sym same) (grows_none o)

pub grows_both : (o p q : Observed) → Grows o p → Grows p q → Grows o q
grows_both o p q a b = record {
  loaded = a.loaded ++ b.loaded;
  missed = a.missed ++ b.missed;
  loads = b.loads ∙ ap (λ (x : List Load). x ++ b.loaded) a.loads ∙ append_assoc o.loads a.loaded b.loaded;
  lost = b.lost ∙ ap (λ (x : List Load). x ++ b.missed) a.lost ∙ append_assoc o.lost a.missed b.missed;
}
