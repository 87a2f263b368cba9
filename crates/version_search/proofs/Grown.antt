-- The lists of what was seen, from call to call.
use Rattle.std.proofs.Common.{◌≡◌, List, [], ◌∷◌, ◌++◌, append_assoc, append-nil, sym, ap, ◌∙◌}
use Rattle.word_layout.specs.Name.{wts}
use Rattle.core_rule.specs.Paths.{load}
use Rattle.core_rule.specs.View.{View, Write, Load, Seen}
use Rattle.version_search.specs.Growing.{Grows}
use Rattle.version_search.specs.Links.{IsLinked}

pub grows_none : (s : Seen) → Grows s s
grows_none s = record { loaded = []; missed = []; loads = sym (append-nil s.loads); lost = sym (append-nil s.lost) }

pub grows_both : (s t u : Seen) → Grows s t → Grows t u → Grows s u
grows_both s t u a b = record {
  loaded = a.loaded ++ b.loaded;
  missed = a.missed ++ b.missed;
  loads = b.loads ∙ ap (λ (x : List Load). x ++ b.loaded) a.loads ∙ append_assoc s.loads a.loaded b.loaded;
  lost = b.lost ∙ ap (λ (x : List Load). x ++ b.missed) a.lost ∙ append_assoc s.lost a.missed b.missed;
}

-- by loads alone; by lost exchanges alone; and by neither
pub grows_loads : (s t : Seen) (ls : List Load) → t.loads ≡ s.loads ++ ls → t.lost ≡ s.lost → Grows s t
grows_loads s t ls e f = record { loaded = ls; missed = []; loads = e; lost = f ∙ sym (append-nil s.lost) }

pub grows_lost : (s t : Seen) (ls : List Load) → t.loads ≡ s.loads → t.lost ≡ s.lost ++ ls → Grows s t
grows_lost s t ls e f = record { loaded = []; missed = ls; loads = e ∙ sym (append-nil s.loads); lost = f }

pub grows_same : (s t : Seen) → t.loads ≡ s.loads → t.lost ≡ s.lost → Grows s t
grows_same s t e f = grows_lost s t [] e (f ∙ sym (append-nil s.lost))

-- where a version was linked
pub linked_grows : (u : Write) (v w : View) → IsLinked u v w → Grows v.seen w.seen
linked_grows u v w l = let d = l.descends in record { loaded = d.loaded ++ load (wts d.place) d.version ∷ []; missed = d.missed; loads = d.loads; lost = d.lost }
