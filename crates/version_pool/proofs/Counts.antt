-- Where a seat that is alone has met each usable place not free.
use Rattle.std.proofs.Common.{◌≡◌, ℕ, ◌≤◌, List, [], ◌∷◌, ◌++◌, drop, length, refl, sym, ◌∙◌, subst, inl, inr}
use Rattle.std.proofs.lemmas.List.{drop-append-le}
use Rattle.word_layout.specs.Size.{Size, IsUsable}
use Rattle.core_rule.specs.View.{View, Load}
use Rattle.core_rule.specs.Views.{Among, OthersTaken}
use Rattle.core_rule.specs.Reckoning.{recent, IsMet, ReckonsAt, Reckons}
use Rattle.version_pool.specs.Takes.{after_losing, FindsNone, WasMet, IsFull}

among_later : (x : Load) (xs ys : List Load) → Among x ys → Among x (xs ++ ys)
among_later x [] ys h = h
among_later x (y ∷ xs) ys h = inr (among_later x xs ys h)

-- what was met at a step of the call was met after a place was given back last
met_in : (p : ℕ) (v w : View) → v.seen.since ≤ length v.seen.lost → w.seen.since ≡ v.seen.since → WasMet p v w → IsMet p (recent w.seen)
met_in p v w le same m =
    let rest = m.earlier ++ m.exchange ∷ m.later in
    let is : recent w.seen ≡ drop v.seen.since v.seen.lost ++ rest = (λ i. drop (same i) (m.seen i)) ∙ drop-append-le v.seen.since v.seen.lost rest le in record {
      exchange = m.exchange;
      among = subst (Among m.exchange) (sym is) (among_later m.exchange (drop v.seen.since v.seen.lost) rest (among_later m.exchange m.earlier (m.exchange ∷ m.later) (inl refl)));
      word = m.not_free.word;
    }

pub full : (z : Size) (ps : List ℕ) (v w : View) → v.size ≡ z → FindsNone ps v w → v.seen.since ≤ length v.seen.lost → Reckons w → ((p : ℕ) → IsUsable z p → WasMet p v w) → IsFull z v
full z ps v w size none le counted met = λ alone rests item n most.
    let x = after_losing v none.lost in
    let at : ReckonsAt z x = subst (λ (y : Size). ReckonsAt y x) size (subst Reckons none.view counted) in
    at (subst (λ (y : Size). OthersTaken y.seats v.number v.splitting v.clock.taken_in) size alone) rests item
    (λ p usable. met_in p v x le refl (subst (WasMet p v) none.view (met p usable))) n most
