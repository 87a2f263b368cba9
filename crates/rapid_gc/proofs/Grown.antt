-- What a collection adds to the lists of what was seen.
use Rattle.std.proofs.Common.{◌≡◌, Bool, true, false, cond, List, [], ◌∷◌, ◌++◌, append_assoc, append-nil, refl, sym, ap, ◌∙◌}
use Rattle.std.specs.Prelude.{ℕ, nat_lt}
use Rattle.stamp_base.specs.Stamp.{bound_of_clock}
use Rattle.core_rule.specs.View.{View, Load, Seen}
use Rattle.clock_stamps.specs.Clocks.{rests}
use Rattle.clock_stamps.specs.Minima.{Raises, loads_from, bounded}
use Rattle.word_layout.specs.Name.{Name, published_write, published_read, min_write, min_read}
use Rattle.core_rule.specs.Paths.{load}
use Rattle.rapid_gc.specs.declared.queue.Queued.{Queued}
use Rattle.rapid_gc.specs.declared.fate.Fate.{Fate}
use Rattle.rapid_gc.specs.declared.fate.Fate.TheVariants.{Late, Locked, Dropped, Cut as CutBelow}
use Rattle.rapid_gc.specs.declared.collecting.Collected.{Collected}
use Rattle.rapid_gc.specs.Ends.{Ended, Goes, not_begun, goes_on, Became}
use Rattle.rapid_gc.specs.Collections.{idled, Collects}

-- what was loaded, and which exchanges were lost
pub record Adds (s t : Seen) : Type 0 where
  pub loads : (added : List Load) × (t.loads ≡ s.loads ++ added)
  pub lost : (added : List Load) × (t.lost ≡ s.lost ++ added)

adds_both : (s t u : Seen) → Adds s t → Adds t u → Adds s u
adds_both s t u a b = record {
  loads = (a.loads.0 ++ b.loads.0, b.loads.1 ∙ ap (λ (x : List Load). x ++ b.loads.0) a.loads.1 ∙ append_assoc s.loads a.loads.0 b.loads.0);
  lost = (a.lost.0 ++ b.lost.0, b.lost.1 ∙ ap (λ (x : List Load). x ++ b.lost.0) a.lost.1 ∙ append_assoc s.lost a.lost.0 b.lost.0);
}

adds_loads : (s t : Seen) (ls : List Load) → t.loads ≡ s.loads ++ ls → t.lost ≡ s.lost → Adds s t
adds_loads s t ls e f = record { loads = (ls, e); lost = ([], f ∙ sym (append-nil s.lost)) }

adds_same : (s t : Seen) → t ≡ s → Adds s t
adds_same s t e = adds_loads s t [] (ap (λ (x : Seen). x.loads) e ∙ sym (append-nil s.loads)) (ap (λ (x : Seen). x.lost) e)

raises_adds : (family : ℕ → Name) (minimum : Name) (own : ℕ) (v : View) (result : ℕ) (w : View) → Raises family minimum own v result w → Adds v.seen w.seen
raises_adds family minimum own v result w r =
    adds_loads v.seen w.seen (loads_from family 0 r.words ++ load minimum r.found ∷ [])
    (ap (λ (x : Seen). x.loads) r.seen ∙ append_assoc v.seen.loads (loads_from family 0 r.words) (load minimum r.found ∷ [])) (ap (λ (x : Seen). x.lost) r.seen)

became_adds : (reached : ℕ) (i : Queued) (f : Fate) (v w : View) → Became reached i f v w → Adds v.seen w.seen
became_adds reached i Late v w h = adds_same v.seen w.seen (ap (λ (x : View). x.seen) h.1)
became_adds reached i Locked v w h = record { loads = ([], h.1.loads ∙ sym (append-nil v.seen.loads)); lost = (_, h.1.lost) }
became_adds reached i Dropped v w h = adds_loads v.seen w.seen _ h.1.loads h.1.lost
became_adds reached i CutBelow v w h =
    let u = h.1.under_lock in
    adds_both v.seen u.seen w.seen (adds_loads v.seen u.seen _ h.1.loads h.1.lost) (adds_loads u.seen w.seen _ (h.1.cuts.loads ∙ ap (λ (ls : List Load). ls ++ h.1.cuts.links) h.1.cuts.finds.loads ∙ append_assoc u.seen.loads _ h.1.cuts.links) h.1.cuts.lost)

pub goes_adds : (reached : ℕ) (es : List Ended) (v w : View) → Goes reached es v w → Adds v.seen w.seen
goes_adds reached _ _ _ (not_begun v) = adds_same v.seen v.seen refl
goes_adds reached _ _ _ (goes_on es e v w x g b) = adds_both v.seen w.seen x.seen (goes_adds reached es v w g) (became_adds reached e.item e.end w x b)

idled_seen : (v : View) (t : Bool) → (cond t (rests v) v).seen ≡ v.seen
idled_seen v true = refl
idled_seen v false = refl

pub collects_adds : (before : View) (items items' : List Queued) (after' : View) (tally : Collected) → Collects before items items' after' tally → Adds before.seen after'.seen
collects_adds before items items' after' tally c =
    let p = c.prepares in let r = p.raised in let b = bounded r p.bound in
    let first = adds_same before.seen (idled before).seen (idled_seen before (nat_lt before.published.write (bound_of_clock before.clock.clock))) in
    let second = raises_adds published_write min_write (idled before).published.write (idled before) p.least r p.raises_writes in
    let third = adds_loads r.seen b.seen _ refl refl in
    let fourth = raises_adds published_read min_read p.bound b after'.reached c.prepared p.raises_reads in
    let fifth = goes_adds after'.reached c.goes_through.ended c.prepared after' c.goes_through.goes in
    adds_both before.seen (idled before).seen after'.seen first (adds_both (idled before).seen r.seen after'.seen second
    (adds_both r.seen b.seen after'.seen third (adds_both b.seen c.prepared.seen after'.seen fourth fifth)))
