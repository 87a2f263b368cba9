-- What a search has found was written by an entry, and no settled entry has written above it. So the reads of a snapshot in flight
-- obey the write before.
use Rattle.std.proofs.Common.{◌≡◌, ℕ, suc, ◌<◌, ◌≤◌, true, false, List, refl, sym, ◌∙◌, subst, inl, inr, ⊎_elim, arith}
use mathlib.Core.Logic.{dite}
use native.Mathlib.Decide.{dec_lt}
use Rattle.plain_data.specs.State.{State}
use Rattle.word_layout.specs.Size.{Size}
use Rattle.core_rule.specs.Memory.{Memory, stored}
use Rattle.core_rule.specs.World.{World}
use Rattle.core_rule.specs.View.{View, Flight, resting, Read, Write, Logged}
use Rattle.core_rule.specs.Views.{At, Has, Among, SomeView}
use Rattle.core_rule.specs.Rule.{Rule, status_words, floor_words}
use Rattle.core_rule.specs.Searching.{limit_of, IsWhole, shown_at}
use Rattle.core_rule.specs.Deciding.{snapshot_of}
use Rattle.core_rule.specs.Entries.{Wrote, Sourced, WriteBefore}
use Rattle.core_rule.specs.Parts.Searches.{IsKept}
use Rattle.core_rule.specs.Parts.Reads.{ReadOk}
use Rattle.core_rule.specs.Parts.Values.{IsInstalled, Publishes}
use Rattle.core_rule.proofs.Proper.{same_value, shown_true}

module _ (kept : State → Type 0) (z : Size) (g : World) (m : Memory) (vs : List View) (rule : Rule kept z g m vs) where
  abbrev S : ℕ → ℕ
  S = (stored m).stamps

  abbrev C : ℕ → ℕ → ℕ
  C = (stored m).cells

  abbrev T : ℕ → ℕ
  T = status_words m

  -- what was read was written by an entry
  pub source_of : (limit settled : ℕ) (d : Read) → ReadOk z g.lists S C T limit settled d → IsWhole d → Sourced vs d
  source_of limit settled d o whole =
      let final = o.final in let st = o.status in let is = o.version in
      dite (dec_lt 0 d.version)
      (λ pos.
      let w = rule.values.each d.record_number d.place o.kept.on_record o.kept.there (omega arith, omega arith) (omega arith) in
      inr record { entry = w.entry; write = w.write; wrote = w.wrote; stamp = w.stamp ∙ is; value = same_value (C d.place) d w.write.cells whole o.value w.whole w.value (sym st ∙ w.shows) })
      (λ no.
      let base = (rule.versions.each d.record_number d.place o.kept.on_record o.kept.there).base (omega arith) in
      let four : d.status ≡ 4 = sym st ∙ base in inl (omega arith, rw four refl))

  module _ (id : ℕ) (v : View) (at : At vs id v) (live : v.spent ≡ false) where
    -- where a search stands is at or above the floor
    pub above_floor : (r q : ℕ) → IsKept z g.lists S T v.published.read r q → floor_words m r ≤ S q
    above_floor r q o =
        let l = rule.lists.each r o.on_record in let b = l.base in
        let settled = l.settled in let reads = (rule.minima.each id v at live).reads in let at_floor = b.stamp in
        dite (dec_lt (S q) (floor_words m r))
        (λ lt. absurd (let five : T b.place ≡ 5 = o.above b.place b.there (omega arith) (omega arith) in let final = b.final in omega arith))
        (λ no. omega arith)

    -- no settled entry has written above it
    pub settled_below : (r q : ℕ) → IsKept z g.lists S T v.published.read r q → (c : Logged) (x : Write) → Wrote vs r c x → c.stamp ≤ v.published.read → c.stamp ≤ S q
    settled_below r q o c x w le = ⊎_elim
        (λ (low : c.stamp < floor_words m r). let f = above_floor r q o in omega arith)
        (λ (i : IsInstalled g.lists S C T vs c.stamp x). dite (dec_lt (S q) c.stamp)
        (λ over. absurd (let is = i.stamp in
        let five : T x.place ≡ 5 = o.above x.place (subst (λ (y : ℕ). Has x.place (g.lists y)) w.of_record i.there) (omega arith) (omega arith) in
        let last = shown_true x.cells in
        ⊎_elim (λ (f : T x.place ≡ shown_at true x.cells). absurd (omega arith)) (λ (f : (T x.place ≡ 2) × SomeView (Publishes c.stamp x) vs). let two = f.0 in absurd (omega arith)) i.shows))
        (λ no. omega arith))
        (rule.values.installed r c x w).1

    -- the reads of a snapshot in flight obey the write before, as those of an entry at its stamp
    pub snapshot_obeys : v.flight ≡ resting → (d : Read) → Among d v.work.reads → IsWhole d → (ds : List Read) → WriteBefore vs (snapshot_of v.published.read ds) d
    snapshot_obeys rests d among whole ds =
        let o = (rule.reads id v at live).found_ok d among in
        let early : d.version < suc v.published.read = subst (λ (f : Flight). d.version < limit_of f v.published.read) rests o.early in record {
          source = source_of (limit_of v.flight v.published.read) v.published.read d o whole;
          before = omega arith;
          last = λ c x w le. let is = o.version in let below = settled_below d.record_number d.place o.kept c x w le in omega arith;
        }
