-- What is collected stands in its record's list: the search for it always goes on.
use Rattle.std.proofs.Common.{◌≡◌, ℕ, ◌<◌, ◌≤◌, List, [], ◌∷◌, true, sym, ◌∙◌, subst, ⊎_elim, arith}
use Rattle.plain_data.specs.State.{State}
use Rattle.word_layout.specs.Size.{Size}
use Rattle.word_layout.specs.Name.{head, status, next as next_word}
use Rattle.core_rule.specs.Memory.{Memory, stored}
use Rattle.core_rule.specs.World.{World}
use Rattle.core_rule.specs.View.{View, Stage, passes}
use Rattle.core_rule.specs.Views.{Has, SomeView}
use Rattle.core_rule.specs.Searching.{IsFinal, shown_at}
use Rattle.core_rule.specs.Kinds.{Kind, seek_next}
use Rattle.core_rule.specs.Rule.{status_words, floor_words}
use Rattle.core_rule.specs.Parts.Items.{InWork, IsVersion}
use Rattle.core_rule.specs.Parts.Values.{Publishes, IsInstalled}
use Rattle.core_rule.proofs.Step.{Step}
use Rattle.core_rule.proofs.Listed.{Follows, below}
use Rattle.core_rule.proofs.Collected.{work_of}
use Rattle.core_rule.proofs.Working.{late_of}

module _ (kept : State → Type 0) (z : Size) (g : World) (m : Memory) (vs : List View) (id : ℕ) (v : View) where
  abbrev S : ℕ → ℕ
  S = (stored m).stamps

  -- a version of this stamp stands in the list of record r, committed or deleted
  pub record Stood (r c : ℕ) : Type 0 where
    pub place : ℕ
    pub version : IsVersion (g.lists r) S (status_words m) c place

  pub stood : (k : Kind) → Step kept z g m vs id v k → (r c : ℕ) (stage : Stage) → InWork z g.lists (floor_words m) (stored m) (status_words m) v.reached v.log r c stage → floor_words m r ≤ c → Stood r c
  stood k s r c stage w high =
      let e = w.entered in
      let at_stamp = e.at in
      let i = (s.rule.values.installed r e.entry e.write record {
        logged = record { index = id; view = v; here = s.at; is_open = s.allowed.is_open; among = e.among };
        commit = e.commit;
        among = e.writes;
        of_record = e.of_record;
      }).1 in
      ⊎_elim (λ (low : e.entry.stamp < floor_words m r). absurd (omega arith))
      (λ (h : IsInstalled g.lists S (stored m).cells (status_words m) vs e.entry.stamp e.write). record {
        place = e.write.place;
        version = record {
          there = subst (λ (y : ℕ). Has e.write.place (g.lists y)) e.of_record h.there;
          stamp_is = h.stamp ∙ at_stamp;
          final = ⊎_elim (λ (shows : m (status e.write.place) ≡ shown_at true e.write.cells). final_of shows)
              (λ (two : (m (status e.write.place) ≡ 2) × SomeView (Publishes e.entry.stamp e.write) vs).
              absurd (let y = two.1 in let late = late_of kept z g m vs id v k s y.index y.view y.here y.is_open e.entry.stamp y.holds.in_flight in
              let b = s.rule.minima.reads_below in let early = w.early in let reached = (s.rule.items id v s.at s.allowed.is_open).reached in omega arith)) h.shows;
        };
      }) i where
        final_of : m (status w.entered.write.place) ≡ shown_at true w.entered.write.cells → IsFinal (m (status w.entered.write.place))
        final_of shows = subst IsFinal (sym shows) (by_cells w.entered.write.cells) where
          by_cells : (xs : List ℕ) → IsFinal (shown_at true xs)
          by_cells [] = (omega arith, omega arith)
          by_cells (x ∷ xs) = (omega arith, omega arith)

  -- the place behind one that the search for it leaves
  pub sought_next : (r c p w : ℕ) (s : Step kept z g m vs id v (seek_next r c p w)) → Follows S (g.lists r) (m (next_word p)) p (stood (seek_next r c p w) s r c (passes p w) (work_of kept z g m vs s.rule id v s.at s.allowed.is_open r c (passes p w) s.allowed.can) (work_of kept z g m vs s.rule id v s.at s.allowed.is_open r c (passes p w) s.allowed.can).at.0).place
  sought_next r c p w s =
      let o = work_of kept z g m vs s.rule id v s.at s.allowed.is_open r c (passes p w) s.allowed.can in
      let l = s.rule.lists.each r o.on_record in
      let n = stood (seek_next r c p w) s r c (passes p w) o o.at.0 in
      let is = n.version.stamp_is in let lt = o.at.2 in let here = o.at.3 in
      below S (stored m).links (g.lists r) (m (head r)) p n.place l.spelled l.falls o.at.1 n.version.there (omega arith)
