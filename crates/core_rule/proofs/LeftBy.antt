-- What a search finds while no other seat is open is what the own log leaves.
use Rattle.std.proofs.Common.{◌≡◌, ◌⊎◌, ℕ, suc, ◌+◌, ◌<◌, ◌≤◌, true, false, List, [], ◌∷◌, ◌++◌, length, refl, sym, ap, ◌∙◌, subst, inl, inr, arith}
use mathlib.Core.Logic.{dite}
use native.Mathlib.Decide.{dec_lt}
use Rattle.plain_data.specs.State.{State}
use Rattle.word_layout.specs.Size.{Size}
use Rattle.word_layout.specs.Name.{status, cell}
use Rattle.word_layout.specs.Limits.{cells_of_value}
use Rattle.core_rule.specs.Memory.{Memory, stored}
use Rattle.core_rule.specs.World.{World}
use Rattle.core_rule.specs.View.{View, Flight, resting, writing, Aim, reads, links, again, checks, Stand, stamped, stands, Read, Write, Logged}
use Rattle.core_rule.specs.Views.{At, Among, OthersTaken}
use Rattle.core_rule.specs.Rule.{Rule, status_words}
use Rattle.core_rule.specs.Searching.{limit_of, IsFinal, AsksStatus, IsLoading, read_place, read_cells, newest, shown_at}
use Rattle.core_rule.specs.Entries.{Wrote}
use Rattle.core_rule.specs.Collecting.{HasEntry}
use Rattle.core_rule.specs.Left.{NoneAbove, IsLeft, LeavesCells}
use Rattle.core_rule.specs.Parts.Searches.{StandOk, SearchOk, IsKept}
use Rattle.core_rule.specs.Parts.Entered.{AimAbove, SearchAbove}
use Rattle.core_rule.specs.Parts.Values.{WrittenBy}
use Rattle.core_rule.proofs.Alone.{as_this}
use Rattle.core_rule.proofs.Sources.{settled_below}
use Rattle.core_rule.proofs.Proper.{CellsAre-one}
use Rattle.core_rule.proofs.Parts.FilledKept.{CellsAre-more}

from_zero : (i : ℕ) → 0 + i ≡ i
from_zero i = omega arith

one_longer : (xs : List ℕ) (x : ℕ) → length (xs ++ x ∷ []) ≡ suc (length xs)
one_longer [] x = refl
one_longer (y ∷ xs) x = let h = one_longer xs x in omega arith

module _ (kept : State → Type 0) (z : Size) (g : World) (m : Memory) (vs : List View) (rule : Rule kept z g m vs) (id : ℕ) (v : View) (at : At vs id v) (live : v.spent ≡ false)
    (alone : OthersTaken z.seats v.number v.splitting v.clock.taken_in) where
  abbrev S : ℕ → ℕ
  S = (stored m).stamps

  abbrev limit : ℕ
  limit = limit_of v.flight v.published.read

  -- an own entry wrote what stands in the place
  abbrev own_entry : (r p x : ℕ) → S p ≡ x → (w : WrittenBy S (stored m).cells (status_words m) vs r p) → HasEntry r x v.log
  own_entry r p x is w = let l = w.wrote.logged in record {
    entry = w.entry;
    among = subst (λ (y : View). Among w.entry y.log) (sym (as_this kept z g m vs rule id v at live l.index l.view l.here l.is_open alone)) l.among;
    commit = w.wrote.commit;
    at = w.stamp ∙ is;
    write = w.write;
    writes = w.wrote.among;
    of_record = w.wrote.of_record;
  }

  own_wrote : (r : ℕ) (e : Logged) (u : Write) → Among e v.log → e.snapshot ≡ false → Among u e.writes → u.record_number ≡ r → Wrote vs r e u
  own_wrote r e u among commit writes of = record { logged = record { index = id; view = v; here = at; is_open = live; among = among }; commit = commit; among = writes; of_record = of }

  -- no own entry stands between a place that is kept and the limit
  none_above : (r q : ℕ) → IsKept z g.lists S (status_words m) v.published.read r q
      → ((t : ℕ) → v.flight ≡ writing t → (e : Logged) (u : Write) → Among e v.log → e.snapshot ≡ false → Among u e.writes → u.record_number ≡ r → e.stamp < t → e.stamp ≤ S q) → NoneAbove v.log r limit (S q)
  none_above r q o flying e u among commit writes of early = by_flight v.flight refl early where
    by_flight : (f : Flight) → v.flight ≡ f → e.stamp < limit_of f v.published.read → e.stamp ≤ S q
    by_flight (writing t) is lt = flying t is e u among commit writes of lt
    by_flight resting is lt = settled_below kept z g m vs rule id v at live r q o e u (own_wrote r e u among commit writes of) (omega arith)

  asks_above : (p : Stand) (r w : ℕ) (aim : Aim) → AsksStatus aim → AimAbove S r w p aim → p.record_number ≡ r → w ≤ S p.place
  asks_above p r w reads asks h = h
  asks_above p r w (links j) asks h = absurd asks
  asks_above p r w (again d) asks h = h
  asks_above p r w (checks u) asks h = h

  pub search_left : (p : Stand) (w : ℕ) → v.work.search ≡ stands p (stamped w) → AsksStatus p.aim → IsFinal (m (status p.place)) → IsLeft v.log p.record_number limit w (m (status p.place))
  search_left p w is asks final =
      let o : StandOk z g.lists S (status_words m) limit v.published.read p (stamped w) = subst (SearchOk z g.lists S (status_words m) limit v.published.read) is (rule.searches id v at live) in
      let seen : S p.place ≡ w = o.seen in
      let last : NoneAbove v.log p.record_number limit w = subst (NoneAbove v.log p.record_number limit) seen (none_above p.record_number p.place o.kept (λ t f e u among commit writes of lt.
      asks_above p u.record_number e.stamp p.aim asks (subst (SearchAbove S u.record_number e.stamp) is (((rule.entered id v at live).commits e among commit).own t f lt u writes).search) (sym of))) in record {
        last = last;
        from = dite (dec_lt 0 w)
            (λ pos. let e = rule.values.each p.record_number p.place o.kept.on_record o.kept.there final (omega arith) in
            inr record { entry = own_entry p.record_number p.place w seen e; shows = e.shows })
            (λ none. let zero_is : w ≡ 0 = omega arith in inl (
              zero_is,
              (rule.versions.each p.record_number p.place o.kept.on_record o.kept.there).base (seen ∙ zero_is),
              λ e u among commit writes of early. let le = last e u among commit writes of early in let positive = ((rule.entered id v at live).commits e among commit).positive in absurd (omega arith),
            ));
      }

  long : (xs : List ℕ) → 3 ≡ shown_at true xs → (xs ≡ []) ⊎ (length xs ≡ cells_of_value) → length xs ≡ cells_of_value
  long [] shows h = absurd (omega arith)
  long (x ∷ xs) shows (inl none) = absurd cc
  long (x ∷ xs) shows (inr count) = count

  pub cells_left : IsLoading v.work.reads → suc (read_cells v.work.reads) ≡ cells_of_value
      → LeavesCells v.log (newest v.work.reads).record_number limit (newest v.work.reads).version ((newest v.work.reads).cells ++ m (cell (read_place v.work.reads) (read_cells v.work.reads)) ∷ [])
  cells_left loading full = by_reads v.work.reads refl loading full where
    by_reads : (ds : List Read) → v.work.reads ≡ ds → IsLoading ds → suc (read_cells ds) ≡ cells_of_value → LeavesCells v.log (newest ds).record_number limit (newest ds).version ((newest ds).cells ++ m (cell (read_place ds) (read_cells ds)) ∷ [])
    by_reads [] is none count = absurd none
    by_reads (d ∷ ds) is three count =
        let n = m (cell d.place (length d.cells)) in
        let first : Among d v.work.reads = subst (Among d) (sym is) (inl refl) in
        let o = (rule.reads id v at live).found_ok d first in
        let st = o.status in let ver = o.version in let final = o.final in
        let there = rule.versions.each d.record_number d.place o.kept.on_record o.kept.there in
        let pos : 0 < S d.place = dite (dec_lt 0 (S d.place)) (λ p. p) (λ not. absurd (let four = there.base (omega arith) in omega arith)) in
        let e = rule.values.each d.record_number d.place o.kept.on_record o.kept.there (omega arith, omega arith) pos in
        let whole = long e.write.cells (sym three ∙ sym st ∙ e.shows) e.whole in
        let stands_there = CellsAre-more ((stored m).cells d.place) ((stored m).cells d.place) n 0 d.cells (λ j lt. refl) (ap ((stored m).cells d.place) (from_zero (length d.cells))) o.value in
        let same = CellsAre-one ((stored m).cells d.place) 0 e.write.cells (d.cells ++ n ∷ []) (whole ∙ sym count ∙ sym (one_longer d.cells n)) e.value stands_there in
        subst (λ (w : ℕ). LeavesCells v.log d.record_number limit w (d.cells ++ n ∷ [])) ver record {
          last = none_above d.record_number d.place o.kept (λ t f c u among commit writes of lt. let below = (((rule.entered id v at live).commits c among commit).own t f lt u writes).reads d first (sym of) in omega arith);
          entry = own_entry d.record_number d.place (S d.place) refl e;
          value = same;
        }
