-- The step that cuts off what is older than a version: what stays in the list, and why nobody stands on the rest.
use Rattle.std.proofs.Common.{◌≡◌, ℕ, ◌<◌, ◌≤◌, false, List, sym, ◌∙◌, subst, arith}
use mathlib.Core.Logic.{dite}
use native.Mathlib.Decide.{dec_lt}
use Rattle.plain_data.specs.State.{State}
use Rattle.word_layout.specs.Size.{Size, places}
use Rattle.word_layout.specs.Name.{min_read}
use Rattle.core_rule.specs.Memory.{Memory, stored}
use Rattle.core_rule.specs.World.{World, linked, at_number, up_to, from_behind, cut_from}
use Rattle.core_rule.specs.View.{View, writing, floored}
use Rattle.core_rule.specs.Views.{At, Has}
use Rattle.core_rule.specs.Kinds.{cut}
use Rattle.core_rule.specs.Rule.{status_words, floor_words}
use Rattle.core_rule.specs.Parts.Items.{InWork, IsVersion}
use Rattle.core_rule.specs.Parts.Searches.{IsKept}
use Rattle.core_rule.proofs.Step.{Step, at_cases}
use Rattle.core_rule.proofs.Collected.{work_of}
use Rattle.core_rule.proofs.Tails.{behind_in, up_in, behind_low, up_high, up_has, cut_same}
use Rattle.core_rule.proofs.Working.{late_of}

-- lists of which one has lost what is below the stamp c
pub record Shrunk (r c : ℕ) (stamps : ℕ → ℕ) (f h : ℕ → List ℕ) : Type 0 where
  pub fewer : (i q : ℕ) → Has q (h i) → Has q (f i)
  pub stays : (i q : ℕ) → Has q (f i) → (r ≡ i → c ≤ stamps q) → Has q (h i)

linked_one : (a b : ℕ) → linked a ≡ linked b → a ≡ b
linked_one a b e = cc

module _ (kept : State → Type 0) (z : Size) (g : World) (m : Memory) (vs : List View) (id : ℕ) (v : View) (r c p : ℕ) (s : Step kept z g m vs id v (cut r c p)) where
  abbrev S : ℕ → ℕ
  S = (stored m).stamps

  abbrev T : ℕ → ℕ
  T = status_words m

  abbrev pub lists' : ℕ → List ℕ
  lists' = at_number g.lists r (up_to p (g.lists r))

  abbrev pub tail : List ℕ
  tail = from_behind p (g.lists r)

  pub cut_work : InWork z g.lists (floor_words m) (stored m) T v.reached v.log r c (floored p)
  cut_work = work_of kept z g m vs s.rule id v s.at s.allowed.is_open r c (floored p) s.allowed.can

  pub cut_version : IsVersion (g.lists r) S T c p
  cut_version = cut_work.at.1

  pub cut_low : c ≤ m min_read
  cut_low = let a = cut_work.early in let b = (s.rule.items id v s.at s.allowed.is_open).reached in omega arith

  pub shrunk : Shrunk r c S g.lists lists'
  shrunk = record {
    fewer = λ i q. at_cases g.lists r (up_to p (g.lists r)) i (λ l. Has q l → Has q (g.lists i))
        (λ e h. subst (λ (x : ℕ). Has q (g.lists x)) e (up_in p (g.lists r) q h)) (λ ne h. h);
    stays = λ i q has high. at_cases g.lists r (up_to p (g.lists r)) i (Has q)
        (λ e. let l = high e in let is = cut_version.stamp_is in
        up_has p S (g.lists r) (s.rule.lists.each r cut_work.on_record).falls cut_version.there q (subst (λ (x : ℕ). Has q (g.lists x)) (sym e) has) (omega arith)) (λ ne. has);
  }

  -- where a search or a read stands
  pub kept_high : (i : ℕ) (u : View) → At vs i u → u.spent ≡ false → (q x : ℕ) → IsKept z g.lists S T u.published.read q x → r ≡ q → c ≤ S x
  kept_high i u at live q x h same = dite (dec_lt (S x) c)
      (λ lt. absurd (let is = cut_version.stamp_is in let low = cut_low in let reads = (s.rule.minima.each i u at live).reads in
      let gone = h.above p (subst (λ (y : ℕ). Has p (g.lists y)) same cut_version.there) (omega arith) (omega arith) in let f = cut_version.final in omega arith))
      (λ ge. omega arith)

  pub kept_stays : (i : ℕ) (u : View) → At vs i u → u.spent ≡ false → (q x : ℕ) → IsKept z g.lists S T u.published.read q x → Has x (lists' q)
  kept_stays i u at live q x h = shrunk.stays q x h.there (kept_high i u at live q x h)

  pub IsKept-cut : (i : ℕ) (u : View) → At vs i u → u.spent ≡ false → (q x : ℕ) → IsKept z g.lists S T u.published.read q x → IsKept z lists' S T u.published.read q x
  IsKept-cut i u at live q x h = record {
    on_record = h.on_record;
    there = kept_stays i u at live q x h;
    is_open = h.is_open;
    above = λ y has. h.above y (shrunk.fewer q y has);
  }

  -- a stamp in flight
  pub flight_high : (i : ℕ) (u : View) → At vs i u → u.spent ≡ false → (t : ℕ) → u.flight ≡ writing t → c < t
  flight_high i u at live t e = let a = late_of kept z g m vs id v _ s i u at live t e in let b = s.rule.minima.reads_below in let l = cut_low in omega arith

  -- a place that is cut off was linked in this record, below the version
  pub tail_linked : (q : ℕ) → Has q tail → (q < places z) × (g.owner q ≡ linked r)
  tail_linked q has = (s.rule.lists.each r cut_work.on_record).owned q (behind_in p (g.lists r) q has)

  pub tail_low : (q : ℕ) → Has q tail → S q < c
  tail_low q has = let l = behind_low p S (g.lists r) (s.rule.lists.each r cut_work.on_record).falls cut_version.there q has in let is = cut_version.stamp_is in omega arith

  -- what stays keeps its owner
  pub owner_stays : (i q : ℕ) → i < z.records → Has q (lists' i) → (q < places z) × (cut_from v.number tail g.owner q ≡ linked i)
  owner_stays i q lt has =
      let o = (s.rule.lists.each i lt).owned q (shrunk.fewer i q has) in (
        o.0,
        cut_same v.number tail g.owner q (λ gone. absurd (
            let same = linked_one r i (sym (tail_linked q gone).1 ∙ o.1) in
            let l = tail_low q gone in let is = cut_version.stamp_is in
            let high = up_high p S (g.lists r) (s.rule.lists.each r cut_work.on_record).falls cut_version.there q (at_cases g.lists r (up_to p (g.lists r)) i (λ l. Has q l → Has q (up_to p (g.lists r))) (λ e h. h) (λ ne h. absurd (ne same)) has) in omega arith)) ∙ o.1,
      )
