-- Searches: a search moves on to the place that a link names, and what is linked meanwhile is not settled.
use Rattle.std.proofs.Common.{◌≡◌, ◌⊎◌, ℕ, suc, ◌-◌, ◌<◌, ◌≤◌, true, false, Bool, cond, eqb, List, ◌∷◌, set, refl, sym, ap, ◌∙◌, subst, arith, inl, inr, ⊎_elim, Some}
use mathlib.Core.Logic.{dite}
use native.Mathlib.Decide.{dec_lt, ℕ_discrete}
use Rattle.plain_data.specs.State.{State}
use Rattle.word_layout.specs.Size.{Size}
use Rattle.word_layout.specs.Name.{head, status, next as next_word}
use Rattle.stamp_base.specs.Limits.{end_of_stamps}
use Rattle.core_rule.specs.Memory.{Memory, Stored, stored}
use Rattle.core_rule.specs.World.{World, at_number, behind, up_to}
use Rattle.core_rule.specs.View.{View, links, Stand, Joint, Look, blank, stamped, shown, Search, still, marks, stands}
use Rattle.core_rule.specs.Views.{At, Has}
use Rattle.core_rule.specs.Searching.{limit_of, IsPassed, stamp_seen, ends, moved}
use Rattle.core_rule.specs.Rule.{status_words}
use Rattle.core_rule.specs.Kinds.{Kind, load_head, load_next, load_stamp, load_status, point, link_head, link_next, cut, name, after, turned, changed}
use Rattle.core_rule.specs.Parts.Linking.{JointOk, IsAbove}
use Rattle.core_rule.specs.Parts.Searches.{IsKept, IsSeen, StandOk, SearchOk, SearchesOk}
use Rattle.core_rule.specs.Parts.Searches as part
use Rattle.core_rule.proofs.EachView.{Each-set, Each-own}
use Rattle.core_rule.proofs.Step.{Step}
use Rattle.core_rule.proofs.Listed.{Follows, Grown, one_place, top, below, grown_head, grown_behind}
use Rattle.core_rule.proofs.Touched.{Untouched, Quiet, quiet}
use Rattle.core_rule.proofs.Cutting.{IsKept-cut}
use Rattle.core_rule.proofs.Working.{stand_of, joint_of, before_stamp, below_limit}

-- ---- what changes words of no linked place

module _ (z : Size) (lists : ℕ → List ℕ) (w w' : Stored) (s s' : ℕ → ℕ) (u : Untouched z lists w w' s s') where
  pub IsKept-same : (settled r q : ℕ) → IsKept z lists w.stamps s settled r q → IsKept z lists w'.stamps s' settled r q
  IsKept-same settled r q h = record {
    on_record = h.on_record;
    there = h.there;
    is_open = h.is_open;
    above = λ p has lt le.
        let a = u.stamps r p h.on_record has in let b = u.stamps r q h.on_record h.there in let gone = h.above p has (omega arith) (omega arith) in
        u.statuses r p h.on_record has (λ e. absurd (omega arith)) ∙ gone;
  }

  IsSeen-same : (limit r q : ℕ) (look : Look) → r < z.records → Has q (lists r) → IsSeen limit (w.stamps q) (s q) look → IsSeen limit (w'.stamps q) (s' q) look
  IsSeen-same limit r q blank lt has h = tt
  IsSeen-same limit r q (stamped x) lt has h = u.stamps r q lt has ∙ h
  IsSeen-same limit r q (shown x y) lt has h = (u.stamps r q lt has ∙ h.0, h.1, λ le. u.statuses r q lt has (λ e. absurd (let same = h.2 le in omega arith)) ∙ h.2 le)

  SearchOk-same : (limit settled : ℕ) (search : Search) → SearchOk z lists w.stamps s limit settled search → SearchOk z lists w'.stamps s' limit settled search
  SearchOk-same limit settled still h = tt
  SearchOk-same limit settled (marks x) h = tt
  SearchOk-same limit settled (stands p look) h = record {
    kept = IsKept-same settled p.record_number p.place h.kept;
    under = let a = u.stamps p.record_number p.place h.kept.on_record h.kept.there in let b = h.under in omega arith;
    seen = IsSeen-same limit p.record_number p.place look h.kept.on_record h.kept.there h.seen;
  }

-- ---- a version is linked above all that is settled

module _ (z : Size) (lists lists' : ℕ → List ℕ) (stamps statuses : ℕ → ℕ) (r new : ℕ) (grew : Grown r new lists lists') where
  pub IsKept-grown : (settled q p : ℕ) → (settled < end_of_stamps → settled < stamps new) → IsKept z lists stamps statuses settled q p → IsKept z lists' stamps statuses settled q p
  IsKept-grown settled q p late h = record {
    on_record = h.on_record;
    there = grew.old q p h.there;
    is_open = h.is_open;
    above = λ y has lt le. by_case y lt le (grew.only q y has);
  } where
    by_case : (y : ℕ) → stamps p < stamps y → stamps y ≤ settled → ((r ≡ q) × (new ≡ y)) ⊎ Has y (lists q) → statuses y ≡ 5
    by_case y lt le (inl e) = absurd (let l = late h.is_open in let c : stamps new ≡ stamps y = ap stamps e.1 in omega arith)
    by_case y lt le (inr has) = h.above y has lt le

  SearchOk-grown : (limit settled : ℕ) (search : Search) → (settled < end_of_stamps → settled < stamps new) → SearchOk z lists stamps statuses limit settled search → SearchOk z lists' stamps statuses limit settled search
  SearchOk-grown limit settled still late h = tt
  SearchOk-grown limit settled (marks x) late h = tt
  SearchOk-grown limit settled (stands p look) late h = record { kept = IsKept-grown settled p.record_number p.place late h.kept; under = h.under; seen = h.seen }

-- ---- a place that was left

pub left_is : (limit stamp state : ℕ) (look : Look) → IsPassed limit look → IsSeen limit stamp state look → ((limit ≤ stamp) ⊎ (state ≡ 5)) × (stamp_seen look ≡ stamp)
left_is limit stamp state blank h seen = absurd h
left_is limit stamp state (stamped w) h seen = (inl (omega arith), sym seen)
left_is limit stamp state (shown w s) h seen = (inr (seen.2 (omega arith) ∙ h), sym seen.0)

module _ (kept : State → Type 0) (z : Size) (g : World) (m : Memory) (vs : List View) (id : ℕ) (v : View) where
  abbrev S : ℕ → ℕ
  S = (stored m).stamps

  abbrev T : ℕ → ℕ
  T = status_words m

  framed : (k : Kind) → Step kept z g m vs id v k → Quiet k → (u : View) → SearchesOk z g.lists S T u → part.Searches z g.lists (stored (changed k v m)).stamps (status_words (changed k v m)) (set vs id u)
  framed k s h u mine =
      let t = quiet kept z g m vs id v k s h in
      let same : (x : View) → SearchesOk z g.lists S T x → SearchesOk z g.lists (stored (changed k v m)).stamps (status_words (changed k v m)) x = λ x.
      SearchOk-same z g.lists (stored m) (stored (changed k v m)) T (status_words (changed k v m)) t (limit_of x.flight x.published.read) x.published.read x.work.search in
      Each-set (SearchesOk z g.lists S T) (SearchesOk z g.lists (stored (changed k v m)).stamps (status_words (changed k v m))) vs u id (λ i x ne at live h. same x h) (λ live. same u mine) s.rule.searches

  module _ (k : Kind) (s : Step kept z g m vs id v k) where
    abbrev limit : ℕ
    limit = limit_of v.flight v.published.read

    abbrev settled : ℕ
    settled = v.published.read

    -- it begins at the head
    begins : (p : Stand) → p.record_number < z.records → settled < end_of_stamps → p.place ≡ m (head p.record_number) - 1 → p.under ≡ end_of_stamps → StandOk z g.lists S T limit settled p blank
    begins p lt is_open at_head under_end =
        let l = s.rule.lists.each p.record_number lt in
        let first = λ (q : ℕ) (has : Has q (g.lists p.record_number)). top S (stored m).links (g.lists p.record_number) (m (head p.record_number)) q l.spelled l.falls has in
        let base = first l.base.place l.base.there in
        let there : Has p.place (g.lists p.record_number) = rw at_head base.there in
        let same : S p.place ≡ S (m (head p.record_number) - 1) = ap S at_head in record {
          kept = record {
            on_record = lt;
            there = there;
            is_open = is_open;
            above = λ q has up le. absurd (let o = (first q has).over in omega arith);
          };
          under = let e = (s.rule.versions.each p.record_number p.place lt there).early in omega arith;
          seen = tt;
        }

    -- the version at the floor stands below a place that was left
    floor_below : (p : Stand) (look : Look) → v.work.search ≡ stands p look → IsPassed limit look → (h : StandOk z g.lists S T limit settled p look) → S (s.rule.lists.each p.record_number h.kept.on_record).base.place < S p.place
    floor_below p look is passed h =
        let l = s.rule.lists.each p.record_number h.kept.on_record in let b = l.base in
        let low = (s.rule.minima.each id v s.at s.allowed.is_open).reads in let f = l.settled in let st = b.stamp in
        let under_limit : settled < limit = below_limit kept z g m vs id v k s h.kept.is_open in
        let final = b.final in
        let left = (left_is limit (S p.place) (T p.place) look passed h.seen).0 in
        dite (dec_lt (S b.place) (S p.place)) (λ yes. yes)
        (λ no. dite (ℕ_discrete (S b.place) (S p.place))
        (λ e. absurd (let same = one_place S (g.lists p.record_number) b.place p.place l.falls b.there h.kept.there e in
        let c : T b.place ≡ T p.place = ap T same in ⊎_elim (λ (late : limit ≤ S p.place). omega arith) (λ (gone : T p.place ≡ 5). omega arith) left))
        (λ ne. absurd (let gone = h.kept.above b.place b.there (omega arith) (omega arith) in omega arith)))

    pub next_is : (p : Stand) (look : Look) → v.work.search ≡ stands p look → IsPassed limit look → (h : StandOk z g.lists S T limit settled p look)
        → Follows S (g.lists p.record_number) (m (next_word p.place)) p.place (s.rule.lists.each p.record_number h.kept.on_record).base.place
    next_is p look is passed h =
        let l = s.rule.lists.each p.record_number h.kept.on_record in
        below S (stored m).links (g.lists p.record_number) (m (head p.record_number)) p.place l.base.place l.spelled l.falls h.kept.there l.base.there (floor_below p look is passed h)

    -- it moves on
    moves : (p q : Stand) (look : Look) → v.work.search ≡ stands p look → IsPassed limit look → q.record_number ≡ p.record_number → q.place ≡ m (next_word p.place) - 1 → q.under ≡ stamp_seen look
        → StandOk z g.lists S T limit settled p look → StandOk z g.lists S T limit settled q blank
    moves p q look is passed same_record at_next under_seen h =
        let l = s.rule.lists.each p.record_number h.kept.on_record in
        let n = next_is p look is passed h in
        let left = left_is limit (S p.place) (T p.place) look passed h.seen in
        let under_limit : settled < limit = below_limit kept z g m vs id v k s h.kept.is_open in
        let same : S q.place ≡ S (m (next_word p.place) - 1) = ap S at_next in
        let lower = n.strict in let seen_at = left.1 in record {
          kept = record {
            on_record = rw same_record h.kept.on_record;
            there = rw (same_record, at_next) n.meets.there;
            is_open = h.kept.is_open;
            above = rw same_record (λ y has up le. dite (dec_lt (S p.place) (S y)) (λ yes. h.kept.above y has yes le)
                (λ no. dite (ℕ_discrete (S y) (S p.place))
                (λ e. ⊎_elim (λ (late : limit ≤ S p.place). absurd (omega arith))
                (λ (gone : T p.place ≡ 5). ap T (one_place S (g.lists p.record_number) y p.place l.falls has h.kept.there e) ∙ gone) left.0)
                (λ ne. absurd (let f = below S (stored m).links (g.lists p.record_number) (m (head p.record_number)) p.place y l.spelled l.falls h.kept.there has (omega arith) in
                let o = f.meets.over in omega arith))));
          };
          under = omega arith;
          seen = tt;
        }

    -- the exchange behind the place above was lost: something was linked between
    pub next_above : (p : Stand) (j : Joint) (a : ℕ) → p.record_number < z.records → JointOk z g.owner g.lists (stored m) v.number v.flight v.work.linked p j → j.stored ≡ true → j.above ≡ Some a → Has p.place (g.lists p.record_number)
        → Follows S (g.lists p.record_number) (m (next_word a)) a p.place × Has a (g.lists p.record_number) × (j.write.stamp < S a) × (S a ≡ p.under)
    next_above p j a lt h is_stored is there =
        let l = s.rule.lists.each p.record_number lt in
        let above = subst (IsAbove (g.lists p.record_number) S j.write.stamp p.under) is h.above in
        let up = above.1 in let low = (h.stored is_stored).1 in
        (below S (stored m).links (g.lists p.record_number) (m (head p.record_number)) a p.place l.spelled l.falls above.0 there (omega arith), above.0, above.1, above.2)

    loses_next : (p q : Stand) (j : Joint) (a w : ℕ) → v.work.search ≡ stands p (stamped w) → p.aim ≡ links j → j.stored ≡ true → j.above ≡ Some a
        → q.record_number ≡ p.record_number → q.place ≡ m (next_word a) - 1 → q.under ≡ p.under → StandOk z g.lists S T limit settled q blank
    loses_next p q j a w is aim_is is_stored above_is same_record at_next same_under =
        let h = stand_of kept z g m vs id v k s p (stamped w) is in
        let o = joint_of kept z g m vs id v k s p j w is aim_is in
        let l = s.rule.lists.each p.record_number h.kept.on_record in
        let n = next_above p j a h.kept.on_record o is_stored above_is h.kept.there in
        let same : S q.place ≡ S (m (next_word a) - 1) = ap S at_next in
        let lower = n.0.strict in let up = n.2 in let top_is = n.3 in
        let late = before_stamp kept z g m vs id v k s j.write.stamp o.mark.in_flight id v s.at s.allowed.is_open h.kept.is_open in record {
          kept = record {
            on_record = rw same_record h.kept.on_record;
            there = rw (same_record, at_next) n.0.meets.there;
            is_open = h.kept.is_open;
            above = rw same_record (λ y has over le.
                absurd (let f = below S (stored m).links (g.lists p.record_number) (m (head p.record_number)) a y l.spelled l.falls n.1 has (omega arith) in let e = f.meets.over in omega arith));
          };
          under = omega arith;
          seen = tt;
        }

    -- what others see when a version is linked
    grown_others : (p : Stand) (j : Joint) (lists' : ℕ → List ℕ) → Grown p.record_number j.write.place g.lists lists' → JointOk z g.owner g.lists (stored m) v.number v.flight v.work.linked p j
        → (u : View) → SearchesOk z lists' S T u → part.Searches z lists' S T (set vs id u)
    grown_others p j lists' grew o u mine = Each-set (SearchesOk z g.lists S T) (SearchesOk z lists' S T) vs u id
        (λ i x ne at live h. SearchOk-grown z g.lists lists' S T p.record_number j.write.place grew (limit_of x.flight x.published.read) x.published.read x.work.search
        (λ is_open. let l = before_stamp kept z g m vs id v k s j.write.stamp o.mark.in_flight i x at live is_open in let e = o.mark.stamp in omega arith) h) (λ live. mine) s.rule.searches

    links_kept : (p : Stand) (j : Joint) (lists' : ℕ → List ℕ) → Grown p.record_number j.write.place g.lists lists' → JointOk z g.owner g.lists (stored m) v.number v.flight v.work.linked p j
        → (b : Bool) (u : View) → SearchesOk z (cond b lists' g.lists) S T u → part.Searches z (cond b lists' g.lists) S T (set vs id u)
    links_kept p j lists' grew o true u mine = grown_others p j lists' grew o u mine
    links_kept p j lists' grew o false u mine = Each-own (SearchesOk z g.lists S T) vs id v u s.rule.searches s.at s.allowed.is_open (λ h. mine)

    won_or_lost : (lists' : ℕ → List ℕ) (q : Stand) → StandOk z g.lists S T limit settled q blank → (b : Bool) → SearchOk z (cond b lists' g.lists) S T limit settled (cond b still (stands q blank))
    won_or_lost lists' q lost true = tt
    won_or_lost lists' q lost false = lost

  -- nobody stands on what is cut off
  cut_off : (r c p : ℕ) (s : Step kept z g m vs id v (cut r c p)) (i : ℕ) (x : View) → At vs i x → x.spent ≡ false → (search : Search)
      → SearchOk z g.lists S T (limit_of x.flight x.published.read) x.published.read search → SearchOk z (at_number g.lists r (up_to p (g.lists r))) S T (limit_of x.flight x.published.read) x.published.read search
  cut_off r c p s i x at live still h = tt
  cut_off r c p s i x at live (marks u) h = tt
  cut_off r c p s i x at live (stands q look) h = record { kept = IsKept-cut kept z g m vs id v r c p s i x at live q.record_number q.place h.kept; under = h.under; seen = h.seen }

  pub searches_kept : (k : Kind) → Step kept z g m vs id v k → part.Searches z (turned k v (m (name k v)) g).lists (stored (changed k v m)).stamps (status_words (changed k v m)) (set vs id (after k v (m (name k v))))
  searches_kept (load_head aim r) s = framed _ s tt _
      (begins _ s record { aim = aim; record_number = r; place = m (head r) - 1; under = end_of_stamps } (rw (← (s.rule.seats.each id v s.at s.allowed.is_open).size) s.allowed.can.0) s.allowed.can.1 refl refl)
  searches_kept (load_next p look) s = framed _ s tt _
      (moves _ s p record p { aim = moved p.aim p.place; place = m (next_word p.place) - 1; under = stamp_seen look } look s.allowed.can.0 s.allowed.can.1 refl refl refl (stand_of kept z g m vs id v _ s p look s.allowed.can.0))
  searches_kept (load_stamp p) s = framed _ s tt _ (let h = stand_of kept z g m vs id v _ s p blank s.allowed.can in record { kept = h.kept; under = h.under; seen = refl })
  searches_kept (load_status p w) s = framed _ s tt _ (by_test (ends p.aim w (m (status p.place)))) where
    by_test : (b : Bool) → SearchOk z g.lists S T (limit_of v.flight v.published.read) v.published.read (cond b still (stands p (shown w (m (status p.place)))))
    by_test true = tt
    by_test false = let h = stand_of kept z g m vs id v _ s p (stamped w) s.allowed.can.0 in record { kept = h.kept; under = h.under; seen = (h.seen, s.allowed.can.1, λ le. refl) }
  searches_kept (point p j w) s = framed _ s tt _ (let h = stand_of kept z g m vs id v _ s p (stamped w) s.allowed.can.0 in record { kept = h.kept; under = h.under; seen = h.seen })
  searches_kept (link_head p j w) s =
      let o = joint_of kept z g m vs id v _ s p j w s.allowed.can.0 s.allowed.can.1 in
      let h = stand_of kept z g m vs id v _ s p (stamped w) s.allowed.can.0 in
      let n = m (head p.record_number) in
      let lost = begins _ s record p { aim = links record j { least = suc w; stored = false }; place = n - 1 } h.kept.on_record h.kept.is_open refl
      (subst (IsAbove (g.lists p.record_number) S j.write.stamp p.under) s.allowed.can.3 o.above) in
      let lists' = at_number g.lists p.record_number (j.write.place ∷ g.lists p.record_number) in
      links_kept _ s p j lists' (grown_head g.lists p.record_number j.write.place) o (eqb n (suc p.place)) _ (won_or_lost _ s lists' _ lost (eqb n (suc p.place)))
  searches_kept (link_next p j a w) s =
      let o = joint_of kept z g m vs id v _ s p j w s.allowed.can.0 s.allowed.can.1 in
      let n = m (next_word a) in
      let lost = loses_next _ s p record p { aim = links record j { least = suc w; stored = false }; place = n - 1 } j a w s.allowed.can.0 s.allowed.can.1 s.allowed.can.2 s.allowed.can.3 refl refl refl in
      let there = (subst (IsAbove (g.lists p.record_number) S j.write.stamp p.under) s.allowed.can.3 o.above).0 in
      let lists' = at_number g.lists p.record_number (behind a j.write.place (g.lists p.record_number)) in
      links_kept _ s p j lists' (grown_behind g.lists p.record_number j.write.place a there) o (eqb n (suc p.place)) _ (won_or_lost _ s lists' _ lost (eqb n (suc p.place)))
  searches_kept (cut r c p) s = Each-set (SearchesOk z g.lists S T) (SearchesOk z (at_number g.lists r (up_to p (g.lists r))) S T) vs _ id
      (λ i x ne at live h. cut_off r c p s i x at live x.work.search h) (λ live. cut_off r c p s id v s.at s.allowed.is_open v.work.search (s.rule.searches id v s.at s.allowed.is_open)) s.rule.searches
  searches_kept k s = framed k s tt _ (search (tt, s.rule.searches id v s.at s.allowed.is_open))
