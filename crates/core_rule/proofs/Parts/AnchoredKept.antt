-- Anchored: what was read stays linked with its read stamp.
use Rattle.std.proofs.Common.{◌≡◌, ◌≢◌, ◌⊎◌, ℕ, suc, ◌<◌, ◌≤◌, max, Bool, true, false, cond, eqb, List, [], ◌∷◌, ◌++◌, set, refl, sym, ap, ◌∙◌, subst, arith, inl, inr, ⊎_elim}
use mathlib.Core.Logic.{dite}
use native.Mathlib.Decide.{dec_lt, ℕ_discrete}
use Rattle.plain_data.specs.State.{State}
use Rattle.word_layout.specs.Size.{Size, IsSize}
use Rattle.word_layout.specs.Name.{min_read, head, rts, next as next_word}
use Rattle.core_rule.specs.Memory.{Memory, stored, start}
use Rattle.core_rule.specs.World.{World, first_world, at_number, behind, up_to}
use Rattle.core_rule.specs.View.{View, Flight, writing, Read, Aim, reads, links, again, checks, Joint, Stand, Look, stamped, stands, first_view}
use Rattle.core_rule.specs.Views.{Has, Among}
use Rattle.core_rule.specs.Searching.{limit_of, IsFinal}
use Rattle.core_rule.specs.Holding.{filled_place}
use Rattle.core_rule.specs.Deciding.{stamp_in}
use Rattle.core_rule.specs.Rule.{status_words}
use Rattle.core_rule.specs.Kinds.{Kind, fill_reset, load_head, load_next, raise_min_read, raise_read_stamp, link_head, link_next, cut, name, after, turned, changed}
use Rattle.core_rule.specs.Hands.{split_left, split_right, joined_view}
use Rattle.core_rule.specs.Claims.{Claim, claim}
use Rattle.core_rule.specs.Parts.Linking.{IsAbove}
use Rattle.core_rule.specs.Parts.Anchored.{Anchor, IsAnchored}
use Rattle.core_rule.specs.Parts.Anchored as part
use Rattle.core_rule.proofs.EachView.{Each-one, joined}
use Rattle.core_rule.proofs.Step.{Step, at_number-other, at_number-same, at_cases}
use Rattle.core_rule.proofs.Making.{Split, Join}
use Rattle.core_rule.proofs.Listed.{one_place, grown_head, grown_behind}
use Rattle.core_rule.proofs.Touched.{quiet, apart, held_unlinked}
use Rattle.core_rule.proofs.Working.{joint_of, aim_of_read, raised_of, in_flight_late}
use Rattle.core_rule.proofs.Cutting.{shrunk}
use Rattle.core_rule.proofs.CutClaims.{Safe, safe}
use Rattle.core_rule.proofs.Claiming.{Claims-zip, stamps_same, New, NewAt, claims_kept, claims_split, claims_joined}
use Rattle.core_rule.proofs.Parts.FilledKept.{front_has}
use Rattle.core_rule.proofs.Parts.LinkingKept.{not_linked}

module _ (kept : State → Type 0) (z : Size) (g : World) (m : Memory) (vs : List View) (id : ℕ) (v : View) where
  abbrev S : ℕ → ℕ
  S = (stored m).stamps

  abbrev P : Claim → Type 0
  P = IsAnchored z g.lists S (stored m).reads (status_words m) (m min_read)

  abbrev After : Kind → Claim → Type 0
  After k = IsAnchored z (turned k v (m (name k v)) g).lists (stored (changed k v m)).stamps (stored (changed k v m)).reads (status_words (changed k v m)) (changed k v m min_read)

  -- every kind but the cut
  abbrev pub Adds : Kind → Type 0
  Adds (cut r c p) = ⊥
  Adds _ = Unit {0}

  -- lists only grow
  pub lists_grow : (k : Kind) → Step kept z g m vs id v k → Adds k → (r q : ℕ) → Has q (g.lists r) → Has q ((turned k v (m (name k v)) g).lists r)
  lists_grow (link_head p j w) s adds r q h = by_test (eqb (m (head p.record_number)) (suc p.place)) where
    by_test : (b : Bool) → Has q (cond b (at_number g.lists p.record_number (j.write.place ∷ g.lists p.record_number)) g.lists r)
    by_test true = (grown_head g.lists p.record_number j.write.place).old r q h
    by_test false = h
  lists_grow (link_next p j a w) s adds r q h = by_test (eqb (m (next_word a)) (suc p.place)) where
    there : Has a (g.lists p.record_number)
    there = (subst (IsAbove (g.lists p.record_number) S j.write.stamp p.under) s.allowed.can.3 (joint_of kept z g m vs id v _ s p j w s.allowed.can.0 s.allowed.can.1).above).0

    by_test : (b : Bool) → Has q (cond b (at_number g.lists p.record_number (behind a j.write.place (g.lists p.record_number))) g.lists r)
    by_test true = (grown_behind g.lists p.record_number j.write.place a there).old r q h
    by_test false = h
  lists_grow (cut r' c p) s adds r q h = absurd adds
  lists_grow k s adds r q h = h

  -- the read stamp of a linked place only rises
  pub reads_rise : (k : Kind) → Step kept z g m vs id v k → (r q : ℕ) → r < z.records → Has q (g.lists r) → (stored m).reads q ≤ (stored (changed k v m)).reads q
  reads_rise fill_reset s r q lt h =
      let has = front_has (stored m) v.places.held v.places.fills s.allowed.can (s.rule.filled id v s.at s.allowed.is_open) in
      let e = at_number-other (stored m).reads (filled_place v.places.fills) q 0 (apart kept z g m vs id v _ s (filled_place v.places.fills) (held_unlinked kept z g m vs id v _ s (filled_place v.places.fills) has) r q lt h) in omega arith
  reads_rise (raise_read_stamp d) s r q lt h = at_cases (stored m).reads d.place (max (m (rts d.place)) (stamp_in v.flight)) q (λ x. (stored m).reads q ≤ x)
      (λ e. let same : m (rts d.place) ≡ m (rts q) = ap (λ (x : ℕ). m (rts x)) e in omega arith) (λ ne. omega arith)
  reads_rise k s r q lt h = omega arith

  -- a committed or deleted version stays so
  pub final_stays : (k : Kind) → Step kept z g m vs id v k → (r q : ℕ) → r < z.records → Has q (g.lists r) → IsFinal (status_words m q) → IsFinal (status_words (changed k v m) q)
  final_stays (link_head p j w) s r q lt h f = f
  final_stays (link_next p j a w) s r q lt h f = f
  final_stays (cut r' c p) s r q lt h f = f
  final_stays k s r q lt h f = subst IsFinal (sym ((quiet kept z g m vs id v k s tt).statuses r q lt h (λ e. absurd (omega arith)))) f

  -- `min_rts` only rises
  pub least_rises : (k : Kind) → Step kept z g m vs id v k → m min_read ≤ changed k v m min_read
  least_rises raise_min_read s = omega arith
  least_rises k s = omega arith

  -- a version that is linked anew is none that was read
  new_unread : (k : Kind) → Step kept z g m vs id v k → (p : Stand) (j : Joint) (w : ℕ) → v.work.search ≡ stands p (stamped w) → p.aim ≡ links j → (c : Claim) → P c → p.record_number ≡ c.record_number → S j.write.place ≢ c.version
  new_unread k s p j w is aim_is c h same_record same =
      let o = joint_of kept z g m vs id v k s p j w is aim_is in
      let st = o.mark.stamp in let early = h.early in
      let late = in_flight_late kept z g m vs id v k s j.write.stamp o.mark.in_flight in let low = s.rule.minima.reads_below in
      ⊎_elim
      (λ (a : Anchor g.lists S (status_words m) c).
      let there : Has a.place (g.lists p.record_number) = subst (λ (y : ℕ). Has a.place (g.lists y)) (sym same_record) a.there in
      not_linked p.record_number a.place v.work.linked (rw o.same_record o.mark.only)
      ((s.rule.versions.views id v s.at s.allowed.is_open).own j.write.stamp p.record_number a.place o.mark.in_flight (rw o.same_record o.mark.fits.0) there (a.version ∙ sym same ∙ st)))
      (λ (l : c.stamp ≤ m min_read). absurd (omega arith)) h.either

  -- so a linked version that was read was linked before
  was_linked : (k : Kind) → Step kept z g m vs id v k → Adds k → (c : Claim) → P c → (q : ℕ) → Has q ((turned k v (m (name k v)) g).lists c.record_number) → (stored (changed k v m)).stamps q ≡ c.version → Has q (g.lists c.record_number)
  was_linked (link_head p j w) s adds c h q has same = by_test (eqb (m (head p.record_number)) (suc p.place)) has where
    by_test : (b : Bool) → Has q (cond b (at_number g.lists p.record_number (j.write.place ∷ g.lists p.record_number)) g.lists c.record_number) → Has q (g.lists c.record_number)
    by_test true k = ⊎_elim (λ (e : (p.record_number ≡ c.record_number) × (j.write.place ≡ q)). absurd (new_unread _ s p j w s.allowed.can.0 s.allowed.can.1 c h e.0 (ap S e.1 ∙ same))) (λ (o : Has q (g.lists c.record_number)). o)
        ((grown_head g.lists p.record_number j.write.place).only c.record_number q k)
    by_test false k = k
  was_linked (link_next p j a w) s adds c h q has same = by_test (eqb (m (next_word a)) (suc p.place)) has where
    there : Has a (g.lists p.record_number)
    there = (subst (IsAbove (g.lists p.record_number) S j.write.stamp p.under) s.allowed.can.3 (joint_of kept z g m vs id v _ s p j w s.allowed.can.0 s.allowed.can.1).above).0

    by_test : (b : Bool) → Has q (cond b (at_number g.lists p.record_number (behind a j.write.place (g.lists p.record_number))) g.lists c.record_number) → Has q (g.lists c.record_number)
    by_test true k = ⊎_elim (λ (e : (p.record_number ≡ c.record_number) × (j.write.place ≡ q)). absurd (new_unread _ s p j w s.allowed.can.0 s.allowed.can.1 c h e.0 (ap S e.1 ∙ same))) (λ (o : Has q (g.lists c.record_number)). o)
        ((grown_behind g.lists p.record_number j.write.place a there).only c.record_number q k)
    by_test false k = k
  was_linked (cut r' c' p) s adds c h q has same = absurd adds
  was_linked k s adds c h q has same = has

  keeps : (k : Kind) → Step kept z g m vs id v k → Adds k → (c : Claim) → P c → After k c
  keeps k s adds c h = record {
    on_record = h.on_record;
    early = h.early;
    raised = λ q has same.
        let old = was_linked k s adds c h q has same in
        let st = stamps_same kept z g m vs id v k s c.record_number q h.on_record old in
        let up = reads_rise k s c.record_number q h.on_record old in let r = h.raised q old (sym st ∙ same) in omega arith;
    either = ⊎_elim (λ (a : Anchor g.lists S (status_words m) c). inl record {
      place = a.place;
      there = lists_grow k s adds c.record_number a.place a.there;
      version = stamps_same kept z g m vs id v k s c.record_number a.place h.on_record a.there ∙ a.version;
      final = final_stays k s c.record_number a.place h.on_record a.there a.final;
    }) (λ low. inr (let up = least_rises k s in omega arith)) h.either;
  }

  -- where the version is cut off, nothing is to come below the claim
  keeps_cut : (r c p : ℕ) (s : Step kept z g m vs id v (cut r c p)) → (q : Claim) → P q × Safe kept z g m vs id v r c p s q → After (cut r c p) q
  keeps_cut r c p s q h = record {
    on_record = h.0.on_record;
    early = h.0.early;
    raised = λ x has same. h.0.raised x ((shrunk kept z g m vs id v r c p s).fewer q.record_number x has) same;
    either = ⊎_elim by_place (λ low. inr low) h.0.either;
  } where
    stays : (a : Anchor g.lists S (status_words m) q) → (r ≡ q.record_number → c ≤ S a.place) → Anchor (at_number g.lists r (up_to p (g.lists r))) S (status_words m) q ⊎ (q.stamp ≤ m min_read)
    stays a high = inl record { place = a.place; there = (shrunk kept z g m vs id v r c p s).stays q.record_number a.place a.there high; version = a.version; final = a.final }

    by_place : (a : Anchor g.lists S (status_words m) q) → Anchor (at_number g.lists r (up_to p (g.lists r))) S (status_words m) q ⊎ (q.stamp ≤ m min_read)
    by_place a = dite (ℕ_discrete r q.record_number)
        (λ same. dite (dec_lt (S a.place) c)
        (λ low. inr (h.1 same (let e = a.version in omega arith)).0)
        (λ high. stays a (λ e. omega arith)))
        (λ ne. stays a (λ e. absurd (ne e)))

  -- what was raised is anchored, at any position
  anchored_at : (k : Kind) (s : Step kept z g m vs id v k) (d : Read) → v.flight ≡ writing (stamp_in v.flight) → Among d v.work.raised → (x : ℕ) → P (claim (stamp_in v.flight) d x)
  anchored_at k s d e l x = let h = ((s.rule.anchored id v s.at s.allowed.is_open).in_flight (stamp_in v.flight) e).raised d l in record {
    on_record = h.on_record;
    early = h.early;
    raised = h.raised;
    either = ⊎_elim (λ (a : Anchor g.lists S (status_words m) (claim (stamp_in v.flight) d (stamp_in v.flight))). inl record { place = a.place; there = a.there; version = a.version; final = a.final }) (λ low. inr low) h.either;
  }

  new_head : (aim : Aim) (r place : ℕ) (s : Step kept z g m vs id v (load_head aim r)) → NewAt kept z g m vs id v P place aim
  new_head reads r place s = tt
  new_head (links j) r place s = tt
  new_head (again d) r place s = let b = s.allowed.can.2 in anchored_at _ s d ((s.rule.txns id v s.at s.allowed.is_open).raised d b.2).0 b.2 _
  new_head (checks u) r place s = tt

  new_next : (p : Stand) (look : Look) (s : Step kept z g m vs id v (load_next p look)) (aim : Aim) → p.aim ≡ aim → (place : ℕ) → NewAt kept z g m vs id v P place aim
  new_next p look s reads is place = tt
  new_next p look s (links j) is place = tt
  new_next p look s (again d) is place = let a = aim_of_read kept z g m vs id v _ s p d s.allowed.can.0 is in anchored_at _ s d a.0 a.1.0 _
  new_next p look s (checks u) is place = tt

  new : (k : Kind) (s : Step kept z g m vs id v k) → New kept z g m vs id v (After k) k
  new (raise_read_stamp d) s =
      let o = raised_of kept z g m vs id v d s in
      let early : d.version < stamp_in v.flight = subst (λ (f : Flight). d.version < limit_of f v.published.read) s.allowed.can.0 o.early in
      let st = o.status in let final = o.final in record {
        on_record = o.kept.on_record;
        early = early;
        raised = λ q has same.
            let here : d.place ≡ q = one_place S (g.lists d.record_number) d.place q (s.rule.lists.each d.record_number o.kept.on_record).falls o.kept.there has (o.version ∙ sym same) in
            subst (λ (x : ℕ). stamp_in v.flight ≤ at_number (stored m).reads d.place (max (m (rts d.place)) (stamp_in v.flight)) x) here
            (let e = at_number-same (stored m).reads d.place (max (m (rts d.place)) (stamp_in v.flight)) in omega arith);
        either = inl record { place = d.place; there = o.kept.there; version = o.version; final = (omega arith, omega arith) };
      }
  new (load_head aim r) s = new_head aim r _ s
  new (load_next p look) s = new_next p look s p.aim refl _
  new k s = tt

  pub anchored_kept : (k : Kind) → Step kept z g m vs id v k → part.Anchored z (turned k v (m (name k v)) g).lists (stored (changed k v m)).stamps (stored (changed k v m)).reads (status_words (changed k v m)) ((changed k v m) min_read) (set vs id (after k v (m (name k v))))
  anchored_kept (cut r c p) s = claims_kept kept z g m vs id v (λ q. P q × Safe kept z g m vs id v r c p s q) (After (cut r c p)) (keeps_cut r c p s)
      (λ i x at live. Claims-zip S P (Safe kept z g m vs id v r c p s) x (s.rule.anchored i x at live) (safe kept z g m vs id v r c p s i x at live)) (cut r c p) s tt
  anchored_kept k s = claims_kept kept z g m vs id v P (After k) (keeps k s tt) s.rule.anchored k s (new k s)

module _ (kept : State → Type 0) (z : Size) (g : World) (m : Memory) (vs : List View) (id : ℕ) (v : View) (s : Split kept z g m vs id v) where
  pub anchored_split : part.Anchored z g.lists (stored m).stamps (stored m).reads (status_words m) (m min_read) (set vs id (split_left v) ++ split_right v ∷ [])
  anchored_split = claims_split vs id v (stored m).stamps (P kept z g m vs id v) (P kept z g m vs id v) (λ c h. h) s.at s.is_open s.rule.anchored

module _ (kept : State → Type 0) (z : Size) (g : World) (m : Memory) (vs : List View) (id other : ℕ) (v w : View) (s : Join kept z g m vs id other v w) where
  pub anchored_joined : part.Anchored z g.lists (stored m).stamps (stored m).reads (status_words m) (m min_read) (joined vs (joined_view v w) id other)
  anchored_joined = claims_joined vs id other v w (stored m).stamps (P kept z g m vs id v) (P kept z g m vs id v) (λ c h. h) s.at s.at_other s.is_open s.other_open s.rule.anchored

pub anchored_start : (z : Size) → IsSize z → part.Anchored z (first_world z).lists (stored (start z)).stamps (stored (start z)).reads (status_words (start z)) ((start z) min_read) (first_view z ∷ [])
anchored_start z h = Each-one _ (first_view z) record { in_flight = λ t e. absurd cc; entered = λ e k. absurd k }
