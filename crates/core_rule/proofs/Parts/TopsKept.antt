-- Tops: while a seat is alone, nobody else links, and its own search to link never passes a version.
use Rattle.std.proofs.Common.{◌≡◌, ℕ, suc, ◌-◌, ◌<◌, List, [], ◌∷◌, ◌++◌, set, true, false, Bool, cond, eqb, sym, ◌∙◌, arith, subst, None}
use Rattle.plain_data.specs.State.{State}
use Rattle.word_layout.specs.Size.{Size}
use Rattle.word_layout.specs.Name.{head, status, next as next_word}
use Rattle.stamp_base.specs.Limits.{end_of_stamps}
use prog.Atomic.{either}
use Rattle.core_rule.specs.Memory.{Memory, stored}
use Rattle.core_rule.specs.World.{World, at_number}
use Rattle.core_rule.specs.View.{View, Aim, reads, links, again, checks, Joint, Stand, Look, blank, stamped, shown, still, stands, Splitting, single, sharing, offers_write, offers_both, shared}
use Rattle.core_rule.specs.Views.{At, OthersTaken}
use Rattle.core_rule.specs.Offers.{MayOffer, HasOffered, offered_write, offered_read}
use Rattle.core_rule.specs.Searching.{ends, moved, stamp_seen}
use Rattle.core_rule.specs.Rule.{Rule, head_words}
use Rattle.core_rule.specs.Kinds.{Kind, offer_write_word, offer_read_word, load_head, load_next, load_stamp, load_status, point, link_head, link_next, name, after, changed}
use Rattle.core_rule.specs.Parts.Tops.{AimAtTop, IsAtTop, TopOk}
use Rattle.core_rule.specs.Parts.Tops as part
use Rattle.core_rule.proofs.EachView.{Each-set}
use Rattle.core_rule.proofs.Step.{Step, at_number-stays}
use Rattle.core_rule.proofs.Listed.{top}
use Rattle.core_rule.proofs.Working.{stand_of}
use Rattle.core_rule.proofs.Parts.CountsKept.{none_other}

-- a seat that is alone while it makes another was so before
before_offer : (seats number : ℕ) (s : Splitting) (taken_in : List ℕ) → MayOffer s → OthersTaken seats number (offered_write s) taken_in → OthersTaken seats number s taken_in
before_offer seats number single taken_in may h = h
before_offer seats number (sharing made) taken_in may h = h
before_offer seats number (offers_write made) taken_in may h = absurd may
before_offer seats number (offers_both made) taken_in may h = absurd may
before_offer seats number shared taken_in may h = absurd may

before_both : (seats number : ℕ) (s : Splitting) (taken_in : List ℕ) → HasOffered s → OthersTaken seats number (offered_read s) taken_in → OthersTaken seats number s taken_in
before_both seats number single taken_in offered h = absurd offered
before_both seats number (sharing made) taken_in offered h = absurd offered
before_both seats number (offers_write made) taken_in offered h = h
before_both seats number (offers_both made) taken_in offered h = absurd offered
before_both seats number shared taken_in offered h = absurd offered

module _ (heads : ℕ → ℕ) where
  -- where it stands at the head
  at_head : (p : Stand) (aim : Aim) → heads p.record_number ≡ suc p.place → AimAtTop heads p aim
  at_head p reads is = tt
  at_head p (links j) is = λ first. is
  at_head p (again d) is = tt
  at_head p (checks u) is = tt

  -- a search that has gone on has a place above
  gone_on : (p q : Stand) (aim : Aim) → AimAtTop heads q (moved aim p.place)
  gone_on p q reads = tt
  gone_on p q (links j) = λ first. absurd (let f = first in cc)
  gone_on p q (again d) = tt
  gone_on p q (checks u) = tt

module _ (kept : State → Type 0) (z : Size) (g : World) (m : Memory) (vs : List View) (rule : Rule kept z g m vs) (id : ℕ) (v : View) (at : At vs id v) (live : v.spent ≡ false)
    (alone : OthersTaken z.seats v.number v.splitting v.clock.taken_in) where
  pub top_of : (p : Stand) (j : Joint) (look : Look) → v.work.search ≡ stands p look → p.aim ≡ links j → j.above ≡ None → m (head p.record_number) ≡ suc p.place
  top_of p j look is aim_is first = subst (AimAtTop (head_words m) p) aim_is (subst (IsAtTop (head_words m)) is (rule.tops id v at live alone)) first

module _ (kept : State → Type 0) (z : Size) (g : World) (m : Memory) (vs : List View) (id : ℕ) (v : View) where
  abbrev H : ℕ → ℕ
  H = head_words m

  framed : (k : Kind) → Step kept z g m vs id v k → (heads' : ℕ → ℕ) (w : View) → TopOk z heads' w → part.Tops z heads' (set vs id w)
  framed k s heads' w mine = Each-set (TopOk z H) (TopOk z heads') vs w id (λ i u ne at live h alone. absurd (none_other kept z g m vs id v k s i u ne at live alone)) (λ live. mine) s.rule.tops

  mine : {k : Kind} → Step kept z g m vs id v k → TopOk z H v
  mine s = s.rule.tops id v s.at s.allowed.is_open

  stays_at : {k : Kind} → Step kept z g m vs id v k → (p : Stand) (look : Look) → v.work.search ≡ stands p look → OthersTaken z.seats v.number v.splitting v.clock.taken_in → AimAtTop H p p.aim
  stays_at s p look is alone = subst (IsAtTop H) is (mine s alone)

  module _ (p : Stand) (j : Joint) (w : ℕ) (s : Step kept z g m vs id v (link_head p j w)) where
    abbrev found : ℕ
    found = m (head p.record_number)

    abbrev after_test : Bool → View
    after_test b = record (after (link_head p j w) v found) {
      work = record v.work {
        search = cond b still (stands record p { aim = links record j { least = suc w; stored = false }; place = found - 1 } blank);
        linked = cond b (v.work.linked ++ j.write ∷ []) v.work.linked;
      };
    }

    found_is : found ≡ suc (found - 1)
    found_is =
        let h = stand_of kept z g m vs id v _ s p (stamped w) s.allowed.can.0 in
        let l = s.rule.lists.each p.record_number h.kept.on_record in
        let t = top (stored m).stamps (stored m).links (g.lists p.record_number) found p.place l.spelled l.falls h.kept.there in
        let pos = t.positive in omega arith

    heads_it : (b : Bool) → part.Tops z (at_number H p.record_number (either b (suc j.write.place) found)) (set vs id (after_test b))
    heads_it true = framed _ s _ (after_test true) (λ alone. tt)
    heads_it false = subst (λ (x : ℕ → ℕ). part.Tops z x (set vs id (after_test false))) (λ i r. sym (at_number-stays H p.record_number r) i) (framed _ s H (after_test false) (λ alone first. found_is))

  pub tops_kept : (k : Kind) → Step kept z g m vs id v k → part.Tops z (head_words (changed k v m)) (set vs id (after k v (m (name k v))))
  tops_kept offer_write_word s = framed _ s H _ (λ alone. mine s (before_offer z.seats v.number v.splitting v.clock.taken_in s.allowed.fits alone))
  tops_kept offer_read_word s = framed _ s H _ (λ alone. mine s (before_both z.seats v.number v.splitting v.clock.taken_in s.allowed.fits alone))
  tops_kept (load_head aim r) s =
      let lt : r < z.records = rw (← (s.rule.seats.each id v s.at s.allowed.is_open).size) s.allowed.can.0 in
      let l = s.rule.lists.each r lt in
      let t = top (stored m).stamps (stored m).links (g.lists r) (m (head r)) l.base.place l.spelled l.falls l.base.there in
      let low = t.positive in framed _ s H _ (λ alone. at_head H record { aim = aim; record_number = r; place = m (head r) - 1; under = end_of_stamps } aim (omega arith))
  tops_kept (load_next p look) s = framed _ s H _ (λ alone. gone_on H p record p { aim = moved p.aim p.place; place = m (next_word p.place) - 1; under = stamp_seen look } p.aim)
  tops_kept (load_stamp p) s = framed _ s H _ (λ alone. stays_at s p blank s.allowed.can alone)
  tops_kept (load_status p w) s = framed _ s H _ (λ alone. by_test (ends p.aim w (m (status p.place))) (stays_at s p (stamped w) s.allowed.can.0 alone)) where
    by_test : (b : Bool) → AimAtTop H p p.aim → IsAtTop H (cond b still (stands p (shown w (m (status p.place)))))
    by_test true h = tt
    by_test false h = h
  tops_kept (point p j w) s = framed _ s H _ (λ alone. subst (AimAtTop H p) s.allowed.can.1 (stays_at s p (stamped w) s.allowed.can.0 alone))
  tops_kept (link_head p j w) s = heads_it p j w s (eqb (m (head p.record_number)) (suc p.place))
  tops_kept (link_next p j a w) s = links_it (eqb (m (next_word a)) (suc p.place)) where
    links_it : (b : Bool) → part.Tops z H (set vs id record (after (link_next p j a w) v (m (next_word a))) {
      work = record v.work {
        search = cond b still (stands record p { aim = links record j { least = suc w; stored = false }; place = m (next_word a) - 1 } blank);
        linked = cond b (v.work.linked ++ j.write ∷ []) v.work.linked;
      };
    })
    links_it true = framed _ s H _ (λ alone. tt)
    links_it false = framed _ s H _ (λ alone first. absurd (let e = sym s.allowed.can.3 ∙ first in cc))
  tops_kept k s = framed k s H _ (λ alone. search (tt, mine s alone))
