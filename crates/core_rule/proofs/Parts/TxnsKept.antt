-- Transactions: each step keeps the lists of its transaction together.
use Rattle.std.proofs.Common.{◌≡◌, ◌⊎◌, ℕ, suc, ◌-◌, Bool, true, false, cond, eqb, List, [], ◌∷◌, ◌++◌, set, refl, sym, ap, ◌∙◌, subst, inl, inr, ⊎_elim}
use Rattle.std.specs.Prelude.{nat_le}
use Rattle.plain_data.specs.State.{State}
use Rattle.word_layout.specs.Size.{Size}
use Rattle.word_layout.specs.Name.{head, rts, wts, status, next as next_word}
use Rattle.stamp_base.specs.Limits.{end_of_stamps}
use Rattle.core_rule.specs.Memory.{Memory}
use Rattle.core_rule.specs.World.{World}
use Rattle.core_rule.specs.View.{View, writing, Read, Write, Aim, Joint, reads, links, again, checks, Stand, Look, blank, stamped, shown, Search, still, marks, stands, Work}
use Rattle.core_rule.specs.Views.{Has, Among}
use Rattle.core_rule.specs.Searching.{ends, moved, stamp_seen, finished_with, IsWhole, AllPassed, OthersPassed, Begins}
use Rattle.core_rule.specs.Deciding.{stamp_in, commit_of}
use Rattle.core_rule.specs.Kinds.{Kind, load_head, load_next, load_stamp, load_status, mark, point, link_head, link_next, raise_read_stamp, load_read_stamp, decide_by_check, decide_bare, store_status, name, after}
use Rattle.core_rule.specs.Parts.Txns.{HasWriteOf, AimFits, SearchFits, IsDecided, TxnOk}
use Rattle.core_rule.specs.Parts.Txns as part
use Rattle.core_rule.proofs.Among.{Among-left, Among-last, Among-either, if_more}
use Rattle.core_rule.proofs.EachView.{Each-own}
use Rattle.core_rule.proofs.Step.{Step}
use Rattle.core_rule.proofs.Working.{aim_of_read, aim_of_check}

HasWriteOf-more : (r : ℕ) (us : List Write) (x : Write) → HasWriteOf r us → HasWriteOf r (us ++ x ∷ [])
HasWriteOf-more r us x h = (h.0, Among-left h.0 us (x ∷ []) h.1, h.2)

-- a transaction that has done nothing
pub rests : (v : View) → v.work.raised ≡ [] → v.work.finished ≡ [] → v.work.passed ≡ [] → v.work.settled ≡ [] → v.work.search ≡ still → v.work.decided ≡ false → TxnOk v
rests v raised finished passed settled search decided = record {
  raised = λ d k. absurd (subst (Among d) raised k);
  raised_once = λ d c k l e. absurd (subst (Among d) raised k);
  finished = λ d k. absurd (subst (Among d) finished k);
  passed = λ r k. absurd (subst (Has r) passed k);
  settled = λ r k. absurd (subst (Has r) settled k);
  search = subst (SearchFits v.work) (sym search) tt;
  decided = λ e. absurd (let f : true ≡ false = sym e ∙ decided in cc);
}

module _ (kept : State → Type 0) (z : Size) (g : World) (m : Memory) (vs : List View) (id : ℕ) (v : View) where
  own : (k : Kind) → Step kept z g m vs id v k → (u : View) → (TxnOk v → TxnOk u) → part.Txns (set vs id u)
  own k s u f = Each-own TxnOk vs id v u s.rule.txns s.at s.allowed.is_open f

  mine : (k : Kind) → Step kept z g m vs id v k → TxnOk v
  mine k s = s.rule.txns id v s.at s.allowed.is_open

  -- another search, or none
  search_is : (u : View) → u.work.raised ≡ v.work.raised → u.flight ≡ v.flight → u.work.finished ≡ v.work.finished → u.work.passed ≡ v.work.passed → u.work.settled ≡ v.work.settled → u.work.linked ≡ v.work.linked → u.work.decided ≡ v.work.decided → u.log ≡ v.log
      → SearchFits u.work u.work.search → TxnOk v → TxnOk u
  search_is u raised flight finished passed settled linked decided log search h = record {
    raised = λ d k. rw flight (h.raised d (rw (← raised) k));
    raised_once = λ d c k l. h.raised_once d c (rw (← raised) k) (rw (← raised) l);
    finished = λ d k. rw raised (h.finished d (rw (← finished) k));
    passed = λ r k. rw linked (h.passed r (rw (← passed) k));
    settled = λ r k. rw linked (h.settled r (rw (← settled) k));
    search = search;
    decided = λ e. let o = h.decided (sym decided ∙ e) in (rw flight o.0, record { passed = rw (linked, passed) o.1.passed; finished = rw (raised, finished) o.1.finished; entered = rw (flight, finished, linked, log) o.1.entered });
  }

  AimFits-same : (w w' : Work) (p q : Stand) (aim : Aim) → q.record_number ≡ p.record_number → w'.raised ≡ w.raised → w'.finished ≡ w.finished → w'.linked ≡ w.linked → w'.decided ≡ w.decided → AimFits w p aim → AimFits w' q aim
  AimFits-same w w' p q reads e raised finished linked decided h = tt
  AimFits-same w w' p q (links j) e raised finished linked decided h = decided ∙ h
  AimFits-same w w' p q (again d) e raised finished linked decided h = (rw raised h.0, e ∙ h.1, decided ∙ h.2, rw finished h.3)
  AimFits-same w w' p q (checks u) e raised finished linked decided h = (rw linked h.0, e ∙ h.1, decided ∙ h.2)

  moved_fits : (w w' : Work) (p q : Stand) (aim : Aim) → q.record_number ≡ p.record_number → w'.raised ≡ w.raised → w'.finished ≡ w.finished → w'.linked ≡ w.linked → w'.decided ≡ w.decided → AimFits w p aim → AimFits w' q (moved aim p.place)
  moved_fits w w' p q reads e raised finished linked decided h = tt
  moved_fits w w' p q (links j) e raised finished linked decided h = decided ∙ h
  moved_fits w w' p q (again d) e raised finished linked decided h = AimFits-same w w' p q (again d) e raised finished linked decided h
  moved_fits w w' p q (checks u) e raised finished linked decided h = AimFits-same w w' p q (checks u) e raised finished linked decided h

  begins_fits : (k : Kind) → Step kept z g m vs id v k → (aim : Aim) (r : ℕ) (p : Stand) → p.record_number ≡ r → Begins aim r v.work → AimFits v.work p aim
  begins_fits k s reads r p on b = tt
  begins_fits k s (links j) r p on b = subst (SearchFits v.work) b.0 (mine k s).search
  begins_fits k s (again d) r p on b = (b.2, on ∙ sym b.1, b.3, b.4)
  begins_fits k s (checks u) r p on b = (b.2, on ∙ sym b.1, b.3)

  aim_at : (k : Kind) → Step kept z g m vs id v k → (p : Stand) (look : Look) → v.work.search ≡ stands p look → AimFits v.work p p.aim
  aim_at k s p look is = subst (SearchFits v.work) is (mine k s).search

  -- the end of a second search
  ends_again : (p : Stand) (w : ℕ) (s : Step kept z g m vs id v (load_status p w)) (d : Read) → p.aim ≡ again d → (u : View) → u.work.raised ≡ v.work.raised → u.flight ≡ v.flight → u.work.finished ≡ v.work.finished ++ d ∷ [] → u.work.passed ≡ v.work.passed
      → u.work.settled ≡ v.work.settled → u.work.linked ≡ v.work.linked → u.work.decided ≡ v.work.decided → u.work.search ≡ still → TxnOk v → TxnOk u
  ends_again p w s d is u raised flight finished passed settled linked decided search h =
      let fits = (aim_of_read kept z g m vs id v _ s p d s.allowed.can.0 is).1 in record {
        raised = λ c k. rw flight (h.raised c (rw (← raised) k));
        raised_once = λ c e k l. h.raised_once c e (rw (← raised) k) (rw (← raised) l);
        finished = λ c k. rw raised (⊎_elim (λ old. h.finished c old) (λ (e : d ≡ c). subst (λ (x : Read). Among x v.work.raised) e fits.0) (Among-either c d v.work.finished (subst (Among c) finished k)));
        passed = λ r k. rw linked (h.passed r (rw (← passed) k));
        settled = λ r k. rw linked (h.settled r (rw (← settled) k));
        search = subst (SearchFits u.work) (sym search) tt;
        decided = λ e. absurd (let f : true ≡ false = sym e ∙ decided ∙ fits.2 in cc);
      }

  status_case : (p : Stand) (w : ℕ) (s : Step kept z g m vs id v (load_status p w)) (aim : Aim) → p.aim ≡ aim → (b : Bool) (u : View) → u.work.raised ≡ v.work.raised → u.flight ≡ v.flight
      → u.work.finished ≡ cond b (finished_with aim v.work.finished) v.work.finished → u.work.passed ≡ v.work.passed → u.work.settled ≡ v.work.settled → u.work.linked ≡ v.work.linked → u.work.decided ≡ v.work.decided → u.log ≡ v.log
      → u.work.search ≡ cond b still (stands p (shown w (m (status p.place)))) → TxnOk v → TxnOk u
  status_case p w s aim is false u raised flight finished passed settled linked decided log search h =
      search_is u raised flight finished passed settled linked decided log (subst (SearchFits u.work) (sym search) (AimFits-same v.work u.work p p p.aim refl raised finished linked decided (aim_at _ s p (stamped w) s.allowed.can.0))) h
  status_case p w s reads is true u raised flight finished passed settled linked decided log search h = search_is u raised flight finished passed settled linked decided log (subst (SearchFits u.work) (sym search) tt) h
  status_case p w s (links j) is true u raised flight finished passed settled linked decided log search h = search_is u raised flight finished passed settled linked decided log (subst (SearchFits u.work) (sym search) tt) h
  status_case p w s (checks x) is true u raised flight finished passed settled linked decided log search h = search_is u raised flight finished passed settled linked decided log (subst (SearchFits u.work) (sym search) tt) h
  status_case p w s (again d) is true u raised flight finished passed settled linked decided log search h = ends_again p w s d is u raised flight finished passed settled linked decided search h

  -- an exchange
  links_case : (k : Kind) (s : Step kept z g m vs id v k) (p q : Stand) (j j' : Joint) (w : ℕ) → v.work.search ≡ stands p (stamped w) → p.aim ≡ links j → q.aim ≡ links j' → (b : Bool) (u : View) → u.work.raised ≡ v.work.raised → u.flight ≡ v.flight
      → u.work.finished ≡ v.work.finished → u.work.passed ≡ v.work.passed → u.work.settled ≡ v.work.settled → u.work.linked ≡ cond b (v.work.linked ++ j.write ∷ []) v.work.linked → u.work.decided ≡ v.work.decided
      → u.work.search ≡ cond b still (stands q blank) → TxnOk v → TxnOk u
  links_case k s p q j j' w is aim_is aim'_is b u raised flight finished passed settled linked decided search h =
      let no : v.work.decided ≡ false = subst (AimFits v.work p) aim_is (aim_at k s p (stamped w) is) in record {
        raised = λ c k. rw flight (h.raised c (rw (← raised) k));
        raised_once = λ c e k l. h.raised_once c e (rw (← raised) k) (rw (← raised) l);
        finished = λ c k. rw raised (h.finished c (rw (← finished) k));
        passed = λ r k. rw linked (more b r (h.passed r (rw (← passed) k)));
        settled = λ r k. rw linked (more b r (h.settled r (rw (← settled) k)));
        search = subst (SearchFits u.work) (sym search) (at b (decided ∙ no));
        decided = λ e. absurd (let f : true ≡ false = sym e ∙ decided ∙ no in cc);
      } where
        more : (b : Bool) (r : ℕ) → HasWriteOf r v.work.linked → HasWriteOf r (cond b (v.work.linked ++ j.write ∷ []) v.work.linked)
        more true r x = HasWriteOf-more r v.work.linked j.write x
        more false r x = x

        at : (b : Bool) → u.work.decided ≡ false → SearchFits u.work (cond b still (stands q blank))
        at true undecided = tt
        at false undecided = subst (AimFits u.work q) (sym aim'_is) undecided

  raises : (d : Read) (s : Step kept z g m vs id v (raise_read_stamp d)) (u : View) → u.work.raised ≡ v.work.raised ++ d ∷ [] → u.flight ≡ v.flight → u.work.finished ≡ v.work.finished → u.work.passed ≡ v.work.passed
      → u.work.settled ≡ v.work.settled → u.work.linked ≡ v.work.linked → u.work.decided ≡ v.work.decided → u.work.search ≡ v.work.search → TxnOk v → TxnOk u
  raises d s u raised flight finished passed settled linked decided search h = record {
    raised = λ c k. ⊎_elim (λ old. rw flight (h.raised c old)) (λ (e : d ≡ c). subst (λ (x : Read). (u.flight ≡ writing (stamp_in u.flight)) × IsWhole x) e (rw flight s.allowed.can.0, s.allowed.can.2)) (either c k);
    raised_once = λ c e k l same. one c e same (either c k) (either e l);
    finished = λ c k. rw raised (Among-left c v.work.raised (d ∷ []) (h.finished c (rw (← finished) k)));
    passed = λ r k. rw linked (h.passed r (rw (← passed) k));
    settled = λ r k. rw linked (h.settled r (rw (← settled) k));
    search = subst (SearchFits u.work) (sym search) (still_fits v.work.search h.search);
    decided = λ e. absurd (let f : true ≡ false = sym e ∙ decided ∙ s.allowed.can.4 in cc);
  } where
    either : (c : Read) → Among c u.work.raised → Among c v.work.raised ⊎ (d ≡ c)
    either c k = Among-either c d v.work.raised (subst (Among c) raised k)

    one : (c e : Read) → c.record_number ≡ e.record_number → Among c v.work.raised ⊎ (d ≡ c) → Among e v.work.raised ⊎ (d ≡ e) → c ≡ e
    one c e same (inl a) (inl b) = h.raised_once c e a b same
    one c e same (inl a) (inr b) = absurd (s.allowed.can.3 c a (same ∙ ap (λ (x : Read). x.record_number) (sym b)))
    one c e same (inr a) (inl b) = absurd (s.allowed.can.3 e b (sym same ∙ ap (λ (x : Read). x.record_number) (sym a)))
    one c e same (inr a) (inr b) = sym a ∙ b

    by_aim : (p : Stand) (aim : Aim) → AimFits v.work p aim → AimFits u.work p aim
    by_aim p reads x = tt
    by_aim p (links j) x = decided ∙ x
    by_aim p (again c) x = (rw raised (Among-left c v.work.raised (d ∷ []) x.0), x.1, decided ∙ x.2, rw finished x.3)
    by_aim p (checks w) x = (rw linked x.0, x.1, decided ∙ x.2)

    still_fits : (search : Search) → SearchFits v.work search → SearchFits u.work search
    still_fits still x = tt
    still_fits (marks w) x = decided ∙ x
    still_fits (stands p look) x = by_aim p p.aim x

  -- a check passes, or not; it may be the last
  passed_more : (b : Bool) (r : ℕ) (us : List Write) (rs : List ℕ) → HasWriteOf r us → ((q : ℕ) → Has q rs → HasWriteOf q us) → (q : ℕ) → Has q (cond b (r ∷ rs) rs) → HasWriteOf q us
  passed_more false r us rs h f q k = f q k
  passed_more true r us rs h f q (inl e) = subst (λ (x : ℕ). HasWriteOf x us) e h
  passed_more true r us rs h f q (inr k) = f q k

  checks_case : (k : Kind) (s : Step kept z g m vs id v k) (p : Stand) (x : Write) (look : Look) → v.work.search ≡ stands p look → p.aim ≡ checks x → (b : Bool) (u : View) → u.work.raised ≡ v.work.raised → u.flight ≡ v.flight
      → u.work.finished ≡ v.work.finished → u.work.passed ≡ cond b (x.record_number ∷ v.work.passed) v.work.passed → u.work.settled ≡ v.work.settled → u.work.linked ≡ v.work.linked → u.work.search ≡ still
      → (u.work.decided ≡ true → IsDecided u) → TxnOk v → TxnOk u
  checks_case k s p x look is aim_is b u raised flight finished passed settled linked search decided h =
      let a = aim_of_check kept z g m vs id v k s p x is aim_is in record {
        raised = λ c k. rw flight (h.raised c (rw (← raised) k));
        raised_once = λ c e k l. h.raised_once c e (rw (← raised) k) (rw (← raised) l);
        finished = λ c k. rw raised (h.finished c (rw (← finished) k));
        passed = λ r k. rw linked (passed_more b x.record_number v.work.linked v.work.passed (x, a.1.0, refl) h.passed r (rw (← passed) k));
        settled = λ r k. rw linked (h.settled r (rw (← settled) k));
        search = subst (SearchFits u.work) (sym search) tt;
        decided = λ e. (rw flight a.0, decided e);
      }

  pub all_passed : (r : ℕ) (us : List Write) (rs : List ℕ) → OthersPassed r us rs → AllPassed us (r ∷ rs)
  all_passed r us rs h u k = ⊎_elim (λ e. inl (sym e)) (λ has. inr has) (h u k)

  by_check : (p : Stand) (x : Write) (w n : ℕ) (s : Step kept z g m vs id v (decide_by_check p x w n)) (b : Bool) (u : View) → u.work.raised ≡ v.work.raised → u.flight ≡ v.flight → u.work.finished ≡ v.work.finished
      → u.work.passed ≡ cond b (x.record_number ∷ v.work.passed) v.work.passed → u.work.linked ≡ v.work.linked → u.log ≡ v.log ++ cond b (commit_of v.flight v.work.finished v.work.linked ∷ []) [] → b ≡ true → IsDecided u
  by_check p x w n s false u raised flight finished passed linked log e = absurd (let f : false ≡ true = e in cc)
  by_check p x w n s true u raised flight finished passed linked log e = record {
    passed = rw (linked, passed) (all_passed x.record_number v.work.linked v.work.passed s.allowed.can.4);
    finished = rw (raised, finished) s.allowed.can.3;
    entered = rw (flight, finished, linked, log) (Among-last (commit_of v.flight v.work.finished v.work.linked) v.log);
  }

  still_fits : (k : Kind) → Step kept z g m vs id v k → (search : Search) → SearchFits v.work search → SearchFits v.work search
  still_fits k s search h = h

  pub txns_kept : (k : Kind) → Step kept z g m vs id v k → part.Txns (set vs id (after k v (m (name k v))))
  txns_kept (load_head aim r) s =
      let p : Stand = record { aim = aim; record_number = r; place = m (head r) - 1; under = end_of_stamps } in
      own _ s _ (search_is _ refl refl refl refl refl refl refl refl (AimFits-same v.work (record v.work { search = stands p blank }) p p aim refl refl refl refl refl (begins_fits _ s aim r p refl s.allowed.can.2)))
  txns_kept (load_next p look) s =
      let q : Stand = record p { aim = moved p.aim p.place; place = m (next_word p.place) - 1; under = stamp_seen look } in
      own _ s _ (search_is _ refl refl refl refl refl refl refl refl (moved_fits v.work (record v.work { search = stands q blank }) p q p.aim refl refl refl refl refl (aim_at _ s p look s.allowed.can.0)))
  txns_kept (load_stamp p) s = own _ s _ (search_is _ refl refl refl refl refl refl refl refl (AimFits-same v.work (record v.work { search = stands p (stamped (m (wts p.place))) }) p p p.aim refl refl refl refl refl (aim_at _ s p blank s.allowed.can)))
  txns_kept (load_status p w) s = own _ s _ (status_case p w s p.aim refl (ends p.aim w (m (status p.place))) _ refl refl refl refl refl refl refl refl refl)
  txns_kept (mark r f) s = own _ s _ (search_is _ refl refl refl refl refl refl refl refl s.allowed.can.7)
  txns_kept (point p j w) s = own _ s _ (search_is _ refl refl refl refl refl refl refl refl (subst (AimFits v.work p) s.allowed.can.1 (aim_at _ s p (stamped w) s.allowed.can.0)))
  txns_kept (link_head p j w) s = own _ s _ (links_case _ s p record p { aim = links record j { least = suc w; stored = false }; place = m (head p.record_number) - 1 } j _ w s.allowed.can.0 s.allowed.can.1 refl (eqb (m (head p.record_number)) (suc p.place)) _ refl refl refl refl refl refl refl refl)
  txns_kept (link_next p j a w) s = own _ s _ (links_case _ s p record p { aim = links record j { least = suc w; stored = false }; place = m (next_word a) - 1 } j _ w s.allowed.can.0 s.allowed.can.1 refl (eqb (m (next_word a)) (suc p.place)) _ refl refl refl refl refl refl refl refl)
  txns_kept (raise_read_stamp d) s = own _ s _ (raises d s _ refl refl refl refl refl refl refl refl)
  txns_kept (load_read_stamp p u w n) s = own _ s _ (checks_case _ s p u (shown w n) s.allowed.can.0 s.allowed.can.1 (nat_le (m (rts p.place)) (stamp_in v.flight)) _ refl refl refl refl refl refl refl
      (λ e. absurd (let no = (aim_of_check kept z g m vs id v _ s p u s.allowed.can.0 s.allowed.can.1).1.2 in let f : true ≡ false = sym e ∙ no in cc)))
  txns_kept (decide_by_check p u w n) s = own _ s _ (checks_case _ s p u (shown w n) s.allowed.can.0 s.allowed.can.1 (nat_le (m (rts p.place)) (stamp_in v.flight)) _ refl refl refl refl refl refl refl
      (by_check p u w n s (nat_le (m (rts p.place)) (stamp_in v.flight)) _ refl refl refl refl refl (if_more (nat_le (m (rts p.place)) (stamp_in v.flight)) (commit_of v.flight v.work.finished v.work.linked) v.log)))
  txns_kept decide_bare s = own _ s _ (λ h. record {
    raised = h.raised;
    raised_once = h.raised_once;
    finished = h.finished;
    passed = h.passed;
    settled = h.settled;
    search = tt;
    decided = λ e. (s.allowed.can.0, record { passed = λ u k. absurd (subst (Among u) s.allowed.can.3 k); finished = s.allowed.can.2; entered = Among-last (commit_of v.flight v.work.finished v.work.linked) v.log });
  })
  txns_kept (store_status u) s = own _ s _ (λ h. record {
    raised = h.raised;
    raised_once = h.raised_once;
    finished = h.finished;
    passed = h.passed;
    settled = λ r k. passed_more true u.record_number v.work.linked v.work.settled (u, s.allowed.can.1, refl) h.settled r k;
    search = tt;
    decided = λ e. let o = h.decided e in (o.0, record { passed = o.1.passed; finished = o.1.finished; entered = o.1.entered });
  })
  txns_kept k s = own k s _ (search (rests, search_is, still_fits k s v.work.search (mine k s).search))
