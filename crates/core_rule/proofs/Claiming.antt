-- How the claims of reads go from step to step: which are new at a step, and that all others were there before it.
use Rattle.std.proofs.Common.{◌≡◌, ℕ, suc, ◌-◌, ◌<◌, min, Bool, true, false, cond, List, [], ◌∷◌, ◌++◌, set, refl, sym, ap, ◌∙◌, subst, arith, inl, inr, ⊎_elim, eqb, eqb-true}
use Rattle.std.specs.Prelude.{nat_le}
use Rattle.plain_data.specs.State.{State}
use Rattle.word_layout.specs.Size.{Size}
use Rattle.word_layout.specs.Name.{head, status, rts, next as next_word}
use Rattle.stamp_base.specs.Limits.{end_of_stamps}
use Rattle.core_rule.specs.Memory.{Memory, stored}
use Rattle.core_rule.specs.World.{World}
use Rattle.core_rule.specs.View.{View, Flight, resting, writing, Read, Write, Aim, Joint, reads, links, again, checks, Stand, Look, blank, stamped, shown, Search, still, marks, stands, no_work, Logged}
use Rattle.core_rule.specs.Views.{At, Each, Has, Among}
use Rattle.core_rule.specs.Searching.{ends, is_final, finished_with, limit_of, moved, stamp_seen}
use Rattle.core_rule.specs.Deciding.{stamp_in, commit_of, snapshot_of}
use Rattle.core_rule.specs.Kinds.{Kind, fill_stamp, load_head, load_next, load_stamp, load_status, link_head, link_next, raise_read_stamp, decide_by_check, decide_bare, finish, name, after, changed}
use Rattle.core_rule.specs.Hands.{split_left, split_right, joined_view}
use Rattle.core_rule.specs.Rule.{status_words}
use Rattle.core_rule.specs.Claims.{Claim, claim, AimClaims, SearchClaims, TxnClaims, Claims}
use Rattle.core_rule.specs.Parts.Searches.{SearchOk}
use Rattle.core_rule.proofs.Among.{Among-split, Among-either, if_more}
use Rattle.core_rule.proofs.EachView.{Each-set, Each-push, Each-join, joined}
use Rattle.core_rule.proofs.Step.{Step}
use Rattle.core_rule.proofs.Touched.{quiet}
use Rattle.core_rule.proofs.Parts.ReadsKept.{both}
use Rattle.core_rule.proofs.Working.{stand_of, aim_of_read, aim_of_check}

-- ---- claims of one view

module _ (stamps stamps' : ℕ → ℕ) (P Q : Claim → Type 0) (keeps : (c : Claim) → P c → Q c) where
  -- the stamp of the place that a search stands on is the same
  abbrev SameAt : Search → Type 0
  SameAt (stands p look) = stamps' p.place ≡ stamps p.place
  SameAt _ = Unit {0}

  AimClaims-map : (t : ℕ) (p : Stand) (aim : Aim) → stamps' p.place ≡ stamps p.place → AimClaims stamps P t p aim → AimClaims stamps' Q t p aim
  AimClaims-map t p reads e h = tt
  AimClaims-map t p (links j) e h = tt
  AimClaims-map t p (again d) e h = subst (λ (x : ℕ). Q (claim t d (min t x))) (sym e) (keeps (claim t d (min t (stamps p.place))) h)
  AimClaims-map t p (checks u) e h = tt

  pub SearchClaims-map : (t : ℕ) (search : Search) → SameAt search → SearchClaims stamps P t search → SearchClaims stamps' Q t search
  SearchClaims-map t still e h = tt
  SearchClaims-map t (marks u) e h = tt
  SearchClaims-map t (stands p look) e h = AimClaims-map t p p.aim e h

  pub Claims-map : (v : View) → SameAt v.work.search → Claims stamps P v → Claims stamps' Q v
  Claims-map v e h = record {
    in_flight = λ t f. let b = h.in_flight t f in record {
      raised = λ d k. keeps (claim t d t) (b.raised d k);
      searched = SearchClaims-map t v.work.search e b.searched;
      finished = λ d k. keeps (claim t d d.version) (b.finished d k);
    };
    entered = λ x k f d l. keeps (claim x.stamp d d.version) (h.entered x k f d l);
  }

-- two things that are said of each claim
module _ (stamps : ℕ → ℕ) (P Q : Claim → Type 0) where
  SearchClaims-zip : (t : ℕ) (search : Search) → SearchClaims stamps P t search → SearchClaims stamps Q t search → SearchClaims stamps (λ c. P c × Q c) t search
  SearchClaims-zip t still h k = tt
  SearchClaims-zip t (marks u) h k = tt
  SearchClaims-zip t (stands p look) h k = by_aim p.aim h k where
    by_aim : (aim : Aim) → AimClaims stamps P t p aim → AimClaims stamps Q t p aim → AimClaims stamps (λ c. P c × Q c) t p aim
    by_aim reads h k = tt
    by_aim (links j) h k = tt
    by_aim (again d) h k = (h, k)
    by_aim (checks u) h k = tt

  pub Claims-zip : (v : View) → Claims stamps P v → Claims stamps Q v → Claims stamps (λ c. P c × Q c) v
  Claims-zip v h k = record {
    in_flight = λ t f. let a = h.in_flight t f in let b = k.in_flight t f in record {
      raised = λ d l. (a.raised d l, b.raised d l);
      searched = SearchClaims-zip t v.work.search a.searched b.searched;
      finished = λ d l. (a.finished d l, b.finished d l);
    };
    entered = λ x l f d o. (h.entered x l f d o, k.entered x l f d o);
  }

-- nothing is claimed of an empty transaction
pub TxnClaims-none : (stamps : ℕ → ℕ) (P : Claim → Type 0) (t : ℕ) → TxnClaims stamps P t no_work
TxnClaims-none stamps P t = record { raised = λ d k. absurd k; searched = tt; finished = λ d k. absurd k }

-- ---- one step

module _ (kept : State → Type 0) (z : Size) (g : World) (m : Memory) (vs : List View) (id : ℕ) (v : View) where
  abbrev S : ℕ → ℕ
  S = (stored m).stamps

  abbrev t : ℕ
  t = stamp_in v.flight

  -- what is claimed anew at a step: at the raise, and where the second search goes on to another place
  abbrev pub NewAt : (Claim → Type 0) → (place : ℕ) → Aim → Type 0
  NewAt Q place (again d) = Q (claim t d (min t (S place)))
  NewAt Q place _ = Unit {0}

  abbrev pub New : (Claim → Type 0) → Kind → Type 0
  New Q (raise_read_stamp d) = Q (claim t d t)
  New Q (load_head aim r) = NewAt Q (m (head r) - 1) aim
  New Q (load_next p look) = NewAt Q (m (next_word p.place) - 1) p.aim
  New Q _ = Unit {0}

  -- the stamps of linked places
  pub stamps_same : (k : Kind) → Step kept z g m vs id v k → (r q : ℕ) → r < z.records → Has q (g.lists r) → (stored (changed k v m)).stamps q ≡ S q
  stamps_same (fill_stamp p x) s r q lt has = (quiet kept z g m vs id v _ s tt).stamps r q lt has
  stamps_same k s r q lt has = refl

  stands_same : (k : Kind) (s : Step kept z g m vs id v k) (i : ℕ) (x : View) → At vs i x → x.spent ≡ false → SameAt S (stored (changed k v m)).stamps (λ c. Unit {0}) (λ c. Unit {0}) (λ c h. h) x.work.search
  stands_same k s i x at live = by_search x.work.search (s.rule.searches i x at live) where
    by_search : (search : Search) → SearchOk z g.lists S (status_words m) (limit_of x.flight x.published.read) x.published.read search → SameAt S (stored (changed k v m)).stamps (λ c. Unit {0}) (λ c. Unit {0}) (λ c h. h) search
    by_search still h = tt
    by_search (marks u) h = tt
    by_search (stands p look) h = stamps_same k s p.record_number p.place h.kept.on_record h.kept.there

  module _ (P Q : Claim → Type 0) (keeps : (c : Claim) → P c → Q c) (all : Each (Claims S P) vs) where
    mine : (k : Kind) → Step kept z g m vs id v k → Claims S P v
    mine k s = all id v s.at s.allowed.is_open

    others : (k : Kind) (s : Step kept z g m vs id v k) (u : View) → Claims (stored (changed k v m)).stamps Q u → Each (Claims (stored (changed k v m)).stamps Q) (set vs id u)
    others k s u own = Each-set (Claims S P) (Claims (stored (changed k v m)).stamps Q) vs u id
        (λ i x ne at live h. Claims-map S (stored (changed k v m)).stamps P Q keeps x (stands_same k s i x at live) h) (λ live. own) all

    -- the same lists and log
    framed : (k : Kind) (s : Step kept z g m vs id v k) (S' : ℕ → ℕ) (u : View) → u.flight ≡ v.flight → u.work.raised ≡ v.work.raised → u.work.finished ≡ v.work.finished → u.log ≡ v.log
        → ((x : ℕ) → v.flight ≡ writing x → SearchClaims S P x v.work.search → SearchClaims S' Q x u.work.search) → Claims S' Q u
    framed k s S' u flight raised finished log searched = record {
      in_flight = λ x e. let f = sym flight ∙ e in let b = (mine k s).in_flight x f in record {
        raised = λ d l. keeps (claim x d x) (b.raised d (subst (Among d) raised l));
        searched = searched x f b.searched;
        finished = λ d l. keeps (claim x d d.version) (b.finished d (subst (Among d) finished l));
      };
      entered = λ y l f d o. keeps (claim y.stamp d d.version) ((mine k s).entered y (subst (Among y) log l) f d o);
    }

    -- no transaction
    rests : (k : Kind) (s : Step kept z g m vs id v k) (S' : ℕ → ℕ) (u : View) → u.work ≡ no_work → ((e : Logged) → Among e u.log → e.snapshot ≡ false → Among e v.log) → Claims S' Q u
    rests k s S' u none log = record {
      in_flight = λ x e. subst (TxnClaims S' Q x) (sym none) (TxnClaims-none S' Q x);
      entered = λ y l f d o. keeps (claim y.stamp d d.version) ((mine k s).entered y (log y l f) f d o);
    }

    -- a second search stands on another place
    new_at : (place : ℕ) (x : ℕ) → v.flight ≡ writing x → (p : Stand) (aim : Aim) → p.place ≡ place → NewAt Q place aim → AimClaims S Q x p aim
    new_at place x e p reads at h = tt
    new_at place x e p (links j) at h = tt
    new_at place x e p (again d) at h = subst (λ (y : ℕ). Q (claim y d (min y (S p.place)))) (ap stamp_in e) (rw at h)
    new_at place x e p (checks u) at h = tt

    -- the end of a second search
    ended : (s : Stand) (d : Read) (k : Kind) (step : Step kept z g m vs id v k) (look : Look) → v.work.search ≡ stands s look → s.aim ≡ again d → S s.place ≡ d.version → d.version < t → (x : ℕ) → v.flight ≡ writing x → Q (claim x d d.version)
    ended p d k s look is aim_is at early x e =
        let b = ((mine k s).in_flight x e).searched in
        let c : P (claim x d (min x (S p.place))) = subst (λ (a : Aim). AimClaims S P x p a) aim_is (subst (SearchClaims S P x) is b) in
        let same : t ≡ x = ap stamp_in e in
        let low : min x (S p.place) ≡ d.version = omega arith in
        keeps (claim x d d.version) (subst (λ (y : ℕ). P (claim x d y)) low c)

    -- what is claimed at the place where the search still stands
    stays : (k : Kind) (s : Step kept z g m vs id v k) (p : Stand) (look : Look) → v.work.search ≡ stands p look → (x : ℕ) → SearchClaims S P x v.work.search → AimClaims S Q x p p.aim
    stays k s p look is x h = AimClaims-map S S P Q keeps x p p.aim refl (subst (SearchClaims S P x) is h)

    finished_same : (p : Stand) (w : ℕ) (s : Step kept z g m vs id v (load_status p w)) (u : View) → u.flight ≡ v.flight → u.work.raised ≡ v.work.raised → u.log ≡ v.log → u.work.finished ≡ v.work.finished
        → u.work.search ≡ still → Claims S Q u
    finished_same p w s u flight raised log finished search = framed _ s S u flight raised finished log (λ x e h. subst (SearchClaims S Q x) (sym search) tt)

    finished_case : (p : Stand) (w : ℕ) (s : Step kept z g m vs id v (load_status p w)) (aim : Aim) → p.aim ≡ aim → (b : Bool) → ends aim w (m (status p.place)) ≡ b
        → (u : View) → u.flight ≡ v.flight → u.work.raised ≡ v.work.raised → u.log ≡ v.log → u.work.finished ≡ cond b (finished_with aim v.work.finished) v.work.finished
        → u.work.search ≡ cond b still (stands p (shown w (m (status p.place)))) → Claims S Q u
    finished_case p w s aim is false e u flight raised log finished search =
        framed _ s S u flight raised finished log (λ x f h. subst (SearchClaims S Q x) (sym search) (stays _ s p (stamped w) s.allowed.can.0 x h))
    finished_case p w s reads is true e u flight raised log finished search = finished_same p w s u flight raised log finished search
    finished_case p w s (links j) is true e u flight raised log finished search = finished_same p w s u flight raised log finished search
    finished_case p w s (checks c) is true e u flight raised log finished search = finished_same p w s u flight raised log finished search
    finished_case p w s (again d) is true e u flight raised log finished search =
        let base = framed _ s S (record u { work = record u.work { finished = v.work.finished } }) flight raised refl log (λ x f h. subst (SearchClaims S Q x) (sym search) tt) in
        let o = stand_of kept z g m vs id v _ s p (stamped w) s.allowed.can.0 in
        let both_of = both (is_final (m (status p.place))) (eqb w d.version) e in
        let same = eqb-true w d.version both_of.1 in
        let in_flight = (aim_of_read kept z g m vs id v _ s p d s.allowed.can.0 is).0 in
        let early : w < t = subst (λ (f : Flight). w < limit_of f v.published.read) in_flight s.allowed.can.1 in record {
          in_flight = λ x f. let b = base.in_flight x f in record {
            raised = b.raised;
            searched = b.searched;
            finished = λ c k. ⊎_elim (λ old. b.finished c old)
                (λ (new : d ≡ c). subst (λ (y : Read). Q (claim x y y.version)) new (ended p d _ s (stamped w) s.allowed.can.0 is (o.seen ∙ same) (omega arith) x (sym flight ∙ f)))
                (Among-either c d v.work.finished (subst (Among c) finished k));
          };
          entered = base.entered;
        }

    -- the entry that a transaction makes
    entered_with : (k : Kind) (s : Step kept z g m vs id v k) (ds : List Read) (us : List Write) → ((d : Read) → Among d ds → Q (claim t d d.version)) → (b : Bool)
        → (y : Logged) → Among y (v.log ++ cond b (commit_of v.flight ds us ∷ []) []) → y.snapshot ≡ false → (d : Read) → Among d y.reads → Q (claim y.stamp d d.version)
    entered_with k s ds us all_of b y l f d o = ⊎_elim (λ old. keeps (claim y.stamp d d.version) ((mine k s).entered y old f d o)) (λ new. one b new) (Among-split y v.log (cond b (commit_of v.flight ds us ∷ []) []) l) where
      one : (b : Bool) → Among y (cond b (commit_of v.flight ds us ∷ []) []) → Q (claim y.stamp d d.version)
      one false h = absurd h
      one true (inl e) = subst (λ (c : Logged). (d : Read) → Among d c.reads → Q (claim c.stamp d d.version)) e all_of d o
      one true (inr h) = absurd h

    finished_of : (k : Kind) (s : Step kept z g m vs id v k) → v.flight ≡ writing t → (d : Read) → Among d v.work.finished → Q (claim t d d.version)
    finished_of k s e d l = keeps (claim t d d.version) (((mine k s).in_flight t e).finished d l)

    new_moved : (place q : ℕ) (x : ℕ) → v.flight ≡ writing x → (p : Stand) (aim : Aim) → p.place ≡ place → NewAt Q place aim → AimClaims S Q x p (moved aim q)
    new_moved place q x e p reads at h = tt
    new_moved place q x e p (links j) at h = tt
    new_moved place q x e p (again d) at h = new_at place x e p (again d) at h
    new_moved place q x e p (checks u) at h = tt

    -- an exchange
    links_case : (k : Kind) (s : Step kept z g m vs id v k) (b : Bool) (p : Stand) (j : Joint) → p.aim ≡ links j → (u : View) → u.flight ≡ v.flight → u.work.raised ≡ v.work.raised → u.work.finished ≡ v.work.finished → u.log ≡ v.log
        → u.work.search ≡ cond b still (stands p blank) → Claims S Q u
    links_case k s b p j is u flight raised finished log search = framed k s S u flight raised finished log (λ x e h. subst (SearchClaims S Q x) (sym search) (by_case b x)) where
      by_case : (b : Bool) (x : ℕ) → SearchClaims S Q x (cond b still (stands p blank))
      by_case true x = tt
      by_case false x = subst (AimClaims S Q x p) (sym is) tt

    still_claimed : (k : Kind) → Step kept z g m vs id v k → (x : ℕ) → SearchClaims S P x v.work.search → SearchClaims (stored (changed k v m)).stamps Q x v.work.search
    still_claimed k s x = SearchClaims-map S (stored (changed k v m)).stamps P Q keeps x v.work.search (stands_same k s id v s.at s.allowed.is_open)

    pub claims_kept : (k : Kind) → Step kept z g m vs id v k → New Q k → Each (Claims (stored (changed k v m)).stamps Q) (set vs id (after k v (m (name k v))))
    claims_kept (load_head aim r) s new = others _ s _ (framed _ s S _ refl refl refl refl
        (λ x e h. new_at (m (head r) - 1) x e record { aim = aim; record_number = r; place = m (head r) - 1; under = end_of_stamps } aim refl new))
    claims_kept (load_next p look) s new = others _ s _ (framed _ s S _ refl refl refl refl
        (λ x e h. new_moved (m (next_word p.place) - 1) p.place x e record p { aim = moved p.aim p.place; place = m (next_word p.place) - 1; under = stamp_seen look } p.aim refl new))
    claims_kept (load_stamp p) s new = others _ s _ (framed _ s S _ refl refl refl refl (λ x e h. stays _ s p blank s.allowed.can x h))
    claims_kept (load_status p w) s new = others _ s _ (finished_case p w s p.aim refl (ends p.aim w (m (status p.place))) refl _ refl refl refl refl refl)
    claims_kept (link_head p j w) s new = others _ s _
        (links_case _ s (eqb (m (head p.record_number)) (suc p.place)) record p { aim = links record j { least = suc w; stored = false }; place = m (head p.record_number) - 1 } _ refl _ refl refl refl refl refl)
    claims_kept (link_next p j a w) s new = others _ s _
        (links_case _ s (eqb (m (next_word a)) (suc p.place)) record p { aim = links record j { least = suc w; stored = false }; place = m (next_word a) - 1 } _ refl _ refl refl refl refl refl)
    claims_kept (raise_read_stamp d) s new = others _ s _ record {
      in_flight = λ x e. let b = (mine _ s).in_flight x e in record {
        raised = λ c k. ⊎_elim (λ old. keeps (claim x c x) (b.raised c old)) (λ (is : d ≡ c). subst (λ (y : Read). Q (claim x y x)) is (subst (λ (y : ℕ). Q (claim y d y)) (ap stamp_in e) new)) (Among-either c d v.work.raised k);
        searched = SearchClaims-map S S P Q keeps x v.work.search (stands_same _ s id v s.at s.allowed.is_open) b.searched;
        finished = λ c k. keeps (claim x c c.version) (b.finished c k);
      };
      entered = λ y l f c o. keeps (claim y.stamp c c.version) ((mine _ s).entered y l f c o);
    }
    claims_kept (decide_by_check p u w n) s new =
        let base = framed _ s S (record v { work = record v.work { search = still } }) refl refl refl refl (λ x e h. tt) in
        let is_flight = (aim_of_check kept z g m vs id v _ s p u s.allowed.can.0 s.allowed.can.1).0 in
        others _ s _ record {
          in_flight = λ x e. let b = base.in_flight x e in record { raised = b.raised; searched = tt; finished = b.finished };
          entered = λ y l. entered_with _ s v.work.finished v.work.linked (finished_of _ s is_flight) (nat_le (m (rts p.place)) t) y (subst (Among y) (if_more (nat_le (m (rts p.place)) (stamp_in v.flight)) (commit_of v.flight v.work.finished v.work.linked) v.log) l);
        }
    claims_kept decide_bare s new =
        let base = framed _ s S (record v { work = record v.work { search = still } }) refl refl refl refl (λ x e h. tt) in
        others _ s _ record {
          in_flight = λ x e. let b = base.in_flight x e in record { raised = b.raised; searched = tt; finished = b.finished };
          entered = entered_with _ s v.work.finished v.work.linked (finished_of _ s s.allowed.can.0) true;
        }
    claims_kept (finish ds) s new = others _ s _ (rests _ s _ _ refl (λ y l f. ⊎_elim (λ old. old) (λ (is : snapshot_of v.published.read ds ≡ y). absurd (let e : true ≡ false = ap (λ (c : Logged). c.snapshot) is ∙ f in cc))
        (Among-either y (snapshot_of v.published.read ds) v.log l)))
    claims_kept k s new = others k s _ (search (rests k s, framed k s, still_claimed k s, tt))

-- ---- a seat is made, and one is taken in

no_txn : (t : ℕ) → resting ≡ writing t → ⊥
no_txn t e = cc

pub claims_split : (vs : List View) (id : ℕ) (v : View) (S : ℕ → ℕ) (P Q : Claim → Type 0) → ((c : Claim) → P c → Q c) → At vs id v → v.spent ≡ false → Each (Claims S P) vs
    → Each (Claims S Q) (set vs id (split_left v) ++ split_right v ∷ [])
claims_split vs id v S P Q keeps at live all =
    let same : (x : View) → Claims S P x → Claims S Q x = λ x. Claims-map S S P Q keeps x (here x.work.search) in
    Each-push (Claims S Q) (Claims S Q) (set vs id (split_left v)) (split_right v) (λ i u a o h. h)
    (λ o. record { in_flight = λ t e. absurd (no_txn t e); entered = λ e k. absurd k })
    (Each-set (Claims S P) (Claims S Q) vs (split_left v) id (λ i u ne a o h. same u h)
    (λ o. record { in_flight = λ t e. absurd (no_txn t e); entered = λ e k f d l. keeps (claim e.stamp d d.version) ((all id v at live).entered e k f d l) }) all) where
      here : (search : Search) → SameAt S S P Q keeps search
      here still = tt
      here (marks u) = tt
      here (stands p look) = refl

pub claims_joined : (vs : List View) (id other : ℕ) (v w : View) (S : ℕ → ℕ) (P Q : Claim → Type 0) → ((c : Claim) → P c → Q c) → At vs id v → At vs other w → v.spent ≡ false → w.spent ≡ false → Each (Claims S P) vs
    → Each (Claims S Q) (joined vs (joined_view v w) id other)
claims_joined vs id other v w S P Q keeps at at_other live other_live all =
    Each-join vs (joined_view v w) id other (Claims S P) (Claims S Q) (λ i u h o c. Claims-map S S P Q keeps u (here u.work.search) c)
    (λ o. record {
      in_flight = λ t e. absurd (no_txn t e);
      entered = λ e k f d l. keeps (claim e.stamp d d.version) (⊎_elim (λ mine. (all id v at live).entered e mine f d l) (λ theirs. (all other w at_other other_live).entered e theirs f d l) (Among-split e v.log w.log k));
    }) all where
      here : (search : Search) → SameAt S S P Q keeps search
      here still = tt
      here (marks u) = tt
      here (stands p look) = refl
