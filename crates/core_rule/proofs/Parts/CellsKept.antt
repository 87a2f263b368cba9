-- Cells: what steps fill and load are words.
use Rattle.std.proofs.Common.{eqb-true, ◌≡◌, ℕ, suc, ◌-◌, ◌<◌, Bool, true, false, cond, eqb, List, [], ◌∷◌, ◌++◌, set, refl, sym, ap, ◌∙◌, subst, inl, inr, ⊎_elim}
use Rattle.plain_data.specs.State.{State}
use Rattle.word_layout.specs.Size.{Size, IsSize}
use Rattle.word_layout.specs.Name.{head, cell, status, next as next_word}
use Rattle.core_rule.specs.Memory.{Memory}
use Rattle.core_rule.specs.World.{World}
use Rattle.core_rule.specs.View.{View, Fill, Read, Write, Aim, Joint, reads, links, again, checks, Stand, Look, blank, stamped, shown, still, stands, first_view}
use Rattle.core_rule.specs.Views.{Among}
use Rattle.core_rule.specs.Holding.{without_fill, reset_fill, more_cells}
use Rattle.core_rule.specs.Searching.{ends, moved, reads_with, finished_with, read_found, more_read, read_place, read_cells, IsLoading, Begins}
use Rattle.core_rule.specs.Kinds.{Kind, take, fill_stamp, fill_reset, fill_cell, meet_cell, give, load_head, load_next, load_stamp, load_status, load_cell, mark, point, link_head, link_next, raise_read_stamp, name, after}
use Rattle.core_rule.specs.Hands.{split_left, split_right, joined_view}
use Rattle.core_rule.specs.Parts.Cells.{AreWords, AimWords, SearchWords, IsReadOnce, IsWrittenOnce, CellsOk}
use Rattle.core_rule.specs.Parts.Cells as part
use Rattle.core_rule.proofs.Among.{Among-either}
use Rattle.core_rule.proofs.EachView.{Each-own, Each-push, Each-join, Each-one, AllOf-append, joined}
use Rattle.core_rule.proofs.Step.{Step}
use Rattle.core_rule.proofs.Making.{Split, Join}
use Rattle.core_rule.proofs.Working.{joint_of, aim_of_read}

abbrev FillsWords : List Fill → Type 0
FillsWords fs = (f : Fill) → Among f fs → AreWords f.cells

without_words : (p : ℕ) (fs : List Fill) → FillsWords fs → FillsWords (without_fill p fs)
without_words p [] h f k = absurd k
without_words p (x ∷ fs) h f k = by_test (eqb x.place p) (without_words p fs (λ y l. h y (inr l)) f) k where
  by_test : (b : Bool) → (Among f (without_fill p fs) → AreWords f.cells) → Among f (cond b (without_fill p fs) (x ∷ without_fill p fs)) → AreWords f.cells
  by_test true rec k = rec k
  by_test false rec (inl e) = h f (inl e)
  by_test false rec (inr k) = rec k

reset_words : (fs : List Fill) → FillsWords fs → FillsWords (reset_fill fs)
reset_words [] h f k = absurd k
reset_words (x ∷ fs) h f (inl e) = subst (λ (y : Fill). AreWords y.cells) e (h x (inl refl))
reset_words (x ∷ fs) h f (inr k) = h f (inr k)

more_words : (word : ℕ) (fs : List Fill) → word < 18446744073709551616 → FillsWords fs → FillsWords (more_cells word fs)
more_words word [] lt h f k = absurd k
more_words word (x ∷ fs) lt h f (inl e) = subst (λ (y : Fill). AreWords y.cells) e (AllOf-append (λ y. y < 18446744073709551616) x.cells (word ∷ []) (h x (inl refl)) (lt, tt))
more_words word (x ∷ fs) lt h f (inr k) = h f (inr k)

met_words : (word : ℕ) (fs : List Fill) (b : Bool) → (b ≡ true → word < 18446744073709551616) → FillsWords fs → FillsWords (cond b (more_cells word fs) fs)
met_words word fs true lt h = more_words word fs (lt refl) h
met_words word fs false lt h = h

pub ReadOnce-more : (d : Read) (ds : List Read) → IsReadOnce ds → ((c : Read) → Among c ds → c.record_number ≡ d.record_number → ⊥) → IsReadOnce (ds ++ d ∷ [])
ReadOnce-more d [] h away = ((λ c k e. absurd k), tt)
ReadOnce-more d (x ∷ ds) h away = ((λ c k e. ⊎_elim (λ old. h.0 c old e) (λ (is : d ≡ c). away x (inl refl) (sym e ∙ sym (ap (λ (y : Read). y.record_number) is))) (Among-either c d ds k)), ReadOnce-more d ds h.1 (λ c k. away c (inr k)))

pub WrittenOnce-more : (u : Write) (us : List Write) → IsWrittenOnce us → ((x : Write) → Among x us → x.record_number ≡ u.record_number → ⊥) → IsWrittenOnce (us ++ u ∷ [])
WrittenOnce-more u [] h away = ((λ c k e. absurd k), tt)
WrittenOnce-more u (x ∷ us) h away = ((λ c k e. ⊎_elim (λ old. h.0 c old e) (λ (is : u ≡ c). away x (inl refl) (sym e ∙ sym (ap (λ (y : Write). y.record_number) is))) (Among-either c u us k)), WrittenOnce-more u us h.1 (λ c k. away c (inr k)))

-- a transaction that has done nothing
rests : (v u : View) → u.places ≡ v.places → u.work.search ≡ still → u.work.linked ≡ [] → u.work.reads ≡ [] → u.work.raised ≡ [] → u.work.finished ≡ [] → CellsOk v → CellsOk u
rests v u places search linked found raised finished h = record {
  fills = rw places h.fills;
  marked = subst SearchWords (sym search) tt;
  linked = λ x k. absurd (subst (Among x) linked k);
  reads = λ d k. absurd (subst (Among d) found k);
  raised = λ d k. absurd (subst (Among d) raised k);
  finished_once = subst IsReadOnce (sym finished) tt;
  linked_once = subst IsWrittenOnce (sym linked) tt;
}

module _ (kept : State → Type 0) (z : Size) (g : World) (m : Memory) (vs : List View) (id : ℕ) (v : View) where
  own : (k : Kind) → Step kept z g m vs id v k → (u : View) → (CellsOk v → CellsOk u) → part.Cells (set vs id u)
  own k s u f = Each-own CellsOk vs id v u s.rule.word_cells s.at s.allowed.is_open f

  mine : (k : Kind) → Step kept z g m vs id v k → CellsOk v
  mine k s = s.rule.word_cells id v s.at s.allowed.is_open

  -- other fills
  with_fills : (fs : List Fill) (u : View) → u.places.fills ≡ fs → u.work ≡ v.work → FillsWords fs → CellsOk v → CellsOk u
  with_fills fs u fills work words h = record {
    fills = λ f k. words f (subst (Among f) fills k);
    marked = rw work h.marked;
    linked = rw work h.linked;
    reads = rw work h.reads;
    raised = rw work h.raised;
    finished_once = rw work h.finished_once;
    linked_once = rw work h.linked_once;
  }

  -- another search
  with_search : (u : View) → u.places ≡ v.places → u.work.linked ≡ v.work.linked → u.work.reads ≡ v.work.reads → u.work.raised ≡ v.work.raised → u.work.finished ≡ v.work.finished → SearchWords u.work.search → CellsOk v → CellsOk u
  with_search u places linked found raised finished search h = record {
    fills = rw places h.fills;
    marked = search;
    linked = λ x k. h.linked x (rw (← linked) k);
    reads = λ d k. h.reads d (rw (← found) k);
    raised = λ d k. h.raised d (rw (← raised) k);
    finished_once = rw finished h.finished_once;
    linked_once = rw linked h.linked_once;
  }

  begins_words : (k : Kind) → Step kept z g m vs id v k → (aim : Aim) (r : ℕ) → Begins aim r v.work → AimWords aim
  begins_words k s reads r b = tt
  begins_words k s (links j) r b = subst SearchWords b.0 (mine k s).marked
  begins_words k s (again d) r b = tt
  begins_words k s (checks u) r b = tt

  moved_words : (aim : Aim) (q : ℕ) → AimWords aim → AimWords (moved aim q)
  moved_words reads q h = tt
  moved_words (links j) q h = h
  moved_words (again d) q h = tt
  moved_words (checks u) q h = tt

  aim_at : (k : Kind) → Step kept z g m vs id v k → (p : Stand) (look : Look) → v.work.search ≡ stands p look → AimWords p.aim
  aim_at k s p look is = subst SearchWords is (mine k s).marked

  -- a read that is searched again has another record than those that were
  again_apart : (k : Kind) → Step kept z g m vs id v k → (d : Read) → Among d v.work.raised → (Among d v.work.finished → ⊥) → (c : Read) → Among c v.work.finished → c.record_number ≡ d.record_number → ⊥
  again_apart k s d there not c l e = let t = s.rule.txns id v s.at s.allowed.is_open in not (subst (λ (x : Read). Among x v.work.finished) (t.raised_once c d (t.finished c l) there e) l)

  -- a search for a read that ends
  status_case : (p : Stand) (w : ℕ) (s : Step kept z g m vs id v (load_status p w)) (aim : Aim) → p.aim ≡ aim → (b : Bool) (u : View) → u.places ≡ v.places → u.work.linked ≡ v.work.linked
      → u.work.reads ≡ cond b (reads_with aim p w (m (status p.place)) v.work.reads) v.work.reads → u.work.raised ≡ v.work.raised → u.work.finished ≡ cond b (finished_with aim v.work.finished) v.work.finished
      → u.work.search ≡ cond b still (stands p (shown w (m (status p.place)))) → CellsOk v → CellsOk u
  status_case p w s aim is false u places linked found raised finished search h = with_search u places linked found raised finished (subst SearchWords (sym search) (aim_at _ s p (stamped w) s.allowed.can.0)) h
  status_case p w s (links j) is true u places linked found raised finished search h = with_search u places linked found raised finished (subst SearchWords (sym search) tt) h
  status_case p w s (checks x) is true u places linked found raised finished search h = with_search u places linked found raised finished (subst SearchWords (sym search) tt) h
  status_case p w s reads is true u places linked found raised finished search h = record {
    fills = rw places h.fills;
    marked = subst SearchWords (sym search) tt;
    linked = λ x k. h.linked x (rw (← linked) k);
    reads = λ d k. by_case d (subst (Among d) found k);
    raised = λ d k. h.raised d (rw (← raised) k);
    finished_once = rw finished h.finished_once;
    linked_once = rw linked h.linked_once;
  } where
    by_case : (d : Read) → Among d (read_found p w (m (status p.place)) ∷ v.work.reads) → AreWords d.cells
    by_case d (inl e) = subst (λ (x : Read). AreWords x.cells) e tt
    by_case d (inr k) = h.reads d k
  status_case p w s (again d) is true u places linked found raised finished search h =
      let t = s.rule.txns id v s.at s.allowed.is_open in let a = (aim_of_read kept z g m vs id v _ s p d s.allowed.can.0 is).1 in record {
        fills = rw places h.fills;
        marked = subst SearchWords (sym search) tt;
        linked = λ x k. h.linked x (rw (← linked) k);
        reads = λ c k. h.reads c (rw (← found) k);
        raised = λ c k. h.raised c (rw (← raised) k);
        finished_once = rw finished (ReadOnce-more d v.work.finished h.finished_once (again_apart _ s d a.0 a.3));
        linked_once = rw linked h.linked_once;
      }

  links_case : (k : Kind) (s : Step kept z g m vs id v k) (p q : Stand) (j j' : Joint) (w : ℕ) → v.work.search ≡ stands p (stamped w) → p.aim ≡ links j → q.aim ≡ links j' → j'.write ≡ j.write → (b : Bool) (u : View) → u.places ≡ v.places
      → u.work.linked ≡ cond b (v.work.linked ++ j.write ∷ []) v.work.linked → u.work.reads ≡ v.work.reads → u.work.raised ≡ v.work.raised → u.work.finished ≡ v.work.finished → u.work.search ≡ cond b still (stands q blank) → CellsOk v → CellsOk u
  links_case k s p q j j' w is aim_is aim'_is same false u places linked found raised finished search h = with_search u places linked found raised finished
      (subst SearchWords (sym search) (subst AimWords (sym aim'_is) (subst (λ (x : Write). AreWords x.cells) (sym same) (subst AimWords aim_is (aim_at k s p (stamped w) is))))) h
  links_case k s p q j j' w is aim_is aim'_is same true u places linked found raised finished search h =
      let words = subst AimWords aim_is (aim_at k s p (stamped w) is) in
      let o = joint_of kept z g m vs id v k s p j w is aim_is in record {
        fills = rw places h.fills;
        marked = subst SearchWords (sym search) tt;
        linked = λ x l. ⊎_elim (λ old. h.linked x old) (λ (e : j.write ≡ x). subst (λ (y : Write). AreWords y.cells) e words) (Among-either x j.write v.work.linked (subst (Among x) linked l));
        reads = λ c k. h.reads c (rw (← found) k);
        raised = λ c k. h.raised c (rw (← raised) k);
        finished_once = rw finished h.finished_once;
        linked_once = rw linked (WrittenOnce-more j.write v.work.linked h.linked_once o.mark.only);
      }

  loads_more : (s : Step kept z g m vs id v load_cell) (ds : List Read) → IsLoading ds → m (cell (read_place ds) (read_cells ds)) < 18446744073709551616 → ((d : Read) → Among d ds → AreWords d.cells)
      → (d : Read) → Among d (more_read (m (cell (read_place ds) (read_cells ds))) ds) → AreWords d.cells
  loads_more s [] is lt h d k = absurd is
  loads_more s (c ∷ ds) is lt h d (inl e) = subst (λ (x : Read). AreWords x.cells) e (AllOf-append (λ y. y < 18446744073709551616) c.cells _ (h c (inl refl)) (lt, tt))
  loads_more s (c ∷ ds) is lt h d (inr k) = h d (inr k)

  same_search : (k : Kind) → Step kept z g m vs id v k → SearchWords v.work.search
  same_search k s = (mine k s).marked

  pub word_cells_kept : (k : Kind) → Step kept z g m vs id v k → part.Cells (set vs id (after k v (m (name k v))))
  word_cells_kept (take p) s = own _ s _ (λ h. with_fills v.places.fills _ refl refl h.fills h)
  word_cells_kept (fill_stamp p t) s = own _ s _ (λ h. with_fills (record { place = p; stamp = t; reset = false; cells = [] } ∷ without_fill p v.places.fills) _ refl refl (begins h) h) where
    begins : CellsOk v → FillsWords (record { place = p; stamp = t; reset = false; cells = [] } ∷ without_fill p v.places.fills)
    begins h f (inl e) = subst (λ (y : Fill). AreWords y.cells) e tt
    begins h f (inr k) = without_words p v.places.fills h.fills f k
  word_cells_kept fill_reset s = own _ s _ (λ h. with_fills (reset_fill v.places.fills) _ refl refl (reset_words v.places.fills h.fills) h)
  word_cells_kept (fill_cell x) s = own _ s _ (λ h. with_fills (more_cells x v.places.fills) _ refl refl (more_words x v.places.fills s.allowed.can.2 h.fills) h)
  word_cells_kept (meet_cell x) s = own _ s _
      (λ h. with_fills (cond (eqb (m (name (meet_cell x) v)) x) (more_cells x v.places.fills) v.places.fills) _ refl refl
      (met_words x v.places.fills (eqb (m (name (meet_cell x) v)) x) (λ e. subst (λ (n : ℕ). n < 18446744073709551616) (eqb-true (m (name (meet_cell x) v)) x e) s.fits) h.fills) h)
  word_cells_kept (give p) s = own _ s _ (λ h. with_fills (without_fill p v.places.fills) _ refl refl (without_words p v.places.fills h.fills) h)
  word_cells_kept (load_head aim r) s = own _ s _ (with_search _ refl refl refl refl refl (begins_words _ s aim r s.allowed.can.2))
  word_cells_kept (load_next p look) s = own _ s _ (with_search _ refl refl refl refl refl (moved_words p.aim p.place (aim_at _ s p look s.allowed.can.0)))
  word_cells_kept (load_stamp p) s = own _ s _ (with_search _ refl refl refl refl refl (aim_at _ s p blank s.allowed.can))
  word_cells_kept (load_status p w) s = own _ s _ (status_case p w s p.aim refl (ends p.aim w (m (status p.place))) _ refl refl refl refl refl refl)
  word_cells_kept load_cell s = own _ s _ (λ h. record { fills = h.fills; marked = h.marked; linked = h.linked; reads = loads_more s v.work.reads s.allowed.can.0 s.fits h.reads; raised = h.raised; finished_once = h.finished_once; linked_once = h.linked_once })
  word_cells_kept (mark r f) s = own _ s _ (λ h. record {
    fills = without_words f.place v.places.fills h.fills;
    marked = h.fills f s.allowed.can.0;
    linked = h.linked;
    reads = h.reads;
    raised = h.raised;
    finished_once = h.finished_once;
    linked_once = h.linked_once;
  })
  word_cells_kept (point p j w) s = own _ s _ (with_search _ refl refl refl refl refl (subst AimWords s.allowed.can.1 (aim_at _ s p (stamped w) s.allowed.can.0)))
  word_cells_kept (link_head p j w) s = own _ s _ (links_case _ s p record p { aim = links record j { least = suc w; stored = false }; place = m (head p.record_number) - 1 } j _ w s.allowed.can.0 s.allowed.can.1 refl refl (eqb (m (head p.record_number)) (suc p.place)) _ refl refl refl refl refl refl)
  word_cells_kept (link_next p j a w) s = own _ s _ (links_case _ s p record p { aim = links record j { least = suc w; stored = false }; place = m (next_word a) - 1 } j _ w s.allowed.can.0 s.allowed.can.1 refl refl (eqb (m (next_word a)) (suc p.place)) _ refl refl refl refl refl refl)
  word_cells_kept (raise_read_stamp d) s = own _ s _ (λ h. record {
    fills = h.fills;
    marked = h.marked;
    linked = h.linked;
    reads = h.reads;
    raised = λ c k. ⊎_elim (λ old. h.raised c old) (λ (e : d ≡ c). subst (λ (x : Read). AreWords x.cells) e (h.reads d s.allowed.can.1)) (Among-either c d v.work.raised k);
    finished_once = h.finished_once;
    linked_once = h.linked_once;
  })
  word_cells_kept k s = own k s _ (search (rests v, with_search, same_search k s, tt))

module _ (kept : State → Type 0) (z : Size) (g : World) (m : Memory) (vs : List View) (id : ℕ) (v : View) (s : Split kept z g m vs id v) where
  pub word_cells_split : part.Cells (set vs id (split_left v) ++ split_right v ∷ [])
  word_cells_split = Each-push CellsOk CellsOk (set vs id (split_left v)) (split_right v) (λ i u at live p. p)
      (λ live. record { fills = λ f k. absurd k; marked = tt; linked = λ u k. absurd k; reads = λ d k. absurd k; raised = λ d k. absurd k; finished_once = tt; linked_once = tt })
      (Each-own CellsOk vs id v _ s.rule.word_cells s.at s.is_open (rests v _ refl refl refl refl refl refl))

module _ (kept : State → Type 0) (z : Size) (g : World) (m : Memory) (vs : List View) (id other : ℕ) (v w : View) (s : Join kept z g m vs id other v w) where
  pub word_cells_joined : part.Cells (joined vs (joined_view v w) id other)
  word_cells_joined = Each-join vs _ id other CellsOk CellsOk (λ i u h live p. p) (λ live. rests v _ refl refl refl refl refl refl (s.rule.word_cells id v s.at s.is_open)) s.rule.word_cells

pub word_cells_start : (z : Size) → IsSize z → part.Cells (first_view z ∷ [])
word_cells_start z h = Each-one CellsOk (first_view z) record { fills = λ f k. absurd k; marked = tt; linked = λ u k. absurd k; reads = λ d k. absurd k; raised = λ d k. absurd k; finished_once = tt; linked_once = tt }
