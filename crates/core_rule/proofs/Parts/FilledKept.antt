-- Filled places: nobody but its holder stores in a place that is held.
use Rattle.std.proofs.Common.{◌≡◌, ◌≢◌, ℕ, suc, ◌+◌, ◌<◌, max, true, false, Bool, cond, eqb, ◌&&◌, List, [], ◌∷◌, ◌++◌, length, set, refl, sym, ◌∙◌, subst, arith, eq-eqb, eqb-true, ne_eqb, inr, add-zero, zero-add}
use Rattle.plain_data.specs.State.{State}
use Rattle.word_layout.specs.Size.{Size}
use Rattle.core_rule.specs.Memory.{Memory, Stored, stored}
use Rattle.core_rule.specs.World.{World, linked, at_number}
use Rattle.core_rule.specs.Views.{AllOf, Has}
use Rattle.core_rule.specs.View.{View, Fill}
use Rattle.core_rule.proofs.Step.{Step, at_number-other, at_number-same}
use Rattle.word_layout.specs.Name.{status, rts}
use Rattle.core_rule.specs.Holding.{filled_place, filled_cells, reset_fill, more_cells, without, without_fill, IsFilling}
use Rattle.core_rule.specs.Kinds.{Kind, take, fill_stamp, fill_reset, fill_cell, meet_cell, give, mark, point, link_next, raise_read_stamp, cut, name, after, changed}
use Rattle.core_rule.specs.Parts.Filled.{CellsAre, Stands, Others, FillsOk, FilledOk, Filled}
use Rattle.core_rule.proofs.EachView.{Each-set, Each-own, AllOf-Has}
use Rattle.core_rule.proofs.Without.{Has-without, Others-without, FillsOk-without}
use Rattle.core_rule.proofs.Parts.PlacesKept.{others_hold_not, not_held}
use Rattle.core_rule.specs.View.{Places}
use Rattle.core_rule.proofs.Working.{raised_of}
use Rattle.core_rule.specs.Deciding.{stamp_in}
use Rattle.core_rule.specs.Views.{At}
use Rattle.word_layout.specs.Name.{next as next_word}
use prog.Atomic.{either}

-- ---- cells

-- the cells of all places, one of which was stored
abbrev at_cell : (ℕ → ℕ → ℕ) → ℕ → ℕ → ℕ → ℕ → ℕ → ℕ
at_cell cells p i x q j = cond (eqb p q && eqb i j) x (cells q j)

at_cell-elsewhere : (cells : ℕ → ℕ → ℕ) (p i x q j : ℕ) → p ≢ q → at_cell cells p i x q j ≡ cells q j
at_cell-elsewhere cells p i x q j ne = rw (ne_eqb p q ne)

at_cell-other : (cells : ℕ → ℕ → ℕ) (p i x j : ℕ) → i ≢ j → at_cell cells p i x p j ≡ cells p j
at_cell-other cells p i x j ne = rw (eq-eqb p p refl, ne_eqb i j ne)

at_cell-same : (cells : ℕ → ℕ → ℕ) (p i x : ℕ) → at_cell cells p i x p i ≡ x
at_cell-same cells p i x = rw (eq-eqb p p refl, eq-eqb i i refl)

pub CellsAre-same : (c d : ℕ → ℕ) (i : ℕ) (xs : List ℕ) → ((j : ℕ) → d j ≡ c j) → CellsAre c i xs → CellsAre d i xs
CellsAre-same c d i [] same h = tt
CellsAre-same c d i (x ∷ xs) same h = (same i ∙ h.0, CellsAre-same c d (suc i) xs same h.1)

pub CellsAre-more : (c d : ℕ → ℕ) (x i : ℕ) (xs : List ℕ) → ((j : ℕ) → j < i + length xs → d j ≡ c j) → d (i + length xs) ≡ x → CellsAre c i xs → CellsAre d i (xs ++ x ∷ [])
CellsAre-more c d x i [] same new h = (subst (λ (k : ℕ). d k ≡ x) (add-zero i) new, tt)
CellsAre-more c d x i (y ∷ ys) same new h =
    (same i (omega arith) ∙ h.0, CellsAre-more c d x (suc i) ys (λ j lt. same j (omega arith)) (subst (λ (k : ℕ). d k ≡ x) (shift i (length ys)) new) h.1) where
      shift : (a b : ℕ) → a + suc b ≡ suc a + b
      shift a b = omega arith

-- ---- words that differ in one place alone

record DiffersAt (p : ℕ) (w w' : Stored) : Type 0 where
  stamps : (q : ℕ) → q ≢ p → w'.stamps q ≡ w.stamps q
  reads : (q : ℕ) → q ≢ p → w'.reads q ≡ w.reads q
  cells : (q i : ℕ) → q ≢ p → w'.cells q i ≡ w.cells q i

module _ (w : Stored) (p : ℕ) where
  abbrev with_stamp : ℕ → Stored
  with_stamp t = record w { stamps = at_number w.stamps p t }

  abbrev with_reset : Stored
  with_reset = record w { reads = at_number w.reads p 0 }

  abbrev with_cell : ℕ → ℕ → Stored
  with_cell i x = record w { cells = at_cell w.cells p i x }

  same : DiffersAt p w w
  same = record { stamps = λ q ne. refl; reads = λ q ne. refl; cells = λ q i ne. refl }

  stamp_differs : (t : ℕ) → DiffersAt p w (with_stamp t)
  stamp_differs t = record { stamps = λ q ne. at_number-other w.stamps p q t (λ e. ne (sym e)); reads = λ q ne. refl; cells = λ q i ne. refl }

  reset_differs : DiffersAt p w with_reset
  reset_differs = record { stamps = λ q ne. refl; reads = λ q ne. at_number-other w.reads p q 0 (λ e. ne (sym e)); cells = λ q i ne. refl }

  cell_differs : (i x : ℕ) → DiffersAt p w (with_cell i x)
  cell_differs i x = record { stamps = λ q ne. refl; reads = λ q ne. refl; cells = λ q j ne. at_cell-elsewhere w.cells p i x q j (λ e. ne (sym e)) }

module _ (p : ℕ) (w w' : Stored) (differs : DiffersAt p w w') where
  Stands-elsewhere : (f : Fill) → f.place ≢ p → Stands w f → Stands w' f
  Stands-elsewhere f ne h = record {
    stamp = differs.stamps f.place ne ∙ h.stamp;
    reset = rw (differs.reads f.place ne) h.reset;
    cells = CellsAre-same (w.cells f.place) (w'.cells f.place) 0 f.cells (λ i. differs.cells f.place i ne) h.cells;
  }

  -- where no other place is given away, fills of other places stand as before
  FillsOk-elsewhere : (xs ys : List ℕ) → ((q : ℕ) → q ≢ p → Has q xs → Has q ys) → (fs : List Fill) → Others p fs → FillsOk w xs fs → FillsOk w' ys fs
  FillsOk-elsewhere xs ys still [] o h = tt
  FillsOk-elsewhere xs ys still (f ∷ fs) o h = (still f.place o.0 h.0, Stands-elsewhere f o.0 h.1, h.2, FillsOk-elsewhere xs ys still fs o.1 h.3)

-- ---- the fills of a view

Others-from_held : (w : Stored) (xs : List ℕ) (p : ℕ) (fs : List Fill) → AllOf (λ q. q ≢ p) xs → FillsOk w xs fs → Others p fs
Others-from_held w xs p [] apart h = tt
Others-from_held w xs p (f ∷ fs) apart h = (AllOf-Has (λ q. q ≢ p) f.place xs apart h.0, Others-from_held w xs p fs apart h.3)

FillsOk-held : (w : Stored) (xs ys : List ℕ) → ((q : ℕ) → Has q xs → Has q ys) → (fs : List Fill) → FillsOk w xs fs → FillsOk w ys fs
FillsOk-held w xs ys more [] h = tt
FillsOk-held w xs ys more (f ∷ fs) h = (more f.place h.0, h.1, h.2, FillsOk-held w xs ys more fs h.3)

relinked : (w : Stored) (l : ℕ → ℕ) (xs : List ℕ) (fs : List Fill) → FillsOk w xs fs → FillsOk (record w { links = l }) xs fs
relinked w l xs [] h = tt
relinked w l xs (f ∷ fs) h = (h.0, record { stamp = h.1.stamp; reset = h.1.reset; cells = h.1.cells }, h.2, relinked w l xs fs h.3)

module _ (w : Stored) (xs : List ℕ) where
  -- the place of the fill in work is held
  pub front_has : (fs : List Fill) → IsFilling fs → FillsOk w xs fs → Has (filled_place fs) xs
  front_has [] in_work h = absurd in_work
  front_has (f ∷ fs) in_work h = h.0

  -- a fill begins in the place p
  begins : (p t : ℕ) (fs : List Fill) → Has p xs → FillsOk w xs fs
      → FillsOk (with_stamp w p t) xs (record { place = p; stamp = t; reset = false; cells = [] } ∷ without_fill p fs)
  begins p t fs has h = (
    has,
    record { stamp = at_number-same w.stamps p t; reset = tt; cells = tt },
    Others-without p fs,
    FillsOk-elsewhere p w (with_stamp w p t) (stamp_differs w p t) xs xs (λ q ne has. has) (without_fill p fs) (Others-without p fs) (FillsOk-without p w xs fs h),
  )

  -- the fill in work goes on
  resets : (fs : List Fill) → IsFilling fs → FillsOk w xs fs → FillsOk (with_reset w (filled_place fs)) xs (reset_fill fs)
  resets [] in_work h = absurd in_work
  resets (f ∷ fs) in_work h = (
    h.0,
    record { stamp = h.1.stamp; reset = at_number-same w.reads f.place 0; cells = h.1.cells },
    h.2,
    FillsOk-elsewhere f.place w (with_reset w f.place) (reset_differs w f.place) xs xs (λ q ne has. has) fs h.2 h.3,
  )

  cells_more : (x : ℕ) (fs : List Fill) → IsFilling fs → FillsOk w xs fs → FillsOk (with_cell w (filled_place fs) (filled_cells fs) x) xs (more_cells x fs)
  cells_more x [] in_work h = absurd in_work
  cells_more x (f ∷ fs) in_work h = (
    h.0,
    record {
      stamp = h.1.stamp;
      reset = h.1.reset;
      cells = CellsAre-more (w.cells f.place) (at_cell w.cells f.place (length f.cells) x f.place) x 0 f.cells
          (λ j lt. at_cell-other w.cells f.place (length f.cells) x j (λ e. absurd (omega arith))) (new f.place f.cells) h.1.cells;
    },
    h.2,
    FillsOk-elsewhere f.place w (with_cell w f.place (length f.cells) x) (cell_differs w f.place (length f.cells) x) xs xs (λ q ne has. has) fs h.2 h.3,
  ) where
    new : (p : ℕ) (cs : List ℕ) → at_cell w.cells p (length cs) x p (0 + length cs) ≡ x
    new p cs = subst (λ (k : ℕ). at_cell w.cells p (length cs) x p k ≡ x) (sym (zero-add (length cs))) (at_cell-same w.cells p (length cs) x)

  -- the next cell shows this word already
  cells_met : (x : ℕ) (fs : List Fill) → IsFilling fs → w.cells (filled_place fs) (filled_cells fs) ≡ x → FillsOk w xs fs → FillsOk w xs (more_cells x fs)
  cells_met x [] in_work shows h = absurd in_work
  cells_met x (f ∷ fs) in_work shows h = (
    h.0,
    record {
      stamp = h.1.stamp;
      reset = h.1.reset;
      cells = CellsAre-more (w.cells f.place) (w.cells f.place) x 0 f.cells (λ j lt. refl) (subst (λ (k : ℕ). w.cells f.place k ≡ x) (sym (zero-add (length f.cells))) shows) h.1.cells;
    },
    h.2,
    h.3,
  )

  cells_shown : (x : ℕ) (fs : List Fill) (b : Bool) → eqb (w.cells (filled_place fs) (filled_cells fs)) x ≡ b → IsFilling fs → FillsOk w xs fs → FillsOk w xs (cond b (more_cells x fs) fs)
  cells_shown x fs true e in_work h = cells_met x fs in_work (eqb-true (w.cells (filled_place fs) (filled_cells fs)) x e) h
  cells_shown x fs false e in_work h = h

-- ---- the part

module _ (kept : State → Type 0) (z : Size) (g : World) (m : Memory) (vs : List View) (id : ℕ) (v : View) where
  -- the words of a place that the view holds have changed
  own : (k : Kind) → Step kept z g m vs id v k → (p : ℕ) → Has p v.places.held → (w : Stored) → DiffersAt p (stored m) w → (u : View) → FilledOk w u → Filled w (set vs id u)
  own k s p has w differs u mine = Each-set (FilledOk (stored m)) (FilledOk w) vs u id
      (λ i x ne at live h. FillsOk-elsewhere p (stored m) w differs x.places.held x.places.held (λ q ne has. has) x.places.fills
      (Others-from_held (stored m) x.places.held p x.places.fills (others_hold_not kept z g m vs id v k s p has i x ne at live) h) h) (λ live. mine) s.rule.filled

  -- those of the place of the fill in work
  in_front : (k : Kind) → Step kept z g m vs id v k → IsFilling v.places.fills → (w : Stored) → DiffersAt (filled_place v.places.fills) (stored m) w → (u : View) → FilledOk w u → Filled w (set vs id u)
  in_front k s in_work = own k s (filled_place v.places.fills) (front_has (stored m) v.places.held v.places.fills in_work (s.rule.filled id v s.at s.allowed.is_open))

  -- the words of a place that no view holds have changed
  unheld : (k : Kind) → Step kept z g m vs id v k → (p : ℕ) → ((i : ℕ) (u : View) → At vs i u → u.spent ≡ false → AllOf (λ q. q ≢ p) u.places.held) → (w : Stored) → DiffersAt p (stored m) w → (u : View)
      → u.spent ≡ v.spent → u.places ≡ v.places → Filled w (set vs id u)
  unheld k s p free w differs u spent same_places =
      let still : (x : View) → AllOf (λ q. q ≢ p) x.places.held → FilledOk (stored m) x → FilledOk w x = λ x away h.
      FillsOk-elsewhere p (stored m) w differs x.places.held x.places.held (λ q ne has. has) x.places.fills (Others-from_held (stored m) x.places.held p x.places.fills away h) h in
      Each-set (FilledOk (stored m)) (FilledOk w) vs u id (λ i x ne at live h. still x (free i x at live) h)
      (λ live. subst (λ (y : Places). FillsOk w y.held y.fills) (sym same_places) (still v (free id v s.at s.allowed.is_open) (s.rule.filled id v s.at s.allowed.is_open))) s.rule.filled

  -- links alone have changed
  relinks : (k : Kind) → Step kept z g m vs id v k → (l : ℕ → ℕ) → (u : View) → u.places ≡ v.places → Filled (record (stored m) { links = l }) (set vs id u)
  relinks k s l u same_places = Each-set (FilledOk (stored m)) (FilledOk (record (stored m) { links = l })) vs u id
      (λ i x ne at live h. relinked (stored m) l x.places.held x.places.fills h)
      (λ live. subst (λ (y : Places). FillsOk (record (stored m) { links = l }) y.held y.fills) (sym same_places) (relinked (stored m) l v.places.held v.places.fills (s.rule.filled id v s.at s.allowed.is_open))) s.rule.filled

  more_held : (p : ℕ) (b : Bool) (xs : List ℕ) (q : ℕ) → Has q xs → Has q (cond b (p ∷ xs) xs)
  more_held p true xs q h = inr h
  more_held p false xs q h = h

  pub filled_kept : (k : Kind) → Step kept z g m vs id v k → Filled (stored (changed k v m)) (set vs id (after k v (m (name k v))))
  filled_kept (take p) s = Each-own (FilledOk (stored m)) vs id v _ s.rule.filled s.at s.allowed.is_open
      (FillsOk-held (stored m) v.places.held _ (more_held p (eqb (m (status p)) 0) v.places.held) v.places.fills)
  filled_kept (fill_stamp p t) s = own _ s p s.allowed.can (with_stamp (stored m) p t) (stamp_differs (stored m) p t) _
      (begins (stored m) v.places.held p t v.places.fills s.allowed.can (s.rule.filled id v s.at s.allowed.is_open))
  filled_kept fill_reset s =
      let p = filled_place v.places.fills in
      in_front _ s s.allowed.can (with_reset (stored m) p) (reset_differs (stored m) p) _ (resets (stored m) v.places.held v.places.fills s.allowed.can (s.rule.filled id v s.at s.allowed.is_open))
  filled_kept (fill_cell x) s =
      let p = filled_place v.places.fills in let i = filled_cells v.places.fills in
      in_front _ s s.allowed.can.0 (with_cell (stored m) p i x) (cell_differs (stored m) p i x) _ (cells_more (stored m) v.places.held x v.places.fills s.allowed.can.0 (s.rule.filled id v s.at s.allowed.is_open))
  filled_kept (meet_cell x) s = Each-own (FilledOk (stored m)) vs id v _ s.rule.filled s.at s.allowed.is_open
      (cells_shown (stored m) v.places.held x v.places.fills (eqb (m (name (meet_cell x) v)) x) refl s.allowed.can.0)
  filled_kept (give p) s = Each-own (FilledOk (stored m)) vs id v _ s.rule.filled s.at s.allowed.is_open
      (λ h. FillsOk-elsewhere p (stored m) (stored m) (same (stored m) p) v.places.held (without p v.places.held) (λ q ne has. Has-without p q v.places.held ne has) (without_fill p v.places.fills)
      (Others-without p v.places.fills) (FillsOk-without p (stored m) v.places.held v.places.fills h))
  filled_kept (mark r f) s = Each-own (FilledOk (stored m)) vs id v _ s.rule.filled s.at s.allowed.is_open
      (λ h. FillsOk-elsewhere f.place (stored m) (stored m) (same (stored m) f.place) v.places.held (without f.place v.places.held) (λ q ne has. Has-without f.place q v.places.held ne has) (without_fill f.place v.places.fills)
      (Others-without f.place v.places.fills) (FillsOk-without f.place (stored m) v.places.held v.places.fills h))
  filled_kept (point p j w) s = relinks _ s (at_number (stored m).links j.write.place (suc p.place)) _ refl
  filled_kept (link_next p j a w) s = relinks _ s (at_number (stored m).links a (either (eqb (m (next_word a)) (suc p.place)) (suc j.write.place) (m (next_word a)))) _ refl
  filled_kept (raise_read_stamp d) s =
      let o = raised_of kept z g m vs id v d s in
      let is = (s.rule.lists.each d.record_number o.kept.on_record).owned d.place o.kept.there in
      let x = max (m (rts d.place)) (stamp_in v.flight) in
      unheld _ s d.place (not_held kept z g m vs id v _ s d.place (linked d.record_number) is.1 (λ seat e. cc)) (record (stored m) { reads = at_number (stored m).reads d.place x })
      (record { stamps = λ q ne. refl; reads = λ q ne. at_number-other (stored m).reads d.place q x (λ e. ne (sym e)); cells = λ q i ne. refl }) _ refl refl
  filled_kept (cut r c p) s = relinks _ s (at_number (stored m).links p 0) _ refl
  filled_kept k s = Each-own (FilledOk (stored m)) vs id v _ s.rule.filled s.at s.allowed.is_open (λ p. p)
