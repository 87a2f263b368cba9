-- The first reads of each record are reads of an entry; and a snapshot in flight reads one version of each record.
use Rattle.std.proofs.Common.{◌≡◌, ◌≢◌, ℕ, suc, ◌<◌, Bool, true, false, cond, eqb, List, [], ◌∷◌, ◌++◌, Some, refl, sym, ap, ◌∙◌, subst, inl, inr, ⊎_elim, arith}
use mathlib.Core.Logic.{dite}
use native.Mathlib.Decide.{dec_lt}
use Rattle.plain_data.specs.State.{State}
use Rattle.word_layout.specs.Size.{Size}
use Rattle.core_rule.specs.Memory.{Memory, stored}
use Rattle.core_rule.specs.World.{World}
use Rattle.core_rule.specs.View.{View, Flight, resting, Read}
use Rattle.core_rule.specs.Views.{At, Has, Among}
use Rattle.core_rule.specs.Rule.{Rule, status_words}
use Rattle.core_rule.specs.Searching.{limit_of, IsWhole, IsNotRead}
use Rattle.core_rule.specs.Deciding.{read_value, AreReads}
use Rattle.core_rule.specs.Snapshots.{is_read, firsts, AreAllWhole, AreAlike}
use Rattle.core_rule.specs.Parts.Filled.{CellsAre}
use Rattle.core_rule.specs.Parts.Reads.{ReadOk}
use Rattle.core_rule.proofs.Among.{Among-either}
use Rattle.core_rule.proofs.Listed.{one_place}
use Rattle.core_rule.proofs.Proper.{CellsAre-one}
use Rattle.core_rule.proofs.Without.{ne_from_test}

-- ---- the first reads of each record

pub not_read : (r : ℕ) (ds : List Read) → is_read r ds ≡ false → IsNotRead r ds
not_read r [] none c among = absurd among
not_read r (d ∷ ds) none c among = by_test (λ h a. not_read r ds h c a) (eqb r d.record_number) refl none among where
  by_test : (is_read r ds ≡ false → Among c ds → c.record_number ≢ r) → (b : Bool) → eqb r d.record_number ≡ b
      → cond b true (is_read r ds) ≡ false → Among c (d ∷ ds) → c.record_number ≢ r
  by_test rest true e h a = absurd cc
  by_test rest false e h (inl same) = λ is. ne_from_test r d.record_number e (sym (ap (λ (x : Read). x.record_number) same ∙ is))
  by_test rest false e h (inr a) = rest h a

pub first_among : (ds : List Read) (c : Read) → Among c (firsts ds) → Among c ds
first_among [] c a = a
first_among (d ∷ ds) c a = by_test (λ k. first_among ds c k) (is_read d.record_number ds) a where
  by_test : (Among c (firsts ds) → Among c ds) → (b : Bool) → Among c (cond b (firsts ds) (firsts ds ++ d ∷ [])) → Among c (d ∷ ds)
  by_test rest true k = inr (rest k)
  by_test rest false k = ⊎_elim (λ old. inr (rest old)) (λ (new : d ≡ c). inl new) (Among-either c d (firsts ds) k)

more_found : (ds found : List Read) (d : Read) → AreReads ds found → AreReads ds (d ∷ found)
more_found [] found d are = tt
more_found (c ∷ ds) found d are = (inr are.0, are.1, are.2, more_found ds found d are.3)

one_more : (ds found : List Read) (d : Read) → AreReads ds found → Among d found → IsWhole d → IsNotRead d.record_number ds
    → AreReads (ds ++ d ∷ []) found
one_more [] found d are among whole apart = (among, whole, λ c none. absurd none, tt)
one_more (x ∷ ds) found d are among whole apart = (
  are.0,
  are.1,
  λ c a is. ⊎_elim (λ old. are.2 c old is) (λ (new : d ≡ c). apart x (inl refl) (sym is ∙ ap (λ (y : Read). y.record_number) (sym new)))
      (Among-either c d ds a),
  one_more ds found d are.3 among whole (λ c a. apart c (inr a)),
)

pub firsts_reads : (ds : List Read) → AreAllWhole ds → AreReads (firsts ds) ds
firsts_reads [] whole = tt
firsts_reads (d ∷ ds) whole = by_test (firsts_reads ds (λ c a. whole c (inr a))) (is_read d.record_number ds) refl where
  by_test : AreReads (firsts ds) ds → (b : Bool) → is_read d.record_number ds ≡ b
      → AreReads (cond b (firsts ds) (firsts ds ++ d ∷ [])) (d ∷ ds)
  by_test before true e = more_found (firsts ds) ds d before
  by_test before false e = one_more (firsts ds) (d ∷ ds) d (more_found (firsts ds) ds d before) (inl refl) (whole d (inl refl))
      (λ c a. not_read d.record_number ds e c (first_among ds c a))

-- ---- two reads of one record

-- two whole reads of one version have one value
one_value : (cells : ℕ → ℕ) (d c : Read) → IsWhole d → IsWhole c → d.status ≡ c.status → CellsAre cells 0 d.cells
    → CellsAre cells 0 c.cells → read_value d ≡ read_value c
one_value cells d c (inl four) w e h k = rw (four, sym e ∙ four) refl
one_value cells d c (inr three) (inl four) e h k = absurd (let is = three.0 in omega arith)
one_value cells d c (inr three) (inr three') e h k =
    rw (three.0, three'.0) (ap Some (CellsAre-one cells 0 d.cells c.cells (three.1 ∙ sym three'.1) h k))

module _ (kept : State → Type 0) (z : Size) (g : World) (m : Memory) (vs : List View) (rule : Rule kept z g m vs) (id : ℕ) (v : View)
    (at : At vs id v) (live : v.spent ≡ false) where
  abbrev S : ℕ → ℕ
  S = (stored m).stamps

  abbrev Ok : Read → Type 0
  Ok d = ReadOk z g.lists S (stored m).cells (status_words m) (limit_of v.flight v.published.read) v.published.read d

  -- no version that was read stands above another of its record
  not_above : v.flight ≡ resting → (d c : Read) → Ok d → Ok c → d.record_number ≡ c.record_number → S d.place < S c.place → ⊥
  not_above rests d c o p same over =
      let early : c.version < suc v.published.read = subst (λ (f : Flight). c.version < limit_of f v.published.read) rests p.early in
      let is = p.version in
      let five = o.kept.above c.place (subst (λ (r : ℕ). Has c.place (g.lists r)) (sym same) p.kept.there) over (omega arith) in
      let st = p.status in let final = p.final.1 in omega arith

  pub reads_alike : v.flight ≡ resting → AreAlike v.work.reads
  reads_alike rests d c one two whole whole' same =
      let found = (rule.reads id v at live).found_ok in
      let o : Ok d = found d one in let p : Ok c = found c two in
      let stamps : S d.place ≡ S c.place = dite (dec_lt (S d.place) (S c.place)) (λ lt. absurd (not_above rests d c o p same lt))
      (λ no. dite (dec_lt (S c.place) (S d.place)) (λ lt. absurd (not_above rests c d p o (sym same) lt)) (λ no'. omega arith)) in
      let falls = (rule.lists.each d.record_number o.kept.on_record).falls in
      let there : Has c.place (g.lists d.record_number) = subst (λ (r : ℕ). Has c.place (g.lists r)) (sym same) p.kept.there in
      let place : d.place ≡ c.place = one_place S (g.lists d.record_number) d.place c.place falls o.kept.there there stamps in
      one_value ((stored m).cells d.place) d c whole whole' (sym o.status ∙ ap (status_words m) place ∙ p.status) o.value
      (subst (λ (q : ℕ). CellsAre ((stored m).cells q) 0 c.cells) (sym place) p.value)
