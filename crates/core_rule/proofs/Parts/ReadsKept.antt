-- Reads: what was found stays as it was found.
use Rattle.std.proofs.Common.{◌≡◌, ℕ, suc, ◌<◌, true, false, Bool, cond, eqb, ◌&&◌, List, [], ◌∷◌, ◌++◌, length, set, refl, ap, ◌∙◌, subst, arith, zero-add, inl, inr, ⊎_elim}
use Rattle.std.specs.Prelude.{nat_le}
use Rattle.std.proofs.lemmas.Bool.{leb-true}
use Rattle.plain_data.specs.State.{State}
use Rattle.word_layout.specs.Size.{Size}
use Rattle.word_layout.specs.Name.{head, status, cell, next as next_word}
use Rattle.stamp_base.specs.Limits.{end_of_stamps}
use Rattle.core_rule.specs.Memory.{Memory, stored}
use Rattle.core_rule.specs.World.{World, at_number, behind, up_to}
use Rattle.core_rule.specs.Views.{At, Among}
use Rattle.core_rule.specs.View.{View, Read, Aim, reads, stands, links, again, checks, Stand, Joint, stamped}
use Rattle.core_rule.specs.Searching.{limit_of, IsFinal, is_final, ends, reads_with, read_place, read_cells, more_read, IsLoading}
use Rattle.core_rule.specs.Rule.{status_words}
use Rattle.core_rule.specs.Kinds.{Kind, load_status, load_cell, raise_read_stamp, link_head, link_next, cut, name, after, turned, changed}
use Rattle.core_rule.specs.Parts.Linking.{JointOk, IsAbove}
use Rattle.core_rule.specs.Parts.Reads.{ReadOk, FoundOk, ReadsOk}
use Rattle.core_rule.specs.Parts.Reads as part
use Rattle.core_rule.proofs.EachView.{Each-set, Each-own}
use Rattle.core_rule.proofs.Step.{Step}
use Rattle.core_rule.proofs.Among.{Among-either}
use Rattle.core_rule.proofs.Listed.{Grown, grown_head, grown_behind}
use Rattle.core_rule.proofs.Touched.{Quiet, quiet}
use Rattle.core_rule.proofs.Cutting.{IsKept-cut}
use Rattle.core_rule.proofs.Working.{stand_of, joint_of, before_stamp}
use Rattle.core_rule.proofs.Parts.FilledKept.{CellsAre-same, CellsAre-more}
use Rattle.core_rule.proofs.Parts.SearchesKept.{IsKept-same, IsKept-grown}

-- both halves of a test
pub both : (a b : Bool) → (a && b) ≡ true → (a ≡ true) × (b ≡ true)
both true b e = (refl, e)
both false b e = absurd (let f : false ≡ true = e in cc)

pub final_is : (n : ℕ) → is_final n ≡ true → IsFinal n
final_is n e = let h = both (nat_le 3 n) (nat_le n 4) e in (leb-true 3 n h.0, leb-true n 4 h.1)

module _ (kept : State → Type 0) (z : Size) (g : World) (m : Memory) (vs : List View) (id : ℕ) (v : View) where
  abbrev S : ℕ → ℕ
  S = (stored m).stamps

  abbrev C : ℕ → ℕ → ℕ
  C = (stored m).cells

  abbrev T : ℕ → ℕ
  T = status_words m

  with_reads : {lists' : ℕ → List ℕ} {S' : ℕ → ℕ} {C' : ℕ → ℕ → ℕ} {T' : ℕ → ℕ} (x : View) → ((d : Read) → ReadOk z g.lists S C T (limit_of x.flight x.published.read) x.published.read d → ReadOk z lists' S' C' T' (limit_of x.flight x.published.read) x.published.read d)
      → ReadsOk z g.lists S C T x → ReadsOk z lists' S' C' T' x
  with_reads x f h = record { found_ok = λ d k. f d (h.found_ok d k); raised_ok = λ d k. f d (h.raised_ok d k) }

  framed : (k : Kind) → Step kept z g m vs id v k → Quiet k → (u : View) → ReadsOk z g.lists S C T u
      → part.Reads z g.lists (stored (changed k v m)).stamps (stored (changed k v m)).cells (status_words (changed k v m)) (set vs id u)
  framed k s h u mine =
      let t = quiet kept z g m vs id v k s h in
      let S' = (stored (changed k v m)).stamps in let C' = (stored (changed k v m)).cells in let T' = status_words (changed k v m) in
      let same : (x : View) → ReadsOk z g.lists S C T x → ReadsOk z g.lists S' C' T' x = λ x.
      with_reads x (λ d o. record {
        kept = IsKept-same z g.lists (stored m) (stored (changed k v m)) T T' t x.published.read d.record_number d.place o.kept;
        version = t.stamps d.record_number d.place o.kept.on_record o.kept.there ∙ o.version;
        early = o.early;
        status = t.statuses d.record_number d.place o.kept.on_record o.kept.there (λ e. absurd (let final = o.final in let st = o.status in omega arith)) ∙ o.status;
        final = o.final;
        value = CellsAre-same (C d.place) (C' d.place) 0 d.cells (λ i. t.cells d.record_number d.place i o.kept.on_record o.kept.there) o.value;
      }) in
      Each-set (ReadsOk z g.lists S C T) (ReadsOk z g.lists S' C' T') vs u id (λ i x ne at live h. same x h) (λ live. same u mine) s.rule.reads

  module _ (k : Kind) (s : Step kept z g m vs id v k) where
    links_kept : (p : Stand) (j : Joint) (lists' : ℕ → List ℕ) → Grown p.record_number j.write.place g.lists lists' → JointOk z g.owner g.lists (stored m) v.number v.flight v.work.linked p j
        → (b : Bool) (u : View) → u.published.read ≡ v.published.read → ReadsOk z g.lists S C T u → part.Reads z (cond b lists' g.lists) S C T (set vs id u)
    links_kept p j lists' grew o false u same_read mine = Each-own (ReadsOk z g.lists S C T) vs id v u s.rule.reads s.at s.allowed.is_open (λ h. mine)
    links_kept p j lists' grew o true u same_read mine =
        let more : (x : View) → (x.published.read < end_of_stamps → x.published.read < S j.write.place) → ReadsOk z g.lists S C T x → ReadsOk z lists' S C T x = λ x late.
        with_reads x (λ d h. record {
          kept = IsKept-grown z g.lists lists' S T p.record_number j.write.place grew x.published.read d.record_number d.place late h.kept;
          version = h.version;
          early = h.early;
          status = h.status;
          final = h.final;
          value = h.value;
        }) in
        let late : (i : ℕ) (x : View) → At vs i x → x.spent ≡ false → x.published.read < end_of_stamps → x.published.read < S j.write.place = λ i x at live is_open.
        (let l = before_stamp kept z g m vs id v k s j.write.stamp o.mark.in_flight i x at live is_open in let e = o.mark.stamp in omega arith) in
        Each-set (ReadsOk z g.lists S C T) (ReadsOk z lists' S C T) vs u id (λ i x ne at live h. more x (late i x at live) h) (λ live. more u (λ is_open. rw same_read (late id v s.at s.allowed.is_open (rw (← same_read) is_open))) mine) s.rule.reads

    abbrev Ok : Read → Type 0
    Ok d = ReadOk z g.lists S C T (limit_of v.flight v.published.read) v.published.read d

    found : (p : Stand) (w : ℕ) → v.work.search ≡ stands p (stamped w) → w < limit_of v.flight v.published.read → (aim : Aim) → (b : Bool) → ends aim w (m (status p.place)) ≡ b
        → (d : Read) → Among d (cond b (reads_with aim p w (m (status p.place)) v.work.reads) v.work.reads) → Ok d
    found p w is early aim false e d k = (s.rule.reads id v s.at s.allowed.is_open).found_ok d k
    found p w is early reads true e d (inl same) = let h = stand_of kept z g m vs id v k s p (stamped w) is in
        subst Ok same (record { kept = h.kept; version = h.seen; early = early; status = refl; final = final_is (m (status p.place)) e; value = tt })
    found p w is early reads true e d (inr k) = (s.rule.reads id v s.at s.allowed.is_open).found_ok d k
    found p w is early (links j) true e d k = (s.rule.reads id v s.at s.allowed.is_open).found_ok d k
    found p w is early (again c) true e d k = (s.rule.reads id v s.at s.allowed.is_open).found_ok d k
    found p w is early (checks u) true e d k = (s.rule.reads id v s.at s.allowed.is_open).found_ok d k

    more : (ds : List Read) → IsLoading ds → ((d : Read) → Among d ds → Ok d) → (d : Read) → Among d (more_read (m (cell (read_place ds) (read_cells ds))) ds) → Ok d
    more [] is h d a = absurd is
    more (c ∷ ds) is h d (inr a) = h d (inr a)
    more (c ∷ ds) is h d (inl same) = let o = h c (inl refl) in subst Ok same (record {
      kept = o.kept;
      version = o.version;
      early = o.early;
      status = o.status;
      final = o.final;
      value = CellsAre-more (C c.place) (C c.place) (C c.place (length c.cells)) 0 c.cells (λ i lt. refl) (ap (C c.place) (zero-add (length c.cells))) o.value;
    })

    -- what is raised was found
    raises : (c : Read) → Among c v.work.reads → (d : Read) → Among d (v.work.raised ++ c ∷ []) → Ok d
    raises c there d a = let h = s.rule.reads id v s.at s.allowed.is_open in
        ⊎_elim (λ old. h.raised_ok d old) (λ (new : c ≡ d). subst Ok new (h.found_ok c there)) (Among-either d c v.work.raised a)

  pub none : (limit settled : ℕ) → FoundOk z g.lists S C T limit settled [] []
  none limit settled = record { found_ok = λ d k. absurd k; raised_ok = λ d k. absurd k }

  pub reads_kept : (k : Kind) → Step kept z g m vs id v k → part.Reads z (turned k v (m (name k v)) g).lists (stored (changed k v m)).stamps (stored (changed k v m)).cells (status_words (changed k v m)) (set vs id (after k v (m (name k v))))
  reads_kept (load_status p w) s = framed _ s tt _ record {
    found_ok = found _ s p w s.allowed.can.0 s.allowed.can.1 p.aim (ends p.aim w (m (status p.place))) refl;
    raised_ok = (s.rule.reads id v s.at s.allowed.is_open).raised_ok;
  }
  reads_kept load_cell s = framed _ s tt _ record {
    found_ok = more _ s v.work.reads s.allowed.can.0 (s.rule.reads id v s.at s.allowed.is_open).found_ok;
    raised_ok = (s.rule.reads id v s.at s.allowed.is_open).raised_ok;
  }
  reads_kept (raise_read_stamp d) s = framed _ s tt _ record { found_ok = (s.rule.reads id v s.at s.allowed.is_open).found_ok; raised_ok = raises _ s d s.allowed.can.1 }
  reads_kept (link_head p j w) s =
      let o = joint_of kept z g m vs id v _ s p j w s.allowed.can.0 s.allowed.can.1 in
      links_kept _ s p j (at_number g.lists p.record_number (j.write.place ∷ g.lists p.record_number)) (grown_head g.lists p.record_number j.write.place) o (eqb (m (head p.record_number)) (suc p.place)) _ refl
      (s.rule.reads id v s.at s.allowed.is_open)
  reads_kept (link_next p j a w) s =
      let o = joint_of kept z g m vs id v _ s p j w s.allowed.can.0 s.allowed.can.1 in
      let there = (subst (IsAbove (g.lists p.record_number) S j.write.stamp p.under) s.allowed.can.3 o.above).0 in
      links_kept _ s p j (at_number g.lists p.record_number (behind a j.write.place (g.lists p.record_number))) (grown_behind g.lists p.record_number j.write.place a there) o (eqb (m (next_word a)) (suc p.place)) _ refl
      (s.rule.reads id v s.at s.allowed.is_open)
  reads_kept (cut r c p) s =
      let less : (i : ℕ) (x : View) → At vs i x → x.spent ≡ false → ReadsOk z g.lists S C T x → ReadsOk z (at_number g.lists r (up_to p (g.lists r))) S C T x = λ i x at live.
      with_reads x (λ d o. record {
        kept = IsKept-cut kept z g m vs id v r c p s i x at live d.record_number d.place o.kept;
        version = o.version;
        early = o.early;
        status = o.status;
        final = o.final;
        value = o.value;
      }) in
      Each-set (ReadsOk z g.lists S C T) (ReadsOk z (at_number g.lists r (up_to p (g.lists r))) S C T) vs _ id (λ i x ne at live h. less i x at live h)
      (λ live. less id v s.at s.allowed.is_open (s.rule.reads id v s.at s.allowed.is_open)) s.rule.reads
  reads_kept k s = framed k s tt _ (search (none, s.rule.reads id v s.at s.allowed.is_open))
