-- Transactions that are begun, after one more read or write.
use Rattle.std.proofs.Common.{◌≡◌, ◌<◌, ◌⊎◌, ℕ, true, Bool, List, [], ◌∷◌, ◌++◌, None, refl, sym, subst, inl, inr, ⊎_elim}
use Rattle.word_layout.specs.Size.{Size, places}
use Rattle.core_rule.specs.View.{View, Read, Write}
use Rattle.core_rule.specs.Views.{Among}
use Rattle.core_rule.specs.Deciding.{AreReads}
use Rattle.core_rule.specs.Versions.{read_version}
use Rattle.version_search.specs.Finding.{Reads, new_read, status_of}
use Rattle.validate_core.specs.Sets.{SetsView, Once}
use Rattle.validate_core.specs.Installing.{IsBegun}

among_one : {A : Type 0} → (x y : A) → Among y (x ∷ []) → x ≡ y
among_one x y (inl e) = e
among_one x y (inr h) = absurd h

among_more : {A : Type 0} → (xs : List A) (x y : A) → Among y (xs ++ x ∷ []) → Among y xs ⊎ (x ≡ y)
among_more [] x y (inl e) = inr e
among_more [] x y (inr h) = absurd h
among_more (z ∷ zs) x y (inl e) = inl (inl e)
among_more (z ∷ zs) x y (inr h) = ⊎_elim (λ (old : Among y zs). inl (inr old)) (λ (new : x ≡ y). inr new) (among_more zs x y h)

-- the first read, of an absent record
pub read_begun : (z : Size) (s t : SetsView) (v w : View) (limit rid place wts : ℕ) (absent : Bool) → IsBegun z s v → rid < z.records → place < places z
    → Reads limit rid place wts (status_of absent) v w → 0 ≡ wts → true ≡ absent → t.reads ≡ read_version rid place 0 None ∷ [] → t.writes ≡ s.writes → IsBegun z t w
read_begun z s t v w limit rid place wts absent b known inside found start gone one same =
    let deleted = subst (λ (a : Bool). Reads limit rid place wts (status_of a) v w) (sym gone) found in
    let r = subst (λ (n : ℕ). Reads limit rid place n 4 v w) (sym start) deleted in
    subst (λ (x : View). IsBegun z t x) (sym r.view) record {
      in_flight = b.in_flight;
      stamp = b.stamp;
      rests = tt;
      reads = subst (λ (ds : List Read). AreReads ds (new_read rid place 0 4 ∷ v.work.reads)) (sym one) (inl refl, inl refl, (λ c h e. absurd h), tt);
      raised = b.raised;
      finished = b.finished;
      linked = b.linked;
      passed = b.passed;
      undecided = record { undecided = b.undecided.undecided; unsettled = b.undecided.unsettled };
      collected = b.collected;
      inside = record {
        reads = λ d h. subst (λ (y : Read). (y.record_number < z.records) × (y.place < places z)) (among_one (read_version rid place 0 None) d (subst (λ (ds : List Read). Among d ds) one h)) (known, inside);
        writes = λ u h. b.inside.writes u (subst (λ (us : List Write). Among u us) same h);
        once = subst (λ (us : List Write). Once (λ (u : Write). u.record_number) us) (sym same) b.inside.once;
      };
    }

-- sets with more room
pub roomy_begun : (z : Size) (s t : SetsView) (v : View) → IsBegun z s v → t.reads ≡ s.reads → t.writes ≡ s.writes → IsBegun z t v
roomy_begun z s t v b reads writes = record {
  in_flight = b.in_flight;
  stamp = b.stamp;
  rests = b.rests;
  reads = subst (λ (ds : List Read). AreReads ds v.work.reads) (sym reads) b.reads;
  raised = b.raised;
  finished = b.finished;
  linked = b.linked;
  passed = b.passed;
  undecided = b.undecided;
  collected = b.collected;
  inside = record {
    reads = λ d h. b.inside.reads d (subst (λ (ds : List Read). Among d ds) reads h);
    writes = λ u h. b.inside.writes u (subst (λ (us : List Write). Among u us) writes h);
    once = subst (λ (us : List Write). Once (λ (u : Write). u.record_number) us) (sym writes) b.inside.once;
  };
}

-- one more write
pub write_begun : (z : Size) (s t : SetsView) (v : View) (x : Write) → IsBegun z s v → x.record_number < z.records
    → t.writes ≡ s.writes ++ x ∷ [] → t.reads ≡ s.reads → Once (λ (u : Write). u.record_number) t.writes → IsBegun z t v
write_begun z s t v x b known more same once = record {
  in_flight = b.in_flight;
  stamp = b.stamp;
  rests = b.rests;
  reads = subst (λ (ds : List Read). AreReads ds v.work.reads) (sym same) b.reads;
  raised = b.raised;
  finished = b.finished;
  linked = b.linked;
  passed = b.passed;
  undecided = b.undecided;
  collected = b.collected;
  inside = record {
    reads = λ d h. b.inside.reads d (subst (λ (ds : List Read). Among d ds) same h);
    writes = λ u h. ⊎_elim (λ (old : Among u s.writes). b.inside.writes u old) (λ (new : x ≡ u). subst (λ (y : Write). y.record_number < z.records) new known) (among_more s.writes x u (subst (λ (us : List Write). Among u us) more h));
    once = once;
  };
}
