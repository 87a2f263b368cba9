-- What a transaction or a snapshot has read and written makes an entry, with the values that were written.
use Rattle.std.proofs.Common.{◌≡◌, ◌≢◌, ◌⊎◌, ℕ, suc, ◌<◌, ◌≤◌, ◌^◌, true, List, [], ◌∷◌, ◌++◌, length, Option, Some, IfSome, sym, ap, ◌∙◌, subst, refl, inl, inr, arith, All, AllPairs}
use Rattle.std.proofs.lemmas.List.Elements.{All-nil, All-cons}
use Rattle.std.proofs.lemmas.List.Kept.{AllPairs-cons}
use Rattle.plain_data.specs.State.{IsCells, AreValues}
use Rattle.word_layout.specs.Limits.{cells_of_value}
use Rattle.core_rule.specs.View.{Read, Write}
use Rattle.core_rule.specs.Views.{Among}
use Rattle.core_rule.specs.Searching.{IsWhole, shown_at}
use Rattle.core_rule.specs.Deciding.{read_value, value_of, read_values, written_values, AreReads}
use Rattle.core_rule.specs.Parts.Filled.{CellsAre}
use Rattle.core_rule.specs.Parts.Cells.{AreWords, IsReadOnce, IsWrittenOnce}
use Rattle.core_rule.proofs.Among.{Among-either}

pub pairs_nil : {X : Type 0} (R : X → X → Type 0) → AllPairs R []
pairs_nil R = λ i j d lt len. absurd (omega arith)

pub All_reads : (P : ℕ × Option (List ℕ) → Type 0) (ds : List Read) → ((d : Read) → Among d ds → P (d.record_number, read_value d)) → All P (read_values ds)
All_reads P [] h = All-nil P
All_reads P (d ∷ ds) h = All-cons P (d.record_number, read_value d) (read_values ds) (h d (inl refl)) (All_reads P ds (λ c k. h c (inr k)))

pub All_writes : (P : ℕ × Option (List ℕ) → Type 0) (us : List Write) → ((u : Write) → Among u us → P (u.record_number, value_of u.cells)) → All P (written_values us)
All_writes P [] h = All-nil P
All_writes P (u ∷ us) h = All-cons P (u.record_number, value_of u.cells) (written_values us) (h u (inl refl)) (All_writes P us (λ c k. h c (inr k)))

abbrev Apart : ℕ × Option (List ℕ) → ℕ × Option (List ℕ) → Type 0
Apart a b = a.0 ≢ b.0

pub once_reads : (ds : List Read) → IsReadOnce ds → AllPairs Apart (read_values ds)
once_reads [] h = pairs_nil Apart
once_reads (d ∷ ds) h = AllPairs-cons Apart (d.record_number, read_value d) (read_values ds) (All_reads (Apart (d.record_number, read_value d)) ds (λ c k e. h.0 c k (sym e))) (once_reads ds h.1)

pub once_writes : (us : List Write) → IsWrittenOnce us → AllPairs Apart (written_values us)
once_writes [] h = pairs_nil Apart
once_writes (u ∷ us) h = AllPairs-cons Apart (u.record_number, value_of u.cells) (written_values us) (All_writes (Apart (u.record_number, value_of u.cells)) us (λ c k e. h.0 c k (sym e))) (once_writes us h.1)

words_fit : (xs : List ℕ) → AreWords xs → All (λ (word : ℕ). word < 2 ^ 64) xs
words_fit [] h = All-nil (λ (word : ℕ). word < 2 ^ 64)
words_fit (x ∷ xs) h = All-cons (λ (word : ℕ). word < 2 ^ 64) x xs h.0 (words_fit xs h.1)

cells_ok : (xs : List ℕ) → length xs ≡ cells_of_value → AreWords xs → IsCells xs
cells_ok xs count fit = record { count = count; fit = words_fit xs fit }

read_ok : (d : Read) → IsWhole d → AreWords d.cells → IfSome (read_value d) IsCells
read_ok d (inl e) fit = rw e tt
read_ok d (inr h) fit = rw h.0 (cells_ok d.cells h.1 fit)

write_ok : (xs : List ℕ) → (xs ≡ []) ⊎ (length xs ≡ cells_of_value) → AreWords xs → IfSome (value_of xs) IsCells
write_ok [] h fit = tt
write_ok (x ∷ xs) (inl e) fit = absurd cc
write_ok (x ∷ xs) (inr count) fit = cells_ok (x ∷ xs) count fit

pub are_reads : (records : ℕ) (ds : List Read) → IsReadOnce ds → ((d : Read) → Among d ds → (d.record_number < records) × IsWhole d × AreWords d.cells) → AreValues records (read_values ds)
are_reads records ds once h = record {
  once = once_reads ds once;
  in_range = All_reads (λ (x : ℕ × Option (List ℕ)). x.0 < records) ds (λ d k. (h d k).0);
  cells = All_reads (λ (x : ℕ × Option (List ℕ)). IfSome x.1 IsCells) ds (λ d k. read_ok d (h d k).1 (h d k).2);
}

pub are_writes : (records : ℕ) (us : List Write) → IsWrittenOnce us → ((u : Write) → Among u us → (u.record_number < records) × ((u.cells ≡ []) ⊎ (length u.cells ≡ cells_of_value)) × AreWords u.cells) → AreValues records (written_values us)
are_writes records us once h = record {
  once = once_writes us once;
  in_range = All_writes (λ (x : ℕ × Option (List ℕ)). x.0 < records) us (λ u k. (h u k).0);
  cells = All_writes (λ (x : ℕ × Option (List ℕ)). IfSome x.1 IsCells) us (λ u k. write_ok u.cells (h u k).1 (h u k).2);
}

pub once_more : (ds : List Read) (d : Read) → IsReadOnce ds → ((c : Read) → Among c ds → c.record_number ≢ d.record_number) → IsReadOnce (ds ++ d ∷ [])
once_more [] d h ne = ((λ c k e. k), tt)
once_more (x ∷ xs) d h ne = ((λ c k. by_case c (Among-either c d xs k)), once_more xs d h.1 (λ c k. ne c (inr k))) where
  by_case : (c : Read) → Among c xs ⊎ (d ≡ c) → c.record_number ≡ x.record_number → ⊥
  by_case c (inl k) e = h.0 c k e
  by_case c (inr same) e = ne x (inl refl) (sym e ∙ ap (λ (y : Read). y.record_number) (sym same))

pub AreReads-once : (ds found : List Read) → AreReads ds found → IsReadOnce ds
AreReads-once [] found h = tt
AreReads-once (d ∷ ds) found h = (h.2, AreReads-once ds found h.3)

pub AreReads-each : (ds found : List Read) → AreReads ds found → (d : Read) → Among d ds → Among d found × IsWhole d
AreReads-each [] found h d k = absurd k
AreReads-each (c ∷ ds) found h d (inl e) = subst (λ (y : Read). Among y found × IsWhole y) e (h.0, h.1)
AreReads-each (c ∷ ds) found h d (inr k) = AreReads-each ds found h.3 d k

-- ---- the value that was read is the one that was written

pub CellsAre-one : (c : ℕ → ℕ) (i : ℕ) (xs ys : List ℕ) → length xs ≡ length ys → CellsAre c i xs → CellsAre c i ys → xs ≡ ys
CellsAre-one c i [] [] e h k = refl
CellsAre-one c i [] (y ∷ ys) e h k = absurd (omega arith)
CellsAre-one c i (x ∷ xs) [] e h k = absurd (omega arith)
CellsAre-one c i (x ∷ xs) (y ∷ ys) e h k =
    let first : x ≡ y = sym h.0 ∙ k.0 in let rest = CellsAre-one c (suc i) xs ys (omega arith) h.1 k.1 in λ j. first j ∷ rest j

pub shown_true : (xs : List ℕ) → (3 ≤ shown_at true xs) × (shown_at true xs ≤ 4)
shown_true [] = (omega arith, omega arith)
shown_true (x ∷ xs) = (omega arith, omega arith)

pub same_value : (c : ℕ → ℕ) (d : Read) (us : List ℕ) → IsWhole d → CellsAre c 0 d.cells → (us ≡ []) ⊎ (length us ≡ cells_of_value) → CellsAre c 0 us → d.status ≡ shown_at true us → value_of us ≡ read_value d
same_value c d [] whole h w k e = rw e refl
same_value c d (x ∷ xs) (inl four) h w k e = absurd (omega arith)
same_value c d (x ∷ xs) (inr three) h (inl none) k e = absurd cc
same_value c d (x ∷ xs) (inr three) h (inr count) k e = rw e (ap Some (CellsAre-one c 0 (x ∷ xs) d.cells (count ∙ sym three.1) k h))
