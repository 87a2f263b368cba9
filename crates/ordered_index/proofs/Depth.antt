-- A lawful tree is not deep: an inner node has two children at least, and a store 200,000 records.
use Rattle.std.proofs.Common.{◌≡◌, ◌≢◌, ℕ, ◌+◌, ◌<◌, ◌≤◌, zero, suc, Bool, true, eqb, ◌||◌, List, [], ◌∷◌, length, get_or, refl, sym, ap, ◌∙◌, arith, subst, inl, inr, ne_eqb}
use Rattle.std.specs.List.{list_any}
use Rattle.std.proofs.lemmas.List.{length-append, length-map}
use Rattle.std.proofs.lemmas.Bool.{cases_eq}
use Rattle.std.proofs.lemmas.List.Elements.{All-head, All-tail, All-append, All-cons, All-nil}
use Rattle.std.proofs.lemmas.Map.Keys.{IsDistinct-from_apart}
use Rattle.std.proofs.lemmas.Map.Steps.{length-le_from_distinct_below}
use Rattle.plain_data.specs.State.{State}
use Rattle.ordered_index.specs.declared.key.Key.{Key}
use Rattle.ordered_index.specs.declared.node.Kind.{Kind}
use Rattle.ordered_index.specs.declared.node.Kind.TheVariants.{Inner}
use Rattle.ordered_index.specs.Keys.{InStore}
use Rattle.ordered_index.specs.Node.{Content, least}
use Rattle.ordered_index.specs.Tree.{Stand, Descends, In, Apart, named, row_names, row_entries, tree_records}
use Rattle.record_store.specs.Links.{records_of}
use Rattle.ordered_index.proofs.Grown.{apart_right}

-- doubled so many times
pub doubled : ℕ → ℕ → ℕ
doubled zero m = m
doubled (suc n) m = doubled n (m + m)

doubled-more : (n a b : ℕ) → a ≤ b → doubled n a ≤ doubled n b
unfolding doubled
doubled-more zero a b less = less
doubled-more (suc n) a b less = doubled-more n (a + a) (b + b) (omega arith)

doubled-grows : (n m : ℕ) → m ≤ doubled n m
unfolding doubled
doubled-grows zero m = omega arith
doubled-grows (suc n) m = let more = doubled-grows n (m + m) in omega arith

doubled-less : (n k m : ℕ) → doubled n m < doubled k m → n < k
unfolding doubled
doubled-less zero zero m less = omega arith
doubled-less zero (suc k) m less = omega arith
doubled-less (suc n) zero m less = let more = doubled-grows n (m + m) in absurd (omega arith)
doubled-less (suc n) (suc k) m less = let more = doubled-less n k (m + m) less in omega arith

deepest : 200000 < doubled 24 1
unfolding doubled
deepest = omega arith

-- each inner node has two entries at least
two_each : (size : ℕ) (state : State) (row : List (ℕ × Content)) → Stand size state Inner row → length row + length row ≤ length (row_entries row)
two_each size state [] stand = omega arith
two_each size state (x ∷ row) stand =
    let P : Kind → Type 0 = λ k. least k ≤ length x.1.entries in
    let two : 2 ≤ length x.1.entries = subst P stand.1 stand.0.sound.enough in
    let more = two_each size state row stand.2 in
    omega (arith, two, more, length-append x.1.entries (row_entries row))

leaves_count : (size : ℕ) (state : State) (above : List (Key × ℕ)) (levels : List (List (ℕ × Content))) (leaves : List (ℕ × Content)) → Descends size state above levels leaves → doubled (length levels) (length above) ≤ length leaves
unfolding doubled
leaves_count size state above [] leaves descends = omega (arith, ap length descends.0, length-map leaves named)
leaves_count size state above (level ∷ levels) leaves descends =
    let same : length level ≡ length above = sym (length-map level named) ∙ ap length descends.0 in
    let two = two_each size state level descends.1 in
    let below = leaves_count size state (row_entries level) levels leaves descends.2 in
    let more = doubled-more (length levels) (length above + length above) (length (row_entries level)) (omega (arith, same, two)) in
    omega (arith, more, below)

-- the records of the leaves lie in the store
entries_in : (size : ℕ) (state : State) (row : List (ℕ × Content)) → Stand size state Inner row → InStore size (row_entries row)
entries_in size state [] stand = All-nil (λ (e : Key × ℕ). e.1 < size)
entries_in size state (x ∷ row) stand = All-append (λ (e : Key × ℕ). e.1 < size) x.1.entries (row_entries row) stand.0.sound.records (entries_in size state row stand.2)

leaves_in : (size : ℕ) (state : State) (above : List (Key × ℕ)) (levels : List (List (ℕ × Content))) (leaves : List (ℕ × Content)) → InStore size above → Descends size state above levels leaves → InStore size (row_names leaves)
leaves_in size state above [] leaves stored descends = let P : List (Key × ℕ) → Type 0 = InStore size in subst P (sym descends.0) stored
leaves_in size state above (level ∷ levels) leaves stored descends = leaves_in size state (row_entries level) levels leaves (entries_in size state level descends.1) descends.2

names_below : (size : ℕ) (row : List (ℕ × Content)) (rid : ℕ) → InStore size (row_names row) → In rid (records_of row) → rid < size
names_below size [] rid stored there = absurd there
names_below size (x ∷ row) rid stored there =
    let P : Key × ℕ → Type 0 = λ e. e.1 < size in
    elim there as (λ _. rid < size) [ inl same ↦ rw (← same) (All-head P (named x) (row_names row) stored) | inr more ↦ names_below size row rid (All-tail P (named x) (row_names row) stored) more ]

leaves_apart : (levels : List (List (ℕ × Content))) (leaves : List (ℕ × Content)) → Apart (tree_records levels leaves) → Apart (records_of leaves)
leaves_apart [] leaves apart = apart
leaves_apart (level ∷ levels) leaves apart = leaves_apart levels leaves (apart_right (records_of level) (tree_records levels leaves) apart)

in_at : (xs : List ℕ) (j d : ℕ) → j < length xs → In (get_or xs j d) xs
in_at [] j d within = absurd (omega arith)
in_at (x ∷ xs) zero d within = inl refl
in_at (x ∷ xs) (suc j) d within = inr (in_at xs j d (omega arith))

apart_at : (xs : List ℕ) → Apart xs → (i j d : ℕ) → i < j → j < length xs → get_or xs i d ≢ get_or xs j d
apart_at [] apart i j d less within = absurd (omega arith)
apart_at (x ∷ xs) apart i zero d less within = absurd (omega arith)
apart_at (x ∷ xs) apart zero (suc j) d less within = λ same. apart.0 (let P : ℕ → Type 0 = λ r. In r xs in subst P (sym same) (in_at xs j d (omega arith)))
apart_at (x ∷ xs) apart (suc i) (suc j) d less within = apart_at xs apart.1 i j d (omega arith) (omega arith)

any_step : (q x : ℕ) (more : Bool) (xs : List ℕ) → (more ≡ true → In q xs) → (eqb q x || more) ≡ true → In q (x ∷ xs)
any_step q x more xs later any = elim (cases_eq q x) as (λ _. In q (x ∷ xs)) [ inl same ↦ inl (sym same) | inr other ↦ inr (later (rw (ne_eqb q x other) at any)) ]

any_in : (xs : List ℕ) (q : ℕ) → list_any (eqb q) xs ≡ true → In q xs
any_in [] q any = cc
any_in (x ∷ xs) q any = any_step q x (list_any (eqb q) xs) xs (any_in xs q) any

pub shallow : (size root : ℕ) (low : Key) (state : State) (levels : List (List (ℕ × Content))) (leaves : List (ℕ × Content)) → size ≤ 200000 → root < size → Descends size state ((low, root) ∷ []) levels leaves → Apart (tree_records levels leaves) → length levels < 24
shallow size root low state levels leaves most within descends apart =
    let stored : InStore size ((low, root) ∷ []) = All-cons (λ (e : Key × ℕ). e.1 < size) (low, root) [] within (All-nil (λ (e : Key × ℕ). e.1 < size)) in
    let inside = leaves_in size state ((low, root) ∷ []) levels leaves stored descends in
    let apart' = leaves_apart levels leaves apart in
    let few = length-le_from_distinct_below (records_of leaves) size
    (IsDistinct-from_apart eqb (records_of leaves) (λ i j d less low. ne_eqb _ _ (apart_at (records_of leaves) apart' i j d less low)))
    (λ q there. names_below size leaves q inside (any_in (records_of leaves) q there)) in
    let many = leaves_count size state ((low, root) ∷ []) levels leaves descends in
    doubled-less (length levels) 24 1 (omega (arith, many, few, deepest, most, length-map leaves (λ (node : ℕ × Content). node.0)))
