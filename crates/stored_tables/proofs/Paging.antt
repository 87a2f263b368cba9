-- A page of a table is a scan that begins behind a key.
use Rattle.std.proofs.Common.{◌≡◌, ℕ, ◌-◌, ◌^◌, ◌<◌, Bool, false, cond, ◌==◌, List, [], ◌∷◌, filter, take, All, Option, Some, refl, sym, ap, ◌∙◌, arith}
use Rattle.std.specs.Prelude.{nat_le, nat_lt}
use Rattle.std.specs.FinMap.{find, entries, entries_sorted, get-entries}
use Rattle.std.proofs.lemmas.Bool.Decides.{nat_tests}
use Rattle.std.proofs.Math.Seq.{take-nil}
use Rattle.std.proofs.lemmas.List.Elements.{All-head, All-tail, All-filter, All-map, All-weaker}
use Rattle.replay_model.specs.Effect.{lies_between, scanned}
use Rattle.replay_model.specs.TableMap.{TableMap, Row, pair_cmp, pair_at, pairs_of}
use Rattle.stored_tables.specs.RowLists.{comes_behind, paged}
use Rattle.stored_tables.specs.Tables.{KeysFit}
use Rattle.stored_tables.proofs.ListsEntries.{all_found}

-- the keys of a table are numbers of 64 bits
pub keys_fit : (table : ℕ) (tables : TableMap) → KeysFit tables → All (λ (p : ℕ × Row). p.0 < 2 ^ 64) (pairs_of table tables)
keys_fit table tables fit =
    let Fits : (ℕ × ℕ) × Row → Type 0 = λ e. e.0.1 < 2 ^ 64 in
    let es = entries tables.rows in
    All-map (λ (p : ℕ × Row). p.0 < 2 ^ 64) pair_at (filter (λ (e : (ℕ × ℕ) × Row). e.0.0 == table) es)
    (All-filter (λ (e : (ℕ × ℕ) × Row). e.0.0 == table) Fits es
    (All-weaker (λ (e : (ℕ × ℕ) × Row). find pair_cmp e.0 es ≡ Some e.1) Fits (λ e here. fit e.0.0 e.0.1 e.1 (get-entries tables.rows e.0 ∙ here)) es
    (all_found es (entries_sorted tables.rows))))

-- tests that agree on each element keep the same ones
filter_alike : (p q : ℕ × Row → Bool) (P : ℕ × Row → Type 0) → ((x : ℕ × Row) → P x → p x ≡ q x) → (xs : List (ℕ × Row)) → All P xs
    → filter p xs ≡ filter q xs
filter_alike p q P alike [] all = refl
filter_alike p q P alike (x ∷ xs) all =
    let rest = filter_alike p q P alike xs (All-tail P x xs all) in
    λ i. cond (alike x (All-head P x xs all) i) (x ∷ rest i) (rest i)

filter_nobody : (xs : List (ℕ × Row)) → filter (λ (_ : ℕ × Row). false) xs ≡ []
filter_nobody [] = refl
filter_nobody (x ∷ xs) = filter_nobody xs

upward : (lo n : ℕ) → n < 2 ^ 64 → lies_between lo (2 ^ 64 - 1) n ≡ nat_le lo n
upward lo n low = grind (arith, nat_tests)

past : (n : ℕ) → n < 2 ^ 64 → nat_lt (2 ^ 64 - 1) n ≡ false
past n low = grind (arith, nat_tests)

-- a page, from its first key on
pub paged_from : (table lo limit : ℕ) (behind : Option ℕ) (tables : TableMap) → KeysFit tables → ((n : ℕ) → comes_behind behind n ≡ nat_le lo n)
    → scanned table lo (2 ^ 64 - 1) limit tables ≡ paged table behind limit tables
paged_from table lo limit behind tables fit is =
    ap (take limit)
    (filter_alike (λ (p : ℕ × Row). lies_between lo (2 ^ 64 - 1) p.0) (λ (p : ℕ × Row). comes_behind behind p.0) (λ (p : ℕ × Row). p.0 < 2 ^ 64)
    (λ p low. upward lo p.0 low ∙ sym (is p.0)) (pairs_of table tables) (keys_fit table tables fit))

-- nothing comes behind the greatest key
pub paged_past : (table limit : ℕ) (behind : Option ℕ) (tables : TableMap) → KeysFit tables → behind ≡ Some (2 ^ 64 - 1)
    → [] ≡ paged table behind limit tables
paged_past table limit behind tables fit is =
    let none : filter (λ (p : ℕ × Row). comes_behind behind p.0) (pairs_of table tables) ≡ [] =
    filter_alike (λ (p : ℕ × Row). comes_behind behind p.0) (λ (_ : ℕ × Row). false) (λ (p : ℕ × Row). p.0 < 2 ^ 64)
    (λ p low. ap (λ b. comes_behind b p.0) is ∙ past p.0 low) (pairs_of table tables) (keys_fit table tables fit)
    ∙ filter_nobody (pairs_of table tables) in
    sym (ap (take limit) none ∙ take-nil limit)
