-- Texts of lists: of results and of tables.
use Rattle.std.proofs.Common.{◌≡◌, ℕ, zero, suc, ◌+◌, ◌<◌, min, List, [], ◌∷◌, ◌++◌, length, map, take, get_or, All, Some, refl, sym, ap, ◌∙◌, add-one, arith}
use Rattle.std.specs.Prelude.{slice_get, option_map}
use Rattle.std.specs.List.{flat_map, zip, range_with_len}
use Rattle.std.proofs.lemmas.Grind.{flat_map-append}
use Rattle.std.proofs.lemmas.List.{append-nil, take_more, get_or-map, length-map, length-take}
use Rattle.std.proofs.lemmas.List.FromFn.{sum_by-map-range_with_len_more}
use Rattle.std.proofs.lemmas.Option.{slice_get-map, slice_get-get_or}
use Rattle.load_gen.specs.Summary.{rows_sum, lists_sum, tables_sum}
use Rattle.load_gen.proofs.SumLaws.{tables_sum-none, tables_sum-more}
use Rattle.replay_model.specs.declared.input.Block.{Block}
use Rattle.replay_model.specs.declared.input.Input.{Input}
use Rattle.replay_model.specs.declared.outcome.Outcome.{Outcome}
use Rattle.replay_model.specs.declared.outcome.Placed.{Placed}
use Rattle.replay_model.specs.Answered.{HasAnswers, AllAnswered}
use Rattle.replay_model.specs.Replay.{block_named}
use Rattle.replay_model.specs.Report.{block_text, blocks_text, columns_of, table_text, tables_text}
use Rattle.replay_model.specs.TableMap.{TableMap, Row, pairs_of}
use Rattle.typed_tables.specs.Listing.{AreRows}
use Rattle.input_runner.specs.Printing.{results_text, listed_text}

abbrev Results : Type 0
Results = List (Placed × Outcome)

-- ---- results

pub results_are_blocks : (input : Input) (results : Results) → results_text input results ≡ blocks_text input (map (λ (r : Placed × Outcome). r.0) results) (map (λ (r : Placed × Outcome). r.1) results)
results_are_blocks input [] = refl
results_are_blocks input (r ∷ results) = ap (λ text. block_text input r.0 r.1 ++ text) (results_are_blocks input results)

pub all_of_map : (P : Placed → Type 0) (results : Results) → All P (map (λ (r : Placed × Outcome). r.0) results) → All (λ (r : Placed × Outcome). P r.0) results
all_of_map P results all = λ i d within.
    rw (get_or-map (λ (r : Placed × Outcome). r.0) results i d d.0 within) at (all i d.0 (rw (length-map results (λ (r : Placed × Outcome). r.0)) within))

pub each_answered : (lanes : List (List Block)) (results : Results) → AllAnswered lanes (map (λ (r : Placed × Outcome). r.0) results) (map (λ (r : Placed × Outcome). r.1) results) → All (λ (r : Placed × Outcome). HasAnswers (block_named lanes r.0).commands r.1) results
each_answered lanes results answered = λ i d within.
    let here = slice_get-get_or results i d within in
    answered i (get_or results i d).0 (get_or results i d).1
    (slice_get-map (λ (r : Placed × Outcome). r.0) results i ∙ ap (option_map (λ (r : Placed × Outcome). r.0)) here)
    (slice_get-map (λ (r : Placed × Outcome). r.1) results i ∙ ap (option_map (λ (r : Placed × Outcome). r.1)) here)

-- ---- tables

tables_from : (n : ℕ) (declared : List (List ℕ × ℕ)) (tables : TableMap) → listed_text declared (map (λ (k : ℕ). pairs_of k tables) (range_with_len n (length declared))) ≡ tables_text n declared tables
tables_from n [] tables = refl
tables_from n (table ∷ declared) tables = ap (λ text. table_text table.0 table.1 (pairs_of n tables) ++ text) (tables_from (n + 1) declared tables)

pub listed_are_tables : (declared : List (List ℕ × ℕ)) (rows : List (List (ℕ × Row))) (tables : TableMap) → AreRows (length declared) tables rows → listed_text declared rows ≡ tables_text 0 declared tables
listed_are_tables declared rows tables are = ap (listed_text declared) are ∙ tables_from 0 declared tables

-- a table more
zip-push : {A B : Type 0} (xs : List A) (ys : List B) (x : A) (y : B) → length xs ≡ length ys → zip (xs ++ x ∷ []) (ys ++ y ∷ []) ≡ zip xs ys ++ (x, y) ∷ []
zip-push [] [] x y same = refl
zip-push [] (b ∷ ys) x y same = absurd (omega (arith, same))
zip-push (a ∷ xs) [] x y same = absurd (omega (arith, same))
zip-push (a ∷ xs) (b ∷ ys) x y same = ap (λ ps. (a, b) ∷ ps) (zip-push xs ys x y (omega (arith, same)))

same_name : (table : List ℕ × ℕ) (name : List ℕ) → option_map {U = List ℕ} (λ (t : List ℕ × ℕ). t.0) (Some table) ≡ Some name → table.0 ≡ name
same_name table name e = cc

pub listed_more : (declared : List (List ℕ × ℕ)) (rows : List (List (ℕ × Row))) (i : ℕ) (name : List ℕ) (pairs : List (ℕ × Row)) → length rows ≡ length declared → i < length rows → option_map {U = List ℕ} (λ (t : List ℕ × ℕ). t.0) (slice_get declared i) ≡ Some name → pairs ≡ get_or rows i pairs → listed_text (take (i + 1) declared) (take (i + 1) rows) ≡ listed_text (take i declared) (take i rows) ++ table_text name (columns_of declared i) pairs
listed_more declared rows i name pairs same within named here =
    let text : (List ℕ × ℕ) × List (ℕ × Row) → List ℕ = λ t. table_text t.0.0 t.0.1 t.1 in
    let table : List ℕ × ℕ = get_or declared i ([], 0) in
    let low : i < length declared = omega (arith, same, within) in
    let own : table.0 ≡ name = same_name table name (ap (option_map {U = List ℕ} (λ (t : List ℕ × ℕ). t.0)) (sym (slice_get-get_or declared i ([], 0) low)) ∙ named) in
    let fronts : length (take i declared) ≡ length (take i rows) = length-take i declared ∙ ap (min i) (sym same) ∙ sym (length-take i rows) in
    let more : take (i + 1) rows ≡ take i rows ++ pairs ∷ [] = take_more rows i pairs within ∙ ap (λ (p : List (ℕ × Row)). take i rows ++ p ∷ []) (sym here) in
    (λ j. listed_text (take_more declared i ([], 0) low j) (more j))
    ∙ ap (flat_map text) (zip-push (take i declared) (take i rows) table pairs fronts)
    ∙ flat_map-append text (zip (take i declared) (take i rows)) ((table, pairs) ∷ [])
    ∙ ap (λ t. listed_text (take i declared) (take i rows) ++ t) (append-nil (table_text table.0 table.1 pairs) ∙ ap (λ n. table_text n table.1 pairs) own)

-- ---- a whole report

pub whole_text : (input : Input) (results : Results) (rows : List (List (ℕ × Row))) (tables : TableMap) (none one two three done : List ℕ) → none ≡ [] → one ≡ none ++ results_text input results → two ≡ one ++ listed_text input.tables rows → three ≡ two ++ done → AreRows (length input.tables) tables rows → three ≡ blocks_text input (map (λ (r : Placed × Outcome). r.0) results) (map (λ (r : Placed × Outcome). r.1) results) ++ tables_text 0 input.tables tables ++ done
whole_text input results rows tables none one two three done begins blocks listed ends are =
    let first = blocks ∙ ap (λ t. t ++ results_text input results) begins ∙ results_are_blocks input results in
    ends ∙ ap (λ t. t ++ done) (listed ∙ (λ j. first j ++ listed_are_tables input.tables rows tables are j))

-- ---- sums

pub lists_are_tables : (count : ℕ) (tables : TableMap) → lists_sum (map (λ (n : ℕ). pairs_of n tables) (range_with_len 0 count)) ≡ tables_sum count tables
lists_are_tables zero tables = sym (tables_sum-none tables)
lists_are_tables (suc n) tables =
    let f : ℕ → List (ℕ × Row) = λ k. pairs_of k tables in
    ap (λ (k : ℕ). lists_sum (map f (range_with_len 0 k))) (sym (add-one n))
    ∙ sum_by-map-range_with_len_more rows_sum f 0 n n (omega arith)
    ∙ ap (λ (s : ℕ). s + rows_sum (pairs_of n tables)) (lists_are_tables n tables)
    ∙ sym (tables_sum-more n tables)
    ∙ ap (λ (k : ℕ). tables_sum k tables) (add-one n)
