-- The generated text is an input.
use Rattle.std.proofs.Common.{◌≡◌, ◌⊎◌, inl, inr, ⊎_elim, ℕ, zero, suc, ◌+◌, ◌*◌, ◌^◌, ◌<◌, ◌≤◌, cond, List, [], ◌∷◌, ◌++◌, length, Option, None, Some, refl, sym, ap, subst, ◌∙◌, arith}
use Rattle.std.specs.Prelude.{All, count_by, IsSome, option_and_then, decimal}
use Rattle.std.proofs.lemmas.List.{append-nil, length-append}
use Rattle.std.proofs.lemmas.List.Elements.{All-nil, All-push, filter_map-append}
use Rattle.std.proofs.lemmas.List.Quantifiers.{all_pairs_push}
use Rattle.std.proofs.lemmas.List.Sums.{sum_by-append}
use Rattle.std.proofs.lemmas.Fmt.{length-decimal-le}
use Rattle.replay_model.specs.declared.input.Input.{Input}
use Rattle.replay_model.specs.TableMap.{Row as Columns}
use Rattle.replay_model.specs.Input.{RowsDiffer}
use Rattle.load_gen.specs.declared.generator.Transfer.{Transfer}
use Rattle.load_gen.specs.Generator.{transfer_at}
use Rattle.load_gen.specs.Load as load
use Rattle.txn_script.specs.declared.keyword.Keyword.TheVariants.{Row}
use Rattle.txn_script.specs.declared.keyword.Mark.{Mark}
use Rattle.txn_script.specs.declared.keyword.Mark.TheVariants.{Lane, Txn, Snap, End, Done}
use Rattle.txn_script.specs.declared.keyword.Version.TheVariants.{One}
use Rattle.txn_script.specs.declared.place.Place.{Place}
use Rattle.txn_script.specs.declared.place.Place.TheVariants.{Declarations, InLane, Finished}
use Rattle.txn_script.specs.Line.{Line, mark_line, text, spelled}
use Rattle.txn_script.specs.Places.{after, place_from, place_behind}
use Rattle.txn_script.specs.Gathered.{row_in, row_of, rows_of, opens_lane, gathered}
use Rattle.txn_script.specs.Grammar.{IsInput}
use Rattle.generated_input.proofs.Written.{table_line, change, transfer, account_rows, blocks, lanes, behind_table, spelled-is, length-behind_table}
use Rattle.generated_input.proofs.Gathering.{IsPlain, plain_mark, plain_row, plain_sub, plain_add, ArePlain, ArePlain-append, one_table, count-cons, IsCalm, IsCalm-append}
use Rattle.generated_input.proofs.Fitting.{IsFine, all_fit}

-- ---- each line is plain

plain-transfer : (t : Transfer) → t.from < 2 ^ 64 → t.to < 2 ^ 64 → t.amount < 2 ^ 64 → ArePlain (transfer t)
plain-transfer t from to amount = (plain_mark Txn, (plain_sub t.from t.amount from amount, (plain_add t.to t.amount to amount, (plain_mark End, tt))))

plain-transfer_at : (x : ℕ) → ArePlain (transfer (transfer_at x))
plain-transfer_at x = plain-transfer (transfer_at x) (omega arith) (omega arith) (omega arith)

plain-account_rows : (n : ℕ) → n < 2 ^ 64 → ArePlain (account_rows n)
unfolding account_rows
plain-account_rows zero few = tt
plain-account_rows (suc n) few =
    ArePlain-append (account_rows n) (change Row (n + 1) 1000000 ∷ []) (plain-account_rows n (omega arith)) (plain_row (n + 1) 1000000 (omega arith) (omega arith), tt)

plain-blocks : (n state : ℕ) → ArePlain (blocks n state)
unfolding blocks
plain-blocks zero state = tt
plain-blocks (suc n) state =
    let x = load.behind_transfers n state in
    ArePlain-append (blocks n state) (transfer (transfer_at x)) (plain-blocks n state) (plain-transfer_at x)

plain-lanes : (count n state : ℕ) → ArePlain (lanes count n state)
unfolding lanes
plain-lanes count zero state = tt
plain-lanes count (suc n) state =
    let here = load.behind_lanes count n state in
    ArePlain-append (lanes count n state) (mark_line Lane ∷ blocks count here) (plain-lanes count n state) (plain_mark Lane, plain-blocks count here)

plain-all : (seed : ℕ) → ArePlain (behind_table seed)
unfolding behind_table
plain-all seed =
    ArePlain-append (account_rows 64 ++ lanes 500 8 seed) (mark_line Done ∷ [])
    (ArePlain-append (account_rows 64) (lanes 500 8 seed) (plain-account_rows 64 (omega arith)) (plain-lanes 500 8 seed)) (plain_mark Done, tt)

-- ---- each block is small

calm-nil : IsCalm []
calm-nil = record { small = tt; none = refl }

calm-row : (account amount : ℕ) → IsCalm (change Row account amount ∷ [])
calm-row account amount = record { small = (omega arith, tt); none = refl }

calm-transfer : (t : Transfer) → IsCalm (transfer t)
calm-transfer t = record { small = (omega arith, (omega arith, (omega arith, (omega arith, tt)))); none = refl }

calm-mark : (mark : Mark) → IsCalm (mark_line mark ∷ [])
calm-mark Lane = record { small = (omega arith, tt); none = refl }
calm-mark Txn = record { small = (omega arith, tt); none = refl }
calm-mark Snap = record { small = (omega arith, tt); none = refl }
calm-mark End = record { small = (omega arith, tt); none = refl }
calm-mark Done = record { small = (omega arith, tt); none = refl }

calm-account_rows : (n : ℕ) → IsCalm (account_rows n)
unfolding account_rows
calm-account_rows zero = calm-nil
calm-account_rows (suc n) = IsCalm-append (account_rows n) (change Row (n + 1) 1000000 ∷ []) (calm-account_rows n) (calm-row (n + 1) 1000000)

calm-blocks : (n state : ℕ) → IsCalm (blocks n state)
unfolding blocks
calm-blocks zero state = calm-nil
calm-blocks (suc n) state =
    let t = transfer_at (load.behind_transfers n state) in
    IsCalm-append (blocks n state) (transfer t) (calm-blocks n state) (calm-transfer t)

calm-lanes : (count n state : ℕ) → IsCalm (lanes count n state)
unfolding lanes
calm-lanes count zero state = calm-nil
calm-lanes count (suc n) state =
    let here = blocks count (load.behind_lanes count n state) in
    IsCalm-append (lanes count n state) (mark_line Lane ∷ here) (calm-lanes count n state)
    (IsCalm-append (mark_line Lane ∷ []) here (calm-mark Lane) (calm-blocks count (load.behind_lanes count n state)))

calm-all : (seed : ℕ) → IsCalm (behind_table seed)
unfolding behind_table
calm-all seed =
    IsCalm-append (account_rows 64 ++ lanes 500 8 seed) (mark_line Done ∷ [])
    (IsCalm-append (account_rows 64) (lanes 500 8 seed) (calm-account_rows 64) (calm-lanes 500 8 seed)) (calm-mark Done)

-- ---- there are few lanes

count-append : (xs ys : List Line) → count_by opens_lane (xs ++ ys) ≡ count_by opens_lane xs + count_by opens_lane ys
count-append xs ys = sum_by-append (λ l. cond (opens_lane l) 1 0) xs ys

count-account_rows : (n : ℕ) → count_by opens_lane (account_rows n) ≡ 0
unfolding account_rows
count-account_rows zero = refl
count-account_rows (suc n) =
    let one : count_by opens_lane (change Row (n + 1) 1000000 ∷ []) ≡ 0 = refl in
    omega (arith, one, count-append (account_rows n) (change Row (n + 1) 1000000 ∷ []), count-account_rows n)

count-blocks : (n state : ℕ) → count_by opens_lane (blocks n state) ≡ 0
unfolding blocks
count-blocks zero state = refl
count-blocks (suc n) state =
    let t = transfer_at (load.behind_transfers n state) in
    let one : count_by opens_lane (transfer t) ≡ 0 = refl in
    omega (arith, one, count-append (blocks n state) (transfer t), count-blocks n state)

count-lanes : (count n state : ℕ) → count_by opens_lane (lanes count n state) ≡ n
unfolding lanes
count-lanes count zero state = refl
count-lanes count (suc n) state =
    let here = load.behind_lanes count n state in
    omega (arith, count-append (lanes count n state) (mark_line Lane ∷ blocks count here), count-cons opens_lane (mark_line Lane) (blocks count here), count-blocks count here, count-lanes count n state)

few_lanes-all : (seed : ℕ) → count_by opens_lane (behind_table seed) ≤ 64
unfolding behind_table
few_lanes-all seed =
    let last : count_by opens_lane (mark_line Done ∷ []) ≡ 0 = refl in
    omega (arith, last, count-append (account_rows 64 ++ lanes 500 8 seed) (mark_line Done ∷ []), count-append (account_rows 64) (lanes 500 8 seed), count-account_rows 64, count-lanes 500 8 seed)

-- ---- rows differ

rows-append : (xs ys : List Line) → rows_of one_table ys ≡ [] → rows_of one_table (xs ++ ys) ≡ rows_of one_table xs
rows-append xs ys none = filter_map-append (row_in one_table) xs ys ∙ ap (λ rows. rows_of one_table xs ++ rows) none ∙ append-nil (rows_of one_table xs)

rows-both : (xs ys : List Line) → rows_of one_table xs ≡ [] → rows_of one_table ys ≡ [] → rows_of one_table (xs ++ ys) ≡ []
rows-both xs ys first second = rows-append xs ys second ∙ first

rows-blocks : (n state : ℕ) → rows_of one_table (blocks n state) ≡ []
unfolding blocks
rows-blocks zero state = refl
rows-blocks (suc n) state = rows-both (blocks n state) (transfer (transfer_at (load.behind_transfers n state))) (rows-blocks n state) refl

rows-lanes : (count n state : ℕ) → rows_of one_table (lanes count n state) ≡ []
unfolding lanes
rows-lanes count zero state = refl
rows-lanes count (suc n) state =
    let here = load.behind_lanes count n state in
    rows-both (lanes count n state) (mark_line Lane ∷ blocks count here) (rows-lanes count n state) (rows-blocks count here)

abbrev account_row : ℕ → ℕ × ℕ × Columns
account_row account = (0, account, row_of (account ∷ 1000000 ∷ []))

rows-more : (n : ℕ) → rows_of one_table (account_rows (suc n)) ≡ rows_of one_table (account_rows n) ++ account_row (n + 1) ∷ []
unfolding account_rows
rows-more n = filter_map-append (row_in one_table) (account_rows n) (change Row (n + 1) 1000000 ∷ [])

-- accounts from 1 to this number
abbrev IsUpTo : ℕ → ℕ × ℕ × Columns → Type 0
IsUpTo n row = row.1 ≤ n

up_to-more : (n : ℕ) (rows : List (ℕ × ℕ × Columns)) → All (IsUpTo n) rows → All (IsUpTo (suc n)) rows
up_to-more n rows up k d lt = omega (arith, up k d lt)

rows-up_to : (n : ℕ) → All (IsUpTo n) (rows_of one_table (account_rows n))
unfolding account_rows
rows-up_to zero = All-nil (IsUpTo 0)
rows-up_to (suc n) =
    let before = rows_of one_table (account_rows n) in
    subst (All (IsUpTo (suc n))) (sym (rows-more n)) (All-push (IsUpTo (suc n)) before (account_row (n + 1)) (up_to-more n before (rows-up_to n)) (omega arith))

rows-differ : (n : ℕ) → RowsDiffer (rows_of one_table (account_rows n))
unfolding account_rows
rows-differ zero = λ i j d lt within. absurd (omega (arith, within))
rows-differ (suc n) =
    let before = rows_of one_table (account_rows n) in
    subst RowsDiffer (sym (rows-more n))
    (all_pairs_push (λ (a b : ℕ × ℕ × Columns). (a.0 ≡ b.0) × (a.1 ≡ b.1) → ⊥) before (account_row (n + 1)) (rows-differ n) (λ k d lt same. omega (arith, rows-up_to n k d lt, same.1)))

rows_differ-all : (seed : ℕ) → RowsDiffer (rows_of one_table (behind_table seed))
unfolding behind_table
rows_differ-all seed =
    subst RowsDiffer
    (sym (rows-append (account_rows 64 ++ lanes 500 8 seed) (mark_line Done ∷ []) refl ∙ rows-append (account_rows 64) (lanes 500 8 seed) (rows-lanes 500 8 seed))) (rows-differ 64)

-- ---- each line stands at its place

place-append : (place next : Place) (xs ys : List Line) → place_from place xs ≡ Some next → place_from place (xs ++ ys) ≡ place_from next ys
place-append place next [] ys e = some_place place next e
  where
    some_place : (a b : Place) → ◌≡◌ {A = Option Place} (Some a) (Some b) → place_from a ys ≡ place_from b ys
    some_place a b e = ap (option_and_then (λ p. place_from p ys)) e
place-append place next (x ∷ xs) ys e = behind (after place x) (λ p. place-append p next xs ys) e
  where
    behind : (o : Option Place) → ((p : Place) → place_from p xs ≡ Some next → place_from p (xs ++ ys) ≡ place_from next ys) → option_and_then (λ p. place_from p xs) o ≡ Some next → option_and_then (λ p. place_from p (xs ++ ys)) o ≡ place_from next ys
    behind None further e = absurd cc
    behind (Some p) further e = further p e

place-account_rows : (n : ℕ) → place_from Declarations (account_rows n) ≡ Some Declarations
unfolding account_rows
place-account_rows zero = refl
place-account_rows (suc n) = place-append Declarations Declarations (account_rows n) (change Row (n + 1) 1000000 ∷ []) (place-account_rows n)

place-blocks : (n state : ℕ) → place_from InLane (blocks n state) ≡ Some InLane
unfolding blocks
place-blocks zero state = refl
place-blocks (suc n) state = place-append InLane InLane (blocks n state) (transfer (transfer_at (load.behind_transfers n state))) (place-blocks n state)

-- before the first lane, or in one
abbrev IsOutside : Option Place → Type 0
IsOutside place = (place ≡ Some Declarations) ⊎ (place ≡ Some InLane)

place-lanes : (count n state : ℕ) → IsOutside (place_from Declarations (lanes count n state))
unfolding lanes
place-lanes count zero state = inl refl
place-lanes count (suc n) state =
    let before = lanes count n state in
    let here = blocks count (load.behind_lanes count n state) in
    let inside = place-blocks count (load.behind_lanes count n state) in
    inr (⊎_elim (λ e. place-append Declarations Declarations before (mark_line Lane ∷ here) e ∙ inside) (λ e. place-append Declarations InLane before (mark_line Lane ∷ here) e ∙ inside) (place-lanes count n state))

finished-all : (seed : ℕ) → place_behind (behind_table seed) ≡ Some Finished
unfolding behind_table
finished-all seed =
    let rows = account_rows 64 in
    let rest = lanes 500 8 seed in
    let both = place-append Declarations Declarations rows rest (place-account_rows 64) in
    ⊎_elim (λ e. place-append Declarations Declarations (rows ++ rest) (mark_line Done ∷ []) (both ∙ e)) (λ e. place-append Declarations InLane (rows ++ rest) (mark_line Done ∷ []) (both ∙ e))
    (place-lanes 500 8 seed)

-- ---- so it is an input

some_is : (o : Option Place) (place : Place) → o ≡ Some place → IsSome o
some_is o place e = subst IsSome (sym e) refl

fine-all : (seed : ℕ) → length (load.lines seed) ≡ 16075 → IsFine (behind_table seed)
fine-all seed counted = record {
  plain = plain-all seed;
  small = (calm-all seed).small;
  few_lanes = few_lanes-all seed;
  few_lines = omega (arith, length-behind_table seed counted);
  rows_differ = rows_differ-all seed;
  placed = some_is _ Finished (finished-all seed);
}

pub accepted : (seed : ℕ) → length (load.lines seed) ≡ 16075 → (input : Input) × IsInput (load.spelled (load.lines seed)) input
accepted seed counted =
    let lines = table_line ∷ behind_table seed in (
      gathered One lines,
      (
        One,
        lines,
        record { begins = record { spelling = spelled-is seed; fit = all_fit (behind_table seed) (fine-all seed counted) }; finished = finished-all seed; input_is = refl },
      ),
    )

-- ---- and not too long

length-change : (l : Line) → IsPlain l → length (text l) ≤ 60
length-change _ (plain_mark Lane) = omega arith
length-change _ (plain_mark Txn) = omega arith
length-change _ (plain_mark Snap) = omega arith
length-change _ (plain_mark End) = omega arith
length-change _ (plain_mark Done) = omega arith
length-change _ (plain_row account amount a b) =
    omega (arith, length-append (decimal account) (32 ∷ decimal amount), length-decimal-le 20 account (omega arith) (omega arith) a, length-decimal-le 20 amount (omega arith) (omega arith) b)
length-change _ (plain_sub account amount a b) =
    omega (arith, length-append (decimal account) (32 ∷ decimal amount), length-decimal-le 20 account (omega arith) (omega arith) a, length-decimal-le 20 amount (omega arith) (omega arith) b)
length-change _ (plain_add account amount a b) =
    omega (arith, length-append (decimal account) (32 ∷ decimal amount), length-decimal-le 20 account (omega arith) (omega arith) a, length-decimal-le 20 amount (omega arith) (omega arith) b)

length-spelled : (ls : List Line) → ArePlain ls → length (spelled ls) ≤ 61 * length ls
length-spelled [] plain = omega arith
length-spelled (l ∷ ls) plain =
    omega (arith, length-append (text l ++ 10 ∷ []) (spelled ls), length-append (text l) (10 ∷ []), length-change l plain.0, length-spelled ls plain.1)

pub short : (seed : ℕ) → length (load.lines seed) ≡ 16075 → length (load.spelled (load.lines seed)) ≤ 4194304
short seed counted =
    let rest = behind_table seed in
    let one : spelled (table_line ∷ rest) ≡ text table_line ++ 10 ∷ spelled rest = refl in
    omega (arith, ap length (spelled-is seed), ap length one, length-append (spelled (table_line ∷ rest)) [], length-spelled rest (plain-all seed), length-behind_table seed counted)
