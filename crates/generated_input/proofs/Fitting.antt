-- Lines like those of the generated text fit, each behind those before it.
use Rattle.std.proofs.Common.{◌≡◌, ℕ, suc, ◌^◌, ◌<◌, ◌≤◌, false, cond, List, [], ◌∷◌, ◌++◌, length, get_or, Option, None, Some, refl, sym, ap, subst, append_assoc, arith}
use Rattle.std.specs.Prelude.{All, count_by, sum_by, IsSome, option_and_then}
use Rattle.std.specs.List.{flat_map, cons_option}
use Rattle.std.proofs.lemmas.List.{length-append, get_or_append_left}
use Rattle.std.proofs.lemmas.List.Elements.{All-nil, All-from_recursion, All-cons, All-append, filter_map-append}
use Rattle.std.proofs.lemmas.List.Sums.{sum_by-append, count_by-le-length}
use Rattle.replay_model.specs.declared.command.Command.{Command}
use Rattle.replay_model.specs.declared.input.Block.{Block}
use Rattle.replay_model.specs.TableMap.{Row}
use Rattle.replay_model.specs.Input.{RowsDiffer}
use Rattle.txn_script.specs.declared.keyword.Version.TheVariants.{One}
use Rattle.txn_script.specs.declared.place.Place.{Place}
use Rattle.txn_script.specs.Line.{Line, HasForm, IsName, IsNumber}
use Rattle.txn_script.specs.Places.{after, place_from, place_behind}
use Rattle.txn_script.specs.Gathered.{row_in, rows_of, opens_lane, opens_block, lanes_of, gathered}
use Rattle.txn_script.specs.Grammar.{counts, limit_of, blocks_in, commands_in, IsBlockWithinLimits, IsWithinLimits, ComesOnce, IsKnown, KeepsColumns, Fits, FitBehind}
use Rattle.generated_input.proofs.Written.{accounts, table_line}
use Rattle.generated_input.proofs.Gathering.{IsPlain, plain_mark, plain_row, plain_sub, plain_add, ArePlain, ArePlain-prefix, ArePlain-last, one_table, HasSmallBlocks, HasSmallBlocks-prefix, IsQuiet, IsGentle, plain_input, gathered-is, count-cons, length-lanes, few_blocks, all_gentle}

-- ---- a block within its limits

no_limits : (commands : List Command) → All IsQuiet commands → sum_by limit_of commands ≡ 0
no_limits [] quiet = refl
no_limits (c ∷ cs) quiet =
    let rest : sum_by limit_of cs ≡ 0 = no_limits cs (λ k d lt. quiet (suc k) d (omega arith)) in
    omega (arith, (quiet 0 c (omega arith)).no_limit, rest, sum_by-append limit_of (c ∷ []) cs)

no_rows : (commands : List Command) → All IsQuiet commands → count_by (counts false) commands ≡ 0
no_rows [] quiet = refl
no_rows (c ∷ cs) quiet =
    let rest : count_by (counts false) cs ≡ 0 = no_rows cs (λ k d lt. quiet (suc k) d (omega arith)) in
    let here : ◌≡◌ {A = ℕ} (cond (counts false c) 1 0) 0 = ap (λ b. cond b 1 0) (quiet 0 c (omega arith)).no_row in
    omega (arith, here, rest, count-cons (counts false) c cs)

within_limits : (block : Block) → IsGentle block → IsBlockWithinLimits block
within_limits block gentle = record { commands = gentle.few; limits = omega (arith, no_limits block.commands gentle.quiet) }

all_quiet : (blocks : List Block) → All IsGentle blocks → All IsQuiet (flat_map (λ block. block.commands) blocks)
all_quiet [] gentle = All-nil IsQuiet
all_quiet (b ∷ bs) gentle =
    All-append IsQuiet b.commands (flat_map (λ block. block.commands) bs) (gentle 0 b (omega arith)).quiet (all_quiet bs (λ k d lt. gentle (suc k) d (omega arith)))

-- ---- lines that may stand behind the line of the table

pub record IsFine (ls : List Line) : Type 0 where
  pub plain : ArePlain ls
  pub small : HasSmallBlocks ls
  pub few_lanes : count_by opens_lane ls ≤ 64
  pub few_lines : length ls ≤ 16384
  pub rows_differ : RowsDiffer (rows_of one_table ls)
  pub placed : IsSome (place_behind ls)

few_before : (xs ys : List Line) → count_by opens_lane (xs ++ ys) ≤ 64 → count_by opens_lane xs ≤ 64
few_before xs ys few = omega (arith, few, sum_by-append (λ l. cond (opens_lane l) 1 0) xs ys)

differ_before : (xs ys : List (ℕ × ℕ × Row)) → RowsDiffer (xs ++ ys) → RowsDiffer xs
differ_before xs ys differ i j d lt within =
    subst (λ (r : ℕ × ℕ × Row). (r.0 ≡ (get_or xs j d).0) × (r.1 ≡ (get_or xs j d).1) → ⊥) (get_or_append_left xs ys d i (omega arith))
    (subst (λ (r : ℕ × ℕ × Row). ((get_or (xs ++ ys) i d).0 ≡ r.0) × ((get_or (xs ++ ys) i d).1 ≡ r.1) → ⊥) (get_or_append_left xs ys d j within) (differ i j d lt (omega (arith, length-append xs ys))))

placed_before : (place : Place) (xs ys : List Line) → IsSome (place_from place (xs ++ ys)) → IsSome (place_from place xs)
placed_before place [] ys h = refl
placed_before place (x ∷ xs) ys h = behind (after place x) (λ next. placed_before next xs ys) h
  where
    behind : (o : Option Place) → ((next : Place) → IsSome (place_from next (xs ++ ys)) → IsSome (place_from next xs)) → IsSome (option_and_then (λ next. place_from next (xs ++ ys)) o) → IsSome (option_and_then (λ next. place_from next xs) o)
    behind None further h = h
    behind (Some next) further h = further next h

IsFine-prefix : (xs ys : List Line) → IsFine (xs ++ ys) → IsFine xs
IsFine-prefix xs ys fine = record {
  plain = ArePlain-prefix xs ys fine.plain;
  small = HasSmallBlocks-prefix xs ys fine.small;
  few_lanes = few_before xs ys fine.few_lanes;
  few_lines = omega (arith, fine.few_lines, length-append xs ys);
  rows_differ = differ_before (rows_of one_table xs) (rows_of one_table ys) (subst RowsDiffer (filter_map-append (row_in one_table) xs ys) fine.rows_differ);
  placed = placed_before _ xs ys fine.placed;
}

-- ---- the checks

length-rows : (ls : List Line) → length (rows_of one_table ls) ≤ length ls
length-rows [] = omega arith
length-rows (l ∷ ls) = with_first (row_in one_table l) (length-rows ls)
  where
    with_first : (o : Option (ℕ × ℕ × Row)) → length (rows_of one_table ls) ≤ length ls → length (cons_option o (rows_of one_table ls)) ≤ suc (length ls)
    with_first None rest = omega (arith, rest)
    with_first (Some row) rest = omega (arith, rest)

within : (ls : List Line) → IsFine ls → IsWithinLimits (gathered One (table_line ∷ ls))
within ls fine =
    let input = plain_input ls in
    let gentle = all_gentle ls fine.plain fine.small in
    let blocks = blocks_in (lanes_of One one_table ls) in
    subst IsWithinLimits (sym (gathered-is ls fine.plain)) (record {
      tables = omega arith;
      lanes = omega (arith, length-lanes ls, fine.few_lanes);
      blocks = omega (arith, few_blocks ls, count_by-le-length opens_block ls, fine.few_lines);
      each_block = λ k d lt. within_limits (get_or blocks k d) (gentle k d lt);
      rows_and_changes = omega (arith, length-rows ls, fine.few_lines, no_rows (commands_in (lanes_of One one_table ls)) (all_quiet blocks gentle));
    })

once : (ls : List Line) → IsFine ls → ComesOnce (gathered One (table_line ∷ ls))
once ls fine =
    subst ComesOnce (sym (gathered-is ls fine.plain)) (record {
      tables = λ i j d lt in'. absurd (omega (arith, lt, in'));
      indexes = λ i j d lt in'. absurd (omega (arith, in'));
      rows = fine.rows_differ;
    })

abbrev IsLetter : ℕ → Type 0
IsLetter c = (97 ≤ c) × (c ≤ 122)

accounts-name : IsName accounts
accounts-name = record {
  not_empty = omega arith;
  short = omega arith;
  letters =
      All-from_recursion IsLetter accounts
      ((omega arith, omega arith), ((omega arith, omega arith), ((omega arith, omega arith), ((omega arith, omega arith), ((omega arith, omega arith), ((omega arith, omega arith), ((omega arith, omega arith), ((omega arith, omega arith), tt))))))));
}

two : (a b : ℕ) → a < 2 ^ 64 → b < 2 ^ 64 → All IsNumber (a ∷ b ∷ [])
two a b first second = All-cons IsNumber a (b ∷ []) first (All-cons IsNumber b [] second (All-nil IsNumber))

form : (l : Line) → IsPlain l → HasForm One l
form _ (plain_mark mark) = tt
form _ (plain_row account amount a b) = (accounts-name, two account amount a b, refl)
form _ (plain_sub account amount a b) = (accounts-name, two account amount a b, refl)
form _ (plain_add account amount a b) = (accounts-name, two account amount a b, refl)

known : (before : List Line) (l : Line) → IsPlain l → IsKnown One (table_line ∷ before) l
known before _ (plain_mark mark) = tt
known before _ (plain_row account amount a b) = refl
known before _ (plain_sub account amount a b) = refl
known before _ (plain_add account amount a b) = refl

columns : (before : List Line) (l : Line) → IsPlain l → KeepsColumns One (table_line ∷ before) l
columns before _ (plain_mark mark) = tt
columns before _ (plain_row account amount a b) = refl
columns before _ (plain_sub account amount a b) = refl
columns before _ (plain_add account amount a b) = refl

fits : (before : List Line) (l : Line) → IsFine (before ++ l ∷ []) → Fits One (table_line ∷ before) l
fits before l fine =
    let plain = ArePlain-last before l fine.plain in
    record {
      form = form l plain;
      passes = (fine.placed, (known before l plain, (columns before l plain, (once (before ++ l ∷ []) fine, (within (before ++ l ∷ []) fine, tt)))));
    }

fit_behind : (before ls : List Line) → IsFine (before ++ ls) → FitBehind One (table_line ∷ before) ls
fit_behind before [] fine = tt
fit_behind before (l ∷ ls) fine =
    let split = subst IsFine (sym (append_assoc before (l ∷ []) ls)) fine in
    (fits before l (IsFine-prefix (before ++ l ∷ []) ls split), fit_behind (before ++ l ∷ []) ls split)

pub all_fit : (ls : List Line) → IsFine ls → FitBehind One [] (table_line ∷ ls)
all_fit ls fine =
    let none = IsFine-prefix [] ls fine in (
      record { form = (accounts-name, All-nil IsNumber, refl); passes = (refl, (tt, (refl, (once [] none, (within [] none, tt))))) },
      fit_behind [] ls fine,
    )
