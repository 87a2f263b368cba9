-- What lines like those of the generated text gather, and how much of it.
use Rattle.std.proofs.Common.{◌≡◌, ℕ, ◌+◌, ◌^◌, ◌<◌, ◌≤◌, Bool, true, false, cond, List, [], ◌∷◌, ◌++◌, length, map, Option, None, Some, refl, sym, ap, subst, ◌∙◌, zero-add, arith}
use Rattle.std.specs.Prelude.{All, count_by}
use Rattle.std.specs.List.{filter_map, cons_option, enumerate_from}
use Rattle.std.proofs.lemmas.List.{length-append}
use Rattle.std.proofs.lemmas.List.Elements.{All-nil, All-cons, All-append}
use Rattle.std.proofs.lemmas.List.Sums.{sum_by-append}
use Rattle.replay_model.specs.declared.command.Command.{Command}
use Rattle.replay_model.specs.declared.input.Block.{Block}
use Rattle.replay_model.specs.declared.input.Input.{Input}
use Rattle.txn_script.specs.declared.keyword.Keyword.TheVariants.{Row, Add, Sub}
use Rattle.txn_script.specs.declared.keyword.Mark.{Mark}
use Rattle.txn_script.specs.declared.keyword.Mark.TheVariants.{Lane, Txn, Snap, End, Done}
use Rattle.txn_script.specs.declared.keyword.Version.TheVariants.{One}
use Rattle.txn_script.specs.Line.{Line, head_line, mark_line, named_line}
use Rattle.txn_script.specs.Gathered.{table_in, index_in, rows_of, indexes_of, command_in, lines_before, sections, opens_lane, opens_block, block_of, blocks_of, lanes_of, gathered}
use Rattle.txn_script.specs.Grammar.{counts, limit_of, blocks_in}
use Rattle.generated_input.proofs.Written.{accounts, table_line, change}

-- a line as it stands behind that of the table: a word; or a row, a subtraction or an addition
pub data IsPlain : Line → Type 0 where
  plain_mark : (mark : Mark) → IsPlain (mark_line mark)
  plain_row : (account amount : ℕ) → account < 2 ^ 64 → amount < 2 ^ 64 → IsPlain (change Row account amount)
  plain_sub : (account amount : ℕ) → account < 2 ^ 64 → amount < 2 ^ 64 → IsPlain (change Sub account amount)
  plain_add : (account amount : ℕ) → account < 2 ^ 64 → amount < 2 ^ 64 → IsPlain (change Add account amount)

abbrev pub ArePlain : List Line → Type 0
ArePlain [] = Unit {0}
ArePlain (l ∷ ls) = IsPlain l × ArePlain ls

pub ArePlain-append : (xs ys : List Line) → ArePlain xs → ArePlain ys → ArePlain (xs ++ ys)
ArePlain-append [] ys h k = k
ArePlain-append (x ∷ xs) ys h k = (h.0, ArePlain-append xs ys h.1 k)

pub ArePlain-prefix : (xs ys : List Line) → ArePlain (xs ++ ys) → ArePlain xs
ArePlain-prefix [] ys h = tt
ArePlain-prefix (x ∷ xs) ys h = (h.0, ArePlain-prefix xs ys h.1)

pub ArePlain-last : (xs : List Line) (l : Line) → ArePlain (xs ++ l ∷ []) → IsPlain l
ArePlain-last [] l h = h.0
ArePlain-last (x ∷ xs) l h = ArePlain-last xs l h.1

-- ---- tables and indexes

abbrev pub one_table : List (List ℕ × ℕ)
one_table = (accounts, 1) ∷ []

filter_map-none : {Y : Type 0} (h : Line → Option Y) → ((l : Line) → IsPlain l → h l ≡ None) → (ls : List Line) → ArePlain ls → filter_map h ls ≡ []
filter_map-none h each [] plain = refl
filter_map-none h each (l ∷ ls) plain = ap (λ o. cons_option o (filter_map h ls)) (each l plain.0) ∙ filter_map-none h each ls plain.1

no_table : (l : Line) → IsPlain l → table_in One l ≡ None
no_table _ (plain_mark mark) = refl
no_table _ (plain_row account amount a b) = refl
no_table _ (plain_sub account amount a b) = refl
no_table _ (plain_add account amount a b) = refl

no_index : (l : Line) → IsPlain l → index_in one_table l ≡ None
no_index _ (plain_mark mark) = refl
no_index _ (plain_row account amount a b) = refl
no_index _ (plain_sub account amount a b) = refl
no_index _ (plain_add account amount a b) = refl

-- ---- sections

abbrev lanes_from : ℕ → List Line → List (List Block)
lanes_from n ls = map (λ section. blocks_of One one_table section.0 section.1.1) (enumerate_from n (sections opens_lane ls))

abbrev blocks_from : ℕ → ℕ → List Line → List Block
blocks_from lane n ls = map (λ section. block_of One one_table lane section.0 section.1) (enumerate_from n (sections opens_block ls))

-- one line more at the front
pub count-cons : {X : Type 0} (p : X → Bool) (x : X) (xs : List X) → count_by p (x ∷ xs) ≡ cond (p x) 1 0 + count_by p xs
count-cons p x xs = sum_by-append (λ y. cond (p y) 1 0) (x ∷ []) xs ∙ ap (λ n. n + count_by p xs) (zero-add (cond (p x) 1 0))

length-lanes_from : (n : ℕ) (ls : List Line) → length (lanes_from n ls) ≡ count_by opens_lane ls
length-lanes_from n [] = refl
length-lanes_from n (head_line v ∷ ls) = omega (arith, length-lanes_from n ls, count-cons opens_lane (head_line v) ls)
length-lanes_from n (mark_line Lane ∷ ls) = omega (arith, length-lanes_from (n + 1) ls, count-cons opens_lane (mark_line Lane) ls)
length-lanes_from n (mark_line Txn ∷ ls) = omega (arith, length-lanes_from n ls, count-cons opens_lane (mark_line Txn) ls)
length-lanes_from n (mark_line Snap ∷ ls) = omega (arith, length-lanes_from n ls, count-cons opens_lane (mark_line Snap) ls)
length-lanes_from n (mark_line End ∷ ls) = omega (arith, length-lanes_from n ls, count-cons opens_lane (mark_line End) ls)
length-lanes_from n (mark_line Done ∷ ls) = omega (arith, length-lanes_from n ls, count-cons opens_lane (mark_line Done) ls)
length-lanes_from n (named_line k name numbers ∷ ls) = omega (arith, length-lanes_from n ls, count-cons opens_lane (named_line k name numbers) ls)

length-blocks_from : (lane n : ℕ) (ls : List Line) → length (blocks_from lane n ls) ≡ count_by opens_block ls
length-blocks_from lane n [] = refl
length-blocks_from lane n (head_line v ∷ ls) = omega (arith, length-blocks_from lane n ls, count-cons opens_block (head_line v) ls)
length-blocks_from lane n (mark_line Lane ∷ ls) = omega (arith, length-blocks_from lane n ls, count-cons opens_block (mark_line Lane) ls)
length-blocks_from lane n (mark_line Txn ∷ ls) = omega (arith, length-blocks_from lane (n + 1) ls, count-cons opens_block (mark_line Txn) ls)
length-blocks_from lane n (mark_line Snap ∷ ls) = omega (arith, length-blocks_from lane (n + 1) ls, count-cons opens_block (mark_line Snap) ls)
length-blocks_from lane n (mark_line End ∷ ls) = omega (arith, length-blocks_from lane n ls, count-cons opens_block (mark_line End) ls)
length-blocks_from lane n (mark_line Done ∷ ls) = omega (arith, length-blocks_from lane n ls, count-cons opens_block (mark_line Done) ls)
length-blocks_from lane n (named_line k name numbers ∷ ls) = omega (arith, length-blocks_from lane n ls, count-cons opens_block (named_line k name numbers) ls)

-- the blocks of all lanes, and those before the first lane, which are none of a lane
all_blocks : (n : ℕ) (ls : List Line) → length (blocks_in (lanes_from n ls)) + count_by opens_block (lines_before opens_lane ls) ≡ count_by opens_block ls
all_blocks n [] = refl
all_blocks n (head_line v ∷ ls) = omega (arith, all_blocks n ls, count-cons opens_block (head_line v) (lines_before opens_lane ls), count-cons opens_block (head_line v) ls)
all_blocks n (mark_line Lane ∷ ls) =
    let here = blocks_from n 1 (lines_before opens_lane ls) in
    omega (arith, all_blocks (n + 1) ls, length-append here (blocks_in (lanes_from (n + 1) ls)), length-blocks_from n 1 (lines_before opens_lane ls), count-cons opens_block (mark_line Lane) ls)
all_blocks n (mark_line Txn ∷ ls) = omega (arith, all_blocks n ls, count-cons opens_block (mark_line Txn) (lines_before opens_lane ls), count-cons opens_block (mark_line Txn) ls)
all_blocks n (mark_line Snap ∷ ls) = omega (arith, all_blocks n ls, count-cons opens_block (mark_line Snap) (lines_before opens_lane ls), count-cons opens_block (mark_line Snap) ls)
all_blocks n (mark_line End ∷ ls) = omega (arith, all_blocks n ls, count-cons opens_block (mark_line End) (lines_before opens_lane ls), count-cons opens_block (mark_line End) ls)
all_blocks n (mark_line Done ∷ ls) = omega (arith, all_blocks n ls, count-cons opens_block (mark_line Done) (lines_before opens_lane ls), count-cons opens_block (mark_line Done) ls)
all_blocks n (named_line k name numbers ∷ ls) = omega (arith, all_blocks n ls, count-cons opens_block (named_line k name numbers) (lines_before opens_lane ls), count-cons opens_block (named_line k name numbers) ls)

-- what stands before a lane is a part from the start
lane_prefix : (ls : List Line) → (rest : List Line) × (lines_before opens_lane ls ++ rest ≡ ls)
lane_prefix [] = ([], refl)
lane_prefix (head_line v ∷ ls) = let p = lane_prefix ls in (p.0, ap (λ t. head_line v ∷ t) p.1)
lane_prefix (mark_line Lane ∷ ls) = (mark_line Lane ∷ ls, refl)
lane_prefix (mark_line Txn ∷ ls) = let p = lane_prefix ls in (p.0, ap (λ t. mark_line Txn ∷ t) p.1)
lane_prefix (mark_line Snap ∷ ls) = let p = lane_prefix ls in (p.0, ap (λ t. mark_line Snap ∷ t) p.1)
lane_prefix (mark_line End ∷ ls) = let p = lane_prefix ls in (p.0, ap (λ t. mark_line End ∷ t) p.1)
lane_prefix (mark_line Done ∷ ls) = let p = lane_prefix ls in (p.0, ap (λ t. mark_line Done ∷ t) p.1)
lane_prefix (named_line k name numbers ∷ ls) = let p = lane_prefix ls in (p.0, ap (λ t. named_line k name numbers ∷ t) p.1)

-- ---- commands

abbrev command_of_line : Line → Option Command
command_of_line = command_in One one_table

-- how many commands stand before the next block
abbrev pub ahead : List Line → ℕ
ahead ls = length (filter_map command_of_line (lines_before opens_block ls))

-- behind each line few commands stand before the next block
abbrev pub HasSmallBlocks : List Line → Type 0
HasSmallBlocks [] = Unit {0}
HasSmallBlocks (l ∷ ls) = (ahead ls ≤ 64) × HasSmallBlocks ls

ahead-prefix : (xs ys : List Line) → ahead xs ≤ ahead (xs ++ ys)
ahead-prefix [] ys = omega arith
ahead-prefix (x ∷ xs) ys =
    let front = filter_map command_of_line (lines_before opens_block xs) in
    let whole = filter_map command_of_line (lines_before opens_block (xs ++ ys)) in
    let rest : length front ≤ length whole = ahead-prefix xs ys in
    elim (opens_block x) as (λ b. length (filter_map command_of_line (cond b [] (x ∷ lines_before opens_block xs))) ≤ length (filter_map command_of_line (cond b [] (x ∷ lines_before opens_block (xs ++ ys))))) [
      | true ↦ omega arith
      | false ↦ elim (command_of_line x) as (λ o. length (cons_option o front) ≤ length (cons_option o whole)) [
        | None ↦ rest
        | Some c ↦ omega (arith, rest)
      ]
    ]

ahead-append : (xs ys : List Line) → ahead (xs ++ ys) ≤ ahead xs + ahead ys
ahead-append [] ys = omega arith
ahead-append (x ∷ xs) ys =
    let front = filter_map command_of_line (lines_before opens_block xs) in
    let whole = filter_map command_of_line (lines_before opens_block (xs ++ ys)) in
    let rest : length whole ≤ length front + ahead ys = ahead-append xs ys in
    elim (opens_block x) as (λ b. length (filter_map command_of_line (cond b [] (x ∷ lines_before opens_block (xs ++ ys)))) ≤ length (filter_map command_of_line (cond b [] (x ∷ lines_before opens_block xs))) + ahead ys) [
      | true ↦ omega arith
      | false ↦ elim (command_of_line x) as (λ o. length (cons_option o whole) ≤ length (cons_option o front) + ahead ys) [
        | None ↦ rest
        | Some c ↦ omega (arith, rest)
      ]
    ]

pub HasSmallBlocks-prefix : (xs ys : List Line) → HasSmallBlocks (xs ++ ys) → HasSmallBlocks xs
HasSmallBlocks-prefix [] ys h = tt
HasSmallBlocks-prefix (x ∷ xs) ys h = (omega (arith, h.0, ahead-prefix xs ys), HasSmallBlocks-prefix xs ys h.1)

-- and none stand before the first
pub record IsCalm (ls : List Line) : Type 0 where
  pub small : HasSmallBlocks ls
  pub none : ahead ls ≡ 0

small_behind : (xs ys : List Line) → HasSmallBlocks xs → IsCalm ys → HasSmallBlocks (xs ++ ys)
small_behind [] ys h calm = calm.small
small_behind (x ∷ xs) ys h calm = (omega (arith, h.0, ahead-append xs ys, calm.none), small_behind xs ys h.1 calm)

pub IsCalm-append : (xs ys : List Line) → IsCalm xs → IsCalm ys → IsCalm (xs ++ ys)
IsCalm-append xs ys h k = record { small = small_behind xs ys h.small k; none = omega (arith, h.none, k.none, ahead-append xs ys) }

-- a command that adds no row and scans nothing
pub record IsQuiet (command : Command) : Type 0 where
  pub no_row : counts false command ≡ false
  pub no_limit : limit_of command ≡ 0

quiet_first : (l : Line) (more : List Command) → IsPlain l → All IsQuiet more → All IsQuiet (cons_option (command_of_line l) more)
quiet_first _ more (plain_mark mark) rest = rest
quiet_first _ more (plain_row account amount a b) rest = rest
quiet_first _ more (plain_sub account amount a b) rest = All-cons IsQuiet _ more (record { no_row = refl; no_limit = refl }) rest
quiet_first _ more (plain_add account amount a b) rest = All-cons IsQuiet _ more (record { no_row = refl; no_limit = refl }) rest

quiet_commands : (ls : List Line) → ArePlain ls → All IsQuiet (filter_map command_of_line ls)
quiet_commands [] plain = All-nil IsQuiet
quiet_commands (l ∷ ls) plain = quiet_first l (filter_map command_of_line ls) plain.0 (quiet_commands ls plain.1)

pub record IsGentle (block : Block) : Type 0 where
  pub few : length block.commands ≤ 64
  pub quiet : All IsQuiet block.commands

plain_before_block : (ls : List Line) → ArePlain ls → ArePlain (lines_before opens_block ls)
plain_before_block [] plain = tt
plain_before_block (l ∷ ls) plain =
    elim (opens_block l) as (λ b. ArePlain (cond b [] (l ∷ lines_before opens_block ls))) [ true ↦ tt | false ↦ (plain.0, plain_before_block ls plain.1) ]

gentle : (ls : List Line) (snap : Bool) (lane n : ℕ) → ArePlain ls → ahead ls ≤ 64 → IsGentle (record { snap = snap; lane = lane; number = n; commands = filter_map command_of_line (lines_before opens_block ls) })
gentle ls snap lane n plain few = record { few = few; quiet = quiet_commands (lines_before opens_block ls) (plain_before_block ls plain) }

gentle_blocks : (lane n : ℕ) (ls : List Line) → ArePlain ls → HasSmallBlocks ls → All IsGentle (blocks_from lane n ls)
gentle_blocks lane n [] plain small = All-nil IsGentle
gentle_blocks lane n (head_line v ∷ ls) plain small = gentle_blocks lane n ls plain.1 small.1
gentle_blocks lane n (mark_line Lane ∷ ls) plain small = gentle_blocks lane n ls plain.1 small.1
gentle_blocks lane n (mark_line Txn ∷ ls) plain small = All-cons IsGentle _ (blocks_from lane (n + 1) ls) (gentle ls false lane n plain.1 small.0) (gentle_blocks lane (n + 1) ls plain.1 small.1)
gentle_blocks lane n (mark_line Snap ∷ ls) plain small = All-cons IsGentle _ (blocks_from lane (n + 1) ls) (gentle ls true lane n plain.1 small.0) (gentle_blocks lane (n + 1) ls plain.1 small.1)
gentle_blocks lane n (mark_line End ∷ ls) plain small = gentle_blocks lane n ls plain.1 small.1
gentle_blocks lane n (mark_line Done ∷ ls) plain small = gentle_blocks lane n ls plain.1 small.1
gentle_blocks lane n (named_line k name numbers ∷ ls) plain small = gentle_blocks lane n ls plain.1 small.1

gentle_lanes : (n : ℕ) (ls : List Line) → ArePlain ls → HasSmallBlocks ls → All IsGentle (blocks_in (lanes_from n ls))
gentle_lanes n [] plain small = All-nil IsGentle
gentle_lanes n (head_line v ∷ ls) plain small = gentle_lanes n ls plain.1 small.1
gentle_lanes n (mark_line Lane ∷ ls) plain small =
    let here = lines_before opens_lane ls in
    let part = lane_prefix ls in
    All-append IsGentle (blocks_from n 1 here) (blocks_in (lanes_from (n + 1) ls))
    (gentle_blocks n 1 here (ArePlain-prefix here part.0 (subst ArePlain (sym part.1) plain.1)) (HasSmallBlocks-prefix here part.0 (subst HasSmallBlocks (sym part.1) small.1)))
    (gentle_lanes (n + 1) ls plain.1 small.1)
gentle_lanes n (mark_line Txn ∷ ls) plain small = gentle_lanes n ls plain.1 small.1
gentle_lanes n (mark_line Snap ∷ ls) plain small = gentle_lanes n ls plain.1 small.1
gentle_lanes n (mark_line End ∷ ls) plain small = gentle_lanes n ls plain.1 small.1
gentle_lanes n (mark_line Done ∷ ls) plain small = gentle_lanes n ls plain.1 small.1
gentle_lanes n (named_line k name numbers ∷ ls) plain small = gentle_lanes n ls plain.1 small.1

-- ---- the input gathered

abbrev pub plain_input : List Line → Input
plain_input ls = record { tables = one_table; rows = rows_of one_table ls; indexes = []; lanes = lanes_of One one_table ls }

abbrev with_tables : List (List ℕ × ℕ) → List Line → Input
with_tables more ls =
    let tables = (accounts, 1) ∷ more in
    record { tables = tables; rows = rows_of tables (table_line ∷ ls); indexes = indexes_of tables (table_line ∷ ls); lanes = lanes_of One tables (table_line ∷ ls) }

abbrev with_indexes : List (ℕ × ℕ) → List Line → Input
with_indexes indexes ls = record { tables = one_table; rows = rows_of one_table ls; indexes = indexes; lanes = lanes_of One one_table ls }

pub gathered-is : (ls : List Line) → ArePlain ls → gathered One (table_line ∷ ls) ≡ plain_input ls
gathered-is ls plain =
    ap (λ more. with_tables more ls) (filter_map-none (table_in One) no_table ls plain)
    ∙ ap (λ indexes. with_indexes indexes ls) (filter_map-none (index_in one_table) no_index ls plain)

pub length-lanes : (ls : List Line) → length (lanes_of One one_table ls) ≡ count_by opens_lane ls
length-lanes ls = length-lanes_from 1 ls

pub few_blocks : (ls : List Line) → length (blocks_in (lanes_of One one_table ls)) ≤ count_by opens_block ls
few_blocks ls = omega (arith, all_blocks 1 ls)

pub all_gentle : (ls : List Line) → ArePlain ls → HasSmallBlocks ls → All IsGentle (blocks_in (lanes_of One one_table ls))
all_gentle ls plain small = gentle_lanes 1 ls plain small
