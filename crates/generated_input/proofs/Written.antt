-- The generated text, written in lines of the grammar.
use Rattle.std.proofs.Common.{◌≡◌, ℕ, zero, suc, ◌+◌, List, [], ◌∷◌, ◌++◌, length, map, refl, sym, ap, ◌∙◌, append_assoc, arith}
use Rattle.std.specs.Prelude.{codes, decimal, flat_map}
use Rattle.std.proofs.lemmas.List.{append-nil, map-append, length-map}
use Rattle.std.proofs.lemmas.List.Folds.{flat_map-map}
use Rattle.replay_model.specs.Report.{line}
use Rattle.load_gen.specs.declared.generator.Transfer.{Transfer}
use Rattle.load_gen.specs.Generator.{transfer_at}
use Rattle.load_gen.specs.Load as load
use Rattle.txn_script.specs.declared.keyword.Keyword.{Keyword}
use Rattle.txn_script.specs.declared.keyword.Keyword.TheVariants.{Table, Row, Add, Sub}
use Rattle.txn_script.specs.declared.keyword.Mark.TheVariants.{Lane, Txn, End, Done}
use Rattle.txn_script.specs.declared.keyword.Version.TheVariants.{One}
use Rattle.txn_script.specs.Line.{Line, head_line, mark_line, named_line, keyword_text, text, spelled}

abbrev pub accounts : List ℕ
accounts = codes "accounts"

-- the line that declares the table
abbrev pub table_line : Line
table_line = named_line Table accounts []

-- a keyword, an account and an amount
abbrev pub change : Keyword → ℕ → ℕ → Line
change keyword account amount = named_line keyword accounts (account ∷ amount ∷ [])

abbrev pub transfer : Transfer → List Line
transfer t = mark_line Txn ∷ change Sub t.from t.amount ∷ change Add t.to t.amount ∷ mark_line End ∷ []

unfoldable pub account_rows : ℕ → List Line
account_rows zero = []
account_rows (suc n) = account_rows n ++ change Row (n + 1) 1000000 ∷ []

unfoldable pub blocks : ℕ → ℕ → List Line
blocks zero state = []
blocks (suc n) state = blocks n state ++ transfer (transfer_at (load.behind_transfers n state))

unfoldable pub lanes : ℕ → ℕ → ℕ → List Line
lanes count zero state = []
lanes count (suc n) state = lanes count n state ++ mark_line Lane ∷ blocks count (load.behind_lanes count n state)

-- what stands behind the line of the table
unfoldable pub behind_table : ℕ → List Line
behind_table seed = (account_rows 64 ++ lanes 500 8 seed) ++ mark_line Done ∷ []

-- ---- the text is the generator's

change-text : (keyword : Keyword) (account amount : ℕ) → text (change keyword account amount) ≡ load.change_line (keyword_text keyword) account amount
change-text keyword account amount =
    let start = keyword_text keyword in
    let first = decimal account in
    let second = decimal amount in
    sym
    (append_assoc ((start ++ codes " accounts ") ++ first) (codes " ") second ∙ append_assoc (start ++ codes " accounts ") first (32 ∷ second)
    ∙ append_assoc start (codes " accounts ") (first ++ 32 ∷ second))

transfer-text : (t : Transfer) → map text (transfer t) ≡ load.transfer_lines t
transfer-text t =
    ap (λ l. codes "txn" ∷ l ∷ text (change Add t.to t.amount) ∷ codes "end" ∷ []) (change-text Sub t.from t.amount)
    ∙ ap (λ l. codes "txn" ∷ load.change_line (codes "sub") t.from t.amount ∷ l ∷ codes "end" ∷ []) (change-text Add t.to t.amount)

account_rows-text : (n : ℕ) → map text (account_rows n) ≡ load.account_lines n
unfolding account_rows load.account_lines
account_rows-text zero = refl
account_rows-text (suc n) =
    map-append text (account_rows n) (change Row (n + 1) 1000000 ∷ []) ∙ ap (λ ls. ls ++ text (change Row (n + 1) 1000000) ∷ []) (account_rows-text n)
    ∙ ap (λ l. load.account_lines n ++ l ∷ []) (change-text Row (n + 1) 1000000)

blocks-text : (n state : ℕ) → map text (blocks n state) ≡ load.blocks_lines n state
unfolding blocks load.blocks_lines
blocks-text zero state = refl
blocks-text (suc n) state =
    let t = transfer_at (load.behind_transfers n state) in
    map-append text (blocks n state) (transfer t) ∙ ap (λ ls. ls ++ map text (transfer t)) (blocks-text n state)
    ∙ ap (λ ls. load.blocks_lines n state ++ ls) (transfer-text t)

lanes-text : (count n state : ℕ) → map text (lanes count n state) ≡ load.lanes_lines count n state
unfolding lanes load.lanes_lines
lanes-text count zero state = refl
lanes-text count (suc n) state =
    let here = load.behind_lanes count n state in
    map-append text (lanes count n state) (mark_line Lane ∷ blocks count here) ∙ ap (λ ls. ls ++ codes "lane" ∷ map text (blocks count here)) (lanes-text count n state)
    ∙ ap (λ ls. load.lanes_lines count n state ++ codes "lane" ∷ ls) (blocks-text count here)

pub lines-are : (seed : ℕ) → load.lines seed ≡ codes "cicada 1" ∷ map text (table_line ∷ behind_table seed)
unfolding behind_table load.lines
lines-are seed =
    let rows = account_rows 64 in
    let rest = lanes 500 8 seed in
    let last = mark_line Done ∷ [] in
    sym
    (ap (λ ls. codes "cicada 1" ∷ codes "table accounts" ∷ ls)
    (map-append text (rows ++ rest) last ∙ ap (λ ls. ls ++ codes "done" ∷ []) (map-append text rows rest)
    ∙ ap (λ ls. (ls ++ map text rest) ++ codes "done" ∷ []) (account_rows-text 64) ∙ ap (λ ls. (load.account_lines 64 ++ ls) ++ codes "done" ∷ []) (lanes-text 500 8 seed)))

-- the bytes are the head and these lines
pub spelled-is : (seed : ℕ) → load.spelled (load.lines seed) ≡ text (head_line One) ++ 10 ∷ (spelled (table_line ∷ behind_table seed) ++ [])
unfolding load.spelled
spelled-is seed =
    let ls = table_line ∷ behind_table seed in
    ap (flat_map line) (lines-are seed) ∙ ap (λ bytes. line (codes "cicada 1") ++ bytes) (flat_map-map line text ls)
    ∙ ap (λ bytes. text (head_line One) ++ 10 ∷ bytes) (sym (append-nil (spelled ls)))

-- so many lines
pub length-behind_table : (seed : ℕ) → length (load.lines seed) ≡ 16075 → length (behind_table seed) ≡ 16073
length-behind_table seed counted = omega (arith, counted, ap length (lines-are seed), length-map (behind_table seed) text)
