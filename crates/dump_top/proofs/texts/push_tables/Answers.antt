use Rattle.std.proofs.Common.{◌≡◌, ◌<◌, ◌+◌, ◌++◌, ℕ, List, length, take, get_or, Some, [], ap, sym, ◌∙◌, arith}
use Rattle.std.specs.Prelude.{option_map}
use Rattle.std.specs.List.{slice_get}
use Rattle.std.proofs.lemmas.List.{append_assoc, take_more, length-take}
use Rattle.std.proofs.lemmas.Option.{slice_get-get_or}
use Rattle.replay_model.specs.TableMap.{TableMap, pairs_of}
use Rattle.replay_model.specs.Report.{table_text, tables_text, columns_of}
use Rattle.replay_model.proofs.ReplayLaws.{tables_text-push}
use Rattle.snap_dump.specs.Dumps.{seen_of}
use Rattle.dump_top.proofs.RowTexts.{pairs_in-order}
use Rattle.dump_top.proofs.texts.push_tables.Goals as goal

same_name : (table : List ℕ × ℕ) (name : List ℕ) → option_map {U = List ℕ} (λ (t : List ℕ × ℕ). t.0) (Some table) ≡ Some name → table.0 ≡ name
same_name table name e = cc

-- one table more
lines_more : (declared : List (List ℕ × ℕ)) (i : ℕ) (name : List ℕ) (tables : TableMap) → i < length declared → option_map (λ (t : List ℕ × ℕ). t.0) (slice_get declared i) ≡ Some name
    → tables_text 0 (take (i + 1) declared) tables ≡ tables_text 0 (take i declared) tables ++ table_text name (columns_of declared i) (pairs_of i tables)
lines_more declared i name tables within e =
    let table : List ℕ × ℕ = get_or declared i ([], 0) in
    let named = same_name table name (ap (option_map (λ (t : List ℕ × ℕ). t.0)) (sym (slice_get-get_or declared i ([], 0) within)) ∙ e) in
    let count : 0 + length (take i declared) ≡ i = omega (arith, length-take i declared, within) in
    ap (λ (ds : List (List ℕ × ℕ)). tables_text 0 ds tables) (take_more declared i ([], 0) within)
    ∙ tables_text-push 0 (take i declared) table tables
    ∙ (λ j. tables_text 0 (take i declared) tables ++ table_text (named j) table.1 (pairs_of (count j) tables))

pub loop-i-preserved : goal.loop-i-preserved
loop-i-preserved c =
    let declared = c.args.declared.now in
    let i = c.loop-i.i in
    let name = c.get.result.now in
    let tables = (seen_of c.args.dump.now).1 in
    let pairs = c.in_ok-pairs.ensures ∙ pairs_in-order i c.args.dump.now.rows c.args.dump.now.in_order in
    let table = c.as_slice.ensures.value ∙ c.in_ok-table.ensures ∙ (λ j. table_text name (c.columns.ensures j) ((c.deref.ensures.value ∙ pairs) j)) in
    c.in_ok-extend_from_slice.ensures.items ∙ (λ j. c.loop-i.invariant j ++ table j)
    ∙ append_assoc c.args.text.now.items (tables_text 0 (take i declared) tables) (table_text name (columns_of declared i) (pairs_of i tables))
    ∙ ap (λ text. c.args.text.now.items ++ text) (sym (lines_more declared i name tables (omega arith) c.get.ensures))
