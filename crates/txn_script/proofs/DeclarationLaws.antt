-- Tables, indexes and rows: a line that is taken in fits, and of one that is refused the first check that fails is told.
use Rattle.std.proofs.Common.{◌≡◌, ◌≢◌, ℕ, ◌+◌, ◌<◌, true, false, ltb, eqb, List, [], ◌∷◌, ◌++◌, length, All, Result, Ok, refl, sym, ap, subst, ◌∙◌, arith, inl, inr}
use Rattle.std.specs.Prelude.{not, is_some, slice_index}
use Rattle.std.specs.List.{list_any}
use Rattle.std.proofs.lemmas.Bool.{ltb-true, ltb-false, eqb-true, eq-eqb}
use Rattle.std.proofs.lemmas.List.{nil_from_length}
use Rattle.std.proofs.lemmas.List.Elements.{All-push}
use Rattle.std.proofs.lemmas.List.Folds.{Any-from_list_any}
use Rattle.std.proofs.lemmas.List.Quantifiers.{all_pairs_push}
use Rattle.replay_model.specs.declared.input.Block.{Block}
use Rattle.replay_model.specs.TableMap.{Row}
use Rattle.replay_model.specs.Input.{IsColumn, IsIndex}
use Rattle.replay_model.specs.Report.{columns_of}
use Rattle.txn_script.specs.declared.fault.Kind.{Kind}
use Rattle.txn_script.specs.declared.fault.Kind.TheVariants as kinds
use Rattle.txn_script.specs.declared.keyword.Keyword.TheVariants as words
use Rattle.txn_script.specs.declared.keyword.Version.{Version}
use Rattle.txn_script.specs.declared.place.Place.TheVariants.{Declarations}
use Rattle.txn_script.specs.Line.{Line, named_line}
use Rattle.txn_script.specs.Gathered.{declared_columns, row_of}
use Rattle.txn_script.specs.Grammar.{ComesOnce, keeps_columns}
use Rattle.txn_script.specs.RowPlaces.{same_row}
use Rattle.txn_script.specs.Reading.{number_in, Progress, open_lanes, open_blocks, and_then, check, has_index, with_table, with_index, row_added, with_row}
use Rattle.txn_script.proofs.InputKept.{AllPairs-last, length_push, Holds, Once-table, Holds-table, Once-row, Holds-row, Holds-index}
use Rattle.txn_script.proofs.KnownLaws.{Differ, declared_twice, list_any-false, number_in-below, number_in-new, rows-new, rows-twice}
use Rattle.txn_script.proofs.ProgressLaws.{input_at, Gathers-table, Gathers-index, Gathers-row}
use Rattle.txn_script.proofs.CheckSteps.{checked, needed, is_some-some, is_some-none, not-true, not-false, different, row_case}
use Rattle.txn_script.proofs.ReadLines.{begun, Reads, in_columns, Taken, Stands, holds_at, Would, twice_is, twice_was, limit_was, taken, declared_is, undeclared_is, columns_are, six}

module _ (before : List Line) (p : Progress) (r : Reads before p) where
  abbrev v : Version
  v = p.version

  -- ---- declarations

  pub law-table : (name numbers : List ℕ) → Stands before p r (named_line words.Table name numbers) → p.place ≡ Declarations → IsColumn (declared_columns v numbers) → Taken before p r (named_line words.Table name numbers) Declarations (with_table p name numbers)
  unfolding with_table
  law-table name numbers stands at column =
      let line = named_line words.Table name numbers in
      let table : List ℕ × ℕ = (name, declared_columns v numbers) in
      let q : Progress = record p { tables = p.tables ++ table ∷ []; place = Declarations } in
      let T = Taken before p r line Declarations in
      let gathers : Would before p r line q = Gathers-table v before p r.gathers name numbers at in
      let rest : Result Progress Kind = Ok (record p { tables = p.tables ++ table ∷ [] }) in
      checked (not (is_some (number_in p.tables name))) kinds.Twice (check (ltb (length p.tables) 8) kinds.Limit rest) T
      (λ f.
      let found = is_some-some (number_in p.tables name) (not-false (is_some (number_in p.tables name)) f) in
      inr (stands, inr (tt, inr (refl, inl ((λ once. declared_twice p.tables name found.0 found.1 (AllPairs-last (λ a b. a.0 ≢ b.0) p.tables table (twice_was before p r line q gathers once).tables)), refl)))))
      (λ t.
      let new = number_in-new p.tables name (is_some-none (number_in p.tables name) (not-true (is_some (number_in p.tables name)) t)) in
      let once = Once-table (input_at Declarations p) table (holds_at before p r Declarations at).once new in
      checked (ltb (length p.tables) 8) kinds.Limit rest T
      (λ f. inr (stands, inr (tt, inr (refl, inr (twice_is before p r line q gathers once, inl ((λ within. omega (arith, (limit_was before p r line q gathers within).tables, length_push p.tables table, ltb-false (length p.tables) 8 f)), refl))))))
      (λ room.
      let few : length p.tables < 8 = ltb-true (length p.tables) 8 room in
      let reads : Reads (before ++ line ∷ []) q = record {
        gathers = gathers;
        holds = Holds-table (input_at Declarations p) p.block_count p.change_count table (holds_at before p r Declarations at) once column few;
        steady = record {
          tables = omega (arith, length_push p.tables table);
          columns = All-push (λ (x : List ℕ × ℕ). IsColumn x.1) p.tables table r.steady.columns column;
          index_columns = r.steady.index_columns;
          lanes = omega (arith, r.steady.lanes, ap open_lanes at);
          commands = omega (arith, r.steady.commands, ap open_blocks at);
          limits = omega (arith, r.steady.limits, ap open_blocks at);
          blocks = omega (arith, r.steady.blocks, ap open_blocks at);
          idle = omega (arith, r.steady.idle, ap open_lanes at);
          block_count = r.steady.block_count;
          rows_and_changes = r.steady.rows_and_changes;
        };
        fresh = omega (arith, r.fresh, ap begun at);
        limits = r.limits;
      } in
      (taken before p r line q stands tt refl reads refl, reads, refl)))

  no_lanes : p.place ≡ Declarations → p.lanes ≡ []
  no_lanes at = nil_from_length p.lanes (omega (arith, r.fresh, ap begun at))

  pub law-index : (name numbers : List ℕ) → Stands before p r (named_line words.Index name numbers) → p.place ≡ Declarations → Taken before p r (named_line words.Index name numbers) Declarations (with_index p name numbers)
  unfolding with_index
  law-index name numbers stands at =
      let line = named_line words.Index name numbers in
      let T = Taken before p r line Declarations in
      let c = slice_index numbers 0 in
      let rest : ℕ → Result Progress Kind = λ t. Ok (record p { indexes = p.indexes ++ (t, c) ∷ [] }) in
      needed (number_in p.tables name) kinds.Unknown (λ t. check (keeps_columns v (columns_of p.tables t) words.Index numbers) kinds.Columns (check (not (has_index p.indexes t)) kinds.Twice (rest t))) T
      (λ none. inr (stands, inl (undeclared_is before p r name none, refl)))
      (λ t found.
      let known = declared_is before p r name t found in
      let columns = columns_are before p r words.Index name numbers t found in
      let in' = number_in-below p.tables name t found in
      let q : Progress = record p { indexes = p.indexes ++ (t, c) ∷ []; place = Declarations } in
      let gathers : Would before p r line q = Gathers-index v before p r.gathers name numbers t at found in
      checked (keeps_columns v (columns_of p.tables t) words.Index numbers) kinds.Columns (check (not (has_index p.indexes t)) kinds.Twice (rest t)) T
      (λ f. inr (stands, inr (known, inl ((λ kept. different _ kept (columns ∙ f)), refl))))
      (λ kept.
      let column = in_columns (columns_of p.tables t) c (six before p r t in') kept in
      checked (not (has_index p.indexes t)) kinds.Twice (rest t) T
      (λ f. inr (stands, inr (known, inr (columns ∙ kept, inl ((λ once. index_twice t (not-false (has_index p.indexes t) f) (AllPairs-last (λ a b. a.0 ≢ b.0) p.indexes (t, c) (twice_was before p r line q gathers once).indexes)), refl)))))
      (λ new.
      let once : ComesOnce (input_at Declarations q) = record {
        tables = (holds_at before p r Declarations at).once.tables;
        indexes = all_pairs_push (λ (a b : ℕ × ℕ). a.0 ≢ b.0) p.indexes (t, c) (holds_at before p r Declarations at).once.indexes (index_new t (not-true (has_index p.indexes t) new));
        rows = (holds_at before p r Declarations at).once.rows;
      } in
      let none = no_lanes at in
      let is : IsIndex (length p.tables) (t, c) = record { known = in'; low = omega (arith, in', r.steady.tables); column = column } in
      let empty = subst (λ (ls : List (List Block)). Holds (record (input_at Declarations p) { lanes = ls }) p.block_count p.change_count) none (holds_at before p r Declarations at) in
      let once_empty = subst (λ (ls : List (List Block)). ComesOnce (record (input_at Declarations q) { lanes = ls })) none once in
      let reads : Reads (before ++ line ∷ []) q = record {
        gathers = gathers;
        holds = subst (λ (ls : List (List Block)). Holds (record (input_at Declarations q) { lanes = ls }) p.block_count p.change_count) (sym none) (Holds-index p.tables p.rows p.indexes p.block_count p.change_count (t, c) empty once_empty is);
        steady = record {
          tables = r.steady.tables;
          columns = r.steady.columns;
          index_columns = All-push (λ (x : ℕ × ℕ). IsColumn x.1) p.indexes (t, c) r.steady.index_columns column;
          lanes = omega (arith, r.steady.lanes, ap open_lanes at);
          commands = omega (arith, r.steady.commands, ap open_blocks at);
          limits = omega (arith, r.steady.limits, ap open_blocks at);
          blocks = omega (arith, r.steady.blocks, ap open_blocks at);
          idle = omega (arith, r.steady.idle, ap open_lanes at);
          block_count = r.steady.block_count;
          rows_and_changes = r.steady.rows_and_changes;
        };
        fresh = omega (arith, r.fresh, ap begun at);
        limits = r.limits;
      } in
      (taken before p r line q stands known (columns ∙ kept) reads refl, reads, refl))))
    where
      index_twice : (t : ℕ) → has_index p.indexes t ≡ true → All (λ x. x.0 ≢ t) p.indexes → ⊥
      index_twice t e all =
          let found = Any-from_list_any (λ (index : ℕ × ℕ). eqb index.0 t) p.indexes e in
          all found.0 found.1 found.2 (ap (λ (x : ℕ × ℕ). x.0) found.3 ∙ eqb-true _ _ found.4)

      index_new : (t : ℕ) → has_index p.indexes t ≡ false → All (λ x. x.0 ≢ t) p.indexes
      index_new t e k d lt same = different _ (eq-eqb _ _ same) (list_any-false (λ (index : ℕ × ℕ). eqb index.0 t) p.indexes e k d lt)

  pub law-row : (name numbers : List ℕ) → Stands before p r (named_line words.Row name numbers) → p.place ≡ Declarations → Taken before p r (named_line words.Row name numbers) Declarations (with_row p name numbers)
  unfolding with_row
  law-row name numbers stands at =
      let line = named_line words.Row name numbers in
      let T = Taken before p r line Declarations in
      let key = slice_index numbers 0 in
      let full = ltb (length p.rows + p.change_count) 16384 in
      let rest : List (ℕ × ℕ × Row) → Result Progress Kind = λ longer. check full kinds.Limit (Ok (record p { rows = longer })) in
      needed (number_in p.tables name) kinds.Unknown (λ t. check (keeps_columns v (columns_of p.tables t) words.Row numbers) kinds.Columns (and_then (row_added p.rows t key (row_of numbers)) rest)) T
      (λ none. inr (stands, inl (undeclared_is before p r name none, refl)))
      (λ t found.
      let known = declared_is before p r name t found in
      let columns = columns_are before p r words.Row name numbers t found in
      let row : ℕ × ℕ × Row = (t, key, row_of numbers) in
      let q : Progress = record p { rows = p.rows ++ row ∷ []; place = Declarations } in
      let gathers : Would before p r line q = Gathers-row v before p r.gathers name numbers t at found in
      checked (keeps_columns v (columns_of p.tables t) words.Row numbers) kinds.Columns (and_then (row_added p.rows t key (row_of numbers)) rest) T
      (λ f. inr (stands, inr (known, inl ((λ kept. different _ kept (columns ∙ f)), refl))))
      (λ kept.
      row_case (list_any (same_row t key) p.rows) (p.rows ++ row ∷ []) rest T
      (λ twice. inr (stands, inr (known, inr (columns ∙ kept, inl ((λ once. rows-twice p.rows t key (row_of numbers) twice (AllPairs-last Differ p.rows row (twice_was before p r line q gathers once).rows)), refl)))))
      (λ new.
      let once = Once-row (input_at Declarations p) row (holds_at before p r Declarations at).once (rows-new p.rows t key (row_of numbers) new) in
      checked full kinds.Limit (Ok (record p { rows = p.rows ++ row ∷ [] })) T
      (λ f. inr (stands, inr (known, inr (columns ∙ kept, inr (twice_is before p r line q gathers once, inl ((λ within. omega (arith, (limit_was before p r line q gathers within).rows_and_changes, length_push p.rows row, ltb-false (length p.rows + p.change_count) 16384 f, (holds_at before p r Declarations at).changes)), refl))))))
      (λ room.
      let few : length p.rows + p.change_count < 16384 = ltb-true (length p.rows + p.change_count) 16384 room in
      let reads : Reads (before ++ line ∷ []) q = record {
        gathers = gathers;
        holds = Holds-row (input_at Declarations p) p.block_count p.change_count row (holds_at before p r Declarations at) once (number_in-below p.tables name t found) few;
        steady = record {
          tables = r.steady.tables;
          columns = r.steady.columns;
          index_columns = r.steady.index_columns;
          lanes = omega (arith, r.steady.lanes, ap open_lanes at);
          commands = omega (arith, r.steady.commands, ap open_blocks at);
          limits = omega (arith, r.steady.limits, ap open_blocks at);
          blocks = omega (arith, r.steady.blocks, ap open_blocks at);
          idle = omega (arith, r.steady.idle, ap open_lanes at);
          block_count = r.steady.block_count;
          rows_and_changes = omega (arith, length_push p.rows row);
        };
        fresh = omega (arith, r.fresh, ap begun at);
        limits = r.limits;
      } in
      (taken before p r line q stands known (columns ∙ kept) reads refl, reads, refl)))))
