-- What is read so far, told of the lines that lead there: the checks of one line more, as they are made over it.
use Rattle.std.proofs.Common.{◌≡◌, ℕ, ◌*◌, ◌<◌, ◌≤◌, true, false, leb, eqb, List, [], ◌∷◌, ◌++◌, length, Some, None, Result, Ok, Err, refl, sym, ap, subst, ◌∙◌, arith}
use Rattle.std.specs.Prelude.{◌&&◌, IsSome, slice_index, sum_by}
use Rattle.std.specs.List.{list_any}
use Rattle.std.proofs.lemmas.Bool.{leb-true}
use Rattle.std.proofs.lemmas.List.{append-nil}
use Rattle.replay_model.specs.Input.{IsColumn}
use Rattle.replay_model.specs.Report.{columns_of}
use Rattle.txn_script.specs.declared.fault.Kind.{Kind}
use Rattle.txn_script.specs.declared.fault.Kind.TheVariants as kinds
use Rattle.txn_script.specs.declared.keyword.Keyword.{Keyword}
use Rattle.txn_script.specs.declared.keyword.Keyword.TheVariants as words
use Rattle.txn_script.specs.declared.keyword.Version.{Version}
use Rattle.txn_script.specs.declared.place.Place.{Place}
use Rattle.txn_script.specs.declared.place.Place.TheVariants.{Declarations, InLane, InTxn, InSnap, Finished}
use Rattle.txn_script.specs.Line.{Line}
use Rattle.txn_script.specs.Places.{place_behind}
use Rattle.txn_script.specs.Gathered.{is_table, tables_of, table_number, indexes_of}
use Rattle.txn_script.specs.Grammar.{limit_of, is_column, IsKeywordKnown, IsDeclared, IsWithinLimits, ComesOnce, IsKnown, KeepsColumns, keeps_columns, Passes, checks, PassesEach, FirstFailing}
use Rattle.txn_script.specs.Reading.{number_in, Progress, IsSteady, is_found}
use Rattle.txn_script.proofs.WordLaws.{and_parts}
use Rattle.txn_script.proofs.InputKept.{Holds}
use Rattle.txn_script.proofs.KnownLaws.{number_in-known, number_in-unknown, table_number-found}
use Rattle.txn_script.proofs.ProgressLaws.{input_at, Gathers, gathered-is}

-- a lane has begun
abbrev pub begun : Place → ℕ
begun Declarations = 0
begun InLane = 1
begun InTxn = 1
begun InSnap = 1
begun Finished = 1

pub record Reads (before : List Line) (p : Progress) : Type 0 where
  pub gathers : Gathers p.version before p
  pub holds : Holds (input_at p.place p) p.block_count p.change_count
  pub steady : IsSteady p
  pub fresh : length p.lanes ≤ 64 * begun p.place
  pub limits : p.limit_sum ≡ sum_by limit_of p.commands

pub in_columns : (columns c : ℕ) → columns ≤ 6 → is_column columns c ≡ true → IsColumn c
in_columns columns c six e =
    let parts = and_parts (leb 1 c) (leb c columns) e in (leb-true 1 c parts.0, omega (arith, six, leb-true c columns parts.1))

module _ (before : List Line) (p : Progress) (r : Reads before p) where
  abbrev v : Version
  v = p.version

  -- what a line comes to, that stands at its place
  abbrev pub Taken : Line → Place → Result Progress Kind → Type 0
  Taken line next (Ok q) = PassesEach (Passes v before line) checks × Reads (before ++ line ∷ []) (record q { place = next }) × (q.version ≡ v)
  Taken line next (Err kind) = FirstFailing (Passes v before line) checks kind

  abbrev pub Stands : Line → Type 0
  Stands line = IsSome (place_behind (before ++ line ∷ []))

  pub holds_at : (place : Place) → p.place ≡ place → Holds (input_at place p) p.block_count p.change_count
  holds_at place at = subst (λ x. Holds (input_at x p) p.block_count p.change_count) at r.holds

  -- what would be gathered with the line
  abbrev pub Would : Line → Progress → Type 0
  Would line q = Gathers v (before ++ line ∷ []) q

  pub twice_is : (line : Line) (q : Progress) → Would line q → ComesOnce (input_at q.place q) → Passes v before line kinds.Twice
  twice_is line q g once = subst ComesOnce (sym (gathered-is v (before ++ line ∷ []) q g)) once

  pub twice_was : (line : Line) (q : Progress) → Would line q → Passes v before line kinds.Twice → ComesOnce (input_at q.place q)
  twice_was line q g once = subst ComesOnce (gathered-is v (before ++ line ∷ []) q g) once

  pub limit_is : (line : Line) (q : Progress) → Would line q → IsWithinLimits (input_at q.place q) → Passes v before line kinds.Limit
  limit_is line q g within = subst IsWithinLimits (sym (gathered-is v (before ++ line ∷ []) q g)) within

  pub limit_was : (line : Line) (q : Progress) → Would line q → Passes v before line kinds.Limit → IsWithinLimits (input_at q.place q)
  limit_was line q g within = subst IsWithinLimits (gathered-is v (before ++ line ∷ []) q g) within

  -- all checks pass, and what is read is kept
  pub taken : (line : Line) (q : Progress) → Stands line → IsKnown v before line → KeepsColumns v before line → Reads (before ++ line ∷ []) q → q.version ≡ v → PassesEach (Passes v before line) checks
  taken line q stands known columns reads same =
      let g = subst (λ (w : Version). Gathers w (before ++ line ∷ []) q) same reads.gathers in
      (stands, (known, (columns, (twice_is line q g reads.holds.once, (limit_is line q g reads.holds.within, tt)))))

  -- the lines before declare what the progress has
  pub declared_is : (name : List ℕ) (t : ℕ) → number_in p.tables name ≡ Some t → IsDeclared (tables_of v before) name
  declared_is name t found = subst (λ ts. IsDeclared ts name) (sym r.gathers.tables) (number_in-known p.tables name t found)

  pub undeclared_is : (name : List ℕ) → number_in p.tables name ≡ None → IsDeclared (tables_of v before) name → ⊥
  undeclared_is name none declared = number_in-unknown p.tables name none (subst (λ ts. IsDeclared ts name) r.gathers.tables declared)

  pub number_is : (name : List ℕ) (t : ℕ) → number_in p.tables name ≡ Some t → table_number (tables_of v before) name ≡ t
  number_is name t found = ap (λ ts. table_number ts name) (r.gathers.tables ∙ sym (append-nil p.tables)) ∙ table_number-found p.tables name t found []

  pub indexes_are : indexes_of (tables_of v before) before ≡ p.indexes
  indexes_are = ap (λ ts. indexes_of ts before) (r.gathers.tables ∙ sym (append-nil p.tables)) ∙ r.gathers.indexes []

  pub columns_are : (k : Keyword) (name numbers : List ℕ) (t : ℕ) → number_in p.tables name ≡ Some t → keeps_columns v (columns_of (tables_of v before) (table_number (tables_of v before) name)) k numbers ≡ keeps_columns v (columns_of p.tables t) k numbers
  columns_are k name numbers t found = λ i. keeps_columns v (columns_of (r.gathers.tables i) (number_is name t found i)) k numbers

  pub index_test : (name numbers : List ℕ) (t : ℕ) → number_in p.tables name ≡ Some t
      → list_any (λ index. eqb index.0 (table_number (tables_of v before) name) && eqb index.1 (slice_index numbers 0)) (indexes_of (tables_of v before) before) ≡ list_any (λ index. eqb index.0 t && eqb index.1 (slice_index numbers 0)) p.indexes
  index_test name numbers t found = λ i. list_any (λ index. eqb index.0 (number_is name t found i) && eqb index.1 (slice_index numbers 0)) (indexes_are i)

  pub keyword_known : (k : Keyword) (name numbers : List ℕ) (t : ℕ) → number_in p.tables name ≡ Some t → is_found p.indexes t k numbers ≡ true → IsKeywordKnown v before k name numbers
  keyword_known words.Table name numbers t found e = tt
  keyword_known words.Index name numbers t found e = declared_is name t found
  keyword_known words.Row name numbers t found e = declared_is name t found
  keyword_known words.Get name numbers t found e = declared_is name t found
  keyword_known words.Put name numbers t found e = declared_is name t found
  keyword_known words.Ins name numbers t found e = declared_is name t found
  keyword_known words.Del name numbers t found e = declared_is name t found
  keyword_known words.Add name numbers t found e = declared_is name t found
  keyword_known words.Sub name numbers t found e = declared_is name t found
  keyword_known words.Scan name numbers t found e = declared_is name t found
  keyword_known words.Find name numbers t found e = (declared_is name t found, index_test name numbers t found ∙ e)

  pub keyword_found : (k : Keyword) (name numbers : List ℕ) (t : ℕ) → number_in p.tables name ≡ Some t → IsKeywordKnown v before k name numbers → is_found p.indexes t k numbers ≡ true
  keyword_found words.Table name numbers t found known = refl
  keyword_found words.Index name numbers t found known = refl
  keyword_found words.Row name numbers t found known = refl
  keyword_found words.Get name numbers t found known = refl
  keyword_found words.Put name numbers t found known = refl
  keyword_found words.Ins name numbers t found known = refl
  keyword_found words.Del name numbers t found known = refl
  keyword_found words.Add name numbers t found known = refl
  keyword_found words.Sub name numbers t found known = refl
  keyword_found words.Scan name numbers t found known = refl
  keyword_found words.Find name numbers t found known = sym (index_test name numbers t found) ∙ known.1

  pub keyword_declared : (k : Keyword) (name numbers : List ℕ) → is_table k ≡ false → IsKeywordKnown v before k name numbers → IsDeclared (tables_of v before) name
  keyword_declared words.Table name numbers no_table known = absurd cc
  keyword_declared words.Index name numbers no_table known = known
  keyword_declared words.Row name numbers no_table known = known
  keyword_declared words.Get name numbers no_table known = known
  keyword_declared words.Put name numbers no_table known = known
  keyword_declared words.Ins name numbers no_table known = known
  keyword_declared words.Del name numbers no_table known = known
  keyword_declared words.Add name numbers no_table known = known
  keyword_declared words.Sub name numbers no_table known = known
  keyword_declared words.Scan name numbers no_table known = known
  keyword_declared words.Find name numbers no_table known = known.0

  pub six : (t : ℕ) → t < length p.tables → columns_of p.tables t ≤ 6
  six t in' = (r.steady.columns t ([], 0) in').1
