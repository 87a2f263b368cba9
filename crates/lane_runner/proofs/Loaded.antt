-- Rows and indexes loaded, one behind the other.
use Rattle.std.proofs.Common.{◌≡◌, ◌≢◌, ◌⊎◌, ℕ, ◌+◌, ◌*◌, ◌<◌, ◌≤◌, Bool, false, cond, ◌==◌, ◌&&◌, List, [], ◌∷◌, ◌++◌, map, take, length, get_or, None, Some, refl, sym, ap, subst, ◌∙◌, arith, inl, inr, All, AllPairs}
use Rattle.std.specs.declared.cmp.Ordering.{Ordering}
use Rattle.std.specs.Ordering.{nat_cmp, eq_by_cmp}
use Rattle.std.specs.Cmp.{nat_cmp_total}
use Rattle.std.specs.FinMap.{find, insert, from_entries, from_entries_push, get-empty, get-from_entries, nat_cmp-IsAntisymmetric}
use Rattle.std.proofs.lemmas.Bool.Decides.{nat_tests, eqb_tells}
use Rattle.std.proofs.lemmas.List.{map_push, take_more, length-take, get_or-take, get_or_default}
use Rattle.std.proofs.lemmas.List.Elements.{All-nil, All-head, All-tail, All-map, All-push}
use Rattle.std.proofs.lemmas.List.Sums.{sum_by_push}
use Rattle.plain_data.specs.declared.entry.Entry.{Entry}
use Rattle.plain_data.specs.State.{IsEntry, Fits, empty_state}
use Rattle.core_rule.specs.Views.{Among}
use Rattle.histories.specs.History.{Lawful, ReadsObey}
use Rattle.histories.specs.Laws.{WriteBeforeIsLawful}
use Rattle.histories.proofs.Lists.{Contains-nil}
use Rattle.history_replay.specs.Results.{StandsForSome}
use Rattle.record_store.specs.Limits.{record_limit}
use Rattle.replay_model.specs.declared.command.Command.{Command}
use Rattle.replay_model.specs.declared.command.Command.TheVariants.{Put}
use Rattle.replay_model.specs.declared.input.Input.{Input}
use Rattle.replay_model.specs.Input.{AreCommands, NamesColumn, RowsDiffer}
use Rattle.replay_model.specs.Report.{table_named}
use Rattle.replay_model.specs.TableMap.{TableMap, RowMap, NumberMap, Row, pair_cmp, entry_of, loaded, value_at, with_value, index_of}
use Rattle.stored_tables.specs.Answers.{IsShort}
use Rattle.stored_tables.specs.Declare.{IsEmpty, HasRows, with_index}
use Rattle.stored_tables.specs.Laws.{no_places, EmptyStands, FitsMore}
use Rattle.stored_tables.specs.Packed.{IsPacked, RowsPack, pairs_in, entries_in}
use Rattle.stored_tables.specs.Places.{Places, with_head}
use Rattle.stored_tables.specs.Weight.{weight, row_adds, adds, all_add}
use Rattle.stored_tables.proofs.Maps.{pair_cmp_total, pair_cmp-IsAntisymmetric, pair_ties}
use Rattle.txn_engine.specs.Pass.{PassView}
use Rattle.lane_runner.specs.Rows.{stands}
use Rattle.lane_runner.specs.Adds.{Adds}
use Rattle.lane_runner.specs.Lanes.{AddsSome}
use Rattle.lane_runner.specs.Holding.{Holds, LeavesAt, LeavesWithin, LeavesAfter, HasRecords}
use Rattle.lane_runner.specs.Loading.{row_more, FindRecords, IsBlank, HasLoaded, LacksRows, Loads}
use Rattle.lane_runner.specs.Weighs.{RunsTo}
use Rattle.lane_runner.proofs.Adding.{Adds-none, Adds-trans}
use Rattle.lane_runner.proofs.Within.{within_weaker, within_then}

-- ---- finite maps

find_none : {K X : Type 0} (R : K → K → Ordering) (k : K) (es : List (K × X)) → All (λ (e : K × X). eq_by_cmp R k e.0 ≡ false) es → find R k es ≡ None
find_none R k [] apart = refl
find_none {K} {X} R k (e ∷ es) apart =
    ap (λ (b : Bool). cond b (Some e.1) (find R k es)) (All-head (λ (e : K × X). eq_by_cmp R k e.0 ≡ false) e es apart)
    ∙ find_none R k es (All-tail (λ (e : K × X). eq_by_cmp R k e.0 ≡ false) e es apart)

apart_numbers : (x y : ℕ) → (x ≡ y → ⊥) → eq_by_cmp nat_cmp x y ≡ false
apart_numbers x y differ = grind (arith, nat_tests)

apart_tests : (x y : ℕ × ℕ) → ((x.0 ≡ y.0) × (x.1 ≡ y.1) → ⊥) → (x.0 == y.0 && x.1 == y.1) ≡ false
apart_tests x y differ = elim (eqb_tells x.0 y.0) as (λ _. (x.0 == y.0 && x.1 == y.1) ≡ false) [
  | inr first ↦ ap (λ (b : Bool). b && x.1 == y.1) first.0
  | inl first ↦ elim (eqb_tells x.1 y.1) as (λ _. (x.0 == y.0 && x.1 == y.1) ≡ false) [
    | inr second ↦ ap (λ (b : Bool). b && x.1 == y.1) first.0 ∙ second.0
    | inl second ↦ absurd (differ (first.1, second.1))
  ]
]

apart_pairs : (x y : ℕ × ℕ) → ((x.0 ≡ y.0) × (x.1 ≡ y.1) → ⊥) → eq_by_cmp pair_cmp x y ≡ false
apart_pairs x y differ = pair_ties x y ∙ apart_tests x y differ

-- ---- one more row

rows_apart : (rows : List (ℕ × ℕ × Row)) (i : ℕ) (d : ℕ × ℕ × Row) → RowsDiffer rows → i < length rows
    → All (λ (e : (ℕ × ℕ) × Row). eq_by_cmp pair_cmp ((get_or rows i d).0, (get_or rows i d).1) e.0 ≡ false) (map entry_of (take i rows))
rows_apart rows i d differ within =
    let row : ℕ × ℕ × Row = get_or rows i d in
    All-map (λ (e : (ℕ × ℕ) × Row). eq_by_cmp pair_cmp (row.0, row.1) e.0 ≡ false) entry_of (take i rows) (λ j e lt.
    let below : j < i = omega (arith, length-take i rows) in
    let at_j = get_or-take i rows j e below in
    let at_i = get_or_default rows i d e within in
    apart_pairs (row.0, row.1) (entry_of (get_or (take i rows) j e)).0 (λ same. differ j i e below within (
      ap (λ (r : ℕ × ℕ × Row). r.0) (sym at_j) ∙ sym same.0 ∙ ap (λ (r : ℕ × ℕ × Row). r.0) at_i,
      ap (λ (r : ℕ × ℕ × Row). r.1) (sym at_j) ∙ sym same.1 ∙ ap (λ (r : ℕ × ℕ × Row). r.1) at_i,
    )))

pub row_loaded : (rows : List (ℕ × ℕ × Row)) (indexes : List (ℕ × ℕ)) (i : ℕ) (row : ℕ × ℕ × Row) → RowsDiffer rows → row ≡ get_or rows i row → i < length rows
    → with_value (loaded (take i rows) indexes) row.0 row.1 row.2 ≡ loaded (take (i + 1) rows) indexes
row_loaded rows indexes i row differ is within =
    let next : ℕ × ℕ × Row = get_or rows i row in
    let pushed = from_entries_push pair_cmp_total pair_cmp-IsAntisymmetric (map entry_of (take i rows)) (next.0, next.1) next.2 (find_none pair_cmp (next.0, next.1) (map entry_of (take i rows)) (rows_apart rows i row differ within)) in
    let whole : from_entries {R = pair_cmp} (map entry_of (take (i + 1) rows)) ≡ insert (from_entries (map entry_of (take i rows))) (next.0, next.1) next.2 =
    ap (λ (rs : List (ℕ × ℕ × Row)). from_entries {R = pair_cmp} (map entry_of rs)) (take_more rows i row within) ∙ ap (from_entries {R = pair_cmp}) (map_push entry_of (take i rows) next) ∙ pushed in
    ap (λ (r : ℕ × ℕ × Row). with_value (loaded (take i rows) indexes) r.0 r.1 r.2) is ∙ ap (λ (m : RowMap). record { rows = m; indexes = from_entries indexes }) (sym whole)

-- it was not there
pub absent_row : (rows : List (ℕ × ℕ × Row)) (indexes : List (ℕ × ℕ)) (i : ℕ) (row : ℕ × ℕ × Row) → RowsDiffer rows → row ≡ get_or rows i row → i < length rows → value_at (loaded (take i rows) indexes) row.0 row.1 ≡ None
absent_row rows indexes i row differ is within =
    let next : ℕ × ℕ × Row = get_or rows i row in
    ap (λ (r : ℕ × ℕ × Row). value_at (loaded (take i rows) indexes) r.0 r.1) is
    ∙ get-from_entries pair_cmp_total (map entry_of (take i rows)) (next.0, next.1)
    ∙ find_none pair_cmp (next.0, next.1) (map entry_of (take i rows)) (rows_apart rows i row differ within)

-- ---- how tightly the tables lie

few_more : (n rows : ℕ) → n ≤ rows → n ≤ rows + 1
few_more n rows few = omega arith

few_twice : (n rows : ℕ) → n ≤ 2 * rows → n ≤ 2 * (rows + 1)
few_twice n rows few = omega arith

one_more : (places : Places) (rows : ℕ) → IsPacked places rows → IsPacked places (rows + 1)
one_more places rows packed = record { chains = packed.chains; trees = packed.trees; pairs = few_more (pairs_in places) rows packed.pairs; entries = few_twice (entries_in places) rows packed.entries }

packed_row : RowsPack → (tables : TableMap) (table key : ℕ) (row : Row) (rows : ℕ) → value_at tables table key ≡ None → (places after : Places) → RunsTo (Put table key row ∷ []) tables places after → IsPacked places rows → IsPacked after (rows + 1)
packed_row pack tables table key row rows none places after (inl follows) packed = pack.row tables table key row places after follows.0 rows none follows.1 packed
packed_row pack tables table key row rows none places after (inr same) packed = subst (λ (now : Places). IsPacked now (rows + 1)) (sym same) (one_more places rows packed)

pub packed_head : RowsPack → (table column rows : ℕ) (places after : Places) → after ≡ with_head places table column → IsPacked places rows → IsPacked after rows
packed_head pack table column rows places after same packed = subst (λ (now : Places). IsPacked now rows) (sym same) (pack.head places table column rows packed)

-- so they are within a weight
packed_within : RowsPack → (records : ℕ) (log : List Entry) (tables : TableMap) (rows : ℕ) → LeavesAt records log tables (λ places. IsPacked places rows) → LeavesWithin records log tables (2 * rows)
packed_within pack records log tables rows = within_weaker records log tables (λ places. IsPacked places rows) (λ places. weight places ≤ 2 * rows) (λ places packed. pack.weighs places rows packed)

-- ---- room for the next row

room_more : (fixed' fixed records' records most more : ℕ) → fixed' ≡ fixed → records' ≡ records → fixed + (most + more) ≤ records → fixed' + (most + more) ≤ records'
room_more fixed' fixed records' records most more same_fixed same_records room = omega arith

-- it finds room
pub room_row : (first p : PassView) (rows : List (ℕ × ℕ × Row)) (indexes : List (ℕ × ℕ)) (i : ℕ) (row : ℕ × ℕ × Row) (fixed records : ℕ) → row ≡ get_or rows i row → i < length rows → p.fixed ≡ fixed → p.shared.size.records ≡ records → FindRecords rows indexes fixed records
    → RowsPack → HasLoaded (loaded (take i rows) indexes) i first p → HasRecords p (row_more row.0)
room_row first p rows indexes i row fixed records is within same_fixed same_records room pack so_far = record {
  tables = loaded (take i rows) indexes;
  most = 2 * i;
  leaves = packed_within pack p.shared.size.records p.log (loaded (take i rows) indexes) i so_far.leaves;
  room = room_more p.fixed fixed p.shared.size.records records (2 * i) (row_more row.0 (loaded (take i rows) indexes)) same_fixed same_records
      (subst (λ (r : ℕ × ℕ × Row). fixed + (2 * i + row_adds (index_of r.0 (loaded [] indexes))) ≤ records) (sym is) (room i row within));
}

-- ---- one more index

indexes_apart : (indexes : List (ℕ × ℕ)) (i : ℕ) (d : ℕ × ℕ) → AllPairs (λ (a b : ℕ × ℕ). a.0 ≢ b.0) indexes → i < length indexes
    → All (λ (e : ℕ × ℕ). eq_by_cmp nat_cmp (get_or indexes i d).0 e.0 ≡ false) (take i indexes)
indexes_apart indexes i d differ within = λ j e lt.
    let below : j < i = omega (arith, length-take i indexes) in
    let at_j = get_or-take i indexes j e below in
    let at_i = get_or_default indexes i d e within in
    apart_numbers (get_or indexes i d).0 (get_or (take i indexes) j e).0 (λ same. differ j i e below within (ap (λ (x : ℕ × ℕ). x.0) (sym at_j) ∙ sym same ∙ ap (λ (x : ℕ × ℕ). x.0) at_i))

pub index_loaded : (indexes : List (ℕ × ℕ)) (i : ℕ) (d : ℕ × ℕ) → AllPairs (λ (a b : ℕ × ℕ). a.0 ≢ b.0) indexes → i < length indexes
    → with_index (loaded [] (take i indexes)) (get_or indexes i d).0 (get_or indexes i d).1 ≡ loaded [] (take (i + 1) indexes)
index_loaded indexes i d differ within =
    let index : ℕ × ℕ = get_or indexes i d in
    let pushed = from_entries_push nat_cmp_total nat_cmp-IsAntisymmetric (take i indexes) index.0 index.1 (find_none nat_cmp index.0 (take i indexes) (indexes_apart indexes i d differ within)) in
    let whole : from_entries {R = nat_cmp} (take (i + 1) indexes) ≡ insert (from_entries (take i indexes)) index.0 index.1 = ap (from_entries {R = nat_cmp}) (take_more indexes i d within) ∙ pushed in
    ap (λ (m : NumberMap). record { rows = from_entries []; indexes = m }) (sym whole)

nothing_before : (n : ℕ) → 0 + n ≡ n
nothing_before n = omega arith

-- a table with neither a row nor an index is not told to have one
pub nothing_there : (table : ℕ) (tables : TableMap) → IsEmpty table tables → index_of table tables ≡ None → HasRows table tables ⊎ ((other : ℕ) × (index_of table tables ≡ Some other)) → ⊥
nothing_there table tables empty none (inl rows) = let bad : None ≡ Some rows.1 = sym (empty rows.0) ∙ rows.2 in cc
nothing_there table tables empty none (inr index) = let bad : None ≡ Some index.0 = sym none ∙ index.1 in cc

-- its table has neither a row nor an index yet
pub lacks_rows : (first p : PassView) (indexes : List (ℕ × ℕ)) (i : ℕ) (d : ℕ × ℕ) → AllPairs (λ (a b : ℕ × ℕ). a.0 ≢ b.0) indexes → i < length indexes
    → HasLoaded (loaded [] (take i indexes)) 0 first p → LacksRows (get_or indexes i d).0 p
lacks_rows first p indexes i d differ within so_far = record {
  holds = so_far.holds;
  tables = loaded [] (take i indexes);
  rows = 0;
  leaves = so_far.leaves;
  empty = λ key. get-empty pair_cmp ((get_or indexes i d).0, key);
  no_index = get-from_entries nat_cmp_total (take i indexes) (get_or indexes i d).0 ∙ find_none nat_cmp (get_or indexes i d).0 (take i indexes) (indexes_apart indexes i d differ within);
}

-- ---- what is loaded so far

pub HasLoaded-none : WriteBeforeIsLawful (StandsForSome stands) → EmptyStands → RowsPack → (p : PassView) → IsBlank p → HasLoaded (loaded [] []) 0 p p
HasLoaded-none law stands_empty pack p blank = record {
  holds = record {
    idle = blank.idle;
    none_queued = blank.none_queued;
    lawful = subst (λ (log : List Entry). Lawful (StandsForSome stands) p.shared.size.records log) (sym blank.none_logged)
        (law p.shared.size.records [] (All-nil (IsEntry p.shared.size.records)) (λ i j e lt within. absurd (omega arith)) (All-nil (ReadsObey [])) (All-nil (λ (entry : Entry). entry.snapshot ≡ false → Fits (StandsForSome stands) p.shared.size.records entry)));
    above = λ e among commit. absurd (subst (λ (log : List Entry). Among e log) blank.none_logged among);
    absent = blank.absent;
    roomy = blank.roomy;
  };
  leaves = subst (λ (log : List Entry). LeavesAt p.shared.size.records log (loaded [] []) (λ places. IsPacked places 0)) (sym blank.none_logged) (record {
    state = empty_state;
    left = λ rid. inr (refl, λ other at writes. Contains-nil other at);
    places = no_places;
    stands_for = stands_empty p.shared.size.records;
    are = pack.none;
  });
  adds = ([], Adds-none p blank.idle);
}

pub HasLoaded-more : (first p q : PassView) (tables tables' : TableMap) (rows rows' : ℕ) → HasLoaded tables rows first p → Holds q → AddsSome p q → LeavesAt q.shared.size.records q.log tables' (λ places. IsPacked places rows') → HasLoaded tables' rows' first q
HasLoaded-more first p q tables tables' rows rows' so_far holds more leaves = record {
  holds = holds;
  leaves = leaves;
  adds = (so_far.adds.0 ++ more.0, Adds-trans first p q so_far.adds.0 more.0 so_far.adds.1 more.1);
}

pub HasLoaded-again : (first p : PassView) (tables : TableMap) (rows : ℕ) → HasLoaded tables rows first p → HasLoaded tables rows p p
HasLoaded-again first p tables rows so_far = record { holds = so_far.holds; leaves = so_far.leaves; adds = ([], Adds-none p so_far.holds.idle) }

pub HasLoaded-as : (first p : PassView) (tables tables' : TableMap) (rows rows' : ℕ) → tables ≡ tables' → rows ≡ rows' → HasLoaded tables rows first p → HasLoaded tables' rows' first p
HasLoaded-as first p tables tables' rows rows' same counted so_far =
    subst (λ (n : ℕ). HasLoaded tables' n first p) counted (subst (λ (t : TableMap). HasLoaded t rows first p) same so_far)

-- ---- a row as a command

pub are_put : (table key : ℕ) (row : Row) → table < 8 → AreCommands 8 (Put table key row ∷ [])
are_put table key row known = record {
  runnable = record { few = omega arith; columns = All-push NamesColumn [] (Put table key row) (All-nil NamesColumn) tt };
  known = All-push (λ (command : Command). table_named command < 8) [] (Put table key row) (All-nil (λ (command : Command). table_named command < 8)) known;
}

pub is_short_put : (table key : ℕ) (row : Row) → All IsShort (Put table key row ∷ [])
is_short_put table key row = All-push IsShort [] (Put table key row) (All-nil IsShort) tt

-- it adds as much as its row
put_adds : (table key : ℕ) (row : Row) (tables : TableMap) → all_add (Put table key row ∷ []) tables ≡ row_more table tables
put_adds table key row tables = sum_by_push (adds tables) [] (Put table key row) ∙ nothing_before (row_more table tables)

pub room_put : (p : PassView) (table key : ℕ) (row : Row) → HasRecords p (row_more table) → HasRecords p (all_add (Put table key row ∷ []))
room_put p table key row has = record {
  tables = has.tables;
  most = has.most;
  leaves = has.leaves;
  room = subst (λ (n : ℕ). p.fixed + (has.most + n) ≤ p.shared.size.records) (sym (put_adds table key row has.tables)) has.room;
}

pub HasLoaded-put : RowsPack → (first p q : PassView) (tables : TableMap) (rows table key : ℕ) (row : Row) {entries : List Entry} → value_at tables table key ≡ None → HasLoaded tables rows first p → Holds q → Adds p q entries → LeavesAfter (Put table key row ∷ []) p q
    → HasLoaded (with_value tables table key row) (rows + 1) first q
HasLoaded-put pack first p q tables rows table key row {entries} none so_far holds adds leaves =
    HasLoaded-more first p q tables (with_value tables table key row) rows (rows + 1) so_far holds (entries, adds)
    (within_then (Put table key row ∷ []) p q tables (λ places. IsPacked places rows) (λ places. IsPacked places (rows + 1)) (packed_row pack tables table key row rows none) leaves so_far.leaves)

pub swapped : (a b : ℕ) → a + b ≡ b + a
swapped a b = omega arith

-- ---- all of it

pub Loads-whole : (input : Input) (first p q : PassView) → RowsPack → FitsMore → q.shared.size.records ≤ record_limit → AddsSome first p → HasLoaded (loaded input.rows input.indexes) (length input.rows) p q → Loads input first q
Loads-whole input first p q pack more few before so_far = record {
  holds = so_far.holds;
  leaves = packed_within pack q.shared.size.records q.log (loaded input.rows input.indexes) (length input.rows) so_far.leaves;
  tables = (so_far.leaves.state, so_far.leaves.left, (so_far.leaves.places, more q.shared.size.records record_limit so_far.leaves.state so_far.leaves.places (loaded input.rows input.indexes) few so_far.leaves.stands_for));
  adds = (before.0 ++ so_far.adds.0, Adds-trans first p q before.0 so_far.adds.0 before.1 so_far.adds.1);
}
