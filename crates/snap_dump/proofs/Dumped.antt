-- A dump that was made at a pass: its entry, and what it read.
use Rattle.std.proofs.Common.{◌≡◌, ℕ, ◌+◌, ◌<◌, ◌≤◌, List, [], Option, Some, refl, sym, ap, subst, ◌∙◌, arith}
use Rattle.std.specs.Prelude.{IfSome}
use Rattle.plain_data.specs.State.{State, Agrees}
use Rattle.record_store.specs.Limits.{record_limit}
use Rattle.record_store.specs.Meaning.{Meaning}
use Rattle.replay_model.specs.TableMap.{TableMap, Row}
use Rattle.stamp_base.specs.Stamp.{stamp_of}
use Rattle.stored_tables.specs.Kept.{KeepsTables}
use Rattle.stored_tables.specs.Laws.{FitsRecords}
use Rattle.stored_tables.specs.Places.{Places}
use Rattle.stored_tables.specs.Tables.{EachTables, StandsFor}
use Rattle.seat_post.specs.Ends.{Stood}
use Rattle.seat_post.specs.Snapshot.{entry_of_snapshot}
use Rattle.seat_post.specs.Logs.{IsAbove}
use Rattle.txn_engine.specs.Pass.{PassView, IsAlone, IsIdle, ticked, with_snapshot, observing}
use Rattle.txn_engine.specs.Snapshot.{Begins, finished, snapshot_begun, meaning_of_snapshot, unread}
use Rattle.typed_tables.specs.Listing.{AreRows}
use Rattle.lane_runner.proofs.Seen.{Adds-finished, has_seen}
use Rattle.snap_dump.specs.declared.dump.Dump.{Dump}
use Rattle.snap_dump.specs.Dumps.{Dumps, KeepsOthers}
use Rattle.snap_dump.specs.Tagged.{StandInOrder, TableRows, all_rows, map_of, tagged}
use Rattle.snap_dump.proofs.Tagged.{in_order, map_of-all_rows, rows_tagged}

-- the rows of tables that a state stands for, table behind table
rows_listed : (size : ℕ) (state : State) (places : Places) (tables : TableMap) (lists : List (List (ℕ × Row))) (rows : TableRows) → StandsFor size state places tables → AreRows 8 tables lists → rows ≡ tagged 0 lists → rows ≡ all_rows tables.rows
rows_listed size state places tables lists rows holds are is = is ∙ ap (tagged 0) are ∙ rows_tagged tables 8 holds.tied.no_row

-- the records that a snapshot sees of a pass, with these reads
abbrev sees : PassView → List (ℕ × Option (List ℕ)) → Meaning
sees p reads = record { size = p.shared.size.records; fixed = p.fixed; reads = reads; writes = []; given = [] }

module _ (p t s q : PassView) (clock : ℕ) (ticks : t ≡ ticked p clock) (begins : Begins t s) (rest : unread q ≡ unread s) where
  looks : s ≡ observing (snapshot_begun (ticked p clock) begins.stamp) s.observed
  looks = begins.pass ∙ ap (λ (x : PassView). observing (snapshot_begun x begins.stamp) s.observed) ticks

  -- what holds of each state that agrees with what it read and stands for tables
  each_table : (P : TableMap → Type 0) → EachTables (meaning_of_snapshot s) (meaning_of_snapshot q) (λ _ _ tables. P tables)
      → (state : State) (places : Places) (tables : TableMap) → Agrees state (has_seen p t s q clock ticks begins rest).0.reads → StandsFor p.shared.size.records state places tables → P tables
  each_table P each state places tables agrees holds =
      let seen = has_seen p t s q clock ticks begins rest in
      let told : EachTables (sees p []) (sees p seen.0.reads) (λ _ _ tables. P tables) =
      subst (λ (m : Meaning). EachTables m (sees p seen.0.reads) (λ _ _ tables. P tables)) (ap meaning_of_snapshot looks)
      (subst (λ (m : Meaning). EachTables (meaning_of_snapshot s) m (λ _ _ tables. P tables)) (ap meaning_of_snapshot seen.1.same) each) in
      told state places tables agrees holds

  -- what was read stands in order, since there is a state that agrees with it
  pub read_in_order : (kept : State → Type 0) (lists : List (List (ℕ × Row))) (rows : TableRows) → KeepsTables kept → IfSome q.snapshot (λ g. Stood kept q.shared.size.records q.log (entry_of_snapshot g))
      → EachTables (meaning_of_snapshot s) (meaning_of_snapshot q) (λ _ _ tables. AreRows 8 tables lists) → rows ≡ tagged 0 lists → StandInOrder rows
  read_in_order kept lists rows keeps stood told is =
      let seen = has_seen p t s q clock ticks begins rest in
      let here : Stood kept p.shared.size.records p.log (entry_of_snapshot seen.0) =
      subst (λ (x : PassView). IfSome x.snapshot (λ g. Stood kept x.shared.size.records x.log (entry_of_snapshot g))) seen.1.same stood in
      let held = keeps.stands p.shared.size.records here.state here.left.is_state here.left.is_kept in
      let listed = each_table (λ tables. AreRows 8 tables lists) told here.state held.1.0 held.0 here.agrees held.1.1 in
      in_order rows held.0.rows (rows_listed p.shared.size.records here.state held.1.0 held.0 lists rows held.1.1 listed is)

  module _ (r f : PassView) (after : IfSome q.snapshot (λ g. r ≡ observing (finished q g) r.observed)) (same : f ≡ r) (idle : IsIdle p) (later : p.clock ≤ clock) where
    -- it is below the stamp that was drawn for it
    below : (has_seen p t s q clock ticks begins rest).0.stamp < stamp_of f.clock f.seat
    below =
        let seen = has_seen p t s q clock ticks begins rest in
        let adds = Adds-finished p t s q clock ticks begins rest r f after same idle later in
        let met : q.met ≡ seen.0.stamp + 1 = ap (λ (x : PassView). x.met) seen.1.same in
        let as_begun : q.met ≡ begins.stamp + 1 = ap (λ (x : PassView). x.met) rest ∙ ap (λ (x : PassView). x.met) begins.pass in
        let drawn : t.published ≡ stamp_of clock p.seat = ap (λ (x : PassView). x.published) ticks in
        let ends : f ≡ observing (finished (with_snapshot (snapshot_begun (ticked p clock) seen.0.stamp) (Some seen.0)) seen.0) r.observed =
        same ∙ subst (λ (x : PassView). IfSome x.snapshot (λ g. r ≡ observing (finished x g) r.observed)) seen.1.same after in
        let at : stamp_of f.clock f.seat ≡ stamp_of clock p.seat = (λ i. stamp_of (ap (λ (x : PassView). x.clock) ends i) (adds.seat i)) in
        let low = begins.below in
        omega (arith, met, as_begun, drawn, at, low)

    -- the spare numbers, the queue and the boost stay
    pub keeps_seen : KeepsOthers p f
    keeps_seen =
        let seen = has_seen p t s q clock ticks begins rest in
        let ends : f ≡ observing (finished (with_snapshot (snapshot_begun (ticked p clock) seen.0.stamp) (Some seen.0)) seen.0) r.observed =
        same ∙ subst (λ (x : PassView). IfSome x.snapshot (λ g. r ≡ observing (finished x g) r.observed)) seen.1.same after in
        record { given = ap (λ (x : PassView). x.given) ends; queue = ap (λ (x : PassView). x.queue) ends; boost = ap (λ (x : PassView). x.boost) ends }

    -- the minimum that was met for it is the next number
    met_next : f.met ≡ (has_seen p t s q clock ticks begins rest).0.stamp + 1
    met_next =
        let seen = has_seen p t s q clock ticks begins rest in
        let ends : f ≡ observing (finished (with_snapshot (snapshot_begun (ticked p clock) seen.0.stamp) (Some seen.0)) seen.0) r.observed =
        same ∙ subst (λ (x : PassView). IfSome x.snapshot (λ g. r ≡ observing (finished x g) r.observed)) seen.1.same after in
        ap (λ (x : PassView). x.met) ends

    pub dumps_seen : (lists : List (List (ℕ × Row))) (dump : Dump) → FitsRecords
        → EachTables (meaning_of_snapshot s) (meaning_of_snapshot q) (λ _ _ tables. AreRows 8 tables lists)
        → IfSome q.snapshot (λ g. dump.stamp ≡ g.stamp) → dump.rows ≡ tagged 0 lists → IsAbove p.log t.published → Dumps p f dump
    dumps_seen lists dump fits told stamp rows drawn =
        let seen = has_seen p t s q clock ticks begins rest in
        record {
          entry = entry_of_snapshot seen.0;
          adds = Adds-finished p t s q clock ticks begins rest r f after same idle later;
          reading = record {
            stamp = sym (subst (λ (x : PassView). IfSome x.snapshot (λ g. dump.stamp ≡ g.stamp)) seen.1.same stamp);
            kind = refl;
            rows = λ state tables is_state holds agrees.
                let here = fits record_limit p.shared.size.records state holds.0 tables is_state holds.1 in
                let listed = each_table (λ tables. AreRows 8 tables lists) told state holds.0 tables agrees here in
                sym (map_of-all_rows tables.rows) ∙ ap map_of (sym (rows_listed p.shared.size.records state holds.0 tables lists dump.rows here listed rows));
          };
          no_writes = refl;
          below = below;
          met = met_next;
          all = λ alone e among commit.
              let met : q.met ≡ seen.0.stamp + 1 = ap (λ (x : PassView). x.met) seen.1.same in
              let as_begun : q.met ≡ begins.stamp + 1 = ap (λ (x : PassView). x.met) rest ∙ ap (λ (x : PassView). x.met) begins.pass in
              let low = begins.alone (subst IsAlone (sym ticks) alone) in
              let high = drawn e among commit in
              omega (arith, met, as_begun, low, high);
        }
