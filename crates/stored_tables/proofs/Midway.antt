-- In the middle of a command on one row: one move more.
use Rattle.std.proofs.Common.{◌≡◌, ℕ, ◌+◌, ◌<◌, true, cond, ◌==◌, ◌&&◌, List, [], ◌∷◌, ◌++◌, Option, None, Some, Result, Ok, refl, sym, ap, subst, ◌∙◌, arith, eq-eqb}
use Rattle.std.proofs.lemmas.Option.{none-some}
use Rattle.plain_data.specs.State.{State, overlay}
use Rattle.record_store.specs.Meaning.{Meaning}
use Rattle.record_store.specs.declared.walk.Walk.{Walk}
use Rattle.record_store.proofs.Agreement.{OnlyReads-refl}
use Rattle.record_store.proofs.Known.{known-reads}
use Rattle.record_store.proofs.Writes.{writes-none}
use Rattle.ordered_index.specs.Keys.{is_same}
use Rattle.stored_tables.specs.Answers.{Held, AddsRow, HasRow, DropsRow, DueBy}
use Rattle.stored_tables.specs.Moved.{Maps, HasMaps, maps_of, moved, all_moved, OthersStay, Shaped, Step, Midway}
use Rattle.stored_tables.specs.Places.{Places, with_row, table_limit}
use Rattle.stored_tables.specs.Plan.{Move, Moves, Follows, MayAsk, IsDue}
use Rattle.stored_tables.specs.Plan.Follows.{stays, moves}
use Rattle.stored_tables.specs.Plan.Move.{row_added, row_dropped, pair_put, pair_removed, entry_inserted, entry_removed}
use Rattle.stored_tables.specs.Plan.Moves.{row_added_at, row_dropped_at}
use Rattle.record_store.proofs.Going.{by_calls_reads, by_reads_none}
use Rattle.stored_tables.specs.Runs.{Runs}
use Rattle.stored_tables.proofs.Runs.{runs_then}
use Rattle.stored_tables.proofs.Ties.{set_here, set_away}

-- ---- maps

all_moved-push : (rid : ℕ) (done : List Move) (move : Move) (maps : Maps) → all_moved rid (done ++ move ∷ []) maps ≡ moved rid move
    (all_moved rid done maps)
all_moved-push rid [] move maps = refl
all_moved-push rid (first ∷ done) move maps = all_moved-push rid done move (moved rid first maps)

moved_from : (rid : ℕ) (move : Move) (maps : Maps) (places after : Places) → HasMaps maps places
    → HasMaps (moved rid move (maps_of places)) after → HasMaps (moved rid move maps) after
moved_from rid (row_added table key) maps places after has now = record {
  chain = λ t k. now.chain t k ∙ has.chain t k;
  tree = λ n k. now.tree n k ∙ has.tree n k;
  row_at = λ t k. now.row_at t k ∙ ap (cond (t == table && k == key) (Some rid)) (has.row_at t k);
  column_at = λ t. now.column_at t ∙ has.column_at t;
}
moved_from rid (row_dropped table key) maps places after has now = record {
  chain = λ t k. now.chain t k ∙ has.chain t k;
  tree = λ n k. now.tree n k ∙ has.tree n k;
  row_at = λ t k. now.row_at t k ∙ ap (cond (t == table && k == key) None) (has.row_at t k);
  column_at = λ t. now.column_at t ∙ has.column_at t;
}
moved_from rid (pair_put table key) maps places after has now = record {
  chain = λ t k. now.chain t k ∙ ap (cond (t == table && k == key) (Some rid)) (has.chain t k);
  tree = λ n k. now.tree n k ∙ has.tree n k;
  row_at = λ t k. now.row_at t k ∙ has.row_at t k;
  column_at = λ t. now.column_at t ∙ has.column_at t;
}
moved_from rid (pair_removed table key) maps places after has now = record {
  chain = λ t k. now.chain t k ∙ ap (cond (t == table && k == key) None) (has.chain t k);
  tree = λ n k. now.tree n k ∙ has.tree n k;
  row_at = λ t k. now.row_at t k ∙ has.row_at t k;
  column_at = λ t. now.column_at t ∙ has.column_at t;
}
moved_from rid (entry_inserted number key) maps places after has now = record {
  chain = λ t k. now.chain t k ∙ has.chain t k;
  tree = λ n k. now.tree n k ∙ ap (cond (n == number && is_same k key) (Some rid)) (has.tree n k);
  row_at = λ t k. now.row_at t k ∙ has.row_at t k;
  column_at = λ t. now.column_at t ∙ has.column_at t;
}
moved_from rid (entry_removed number key) maps places after has now = record {
  chain = λ t k. now.chain t k ∙ has.chain t k;
  tree = λ n k. now.tree n k ∙ ap (cond (n == number && is_same k key) None) (has.tree n k);
  row_at = λ t k. now.row_at t k ∙ has.row_at t k;
  column_at = λ t. now.column_at t ∙ has.column_at t;
}

maps_push : (rid : ℕ) (done : List Move) (move : Move) (places between after : Places)
    → HasMaps (all_moved rid done (maps_of places)) between → HasMaps (moved rid move (maps_of between)) after
    → HasMaps (all_moved rid (done ++ move ∷ []) (maps_of places)) after
maps_push rid done move places between after has now =
    let P : Maps → Type 0 = λ m. HasMaps m after in
    subst P (sym (all_moved-push rid done move (maps_of places))) (moved_from rid move (all_moved rid done (maps_of places)) between
    after has now)

-- ---- moves

follows_at : (done : List Move) (places after : Places) (n m : ℕ) → n ≡ m → Follows done places n after → Follows done places m after
follows_at done places after n m same follows = let P : ℕ → Type 0 = λ k. Follows done places k after in subst P same follows

follows_push : (done : List Move) (move : Move) (places between after : Places) (n m : ℕ) → Follows done places n between
    → Moves move between m after → Follows (done ++ move ∷ []) places (n + m) after
follows_push [] move places between after n m (stays p) one = follows_at (move ∷ []) places after (m + 0) (0 + m) (omega arith)
    (moves move [] places after after m 0 one (stays after))
follows_push (first ∷ done) move places between after n m (moves f more p middle last asks asked one rest) two =
    follows_at (first ∷ (done ++ move ∷ [])) places after (asks + (asked + m)) (asks + asked + m) (omega arith)
    (moves first (done ++ move ∷ []) places middle after asks (asked + m) one
    (follows_push done move middle between after asked m rest two))

-- no move so far
pub midway_begins : (table key rid : ℕ) (words : List ℕ) (before now : Meaning) (state : State) (places : Places)
    → Shaped now state places → OthersStay table key before now state places
    → (places.row_at table key ≡ Some rid → overlay now.writes state rid ≡ Some words)
    → Midway table key rid words [] before now 0 state places
midway_begins table key rid words before now state places shape others here = record {
  between = places;
  follows = stays places;
  shape = shape;
  maps = record { chain = λ t k. refl; tree = λ n k. refl; row_at = λ t k. refl; column_at = λ t. refl };
  rows = λ t k differs. refl;
  others = others;
  here = here;
}

-- a row was added
pub midway_added : (table key rid : ℕ) (words : List ℕ) (before now : Meaning) (asked : ℕ) (state : State) (places : Places)
    → places.row_at table key ≡ None → AddsRow table key rid words before now asked state places
    → Midway table key rid words (row_added table key ∷ []) before now asked state places
midway_added table key rid words before now asked state places absent adds = record {
  between = with_row places table key (Some rid);
  follows = follows_at (row_added table key ∷ []) places (with_row places table key (Some rid)) (1 + 0) asked (omega (arith, adds.once))
      (moves (row_added table key) [] places (with_row places table key (Some rid)) (with_row places table key (Some rid)) 1 0
      (row_added_at places table key rid absent) (stays (with_row places table key (Some rid))));
  shape = adds.shape;
  maps = record { chain = λ t k. refl; tree = λ n k. refl; row_at = λ t k. refl; column_at = λ t. refl };
  rows = λ t k differs. set_away table key (Some rid) places.row_at t k differs;
  others = λ other number at low differs is. adds.stay other number at low is;
  here = λ at. adds.here;
}

-- a chain or a tree changed
pub midway_step : (table key rid : ℕ) (words : List ℕ) (done : List Move) (move : Move) (first middle last : Meaning) (before asked : ℕ)
    (state : State) (places : Places) → table < table_limit
    → ((maps : Maps) (t k : ℕ) → (moved rid move maps).row_at t k ≡ maps.row_at t k)
    → (m : Midway table key rid words done first middle before state places) → Step rid move middle last asked state m.between
    → Midway table key rid words (done ++ move ∷ []) first last (before + asked) state places
midway_step table key rid words done move first middle last before asked state places low keeps m step =
    let rows : (t k : ℕ) → step.after.row_at t k ≡ m.between.row_at t k = λ t k. step.maps.row_at t k ∙ keeps (maps_of m.between) t k in
    record {
      between = step.after;
      follows = follows_push done move places m.between step.after before asked m.follows step.moves;
      shape = step.shape;
      maps = maps_push rid done move places m.between step.after m.maps step.maps;
      rows = λ t k differs. rows t k ∙ m.rows t k differs;
      others = λ other number at inside differs is. step.stay other number at inside (m.rows other number differs ∙ is)
          ∙ m.others other number at inside differs is;
      here = λ at. (let was = sym (rows table key) ∙ at in step.stay table key rid low was ∙ m.here was);
    }

same_key : (key : ℕ) → (key == key) ≡ true
same_key key = eq-eqb key key refl

-- the row was dropped
pub midway_dropped : (table key rid : ℕ) (words : List ℕ) (done : List Move) (first middle last : Meaning) (before asked : ℕ)
    (state : State) (places : Places) → asked ≡ 0 → (m : Midway table key rid words done first middle before state places)
    → DropsRow table key middle last state m.between → Midway table key rid words (done ++ row_dropped table key ∷ []) first last
    (before + asked) state places
midway_dropped table key rid words done first middle last before asked state places none m drops =
    let after = with_row m.between table key None in
    record {
      between = after;
      follows = follows_at (done ++ row_dropped table key ∷ []) places after (before + 0) (before + asked) (omega (arith, none))
          (follows_push done (row_dropped table key) places m.between after before 0 m.follows (row_dropped_at m.between table key));
      shape = drops.shape;
      maps = maps_push rid done (row_dropped table key) places m.between after m.maps
          (record { chain = λ t k. refl; tree = λ n k. refl; row_at = λ t k. refl; column_at = λ t. refl });
      rows = λ t k differs. set_away table key None m.between.row_at t k differs ∙ m.rows t k differs;
      others = λ other number at inside differs is. drops.others other number at inside differs (m.rows other number differs ∙ is)
          ∙ m.others other number at inside differs is;
      here = λ at. absurd
          (none-some rid (sym (set_here table key None m.between.row_at key ∙ ap (λ b. cond b None (m.between.row_at table key))
          (same_key key)) ∙ at));
    }

-- told of the same moves
pub midway_as : (table key rid : ℕ) (words : List ℕ) (done same : List Move) (before now : Meaning) (asked : ℕ) (state : State)
    (places : Places) → done ≡ same → Midway table key rid words done before now asked state places
    → Midway table key rid words same before now asked state places
midway_as table key rid words done same before now asked state places is m = let P : List Move
    → Type 0 = λ moves. Midway table key rid words moves before now asked state places in subst P is m

-- ---- parts of a run

-- a move of the plan is due behind these
pub may_ask : (planned done rest : List Move) (move : Move) (places between : Places) (earlier asks : ℕ) → planned ≡ done ++ move ∷ rest
    → Follows done places earlier between → IsDue move between asks → MayAsk planned places (earlier + asks)
may_ask planned done rest move places between earlier asks is follows due = record {
  before = done;
  move = move;
  after = rest;
  is_planned = is;
  between = between;
  earlier = earlier;
  follows = follows;
  now = asks;
  due = due;
  counted = refl;
}

module _ {S F : Type 0} {read_gives : S → ℕ → Result (Option (List ℕ)) F → S → Type 0} {write_gives : S → ℕ → Option (List ℕ)
    → Result (Unit {0}) F → S → Type 0} {fresh_gives : S → Result ℕ F → S → Type 0} {meaning : S → Meaning} where
  -- nothing yet
  pub runs_begin : {X : Type 0} (Stands : State → X → Type 0) (Due : ℕ → State → X → Type 0) (Did : Unit {0} → ℕ → State → X → Type 0)
      (first : S) → ((state : State) (x : X) → Stands state x → Did tt 0 state x)
      → Runs {F = F} read_gives write_gives fresh_gives meaning Stands Due Did 0 first first (Ok tt)
  runs_begin Stands Due Did first did = record {
    asked = 0;
    by = by_calls_reads _ first first (Ok (tt {0})) (by_reads_none first (Ok (tt {0})) tt);
    may = λ some. absurd (omega arith);
    did = λ state x agrees stands. did state x stands;
    torn = tt;
    few = writes-none (meaning first) (meaning first) refl;
    writes = λ state x agrees stands. known-reads (meaning first) (meaning first) (OnlyReads-refl (meaning first)) state agrees;
  }

  -- one move more of a chain or a tree
  pub then_step : {T : Type 0} {Stands : State → Held → Type 0} {Inner : State → Places → Type 0} {Later : ℕ → State → Places → Type 0}
      (table key rid : ℕ) (words : List ℕ) (planned done rest : List Move) (move : Move) (n m : ℕ) (first middle last : S)
      (early : Result T (Walk F)) (value : T) (result : Result (Unit {0}) (Walk F)) → table < table_limit → planned ≡ done ++ move ∷ rest
      → ((maps : Maps) (t k : ℕ) → (moved rid move maps).row_at t k ≡ maps.row_at t k)
      → Runs read_gives write_gives fresh_gives meaning Stands (DueBy (λ _. planned)) (λ _ asked state held. Midway table key rid words done
      (meaning first) (meaning middle) asked state held.0) n first middle early → early ≡ Ok value
      → Runs read_gives write_gives fresh_gives meaning Inner Later (λ _. Step rid move (meaning middle) (meaning last)) m middle last
      result
      → ((asks : ℕ) (state : State) (places : Places) → Later asks state places → IsDue move places asks)
      → ((before : ℕ) (state : State) (held : Held) → Stands state held
      → (middle_of : Midway table key rid words done (meaning first) (meaning middle) before state held.0)
      → Inner state middle_of.between)
      → Runs read_gives write_gives fresh_gives meaning Stands (DueBy (λ _. planned)) (λ _ asked state held. Midway table key rid words
      (done ++ move ∷ []) (meaning first) (meaning last) asked state held.0) (n + m) first last result
  then_step table key rid words planned done rest move n m first middle last early value result low is keeps a was b due inner =
      runs_then _ n m first middle last early value result a was b
      (λ before state held agrees stands mid. (
        mid.between,
        inner before state held stands mid,
        λ asks later. may_ask planned done rest move held.0 mid.between before asks is mid.follows (due asks state mid.between later),
        λ w asked step. midway_step table key rid words done move (meaning first) (meaning middle) (meaning last) before asked state
            held.0 low keeps mid step,
      ))

  -- the row is dropped
  pub then_dropped : {T : Type 0} {Stands : State → Held → Type 0} {Due : ℕ → State → Held → Type 0} (table key rid : ℕ) (words : List ℕ)
      (done : List Move) (n : ℕ) (first middle last : S) (early : Result T (Walk F)) (value : T) (result : Result (Unit {0}) (Walk F))
      → table < table_limit
      → Runs read_gives write_gives fresh_gives meaning Stands Due (λ _ asked state held. Midway table key rid words done (meaning first)
      (meaning middle) asked state held.0) n first middle early → early ≡ Ok value
      → Runs read_gives write_gives fresh_gives meaning (HasRow (meaning middle) table key rid) (λ _ _ _. ⊥)
      (λ _ asked state places. (asked ≡ 0) × DropsRow table key (meaning middle) (meaning last) state places) 1 middle last result
      → ((before : ℕ) (state : State) (held : Held) → Stands state held
      → (m : Midway table key rid words done (meaning first) (meaning middle) before state held.0)
      → m.between.row_at table key ≡ Some rid)
      → Runs read_gives write_gives fresh_gives meaning Stands Due (λ _ asked state held. Midway table key rid words
      (done ++ row_dropped table key ∷ []) (meaning first) (meaning last) asked state held.0) (n + 1) first last result
  then_dropped table key rid words done n first middle last early value result low a was b at =
      runs_then _ n 1 first middle last early value result a was b
      (λ before state held agrees stands mid. (
        mid.between,
        (low, mid.shape, at before state held stands mid),
        λ asks never. absurd never,
        λ w asked drops. midway_dropped table key rid words done (meaning first) (meaning middle) (meaning last) before asked state
            held.0 drops.0 mid drops.1,
      ))
