-- The tables that a log leaves, entry behind entry.
use Rattle.std.proofs.Common.{◌≡◌, ℕ, ◌+◌, ◌<◌, ◌≤◌, true, false, List, [], ◌∷◌, ◌++◌, Option, refl, sym, ap, subst, arith, inl, inr, ⊎_elim, All, Contains}
use Rattle.std.proofs.lemmas.List.Elements.{All-weaker, All-nil, All-cons, Contains-append_left, Contains-append_cases}
use Rattle.plain_data.specs.declared.entry.Entry.{Entry}
use Rattle.plain_data.specs.State.{State, Agrees, IsEntry, overlay}
use Rattle.core_rule.specs.Views.{Among}
use Rattle.histories.specs.History.{Lawful, Leaves, IsValue}
use Rattle.histories.specs.Laws.{NextStateIsOverlay}
use Rattle.histories.proofs.Lists.{Contains-nil, Contains-cases}
use Rattle.histories.proofs.States.{IsValue-same, one_value}
use Rattle.replay_model.specs.declared.command.Command.{Command}
use Rattle.replay_model.specs.Running.{tables_after}
use Rattle.replay_model.specs.TableMap.{TableMap}
use Rattle.stored_tables.specs.Places.{Places}
use Rattle.stored_tables.specs.Weight.{weight}
use Rattle.seat_post.specs.Leaves.{StampedBelow, LeavesValue, AreLeft}
use Rattle.txn_engine.specs.Pass.{EngineView, PassView}
use Rattle.seat_post.specs.Logs.{IsAbove}
use Rattle.lane_runner.specs.Adds.{Adds}
use Rattle.lane_runner.proofs.Elements.{among_of}
use Rattle.lane_runner.specs.Holding.{LeavesAt, LeavesAfter}
use Rattle.lane_runner.specs.Weighs.{LeadsTo, RunsTo, AddsWeight}

light_sum : (now before most more : ℕ) → now ≤ before + more → before ≤ most → now ≤ most + more
light_sum now before most more grows light = omega arith

-- what a step that adds so much makes of a bound
pub light_more : (most more : ℕ) (places after : Places) → AddsWeight more places after → weight places ≤ most → weight after ≤ most + more
light_more most more places after grows light = light_sum (weight after) (weight places) most more grows light

pub all_among : {X : Type 0} (P : X → Type 0) (xs : List X) → ((x : X) → Among x xs → P x) → All P xs
all_among P [] each = All-nil P
all_among P (x ∷ xs) each = All-cons P x xs (each x (inl refl)) (all_among P xs (λ y among. each y (inr among)))

-- where all commit entries are below the limit
pub leaves_all : (log : List Entry) (r limit : ℕ) (value : Option (List ℕ)) → IsAbove log limit → LeavesValue log r limit value → IsValue (Contains log) r value
leaves_all log r limit value above left = IsValue-same (StampedBelow log limit) (Contains log) r value (λ e commit at. at.0) (λ e commit at. (at, above e (among_of log e at) commit)) left

-- a log that stands in a lawful history leaves one value of a record
pub leaves_one : (kept : State → Type 0) (records : ℕ) (history log : List Entry) (r : ℕ) (x y : Option (List ℕ)) → Lawful kept records history → ((e : Entry) → Contains log e → Contains history e) → IsValue (Contains log) r x → IsValue (Contains log) r y → x ≡ y
leaves_one kept records history log r x y lawful own a b = one_value records history (Contains log) r x y lawful.each lawful.apart own a b

-- what is read agrees with the state that a lawful log leaves
pub left_agrees : (kept : State → Type 0) (records : ℕ) (log : List Entry) (limit : ℕ) (reads : List (ℕ × Option (List ℕ))) (state : State) → Lawful kept records log → IsAbove log limit → Leaves (Contains log) state → AreLeft log limit reads → Agrees state reads
left_agrees kept records log limit reads state lawful above leaves are =
    All-weaker (λ (read : ℕ × Option (List ℕ)). LeavesValue log read.0 limit read.1) (λ (read : ℕ × Option (List ℕ)). state read.0 ≡ read.1)
    (λ read left. leaves_one kept records log log read.0 (state read.0) read.1 lawful (λ e h. h) (leaves read.0) (leaves_all log read.0 limit read.1 above left)) reads are

-- one more commit entry, above the others, which read what they leave
pub within_more : (kept : State → Type 0) (records : ℕ) (log : List Entry) (entry : Entry) (tables tables' : TableMap) (Step : Places → Places → Type 0) (Such Then : Places → Type 0)
    → ((places after : Places) → Step places after → Such places → Then after) → NextStateIsOverlay → Lawful kept records log → All (IsEntry records) (log ++ entry ∷ []) → entry.snapshot ≡ false → IsAbove log entry.stamp → AreLeft log entry.stamp entry.reads
    → LeadsTo records entry.reads entry.writes tables tables' Step → LeavesAt records log tables Such → LeavesAt records (log ++ entry ∷ []) tables' Then
within_more kept records log entry tables tables' Step Such Then goes overlays lawful each commit above left leads within =
    let agrees : Agrees within.state entry.reads = left_agrees kept records log entry.stamp entry.reads within.state lawful above within.left left in
    let step = leads within.state within.places agrees within.stands_for in
    record {
      state = overlay entry.writes within.state;
      left = (overlays records log entry within.state each lawful.apart commit (all_among (λ (e : Entry). e.snapshot ≡ false → e.stamp < entry.stamp) log above) within.left).1;
      places = step.0;
      stands_for = step.1;
      are = goes within.places step.0 step.2 within.are;
    }

not_kind : (e entry : Entry) → entry.snapshot ≡ true → e.snapshot ≡ false → entry ≡ e → ⊥
not_kind e entry snapshot commit is = let same : entry.snapshot ≡ e.snapshot = ap (λ (x : Entry). x.snapshot) is in cc

among_commits : (log : List Entry) (entry e : Entry) → entry.snapshot ≡ true → e.snapshot ≡ false → Contains (log ++ entry ∷ []) e → Contains log e
among_commits log entry e snapshot commit at =
    ⊎_elim (λ here. here) (λ last. absurd (⊎_elim (λ is. not_kind e entry snapshot commit is) (λ none. Contains-nil e none) (Contains-cases entry [] e last))) (Contains-append_cases log (entry ∷ []) e at)

-- one more snapshot
pub within_snapshot : (records : ℕ) (log : List Entry) (entry : Entry) (tables : TableMap) (Such : Places → Type 0) → entry.snapshot ≡ true → LeavesAt records log tables Such → LeavesAt records (log ++ entry ∷ []) tables Such
within_snapshot records log entry tables Such snapshot within = record {
  state = within.state;
  left = λ rid. IsValue-same (Contains log) (Contains (log ++ entry ∷ [])) rid (within.state rid) (λ e commit at. Contains-append_left log (entry ∷ []) e at) (λ e commit at. among_commits log entry e snapshot commit at) (within.left rid);
  places = within.places;
  stands_for = within.stands_for;
  are = within.are;
}

-- less is said of the places
pub within_weaker : (records : ℕ) (log : List Entry) (tables : TableMap) (Such Then : Places → Type 0) → ((places : Places) → Such places → Then places) → LeavesAt records log tables Such → LeavesAt records log tables Then
within_weaker records log tables Such Then goes within = record {
  state = within.state;
  left = within.left;
  places = within.places;
  stands_for = within.stands_for;
  are = goes within.places within.are;
}

-- so what holds of the places goes on by the step that commands make
pub within_then : (commands : List Command) (p q : PassView) (tables : TableMap) (Such Then : Places → Type 0) → ((places after : Places) → RunsTo commands tables places after → Such places → Then after)
    → LeavesAfter commands p q → LeavesAt p.shared.size.records p.log tables Such → LeavesAt q.shared.size.records q.log (tables_after commands tables) Then
within_then commands p q tables Such Then goes leaves within =
    within_weaker q.shared.size.records q.log (tables_after commands tables) (RunsTo commands tables within.places) Then (λ places runs. goes within.places places runs within.are)
    (leaves tables within.places (record { state = within.state; left = within.left; places = within.places; stands_for = within.stands_for; are = refl }))

-- the same of a pass that has added these entries
pub within_at : (p q : PassView) (entries : List Entry) (tables : TableMap) (Such : Places → Type 0) → Adds p q entries → LeavesAt p.shared.size.records (p.log ++ entries) tables Such → LeavesAt q.shared.size.records q.log tables Such
within_at p q entries tables Such adds within =
    let at_log : LeavesAt p.shared.size.records q.log tables Such = subst (λ (log : List Entry). LeavesAt p.shared.size.records log tables Such) (sym adds.log) within in
    subst (λ (records : ℕ). LeavesAt records q.log tables Such) (sym (ap (λ (e : EngineView). e.size.records) adds.engine)) at_log
