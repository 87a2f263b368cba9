-- What the seat that is alone holds once it has collected.
use Rattle.std.proofs.Common.{◌≡◌, ◌⊎◌, ℕ, ◌+◌, ◌<◌, ◌≤◌, true, List, [], ◌∷◌, ◌++◌, length, sym, ap, subst, ◌∙◌, arith, inl}
use Rattle.plain_data.specs.declared.entry.Entry.{Entry}
use Rattle.plain_data.specs.State.{Agrees}
use Rattle.replay_model.specs.TableMap.{TableMap}
use Rattle.stored_tables.specs.Places.{Places}
use Rattle.histories.specs.History.{Lawful}
use Rattle.history_replay.specs.Results.{StandsForSome}
use Rattle.replay_model.specs.declared.command.Command.{Command}
use Rattle.replay_model.specs.declared.outcome.Outcome.{Outcome}
use Rattle.replay_model.specs.declared.outcome.Placed.{Placed}
use Rattle.txn_engine.specs.Accounts.{accounted, KeepsAbsent}
use Rattle.txn_engine.specs.Collecting.{collected}
use Rattle.seat_post.specs.Leaves.{AreLeft, IsPresent}
use Rattle.txn_engine.specs.Leaves.{HoldsAbsent}
use Rattle.seat_post.specs.Lists.{IsRoomyAt}
use Rattle.txn_engine.specs.Lists.{IsRoomy, IsRoomyOnceCollected, IsFull}
use Rattle.txn_engine.specs.Pass.{EngineView, PassView, frame, IsIdle, IsAlone, begun, engine_of, desk_of, observing, removing, with_met}
use Rattle.seat_post.specs.Logs.{IsAbove}
use Rattle.seat_post.specs.Seats.{Bounds}
use Rattle.spare_numbers.specs.Spare.{is_on}
use Rattle.lane_runner.specs.Rows.{stands}
use Rattle.lane_runner.specs.Adds.{Adds}
use Rattle.lane_runner.specs.Blocks.{Commits}
use Rattle.lane_runner.specs.Holding.{Holds, LeavesAt, HasPlaces}
use Rattle.lane_runner.proofs.Adding.{Adds-no_entry, Adds-trans}
use Rattle.lane_runner.proofs.Within.{left_agrees}

-- the seat that is alone keeps nothing in its queue
pub collected_alone : (p q : PassView) → q ≡ removing (observing (collected p q.met q.bounds q.queue) q.observed) q.gone → q.queue ≡ [] → q ≡ removing (observing (collected p q.met q.bounds []) q.observed) q.gone
collected_alone p q after none = after ∙ ap (λ queue. removing (observing (collected p q.met q.bounds queue) q.observed) q.gone) none

-- it has told that its log is lawful, and has collected
module _ (r w : PassView) (met met' : ℕ) (known : Bounds) (is : w ≡ removing (observing (collected (with_met r met) met' known []) w.observed) w.gone) (idle : IsIdle r) where
  pub Holds-collected : Lawful (StandsForSome stands) r.shared.size.records r.log → IsAbove r.log w.published → HoldsAbsent r → IsRoomy w → Holds w
  Holds-collected lawful above absent roomy = record {
    idle = ap desk_of is ∙ idle;
    none_queued = ap (λ (x : PassView). x.queue) is;
    lawful = subst (λ (x : PassView). Lawful (StandsForSome stands) x.shared.size.records x.log) (sym is) lawful;
    above = subst (λ (log : List Entry). IsAbove log w.published) (sym (ap (λ (x : PassView). x.log) is)) above;
    absent = subst (λ (x : PassView). HoldsAbsent x) (sym is) absent;
    roomy = roomy;
  }

  pub Adds-collected : r.met ≤ met → met ≤ met' → Adds r w []
  Adds-collected met_more met_most =
      let same_clock : w.clock ≡ r.clock = ap (λ (x : PassView). x.clock) is in
      let last_met : w.met ≡ met' = ap (λ (x : PassView). x.met) is in
      let same_refusals : w.refusals ≡ r.refusals = ap (λ (x : PassView). x.refusals) is in
      Adds-no_entry r w (ap engine_of is) (ap (λ (x : PassView). x.seat) is) (ap (λ (x : PassView). x.others) is) (ap desk_of is ∙ idle) (ap (λ (x : PassView). x.log) is) (omega arith) (omega arith) (omega arith)

-- a commit, and what adds nothing behind it
pub Commits-then : (commands : List Command) (placed : Placed) (outcome : Outcome) (p r w : PassView) → Commits commands p r placed outcome → Adds r w [] → Commits commands p w placed outcome
Commits-then commands placed outcome p r w first second = record {
  entry = first.entry;
  adds = Adds-trans p r w (first.entry ∷ []) [] first.adds second;
  is_entry = first.is_entry;
  seat = first.seat;
  weighs = first.weighs;
}

-- ---- before it commits

-- one version at most lies outside each inline place, also of what a transaction has begun to read and write
pub roomy_open : (p q : PassView) (clock : ℕ) → frame q ≡ frame (begun p clock) → IsRoomy p → IsRoomy q
roomy_open p q clock kept roomy = subst (λ (f : PassView). IsRoomyAt f.shared.size f.bounds) (sym kept) roomy

pub roomy_once : (q : PassView) → IsRoomy q → IsRoomyOnceCollected q
roomy_once q roomy r below = inl (roomy r below)

pub roomy_same : (p q : PassView) → engine_of q ≡ engine_of p → q.bounds ≡ p.bounds → IsRoomy p → IsRoomy q
roomy_same p q engine known roomy =
    let at_known : IsRoomyAt p.shared.size q.bounds = subst (λ (k : Bounds). IsRoomyAt p.shared.size k) (sym known) roomy in
    subst (λ (e : EngineView). IsRoomyAt e.size q.bounds) (sym engine) at_known

pub absent_same : (p q : PassView) → engine_of q ≡ engine_of p → q.given ≡ p.given → q.spare ≡ p.spare → q.log ≡ p.log → HoldsAbsent p → HoldsAbsent q
absent_same p q engine given spare log absent r from within =
    let here : (is_on (p.given ++ p.spare) r ≡ true) ⊎ IsPresent p.log r = absent r (subst (λ (e : EngineView). e.fixed ≤ r) engine from) (subst (λ (e : EngineView). r < e.size.records) engine within) in
    let at_log : (is_on (p.given ++ p.spare) r ≡ true) ⊎ IsPresent q.log r = subst (λ (l : List Entry). (is_on (p.given ++ p.spare) r ≡ true) ⊎ IsPresent l r) (sym log) here in
    let at_given : (is_on (q.given ++ p.spare) r ≡ true) ⊎ IsPresent q.log r = subst (λ (g : List ℕ). (is_on (g ++ p.spare) r ≡ true) ⊎ IsPresent q.log r) (sym given) at_log in
    subst (λ (s : List ℕ). (is_on (q.given ++ s) r ≡ true) ⊎ IsPresent q.log r) (sym spare) at_given

-- it is still alone, and holds the absent records
pub absent_open : (p b q : PassView) (clock : ℕ) → b ≡ begun p clock → IsAlone p → KeepsAbsent b → frame q ≡ frame b → accounted q ≡ accounted b → HoldsAbsent b → HoldsAbsent q
absent_open p b q clock began alone keeps same_frame same_accounts absent =
    keeps (subst (λ (x : PassView). IsAlone x) (sym began) alone) absent q same_frame same_accounts

-- a place is left for so few writes
pub places_left : (q : PassView) (engine : EngineView) → engine_of q ≡ engine → HasPlaces engine → IsRoomy q → length q.writes ≤ 8192 → IsFull q → ⊥
places_left q engine same many roomy few full =
    let short : q.shared.size.spare ≤ q.shared.size.records + length q.writes = full.roomy roomy in
    let spare : q.shared.size.spare ≡ engine.size.spare = ap (λ (e : EngineView). e.size.spare) same in
    let records : q.shared.size.records ≡ engine.size.records = ap (λ (e : EngineView). e.size.records) same in
    omega arith

-- ---- what it reads

-- what a transaction has read agrees with the state that the log left
pub agrees_open : (p q : PassView) (clock : ℕ) (tables : TableMap) (Such : Places → Type 0) → frame q ≡ frame (begun p clock) → Lawful (StandsForSome stands) p.shared.size.records p.log → IsAbove p.log q.stamp → AreLeft q.log q.stamp q.reads
    → (within : LeavesAt p.shared.size.records p.log tables Such) → Agrees within.state q.reads
agrees_open p q clock tables Such kept lawful above left within =
    left_agrees (StandsForSome stands) p.shared.size.records p.log q.stamp q.reads within.state lawful above within.left
    (subst (λ (log : List Entry). AreLeft log q.stamp q.reads) (ap (λ (f : PassView). f.log) kept) left)
