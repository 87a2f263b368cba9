-- What a promotion leaves of a pass.
use Rattle.std.proofs.Common.{◌≡◌, ℕ, ◌+◌, ◌<◌, ◌≤◌, List, [], ◌∷◌, Option, None, Some, Result, Ok, Err, inl, inr, refl, sym, ap, subst, ◌∙◌, arith}
use Rattle.std.specs.Prelude.{IfOk, IfErr, OnOk}
use Rattle.std.proofs.lemmas.Bool.Decides.{eqb_tells}
use Rattle.std.proofs.lemmas.List.Elements.{All-head}
use Rattle.plain_data.specs.declared.entry.Entry.{Entry}
use Rattle.plain_data.specs.State.{State, overlay}
use Rattle.stamp_base.specs.Stamp.{stamp_of}
use Rattle.history_replay.specs.Results.{KeepsTables}
use Rattle.seat_post.specs.Snapshot.{SnapshotView}
use Rattle.txn_engine.specs.Pass.{PassView, IsIdle}
use Rattle.txn_engine.specs.Promoting.{Promotes, boost_after}
use Rattle.seat_post.specs.Logs.{IsAbove}
use Rattle.seat_post.specs.Post.{PostView, observing}
use Rattle.seat_post.specs.Promoting.{rewritten_at, PromotesPost, FailsPost}
use Rattle.seat_post.specs.Rewriting.{rewriting}
use Rattle.seat_post.specs.Seats.{Bounds, Observed, Placed}
use Rattle.engine_answers.specs.declared.promotion.Promotion.{Promotion}
use Rattle.engine_answers.specs.declared.promotion.Promotion.TheVariants.{Promoted, Inline, Absent, Occupied}
use Rattle.engine_answers.specs.declared.promotion.PromoteFault.{PromoteFault}
use Rattle.engine_answers.specs.declared.promotion.PromoteFault.TheVariants as fault
use Rattle.stored_tables.specs.Tables.{StandsFor}
use Rattle.stored_tables.specs.Weight.{weight, all_add}
use Rattle.lane_runner.specs.Rows.{stands}
use Rattle.lane_runner.specs.Adds.{IsNext}
use Rattle.lane_runner.specs.Blocks.{AddsOthers}
use Rattle.lane_runner.specs.Weighs.{WeighsAtMost, LeavesTables}
use Rattle.lane_runner.proofs.Adding.{Adds-no_entry, Adds-one}

-- ---- the entry that writes what it read

pub same_at : (rid : ℕ) (value : Option (List ℕ)) (state : State) → state rid ≡ value → (r : ℕ) → overlay ((rid, value) ∷ []) state r ≡ state r
same_at rid value state at r =
    elim (eqb_tells r rid) as (λ _. overlay ((rid, value) ∷ []) state r ≡ state r) [
      | inl t ↦ rw t.0 (sym (ap state t.1 ∙ at))
      | inr t ↦ rw t.0 refl
    ]

no_less : (n more : ℕ) → n ≤ n + more
no_less n more = omega arith

-- leaves the tables as they were, and their weight
keeps_rewritten : (records stamp rid : ℕ) (value : Option (List ℕ)) → KeepsTables stands records (rewriting stamp rid value)
keeps_rewritten records stamp rid value state tables is_state holds agrees =
    let at = All-head (λ (read : ℕ × Option (List ℕ)). state read.0 ≡ read.1) (rid, value) [] agrees in
    let same : state ≡ overlay ((rid, value) ∷ []) state = λ i r. sym (same_at rid value state at r) i in
    subst (λ (s : State). stands s tables) same holds

weighs_rewritten : (records stamp rid : ℕ) (value : Option (List ℕ)) → WeighsAtMost records [] (rewriting stamp rid value)
weighs_rewritten records stamp rid value tables state places agrees holds =
    let at = All-head (λ (read : ℕ × Option (List ℕ)). state read.0 ≡ read.1) (rid, value) [] agrees in
    let same : state ≡ overlay ((rid, value) ∷ []) state = λ i r. sym (same_at rid value state at r) i in
    (places, subst (λ (s : State). StandsFor records s places tables) same holds, no_less (weight places) (all_add [] tables))

pub leaves_rewritten : (records stamp rid : ℕ) (value : Option (List ℕ)) → LeavesTables records (rewriting stamp rid value)
leaves_rewritten records stamp rid value = record { keeps = keeps_rewritten records stamp rid value; weighs = λ _. weighs_rewritten records stamp rid value }

-- ---- each answer

-- what is left of a pass, whatever the answer, at a clock that was drawn
pub record Leaves (p q : PassView) (clock : ℕ) : Type 0 where
  pub others : AddsOthers p q
  pub refusals : q.refusals ≡ p.refusals
  pub queue : q.queue ≡ p.queue
  pub at_most : q.clock ≤ clock

-- no entry was added
leaves_none : (p q : PassView) (clock now published boost : ℕ) (known : Bounds) (snapshot : Option SnapshotView) (observed : Observed) (placed : List Placed) → IsIdle p → p.clock ≤ now → now ≤ clock → q ≡ record p { post = record p.post { clock = now; published = published; bounds = known; snapshot = snapshot; observed = observed; placed = placed }; boost = boost } → Leaves p q clock
leaves_none p q clock now published boost known snapshot observed placed idle later low is = rw is (record {
  others = record {
    entries = [];
    adds = Adds-no_entry p (record p { post = record p.post { clock = now; published = published; bounds = known; snapshot = snapshot; observed = observed; placed = placed }; boost = boost }) refl refl refl idle refl later (omega arith) (omega arith);
    keep = λ entry among. absurd among;
  };
  refusals = refl;
  queue = refl;
  at_most = low;
})

-- the entry of a promotion was added
leaves_one : (p q : PassView) (rid clock : ℕ) (words : List ℕ) (observed : Observed) → IsIdle p → p.clock < clock → IsAbove p.log (stamp_of clock p.seat) → q ≡ record p { post = observing (rewritten_at p.post clock rid rid (Some words)) observed; boost = 0 } → Leaves p q clock
leaves_one p q rid clock words observed idle later above is = rw is (record {
  others = record {
    entries = entry ∷ [];
    adds = Adds-one p (record p { post = observing (rewritten_at p.post clock rid rid (Some words)) observed; boost = 0 }) entry next refl refl refl idle refl (omega arith) (omega arith) (omega arith);
    keep = λ e among. elim among as (λ _. LeavesTables p.shared.size.records e) [
      | inl same ↦ subst (λ (x : Entry). LeavesTables p.shared.size.records x) same (leaves_rewritten p.shared.size.records (stamp_of clock p.seat) rid (Some words))
      | inr none ↦ absurd none
    ];
  };
  refusals = refl;
  queue = refl;
  at_most = omega arith;
}) where
  entry : Entry
  entry = rewriting (stamp_of clock p.seat) rid (Some words)

  next : IsNext p entry
  next = record { commit_clock = λ _. omega arith; commit_log = λ _. above; snapshot_met = λ snapshot. cc; snapshot_log = λ snapshot. cc }

-- its post is this one, and its boost
over : (p q : PassView) (post : PostView) (boost : ℕ) → q ≡ record p { post = q.post; boost = boost } → q.post ≡ post → q ≡ record p { post = post; boost = boost }
over p q post boost beside is = beside ∙ ap (λ (x : PostView). record p { post = x; boost = boost }) is

leaves_told : (kept : State → Type 0) (p q : PassView) (rid clock : ℕ) (told : Result Promotion PromoteFault) → IsIdle p → p.clock < clock → IfOk told (PromotesPost kept rid clock p.post q.post) → IfErr told (FailsPost rid clock p.post q.post) → OnOk told (IsAbove p.log (stamp_of clock p.seat)) → q ≡ record p { post = q.post; boost = boost_after told p.boost } → Leaves p q clock
leaves_told kept p q rid clock (Ok (Promoted stamp)) idle later ok err above beside = leaves_one p q rid clock ok.words q.observed idle later above (over p q _ 0 beside ok.after)
leaves_told kept p q rid clock (Ok Inline) idle later ok err above beside = leaves_none p q clock clock (stamp_of clock p.seat) p.boost p.bounds None q.observed [] idle (omega arith) (omega arith) (over p q _ p.boost beside ok)
leaves_told kept p q rid clock (Ok Absent) idle later ok err above beside = leaves_none p q clock clock (stamp_of clock p.seat) p.boost p.bounds None q.observed [] idle (omega arith) (omega arith) (over p q _ p.boost beside ok)
leaves_told kept p q rid clock (Ok Occupied) idle later ok err above beside = leaves_none p q clock clock (stamp_of clock p.seat) p.boost p.bounds None q.observed [] idle (omega arith) (omega arith) (over p q _ p.boost beside ok)
leaves_told kept p q rid clock (Err fault.ClockOut) idle later ok err above beside = leaves_none p q clock p.clock p.published p.boost p.bounds p.snapshot p.observed p.placed idle (omega arith) (omega arith) (over p q p.post p.boost beside err)
leaves_told kept p q rid clock (Err (fault.Conflict conflict)) idle later ok err above beside = leaves_none p q clock clock (stamp_of clock p.seat) 1024 q.bounds None q.observed q.placed idle (omega arith) (omega arith) (over p q _ 1024 beside err.after)

pub leaves_promoted : (kept : State → Type 0) (p q : PassView) (rid clock : ℕ) (told : Result Promotion PromoteFault) → IsIdle p → p.clock < clock → Promotes kept rid clock p q told → Leaves p q clock
leaves_promoted kept p q rid clock told idle later is = leaves_told kept p q rid clock told idle later is.ok is.err is.above is.beside
