-- Readings, each by its entry, and what they are in a lawful history.
use Rattle.std.proofs.Common.{◌≡◌, ℕ, zero, suc, ◌+◌, ◌<◌, ◌≤◌, true, false, List, [], ◌∷◌, ◌++◌, All, sym, subst, arith}
use Rattle.std.proofs.lemmas.List.Elements.{All-append, All-weaker, All-contains}
use Rattle.std.proofs.lemmas.List.Kept.{AllPairs-cons}
use Rattle.plain_data.specs.declared.entry.Entry.{Entry}
use Rattle.plain_data.specs.State.{State, Agrees}
use Rattle.core_rule.specs.Views.{AllIn}
use Rattle.histories.specs.History.{Lawful, LeavesKept, Leaves, Before, UpTo}
use Rattle.histories.specs.Laws.{LawfulHasStates}
use Rattle.histories.proofs.States.{time-commit, time-snapshot, IsValue-same}
use Rattle.history_replay.specs.Results.{StandsForSome}
use Rattle.replay_model.specs.TableMap.{TableMap}
use Rattle.txn_engine.specs.Pass.{EngineView, PassView, engine_of}
use Rattle.txn_engine.specs.Alone.{AloneView}
use Rattle.lane_runner.specs.Rows.{stands}
use Rattle.lane_runner.proofs.Elements.{contains_of}
use Rattle.lane_threads.specs.Seen.{IsEntered, IsReadingOf, IsRead, IsSeen, NeverFall, met_first, ReadingsAreSeen}

-- ---- at a later pass, whose log has more

pub entered_later : (p q : PassView) (reading : ℕ × TableMap) → engine_of q ≡ engine_of p → AllIn p.log q.log → IsEntered p.shared.size.records p.log reading → IsEntered q.shared.size.records q.log reading
entered_later p q reading engine logs is = record {
  entry = is.entry;
  in_log = logs is.entry is.in_log;
  is_reading = subst (λ (e : EngineView). IsReadingOf e.size.records reading is.entry) (sym engine) is.is_reading;
}

pub read_later : (m m' : ℕ) (p q : PassView) → m' ≤ m → engine_of q ≡ engine_of p → q.seat ≡ p.seat → AllIn p.log q.log → p.clock ≤ q.clock → p.met ≤ q.met → (readings : List (ℕ × TableMap)) → All (IsRead m p) readings → All (IsRead m' q) readings
read_later m m' p q low engine seat logs clock met readings each = All-weaker (IsRead m p) (IsRead m' q) (λ x is. record {
  entered = entered_later p q x engine logs is.entered;
  up_to = let to = is.up_to in omega arith;
  behind = let above = is.behind in omega arith;
  below = let under = is.below in omega arith;
}) readings each

-- ---- in their order

-- readings behind others that were below a minimum
pub never_fall-append : (met : ℕ) (xs ys : List (ℕ × TableMap)) → NeverFall xs → NeverFall ys → All (λ x. x.0 < met) xs → All (λ y. met ≤ y.0 + 1) ys → NeverFall (xs ++ ys)
never_fall-append met [] ys first second below behind = second
never_fall-append met (x ∷ xs) ys first second below behind =
    AllPairs-cons (λ (a b : ℕ × TableMap). a.0 ≤ b.0) x (xs ++ ys)
    (All-append (λ (b : ℕ × TableMap). x.0 ≤ b.0) xs ys
    (λ k d within. first zero (suc k) d (omega arith) (omega (arith, within)))
    (λ k d within. let low : x.0 < met = below 0 x (omega arith) in let above = behind k d within in omega arith))
    (never_fall-append met xs ys (λ i j d less within. first (suc i) (suc j) d (omega (arith, less)) (omega (arith, within))) second (λ k d within. below (suc k) d (omega (arith, within))) behind)

-- those that were read at a pass behind those that it had read before
pub reads_behind : (m : ℕ) (p q : PassView) (earlier more : List (ℕ × TableMap)) → All (IsRead m p) earlier → All (IsRead p.met q) more → NeverFall earlier → NeverFall more → NeverFall (earlier ++ more)
reads_behind m p q earlier more before each first second =
    never_fall-append p.met earlier more first second
    (All-weaker (IsRead m p) (λ (x : ℕ × TableMap). x.0 < p.met) (λ x is. is.below) earlier before)
    (All-weaker (IsRead p.met q) (λ (y : ℕ × TableMap). p.met ≤ y.0 + 1) (λ y is. is.behind) more each)

-- ---- in a lawful history

-- commit entries before a snapshot entry are those up to its stamp
up_to : (log : List Entry) (entry e : Entry) → entry.snapshot ≡ true → e.snapshot ≡ false → Before log entry e → UpTo log entry.stamp e
up_to log entry e snapshot commit before = (before.0, (let t = before.1 in omega (arith, t, time-commit e commit, time-snapshot entry snapshot)))

earlier : (log : List Entry) (entry e : Entry) → entry.snapshot ≡ true → e.snapshot ≡ false → UpTo log entry.stamp e → Before log entry e
earlier log entry e snapshot commit up = (up.0, (let t = up.1 in omega (arith, t, time-commit e commit, time-snapshot entry snapshot)))

seen_at : LawfulHasStates (StandsForSome stands) → (passes : List PassView) (alone : AloneView) (reading : ℕ × TableMap)
    → Lawful (StandsForSome stands) alone.pass.shared.size.records alone.pass.log → IsRead (met_first passes) alone.pass reading → IsSeen passes alone reading
seen_at has passes alone reading lawful read =
    let log = alone.pass.log in
    let entry = read.entered.entry in
    let is = read.entered.is_reading in
    let Met : Entry → Type 0 = λ e. (before : State) × LeavesKept (StandsForSome stands) alone.pass.shared.size.records (Before log e) before × Agrees before e.reads in
    let at : Met entry = All-contains Met log entry (has alone.pass.shared.size.records log lawful).0 (contains_of log entry read.entered.in_log) in
    let left : Leaves (UpTo log entry.stamp) at.0 = λ rid. IsValue-same (Before log entry) (UpTo log entry.stamp) rid (at.0 rid)
    (λ e commit b. up_to log entry e is.kind commit b) (λ e commit u. earlier log entry e is.kind commit u) (at.1.left rid) in
    record {
      entered = read.entered;
      tables = at.1.is_kept.0;
      leaves = (at.0, subst (λ (n : ℕ). Leaves (UpTo log n) at.0) is.stamp left, at.1.is_kept.1);
      rows = is.rows at.0 at.1.is_kept.0 at.1.is_state at.1.is_kept.1 at.2;
      up_to = read.up_to;
      met = read.behind;
    }

pub readings_are_seen : LawfulHasStates (StandsForSome stands) → ReadingsAreSeen
readings_are_seen has passes alone readings lawful each = All-weaker (IsRead (met_first passes) alone.pass) (IsSeen passes alone) (λ x is. seen_at has passes alone x lawful is) readings each
