-- Dumps beside the results of the worker that makes them.
use Rattle.std.proofs.Common.{◌≡◌, ◌≢◌, inl, inr, ℕ, zero, suc, ◌+◌, ◌-◌, ◌<◌, ◌≤◌, true, false, List, [], ◌∷◌, ◌++◌, All, length, refl, sym, ap, subst, ◌∙◌, arith}
use Rattle.std.proofs.lemmas.List.{append-nil, append_assoc, length-append}
use Rattle.std.proofs.lemmas.List.Elements.{All-nil, All-cons, All-append, All-weaker}
use Rattle.plain_data.specs.declared.entry.Entry.{Entry}
use Rattle.core_rule.specs.Views.{Among}
use Rattle.replay_model.specs.declared.input.Block.{Block}
use Rattle.replay_model.specs.declared.outcome.Outcome.{Outcome}
use Rattle.replay_model.specs.declared.outcome.Placed.{Placed}
use Rattle.stamp_base.specs.Stamp.{stamp_of, bound_of_clock}
use Rattle.txn_engine.specs.Pass.{PassView}
use Rattle.lane_queue.specs.declared.lane.Lane.{Lane}
use Rattle.lane_runner.specs.declared.done.LaneDone.{LaneDone}
use Rattle.lane_runner.specs.declared.turn.Turn.{Turn as Answer}
use Rattle.lane_runner.specs.declared.turn.Turn.TheVariants.{Outcome as HasEnded, Again, Kept, Over}
use Rattle.lane_runner.specs.Adds.{Adds, IsNext}
use Rattle.lane_runner.specs.Done.{DoesLane}
use Rattle.lane_runner.specs.Lanes.{AreEntries}
use Rattle.lane_runner.specs.Session.{SessionView, Attempts, GivesOutcome}
use Rattle.lane_runner.proofs.Results.{HasEntry, entry_of_result}
use Rattle.lane_threads.specs.Seen.{IsRead}
use Rattle.snap_dump.specs.declared.dump.Dump.{Dump}
use Rattle.lane_threads.specs.Beside.{IsAboveReading, StandBeside}
use Rattle.snap_dump.specs.Beside.{AreBeside}
use Rattle.snap_dump.specs.Dumps.{seen_in, seen_of}

-- ---- lists

abbrev Result : Type 0
Result = Placed × Outcome

-- results behind others, each above each dump
others_behind : (dumps : List Dump) (results others : List Result) → All (λ (d : Dump). All (IsAboveReading (seen_of d)) others) dumps → StandBeside (seen_in dumps) results → StandBeside (seen_in dumps) (results ++ others)
others_behind [] results others above stand = tt
others_behind (d ∷ dumps) [] others above stand = absurd stand
others_behind (d ∷ dumps) (r ∷ results) others above stand =
    (All-append (IsAboveReading (seen_of d)) results others stand.0 (above zero d (omega arith)), others_behind dumps results others (λ k x within. above (suc k) x (omega (arith, within))) stand.1)

-- dumps beside results, and others beside others
both_behind : (dumps fresh : List Dump) (results others : List Result) → length dumps ≡ length results → All (λ (d : Dump). All (IsAboveReading (seen_of d)) others) dumps → StandBeside (seen_in dumps) results → StandBeside (seen_in fresh) others → StandBeside (seen_in (dumps ++ fresh)) (results ++ others)
both_behind [] fresh [] others count above stand more = more
both_behind [] fresh (r ∷ results) others count above stand more = absurd (omega (arith, count))
both_behind (d ∷ dumps) fresh [] others count above stand more = absurd stand
both_behind (d ∷ dumps) fresh (r ∷ results) others count above stand more =
    (All-append (IsAboveReading (seen_of d)) results others stand.0 (above zero d (omega arith)), both_behind dumps fresh results others (omega (arith, count)) (λ k x within. above (suc k) x (omega (arith, within))) stand.1 more)

pub beside_none : (due : ℕ) (old : List Dump) → AreBeside due old [] []
beside_none due old = record { stand = tt; within = omega arith; all = λ few. refl }

-- dumps and results behind others
pub beside_then : (due : ℕ) (old more fresh : List Dump) (results others : List Result) → All (λ (d : Dump). All (IsAboveReading (seen_of d)) others) more → AreBeside due old more results → AreBeside due (old ++ more) fresh others
    → AreBeside due old (more ++ fresh) (results ++ others)
beside_then due old more [] results others above is next = record {
  stand = subst (λ (ds : List Dump). StandBeside (seen_in ds) (results ++ others)) (sym (append-nil more)) (others_behind more results others above is.stand);
  within = (let same = ap (λ (ds : List Dump). length ds) (append-nil more) in let low = is.within in omega (arith, same, low));
  all = λ few.
      let same = ap (λ (ds : List Dump). length ds) (append-nil more) in
      let front = length-append old more in
      let first = is.all (omega (arith, few, same)) in
      let second = next.all (omega (arith, few, same, front)) in
      let sum = length-append results others in
      omega (arith, same, first, second, sum);
}
beside_then due old more (f ∷ fs) results others above is next =
    let front = length-append old more in
    let some = next.within in
    let low = is.within in
    let full : length more ≡ length results = is.all (omega (arith, front, some, low)) in
    let sum = length-append more (f ∷ fs) in
    record {
      stand = both_behind more (f ∷ fs) results others full above is.stand next.stand;
      within = omega (arith, front, some, low, sum);
      all = λ few. let second = next.all (omega (arith, few, sum, front)) in let both = length-append results others in omega (arith, sum, full, second, both);
    }

-- ---- a try, and a dump behind it

-- one outcome, and the dump behind it while dumps are due
one_outcome : (due : ℕ) (front fresh : List Dump) (result : Result) → (length front < due → length fresh ≡ 1) → length fresh ≤ due - length front → AreBeside due front fresh (result ∷ [])
one_outcome due front [] result one within = record { stand = tt; within = omega arith; all = λ few. absurd (let bad : 0 ≡ 1 = one (omega (arith, few)) in omega (arith, bad)) }
one_outcome due front (d ∷ []) result one within = record { stand = (All-nil (IsAboveReading (seen_of d)), tt); within = omega (arith, within); all = λ few. refl }
one_outcome due front (d ∷ d' ∷ ds) result one within = absurd (let bad : length (d ∷ d' ∷ ds) ≡ 1 = one (omega (arith, within)) in omega (arith, bad))

-- a result is above a dump that was made at an earlier pass
above_one : (m : ℕ) (q r : PassView) (d : Dump) (entries : List Entry) (blocks : List Block) (results : List Result) (result : Result) → q.seat < 64 → Adds q r entries → AreEntries q.shared.size.records entries blocks results → Among result results
    → IsRead m q (seen_of d) → IsAboveReading (seen_of d) result
above_one m q r d entries blocks results result seat adds are among is commit =
    let h = entry_of_result q.shared.size.records entries blocks results result are among in
    let kind : h.entry.snapshot ≡ false = h.is_result.is_entry.kind ∙ commit in
    let low = (adds.each h.entry h.among).commit_clock kind in
    let stamp = h.is_result.is_entry.stamp in
    let up = is.up_to in
    omega (arith, low, stamp, up, seat)

nothing : (ds : List Dump) → length ds ≡ 0 → ds ≡ []
nothing [] none = refl
nothing (d ∷ ds) none = absurd (omega (arith, none))

no_more : (due : ℕ) (old more fresh : List Dump) (results results' : List Result) → results' ≡ results → length fresh ≡ 0 → AreBeside due old more results → AreBeside due old (more ++ fresh) results'
no_more due old more fresh results results' same none is =
    subst (λ (rs : List Result). AreBeside due old (more ++ fresh) rs) (sym same)
    (subst (λ (ds : List Dump). AreBeside due old ds results) (sym (append-nil more) ∙ ap (λ (ds : List Dump). more ++ ds) (sym (nothing fresh none))) is)

pub beside_next : (turn : Answer) (m due : ℕ) (q r : PassView) (s s' : SessionView) (old more fresh : List Dump) → q.seat < 64 → Attempts turn s s' q r → All (λ (d : Dump). IsRead m q (seen_of d)) more
    → (turn ≡ HasEnded → length (old ++ more) < due → length fresh ≡ 1) → (turn ≢ HasEnded → length fresh ≡ 0) → length fresh ≤ due - length (old ++ more)
    → AreBeside due old more s.results → AreBeside due old (more ++ fresh) s'.results
beside_next HasEnded m due q r s s' old more fresh seat gives each one none within is =
    let all : All (λ (d : Dump). All (IsAboveReading (seen_of d)) (gives.result ∷ [])) more = All-weaker (λ (d : Dump). IsRead m q (seen_of d)) (λ (d : Dump). All (IsAboveReading (seen_of d)) (gives.result ∷ []))
    (λ d at. All-cons (IsAboveReading (seen_of d)) gives.result [] (above_one m q r d gives.entries (gives.block ∷ []) (gives.result ∷ []) gives.result seat gives.adds gives.are_entries (inl refl) at) (All-nil (IsAboveReading (seen_of d)))) more each in
    subst (λ (rs : List Result). AreBeside due old (more ++ fresh) rs) (sym (ap (λ (x : SessionView). x.results) gives.session_is))
    (beside_then due old more fresh s.results (gives.result ∷ []) all is (one_outcome due (old ++ more) fresh gives.result (one refl) within))
beside_next Again m due q r s s' old more fresh seat tried each one none within is = no_more due old more fresh s.results s'.results (ap (λ (x : SessionView). x.results) tried.0.session_is) (none (λ same. cc)) is
beside_next Kept m due q r s s' old more fresh seat tried each one none within is = no_more due old more fresh s.results s'.results (ap (λ (x : SessionView). x.results) tried.0.session_is) (none (λ same. cc)) is
beside_next Over m due q r s s' old more fresh seat over each one none within is = no_more due old more fresh s.results s'.results (ap (λ (x : SessionView). x.results) over.1) (none (λ same. cc)) is

-- ---- lane behind lane

dump_below : (m : ℕ) (q r : PassView) (d : Dump) (entries : List Entry) (blocks : List Block) (results part : List Result) → ((x : Result) → Among x part → Among x results) → q.seat < 64 → Adds q r entries → AreEntries q.shared.size.records entries blocks results
    → IsRead m q (seen_of d) → All (IsAboveReading (seen_of d)) part
dump_below m q r d entries blocks results [] inside seat adds are at = All-nil (IsAboveReading (seen_of d))
dump_below m q r d entries blocks results (x ∷ part) inside seat adds are at =
    All-cons (IsAboveReading (seen_of d)) x part (above_one m q r d entries blocks results x seat adds are (inside x (inl refl)) at)
    (dump_below m q r d entries blocks results part (λ y among. inside y (inr among)) seat adds are at)

pub lane_above : (m : ℕ) (q r : PassView) (more : List Dump) (lane : Lane) (done : LaneDone) → q.seat < 64 → DoesLane lane done q r → All (λ (d : Dump). IsRead m q (seen_of d)) more → All (λ (d : Dump). All (IsAboveReading (seen_of d)) done.results) more
lane_above m q r more lane done seat does each =
    All-weaker (λ (d : Dump). IsRead m q (seen_of d)) (λ (d : Dump). All (IsAboveReading (seen_of d)) done.results)
    (λ d at. dump_below m q r d does.runs.entries does.runs.done done.results done.results (λ x among. among) seat does.runs.adds does.runs.are_entries at) more each
