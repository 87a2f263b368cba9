-- Turn behind turn: what one of them makes of all sessions.
use Rattle.std.proofs.Common.{◌≡◌, ◌≢◌, ◌⊎◌, inl, inr, ℕ, zero, suc, ◌+◌, ◌-◌, ◌*◌, ◌<◌, ◌≤◌, Bool, true, false, leb, if◌then◌else◌, List, [], ◌∷◌, ◌++◌, length, map, get_or, Some, slice_get, set, refl, sym, ap, subst, ◌∙◌, arith}
use Rattle.std.specs.List.{sum_by}
use Rattle.std.proofs.lemmas.List.Sums.{sum_by-cons}
use Rattle.std.proofs.lemmas.Option.{same_Some, slice_get_within, get_or_from_slice_get}
use Rattle.std.proofs.lemmas.List.{map-append}
use Rattle.plain_data.specs.declared.entry.Entry.{Entry}
use Rattle.txn_engine.specs.Pass.{EngineView, PassView, IsIdle}
use Rattle.replay_model.specs.declared.input.Block.{Block}
use Rattle.lane_runner.specs.declared.done.LaneDone.{LaneDone}
use Rattle.lane_runner.specs.Lanes.{AddsSome}
use Rattle.lane_runner.specs.declared.turn.Turn.{Turn}
use Rattle.lane_runner.specs.Room.{HasRoom, clock_after}
use Rattle.lane_threads.specs.Merges.IsMerge.{none as none_merged}
use Rattle.lane_runner.specs.Session.{SessionView, to_try, done_of, Attempts, LeadsOn, drawn_by, tries_left, draws_left, draws_next, GoesOn}
use Rattle.lane_runner.proofs.Adding.{Adds-none, Adds-trans}
use Rattle.lane_threads.proofs.Merging.{merge_append, merge_behind_first, merge_behind_second}
use Rattle.lane_runner.proofs.Attempted.{goes_none, goes_trans}
use Rattle.lane_futures.specs.Lanes.{LanesView, HasRoomLeft, HasOne, all_tries, all_tries_left, all_draws_left, all_refused, IsInTurn, TakesTurn, MakesTurn, TurnsLast, AreOfSessions, Leads, ComeTo}
use Rattle.lane_futures.specs.Lanes.AreOfSessions.{none, next}

-- ---- the sessions

pub sessions_none : (records seat : ℕ) (ss : List SessionView) → AreOfSessions records seat [] ss ss
sessions_none records seat [] = none
sessions_none records seat (s ∷ ss) = next [] [] [] s s ss ss none_merged (goes_none records seat s s refl refl refl refl) (sessions_none records seat ss)

-- one of them went on
pub sessions_step : (records seat : ℕ) (es fs : List Entry) (ss ts : List SessionView) (i : ℕ) (t u : SessionView) → AreOfSessions records seat es ss ts → slice_get ts i ≡ Some t → GoesOn records seat fs t u → AreOfSessions records seat (es ++ fs) ss (set ts i u)
sessions_step records seat es fs ss ts i t u none there goes = absurd (cc)
sessions_step records seat es fs ss ts zero t u (next xs ys all s s' ss' ts' merged first rest) there goes =
    next (xs ++ fs) ys (all ++ fs) s u ss' ts' (merge_behind_first xs ys all fs merged)
    (goes_trans records seat xs fs s t u (subst (λ (x : SessionView). GoesOn records seat xs s x) (same_Some s' t there) first) goes) rest
sessions_step records seat es fs ss ts (suc i) t u (next xs ys all s s' ss' ts' merged first rest) there goes =
    next xs (ys ++ fs) (all ++ fs) s s' ss' (set ts' i u) (merge_behind_second xs ys all fs merged) first (sessions_step records seat ys fs ss' ts' i t u rest there goes)

-- a sum over them after it
pub sum_step : (f : SessionView → ℕ) (ss : List SessionView) (i : ℕ) (s t : SessionView) → slice_get ss i ≡ Some s → sum_by f (set ss i t) + f s ≡ sum_by f ss + f t
sum_step f [] i s t there = absurd (cc)
sum_step f (x ∷ ss) zero s t there =
    let same : f x ≡ f s = ap f (same_Some x s there) in
    omega (arith, same, sum_by-cons f x ss, sum_by-cons f t ss)
sum_step f (x ∷ ss) (suc i) s t there =
    let rest : sum_by f (set ss i t) + f s ≡ sum_by f ss + f t = sum_step f ss i s t there in
    omega (arith, rest, sum_by-cons f x ss, sum_by-cons f x (set ss i t))

-- ---- from lanes to lanes

pub leads_none : (l : LanesView) → IsIdle l.pass → Leads l l
leads_none l idle = record {
  entries = [];
  adds = Adds-none l.pass idle;
  are_of_sessions = sessions_none l.pass.shared.size.records l.pass.seat l.sessions;
  clock = omega arith;
  refusals = omega arith;
}

-- one session goes on
pub leads_one : (l m : LanesView) (i : ℕ) (s t : SessionView) → slice_get l.sessions i ≡ Some s → LeadsOn 0 l.pass m.pass s t → m.sessions ≡ set l.sessions i t → Leads l m
leads_one l m i s t there on is = record {
  entries = on.entries;
  adds = on.adds;
  are_of_sessions = subst (λ (ss : List SessionView). AreOfSessions l.pass.shared.size.records l.pass.seat on.entries l.sessions ss) (sym is)
      (sessions_step l.pass.shared.size.records l.pass.seat [] on.entries l.sessions l.sessions i s t (sessions_none l.pass.shared.size.records l.pass.seat l.sessions) there on.goes);
  clock = omega (arith, on.clock, sum_step draws_left l.sessions i s t there, ap all_draws_left is);
  refusals = omega (arith, on.refusals, sum_step (λ (x : SessionView). x.refused) l.sessions i s t there, ap all_refused is);
}

-- there are fewer tries then
pub fewer_one : (l m : LanesView) (i : ℕ) (s t : SessionView) → slice_get l.sessions i ≡ Some s → tries_left t < tries_left s → m.sessions ≡ set l.sessions i t → all_tries_left m.sessions < all_tries_left l.sessions
fewer_one l m i s t there fewer is = omega (arith, fewer, sum_step tries_left l.sessions i s t there, ap all_tries_left is)

-- what sessions went on by, behind what they went on by before
sessions_trans : (records seat : ℕ) (es fs : List Entry) (ss ts us : List SessionView) → AreOfSessions records seat es ss ts → AreOfSessions records seat fs ts us → AreOfSessions records seat (es ++ fs) ss us
sessions_trans records seat es fs ss ts us none none = none
sessions_trans records seat es fs ss ts us (next xs ys all s s' ss' ts' merged first rest) (next xs' ys' all' t u ts'' us' merged' second rest') =
    next (xs ++ xs') (ys ++ ys') (all ++ all') s u ss' us' (merge_append xs ys all xs' ys' all' merged merged') (goes_trans records seat xs xs' s t u first second) (sessions_trans records seat ys ys' ss' ts'' us' rest rest')

pub leads_trans : (k l m : LanesView) → Leads k l → Leads l m → Leads k m
leads_trans k l m first second = record {
  entries = first.entries ++ second.entries;
  adds = Adds-trans k.pass l.pass m.pass first.entries second.entries first.adds second.adds;
  are_of_sessions = sessions_trans k.pass.shared.size.records k.pass.seat first.entries second.entries k.sessions l.sessions m.sessions first.are_of_sessions
      (subst (λ (y : EngineView × ℕ). AreOfSessions y.0.size.records y.1 second.entries l.sessions m.sessions) (λ i. (first.adds.engine i, first.adds.seat i)) second.are_of_sessions);
  clock = omega (arith, first.clock, second.clock);
  refusals = omega (arith, first.refusals, second.refusals);
}

-- the pass has room for what is left
pub room_left : (l m : LanesView) → Leads l m → HasRoom l.pass.clock (all_draws_left l.sessions) → HasRoom m.pass.clock (all_draws_left m.sessions)
room_left l m leads room = omega (arith, leads.clock)

-- ---- room for a turn

part_of_sum : (f : SessionView → ℕ) (ss : List SessionView) (i : ℕ) (s : SessionView) → slice_get ss i ≡ Some s → f s ≤ sum_by f ss
part_of_sum f [] i s there = absurd (cc)
part_of_sum f (x ∷ ss) zero s there = let same : f x ≡ f s = ap f (same_Some x s there) in omega (arith, same, sum_by-cons f x ss)
part_of_sum f (x ∷ ss) (suc i) s there = let rest : f s ≤ sum_by f ss = part_of_sum f ss i s there in omega (arith, rest, sum_by-cons f x ss)

room_turn : (l : LanesView) (i : ℕ) (s : SessionView) → slice_get l.sessions i ≡ Some s → HasRoomLeft l → HasRoom l.pass.clock (draws_next s)
room_turn l i s there room = omega (arith, part_of_sum draws_left l.sessions i s there, room)

-- ---- the session in turn

-- it stands at its place
there_in : (l : LanesView) (place : ℕ) (turn : IsInTurn l.next l.sessions place) → place < length l.sessions
there_in l place turn = slice_get_within l.sessions place turn.session turn.there

pub place_within : (u l : LanesView) (place : ℕ) → u ≡ l → IsInTurn l.next l.sessions place → place < length u.sessions
place_within u l place same turn = subst (λ (x : LanesView). place < length x.sessions) (sym same) (there_in l place turn)

-- and is what indexing gives there
module _ (u l : LanesView) (place : ℕ) (s : SessionView) (same : u ≡ l) (turn : IsInTurn l.next l.sessions place) (is : s ≡ get_or u.sessions place s) where
  turn_here : IsInTurn u.next u.sessions place
  turn_here = subst (λ (x : LanesView). IsInTurn x.next x.sessions place) (sym same) turn

  session_is : s ≡ turn_here.session
  session_is = is ∙ get_or_from_slice_get u.sessions place turn_here.session s turn_here.there

  pub room_in_turn : HasRoomLeft l → HasRoom u.pass.clock (draws_next s)
  room_in_turn room = subst (λ (x : SessionView). HasRoom u.pass.clock (draws_next x)) (sym session_is) (room_turn u place turn_here.session turn_here.there (subst HasRoomLeft (sym same) room))

  pub takes_turn : (m : LanesView) (t : SessionView) (answer : Turn) → Attempts answer s t u.pass m.pass → m.pass.clock ≤ clock_after u.pass.clock (drawn_by answer)
      → m.sessions ≡ set u.sessions place t → m.next ≡ place + 1 → TakesTurn l m
  takes_turn m t answer attempts clock sessions next_is = subst (λ (x : LanesView). TakesTurn x m) same (record {
    place = place;
    in_turn = turn_here;
    answer = answer;
    session = t;
    attempts = subst (λ (x : SessionView). Attempts answer x t u.pass m.pass) session_is attempts;
    clock = clock;
    sessions_are = sessions;
    next_is = next_is;
  })

  pub leads_in_turn : (m : LanesView) (t : SessionView) → LeadsOn 0 u.pass m.pass s t → m.sessions ≡ set u.sessions place t → Leads l m
  leads_in_turn m t on sessions = subst (λ (x : LanesView). Leads x m) same
      (leads_one u m place turn_here.session t turn_here.there (subst (λ (x : SessionView). LeadsOn 0 u.pass m.pass x t) session_is on) sessions)

  pub fewer_in_turn : (m : LanesView) (t : SessionView) → (to_try s ≢ [] → tries_left t < tries_left s) → m.sessions ≡ set u.sessions place t → all_tries_left m.sessions < all_tries_left l.sessions
  fewer_in_turn m t fewer sessions = subst (λ (x : LanesView). all_tries_left m.sessions < all_tries_left x.sessions) same
      (fewer_one u m place turn_here.session t turn_here.there
      (subst (λ (x : SessionView). (to_try x ≢ [] → tries_left t < tries_left x)) session_is fewer turn_here.has_block) sessions)

pub adds_turn : (u l : LanesView) (q : PassView) → u ≡ l → AddsSome u.pass q → AddsSome l.pass q
adds_turn u l q same adds = subst (λ (x : LanesView). AddsSome x.pass q) same adds

pub has_one : (from place : ℕ) (sessions : List SessionView) → IsInTurn from sessions place → HasOne sessions
has_one from place sessions turn = record { place = place; session = turn.session; there = turn.there; has_block = turn.has_block }

-- what lanes come to behind some turns is what they come to
pub come_later : (l m : LanesView) (pass : PassView) (done : List LaneDone) → Leads l m → ComeTo m pass done → ComeTo l pass done
come_later l m pass done leads come = record { last = come.last; leads = leads_trans l m come.last leads come.leads; over = come.over; pass_is = come.pass_is; done_is = come.done_is }

-- ---- how many tries there may be

tries_by : (b : Bool) (left : List Block) (n k : ℕ) → length (if b then [] else left) * n - k ≤ length left * n
tries_by true left n k = omega arith
tries_by false left n k = omega arith

pub tries_of_all : (ss : List SessionView) → all_tries_left ss ≤ all_tries ss
tries_of_all [] = omega arith
tries_of_all (s ∷ ss) =
    let first : tries_left s ≤ length s.left * s.tries = tries_by (leb s.tries s.refused) s.left s.tries s.refused in
    let rest : all_tries_left ss ≤ all_tries ss = tries_of_all ss in
    omega (arith, first, rest, sum_by-cons tries_left s ss, sum_by-cons (λ (x : SessionView). length x.left * x.tries) s ss)

-- ---- what they come to, one behind the other

pub done_next : (dones dones' : List LaneDone) (ss : List SessionView) (s : SessionView) (done : LaneDone) → dones ≡ map done_of ss → dones' ≡ dones ++ done ∷ [] → done ≡ done_of s → dones' ≡ map done_of (ss ++ s ∷ [])
done_next dones dones' ss s done so_far pushed is = pushed ∙ (λ i. so_far i ++ is i ∷ []) ∙ sym (map-append done_of ss (s ∷ []))
