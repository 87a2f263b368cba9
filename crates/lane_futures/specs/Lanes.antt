-- Several lanes on one pass: whose turn it is, what a turn makes of them, and what they come to.
use Rattle.std.specs.Prelude.{◌≡◌, ◌≢◌, ◌⊎◌, ℕ, ◌+◌, ◌*◌, ◌<◌, ◌≤◌, List, [], ◌∷◌, All, length, map, sum_by, slice_get, slice_set, Option, None, Some}
use Rattle.std.specs.Option.{IsSomeAnd}
use Rattle.plain_data.specs.declared.entry.Entry.{Entry}
use Rattle.txn_engine.specs.Pass.{PassView}
use Rattle.lane_runner.specs.declared.done.LaneDone.{LaneDone}
use Rattle.lane_runner.specs.declared.turn.Turn.{Turn}
use Rattle.lane_runner.specs.Room.{HasRoom, clock_after}
use Rattle.lane_runner.specs.Adds.{Adds}
use Rattle.lane_threads.specs.Merges.{IsMerge}
use Rattle.lane_runner.specs.Session.{SessionView, to_try, done_of, Attempts, drawn_by, tries_left, draws_left, GoesOn}

-- the pass, the sessions, and the place from which the next turn looks for one with a block to try
pub record LanesView : Type 0 where
  pub pass : PassView
  pub sessions : List SessionView
  pub next : ℕ

-- it has no block to try
abbrev pub IsOver : SessionView → Type 0
IsOver s = to_try s ≡ []

abbrev pub AreOver : LanesView → Type 0
AreOver l = All IsOver l.sessions

-- one of the sessions has a block to try
pub record HasOne (sessions : List SessionView) : Type 0 where
  pub place : ℕ
  pub session : SessionView
  pub there : slice_get sessions place ≡ Some session
  pub has_block : to_try session ≢ []

-- how many tries there are of all blocks, how many there may still be, and how many stamps these draw at most
abbrev pub all_tries : List SessionView → ℕ
all_tries sessions = sum_by (λ (s : SessionView). length s.left * s.tries) sessions

abbrev pub all_tries_left : List SessionView → ℕ
all_tries_left sessions = sum_by tries_left sessions

abbrev pub all_draws_left : List SessionView → ℕ
all_draws_left sessions = sum_by draws_left sessions

-- how many tries there may still be of lanes, once they are given up none
abbrev pub tries_there : Option LanesView → ℕ
tries_there None = 0
tries_there (Some l) = all_tries_left l.sessions

-- the pass has room for these
abbrev pub HasRoomLeft : LanesView → Type 0
HasRoomLeft l = HasRoom l.pass.clock (all_draws_left l.sessions)

-- ---- a turn

-- going on from a place, and round, one comes to j before i
abbrev pub ComesBefore : (next j i : ℕ) → Type 0
ComesBefore next j i = ((next ≤ j) × (j < i)) ⊎ ((i < next) × ((next ≤ j) ⊎ (j < i)))

-- the first session with a block to try, from a place on and round
pub record IsInTurn (next : ℕ) (sessions : List SessionView) (place : ℕ) : Type 0 where
  pub session : SessionView
  pub there : slice_get sessions place ≡ Some session
  pub has_block : to_try session ≢ []
  pub first : (j : ℕ) (other : SessionView) → slice_get sessions j ≡ Some other → ComesBefore next j place → IsOver other

-- one try was made, of the session in turn
pub record TakesTurn (before after' : LanesView) : Type 0 where
  pub place : ℕ
  pub in_turn : IsInTurn before.next before.sessions place
  pub answer : Turn
  pub session : SessionView
  pub attempts : Attempts answer in_turn.session session before.pass after'.pass
  pub clock : after'.pass.clock ≤ clock_after before.pass.clock (drawn_by answer)
  pub sessions_are : after'.sessions ≡ slice_set before.sessions place session
  pub next_is : after'.next ≡ place + 1

-- where no session has a block to try, nothing was done
abbrev pub MakesTurn : (before after' : LanesView) → Type 0
MakesTurn before after' = TakesTurn before after' ⊎ (AreOver before × (after' ≡ before))

-- ---- turn behind turn

-- these are the entries of sessions, those of each in their order: each session went on with its own, at this seat
pub data AreOfSessions (records seat : ℕ) : List Entry → List SessionView → List SessionView → Type 0 where
  none : AreOfSessions records seat [] [] []
  next : (entries more all : List Entry) (s s' : SessionView) (ss ss' : List SessionView)
      → IsMerge entries more all → GoesOn records seat entries s s' → AreOfSessions records seat more ss ss'
      → AreOfSessions records seat all (s ∷ ss) (s' ∷ ss')

-- how often the next blocks of sessions were refused
abbrev pub all_refused : List SessionView → ℕ
all_refused sessions = sum_by (λ (s : SessionView). s.refused) sessions

-- the sessions went on, each by the entries of its own blocks; no more stamps were drawn than their tries may draw, and the pass was
-- refused as often as they were
pub record Leads (before after' : LanesView) : Type 0 where
  pub entries : List Entry
  pub adds : Adds before.pass after'.pass entries
  pub are_of_sessions : AreOfSessions before.pass.shared.size.records before.pass.seat entries before.sessions after'.sessions
  pub clock : clock_after after'.pass.clock (all_draws_left after'.sessions) ≤ clock_after before.pass.clock (all_draws_left before.sessions)
  pub refusals : before.pass.refusals + all_refused after'.sessions ≤ after'.pass.refusals + all_refused before.sessions

-- what lanes come to: a pass and, session by session, the results of its first blocks and the blocks that remain
pub record ComeTo (lanes : LanesView) (pass : PassView) (done : List LaneDone) : Type 0 where
  pub last : LanesView
  pub leads : Leads lanes last
  pub over : AreOver last
  pub pass_is : pass ≡ last.pass
  pub done_is : done ≡ map done_of last.sessions

-- what the later lanes come to, the earlier ones come to; so it is of turn behind turn
abbrev pub ComeToTheSame : (before after' : Option LanesView) → Type 0
ComeToTheSame before after' = (pass : PassView) (done : List LaneDone) → IsSomeAnd after' (λ l. ComeTo l pass done) → IsSomeAnd before (λ l. ComeTo l pass done)

-- one turn was made, behind which no session has a block to try, and this is what the lanes come to
pub record TurnsLast (lanes : LanesView) (pass : PassView) (done : List LaneDone) : Type 0 where
  pub last : LanesView
  pub turns : MakesTurn lanes last
  pub over : AreOver last
  pub pass_is : pass ≡ last.pass
  pub done_is : done ≡ map done_of last.sessions

-- both are there, and so related
abbrev pub BothThere : (LanesView → LanesView → Type 0) → Option LanesView → Option LanesView → Type 0
BothThere R before after' = IsSomeAnd before (λ l. IsSomeAnd after' (R l))
