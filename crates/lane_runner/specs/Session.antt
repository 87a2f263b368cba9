-- A lane of which one block after another is tried, a try at a time: how far it is, and what a try makes of it.
use Rattle.std.specs.Prelude.{◌≡◌, ◌≢◌, ℕ, ◌+◌, ◌-◌, ◌*◌, ◌≤◌, min, nat_le, if◌then◌else◌, List, [], ◌∷◌, ◌++◌, length}
use Rattle.plain_data.specs.declared.entry.Entry.{Entry}
use Rattle.replay_model.specs.declared.input.Block.{Block}
use Rattle.replay_model.specs.declared.outcome.Outcome.{Outcome}
use Rattle.replay_model.specs.declared.outcome.Placed.{Placed}
use Rattle.lane_queue.specs.declared.lane.Lane.{Lane}
use Rattle.txn_engine.specs.Pass.{PassView}
use Rattle.lane_runner.specs.declared.done.LaneDone.{LaneDone}
use Rattle.lane_runner.specs.declared.turn.Turn.{Turn as Answer}
use Rattle.lane_runner.specs.declared.turn.Turn.TheVariants.{Outcome as HasEnded, Again, Kept, Over}
use Rattle.lane_runner.specs.Adds.{Adds}
use Rattle.lane_runner.specs.Room.{clock_after}
use Rattle.lane_runner.specs.Blocks.{AreOfSeat, IsOfSeat, IsRefused}
use Rattle.lane_runner.specs.Lanes.{AreEntries}

-- The number of the lane, how often each transaction block may be tried, the results so far, the blocks without one, and how often the
-- first of these was refused.
pub record SessionView : Type 0 where
  pub lane : ℕ
  pub tries : ℕ
  pub results : List (Placed × Outcome)
  pub left : List Block
  pub refused : ℕ

-- none has been tried
abbrev pub new_session : Lane → (tries : ℕ) → SessionView
new_session lane tries = record { lane = lane.number; tries = tries; results = []; left = lane.blocks; refused = 0 }

-- the blocks that it has to try: none, once the first of them was refused so often
abbrev pub to_try : SessionView → List Block
to_try s = if nat_le s.tries s.refused then [] else s.left

-- what it comes to
abbrev pub done_of : SessionView → LaneDone
done_of s = record { lane = s.lane; results = s.results; rest = s.left }

-- ---- a try

-- the next block has its result, behind the earlier ones and at the seat of the pass; its entry was added to the pass, and none but it that
-- changes the tables; one refusal was counted at most
pub record GivesOutcome (before after' : SessionView) (p q : PassView) : Type 0 where
  pub block : Block
  pub more : List Block
  pub result : Placed × Outcome
  pub next_is : to_try before ≡ block ∷ more
  pub session_is : after' ≡ record before { results = before.results ++ result ∷ []; left = more; refused = 0 }
  pub entries : List Entry
  pub are_entries : AreEntries p.shared.size.records entries (block ∷ []) (result ∷ [])
  pub seat : IsOfSeat p.seat result.0
  pub adds : Adds p q entries
  pub once : q.refusals ≤ p.refusals + 1

-- the next block was refused once more, and so was the pass; no entry was added
pub record IsRefusedAgain (before after' : SessionView) (p q : PassView) : Type 0 where
  pub had_block : to_try before ≢ []
  pub session_is : after' ≡ record before { refused = before.refused + 1 }
  pub refused : IsRefused 1 p q

-- what each answer says of the session and of the pass
abbrev pub Attempts : Answer → (before after' : SessionView) (p q : PassView) → Type 0
Attempts HasEnded before after' p q = GivesOutcome before after' p q
Attempts Again before after' p q = IsRefusedAgain before after' p q × (to_try after' ≢ [])
Attempts Kept before after' p q = IsRefusedAgain before after' p q × (to_try after' ≡ [])
Attempts Over before after' p q = (to_try before ≡ []) × (after' ≡ before) × (q ≡ p)

-- how many stamps it draws at most: one for the try, and one for a promotion behind an outcome
abbrev pub drawn_by : Answer → ℕ
drawn_by HasEnded = 2
drawn_by Again = 1
drawn_by Kept = 1
drawn_by Over = 0

-- ---- try behind try

-- how many tries there may still be, and how many stamps they draw at most
abbrev pub tries_left : SessionView → ℕ
tries_left s = length (to_try s) * s.tries - s.refused

abbrev pub draws_left : SessionView → ℕ
draws_left s = length (to_try s) * (s.tries + 2) - s.refused

-- how many the next try draws at most: two where there is a block to try, and else none
abbrev pub draws_next : SessionView → ℕ
draws_next s = min 2 (draws_left s)

-- the first of the blocks that were left have their results, behind the earlier ones and at this seat, with these entries in their order
pub record GoesOn (records seat : ℕ) (entries : List Entry) (before after' : SessionView) : Type 0 where
  pub lane : after'.lane ≡ before.lane
  pub tries : after'.tries ≡ before.tries
  pub done : List Block
  pub more : List (Placed × Outcome)
  pub left_is : before.left ≡ done ++ after'.left
  pub results_are : after'.results ≡ before.results ++ more
  pub are_entries : AreEntries records entries done more
  pub seats : AreOfSeat seat more

-- From one pass and one session to another: these entries were added, no more stamps were drawn than the tries between them may draw and so many
-- beside, and the pass was refused at least as often as the session. Where there was room for all draws that were left and for those beside,
-- there is room for those that are left.
pub record LeadsOn (beside : ℕ) (p q : PassView) (before after' : SessionView) : Type 0 where
  pub entries : List Entry
  pub adds : Adds p q entries
  pub goes : GoesOn p.shared.size.records p.seat entries before after'
  pub clock : clock_after q.clock (draws_left after') ≤ clock_after p.clock (draws_left before + beside)
  pub refusals : p.refusals + after'.refused ≤ q.refusals + before.refused
