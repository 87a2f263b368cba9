-- How readings stand beside the blocks of the worker that makes them.
use Rattle.std.specs.Prelude.{◌≡◌, ℕ, ◌+◌, ◌<◌, ◌≤◌, ◌==◌, ◌&&◌, not, false, List, [], ◌∷◌, All, ⊤, Some, slice_get, length, filter, map}
use Rattle.stamp_base.specs.Stamp.{seat_of}
use Rattle.replay_model.specs.declared.outcome.Outcome.{Outcome}
use Rattle.replay_model.specs.declared.outcome.Placed.{Placed}
use Rattle.replay_model.specs.TableMap.{TableMap}
use Rattle.history_replay.specs.Results.{up_to}
use Rattle.lane_runner.specs.declared.done.LaneDone.{LaneDone}
use Rattle.lane_runner.specs.Finishing.{results_of}

-- ---- beside the results of the worker

-- the result is that of a snapshot, or it is stamped above the reading
abbrev pub IsAboveReading : ℕ × TableMap → Placed × Outcome → Type 0
IsAboveReading reading result = result.0.snap ≡ false → reading.0 < result.0.stamp

-- The first reading was made behind the first result and before the others, the second one behind the second and before those behind it, and
-- so on.
abbrev pub StandBeside : List (ℕ × TableMap) → List (Placed × Outcome) → Type 0
StandBeside [] results = ⊤
StandBeside (reading ∷ readings) [] = ⊥
StandBeside (reading ∷ readings) (result ∷ results) = All (IsAboveReading reading) results × StandBeside readings results

-- so it is of what a worker reads, which reads behind each result while readings are due
pub record AreBeside (due : ℕ) (readings : List (ℕ × TableMap)) (results : List (Placed × Outcome)) : Type 0 where
  pub stand : StandBeside readings results
  pub all : length readings < due → length readings ≡ length results

-- ---- beside the results of all

-- the transactions of this seat among places, as their stamps tell
abbrev pub of_seat : (seat : ℕ) → List Placed → List Placed
of_seat seat order = filter (λ (placed : Placed). not placed.snap && (seat_of placed.stamp == seat)) order

-- the places of what lanes come to
abbrev pub places_of : List LaneDone → List Placed
places_of done = map (λ (result : Placed × Outcome). result.0) (results_of done)

-- up to the stamp of the reading of number i, counted from 0, there are at most i + 1 transactions of the first seat
abbrev pub FewUpTo : List Placed → List (ℕ × TableMap) → Type 0
FewUpTo order readings =
    (i : ℕ) (reading : ℕ × TableMap) → slice_get readings i ≡ Some reading → length (up_to reading.0 (of_seat 0 order)) ≤ i + 1

-- And where readings are still due, there are no more transactions of the first seat than readings.
pub record AreFewBeside (due : ℕ) (order : List Placed) (readings : List (ℕ × TableMap)) : Type 0 where
  pub few : FewUpTo order readings
  pub all : length readings < due → length (of_seat 0 order) ≤ length readings
