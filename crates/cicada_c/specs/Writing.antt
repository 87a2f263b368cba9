-- What is written into a caller's arrays.
use Rattle.std.specs.Prelude.{◌≡◌, ℕ, List, [], ◌++◌, Result, Ok, Err, Option, None, Some, length, take, drop, map, min}
use Rattle.connections.specs.EachCall.{Rows}
use Rattle.replay_model.specs.TableMap.{Row}
use Rattle.connections.specs.declared.fault.CallFault.{CallFault}

-- the first so many of a list, and behind them what stood there
abbrev pub written : {T : Type 0} → ℕ → List T → List T → List T
written n front old = take n front ++ drop n old

-- how many rows there is room for
abbrev pub room_for : Rows → List ℕ → List Row → ℕ
room_for found keys rows = min (length found) (min (length keys) (length rows))

-- the first of these rows, as many as there is room for in both arrays, stand at the front of each; what stood behind them is still there
pub record WritesRows (found : Rows) (keys keys' : List ℕ) (rows rows' : List Row) : Type 0 where
  pub keys_are : keys' ≡ written (room_for found keys rows) (map (λ row. row.0) found) keys
  pub rows_are : rows' ≡ written (room_for found keys rows) (map (λ row. row.1) found) rows

-- the rows of an answer, none where it has no rows
abbrev pub rows_or_none : Result Rows CallFault → Rows
rows_or_none (Ok rows) = rows
rows_or_none (Err fault) = []

abbrev pub found_or_none : Result (Option Rows) CallFault → Rows
found_or_none (Ok (Some rows)) = rows
found_or_none (Ok None) = []
found_or_none (Err fault) = []
