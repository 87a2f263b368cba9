-- What a pass of the queue knows: plain data that exists in proofs alone.
use Rattle.std.specs.Prelude.{ℕ, ◌+◌, ◌-◌, Bool, true, false, List, [], ◌∷◌, ◌++◌}
use Rattle.crossbeam_queue.specs.Passes.{Pass, view}
use Rattle.lane_queue.specs.declared.lane.Lane.{Lane}
use Rattle.lane_queue.specs.declared.lane.Item.{Item}
use Rattle.lane_queue.specs.declared.lane.Item.TheVariants.{Next, End}

pub record View : Type 0 where
  -- how many of the 64 shares in the right to know all that was taken
  pub share : ℕ
  -- how many ends in the queue are for it
  pub ends : ℕ
  -- it has met an end
  pub ended : Bool
  -- it has taken in no other
  pub single : Bool
  -- all lanes, in their order
  pub lanes : List Lane
  -- the lanes that it took, in the order in which it took them
  pub took : List Lane

-- the view of a pass
abbrev pub known : Pass Item View → View
known pass = view pass

-- the view of the pass that a new queue comes with, and that of a pass which another has taken in
abbrev pub first_view : View
first_view = record { share = 64; ends = 0; ended = false; single = true; lanes = []; took = [] }

abbrev pub spent_view : View
spent_view = record { share = 0; ends = 0; ended = false; single = false; lanes = []; took = [] }

-- after a lane or an end was put into the queue
abbrev pub put_view : View → Item → View
put_view v (Next lane) = record v { lanes = v.lanes ++ lane ∷ [] }
put_view v End = record v { ends = v.ends + 1 }

-- after a lane or an end was taken out
abbrev pub taken_view : View → Item → View
taken_view v (Next lane) = record v { took = v.took ++ lane ∷ [] }
taken_view v End = record v { ends = v.ends - 1; ended = true }

-- after one share and one end went to a new pass, and the view of that new pass
abbrev pub left_view : View → View
left_view v = record v { share = v.share - 1; ends = v.ends - 1 }

abbrev pub right_view : View → View
right_view v = record v { share = 1; ends = 1; ended = false; single = true; took = [] }

-- after one pass has taken in what another knows
abbrev pub both_views : View → View → View
both_views v w = record v { share = v.share + w.share; ends = v.ends + w.ends; single = false; took = v.took ++ w.took }

-- the view that put these lanes and this many ends into the queue, and has dealt no pass
abbrev pub filled_view : List Lane → ℕ → View
filled_view lanes ends = record { share = 64; ends = ends; ended = false; single = true; lanes = lanes; took = [] }

-- the same after this many passes were dealt
abbrev pub dealing_view : List Lane → ℕ → ℕ → View
dealing_view lanes dealt ends = record { share = 64 - dealt; ends = ends - dealt; ended = false; single = true; lanes = lanes; took = [] }
