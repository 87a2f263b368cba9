-- What a pass of the queue knows: plain data that exists in proofs alone.
use Rattle.std.specs.Prelude.{List, [], ◌∷◌, ◌++◌}
use Rattle.crossbeam_queue.specs.Passes.{Pass, view}
use Rattle.number_queue.specs.declared.number.Number.{Number}

pub record View : Type 0 where
  -- the numbers that it put into the queue, and those that it took out, in the order in which it did
  pub put : List Number
  pub taken : List Number

-- the view of a pass
abbrev pub known : Pass Number View → View
known pass = view pass

abbrev pub first_view : View
first_view = record { put = []; taken = [] }

-- after a number was put into the queue, and after one was taken out
abbrev pub put_view : View → Number → View
put_view v number = record v { put = v.put ++ number ∷ [] }

abbrev pub taken_view : View → Number → View
taken_view v number = record v { taken = v.taken ++ number ∷ [] }
