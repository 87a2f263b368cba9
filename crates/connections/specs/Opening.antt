-- How an engine is opened, with a connection to each of its seats.
use Rattle.std.specs.Prelude.{◌≡◌, ◌⊎◌, ℕ, ◌+◌, ◌*◌, ◌==◌, min, if◌then◌else◌, List, [], ◌∷◌, map}
use Rattle.word_layout.specs.Limits.{most_spare}
use Rattle.word_layout.specs.Size.{Size, size_of}
use Rattle.number_queue.specs.Passes.{NumberPassView, first_number_pass}
use Rattle.txn_engine.specs.Pass.{EngineView, PassView, bare, first_pass}
use Rattle.txn_engine.specs.Sharing.{HaveSeen, shares}
use Rattle.connections.specs.declared.fault.CallFault.{CallFault}
use Rattle.connections.specs.declared.fault.CallFault.TheVariants.{Range, NoMemory}
use Rattle.connections.specs.Connection.{ConnectionView, at_rest}
use Rattle.connections.specs.Handing.{Gives}

-- the places for versions that are asked for; 0 asks for what is advised
abbrev pub advised : ℕ → ℕ → ℕ
advised seats rows = min (seats * 10000 + rows) most_spare

abbrev pub spare_for : ℕ → ℕ → ℕ → ℕ
spare_for seats rows spare = if spare == 0 then advised seats rows else spare

-- how many seats, records and places: 4,112 records are those that tables have at places of their own, and 32 for each seat are those whose
-- numbers the other seats may keep to themselves
abbrev pub size_for : ℕ → ℕ → ℕ → Size
size_for seats rows spare = size_of seats (rows + 4112 + seats * 32) (spare_for seats rows spare)

-- a connection at which nothing is open, with this pass but for the numbers that it gives first
pub record IsConnected (engine : EngineView) (p : PassView) (c : ConnectionView) : Type 0 where
  pub pass : PassView
  pub numbers : NumberPassView
  pub gives : Gives 32 p pass (first_number_pass engine.fixed engine.size.records) numbers
  pub connection_is : c ≡ at_rest engine numbers pass

-- one for each pass, in their order
abbrev pub AreConnected : EngineView → List PassView → List ConnectionView → Type 0
AreConnected engine [] [] = Unit {0}
AreConnected engine [] (c ∷ cs) = ⊥
AreConnected engine (p ∷ ps) [] = ⊥
AreConnected engine (p ∷ ps) (c ∷ cs) = IsConnected engine p c × AreConnected engine ps cs

-- an engine of that size, and for each of its seats a connection at which nothing is open, by rising seat number: the passes of its first
-- seat that was shared
pub record IsOpened (seats rows spare : ℕ) (connections : List ConnectionView) : Type 0 where
  pub engine : EngineView
  pub size : engine.size ≡ size_for seats rows spare
  pub fixed : engine.fixed ≡ 4112
  pub passes : List PassView
  pub shared : map bare passes ≡ shares (first_pass engine)
  pub seen : (first : PassView) (rest : List PassView) → passes ≡ first ∷ rest → HaveSeen (first_pass engine) first rest
  pub connected : AreConnected engine passes connections

-- the allocator may have had no room
abbrev pub IsRefused : CallFault → Type 0
IsRefused f = (f ≡ Range) ⊎ (f ≡ NoMemory)
