-- States of records, and how they agree with what was read and written.
use Rattle.std.specs.Prelude.{◌≡◌, ◌≢◌, ℕ, true, ◌^◌, ◌<◌, ◌≤◌, ◌==◌, if◌then◌else◌, List, [], ◌∷◌, length, All, AllPairs, Option, None, IfSome}
use Rattle.plain_data.specs.declared.entry.Entry.{Entry}

-- the value of a record: 32 words of 64 bits
pub record IsCells (words : List ℕ) : Type 0 where
  pub count : length words ≡ 32
  pub fit : All (λ word. word < 2 ^ 64) words

-- each record stands once, is below `records`, and has a value of 32 words or none
pub record AreValues (records : ℕ) (values : List (ℕ × Option (List ℕ))) : Type 0 where
  pub once : AllPairs (λ a b. a.0 ≢ b.0) values
  pub in_range : All (λ value. value.0 < records) values
  pub cells : All (λ value. IfSome value.1 IsCells) values

-- an entry of a history over so many records; a snapshot has no writes
pub record IsEntry (records : ℕ) (entry : Entry) : Type 0 where
  pub reads : AreValues records entry.reads
  pub writes : AreValues records entry.writes
  pub snapshot : entry.snapshot ≡ true → entry.writes ≡ []

-- the value of each record; `None` is an absent record
abbrev pub State : Type 0
State = ℕ → Option (List ℕ)

-- every record is absent
abbrev pub empty_state : State
empty_state record_number = None

-- a state of this many records: those from there on are absent
pub record IsState (records : ℕ) (state : State) : Type 0 where
  pub absent : (rid : ℕ) → records ≤ rid → state rid ≡ None
  pub cells : (rid : ℕ) → IfSome (state rid) IsCells

-- each value read is the state's
abbrev pub Agrees : State → List (ℕ × Option (List ℕ)) → Type 0
Agrees state reads = All (λ read. state read.0 ≡ read.1) reads

-- the state with the writes laid over it; of two writes of one record the first counts
abbrev pub overlay : List (ℕ × Option (List ℕ)) → State → State
overlay [] state rid = state rid
overlay (write ∷ writes) state rid = if rid == write.0 then write.1 else overlay writes state rid

-- from each kept state that agrees with its reads, the entry's writes leave a kept state
abbrev pub Fits : (State → Type 0) → ℕ → Entry → Type 0
Fits kept records entry =
    (state : State) → IsState records state → kept state → Agrees state entry.reads → kept (overlay entry.writes state)
