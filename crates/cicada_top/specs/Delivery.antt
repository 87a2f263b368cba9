-- THE STATUSES: what each says of a run, of what was received of the source and of what was written between two states of the sink,
-- with the order and the fault that are answered.
use Rattle.std.specs.Prelude.{◌≡◌, ◌⊎◌, ℕ, ◌<◌, List, [], ◌++◌, length, Option, None}
use Rattle.std.specs.Io.KnownBytes.{append_known}
use Rattle.replay_model.specs.declared.outcome.Placed.{Placed}
use Rattle.txn_script.specs.declared.fault.InputFault.{InputFault}
use Rattle.cicada_top.specs.declared.finish.Status.{Status}
use Rattle.cicada_top.specs.declared.finish.Status.TheVariants.{Done, Usage, Input, TooLong, ReadFault, WriteFault, NoMemory, Differs}
use Rattle.program_io.specs.declared.mode.Mode.{Mode}
use Rattle.program_io.specs.declared.mode.Mode.TheVariants.{Run, Generate, Check}
use Rattle.program_io.specs.Received.{ReceivesFor, HasReadAll}
use Rattle.cicada_top.specs.Due.{IsDueAt}

-- the text due was written whole
pub record IsWhole (status : Status) (mode : Mode) (bytes : List ℕ) (order : List Placed) (fault : Option InputFault)
    (before after : Option (List ℕ)) : Type 0 where
  pub due : List ℕ
  pub is_due : IsDueAt status mode bytes order fault due
  pub written : after ≡ append_known before due

-- the order that is answered where a text is not written whole: a verdict is not made of an order
abbrev pub order_kept : Mode → List Placed → List Placed
order_kept Run order = order
order_kept (Generate seed) order = order
order_kept Check order = []

-- a text is due, at some status, and this order is answered where it is not written whole
pub record IsDue (mode : Mode) (bytes : List ℕ) (order : List Placed) (due : List ℕ) : Type 0 where
  pub status : Status
  pub made_of : List Placed
  pub fault : Option InputFault
  pub is_due : IsDueAt status mode bytes made_of fault due
  pub kept : order ≡ order_kept mode made_of

-- of the text due, `sent` was written, and `rest` was not
pub record IsPart (mode : Mode) (bytes : List ℕ) (order : List Placed) (sent rest : List ℕ) (before after : Option (List ℕ)) : Type 0 where
  pub is_due : IsDue mode bytes order (sent ++ rest)
  pub written : after ≡ append_known before sent

-- not all of it was written
pub record StopsShort (mode : Mode) (bytes : List ℕ) (order : List Placed) (before after : Option (List ℕ)) : Type 0 where
  pub sent : List ℕ
  pub rest : List ℕ
  pub part : IsPart mode bytes order sent rest before after
  pub unfinished : 0 < length rest

-- some of it was written
pub record StopsBegun (mode : Mode) (bytes : List ℕ) (order : List Placed) (before after : Option (List ℕ)) : Type 0 where
  pub sent : List ℕ
  pub rest : List ℕ
  pub part : IsPart mode bytes order sent rest before after
  pub begun : 0 < length sent

-- nothing was written
pub record WritesNothing (order : List Placed) (fault : Option InputFault) (before after : Option (List ℕ)) : Type 0 where
  pub unordered : order ≡ []
  pub faultless : fault ≡ None
  pub kept : after ≡ before

-- what is written for the bytes that were received
abbrev pub WritesAs : Status → Mode → List ℕ → List Placed → Option InputFault → Option (List ℕ) → Option (List ℕ) → Type 0
WritesAs Done mode bytes order fault before after = IsWhole Done mode bytes order fault before after
WritesAs Usage mode bytes order fault before after = ⊥
WritesAs Input mode bytes order fault before after = IsWhole Input mode bytes order fault before after
WritesAs TooLong mode bytes order fault before after = IsWhole TooLong mode bytes order fault before after
WritesAs ReadFault mode bytes order fault before after = ⊥
WritesAs WriteFault mode bytes order fault before after = StopsShort mode bytes order before after × (fault ≡ None)
WritesAs NoMemory mode bytes order fault before after =
    (StopsBegun mode bytes order before after × (fault ≡ None)) ⊎ WritesNothing order fault before after
WritesAs Differs mode bytes order fault before after = IsWhole Differs mode bytes order fault before after

-- the source is at its end, where a run has one to read, at each status but for a text that is too long, of which the rest is left
abbrev pub IsReadAt : Status → Mode → Option (List ℕ) → Type 0
IsReadAt Done mode after = HasReadAll mode after
IsReadAt Usage mode after = ⊥
IsReadAt Input mode after = HasReadAll mode after
IsReadAt TooLong mode after = Unit {0}
IsReadAt ReadFault mode after = ⊥
IsReadAt WriteFault mode after = ⊥
IsReadAt NoMemory mode after = ⊥
IsReadAt Differs mode after = HasReadAll mode after

-- the bytes were received, and this was written for them
pub record Answers (status : Status) (mode : Mode) (order : List Placed) (fault : Option InputFault)
    (left left' before after : Option (List ℕ)) : Type 0 where
  pub bytes : List ℕ
  pub received : ReceivesFor mode left left' bytes
  pub writes : WritesAs status mode bytes order fault before after

-- THE TABLE
abbrev pub EndsAs : Status → Mode → List Placed → Option InputFault → Option (List ℕ) → Option (List ℕ) → Option (List ℕ) → Option (List ℕ) → Type 0
EndsAs Done mode order fault left left' before after = Answers Done mode order fault left left' before after × IsReadAt Done mode left'
EndsAs Usage mode order fault left left' before after = WritesNothing order fault before after
EndsAs Input mode order fault left left' before after = Answers Input mode order fault left left' before after × IsReadAt Input mode left'
EndsAs TooLong mode order fault left left' before after = Answers TooLong mode order fault left left' before after
EndsAs ReadFault mode order fault left left' before after = WritesNothing order fault before after
EndsAs WriteFault mode order fault left left' before after = Answers WriteFault mode order fault left left' before after
EndsAs NoMemory mode order fault left left' before after =
    Answers NoMemory mode order fault left left' before after ⊎ WritesNothing order fault before after
EndsAs Differs mode order fault left left' before after = Answers Differs mode order fault left left' before after × IsReadAt Differs mode left'
