-- What a seat knows: plain data that exists in proofs alone. Only the seat's own steps change its view, splitting and joining aside.
use Rattle.std.specs.Prelude.{ℕ, Bool, true, false, List, [], Option, Some, None}
use Rattle.word_layout.specs.Name.{Name}
use Rattle.word_layout.specs.Size.{Size, size_of}
use Rattle.stamp_base.specs.Limits.{end_of_stamps}

-- the clock, the last stamp drawn (0 before the first), all stamps drawn or heard, the greatest `min_wts` met, and the seats
-- that were taken in
pub record Clock : Type 0 where
  pub clock : ℕ
  pub drawn : ℕ
  pub known : List ℕ
  pub met : ℕ
  pub taken_in : List ℕ

-- what the seat's two published words hold
pub record Published : Type 0 where
  pub write : ℕ
  pub read : ℕ

-- whether a transaction's stamp is in flight
pub data Flight : Type 0 where
  resting : Flight
  writing : (stamp : ℕ) → Flight

-- how far the seats below `next` have been loaded for a minimum, and the least word that was loaded of them
pub record Scan : Type 0 where
  pub next : ℕ
  pub least : ℕ

-- the raise of each minimum that is in work
pub record Raises : Type 0 where
  pub writes : Scan
  pub reads : Scan

-- how this seat makes other seats
pub data Splitting : Type 0 where
  -- no other seat was made
  single : Splitting
  -- the seats below `made` were made
  sharing : (made : ℕ) → Splitting
  -- the same, and the published write word of seat `made` was stored
  offers_write : (made : ℕ) → Splitting
  -- the same, and its published read word too
  offers_both : (made : ℕ) → Splitting
  -- it was made itself, and makes none
  shared : Splitting

-- what stands of a version in a place: its write stamp, whether the read stamp was set to 0, and its first cells, each stored or
-- met there
pub record Fill : Type 0 where
  pub place : ℕ
  pub stamp : ℕ
  pub reset : Bool
  pub cells : List ℕ

-- the places held, what is stored in them (the fill in work first), and the last usable pool place that was taken
pub record Places : Type 0 where
  pub held : List ℕ
  pub fills : List Fill
  pub last_pool : Option ℕ

-- a version that is marked pending: its record, its place, its write stamp, and its cells
pub record Write : Type 0 where
  pub record_number : ℕ
  pub place : ℕ
  pub stamp : ℕ
  pub cells : List ℕ

-- a version that a search found: its record, its place, its write stamp, its status, and the first cells that were loaded
pub record Read : Type 0 where
  pub record_number : ℕ
  pub place : ℕ
  pub version : ℕ
  pub status : ℕ
  pub cells : List ℕ

-- the linking of a version: the place above it (`None` while that is the head of the list), a number that the stamp of the
-- place below is not under, and whether its own link names the place below
pub record Joint : Type 0 where
  pub write : Write
  pub above : Option ℕ
  pub least : ℕ
  pub stored : Bool

-- what a search is for
pub data Aim : Type 0 where
  -- a first read of a record
  reads : Aim
  -- to link a version
  links : (joint : Joint) → Aim
  -- a read once more, after its read stamp was raised
  again : (read : Read) → Aim
  -- the version that a linked one overwrites
  checks : (write : Write) → Aim

-- where a search stands: in which record's list, at which place, and a number above the write stamp there
pub record Stand : Type 0 where
  pub aim : Aim
  pub record_number : ℕ
  pub place : ℕ
  pub under : ℕ

-- what was loaded at the place that a search stands on: nothing, the write stamp, or that and the status
pub data Look : Type 0 where
  blank : Look
  stamped : (stamp : ℕ) → Look
  shown : (stamp status : ℕ) → Look

-- the search in flight. A version is first marked, then the list is searched for its place
pub data Search : Type 0 where
  still : Search
  marks : (write : Write) → Search
  stands : (stand : Stand) (look : Look) → Search

-- how far the collection of a version has come
pub data Stage : Type 0 where
  -- the record is locked; its floor was loaded and is not above the version
  locked : Stage
  above_floor : Stage
  -- the search for the version stands at a place, under this stamp; the place's stamp was loaded and is above the version's
  seeks : (place under : ℕ) → Stage
  passes : (place stamp : ℕ) → Stage
  -- it stands in this place; the floor was raised to its stamp
  found : (place : ℕ) → Stage
  floored : (place : ℕ) → Stage
  -- what is older was cut off and begins at this link, the record still locked; unlocked, with the place whose link was read last
  cut_off : (to : ℕ) → Stage
  freeing : (to : ℕ) (left : Option ℕ) → Stage

-- the version of a commit entry below which the seat collects: its record and its stamp
pub data Item : Type 0 where
  no_item : Item
  collects : (record_number stamp : ℕ) (stage : Stage) → Item

-- what is in flight of a transaction, or while none is in flight of a snapshot at the published read word: the search, and the
-- versions that it found (the one whose cells are loaded first). Of the reads of the entry those whose read stamp is raised, and
-- those whose second search has ended. The versions that it has linked; of their records those that passed the check, and those
-- whose last status is stored; and whether it was decided to commit. And the version that is collected
pub record Work : Type 0 where
  pub search : Search
  pub reads : List Read
  pub raised : List Read
  pub finished : List Read
  pub linked : List Write
  pub passed : List ℕ
  pub settled : List ℕ
  pub decided : Bool
  pub item : Item

-- the look at the first version of a record's list, by a seat that is alone
pub data Front : Type 0 where
  no_front : Front
  at_front : (record_number place : ℕ) (look : Look) → Front

-- bounds on the number of a record's linked versions, and of those outside its inline place
pub record Bound : Type 0 where
  pub linked : ℕ
  pub outside : ℕ

-- what is known of one record's list, of all that are not listed, and of the reserved place
pub record Count : Type 0 where
  pub record_number : ℕ
  pub bound : Option Bound

-- what the seat has linked in the reserved place and not cut off since: nothing, the version of a record at a stamp, or perhaps one
pub data Reserved : Type 0 where
  nothing_reserved : Reserved
  version_reserved : (record_number stamp : ℕ) → Reserved
  maybe_reserved : Reserved

pub record Counted : Type 0 where
  pub rest : Option Bound
  pub listed : List Count
  pub in_reserved : Reserved

-- a number that no write stamp in a record's list is above
pub record Top : Type 0 where
  pub record_number : ℕ
  pub stamp : ℕ

-- an entry of the log, with the places and the stamps of the versions that it read and wrote
pub record Logged : Type 0 where
  pub stamp : ℕ
  pub snapshot : Bool
  pub reads : List Read
  pub writes : List Write

-- a word, and the number that a step found there
pub record Load : Type 0 where
  pub word : Name
  pub number : ℕ

-- what the seat's loads and raises found, and the exchanges that it lost, with the loads of a place that showed it not free among these; and
-- how many of these it had lost when it last gave a place back
pub record Seen : Type 0 where
  pub loads : List Load
  pub lost : List Load
  pub since : ℕ

-- the versions at which the seat cut a record's list, with the links to what it cut off; the places that it freed; and a number that
-- the places that it cut off last and has not yet freed are no more than
pub record Cut : Type 0 where
  pub record_number : ℕ
  pub stamp : ℕ
  pub place : ℕ
  pub to : ℕ

pub record Gone : Type 0 where
  pub cuts : List Cut
  pub freed : List ℕ
  pub left : ℕ

pub record View : Type 0 where
  pub number : ℕ
  pub size : Size
  -- left by a join
  pub spent : Bool
  pub splitting : Splitting
  pub clock : Clock
  pub published : Published
  pub flight : Flight
  pub work : Work
  pub raises : Raises
  -- the `min_rts` that the last raise reached
  pub reached : ℕ
  -- the `min_wts` that was loaded for the own published read word, and is not yet published
  pub loaded_bound : Option ℕ
  pub places : Places
  -- what it knows of each record's list, while no other seat is open, and of the reserved place
  pub counts : Counted
  pub tops : List Top
  pub front : Front
  pub log : List Logged
  pub gone : Gone
  pub seen : Seen

abbrev pub no_scan : Scan
no_scan = record { next = 0; least = end_of_stamps }

abbrev pub no_raises : Raises
no_raises = record { writes = no_scan; reads = no_scan }

abbrev pub no_places : Places
no_places = record { held = []; fills = []; last_pool = None }

abbrev pub no_work : Work
no_work = record { search = still; reads = []; raised = []; finished = []; linked = []; passed = []; settled = []; decided = false; item = no_item }

abbrev pub nothing_known : Counted
nothing_known = record { rest = None; listed = []; in_reserved = nothing_reserved }

-- what is left of it where seats are made or taken in: of the reserved place alone
abbrev pub forgotten : Reserved → Counted
forgotten k = record nothing_known { in_reserved = k }

abbrev pub one_each : Counted
one_each = record { rest = Some record { linked = 1; outside = 0 }; listed = []; in_reserved = nothing_reserved }

abbrev pub nothing_gone : Gone
nothing_gone = record { cuts = []; freed = []; left = 0 }

abbrev pub nothing_seen : Seen
nothing_seen = record { loads = []; lost = []; since = 0 }

-- the view of seat 0 of a new table
abbrev pub first_view : Size → View
first_view z = record {
  number = 0;
  size = z;
  spent = false;
  splitting = single;
  clock = record { clock = 0; drawn = 0; known = []; met = 0; taken_in = [] };
  published = record { write = 1; read = 0 };
  flight = resting;
  work = no_work;
  raises = no_raises;
  reached = 0;
  loaded_bound = None;
  places = no_places;
  counts = one_each;
  tops = [];
  front = no_front;
  log = [];
  gone = nothing_gone;
  seen = nothing_seen;
}

-- what is left of a view that was taken in by another
abbrev pub spent_view : View
spent_view = record (first_view (size_of 0 0 0)) { spent = true }
