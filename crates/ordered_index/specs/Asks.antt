-- How often an insertion asks for a new record, and how many it writes.
use Rattle.std.specs.Prelude.{◌≡◌, ℕ, ◌+◌, ◌*◌, ◌<◌, ◌≤◌, ◌==◌, ◌&&◌, if◌then◌else◌, List, [], ◌∷◌, ◌++◌, length, Option, None, Some, Result, Bool, true, false, IfOk, OnOk}
use Rattle.plain_data.specs.State.{State, Agrees, overlay}
use Rattle.record_store.specs.Meaning.{Meaning}
use Rattle.record_store.specs.declared.walk.Walk.{Walk}
use Rattle.ordered_index.specs.declared.key.Key.{Key}
use Rattle.ordered_index.specs.declared.node.Kind.{Kind}
use Rattle.ordered_index.specs.declared.node.Kind.TheVariants.{Leaf, Inner}
use Rattle.ordered_index.specs.declared.enter.Entering.{Entering}
use Rattle.ordered_index.specs.declared.enter.Entering.TheVariants.{There, Done, Takes}
use Rattle.ordered_index.specs.Keys.{is_before, Above, or_else}
use Rattle.ordered_index.specs.Node.{Content}
use Rattle.ordered_index.specs.Tree.{EachTree, record_of_key}
use Rattle.ordered_index.specs.Enter.{Part, IfTakes}
use Rattle.ordered_index.specs.Written.{WritesNodes}

-- the node of a row to which a key belongs: the last one whose fence is not behind it
abbrev pub home : List (ℕ × Content) → Key → Option (ℕ × Content)
home [] key = None
home (node ∷ nodes) key = or_else (home nodes key) (if is_before key node.1.low then None else Some node)

-- whether the node has nine entries
abbrev pub has_nine : Option (ℕ × Content) → Bool
has_nine None = false
has_nine (Some node) = length node.1.entries == 9

-- the number of nodes with nine entries in the unbroken row of such nodes from the key's leaf upwards
abbrev pub full_nodes : Key → List (List (ℕ × Content)) → List (ℕ × Content) → ℕ
full_nodes key [] leaves = if has_nine (home leaves key) then 1 else 0
full_nodes key (level ∷ levels) leaves =
    if full_nodes key levels leaves == length levels + 1 && has_nine (home level key) then length levels + 2 else full_nodes key levels leaves

-- one new record for each of these nodes, and one more where the root is among them
abbrev pub records_due : Key → List (List (ℕ × Content)) → List (ℕ × Content) → ℕ
records_due key levels leaves = if full_nodes key levels leaves == length levels + 1 then length levels + 2 else full_nodes key levels leaves

-- so often an insertion may ask: the key is not there, and so many new records are due
abbrev pub InsertMayAsk : ℕ → Key → Meaning → Meaning → ℕ → Type 0
InsertMayAsk root key before after asks = EachTree root before after (λ _ levels leaves. (record_of_key leaves key ≡ None) × (asks ≤ records_due key levels leaves))

-- how often an insertion asked: for each record that was due where the entry is in, and never where the key was there
abbrev pub HasAsked : ℕ → Key → Meaning → Meaning → ℕ → Bool → Type 0
HasAsked root key before after asked true = EachTree root before after (λ _ levels leaves. asked ≡ records_due key levels leaves)
HasAsked root key before after asked false = asked ≡ 0

-- what an insertion asked for and wrote, whatever it answers
pub record InsertAsks {F : Type 0} (root : ℕ) (key : Key) (before after : Meaning) (answer : Result Bool (Walk F)) (asked : ℕ) : Type 0 where
  pub may : 0 < asked → InsertMayAsk root key before after asked
  pub exact : IfOk answer (HasAsked root key before after asked)
  pub few : asked ≤ 25
  pub writes : WritesNodes (2 * asked + 1) before after

-- what holds of each part of a tree below a level that has these entries, in each state that agrees
abbrev pub EachPart : Meaning → Meaning → Key → List (Key × ℕ) → (List (List (ℕ × Content)) → List (ℕ × Content) → Type 0) → Type 0
EachPart before after key entries P =
    (state : State) (xs ys : List (Key × ℕ)) (levels : List (List (ℕ × Content))) (leaves : List (ℕ × Content)) → Agrees state after.reads → Part before.size (overlay before.writes state) (xs ++ (entries ++ ys)) levels leaves → Above key ys → P levels leaves

-- the key is not there, and so many nodes are full
abbrev pub PartIsDue : Key → ℕ → List (List (ℕ × Content)) → List (ℕ × Content) → Type 0
PartIsDue key asks levels leaves = (record_of_key leaves key ≡ None) × (asks ≤ full_nodes key levels leaves)

-- so many nodes are full, but not one in each row
abbrev pub SomeFull : Key → ℕ → List (List (ℕ × Content)) → List (ℕ × Content) → Type 0
SomeFull key asked levels leaves = (asked ≡ full_nodes key levels leaves) × (asked ≤ length levels)

-- so many nodes are full, one in each row
abbrev pub AllFull : Key → ℕ → List (List (ℕ × Content)) → List (ℕ × Content) → Type 0
AllFull key asked levels leaves = (asked ≡ full_nodes key levels leaves) × (asked ≡ length levels + 1)

abbrev pub HasAskedBelow : Meaning → Meaning → Key → List (Key × ℕ) → ℕ → Entering → Type 0
HasAskedBelow before after key entries asked There = asked ≡ 0
HasAskedBelow before after key entries asked Done = EachPart before after key entries (SomeFull key asked)
HasAskedBelow before after key entries asked (Takes entry) = EachPart before after key entries (AllFull key asked)

-- what was asked for and written below these entries of a node at this depth
pub record AsksBelow {F : Type 0} (key : Key) (kind : Kind) (entries : List (Key × ℕ)) (depth : ℕ) (before after : Meaning) (answer : Result Entering (Walk F)) (asked : ℕ) : Type 0 where
  pub leaf : kind ≡ Leaf → asked ≡ 0
  pub may : 0 < asked → EachPart before after key entries (PartIsDue key asked)
  pub exact : kind ≡ Inner → IfOk answer (HasAskedBelow before after key entries asked)
  pub deep : asked + depth ≤ 24
  pub writes : WritesNodes (2 * asked + 1) before after
  pub takes : IfOk answer (λ entering. IfTakes entering (λ _. WritesNodes (2 * asked) before after))

-- the same of a node; and so often it may ask: it is an inner one, the key is not there, and so many nodes are full
abbrev pub AsksUnder : {F : Type 0} → Key → Content → ℕ → Meaning → Meaning → Result Entering (Walk F) → ℕ → Type 0
AsksUnder key node depth before after answer asked = AsksBelow key node.kind node.entries depth before after answer asked

abbrev pub MayAskUnder : Key → Content → Meaning → Meaning → ℕ → Type 0
MayAskUnder key node before after asks = (node.kind ≡ Inner) × EachPart before after key node.entries (PartIsDue key asks)

-- a node with nine entries asks for one new record
abbrev pub asks_at : List (Key × ℕ) → ℕ
asks_at entries = if length entries == 9 then 1 else 0

abbrev pub MayAskAt : List (Key × ℕ) → ℕ → Type 0
MayAskAt entries asks = (asks ≡ 1) × (length entries ≡ 9)

-- and the root for two
abbrev pub MayAskRoot : List (Key × ℕ) → Meaning → Meaning → ℕ → Type 0
MayAskRoot entries before after asks = (asks ≤ 2) × (length entries ≡ 9)

pub record AsksRoot {F : Type 0} (entries : List (Key × ℕ)) (before after : Meaning) (answer : Result (Unit {0}) (Walk F)) (asked : ℕ) : Type 0 where
  pub may : 0 < asked → length entries ≡ 9
  pub exact : IfOk answer (λ _. asked ≡ 2 * asks_at entries)
  pub few : asked ≤ 2
  pub writes : WritesNodes (2 * asked + 1) before after

-- a root that is parted asks twice, unless the first ask is refused
abbrev pub MayAskSplit : Meaning → Meaning → ℕ → Type 0
MayAskSplit before after asks = asks ≤ 2

pub record AsksSplit {F : Type 0} (before after : Meaning) (answer : Result (Unit {0}) (Walk F)) (asked : ℕ) : Type 0 where
  pub few : asked ≤ 2
  pub some : 0 < asked
  pub exact : OnOk answer (asked ≡ 2)
