-- What callers see of the shared table and of a seat's hand.
use Rattle.std.specs.Prelude.{◌≡◌, ℕ, ◌+◌, ◌<◌, ◌≤◌, Bool, false, ◌↔◌, IsTrue, max, [], ◌∷◌, ◌++◌, length, Option, None, IfSome}
use Rattle.atomic_table.specs.Seated.{TableId}
use Rattle.word_layout.specs.Size.{Size, IsSize, IsUsable, places}
use Rattle.core_rule.specs.Views.{AllOf}
use Rattle.stamp_base.specs.Limits.{end_of_stamps, greatest_clock}
use Rattle.core_rule.specs.View.{View, Clock, sharing, shared, resting, no_raises, no_places, no_work, nothing_known, forgotten, no_front, nothing_gone, nothing_seen}
use Rattle.core_rule.specs.Searching.{reserved_by_both}
use Rattle.core_rule.specs.Offers.{made_of, made_within, MayOffer, IsSettled}
use Rattle.plain_data.specs.State.{State}
use Rattle.core_rule.specs.Kinds.{Kind, take, look_at, after}
use Rattle.core_rule.specs.Learnt.{Learnt}

-- a table: which one it is, and its size
pub record Shared : Type 0 where
  pub table : TableId
  pub size : Size

-- a seat at a table: its place among the views, and its view
pub record Seated : Type 0 where
  pub table : TableId
  pub id : ℕ
  pub view : View

-- the hand is of this table
pub record IsHandOf (shared_table : Shared) (hand : Seated) : Type 0 where
  pub same_table : hand.table ≡ shared_table.table
  pub same_size : hand.view.size ≡ shared_table.size
  pub in_range : hand.view.number < shared_table.size.seats

-- both published words are open
pub record IsOpen (v : View) : Type 0 where
  pub write : v.published.write < end_of_stamps
  pub read : v.published.read < end_of_stamps

pub record IsRetired (v : View) : Type 0 where
  pub write : v.published.write ≡ end_of_stamps
  pub read : v.published.read ≡ end_of_stamps

-- the hand may make its calls: it is of this table, and is not retired
pub record IsReady (shared_table : Shared) (hand : Seated) : Type 0 where
  pub hand_of : IsHandOf shared_table hand
  pub open_words : IsOpen hand.view

-- a hand is the same seat after a call
pub record IsSameSeat (before after' : Seated) : Type 0 where
  pub same_table : after'.table ≡ before.table
  pub same_id : after'.id ≡ before.id

-- a hand is the same seat after a call, and may make its next one
pub record StaysReady (shared_table : Shared) (before after' : Seated) : Type 0 where
  pub seat : IsSameSeat before after'
  pub ready : IsReady shared_table after'

-- one step of this kind was made, which found this number, or stored it
pub record Steps (kept : State → Type 0) (k : Kind) (before : Seated) (n : ℕ) (after' : Seated) : Type 0 where
  pub seat : IsSameSeat before after'
  pub view : after'.view ≡ after k before.view n
  pub learnt : Learnt kept k before.view n

-- the view that splits, after another seat was made
abbrev pub split_left : View → View
split_left v = record v { splitting = sharing (made_of v.splitting + 1); flight = resting; work = no_work; counts = forgotten v.counts.in_reserved; tops = []; front = no_front; seen = record v.seen { since = length v.seen.lost } }

-- the view of the seat that was made
abbrev pub split_right : View → View
split_right v = record v {
  number = made_of v.splitting;
  splitting = shared;
  clock = record v.clock { drawn = 0; taken_in = [] };
  flight = resting;
  work = no_work;
  counts = nothing_known;
  tops = [];
  front = no_front;
  raises = no_raises;
  loaded_bound = None;
  places = no_places;
  log = [];
  gone = nothing_gone;
  seen = nothing_seen;
}

-- two views made one
abbrev pub joined_clock : Clock → Clock → ℕ → Clock
joined_clock c d number = record c {
  clock = max c.clock d.clock;
  known = c.known ++ d.known;
  met = max c.met d.met;
  taken_in = c.taken_in ++ number ∷ d.taken_in;
}

abbrev pub joined_view : View → View → View
joined_view v w = record v {
  clock = joined_clock v.clock w.clock w.number;
  flight = resting;
  work = no_work;
  counts = forgotten (reserved_by_both v.counts.in_reserved w.counts.in_reserved);
  tops = [];
  front = no_front;
  log = v.log ++ w.log;
  seen = record v.seen { since = length v.seen.lost };
}

-- what a hand's own numbers say of its view
pub record HandOk (number clock published bound made : ℕ) (last_pool : Option ℕ) (v : View) : Type 0 where
  pub number_is : number ≡ v.number
  pub clock_is : clock ≡ v.clock.clock
  pub clock_in_range : clock ≤ greatest_clock
  pub published_is : published ≡ v.published.write
  pub bound_is : bound ≡ v.published.read
  pub made_is : MayOffer v.splitting → made ≡ made_of v.splitting
  pub is_size : IsSize v.size
  pub in_range : v.number < v.size.seats
  pub is_open : v.spent ≡ false
  pub settled : IsSettled v.splitting
  pub made_inside : made_within v.size.seats v.splitting ≤ v.size.seats
  pub last_pool_is : last_pool ≡ v.places.last_pool
  pub last_pool_usable : IfSome last_pool (IsUsable v.size)
  pub places_in_range : AllOf (λ p. p < places v.size) v.places.held
  pub retired_holds_none : v.published.write ≡ end_of_stamps → v.places.held ≡ []

-- the hand `before` made the seat of `made`
pub record IsSplit (before after' made : Seated) : Type 0 where
  pub seat : IsSameSeat before after'
  pub same_table : made.table ≡ before.table
  pub left : after'.view ≡ split_left before.view
  pub right : made.view ≡ split_right before.view

-- the hand `before` took in `other`
pub record IsJoined (before other after' : Seated) : Type 0 where
  pub seat : IsSameSeat before after'
  pub view : after'.view ≡ joined_view before.view other.view

-- a step on the status of a place was made, and found it free where this number, the status found, is that of a free place
pub record FindsPlace (kept : State → Type 0) (kind : Kind) (before : Seated) (free : Bool) (after' : Seated) : Type 0 where
  pub found : ℕ
  pub free_is : IsTrue free ↔ (found ≡ 0)
  pub step : Steps kept kind before found after'

-- by an exchange, which takes it where it is free; by a load
abbrev pub Takes : (State → Type 0) → (place : ℕ) → Seated → Bool → Seated → Type 0
Takes kept place before won after' = FindsPlace kept (take place) before won after'

abbrev pub LooksAt : (State → Type 0) → (place : ℕ) → Seated → Bool → Seated → Type 0
LooksAt kept place before free after' = FindsPlace kept (look_at place) before free after'
