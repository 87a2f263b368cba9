-- What a hand's numbers say of its view after a step that changes its places alone.
use Rattle.std.proofs.Common.{◌≡◌, List, ℕ, ◌<◌, [], sym, ap, ◌∙◌, subst, Option}
use Rattle.atomic_table.specs.Seated.{TableId}
use Rattle.word_layout.specs.Size.{Size, IsSize, places}
use Rattle.core_rule.specs.View.{View, Places, Work, Counted, Front, Seen, Logged, Gone}
use Rattle.core_rule.specs.Views.{AllOf, Has}
use Rattle.core_rule.specs.Holding.{without}
use Rattle.core_rule.specs.Hands.{Shared, Seated, HandOk, Steps}
use Rattle.core_rule.specs.Kinds.{Kind}
use Rattle.core_rule.specs.Learnt.{Told}
use Rattle.plain_data.specs.State.{State}
use Rattle.core_rule.proofs.EachView.{AllOf-Has}
use Rattle.core_rule.proofs.Without.{AllOf-still}

-- what a step tells of the seat inside a hand, said of the hand
pub steps_of : (kept : State → Type 0) (k : View → Kind) (inside before : Seated) (n : ℕ) (after' : Seated) → inside ≡ before → after'.table ≡ inside.table → after'.id ≡ inside.id → Told kept (k inside.view) inside.view n after'.view
    → Steps kept (k before.view) before n after'
steps_of kept k inside before n after' same table id told =
    subst (λ (s : Seated). Steps kept (k s.view) s n after') same record { seat = record { same_table = table; same_id = id }; view = told.view; learnt = told.learnt }

module _ (number clock published bound made : ℕ) (last_pool : Option ℕ) (v : View) (ok : HandOk number clock published bound made last_pool v) where
  -- a place that the hand holds is a place of the table
  pub held_in_range : (p : ℕ) → Has p v.places.held → p < places v.size
  held_in_range p has = AllOf-Has (λ q. q < places v.size) p v.places.held ok.places_in_range has

  -- the same, as a call has it; and the table's size
  module _ (hand : Seated) (seen : Shared) (seat_table : TableId) (id : ℕ) (hand_is : record { table = seat_table; id = id; view = v } ≡ hand) (same_size : hand.view.size ≡ seen.size) where
    pub held_in : (p : ℕ) → Has p hand.view.places.held → p < places seen.size
    held_in p has =
        let here = ap (λ (h : Seated). h.view) hand_is in
        let lt = held_in_range p (subst (λ (x : View). Has p x.places.held) (sym here) has) in
        subst (λ (x : Size). p < places x) (ap (λ (x : View). x.size) here ∙ same_size) lt

    pub size_in : IsSize seen.size
    size_in = subst IsSize (ap (λ (h : Seated). h.view.size) hand_is ∙ same_size) ok.is_size

  -- the same of its layout
  module _ (hand : Seated) (seen : Shared) (layout : Size) (table : TableId) (seat_table : TableId) (id : ℕ)
      (hand_is : record { table = seat_table; id = id; view = v } ≡ hand) (seen_is : record { table = table; size = layout } ≡ seen) (same_size : hand.view.size ≡ seen.size) where
    pub held_in_table : (p : ℕ) → Has p hand.view.places.held → p < places seen.size
    held_in_table = held_in hand seen seat_table id hand_is same_size

    pub held_in_layout : (p : ℕ) → Has p hand.view.places.held → p < places layout
    held_in_layout p has = subst (λ (x : Size). p < places x) (sym (ap (λ (x : Shared). x.size) seen_is)) (held_in_table p has)

  with_places : (x : Work) (q : Places) (t : Seen) (w : View) → w ≡ record v { work = x; places = q; seen = t } → q.last_pool ≡ v.places.last_pool → AllOf (λ p. p < places v.size) q.held
      → (v.places.held ≡ [] → q.held ≡ []) → HandOk number clock published bound made last_pool w
  with_places x q t w e last in_range none = subst (HandOk number clock published bound made last_pool) (sym e) record {
    number_is = ok.number_is;
    clock_is = ok.clock_is;
    clock_in_range = ok.clock_in_range;
    published_is = ok.published_is;
    bound_is = ok.bound_is;
    made_is = ok.made_is;
    is_size = ok.is_size;
    in_range = ok.in_range;
    is_open = ok.is_open;
    settled = ok.settled;
    made_inside = ok.made_inside;
    last_pool_is = ok.last_pool_is ∙ sym last;
    last_pool_usable = ok.last_pool_usable;
    places_in_range = in_range;
    retired_holds_none = λ h. none (ok.retired_holds_none h);
  }

  -- what is in flight and the log alone have changed
  pub after_work : (y : Work) (l : List Logged) (t : Seen) (w : View) → w ≡ record v { work = y; log = l; seen = t } → HandOk number clock published bound made last_pool w
  after_work y l t w e = subst (HandOk number clock published bound made last_pool) (sym e) record {
    number_is = ok.number_is;
    clock_is = ok.clock_is;
    clock_in_range = ok.clock_in_range;
    published_is = ok.published_is;
    bound_is = ok.bound_is;
    made_is = ok.made_is;
    is_size = ok.is_size;
    in_range = ok.in_range;
    is_open = ok.is_open;
    settled = ok.settled;
    made_inside = ok.made_inside;
    last_pool_is = ok.last_pool_is;
    last_pool_usable = ok.last_pool_usable;
    places_in_range = ok.places_in_range;
    retired_holds_none = ok.retired_holds_none;
  }

  -- what is collected, what became of it, and what is known of lists, alone have changed
  pub after_collecting : (y : Work) (n : Counted) (x : Gone) (t : Seen) (w : View) → w ≡ record v { work = y; counts = n; gone = x; seen = t } → HandOk number clock published bound made last_pool w
  after_collecting y n x t w e = subst (HandOk number clock published bound made last_pool) (sym e) record {
    number_is = ok.number_is;
    clock_is = ok.clock_is;
    clock_in_range = ok.clock_in_range;
    published_is = ok.published_is;
    bound_is = ok.bound_is;
    made_is = ok.made_is;
    is_size = ok.is_size;
    in_range = ok.in_range;
    is_open = ok.is_open;
    settled = ok.settled;
    made_inside = ok.made_inside;
    last_pool_is = ok.last_pool_is;
    last_pool_usable = ok.last_pool_usable;
    places_in_range = ok.places_in_range;
    retired_holds_none = ok.retired_holds_none;
  }

  -- the fills alone have changed
  pub after_fill : (q : Places) (t : Seen) (w : View) → w ≡ record v { places = q; seen = t } → q.held ≡ v.places.held → q.last_pool ≡ v.places.last_pool
      → HandOk number clock published bound made last_pool w
  after_fill q t w e same last = with_places v.work q t w e last (rw same ok.places_in_range) (λ h. same ∙ h)

  -- a place is held no more
  pub after_mark : (p : ℕ) (y : Work) (q : Places) (t : Seen) (w : View) → w ≡ record v { work = y; places = q; seen = t } → q.held ≡ without p v.places.held
      → q.last_pool ≡ v.places.last_pool → HandOk number clock published bound made last_pool w
  after_mark p y q t w e same last = with_places y q t w e last (rw same (AllOf-still (λ x. x < places v.size) p v.places.held ok.places_in_range)) (λ h. same ∙ ap (without p) h)

  pub after_give : (p : ℕ) (q : Places) (t : Seen) (w : View) → w ≡ record v { places = q; seen = t } → q.held ≡ without p v.places.held
      → q.last_pool ≡ v.places.last_pool → HandOk number clock published bound made last_pool w
  after_give p q t w e same last = after_mark p v.work q t w e same last

  -- the look at a first version alone has changed
  pub after_look : (f : Front) (t : Seen) (w : View) → w ≡ record v { front = f; seen = t } → HandOk number clock published bound made last_pool w
  after_look f t w e = subst (HandOk number clock published bound made last_pool) (sym e) record {
    number_is = ok.number_is;
    clock_is = ok.clock_is;
    clock_in_range = ok.clock_in_range;
    published_is = ok.published_is;
    bound_is = ok.bound_is;
    made_is = ok.made_is;
    is_size = ok.is_size;
    in_range = ok.in_range;
    is_open = ok.is_open;
    settled = ok.settled;
    made_inside = ok.made_inside;
    last_pool_is = ok.last_pool_is;
    last_pool_usable = ok.last_pool_usable;
    places_in_range = ok.places_in_range;
    retired_holds_none = ok.retired_holds_none;
  }
