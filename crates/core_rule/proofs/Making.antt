-- What each part's lemma is given where a seat is made, and where one is taken in.
use Rattle.std.proofs.Common.{◌≡◌, ◌≢◌, ℕ, false, List, [], ◌∷◌, ◌++◌, set, refl, sym, subst, arith, None}
use Rattle.atomic_table.specs.Table.{Me}
use Rattle.plain_data.specs.State.{State}
use Rattle.word_layout.specs.Size.{Size, IsSize}
use Rattle.core_rule.specs.View.{View, first_view}
use Rattle.core_rule.specs.Views.{At, Each}
use Rattle.core_rule.specs.Memory.{Memory}
use Rattle.core_rule.specs.World.{World}
use Rattle.core_rule.specs.Offers.{HasOfferedBoth, IsSettled}
use Rattle.core_rule.specs.Searching.{Ends}
use Rattle.core_rule.specs.Hands.{IsRetired, HandOk, split_left, split_right, joined_view}
use Rattle.core_rule.specs.Rule.{Rule}
use Rattle.core_rule.proofs.EachView.{Each-own, Each-push, Each-join, joined}

-- the hand of seat 0 of a new table
pub first_hand : {S : Type 0} (z : Size) (me : Me S View) → IsSize z → me ≡ (first_view z, []) → (me.1 ≡ []) × HandOk 0 0 1 0 1 None me.0
first_hand {S} z me size e = subst (λ (x : Me S View). (x.1 ≡ []) × HandOk 0 0 1 0 1 None x.0) (sym e) (
  refl,
  record {
    number_is = refl;
    clock_is = refl;
    clock_in_range = omega arith;
    published_is = refl;
    bound_is = refl;
    made_is = λ h. refl;
    is_size = size;
    in_range = size.has_seat;
    is_open = refl;
    settled = tt;
    made_inside = let h = size.has_seat in omega arith;
    last_pool_is = refl;
    last_pool_usable = tt;
    places_in_range = tt;
    retired_holds_none = λ h. refl;
  },
)

pub record Split (kept : State → Type 0) (z : Size) (g : World) (m : Memory) (vs : List View) (id : ℕ) (v : View) : Type 0 where
  pub rule : Rule kept z g m vs
  pub at : At vs id v
  pub is_open : v.spent ≡ false
  pub offered : HasOfferedBoth v.splitting
  pub ends : Ends v.work

pub record Join (kept : State → Type 0) (z : Size) (g : World) (m : Memory) (vs : List View) (id other : ℕ) (v w : View) : Type 0 where
  pub rule : Rule kept z g m vs
  pub at : At vs id v
  pub at_other : At vs other w
  pub apart : id ≢ other
  pub is_open : v.spent ≡ false
  pub other_open : w.spent ≡ false
  pub settled : IsSettled v.splitting
  pub other_settled : IsSettled w.splitting
  pub retired : IsRetired w
  pub holds_none : w.places.held ≡ []
  pub ends : Ends v.work
  pub other_ends : Ends w.work

-- what holds of each view holds of each after it
pub split_each : {kept : State → Type 0} {z : Size} {g : World} {m : Memory} {vs : List View} {id : ℕ} {v : View} → Split kept z g m vs id v → (P : View → Type 0) → Each P vs → (P v → P (split_left v)) → P (split_right v)
    → Each P (set vs id (split_left v) ++ split_right v ∷ [])
split_each {vs = vs} {id = id} {v = v} s P all left right =
    Each-push P P (set vs id (split_left v)) (split_right v) (λ i u at live p. p) (λ live. right) (Each-own P vs id v _ all s.at s.is_open left)

pub join_each : {kept : State → Type 0} {z : Size} {g : World} {m : Memory} {vs : List View} {id other : ℕ} {v w : View} → Join kept z g m vs id other v w → (P : View → Type 0) → Each P vs → P (joined_view v w)
    → Each P (joined vs (joined_view v w) id other)
join_each {vs = vs} {id = id} {other = other} s P all both = Each-join vs _ id other P P (λ i u h live p. p) (λ live. both) all

pub IsRetired-same : (v w : View) → v ≡ w → IsRetired w → IsRetired v
IsRetired-same v w e h = subst IsRetired (sym e) h
