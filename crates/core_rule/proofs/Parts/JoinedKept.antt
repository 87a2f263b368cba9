-- Joined: a stamp that is drawn is above all that the seats taken in have drawn, and those draw no more.
use Rattle.std.proofs.Common.{◌≡◌, ◌≢◌, ℕ, ◌<◌, List, [], ◌∷◌, ◌++◌, set, refl, sym, ap, ◌∙◌, arith, inl, inr}
use Rattle.plain_data.specs.State.{State}
use Rattle.word_layout.specs.Size.{Size}
use Rattle.stamp_base.specs.Limits.{most_seats}
use Rattle.stamp_base.specs.Stamp.{stamp_of}
use Rattle.core_rule.specs.Memory.{Memory}
use Rattle.core_rule.specs.World.{World, at_number}
use Rattle.core_rule.specs.View.{View, resting}
use Rattle.core_rule.specs.Deciding.{stamp_in}
use Rattle.core_rule.specs.Kinds.{Kind, publish_stamp, name, after, turned}
use Rattle.core_rule.specs.Hands.{split_left, split_right, joined_view}
use Rattle.core_rule.specs.Parts.Clocks.{IsDrawn}
use Rattle.core_rule.specs.Parts.Joined.{JoinedOk}
use Rattle.core_rule.specs.Parts.Joined as part
use Rattle.core_rule.proofs.EachView.{Each-set, Each-own, Each-push, Each-join, AllOf-zip, AllOf-append, joined}
use Rattle.core_rule.proofs.Step.{Step, at_number-other}
use Rattle.core_rule.proofs.Making.{Split, Join}

-- nothing is in flight
rests : (drawn : ℕ → ℕ) (v u : View) → u.clock.taken_in ≡ v.clock.taken_in → u.flight ≡ resting → JoinedOk drawn v → JoinedOk drawn u
rests drawn v u taken flight h = record { within = rw taken h.within; below = λ t e. absurd (let f = sym flight ∙ e in cc) }

module _ (kept : State → Type 0) (z : Size) (g : World) (m : Memory) (vs : List View) (id : ℕ) (v : View) where
  framed : (k : Kind) → Step kept z g m vs id v k → (u : View) → u.clock.taken_in ≡ v.clock.taken_in → u.flight ≡ v.flight → part.Joined g.drawn (set vs id u)
  framed k s u taken flight = Each-own (JoinedOk g.drawn) vs id v u s.rule.joined s.at s.allowed.is_open (λ h. record { within = rw taken h.within; below = λ t e. rw taken (h.below t (sym flight ∙ e)) })

  stops : (k : Kind) → Step kept z g m vs id v k → (u : View) → u.clock.taken_in ≡ v.clock.taken_in → u.flight ≡ resting → part.Joined g.drawn (set vs id u)
  stops k s u taken flight = Each-own (JoinedOk g.drawn) vs id v u s.rule.joined s.at s.allowed.is_open (rests g.drawn v u taken flight)

  pub joined_kept : (k : Kind) → Step kept z g m vs id v k → part.Joined (turned k v (m (name k v)) g).drawn (set vs id (after k v (m (name k v))))
  joined_kept (publish_stamp clock) s =
      let t = stamp_of clock v.number in
      let apart = λ (j : ℕ) (ne : v.number ≢ j). at_number-other g.drawn v.number j t ne in
      Each-set (JoinedOk g.drawn) (JoinedOk (at_number g.drawn v.number t)) vs _ id
      (λ i u ne at live h. record {
        within = h.within;
        below = λ x e. AllOf-zip (λ j. v.number ≢ j) (λ j. g.drawn j < x) (λ j. at_number g.drawn v.number t j < x) (λ j away lt. rw (apart j away) lt)
            u.clock.taken_in (s.rule.seats.taken i id u v at s.at live s.allowed.is_open) (h.below x e);
      })
      (λ live. let h = s.rule.joined id v s.at s.allowed.is_open in let c = s.rule.clocks id v s.at s.allowed.is_open in record {
        within = h.within;
        below = λ x e. AllOf-zip (λ j. v.number ≢ j) (λ j. (j < most_seats) × IsDrawn j v.clock.clock (g.drawn j)) (λ j. at_number g.drawn v.number t j < x)
            (λ j away both. rw (apart j away) (let same : t ≡ x = ap stamp_in e in before j (g.drawn j) x s.allowed.can.0 same both.0 both.1)) v.clock.taken_in
            (s.rule.seats.taken id id v v s.at s.at s.allowed.is_open s.allowed.is_open)
            (AllOf-zip (λ j. j < most_seats) (λ j. IsDrawn j v.clock.clock (g.drawn j)) (λ j. (j < most_seats) × IsDrawn j v.clock.clock (g.drawn j)) (λ j lt d. (lt, d)) v.clock.taken_in h.within c.taken_in);
      })
      s.rule.joined where
        before : (j d x : ℕ) → v.clock.clock < clock → stamp_of clock v.number ≡ x → j < most_seats → IsDrawn j v.clock.clock d → d < x
        before j d x later same lt (inl none) = omega arith
        before j d x later same lt (inr h) = let le = h.1 in let is = h.2 in omega arith
  joined_kept k s = search (framed k s, stops k s)

module _ (kept : State → Type 0) (z : Size) (g : World) (m : Memory) (vs : List View) (id : ℕ) (v : View) (s : Split kept z g m vs id v) where
  pub joined_split : part.Joined g.drawn (set vs id (split_left v) ++ split_right v ∷ [])
  joined_split = Each-push (JoinedOk g.drawn) (JoinedOk g.drawn) (set vs id (split_left v)) (split_right v) (λ i u at live h. h)
      (λ live. record { within = tt; below = λ t e. tt })
      (Each-own (JoinedOk g.drawn) vs id v _ s.rule.joined s.at s.is_open (rests g.drawn v _ refl refl))

module _ (kept : State → Type 0) (z : Size) (g : World) (m : Memory) (vs : List View) (id other : ℕ) (v w : View) (s : Join kept z g m vs id other v w) where
  pub joined_joined : part.Joined g.drawn (joined vs (joined_view v w) id other)
  joined_joined = Each-join vs _ id other (JoinedOk g.drawn) (JoinedOk g.drawn) (λ i u h live p. p)
      (λ live. record {
        within = AllOf-append (λ j. j < most_seats) v.clock.taken_in (w.number ∷ w.clock.taken_in) (s.rule.joined id v s.at s.is_open).within
            (let n = (s.rule.seats.each other w s.at_other s.other_open).within in let size = s.rule.sized.seats_in_range in omega arith, (s.rule.joined other w s.at_other s.other_open).within);
        below = λ t e. absurd (cc);
      }) s.rule.joined
