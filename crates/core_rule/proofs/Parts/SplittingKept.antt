-- Splitting: a seat that is made by no one but seat 0, whose words nobody else stores.
use Rattle.std.proofs.Common.{◌≡◌, ℕ, ◌<◌, ◌≤◌, false, List, set, refl, sym, ◌∙◌, subst, arith, [], ◌∷◌, ◌++◌}
use Rattle.plain_data.specs.State.{State}
use Rattle.word_layout.specs.Size.{Size}
use Rattle.core_rule.specs.Memory.{Memory, start}
use Rattle.core_rule.specs.World.{World, at_number, nothing_drawn}
use Rattle.core_rule.specs.Views.{At}
use Rattle.core_rule.proofs.Step.{Step, differs, at_number-other, at_number-same}
use Rattle.core_rule.specs.View.{View, Published, Splitting, single, sharing, offers_write, offers_both, shared, first_view}
use Rattle.core_rule.specs.Offers.{made_of, MayOffer, HasOffered, HasOfferedBoth, IsSettled}
use Rattle.core_rule.specs.Kinds.{Kind, offer_write_word, offer_read_word, name, after, turned, changed}
use Rattle.core_rule.specs.Rule.{write_words, read_words}
use Rattle.core_rule.specs.Parts.Splitting.{Makes, Offered, SplittingOk, IsBelow, IsMade, Splittings}
use Rattle.core_rule.proofs.EachView.{Each-set, Pairs-own, AllOf-map, Each-push, Each-join, Each-one, Pairs-push, Pairs-join, Pairs-one, AllOf-append, joined, Each-own}
use Rattle.core_rule.specs.Hands.{split_left, split_right, joined_view}
use Rattle.core_rule.proofs.Making.{Split, Join}

pub Makes-of_offer : (s : Splitting) → MayOffer s → Makes s (made_of s)
Makes-of_offer single h = refl
Makes-of_offer (sharing made) h = refl
Makes-of_offer (offers_write made) h = absurd h
Makes-of_offer (offers_both made) h = absurd h
Makes-of_offer shared h = absurd h

pub Makes-of_offered : (s : Splitting) → HasOffered s → Makes s (made_of s)
Makes-of_offered (offers_write made) h = refl
Makes-of_offered single h = absurd h
Makes-of_offered (sharing made) h = absurd h
Makes-of_offered (offers_both made) h = absurd h
Makes-of_offered shared h = absurd h

pub Makes-of_both : (s : Splitting) → HasOfferedBoth s → Makes s (made_of s)
Makes-of_both (offers_both made) h = refl
Makes-of_both single h = absurd h
Makes-of_both (sharing made) h = absurd h
Makes-of_both (offers_write made) h = absurd h
Makes-of_both shared h = absurd h

-- a seat that makes others knows how many there are
Makes-one : (s : Splitting) (a b : ℕ) → Makes s a → Makes s b → a ≡ b
Makes-one single a b h k = h ∙ sym k
Makes-one (sharing n) a b h k = h ∙ sym k
Makes-one (offers_write n) a b h k = h ∙ sym k
Makes-one (offers_both n) a b h k = h ∙ sym k
Makes-one shared a b h k = absurd h

-- nothing was stored for a next seat
Offered-settled : (z : Size) (writes reads : ℕ → ℕ) (p : Published) (s : Splitting) → IsSettled s → Offered z writes reads p s
Offered-settled z writes reads p single f = tt
Offered-settled z writes reads p (sharing k) f = tt
Offered-settled z writes reads p (offers_write k) f = absurd f
Offered-settled z writes reads p (offers_both k) f = absurd f
Offered-settled z writes reads p shared f = tt

-- what was stored for a seat still stands
Offered-stays : (z : Size) (writes reads writes' reads' : ℕ → ℕ) (p : Published) (s : Splitting)
    → ((made : ℕ) → Makes s made → (writes' made ≡ writes made) × (reads' made ≡ reads made)) → Offered z writes reads p s → Offered z writes' reads' p s
Offered-stays z writes reads writes' reads' p single same h = tt
Offered-stays z writes reads writes' reads' p (sharing k) same h = tt
Offered-stays z writes reads writes' reads' p (offers_write k) same h = (h.0, (same k refl).0 ∙ h.1)
Offered-stays z writes reads writes' reads' p (offers_both k) same h = (h.0, (same k refl).0 ∙ h.1, (same k refl).1 ∙ h.2)
Offered-stays z writes reads writes' reads' p shared same h = tt

IsBelow-same : (made : ℕ) (v w : View) → w.number ≡ v.number → w.clock.taken_in ≡ v.clock.taken_in → IsBelow made v → IsBelow made w
IsBelow-same made v w e f b = record { seat = rw e b.seat; taken_in = rw f b.taken_in }

-- the stores for a seat stand
module _ (z : Size) (writes reads : ℕ → ℕ) (p : Published) where
  both_are : (s : Splitting) → HasOfferedBoth s → Offered z writes reads p s → (made_of s < z.seats) × (writes (made_of s) ≡ p.write) × (reads (made_of s) ≡ p.read)
  both_are (offers_both made) h o = o
  both_are single h o = absurd h
  both_are (sharing made) h o = absurd h
  both_are (offers_write made) h o = absurd h
  both_are shared h o = absurd h

  pub Offered-within : (s : Splitting) → HasOfferedBoth s → Offered z writes reads p s → made_of s < z.seats
  Offered-within s h o = (both_are s h o).0

  pub Offered-words : (s : Splitting) → HasOfferedBoth s → Offered z writes reads p s → (writes (made_of s) ≡ p.write) × (reads (made_of s) ≡ p.read)
  Offered-words s h o = ((both_are s h o).1, (both_are s h o).2)

  offered_write_is : (s : Splitting) → HasOffered s → Offered z writes reads p s → (made_of s < z.seats) × (writes (made_of s) ≡ p.write)
  offered_write_is (offers_write made) h o = o
  offered_write_is single h o = absurd h
  offered_write_is (sharing made) h o = absurd h
  offered_write_is (offers_both made) h o = absurd h
  offered_write_is shared h o = absurd h

IsBelow-more : (a b : ℕ) (w : View) → a ≤ b → IsBelow a w → IsBelow b w
IsBelow-more a b w le h = let lt = h.seat in record {
  seat = omega arith;
  taken_in = AllOf-map (λ j. j < a) (λ j. j < b) (λ j k. omega arith) w.clock.taken_in h.taken_in;
}

module _ (kept : State → Type 0) (z : Size) (g : World) (m : Memory) (vs : List View) (id : ℕ) (v : View) where
  -- after a step that leaves the words and the last stamps of the seats that are not made
  stays : (k : Kind) → Step kept z g m vs id v k → IsSettled v.splitting → (drawn' writes' reads' : ℕ → ℕ) (w : View) → w.splitting ≡ v.splitting → w.number ≡ v.number
      → w.clock.taken_in ≡ v.clock.taken_in
      → ((i : ℕ) → v.number < i → (drawn' i ≡ g.drawn i) × (writes' i ≡ write_words m i) × (reads' i ≡ read_words m i)) → Splittings z drawn' writes' reads' (set vs id w)
  stays k s settled drawn' writes' reads' w splitting number taken same =
      let makes = λ (made : ℕ) (h : Makes w.splitting made). subst (λ (t : Splitting). Makes t made) splitting h in record {
        each = Each-set (SplittingOk z g.drawn (write_words m) (read_words m)) (SplittingOk z drawn' writes' reads') vs w id
            (λ i u ne at live p.
            let below = λ (made : ℕ) (h : Makes u.splitting made). (s.rule.splittings.made i id u v at s.at live s.allowed.is_open made h).seat in record {
              first = p.first;
              offered = Offered-stays z (write_words m) (read_words m) writes' reads' u.published u.splitting (λ made h. let e = same made (below made h) in (e.1, e.2)) p.offered;
              fresh = λ made j h le. (same j (let b : v.number < made = below made h in omega arith)).0 ∙ p.fresh made j h le;
            })
            (λ live.
            let p = s.rule.splittings.each id v s.at s.allowed.is_open in record {
              first = λ made h. (number ∙ (p.first made (makes made h)).0, (p.first made (makes made h)).1);
              offered = subst (Offered z writes' reads' w.published) (sym splitting) (Offered-settled z writes' reads' w.published v.splitting settled);
              fresh = λ made j h le.
                  (same j (let b : v.number < made = (s.rule.splittings.made id id v v s.at s.at s.allowed.is_open s.allowed.is_open made (makes made h)).seat in omega arith)).0
                  ∙ p.fresh made j (makes made h) le;
            })
            s.rule.splittings.each;
        made = Pairs-own IsMade vs id v w s.rule.splittings.made s.at s.allowed.is_open (λ x r made h. r made (makes made h))
            (λ u r made h. IsBelow-same made v w number taken (r made h)) (λ r made h. IsBelow-same made v w number taken (r made (makes made h)));
      }

  -- after a store for the seat that is being made
  offers : (k : Kind) → Step kept z g m vs id v k → Makes v.splitting (made_of v.splitting) → (writes' reads' : ℕ → ℕ) (w : View) → ((made : ℕ) → Makes w.splitting made → made ≡ made_of v.splitting)
      → Offered z writes' reads' w.published w.splitting → w.number ≡ v.number → w.clock.taken_in ≡ v.clock.taken_in → Splittings z g.drawn writes' reads' (set vs id w)
  offers k s makes writes' reads' w agrees offered number taken =
      let mine = s.rule.splittings.each id v s.at s.allowed.is_open in
      let back = λ (made : ℕ) (h : Makes w.splitting made). subst (Makes v.splitting) (sym (agrees made h)) makes in record {
        each = Each-set (SplittingOk z g.drawn (write_words m) (read_words m)) (SplittingOk z g.drawn writes' reads') vs w id
            (λ i u ne at live p. record {
              first = p.first;
              offered = Offered-stays z (write_words m) (read_words m) writes' reads' u.published u.splitting
                  (λ made h. absurd (differs kept z g m vs id v k s i u ne at live ((mine.first (made_of v.splitting) makes).0 ∙ sym (p.first made h).0))) p.offered;
              fresh = p.fresh;
            })
            (λ live. record {
              first = λ made h. let f = mine.first made (back made h) in (number ∙ f.0, f.1);
              offered = offered;
              fresh = λ made j h le. mine.fresh made j (back made h) le;
            })
            s.rule.splittings.each;
        made = Pairs-own IsMade vs id v w s.rule.splittings.made s.at s.allowed.is_open (λ x r made h. r made (back made h))
            (λ u r made h. IsBelow-same made v w number taken (r made h)) (λ r made h. IsBelow-same made v w number taken (r made (back made h)));
      }

  -- the words of the seats that are made are others
  own : (f : ℕ → ℕ) (x i : ℕ) → v.number < i → at_number f v.number x i ≡ f i
  own f x i h = at_number-other f v.number i x (λ e. absurd (omega arith))

  pub splittings_kept : (k : Kind) → Step kept z g m vs id v k
      → Splittings z (turned k v (m (name k v)) g).drawn (write_words (changed k v m)) (read_words (changed k v m)) (set vs id (after k v (m (name k v))))
  splittings_kept offer_write_word s =
      offers _ s (Makes-of_offer v.splitting s.allowed.fits) _ _ _ (λ made h. h)
      (rw (← (s.rule.seats.each id v s.at s.allowed.is_open).size) s.allowed.can, at_number-same (write_words m) (made_of v.splitting) v.published.write) refl refl
  splittings_kept offer_read_word s = offers _ s (Makes-of_offered v.splitting s.allowed.fits) _ _ _ (λ made h. h)
      (let o = offered_write_is z (write_words m) (read_words m) v.published v.splitting s.allowed.fits (s.rule.splittings.each id v s.at s.allowed.is_open).offered in (o.0, o.1, at_number-same (read_words m) (made_of v.splitting) v.published.read)) refl refl
  splittings_kept k s = stays _ s s.allowed.fits _ _ _ _ refl refl refl (λ i h. (search (own g.drawn), search (own (write_words m)), search (own (read_words m))))

module _ (kept : State → Type 0) (z : Size) (g : World) (m : Memory) (vs : List View) (id : ℕ) (v : View) (s : Split kept z g m vs id v) where
  made : ℕ
  made = made_of v.splitting

  makes : Makes v.splitting made
  unfolding made
  makes = Makes-of_both v.splitting s.offered

  mine : SplittingOk z g.drawn (write_words m) (read_words m) v
  mine = s.rule.splittings.each id v s.at s.is_open

  pub splittings_split : Splittings z g.drawn (write_words m) (read_words m) (set vs id (split_left v) ++ split_right v ∷ [])
  unfolding made
  splittings_split = record {
    each = Each-push (SplittingOk z g.drawn (write_words m) (read_words m)) (SplittingOk z g.drawn (write_words m) (read_words m)) (set vs id (split_left v)) (split_right v) (λ i u at live p. p)
        (λ live. record { first = λ n h. absurd h; offered = tt; fresh = λ n k h le. absurd h })
        (Each-own (SplittingOk z g.drawn (write_words m) (read_words m)) vs id v _ s.rule.splittings.each s.at s.is_open (λ p. record {
          first = λ n h. ((mine.first made makes).0, omega arith);
          offered = tt;
          fresh = λ n k h le. mine.fresh made k makes (omega arith);
        }));
    made = Pairs-push IsMade IsMade (set vs id (split_left v)) (split_right v)
        (Pairs-own IsMade vs id v _ s.rule.splittings.made s.at s.is_open
        (λ x r n h. IsBelow-more made n x (omega arith) (r made makes))
        (λ u r n h. IsBelow-same n v _ refl refl (r n h))
        (λ r n h. IsBelow-same n v _ refl refl (IsBelow-more made n v (omega arith) (r made makes)))) record {
          others = λ i j u x h k ou ox r. r;
          left = λ j x h ox o n e. absurd e;
          right = below_each;
          self = λ o n e. absurd e;
        };
  } where
    below_each : (i : ℕ) (u : View) → At (set vs id (split_left v)) i u → u.spent ≡ false → (split_right v).spent ≡ false → IsMade u (split_right v)
    below_each i u at live o = Each-set (λ x. x.spent ≡ false) (λ x. IsMade x (split_right v)) vs (split_left v) id
        (λ j x ne here ox p n h. absurd (ne (s.rule.seats.apart j id x v here s.at ox s.is_open (((s.rule.splittings.each j x here ox).first n h).0 ∙ sym (mine.first made makes).0))))
        (λ o' n h. record { seat = omega arith; taken_in = tt })
        (λ j x here ox. ox) i u at live

module _ (kept : State → Type 0) (z : Size) (g : World) (m : Memory) (vs : List View) (id other : ℕ) (v w : View) (s : Join kept z g m vs id other v w) where
  pub splittings_joined : Splittings z g.drawn (write_words m) (read_words m) (joined vs (joined_view v w) id other)
  splittings_joined = record {
    each = Each-join vs _ id other (SplittingOk z g.drawn (write_words m) (read_words m)) (SplittingOk z g.drawn (write_words m) (read_words m)) (λ i u h live p. p)
        (λ live. let p = s.rule.splittings.each id v s.at s.is_open in record { first = p.first; offered = p.offered; fresh = p.fresh }) s.rule.splittings.each;
    made = Pairs-join vs _ id other IsMade IsMade s.rule.splittings.made record {
      others = λ i j u x h k ou ox r. r;
      left = λ j x h ox o n e. s.rule.splittings.made id j v x s.at h.2 s.is_open ox n e;
      right = λ i u h ou o n e.
          let a = s.rule.splittings.made i id u v h.2 s.at ou s.is_open n e in
          let b = s.rule.splittings.made i other u w h.2 s.at_other ou s.other_open n e in
          record { seat = a.seat; taken_in = AllOf-append (λ j. j < n) v.clock.taken_in (w.number ∷ w.clock.taken_in) a.taken_in (b.seat, b.taken_in) };
      self = λ o n e.
          let a = s.rule.splittings.made id id v v s.at s.at s.is_open s.is_open n e in
          let b = s.rule.splittings.made id other v w s.at s.at_other s.is_open s.other_open n e in
          record { seat = a.seat; taken_in = AllOf-append (λ j. j < n) v.clock.taken_in (w.number ∷ w.clock.taken_in) a.taken_in (b.seat, b.taken_in) };
    };
  }

pub splittings_start : (z : Size) → Splittings z nothing_drawn (write_words (start z)) (read_words (start z)) (first_view z ∷ [])
splittings_start z = record {
  each = Each-one (SplittingOk z nothing_drawn (write_words (start z)) (read_words (start z))) (first_view z) record {
    first = λ n h. (refl, omega arith);
    offered = tt;
    fresh = λ n k h le. refl;
  };
  made = Pairs-one IsMade (first_view z) (λ n h. record { seat = omega arith; taken_in = tt });
}
