-- Met places: while a seat is alone, only its own steps free a place, and those begin anew.
use Rattle.std.proofs.Common.{◌≡◌, ◌≢◌, ℕ, ◌<◌, ◌≤◌, true, false, Bool, cond, eqb, List, [], ◌∷◌, ◌++◌, drop, length, set, append-nil, refl, sym, ap, subst, arith, inl, inr, suc, ◌⊎◌, ◌∙◌}
use Rattle.std.proofs.lemmas.List.{length-append, drop-append-le}
use Rattle.std.proofs.Math.Seq.{drop-length}
use Rattle.plain_data.specs.State.{State}
use Rattle.word_layout.specs.Size.{Size, IsSize, places}
use Rattle.word_layout.specs.Name.{head, lock, status, next as next_word}
use Rattle.core_rule.specs.Memory.{Memory}
use Rattle.core_rule.specs.World.{World, Owner, free, held, marked, linked, at_number, from_behind, is_in, cut_by, first_world}
use Rattle.core_rule.specs.View.{View, Load, Splitting, Seen, first_view}
use Rattle.core_rule.specs.Views.{Among, OthersTaken}
use Rattle.core_rule.specs.Kinds.{Kind, offer_write_word, offer_read_word, take, look_at, give, mark, link_head, link_next, take_lock, cut, free_place, name, after, turned}
use Rattle.core_rule.specs.Hands.{split_left, split_right, joined_view}
use Rattle.core_rule.specs.Reckoning.{recent, IsMet}
use Rattle.core_rule.specs.Parts.Places.{Shows}
use Rattle.core_rule.specs.Parts.Met.{IsTaken, MetOk}
use Rattle.core_rule.specs.Parts.Met as part
use Rattle.core_rule.proofs.Among.{Among-either}
use Rattle.core_rule.proofs.EachView.{Each-set, Each-push, Each-join, Each-one, Each-own, joined}
use Rattle.core_rule.proofs.Step.{Step, at_cases}
use Rattle.core_rule.proofs.Making.{Split, Join}
use Rattle.core_rule.proofs.Alone.{OthersTaken-begun, OthersTaken-before}
use Rattle.core_rule.proofs.Parts.CountsKept.{none_other}
use Rattle.core_rule.proofs.Without.{ne_from_test}

status_one : (p q : ℕ) → status p ≡ status q → p ≡ q
status_one p q e = cc

-- nothing was met
nothing : (z : Size) (owner : ℕ → Owner) (number : ℕ) (s : Splitting) (taken_in : List ℕ) (seen : Seen) → seen.since ≤ length seen.lost → recent seen ≡ [] → IsTaken z owner number s taken_in seen
nothing z owner number s taken_in seen le none = record { within = le; taken = λ alone p inside met. absurd (subst (Among met.exchange) none met.among) }

anew : (z : Size) (owner : ℕ → Owner) (number : ℕ) (s : Splitting) (taken_in : List ℕ) (seen : Seen) → IsTaken z owner number s taken_in record seen { since = length seen.lost }
anew z owner number s taken_in seen = nothing z owner number s taken_in _ (omega arith) (drop-length seen.lost)

-- other owners, of which none is free that was not
module _ (z : Size) (owner owner' : ℕ → Owner) (number : ℕ) (s : Splitting) (taken_in : List ℕ) (seen : Seen) (keeps : (q : ℕ) → owner q ≢ free → owner' q ≢ free) (h : IsTaken z owner number s taken_in seen) where
  same_seen : IsTaken z owner' number s taken_in seen
  same_seen = record { within = h.within; taken = λ alone p inside met. keeps p (h.taken alone p inside met) }

  -- and one exchange more that was lost, on a place that is not free or on no place
  one_lost : (x : Load) → ((q : ℕ) → q < places z → x.word ≡ status q → owner' q ≢ free) → (b : Bool) → IsTaken z owner' number s taken_in record seen { lost = seen.lost ++ cond b [] (x ∷ []) }
  one_lost x not true = subst (λ (ls : List Load). IsTaken z owner' number s taken_in record seen { lost = ls }) (sym (append-nil seen.lost)) same_seen
  one_lost x not false = record {
    within = let l = length-append seen.lost (x ∷ []) in let w = h.within in omega arith;
    taken = λ alone p inside met. by_either alone p inside met (Among-either met.exchange x (recent seen) (subst (Among met.exchange) (drop-append-le seen.since seen.lost (x ∷ []) h.within) met.among));
  } where
    by_either : OthersTaken z.seats number s taken_in → (p : ℕ) → p < places z → (met : IsMet p (drop seen.since (seen.lost ++ x ∷ []))) → Among met.exchange (recent seen) ⊎ (x ≡ met.exchange) → owner' p ≢ free
    by_either alone p inside met (inl old) = keeps p (h.taken alone p inside record { exchange = met.exchange; among = old; word = met.word })
    by_either alone p inside met (inr new) = not p inside (ap (λ (l : Load). l.word) new ∙ met.word)

module _ (kept : State → Type 0) (z : Size) (g : World) (m : Memory) (vs : List View) (id : ℕ) (v : View) where
  framed : (k : Kind) → Step kept z g m vs id v k → (owner' : ℕ → Owner) (w : View) → MetOk z owner' w → part.Met z owner' (set vs id w)
  framed k s owner' w mine = Each-set (MetOk z g.owner) (MetOk z owner') vs w id (λ i u ne at live h. record { within = h.within; taken = λ alone. absurd (none_other kept z g m vs id v k s i u ne at live alone) }) (λ live. mine) s.rule.met

  knew : {k : Kind} → Step kept z g m vs id v k → MetOk z g.owner v
  knew s = s.rule.met id v s.at s.allowed.is_open

  -- the owner of one place changes, to one that is not free
  one_keeps : (p : ℕ) (o : Owner) → (g.owner p ≢ free → o ≢ free) → (q : ℕ) → g.owner q ≢ free → at_number g.owner p o q ≢ free
  one_keeps p o other q ne = at_cases g.owner p o q (λ x. x ≢ free) (λ e. other (subst (λ (y : ℕ). g.owner y ≢ free) (sym e) ne)) (λ e. ne)

  held_not : (seat : ℕ) → held seat ≢ free
  held_not seat e = cc

  marked_not : (seat : ℕ) → marked seat ≢ free
  marked_not seat e = cc

  linked_not : (r : ℕ) → linked r ≢ free
  linked_not r e = cc

  cut_not : (seat : ℕ) → cut_by seat ≢ free
  cut_not seat e = cc

  -- what a place has that an exchange has taken, or not found free
  shows_not : (o : Owner) (n : ℕ) → Shows o n → n ≢ 0 → o ≢ free
  shows_not o n h ne is = ne (subst (λ (x : Owner). Shows x n) is h)

  taken_keeps : (p : ℕ) (b : Bool) → g.owner p ≢ free → cond b (held v.number) (g.owner p) ≢ free
  taken_keeps p true ne = held_not v.number
  taken_keeps p false ne = ne

  taken_not : (p : ℕ) (s : Step kept z g m vs id v (take p)) → p < places z → (b : Bool) → eqb (m (status p)) 0 ≡ b → cond b (held v.number) (g.owner p) ≢ free
  taken_not p s inside true e = held_not v.number
  taken_not p s inside false e = shows_not (g.owner p) (m (status p)) (s.rule.places.shows p inside) (ne_from_test (m (status p)) 0 e)

  -- a load that shows a place not free
  looked : (p : ℕ) → Step kept z g m vs id v (look_at p) → p < places z → (b : Bool) → eqb (m (status p)) 0 ≡ b
      → IsTaken z g.owner v.number v.splitting v.clock.taken_in record v.seen { lost = v.seen.lost ++ cond b [] (record { word = status p; number = m (status p) } ∷ []) }
  looked p s inside true e =
      subst (λ (ls : List Load). IsTaken z g.owner v.number v.splitting v.clock.taken_in record v.seen { lost = ls }) (sym (append-nil v.seen.lost)) (let h = knew s in record { within = h.within; taken = h.taken })
  looked p s inside false e =
      one_lost z g.owner g.owner v.number v.splitting v.clock.taken_in v.seen (λ q ne. ne) (knew s) record { word = status p; number = m (status p) }
      (λ q lt same. subst (λ (k : ℕ). g.owner k ≢ free) (status_one p q same) (shows_not (g.owner p) (m (status p)) (s.rule.places.shows p inside) (ne_from_test (m (status p)) 0 e))) false

  linked_keeps : (r p : ℕ) (b : Bool) (q : ℕ) → g.owner q ≢ free → cond b (at_number g.owner p (linked r)) g.owner q ≢ free
  linked_keeps r p true q ne = one_keeps p (linked r) (λ old. linked_not r) q ne
  linked_keeps r p false q ne = ne

  cut_keeps : (b : Bool) (q : ℕ) → g.owner q ≢ free → cond b (cut_by v.number) (g.owner q) ≢ free
  cut_keeps true q ne = cut_not v.number
  cut_keeps false q ne = ne

  pub met_kept : (k : Kind) → Step kept z g m vs id v k → part.Met z (turned k v (m (name k v)) g).owner (set vs id (after k v (m (name k v))))
  met_kept offer_write_word s = framed _ s g.owner _ (let h = knew s in record { within = h.within; taken = λ alone. h.taken (OthersTaken-begun z.seats v.number v.splitting v.clock.taken_in s.allowed.fits alone) })
  met_kept offer_read_word s = framed _ s g.owner _ (let h = knew s in record { within = h.within; taken = λ alone. h.taken (OthersTaken-before z.seats v.number v.splitting v.clock.taken_in s.allowed.fits alone) })
  met_kept (take p) s =
      let inside : p < places z = rw (← (s.rule.seats.each id v s.at s.allowed.is_open).size) s.allowed.can in let b = eqb (m (status p)) 0 in
      framed _ s _ _ (one_lost z g.owner (at_number g.owner p (cond b (held v.number) (g.owner p))) v.number v.splitting v.clock.taken_in v.seen (one_keeps p (cond b (held v.number) (g.owner p)) (taken_keeps p b)) (knew s)
      record { word = status p; number = m (status p) }
      (λ q lt e. at_cases g.owner p (cond b (held v.number) (g.owner p)) q (λ x. x ≢ free) (λ same. taken_not p s inside b refl) (λ ne. absurd (ne (status_one p q e)))) b)
  met_kept (look_at p) s = framed _ s _ _ (looked p s (rw (← (s.rule.seats.each id v s.at s.allowed.is_open).size) s.allowed.can) (eqb (m (status p)) 0) refl)
  met_kept (give p) s = framed _ s _ _ (anew z _ v.number v.splitting v.clock.taken_in v.seen)
  met_kept (free_place r c to p) s = framed _ s _ _ (anew z _ v.number v.splitting v.clock.taken_in v.seen)
  met_kept (mark r f) s = framed _ s _ _ (same_seen z g.owner _ v.number v.splitting v.clock.taken_in v.seen (one_keeps f.place (marked v.number) (λ old. marked_not v.number)) (knew s))
  met_kept (link_head p j w) s = let b = eqb (m (head p.record_number)) (suc p.place) in
      framed _ s _ _ (one_lost z g.owner _ v.number v.splitting v.clock.taken_in v.seen (linked_keeps p.record_number j.write.place b) (knew s) record { word = head p.record_number; number = m (head p.record_number) } (λ q lt e. absurd cc) b)
  met_kept (link_next p j a w) s = let b = eqb (m (next_word a)) (suc p.place) in
      framed _ s _ _ (one_lost z g.owner _ v.number v.splitting v.clock.taken_in v.seen (linked_keeps p.record_number j.write.place b) (knew s) record { word = next_word a; number = m (next_word a) } (λ q lt e. absurd cc) b)
  met_kept (take_lock r c) s = framed _ s _ _ (one_lost z g.owner g.owner v.number v.splitting v.clock.taken_in v.seen (λ q ne. ne) (knew s) record { word = lock r; number = m (lock r) } (λ q lt e. absurd cc) (eqb (m (lock r)) 0))
  met_kept (cut r c p) s = framed _ s _ _ (same_seen z g.owner _ v.number v.splitting v.clock.taken_in v.seen (λ q ne. cut_keeps (is_in q (from_behind p (g.lists r))) q ne) (knew s))
  met_kept k s = framed k s g.owner _ (let h = knew s in record { within = h.within; taken = h.taken })

module _ (kept : State → Type 0) (z : Size) (g : World) (m : Memory) (vs : List View) (id : ℕ) (v : View) (s : Split kept z g m vs id v) where
  pub met_split : part.Met z g.owner (set vs id (split_left v) ++ split_right v ∷ [])
  met_split = Each-push (MetOk z g.owner) (MetOk z g.owner) (set vs id (split_left v)) (split_right v) (λ i u at live p. p) (λ live. nothing z g.owner _ _ _ _ (omega arith) refl)
      (Each-own (MetOk z g.owner) vs id v _ s.rule.met s.at s.is_open (λ p. anew z g.owner _ _ _ v.seen))

module _ (kept : State → Type 0) (z : Size) (g : World) (m : Memory) (vs : List View) (id other : ℕ) (v w : View) (s : Join kept z g m vs id other v w) where
  pub met_joined : part.Met z g.owner (joined vs (joined_view v w) id other)
  met_joined = Each-join vs _ id other (MetOk z g.owner) (MetOk z g.owner) (λ i u h live p. p) (λ live. anew z g.owner _ _ _ v.seen) s.rule.met

pub met_start : (z : Size) → IsSize z → part.Met z (first_world z).owner (first_view z ∷ [])
met_start z h = Each-one (MetOk z (first_world z).owner) (first_view z) (nothing z (first_world z).owner _ _ _ _ (omega arith) refl)
