-- What a seat has in the reserved place, from item to item of a collection.
use Rattle.std.proofs.Common.{◌≡◌, ℕ, ◌≤◌, true, false, Bool, cond, eqb, List, [], ◌∷◌, refl, sym, ap, ◌∙◌, subst, inl, inr, ⊎_elim, arith, eqb-true, eq-eqb}
use Rattle.std.specs.Prelude.{nat_lt, ◌&&◌}
use Rattle.std.proofs.lemmas.Bool.{ltb-true}
use Rattle.std.proofs.lemmas.Bool.Decides.{Decides-ltb}
use Rattle.stamp_base.specs.Stamp.{bound_of_clock}
use Rattle.core_rule.specs.View.{View, Reserved, nothing_reserved, version_reserved, maybe_reserved, Counted, Top}
use Rattle.core_rule.specs.Views.{Among, IsAlone}
use Rattle.core_rule.specs.Searching.{reserved_from}
use Rattle.rapid_gc.specs.declared.queue.Queued.{Queued}
use Rattle.rapid_gc.specs.declared.fate.Fate.{Fate}
use Rattle.rapid_gc.specs.declared.fate.Fate.TheVariants.{Late, Locked, Dropped, Cut as CutBelow}
use Rattle.rapid_gc.specs.declared.collecting.Collected.{Collected}
use Rattle.rapid_gc.specs.Queues.{AllBelow}
use Rattle.rapid_gc.specs.Bounds.{IsNewest}
use Rattle.rapid_gc.specs.InReserved.{IsBelow, Remains, CutsOff}
use Rattle.rapid_gc.specs.Ends.{Ended, Goes, not_begun, goes_on, Became, items_of}
use Rattle.rapid_gc.specs.Collections.{Collects}
use Rattle.rapid_gc.proofs.Alone.{goes_alone, reaches, prepared_alone}
use Rattle.rapid_gc.proofs.Bounds.{cut_counts, goes_tops, same_counts, same_tops}

-- ---- one item

-- what the cut leaves
left_by_test : (i : Queued) (r t : ℕ) (a b : Bool) → eqb r i.rid ≡ a → nat_lt t i.stamp ≡ b → Remains (i ∷ []) (version_reserved r t) (cond (a && b) nothing_reserved (version_reserved r t))
left_by_test i r t true true e lt = inr record { item = i; among = inl refl; below = (eqb-true r i.rid e, ltb-true t i.stamp lt); nothing = refl }
left_by_test i r t true false e lt = inl refl
left_by_test i r t false b e lt = inl refl

left_by_cut : (i : Queued) (k : Reserved) → Remains (i ∷ []) k (reserved_from i.rid i.stamp k)
left_by_cut i nothing_reserved = inl refl
left_by_cut i (version_reserved r t) = left_by_test i r t (eqb r i.rid) (nat_lt t i.stamp) refl refl
left_by_cut i maybe_reserved = inl refl

below_cut : (i : Queued) (k : Reserved) → IsBelow i k → reserved_from i.rid i.stamp k ≡ nothing_reserved
below_cut i nothing_reserved h = absurd h
below_cut i maybe_reserved h = absurd h
below_cut i (version_reserved r t) h =
    ap (λ (b : Bool). cond (b && nat_lt t i.stamp) nothing_reserved (version_reserved r t)) (eq-eqb r i.rid h.0)
    ∙ ap (λ (b : Bool). cond b nothing_reserved (version_reserved r t)) ((Decides-ltb t i.stamp).1 h.1)

became_left : (reached : ℕ) (i : Queued) (f : Fate) (v w : View) → Became reached i f v w → Remains (i ∷ []) v.counts.in_reserved w.counts.in_reserved
became_left reached i Late v w h = inl (ap (λ (x : View). x.counts.in_reserved) h.1)
became_left reached i Locked v w h = inl (ap (λ (x : View). x.counts.in_reserved) h.1.view)
became_left reached i Dropped v w h = inl (ap (λ (x : View). x.counts.in_reserved) h.1.view)
became_left reached i CutBelow v w h = subst (Remains (i ∷ []) v.counts.in_reserved) (sym (ap (λ (k : Counted). k.in_reserved) (cut_counts i v w h.1))) (left_by_cut i v.counts.in_reserved)

became_cut : (reached : ℕ) (i : Queued) (f : Fate) (v w : View) → Became reached i f v w → IsAlone v → i.stamp ≤ reached → IsNewest v.tops i → IsBelow i v.counts.in_reserved → w.counts.in_reserved ≡ nothing_reserved
became_cut reached i Late v w h alone low n below = absurd (let late = h.0 in omega arith)
became_cut reached i Locked v w h alone low n below = absurd (h.1.not_alone alone)
became_cut reached i Dropped v w h alone low n below = absurd (let k = h.1.known alone n.stamp n.known in let b = h.1.below in let l = n.low in omega arith)
became_cut reached i CutBelow v w h alone low n below = ap (λ (k : Counted). k.in_reserved) (cut_counts i v w h.1) ∙ below_cut i v.counts.in_reserved below

-- ---- one after another

-- where nothing is there, nothing comes there
nothing_stays : (is : List Queued) (a b : Reserved) → Remains is a b → a ≡ nothing_reserved → b ≡ nothing_reserved
nothing_stays is a b (inl e) none = e ∙ none
nothing_stays is a b (inr c) none = c.nothing

left_more : (is js : List Queued) (a b c : Reserved) → ((i : Queued) → Among i is → Among i js) → Remains is b c → b ≡ a → Remains js a c
left_more is js a b c more (inl e) same = inl (e ∙ same)
left_more is js a b c more (inr cut) same = inr record { item = cut.item; among = more cut.item cut.among; below = subst (IsBelow cut.item) same cut.below; nothing = cut.nothing }

left_both : (is js all : List Queued) (a b c : Reserved) → ((i : Queued) → Among i is → Among i all) → ((i : Queued) → Among i js → Among i all) → Remains is a b → Remains js b c → Remains all a c
left_both is js all a b c first second (inl e) h = left_more js all a b c second h e
left_both is js all a b c first second (inr cut) h = inr record { item = cut.item; among = first cut.item cut.among; below = cut.below; nothing = nothing_stays js b c h cut.nothing }

-- the item that is gone through last
at_last : (es : List Ended) (e : Ended) (i : Queued) → Among i (e.item ∷ []) → Among i (items_of (e ∷ es))
at_last es e i (inl same) = inl same
at_last es e i (inr h) = absurd h

module _ (reached : ℕ) where
  goes_left : (es : List Ended) (v w : View) → Goes reached es v w → Remains (items_of es) v.counts.in_reserved w.counts.in_reserved
  goes_left _ _ _ (not_begun v) = inl refl
  goes_left _ _ _ (goes_on es e v w x g b) =
      left_both (items_of es) (e.item ∷ []) (items_of (e ∷ es)) v.counts.in_reserved w.counts.in_reserved x.counts.in_reserved (λ i h. inr h) (at_last es e) (goes_left es v w g) (became_left reached e.item e.end w x b)

  -- the item that is gone through last is above it, and it is still there or was cut off before
  last_cut : (es : List Ended) (e : Ended) (v w x : View) → Goes reached es v w → Became reached e.item e.end w x → IsAlone v → e.item.stamp ≤ reached → IsNewest v.tops e.item → IsBelow e.item v.counts.in_reserved
      → Remains (items_of es) v.counts.in_reserved w.counts.in_reserved → x.counts.in_reserved ≡ nothing_reserved
  last_cut es e v w x g b alone low n below (inl same) =
      became_cut reached e.item e.end w x b (goes_alone reached es v w g alone) low (subst (λ (ts : List Top). IsNewest ts e.item) (sym (goes_tops reached es v w g)) n) (subst (IsBelow e.item) (sym same) below)
  last_cut es e v w x g b alone low n below (inr cut) = nothing_stays (e.item ∷ []) w.counts.in_reserved x.counts.in_reserved (became_left reached e.item e.end w x b) cut.nothing

  goes_cut : (es : List Ended) (v w : View) → Goes reached es v w → IsAlone v → ((i : Queued) → Among i (items_of es) → i.stamp ≤ reached) → CutsOff (items_of es) v.tops v.counts.in_reserved w.counts.in_reserved
  goes_cut _ _ _ (not_begun v) alone low i h n below = absurd h
  goes_cut _ _ _ (goes_on es e v w x g b) alone low i h n below = ⊎_elim
      (λ (new : e.item ≡ i). last_cut es e v w x g b alone (low e.item (inl refl)) (subst (IsNewest v.tops) (sym new) n) (subst (λ (y : Queued). IsBelow y v.counts.in_reserved) (sym new) below) (goes_left es v w g))
      (λ (old : Among i (items_of es)). nothing_stays (e.item ∷ []) w.counts.in_reserved x.counts.in_reserved (became_left reached e.item e.end w x b) (goes_cut es v w g alone (λ j k. low j (inr k)) i old n below))
      h

-- ---- the collection

module _ (before : View) (items items' : List Queued) (after' : View) (tally : Collected) (c : Collects before items items' after' tally) where
  same_kept : c.prepared.counts.in_reserved ≡ before.counts.in_reserved
  same_kept = ap (λ (k : Counted). k.in_reserved) (same_counts before items items' after' tally c)

  pub is_left : Remains items before.counts.in_reserved after'.counts.in_reserved
  is_left =
      let g = c.goes_through in
      subst (λ (is : List Queued). Remains is before.counts.in_reserved after'.counts.in_reserved) g.each_item
      (subst (λ (k : Reserved). Remains (items_of g.ended) k after'.counts.in_reserved) same_kept (goes_left after'.reached g.ended c.prepared after' g.goes))

  pub cuts_off : IsAlone before → AllBelow (bound_of_clock before.clock.clock) items → CutsOff items before.tops before.counts.in_reserved after'.counts.in_reserved
  cuts_off alone below = λ i has n under.
      let g = c.goes_through in let high = reaches before after'.reached c.prepared c.prepares alone in
      goes_cut after'.reached g.ended c.prepared after' g.goes (prepared_alone before after'.reached c.prepared c.prepares alone)
      (λ j h. let low = below j (subst (Among j) g.each_item h) in omega arith) i (subst (Among i) (sym g.each_item) has)
      (subst (λ (ts : List Top). IsNewest ts i) (sym (same_tops before items items' after' tally c)) n) (subst (IsBelow i) (sym same_kept) under)
