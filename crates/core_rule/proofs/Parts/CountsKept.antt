-- Counts: a seat that is alone counts what it links itself, at its stamp in flight, which is above all that are linked.
use Rattle.std.proofs.Common.{◌≡◌, ◌≢◌, ◌⊎◌, ℕ, suc, ◌-◌, ◌<◌, ◌≤◌, true, false, Bool, cond, eqb, List, [], ◌∷◌, length, set, refl, sym, ap, subst, arith, eqb-true, inl, inr, Option, Some, None}
use Rattle.std.specs.Prelude.{nat_lt}
use Rattle.std.proofs.lemmas.Bool.{leb-true}
use Rattle.plain_data.specs.State.{State}
use Rattle.word_layout.specs.Size.{Size, IsSize}
use Rattle.word_layout.specs.Name.{head, next as next_word}
use Rattle.core_rule.specs.Memory.{Memory, stored, start}
use Rattle.core_rule.specs.World.{World, at_number, behind, up_to, first_world}
use Rattle.core_rule.specs.View.{View, Bound, Counted, Top, Stand, Joint, blank, stamped, shown, first_view, nothing_known}
use Rattle.core_rule.specs.Views.{At, Has, OthersTaken}
use Rattle.core_rule.specs.Searching.{one_more, known_of, newest_stamp, is_newest, counted_more, counted_one}
use Rattle.core_rule.specs.Kinds.{Kind, offer_write_word, offer_read_word, link_head, link_next, front_stamp, front_next, cut, name, after, turned, changed}
use Rattle.core_rule.specs.Parts.Lists.{Spells, Falls}
use Rattle.core_rule.specs.Parts.Linking.{JointOk}
use Rattle.core_rule.specs.Parts.Counts.{outside, IsBounded, IsTop, Knows, CountsOk}
use Rattle.core_rule.specs.Parts.Counts as part
use Rattle.core_rule.proofs.EachView.{Each-set, Each-one}
use Rattle.core_rule.proofs.Step.{Step, differs, at_cases, at_both, ltb-true_from}
use Rattle.core_rule.proofs.Alone.{none_else, linked_low, OthersTaken-before}
use Rattle.core_rule.proofs.Working.{stand_of, joint_of, front_of}
use Rattle.core_rule.proofs.Listed.{top as top_over, behind_only}
use Rattle.core_rule.proofs.Tails.{up_in}
use Rattle.core_rule.proofs.Without.{ne_from_test}
use Rattle.core_rule.proofs.Cutting.{cut_work, cut_version}
use Rattle.core_rule.proofs.Touched.{Quiet, quiet}

-- ---- how long a list becomes

-- with one more place, wherever it is put
module _ (z : Size) (p : ℕ) where
  one : (b : Bool) (n : ℕ) → cond b n (suc n) ≤ suc n
  one true n = omega arith
  one false n = omega arith

  length_case : (q x : ℕ) (xs rest : List ℕ) (b : Bool) → length rest ≤ suc (length xs) → length (cond b (x ∷ p ∷ xs) (x ∷ rest)) ≤ suc (length (x ∷ xs))
  length_case q x xs rest true le = omega arith
  length_case q x xs rest false le = omega arith

  length_behind : (q : ℕ) (xs : List ℕ) → length (behind q p xs) ≤ suc (length xs)
  length_behind q [] = omega arith
  length_behind q (x ∷ xs) = length_case q x xs (behind q p xs) (eqb x q) (length_behind q xs)

  more_outside : (c d : Bool) (a b n : ℕ) → a ≤ cond c b (suc b) → cond d a (suc a) ≤ cond c (cond d b (suc b)) (suc (cond d b (suc b)))
  more_outside true true a b n le = le
  more_outside true false a b n le = omega arith
  more_outside false true a b n le = le
  more_outside false false a b n le = omega arith

  swap_outside : (c d : Bool) (n : ℕ) → cond d (cond c n (suc n)) (suc (cond c n (suc n))) ≤ cond c (cond d n (suc n)) (suc (cond d n (suc n)))
  swap_outside true true n = omega arith
  swap_outside true false n = omega arith
  swap_outside false true n = omega arith
  swap_outside false false n = omega arith

  abbrev grown_by : ℕ → ℕ
  grown_by n = cond (nat_lt p z.records) n (suc n)

  outside_case : (q x : ℕ) (xs rest : List ℕ) (b : Bool) → outside z rest ≤ grown_by (outside z xs) → outside z (cond b (x ∷ p ∷ xs) (x ∷ rest)) ≤ grown_by (outside z (x ∷ xs))
  outside_case q x xs rest true le = swap_outside (nat_lt p z.records) (nat_lt x z.records) (outside z xs)
  outside_case q x xs rest false le = more_outside (nat_lt p z.records) (nat_lt x z.records) (outside z rest) (outside z xs) 0 le

  never_less : (b : Bool) (n : ℕ) → n ≤ cond b n (suc n)
  never_less true n = omega arith
  never_less false n = omega arith

  outside_behind : (q : ℕ) (xs : List ℕ) → outside z (behind q p xs) ≤ grown_by (outside z xs)
  outside_behind q [] = never_less (nat_lt p z.records) 0
  outside_behind q (x ∷ xs) = outside_case q x xs (behind q p xs) (eqb x q) (outside_behind q xs)

  rises : (b : Bool) (n k : ℕ) → n ≤ k → cond b n (suc n) ≤ cond b k (suc k)
  rises true n k le = le
  rises false n k le = omega arith

  bounded_more : (o : Option Bound) (xs ys : List ℕ) → length ys ≤ suc (length xs) → outside z ys ≤ grown_by (outside z xs) → IsBounded z o xs → IsBounded z (one_more z p o) ys
  bounded_more None xs ys long out h = tt
  bounded_more (Some b) xs ys long out h = (let l = h.0 in omega arith, let r = rises (nat_lt p z.records) (outside z xs) b.outside h.1 in omega arith)

-- where no stamp is above that of one place, the list up to it is that place alone
module _ (stamps : ℕ → ℕ) (p : ℕ) where
  only_case : (x : ℕ) (xs rest : List ℕ) (b : Bool) → eqb x p ≡ b → Falls stamps (x ∷ xs) → Has p (x ∷ xs) → ((q : ℕ) → Has q (x ∷ xs) → stamps q ≤ stamps p) → cond b (x ∷ []) (x ∷ rest) ≡ p ∷ []
  only_case x xs rest true e f there low = ap (λ (y : ℕ). y ∷ []) (eqb-true x p e)
  only_case x xs rest false e f (inl same) low = absurd (ne_from_test x p e same)
  only_case x xs rest false e f (inr there) low = absurd (let a = f.0 p there in let b = low x (inl refl) in omega arith)

  only_first : (xs : List ℕ) → Falls stamps xs → Has p xs → ((q : ℕ) → Has q xs → stamps q ≤ stamps p) → up_to p xs ≡ p ∷ []
  only_first [] f there low = absurd there
  only_first (x ∷ xs) f there low = only_case x xs (up_to p xs) (eqb x p) refl f there low

IsTop-same : (a b : ℕ → ℕ) (o : Option ℕ) (xs : List ℕ) → ((q : ℕ) → Has q xs → b q ≡ a q) → IsTop a o xs → IsTop b o xs
IsTop-same a b None xs same h = tt
IsTop-same a b (Some t) xs same h = λ q has. let e = same q has in let l = h q has in omega arith

IsTop-fewer : (a : ℕ → ℕ) (o : Option ℕ) (xs ys : List ℕ) → ((q : ℕ) → Has q ys → Has q xs) → IsTop a o xs → IsTop a o ys
IsTop-fewer a None xs ys fewer h = tt
IsTop-fewer a (Some t) xs ys fewer h = λ q has. h q (fewer q has)

-- ---- the part

pub nothing : (z : Size) (lists : ℕ → List ℕ) (stamps : ℕ → ℕ) → Knows z lists stamps (known_of nothing_known) (newest_stamp [])
nothing z lists stamps = record { bounded = λ r lt. tt; newest = λ r lt. tt }

-- the only one
abbrev one_bound : Size → ℕ → Bound
one_bound z p = record { linked = 1; outside = cond (nat_lt p z.records) 0 1 }

module _ (kept : State → Type 0) (z : Size) (g : World) (m : Memory) (vs : List View) (id : ℕ) (v : View) where
  abbrev S : ℕ → ℕ
  S = (stored m).stamps

  abbrev Alone : Type 0
  Alone = OthersTaken z.seats v.number v.splitting v.clock.taken_in

  abbrev As : (ℕ → List ℕ) → Counted → List Top → Type 0
  As lists' counts tops = Knows z lists' S (known_of counts) (newest_stamp tops)

  -- another view is not alone
  pub none_other : (k : Kind) → Step kept z g m vs id v k → (i : ℕ) (u : View) → i ≢ id → At vs i u → u.spent ≡ false → OthersTaken z.seats u.number u.splitting u.clock.taken_in → ⊥
  none_other k s i u ne at live alone = none_else kept z g m vs s.rule i u at live id v s.at s.allowed.is_open (differs kept z g m vs id v k s i u ne at live) alone

  framed : (k : Kind) → Step kept z g m vs id v k → (lists' : ℕ → List ℕ) (stamps' : ℕ → ℕ) (w : View) → CountsOk z lists' stamps' w → part.Counts z lists' stamps' (set vs id w)
  framed k s lists' stamps' w mine = Each-set (CountsOk z g.lists S) (CountsOk z lists' stamps') vs w id (λ i u ne at live h alone. absurd (none_other k s i u ne at live alone)) (λ live. mine) s.rule.counts

  size_is : {k : Kind} → Step kept z g m vs id v k → v.size ≡ z
  size_is s = (s.rule.seats.each id v s.at s.allowed.is_open).size

  -- what it knew
  knew : {k : Kind} → Step kept z g m vs id v k → Alone → As g.lists v.counts v.tops
  knew s alone = s.rule.counts id v s.at s.allowed.is_open alone

  still : (k : Kind) → Step kept z g m vs id v k → Quiet k → (counts : Counted) (tops : List Top) → As g.lists counts tops → Knows z g.lists (stored (changed k v m)).stamps (known_of counts) (newest_stamp tops)
  still k s q counts tops h = let u = quiet kept z g m vs id v k s q in record {
    bounded = h.bounded;
    newest = λ r lt. IsTop-same S (stored (changed k v m)).stamps (newest_stamp tops r) (g.lists r) (λ p has. u.stamps r p lt has) (h.newest r lt);
  }

  module _ (k : Kind) (s : Step kept z g m vs id v k) (r p t : ℕ) (ys : List ℕ) (long : length ys ≤ suc (length (g.lists r))) (out : outside z ys ≤ cond (nat_lt p z.records) (outside z (g.lists r)) (suc (outside z (g.lists r))))
      (low : Alone → (q : ℕ) → Has q ys → S q ≤ t) where
    abbrev top : Top
    top = record { record_number = r; stamp = t }

    links_kept : (b : Bool) → Alone → As (cond b (at_number g.lists r ys) g.lists) (cond b (counted_more v.size r t p v.counts) v.counts) (cond b (top ∷ v.tops) v.tops)
    links_kept false alone = knew s alone
    links_kept true alone = let h = knew s alone in rw (size_is s) record {
      bounded = λ q lt. at_both (known_of v.counts) g.lists r (one_more z p (known_of v.counts r)) ys q (IsBounded z) (λ same. bounded_more z p (known_of v.counts r) (g.lists r) ys long out (h.bounded r (rw same lt))) (λ ne. h.bounded q lt);
      newest = λ q lt. at_both (newest_stamp v.tops) g.lists r (Some t) ys q (IsTop S) (λ same. low alone) (λ ne. h.newest q lt);
    }

  -- what is linked is not above the stamp in flight
  under_flight : {k : Kind} → Step kept z g m vs id v k → (p : Stand) (j : Joint) → p.record_number < z.records → JointOk z g.owner g.lists (stored m) v.number v.flight v.work.linked p j → Alone
      → (q : ℕ) → (j.write.place ≡ q) ⊎ Has q (g.lists p.record_number) → S q ≤ j.write.stamp
  under_flight s p j lt h alone q (inl e) = let a = h.mark.stamp in let same : S j.write.place ≡ S q = ap S e in omega arith
  under_flight s p j lt h alone q (inr has) = linked_low kept z g m vs s.rule id v s.at s.allowed.is_open j.write.stamp h.mark.in_flight alone p.record_number q lt has

  one_long : (xs : List ℕ) (word p : ℕ) → Spells (stored m).links word xs → word ≡ suc p → m (next_word p) ≡ 0 → xs ≡ p ∷ []
  one_long [] word p sp first last = absurd (omega arith)
  one_long (x ∷ []) word p sp first last = let same : x ≡ p = omega arith in ap (λ (y : ℕ). y ∷ []) same
  one_long (x ∷ y ∷ ys) word p sp first last = absurd (let same : x ≡ p = omega arith in let e : m (next_word x) ≡ m (next_word p) = ap (λ (q : ℕ). m (next_word q)) same in let t = sp.1.0 in omega arith)

  -- the list is this place alone
  one_is : (xs : List ℕ) (p : ℕ) → xs ≡ p ∷ [] → IsBounded z (Some (one_bound z p)) xs
  one_is xs p is = subst (IsBounded z (Some (one_bound z p))) (sym is) (omega arith, omega arith)

  looked : (k : Kind) → Step kept z g m vs id v k → (r p : ℕ) → (b : Bool) → eqb (m (next_word p)) 0 ≡ b → r < z.records → m (head r) ≡ suc p → Alone → As g.lists (cond b (counted_one v.size r p v.counts) v.counts) v.tops
  looked k s r p false e lt first alone = knew s alone
  looked k s r p true e lt first alone = let h = knew s alone in rw (size_is s) record {
    bounded = λ q lt'. at_cases (known_of v.counts) r (Some (one_bound z p)) q (λ o. IsBounded z o (g.lists q))
        (λ same. subst (λ (y : ℕ). IsBounded z (Some (one_bound z p)) (g.lists y)) same (one_is (g.lists r) p (one_long (g.lists r) (m (head r)) p (s.rule.lists.each r lt).spelled first (eqb-true (m (next_word p)) 0 e)))) (λ ne. h.bounded q lt');
    newest = h.newest;
  }

  -- the first version of a list is the newest
  seen_first : (k : Kind) → Step kept z g m vs id v k → (r p : ℕ) → r < z.records → m (head r) ≡ suc p → Alone → As g.lists v.counts (record { record_number = r; stamp = S p } ∷ v.tops)
  seen_first k s r p lt first alone = let h = knew s alone in record {
    bounded = h.bounded;
    newest = λ q lt'. at_cases (newest_stamp v.tops) r (Some (S p)) q (λ o. IsTop S o (g.lists q)) (λ same. subst (λ (y : ℕ). IsTop S (Some (S p)) (g.lists y)) same under) (λ ne. h.newest q lt');
  } where
    under : (q : ℕ) → Has q (g.lists r) → S q ≤ S p
    under q has =
        let l = s.rule.lists.each r lt in let t = top_over S (stored m).links (g.lists r) (m (head r)) q l.spelled l.falls has in
        let o = t.over in let here : m (head r) - 1 ≡ p = omega arith in let same : S (m (head r) - 1) ≡ S p = ap S here in omega arith

  -- a list that is cut is not longer, and where no version is above the place, it is that place alone
  module _ (r c p : ℕ) (s : Step kept z g m vs id v (cut r c p)) where
    abbrev ups : List ℕ
    ups = up_to p (g.lists r)

    on_record : r < z.records
    on_record = (cut_work kept z g m vs id v r c p s).on_record

    shorter : (q : ℕ) → q < z.records → (o : Option Bound) → IsBounded z o (g.lists q) → IsBounded z o (at_number g.lists r ups q)
    shorter q lt o h = at_cases g.lists r ups q (IsBounded z o)
        (λ same. bounded_less o (g.lists q) ups (subst (λ (y : ℕ). length ups ≤ length (g.lists y)) same (length_up p (g.lists r))) (subst (λ (y : ℕ). outside z ups ≤ outside z (g.lists y)) same (outside_up p (g.lists r))) h) (λ ne. h) where
          bounded_less : (o : Option Bound) (xs ys : List ℕ) → length ys ≤ length xs → outside z ys ≤ outside z xs → IsBounded z o xs → IsBounded z o ys
          bounded_less None xs ys long out h = tt
          bounded_less (Some b) xs ys long out h = (let l = h.0 in omega arith, let l = h.1 in omega arith)

          up_case : (x : ℕ) (xs rest : List ℕ) (b : Bool) → length rest ≤ length xs → length (cond b (x ∷ []) (x ∷ rest)) ≤ length (x ∷ xs)
          up_case x xs rest true le = omega arith
          up_case x xs rest false le = omega arith

          length_up : (q : ℕ) (xs : List ℕ) → length (up_to q xs) ≤ length xs
          length_up q [] = omega arith
          length_up q (x ∷ xs) = up_case x xs (up_to q xs) (eqb x q) (length_up q xs)

          out_case : (d b : Bool) (a n : ℕ) (x : ℕ) (rest : List ℕ) → a ≤ n → cond b (cond d 0 1) (cond d a (suc a)) ≤ cond d n (suc n)
          out_case true true a n x rest le = omega arith
          out_case true false a n x rest le = le
          out_case false true a n x rest le = omega arith
          out_case false false a n x rest le = omega arith

          up_outside : (x : ℕ) (rest : List ℕ) (b : Bool) → outside z (cond b (x ∷ []) (x ∷ rest)) ≡ cond b (cond (nat_lt x z.records) 0 1) (cond (nat_lt x z.records) (outside z rest) (suc (outside z rest)))
          up_outside x rest true = refl
          up_outside x rest false = refl

          outside_up : (q : ℕ) (xs : List ℕ) → outside z (up_to q xs) ≤ outside z xs
          outside_up q [] = omega arith
          outside_up q (x ∷ xs) = let l = out_case (nat_lt x z.records) (eqb x q) (outside z (up_to q xs)) (outside z xs) x (up_to q xs) (outside_up q xs) in
              subst (λ (n : ℕ). n ≤ outside z (x ∷ xs)) (sym (up_outside x (up_to q xs) (eqb x q))) l

    -- no version is above the stamp of the item
    one_left : (o : Option ℕ) → is_newest c o ≡ true → IsTop S o (g.lists r) → ups ≡ p ∷ []
    one_left None e h = absurd (let f : false ≡ true = e in cc)
    one_left (Some t) e h =
        let n = cut_version kept z g m vs id v r c p s in let le = leb-true t c e in let is = n.stamp_is in
        only_first S p (g.lists r) (s.rule.lists.each r on_record).falls n.there (λ q has. let l = h q has in omega arith)

    tops_less : As g.lists v.counts v.tops → (q : ℕ) → q < z.records → IsTop S (newest_stamp v.tops q) (at_number g.lists r ups q)
    tops_less h q lt = at_cases g.lists r ups q (IsTop S (newest_stamp v.tops q))
        (λ same. IsTop-fewer S (newest_stamp v.tops q) (g.lists q) ups (λ y has. subst (λ (x : ℕ). Has y (g.lists x)) same (up_in p (g.lists r) y has)) (h.newest q lt)) (λ ne. h.newest q lt)

    cut_known : (b : Bool) → is_newest c (newest_stamp v.tops r) ≡ b → Alone → As (at_number g.lists r ups) (cond b (counted_one v.size r p v.counts) v.counts) v.tops
    cut_known false e alone = let h = knew s alone in record { bounded = λ q lt. shorter q lt (known_of v.counts q) (h.bounded q lt); newest = tops_less h }
    cut_known true e alone = let h = knew s alone in rw (size_is s) record {
      bounded = λ q lt. at_both (known_of v.counts) g.lists r (Some (one_bound z p)) ups q (IsBounded z) (λ same. one_is ups p (one_left (newest_stamp v.tops r) e (h.newest r on_record))) (λ ne. h.bounded q lt);
      newest = tops_less h;
    }

  pub counts_kept : (k : Kind) → Step kept z g m vs id v k → part.Counts z (turned k v (m (name k v)) g).lists (stored (changed k v m)).stamps (set vs id (after k v (m (name k v))))
  counts_kept offer_write_word s = framed _ s g.lists S _ (λ alone. nothing z g.lists S)
  counts_kept offer_read_word s = framed _ s g.lists S _ (λ alone. knew s (OthersTaken-before z.seats v.number v.splitting v.clock.taken_in s.allowed.fits alone))
  counts_kept (link_head p j w) s =
      let o = (stand_of kept z g m vs id v _ s p (stamped w) s.allowed.can.0).kept.on_record in
      let h = joint_of kept z g m vs id v _ s p j w s.allowed.can.0 s.allowed.can.1 in
      framed _ s _ S _ (links_kept _ s p.record_number j.write.place j.write.stamp (j.write.place ∷ g.lists p.record_number) (omega arith) (omega arith)
      (λ alone q has. under_flight s p j o h alone q has) (eqb (m (head p.record_number)) (suc p.place)))
  counts_kept (link_next p j a w) s =
      let o = (stand_of kept z g m vs id v _ s p (stamped w) s.allowed.can.0).kept.on_record in
      let h = joint_of kept z g m vs id v _ s p j w s.allowed.can.0 s.allowed.can.1 in
      framed _ s _ S _ (links_kept _ s p.record_number j.write.place j.write.stamp (behind a j.write.place (g.lists p.record_number)) (length_behind z j.write.place a (g.lists p.record_number))
      (outside_behind z j.write.place a (g.lists p.record_number)) (λ alone q has. under_flight s p j o h alone q (behind_only a j.write.place (g.lists p.record_number) q has)) (eqb (m (next_word a)) (suc p.place)))
  counts_kept (front_stamp r p) s = let f = front_of kept z g m vs id v _ s r p blank s.allowed.can in framed _ s g.lists S _ (seen_first _ s r p f.0 f.2)
  counts_kept (front_next r p w x) s = let f = front_of kept z g m vs id v _ s r p (shown w x) s.allowed.can in framed _ s g.lists S _ (looked _ s r p (eqb (m (next_word p)) 0) refl f.0 f.2)
  counts_kept (cut r c p) s = framed _ s (at_number g.lists r (up_to p (g.lists r))) S _ (cut_known r c p s (is_newest c (newest_stamp v.tops r)) refl)
  counts_kept k s = framed k s g.lists (stored (changed k v m)).stamps _ (λ alone. still k s tt v.counts v.tops (knew s alone))

pub counts_start : (z : Size) → IsSize z → part.Counts z (first_world z).lists (stored (start z)).stamps (first_view z ∷ [])
counts_start z h = Each-one (CountsOk z (first_world z).lists (stored (start z)).stamps) (first_view z) (λ alone. record {
  bounded = λ r lt. (omega arith, rw (ltb-true_from r z.records lt) (omega arith));
  newest = λ r lt. tt;
})
