-- Lists whose first so many items are noted, each of another record.
use Rattle.std.proofs.Common.{◌≡◌, ◌≢◌, ℕ, zero, suc, ◌+◌, ◌-◌, ◌<◌, ◌≤◌, Bool, true, false, cond, eqb, eq-eqb, List, [], ◌∷◌, ◌++◌, Option, None, Some, refl, sym, ap, ◌∙◌, subst, inl, inr, ⊎_elim, ◌⊎◌, get_or, set, map, ◌||◌, take, drop, take-suc, drop-cons, length, arith, length-append, length-drop, length-set}
use Rattle.std.specs.Prelude.{IfNone, IfSome, min, replicate, slice_get, slice_index, position, option_map}
use Rattle.std.specs.List.{list_any}
use Rattle.std.proofs.lemmas.Bool.Decides.{eqb_tells}
use Rattle.std.proofs.lemmas.List.{take-append-drop, drop-append-le, drop_all, drop-map, get_or-map, map-append, length-take, length-map}
use Rattle.std.proofs.lemmas.Option.{slice_get_within, get_or_from_slice_get, slice_get_read, slice_get-map, slice_get-get_or}
use Rattle.std.proofs.lemmas.List.Quantifiers.{position-Some}
use Rattle.std.proofs.Math.Seq.{map-set_same, take-set-lt}
use Rattle.core_rule.specs.View.{Read, Write}
use Rattle.core_rule.specs.Views.{Among}
use Rattle.core_rule.specs.Deciding.{read_value, read_values, value_of, written_values}
use Rattle.core_rule.specs.Versions.{cells_of}
use Rattle.core_rule.proofs.Among.{Among-split, Among-right}
use Rattle.record_store.specs.Meaning.{value_at, with_value}
use Rattle.validate_core.specs.declared.noted.Noted.{Noted}
use Rattle.validate_core.specs.Noted.{noted, few, chains, IsOf, IsNoted, AreChained}
use Rattle.validate_core.specs.Sets.{Turn, Once}
use Rattle.validate_core.proofs.Chaining.{IsWalked, none_chained}
use Rattle.validate_core.proofs.Works.{among_turn}
use Rattle.validate_core.proofs.Writes.{once_snoc}

eqb_not : (a b : ℕ) → (a ≡ b → ⊥) → eqb a b ≡ false
eqb_not a b apart = elim (eqb_tells a b) as (λ _. eqb a b ≡ false) [ inl t ↦ absurd (apart t.1) | inr t ↦ t.0 ]

eqb_same : (a b : ℕ) → eqb a b ≡ true → a ≡ b
eqb_same a b e = elim (eqb_tells a b) as (λ _. a ≡ b) [ inl t ↦ t.1 | inr t ↦ absurd (let h : true ≡ false = sym e ∙ t.0 in cc) ]

pub if_none : {A : Type 0} (found : Option A) (P : Type 0) → P → IfNone found P
if_none None P p = p
if_none (Some x) P p = tt

neither : (a b : Bool) → a ≡ true → (a || b) ≡ false → ⊥
neither true b e f = cc
neither false b e f = cc

second : (a b : Bool) → (a || b) ≡ false → b ≡ false
second true b f = cc
second false b f = f

module _ {V : Type 0} where
  -- ---- the element of a number

  pub turn_of : (i : ℕ) (xs : List V) (x : V) → slice_get xs i ≡ Some x → Turn i xs x
  turn_of i xs x at =
      let within : i < length xs = slice_get_within xs i x at in
      let is : get_or xs i x ≡ x = get_or_from_slice_get xs i x x at in
      record {
        splits = sym (take-append-drop i xs) ∙ ap (λ (ys : List V). take i xs ++ ys) (drop-cons xs i x within ∙ ap (λ (y : V). y ∷ drop (suc i) xs) is);
        next = take-suc xs i x within ∙ ap (λ (y : V). take i xs ++ y ∷ []) is;
      }

  pub get_of : (i : ℕ) (xs : List V) (x : V) → Turn i xs x → slice_get xs i ≡ Some x
  get_of zero [] x t = absurd (let e = ap length t.splits in omega arith)
  get_of zero (y ∷ xs) x t = let e : y ∷ [] ≡ x ∷ [] = t.next in let same : y ≡ x = cc in ap (λ (z : V). Some z) same
  get_of (suc i) [] x t = absurd (let e = ap length t.splits in omega arith)
  get_of (suc i) (y ∷ xs) x t =
      let e : y ∷ take (suc i) xs ≡ y ∷ (take i xs ++ x ∷ []) = t.next in let f : y ∷ xs ≡ y ∷ (take i xs ++ x ∷ drop (suc i) xs) = t.splits in
      get_of i xs x (record { splits = cc; next = cc })

  -- of a list of which the first so many are taken, and of which so many are dropped
  pub taken_get : (n i : ℕ) (xs : List V) (x : V) → i < n → slice_get xs i ≡ Some x → slice_get (take n xs) i ≡ Some x
  taken_get zero i xs x lt at = absurd (omega arith)
  taken_get (suc n) i [] x lt at = at
  taken_get (suc n) zero (y ∷ xs) x lt at = at
  taken_get (suc n) (suc i) (y ∷ xs) x lt at = taken_get n i xs x (omega arith) at

  pub get_dropped : (n i : ℕ) (xs : List V) (x : V) → slice_get (drop n xs) i ≡ Some x → slice_get xs (n + i) ≡ Some x
  get_dropped zero i xs x at = let e : 0 + i ≡ i = omega arith in ap (slice_get xs) e ∙ at
  get_dropped (suc n) i [] x at = cc
  get_dropped (suc n) i (y ∷ xs) x at = let e : suc n + i ≡ suc (n + i) = omega arith in ap (slice_get (y ∷ xs)) e ∙ get_dropped n i xs x at

  pub get_set : (i : ℕ) (xs : List V) (x : V) → i < length xs → slice_get (set xs i x) i ≡ Some x
  get_set i [] x lt = absurd (omega arith)
  get_set zero (y ∷ xs) x lt = refl
  get_set (suc i) (y ∷ xs) x lt = get_set i xs x (omega arith)

  pub length_noted : (n : Noted V) → n.count ≤ length n.items.items → length (noted n) ≡ n.count
  length_noted n within = length-take n.count n.items.items ∙ omega arith

  -- the item of this number, where so many are noted
  pub noted_get : (n : Noted V) (i : ℕ) (x : V) → n.count ≤ length n.items.items → i < length (noted n) → x ≡ get_or n.items.items i x → slice_get (noted n) i ≡ Some x
  noted_get n i x within below is =
      let long = length_noted n within in
      taken_get n.count i n.items.items x (omega arith) (slice_get_read n.items.items (length n.items.items) i x refl (omega arith) is)

  -- another item in its place
  pub noted_set : (n m : Noted V) (i : ℕ) (x : V) → i < n.count → m.items.items ≡ set n.items.items i x → m.count ≡ n.count → noted m ≡ set (noted n) i x
  noted_set n m i x below items count =
      ap (λ (xs : List V). take m.count xs) items ∙ ap (λ (k : ℕ). take k (set n.items.items i x)) count ∙ take-set-lt n.count n.items.items i x below

  -- one item more
  pub noted_more : (n m : Noted V) (x : V) → Turn n.count n.items.items x → m.items ≡ n.items → m.count ≡ n.count + 1 → noted m ≡ noted n ++ x ∷ []
  noted_more n m x turn items count =
      let up : n.count + 1 ≡ suc n.count = omega arith in
      ap (λ (v : _). take m.count v.items) items ∙ ap (λ (k : ℕ). take k n.items.items) (count ∙ up) ∙ turn.next

  module _ (number : V → ℕ) where
    pub of_at : (rid i : ℕ) (xs : List V) (x : V) → slice_get xs i ≡ Some x → number x ≡ rid → IsOf number rid xs i
    of_at rid i xs x at is = record { element = x; turn = turn_of i xs x at; of_record = is }

    -- ---- where a record stands

    pub numbered_at : (i : ℕ) (xs : List V) (x : V) → slice_get xs i ≡ Some x → slice_index (map number xs) i ≡ number x
    numbered_at i xs x at = get_or-map number xs i x 0 (slice_get_within xs i x at) ∙ ap number (get_or_from_slice_get xs i x x at)

    -- none of the first so many
    pub none_first : (rid n : ℕ) (xs : List V) → ((i : ℕ) → i < min n (length (map number xs)) → slice_index (map number xs) i ≢ rid) → (x : V) → Among x (take n xs) → number x ≢ rid
    none_first rid zero xs none x among = absurd among
    none_first rid (suc n) [] none x among = absurd among
    none_first rid (suc n) (y ∷ xs) none x (inl same) = λ at. none 0 (omega arith) (ap number same ∙ at)
    none_first rid (suc n) (y ∷ xs) none x (inr among) = none_first rid n xs (λ i below. none (suc i) (omega arith)) x among

    found_in : (rid i : ℕ) (xs : List V) → position (eqb rid) (map number xs) ≡ Some i → (x : V) × (slice_get xs i ≡ Some x) × (number x ≡ rid)
    found_in rid i xs at =
        let p = position-Some (eqb rid) (map number xs) i 0 at in
        let n : ℕ = get_or (map number xs) i 0 in
        let is : option_map number (slice_get xs i) ≡ Some n = sym (slice_get-map number xs i) ∙ slice_get-get_or (map number xs) i 0 p.0 in
        elim (slice_get xs i) as (λ o. slice_get xs i ≡ o → option_map number o ≡ Some n → (x : V) × (slice_get xs i ≡ Some x) × (number x ≡ rid)) [ None ↦ λ e f. cc | Some x ↦ λ e f. (x, e, (let g : number x ≡ n = cc in g ∙ sym (eqb_same rid n p.1))) ] refl is

    -- one that stands behind the first few
    pub found_behind : (rid i : ℕ) (xs : List V) → position (eqb rid) (map number (drop few xs)) ≡ Some i → IsOf number rid xs (few + i)
    found_behind rid i xs at =
        let f = found_in rid i (drop few xs) at in
        of_at rid (few + i) xs f.0 (get_dropped few i xs f.0 f.1) f.2

    pub none_in : (rid : ℕ) (xs : List V) → list_any (eqb rid) (map number xs) ≡ false → (x : V) → Among x xs → number x ≢ rid
    none_in rid [] none x among = absurd among
    none_in rid (y ∷ xs) none x (inl same) = λ at. absurd (neither (eqb rid (number y)) _ (eq-eqb rid (number y) (sym at ∙ ap number (sym same))) none)
    none_in rid (y ∷ xs) none x (inr among) = none_in rid xs (second (eqb rid (number y)) _ none) x among

    pub not_any : (rid : ℕ) (xs : List V) → ((x : V) → Among x xs → number x ≢ rid) → list_any (eqb rid) (map number xs) ≡ false
    not_any rid [] none = refl
    not_any rid (x ∷ xs) none = ap (λ (b : Bool). b || list_any (eqb rid) (map number xs)) (eqb_not rid (number x) (λ at. none x (inl refl) (sym at))) ∙ not_any rid xs (λ y among. none y (inr among))

    -- a record that is nowhere is not behind the first few
    pub none_behind : (n : Noted V) (rid : ℕ) → IsNoted number n → ((x : V) → Among x (noted n) → number x ≢ rid) → list_any (eqb rid) n.behind.keys ≡ false
    none_behind n rid is none =
        ap (list_any (eqb rid)) is.behind
        ∙ not_any rid (drop few (noted n)) (λ x among. none x (subst (Among x) (take-append-drop few (noted n)) (Among-right x (take few (noted n)) (drop few (noted n)) among)))

    pub length_behind : (n : Noted V) → IsNoted number n → length n.behind.keys ≡ n.count - few
    length_behind n is =
        ap length is.behind ∙ length-map (drop few (noted n)) number ∙ length-drop few (noted n) ∙ ap (λ (k : ℕ). k - few) (length_noted n is.within)

    -- a record that is neither among the first few nor behind them
    pub none_at_all : (rid : ℕ) (xs : List V) → ((x : V) → Among x (take few xs) → number x ≢ rid) → list_any (eqb rid) (map number (drop few xs)) ≡ false → (x : V) → Among x xs → number x ≢ rid
    none_at_all rid xs first behind x among =
        ⊎_elim (first x) (none_in rid (drop few xs) behind x) (Among-split x (take few xs) (drop few xs) (subst (Among x) (sym (take-append-drop few xs)) among))

    -- ---- no number twice

    numbered : (ys xs : List V) → map number ys ≡ map number xs → (z : V) → Among z ys → (x : V) × Among x xs × (number x ≡ number z)
    numbered [] xs e z among = absurd among
    numbered (y ∷ ys) [] e z among = cc
    numbered (y ∷ ys) (x ∷ xs) e z (inl same) = let g : number y ≡ number x = cc in (x, inl refl, sym g ∙ ap number same)
    numbered (y ∷ ys) (x ∷ xs) e z (inr among) = let f : map number ys ≡ map number xs = cc in let there = numbered ys xs f z among in (there.0, inr there.1, there.2)

    pub once_numbers : (xs ys : List V) → map number ys ≡ map number xs → Once number xs → Once number ys
    once_numbers [] [] e o = tt
    once_numbers [] (y ∷ ys) e o = cc
    once_numbers (x ∷ xs) [] e o = cc
    once_numbers (x ∷ xs) (y ∷ ys) e o =
        let f : map number ys ≡ map number xs = cc in let g : number y ≡ number x = cc in
        ((λ z among same. let there = numbered ys xs f z among in o.0 there.0 there.1 (there.2 ∙ same ∙ g)), once_numbers xs ys f o.1)

    -- ---- what is noted

    pub length_numbers : (n : Noted V) → n.count ≤ length n.items.items → length (map number (noted n)) ≡ n.count
    length_numbers n within = length-map (noted n) number ∙ length_noted n within

    -- nothing
    pub none_noted : (n : Noted V) → n.count ≡ 0 → n.behind.keys ≡ [] → n.newest ≡ replicate chains 0 → length n.older ≡ few → IsNoted number n
    none_noted n count behind newest places =
        let none : noted n ≡ [] = ap (λ (k : ℕ). take k n.items.items) count in
        record {
          within = omega arith;
          behind = behind ∙ ap (λ (xs : List V). map number (drop few xs)) (sym none);
          apart = subst (Once number) (sym none) tt;
          chained = subst (λ (places : List ℕ). AreChained (map number (noted n)) places n.older) (sym newest)
              (subst (λ (xs : List V). AreChained (map number xs) (replicate chains 0) n.older) (sym none) (none_chained n.older places));
        }

    -- the item at which a walk stands
    pub walked_at : (n : Noted V) (rid place : ℕ) (x : V) → IsNoted number n → IsWalked (map number (noted n)) rid place → 0 < place → x ≡ get_or n.items.items (place - 1) x → slice_get (noted n) (place - 1) ≡ Some x
    walked_at n rid place x is walked some at =
        let within = walked.within in let long = length_numbers n is.within in let short = length_noted n is.within in
        noted_get n (place - 1) x is.within (omega arith) at

    -- a walk that has come to its end met none among the first few
    pub none_walked : (n : Noted V) (rid : ℕ) → IsWalked (map number (noted n)) rid 0 → (x : V) → Among x (take few (noted n)) → number x ≢ rid
    none_walked n rid walked = none_first rid few (noted n) (λ i below. walked.none_behind i (omega arith) below)

    -- other items of the same records
    pub still_noted : (m n : Noted V) → IsNoted number m → n.count ≤ length n.items.items → n.behind.keys ≡ m.behind.keys → n.newest ≡ m.newest → n.older ≡ m.older → map number (noted n) ≡ map number (noted m) → IsNoted number n
    still_noted m n is within behind newest older same = record {
      within = within;
      behind = behind ∙ is.behind ∙ sym (drop-map number few (noted m)) ∙ ap (drop few) (sym same) ∙ drop-map number few (noted n);
      apart = once_numbers (noted m) (noted n) same is.apart;
      chained = subst (λ (places : List ℕ). AreChained (map number (noted n)) places n.older) (sym newest)
          (subst (λ (places : List ℕ). AreChained (map number (noted n)) m.newest places) (sym older) (subst (λ (rids : List ℕ). AreChained rids m.newest m.older) (sym same) is.chained));
    }

    -- another item of the same record
    pub set_noted : (n m : Noted V) (i : ℕ) (x old : V) → IsNoted number n → slice_get (noted n) i ≡ Some old → number x ≡ number old → m.items.items ≡ set n.items.items i x → m.count ≡ n.count → m.behind.keys ≡ n.behind.keys → m.newest ≡ n.newest → m.older ≡ n.older → IsNoted number m
    set_noted n m i x old is at same items count behind newest older =
        let lt : i < n.count = let h = slice_get_within (noted n) i old at in let e = length_noted n is.within in omega arith in
        let here : get_or (noted n) i old ≡ old = get_or_from_slice_get (noted n) i old old at in
        let within : m.count ≤ length m.items.items = let h = is.within in let e = ap length items ∙ length-set n.items.items i x in omega arith in
        still_noted n m is within behind newest older (ap (map number) (noted_set n m i x lt items count) ∙ map-set_same number (noted n) i x old (same ∙ ap number (sym here)))

    -- the item that a look found
    pub of_here : (n : Noted V) (rid i : ℕ) (x : V) → IsNoted number n → IsOf number rid (noted n) i → x ≡ get_or n.items.items i x → (slice_get (noted n) i ≡ Some x) × (number x ≡ rid)
    of_here n rid i x is of at =
        let found = get_of i (noted n) of.element of.turn in
        let here = noted_get n i x is.within (slice_get_within (noted n) i of.element found) at in
        let same : x ≡ of.element = cc in
        (here, ap number same ∙ of.of_record)

    pub of_set : (rid i : ℕ) (xs : List V) (x : V) → i < length xs → number x ≡ rid → IsOf number rid (set xs i x) i
    of_set rid i xs x lt is = of_at rid i (set xs i x) x (get_set i xs x lt) is

    -- one record more, among the first few or behind them
    pub one_more : (n m : Noted V) (rid : ℕ) → IsNoted number n → IsOf number rid n.items.items n.count → ((x : V) → Among x (noted n) → number x ≢ rid) → m.items ≡ n.items → m.count ≡ n.count + 1 → ((n.count < few) × (m.behind.keys ≡ n.behind.keys)) ⊎ ((few ≤ n.count) × (m.behind.keys ≡ n.behind.keys ++ rid ∷ [])) → AreChained (map number (noted n) ++ rid ∷ []) m.newest m.older → IsNoted number m
    one_more n m rid is of first items count keys chained =
        let x = of.element in
        let at : slice_get n.items.items n.count ≡ Some x = get_of n.count n.items.items x of.turn in
        let inside : n.count < length n.items.items = slice_get_within n.items.items n.count x at in
        let same : length m.items.items ≡ length n.items.items = ap (λ (v : _). length v.items) items in
        let more : noted m ≡ noted n ++ x ∷ [] = noted_more n m x of.turn items count in
        let long = length_noted n is.within in
        let longer : length (noted m) ≡ n.count + 1 = ap length more ∙ length-append (noted n) (x ∷ []) ∙ ap (λ (k : ℕ). k + 1) long in
        let within_few : n.count < few → m.behind.keys ≡ n.behind.keys → m.behind.keys ≡ map number (drop few (noted m)) =
        λ below kept. kept ∙ is.behind ∙ ap (map number) (drop_all few (noted n) (omega arith) ∙ sym (drop_all few (noted m) (omega arith))) in
        let full : few ≤ n.count → m.behind.keys ≡ n.behind.keys ++ rid ∷ [] → m.behind.keys ≡ map number (drop few (noted m)) =
        λ above added. added ∙ ap (λ (ks : List ℕ). ks ++ rid ∷ []) is.behind ∙ ap (λ (r : ℕ). map number (drop few (noted n)) ++ r ∷ []) (sym of.of_record)
        ∙ sym (map-append number (drop few (noted n)) (x ∷ [])) ∙ ap (map number) (sym (drop-append-le few (noted n) (x ∷ []) (omega arith)) ∙ ap (drop few) (sym more)) in
        record {
          within = omega arith;
          behind = ⊎_elim (λ (b : (n.count < few) × (m.behind.keys ≡ n.behind.keys)). within_few b.0 b.1) (λ (b : (few ≤ n.count) × (m.behind.keys ≡ n.behind.keys ++ rid ∷ [])). full b.0 b.1) keys;
          apart = subst (Once number) (sym more) (once_snoc number (noted n) x is.apart (λ y among same. first y among (same ∙ of.of_record)));
          chained = subst (λ (rids : List ℕ). AreChained rids m.newest m.older)
              (sym (ap (map number) more ∙ map-append number (noted n) (x ∷ []) ∙ ap (λ (r : ℕ). map number (noted n) ++ r ∷ []) of.of_record)) chained;
        }

  -- ---- values of records

  module _ (entry : V → ℕ × Option (List ℕ)) where
    pub value_at-found : (xs : List V) (i rid : ℕ) (x : V) → Once (λ (y : V). (entry y).0) xs → slice_get xs i ≡ Some x → (entry x).0 ≡ rid → value_at (map entry xs) rid ≡ Some (entry x).1
    value_at-found [] i rid x once at is = cc
    value_at-found (y ∷ xs) zero rid x once at is =
        let same : y ≡ x = cc in
        ap (λ (b : Bool). cond b (Some (entry y).1) (value_at (map entry xs) rid)) (eq-eqb rid (entry y).0 (sym is ∙ ap (λ (z : V). (entry z).0) (sym same))) ∙ ap (λ (z : V). Some (entry z).1) same
    value_at-found (y ∷ xs) (suc i) rid x once at is =
        ap (λ (b : Bool). cond b (Some (entry y).1) (value_at (map entry xs) rid)) (eqb_not rid (entry y).0 (λ same. once.0 x (among_turn i xs x (turn_of i xs x at)) (is ∙ same)))
        ∙ value_at-found xs i rid x once.1 at is

    pub value_at-none : (xs : List V) (rid : ℕ) → ((x : V) → Among x xs → (entry x).0 ≢ rid) → value_at (map entry xs) rid ≡ None
    value_at-none [] rid none = refl
    value_at-none (y ∷ xs) rid none =
        ap (λ (b : Bool). cond b (Some (entry y).1) (value_at (map entry xs) rid)) (eqb_not rid (entry y).0 (λ same. none y (inl refl) (sym same)))
        ∙ value_at-none xs rid (λ x among. none x (inr among))

    pub with_value-found : (xs : List V) (i rid : ℕ) (x z : V) (value : Option (List ℕ)) → Once (λ (y : V). (entry y).0) xs → slice_get xs i ≡ Some x → (entry x).0 ≡ rid → entry z ≡ (rid, value) → map entry (set xs i z) ≡ with_value (map entry xs) rid value
    with_value-found [] i rid x z value once at is new = cc
    with_value-found (y ∷ xs) zero rid x z value once at is new =
        let same : y ≡ x = cc in let this : rid ≡ (entry y).0 = sym is ∙ ap (λ (w : V). (entry w).0) (sym same) in
        ap (λ (e : ℕ × Option (List ℕ)). e ∷ map entry xs) (new ∙ ap (λ (r : ℕ). (r, value)) this)
        ∙ sym (ap (λ (b : Bool). cond b (((entry y).0, value) ∷ map entry xs) (entry y ∷ with_value (map entry xs) rid value)) (eq-eqb rid (entry y).0 this))
    with_value-found (y ∷ xs) (suc i) rid x z value once at is new =
        ap (λ (es : List (ℕ × Option (List ℕ))). entry y ∷ es) (with_value-found xs i rid x z value once.1 at is new)
        ∙ sym (ap (λ (b : Bool). cond b (((entry y).0, value) ∷ map entry xs) (entry y ∷ with_value (map entry xs) rid value)) (eqb_not rid (entry y).0 (λ same. once.0 x (among_turn i xs x (turn_of i xs x at)) (is ∙ same))))

    pub with_value-new : (xs : List V) (rid : ℕ) (z : V) (value : Option (List ℕ)) → ((x : V) → Among x xs → (entry x).0 ≢ rid) → entry z ≡ (rid, value) → map entry (xs ++ z ∷ []) ≡ with_value (map entry xs) rid value
    with_value-new [] rid z value none new = ap (λ (e : ℕ × Option (List ℕ)). e ∷ []) new
    with_value-new (y ∷ xs) rid z value none new =
        ap (λ (es : List (ℕ × Option (List ℕ))). entry y ∷ es) (with_value-new xs rid z value (λ x among. none x (inr among)) new)
        ∙ sym (ap (λ (b : Bool). cond b (((entry y).0, value) ∷ map entry xs) (entry y ∷ with_value (map entry xs) rid value)) (eqb_not rid (entry y).0 (λ same. none y (inl refl) (sym same))))

abbrev pub read_entry : Read → ℕ × Option (List ℕ)
read_entry d = (d.record_number, read_value d)

abbrev pub write_entry : Write → ℕ × Option (List ℕ)
write_entry u = (u.record_number, value_of u.cells)

pub reads_map : (ds : List Read) → map read_entry ds ≡ read_values ds
reads_map [] = refl
reads_map (d ∷ ds) = ap (λ (es : List (ℕ × Option (List ℕ))). read_entry d ∷ es) (reads_map ds)

pub writes_map : (us : List Write) → map write_entry us ≡ written_values us
writes_map [] = refl
writes_map (u ∷ us) = ap (λ (es : List (ℕ × Option (List ℕ))). write_entry u ∷ es) (writes_map us)

-- the value of a version as it is written
pub value_of-cells : (value : Option (List ℕ)) → IfSome value (λ words. length words ≡ 32) → value_of (cells_of value) ≡ value
value_of-cells None whole = refl
value_of-cells (Some []) whole = cc
value_of-cells (Some (x ∷ xs)) whole = refl
