-- What a snapshot has read, with one more read.
use Rattle.std.proofs.Common.{◌≡◌, ℕ, Bool, true, false, cond, eqb, eqb-true, eq-eqb, List, [], ◌∷◌, ◌++◌, Option, None, Some, refl, sym, ap, ◌∙◌, subst, inl, inr}
use Rattle.std.specs.Prelude.{is_some}
use Rattle.std.proofs.lemmas.Bool.Decides.{eqb_tells}
use Rattle.plain_data.specs.State.{State}
use Rattle.core_rule.specs.View.{View, resting, Read, still}
use Rattle.core_rule.specs.Views.{Among, IsAlone}
use Rattle.core_rule.specs.Searching.{IsWhole}
use Rattle.core_rule.specs.Deciding.{read_value, read_values}
use Rattle.core_rule.specs.Snapshots.{is_read, firsts, AreAllWhole, AreAlike, AreLeft}
use Rattle.core_rule.specs.Versions.{read_version}
use Rattle.core_rule.proofs.Snapshots.{first_among}
use Rattle.core_rule.specs.Hands.{Seated, Steps}
use Rattle.core_rule.specs.Kinds.{load_min_read}
use Rattle.record_store.specs.Meaning.{value_at}
use Rattle.seat_post.specs.Searched.{Finds}
use Rattle.seat_post.specs.Snapshot.{with_read}
use Rattle.seat_post.specs.InSnapshot.{IsInSnapshot, FindsAlike, snapshot_reads, IsLeftAt}
use Rattle.seat_post.proofs.Listed.{read_values-append, read_value-version}

-- ---- the first reads, by their records

push_step : (b : Bool) (x : Option (List ℕ)) (all found last : Option (Option (List ℕ))) → all ≡ cond (is_some found) found last
    → cond b (Some x) all ≡ cond (is_some (cond b (Some x) found)) (cond b (Some x) found) last
push_step true x all found last same = refl
push_step false x all found last same = same

-- what is known of a record by reads with one more
value_at-push : (ds : List Read) (d : Read) (r : ℕ)
    → value_at (read_values (ds ++ d ∷ [])) r
    ≡ cond (is_some (value_at (read_values ds) r)) (value_at (read_values ds) r) (value_at (read_values (d ∷ [])) r)
value_at-push [] d r = refl
value_at-push (e ∷ ds) d r = push_step (eqb r e.record_number) (read_value e) (value_at (read_values (ds ++ d ∷ [])) r)
    (value_at (read_values ds) r) (value_at (read_values (d ∷ [])) r) (value_at-push ds d r)

covered : (b any : Bool) → (b ≡ true → any ≡ true) → cond b true any ≡ any
covered true any h = sym (h refl)
covered false any h = refl

either : (b any : Bool) (x : Option (List ℕ)) (found : Option (Option (List ℕ))) → any ≡ is_some found
    → cond b true any ≡ is_some (cond (is_some found) found (cond b (Some x) None))
either true any x None same = refl
either true any x (Some y) same = refl
either false any x None same = same
either false any x (Some y) same = same

-- a record was read where the first reads know it
bounds_first : (r : ℕ) (ds : List Read) → is_read r ds ≡ is_some (value_at (read_values (firsts ds)) r)
bounds_first r [] = refl
bounds_first r (d ∷ ds) = by_test (bounds_first r ds) (is_read d.record_number ds) refl where
  by_test : is_read r ds ≡ is_some (value_at (read_values (firsts ds)) r) → (b : Bool) → is_read d.record_number ds ≡ b
      → cond (eqb r d.record_number) true (is_read r ds) ≡ is_some (value_at (read_values (cond b (firsts ds) (firsts ds ++ d ∷ []))) r)
  by_test same true e =
      let was : eqb r d.record_number ≡ true → is_read r ds ≡ true = λ t.
      subst (λ (q : ℕ). is_read q ds ≡ true) (sym (eqb-true r d.record_number t)) e in
      covered (eqb r d.record_number) (is_read r ds) was ∙ same
  by_test same false e = either (eqb r d.record_number) (is_read r ds) (read_value d) (value_at (read_values (firsts ds)) r) same
      ∙ ap is_some (sym (value_at-push (firsts ds) d r))

-- what is known of a record is the value of a read
read_of : (ds : List Read) (r : ℕ) (x : Option (List ℕ)) → value_at (read_values ds) r ≡ Some x
    → (c : Read) × Among c ds × (c.record_number ≡ r) × (read_value c ≡ x)
read_of [] r x is = absurd cc
read_of (d ∷ ds) r x is =
    let by : Bool → Type 0 = λ b. cond b (Some (read_value d)) (value_at (read_values ds) r) ≡ Some x in
    elim (eqb_tells r d.record_number) as (λ _. (c : Read) × Among c (d ∷ ds) × (c.record_number ≡ r) × (read_value c ≡ x)) [
      | inl t ↦ (let h : Some (read_value d) ≡ Some x = subst by t.0 is in (d, inl refl, sym t.1, cc))
      | inr t ↦ (let c = read_of ds r x (subst by t.0 is) in (c.0, inr c.1, c.2, c.3))
    ]

-- a record all of whose reads have one value is known to have it
first_value : (ds : List Read) (r : ℕ) (x : Option (List ℕ)) → is_read r ds ≡ true
    → ((c : Read) → Among c ds → c.record_number ≡ r → read_value c ≡ x) → value_at (read_values (firsts ds)) r ≡ Some x
first_value ds r x was alike = by_found (value_at (read_values (firsts ds)) r) refl where
  by_found : (found : Option (Option (List ℕ))) → value_at (read_values (firsts ds)) r ≡ found → found ≡ Some x
  by_found None is = absurd (let h : true ≡ false = sym was ∙ bounds_first r ds ∙ ap is_some is in cc)
  by_found (Some y) is = let c = read_of (firsts ds) r y is in ap Some (sym c.3 ∙ alike c.0 (first_among ds c.0 c.1) c.2)

module _ (ds : List Read) (d : Read) where
  -- one more read is noted where its record was not read before
  pub snapshot_reads_more : read_values (firsts (d ∷ ds)) ≡ with_read (read_values (firsts ds)) d.record_number (read_value d)
  snapshot_reads_more = by_test (is_read d.record_number ds) refl where
    by_test : (b : Bool) → is_read d.record_number ds ≡ b
        → read_values (cond b (firsts ds) (firsts ds ++ d ∷ [])) ≡ with_read (read_values (firsts ds)) d.record_number (read_value d)
    by_test true e = rw (sym (bounds_first d.record_number ds) ∙ e) refl
    by_test false e = rw (sym (bounds_first d.record_number ds) ∙ e) (read_values-append (firsts ds) d)

  -- and its value is known afterwards
  pub snapshot_reads_answer : ((c : Read) → Among c ds → c.record_number ≡ d.record_number → read_value c ≡ read_value d)
      → value_at (read_values (firsts (d ∷ ds))) d.record_number ≡ Some (read_value d)
  snapshot_reads_answer alike = by_test (is_read d.record_number ds) refl where
    by_test : (b : Bool) → is_read d.record_number ds ≡ b
        → value_at (read_values (cond b (firsts ds) (firsts ds ++ d ∷ []))) d.record_number ≡ Some (read_value d)
    by_test true e = first_value ds d.record_number (read_value d) e alike
    by_test false e = value_at-push (firsts ds) d d.record_number
        ∙ rw (sym (bounds_first d.record_number ds) ∙ e, eq-eqb d.record_number d.record_number refl) refl

-- ---- a read at the hand

module _ (kept : State → Type 0) (rid place wts n : ℕ) (value : Option (List ℕ)) (v : View) (mid after' : Seated)
    (finds : Finds rid place wts value v mid.view) (is : IsInSnapshot v) (step : Steps kept load_min_read mid n after') where
  abbrev d : Read
  d = read_version rid place wts value

  -- the load changes what was seen alone
  view_is : after'.view ≡ record v { work = record v.work { search = still; reads = d ∷ v.work.reads }; seen = after'.view.seen }
  view_is = step.view ∙ (λ i. record mid.view { seen = sym (ap (λ (x : View). x.seen) step.view) i })
      ∙ ap (λ (x : View). record x { seen = after'.view.seen }) finds.view

  reads_are : after'.view.work.reads ≡ d ∷ v.work.reads
  reads_are = ap (λ (x : View). x.work.reads) view_is

  rests : mid.view.flight ≡ resting
  rests = ap (λ (x : View). x.flight) finds.view ∙ is.rests

  alike : (c : Read) → Among c v.work.reads → c.record_number ≡ rid → read_value c ≡ value
  alike c among same =
      let all : AreAlike (d ∷ v.work.reads) = subst AreAlike (ap (λ (x : View). x.work.reads) finds.view) (step.learnt.1 rests) in
      all c d (inr among) (inl refl) (is.whole c among) finds.whole same ∙ read_value-version rid place wts value

  pub finds_alike : FindsAlike rid value v after'.view
  finds_alike = record {
    place = place;
    wts = wts;
    between = mid.view;
    finds = finds;
    minimum = n;
    last = step.view;
    alike = alike;
  }

  pub in_snapshot_still : IsInSnapshot after'.view
  in_snapshot_still = subst IsInSnapshot (sym view_is) record {
    rests = is.rests;
    ends = record { rests = tt; settled = is.ends.settled; collected = is.ends.collected };
    whole = all_whole;
  } where
    all_whole : AreAllWhole (d ∷ v.work.reads)
    all_whole c (inl same) = subst IsWhole same finds.whole
    all_whole c (inr among) = is.whole c among

  pub reads_noted : snapshot_reads after'.view ≡ with_read (snapshot_reads v) rid value
  reads_noted = ap (λ (ds : List Read). read_values (firsts ds)) reads_are ∙ snapshot_reads_more v.work.reads d
      ∙ ap (λ x. with_read (snapshot_reads v) rid x) (read_value-version rid place wts value)

  pub answers : value_at (snapshot_reads after'.view) rid ≡ Some value
  answers = ap (λ (ds : List Read). value_at (read_values (firsts ds)) rid) reads_are
      ∙ snapshot_reads_answer v.work.reads d (λ c among same. alike c among same ∙ sym (read_value-version rid place wts value))
      ∙ ap Some (read_value-version rid place wts value)

  -- a seat that is alone reads what its log leaves
  pub leaves : IsAlone v → IsLeftAt v rid value
  leaves alone =
      let told = step.learnt.2 (subst IsAlone (sym finds.view) alone) rests in
      let left : AreLeft v.log v.published.read (d ∷ v.work.reads) =
      subst (λ (x : View). AreLeft x.log x.published.read x.work.reads) finds.view told in
      subst (IsLeftAt v rid) (read_value-version rid place wts value) (left d (inl refl) finds.whole)
