-- Examples: a lawful history, and one that is not; and the law of the write before the other way round.
use Rattle.std.proofs.Common.{◌≡◌, ◌≢◌, ℕ, ◌<◌, ◌≤◌, true, false, List, [], ◌∷◌, get_or, Option, Some, None, IfSome, refl, subst, inl, inr, arith, All, AllPairs, Contains}
use Rattle.std.proofs.lemmas.List.Elements.{All-nil, All-cons, All-head, All-contains, All-weaker}
use Rattle.std.proofs.lemmas.List.Kept.{AllPairs-cons}
use Rattle.std.proofs.lemmas.List.Sorted.{IsPermutation-refl, IsPermutation-middle}
use Rattle.plain_data.specs.declared.entry.Entry.{Entry}
use Rattle.plain_data.specs.State.{State, IsCells, AreValues, IsEntry, overlay, empty_state}
use Rattle.histories.specs.History.{time_of, StampsDiffer, Lawful, IsValue, Before, ObeysWriteBefore}
use Rattle.histories.proofs.Lists.{pairs_nil, Contains-head, Contains-tail}
use Rattle.histories.proofs.States.{one_value}
use Rattle.histories.proofs.Lawful.{lawful_has_states}

abbrev Values : Type 0
Values = List (ℕ × Option (List ℕ))

no_values : AreValues 1 []
no_values = record {
  once = pairs_nil (λ (a b : ℕ × Option (List ℕ)). a.0 ≢ b.0);
  in_range = All-nil (λ (v : ℕ × Option (List ℕ)). v.0 < 1);
  cells = All-nil _;
}

one_cell : (w : List ℕ) → IsCells w → AreValues 1 ((0, Some w) ∷ [])
one_cell w is = record {
  once = AllPairs-cons (λ (a b : ℕ × Option (List ℕ)). a.0 ≢ b.0) (0, Some w) [] (All-nil _) (pairs_nil (λ (a b : ℕ × Option (List ℕ)). a.0 ≢ b.0));
  in_range = All-cons (λ (v : ℕ × Option (List ℕ)). v.0 < 1) (0, Some w) [] (omega arith) (All-nil _);
  cells = All-cons (λ (v : ℕ × Option (List ℕ)). IfSome v.1 IsCells) (0, Some w) [] is (All-nil _);
}

-- a commit at 256 writes record 0, and a snapshot at 256 reads it
abbrev writer : List ℕ → Entry
writer w = record { stamp = 256; snapshot = false; reads = []; writes = (0, Some w) ∷ [] }

abbrev reader : List (ℕ × Option (List ℕ)) → Entry
reader reads = record { stamp = 256; snapshot = true; reads = reads; writes = [] }

both_differ : (w : List ℕ) (reads : Values) → AllPairs StampsDiffer (reader reads ∷ writer w ∷ [])
both_differ w reads =
    AllPairs-cons StampsDiffer (reader reads) (writer w ∷ []) (All-cons (StampsDiffer (reader reads)) (writer w) [] (λ commit. absurd (cc)) (All-nil _))
    (AllPairs-cons StampsDiffer (writer w) [] (All-nil _) (pairs_nil StampsDiffer))

example_lawful : (w : List ℕ) → IsCells w → Lawful (λ state. Unit {0}) 1 (reader ((0, Some w) ∷ []) ∷ writer w ∷ [])
example_lawful w is =
    let r : Entry = reader ((0, Some w) ∷ []) in
    let c : Entry = writer w in
    record {
      each = All-cons (IsEntry 1) r (c ∷ []) (record { reads = one_cell w is; writes = no_values; snapshot = λ _. refl })
          (All-cons (IsEntry 1) c [] (record { reads = no_values; writes = one_cell w is; snapshot = λ yes. absurd (cc) }) (All-nil (IsEntry 1)));
      apart = both_differ w ((0, Some w) ∷ []);
      sorted = c ∷ r ∷ [];
      same = IsPermutation-middle (r ∷ []) c [];
      in_order = AllPairs-cons (λ (a b : Entry). time_of a ≤ time_of b) c (r ∷ []) (All-cons (λ (b : Entry). time_of c ≤ time_of b) r [] (omega arith) (All-nil _))
          (AllPairs-cons (λ (a b : Entry). time_of a ≤ time_of b) r [] (All-nil _) (pairs_nil (λ (a b : Entry). time_of a ≤ time_of b)));
      folds = (tt, All-nil _, (tt, All-cons (λ (read : ℕ × Option (List ℕ)). overlay c.writes empty_state read.0 ≡ read.1) (0, Some w) [] refl (All-nil _), tt));
    }

-- a snapshot that read what was there before the commit is not lawful
example_stale : (w : List ℕ) → Lawful (λ state. Unit {0}) 1 (reader ((0, None) ∷ []) ∷ writer w ∷ []) → ⊥
example_stale w lawful =
    let r : Entry = reader ((0, None) ∷ []) in
    let c : Entry = writer w in
    let found = (lawful_has_states (λ state. Unit {0}) 1 (r ∷ c ∷ []) lawful).0 0 r (omega arith) in
    let state : State = found.0 in
    let read : state 0 ≡ None = found.2 0 (0, None) (omega arith) in
    let value : IsValue (Before (r ∷ c ∷ []) r) 0 (Some w) = inl (
      c,
      record {
        there = (Contains-tail r (c ∷ []) c (Contains-head c []), omega arith);
        commit = refl;
        value = Contains-head (0, Some w) [];
        last = λ other among writes. All-contains (λ (e : Entry). e.stamp ≤ 256) (r ∷ c ∷ []) other (All-cons (λ (e : Entry). e.stamp ≤ 256) r (c ∷ []) (omega arith) (All-cons (λ (e : Entry). e.stamp ≤ 256) c [] (omega arith) (All-nil _))) among.0;
      },
    ) in
    let same : state 0 ≡ Some w = one_value 1 (r ∷ c ∷ []) (Before (r ∷ c ∷ []) r) 0 _ _ lawful.each lawful.apart (λ b at. at.0) (found.1.left 0) value in
    absurd (cc)

-- the law the other way round: a lawful history obeys the rule of the write before
obeys_from_lawful : (kept : State → Type 0) (records : ℕ) (entries : List Entry) → Lawful kept records entries → ObeysWriteBefore entries
obeys_from_lawful kept records entries lawful k d lt =
    let e : Entry = get_or entries k d in
    let found = (lawful_has_states kept records entries lawful).0 k d lt in
    All-weaker (λ (read : ℕ × Option (List ℕ)). found.0 read.0 ≡ read.1) (λ (read : ℕ × Option (List ℕ)). IsValue (Before entries e) read.0 read.1)
    (λ read same. subst (IsValue (Before entries e) read.0) same (found.1.left read.0)) e.reads found.2
