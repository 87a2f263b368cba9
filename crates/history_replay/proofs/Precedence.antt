-- Results that are sorted stand in an order of the input.
use Rattle.std.proofs.Common.{◌≡◌, ◌≢◌, ℕ, ◌+◌, ◌*◌, ◌<◌, ◌≤◌, Bool, true, false, List, get_or, Ordering, Less, Equal, Greater, is_lt, nat_cmp, MatchBool, refl, sym, ap, ◌∙◌, inl, inr, ⊎_elim, arith, AllPairs, IsSorted}
use Rattle.std.specs.Ordering.{bool_cmp, ordering_then}
use Rattle.std.specs.Cmp.{IsTotalOrder, nat_cmp_total, bool_cmp_total, on_total}
use Rattle.std.proofs.lemmas.Cmp.{then_total, tied_itself}
use Rattle.std.proofs.lemmas.Bool.{cases_order, cases_Bool, MatchBool-at_true, MatchBool-at_false}
use Rattle.std.proofs.lemmas.Map.Keys.{ge_from_not_lt}
use Rattle.std.proofs.lemmas.List.Sorted.{sorted_far, ranks_by}
use Rattle.replay_model.specs.declared.outcome.Outcome.{Outcome}
use Rattle.replay_model.specs.declared.outcome.Placed.{Placed}
use Rattle.replay_model.specs.Order.{NamesOther, WriterBeforeWriter, SnapsArePlaced}
use Rattle.replay_model.specs.Order as order
use Rattle.histories.specs.History.{time}
use Rattle.history_replay.specs.Results.{PlacedApart, KeepsLane, placed_cmp}

abbrev pub placed_time : Placed → ℕ
placed_time placed = time placed.stamp placed.snap

pub record Precedes (a b : Placed) : Type 0 where
  pub up : placed_time a ≤ placed_time b
  pub lane : a.stamp ≡ b.stamp → a.snap ≡ b.snap → a.lane ≤ b.lane
  pub number : a.stamp ≡ b.stamp → a.snap ≡ b.snap → a.lane ≡ b.lane → a.number ≤ b.number

placed_cmp_total : IsTotalOrder placed_cmp
placed_cmp_total =
    then_total (on_total (λ (p : Placed). p.stamp) nat_cmp_total)
    (then_total (on_total (λ (p : Placed). p.snap) bool_cmp_total) (then_total (on_total (λ (p : Placed). p.lane) nat_cmp_total) (on_total (λ (p : Placed). p.number) nat_cmp_total)))

then_not_lt : (o p : Ordering) → is_lt (ordering_then o p) ≡ false → (is_lt o ≡ false) × (o ≡ Equal → is_lt p ≡ false)
then_not_lt Less p h = absurd (cc)
then_not_lt Equal p h = (refl, λ _. h)
then_not_lt Greater p h = (refl, λ e. absurd (cc))

-- equal numbers and kinds
equal_numbers : (m n : ℕ) → m ≡ n → nat_cmp n m ≡ Equal
equal_numbers m n e = ap (λ k. nat_cmp n k) e ∙ tied_itself nat_cmp_total n

equal_kinds : (x y : Bool) → x ≡ y → bool_cmp y x ≡ Equal
equal_kinds x y e = ap (λ k. bool_cmp y k) e ∙ tied_itself bool_cmp_total y

time_up : (s t : ℕ) (a b : Bool) → s ≤ t → (s ≡ t → is_lt (bool_cmp b a) ≡ false) → time s a ≤ time t b
time_up s t false false le tie = omega arith
time_up s t false true le tie = omega arith
time_up s t true true le tie = omega arith
time_up s t true false le tie =
    ⊎_elim (λ same. absurd (let h = tie same in cc)) (λ other. ⊎_elim (λ lt. omega arith) (λ gt. absurd (omega arith)) other) (cases_order s t)

Precedes-from_sorted : (a b : Placed) → is_lt (placed_cmp b a) ≡ false → Precedes a b
Precedes-from_sorted a b h =
    let stamps = then_not_lt (nat_cmp b.stamp a.stamp) _ h in
    let kinds = λ (tie : a.stamp ≡ b.stamp). then_not_lt (bool_cmp b.snap a.snap) _ (stamps.1 (equal_numbers a.stamp b.stamp tie)) in
    let lanes = λ (tie : a.stamp ≡ b.stamp) (kind : a.snap ≡ b.snap). then_not_lt (nat_cmp b.lane a.lane) _ ((kinds tie).1 (equal_kinds a.snap b.snap kind)) in
    record {
      up = time_up a.stamp b.stamp a.snap b.snap (ge_from_not_lt b.stamp a.stamp stamps.0) (λ tie. (kinds tie).0);
      lane = λ tie kind. ge_from_not_lt b.lane a.lane (lanes tie kind).0;
      number = λ tie kind lane. ge_from_not_lt b.number a.number ((lanes tie kind).1 (equal_numbers a.lane b.lane lane));
    }

pub all_precede : (sorted : List (Placed × Outcome)) → IsSorted (λ a b. placed_cmp a.0 b.0) sorted → AllPairs (λ a b. Precedes a.0 b.0) sorted
all_precede sorted up i j d lt within =
    Precedes-from_sorted (get_or sorted i d).0 (get_or sorted j d).0
    (sorted_far (λ (a b : Placed × Outcome). is_lt (placed_cmp a.0 b.0)) (ranks_by placed_cmp_total (λ (r : Placed × Outcome). r.0)) sorted up i j d (omega arith) within)

-- ---- what may stand before what

writer_time : (a : Placed) → a.snap ≡ false → placed_time a ≡ 2 * a.stamp
writer_time a is = ap (time a.stamp) is ∙ omega arith

snap_time : (a : Placed) → a.snap ≡ true → placed_time a ≡ 2 * a.stamp + 1
snap_time a is = ap (time a.stamp) is

pub writers_rise : (a b : Placed) → Precedes a b → PlacedApart a b → WriterBeforeWriter a b
writers_rise a b before apart ax bx =
    let at = writer_time a ax in
    let bt = writer_time b bx in
    let up = before.up in
    let ne : a.stamp ≢ b.stamp = apart ax bx in
    omega arith

pub snaps_are_placed : (a b : Placed) → Precedes a b → NamesOther a b → SnapsArePlaced a b
snaps_are_placed a b before differ = record {
  behind_writers = λ ax bx. let at = writer_time a ax in let bt = snap_time b bx in let up = before.up in omega arith;
  before_writers = λ ax bx. let at = snap_time a ax in let bt = writer_time b bx in let up = before.up in omega arith;
  among_snaps = λ ax bx.
      let at = snap_time a ax in
      let bt = snap_time b bx in
      let up = before.up in
      let kind : a.snap ≡ b.snap = ax ∙ sym bx in
      ⊎_elim
      (λ (tie : a.stamp ≡ b.stamp).
      inr (
        tie,
        ⊎_elim
            (λ (same : a.lane ≡ b.lane). inr (same, let le = before.number tie kind same in let ne : a.number ≢ b.number = λ n. differ (same, n) in omega arith))
            (λ other. ⊎_elim (λ lt. inl lt) (λ gt. let le = before.lane tie kind in absurd (omega arith)) other)
            (cases_order a.lane b.lane),
      ))
      (λ other. ⊎_elim (λ lt. inl lt) (λ gt. absurd (omega arith)) other)
      (cases_order a.stamp b.stamp);
}

pub lane_is_kept : (a b : Placed) → Precedes a b → PlacedApart a b → NamesOther a b → KeepsLane b a → order.KeepsLane a b
lane_is_kept a b before apart differ lane same kind =
    ⊎_elim (λ tie. absurd (differ (same, tie)))
    (λ other. ⊎_elim (λ lt. lt)
    (λ gt. ⊎_elim
    (λ (bx : b.snap ≡ true).
    let down : b.stamp ≤ a.stamp = MatchBool-at_true _ _ bx (lane (sym same) (sym kind) gt) in
    let at = snap_time a (kind ∙ bx) in
    let bt = snap_time b bx in
    let up = before.up in
    let tie : a.stamp ≡ b.stamp = omega arith in
    let le = before.number tie kind same in
    absurd (omega arith))
    (λ (bx : b.snap ≡ false).
    let down : b.stamp < a.stamp = MatchBool-at_false _ _ bx (lane (sym same) (sym kind) gt) in
    let at = writer_time a (kind ∙ bx) in
    let bt = writer_time b bx in
    let up = before.up in
    absurd (omega arith))
    (cases_Bool b.snap))
    other)
    (cases_order a.number b.number)
