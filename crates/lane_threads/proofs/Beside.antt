-- Readings beside the results of the first worker, told of what the lanes of all workers come to.
use Rattle.std.proofs.Common.{◌≡◌, ℕ, zero, suc, ◌+◌, ◌<◌, ◌≤◌, false, List, [], ◌∷◌, ◌++◌, map, length, All, Some, slice_get, refl, sym, ap, subst, ◌∙◌, arith}
use Rattle.std.proofs.lemmas.List.{append-nil, append_assoc, length-append, length-map, map-append}
use Rattle.std.proofs.lemmas.List.Elements.{All-map, All-weaker}
use Rattle.std.proofs.lemmas.Option.{same_Some, slice_get_within}
use Rattle.stamp_base.specs.Stamp.{seat_of}
use Rattle.replay_model.specs.declared.outcome.Outcome.{Outcome}
use Rattle.replay_model.specs.declared.outcome.Placed.{Placed}
use Rattle.replay_model.specs.TableMap.{TableMap}
use Rattle.lane_threads.specs.Beside.{AreBeside, AreFewBeside, FewUpTo, IsAboveReading, StandBeside, of_seat}
use Rattle.lane_threads.proofs.Counting.{IsLate, IsOfOther, count, count-append, count-few, count_none, count_one, length-of_seat, none_of_seat, of_seat-append}

abbrev Reading : Type 0
Reading = ℕ × TableMap

abbrev Result : Type 0
Result = Placed × Outcome

abbrev pub places : List Result → List Placed
places results = map (λ (result : Result). result.0) results

-- ---- of the worker that reads

above_late : (reading : Reading) (results : List Result) → All (IsAboveReading reading) results → All (IsLate 0 reading.0) (places results)
above_late reading results above =
    All-map (IsLate 0 reading.0) (λ (result : Result). result.0) results
    (All-weaker (IsAboveReading reading) (λ (result : Result). IsLate 0 reading.0 result.0) (λ result is kind seat. is kind) results above)

beside_few : (readings : List Reading) (results : List Result) → StandBeside readings results → FewUpTo (places results) readings
beside_few [] results stand i reading there = absurd (cc)
beside_few (r ∷ readings) [] stand i reading there = absurd stand
beside_few (r ∷ readings) (result ∷ results) stand zero reading there =
    subst (λ (x : Reading). count 0 x.0 (places (result ∷ results)) ≤ 0 + 1) (same_Some r reading there)
    (let one = count_one 0 r.0 result.0 (places results) in let none = count_none 0 r.0 (places results) (above_late r results stand.0) in omega (arith, one, none))
beside_few (r ∷ readings) (result ∷ results) stand (suc i) reading there =
    let one = count_one 0 reading.0 result.0 (places results) in
    let rest = beside_few readings results stand.1 i reading there in
    omega (arith, one, rest)

-- ---- with what the others come to

pub few_beside : (due : ℕ) (readings : List Reading) (ours theirs : List Result) → All (IsOfOther 0) (places theirs) → AreBeside due readings ours → AreFewBeside due (places (ours ++ theirs)) readings
few_beside due readings ours theirs apart beside = subst (λ (order : List Placed). AreFewBeside due order readings) (sym (map-append (λ (result : Result). result.0) ours theirs)) (record {
  few = λ i reading there.
      let own = beside_few readings ours beside.stand i reading there in
      let both = count-append 0 reading.0 (places ours) (places theirs) in
      omega (arith, own, both, none reading.0);
  all = λ still.
      let all = beside.all still in
      let own = length-of_seat 0 (places ours) in
      let same = length-map ours (λ (result : Result). result.0) in
      let both = ap (λ (order : List Placed). length order) (of_seat-append 0 (places ours) (places theirs)) in
      let sum = length-append (of_seat 0 (places ours)) (of_seat 0 (places theirs)) in
      let no = ap (λ (order : List Placed). length order) (none_of_seat 0 (places theirs) apart) in
      omega (arith, all, own, same, both, sum, no);
}) where
  none : (stamp : ℕ) → count 0 stamp (places theirs) ≡ 0
  none stamp = count_none 0 stamp (places theirs) (All-weaker (IsOfOther 0) (IsLate 0 stamp) (λ placed other kind seat. absurd (other kind seat)) (places theirs) apart)

-- ---- with what is read behind all lanes

-- readings behind others: of the first ones that from a number on, of the others that from behind them on
few_both : (n : ℕ) (order : List Placed) (earlier more : List Reading)
    → ((i : ℕ) (reading : Reading) → slice_get earlier i ≡ Some reading → count 0 reading.0 order ≤ n + i + 1)
    → ((i : ℕ) (reading : Reading) → slice_get more i ≡ Some reading → count 0 reading.0 order ≤ n + length earlier + i + 1)
    → (i : ℕ) (reading : Reading) → slice_get (earlier ++ more) i ≡ Some reading → count 0 reading.0 order ≤ n + i + 1
few_both n order [] more first second i reading there = let at = second i reading there in omega (arith, at)
few_both n order (r ∷ earlier) more first second zero reading there = first zero reading there
few_both n order (r ∷ earlier) more first second (suc i) reading there =
    let at = few_both (n + 1) order earlier more
    (λ j x here. let low = first (suc j) x here in omega (arith, low))
    (λ j x here. let low = second j x here in omega (arith, low)) i reading there in
    omega (arith, at)

pub few_behind : (due : ℕ) (order : List Placed) (earlier more : List Reading) → length earlier + length more ≡ due → AreFewBeside due order earlier → FewUpTo order (earlier ++ more)
few_behind due order earlier more sum beside i reading there =
    let at = few_both 0 order earlier more (λ j x here. let low = beside.few j x here in omega (arith, low)) of_more i reading there in
    omega (arith, at)
  where
    of_more : (j : ℕ) (x : Reading) → slice_get more j ≡ Some x → count 0 x.0 order ≤ 0 + length earlier + j + 1
    of_more j x here =
        let within = slice_get_within more j x here in
        let all = beside.all (omega (arith, within, sum)) in
        let low = count-few 0 x.0 order in
        omega (arith, all, low)
