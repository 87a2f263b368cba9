-- Numbers in chains: the last one of each remainder, and for each of the first few the last one before it that leaves the same.
use Rattle.std.proofs.Common.{◌≡◌, ◌≢◌, ℕ, ◌+◌, ◌-◌, ◌%◌, ◌<◌, ◌≤◌, List, [], ◌∷◌, ◌++◌, sym, ap, ◌∙◌, subst, inl, inr, set, length, arith, length-append, length-set}
use Rattle.std.specs.Prelude.{min, replicate, slice_index}
use Rattle.std.proofs.lemmas.Bool.{cases_eq, cases_lt}
use Rattle.std.proofs.lemmas.List.{get_or-set_other, get_or_append_left, get_or_push, get_or-replicate, length-replicate}
use Rattle.std.proofs.lemmas.Grind.{get_or-set_at}
use Rattle.validate_core.specs.Noted.{few, chains, IsLast, AreChained}

-- ---- one chain

-- in another list with the same numbers up to there
last_still : (xs ys : List ℕ) (n remainder place : ℕ) → ((i : ℕ) → i < n → slice_index ys i ≡ slice_index xs i) → IsLast xs n remainder place → IsLast ys n remainder place
last_still xs ys n remainder place same is =
    let within = is.within in
    record {
      within = within;
      leaves = λ some. ap (λ (k : ℕ). k % chains) (same (place - 1) (omega arith)) ∙ is.leaves some;
      none_behind = λ i from below at. is.none_behind i from below (ap (λ (k : ℕ). k % chains) (sym (same i below)) ∙ at);
    }

-- one number more, which leaves this remainder
last_new : (xs : List ℕ) (n remainder : ℕ) → slice_index xs n % chains ≡ remainder → IsLast xs (n + 1) remainder (n + 1)
last_new xs n remainder at =
    let up : n + 1 - 1 ≡ n = omega arith in
    record {
      within = omega arith;
      leaves = λ some. ap (λ (i : ℕ). slice_index xs i % chains) up ∙ at;
      none_behind = λ i from below. absurd (omega arith);
    }

-- one number more, which leaves another
last_old : (xs : List ℕ) (n remainder place : ℕ) → slice_index xs n % chains ≢ remainder → IsLast xs n remainder place → IsLast xs (n + 1) remainder place
last_old xs n remainder place other is =
    let within = is.within in
    record {
      within = omega arith;
      leaves = is.leaves;
      none_behind = λ i from below at. elim (cases_eq i n) [ inl same ↦ other (ap (λ (k : ℕ). slice_index xs k % chains) (sym same) ∙ at) | inr apart ↦ is.none_behind i from (omega arith) at ];
    }

-- ---- all chains

pub none_chained : (older : List ℕ) → length older ≡ few → AreChained [] (replicate chains 0) older
none_chained older long = record {
  remainders = length-replicate {A = ℕ} chains 0;
  places = long;
  last = λ remainder below.
      let none : slice_index (replicate chains 0) remainder ≡ 0 = get_or-replicate chains remainder 0 0 below in
      record { within = omega arith; leaves = λ some. absurd (omega arith); none_behind = λ i from less. absurd (omega arith) };
  before = λ i below. absurd (omega arith);
}

-- one number more behind the first few
pub chained_behind : (rids newest older : List ℕ) (rid : ℕ) → few ≤ length rids → AreChained rids newest older → AreChained (rids ++ rid ∷ []) newest older
chained_behind rids newest older rid full are =
    let more : List ℕ = rids ++ rid ∷ [] in
    let longer : length more ≡ length rids + 1 = length-append rids (rid ∷ []) in
    let all : min few (length rids) ≡ few = omega arith in
    let still : min few (length more) ≡ few = omega arith in
    let same : (i : ℕ) → i < few → slice_index more i ≡ slice_index rids i = λ i below. get_or_append_left rids (rid ∷ []) 0 i (omega arith) in
    record {
      remainders = are.remainders;
      places = are.places;
      last = λ remainder below.
          let place : ℕ = slice_index newest remainder in
          let was : IsLast rids few remainder place = subst (λ (n : ℕ). IsLast rids n remainder place) all (are.last remainder below) in
          subst (λ (n : ℕ). IsLast more n remainder place) (sym still) (last_still rids more few remainder place same was);
      before = λ i below.
          let short : i < few = omega arith in
          let place : ℕ = slice_index older i in
          subst (λ (k : ℕ). IsLast more i (k % chains) place) (sym (same i short))
          (last_still rids more i (slice_index rids i % chains) place (λ j less. same j (omega arith)) (are.before i (omega arith)));
    }

-- one number more among the first few, which becomes the last one of its chain
pub chained_more : (rids newest older : List ℕ) (rid n : ℕ) → length rids ≡ n → n < few → AreChained rids newest older → AreChained (rids ++ rid ∷ []) (set newest (rid % chains) (n + 1)) (set older n (slice_index newest (rid % chains)))
chained_more rids newest older rid n long short are =
    let chain : ℕ = rid % chains in
    let inside : chain < chains = omega arith in
    let first : ℕ = slice_index newest chain in
    let more : List ℕ = rids ++ rid ∷ [] in
    let longer : length more ≡ length rids + 1 = length-append rids (rid ∷ []) in
    let remainders = are.remainders in
    let places = are.places in
    let all : min few (length rids) ≡ n = omega arith in
    let still : min few (length more) ≡ n + 1 = omega arith in
    let same : (i : ℕ) → i < n → slice_index more i ≡ slice_index rids i = λ i below. get_or_append_left rids (rid ∷ []) 0 i (omega arith) in
    let new : slice_index more n ≡ rid = get_or_push rids rid 0 n long in
    let last : (remainder : ℕ) → remainder < chains → IsLast more n remainder (slice_index newest remainder) =
    λ remainder below. last_still rids more n remainder (slice_index newest remainder) same (subst (λ (m : ℕ). IsLast rids m remainder (slice_index newest remainder)) all (are.last remainder below)) in
    record {
      remainders = length-set newest chain (n + 1) ∙ are.remainders;
      places = length-set older n first ∙ are.places;
      last = λ remainder below.
          let place : ℕ = slice_index (set newest chain (n + 1)) remainder in
          let is_last : IsLast more (n + 1) remainder place = elim (cases_eq remainder chain) [
            | inl is ↦
                let at : place ≡ n + 1 = get_or-set_at newest chain remainder (n + 1) 0 is (omega arith) in
                subst (IsLast more (n + 1) remainder) (sym at) (last_new more n remainder (ap (λ (k : ℕ). k % chains) new ∙ sym is))
            | inr other ↦
                let at : place ≡ slice_index newest remainder = get_or-set_other newest chain remainder (n + 1) 0 other in
                subst (IsLast more (n + 1) remainder) (sym at)
                (last_old more n remainder (slice_index newest remainder) (λ leaves. other (sym leaves ∙ ap (λ (k : ℕ). k % chains) new)) (last remainder below))
          ] in
          subst (λ (m : ℕ). IsLast more m remainder place) (sym still) is_last;
      before = λ i below.
          let place : ℕ = slice_index (set older n first) i in
          elim (cases_eq i n) [
            | inl is ↦
                let at : place ≡ first = get_or-set_at older n i first 0 is (omega arith) in
                let leaves : slice_index more i % chains ≡ chain = ap (λ (k : ℕ). slice_index more k % chains) is ∙ ap (λ (k : ℕ). k % chains) new in
                subst (λ (k : ℕ). IsLast more k (slice_index more i % chains) place) (sym is)
                (subst (λ (r : ℕ). IsLast more n r place) (sym leaves) (subst (IsLast more n chain) (sym at) (last chain inside)))
            | inr other ↦
                let at : place ≡ slice_index older i = get_or-set_other older n i first 0 other in
                let less : i < n = omega arith in
                subst (IsLast more i (slice_index more i % chains)) (sym at)
                (subst (λ (k : ℕ). IsLast more i (k % chains) (slice_index older i)) (sym (same i less))
                (last_still rids more i (slice_index rids i % chains) (slice_index older i) (λ j under. same j (omega arith)) (are.before i (omega arith))))
          ];
    }

-- ---- a walk along a chain

-- a walk along the chain of a record stands at this place, counted from 1, and the record is not behind it among the first few
pub record IsWalked (rids : List ℕ) (rid place : ℕ) : Type 0 where
  pub within : place ≤ min few (length rids)
  pub leaves : 0 < place → slice_index rids (place - 1) % chains ≡ rid % chains
  pub none_behind : (i : ℕ) → place ≤ i → i < min few (length rids) → slice_index rids i ≢ rid

pub walk_goes_on : (rids newest older : List ℕ) (rid place : ℕ) → AreChained rids newest older → IsWalked rids rid place → 0 < place → slice_index rids (place - 1) ≢ rid → IsWalked rids rid (slice_index older (place - 1))
walk_goes_on rids newest older rid place are is some other =
    let within = is.within in
    let at : ℕ = slice_index older (place - 1) in
    let before : IsLast rids (place - 1) (rid % chains) at = subst (λ (r : ℕ). IsLast rids (place - 1) r at) (is.leaves some) (are.before (place - 1) (omega arith)) in
    let less = before.within in
    record {
      within = omega arith;
      leaves = before.leaves;
      none_behind = λ i from below same. elim (cases_lt i (place - 1)) [
        | inl passed ↦ before.none_behind i from passed (ap (λ (k : ℕ). k % chains) same)
        | inr behind ↦ elim (cases_eq i (place - 1)) [ inl here ↦ other (ap (slice_index rids) (sym here) ∙ same) | inr apart ↦ is.none_behind i (omega arith) below same ]
      ];
    }
