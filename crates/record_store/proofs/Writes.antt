-- How many records are written.
use Rattle.std.proofs.Common.{◌≡◌, ℕ, ◌+◌, ◌≤◌, cond, eqb, true, false, List, [], ◌∷◌, ◌++◌, length, Option, Some, sym, ap, ◌∙◌, arith, ne_eqb}
use Rattle.std.proofs.lemmas.List.{length-append}
use Rattle.std.proofs.lemmas.List.Elements.{Contains-append_left, Contains-append_right}
use Rattle.record_store.specs.Meaning.{Meaning, value_at, with_value}
use Rattle.record_store.specs.Writes.{WritesAtMost}
use Rattle.record_store.proofs.Values.{value_at-with_value}

pub length-with_value : (entries : List (ℕ × Option (List ℕ))) (rid : ℕ) (value : Option (List ℕ)) → length (with_value entries rid value) ≤ length entries + 1
length-with_value [] rid value = omega arith
length-with_value (entry ∷ entries) rid value =
    let more = length-with_value entries rid value in
    elim (eqb rid entry.0) as (λ b. length (cond b ((entry.0, value) ∷ entries) (entry ∷ with_value entries rid value)) ≤ length (entry ∷ entries) + 1) [ true ↦ omega arith | false ↦ omega (arith, more) ]

-- calls that write nothing
pub writes-none : (before after : Meaning) → after.writes ≡ before.writes → WritesAtMost 0 before after
writes-none before after same = record {
  rids = [];
  few = omega arith;
  others = λ rid absent. ap (λ writes. value_at writes rid) same;
  longer = omega (arith, ap length same);
}

-- one record is written
pub writes-one : (before after : Meaning) (rid : ℕ) (value : Option (List ℕ)) → after.writes ≡ with_value before.writes rid value → WritesAtMost 1 before after
writes-one before after rid value wrote = record {
  rids = rid ∷ [];
  few = omega arith;
  others = λ other absent.
      ap (λ writes. value_at writes other) wrote
      ∙ value_at-with_value before.writes rid value other
      ∙ ap (λ b. cond b (Some value) (value_at before.writes other)) (ne_eqb other rid (λ same. absent (0, omega arith, sym same)));
  longer = omega (arith, ap length wrote, length-with_value before.writes rid value);
}

-- some calls behind others
pub writes-trans : (n m : ℕ) (first before after : Meaning) → WritesAtMost n first before → WritesAtMost m before after → WritesAtMost (n + m) first after
writes-trans n m first before after a b = record {
  rids = a.rids ++ b.rids;
  few = omega (arith, length-append a.rids b.rids, a.few, b.few);
  others = λ rid absent. b.others rid (λ there. absent (Contains-append_right a.rids b.rids rid there)) ∙ a.others rid (λ there. absent (Contains-append_left a.rids b.rids rid there));
  longer = omega (arith, a.longer, b.longer);
}

-- more may be written than is
pub writes-weaken : (n m : ℕ) (before after : Meaning) → n ≤ m → WritesAtMost n before after → WritesAtMost m before after
writes-weaken n m before after more a = record {
  rids = a.rids;
  few = omega (arith, a.few);
  others = a.others;
  longer = omega (arith, a.longer);
}
