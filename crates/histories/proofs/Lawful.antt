-- Entries that obey the rule of the write before are a lawful history.
use Rattle.std.proofs.Common.{◌≡◌, ℕ, false, List, [], ◌∷◌, Option, get_or, sym, subst, ⊎_elim, All, IsPermutation, le_refl}
use Rattle.std.proofs.lemmas.Bool.{cases_Bool}
use Rattle.std.proofs.lemmas.List.Elements.{All-head, All-tail, All-weaker, All-contains, Contains-get_or}
use Rattle.std.proofs.lemmas.List.Sorted.{IsPermutation-sym, All-permutation, Contains-permutation}
use Rattle.plain_data.specs.declared.entry.Entry.{Entry}
use Rattle.plain_data.specs.State.{State, IsEntry, IsState, Agrees, Fits, overlay, empty_state}
use Rattle.histories.specs.History.{time_of, StampsDiffer, Folds, IsValue, Before, ReadsObey}
use Rattle.histories.specs.Laws.{WriteBeforeIsLawful, LawfulHasStates}
use Rattle.histories.proofs.Lists.{by_key, by_key-IsPermutation, by_key-in_order, AllPairs-IsPermutation}
use Rattle.histories.proofs.States.{IsLine, StampsDiffer-flips, line_head, line_tail, overlay-snapshot, IsState-empty, IsState-overlay, IsState-before, lawful_line, to_sorted, leaves_before, leaves_all, end_of, all_before_end, agrees_at, kept_before, before, before_out, before_tail, before-values, one_value, Until, IsValue-same}

-- each entry's reads agree with the state before its time
abbrev pub AgreeBefore : List Entry → State → Type 0
AgreeBefore es s = All (λ e. Agrees (before es s (time_of e)) e.reads) es

kept_next : (kept : State → Type 0) (records : ℕ) (e : Entry) (s : State) → IsEntry records e → IsState records s → kept s → Agrees s e.reads → (e.snapshot ≡ false → Fits kept records e) → kept (overlay e.writes s)
kept_next kept records e s entry is keeps agrees fits =
    ⊎_elim (λ snapshot. subst kept (sym (overlay-snapshot records e s entry snapshot)) keeps) (λ commit. fits commit s is keeps agrees) (cases_Bool e.snapshot)

folds_from : (kept : State → Type 0) (records : ℕ) (es : List Entry) (s : State) → IsLine records es → IsState records s → kept s → AgreeBefore es s → All (λ e. e.snapshot ≡ false → Fits kept records e) es → Folds kept s es
folds_from kept records [] s line is keeps agree fits = keeps
folds_from kept records (e ∷ es) s line is keeps agree fits =
    let entry = line_head records e es line in
    let here : Agrees s e.reads = subst (λ (t : State). Agrees t e.reads) (before_out e es s (time_of e) (le_refl _)) (All-head (λ (x : Entry). Agrees (before (e ∷ es) s (time_of x)) x.reads) e es agree) in
    let rest : AgreeBefore es (overlay e.writes s) = λ k d lt.
    let x : Entry = get_or es k d in
    subst (λ (t : State). Agrees t x.reads) (before_tail records e es s x line (Contains-get_or es k d lt)) (All-tail (λ (x : Entry). Agrees (before (e ∷ es) s (time_of x)) x.reads) e es agree k d lt) in
    let fit : e.snapshot ≡ false → Fits kept records e = All-head (λ (e : Entry). e.snapshot ≡ false → Fits kept records e) e es fits in (
      keeps,
      here,
      folds_from kept records es (overlay e.writes s) (line_tail records e es line) (IsState-overlay records e.writes s entry.writes is)
          (kept_next kept records e s entry is keeps here fit)
          rest
          (All-tail (λ (e : Entry). e.snapshot ≡ false → Fits kept records e) e es fits),
    )

pub write_before_is_lawful : (kept : State → Type 0) → kept empty_state → WriteBeforeIsLawful kept
write_before_is_lawful kept keeps records entries each apart obeys fits =
    let sorted : List Entry = by_key time_of entries in
    let moved : IsPermutation entries sorted = by_key-IsPermutation time_of entries in
    let line : IsLine records sorted = record {
      each = All-permutation (IsEntry records) entries sorted moved each;
      apart = AllPairs-IsPermutation StampsDiffer StampsDiffer-flips entries sorted moved apart;
      in_order = by_key-in_order time_of entries;
    } in
    let agree : AgreeBefore sorted empty_state = λ k d lt.
    let e : Entry = get_or sorted k d in
    let there = Contains-permutation sorted entries e (IsPermutation-sym entries sorted moved) (Contains-get_or sorted k d lt) in
    All-weaker (λ (read : ℕ × Option (List ℕ)). IsValue (Before entries e) read.0 read.1) (λ (read : ℕ × Option (List ℕ)). before sorted empty_state (time_of e) read.0 ≡ read.1)
    (λ read value. one_value records sorted (Until sorted (time_of e)) read.0 _ _ line.each line.apart (λ b at. at.0)
    (before-values records sorted empty_state (time_of e) read.0 line)
    (IsValue-same (Before entries e) (Until sorted (time_of e)) read.0 read.1
    (λ b commit at. (Contains-permutation entries sorted b moved at.0, at.1))
    (λ b commit at. (Contains-permutation sorted entries b (IsPermutation-sym entries sorted moved) at.0, at.1))
    value))
    e.reads
    (All-contains (ReadsObey entries) entries e obeys there) in
    record {
      each = each;
      apart = apart;
      sorted = sorted;
      same = moved;
      in_order = line.in_order;
      folds = folds_from kept records sorted empty_state line (IsState-empty records) keeps agree (All-permutation (λ (e : Entry). e.snapshot ≡ false → Fits kept records e) entries sorted moved fits);
    }

pub lawful_has_states : (kept : State → Type 0) → LawfulHasStates kept
lawful_has_states kept records entries lawful =
    let line = lawful_line kept records entries lawful in
    let at : ℕ → State = λ n. before lawful.sorted empty_state n in
    let last : ℕ = end_of lawful.sorted in (
      λ k d lt.
          let e : Entry = get_or entries k d in
          let n : ℕ = time_of e in (
            at n,
            record {
              left = leaves_before kept records entries lawful e;
              is_state = IsState-before records lawful.sorted empty_state n line (IsState-empty records);
              is_kept = kept_before kept lawful.sorted empty_state n lawful.folds;
            },
            All-contains (λ (e : Entry). Agrees (before lawful.sorted empty_state (time_of e)) e.reads) lawful.sorted e (agrees_at kept records lawful.sorted empty_state line lawful.folds) (to_sorted kept records entries lawful e (Contains-get_or entries k d lt)),
          ),
      (
        at last,
        record {
          left = leaves_all kept records entries lawful last (all_before_end lawful.sorted);
          is_state = IsState-before records lawful.sorted empty_state last line (IsState-empty records);
          is_kept = kept_before kept lawful.sorted empty_state last lawful.folds;
        },
      ),
    )
