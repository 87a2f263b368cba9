-- The states of a history, before each time.
use Rattle.std.proofs.Common.{◌≡◌, ◌≢◌, ℕ, zero, suc, ◌+◌, ◌*◌, ◌<◌, ◌≤◌, Bool, true, false, cond, eqb, ltb, List, [], ◌∷◌, length, get_or, Option, IfSome, refl, sym, ap, ◌∙◌, subst, inl, inr, ⊎_elim, ◌⊎◌, arith, All, AllPairs, Any, Contains, le_refl, le_of_eq, lt-ltb, le-ltb}
use Rattle.std.proofs.lemmas.Bool.{cases_lt, cases_Bool, cond-true, cond-false, eqb-true, eqb-false}
use Rattle.std.proofs.lemmas.List.Elements.{All-nil, All-cons, All-head, All-tail, All-weaker, All-contains, Contains-get_or}
use Rattle.std.proofs.lemmas.List.Sorted.{IsPermutation-sym, All-permutation, Contains-permutation}
use Rattle.plain_data.specs.declared.entry.Entry.{Entry}
use Rattle.plain_data.specs.State.{State, IsCells, AreValues, IsEntry, IsState, Agrees, overlay, empty_state}
use Rattle.histories.specs.History.{time, time_of, StampsDiffer, Folds, Lawful, Writes, IsLastWrite, IsValue, Leaves, Before, UpTo}
use Rattle.histories.proofs.Lists.{pairs_head, pairs_tail, Contains-nil, Contains-cases, Contains-head, Contains-tail, same_place, AllPairs-IsPermutation}

-- ---- times

pub time-commit : (e : Entry) → e.snapshot ≡ false → time_of e ≡ 2 * e.stamp
time-commit e h = let moved : time_of e ≡ time e.stamp false = ap (time e.stamp) h in omega arith

pub time-snapshot : (e : Entry) → e.snapshot ≡ true → time_of e ≡ 2 * e.stamp + 1
time-snapshot e h = ap (time e.stamp) h

same_time : (s t : ℕ) (a b : Bool) → time s a ≡ time t b → (s ≡ t) × (a ≡ b)
same_time s t false false e = (omega arith, refl)
same_time s t false true e = absurd (omega arith)
same_time s t true false e = absurd (omega arith)
same_time s t true true e = (omega arith, refl)

-- ---- entries in a row

pub StampsDiffer-flips : (a b : Entry) → StampsDiffer a b → StampsDiffer b a
StampsDiffer-flips a b differ second first same = differ first second (sym same)

pub record IsLine (records : ℕ) (es : List Entry) : Type 0 where
  pub each : All (IsEntry records) es
  pub apart : AllPairs StampsDiffer es
  pub in_order : AllPairs (λ a b. time_of a ≤ time_of b) es

pub line_tail : (records : ℕ) (e : Entry) (es : List Entry) → IsLine records (e ∷ es) → IsLine records es
line_tail records e es line = record {
  each = All-tail (IsEntry records) e es line.each;
  apart = pairs_tail StampsDiffer e es line.apart;
  in_order = pairs_tail (λ a b. time_of a ≤ time_of b) e es line.in_order;
}

pub line_head : (records : ℕ) (e : Entry) (es : List Entry) → IsLine records (e ∷ es) → IsEntry records e
line_head records e es line = All-head (IsEntry records) e es line.each

pub line_later : (records : ℕ) (e : Entry) (es : List Entry) → IsLine records (e ∷ es) → All (λ b. time_of e ≤ time_of b) es
line_later records e es line = pairs_head (λ a b. time_of a ≤ time_of b) e es line.in_order

-- entries at the time of the first are snapshots
tied_snapshots : (records : ℕ) (e : Entry) (es : List Entry) (x : Entry) → IsLine records (e ∷ es) → Contains es x → time_of e ≡ time_of x → e.snapshot ≡ true
tied_snapshots records e es x line at same =
    ⊎_elim (λ yes. yes)
    (λ commit.
    let both = same_time e.stamp x.stamp e.snapshot x.snapshot same in
    absurd (All-contains (StampsDiffer e) es x (pairs_head StampsDiffer e es line.apart) at commit (sym both.1 ∙ commit) both.0))
    (cases_Bool e.snapshot)

-- ---- writes over a state

any-cases : (w : ℕ × Option (List ℕ)) (ws : List (ℕ × Option (List ℕ))) (rid : ℕ) → Any (λ v. v.0 ≡ rid) (w ∷ ws) → (w.0 ≡ rid) ⊎ Any (λ v. v.0 ≡ rid) ws
any-cases w ws rid a = go a.0 a.1 a.2 a.3 a.4
  where
    go : (k : ℕ) (x : ℕ × Option (List ℕ)) → k < length (w ∷ ws) → get_or (w ∷ ws) k x ≡ x → x.0 ≡ rid → (w.0 ≡ rid) ⊎ Any (λ v. v.0 ≡ rid) ws
    go zero x lt e is = inl (ap (λ (v : ℕ × Option (List ℕ)). v.0) e ∙ is)
    go (suc k) x lt e is = inr (k, x, omega arith, e, is)

pub overlay-cases : (ws : List (ℕ × Option (List ℕ))) (s : State) (rid : ℕ) → Contains ws (rid, overlay ws s rid) ⊎ ((overlay ws s rid ≡ s rid) × (Any (λ w. w.0 ≡ rid) ws → ⊥))
overlay-cases [] s rid = inr (refl, λ a. let lt = a.2 in omega arith)
overlay-cases (w ∷ ws) s rid =
    ⊎_elim
    (λ yes.
    let same : rid ≡ w.0 = eqb-true rid w.0 yes in
    let value : overlay (w ∷ ws) s rid ≡ w.1 = cond-true (eqb rid w.0) w.1 (overlay ws s rid) yes in
    inl (0, omega arith, λ i. (sym same i, sym value i)))
    (λ not.
    let value : overlay (w ∷ ws) s rid ≡ overlay ws s rid = cond-false (eqb rid w.0) w.1 (overlay ws s rid) not in
    ⊎_elim
    (λ at. inl (Contains-tail w ws _ (subst (λ x. Contains ws (rid, x)) (sym value) at)))
    (λ none. inr (value ∙ none.0, λ a. ⊎_elim (λ here. eqb-false rid w.0 not (sym here)) none.1 (any-cases w ws rid a)))
    (overlay-cases ws s rid))
    (cases_Bool (eqb rid w.0))

pub overlay-snapshot : (records : ℕ) (e : Entry) (s : State) → IsEntry records e → e.snapshot ≡ true → overlay e.writes s ≡ s
overlay-snapshot records e s is snapshot = ap (λ ws. overlay ws s) (is.snapshot snapshot)

pub IsState-empty : (records : ℕ) → IsState records empty_state
IsState-empty records = record { absent = λ rid le. refl; cells = λ rid. tt }

pub IsState-overlay : (records : ℕ) (ws : List (ℕ × Option (List ℕ))) (s : State) → AreValues records ws → IsState records s → IsState records (overlay ws s)
IsState-overlay records ws s are is = record {
  absent = λ rid le. ⊎_elim
      (λ at. let lt : rid < records = All-contains (λ (w : ℕ × Option (List ℕ)). w.0 < records) ws (rid, overlay ws s rid) are.in_range at in absurd (omega arith))
      (λ none. none.0 ∙ is.absent rid le)
      (overlay-cases ws s rid);
  cells = λ rid. ⊎_elim
      (λ at. All-contains (λ (w : ℕ × Option (List ℕ)). IfSome w.1 IsCells) ws (rid, overlay ws s rid) are.cells at)
      (λ none. subst (λ x. IfSome x IsCells) (sym none.0) (is.cells rid))
      (overlay-cases ws s rid);
}

-- ---- the state before a time, of entries in a row that begin at a state

abbrev pub before : List Entry → State → ℕ → State
before [] s n = s
before (e ∷ es) s n = cond (ltb (time_of e) n) (before es (overlay e.writes s) n) s

pub before_in : (e : Entry) (es : List Entry) (s : State) (n : ℕ) → time_of e < n → before (e ∷ es) s n ≡ before es (overlay e.writes s) n
before_in e es s n lt = cond-true (ltb (time_of e) n) (before es (overlay e.writes s) n) s (lt-ltb _ _ lt)

pub before_out : (e : Entry) (es : List Entry) (s : State) (n : ℕ) → n ≤ time_of e → before (e ∷ es) s n ≡ s
before_out e es s n le = cond-false (ltb (time_of e) n) (before es (overlay e.writes s) n) s (le-ltb _ _ le)

pub before_start : (es : List Entry) (s : State) (n : ℕ) → All (λ e. n ≤ time_of e) es → before es s n ≡ s
before_start [] s n all = refl
before_start (e ∷ es) s n all = before_out e es s n (All-head (λ (e : Entry). n ≤ time_of e) e es all)

-- before a later entry of the row the first one has been
pub before_tail : (records : ℕ) (e : Entry) (es : List Entry) (s : State) (x : Entry) → IsLine records (e ∷ es) → Contains es x → before (e ∷ es) s (time_of x) ≡ before es (overlay e.writes s) (time_of x)
before_tail records e es s x line at =
    ⊎_elim (λ lt. before_in e es s (time_of x) lt)
    (λ ge.
    let later = line_later records e es line in
    let up : time_of e ≤ time_of x = All-contains (λ (b : Entry). time_of e ≤ time_of b) es x later at in
    let same : time_of e ≡ time_of x = omega arith in
    let still = overlay-snapshot records e s (line_head records e es line) (tied_snapshots records e es x line at same) in
    before_out e es s (time_of x) ge ∙ sym still
    ∙ sym (before_start es (overlay e.writes s) (time_of x) (All-weaker (λ (b : Entry). time_of e ≤ time_of b) (λ (b : Entry). time_of x ≤ time_of b) (λ b le. omega arith) es later)))
    (cases_lt (time_of e) (time_of x))

pub IsState-before : (records : ℕ) (es : List Entry) (s : State) (n : ℕ) → IsLine records es → IsState records s → IsState records (before es s n)
IsState-before records [] s n line is = is
IsState-before records (e ∷ es) s n line is =
    ⊎_elim
    (λ lt. subst (IsState records) (sym (before_in e es s n lt))
    (IsState-before records es (overlay e.writes s) n (line_tail records e es line) (IsState-overlay records e.writes s (line_head records e es line).writes is)))
    (λ ge. subst (IsState records) (sym (before_out e es s n ge)) is)
    (cases_lt (time_of e) n)

-- each entry's reads agree with the state before its time
pub agrees_at : (kept : State → Type 0) (records : ℕ) (es : List Entry) (s : State) → IsLine records es → Folds kept s es → All (λ e. Agrees (before es s (time_of e)) e.reads) es
agrees_at kept records [] s line folds = All-nil (λ (e : Entry). Agrees (before [] s (time_of e)) e.reads)
agrees_at kept records (e ∷ es) s line folds =
    All-cons (λ (x : Entry). Agrees (before (e ∷ es) s (time_of x)) x.reads) e es
    (subst (λ (t : State). Agrees t e.reads) (sym (before_out e es s (time_of e) (le_refl _))) folds.1)
    (λ k d lt.
    let x : Entry = get_or es k d in
    subst (λ (t : State). Agrees t x.reads) (sym (before_tail records e es s x line (Contains-get_or es k d lt)))
    (agrees_at kept records es (overlay e.writes s) (line_tail records e es line) folds.2 k d lt))

-- and that state is kept
pub kept_before : (kept : State → Type 0) (es : List Entry) (s : State) (n : ℕ) → Folds kept s es → kept (before es s n)
kept_before kept [] s n folds = folds
kept_before kept (e ∷ es) s n folds =
    ⊎_elim
    (λ lt. subst kept (sym (before_in e es s n lt)) (kept_before kept es (overlay e.writes s) n folds.2))
    (λ ge. subst kept (sym (before_out e es s n ge)) folds.0)
    (cases_lt (time_of e) n)

-- ---- values

pub writes_from_last : (among : Entry → Type 0) (rid : ℕ) (x : Option (List ℕ)) (e : Entry) → IsLastWrite among rid x e → Writes rid e
writes_from_last among rid x e last = record { commit = last.commit; at = (last.value.0, (rid, x), last.value.1, last.value.2, refl) }

-- entries leave one value of a record
pub one_value : (records : ℕ) (es : List Entry) (among : Entry → Type 0) (rid : ℕ) (x y : Option (List ℕ)) → All (IsEntry records) es → AllPairs StampsDiffer es → ((e : Entry) → among e → Contains es e) → IsValue among rid x → IsValue among rid y → x ≡ y
one_value records es among rid x y each apart within (inl c) (inl d) =
    let down : d.0.stamp ≤ c.0.stamp = c.1.last d.0 d.1.there (writes_from_last among rid y d.0 d.1) in
    let up : c.0.stamp ≤ d.0.stamp = d.1.last c.0 c.1.there (writes_from_last among rid x c.0 c.1) in
    let tie : c.0.stamp ≡ d.0.stamp = omega arith in
    let same : c.0 ≡ d.0 =
    same_place StampsDiffer es c.0 d.0 apart (within c.0 c.1.there) (within d.0 d.1.there) (λ differ. differ c.1.commit d.1.commit tie) (λ differ. differ d.1.commit c.1.commit (sym tie)) in
    let is = All-contains (IsEntry records) es c.0 each (within c.0 c.1.there) in
    let other : Contains c.0.writes (rid, y) = subst (λ (e : Entry). Contains e.writes (rid, y)) (sym same) d.1.value in
    ap (λ (w : ℕ × Option (List ℕ)). w.1)
    (same_place (λ (a b : ℕ × Option (List ℕ)). a.0 ≢ b.0) c.0.writes (rid, x) (rid, y) is.writes.once c.1.value other (λ ne. ne refl) (λ ne. ne refl))
one_value records es among rid x y each apart within (inl c) (inr none) = absurd (none.1 c.0 c.1.there (writes_from_last among rid x c.0 c.1))
one_value records es among rid x y each apart within (inr none) (inl d) = absurd (none.1 d.0 d.1.there (writes_from_last among rid y d.0 d.1))
one_value records es among rid x y each apart within (inr none) (inr nor) = none.0 ∙ sym nor.0

-- only the commit entries matter
pub IsValue-same : (some others : Entry → Type 0) (rid : ℕ) (x : Option (List ℕ)) → ((e : Entry) → e.snapshot ≡ false → some e → others e) → ((e : Entry) → e.snapshot ≡ false → others e → some e) → IsValue some rid x → IsValue others rid x
IsValue-same some others rid x to from (inl c) = inl (
  c.0,
  record {
    there = to c.0 c.1.commit c.1.there;
    commit = c.1.commit;
    value = c.1.value;
    last = λ e at w. c.1.last e (from e w.commit at) w;
  },
)
IsValue-same some others rid x to from (inr none) = inr (none.0, λ e at w. none.1 e (from e w.commit at) w)

-- the entries of a list that lie before a time
abbrev pub Until : List Entry → ℕ → Entry → Type 0
Until es n e = Contains es e × (time_of e < n)

-- what they leave of a record that had a value
abbrev IsValueFrom : State → ℕ → List Entry → ℕ → Option (List ℕ) → Type 0
IsValueFrom s n es rid x = ((e : Entry) × IsLastWrite (Until es n) rid x e) ⊎ ((x ≡ s rid) × ((e : Entry) → Until es n e → Writes rid e → ⊥))

commit_from_write : (records : ℕ) (e : Entry) (w : ℕ × Option (List ℕ)) → IsEntry records e → Contains e.writes w → e.snapshot ≡ false
commit_from_write records e w is at =
    ⊎_elim (λ snapshot. absurd (Contains-nil w (subst (λ ws. Contains ws w) (is.snapshot snapshot) at))) (λ commit. commit) (cases_Bool e.snapshot)

-- one more entry in front
value_more : (records : ℕ) (e : Entry) (es : List Entry) (s : State) (n rid : ℕ) (x : Option (List ℕ)) → IsLine records (e ∷ es) → time_of e < n → IsValueFrom (overlay e.writes s) n es rid x → IsValueFrom s n (e ∷ es) rid x
value_more records e es s n rid x line lt (inl c) = inl (
  c.0,
  record {
    there = (Contains-tail e es c.0 c.1.there.0, c.1.there.1);
    commit = c.1.commit;
    value = c.1.value;
    last = λ b at w. ⊎_elim
        (λ here. subst (λ (y : Entry). y.stamp ≤ c.0.stamp) here (
        let commit : e.snapshot ≡ false = subst (λ (y : Entry). y.snapshot ≡ false) (sym here) w.commit in
        let up : time_of e ≤ time_of c.0 = All-contains (λ (b : Entry). time_of e ≤ time_of b) es c.0 (line_later records e es line) c.1.there.0 in
        let first = time-commit e commit in
        let second = time-commit c.0 c.1.commit in
        omega arith))
        (λ there. c.1.last b (there, at.1) w)
        (Contains-cases e es b at.0);
  },
)
value_more records e es s n rid x line lt (inr none) =
    ⊎_elim
    (λ at. inl (
      e,
      record {
        there = (Contains-head e es, lt);
        commit = commit_from_write records e _ (line_head records e es line) at;
        value = subst (λ v. Contains e.writes (rid, v)) (sym none.0) at;
        last = λ b among w. ⊎_elim (λ here. subst (λ (y : Entry). y.stamp ≤ e.stamp) here (le_refl _)) (λ there. absurd (none.1 b (there, among.1) w)) (Contains-cases e es b among.0);
      },
    ))
    (λ same. inr (
      none.0 ∙ same.0,
      λ b among w. ⊎_elim
          (λ here. same.1 (subst (λ (y : Entry). Any (λ v. v.0 ≡ rid) y.writes) (sym here) w.at))
          (λ there. none.1 b (there, among.1) w)
          (Contains-cases e es b among.0),
    ))
    (overlay-cases e.writes s rid)

pub before-values : (records : ℕ) (es : List Entry) (s : State) (n rid : ℕ) → IsLine records es → IsValueFrom s n es rid (before es s n rid)
before-values records [] s n rid line = inr (refl, λ e among w. Contains-nil e among.0)
before-values records (e ∷ es) s n rid line =
    ⊎_elim
    (λ lt. subst (IsValueFrom s n (e ∷ es) rid) (ap (λ (t : State). t rid) (sym (before_in e es s n lt)))
    (value_more records e es s n rid _ line lt (before-values records es (overlay e.writes s) n rid (line_tail records e es line))))
    (λ ge. subst (IsValueFrom s n (e ∷ es) rid) (ap (λ (t : State). t rid) (sym (before_out e es s n ge)))
    (inr (
      refl,
      λ b among w.
          let lt : time_of b < n = among.1 in
          let up : time_of e ≤ time_of b = ⊎_elim
          (λ here. le_of_eq (ap time_of here))
          (λ there. All-contains (λ (b : Entry). time_of e ≤ time_of b) es b (line_later records e es line) there)
          (Contains-cases e es b among.0) in
          omega arith,
    )))
    (cases_lt (time_of e) n)

-- ---- a lawful history

-- a number above all times
bound : (es : List Entry) → (n : ℕ) × All (λ e. time_of e < n) es
bound [] = (0, All-nil (λ (e : Entry). time_of e < 0))
bound (e ∷ es) =
    let rest = bound es in
    let n : ℕ = rest.0 + suc (time_of e) in
    (n, All-cons (λ (b : Entry). time_of b < n) e es (omega arith) (All-weaker (λ (b : Entry). time_of b < rest.0) (λ (b : Entry). time_of b < n) (λ b lt. omega arith) es rest.1))

pub end_of : List Entry → ℕ
end_of es = (bound es).0

pub all_before_end : (es : List Entry) → All (λ e. time_of e < end_of es) es
unfolding end_of
all_before_end es = (bound es).1

module _ (kept : State → Type 0) (records : ℕ) (entries : List Entry) (lawful : Lawful kept records entries) where
  pub lawful_line : IsLine records lawful.sorted
  lawful_line = record {
    each = All-permutation (IsEntry records) entries lawful.sorted lawful.same lawful.each;
    apart = AllPairs-IsPermutation StampsDiffer StampsDiffer-flips entries lawful.sorted lawful.same lawful.apart;
    in_order = lawful.in_order;
  }

  -- the state before a time
  abbrev pub state_at : ℕ → State
  state_at n = before lawful.sorted empty_state n

  pub to_sorted : (e : Entry) → Contains entries e → Contains lawful.sorted e
  to_sorted e at = Contains-permutation entries lawful.sorted e lawful.same at

  pub from_sorted : (e : Entry) → Contains lawful.sorted e → Contains entries e
  from_sorted e at = Contains-permutation lawful.sorted entries e (IsPermutation-sym entries lawful.sorted lawful.same) at

  -- what lies before a time, said in another way
  leaves_where : (among : Entry → Type 0) (n : ℕ) → ((e : Entry) → e.snapshot ≡ false → Until lawful.sorted n e → among e) → ((e : Entry) → e.snapshot ≡ false → among e → Until lawful.sorted n e) → Leaves among (state_at n)
  leaves_where among n to from rid = IsValue-same (Until lawful.sorted n) among rid _ to from (before-values records lawful.sorted empty_state n rid lawful_line)

  pub leaves_before : (e : Entry) → Leaves (Before entries e) (state_at (time_of e))
  leaves_before e = leaves_where (Before entries e) (time_of e) (λ b commit at. (from_sorted b at.0, at.1)) (λ b commit at. (to_sorted b at.0, at.1))

  -- the commit entries up to a stamp are those before a snapshot of that stamp
  pub leaves_up_to : (stamp : ℕ) → Leaves (UpTo entries stamp) (state_at (2 * stamp + 1))
  leaves_up_to stamp = leaves_where (UpTo entries stamp) (2 * stamp + 1)
      (λ b commit at. (from_sorted b at.0, let is = time-commit b commit in let lt = at.1 in omega arith))
      (λ b commit at. (to_sorted b at.0, let is = time-commit b commit in let up = at.1 in omega arith))

  pub leaves_all : (n : ℕ) → All (λ e. time_of e < n) lawful.sorted → Leaves (Contains entries) (state_at n)
  leaves_all n below = leaves_where (Contains entries) n
      (λ b commit at. from_sorted b at.0)
      (λ b commit at. let there = to_sorted b at in (there, All-contains (λ (e : Entry). time_of e < n) lawful.sorted b below there))
