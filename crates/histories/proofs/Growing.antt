-- A history that grows.
use Rattle.std.proofs.Common.{◌≡◌, ℕ, ◌<◌, ◌≤◌, false, List, [], ◌∷◌, ◌++◌, Option, None, ◌⊎◌, get_or, sym, ◌∙◌, subst, inl, inr, ⊎_elim, arith, All, Any, Contains, le_refl}
use Rattle.std.proofs.lemmas.List.Elements.{All-contains, Contains-get_or, Contains-push, Contains-append_left, Contains-append_cases, Contains-push_cases}
use Rattle.plain_data.specs.declared.entry.Entry.{Entry}
use Rattle.plain_data.specs.State.{State, IsEntry, overlay}
use Rattle.histories.specs.History.{time_of, Writes, IsValue, Leaves, Before, UpTo}
use Rattle.histories.specs.Laws.{NextStateIsOverlay, LaterEntriesKeepState}
use Rattle.histories.proofs.States.{time-commit, overlay-cases, one_value, IsValue-same}

abbrev IsBelow : Entry → Entry → Type 0
IsBelow entry other = other.snapshot ≡ false → other.stamp < entry.stamp

module _ (entries : List Entry) (entry : Entry) (commits : entry.snapshot ≡ false) (below : All (IsBelow entry) entries) where
  abbrev grown : List Entry
  grown = entries ++ entry ∷ []

  -- before it lies what there was
  before_it : (state : State) → Leaves (Before grown entry) state → Leaves (Contains entries) state
  before_it state left rid =
      IsValue-same (Before grown entry) (Contains entries) rid _
      (λ e commit at.
      ⊎_elim (λ there. there) (λ same. let lt = subst (λ (b : Entry). time_of b < time_of entry) (sym same) at.1 in absurd (omega arith)) (Contains-push_cases entries entry e at.0))
      (λ e commit at. (
        Contains-append_left entries (entry ∷ []) e at,
        let up = All-contains (IsBelow entry) entries e below at commit in
            let first = time-commit e commit in
            let second = time-commit entry commits in
            omega arith,
      ))
      (left rid)

  next_value : (state : State) → Leaves (Contains entries) state → Leaves (Contains grown) (overlay entry.writes state)
  next_value state left rid =
      ⊎_elim
      (λ at. inl (
        entry,
        record {
          there = Contains-push entries entry;
          commit = commits;
          value = at;
          last = λ other among w. ⊎_elim
              (λ there. let up = All-contains (IsBelow entry) entries other below there w.commit in omega arith)
              (λ same. subst (λ (e : Entry). e.stamp ≤ entry.stamp) same (le_refl _))
              (Contains-push_cases entries entry other among);
        },
      ))
      (λ none.
      let nothing : (other : Entry) → entry ≡ other → Writes rid other → ⊥ = λ other same w. none.1 (subst (λ (e : Entry). Any (λ v. v.0 ≡ rid) e.writes) (sym same) w.at) in
      ⊎_elim
      (λ c. inl (
        c.0,
        record {
          there = Contains-append_left entries (entry ∷ []) c.0 c.1.there;
          commit = c.1.commit;
          value = subst (λ x. Contains c.0.writes (rid, x)) (sym none.0) c.1.value;
          last = λ other among w. ⊎_elim (λ there. c.1.last other there w) (λ same. absurd (nothing other same w)) (Contains-push_cases entries entry other among);
        },
      ))
      (λ nor. inr (none.0 ∙ nor.0, λ other among w. ⊎_elim (λ there. nor.1 other there w) (λ same. nothing other same w) (Contains-push_cases entries entry other among)))
      (left rid))
      (overlay-cases entry.writes state rid)

pub next_state_is_overlay : NextStateIsOverlay
next_state_is_overlay records entries entry state each apart commits below left =
    let each_before : All (IsEntry records) entries = λ k d lt.
    All-contains (IsEntry records) (entries ++ entry ∷ []) (get_or entries k d) each (Contains-append_left entries (entry ∷ []) _ (Contains-get_or entries k d lt)) in (
      λ before is. λ i rid. one_value records entries (Contains entries) rid _ _ each_before apart (λ e at. at) (before_it entries entry commits below before is rid) (left rid) i,
      next_value entries entry commits below state left,
    )

pub later_entries_keep_state : LaterEntriesKeepState
later_entries_keep_state stamp entries more state low high left rid =
    IsValue-same (Contains entries) (UpTo (entries ++ more) stamp) rid _
    (λ e commit at. (Contains-append_left entries more e at, All-contains (λ (entry : Entry). entry.snapshot ≡ false → entry.stamp ≤ stamp) entries e low at commit))
    (λ e commit at. ⊎_elim (λ there. there)
    (λ later.
    let up = All-contains (λ (entry : Entry). entry.snapshot ≡ false → stamp < entry.stamp) more e high later commit in
    let le = at.1 in
    absurd (omega arith))
    (Contains-append_cases entries more e at.0))
    (left rid)

-- ---- the value by the stamp of the version that was read

-- the version at a stamp has this value: absent at 0, else a write of the commit entry of that stamp
abbrev pub IsSource : (Entry → Type 0) → ℕ → Option (List ℕ) → ℕ → Type 0
IsSource among rid x version =
    ((version ≡ 0) × (x ≡ None)) ⊎ ((entry : Entry) × among entry × (entry.snapshot ≡ false) × (entry.stamp ≡ version) × Contains entry.writes (rid, x))

-- where no entry among some writes the record above the version that was read, the value is the one that they leave
pub IsValue-from_source : (among : Entry → Type 0) (rid : ℕ) (x : Option (List ℕ)) (version : ℕ) → ((other : Entry) → among other → other.snapshot ≡ false → 0 < other.stamp) → IsSource among rid x version → ((other : Entry) → among other → Writes rid other → other.stamp ≤ version) → IsValue among rid x
IsValue-from_source among rid x version above (inl base) last =
    inr (base.1, λ other at w. let up = above other at w.commit in let le = last other at w in let is = base.0 in omega arith)
IsValue-from_source among rid x version above (inr found) last =
    inl (found.0, record { there = found.1; commit = found.2; value = found.4; last = λ other at w. let le = last other at w in let is = found.3 in omega arith })
