-- What blocks that ran behind a loading add to the weight of the tables, whatever the order of their stamps.
use Rattle.std.proofs.Common.{◌≡◌, inl, inr, ⊎_elim, ℕ, ◌+◌, ◌*◌, ◌<◌, ◌≤◌, false, List, [], ◌∷◌, ◌++◌, refl, sym, ap, subst, ◌∙◌, arith, All, Contains}
use Rattle.std.proofs.lemmas.Bool.{cases_lt, cases_Bool}
use Rattle.std.proofs.lemmas.List.Elements.{All-cons, All-head, All-tail, All-weaker, All-contains}
use Rattle.std.proofs.lemmas.List.Sums.{sum_by-cons}
use Rattle.plain_data.specs.declared.entry.Entry.{Entry}
use Rattle.plain_data.specs.State.{State, Agrees, overlay, empty_state}
use Rattle.core_rule.specs.Views.{Among}
use Rattle.core_rule.proofs.Among.{Among-left, Among-split}
use Rattle.histories.specs.History.{time_of, StampsDiffer, Folds, Lawful, UpTo}
use Rattle.histories.proofs.Lists.{pairs_head, Contains-head, Contains-tail}
use Rattle.histories.proofs.States.{IsLine, line_head, line_tail, line_later, time-commit, overlay-snapshot, before, before_in, before_out, one_value, IsValue-same, end_of, all_before_end, lawful_line, from_sorted, leaves_up_to, leaves_all}
use Rattle.history_replay.specs.Results.{StandsForSome}
use Rattle.replay_model.specs.declared.command.Command.{Command}
use Rattle.replay_model.specs.declared.input.Block.{Block}
use Rattle.replay_model.specs.declared.outcome.Outcome.{Outcome}
use Rattle.replay_model.specs.declared.outcome.Placed.{Placed}
use Rattle.replay_model.specs.Running.{tables_after}
use Rattle.replay_model.specs.TableMap.{TableMap}
use Rattle.stored_tables.specs.Places.{Places}
use Rattle.stored_tables.specs.Tables.{StandsFor}
use Rattle.stored_tables.specs.Weight.{weight, all_add}
use Rattle.stored_tables.specs.Weights.{AddsAfter}
use Rattle.lane_runner.specs.Rows.{stands}
use Rattle.lane_runner.specs.Lanes.{AreEntries}
use Rattle.lane_runner.specs.Lanes.AreEntries.{none, result, other}
use Rattle.lane_runner.specs.Weighs.{WeighsAtMost, blocks_add}
use Rattle.lane_runner.specs.Holding.{LeavesWithin}
use Rattle.lane_runner.specs.Behind.{WeighsAfter, RunsWeigh}
use Rattle.lane_runner.proofs.Elements.{contains_of, among_of}

-- ---- entries, each with its commands

abbrev Share : Type 0
Share = Entry × List Command

-- what they add together
abbrev shares_add : List Share → TableMap → ℕ
shares_add [] tables = 0
shares_add (share ∷ shares) tables = all_add share.1 tables + shares_add shares tables

-- each of the commit entries adds no more than is said of its commands
abbrev AreLight : ℕ → List Share → Type 0
AreLight records shares = (share : Share) → Among share shares → share.0.snapshot ≡ false → WeighsAtMost records share.1 share.0

-- an entry with its commands, whatever they are
abbrev HasShare : List Share → Entry → Type 0
HasShare shares entry = (commands : List Command) × Among (entry, commands) shares

-- those of blocks that ran; an entry that leaves the tables has no commands
record Shares (records : ℕ) (entries : List Entry) (blocks : List Block) (tables : TableMap) : Type 0 where
  shares : List Share
  total : shares_add shares tables ≡ blocks_add blocks tables
  each : (entry : Entry) → Among entry entries → HasShare shares entry
  light : AreLight records shares

blocks_cons : (block : Block) (blocks : List Block) (tables : TableMap) → blocks_add (block ∷ blocks) tables ≡ all_add block.commands tables + blocks_add blocks tables
blocks_cons block blocks tables = sum_by-cons (λ (b : Block). all_add b.commands tables) block blocks

none_more : (n : ℕ) → n ≡ 0 + n
none_more n = omega arith

share_more : (records : ℕ) (entry : Entry) (commands : List Command) (entries : List Entry) (blocks blocks' : List Block) (tables : TableMap) → blocks_add blocks' tables ≡ all_add commands tables + blocks_add blocks tables
    → (entry.snapshot ≡ false → WeighsAtMost records commands entry) → Shares records entries blocks tables → Shares records (entry ∷ entries) blocks' tables
share_more records entry commands entries blocks blocks' tables more weighs rest = record {
  shares = (entry, commands) ∷ rest.shares;
  total = omega (arith, more, rest.total);
  each = each_of;
  light = light_of;
} where
  each_of : (e : Entry) → Among e (entry ∷ entries) → HasShare ((entry, commands) ∷ rest.shares) e
  each_of e (inl same) = (commands, inl (ap (λ (x : Entry). (x, commands)) same))
  each_of e (inr among) = let found = rest.each e among in (found.0, inr found.1)

  light_of : AreLight records ((entry, commands) ∷ rest.shares)
  light_of share (inl same) = subst (λ (x : Share). x.0.snapshot ≡ false → WeighsAtMost records x.1 x.0) same weighs
  light_of share (inr among) = rest.light share among

shares_of : (records : ℕ) (entries : List Entry) (blocks : List Block) (results : List (Placed × Outcome)) (tables : TableMap) → AreEntries records entries blocks results → Shares records entries blocks tables
shares_of records entries blocks results tables none = record { shares = []; total = refl; each = λ entry among. absurd among; light = λ share among. absurd among }
shares_of records entries blocks results tables (result e es b bs r rs is rest) = share_more records e b.commands es bs (b ∷ bs) tables (blocks_cons b bs tables) is.weighs (shares_of records es bs rs tables rest)
shares_of records entries blocks results tables (other e es bs rs leaves rest) = share_more records e [] es bs bs tables (none_more (blocks_add bs tables)) leaves.weighs (shares_of records es bs rs tables rest)

-- all but one of them
record Without (share : Share) (shares : List Share) (tables : TableMap) : Type 0 where
  rest : List Share
  total : shares_add shares tables ≡ all_add share.1 tables + shares_add rest tables
  others : (x : Share) → Among x shares → (share ≡ x → ⊥) → Among x rest
  within : (x : Share) → Among x rest → Among x shares

without : (share : Share) (shares : List Share) (tables : TableMap) → Among share shares → Without share shares tables
without share [] tables among = absurd among
without share (x ∷ xs) tables (inl same) = record {
  rest = xs;
  total = ap (λ (s : Share). all_add s.1 tables + shares_add xs tables) same;
  others = λ y among differ. ⊎_elim (λ is. absurd (differ (sym same ∙ is))) (λ more. more) among;
  within = λ y among. inr among;
}
without share (x ∷ xs) tables (inr among) =
    let w = without share xs tables among in
    record {
      rest = x ∷ w.rest;
      total = omega (arith, w.total);
      others = λ y among differ. ⊎_elim (λ is. inl is) (λ more. inr (w.others y more differ)) among;
      within = λ y among. ⊎_elim (λ is. inl is) (λ more. inr (w.within y more)) among;
    }

-- ---- a state that stands for tables of at most some weight, to which commands add what they add to others

record Weighs (records : ℕ) (base : TableMap) (state : State) (most : ℕ) : Type 0 where
  after : TableMap
  places : Places
  stands_for : StandsFor records state places after
  light : weight places ≤ most
  same : (commands : List Command) → all_add commands after ≡ all_add commands base

at_most_with : (now most more : ℕ) → now ≤ most → now ≤ most + more
at_most_with now most more low = omega arith

less_with : (now most more : ℕ) → now < most → now < most + more
less_with now most more low = omega arith

at_most_sum : (now before more more' most : ℕ) → now ≤ before + more → more ≡ more' → before ≤ most → now ≤ most + more'
at_most_sum now before more more' most grows same low = omega arith

weighs_as : (records : ℕ) (base : TableMap) (state : State) (most most' : ℕ) → most ≡ most' → Weighs records base state most → Weighs records base state most'
weighs_as records base state most most' same weighs = subst (λ (n : ℕ). Weighs records base state n) same weighs

-- behind one more commit entry
weighs_more : (records : ℕ) (base : TableMap) (state : State) (most : ℕ) (entry : Entry) (commands : List Command)
    → AddsAfter → WeighsAtMost records commands entry → Agrees state entry.reads → Weighs records base state most → Weighs records base (overlay entry.writes state) (most + all_add commands base)
weighs_more records base state most entry commands adds_after light agrees weighs =
    let step = light weighs.after state weighs.places agrees weighs.stands_for in
    record {
      after = tables_after commands weighs.after;
      places = step.0;
      stands_for = step.1;
      light = at_most_sum (weight step.0) (weight weighs.places) (all_add commands weighs.after) (all_add commands base) most step.2 (weighs.same commands) weighs.light;
      same = λ more. adds_after commands more weighs.after ∙ weighs.same more;
    }

-- ---- along a row of entries

module _ (kept : State → Type 0) (records : ℕ) (base : TableMap) (adds_after : AddsAfter) (k n : ℕ) where
  -- each commit entry from the time k on is one of these
  abbrev Cover : List Share → List Entry → Type 0
  Cover shares es = (e : Entry) → Contains es e → e.snapshot ≡ false → k ≤ time_of e → HasShare shares e

  abbrev Reaches : State → List Entry → (shares : List Share) (most : ℕ) → Type 0
  Reaches s es shares most = Weighs records base (before es s n) (most + shares_add shares base)

  reaches_none : (s : State) (shares : List Share) (most : ℕ) → Weighs records base s most → Reaches s [] shares most
  reaches_none s shares most weighs = record {
    after = weighs.after;
    places = weighs.places;
    stands_for = weighs.stands_for;
    light = at_most_with (weight weighs.places) most (shares_add shares base) weighs.light;
    same = weighs.same;
  }

  -- what is left behind a commit entry
  cover_rest : (e : Entry) (es : List Entry) (shares : List Share) (commands : List Command) (w : Without (e, commands) shares base) → IsLine records (e ∷ es) → e.snapshot ≡ false → Cover shares (e ∷ es) → Cover w.rest es
  cover_rest e es shares commands w line commit cover x at commits late =
      let found = cover x (Contains-tail e es x at) commits late in (
        found.0,
        w.others (x, found.0) found.1 (λ same.
            let differ : StampsDiffer e x = All-contains (StampsDiffer e) es x (pairs_head StampsDiffer e es line.apart) at in
            differ commit commits (ap (λ (share : Share). share.0.stamp) same)),
      )

  -- from the time k on
  reaches_behind : (es : List Entry) (s : State) (shares : List Share) (most : ℕ) → IsLine records es → Folds kept s es → All (λ e. time_of e < n) es → All (λ e. k ≤ time_of e) es → Cover shares es → AreLight records shares → Weighs records base s most → Reaches s es shares most
  reaches_behind [] s shares most line folds low late cover light weighs = reaches_none s shares most weighs
  reaches_behind (e ∷ es) s shares most line folds low late cover light weighs =
      let low' = All-tail (λ (x : Entry). time_of x < n) e es low in
      let late' = All-tail (λ (x : Entry). k ≤ time_of x) e es late in
      subst (λ (t : State). Weighs records base t (most + shares_add shares base)) (sym (before_in e es s n (All-head (λ (x : Entry). time_of x < n) e es low)))
      (⊎_elim
      (λ snapshot.
      let still : Weighs records base (overlay e.writes s) most = subst (λ (t : State). Weighs records base t most) (sym (overlay-snapshot records e s (line_head records e es line) snapshot)) weighs in
      reaches_behind es (overlay e.writes s) shares most (line_tail records e es line) folds.2 low' late' (λ x at. cover x (Contains-tail e es x at)) light still)
      (λ commit.
      let found = cover e (Contains-head e es) commit (All-head (λ (x : Entry). k ≤ time_of x) e es late) in
      let w = without (e, found.0) shares base found.1 in
      let more : Weighs records base (overlay e.writes s) (most + all_add found.0 base) = weighs_more records base s most e found.0 adds_after (light (e, found.0) found.1 commit) folds.1 weighs in
      let rest = reaches_behind es (overlay e.writes s) w.rest (most + all_add found.0 base) (line_tail records e es line) folds.2 low' late' (cover_rest e es shares found.0 w line commit cover) (λ x at. light x (w.within x at)) more in
      weighs_as records base (before es (overlay e.writes s) n) (most + all_add found.0 base + shares_add w.rest base) (most + shares_add shares base) (omega (arith, w.total)) rest)
      (cases_Bool e.snapshot))

  reaches : (es : List Entry) (s : State) (shares : List Share) (most : ℕ) → k ≤ n → IsLine records es → Folds kept s es → All (λ e. time_of e < n) es → Cover shares es → AreLight records shares → Weighs records base (before es s k) most → Reaches s es shares most
  reaches [] s shares most le line folds low cover light weighs = reaches_none s shares most weighs
  reaches (e ∷ es) s shares most le line folds low cover light weighs =
      ⊎_elim
      (λ lt.
      subst (λ (t : State). Weighs records base t (most + shares_add shares base)) (sym (before_in e es s n (omega arith)))
      (reaches es (overlay e.writes s) shares most le (line_tail records e es line) folds.2 (All-tail (λ (x : Entry). time_of x < n) e es low) (λ x at. cover x (Contains-tail e es x at)) light
      (subst (λ (t : State). Weighs records base t most) (before_in e es s k lt) weighs)))
      (λ ge.
      let late = All-weaker (λ (b : Entry). time_of e ≤ time_of b) (λ (b : Entry). k ≤ time_of b) (λ b up. omega arith) es (line_later records e es line) in
      reaches_behind (e ∷ es) s shares most line folds low (All-cons (λ (b : Entry). k ≤ time_of b) e es ge late) cover light
      (subst (λ (t : State). Weighs records base t most) (before_out e es s k ge) weighs))
      (cases_lt (time_of e) k)

-- ---- the law

module _ (adds_after : AddsAfter) (records start : ℕ) (loading entries : List Entry) (blocks : List Block) (results : List (Placed × Outcome)) (tables : TableMap) (most : ℕ)
    (lawful : Lawful (StandsForSome stands) records (loading ++ entries)) (within : LeavesWithin records loading tables most)
    (up_to : (entry : Entry) → Among entry loading → entry.snapshot ≡ false → entry.stamp ≤ start) (behind : (entry : Entry) → Among entry entries → entry.snapshot ≡ false → start < entry.stamp)
    (are : AreEntries records entries blocks results) where
  abbrev kept : State → Type 0
  kept = StandsForSome stands

  abbrev at : ℕ → State
  at n = before lawful.sorted empty_state n

  -- the commit entries up to the stamp are those of the loading
  into : (e : Entry) → e.snapshot ≡ false → Contains loading e → UpTo (loading ++ entries) start e
  into e commit here =
      let among = among_of loading e here in
      (contains_of (loading ++ entries) e (Among-left e loading entries among), up_to e among commit)

  out_of : (e : Entry) → e.snapshot ≡ false → UpTo (loading ++ entries) start e → Contains loading e
  out_of e commit low = ⊎_elim
      (λ here. contains_of loading e here)
      (λ there. let above : start < e.stamp = behind e there commit in let below : e.stamp ≤ start = low.1 in absurd (omega arith))
      (Among-split e loading entries (among_of (loading ++ entries) e low.0))

  same_state : within.state ≡ at (2 * start + 1)
  same_state = λ i rid.
      one_value records (loading ++ entries) (UpTo (loading ++ entries) start) rid (within.state rid) (at (2 * start + 1) rid) lawful.each lawful.apart (λ e up. up.0)
      (IsValue-same (Contains loading) (UpTo (loading ++ entries) start) rid (within.state rid) into out_of (within.left rid))
      (leaves_up_to kept records (loading ++ entries) lawful start rid) i

  loaded_weighs : Weighs records tables (at (2 * start + 1)) most
  loaded_weighs = subst (λ (s : State). Weighs records tables s most) same_state (record {
    after = tables;
    places = within.places;
    stands_for = within.stands_for;
    light = within.are;
    same = λ commands. refl;
  })

  shared : Shares records entries blocks tables
  shared = shares_of records entries blocks results tables are

  cover : Cover kept records tables adds_after (2 * start + 1) (end_of lawful.sorted) shared.shares lawful.sorted
  cover e there commit late = ⊎_elim
      (λ here. let low : e.stamp ≤ start = up_to e here commit in let is = time-commit e commit in absurd (omega arith))
      (λ among. shared.each e among)
      (Among-split e loading entries (among_of (loading ++ entries) e (from_sorted kept records (loading ++ entries) lawful e there)))

  -- a time above all, and not below the stamp
  abbrev last : ℕ
  last = end_of lawful.sorted + (2 * start + 1)

  below_last : All (λ (e : Entry). time_of e < last) lawful.sorted
  below_last = All-weaker (λ (e : Entry). time_of e < end_of lawful.sorted) (λ (e : Entry). time_of e < last) (λ e low. less_with (time_of e) (end_of lawful.sorted) (2 * start + 1) low) lawful.sorted (all_before_end lawful.sorted)

  all_weigh : Weighs records tables (at last) (most + blocks_add blocks tables)
  all_weigh = weighs_as records tables (at last) (most + shares_add shared.shares tables) (most + blocks_add blocks tables) (ap (λ (m : ℕ). most + m) shared.total)
      (reaches kept records tables adds_after (2 * start + 1) last lawful.sorted empty_state shared.shares most (omega arith) (lawful_line kept records (loading ++ entries) lawful) lawful.folds below_last cover shared.light loaded_weighs)

  pub runs_weigh_after : WeighsAfter records (loading ++ entries) tables (most + blocks_add blocks tables)
  runs_weigh_after = record {
    after = all_weigh.after;
    leaves = record {
      state = at last;
      left = leaves_all kept records (loading ++ entries) lawful last below_last;
      places = all_weigh.places;
      stands_for = all_weigh.stands_for;
      are = all_weigh.light;
    };
    same = all_weigh.same;
  }

pub runs_weigh : AddsAfter → RunsWeigh
runs_weigh adds_after records start loading entries blocks results tables most lawful within up_to behind are =
    runs_weigh_after adds_after records start loading entries blocks results tables most lawful within up_to (λ entry among. (behind entry among).commit) are
