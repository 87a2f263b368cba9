-- A scan goes on from a leaf to the next, over each state that agrees.
use Rattle.std.proofs.Common.{◌≡◌, ◌⊎◌, ℕ, ◌+◌, ◌-◌, ◌^◌, ◌<◌, ◌≤◌, Bool, true, false, List, [], ◌∷◌, ◌++◌, length, take, None, Some, sym, ap, ◌∙◌, arith, subst, inl, inr}
use Rattle.std.proofs.Math.Seq.{take-append-add}
use Rattle.std.proofs.lemmas.List.{append_assoc, append-nil, take_all, length-append, length-take}
use Rattle.std.proofs.lemmas.List.Elements.{All-nil, All-append, All-take}
use Rattle.std.proofs.lemmas.Option.{same_Some, none-some}
use Rattle.std.proofs.lemmas.Bool.Decides.{nat_tests}
use Rattle.plain_data.specs.State.{State, Agrees, overlay}
use Rattle.record_store.specs.Meaning.{Meaning}
use Rattle.record_store.specs.States.{EachState}
use Rattle.record_store.specs.Walks.{OnlyReads}
use Rattle.record_store.proofs.States.{each_behind, each_grown}
use Rattle.ordered_index.specs.declared.key.Key.{Key}
use Rattle.ordered_index.specs.declared.node.Kind.TheVariants.{Leaf}
use Rattle.ordered_index.specs.declared.walk.Stored.{Stored}
use Rattle.ordered_index.specs.Keys.{is_before, Before, InStore}
use Rattle.ordered_index.specs.Node.{Content, Holds, IsSound}
use Rattle.ordered_index.specs.Standing.{content_at}
use Rattle.ordered_index.specs.Tree.{IsAt, row_entries}
use Rattle.ordered_index.specs.Walk.{DescentReaches, node_of}
use Rattle.ordered_index.specs.Scan.{is_between, between, ListsNothing, Appends, IsNext, Passes, HasBehind, NeedsNoMore, Scans, ScanTears, IsLeafBehind, IsNoLeaf, keys_behind}
use Rattle.ordered_index.specs.Scan.NeedsNoMore.{key_behind, enough}
use Rattle.ordered_index.specs.Scan.Scans.{along}
use Rattle.ordered_index.proofs.Rows.{row_entries-append, holds_same}
use Rattle.ordered_index.proofs.Scanning.{passes_first, passes_more}
use Rattle.ordered_index.proofs.Between.{between-append, between-none, between_stored, between_keys}

-- how far a scan has come once a leaf's entries were taken
pub record Listed (size root : ℕ) (lo hi : Key) (limit : ℕ) (state : State) (here : ℕ × Content) (old now : List (Key × ℕ)) (goes_on : Bool) : Type 0 where
  pub passed : List (ℕ × Content)
  pub passes : Passes size root lo state passed here
  pub taken : now ≡ old ++ take limit (between lo hi (row_entries (passed ++ here ∷ [])))
  pub ends : goes_on ≡ false → NeedsNoMore size lo hi limit state passed here

-- the list is full where it has so many more than before
full_few : (limit : ℕ) (old now xs : List (Key × ℕ)) → now ≡ old ++ take limit xs → length now ≡ length old + limit → limit ≤ length xs
full_few limit old now xs is full = omega (arith, full, ap length is, length-append old (take limit xs), length-take limit xs)

few_all : (limit : ℕ) (old now xs : List (Key × ℕ)) → now ≡ old ++ take limit xs → length now < length old + limit → length xs < limit
few_all limit old now xs is few = omega (arith, few, ap length is, length-append old (take limit xs), length-take limit xs)

ends_by : (size : ℕ) (lo hi : Key) (limit : ℕ) (state : State) (passed : List (ℕ × Content)) (here : ℕ × Content) (old now : List (Key × ℕ)) → now ≡ old ++ take limit (between lo hi (row_entries (passed ++ here ∷ []))) → HasBehind hi here.1.entries ⊎ (length now ≡ length old + limit) → NeedsNoMore size lo hi limit state passed here
ends_by size lo hi limit state passed here old now taken why = elim why as (λ _. NeedsNoMore size lo hi limit state passed here) [
  | inl behind ↦ key_behind behind
  | inr full ↦ enough (full_few limit old now (between lo hi (row_entries (passed ++ here ∷ []))) taken full)
]

pub listed_first : (size root : ℕ) (lo hi : Key) (limit most : ℕ) (state : State) (here : ℕ × Content) (old now : List (Key × ℕ)) (goes_on : Bool) → most ≡ length old + limit → DescentReaches size root lo state here → now ≡ old ++ take (most - length old) (between lo hi here.1.entries) → (goes_on ≡ false → HasBehind hi here.1.entries ⊎ (length now ≡ most)) → Listed size root lo hi limit state here old now goes_on
listed_first size root lo hi limit most state here old now goes_on room reaches is ends =
    let so_many : most - length old ≡ limit = omega arith in
    let taken : now ≡ old ++ take limit (between lo hi (here.1.entries ++ [])) = is ∙ ap (λ n. old ++ take n (between lo hi here.1.entries)) so_many ∙ ap (λ es. old ++ take limit (between lo hi es)) (sym (append-nil here.1.entries)) in
    let E : ℕ → Type 0 = λ n. HasBehind hi here.1.entries ⊎ (length now ≡ n) in
    record {
      passed = [];
      passes = passes_first size root lo state here reaches;
      taken = taken;
      ends = λ no. ends_by size lo hi limit state [] here old now taken (subst E room (ends no));
    }

-- one leaf more
entries_push : (passed : List (ℕ × Content)) (here next : ℕ × Content) → row_entries ((passed ++ here ∷ []) ++ next ∷ []) ≡ row_entries (passed ++ here ∷ []) ++ next.1.entries
entries_push passed here next = row_entries-append (passed ++ here ∷ []) (next ∷ []) ∙ ap (λ es. row_entries (passed ++ here ∷ []) ++ es) (append-nil next.1.entries)

take_more : (limit most : ℕ) (old mid now xs ys : List (Key × ℕ)) → most ≡ length old + limit → mid ≡ old ++ take limit xs → length mid < most → now ≡ mid ++ take (most - length mid) ys → now ≡ old ++ take limit (xs ++ ys)
take_more limit most old mid now xs ys room was few is =
    let less : length xs < limit = few_all limit old mid xs was (omega arith) in
    let whole : mid ≡ old ++ xs = was ∙ ap (λ zs. old ++ zs) (take_all limit xs (omega arith)) in
    let left : most - length mid ≡ limit - length xs = omega (arith, ap length whole, length-append old xs) in
    let all : length xs + (limit - length xs) ≡ limit = omega arith in
    is
    ∙ ap (λ n. mid ++ take n ys) left
    ∙ ap (λ zs. zs ++ take (limit - length xs) ys) whole
    ∙ append_assoc old xs (take (limit - length xs) ys)
    ∙ ap (λ zs. old ++ zs) (sym (take-append-add xs ys (limit - length xs)))
    ∙ ap (λ n. old ++ take n (xs ++ ys)) all

pub listed_more : (size root : ℕ) (lo hi : Key) (limit most : ℕ) (state : State) (here next : ℕ × Content) (old mid now : List (Key × ℕ)) (goes_on : Bool) → most ≡ length old + limit → Listed size root lo hi limit state here old mid true → IsNext size state here next → length mid < most → now ≡ mid ++ take (most - length mid) (between lo hi next.1.entries) → (goes_on ≡ false → HasBehind hi next.1.entries ⊎ (length now ≡ most)) → Listed size root lo hi limit state next old now goes_on
listed_more size root lo hi limit most state here next old mid now goes_on room listed is_next few is ends =
    let so_far = row_entries (listed.passed ++ here ∷ []) in
    let taken : now ≡ old ++ take limit (between lo hi (row_entries ((listed.passed ++ here ∷ []) ++ next ∷ []))) =
    take_more limit most old mid now (between lo hi so_far) (between lo hi next.1.entries) room listed.taken few is
    ∙ ap (λ es. old ++ take limit es) (sym (between-append lo hi so_far next.1.entries))
    ∙ ap (λ es. old ++ take limit (between lo hi es)) (sym (entries_push listed.passed here next)) in
    let E : ℕ → Type 0 = λ n. HasBehind hi next.1.entries ⊎ (length now ≡ n) in
    record {
      passed = listed.passed ++ here ∷ [];
      passes = passes_more size root lo state listed.passed here next listed.passes is_next;
      taken = taken;
      ends = λ no. ends_by size lo hi limit state (listed.passed ++ here ∷ []) next old now taken (subst E room (ends no));
    }

-- the scan ends
pub scans_by : (size root : ℕ) (lo hi : Key) (limit : ℕ) (state : State) (here : ℕ × Content) (old now : List (Key × ℕ)) (goes_on : Bool) (listed : Listed size root lo hi limit state here old now goes_on) → NeedsNoMore size lo hi limit state listed.passed here → Scans size root lo hi limit old now state
scans_by size root lo hi limit state here old now goes_on listed done = along listed.passed here listed.passes done listed.taken

-- and whatever the state, the pairs are of records in the store
pub appends_none : (size limit : ℕ) (lo hi : Key) (old : List (Key × ℕ)) → Appends size limit lo hi old old
appends_none size limit lo hi old = record {
  pairs = [];
  joined = sym (append-nil old);
  few = omega arith;
  records = All-nil (λ (pair : Key × ℕ). pair.1 < size);
  keys = All-nil (λ (pair : Key × ℕ). is_between lo hi pair.0 ≡ true);
}

pub appends_more : (size limit most : ℕ) (lo hi : Key) (entries old mid now : List (Key × ℕ)) → most ≡ length old + limit → InStore size entries → Appends size limit lo hi old mid → now ≡ mid ++ take (most - length mid) (between lo hi entries) → Appends size limit lo hi old now
appends_more size limit most lo hi entries old mid now room stored a is =
    let more = take (most - length mid) (between lo hi entries) in
    record {
      pairs = a.pairs ++ more;
      joined = is ∙ ap (λ zs. zs ++ more) a.joined ∙ append_assoc old a.pairs more;
      few = omega (arith, a.few, ap length a.joined, length-append old a.pairs, length-append a.pairs more, length-take (most - length mid) (between lo hi entries));
      records = All-append (λ (pair : Key × ℕ). pair.1 < size) a.pairs more a.records (All-take (λ (pair : Key × ℕ). pair.1 < size) (most - length mid) (between lo hi entries) (between_stored lo hi size entries stored));
      keys = All-append (λ (pair : Key × ℕ). is_between lo hi pair.0 ≡ true) a.pairs more a.keys (All-take (λ (pair : Key × ℕ). is_between lo hi pair.0 ≡ true) (most - length mid) (between lo hi entries) (between_keys lo hi entries));
    }

-- the next leaf that was read, over each state that agrees
pub each_next : (first before after : Meaning) (size next : ℕ) (here link : Stored) → OnlyReads first before → (content_at here.words).next ≡ Some next → IsLeafBehind size next (content_at here.words).low link → EachState before after (λ state. IsAt size state (link.at, content_at link.words)) → EachState first after (λ state. IsNext size state (node_of here) (node_of link))
each_next first before after size next here link earlier named leaf at = λ state agrees. record {
  named = named ∙ ap (λ r. Some r) (sym leaf.at);
  rises = leaf.rises;
  at = each_behind first before after (λ s. IsAt size s (link.at, content_at link.words)) earlier at state agrees;
  kind = leaf.kind;
}

-- a record that is no leaf behind
pub each_torn : (first before after : Meaning) (size root rid next : ℕ) (lo hi : Key) (limit : ℕ) (here : Stored) (old now : List (Key × ℕ)) (goes_on : Bool) → OnlyReads first before → OnlyReads before after → EachState first before (λ state. Listed size root lo hi limit state (node_of here) old now goes_on) → (content_at here.words).next ≡ Some next → rid ≡ next → EachState before after (λ state. IsNoLeaf size (content_at here.words).low state next) → EachState first after (ScanTears size root lo rid)
each_torn first before after size root rid next lo hi limit here old now goes_on earlier later listed named same unfit = λ state agrees.
    let so_far = each_grown first before after (λ s. Listed size root lo hi limit s (node_of here) old now goes_on) later listed state agrees in
    let none = each_behind first before after (λ s. IsNoLeaf size (content_at here.words).low s next) earlier unfit state agrees in
    let N : ℕ → Type 0 = λ r. IsNoLeaf size (content_at here.words).low (overlay first.writes state) r in
    inr (record { passed = so_far.passed; last = node_of here; passes = so_far.passes; named = named ∙ ap (λ r. Some r) (sym same); unfit = subst N (sym same) none })

pub each_ends : (first before after : Meaning) (size root : ℕ) (lo hi : Key) (limit : ℕ) (here : Stored) (old now : List (Key × ℕ)) (goes_on : Bool) → OnlyReads before after → EachState first before (λ state. Listed size root lo hi limit state (node_of here) old now goes_on) → ((state : State) (passed : List (ℕ × Content)) → Agrees state after.reads → NeedsNoMore size lo hi limit (overlay first.writes state) passed (node_of here)) → EachState first after (Scans size root lo hi limit old now)
each_ends first before after size root lo hi limit here old now goes_on later listed done = λ state agrees.
    let so_far = each_grown first before after (λ s. Listed size root lo hi limit s (node_of here) old now goes_on) later listed state agrees in
    scans_by size root lo hi limit (overlay first.writes state) (node_of here) old now goes_on so_far (done state so_far.passed agrees)

-- the fences rise, so a scan ends
pub nearer : (a b : Key) → Before a b → a.high < 2 ^ 64 → a.low < 2 ^ 64 → b.high < 2 ^ 64 → b.low < 2 ^ 64 → keys_behind b < keys_behind a
unfolding is_before
nearer a b before ah al bh bl = grind (arith, nat_tests)

-- a record that is no leaf with a fence behind this one
pub no_leaf_absent : (size rid : ℕ) (fence : Key) (state : State) → state rid ≡ None → IsNoLeaf size fence state rid
no_leaf_absent size rid fence state absent = λ node kind rises at. none-some at.words (sym absent ∙ at.here)

pub no_leaf_unfit : (size rid : ℕ) (fence : Key) (state : State) (words : List ℕ) → state rid ≡ Some words → ((node : Content) → Holds words node → IsSound size node → ⊥) → IsNoLeaf size fence state rid
no_leaf_unfit size rid fence state words here unfit = λ node kind rises at.
    let same : at.words ≡ words = same_Some at.words words (sym at.here ∙ here) in
    let P : List ℕ → Type 0 = λ ws. Holds ws node in
    unfit node (subst P same at.holds) at.sound

pub no_leaf_other : (size rid : ℕ) (fence : Key) (state : State) (words : List ℕ) (found : Content) → state rid ≡ Some words → Holds words found → (found.kind ≡ Leaf → Before fence found.low → ⊥) → IsNoLeaf size fence state rid
no_leaf_other size rid fence state words found here holds other = λ node kind rises at.
    let same : at.words ≡ words = same_Some at.words words (sym at.here ∙ here) in
    let P : List ℕ → Type 0 = λ ws. Holds ws node in
    let is : node ≡ found = holds_same words node found (subst P same at.holds) holds in
    let B : Content → Type 0 = λ n. Before fence n.low in
    other (ap (λ (n : Content). n.kind) (sym is) ∙ kind) (subst B is rises)

-- nothing is listed where the arguments say so
pub lists_none : (lo hi : Key) (limit : ℕ) (old : List (Key × ℕ)) (xs : List (Key × ℕ)) → ListsNothing lo hi limit → old ≡ old ++ take limit (between lo hi xs)
lists_none lo hi limit old xs none =
    let nothing : take limit (between lo hi xs) ≡ [] = elim none as (λ _. take limit (between lo hi xs) ≡ []) [
      | inl zero ↦ ap (λ n. take n (between lo hi xs)) zero
      | inr less ↦ ap (take limit) (between-none lo hi xs less) ∙ take_all limit [] (omega arith)
    ] in
    sym (ap (λ ys. old ++ ys) nothing ∙ append-nil old)
