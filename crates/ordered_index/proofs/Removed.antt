-- The tree once an entry is removed.
use Rattle.std.proofs.Common.{◌≡◌, ◌≢◌, ◌⊎◌, ℕ, ◌<◌, ◌≤◌, suc, List, [], ◌∷◌, ◌++◌, length, get_or, take, drop, None, Some, refl, sym, ap, ◌∙◌, arith, cond, subst, inl, inr}
use Rattle.std.specs.Prelude.{is_some, remove, true, false, MatchOption}
use Rattle.std.proofs.lemmas.List.{length-append, take-append-drop}
use Rattle.std.proofs.Math.Seq.{drop-cons}
use Rattle.plain_data.specs.State.{State, overlay}
use Rattle.record_store.specs.Meaning.{Meaning, after_write}
use Rattle.record_store.specs.Walks.{OnlyReads}
use Rattle.record_store.proofs.Agreement.{written_after, given_same, writes_same}
use Rattle.ordered_index.specs.declared.key.Key.{Key}
use Rattle.ordered_index.specs.declared.node.Kind.{Kind}
use Rattle.ordered_index.specs.declared.node.Kind.TheVariants.{Leaf}
use Rattle.ordered_index.specs.Keys.{is_same, From, Rising, entry_at, first_key}
use Rattle.ordered_index.specs.Node.{Content, IsSound, Begins, least, tree_node_words}
use Rattle.ordered_index.specs.Tree.{IsAt, Descends, In, IsTree, EachTree, UpTo, row_names, row_entries, record_of_key, tree_records}
use Rattle.record_store.specs.Links.{records_of}
use Rattle.record_store.specs.Spots.{IsMoved}
use Rattle.ordered_index.specs.Changes.{RemovesEntry}
use Rattle.record_store.specs.States.{EachState}
use Rattle.ordered_index.specs.Walk.{DescentReaches, HasKeyAt}
use Rattle.ordered_index.proofs.Edits.{entry_at-take, below_less, from_less, rising_less, store_less}
use Rattle.ordered_index.proofs.Rows.{leaf_inner, row_names-append}
use Rattle.ordered_index.proofs.Trees.{leaf_home, home_is, leaves_stand, tree_descends, found_in, not_in_empty}
use Rattle.ordered_index.proofs.Entries.{entry_at-place}
use Rattle.ordered_index.proofs.Paths.{path_present}
use Rattle.ordered_index.proofs.Leaves.{leaves_rising, follow_front, follow_right, row_split, row_length}
use Rattle.ordered_index.proofs.Grown.{Changed, leaf_edits, in_left, in_or_not, descends_present}
use Rattle.ordered_index.proofs.Written.{written_here, written_others, at_written}

-- records that grew are moved
pub moved_by : (size fixed root : ℕ) (state state' : State) (above above' : List (Key × ℕ)) (levels : List (List (ℕ × Content))) (leaves : List (ℕ × Content)) (levels' : List (List (ℕ × Content))) (leaves' : List (ℕ × Content)) → Changed size fixed state state' above' levels leaves levels' leaves' → IsMoved fixed root (λ rid. In rid (tree_records levels leaves)) (λ rid. In rid (tree_records levels' leaves')) state state'
moved_by size fixed root state state' above above' levels leaves levels' leaves' changed = record {
  kept = λ rid there. inl (changed.grown.kept rid there);
  anew = λ rid there. elim (changed.grown.anew rid there) as (λ _. In rid (tree_records levels leaves) ⊎ ((state rid ≡ None) × ((rid ≡ root) ⊎ (fixed ≤ rid)))) [ inl old ↦ inl old | inr new ↦ inr (new.0, inr new.1) ];
  present = λ rid there. descends_present size state' above' levels' leaves' rid changed.descends there;
  outside = λ rid out never. changed.grown.outside rid out;
  known = λ rid. in_or_not rid (tree_records levels' leaves');
  known_before = λ rid. in_or_not rid (tree_records levels leaves);
}

-- a present root makes a tree of levels
pub tree_of : (size root : ℕ) (state : State) (levels : List (List (ℕ × Content))) (leaves : List (ℕ × Content)) (words : List ℕ) → state root ≡ Some words → Descends size state ((first_key, root) ∷ []) levels leaves → MatchOption (state root) ((levels ≡ []) × (leaves ≡ [])) (λ _. Descends size state ((first_key, root) ∷ []) levels leaves)
tree_of size root state levels leaves words present descends = rw present descends

first_of : List (Key × ℕ) → ℕ
first_of [] = 0
first_of (e ∷ es) = e.1

same_record : (x : ℕ × Content) (row : List (ℕ × Content)) (low : Key) (root : ℕ) (more : List (Key × ℕ)) → row_names (x ∷ row) ≡ (low, root) ∷ more → x.0 ≡ root
unfolding first_of
same_record x row low root more names = ap first_of names

named_in : (root : ℕ) (low : Key) (row : List (ℕ × Content)) (more : List (Key × ℕ)) → row_names row ≡ (low, root) ∷ more → In root (records_of row)
named_in root low [] more names = cc
named_in root low (x ∷ row) more names = inl (same_record x row low root more names)

-- the root of a tree is one of its records
pub root_in : (size root : ℕ) (state : State) (levels : List (List (ℕ × Content))) (leaves : List (ℕ × Content)) → Descends size state ((first_key, root) ∷ []) levels leaves → In root (tree_records levels leaves)
root_in size root state [] leaves descends = named_in root first_key leaves [] descends.0
root_in size root state (level ∷ levels) leaves descends = in_left root (records_of level) (tree_records levels leaves) (named_in root first_key level [] descends.0)

-- a list with one entry taken out
pub parted : (entries : List (Key × ℕ)) (index : ℕ) (d : Key × ℕ) → index < length entries → entries ≡ take index entries ++ get_or entries index d ∷ drop (suc index) entries
parted entries index d within = sym (take-append-drop index entries) ∙ ap (λ es. take index entries ++ es) (drop-cons entries index d within)

abbrev IsTakenFrom : ℕ → ℕ → ℕ → Key → State → State → List (List (ℕ × Content)) → List (ℕ × Content) → List (ℕ × Content) → Type 0
IsTakenFrom size fixed root key state state' levels leaves leaves' =
    IsTree size root state' levels leaves' × ((other : Key) → record_of_key leaves' other ≡ cond (is_same other key) None (record_of_key leaves other)) × IsMoved fixed root (λ rid. In rid (tree_records levels leaves)) (λ rid. In rid (tree_records levels leaves')) state state' × (length leaves' ≡ length leaves)

up_less : (after : List (ℕ × Content)) (xs : List (Key × ℕ)) (e : Key × ℕ) (ys : List (Key × ℕ)) → UpTo after (xs ++ e ∷ ys) → UpTo after (xs ++ ys)
up_less [] xs e ys up = tt
up_less (x ∷ after) xs e ys up = below_less x.1.low xs e ys up

taken_at : (size fixed root : ℕ) (key : Key) (state state' : State) (levels : List (List (ℕ × Content))) (before after : List (ℕ × Content)) (rid old : ℕ) (leaf : Content) (xs ys : List (Key × ℕ)) (words : List ℕ) → IsTree size root state levels (before ++ (rid, leaf) ∷ after) → Descends size state ((first_key, root) ∷ []) levels (before ++ (rid, leaf) ∷ after) → IsAt size state (rid, leaf) → leaf.kind ≡ Leaf → state root ≡ Some words → leaf.entries ≡ xs ++ (key, old) ∷ ys → state' rid ≡ Some (tree_node_words (record leaf { entries = xs ++ ys })) → ((other : ℕ) → other ≢ rid → state' other ≡ state other) → IsTakenFrom size fixed root key state state' levels (before ++ (rid, leaf) ∷ after) (before ++ (rid, record leaf { entries = xs ++ ys }) ∷ after)
taken_at size fixed root key state state' levels before after rid old leaf xs ys words tree descends at kind present is here others =
    let leaf' : Content = record leaf { entries = xs ++ ys } in
    let e : Key × ℕ = (key, old) in
    let rising : Rising (xs ++ e ∷ ys) = rw is at at.sound.rising in
    let records = rw is at at.sound.records in
    let few : length leaf.entries ≤ 9 = at.sound.few in
    let short : length (xs ++ ys) ≤ 9 = omega (arith, few, ap length is, length-append xs (e ∷ ys), length-append xs ys) in
    let enough : 0 ≤ length (xs ++ ys) = omega arith in
    let P : Kind → Type 0 = λ k. (least k ≤ length (xs ++ ys)) × Begins k leaf.low (xs ++ ys) in
    let both : P leaf.kind = subst P (sym kind) (enough, tt) in
    let sound' : IsSound size leaf' = record { few = short; enough = both.0; rising = rising_less xs e ys rising; records = store_less size xs e ys records; first = both.1; next = at.sound.next } in
    let at' : IsAt size state' (rid, leaf') = at_written size state' rid leaf' here sound' (λ inner. absurd (leaf_inner leaf.kind kind inner)) in
    let changed = leaf_edits size fixed state state' ((first_key, root) ∷ []) levels before rid leaf leaf' after descends tree.once others at' kind refl in
    let was = follow_right before (rid, leaf) after tree.follow in
    let up : UpTo after (xs ++ e ∷ ys) = rw is at was.2 in
    let from : From leaf.low (xs ++ e ∷ ys) = rw is at was.1 in
    let follow = follow_front before (rid, leaf) (rid, leaf') after after refl refl tree.follow (was.0, from_less leaf.low xs e ys from, up_less after xs e ys up, was.3) in
    let names : row_names (before ++ (rid, leaf') ∷ after) ≡ row_names (before ++ (rid, leaf) ∷ after) = row_names-append before ((rid, leaf') ∷ after) ∙ sym (row_names-append before ((rid, leaf) ∷ after)) in
    let root' = descends_present size state' ((first_key, root) ∷ []) levels (before ++ (rid, leaf') ∷ after) root changed.descends (root_in size root state' levels (before ++ (rid, leaf') ∷ after) changed.descends) in
    let front = row_entries before ++ xs in
    let back = ys ++ row_entries after in
    let all : row_entries (before ++ (rid, leaf) ∷ after) ≡ front ++ e ∷ back = row_split before rid leaf after xs (e ∷ ys) is in
    let all' : row_entries (before ++ (rid, leaf') ∷ after) ≡ front ++ back = row_split before rid leaf' after xs ys refl in
    let whole : Rising (front ++ e ∷ back) = rw all at (leaves_rising size state (before ++ (rid, leaf) ∷ after) (leaves_stand size state ((first_key, root) ∷ []) levels (before ++ (rid, leaf) ∷ after) descends) tree.rising tree.follow) in (
      record {
        descends = tree_of size root state' levels (before ++ (rid, leaf') ∷ after) root'.0 root'.1 changed.descends;
        rising = rw names tree.rising;
        follow = follow;
        once = changed.once;
        deep = tree.deep;
      },
      λ other. ap (λ es. entry_at es other) all' ∙ entry_at-take front e back other whole ∙ ap (λ es. cond (is_same other key) None (entry_at es other)) (sym all),
      moved_by size fixed root state state' ((first_key, root) ∷ []) ((first_key, root) ∷ []) levels (before ++ (rid, leaf) ∷ after) levels (before ++ (rid, leaf') ∷ after) changed,
      row_length before (rid, leaf) (rid, leaf') after,
    )

-- the leaf of a tree loses an entry
pub taken_out : (size fixed root : ℕ) (key : Key) (state state' : State) (levels : List (List (ℕ × Content))) (leaves : List (ℕ × Content)) (rid old : ℕ) (leaf : Content) (xs ys : List (Key × ℕ)) → IsTree size root state levels leaves → DescentReaches size root key state (rid, leaf) → leaf.entries ≡ xs ++ (key, old) ∷ ys → state' rid ≡ Some (tree_node_words (record leaf { entries = xs ++ ys })) → ((other : ℕ) → other ≢ rid → state' other ≡ state other) → (leaves' : List (ℕ × Content)) × IsTakenFrom size fixed root key state state' levels leaves leaves'
taken_out size fixed root key state state' levels leaves rid old leaf xs ys tree reaches is here others =
    let present = path_present size state key (first_key, root) reaches.nodes (rid, leaf) reaches.path reaches.at in
    let descends = tree_descends size root state levels leaves present.0 tree present.1 in
    let home = leaf_home size root key state levels leaves (rid, leaf) tree descends reaches in
    let same = home_is size state Leaf leaves key (rid, leaf) home (leaves_stand size state ((first_key, root) ∷ []) levels leaves descends) reaches.at in
    let joined : leaves ≡ home.before ++ (rid, leaf) ∷ home.after = home.joined ∙ ap (λ n. home.before ++ n ∷ home.after) same.0 in
    let leaves' : List (ℕ × Content) = home.before ++ (rid, record leaf { entries = xs ++ ys }) ∷ home.after in
    let T : List (ℕ × Content) → Type 0 = λ ls. IsTree size root state levels ls in
    let D : List (ℕ × Content) → Type 0 = λ ls. Descends size state ((first_key, root) ∷ []) levels ls in
    let R : List (ℕ × Content) → Type 0 = λ ls. IsTakenFrom size fixed root key state state' levels ls leaves' in
    (leaves', subst R (sym joined) (taken_at size fixed root key state state' levels home.before home.after rid old leaf xs ys present.0 (subst T joined tree) (subst D joined descends) reaches.at same.1 present.1 is here others))

-- the contract, over each state
taken_is : (entries : List (Key × ℕ)) (index : ℕ) (key : Key) → index < length entries → (get_or entries index (first_key, 0)).0 ≡ key → entries ≡ take index entries ++ (key, (get_or entries index (first_key, 0)).1) ∷ drop (suc index) entries
taken_is entries index key within here = parted entries index (first_key, 0) within ∙ ap (λ k. take index entries ++ (k, (get_or entries index (first_key, 0)).1) ∷ drop (suc index) entries) here

pub removes_entry : (size root rid index : ℕ) (key : Key) (before between after : Meaning) (leaf : Content) → size ≡ before.size → OnlyReads before between → EachState before between (λ state. DescentReaches size root key state (rid, leaf)) → Rising leaf.entries → HasKeyAt leaf.entries key index → after ≡ after_write between rid (Some (tree_node_words (record leaf { entries = remove leaf.entries index }))) → RemovesEntry root key true before after
removes_entry size root rid index key before between after leaf same only reaches rising place wrote =
    let one = written_after before between after rid _ only wrote in
    let leaf' : Content = record leaf { entries = remove leaf.entries index } in
    let is = taken_is leaf.entries index key place.within (place.here (first_key, 0)) in
    let each : EachState before after (λ state. DescentReaches before.size root key state (rid, leaf)) = λ state agrees. rw same at (reaches state (rw one.reads at agrees)) in
    record {
      answer = λ state levels leaves agrees tree. sym (ap is_some (found_in before.size root key (overlay before.writes state) levels leaves (rid, leaf) tree (each state agrees) ∙ entry_at-place leaf.entries index (first_key, 0) key rising place.within (place.here (first_key, 0))));
      given = one.given;
      removed = λ yes state levels leaves agrees tree.
          let out = taken_out before.size before.fixed root key (overlay before.writes state) (overlay after.writes state) levels leaves rid (get_or leaf.entries index (first_key, 0)).1 leaf (take index leaf.entries) (drop (suc index) leaf.entries) tree (each state agrees) is
          (ap (λ w. overlay w state rid) one.writes ∙ written_here before.writes state rid (Some (tree_node_words leaf')))
          (λ other differs. ap (λ w. overlay w state other) one.writes ∙ written_others before.writes state rid (Some (tree_node_words leaf')) other differs) in
          (out.0, record { lawful = out.1.0; at_key = out.1.1; moved = out.1.2; leaves_stay = out.1.3 });
      unchanged = λ no. cc;
    }

pub removes_nothing : (root : ℕ) (key : Key) (before after : Meaning) → OnlyReads before after → EachTree root before after (λ _ _ leaves. record_of_key leaves key ≡ None) → RemovesEntry root key false before after
removes_nothing root key before after only absent = record {
  answer = λ state levels leaves agrees tree. sym (ap is_some (absent state levels leaves agrees tree));
  given = given_same before after only;
  removed = λ yes. cc;
  unchanged = λ no. writes_same before after only;
}

-- a key that the leaf for it has not, or of an absent root
pub each_absent : (size root rid : ℕ) (key : Key) (before after : Meaning) (leaf : Content) → size ≡ before.size → EachState before after (λ state. DescentReaches size root key state (rid, leaf)) → entry_at leaf.entries key ≡ None → EachTree root before after (λ _ _ leaves. record_of_key leaves key ≡ None)
each_absent size root rid key before after leaf same reaches absent = λ state levels leaves agrees tree. found_in before.size root key (overlay before.writes state) levels leaves (rid, leaf) tree (rw same at (reaches state agrees)) ∙ absent

pub each_empty : (size root : ℕ) (key : Key) (before after : Meaning) → size ≡ before.size → EachState before after (λ state. state root ≡ None) → EachTree root before after (λ _ _ leaves. record_of_key leaves key ≡ None)
each_empty size root key before after same absent = λ state levels leaves agrees tree. not_in_empty before.size root key (overlay before.writes state) levels leaves tree (absent state agrees)
