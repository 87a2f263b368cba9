-- Leaves that a scan passes in the row of leaves of a lawful tree.
use Rattle.std.proofs.Common.{◌≡◌, ◌⊎◌, ℕ, ◌≤◌, List, [], ◌∷◌, ◌++◌, length, take, Option, None, Some, refl, sym, ap, ◌∙◌, arith, subst, inl, inr}
use Rattle.std.proofs.lemmas.List.{append_assoc, append-nil, take_all, take-append-le}
use Rattle.std.proofs.lemmas.Option.{same_Some, none-some}
use Rattle.plain_data.specs.State.{State, overlay}
use Rattle.record_store.specs.Meaning.{Meaning}
use Rattle.ordered_index.specs.declared.key.Key.{Key}
use Rattle.ordered_index.specs.declared.node.Kind.TheVariants.{Leaf}
use Rattle.ordered_index.specs.Keys.{Before, NotAfter, Above, Below, Rising, first_key}
use Rattle.ordered_index.specs.Node.{Content}
use Rattle.ordered_index.specs.Tree.{IsAt, Stand, IsTree, Follow, UpTo, first_record, named, row_names, row_entries}
use Rattle.record_store.specs.States.{EachState}
use Rattle.ordered_index.specs.Walk.{DescentReaches}
use Rattle.ordered_index.specs.Scan.{between, IsNext, LeavesLead, Passes, HasBehind, NeedsNoMore, Scans, TearsAlong, ScanTears, IsTornScan}
use Rattle.ordered_index.specs.Scan.NeedsNoMore.{no_leaf, key_behind, leaf_behind, enough}
use Rattle.ordered_index.specs.Scan.Scans.{nowhere, along}
use Rattle.ordered_index.proofs.Order.{before_trans, before_not_after}
use Rattle.ordered_index.proofs.Entries.{above_weaker, below_weaker}
use Rattle.ordered_index.proofs.Rows.{Home, node_same, stand_right, row_entries-append, leaves_from, above_row}
use Rattle.ordered_index.proofs.Leaves.{follow_right, leaves_rising}
use Rattle.ordered_index.proofs.Paths.{path_present}
use Rattle.ordered_index.proofs.Trees.{leaves_stand, home_is, leaf_home, row_below, tree_descends, tree_empty, torn_no_tree}
use Rattle.ordered_index.proofs.Between.{between-append, between-above, between-below, between_rising, take_rising}

leads_push : (size : ℕ) (state : State) (from : ℕ × Content) (passed : List (ℕ × Content)) (here next : ℕ × Content) → LeavesLead size state from passed here → IsNext size state here next → LeavesLead size state from (passed ++ here ∷ []) next
leads_push size state from [] here next leads is = (next, leads, is, refl)
leads_push size state from (x ∷ passed) here next leads is = (leads.0, leads.1, leads.2, leads_push size state leads.0 passed here next leads.3 is)

pub passes_first : (size root : ℕ) (key : Key) (state : State) (leaf : ℕ × Content) → DescentReaches size root key state leaf → Passes size root key state [] leaf
passes_first size root key state leaf reaches = record { first = leaf; reaches = reaches; leads = refl }

pub passes_more : (size root : ℕ) (key : Key) (state : State) (passed : List (ℕ × Content)) (here next : ℕ × Content) → Passes size root key state passed here → IsNext size state here next → Passes size root key state (passed ++ here ∷ []) next
passes_more size root key state passed here next passes is = record {
  first = passes.first;
  reaches = passes.reaches;
  leads = leads_push size state passes.first passed here next passes.leads is;
}

-- leaves that lead from one to another are a part of the row of leaves
record RowPart (size : ℕ) (state : State) (row passed : List (ℕ × Content)) (to : ℕ × Content) : Type 0 where
  after : List (ℕ × Content)
  joined : row ≡ passed ++ to ∷ after
  stand : Stand size state Leaf (to ∷ after)
  rising : Rising (row_names (to ∷ after))
  follow : Follow (to ∷ after)

part_here : (size : ℕ) (state : State) (from to : ℕ × Content) (later : List (ℕ × Content)) → Stand size state Leaf (from ∷ later) → Rising (row_names (from ∷ later)) → Follow (from ∷ later) → from ≡ to → RowPart size state (from ∷ later) [] to
part_here size state from to later stand rising follow same =
    let P : ℕ × Content → Type 0 = λ n. RowPart size state (from ∷ later) [] n in
    subst P same (record { after = later; joined = refl; stand = stand; rising = rising; follow = follow })

leads_row : (size : ℕ) (state : State) (from : ℕ × Content) (passed : List (ℕ × Content)) (to : ℕ × Content) (later : List (ℕ × Content)) → Stand size state Leaf (from ∷ later) → Rising (row_names (from ∷ later)) → Follow (from ∷ later) → LeavesLead size state from passed to → RowPart size state (from ∷ later) passed to
leads_row size state from [] to later stand rising follow leads = part_here size state from to later stand rising follow leads
leads_row size state from (x ∷ passed) to [] stand rising follow leads =
    absurd (none-some leads.0.0 (sym follow.0 ∙ ap (λ (n : ℕ × Content). n.1.next) leads.1 ∙ leads.2.named))
leads_row size state from (x ∷ passed) to (y ∷ later) stand rising follow leads =
    let named_one : y.0 ≡ leads.0.0 = same_Some y.0 leads.0.0 (sym follow.0 ∙ ap (λ (n : ℕ × Content). n.1.next) leads.1 ∙ leads.2.named) in
    let same : y ≡ leads.0 = node_same size state y leads.0 named_one stand.2.0 leads.2.at in
    let P : ℕ × Content → Type 0 = λ n. LeavesLead size state n passed to in
    let more = leads_row size state y passed to later stand.2 rising.1 follow.3 (subst P (sym same) leads.3) in
    record {
      after = more.after;
      joined = ap (λ n. n ∷ y ∷ later) leads.1 ∙ ap (λ ns. x ∷ ns) more.joined;
      stand = more.stand;
      rising = more.rising;
      follow = more.follow;
    }

-- where a scan is in the row of leaves of a tree
pub record InLeaves (size : ℕ) (state : State) (leaves : List (ℕ × Content)) (key : Key) (passed : List (ℕ × Content)) (last : ℕ × Content) : Type 0 where
  pub before : List (ℕ × Content)
  pub after : List (ℕ × Content)
  pub joined : leaves ≡ before ++ (passed ++ last ∷ after)
  pub below : Below key (row_entries before)
  pub stand : Stand size state Leaf (last ∷ after)
  pub rising : Rising (row_names (last ∷ after))
  pub follow : Follow (last ∷ after)

names_right : (xs ys : List (ℕ × Content)) → Rising (row_names (xs ++ ys)) → Rising (row_names ys)
names_right [] ys rising = rising
names_right (x ∷ xs) ys rising = names_right xs ys rising.1

in_leaves : (size : ℕ) (key : Key) (state : State) (leaves : List (ℕ × Content)) (first : ℕ × Content) (passed : List (ℕ × Content)) (last : ℕ × Content) → Stand size state Leaf leaves → Rising (row_names leaves) → Follow leaves → IsAt size state first → Home leaves key (named first) → LeavesLead size state first passed last → InLeaves size state leaves key passed last
in_leaves size key state leaves first passed last stand rising follow at home leads =
    let is = home_is size state Leaf leaves key first home stand at in
    let joined : leaves ≡ home.before ++ first ∷ home.after = home.joined ∙ ap (λ n. home.before ++ n ∷ home.after) is.0 in
    let S : List (ℕ × Content) → Type 0 = Stand size state Leaf in
    let R : List (ℕ × Content) → Type 0 = λ ls. Rising (row_names ls) in
    let F : List (ℕ × Content) → Type 0 = Follow in
    let K : ℕ × Content → Type 0 = λ n. NotAfter n.1.low key in
    let all_rising = subst R joined rising in
    let all_follow = subst F joined follow in
    let part = leads_row size state first passed last home.after (stand_right size state Leaf home.before (first ∷ home.after) (subst S joined stand)) (names_right home.before (first ∷ home.after) all_rising) (follow_right home.before first home.after all_follow) leads in
    record {
      before = home.before;
      after = part.after;
      joined = joined ∙ ap (λ ls. home.before ++ ls) part.joined;
      below = below_weaker first.1.low key (row_entries home.before) (subst K is.0 home.low) (row_below home.before first home.after all_rising all_follow);
      stand = part.stand;
      rising = part.rising;
      follow = part.follow;
    }

pub passes_leaves : (size root : ℕ) (key : Key) (state : State) (levels : List (List (ℕ × Content))) (leaves passed : List (ℕ × Content)) (last : ℕ × Content) → IsTree size root state levels leaves → Passes size root key state passed last → InLeaves size state leaves key passed last
passes_leaves size root key state levels leaves passed last tree passes =
    let reaches = passes.reaches in
    let present = path_present size state key (first_key, root) reaches.nodes passes.first reaches.path reaches.at in
    let descends = tree_descends size root state levels leaves present.0 tree present.1 in
    in_leaves size key state leaves passes.first passed last (leaves_stand size state ((first_key, root) ∷ []) levels leaves descends) tree.rising tree.follow reaches.at (leaf_home size root key state levels leaves passes.first tree descends reaches) passes.leads

-- no leaf behind it has a pair to list
behind_below : (hi key : Key) (xs : List (Key × ℕ)) → HasBehind hi xs → Below key xs → Before hi key
behind_below hi key [] has below = absurd has
behind_below hi key (x ∷ xs) has below = elim has as (λ _. Before hi key) [ inl here ↦ before_trans hi x.0 key here below.0 | inr later ↦ behind_below hi key xs later below.1 ]

above_later : (hi : Key) (after : List (ℕ × Content)) → Rising (row_names after) → Follow after → (first : (next : ℕ × Content) (rest : List (ℕ × Content)) → after ≡ next ∷ rest → Before hi next.1.low) → Above hi (row_entries after)
above_later hi [] rising follow first = tt
above_later hi (x ∷ after) rising follow first =
    let less = first x after refl in
    above_row hi (x ∷ after) (leaves_from (x ∷ after) follow) (less, above_weaker hi x.1.low (row_names after) (before_not_after hi x.1.low less) rising.0)

up_to_first : (hi : Key) (xs : List (Key × ℕ)) (after : List (ℕ × Content)) → HasBehind hi xs → UpTo after xs → (next : ℕ × Content) (rest : List (ℕ × Content)) → after ≡ next ∷ rest → Before hi next.1.low
up_to_first hi xs after has up next rest is = let P : List (ℕ × Content) → Type 0 = λ ls. UpTo ls xs in behind_below hi next.1.low xs has (subst P is up)

next_first : (size : ℕ) (hi : Key) (state : State) (last next : ℕ × Content) (after : List (ℕ × Content)) → Stand size state Leaf after → last.1.next ≡ first_record after → IsNext size state last next → Before hi next.1.low → (x : ℕ × Content) (rest : List (ℕ × Content)) → after ≡ x ∷ rest → Before hi x.1.low
next_first size hi state last next after stand link is less x rest joined =
    let S : List (ℕ × Content) → Type 0 = Stand size state Leaf in
    let here = (subst S joined stand).0 in
    let named_one : x.0 ≡ next.0 = same_Some x.0 next.0 (sym (link ∙ ap first_record joined) ∙ is.named) in
    let same : x ≡ next = node_same size state x next named_one here is.at in
    let P : ℕ × Content → Type 0 = λ n. Before hi n.1.low in
    subst P (sym same) less

none_later : (size : ℕ) (lo hi : Key) (limit : ℕ) (state : State) (passed : List (ℕ × Content)) (last : ℕ × Content) (after : List (ℕ × Content)) → Stand size state Leaf (last ∷ after) → Rising (row_names (last ∷ after)) → Follow (last ∷ after) → NeedsNoMore size lo hi limit state passed last → (limit ≤ length (between lo hi (row_entries (passed ++ last ∷ [])))) ⊎ (between lo hi (row_entries after) ≡ [])
none_later size lo hi limit state passed last [] stand rising follow (no_leaf none) = inr refl
none_later size lo hi limit state passed last (x ∷ after) stand rising follow (no_leaf none) = absurd (none-some x.0 (sym none ∙ follow.0))
none_later size lo hi limit state passed last after stand rising follow (key_behind has) =
    inr (between-above lo hi (row_entries after) (above_later hi after rising.1 follow.3 (up_to_first hi last.1.entries after has follow.2)))
none_later size lo hi limit state passed last after stand rising follow (leaf_behind next is less) =
    inr (between-above lo hi (row_entries after) (above_later hi after rising.1 follow.3 (next_first size hi state last next after stand.2 follow.0 is less)))
none_later size lo hi limit state passed last after stand rising follow (enough few) = inl few

entries_up_to : (passed : List (ℕ × Content)) (last : ℕ × Content) (after : List (ℕ × Content)) → row_entries (passed ++ last ∷ after) ≡ row_entries (passed ++ last ∷ []) ++ row_entries after
entries_up_to passed last after = ap row_entries (sym (append_assoc passed (last ∷ []) after)) ∙ row_entries-append (passed ++ last ∷ []) after

take_front : (limit : ℕ) (xs ys : List (Key × ℕ)) → (limit ≤ length xs) ⊎ (ys ≡ []) → take limit (xs ++ ys) ≡ take limit xs
take_front limit xs ys why = elim why as (λ _. take limit (xs ++ ys) ≡ take limit xs) [
  | inl few ↦ take-append-le limit xs ys few
  | inr none ↦ ap (λ zs. take limit (xs ++ zs)) none ∙ ap (take limit) (append-nil xs)
]

pub lists_all : (size root : ℕ) (lo hi : Key) (limit : ℕ) (state : State) (levels : List (List (ℕ × Content))) (leaves passed : List (ℕ × Content)) (last : ℕ × Content) → IsTree size root state levels leaves → Passes size root lo state passed last → NeedsNoMore size lo hi limit state passed last → take limit (between lo hi (row_entries leaves)) ≡ take limit (between lo hi (row_entries (passed ++ last ∷ [])))
lists_all size root lo hi limit state levels leaves passed last tree passes done =
    let row = passes_leaves size root lo state levels leaves passed last tree passes in
    let mid = row_entries (passed ++ last ∷ []) in
    let entries : row_entries leaves ≡ row_entries row.before ++ (mid ++ row_entries row.after) =
    ap row_entries row.joined
    ∙ row_entries-append row.before (passed ++ last ∷ row.after)
    ∙ ap (λ es. row_entries row.before ++ es) (entries_up_to passed last row.after) in
    let listed : between lo hi (row_entries leaves) ≡ between lo hi mid ++ between lo hi (row_entries row.after) =
    ap (between lo hi) entries
    ∙ between-append lo hi (row_entries row.before) (mid ++ row_entries row.after)
    ∙ ap (λ es. es ++ between lo hi (mid ++ row_entries row.after)) (between-below lo hi (row_entries row.before) row.below)
    ∙ between-append lo hi mid (row_entries row.after) in
    ap (take limit) listed
    ∙ take_front limit (between lo hi mid) (between lo hi (row_entries row.after)) (none_later size lo hi limit state passed last row.after row.stand row.rising row.follow done)

-- so a scan lists the pairs of a lawful tree
pub scans_tree : (size root : ℕ) (lo hi : Key) (limit : ℕ) (old now : List (Key × ℕ)) (state : State) (levels : List (List (ℕ × Content))) (leaves : List (ℕ × Content)) → IsTree size root state levels leaves → Scans size root lo hi limit old now state → now ≡ old ++ take limit (between lo hi (row_entries leaves))
scans_tree size root lo hi limit old now state levels leaves tree (nowhere absent same) =
    same
    ∙ sym (append-nil old)
    ∙ ap (λ es. old ++ es) (sym (take_all limit [] (omega arith)))
    ∙ ap (λ ls. old ++ take limit (between lo hi (row_entries ls))) (sym (tree_empty size root state levels leaves tree absent).1)
scans_tree size root lo hi limit old now state levels leaves tree (along passed last passes done is) = is ∙ ap (λ es. old ++ es) (sym (lists_all size root lo hi limit state levels leaves passed last tree passes done))

empty_rising : (leaves : List (ℕ × Content)) → leaves ≡ [] → Rising (row_entries leaves)
empty_rising [] none = tt
empty_rising (x ∷ leaves) none = cc

tree_rises : (size root : ℕ) (state : State) (found : Option (List ℕ)) (levels : List (List (ℕ × Content))) (leaves : List (ℕ × Content)) → state root ≡ found → IsTree size root state levels leaves → Rising (row_entries leaves)
tree_rises size root state None levels leaves is tree = empty_rising leaves (tree_empty size root state levels leaves tree is).1
tree_rises size root state (Some words) levels leaves is tree =
    leaves_rising size state leaves (leaves_stand size state ((first_key, root) ∷ []) levels leaves (tree_descends size root state levels leaves words tree is)) tree.rising tree.follow

pub lists_rising : (size root : ℕ) (lo hi : Key) (limit : ℕ) (state : State) (levels : List (List (ℕ × Content))) (leaves : List (ℕ × Content)) → IsTree size root state levels leaves → Rising (take limit (between lo hi (row_entries leaves)))
lists_rising size root lo hi limit state levels leaves tree = take_rising limit (between lo hi (row_entries leaves)) (between_rising lo hi (row_entries leaves) (tree_rises size root state (state root) levels leaves refl tree))

-- a leaf of a lawful tree names no other record than a leaf behind it
after_tears : (size rid : ℕ) (state : State) (last : ℕ × Content) (after : List (ℕ × Content)) → Stand size state Leaf (last ∷ after) → Rising (row_names (last ∷ after)) → Follow (last ∷ after) → last.1.next ≡ Some rid → ((node : Content) → node.kind ≡ Leaf → Before last.1.low node.low → IsAt size state (rid, node) → ⊥) → ⊥
after_tears size rid state last [] stand rising follow named unfit = none-some rid (sym follow.0 ∙ named)
after_tears size rid state last (x ∷ after) stand rising follow named unfit =
    let same : x.0 ≡ rid = same_Some x.0 rid (sym follow.0 ∙ named) in
    let P : ℕ → Type 0 = λ r. IsAt size state (r, x.1) in
    unfit x.1 stand.2.1 rising.0.0 (subst P same stand.2.0)

along_no_tree : (size root rid : ℕ) (key : Key) (state : State) (levels : List (List (ℕ × Content))) (leaves : List (ℕ × Content)) → TearsAlong size root key state rid → IsTree size root state levels leaves → ⊥
along_no_tree size root rid key state levels leaves tears tree =
    let row = passes_leaves size root key state levels leaves tears.passed tears.last tree tears.passes in
    after_tears size rid state tears.last row.after row.stand row.rising row.follow tears.named tears.unfit

pub is_scan_torn : (root rid : ℕ) (key : Key) (before after : Meaning) → EachState before after (ScanTears before.size root key rid) → IsTornScan root key before after rid
is_scan_torn root rid key before after tears = record {
  tears = tears;
  none = λ state tree agrees is. elim (tears state agrees) as (λ _. ⊥) [
    | inl torn ↦ torn_no_tree before.size root rid key (overlay before.writes state) tree.0 tree.1 torn is
    | inr torn ↦ along_no_tree before.size root rid key (overlay before.writes state) tree.0 tree.1 torn is
  ];
}
