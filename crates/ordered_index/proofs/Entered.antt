-- A part of a tree once a node of its first row took an entry in.
use Rattle.std.proofs.Common.{◌≡◌, ℕ, ◌≤◌, suc, List, [], ◌∷◌, ◌++◌, length, cond, Some, refl, sym, ap, ◌∙◌, arith, subst, inl}
use Rattle.std.proofs.lemmas.List.{append_assoc, append-nil, length-append}
use Rattle.plain_data.specs.State.{State}
use Rattle.ordered_index.specs.declared.key.Key.{Key}
use Rattle.ordered_index.specs.declared.node.Kind.TheVariants.{Leaf, Inner}
use Rattle.ordered_index.specs.Keys.{is_same, NotAfter, Above, Below, Rising, entry_at}
use Rattle.ordered_index.specs.Node.{Content}
use Rattle.ordered_index.specs.Tree.{Descends, Follow, Apart, row_names, row_entries, tree_records}
use Rattle.record_store.specs.Links.{records_of}
use Rattle.ordered_index.specs.Enter.{Part, Grown, PartWith}
use Rattle.ordered_index.proofs.Entries.{above_append, below_append, below_weaker}
use Rattle.ordered_index.proofs.Edits.{entry_at-put, entry_at-absent}
use Rattle.ordered_index.proofs.Rows.{leaves_from, each_from_right, above_row, row_entries-append, row_names-append}
use Rattle.ordered_index.proofs.Trees.{row_below}
use Rattle.ordered_index.proofs.Leaves.{row_around}
use Rattle.ordered_index.proofs.Grown.{descends_frame, descends_present}
use Rattle.ordered_index.proofs.Growing.{Writes, row_grows}

-- names of three parts
pub names_three : (before mid after : List (ℕ × Content)) → row_names (before ++ (mid ++ after)) ≡ row_names before ++ (row_names mid ++ row_names after)
names_three before mid after = row_names-append before (mid ++ after) ∙ ap (λ ns. row_names before ++ ns) (row_names-append mid after)

pub entries_three : (before mid after : List (ℕ × Content)) → row_entries (before ++ (mid ++ after)) ≡ row_entries before ++ (row_entries mid ++ row_entries after)
entries_three before mid after = row_entries-append before (mid ++ after) ∙ ap (λ ns. row_entries before ++ ns) (row_entries-append mid after)

-- a node of a level of inner nodes took in what came of the part below
pub inner_enters : (size fixed : ℕ) (key : Key) (rid : ℕ) (state between state' : State) (above : List (Key × ℕ)) (before : List (ℕ × Content)) (at : ℕ) (node : Content) (mid after : List (ℕ × Content)) (news : List ℕ) (levels : List (List (ℕ × Content))) (leaves : List (ℕ × Content)) (levels' : List (List (ℕ × Content))) (leaves' : List (ℕ × Content)) → Part size state above ((before ++ (at, node) ∷ after) ∷ levels) leaves → PartWith size fixed key rid state between (row_entries before ++ (row_entries mid ++ row_entries after)) levels leaves levels' leaves' → Writes size fixed between state' Inner at mid news → PartWith size fixed key rid state state' (row_names before ++ (row_names mid ++ row_names after)) ((before ++ (at, node) ∷ after) ∷ levels) leaves ((before ++ (mid ++ after)) ∷ levels') leaves'
inner_enters size fixed key rid state between state' above before at node mid after news levels leaves levels' leaves' part below writes =
    let now = tree_records levels' leaves' in
    let grows = row_grows size fixed state between state' Inner before at node mid after news (tree_records levels leaves) now part.descends.1 part.once below.grown below.part.once
    (λ other there. descends_present size between (row_entries before ++ (row_entries mid ++ row_entries after)) levels' leaves' other below.part.descends there) writes in
    let D : List (Key × ℕ) → Type 0 = λ es. Descends size between es levels' leaves' in
    let descends = subst D (sym (entries_three before mid after)) below.part.descends in
    record {
      part = record {
        descends = (names_three before mid after, grows.stand, descends_frame size between state' (row_entries (before ++ (mid ++ after))) levels' leaves' grows.keeps descends);
        rising = below.part.rising;
        follow = below.part.follow;
        once = grows.once;
      };
      grown = grows.grown;
      at_key = below.at_key;
      absent = below.absent;
      leaves_grow = below.leaves_grow;
      same_depth = ap suc below.same_depth;
    }

-- what a leaf that took an entry in leaves of the row of leaves
pub record LeafWrites (key : Key) (rid : ℕ) (before mid after : List (ℕ × Content)) (node : Content) (xs ys : List (Key × ℕ)) : Type 0 where
  pub was : node.entries ≡ xs ++ ys
  pub now : row_entries mid ≡ xs ++ (key, rid) ∷ ys
  pub below : Below key xs
  pub above : Above key ys
  pub low : NotAfter node.low key
  pub later : Above key (row_names after)
  pub rising : Rising (row_names (before ++ (mid ++ after)))
  pub follow : Follow (before ++ (mid ++ after))
  pub long : length mid ≤ 2

pub grown_nothing : (fixed : ℕ) (state : State) → Grown fixed state state [] []
grown_nothing fixed state = record { kept = λ rid there. there; anew = λ rid there. inl there; outside = λ rid out. refl }

pub leaf_enters : (size fixed : ℕ) (key : Key) (rid : ℕ) (state state' : State) (above : List (Key × ℕ)) (before : List (ℕ × Content)) (at : ℕ) (node : Content) (mid after : List (ℕ × Content)) (news : List ℕ) (xs ys : List (Key × ℕ)) → Part size state above [] (before ++ (at, node) ∷ after) → Writes size fixed state state' Leaf at mid news → LeafWrites key rid before mid after node xs ys → PartWith size fixed key rid state state' (row_names before ++ (row_names mid ++ row_names after)) [] (before ++ (at, node) ∷ after) [] (before ++ (mid ++ after))
leaf_enters size fixed key rid state state' above before at node mid after news xs ys part writes leaf =
    let once : Apart (records_of (before ++ (at, node) ∷ after) ++ []) = rw (append-nil (records_of (before ++ (at, node) ∷ after))) part.once in
    let grows = row_grows size fixed state state state' Leaf before at node mid after news [] [] part.descends.1 once (grown_nothing fixed state) tt (λ other there. absurd there) writes in
    let front = row_entries before ++ xs in
    let back = ys ++ row_entries after in
    let all : row_entries (before ++ (at, node) ∷ after) ≡ front ++ back =
    row_around before (at, node) after
    ∙ ap (λ es. row_entries before ++ (es ++ row_entries after)) leaf.was
    ∙ ap (λ es. row_entries before ++ es) (append_assoc xs ys (row_entries after))
    ∙ sym (append_assoc (row_entries before) xs back) in
    let all' : row_entries (before ++ (mid ++ after)) ≡ front ++ (key, rid) ∷ back =
    entries_three before mid after
    ∙ ap (λ es. row_entries before ++ (es ++ row_entries after)) leaf.now
    ∙ ap (λ es. row_entries before ++ es) (append_assoc xs ((key, rid) ∷ ys) (row_entries after))
    ∙ sym (append_assoc (row_entries before) xs ((key, rid) ∷ back)) in
    let low : Below key front = below_append key (row_entries before) xs (below_weaker node.low key (row_entries before) leaf.low (row_below before (at, node) after part.rising part.follow)) leaf.below in
    let from = each_from_right (before ++ (at, node) ∷ []) after (rw (append_assoc before ((at, node) ∷ []) after) (leaves_from (before ++ (at, node) ∷ after) part.follow)) in
    let high : Above key back = above_append key ys (row_entries after) leaf.above (above_row key after from leaf.later) in
    record {
      part = record {
        descends = (names_three before mid after, grows.stand);
        rising = leaf.rising;
        follow = leaf.follow;
        once = rw (append-nil (records_of (before ++ (mid ++ after)))) at grows.once;
      };
      grown = rw (append-nil (records_of (before ++ (at, node) ∷ after)), append-nil (records_of (before ++ (mid ++ after)))) at grows.grown;
      at_key = λ other. ap (λ es. entry_at es other) all' ∙ entry_at-put front (key, rid) back other low ∙ ap (λ es. cond (is_same other key) (Some rid) (entry_at es other)) (sym all);
      absent = ap (λ es. entry_at es key) all ∙ entry_at-absent front back key low high;
      leaves_grow = omega (arith, leaf.long, length-append before (mid ++ after), length-append mid after, length-append before ((at, node) ∷ after));
      same_depth = refl;
    }
