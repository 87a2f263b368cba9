-- A leaf takes an entry in.
use Rattle.std.proofs.Common.{◌≡◌, ℕ, ◌<◌, zero, suc, List, [], ◌∷◌, ◌++◌, length, get_or, take, drop, Option, None, Some, refl, sym, ap, ◌∙◌, arith, subst}
use Rattle.std.proofs.lemmas.List.{append_assoc, append-nil, take-append-drop}
use Rattle.std.proofs.Math.Seq.{drop-cons}
use Rattle.plain_data.specs.State.{State, Agrees, overlay}
use Rattle.record_store.specs.Meaning.{Meaning}
use Rattle.ordered_index.specs.declared.key.Key.{Key}
use Rattle.ordered_index.specs.declared.node.Kind.{Kind}
use Rattle.ordered_index.specs.declared.node.Kind.TheVariants.{Leaf, Inner}
use Rattle.ordered_index.specs.Keys.{Before, NotAfter, Above, Below, From, Rising, entry_at, first_key}
use Rattle.ordered_index.specs.Node.{Content, Begins}
use Rattle.ordered_index.specs.Tree.{IsAt, Follow, UpTo, row_names}
use Rattle.ordered_index.specs.Enter.{Part, PartWith, PutsEntry, with_entry, key_at, left_of, right_of, next_left, IsRank}
use Rattle.ordered_index.specs.Splits.{NodeBecomes}
use Rattle.ordered_index.proofs.Order.{not_after_before, not_after_itself, before_not_after}
use Rattle.ordered_index.proofs.Entries.{above_at, above_weaker, below_right, below_append, below_weaker, rising_right, rising_below}
use Rattle.ordered_index.proofs.Edits.{below_put, from_put, rising_put}
use Rattle.ordered_index.proofs.Rows.{from_above, row_names-append, leaf_inner, stand_right}
use Rattle.ordered_index.proofs.Leaves.{follow_front, follow_right}
use Rattle.ordered_index.proofs.Parting.{Fills, whole_sound, left_sound, right_sound, store_with, length-with, below_rank}
use Rattle.ordered_index.proofs.Taking.{whole_writes, parted_writes, names_with}
use Rattle.ordered_index.proofs.Entered.{leaf_enters}

pub from_left : (key : Key) (xs ys : List (Key × ℕ)) → From key (xs ++ ys) → From key xs
from_left key [] ys from = tt
from_left key (x ∷ xs) ys from = (from.0, from_left key xs ys from.1)

below_at : (key : Key) (xs : List (Key × ℕ)) (i : ℕ) (d : Key × ℕ) → Below key xs → i < length xs → Before (get_or xs i d).0 key
below_at key [] i d below within = absurd (omega arith)
below_at key (x ∷ xs) zero d below within = below.0
below_at key (x ∷ xs) (suc i) d below within = below_at key xs i d below.1 (omega arith)

pub low_before : (low : Key) (xs : List (Key × ℕ)) (i : ℕ) (d : Key × ℕ) → From low xs → Rising xs → 0 < i → i < length xs → Before low (get_or xs i d).0
low_before low [] i d from rising some within = absurd (omega arith)
low_before low (x ∷ xs) zero d from rising some within = absurd (omega arith)
low_before low (x ∷ xs) (suc i) d from rising some within = not_after_before low x.0 (get_or xs i d).0 from.0 (above_at x.0 xs i d rising.0 (omega arith))

-- the entries from the sixth on
pub record Halves (entries : List (Key × ℕ)) : Type 0 where
  pub below : Below (key_at entries 5) (take 5 entries)
  pub from : From (key_at entries 5) (drop 5 entries)

pub halves : (entries : List (Key × ℕ)) → Rising entries → 5 < length entries → Halves entries
halves entries rising long =
    let sixth : Key × ℕ = get_or entries 5 (first_key, 0) in
    let back : drop 5 entries ≡ sixth ∷ drop 6 entries = drop-cons entries 5 (first_key, 0) long in
    let whole : Rising (take 5 entries ++ sixth ∷ drop 6 entries) = rw (← back, take-append-drop 5 entries) rising in
    let right = rising_right (take 5 entries) (sixth ∷ drop 6 entries) whole in
    let P : List (Key × ℕ) → Type 0 = λ es. From sixth.0 es in
    record {
      below = rising_below (take 5 entries) sixth (drop 6 entries) whole;
      from = subst P (sym back) (not_after_itself sixth.0, from_above sixth.0 (drop 6 entries) right.0);
    }

up_put : (after : List (ℕ × Content)) (xs : List (Key × ℕ)) (e : Key × ℕ) (ys : List (Key × ℕ)) → Above e.0 (row_names after) → UpTo after (xs ++ ys) → UpTo after (xs ++ e ∷ ys)
up_put [] xs e ys above up = tt
up_put (x ∷ after) xs e ys above up = below_put x.1.low xs e ys above.0 up

up_right : (after : List (ℕ × Content)) (xs ys : List (Key × ℕ)) → UpTo after (xs ++ ys) → UpTo after ys
up_right [] xs ys up = tt
up_right (x ∷ after) xs ys up = below_right x.1.low xs ys up

-- a key among the entries of a leaf is before the fences behind
later_above : (after : List (ℕ × Content)) (xs : List (Key × ℕ)) (i : ℕ) (d : Key × ℕ) → UpTo after xs → Rising (row_names after) → i < length xs → Above (get_or xs i d).0 (row_names after)
later_above [] xs i d up rising within = tt
later_above (x ∷ after) xs i d up rising within =
    let first = below_at x.1.low xs i d up within in
    (first, above_weaker (get_or xs i d).0 x.1.low (row_names after) (before_not_after (get_or xs i d).0 x.1.low first) rising.0)

-- what holds of the leaf with the entry in it
pub record Filled (size : ℕ) (key : Key) (rid rank : ℕ) (node : Content) (after : List (ℕ × Content)) : Type 0 where
  pub fills : Fills size node.kind node.low (with_entry node.entries rank (key, rid))
  pub was : node.entries ≡ take rank node.entries ++ drop rank node.entries
  pub below : Below key (take rank node.entries)
  pub from : From node.low (with_entry node.entries rank (key, rid))
  pub up : UpTo after (with_entry node.entries rank (key, rid))

pub filled : (size : ℕ) (key : Key) (rid rank : ℕ) (node : Content) (at : ℕ) (state : State) (after : List (ℕ × Content)) → rid < size → IsAt size state (at, node) → node.kind ≡ Leaf → IsRank key node.entries rank → entry_at node.entries key ≡ None → NotAfter node.low key → Above key (row_names after) → Follow ((at, node) ∷ after) → Filled size key rid rank node after
filled size key rid rank node at state after stored here kind is absent low later follow =
    let join : take rank node.entries ++ drop rank node.entries ≡ node.entries = take-append-drop rank node.entries in
    let below = below_rank node.entries key rank here.sound.rising is absent in
    let R : List (Key × ℕ) → Type 0 = Rising in
    let F : List (Key × ℕ) → Type 0 = From node.low in
    let U : List (Key × ℕ) → Type 0 = UpTo after in
    let P : Kind → Type 0 = λ k. Begins k node.low (with_entry node.entries rank (key, rid)) in
    record {
      fills = record {
        rising = rising_put (take rank node.entries) (key, rid) (drop rank node.entries) below is.above (subst R (sym join) here.sound.rising);
        records = store_with size node.entries rank (key, rid) stored here.sound.records;
        first = subst P (sym kind) tt;
      };
      was = sym join;
      below = below;
      from = from_put node.low (take rank node.entries) (key, rid) (drop rank node.entries) low (subst F (sym join) follow.1);
      up = up_put after (take rank node.entries) (key, rid) (drop rank node.entries) later (subst U (sym join) follow.2);
    }

pub no_next : (kind : Kind) (next : Option ℕ) → kind ≡ Leaf → kind ≡ Inner → next ≡ None
no_next kind next leaf inner = absurd (leaf_inner kind leaf inner)

pub leaf_takes : (new : Option (Key × ℕ)) (size rid at rank : ℕ) (key : Key) (before after : Meaning) (agreed : State) (above : List (Key × ℕ)) (lefts : List (ℕ × Content)) (node : Content) (rights : List (ℕ × Content)) → before.size ≡ size → Agrees agreed after.reads → rid < size → node.kind ≡ Leaf → IsRank key node.entries rank → entry_at node.entries key ≡ None → NotAfter node.low key → Above key (row_names rights) → Part size (overlay before.writes agreed) above [] (lefts ++ (at, node) ∷ rights) → PutsEntry before after at node (with_entry node.entries rank (key, rid)) new → (mid : List (ℕ × Content)) × PartWith size before.fixed key rid (overlay before.writes agreed) (overlay after.writes agreed) (names_with lefts (at, node) new rights) [] (lefts ++ (at, node) ∷ rights) [] (lefts ++ (mid ++ rights)) × NodeBecomes (at, node) (with_entry node.entries rank (key, rid)) new mid
leaf_takes None size rid at rank key before after agreed above lefts node rights same agrees stored kind is absent low later part puts =
    let es = with_entry node.entries rank (key, rid) in
    let node' : Content = record node { entries = es } in
    let right = stand_right size (overlay before.writes agreed) Leaf lefts ((at, node) ∷ rights) part.descends.1 in
    let was = follow_right lefts (at, node) rights part.follow in
    let f = filled size key rid rank node at (overlay before.writes agreed) rights stored right.0 kind is absent low later was in
    let sound = whole_sound size node es right.0.sound f.fills (omega (arith, length-with node.entries rank (key, rid))) puts.0 in
    let writes = whole_writes size before.fixed before after agreed Leaf at node' puts.1 sound kind (no_next node.kind node.next kind) in
    let names : row_names (lefts ++ (at, node') ∷ rights) ≡ row_names (lefts ++ (at, node) ∷ rights) = row_names-append lefts ((at, node') ∷ rights) ∙ sym (row_names-append lefts ((at, node) ∷ rights)) in
    let R : List (Key × ℕ) → Type 0 = Rising in (
      (at, node') ∷ [],
      leaf_enters size before.fixed key rid (overlay before.writes agreed) (overlay after.writes agreed) above lefts at node ((at, node') ∷ []) rights [] (take rank node.entries) (drop rank node.entries) part writes (record {
        was = f.was;
        now = append-nil es;
        below = f.below;
        above = is.above;
        low = low;
        later = later;
        rising = subst R (sym names) part.rising;
        follow = follow_front lefts (at, node) (at, node') rights rights refl refl part.follow (was.0, f.from, f.up, was.3);
        long = omega arith;
      }),
      (puts.0, refl),
    )
leaf_takes (Some new) size rid at rank key before after agreed above lefts node rights same agrees stored kind is absent low later part puts =
    let es = with_entry node.entries rank (key, rid) in
    let right = stand_right size (overlay before.writes agreed) Leaf lefts ((at, node) ∷ rights) part.descends.1 in
    let was = follow_right lefts (at, node) rights part.follow in
    let f = filled size key rid rank node at (overlay before.writes agreed) rights stored right.0 kind is absent low later was in
    let within : new.1 < size = rw same at puts.1.within in
    let left' : Content = left_of node es new.1 in
    let right' : Content = right_of node es in
    let k' : Key = key_at es 5 in
    let writes = parted_writes size before after agreed Leaf at new.1 left' right' right.0.words agrees puts.1 right.0.here puts.3 (left_sound size node es new.1 f.fills puts.0 within) (right_sound size node es right.0.sound f.fills puts.0) kind kind (λ inner. ap (λ k. next_left k new.1) inner) (no_next node.kind node.next kind) in
    let parts : take 5 es ++ (drop 5 es ++ []) ≡ es = ap (λ xs. take 5 es ++ xs) (append-nil (drop 5 es)) ∙ take-append-drop 5 es in
    let half = halves es f.fills.rising (omega (arith, puts.0)) in
    let rising : Rising (row_names lefts ++ (node.low, at) ∷ row_names rights) = rw (row_names-append lefts ((at, node) ∷ rights)) at part.rising in
    let high : Above k' (row_names rights) = later_above rights es 5 (first_key, 0) f.up (rising_right (row_names lefts) ((node.low, at) ∷ row_names rights) rising).1 (omega (arith, puts.0)) in
    let less : Before node.low k' = low_before node.low es 5 (first_key, 0) f.from f.fills.rising (omega arith) (omega (arith, puts.0)) in
    let front : Below k' (row_names lefts ++ (node.low, at) ∷ []) = below_append k' (row_names lefts) ((node.low, at) ∷ []) (below_weaker node.low k' (row_names lefts) (before_not_after node.low k' less) (rising_below (row_names lefts) (node.low, at) (row_names rights) rising)) (less, tt) in
    let join : (row_names lefts ++ (node.low, at) ∷ []) ++ row_names rights ≡ row_names lefts ++ (node.low, at) ∷ row_names rights = append_assoc (row_names lefts) ((node.low, at) ∷ []) (row_names rights) in
    let join' : (row_names lefts ++ (node.low, at) ∷ []) ++ (k', new.1) ∷ row_names rights ≡ row_names lefts ++ (node.low, at) ∷ (k', new.1) ∷ row_names rights = append_assoc (row_names lefts) ((node.low, at) ∷ []) ((k', new.1) ∷ row_names rights) in
    let R : List (Key × ℕ) → Type 0 = Rising in
    let names = subst R (join' ∙ sym (row_names-append lefts ((at, left') ∷ (new.1, right') ∷ rights))) (rising_put (row_names lefts ++ (node.low, at) ∷ []) (k', new.1) (row_names rights) front high (subst R (sym join) rising)) in
    let F : List (Key × ℕ) → Type 0 = From node.low in
    let U : List (Key × ℕ) → Type 0 = UpTo rights in
    let es_parts : es ≡ take 5 es ++ drop 5 es = sym (take-append-drop 5 es) in
    let next : left'.next ≡ Some new.1 = ap (λ k. next_left k new.1) kind in
    let Q : Key → Type 0 = λ k. PartWith size before.fixed key rid (overlay before.writes agreed) (overlay after.writes agreed) (row_names lefts ++ ((node.low, at) ∷ (k, new.1) ∷ row_names rights)) [] (lefts ++ (at, node) ∷ rights) [] (lefts ++ (((at, left') ∷ (new.1, right') ∷ []) ++ rights)) in (
      (at, left') ∷ (new.1, right') ∷ [],
      subst Q (sym puts.2) (leaf_enters size before.fixed key rid (overlay before.writes agreed) (overlay after.writes agreed) above lefts at node ((at, left') ∷ (new.1, right') ∷ []) rights (new.1 ∷ []) (take rank node.entries) (drop rank node.entries) part writes (record {
        was = f.was;
        now = parts;
        below = f.below;
        above = is.above;
        low = low;
        later = later;
        rising = names;
        follow = follow_front lefts (at, node) (at, left') rights ((new.1, right') ∷ rights) refl refl part.follow (next, from_left node.low (take 5 es) (drop 5 es) (subst F es_parts f.from), half.below, (was.0, half.from, up_right rights (take 5 es) (drop 5 es) (subst U es_parts f.up), was.3));
        long = omega arith;
      })),
      (puts.0, puts.2, refl),
    )
