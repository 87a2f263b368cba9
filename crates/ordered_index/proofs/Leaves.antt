-- The row of leaves.
use Rattle.std.proofs.Common.{◌≡◌, ℕ, List, [], ◌∷◌, ◌++◌, length, Some, sym, ap, ◌∙◌}
use Rattle.std.proofs.lemmas.List.{append_assoc, append-nil, length-append}
use Rattle.plain_data.specs.State.{State}
use Rattle.ordered_index.specs.declared.key.Key.{Key}
use Rattle.ordered_index.specs.declared.node.Kind.TheVariants.{Leaf}
use Rattle.ordered_index.specs.Keys.{From, Rising}
use Rattle.ordered_index.specs.Node.{Content}
use Rattle.ordered_index.specs.Tree.{Stand, Follow, UpTo, row_names, row_entries}
use Rattle.ordered_index.proofs.Edits.{rising_from}
use Rattle.ordered_index.proofs.Rows.{leaves_from, above_row, from_above, row_entries-append}

pub from_append : (key : Key) (xs ys : List (Key × ℕ)) → From key xs → From key ys → From key (xs ++ ys)
from_append key [] ys first second = second
from_append key (x ∷ xs) ys first second = (first.0, from_append key xs ys first.1 second)

rising_from_nil : (xs : List (Key × ℕ)) → Rising xs → Rising (xs ++ [])
rising_from_nil xs rising = rw (append-nil xs) rising

-- the entries of all leaves rise
rising_after : (x : List (Key × ℕ)) (leaves : List (ℕ × Content)) → Rising x → UpTo leaves x → Rising (row_names leaves) → Follow leaves → Rising (row_entries leaves) → Rising (x ++ row_entries leaves)
rising_after x [] here up names follow rising = rising_from_nil x here
rising_after x (y ∷ leaves) here up names follow rising =
    rising_from y.1.low x (row_entries (y ∷ leaves)) here up rising (from_append y.1.low y.1.entries (row_entries leaves) follow.1 (from_above y.1.low (row_entries leaves) (above_row y.1.low leaves (leaves_from leaves follow.3) names.0)))

pub leaves_rising : (size : ℕ) (state : State) (leaves : List (ℕ × Content)) → Stand size state Leaf leaves → Rising (row_names leaves) → Follow leaves → Rising (row_entries leaves)
leaves_rising size state [] stand names follow = tt
leaves_rising size state (x ∷ leaves) stand names follow = rising_after x.1.entries leaves stand.0.sound.rising follow.2 names.1 follow.3 (leaves_rising size state leaves stand.2 names.1 follow.3)

-- a leaf in the row changes, or more come behind it
pub follow_front : (before : List (ℕ × Content)) (x x' : ℕ × Content) (after after' : List (ℕ × Content)) → x'.0 ≡ x.0 → x'.1.low ≡ x.1.low → Follow (before ++ x ∷ after) → Follow (x' ∷ after') → Follow (before ++ x' ∷ after')
follow_front [] x x' after after' rid low follow now = now
follow_front (b ∷ []) x x' after after' rid low follow now = (follow.0 ∙ ap (λ r. Some r) (sym rid), follow.1, rw low follow.2, now)
follow_front (b ∷ c ∷ before) x x' after after' rid low follow now = (follow.0, follow.1, follow.2, follow_front (c ∷ before) x x' after after' rid low follow.3 now)

pub follow_right : (before : List (ℕ × Content)) (x : ℕ × Content) (after : List (ℕ × Content)) → Follow (before ++ x ∷ after) → Follow (x ∷ after)
follow_right [] x after follow = follow
follow_right (b ∷ before) x after follow = follow_right before x after follow.3

-- the entries of a row around those of one node
pub row_around : (before : List (ℕ × Content)) (x : ℕ × Content) (after : List (ℕ × Content)) → row_entries (before ++ x ∷ after) ≡ row_entries before ++ (x.1.entries ++ row_entries after)
row_around before x after = row_entries-append before (x ∷ after)

pub row_split : (before : List (ℕ × Content)) (rid : ℕ) (node : Content) (after : List (ℕ × Content)) (xs ys : List (Key × ℕ)) → node.entries ≡ xs ++ ys → row_entries (before ++ (rid, node) ∷ after) ≡ (row_entries before ++ xs) ++ (ys ++ row_entries after)
row_split before rid node after xs ys is =
    row_around before (rid, node) after
    ∙ ap (λ es. row_entries before ++ (es ++ row_entries after)) is
    ∙ ap (λ es. row_entries before ++ es) (append_assoc xs ys (row_entries after))
    ∙ sym (append_assoc (row_entries before) xs (ys ++ row_entries after))

pub row_length : (before : List (ℕ × Content)) (x x' : ℕ × Content) (after : List (ℕ × Content)) → length (before ++ x' ∷ after) ≡ length (before ++ x ∷ after)
row_length before x x' after = length-append before (x' ∷ after) ∙ sym (length-append before (x ∷ after))
