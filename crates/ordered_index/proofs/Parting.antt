-- A node that takes an entry in, whole or parted in two.
use Rattle.std.proofs.Common.{◌≡◌, ℕ, ◌+◌, ◌-◌, ◌<◌, ◌≤◌, zero, suc, List, [], ◌∷◌, ◌++◌, length, get_or, take, drop, None, Some, refl, sym, ap, ◌∙◌, arith, subst, Bool, true, false, eqb}
use Rattle.std.proofs.lemmas.Bool.Decides.{nat_tests}
use Rattle.std.specs.Prelude.{IfSome}
use Rattle.std.proofs.lemmas.List.{length-append, length-take, length-drop, take-append-drop}
use Rattle.std.proofs.lemmas.List.Elements.{All-take, All-drop}
use Rattle.std.proofs.Math.Seq.{drop-cons}
use Rattle.std.proofs.lemmas.Option.{none-some}
use Rattle.ordered_index.specs.declared.key.Key.{Key}
use Rattle.ordered_index.specs.declared.node.Kind.{Kind}
use Rattle.ordered_index.specs.declared.node.Kind.TheVariants.{Leaf, Inner}
use Rattle.ordered_index.specs.Keys.{Below, Rising, InStore, entry_at, last_at, first_key}
use Rattle.ordered_index.specs.Node.{Content, IsSound, Begins, least}
use Rattle.ordered_index.specs.Enter.{with_entry, key_at, left_of, right_of, next_left, IsRank}
use Rattle.ordered_index.proofs.Order.{not_after_or_same}
use Rattle.ordered_index.proofs.Entries.{rising_left, rising_right, last_at-low, below_last, entry_at-place}
use Rattle.ordered_index.proofs.Edits.{store_put}

pub rising_take : (n : ℕ) (xs : List (Key × ℕ)) → Rising xs → Rising (take n xs)
rising_take n xs rising = rising_left (take n xs) (drop n xs) (rw (take-append-drop n xs) rising)

pub rising_drop : (n : ℕ) (xs : List (Key × ℕ)) → Rising xs → Rising (drop n xs)
rising_drop n xs rising = rising_right (take n xs) (drop n xs) (rw (take-append-drop n xs) rising)

pub store_with : (size : ℕ) (xs : List (Key × ℕ)) (r : ℕ) (e : Key × ℕ) → e.1 < size → InStore size xs → InStore size (with_entry xs r e)
store_with size xs r e low all = store_put size (take r xs) e (drop r xs) low (rw (take-append-drop r xs) all)

pub length-with : (xs : List (Key × ℕ)) (r : ℕ) (e : Key × ℕ) → length (with_entry xs r e) ≡ length xs + 1
length-with xs r e = omega (arith, length-append (take r xs) (e ∷ drop r xs), length-append (take r xs) (drop r xs), ap length (take-append-drop r xs))

pub begins_with : (low : Key) (xs : List (Key × ℕ)) (r : ℕ) (e : Key × ℕ) → 0 < r → Begins Inner low xs → Begins Inner low (with_entry xs r e)
begins_with low xs zero e some begins = absurd (omega arith)
begins_with low [] (suc r) e some begins = absurd begins
begins_with low (x ∷ xs) (suc r) e some begins = begins

begins_take : (low : Key) (xs : List (Key × ℕ)) → Begins Inner low xs → Begins Inner low (take 5 xs)
begins_take low [] begins = begins
begins_take low (x ∷ xs) begins = begins

begins_drop : (xs : List (Key × ℕ)) → 5 < length xs → Begins Inner (key_at xs 5) (drop 5 xs)
begins_drop xs long = rw (drop-cons xs 5 (first_key, 0) long) refl

-- the entries of a node with one more
pub record Fills (size : ℕ) (kind : Kind) (low : Key) (entries : List (Key × ℕ)) : Type 0 where
  pub rising : Rising entries
  pub records : InStore size entries
  pub first : Begins kind low entries

pub whole_sound : (size : ℕ) (node : Content) (entries : List (Key × ℕ)) → IsSound size node → Fills size node.kind node.low entries → length node.entries ≤ length entries → length entries ≤ 9 → IsSound size (record node { entries = entries })
whole_sound size node entries sound fills more few = record {
  few = few;
  enough = omega (arith, sound.enough);
  rising = fills.rising;
  records = fills.records;
  first = fills.first;
  next = sound.next;
}

least_five : (kind : Kind) → least kind ≤ 5
least_five Leaf = omega arith
least_five Inner = omega arith

first_left : (kind : Kind) (low : Key) (entries : List (Key × ℕ)) → Begins kind low entries → Begins kind low (take 5 entries)
first_left Leaf low entries first = tt
first_left Inner low entries first = begins_take low entries first

first_right : (kind : Kind) (entries : List (Key × ℕ)) → 5 < length entries → Begins kind (key_at entries 5) (drop 5 entries)
first_right Leaf entries long = tt
first_right Inner entries long = begins_drop entries long

next_in : (size : ℕ) (kind : Kind) (fresh : ℕ) → fresh < size → IfSome (next_left kind fresh) (λ rid. rid < size)
next_in size Leaf fresh within = within
next_in size Inner fresh within = tt

pub left_few : (node now : Content) (entries : List (Key × ℕ)) (fresh : ℕ) → now ≡ left_of node entries fresh → length now.entries ≤ 9
left_few node now entries fresh is = omega (arith, ap (λ (n : Content). length n.entries) is, length-take 5 entries)

pub right_few : (node now : Content) (entries : List (Key × ℕ)) → length entries ≤ 10 → now ≡ right_of node entries → length now.entries ≤ 9
right_few node now entries ten is = omega (arith, ap (λ (n : Content). length n.entries) is, length-drop 5 entries)

pub left_sound : (size : ℕ) (node : Content) (entries : List (Key × ℕ)) (fresh : ℕ) → Fills size node.kind node.low entries → length entries ≡ 10 → fresh < size → IsSound size (left_of node entries fresh)
left_sound size node entries fresh fills ten within =
    let five : length (take 5 entries) ≡ 5 = omega (arith, length-take 5 entries) in
    record {
      few = omega (arith, five);
      enough = omega (arith, five, least_five node.kind);
      rising = rising_take 5 entries fills.rising;
      records = All-take (λ (e : Key × ℕ). e.1 < size) 5 entries fills.records;
      first = first_left node.kind node.low entries fills.first;
      next = next_in size node.kind fresh within;
    }

pub right_sound : (size : ℕ) (node : Content) (entries : List (Key × ℕ)) → IsSound size node → Fills size node.kind node.low entries → length entries ≡ 10 → IsSound size (right_of node entries)
right_sound size node entries sound fills ten =
    let five : length (drop 5 entries) ≡ 5 = omega (arith, length-drop 5 entries) in
    record {
      few = omega (arith, five);
      enough = omega (arith, five, least_five node.kind);
      rising = rising_drop 5 entries fills.rising;
      records = All-drop (λ (e : Key × ℕ). e.1 < size) 5 entries fills.records;
      first = first_right node.kind entries (omega arith);
      next = sound.next;
    }

-- around the place of a key in entries that have it not
pub below_rank : (entries : List (Key × ℕ)) (key : Key) (rank : ℕ) → Rising entries → IsRank key entries rank → entry_at entries key ≡ None → Below key (take rank entries)
below_rank entries key zero rising is absent = tt
below_rank entries key (suc r) rising is absent =
    let e : suc r - 1 ≡ r = omega arith in
    let last : last_at entries key ≡ Some (get_or entries r (first_key, 0)) = rw e at (is.last (first_key, 0) (omega arith)) in
    let low = last_at-low entries key (get_or entries r (first_key, 0)) last in
    let within : r < length entries = omega (arith, is.within) in
    below_last entries r (first_key, 0) key (rising_take (suc r) entries rising) within
    (not_after_or_same (get_or entries r (first_key, 0)).0 key low (λ same. none-some (get_or entries r (first_key, 0)).1 (sym absent ∙ entry_at-place entries r (first_key, 0) key rising within same)))

-- the entry for a key, with those on both sides
pub record Around (entries : List (Key × ℕ)) (rank : ℕ) (child : Key × ℕ) : Type 0 where
  pub front : List (Key × ℕ)
  pub taken : take rank entries ≡ front ++ child ∷ []
  pub whole : entries ≡ front ++ child ∷ drop rank entries

pub around : (entries : List (Key × ℕ)) (rank : ℕ) → 0 < rank → rank ≤ length entries → Around entries rank (get_or entries (rank - 1) (first_key, 0))
around entries zero some within = absurd (omega arith)
around [] (suc r) some within = absurd (omega arith)
around (x ∷ xs) (suc zero) some within = record { front = []; taken = refl; whole = refl }
around (x ∷ xs) (suc (suc r)) some within =
    let more = around xs (suc r) (omega arith) (omega arith) in
    let e : suc (suc r) - 1 ≡ suc r = omega arith in
    let f : suc r - 1 ≡ r = omega arith in
    let P : ℕ → Type 0 = λ n. Around (x ∷ xs) (suc (suc r)) (get_or (x ∷ xs) n (first_key, 0)) in
    let Q : ℕ → Type 0 = λ n. Around xs (suc r) (get_or xs n (first_key, 0)) in
    let m = subst Q f more in
    subst P (sym e) (record { front = x ∷ m.front; taken = ap (λ ys. x ∷ ys) m.taken; whole = ap (λ ys. x ∷ ys) m.whole })

-- what a test for a full vector tells
pub not_full : (n : ℕ) (full : Bool) → full ≡ eqb n 10 → full ≡ false → n ≤ 10 → n ≤ 9
not_full n full is test most = grind (arith, nat_tests)

pub is_full : (n : ℕ) (full : Bool) → full ≡ eqb n 10 → full ≡ true → n ≡ 10
is_full n full is test = grind (arith, nat_tests)
