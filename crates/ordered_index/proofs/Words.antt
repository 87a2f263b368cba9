-- The words of a node: how its entries are read and written.
use Rattle.std.proofs.Common.{◌≡◌, ℕ, ◌+◌, ◌-◌, ◌*◌, ◌<◌, ◌≤◌, zero, suc, List, [], ◌∷◌, ◌++◌, length, get_or, take, drop, set, Option, None, Some, refl, sym, ap, ◌∙◌, arith, subst, true, false}
use Rattle.std.specs.Prelude.{Bool, IfSome, slice_index, ◌==◌}
use lib.ListN.{replicate}
use Rattle.std.proofs.lemmas.List.{length-append, take_at, set_at, get_or_at, append_assoc, get_or-take, length-take, length-drop, get_or-drop, take_more, length_push, length-replicate}
use Rattle.std.proofs.lemmas.Grind.{flat_map-append}
use Rattle.ordered_index.specs.declared.key.Key.{Key}
use Rattle.ordered_index.specs.declared.node.Kind.{Kind}
use Rattle.ordered_index.specs.declared.node.Kind.TheVariants.{Leaf, Inner}
use Rattle.record_store.specs.Links.{link_word}
use Rattle.record_store.proofs.Links.{named_by-link_word}
use Rattle.ordered_index.specs.Keys.{InStore, Rising, is_before}
use Rattle.ordered_index.specs.Node.{Begins, Content, Holds, entry_words, in_threes, kind_word, least, next_leaf, tree_node_words}
use Rattle.ordered_index.specs.Standing.{IsNode, content_at, entries_at, key_at, kind_at}
use Rattle.ordered_index.proofs.Entries.{rising_before, rising_next, rising_one}

abbrev pub key_of : ℕ → ℕ → Key
key_of high low = record { high = high; low = low }

-- words three by three, at a place
length-in_threes : (words : List ℕ) (i : ℕ) → 3 * i + 2 < length words → i < length (in_threes words)
length-in_threes [] i within = omega arith
length-in_threes (a ∷ []) i within = omega arith
length-in_threes (a ∷ b ∷ []) i within = omega arith
length-in_threes (a ∷ b ∷ c ∷ words) zero within = omega arith
length-in_threes (a ∷ b ∷ c ∷ words) (suc i) within = let more = length-in_threes words i (omega arith) in omega arith

get_or-in_threes : (words : List ℕ) (i : ℕ) (d : Key × ℕ) → 3 * i + 2 < length words → get_or (in_threes words) i d ≡ (key_of (get_or words (3 * i) 0) (get_or words (3 * i + 1) 0), get_or words (3 * i + 2) 0)
get_or-in_threes [] i d within = absurd (omega arith)
get_or-in_threes (a ∷ []) i d within = absurd (omega arith)
get_or-in_threes (a ∷ b ∷ []) i d within = absurd (omega arith)
get_or-in_threes (a ∷ b ∷ c ∷ words) zero d within = refl
get_or-in_threes (a ∷ b ∷ c ∷ words) (suc i) d within =
    let all : List ℕ = a ∷ b ∷ c ∷ words in
    let first : suc (suc (suc (3 * i))) ≡ 3 * suc i = omega arith in
    let second : suc (suc (suc (3 * i + 1))) ≡ 3 * suc i + 1 = omega arith in
    let third : suc (suc (suc (3 * i + 2))) ≡ 3 * suc i + 2 = omega arith in
    get_or-in_threes words i d (omega arith)
    ∙ ap (λ n. (key_of (get_or all n 0) (get_or words (3 * i + 1) 0), get_or words (3 * i + 2) 0)) first
    ∙ ap (λ n. (key_of (get_or all (3 * suc i) 0) (get_or all n 0), get_or words (3 * i + 2) 0)) second
    ∙ ap (λ n. (key_of (get_or all (3 * suc i) 0) (get_or all (3 * suc i + 1) 0), get_or all n 0)) third

abbrev pub entry_in : List ℕ → ℕ → Key × ℕ
entry_in words i = (key_of (get_or words (4 + 3 * i) 0) (get_or words (5 + 3 * i) 0), get_or words (6 + 3 * i) 0)

-- the entry of this number, in the words from the fifth on
entry_read : (words : List ℕ) (i : ℕ) (d : Key × ℕ) → length words ≡ 32 → i < 9 → get_or (in_threes (drop 4 words)) i d ≡ entry_in words i
entry_read words i d whole within =
    let second : 4 + (3 * i + 1) ≡ 5 + 3 * i = omega arith in
    let third : 4 + (3 * i + 2) ≡ 6 + 3 * i = omega arith in
    get_or-in_threes (drop 4 words) i d (omega (arith, length-drop 4 words))
    ∙ ap (λ high. (key_of high (get_or (drop 4 words) (3 * i + 1) 0), get_or (drop 4 words) (3 * i + 2) 0)) (get_or-drop 4 words (3 * i) 0)
    ∙ ap (λ low. (key_of (get_or words (4 + 3 * i) 0) low, get_or (drop 4 words) (3 * i + 2) 0)) (get_or-drop 4 words (3 * i + 1) 0 ∙ ap (λ n. get_or words n 0) second)
    ∙ ap (λ rid. (key_of (get_or words (4 + 3 * i) 0) (get_or words (5 + 3 * i) 0), rid)) (get_or-drop 4 words (3 * i + 2) 0 ∙ ap (λ n. get_or words n 0) third)

-- one entry more of a node's words
pub entries_more : (words : List ℕ) (i : ℕ) → length words ≡ 32 → i < 9 → take (i + 1) (in_threes (drop 4 words)) ≡ take i (in_threes (drop 4 words)) ++ entry_in words i ∷ []
entries_more words i whole within =
    take_more (in_threes (drop 4 words)) i (entry_in words i) (length-in_threes (drop 4 words) i (omega (arith, length-drop 4 words)))
    ∙ ap (λ entry. take i (in_threes (drop 4 words)) ++ entry ∷ []) (entry_read words i (entry_in words i) whole within)

pub record EntryIs (words : List ℕ) (count i : ℕ) : Type 0 where
  pub within : i < length (take count (in_threes (drop 4 words)))
  pub rid : (get_or (take count (in_threes (drop 4 words))) i (key_of 0 0, 0)).1 ≡ get_or words (6 + 3 * i) 0

pub entry_is : (words : List ℕ) (count i : ℕ) → length words ≡ 32 → i < 9 → i < count → EntryIs words count i
entry_is words count i whole within counted =
    let long = length-in_threes (drop 4 words) i (omega (arith, length-drop 4 words)) in
    record {
      within = omega (arith, long, length-take count (in_threes (drop 4 words)));
      rid = ap (λ (e : Key × ℕ). e.1) (get_or-take count (in_threes (drop 4 words)) i (key_of 0 0, 0) counted ∙ entry_read words i (key_of 0 0, 0) whole within);
    }

pub entries_counted : (words : List ℕ) (count : ℕ) → length words ≡ 32 → count ≤ 9 → length (take count (in_threes (drop 4 words))) ≡ count
entries_counted words zero whole few = refl
entries_counted words (suc n) whole few =
    let long = length-in_threes (drop 4 words) n (omega (arith, length-drop 4 words)) in
    omega (arith, long, length-take (suc n) (in_threes (drop 4 words)))

-- what the words of a node say
pub length-entry_words : (entries : List (Key × ℕ)) → length (entry_words entries) ≡ 3 * length entries
length-entry_words [] = refl
length-entry_words (entry ∷ entries) = let more = length-entry_words entries in omega arith

in_threes-append : (entries : List (Key × ℕ)) (words : List ℕ) → in_threes (entry_words entries ++ words) ≡ entries ++ in_threes words
in_threes-append [] words = refl
in_threes-append (entry ∷ entries) words = ap (λ more. entry ∷ more) (in_threes-append entries words)

next-leaf : (next : Option ℕ) → next_leaf Leaf (link_word next) ≡ next
next-leaf None = refl
next-leaf (Some rid) = named_by-link_word (Some rid)

next-of : (kind : Kind) (next : Option ℕ) → (kind ≡ Inner → next ≡ None) → next_leaf kind (link_word next) ≡ next
next-of Leaf next none = next-leaf next
next-of Inner next none = sym (none refl)

-- a node is read from the words that were written of it
pub holds_words : (node : Content) → length node.entries ≤ 9 → (node.kind ≡ Inner → node.next ≡ None) → Holds (tree_node_words node) node
holds_words node few inner =
    let zeros : List ℕ = replicate (27 - 3 * length node.entries) 0 in
    let back : List ℕ = link_word node.next ∷ [] in
    let last : slice_index (tree_node_words node) 31 ≡ link_word node.next =
    get_or_at (entry_words node.entries ++ zeros) (link_word node.next) [] 0 27 (omega (arith, length-append (entry_words node.entries) zeros, length-entry_words node.entries, length-replicate {A = ℕ} (27 - 3 * length node.entries) 0)) in
    record {
      kind = refl;
      count = refl;
      low = refl;
      entries = ap (λ ws. take (length node.entries) (in_threes ws)) (append_assoc (entry_words node.entries) zeros back) ∙ ap (take (length node.entries)) (in_threes-append node.entries (zeros ++ back)) ∙ take_at node.entries (in_threes (zeros ++ back)) (length node.entries) refl;
      next = ap (next_leaf node.kind) last ∙ next-of node.kind node.next inner;
    }

-- one entry more is written
pub written_more : (front : List ℕ) (n i a b c : ℕ) (back : List ℕ) → length front ≡ i → set (set (set (front ++ (replicate (suc (suc (suc n))) 0 ++ back)) i a) (i + 1) b) (i + 2) c ≡ (front ++ a ∷ b ∷ c ∷ []) ++ (replicate n 0 ++ back)
written_more front n i a b c back at =
    let rest = replicate n 0 ++ back in
    let one : length (front ++ a ∷ []) ≡ i + 1 = length_push front a ∙ ap (λ n. n + 1) at in
    let two : length ((front ++ a ∷ []) ++ b ∷ []) ≡ i + 2 = omega (arith, one, length_push (front ++ a ∷ []) b) in
    let join : ((front ++ a ∷ []) ++ b ∷ []) ++ c ∷ rest ≡ (front ++ a ∷ b ∷ c ∷ []) ++ rest = append_assoc (front ++ a ∷ []) (b ∷ []) (c ∷ rest) ∙ append_assoc front (a ∷ []) (b ∷ c ∷ rest) ∙ sym (append_assoc front (a ∷ b ∷ c ∷ []) rest) in
    ap (λ words. set (set words (i + 1) b) (i + 2) c) (set_at front 0 (0 ∷ 0 ∷ rest) a i at ∙ sym (append_assoc front (a ∷ []) (0 ∷ 0 ∷ rest)))
    ∙ ap (λ words. set words (i + 2) c) (set_at (front ++ a ∷ []) 0 (0 ∷ rest) b (i + 1) one ∙ sym (append_assoc (front ++ a ∷ []) (b ∷ []) (0 ∷ rest)))
    ∙ set_at ((front ++ a ∷ []) ++ b ∷ []) 0 rest c (i + 2) two
    ∙ join

entry_words-more : (entries : List (Key × ℕ)) (i : ℕ) (d : Key × ℕ) → i < length entries → entry_words (take (i + 1) entries) ≡ entry_words (take i entries) ++ (get_or entries i d).0.high ∷ (get_or entries i d).0.low ∷ (get_or entries i d).1 ∷ []
entry_words-more entries i d within = ap entry_words (take_more entries i d within) ∙ flat_map-append (λ (entry : Key × ℕ). entry.0.high ∷ entry.0.low ∷ entry.1 ∷ []) (take i entries) (get_or entries i d ∷ [])

-- the words once one entry more is written
pub words_more : (words : List ℕ) (kind count high low i : ℕ) (entries : List (Key × ℕ)) (d : Key × ℕ) (back : List ℕ) → i < length entries → length entries ≤ 9 → words ≡ kind ∷ count ∷ high ∷ low ∷ (entry_words (take i entries) ++ (replicate (27 - 3 * i) 0 ++ back)) → set (set (set words (4 + 3 * i) (get_or entries i d).0.high) (5 + 3 * i) (get_or entries i d).0.low) (6 + 3 * i) (get_or entries i d).1 ≡ kind ∷ count ∷ high ∷ low ∷ (entry_words (take (i + 1) entries) ++ (replicate (27 - 3 * (i + 1)) 0 ++ back))
words_more words kind count high low i entries d back within few before =
    let n : ℕ = 27 - 3 * (i + 1) in
    let e = get_or entries i d in
    let front : List ℕ = kind ∷ count ∷ high ∷ low ∷ entry_words (take i entries) in
    let room : 27 - 3 * i ≡ suc (suc (suc n)) = omega arith in
    let second : 5 + 3 * i ≡ 4 + 3 * i + 1 = omega arith in
    let third : 6 + 3 * i ≡ 4 + 3 * i + 2 = omega arith in
    let at : length front ≡ 4 + 3 * i = omega (arith, length-entry_words (take i entries), length-take i entries) in
    ap (λ k. set (set (set words (4 + 3 * i) e.0.high) k e.0.low) (6 + 3 * i) e.1) second
    ∙ ap (λ k. set (set (set words (4 + 3 * i) e.0.high) (4 + 3 * i + 1) e.0.low) k e.1) third
    ∙ ap (λ ws. set (set (set ws (4 + 3 * i) e.0.high) (4 + 3 * i + 1) e.0.low) (4 + 3 * i + 2) e.1) (before ∙ ap (λ k. front ++ (replicate k 0 ++ back)) room)
    ∙ written_more front n (4 + 3 * i) e.0.high e.0.low e.1 back at
    ∙ ap (λ ws. kind ∷ count ∷ high ∷ low ∷ (ws ++ (replicate n 0 ++ back))) (sym (entry_words-more entries i d within))

-- what words say where they stand
pub content-low : (words : List ℕ) → (content_at words).low ≡ key_of (slice_index words 2) (slice_index words 3)
unfolding content_at
content-low words = refl

pub content_counted : (words : List ℕ) → length words ≡ 32 → slice_index words 1 ≤ 9 → length (content_at words).entries ≡ slice_index words 1
unfolding content_at
content_counted words whole few = entries_counted words (slice_index words 1) whole few

-- the entry of this number stands there
pub content_entry : (words : List ℕ) (i : ℕ) (d : Key × ℕ) → length words ≡ 32 → slice_index words 1 ≤ 9 → i < slice_index words 1 → get_or (content_at words).entries i d ≡ entry_in words i
unfolding content_at
content_entry words i d whole few within = get_or-take (slice_index words 1) (in_threes (drop 4 words)) i d within ∙ entry_read words i d whole (omega (arith, few, within))

pub content_inner : (words : List ℕ) → (slice_index words 0 == 2) ≡ true → (content_at words).kind ≡ Inner
unfolding content_at
content_inner words is = rw is refl

pub content_leaf : (words : List ℕ) → (slice_index words 0 == 2) ≡ false → (content_at words).kind ≡ Leaf
unfolding content_at
content_leaf words is = rw is refl

pub rid_fits : (words : List ℕ) (i size : ℕ) → length words ≡ 32 → IsNode size words → i < length (content_at words).entries → slice_index words (6 + 3 * i) < size
rid_fits words i size whole node within =
    let low = node.sound.records i (key_of 0 0, 0) within in
    let same = ap (λ (e : Key × ℕ). e.1) (content_entry words i (key_of 0 0, 0) whole node.few (omega (arith, within, content_counted words whole node.few))) in
    omega (arith, low, same)

-- the keys of two entries in a row
pub key_before : (words : List ℕ) (i : ℕ) (key : Key) (b : Bool) → length words ≡ 32 → slice_index words 1 ≤ 9 → i < slice_index words 1 → is_before key (key_at words i) ≡ b → is_before key (get_or (content_at words).entries i (key_of 0 0, 0)).0 ≡ b
key_before words i key b whole few within is = ap (λ (e : Key × ℕ). is_before key e.0) (content_entry words i (key_of 0 0, 0) whole few within) ∙ is

rising_keys : (words : List ℕ) (i : ℕ) → length words ≡ 32 → slice_index words 1 ≤ 9 → i < slice_index words 1 → 0 < i → Rising (entries_at words) → is_before (key_at words (i - 1)) (key_at words i) ≡ true
rising_keys words i whole few within some rising =
    let d : Key × ℕ = (key_of 0 0, 0) in
    let n : ℕ = slice_index words 1 in
    let xs : List (Key × ℕ) = in_threes (drop 4 words) in
    let last : get_or (take n xs) i d ≡ entry_in words i = get_or-take n xs i d within ∙ entry_read words i d whole (omega (arith, few, within)) in
    let first : get_or (take n xs) (i - 1) d ≡ entry_in words (i - 1) = get_or-take n xs (i - 1) d (omega (arith, within)) ∙ entry_read words (i - 1) d whole (omega (arith, few, within)) in
    ap (λ (e : Key × ℕ). is_before e.0 (key_at words i)) (sym first)
    ∙ ap (λ (e : Key × ℕ). is_before (get_or (take n xs) (i - 1) d).0 e.0) (sym last)
    ∙ rising_before (take n xs) i d rising some (omega (arith, within, entries_counted words n whole few))

pub no_fall : (words : List ℕ) (i : ℕ) (b : Bool) → length words ≡ 32 → slice_index words 1 ≤ 9 → i < slice_index words 1 → (i ≡ 0 → b ≡ true) → (0 < i → b ≡ is_before (key_at words (i - 1)) (key_at words i)) → b ≡ false → Rising (entries_at words) → ⊥
no_fall words zero b whole few within first later falls rising = let is = first refl in cc
no_fall words (suc i) b whole few within first later falls rising =
    let is = later (omega arith) in
    let rises = rising_keys words (suc i) whole few within (omega arith) rising in
    cc

pub rises_on : (words : List ℕ) (i : ℕ) (b : Bool) → length words ≡ 32 → i < 9 → (0 < i → b ≡ is_before (key_at words (i - 1)) (key_at words i)) → b ≡ true → Rising (take i (in_threes (drop 4 words))) → Rising (take (i + 1) (in_threes (drop 4 words)))
rises_on words zero b whole within later is rising = rising_one (in_threes (drop 4 words))
rises_on words (suc i) b whole within later is rising =
    let d : Key × ℕ = (key_of 0 0, 0) in
    let xs : List (Key × ℕ) = in_threes (drop 4 words) in
    let before : is_before (key_at words (suc i - 1)) (key_at words (suc i)) ≡ true = sym (later (omega arith)) ∙ is in
    rising_next xs (suc i) d (omega arith) (length-in_threes (drop 4 words) (suc i) (omega (arith, length-drop 4 words, whole))) rising
    (ap (λ (e : Key × ℕ). is_before e.0 (get_or xs (suc i) d).0) (entry_read words (suc i - 1) d whole (omega arith))
    ∙ ap (λ (e : Key × ℕ). is_before (key_at words (suc i - 1)) e.0) (entry_read words (suc i) d whole within)
    ∙ before)

-- what the words of a node say
kind_said : (kind : Kind) (word : ℕ) → word ≡ kind_word kind → kind_at word ≡ kind
kind_said Leaf word is = ap kind_at is
kind_said Inner word is = ap kind_at is

pub node_is : (size : ℕ) (words : List ℕ) (kind : Kind) → length words ≡ 32 → slice_index words 0 ≡ kind_word kind → slice_index words 1 ≤ 9 → least kind ≤ slice_index words 1 → Begins kind (content_at words).low (entries_at words) → InStore size (entries_at words) × Rising (entries_at words) → IfSome (next_leaf kind (slice_index words 31)) (λ rid. rid < size) → IsNode size words
unfolding content_at
node_is size words kind whole word few enough begins order next =
    let same : kind ≡ kind_at (slice_index words 0) = sym (kind_said kind (slice_index words 0) word) in
    let counted : length (entries_at words) ≡ slice_index words 1 = entries_counted words (slice_index words 1) whole few in
    let L : Kind → Type 0 = λ k. least k ≤ length (entries_at words) in
    let B : Kind → Type 0 = λ k. Begins k (key_of (slice_index words 2) (slice_index words 3)) (entries_at words) in
    let N : Kind → Type 0 = λ k. IfSome (next_leaf k (slice_index words 31)) (λ rid. rid < size) in
    record {
      few = few;
      holds = record { kind = word ∙ ap kind_word same; count = sym counted; low = refl; entries = refl; next = refl };
      sound = record {
        few = omega (arith, counted, few);
        enough = subst L same (omega (arith, counted, enough));
        rising = order.1;
        records = order.0;
        first = subst B same begins;
        next = subst N same next;
      };
    }

kind_same : (a b : Kind) → kind_word a ≡ kind_word b → a ≡ b
kind_same Leaf Leaf same = refl
kind_same Leaf Inner same = absurd (omega arith)
kind_same Inner Leaf same = absurd (omega arith)
kind_same Inner Inner same = refl

pub begins_of : (words : List ℕ) (kind : Kind) (node : Content) → slice_index words 0 ≡ kind_word kind → Holds words node → Begins node.kind node.low node.entries → Begins kind (content_at words).low (entries_at words)
begins_of words kind node word holds begins =
    let same : node.kind ≡ kind = kind_same node.kind kind (sym holds.kind ∙ word) in
    let low : node.low ≡ (content_at words).low = sym (content-low words ∙ holds.low) in
    let K : Kind → Type 0 = λ k. Begins k node.low node.entries in
    let L : Key → Type 0 = λ l. Begins kind l node.entries in
    let E : List (Key × ℕ) → Type 0 = λ es. Begins kind (content_at words).low es in
    subst E (sym holds.entries) (subst L low (subst K same begins))
