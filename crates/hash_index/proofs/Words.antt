-- The words of a node: how its pairs are read and written.
use Rattle.std.proofs.Common.{◌≡◌, ℕ, ◌+◌, ◌-◌, ◌*◌, ◌<◌, ◌≤◌, zero, suc, List, [], ◌∷◌, ◌++◌, length, get_or, take, drop, set, Option, All, refl, sym, ap, ◌∙◌, arith}
use Rattle.std.specs.Prelude.{slice_index}
use lib.ListN.{replicate}
use Rattle.std.proofs.lemmas.List.{length-append, take_at, set_at, get_or_at, append_assoc, take_all, get_or-take, length-take, length-drop, get_or-drop, take_more, length_push, length-replicate}
use Rattle.std.proofs.lemmas.Grind.{flat_map-append}
use Rattle.record_store.specs.Links.{link_word}
use Rattle.record_store.proofs.Links.{named_by-link_word}
use Rattle.hash_index.specs.Node.{IsNode, NamesNext, paired, pairs_of, next_node, position_of, pair_words, chain_node_words}

-- words two by two, at a place
length-paired : (words : List ℕ) (i : ℕ) → 2 * i + 1 < length words → i < length (paired words)
length-paired [] i within = omega arith
length-paired (key ∷ []) i within = omega arith
length-paired (key ∷ rid ∷ words) zero within = omega arith
length-paired (key ∷ rid ∷ words) (suc i) within = let more = length-paired words i (omega arith) in omega arith

get_or-paired : (words : List ℕ) (i : ℕ) (d : ℕ × ℕ) → 2 * i + 1 < length words → get_or (paired words) i d ≡ (get_or words (2 * i) 0, get_or words (2 * i + 1) 0)
get_or-paired [] i d within = absurd (omega arith)
get_or-paired (key ∷ []) i d within = absurd (omega arith)
get_or-paired (key ∷ rid ∷ words) zero d within = refl
get_or-paired (key ∷ rid ∷ words) (suc i) d within =
    let first : suc (suc (2 * i)) ≡ 2 * suc i = omega arith in
    let second : suc (suc (2 * i + 1)) ≡ 2 * suc i + 1 = omega arith in
    get_or-paired words i d (omega arith)
    ∙ ap (λ n. (get_or (key ∷ rid ∷ words) n 0, get_or words (2 * i + 1) 0)) first
    ∙ ap (λ n. (get_or (key ∷ rid ∷ words) (2 * suc i) 0, get_or (key ∷ rid ∷ words) n 0)) second

-- the pair of this number, in the words from the third on
pair_at : (words : List ℕ) (i : ℕ) (d : ℕ × ℕ) → length words ≡ 32 → i < 15 → get_or (paired (drop 2 words)) i d ≡ (get_or words (2 + 2 * i) 0, get_or words (3 + 2 * i) 0)
pair_at words i d whole within =
    let third : 2 + (2 * i + 1) ≡ 3 + 2 * i = omega arith in
    get_or-paired (drop 2 words) i d (omega (arith, length-drop 2 words))
    ∙ ap (λ key. (key, get_or (drop 2 words) (2 * i + 1) 0)) (get_or-drop 2 words (2 * i) 0)
    ∙ ap (λ rid. (get_or words (2 + 2 * i) 0, rid)) (get_or-drop 2 words (2 * i + 1) 0 ∙ ap (λ n. get_or words n 0) third)

-- one pair more of a node's words
pub pairs_more : (words : List ℕ) (i : ℕ) → length words ≡ 32 → i < 15 → take (i + 1) (paired (drop 2 words)) ≡ take i (paired (drop 2 words)) ++ (get_or words (2 + 2 * i) 0, get_or words (3 + 2 * i) 0) ∷ []
pairs_more words i whole within =
    take_more (paired (drop 2 words)) i (0, 0) (length-paired (drop 2 words) i (omega (arith, length-drop 2 words)))
    ∙ ap (λ pair. take i (paired (drop 2 words)) ++ pair ∷ []) (pair_at words i (0, 0) whole within)

pub pair_is : (words : List ℕ) (i : ℕ) → length words ≡ 32 → i < 15 → i < slice_index words 0 → (i < length (pairs_of words)) × (get_or (pairs_of words) i (0, 0) ≡ (get_or words (2 + 2 * i) 0, get_or words (3 + 2 * i) 0))
pair_is words i whole within counted =
    let long = length-paired (drop 2 words) i (omega (arith, length-drop 2 words)) in
    (omega (arith, long, length-take (slice_index words 0) (paired (drop 2 words))), get_or-take (slice_index words 0) (paired (drop 2 words)) i (0, 0) counted ∙ pair_at words i (0, 0) whole within)

-- the record of a pair of this number, where all of them lie in the store
pub rid_within : (words : List ℕ) (i size : ℕ) → length words ≡ 32 → i < 15 → i < slice_index words 0 → All (λ pair. pair.1 < size) (pairs_of words) → get_or words (3 + 2 * i) 0 < size
rid_within words i size whole within counted all =
    let pair = pair_is words i whole within counted in
    let low : (get_or (pairs_of words) i (0, 0)).1 < size = all i (0, 0) pair.0 in
    let same : (get_or (pairs_of words) i (0, 0)).1 ≡ get_or words (3 + 2 * i) 0 = ap (λ p. p.1) pair.1 in
    omega arith

-- as many pairs as the first word says
pub length-pairs_of : (words : List ℕ) → length words ≡ 32 → slice_index words 0 ≤ 14 → length (pairs_of words) ≡ slice_index words 0
length-pairs_of words whole few =
    let long = length-paired (drop 2 words) 14 (omega (arith, length-drop 2 words)) in
    omega (arith, long, length-take (slice_index words 0) (paired (drop 2 words)))

-- what the words of a node say
length-pair_words : (pairs : List (ℕ × ℕ)) → length (pair_words pairs) ≡ 2 * length pairs
length-pair_words [] = refl
length-pair_words (pair ∷ pairs) = let more = length-pair_words pairs in omega arith

paired-append : (pairs : List (ℕ × ℕ)) (words : List ℕ) → paired (pair_words pairs ++ words) ≡ pairs ++ paired words
paired-append [] words = refl
paired-append (pair ∷ pairs) words = ap (λ more. (pair.0, pair.1) ∷ more) (paired-append pairs words)

pub pairs_of-chain_node_words : (pairs : List (ℕ × ℕ)) (next : Option ℕ) (position : ℕ) → pairs_of (chain_node_words pairs next position) ≡ pairs
pairs_of-chain_node_words pairs next position =
    let zeros = replicate (28 - 2 * length pairs) 0 in
    let back = position ∷ 0 ∷ [] in
    ap (λ words. take (length pairs) (paired words)) (append_assoc (pair_words pairs) zeros back)
    ∙ ap (take (length pairs)) (paired-append pairs (zeros ++ back))
    ∙ take_at pairs (paired (zeros ++ back)) (length pairs) refl

pub next_node-chain_node_words : (pairs : List (ℕ × ℕ)) (next : Option ℕ) (position : ℕ) → next_node (chain_node_words pairs next position) ≡ next
next_node-chain_node_words pairs next position = named_by-link_word next

pub position_of-chain_node_words : (pairs : List (ℕ × ℕ)) (next : Option ℕ) (position : ℕ) → length pairs ≤ 14 → position_of (chain_node_words pairs next position) ≡ position
position_of-chain_node_words pairs next position few =
    let zeros = replicate (28 - 2 * length pairs) 0 in
    get_or_at (pair_words pairs ++ zeros) position (0 ∷ []) 0 28 (omega (arith, length-append (pair_words pairs) zeros, length-pair_words pairs, length-replicate {A = ℕ} (28 - 2 * length pairs) 0))

-- one pair more is written
pub written_more : (front : List ℕ) (n i key rid : ℕ) (back : List ℕ) → length front ≡ i → set (set (front ++ (replicate (suc (suc n)) 0 ++ back)) i key) (i + 1) rid ≡ (front ++ key ∷ rid ∷ []) ++ (replicate n 0 ++ back)
written_more front n i key rid back at =
    let rest = replicate n 0 ++ back in
    ap (λ words. set words (i + 1) rid) (set_at front 0 (0 ∷ rest) key i at ∙ sym (append_assoc front (key ∷ []) (0 ∷ rest)))
    ∙ set_at (front ++ key ∷ []) 0 rest rid (i + 1) (length_push front key ∙ ap (λ n. n + 1) at)
    ∙ append_assoc front (key ∷ []) (rid ∷ rest)
    ∙ sym (append_assoc front (key ∷ rid ∷ []) rest)

pair_words-more : (pairs : List (ℕ × ℕ)) (i : ℕ) → i < length pairs → pair_words (take (i + 1) pairs) ≡ pair_words (take i pairs) ++ (get_or pairs i (0, 0)).0 ∷ (get_or pairs i (0, 0)).1 ∷ []
pair_words-more pairs i within = ap pair_words (take_more pairs i (0, 0) within) ∙ flat_map-append (λ pair. pair.0 ∷ pair.1 ∷ []) (take i pairs) (get_or pairs i (0, 0) ∷ [])

-- the words once one pair more is written
pub words_more : (words : List ℕ) (count link i : ℕ) (pairs : List (ℕ × ℕ)) (back : List ℕ) → i < length pairs → length pairs ≤ 14 → words ≡ count ∷ link ∷ (pair_words (take i pairs) ++ (replicate (28 - 2 * i) 0 ++ back)) → set (set words (2 + 2 * i) (get_or pairs i (0, 0)).0) (3 + 2 * i) (get_or pairs i (0, 0)).1 ≡ count ∷ link ∷ (pair_words (take (i + 1) pairs) ++ (replicate (28 - 2 * (i + 1)) 0 ++ back))
words_more words count link i pairs back within few before =
    let n : ℕ = 28 - 2 * (i + 1) in
    let pair = get_or pairs i (0, 0) in
    let front : List ℕ = count ∷ link ∷ pair_words (take i pairs) in
    let room : 28 - 2 * i ≡ suc (suc n) = omega arith in
    let third : 3 + 2 * i ≡ 2 + 2 * i + 1 = omega arith in
    let at : length front ≡ 2 + 2 * i = omega (arith, length-pair_words (take i pairs), length-take i pairs) in
    ap (λ k. set (set words (2 + 2 * i) pair.0) k pair.1) third
    ∙ ap (λ ws. set (set ws (2 + 2 * i) pair.0) (2 + 2 * i + 1) pair.1) (before ∙ ap (λ k. front ++ (replicate k 0 ++ back)) room)
    ∙ written_more front n (2 + 2 * i) pair.0 pair.1 back at
    ∙ ap (λ ws. count ∷ link ∷ (ws ++ (replicate n 0 ++ back))) (sym (pair_words-more pairs i within))

-- the words once all pairs are written
pub words_all : (words : List ℕ) (pairs : List (ℕ × ℕ)) (next : Option ℕ) (position i : ℕ) → i ≡ length pairs → words ≡ length pairs ∷ link_word next ∷ (pair_words (take i pairs) ++ (replicate (28 - 2 * i) 0 ++ position ∷ 0 ∷ [])) → words ≡ chain_node_words pairs next position
words_all words pairs next position i all written =
    let zeros : List ℕ = replicate (28 - 2 * length pairs) 0 in
    let whole : take i pairs ≡ pairs = take_all i pairs (omega arith) in
    written
    ∙ ap (λ ps. length pairs ∷ link_word next ∷ (pair_words ps ++ (replicate (28 - 2 * i) 0 ++ position ∷ 0 ∷ []))) whole
    ∙ ap (λ k. length pairs ∷ link_word next ∷ (pair_words pairs ++ (replicate (28 - 2 * k) 0 ++ position ∷ 0 ∷ []))) all
    ∙ ap (λ ws. length pairs ∷ link_word next ∷ ws) (sym (append_assoc (pair_words pairs) zeros (position ∷ 0 ∷ [])))

-- words that are a node's but for its pairs, and the pairs
pub node_with_pairs : (size position : ℕ) (words : List ℕ) (next : Option ℕ) → NamesNext size position words next → All (λ pair. pair.1 < size) (pairs_of words) → IsNode size position words
node_with_pairs size position words next names all = record {
  few = names.few;
  placed = names.placed;
  in_store = names.in_store;
  next = rw names.named at names.within;
  records = all;
}
