-- What is seen at one node, by its words.
use Rattle.std.proofs.Common.{◌≡◌, ◌≢◌, ℕ, ◌+◌, ◌*◌, ◌<◌, true, false, cond, eqb, List, [], ◌∷◌, length, get_or, take, drop, Option, None, Some, All, refl, sym, ap, ◌∙◌, subst, eq-eqb, ne_eqb}
use Rattle.std.specs.Prelude.{IfSome, is_some, slice_index}
use Rattle.std.proofs.lemmas.List.Elements.{All-head, All-tail}
use Rattle.hash_index.specs.declared.looking.Seen.{Seen}
use Rattle.hash_index.specs.declared.looking.Seen.TheVariants.{Found, Next, End}
use Rattle.hash_index.specs.Node.{NamesNext, paired, pairs_of, next_node}
use Rattle.hash_index.specs.Chain.{record_at}
use Rattle.hash_index.specs.Looking.{IsSeen, seen_of}
use Rattle.hash_index.proofs.Pairs.{record_at-append}
use Rattle.hash_index.proofs.Words.{pairs_more, node_with_pairs}

-- ---- how the pairs of a node are passed

-- the record beside the key once one pair more was passed: the first one counts
abbrev pub beside_more : Option ℕ → ℕ → ℕ → ℕ → Option ℕ
beside_more found key first rid = cond (is_some found) found (cond (eqb key first) (Some rid) None)

pub passes : (words : List ℕ) (i key : ℕ) (found after : Option ℕ) → length words ≡ 32 → i < 15 → found ≡ record_at (take i (paired (drop 2 words))) key → after ≡ beside_more found key (get_or words (2 + 2 * i) 0) (get_or words (3 + 2 * i) 0) → after ≡ record_at (take (i + 1) (paired (drop 2 words))) key
passes words i key found after whole within so_far is =
    let key' = get_or words (2 + 2 * i) 0 in
    let rid = get_or words (3 + 2 * i) 0 in
    is
    ∙ ap (λ f. beside_more f key key' rid) so_far
    ∙ sym (record_at-append (take i (paired (drop 2 words))) ((key', rid) ∷ []) key)
    ∙ ap (λ ps. record_at ps key) (sym (pairs_more words i whole within))

-- it is the first one with the key; one before it has the key; it has another key
pub beside_first : (found : Option ℕ) (key first rid : ℕ) → is_some found ≡ false → first ≡ key → Some rid ≡ beside_more found key first rid
beside_first None key first rid none same = rw (eq-eqb key first (sym same)) refl
beside_first (Some other) key first rid none same = cc

pub beside_before : (found : Option ℕ) (key first rid : ℕ) → is_some found ≡ true → found ≡ beside_more found key first rid
beside_before None key first rid some = cc
beside_before (Some other) key first rid some = refl

pub beside_other : (found : Option ℕ) (key first rid : ℕ) → first ≢ key → found ≡ beside_more found key first rid
beside_other None key first rid other = let apart : key ≢ first = λ same. other (sym same) in rw (ne_eqb key first apart) refl
beside_other (Some rid') key first rid other = refl

-- all pairs were passed
pub is_seen : (size position key i : ℕ) (words : List ℕ) (found next : Option ℕ) (seen : Seen) → NamesNext size position words next → i ≡ slice_index words 0 → All (λ pair. pair.1 < size) (take i (paired (drop 2 words))) → found ≡ record_at (take i (paired (drop 2 words))) key → seen ≡ seen_of found next → IsSeen size position key words seen
is_seen size position key i words found next seen names end all beside says =
    let P : ℕ → Type 0 = λ n. All (λ pair. pair.1 < size) (take n (paired (drop 2 words))) in
    record {
      node = node_with_pairs size position words next names (subst P end all);
      says =
          says
          ∙ ap (λ b. seen_of b next) (beside ∙ ap (λ n. record_at (take n (paired (drop 2 words))) key) end)
          ∙ ap (λ n. seen_of (record_at (pairs_of words) key) n) names.named;
    }

-- ---- what follows from what was seen

pub from_found : (beside to : Option ℕ) (rid : ℕ) → Found rid ≡ seen_of beside to → beside ≡ Some rid
from_found (Some other) to rid is = cc
from_found None (Some next) rid is = cc
from_found None None rid is = cc

pub from_next : (beside to : Option ℕ) (next : ℕ) → Next next ≡ seen_of beside to → (beside ≡ None) × (to ≡ Some next)
from_next (Some other) to next is = let never : ⊥ = cc in absurd never
from_next None (Some other) next is = let same : Some other ≡ Some next = cc in (refl, same)
from_next None None next is = let never : ⊥ = cc in absurd never

pub from_end : (beside to : Option ℕ) → End ≡ seen_of beside to → (beside ≡ None) × (to ≡ None)
from_end (Some other) to is = let never : ⊥ = cc in absurd never
from_end None (Some next) is = let never : ⊥ = cc in absurd never
from_end None None is = (refl, refl)

-- ---- what it names lies in the store

beside_within : (size key : ℕ) (pairs : List (ℕ × ℕ)) → All (λ pair. pair.1 < size) pairs → IfSome (record_at pairs key) (λ rid. rid < size)
beside_within size key [] all = tt
beside_within size key (pair ∷ pairs) all =
    let P : ℕ × ℕ → Type 0 = λ p. p.1 < size in
    let more = beside_within size key pairs (All-tail P pair pairs all) in
    let here = All-head P pair pairs all in
    elim (eqb key pair.0) as (λ b. IfSome (cond b (Some pair.1) (record_at pairs key)) (λ rid. rid < size)) [ true ↦ here | false ↦ more ]

pub found_within : {size position key rid : ℕ} {words : List ℕ} {seen : Seen} → seen ≡ Found rid → IsSeen size position key words seen → rid < size
found_within {size} {position} {key} {rid} {words} same is =
    let P : Option ℕ → Type 0 = λ beside. IfSome beside (λ rid. rid < size) in
    subst P (from_found (record_at (pairs_of words) key) (next_node words) rid (sym same ∙ is.says)) (beside_within size key (pairs_of words) is.node.records)

pub next_within : {size position key next : ℕ} {words : List ℕ} {seen : Seen} → seen ≡ Next next → IsSeen size position key words seen → next < size
next_within {size} {position} {key} {next} {words} same is =
    let P : Option ℕ → Type 0 = λ to. IfSome to (λ next. next < size) in
    subst P (from_next (record_at (pairs_of words) key) (next_node words) next (sym same ∙ is.says)).1 is.node.next
