-- Rows of nodes and the entries that name them.
use Rattle.std.proofs.Common.{◌≡◌, ℕ, List, [], ◌∷◌, ◌++◌, Option, None, Some, refl, sym, ap, ◌∙◌, arith, subst, Bool, true, false, cond}
use Rattle.std.proofs.lemmas.Option.{same_Some, none-some}
use Rattle.std.proofs.lemmas.Grind.{flat_map-append}
use Rattle.plain_data.specs.State.{State}
use Rattle.ordered_index.specs.declared.key.Key.{Key}
use Rattle.ordered_index.specs.declared.node.Kind.{Kind}
use Rattle.ordered_index.specs.declared.node.Kind.TheVariants.{Leaf, Inner}
use Rattle.ordered_index.specs.Keys.{is_before, Before, NotAfter, Above, From, Rising, last_at, or_else}
use Rattle.ordered_index.specs.Node.{Content, Holds, Begins, kind_word}
use Rattle.ordered_index.specs.Tree.{IsAt, Stand, named, row_names, row_entries, Follow}
use Rattle.ordered_index.proofs.Order.{before_not_after, before_then, not_after_itself, not_after_trans}
use Rattle.ordered_index.proofs.Entries.{above_append, last_at-none, last_at-append, last_at-above, last_at-low}

-- words hold one node
kind_same : (a b : Kind) → kind_word a ≡ kind_word b → a ≡ b
kind_same Leaf Leaf same = refl
kind_same Leaf Inner same = absurd (omega arith)
kind_same Inner Leaf same = absurd (omega arith)
kind_same Inner Inner same = refl

pub leaf_inner : (a : Kind) → a ≡ Leaf → a ≡ Inner → ⊥
leaf_inner a leaf inner = let e : Leaf ≡ Inner = sym leaf ∙ inner in cc

pub content_same : (a b : Content) → a.kind ≡ b.kind → a.low ≡ b.low → a.entries ≡ b.entries → a.next ≡ b.next → a ≡ b
content_same a b kind low entries next =
    ap (λ k. let n : Content = record { kind = k; low = a.low; entries = a.entries; next = a.next } in n) kind
    ∙ ap (λ l. let n : Content = record { kind = b.kind; low = l; entries = a.entries; next = a.next } in n) low
    ∙ ap (λ es. let n : Content = record { kind = b.kind; low = b.low; entries = es; next = a.next } in n) entries
    ∙ ap (λ o. let n : Content = record { kind = b.kind; low = b.low; entries = b.entries; next = o } in n) next

pub holds_same : (words : List ℕ) (a b : Content) → Holds words a → Holds words b → a ≡ b
holds_same words a b first second =
    let kind : a.kind ≡ b.kind = kind_same a.kind b.kind (sym first.kind ∙ second.kind) in
    content_same a b kind (sym first.low ∙ second.low) (sym first.entries ∙ second.entries) (sym first.next ∙ rw kind second.next)

pub at_same : (size : ℕ) (state : State) (a b : ℕ × Content) → a.0 ≡ b.0 → IsAt size state a → IsAt size state b → a.1 ≡ b.1
at_same size state a b same first second =
    let words : first.words ≡ second.words = same_Some first.words second.words (sym first.here ∙ ap state same ∙ second.here) in
    let P : List ℕ → Type 0 = λ words. Holds words a.1 in
    holds_same second.words a.1 b.1 (subst P words first.holds) second.holds

pub node_same : (size : ℕ) (state : State) (a b : ℕ × Content) → a.0 ≡ b.0 → IsAt size state a → IsAt size state b → a ≡ b
node_same size state a b same first second = ap (λ r. (r, a.1)) same ∙ ap (λ n. (b.0, n)) (at_same size state a b same first second)

-- a row in two parts
pub stand_left : (size : ℕ) (state : State) (kind : Kind) (xs ys : List (ℕ × Content)) → Stand size state kind (xs ++ ys) → Stand size state kind xs
stand_left size state kind [] ys stand = tt
stand_left size state kind (x ∷ xs) ys stand = (stand.0, stand.1, stand_left size state kind xs ys stand.2)

pub stand_right : (size : ℕ) (state : State) (kind : Kind) (xs ys : List (ℕ × Content)) → Stand size state kind (xs ++ ys) → Stand size state kind ys
stand_right size state kind [] ys stand = stand
stand_right size state kind (x ∷ xs) ys stand = stand_right size state kind xs ys stand.2

pub stand_append : (size : ℕ) (state : State) (kind : Kind) (xs ys : List (ℕ × Content)) → Stand size state kind xs → Stand size state kind ys → Stand size state kind (xs ++ ys)
stand_append size state kind [] ys first second = second
stand_append size state kind (x ∷ xs) ys first second = (first.0, first.1, stand_append size state kind xs ys first.2 second)

pub row_entries-append : (xs ys : List (ℕ × Content)) → row_entries (xs ++ ys) ≡ row_entries xs ++ row_entries ys
row_entries-append xs ys = flat_map-append (λ (node : ℕ × Content). node.1.entries) xs ys

pub row_names-append : (xs ys : List (ℕ × Content)) → row_names (xs ++ ys) ≡ row_names xs ++ row_names ys
row_names-append [] ys = refl
row_names-append (x ∷ xs) ys = ap (λ names. named x ∷ names) (row_names-append xs ys)

-- the node of a row to which a key belongs: the last one whose fence is not behind it
pub record Home (row : List (ℕ × Content)) (key : Key) (at : Key × ℕ) : Type 0 where
  pub before : List (ℕ × Content)
  pub node : ℕ × Content
  pub after : List (ℕ × Content)
  pub joined : row ≡ before ++ node ∷ after
  pub names : at ≡ named node
  pub low : NotAfter node.1.low key
  pub above : Above key (row_names after)

last_one-step : (x : Key × ℕ) (test : Bool) (at : Key × ℕ) → or_else None (cond test None (Some x)) ≡ Some at → x ≡ at
last_one-step x true at found = absurd (none-some at found)
last_one-step x false at found = same_Some x at found

last_one : (x : Key × ℕ) (key : Key) (at : Key × ℕ) → last_at (x ∷ []) key ≡ Some at → x ≡ at
last_one x key at found = last_one-step x (is_before key x.0) at found

home_cons : (x : ℕ × Content) (row : List (ℕ × Content)) (key : Key) (at : Key × ℕ) → Home row key at → Home (x ∷ row) key at
home_cons x row key at home = record {
  before = x ∷ home.before;
  node = home.node;
  after = home.after;
  joined = ap (λ ns. x ∷ ns) home.joined;
  names = home.names;
  low = home.low;
  above = home.above;
}

home_step : (later : Option (Key × ℕ)) (x : ℕ × Content) (row : List (ℕ × Content)) (key : Key) (at : Key × ℕ) → last_at (row_names row) key ≡ later → (later ≡ Some at → Home row key at) → last_at (row_names (x ∷ row)) key ≡ Some at → Home (x ∷ row) key at
home_step (Some e) x row key at is more found = home_cons x row key at (more (rw is at found))
home_step None x row key at is more found =
    let only : last_at (named x ∷ []) key ≡ Some at = rw is at found in
    let names : named x ≡ at = last_one (named x) key at only in
    let P : Key × ℕ → Type 0 = λ e. NotAfter e.0 key in
    record {
      before = [];
      node = x;
      after = row;
      joined = refl;
      names = sym names;
      low = subst P (sym names) (last_at-low (named x ∷ []) key at only);
      above = last_at-none (row_names row) key is;
    }

pub home_of : (row : List (ℕ × Content)) (key : Key) (at : Key × ℕ) → last_at (row_names row) key ≡ Some at → Home row key at
home_of [] key at found = absurd (none-some at found)
home_of (x ∷ row) key at found = home_step (last_at (row_names row) key) x row key at refl (λ e. home_of row key at e) found

-- entries of inner nodes and of leaves are not before the fences
pub from_weaker : (a b : Key) (xs : List (Key × ℕ)) → NotAfter a b → From b xs → From a xs
from_weaker a b [] less from = tt
from_weaker a b (x ∷ xs) less from = (not_after_trans a b x.0 less from.0, from_weaker a b xs less from.1)

pub above_from : (a b : Key) (xs : List (Key × ℕ)) → Before a b → From b xs → Above a xs
above_from a b [] before from = tt
above_from a b (x ∷ xs) before from = (before_then a b x.0 before from.0, above_from a b xs before from.1)

pub from_above : (key : Key) (xs : List (Key × ℕ)) → Above key xs → From key xs
from_above key [] above = tt
from_above key (x ∷ xs) above = (before_not_after key x.0 above.0, from_above key xs above.1)

pub from_inner : (low : Key) (xs : List (Key × ℕ)) → Begins Inner low xs → Rising xs → From low xs
from_inner low [] begins rising = tt
from_inner low (x ∷ xs) begins rising =
    let P : Key → Type 0 = λ k. From k (x ∷ xs) in
    subst P begins (not_after_itself x.0, from_above x.0 xs rising.0)

-- the entries of nodes with fences behind a key are behind it
pub data EachFrom : List (ℕ × Content) → Type 0 where
  none : EachFrom []
  more : (node : ℕ × Content) (nodes : List (ℕ × Content)) → From node.1.low node.1.entries → EachFrom nodes → EachFrom (node ∷ nodes)

pub inner_from : (size : ℕ) (state : State) (row : List (ℕ × Content)) → Stand size state Inner row → EachFrom row
inner_from size state [] stand = none
inner_from size state (x ∷ row) stand =
    let P : Kind → Type 0 = λ k. Begins k x.1.low x.1.entries in
    more x row (from_inner x.1.low x.1.entries (subst P stand.1 stand.0.sound.first) stand.0.sound.rising) (inner_from size state row stand.2)

pub leaves_from : (leaves : List (ℕ × Content)) → Follow leaves → EachFrom leaves
leaves_from [] follow = none
leaves_from (x ∷ leaves) follow = more x leaves follow.1 (leaves_from leaves follow.3)

pub above_row : (key : Key) (row : List (ℕ × Content)) → EachFrom row → Above key (row_names row) → Above key (row_entries row)
above_row key [] (none) above = tt
above_row key (x ∷ row) (more _ _ from rest) above = above_append key x.1.entries (row_entries row) (above_from key x.1.low x.1.entries above.0 from) (above_row key row rest above.1)

pub each_from_right : (xs ys : List (ℕ × Content)) → EachFrom (xs ++ ys) → EachFrom ys
each_from_right [] ys each = each
each_from_right (x ∷ xs) ys (more _ _ from rest) = each_from_right xs ys rest

-- the entry for a key in a level is that in its home node
last_in_home : (entries later before : List (Key × ℕ)) (key : Key) (child : Key × ℕ) → last_at entries key ≡ Some child → Above key later → last_at (before ++ (entries ++ later)) key ≡ Some child
last_in_home entries later before key child last above = last_at-append before (entries ++ later) key ∙ rw (last_at-append entries later key, last_at-above key later above, last) refl

pub home_entry : (size : ℕ) (state : State) (row : List (ℕ × Content)) (key : Key) (at child : Key × ℕ) (home : Home row key at) → Stand size state Inner row → last_at home.node.1.entries key ≡ Some child → last_at (row_entries row) key ≡ Some child
home_entry size state row key at child home stand last =
    let all : Stand size state Inner (home.before ++ home.node ∷ home.after) = rw (← home.joined) stand in
    let right = stand_right size state Inner home.before (home.node ∷ home.after) all in
    let above = above_row key home.after (inner_from size state home.after right.2) home.above in
    rw (home.joined, row_entries-append home.before (home.node ∷ home.after)) (last_in_home home.node.1.entries (row_entries home.after) (row_entries home.before) key child last above)
