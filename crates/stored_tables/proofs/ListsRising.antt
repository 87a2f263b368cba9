-- Entries whose keys rise are told by their look-up.
use Rattle.std.proofs.Common.{◌≡◌, ℕ, Bool, true, false, cond, List, [], ◌∷◌, filter, length, All, Option, None, Some, refl, sym, ap, ◌∙◌, arith, inl, inr}
use Rattle.std.proofs.lemmas.Option.{none-some, same_Some}
use Rattle.std.proofs.lemmas.List.{take_all}
use Rattle.std.proofs.lemmas.List.Elements.{All-head, All-tail}
use Rattle.plain_data.specs.State.{State}
use Rattle.ordered_index.specs.declared.key.Key.{Key}
use Rattle.ordered_index.specs.Keys.{is_before, is_same, Before, Above, Rising, entry_at}
use Rattle.ordered_index.specs.Node.{Content}
use Rattle.ordered_index.specs.Scan.{is_between, between}
use Rattle.ordered_index.specs.Tree.{IsTree, row_entries}
use Rattle.ordered_index.proofs.Order.{cases_bool, before_not_after, between_same, is_same-same, is_same-true}
use Rattle.ordered_index.proofs.Entries.{above_weaker, entry_at-above}
use Rattle.ordered_index.proofs.Scanning.{lists_rising}

-- the first entry is the one that has its key
entry_first : (e : Key × ℕ) (es : List (Key × ℕ)) → entry_at (e ∷ es) e.0 ≡ Some e.1
entry_first e es = ap (λ b. cond b (Some e.1) (entry_at es e.0)) (is_same-same e.0 e.0 refl)

-- a key before the first one is not there
entry_missed : (e f : Key × ℕ) (es fs : List (Key × ℕ)) → Before e.0 f.0 → Above f.0 fs → entry_at (e ∷ es) e.0 ≡ entry_at (f ∷ fs) e.0 → ⊥
entry_missed e f es fs before above same =
    none-some e.1 (sym (entry_at-above e.0 (f ∷ fs) (before, above_weaker e.0 f.0 fs (before_not_after e.0 f.0 before) above)) ∙ sym same
    ∙ entry_first e es)

-- what stands behind entries with one key has the same look-up
entry_tails : (k : Key) (v w : ℕ) (es fs : List (Key × ℕ)) (key : Key) → Above k es → Above k fs
    → entry_at ((k, v) ∷ es) key ≡ entry_at ((k, w) ∷ fs) key → entry_at es key ≡ entry_at fs key
entry_tails k v w es fs key above also same = elim (cases_bool (is_same key k)) as (λ _. entry_at es key ≡ entry_at fs key) [
  | inl here ↦
      let is : key ≡ k = is_same-true key k here in
      rw is (entry_at-above k es above ∙ sym (entry_at-above k fs also))
  | inr other ↦ sym (ap (λ b. cond b (Some v) (entry_at es key)) other) ∙ same ∙ ap (λ b. cond b (Some w) (entry_at fs key)) other
]

-- two lists that rise and have the same look-up are the same
pub same_rising : (xs ys : List (Key × ℕ)) → Rising xs → Rising ys → ((key : Key) → entry_at xs key ≡ entry_at ys key) → xs ≡ ys
same_rising [] [] first second same = refl
same_rising [] (y ∷ ys) first second same = absurd (none-some y.1 (same y.0 ∙ entry_first y ys))
same_rising (x ∷ xs) [] first second same = absurd (none-some x.1 (sym (same x.0) ∙ entry_first x xs))
same_rising (x ∷ xs) (y ∷ ys) first second same = elim (cases_bool (is_before x.0 y.0)) as (λ _. x ∷ xs ≡ y ∷ ys) [
  | inl before ↦ absurd (entry_missed x y xs ys before second.0 (same x.0))
  | inr not_before ↦ elim (cases_bool (is_before y.0 x.0)) as (λ _. x ∷ xs ≡ y ∷ ys) [
    | inl before ↦ absurd (entry_missed y x ys xs before first.0 (sym (same y.0)))
    | inr not_after ↦
        let keys : x.0 ≡ y.0 = between_same x.0 y.0 not_after not_before in
        let above : Above x.0 ys = rw keys second.0 in
        let as_second : entry_at (y ∷ ys) x.0 ≡ Some y.1 = rw keys (entry_first y ys) in
        let values : x.1 ≡ y.1 = same_Some x.1 y.1 (sym (entry_first x xs) ∙ same x.0 ∙ as_second) in
        let rest = same_rising xs ys first.1 second.1
        (λ key. entry_tails x.0 x.1 y.1 xs ys key first.0 above (same key ∙ ap (λ k. entry_at ((k, y.1) ∷ ys) key) (sym keys))) in
        λ i. (keys i, values i) ∷ rest i
  ]
]

-- ---- entries between two keys

kept_test : (p : Key → Bool) (e : Key × ℕ) (key : Key) (same test : Bool) (rest : Option ℕ) (es : List (Key × ℕ)) → is_same key e.0 ≡ same
    → p e.0 ≡ test → entry_at es key ≡ cond (p key) rest None
    → entry_at (cond test (e ∷ es) es) key ≡ cond (p key) (cond same (Some e.1) rest) None
kept_test p e key true true rest es is tested more =
    let kept : p key ≡ true = ap p (is_same-true key e.0 is) ∙ tested in
    rw (kept, is) refl
kept_test p e key true false rest es is tested more =
    let dropped : p key ≡ false = ap p (is_same-true key e.0 is) ∙ tested in
    more ∙ rw dropped refl
kept_test p e key false true rest es is tested more = ap (λ b. cond b (Some e.1) (entry_at es key)) is ∙ more
kept_test p e key false false rest es is tested more = more

none_either : (test : Bool) (x : Option ℕ) → x ≡ cond test x x
none_either true x = refl
none_either false x = refl

entry_at-filter : (p : Key → Bool) (es : List (Key × ℕ)) (key : Key)
    → entry_at (filter (λ e. p e.0) es) key ≡ cond (p key) (entry_at es key) None
entry_at-filter p [] key = none_either (p key) None
entry_at-filter p (e ∷ es) key = kept_test p e key (is_same key e.0) (p e.0) (entry_at es key) (filter (λ e. p e.0) es) refl refl
    (entry_at-filter p es key)

pub entry_at-between : (lo hi : Key) (es : List (Key × ℕ)) (key : Key)
    → entry_at (between lo hi es) key ≡ cond (is_between lo hi key) (entry_at es key) None
entry_at-between lo hi es key = entry_at-filter (is_between lo hi) es key

-- those of a tree rise
pub between_rises : (size root : ℕ) (lo hi : Key) (state : State) (levels : List (List (ℕ × Content))) (leaves : List (ℕ × Content))
    → IsTree size root state levels leaves → Rising (between lo hi (row_entries leaves))
between_rises size root lo hi state levels leaves tree =
    let listed = between lo hi (row_entries leaves) in
    rw (take_all (length listed) listed (omega arith)) at (lists_rising size root lo hi (length listed) state levels leaves tree)

-- what holds of the keys of entries holds of a key that is found
pub All-entry_at : (P : Key → Type 0) (es : List (Key × ℕ)) (key : Key) (rid : ℕ) → All (λ e. P e.0) es → entry_at es key ≡ Some rid → P key
All-entry_at P [] key rid all here = absurd (none-some rid here)
All-entry_at P (e ∷ es) key rid all here = elim (cases_bool (is_same key e.0)) as (λ _. P key) [
  | inl same ↦ rw (is_same-true key e.0 same) (All-head (λ (e : Key × ℕ). P e.0) e es all)
  | inr other ↦ All-entry_at P es key rid (All-tail (λ (e : Key × ℕ). P e.0) e es all)
      (sym (ap (λ b. cond b (Some e.1) (entry_at es key)) other) ∙ here)
]
