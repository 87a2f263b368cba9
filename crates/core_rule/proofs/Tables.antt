-- From the rule over named words to the list of words of a table.
use Rattle.std.proofs.Common.{◌≡◌, ℕ, ◌<◌, true, false, Bool, cond, List, [], ◌∷◌, length, get_or, set, refl, sym, ap, ◌∙◌, subst, arith, length-set, get_or-set_other, get_or-set_same}
use Rattle.std.proofs.lemmas.List.{set-get_or}
use Rattle.atomic_table.specs.Table.{Me, keeps, Allows, Splits, Joins, opening}
use Rattle.atomic_table.proofs.Lists.{set_else}
use Rattle.atomic_table.specs.Seated.{TableId}
use Rattle.plain_data.specs.State.{State, empty_state}
use Rattle.word_layout.specs.Size.{Size, IsSize, words}
use Rattle.word_layout.specs.Name.{Name, IsNamed, is_named, name_eq, word_of}
use Rattle.word_layout.proofs.Names.{Decides-is_named, Decides-name_eq}
use Rattle.word_layout.proofs.Words.{word_of-below, word_of-injective}
use Rattle.core_rule.specs.View.{View, first_view, spent_view}
use Rattle.core_rule.specs.Memory.{Memory, memory, put, starts_with}
use Rattle.core_rule.specs.World.{first_world}
use Rattle.core_rule.specs.Ways.{Way, loads, meets, looks_for, Looks, stores, raises_to, exchanges, swaps, effect, told, written, seen_after}
use Rattle.core_rule.specs.Offers.{HasOfferedBoth, IsSettled}
use Rattle.core_rule.specs.Searching.{Ends}
use Rattle.core_rule.specs.Kinds.{Kind, name, way, next, after, splitting_after, turned, changed, Allowed}
use Rattle.core_rule.specs.Learnt.{Told, Learnt}
use Rattle.core_rule.specs.Hands.{Shared, split_left, split_right, joined_view, IsRetired}
use Rattle.core_rule.specs.Rule.{Rule, Holds}
use Rattle.core_rule.proofs.Step.{Step}
use Rattle.core_rule.proofs.RuleKept.{rule_kept, rule_split, rule_joined, rule_start}
use Rattle.core_rule.proofs.Parts.LearntKept.{learnt}

module _ (z : Size) (ws : List ℕ) (n : Name) (x : ℕ) (sized : length ws ≡ words z) (named : IsNamed z n) where
  -- the word of a name, and every other
  set_at : (k : Name) (there same : Bool) → is_named z k ≡ there → name_eq n k ≡ same
      → cond there (get_or (set ws (word_of z n) x) (word_of z k) 0) 0 ≡ cond same x (cond there (get_or ws (word_of z k) 0) 0)
  set_at k true true e f =
      let same : n ≡ k = (Decides-name_eq n k).0 f in
      let below = word_of-below z n named in
      subst (λ (j : Name). get_or (set ws (word_of z n) x) (word_of z j) 0 ≡ x) same (get_or-set_same ws (word_of z n) x 0 (omega arith))
  set_at k true false e f =
      get_or-set_other ws (word_of z n) (word_of z k) x 0
      (λ same. let apart = word_of-injective z n k named ((Decides-is_named z k).0 e) (sym same) in let t = (Decides-name_eq n k).1 apart in cc)
  set_at k false true e f =
      let same : n ≡ k = (Decides-name_eq n k).0 f in
      let t : is_named z k ≡ true = (Decides-is_named z k).1 (subst (IsNamed z) same named) in cc
  set_at k false false e f = refl

  pub memory-set : memory z (set ws (word_of z n) x) ≡ put (memory z ws) n x
  memory-set i k = set_at k (is_named z k) (name_eq n k) refl refl i

  pub memory-found : memory z ws n ≡ get_or ws (word_of z n) 0
  memory-found = rw ((Decides-is_named z n).1 named)

-- a store at the number of a name
pub memory-store : (z : Size) (ws : List ℕ) (n : Name) (word x : ℕ) → length ws ≡ words z → IsNamed z n → word ≡ word_of z n → memory z (set ws word x) ≡ put (memory z ws) n x
memory-store z ws n word x sized named at = rw at (memory-set z ws n x sized named)

-- a step on the list of words is the step on the named word
pub memory-written : (z : Size) (ws : List ℕ) (w : Way) (n : Name) → length ws ≡ words z → IsNamed z n
    → memory z (set ws (word_of z n) (effect w (get_or ws (word_of z n) 0))) ≡ written w n (memory z ws)
memory-written z ws loads n sized named = ap (memory z) (set-get_or ws (word_of z n) 0)
memory-written z ws meets n sized named = ap (memory z) (set-get_or ws (word_of z n) 0)
memory-written z ws (looks_for a) n sized named = ap (memory z) (set-get_or ws (word_of z n) 0)
memory-written z ws (stores x) n sized named = memory-set z ws n x sized named
memory-written z ws (raises_to x) n sized named = rw (memory-found z ws n x sized named) (memory-set z ws n _ sized named)
memory-written z ws (exchanges a b) n sized named = rw (memory-found z ws n a sized named) (memory-set z ws n _ sized named)
memory-written z ws (swaps x) n sized named = memory-set z ws n x sized named

told_again : (w : Way) (n : ℕ) → told w (told w n) ≡ told w n
told_again loads n = refl
told_again meets n = refl
told_again (looks_for a) n = refl
told_again (stores x) n = refl
told_again (raises_to x) n = refl
told_again (exchanges a b) n = refl
told_again (swaps x) n = refl

-- the view after follows from the number told
pub after-told : (k : Kind) (v : View) (n : ℕ) → after k v n ≡ after k v (told (way k v) n)
after-told k v n =
    ap (λ (t : ℕ). record (next k v t) { splitting = splitting_after k v.splitting; seen = seen_after (way k v) (name k v) t (next k v t).seen }) (sym (told_again (way k v) n))

module _ (kept : State → Type 0) (z : Size) where
  -- whatever the table is, this seat may make a step of this kind
  pub allows : {S : Type 0} (slots id : ℕ) (v : View) (k : Kind) → Allowed kept k v → IsNamed z (name k v)
      → Allows (Holds kept z {S = S}) slots id (v, []) (word_of z (name k v)) (effect (way k v)) (λ n me. (me.1 ≡ []) × Told kept k v (told (way k v) n) me.0)
  allows slots id v k allowed named s holds counted at fits =
      let n = name k v in
      let found = memory-found z s.words n 0 holds.sized named in
      let m = memory z s.words in
      let step : Step kept z holds.world m s.views id v k = record { rule = holds.rule; at = at; allowed = allowed; fits = rw found fits } in
      let rule' = rule_kept kept z holds.world m s.views id v k step in (
        after k v (get_or s.words (word_of z n) 0),
        keeps,
        tt,
        record {
          sized = length-set s.words (word_of z n) _ ∙ holds.sized;
          world = turned k v (get_or s.words (word_of z n) 0) holds.world;
          rule = subst (λ (w : Memory). Rule kept z (turned k v (get_or s.words (word_of z n) 0) holds.world) w (set s.views id (after k v (get_or s.words (word_of z n) 0)))) (sym (memory-written z s.words (way k v) n holds.sized named))
              (subst (λ (x : ℕ). Rule kept z (turned k v x holds.world) (changed k v m) (set s.views id (after k v x))) found rule');
        },
        (refl, record { view = after-told k v _; learnt = subst (λ (x : ℕ). Learnt kept k v (told (way k v) x)) found (learnt kept z holds.world m s.views id v k step) }),
      )

  -- the same for a seat as the table has it, at a word and a way that are those of the kind
  pub allows_as : {S : Type 0} (slots id : ℕ) (me : Me S View) (k : Kind) (w : Way) (word : ℕ) → Allowed kept k me.0 → IsNamed z (name k me.0) → me.1 ≡ [] → word ≡ word_of z (name k me.0)
      → way k me.0 ≡ w → Allows (Holds kept z {S = S}) slots id me word (effect w) (λ n after'. (after'.1 ≡ []) × Told kept k me.0 (told w n) after'.0)
  allows_as {S} slots id me k w word allowed named bare at is =
      let P : List (ℕ × S) → Type 0 = λ xs. Allows (Holds kept z {S = S}) slots id (me.0, xs) word (effect w) (λ n after'. (after'.1 ≡ []) × Told kept k me.0 (told w n) after'.0) in
      subst P (sym bare)
      (subst (λ (i : ℕ). Allows (Holds kept z {S = S}) slots id (me.0, []) i (effect w) (λ n after'. (after'.1 ≡ []) × Told kept k me.0 (told w n) after'.0)) (sym at)
      (subst (λ (x : Way). Allows (Holds kept z {S = S}) slots id (me.0, []) (word_of z (name k me.0)) (effect x) (λ n after'. (after'.1 ≡ []) × Told kept k me.0 (told x n) after'.0)) is
      (allows slots id me.0 k allowed named)))

  -- the seat that makes seats may make the next one
  pub splits : {S : Type 0} (id : ℕ) (v : View) → v.spent ≡ false → HasOfferedBoth v.splitting → Ends v.work → Splits (Holds kept z {S = S}) id v (split_left v) (split_right v)
  splits id v is_open offered ends s holds at = record {
    sized = holds.sized;
    world = holds.world;
    rule = rule_split kept z holds.world (memory z s.words) s.views id v record { rule = holds.rule; at = at; is_open = is_open; offered = offered; ends = ends };
  }

  -- a seat may take in one that is retired
  pub joins : {S : Type 0} (id other : ℕ) (v w : View) → v.spent ≡ false → w.spent ≡ false → IsSettled v.splitting → IsSettled w.splitting → IsRetired w → w.places.held ≡ [] → Ends v.work → Ends w.work
      → Joins (Holds kept z {S = S}) id v other w (joined_view v w) spent_view
  joins id other v w is_open other_open settled other_settled retired holds_none ends other_ends s holds at apart at_other = record {
    sized = holds.sized;
    world = holds.world;
    rule = rule_joined kept z holds.world (memory z s.words) s.views id v other w record {
      rule = holds.rule;
      at = at;
      at_other = sym (set_else s.views id other (joined_view v w) apart) ∙ at_other;
      apart = λ e. apart (sym e);
      is_open = is_open;
      other_open = other_open;
      settled = settled;
      other_settled = other_settled;
      retired = retired;
      holds_none = holds_none;
      ends = ends;
      other_ends = other_ends;
    };
  }

  -- a table whose words are those of the start
  pub opens : {S : Type 0} (ws : List ℕ) → IsSize z → kept empty_state → length ws ≡ words z → ((n : Name) → IsNamed z n → memory z ws n ≡ starts_with z n)
      → Holds kept z (opening {S = S} ws [] (first_view z))
  opens ws has_seat keeps_empty sized each = record {
    sized = sized;
    world = first_world z;
    rule = subst (λ (w : Memory). Rule kept z (first_world z) w (first_view z ∷ [])) (λ i k. sym (as_start k (is_named z k) refl) i) (rule_start kept z has_seat keeps_empty);
  } where
    as_start : (k : Name) (b : Bool) → is_named z k ≡ b → cond b (get_or ws (word_of z k) 0) 0 ≡ cond b (starts_with z k) 0
    as_start k true e = subst (λ (b : Bool). cond b (get_or ws (word_of z k) 0) 0 ≡ starts_with z k) e (each k ((Decides-is_named z k).0 e))
    as_start k false e = refl

-- what a call of one of the table's operations asks, from what the shared table and the seat are
pub asks : (kept : State → Type 0) {S : Type 0} (table : TableId) (layout key : Size) (seen : Shared) (seat_table : TableId) (id : ℕ) (me : Me S View) (k : Kind) (w : Way) (word : ℕ)
    → record { table = table; size = layout } ≡ seen → (key ≡ layout) × (table.words ≡ words layout) → seat_table ≡ seen.table → Allowed kept k me.0 → IsNamed seen.size (name k me.0) → me.1 ≡ []
    → word ≡ word_of seen.size (name k me.0) → way k me.0 ≡ w
    → (seat_table ≡ table) × (word < table.words) × Allows (Holds kept key {S = S}) table.slots id me word (effect w) (λ n after'. (after'.1 ≡ []) × Told kept k me.0 (told w n) after'.0)
asks kept {S} table layout key seen seat_table id me k w word view_is invariant same allowed named bare at is =
    let here : seen.size ≡ key = sym (ap (λ (x : Shared). x.size) view_is) ∙ sym invariant.0 in
    let named' : IsNamed key (name k me.0) = subst (λ (x : Size). IsNamed x (name k me.0)) here named in
    let at' : word ≡ word_of key (name k me.0) = subst (λ (x : Size). word ≡ word_of x (name k me.0)) here at in
    let below = word_of-below key (name k me.0) named' in
    let all : table.words ≡ words key = subst (λ (x : Size). table.words ≡ words x) (sym invariant.0) invariant.1 in (
      same ∙ sym (ap (λ (x : Shared). x.table) view_is),
      omega arith,
      allows_as kept key table.slots id me k w word allowed named' bare at' is,
    )

module _ (kept : State → Type 0) {S : Type 0} (table : TableId) (layout key : Size) (seen : Shared)
    (view_is : record { table = table; size = layout } ≡ seen) (invariant : (key ≡ layout) × (table.words ≡ words layout)) where
  -- a seat that has stored both words of the next seat
  pub splits_asks : (seat_table : TableId) (id : ℕ) (v : View) → seat_table ≡ seen.table → v.spent ≡ false → HasOfferedBoth v.splitting → Ends v.work
      → (seat_table ≡ table) × (0 < table.words) × Splits (Holds kept key {S = S}) id v (split_left v) (split_right v)
  splits_asks seat_table id v same is_open offered ends =
      let all = invariant.1 in (same ∙ sym (ap (λ (x : Shared). x.table) view_is), omega arith, splits kept key id v is_open offered ends)

  pub joins_asks : (seat_table other_table : TableId) (id other : ℕ) (v w : View) (carried : List (ℕ × S)) → seat_table ≡ seen.table → other_table ≡ seen.table → carried ≡ []
      → v.spent ≡ false → w.spent ≡ false → IsSettled v.splitting → IsSettled w.splitting → IsRetired w → w.places.held ≡ [] → Ends v.work → Ends w.work
      → (seat_table ≡ table) × (other_table ≡ table) × (carried ≡ []) × (0 < table.words) × Joins (Holds kept key {S = S}) id v other w (joined_view v w) spent_view
  joins_asks seat_table other_table id other v w carried same other_same bare is_open other_open settled other_settled retired holds_none ends other_ends =
      let all = invariant.1 in (
        same ∙ sym (ap (λ (x : Shared). x.table) view_is),
        other_same ∙ sym (ap (λ (x : Shared). x.table) view_is),
        bare,
        omega arith,
        joins kept key id other v w is_open other_open settled other_settled retired holds_none ends other_ends,
      )

-- the same for a step that stores nothing
pub asks_look : (kept : State → Type 0) {S : Type 0} (table : TableId) (layout key : Size) (seen : Shared) (seat_table : TableId) (id : ℕ) (me : Me S View) (k : Kind) (w : Way) (word : ℕ)
    → record { table = table; size = layout } ≡ seen → (key ≡ layout) × (table.words ≡ words layout) → seat_table ≡ seen.table → Allowed kept k me.0 → IsNamed seen.size (name k me.0) → me.1 ≡ []
    → word ≡ word_of seen.size (name k me.0) → way k me.0 ≡ w → Looks w
    → (seat_table ≡ table) × (word < table.words) × Allows (Holds kept key {S = S}) table.slots id me word (λ n. n) (λ n after'. (after'.1 ≡ []) × Told kept k me.0 n after'.0)
asks_look kept table layout key seen seat_table id me k loads word view_is invariant same allowed named bare at is looks =
    asks kept table layout key seen seat_table id me k loads word view_is invariant same allowed named bare at is
asks_look kept table layout key seen seat_table id me k meets word view_is invariant same allowed named bare at is looks =
    asks kept table layout key seen seat_table id me k meets word view_is invariant same allowed named bare at is
asks_look kept table layout key seen seat_table id me k (looks_for a) word view_is invariant same allowed named bare at is looks =
    asks kept table layout key seen seat_table id me k (looks_for a) word view_is invariant same allowed named bare at is
asks_look kept table layout key seen seat_table id me k (stores x) word view_is invariant same allowed named bare at is looks = absurd looks
asks_look kept table layout key seen seat_table id me k (raises_to x) word view_is invariant same allowed named bare at is looks = absurd looks
asks_look kept table layout key seen seat_table id me k (exchanges a b) word view_is invariant same allowed named bare at is looks = absurd looks
asks_look kept table layout key seen seat_table id me k (swaps x) word view_is invariant same allowed named bare at is looks = absurd looks
