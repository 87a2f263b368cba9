-- The pairs of a row where those of one node change.
use Rattle.std.proofs.Common.{◌≡◌, ℕ, ◌+◌, ◌-◌, zero, suc, List, [], ◌∷◌, ◌++◌, length, get_or, set, take, Option, None, Some, All, refl, sym, ap, ◌∙◌, arith, subst}
use Rattle.std.specs.Prelude.{slice_get, slice_set, swap_remove}
use Rattle.std.proofs.lemmas.Option.{same_Some, none-some}
use Rattle.std.proofs.lemmas.List.{append_assoc, length-append, length_push, set_at, get_or_at, take_at}
use Rattle.std.proofs.lemmas.List.Elements.{All-set, All-take}
use Rattle.hash_index.specs.Chain.{record_at, bucket_of}
use Rattle.hash_index.proofs.Distinct.{Keyed, Changes, changes_insert, changes_remove, changes_replace, moved}

-- a list around one of its elements
pub record Around {X : Type 0} (xs : List X) (i : ℕ) (e : X) : Type 0 where
  pub front : List X
  pub back : List X
  pub joined : xs ≡ front ++ e ∷ back
  pub place : length front ≡ i

pub around : {X : Type 0} (xs : List X) (i : ℕ) (e : X) → slice_get xs i ≡ Some e → Around xs i e
around [] i e there = absurd (none-some e there)
around (x ∷ xs) zero e there = record { front = []; back = xs; joined = ap (λ y. y ∷ xs) (same_Some x e there); place = refl }
around (x ∷ xs) (suc i) e there =
    let more = around xs i e there in
    record { front = x ∷ more.front; back = more.back; joined = ap (λ ys. x ∷ ys) more.joined; place = ap suc more.place }

-- a list with a last element
pub record Ends {X : Type 0} (xs : List X) : Type 0 where
  pub front : List X
  pub last : X
  pub joined : xs ≡ front ++ last ∷ []

pub ends : {X : Type 0} (x : X) (xs : List X) → Ends (x ∷ xs)
ends x [] = record { front = []; last = x; joined = refl }
ends x (y ∷ ys) = let more = ends y ys in record { front = x ∷ more.front; last = more.last; joined = ap (λ zs. x ∷ zs) more.joined }

-- the last element fills the place of the one removed
swapped_last : {X : Type 0} (front : List X) (e d : X) (i : ℕ) → length front ≡ i → swap_remove (front ++ e ∷ []) i d ≡ front
swapped_last front e d i place =
    let last = length (front ++ e ∷ []) - 1 in
    let short : last ≡ length front = omega (arith, length_push front e) in
    ap (take last) (set_at front e [] (get_or (front ++ e ∷ []) last d) i place)
    ∙ ap (λ n. take n (front ++ get_or (front ++ e ∷ []) last d ∷ [])) short
    ∙ take_at front (get_or (front ++ e ∷ []) last d ∷ []) (length front) refl

swapped_inner : {X : Type 0} (front mid : List X) (e l d : X) (i : ℕ) → length front ≡ i → swap_remove (front ++ e ∷ (mid ++ l ∷ [])) i d ≡ front ++ l ∷ mid
swapped_inner front mid e l d i place =
    let whole = front ++ e ∷ (mid ++ l ∷ []) in
    let last = length whole - 1 in
    let long : length whole ≡ length front + suc (length mid + 1) = length-append front (e ∷ (mid ++ l ∷ [])) ∙ ap (λ n. length front + suc n) (length_push mid l) in
    let first : length (front ++ e ∷ mid) ≡ last = omega (arith, length-append front (e ∷ mid)) in
    let read : get_or whole last d ≡ l = ap (λ xs. get_or xs last d) (sym (append_assoc front (e ∷ mid) (l ∷ []))) ∙ get_or_at (front ++ e ∷ mid) l [] d last first in
    let kept : length (front ++ l ∷ mid) ≡ last = omega (arith, length-append front (l ∷ mid)) in
    ap (λ x. take last (set whole i x)) read
    ∙ ap (take last) (set_at front e (mid ++ l ∷ []) l i place ∙ sym (append_assoc front (l ∷ mid) (l ∷ [])))
    ∙ take_at (front ++ l ∷ mid) (l ∷ []) last kept

-- the pairs of a row around one pair of a node
gather : {X : Type 0} (before front back after : List X) (e : X) → before ++ ((front ++ e ∷ back) ++ after) ≡ (before ++ front) ++ e ∷ (back ++ after)
gather before front back after e = ap (λ xs. before ++ xs) (append_assoc front (e ∷ back) after) ∙ sym (append_assoc before front (e ∷ (back ++ after)))

pub along : (bucket key : ℕ) (value : Option ℕ) (old old' new new' : List (ℕ × ℕ)) → old ≡ old' → new ≡ new' → Changes bucket key value old' new' → Changes bucket key value old new
along bucket key value old old' new new' same_old same_new changes =
    let P : List (ℕ × ℕ) → List (ℕ × ℕ) → Type 0 = Changes bucket key value in
    subst (λ x. P x new) (sym same_old) (subst (λ y. P old' y) (sym same_new) changes)

pub keyed_along : (bucket : ℕ) (old old' : List (ℕ × ℕ)) → old ≡ old' → Keyed bucket old → Keyed bucket old'
keyed_along bucket old old' same keyed = let P : List (ℕ × ℕ) → Type 0 = Keyed bucket in subst P same keyed

pub pairs_replaced : (bucket key old rid index : ℕ) (before pairs after : List (ℕ × ℕ)) → slice_get pairs index ≡ Some (key, old) → bucket_of key ≡ bucket → Keyed bucket (before ++ (pairs ++ after)) → Changes bucket key (Some rid) (before ++ (pairs ++ after)) (before ++ (slice_set pairs index (key, rid) ++ after))
pairs_replaced bucket key old rid index before pairs after there belongs keyed =
    let at = around pairs index (key, old) there in
    let was : before ++ (pairs ++ after) ≡ (before ++ at.front) ++ (key, old) ∷ (at.back ++ after) = ap (λ ps. before ++ (ps ++ after)) at.joined ∙ gather before at.front at.back after (key, old) in
    let now : before ++ (slice_set pairs index (key, rid) ++ after) ≡ (before ++ at.front) ++ (key, rid) ∷ (at.back ++ after) =
    ap (λ ps. before ++ (slice_set ps index (key, rid) ++ after)) at.joined
    ∙ ap (λ ps. before ++ (ps ++ after)) (set_at at.front (key, old) at.back (key, rid) index at.place)
    ∙ gather before at.front at.back after (key, rid) in
    along bucket key (Some rid) _ _ _ _ was now (changes_replace bucket key old rid (before ++ at.front) (at.back ++ after) belongs (keyed_along bucket _ _ was keyed))

pub pairs_added : (bucket key rid : ℕ) (before pairs after : List (ℕ × ℕ)) → bucket_of key ≡ bucket → Keyed bucket (before ++ (pairs ++ after)) → record_at (before ++ (pairs ++ after)) key ≡ None → Changes bucket key (Some rid) (before ++ (pairs ++ after)) (before ++ ((pairs ++ (key, rid) ∷ []) ++ after))
pairs_added bucket key rid before pairs after belongs keyed absent =
    let was : before ++ (pairs ++ after) ≡ (before ++ pairs) ++ after = sym (append_assoc before pairs after) in
    let now = gather before pairs [] after (key, rid) in
    along bucket key (Some rid) _ _ _ _ was now (changes_insert bucket key rid (before ++ pairs) after belongs (keyed_along bucket _ _ was keyed) (ap (λ ps. record_at ps key) (sym was) ∙ absent))

removed_by : (back : List (ℕ × ℕ)) (bucket key old index : ℕ) (before front after : List (ℕ × ℕ)) → length front ≡ index → Keyed bucket (before ++ ((front ++ (key, old) ∷ back) ++ after)) → Changes bucket key None (before ++ ((front ++ (key, old) ∷ back) ++ after)) (before ++ (swap_remove (front ++ (key, old) ∷ back) index (key, old) ++ after))
removed_by [] bucket key old index before front after place keyed =
    let was = gather before front [] after (key, old) in
    let now : before ++ (swap_remove (front ++ (key, old) ∷ []) index (key, old) ++ after) ≡ (before ++ front) ++ after = ap (λ ps. before ++ (ps ++ after)) (swapped_last front (key, old) (key, old) index place) ∙ sym (append_assoc before front after) in
    along bucket key None _ _ _ _ was now (changes_remove bucket key old (before ++ front) after (keyed_along bucket _ _ was keyed))
removed_by (x ∷ back) bucket key old index before front after place keyed =
    let last = ends x back in
    let front_of : List (ℕ × ℕ) = before ++ front in
    let was : before ++ ((front ++ (key, old) ∷ x ∷ back) ++ after) ≡ front_of ++ (key, old) ∷ (last.front ++ last.last ∷ after) =
    gather before front (x ∷ back) after (key, old)
    ∙ ap (λ ps. front_of ++ (key, old) ∷ (ps ++ after)) last.joined
    ∙ ap (λ ps. front_of ++ (key, old) ∷ ps) (append_assoc last.front (last.last ∷ []) after) in
    let gone = changes_remove bucket key old front_of (last.front ++ last.last ∷ after) (keyed_along bucket _ _ was keyed) in
    let forward = moved bucket front_of last.front after last.last gone.keyed in
    let now : before ++ (swap_remove (front ++ (key, old) ∷ x ∷ back) index (key, old) ++ after) ≡ front_of ++ last.last ∷ (last.front ++ after) =
    ap (λ ps. before ++ (swap_remove (front ++ (key, old) ∷ ps) index (key, old) ++ after)) last.joined
    ∙ ap (λ ps. before ++ (ps ++ after)) (swapped_inner front last.front (key, old) last.last (key, old) index place)
    ∙ gather before front last.front after last.last in
    along bucket key None _ _ _ _ was now (record { keyed = forward.0; at_key = λ other. forward.1 other ∙ gone.at_key other })

pub pairs_removed : (bucket key old index : ℕ) (before pairs after : List (ℕ × ℕ)) → slice_get pairs index ≡ Some (key, old) → Keyed bucket (before ++ (pairs ++ after)) → Changes bucket key None (before ++ (pairs ++ after)) (before ++ (swap_remove pairs index (key, old) ++ after))
pairs_removed bucket key old index before pairs after there keyed =
    let at = around pairs index (key, old) there in
    along bucket key None _ _ _ _ (ap (λ ps. before ++ (ps ++ after)) at.joined) (ap (λ ps. before ++ (swap_remove ps index (key, old) ++ after)) at.joined)
    (removed_by at.back bucket key old index before at.front after at.place (keyed_along bucket _ _ (ap (λ ps. before ++ (ps ++ after)) at.joined) keyed))

last_holds : {X : Type 0} (P : X → Type 0) (xs : List X) (d : X) → All P xs → P d → P (get_or xs (length xs - 1) d)
last_holds P [] d all holds = holds
last_holds P (x ∷ xs) d all holds = all (length (x ∷ xs) - 1) d (omega arith)

pub all_swap_remove : {X : Type 0} (P : X → Type 0) (xs : List X) (i : ℕ) (d : X) → All P xs → P d → All P (swap_remove xs i d)
all_swap_remove P xs i d all holds = All-take P (length xs - 1) (set xs i (get_or xs (length xs - 1) d)) (All-set P xs i (get_or xs (length xs - 1) d) (last_holds P xs d all holds) all)
