-- Each step on the queue keeps the rule.
use Rattle.std.proofs.Common.{◌≡◌, ◌≢◌, ℕ, zero, suc, ◌+◌, ◌<◌, ⊎_elim, true, false, true≢false, List, [], ◌∷◌, ◌++◌, length, set, refl, sym, ap, ◌∙◌, subst, arith, append_assoc, replicate}
use Rattle.lane_queue.specs.declared.lane.Item.TheVariants.{Next, End}
use Rattle.std.specs.List.Sorted.{IsPermutation}
use Rattle.std.proofs.lemmas.List.Sums.{sum_by-append}
use Rattle.std.proofs.lemmas.List.{append-nil}
use Rattle.std.proofs.lemmas.List.Sorted.{IsPermutation-refl, IsPermutation-trans, IsPermutation-append_left, IsPermutation-middle, length_permutation}
use mathlib.Core.Option.{some-injective, some-ne-none}
use Rattle.crossbeam_queue.specs.Fifo.{Pushes, Pops, Forks, Merges, Learns}
use Rattle.crossbeam_queue.proofs.Lists.{at_set, at_snoc}
use Rattle.lane_queue.specs.declared.lane.Lane.{Lane}
use Rattle.lane_queue.specs.View.{View, first_view, spent_view, put_view, taken_view, left_view, right_view, both_views}
use Rattle.lane_queue.specs.Subsequences.{IsSubsequence}
use Rattle.lane_queue.specs.Rule.{contents, gathered, At, Each, Fits, Kept}
use Rattle.lane_queue.proofs.ViewSums.{share, sum_set, sum_least, others_spent, alone_sum}
use Rattle.lane_queue.proofs.Gathered.{alone_gathered, gathered_same, gathered_append, put_in, taken_in}
use Rattle.lane_queue.proofs.Contents.{head_of, tail_of, contents-lane, contents-end, length-contents}
use Rattle.lane_queue.proofs.Subsequences.{IsSubsequence-without, IsSubsequence-behind, IsSubsequence-front, IsSubsequence-snoc}

spent_fits : (lanes left : List Lane) → Fits lanes left spent_view
spent_fits lanes left = record { idle = λ _. refl; same = λ p. absurd (omega (arith, p)); done = λ e. absurd (true≢false (sym e)); order = λ e. absurd (true≢false (sym e)) }

each_set : (P Q : View → Type 0) (vs : List View) (i : ℕ) (w : View) → Q w → ((j : ℕ) (u : View) → j ≢ i → At vs j u → P u → Q u) → Each P vs → Each Q (set vs i w)
each_set P Q vs i w mine others each j u at = ⊎_elim (λ (t : (j ≡ i) × (w ≡ u)). subst Q t.1 mine) (λ (t : (j ≢ i) × At vs j u). others j u t.0 t.1 (each j u t.1)) (at_set vs i j w u at)

pub begins : Kept [] (first_view ∷ [])
begins = record {
  lanes = [];
  left = [];
  ends = 0;
  items_are = refl;
  shares = refl;
  ending = refl;
  each_once = IsPermutation-refl [];
  each = λ j v at. only j v at;
}
  where
    only : (j : ℕ) (v : View) → At (first_view ∷ []) j v → Fits [] [] v
    only zero v at = subst (Fits [] []) (some-injective first_view v at) (record { idle = λ e. absurd (omega (arith, e)); same = λ _. refl; done = λ _. refl; order = λ _. tt })
    only (suc j) v at = absurd (some-ne-none v (sym at))

pub push_lane : (n pass : ℕ) (v : View) (lane : Lane) → v.share ≡ 64 → v.ends ≡ 0 → v.ended ≡ false → Pushes Kept n pass v (Next lane) (λ w. w ≡ put_view v (Next lane))
push_lane n pass v lane whole no_ends goes items views room k at =
    let w : View = put_view v (Next lane) in
    let spent = others_spent k.lanes k.left views pass v k.each at (k.shares ∙ sym whole) in
    let none : k.ends ≡ 0 = sym k.ending ∙ alone_sum (λ (y : View). y.ends) refl views pass v at spent ∙ no_ends in
    let lanes' = k.lanes ++ lane ∷ [] in let left' = k.left ++ lane ∷ [] in
    let own = (k.each pass v at) in (
      w,
      record {
        lanes = lanes';
        left = left';
        ends = 0;
        items_are = ap (λ l. l ++ Next lane ∷ []) (k.items_are ∙ ap (contents k.left) none) ∙ contents-lane k.left lane;
        shares = (let s = sum_set share views pass v w at in let t = k.shares in omega (arith, s, t));
        ending = (let s = sum_set (λ (y : View). y.ends) views pass v w at in let t = k.ending in omega (arith, s, t, none));
        each_once =
            subst (λ (y : List Lane). IsPermutation lanes' y)
            (append_assoc (gathered views) k.left (lane ∷ []) ∙ ap (λ l. l ++ left') (sym (gathered_same views pass v w at refl)))
            (IsPermutation-append_left (lane ∷ []) k.lanes (gathered views ++ k.left) k.each_once);
        each = each_set (Fits k.lanes k.left) (Fits lanes' left') views pass w
            (record { idle = (λ e. absurd (omega (arith, e, whole))); same = (λ p. ap (λ l. l ++ lane ∷ []) (own.same p)); done = (λ e. absurd (true≢false (sym e ∙ goes))); order = (λ o. subst (λ (y : List Lane). IsSubsequence y lanes') (append_assoc v.took k.left (lane ∷ [])) (IsSubsequence-snoc (v.took ++ k.left) k.lanes lane (own.order o))) })
            (λ j u ne a _. subst (Fits lanes' left') (sym (spent j u ne a)) (spent_fits lanes' left')) k.each;
      },
      refl,
    )

pub push_end : (n pass : ℕ) (v : View) → v.share ≡ 64 → Pushes Kept n pass v End (λ w. w ≡ put_view v End)
push_end n pass v whole items views room k at =
    let w : View = put_view v End in
    let own = (k.each pass v at) in (
      w,
      record {
        lanes = k.lanes;
        left = k.left;
        ends = k.ends + 1;
        items_are = ap (λ l. l ++ End ∷ []) k.items_are ∙ contents-end k.left k.ends;
        shares = (let s = sum_set share views pass v w at in let t = k.shares in omega (arith, s, t));
        ending = (let s = sum_set (λ (y : View). y.ends) views pass v w at in let t = k.ending in omega (arith, s, t));
        each_once = subst (λ (y : List Lane). IsPermutation k.lanes (y ++ k.left)) (sym (gathered_same views pass v w at refl)) k.each_once;
        each = each_set (Fits k.lanes k.left) (Fits k.lanes k.left) views pass w
            (record { idle = (λ e. absurd (omega (arith, e, whole))); same = own.same; done = own.done; order = own.order }) (λ j u ne a f. f) k.each;
      },
      refl,
    )

share_of : (lanes left : List Lane) (v : View) → Fits lanes left v → 0 < v.ends → 0 < v.share
share_of lanes left v f some_end = not_none v.share refl
  where
    not_none : (n : ℕ) → v.share ≡ n → 0 < v.share
    not_none zero e = let z : v.ends ≡ 0 = ap (λ (y : View). y.ends) (f.idle e) in absurd (omega (arith, z, some_end))
    not_none (suc n) e = omega (arith, e)

pub pops : (pass : ℕ) (v : View) → 0 < v.ends → Pops Kept pass v (λ x w. (w ≡ taken_view v x) × (v.single ≡ true → IsSubsequence w.took w.lanes))
pops pass v some_end x items views k at = by_left k.left refl
  where
    own : Fits k.lanes k.left v
    own = k.each pass v at

    some_share : 0 < v.share
    some_share = share_of k.lanes k.left v own some_end

    a_lane : (lane : Lane) (left : List Lane) → k.left ≡ lane ∷ left → x ≡ Next lane → items ≡ contents left k.ends → (w : View) × Kept items (set views pass w) × ((w ≡ taken_view v x) × (v.single ≡ true → IsSubsequence w.took w.lanes))
    a_lane lane left is x_is rest =
        let w : View = taken_view v (Next lane) in
        let before : IsPermutation k.lanes (gathered views ++ lane ∷ left) = subst (λ (y : List Lane). IsPermutation k.lanes (gathered views ++ y)) is k.each_once in
        let none_ended : (u : View) → Fits k.lanes k.left u → u.ended ≡ true → ⊥ = λ u f e. cons_ne_nil (sym is ∙ f.done e) in
        let in_order : v.single ≡ true → IsSubsequence ((v.took ++ lane ∷ []) ++ left) k.lanes =
        λ o. subst (λ (y : List Lane). IsSubsequence y k.lanes) (sym (append_assoc v.took (lane ∷ []) left)) (subst (λ (y : List Lane). IsSubsequence (v.took ++ y) k.lanes) is (own.order o)) in
        let moved : IsPermutation (gathered views ++ lane ∷ left) (gathered (set views pass w) ++ left) =
        IsPermutation-trans (gathered views ++ lane ∷ left) (lane ∷ (gathered views ++ left)) (gathered (set views pass w) ++ left) (IsPermutation-middle (gathered views) lane left)
        (IsPermutation-append_left left (lane ∷ gathered views) (gathered (set views pass w)) (put_in views pass v w (lane ∷ []) at refl)) in (
          w,
          record {
            lanes = k.lanes;
            left = left;
            ends = k.ends;
            items_are = rest;
            shares = (let s = sum_set share views pass v w at in let t = k.shares in omega (arith, s, t));
            ending = (let s = sum_set (λ (y : View). y.ends) views pass v w at in let t = k.ending in omega (arith, s, t));
            each_once = IsPermutation-trans k.lanes (gathered views ++ lane ∷ left) (gathered (set views pass w) ++ left) before moved;
            each = each_set (Fits k.lanes k.left) (Fits k.lanes left) views pass w
                (record { idle = (λ e. absurd (omega (arith, e, some_share))); same = own.same; done = (λ e. absurd (none_ended v own e)); order = in_order })
                (λ j u ne a f. record { idle = f.idle; same = f.same; done = (λ e. absurd (none_ended u f e)); order = (λ o. IsSubsequence-without u.took lane left k.lanes (subst (λ (y : List Lane). IsSubsequence (u.took ++ y) k.lanes) is (f.order o))) }) k.each;
          },
          (ap (taken_view v) (sym x_is), λ o. subst (IsSubsequence (v.took ++ lane ∷ [])) (sym (own.same some_share)) (IsSubsequence-front (v.took ++ lane ∷ []) left k.lanes (in_order o))),
        )
      where
        cons_ne_nil : lane ∷ left ≡ [] → ⊥
        cons_ne_nil e = let l : suc (length left) ≡ 0 = ap length e in omega (arith, l)

    an_end : (n : ℕ) → k.left ≡ [] → k.ends ≡ suc n → x ≡ End → items ≡ contents [] n → (w : View) × Kept items (set views pass w) × ((w ≡ taken_view v x) × (v.single ≡ true → IsSubsequence w.took w.lanes))
    an_end n is ends x_is rest =
        let w : View = taken_view v End in (
          w,
          record {
            lanes = k.lanes;
            left = [];
            ends = n;
            items_are = rest;
            shares = (let s = sum_set share views pass v w at in let t = k.shares in omega (arith, s, t));
            ending = (let s = sum_set (λ (y : View). y.ends) views pass v w at in let t = k.ending in omega (arith, s, t, ends, some_end));
            each_once =
                subst (λ (y : List Lane). IsPermutation k.lanes (y ++ [])) (sym (gathered_same views pass v w at refl))
                (subst (λ (y : List Lane). IsPermutation k.lanes (gathered views ++ y)) is k.each_once);
            each = each_set (Fits k.lanes k.left) (Fits k.lanes []) views pass w
                (record { idle = (λ e. absurd (omega (arith, e, some_share))); same = own.same; done = (λ _. refl); order = (λ o. subst (λ (y : List Lane). IsSubsequence (v.took ++ y) k.lanes) is (own.order o)) })
                (λ j u ne a f. record { idle = f.idle; same = f.same; done = (λ _. refl); order = (λ o. subst (λ (y : List Lane). IsSubsequence (u.took ++ y) k.lanes) is (f.order o)) }) k.each;
          },
          (ap (taken_view v) (sym x_is), λ o. subst (IsSubsequence v.took) (sym (own.same some_share)) (IsSubsequence-front v.took k.left k.lanes (own.order o))),
        )

    by_left : (left : List Lane) → k.left ≡ left → (w : View) × Kept items (set views pass w) × ((w ≡ taken_view v x) × (v.single ≡ true → IsSubsequence w.took w.lanes))
    by_left (lane ∷ left) is =
        let e : x ∷ items ≡ Next lane ∷ contents left k.ends = k.items_are ∙ ap (λ l. contents l k.ends) is in
        a_lane lane left is (head_of x (Next lane) items (contents left k.ends) e) (tail_of x (Next lane) items (contents left k.ends) e)
    by_left [] is = by_ends k.ends refl
      where
        by_ends : (n : ℕ) → k.ends ≡ n → (w : View) × Kept items (set views pass w) × ((w ≡ taken_view v x) × (v.single ≡ true → IsSubsequence w.took w.lanes))
        by_ends zero z = let s = sum_least (λ (y : View). y.ends) views pass v at in let t = k.ending in absurd (omega (arith, s, t, z, some_end))
        by_ends (suc n) z =
            let e : x ∷ items ≡ End ∷ replicate n End = k.items_are ∙ ap (λ l. contents l k.ends) is ∙ ap (λ m. replicate m End) z in
            an_end n is z (head_of x End items (replicate n End) e) (tail_of x End items (replicate n End) e)

pub forks : (pass : ℕ) (v : View) → 1 < v.share → 0 < v.ends → v.single ≡ true → Forks Kept pass v (left_view v) (right_view v)
forks pass v shares_are some_end single items views k at =
    let l : View = left_view v in let r : View = right_view v in let vs = set views pass l in
    let own = (k.each pass v at) in
    let lanes_are : v.lanes ≡ k.lanes = own.same (omega (arith, shares_are)) in
    let same : gathered (vs ++ r ∷ []) ≡ gathered views = gathered_append vs (r ∷ []) ∙ append-nil (gathered vs) ∙ gathered_same views pass v l at refl in
    let now : Each (Fits k.lanes k.left) vs = each_set (Fits k.lanes k.left) (Fits k.lanes k.left) views pass l
    (record { idle = (λ e. absurd (omega (arith, e, shares_are))); same = (λ _. lanes_are); done = own.done; order = own.order }) (λ j u ne a f. f) k.each in
    record {
      lanes = k.lanes;
      left = k.left;
      ends = k.ends;
      items_are = k.items_are;
      shares = (let s = sum_set share views pass v l at in let t = k.shares in let a = sum_by-append share vs (r ∷ []) in omega (arith, s, t, a, shares_are));
      ending = (let s = sum_set (λ (y : View). y.ends) views pass v l at in let t = k.ending in let a = sum_by-append (λ (y : View). y.ends) vs (r ∷ []) in omega (arith, s, t, a, some_end));
      each_once = subst (λ (y : List Lane). IsPermutation k.lanes (y ++ k.left)) (sym same) k.each_once;
      each = λ j u a. ⊎_elim (λ (t : At vs j u). now j u t)
          (λ (t : r ≡ u). subst (Fits k.lanes k.left) t (record { idle = (λ e. absurd (omega (arith, e))); same = (λ _. lanes_are); done = (λ e. absurd (true≢false (sym e))); order = (λ _. IsSubsequence-behind v.took k.left k.lanes (own.order single)) })) (at_snoc vs r u j a);
    }

pub merges : (pass : ℕ) (v : View) (other : ℕ) (u : View) → 0 < v.share → 0 < u.share → Merges Kept pass v other u (both_views v u) spent_view
merges pass v other u some_share their_share items views k at ne at_both =
    let b : View = both_views v u in let vs = set views pass b in
    let own = (k.each pass v at) in
    let at_u : At views other u = ⊎_elim (λ (t : (other ≡ pass) × (b ≡ u)). absurd (ne t.0)) (λ (t : (other ≢ pass) × At views other u). t.1) (at_set views pass other b u at_both) in
    let mine : Fits k.lanes k.left b = record { idle = (λ e. absurd (omega (arith, e, some_share))); same = (λ _. own.same some_share); done = own.done; order = (λ e. absurd (true≢false (sym e))) } in
    let now : Each (Fits k.lanes k.left) vs = each_set (Fits k.lanes k.left) (Fits k.lanes k.left) views pass b mine (λ j y n a f. f) k.each in
    record {
      lanes = k.lanes;
      left = k.left;
      ends = k.ends;
      items_are = k.items_are;
      shares = (let s = sum_set share views pass v b at in let t = k.shares in let a = sum_set share vs other u spent_view at_both in omega (arith, s, t, a));
      ending = (let e : View → ℕ = λ y. y.ends in let s = sum_set e views pass v b at in let t = k.ending in let a = sum_set e vs other u spent_view at_both in omega (arith, s, t, a));
      each_once =
          IsPermutation-trans k.lanes (gathered views ++ k.left) (gathered (set vs other spent_view) ++ k.left) k.each_once
          (IsPermutation-append_left k.left (gathered views) (gathered (set vs other spent_view)) (taken_in views pass other v u b ne at at_u refl));
      each = each_set (Fits k.lanes k.left) (Fits k.lanes k.left) vs other spent_view (spent_fits k.lanes k.left) (λ j y n a f. f) now;
    }

pub learns_end : (pass : ℕ) (v : View) → 0 < v.ends → Learns Kept pass v (λ items. 0 < length items)
learns_end pass v some_end items views k at =
    let s = sum_least (λ (y : View). y.ends) views pass v at in let t = k.ending in
    let n : length items ≡ length k.left + k.ends = ap length k.items_are ∙ length-contents k.left k.ends in omega (arith, s, t, n, some_end)

pub learns_length : (pass : ℕ) (v : View) → v.share ≡ 64 → v.took ≡ [] → Learns Kept pass v (λ items. length items ≡ length v.lanes + v.ends)
learns_length pass v whole none items views k at =
    let spent = others_spent k.lanes k.left views pass v k.each at (k.shares ∙ sym whole) in
    let ends : k.ends ≡ v.ends = sym k.ending ∙ alone_sum (λ (y : View). y.ends) refl views pass v at spent in
    let took : gathered views ≡ [] = alone_gathered views pass v at spent ∙ none in
    let lanes : v.lanes ≡ k.lanes = (k.each pass v at).same (omega (arith, whole)) in
    let count : length k.left ≡ length k.lanes = ap (λ l. length (l ++ k.left)) (sym took) ∙ length_permutation k.lanes (gathered views ++ k.left) k.each_once in
    let n : length items ≡ length k.left + k.ends = ap length k.items_are ∙ length-contents k.left k.ends in
    let m : length v.lanes ≡ length k.lanes = ap length lanes in omega (arith, n, ends, count, m)

pub learns_all : (pass : ℕ) (v : View) → v.share ≡ 64 → v.ended ≡ true → Learns Kept pass v (λ _. IsPermutation v.lanes v.took)
learns_all pass v whole ended items views k at =
    let spent = others_spent k.lanes k.left views pass v k.each at (k.shares ∙ sym whole) in
    let own = (k.each pass v at) in
    let took : gathered views ++ k.left ≡ v.took = ap (λ l. gathered views ++ l) (own.done ended) ∙ append-nil (gathered views) ∙ alone_gathered views pass v at spent in
    subst (λ (y : List Lane × List Lane). IsPermutation y.0 y.1) (λ i. (sym (own.same (omega (arith, whole))) i, took i)) k.each_once
