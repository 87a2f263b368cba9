-- Cells stored or met one by one, in the place that is being filled.
use Rattle.std.proofs.Common.{◌≡◌, ◌≢◌, ℕ, List, [], ◌∷◌, ◌++◌, Bool, cond, take, append_assoc, refl, sym, ap, ◌∙◌, ne_eqb, eq-eqb}
use Rattle.core_rule.specs.View.{View, Fill}
use Rattle.core_rule.specs.Holding.{more_cells}
use Rattle.core_rule.specs.Kinds.{fill_cell, meet_cell, after}
use Rattle.core_rule.specs.Hands.{Shared, Seated, StaysReady}
use Rattle.version_pool.specs.Fills.{with_cells, with_more}
use Rattle.version_pool.proofs.Calls.{both-ready}

-- the first cells of a value stand there
pub record Stored (core : Shared) (before : Seated) (cells : List ℕ) (n : ℕ) (now : Seated) : Type 0 where
  pub stays : StaysReady core before now
  pub view : now.view ≡ with_cells before.view (take n cells)

one_cell : (w : ℕ) (fs : List Fill) → more_cells w fs ≡ with_more (w ∷ []) fs
one_cell w [] = refl
one_cell w (f ∷ fs) = refl

with_more-with_more : (xs ys : List ℕ) (fs : List Fill) → with_more ys (with_more xs fs) ≡ with_more (xs ++ ys) fs
with_more-with_more xs ys [] = refl
with_more-with_more xs ys (f ∷ fs) = ap (λ (cells : List ℕ). record f { cells = cells } ∷ fs) (append_assoc f.cells xs ys)

abbrev with_fills : View → List Fill → View
with_fills v fs = record v { places = record v.places { fills = fs } }

-- the view after the next cell was stored; after it was met and shows the word, or another one
pub after-fill_cell : (v : View) (w : ℕ) → after (fill_cell w) v w ≡ with_cells v (w ∷ [])
after-fill_cell v w = ap (with_fills v) (one_cell w v.places.fills)

pub after-met : (v : View) (w n : ℕ) → n ≡ w → after (meet_cell w) v n ≡ with_cells v (w ∷ [])
after-met v w n e =
    ap (λ (b : Bool). with_fills v (cond b (more_cells w v.places.fills) v.places.fills)) (eq-eqb n w e) ∙ after-fill_cell v w

pub after-other : (v : View) (w n : ℕ) → n ≢ w → after (meet_cell w) v n ≡ v
after-other v w n ne = ap (λ (b : Bool). with_fills v (cond b (more_cells w v.places.fills) v.places.fills)) (ne_eqb n w ne)

-- one cell more
pub stored-more : (core : Shared) (before now after' : Seated) (cells : List ℕ) (i i' w : ℕ) → Stored core before cells i now
    → StaysReady core now after' → after'.view ≡ with_cells now.view (w ∷ []) → take i' cells ≡ take i cells ++ w ∷ [] → Stored core before cells i' after'
stored-more core before now after' cells i i' w h stays view more = record {
  stays = both-ready core before now after' h.stays stays;
  view = view ∙ ap (λ (v : View). with_cells v (w ∷ [])) h.view ∙ ap (with_fills before.view) (with_more-with_more (take i cells) (w ∷ []) before.view.places.fills)
      ∙ ap (with_cells before.view) (sym more);
}
