-- How spare numbers are put into the queue, one after another.
use Rattle.std.proofs.Common.{◌≡◌, ◌⊎◌, ℕ, ◌<◌, ◌≤◌, ◌+◌, Bool, true, false, ◌||◌, List, [], ◌∷◌, ◌++◌, Some, length, map, reverse, inl, inr, refl, sym, ap, subst, ◌∙◌, append_assoc, arith}
use Rattle.std.specs.List.{list_any}
use Rattle.std.proofs.lemmas.List.{append-nil, map-append, reverse-append, length-append}
use Rattle.std.proofs.lemmas.List.Folds.{list_any-append}
use Rattle.number_queue.specs.Passes.{NumberPassView, Offers, refused}
use Rattle.number_queue.specs.declared.number.Number.{Number}
use Rattle.spare_numbers.specs.Spare.{PartsWith, is_on, taken_in}
use Rattle.txn_engine.specs.Pass.{PassView, numbers_of}
use Rattle.connections.specs.Handing.{Gives, number_of, with_put, with_spare}

-- from the pass p and the numbers v these were given so far
pub record Giving (keep : ℕ) (p q : PassView) (v w : NumberPassView) : Type 0 where
  pub gave : List ℕ
  pub spare : p.spare ≡ q.spare ++ reverse gave
  pub only : q ≡ with_spare p q.spare
  pub few : (gave ≡ []) ⊎ (keep ≤ length q.spare)
  pub put : w ≡ with_put v (map (number_of p) gave)

pub none_given : (keep : ℕ) (p : PassView) (v : NumberPassView) → Giving keep p p v v
none_given keep p v = record {
  gave = [];
  spare = sym (append-nil p.spare);
  only = refl;
  few = inl refl;
  put = ap (λ (ns : List Number). record v { put = ns }) (sym (append-nil v.put));
}

-- one more is parted with, which was the last one
module _ (keep : ℕ) (p q q' : PassView) (v w w' : NumberPassView) (rid : ℕ) (so_far : Giving keep p q v w) (more : keep < length q.spare) (parts : PartsWith (numbers_of q) (numbers_of q') (Some rid)) (after' : q' ≡ with_spare q q'.spare) where
  parted : q.spare ≡ q'.spare ++ rid ∷ []
  parted = parts.last

  -- the queue has it
  pub one_given : Offers (number_of p rid) w w' true → Giving keep p q' v w'
  one_given offers = record {
    gave = so_far.gave ++ rid ∷ [];
    spare = so_far.spare ∙ ap (λ (xs : List ℕ). xs ++ reverse so_far.gave) parted ∙ append_assoc q'.spare (rid ∷ []) (reverse so_far.gave) ∙ ap (λ (xs : List ℕ). q'.spare ++ xs) (sym (reverse-append so_far.gave (rid ∷ [])));
    only = after' ∙ ap (λ (x : PassView). with_spare x q'.spare) so_far.only;
    few = inr (let long : length q.spare ≡ length q'.spare + 1 = ap length parted ∙ length-append q'.spare (rid ∷ []) in omega arith);
    put = offers ∙ ap (λ (x : NumberPassView). with_put x (number_of p rid ∷ [])) so_far.put
        ∙ ap (λ (ns : List Number). record v { put = ns }) (append_assoc v.put (map (number_of p) so_far.gave) (number_of p rid ∷ []) ∙ ap (λ (ns : List Number). v.put ++ ns) (sym (map-append (number_of p) so_far.gave (rid ∷ []))));
  }

  -- it was on no list, and is the last one again
  stays_off : (a b : Bool) → (a || b) ≡ false → (a ≡ false) × (b ≡ false)
  stays_off true b is = absurd (let no : ⊥ = cc in no)
  stays_off false b is = (refl, is)

  taken_back : (given spare : List ℕ) → (is_on given rid ≡ false) × (is_on spare rid ≡ false) → taken_in given spare rid ≡ spare ++ rid ∷ []
  taken_back given spare off = rw (off.0, off.1) refl

  pub one_refused : (r : PassView) → r ≡ with_spare q' (taken_in q'.given q'.spare rid) → Offers (number_of p rid) w w' false → Gives keep p r v w'
  one_refused r took offers =
      let off = stays_off (is_on q'.given rid) (is_on q'.spare rid) (sym (list_any-append _ q'.given q'.spare) ∙ parts.gone) in
      let back : taken_in q'.given q'.spare rid ≡ q.spare = taken_back q'.given q'.spare off ∙ sym parted in
      let same : r ≡ q = took ∙ ap (with_spare q') back ∙ ap (λ (x : PassView). with_spare x q.spare) after' in
      subst (λ (x : PassView). Gives keep p x v w') (sym same) (record {
        gave = so_far.gave;
        spare = so_far.spare;
        only = so_far.only;
        few = so_far.few;
        ends = inr (more, offers ∙ ap refused so_far.put);
      })

pub all_given : (keep : ℕ) (p q : PassView) (v w : NumberPassView) → Giving keep p q v w → length q.spare ≤ keep → Gives keep p q v w
all_given keep p q v w so_far few = record {
  gave = so_far.gave;
  spare = so_far.spare;
  only = so_far.only;
  few = so_far.few;
  ends = inl (few, so_far.put);
}
