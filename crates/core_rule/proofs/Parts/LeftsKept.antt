-- Lefts: what was cut off falls by stamp below the version, so it is no more than the version's stamp; freeing takes one away.
use Rattle.std.proofs.Common.{◌≡◌, ℕ, ◌-◌, ◌<◌, ◌≤◌, true, false, Bool, cond, eqb, List, [], ◌∷◌, length, set, refl, sym, subst, arith, inl}
use Rattle.std.specs.Prelude.{nat_le}
use Rattle.plain_data.specs.State.{State}
use Rattle.word_layout.specs.Size.{Size}
use Rattle.core_rule.specs.Memory.{Memory, stored}
use Rattle.core_rule.specs.World.{World, at_number, from_behind, all_but_first}
use Rattle.core_rule.specs.View.{View, locked, above_floor, passes, found, no_item, collects}
use Rattle.core_rule.specs.Views.{Has}
use Rattle.core_rule.specs.Collecting.{HasChain, Frees}
use Rattle.core_rule.specs.Kinds.{Kind, take_lock, load_floor, seek_stamp, cut, unlock, follow, free_place, name, after, turned}
use Rattle.word_layout.specs.Name.{floor, wts, lock}
use Rattle.core_rule.specs.Parts.Lists.{Falls}
use Rattle.core_rule.specs.Parts.Lefts.{LeftOk}
use Rattle.core_rule.specs.Parts.Lefts as part
use Rattle.core_rule.proofs.EachView.{Each-set}
use Rattle.core_rule.proofs.Step.{Step, differs, at_number-other, at_number-same}
use Rattle.core_rule.proofs.Tails.{falls_from}
use Rattle.core_rule.proofs.Cutting.{cut_work, tail_low}

-- a list that falls below a number is no longer than it
falls_short : (stamps : ℕ → ℕ) (xs : List ℕ) (b : ℕ) → Falls stamps xs → ((q : ℕ) → Has q xs → stamps q < b) → length xs ≤ b
falls_short stamps [] b f low = omega arith
falls_short stamps (x ∷ xs) b f low = let rest = falls_short stamps xs (stamps x) f.1 f.0 in let l = low x (inl refl) in omega arith

one_less : (xs : List ℕ) (k : ℕ) → length xs ≤ k → length (all_but_first xs) ≤ k - 1
one_less [] k le = omega arith
one_less (x ∷ xs) k le = omega arith

module _ (kept : State → Type 0) (z : Size) (g : World) (m : Memory) (vs : List View) (id : ℕ) (v : View) where
  framed : (k : Kind) → Step kept z g m vs id v k → (w : View) → LeftOk g.chains w → part.Lefts g.chains (set vs id w)
  framed k s w mine = Each-set (LeftOk g.chains) (LeftOk g.chains) vs w id (λ i u ne at live h. h) (λ live. mine) s.rule.lefts

  -- the own chain is another one
  changes : (k : Kind) → Step kept z g m vs id v k → (xs : List ℕ) (w : View) → w.number ≡ v.number → (Frees w.work.item → length xs ≤ w.gone.left) → part.Lefts (at_number g.chains v.number xs) (set vs id w)
  changes k s xs w number mine = Each-set (LeftOk g.chains) (LeftOk (at_number g.chains v.number xs)) vs w id
      (λ i u ne at live h f. subst (λ (ys : List ℕ). length ys ≤ u.gone.left) (sym (at_number-other g.chains v.number u.number xs (differs kept z g m vs id v k s i u ne at live))) (h f))
      (λ live f. subst (λ (n : ℕ). length (at_number g.chains v.number xs n) ≤ w.gone.left) (sym number)
      (subst (λ (ys : List ℕ). length ys ≤ w.gone.left) (sym (at_number-same g.chains v.number xs)) (mine f))) s.rule.lefts

  before : (k : Kind) → Step kept z g m vs id v k → Frees v.work.item → length (g.chains v.number) ≤ v.gone.left
  before k s f = s.rule.lefts id v s.at s.allowed.is_open f

  none_taken : (r c : ℕ) (b : Bool) → Frees (cond b (collects r c locked) no_item) → ⊥
  none_taken r c true f = f
  none_taken r c false f = f

  none_loaded : (b : Bool) → HasChain (cond b above_floor locked) → ⊥
  none_loaded true f = f
  none_loaded false f = f

  none_seen : (p n : ℕ) (b : Bool) → HasChain (cond b (found p) (passes p n)) → ⊥
  none_seen p n true f = f
  none_seen p n false f = f

  pub lefts_kept : (k : Kind) → Step kept z g m vs id v k → part.Lefts (turned k v (m (name k v)) g).chains (set vs id (after k v (m (name k v))))
  lefts_kept (take_lock r c) s = framed _ s _ (λ f. absurd (none_taken r c (eqb (m (lock r)) 0) f))
  lefts_kept (load_floor r c) s = framed _ s _ (λ f. absurd (none_loaded (nat_le (m (floor r)) c) f))
  lefts_kept (seek_stamp r c p u) s = framed _ s _ (λ f. absurd (none_seen p (m (wts p)) (eqb (m (wts p)) c) f))
  lefts_kept (cut r c p) s = changes _ s (from_behind p (g.lists r)) _ refl (λ f. falls_short (stored m).stamps (from_behind p (g.lists r)) c
      (falls_from p (stored m).stamps (g.lists r) (s.rule.lists.each r (cut_work kept z g m vs id v r c p s).on_record).falls) (tail_low kept z g m vs id v r c p s))
  lefts_kept (unlock r c to) s = framed _ s _ (λ f. before _ s (subst Frees (sym s.allowed.can) tt))
  lefts_kept (follow r c to) s = framed _ s _ (λ f. before _ s (subst Frees (sym s.allowed.can.0) tt))
  lefts_kept (free_place r c to p) s = changes _ s (all_but_first (g.chains v.number)) _ refl (λ f. one_less (g.chains v.number) v.gone.left (before _ s (subst Frees (sym s.allowed.can) tt)))
  lefts_kept k s = framed k s _ (λ f. search (before k s))
