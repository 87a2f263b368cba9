-- What a view collects, as the rule gives it.
use Rattle.std.proofs.Common.{◌≡◌, ℕ, suc, false, List, [], ◌∷◌, refl, sym, subst, inl, Some}
use Rattle.plain_data.specs.State.{State}
use Rattle.word_layout.specs.Size.{Size}
use Rattle.core_rule.specs.Memory.{Memory, stored}
use Rattle.core_rule.specs.World.{World}
use Rattle.core_rule.specs.View.{View, Stage, freeing, collects}
use Rattle.core_rule.specs.Views.{At, Has}
use Rattle.core_rule.specs.Collecting.{HasLock, HasChain, Locking}
use Rattle.core_rule.specs.Rule.{Rule, status_words, floor_words, lock_words}
use Rattle.core_rule.specs.Parts.Items.{InWork, IsItem}
use Rattle.core_rule.specs.Parts.Chains.{SpellsBehind, ChainOk, IsChain}

module _ (kept : State → Type 0) (z : Size) (g : World) (m : Memory) (vs : List View) (rule : Rule kept z g m vs) (i : ℕ) (u : View) (at : At vs i u) (live : u.spent ≡ false) where
  pub work_of : (r c : ℕ) (stage : Stage) → u.work.item ≡ collects r c stage → InWork z g.lists (floor_words m) (stored m) (status_words m) u.reached u.log r c stage
  work_of r c stage e = subst (IsItem z g.lists (floor_words m) (stored m) (status_words m) u.reached u.log) e (rule.items i u at live).item

  pub chain_of : (r c : ℕ) (stage : Stage) → HasChain stage → u.work.item ≡ collects r c stage → ChainOk z g.owner (stored m).links (stored m).stamps vs u.number u.log r c stage (g.chains u.number)
  chain_of r c stage h e = subst (IsChain z g.owner (stored m).links (stored m).stamps vs u.number u.log (g.chains u.number)) e (rule.chains.each i u at live) h

  pub lock_of : (r c : ℕ) (stage : Stage) → HasLock stage → u.work.item ≡ collects r c stage → lock_words m r ≡ suc u.number
  lock_of r c stage h e = rule.locks.each i u at live r (subst (Locking r) (sym e) (refl, h))

  -- the place whose link was read is the first of what was cut off
  pub left_first : (r c to p : ℕ) → u.work.item ≡ collects r c (freeing to (Some p)) → (xs : List ℕ) → SpellsBehind (stored m).links to p xs → Has p xs
  left_first r c to p e xs h = by_list xs h where
    by_list : (xs : List ℕ) → SpellsBehind (stored m).links to p xs → Has p xs
    by_list [] h = absurd h
    by_list (x ∷ xs) h = inl h.0

  pub left_of : (r c to p : ℕ) → u.work.item ≡ collects r c (freeing to (Some p)) → Has p (g.chains u.number)
  left_of r c to p e = left_first r c to p e (g.chains u.number) (chain_of r c (freeing to (Some p)) tt e).reaches
