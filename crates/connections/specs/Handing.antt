-- How record numbers are handed round: what a connection offers of its spare ones, and what it takes.
use Rattle.std.specs.Prelude.{◌≡◌, ◌⊎◌, ℕ, suc, zero, ◌<◌, ◌≤◌, List, [], ◌∷◌, ◌++◌, Option, None, Some, length, map, reverse}
use Rattle.number_queue.specs.Passes.{NumberPassView, Offers, PutsBack, TakesFor, refused}
use Rattle.number_queue.specs.declared.number.Number.{Number}
use Rattle.spare_numbers.specs.Spare.{taken_in}
use Rattle.stamp_base.specs.Stamp.{stamp_of}
use Rattle.txn_engine.specs.Pass.{PassView}

-- its spare numbers are these
abbrev pub with_spare : PassView → List ℕ → PassView
with_spare p spare = record p { spare = spare }

-- each transaction that used one of its spare numbers had a stamp up to its last one
abbrev pub number_of : PassView → ℕ → Number
number_of p rid = record { rid = rid; since = stamp_of p.clock p.seat }

-- numbers were put into the queue
abbrev pub with_put : NumberPassView → List Number → NumberPassView
with_put v numbers = record v { put = v.put ++ numbers }

-- The last spare numbers are put into the queue, the very last one first, until no more than these are left or the queue refuses one. Each
-- stands there or is spare still, and none is both.
pub record Gives (keep : ℕ) (p q : PassView) (v w : NumberPassView) : Type 0 where
  pub gave : List ℕ
  pub spare : p.spare ≡ q.spare ++ reverse gave
  pub only : q ≡ with_spare p q.spare
  pub few : (gave ≡ []) ⊎ (keep ≤ length q.spare)
  pub ends : ((length q.spare ≤ keep) × (w ≡ with_put v (map (number_of p) gave)))
      ⊎ ((keep < length q.spare) × (w ≡ refused (with_put v (map (number_of p) gave))))

-- a number is spare, where it was not on the list
abbrev pub with_number : PassView → ℕ → PassView
with_number p rid = with_spare p (taken_in p.given p.spare rid)

-- So many numbers at most are taken for a transaction of this stamp, as long as fewer than 12 are spare and none is refused.
abbrev pub TakesIn : (stamp most : ℕ) → (p q : PassView) → (v w : NumberPassView) → Type 0
TakesIn stamp zero p q v w = (q ≡ p) × (w ≡ v)
TakesIn stamp (suc most) p q v w =
    ((12 ≤ length p.spare) × (q ≡ p) × (w ≡ v))
    ⊎ ((length p.spare < 12) × ((TakesFor stamp v w None × (q ≡ p)) ⊎ ((rid : ℕ) × (u : NumberPassView) × TakesFor stamp v u (Some rid) × TakesIn stamp most (with_number p rid) q u w)))

-- a call that takes numbers first, for the transaction that is open, and one that puts back what is above 32 when it is done
pub record TakesFirst (Does : PassView → PassView → Type 0) (p q : PassView) (v w : NumberPassView) : Type 0 where
  pub ready : PassView
  pub takes : TakesIn p.stamp 12 p ready v w
  pub does : Does ready q

pub record ThenGives (Does : PassView → PassView → Type 0) (p q : PassView) (v w : NumberPassView) : Type 0 where
  pub ran : PassView
  pub does : Does p ran
  pub gives : Gives 32 ran q v w

-- all numbers are put into the queue, and the one that waits
pub record GivesAll (p q : PassView) (v w : NumberPassView) : Type 0 where
  pub between : NumberPassView
  pub gives : Gives 0 p q v between
  pub back : PutsBack between w
