-- What a read claims of the list that it was read in, from the raise of the read stamp on, and in the entry for good.
use Rattle.std.specs.Prelude.{◌≡◌, ℕ, min, false}
use Rattle.core_rule.specs.View.{View, writing, Read, Aim, again, Stand, Search, stands, Work, Logged}
use Rattle.core_rule.specs.Views.{Among}

-- a transaction of this stamp has read this version; its second search has passed each version above the position
pub record Claim : Type 0 where
  pub stamp : ℕ
  pub record_number : ℕ
  pub version : ℕ
  pub position : ℕ

abbrev pub claim : (stamp : ℕ) → Read → (position : ℕ) → Claim
claim t d x = record { stamp = t; record_number = d.record_number; version = d.version; position = x }

-- P of the read that is searched again. The position is read from the words: a load of a link finds a place, not its stamp
abbrev pub AimClaims : (ℕ → ℕ) → (Claim → Type 0) → ℕ → Stand → Aim → Type 0
AimClaims stamps P t s (again d) = P (claim t d (min t (stamps s.place)))
AimClaims stamps P t s _ = Unit {0}

abbrev pub SearchClaims : (ℕ → ℕ) → (Claim → Type 0) → ℕ → Search → Type 0
SearchClaims stamps P t (stands s look) = AimClaims stamps P t s s.aim
SearchClaims stamps P t _ = Unit {0}

-- P of each claim that a transaction makes
pub record TxnClaims (stamps : ℕ → ℕ) (P : Claim → Type 0) (t : ℕ) (w : Work) : Type 0 where
  pub raised : (d : Read) → Among d w.raised → P (claim t d t)
  pub searched : SearchClaims stamps P t w.search
  pub finished : (d : Read) → Among d w.finished → P (claim t d d.version)

-- and of each read of a commit entry
pub record Claims (stamps : ℕ → ℕ) (P : Claim → Type 0) (v : View) : Type 0 where
  pub in_flight : (t : ℕ) → v.flight ≡ writing t → TxnClaims stamps P t v.work
  pub entered : (e : Logged) → Among e v.log → e.snapshot ≡ false → (d : Read) → Among d e.reads → P (claim e.stamp d d.version)
