-- Head lines: how each is spelled.
use Rattle.std.specs.Prelude.{◌≡◌, ℕ, ◌^◌, ◌<◌, ◌++◌, List, codes, decimal}
use Rattle.replay_model.specs.Report.{cause_text}
use Rattle.report_check.specs.declared.head.Head.{Head}
use Rattle.report_check.specs.declared.head.Said.{Said}
use Rattle.report_check.specs.declared.head.Said.TheVariants.{Ran, Snap, Refused}

-- what stands behind the block's lane and number
abbrev pub said_text : Said → List ℕ
said_text Ran = codes "ok"
said_text Snap = codes "snap"
said_text (Refused command cause) = codes "no " ++ decimal command ++ codes " " ++ cause_text cause

-- a head line without its line feed
abbrev pub text : Head → List ℕ
text head = decimal head.stamp ++ codes " " ++ decimal head.lane ++ codes "." ++ decimal head.number ++ codes " " ++ said_text head.said

-- the command's number has 32 bits
abbrev pub IsSaid : Said → Type 0
IsSaid Ran = Unit {0}
IsSaid Snap = Unit {0}
IsSaid (Refused command cause) = command < 2 ^ 32

-- a stamp has 64 bits; a lane, a number and a command have 32
pub record IsHead (head : Head) : Type 0 where
  pub stamp : head.stamp < 2 ^ 64
  pub lane : head.lane < 2 ^ 32
  pub number : head.number < 2 ^ 32
  pub said : IsSaid head.said

-- a line is this head line
abbrev pub Spells : Head → List ℕ → Type 0
Spells head line = IsHead head × (line ≡ text head)
