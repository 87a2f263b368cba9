-- A text of which a part is written.
use Rattle.std.specs.Prelude.{◌≡◌, ℕ, ◌<◌, List, ◌++◌, length, Option}
use Rattle.std.specs.Io.KnownBytes.{append_known}

-- of a text `sent` was written, and `rest` was not
pub record IsWrittenInPart (text : List ℕ) (before after : Option (List ℕ)) : Type 0 where
  pub sent : List ℕ
  pub rest : List ℕ
  pub text_is : text ≡ sent ++ rest
  pub unfinished : 0 < length rest
  pub written : after ≡ append_known before sent
