-- History: all logs together obey the write before, commit stamps differ, and each commit entry fits.
use Rattle.std.specs.Prelude.{◌≡◌, ℕ, false, List}
use Rattle.plain_data.specs.State.{State, IsEntry}
use Rattle.word_layout.specs.Size.{Size}
use Rattle.core_rule.specs.View.{View, Read, Logged}
use Rattle.core_rule.specs.Views.{At, Each, Among}
use Rattle.core_rule.specs.Deciding.{entry_of, IsFitting}
use Rattle.core_rule.specs.Entries.{InLog, WriteBefore, AllDiffer, Across}

pub record History (kept : State → Type 0) (z : Size) (vs : List View) : Type 0 where
  pub proper : (e : Logged) → InLog vs e → IsEntry z.records (entry_of e)
  pub before : (e : Logged) → InLog vs e → (d : Read) → Among d e.reads → WriteBefore vs e d
  pub apart : Each (λ v. AllDiffer v.log) vs
  pub across : (i j : ℕ) (v u : View) → At vs i v → At vs j u → v.spent ≡ false → u.spent ≡ false → (i ≡ j → ⊥) → Across v u
  pub fitting : (e : Logged) → InLog vs e → e.snapshot ≡ false → IsFitting kept z.records e
