-- Which number a conflict names: that of the stamp in the way.
use Rattle.std.specs.Prelude.{ℕ}
use Rattle.validate_core.specs.declared.conflict.Conflict.{Conflict}
use Rattle.validate_core.specs.declared.conflict.Conflict.TheVariants.{Pending, ReadLater, Overtaken}

-- that of the pending version, of the later read, or of the later version
abbrev pub stamp_named : Conflict → ℕ
stamp_named (Pending rid wts) = wts
stamp_named (ReadLater rid wts rts) = rts
stamp_named (Overtaken rid seen now) = now
