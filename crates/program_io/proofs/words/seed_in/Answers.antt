use Rattle.std.specs.Str.Parse.{ParsesUnsigned, ExplainsUnsignedError, HasUnsignedDigitsIfOk}
use Rattle.program_io.proofs.WordLaws.{seed_read}
use Rattle.program_io.proofs.words.seed_in.Goals as goal

pub returns : goal.returns
returns c =
    seed_read _ (λ bs r. ParsesUnsigned 64 10 bs r × ExplainsUnsignedError 10 bs r × HasUnsignedDigitsIfOk bs r) _ c.get_one.result (λ u x h. h.0)
    c.get_one.ensures.none c.get_one.ensures.value
