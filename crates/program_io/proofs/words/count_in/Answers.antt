use Rattle.std.proofs.Common.{◌∙◌, arith}
use Rattle.std.specs.Str.Parse.{ParsesUnsigned, ExplainsUnsignedError, HasUnsignedDigitsIfOk}
use Rattle.program_io.proofs.WordLaws.{count_read}
use Rattle.program_io.proofs.words.count_in.Goals as goal

pub returns : goal.returns
returns c =
    c.within.ensures
    ∙ count_read c.args.least c.args.most _ (λ bs r. ParsesUnsigned 32 10 bs r × ExplainsUnsignedError 10 bs r × HasUnsignedDigitsIfOk bs r) 32 _ c.get_one.result (omega arith) (omega arith) (λ u x h. h.0)
    c.get_one.ensures.none c.get_one.ensures.value
